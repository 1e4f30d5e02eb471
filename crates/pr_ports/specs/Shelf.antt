-- What a shelf holds, and what a call of load implies about it.
use Rattle.std.specs.Prelude.{◌≡◌, ℕ, ◌<◌, ◌≤◌, Bool, true, false, if◌then◌else◌, List, ◌++◌, length, Option}
use Rattle.std.specs.Prelude.{None, Some, IfSome, IsSomeAnd, Result, Ok, Err, is_some, nat_eq}
use Rattle.std.specs.Option.{option_map}
use Rattle.std.specs.Map.{lookup}
use Rattle.std.specs.Io.KnownBytes.{Consumes, IsAtEnd}
use Rattle.std.specs.Cmp.Lexicographic.{pointwise}
use Rattle.pr_ports.specs.Difference.{difference_of}
use Rattle.pr_ports.specs.declared.shelf.LoadFault.{LoadFault}
use Rattle.pr_ports.specs.declared.shelf.LoadFault.TheVariants.{Failed, TooLong, Memory}

-- the bytes of the first file with this path
abbrev pub held_at : List (List ℕ × List ℕ) → List ℕ → Option (List ℕ)
held_at files path = lookup (λ name. pointwise nat_eq name path) files

-- where the shelf's files are known, these are the bytes at the path
abbrev pub IsHeldAt : Option (List (List ℕ × List ℕ)) → List ℕ → List ℕ → Type 0
IsHeldAt held path bytes = IfSome held (λ files. held_at files path ≡ Some bytes)

-- where the shelf's files are known, the file at the path has more than limit bytes
abbrev pub IsLongerAt : Option (List (List ℕ × List ℕ)) → List ℕ → ℕ → Type 0
IsLongerAt held path limit =
    IfSome held (λ files. IsSomeAnd (held_at files path) (λ bytes. limit < length bytes))

-- where the shelf's files are known, the file at the path has at most limit bytes, and first differs there
abbrev pub IsComparedAt : Option (List (List ℕ × List ℕ)) → List ℕ → ℕ → List ℕ → Option ℕ → Type 0
IsComparedAt held path limit bytes at =
    IfSome held (λ files. IsSomeAnd (held_at files path)
    (λ file. (length file ≤ limit) × (at ≡ difference_of bytes file)))

-- whether a call with this fault returned Failed
abbrev pub is_failed : LoadFault → Bool
is_failed Failed = true
is_failed (TooLong limit) = false
is_failed Memory = false

-- whether the call returned Failed
abbrev pub has_failed : {T : Type 0} → Result T LoadFault → Bool
has_failed (Ok value) = false
has_failed (Err fault) = is_failed fault

-- the limit of a call with this fault, if it returned TooLong
abbrev pub limit_in : LoadFault → Option ℕ
limit_in Failed = None
limit_in (TooLong limit) = Some limit
limit_in Memory = None

-- whether the call returned TooLong
abbrev pub is_too_long : {T : Type 0} → Result T LoadFault → Bool
is_too_long (Ok value) = false
is_too_long (Err fault) = is_some (limit_in fault)

-- P holds of the limit in a TooLong error; no condition on any other result
abbrev pub IfTooLong : {T : Type 0} → Result T LoadFault → (ℕ → Type 0) → Type 0
IfTooLong (Ok value) P = Unit {0}
IfTooLong (Err fault) P = IfSome (limit_in fault) P

-- the path of the last failed call, after a call at path that failed or did not
abbrev pub missed_after : Bool → List ℕ → Option (Option (List ℕ)) → Option (Option (List ℕ))
missed_after failed path missed = option_map (λ last. if failed then Some path else last) missed

-- the reader delivered at most this many bytes, where its remaining bytes are known
abbrev pub GaveAtMost : ℕ → Option (List ℕ) → Option (List ℕ) → Type 0
GaveAtMost most old new = (given : List ℕ) × Consumes old new given × (length given ≤ most)

-- where the reader's remaining bytes are known, count of them were appended to before; none only at the end
pub record HasCome (old new : Option (List ℕ)) (before after : List ℕ) (count : ℕ) : Type 0 where
  pub came : List ℕ
  pub joined : after ≡ before ++ came
  pub long : length came ≡ count
  pub given : Consumes old new came
  pub end : count ≡ 0 → IsAtEnd new
