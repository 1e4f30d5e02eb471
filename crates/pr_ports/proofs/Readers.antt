-- Bytes that a reader delivered.
use Rattle.std.proofs.Common.{◌≡◌, ℕ, ◌+◌, ◌-◌, ◌<◌, ◌≤◌, List, ◌++◌, length, take, drop, replicate, [], Option, None, Some, IfSome, Result, Ok, Err, IsErrAnd, ap, refl, sym, subst, ◌∙◌, arith, append-nil, append_assoc}
use Rattle.std.specs.Io.KnownBytes.{Consumes, IsAtEnd, Keeps}
use Rattle.std.proofs.Math.Seq.{take-add, take-append_seam}
use Rattle.std.proofs.lemmas.List.{length-append, length-drop, length-replicate, length-take-le}
use Rattle.pr_ports.specs.declared.shelf.LoadFault.{LoadFault}
use Rattle.pr_ports.specs.declared.shelf.LoadFault.TheVariants.{Failed, TooLong, Memory}
use Rattle.pr_ports.specs.Shelf.{GaveAtMost, HasCome, IfTooLong, limit_in}
use Rattle.pr_ports.proofs.Offsets.{consumes_more}

-- a piece read into the space behind existing bytes, once the unused rest of that space is cut off
pub piece_came : (old new : Option (List ℕ)) (before resized into after : List ℕ) (most count : ℕ) → 0 < most
    → resized ≡ before ++ replicate most 0
    → length into ≡ length resized → take (length before) into ≡ take (length before) resized
    → length before + count ≤ length into
    → Consumes old new (take count (drop (length before) into))
    → (count ≡ 0 → 0 < length (drop (length before) into) → IsAtEnd new)
    → after ≡ take (length before + count) into → HasCome old new before after count
piece_came old new before resized into after most count some room long front within given end cut =
    let stands : take (length before) into ≡ before =
    front ∙ ap (take (length before)) room ∙ take-append_seam before (replicate most 0) in
    let behind : length (drop (length before) into) ≡ length into - length before = length-drop (length before) into in
    let whole : length into ≡ length before + most =
    long ∙ ap length room ∙ length-append before (replicate most 0) ∙ ap (λ n. length before + n) (length-replicate most 0) in
    record {
      came = take count (drop (length before) into);
      joined = cut ∙ take-add (length before) count into ∙ ap (λ l. l ++ take count (drop (length before) into)) stands;
      long = length-take-le count (drop (length before) into) (omega arith);
      given = given;
      end = λ none. end none (omega arith);
    }

-- the bytes after are those before and what the reader delivered
abbrev pub IsJoined : Option (List ℕ) → Option (List ℕ) → List ℕ → List ℕ → Type 0
IsJoined old new before after = (given : List ℕ) × Consumes old new given × (after ≡ before ++ given)

consumes_nothing : (old : Option (List ℕ)) → Consumes old old []
consumes_nothing None = tt
consumes_nothing (Some xs) = refl

-- before the first piece
pub joined_nothing : (old : Option (List ℕ)) (before : List ℕ) → IsJoined old old before before
joined_nothing old before = ([], consumes_nothing old, sym (append-nil before))

-- the length of the bytes after a piece
pub come_long : (old new : Option (List ℕ)) (before after : List ℕ) (count : ℕ) → HasCome old new before after count
    → length after ≡ length before + count
come_long old new before after count piece =
    ap length piece.joined ∙ length-append before piece.came ∙ ap (λ n. length before + n) piece.long

-- a piece behind the bytes that were joined before
pub joined_more : (old between new : Option (List ℕ)) (before held after : List ℕ) (count : ℕ)
    → IsJoined old between before held → HasCome between new held after count → IsJoined old new before after
joined_more old between new before held after count one two = (
  one.0 ++ two.came,
  consumes_more old between new one.0 two.came one.1 two.given,
  two.joined ∙ ap (λ l. l ++ two.came) one.2 ∙ append_assoc before one.0 two.came,
)

-- at most the bytes to one beyond the limit were delivered
pub joined_most : (old new : Option (List ℕ)) (before after : List ℕ) (limit : ℕ) → IsJoined old new before after
    → length after ≤ limit + 1 → GaveAtMost (limit + 1 - length before) old new
joined_most old new before after limit joined most =
    let long = ap length joined.2 in
    (joined.0, joined.1, omega (arith, long, most, length-append before joined.0))

consumes_kept : (old between new : Option (List ℕ)) (given : List ℕ) → Consumes old between given → Keeps between new
    → Consumes old new given
consumes_kept None between new given one kept = tt
consumes_kept (Some xs) None new given one kept = absurd one
consumes_kept (Some xs) (Some ys) None given one kept = absurd kept
consumes_kept (Some xs) (Some ys) (Some zs) given one kept = one ∙ ap (λ l. given ++ l) (sym kept)

-- a read that failed delivered nothing
pub joined_kept : (old between new : Option (List ℕ)) (before after : List ℕ) → IsJoined old between before after
    → Keeps between new → IsJoined old new before after
joined_kept old between new before after joined kept =
    (joined.0, consumes_kept old between new joined.0 joined.1 kept, joined.2)

-- at the reader's end the bytes are all
pub joined_whole : (old new : Option (List ℕ)) (before after : List ℕ) → IsJoined old new before after
    → IsAtEnd new → IfSome old (λ left. before ++ left ≡ after)
joined_whole None new before after joined end = tt
joined_whole (Some xs) None before after joined end = absurd joined.1
joined_whole (Some xs) (Some ys) before after joined end =
    ap (λ l. before ++ l) (joined.1 ∙ ap (λ l. joined.0 ++ l) end ∙ append-nil joined.0) ∙ sym joined.2

-- with more bytes than the limit, all are more
pub joined_longer : (old new : Option (List ℕ)) (before after : List ℕ) (limit : ℕ) → IsJoined old new before after
    → limit < length after → IfSome old (λ left. limit < length (before ++ left))
joined_longer None new before after limit joined more = tt
joined_longer (Some xs) None before after limit joined more = absurd joined.1
joined_longer (Some xs) (Some ys) before after limit joined more =
    let all = ap length joined.1 ∙ length-append joined.0 ys in
    let some = ap length joined.2 ∙ length-append before joined.0 in
    omega (arith, all, some, more, length-append before xs)

-- a call that returns a fault without a limit did not return TooLong
pub not_too_long : {T : Type 0} (result : Result T LoadFault) (fault : LoadFault) (P : ℕ → Type 0)
    → IsErrAnd result (λ one. one ≡ fault) → IfSome (limit_in fault) (λ _. ⊥) → IfTooLong result P
not_too_long (Ok value) fault P same short = absurd same
not_too_long (Err Failed) fault P same short = tt
not_too_long (Err (TooLong limit)) fault P same short =
    absurd (subst (λ (one : LoadFault). IfSome (limit_in one) (λ _. ⊥)) (sym same) short)
not_too_long (Err Memory) fault P same short = tt
