-- What a read at an offset of a file gives.
use Rattle.std.specs.Prelude.{◌≡◌, ℕ, ◌<◌, ◌≤◌, List, length, take, drop, Option, IfSome}

-- where the file's bytes are known, the first count bytes of into are those of the file from the offset on
abbrev pub HasFront : Option (List ℕ) → ℕ → List ℕ → ℕ → Type 0
HasFront whole offset into count = IfSome whole (λ all. take count into ≡ take count (drop offset all))

-- the same of one read: none only at the end of the file, or into an empty buffer
abbrev pub IsReadAt : Option (List ℕ) → ℕ → List ℕ → ℕ → Type 0
IsReadAt whole offset into count =
    HasFront whole offset into count
    × IfSome whole (λ all. count ≡ 0 → 0 < length into → length all ≤ offset)

-- a share of a file's bytes, from the offset on: the first count of bytes are the file's
pub record IsShare (whole : Option (List ℕ)) (offset : ℕ) (bytes : List ℕ) (count : ℕ) : Type 0 where
  pub within : count ≤ length bytes
  pub front : HasFront whole offset bytes count
