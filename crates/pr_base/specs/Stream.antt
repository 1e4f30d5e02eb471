-- The effect of a call on an operating-system stream, where the stream's contents are known.
use Rattle.std.specs.Prelude.{◌≡◌, ℕ, ◌<◌, List, length, take, Option, MatchOption}
use Rattle.std.specs.Io.KnownBytes.{Keeps, Appends, Consumes, IsAtEnd}

-- a read put these bytes at the start of its buffer (none only at the end, or with an empty buffer), or
-- failed and consumed nothing
abbrev pub ReadsSome : Option (List ℕ) → Option (List ℕ) → Option ℕ → List ℕ → Type 0
ReadsSome old new read into =
    MatchOption read (Keeps old new)
    (λ count. Consumes old new (take count into) × (count ≡ 0 → 0 < length into → IsAtEnd new))

-- a write accepted this many bytes from the start of the piece, or failed and accepted nothing
abbrev pub WritesSome : Option (List ℕ) → Option (List ℕ) → Option ℕ → List ℕ → Type 0
WritesSome old new taken piece =
    MatchOption taken (Keeps old new) (λ count. Appends old new (take count piece))

-- the writer accepted a prefix of these bytes
abbrev pub AppendsFront : Option (List ℕ) → Option (List ℕ) → List ℕ → Type 0
AppendsFront old new bytes = (n : ℕ) × Appends old new (take n bytes)

-- a stream and the number of its failed calls
pub record CountedState (S : Type 0) : Type 0 where
  pub stream : S
  pub faults : ℕ
