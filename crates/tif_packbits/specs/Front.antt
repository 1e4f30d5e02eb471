-- The first packet of a row, the word of pairs from which it is found, and the state of a row being packed.
use Rattle.std.specs.Prelude.{◌≡◌, ℕ, ◌+◌, ◌^◌, ◌<◌, ◌≤◌, if◌then◌else◌, ◌==◌, List, ◌++◌, length, drop}
use Rattle.std.specs.Prelude.{slice_index}
use Rattle.std.specs.Int.{bit_at}
use Rattle.tif_packbits.specs.Packbits.{run_len, literal_len, packing}
use Rattle.tif_packbits.specs.declared.row_front.Front.{Front}
use Rattle.tif_packbits.specs.declared.row_front.Front.TheVariants.{Run, Literal, Both}

-- the run or the literal of the first packet of a row, or a literal and the run after it
abbrev pub IsFront : List ℕ → Front → Type 0
IsFront row (Run n) = (3 ≤ n) × (n ≡ run_len row)
IsFront row (Literal n) = (run_len row < 3) × (n ≡ literal_len row)
IsFront row (Both n run) = (run_len row < 3) × (n ≡ literal_len row) × (3 ≤ run)
    × (run ≡ run_len (drop n row))

-- a word whose lowest count bits are set where a byte of the row equals the next
pub record HasPairs (row : List ℕ) (count pairs : ℕ) : Type 0 where
  pub word : pairs < 2 ^ count
  pub bits : (k : ℕ) → k < count
      → bit_at pairs k ≡ (if slice_index row k == slice_index row (k + 1) then 1 else 0)

-- packets that represent the first taken bytes of a row
pub record StandFor (bytes row : List ℕ) (taken : ℕ) : Type 0 where
  pub some : 0 < taken
  pub within : taken ≤ length row
  pub whole : packing row ≡ bytes ++ packing (drop taken row)

-- such packets are at the start of a buffer; the rest of the buffer is unchanged
pub record IsWritten (row old new : List ℕ) (taken written : ℕ) : Type 0 where
  pub bytes : List ℕ
  pub stand : StandFor bytes row taken
  pub size : written ≡ length bytes
  pub is : new ≡ bytes ++ drop written old
