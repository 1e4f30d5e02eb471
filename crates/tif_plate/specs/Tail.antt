-- The parts of a plate before and after its packed rows, as functions of the byte counts of its strips.
use Rattle.std.specs.Prelude.{ℕ, ◌+◌, ◌*◌, ◌≤◌, List, length, map, sum, take}
use Rattle.std.specs.List.{range_with_len}
use Rattle.tif_plate.specs.Plate.{strip_count, size_of, directory_offset, bytes_behind, header_bytes}

-- the first eight bytes while the offset of the directory is not yet known
abbrev pub front_bytes : List ℕ
front_bytes = header_bytes 0

-- the strips have at most 4 * 10^9 bytes in all, so every offset in the plate fits in 32 bits
abbrev pub IsPlaceable : List ℕ → Type 0
IsPlaceable counts = sum counts ≤ 4000000000

-- the offset of the end of the strips
abbrev pub strips_end : List ℕ → ℕ
strips_end counts = 8 + sum counts

-- the offset of strip i, which follows the strips before it
abbrev pub begin_of : List ℕ → ℕ → ℕ
begin_of counts i = 8 + sum (take i counts)

-- the offset of each strip
abbrev pub begins : List ℕ → List ℕ
begins counts = map (begin_of counts) (range_with_len 0 (length counts))

-- the offset of the directory
abbrev pub tail_offset : List ℕ → ℕ
tail_offset counts = directory_offset (strips_end counts)

-- all bytes after the rows
abbrev pub tail_bytes : ℕ → ℕ → ℕ → List ℕ → List ℕ
tail_bytes width height dpi counts = bytes_behind width height dpi (strips_end counts) (begins counts) counts

-- the maximum length of those bytes: a zero byte, the directory, the resolutions, the table of strips
abbrev pub tail_room : ℕ → ℕ → ℕ
tail_room width height = 167 + 8 * strip_count width height

-- the byte counts of all strips of a plate while it has only these first rows
unfoldable pub counts_so_far : ℕ → ℕ → List (List ℕ) → List ℕ
counts_so_far width height rows = map (size_of width rows) (range_with_len 0 (strip_count width height))
