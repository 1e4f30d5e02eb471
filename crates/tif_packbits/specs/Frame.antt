-- Frames: packings of rows padded to a fixed length, so that rows of equal length have frames of equal
-- length. The format is plateroom's own: the length of the packing in two bytes, least significant byte
-- first, the packing, and zeros.
use Rattle.std.specs.Prelude.{◌≡◌, ℕ, ◌+◌, ◌-◌, ◌≤◌, List, ◌++◌, length, map, take, drop, replicate}
use Rattle.std.specs.List.{All}
use Rattle.byteorder.specs.Endian.{little_bytes, little_number}
use Rattle.tif_packbits.specs.Packbits.{packing, expansion, packed_bound}

-- the bytes in the frame of a row of n bytes
abbrev pub frame_size : ℕ → ℕ
frame_size n = 2 + packed_bound n

-- the frame of a row
unfoldable pub frame_of : List ℕ → List ℕ
frame_of row =
    (little_bytes 2 (length (packing row)) ++ packing row)
    ++ replicate (packed_bound (length row) - length (packing row)) 0

-- the packed bytes of a frame, whose number is in its first two bytes
unfoldable pub packed_in : List ℕ → List ℕ
packed_in frame = take (little_number 2 frame) (drop 2 frame)

-- the row in a frame
unfoldable pub framed_row : List ℕ → List ℕ
framed_row frame = expansion (packed_in frame)

-- the bytes are the frame of some row of at most 8,192 bytes
pub record IsFrame (bytes : List ℕ) : Type 0 where
  pub row : List ℕ
  pub within : length row ≤ 8192
  pub is : bytes ≡ frame_of row

-- rows of size bytes each, and their frames
pub record AreFrames (size : ℕ) (rows frames : List (List ℕ)) : Type 0 where
  pub small : size ≤ 8192
  pub each : All (λ row. length row ≡ size) rows
  pub are : frames ≡ map frame_of rows

-- rows of equal length with equal frames are equal
abbrev pub TellsItsRow : Type 0
TellsItsRow = (row other : List ℕ) → length row ≡ length other → frame_of row ≡ frame_of other → row ≡ other
