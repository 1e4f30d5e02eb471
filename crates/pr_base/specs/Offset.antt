-- A TIFF file whose directory follows its strips.
use Rattle.std.specs.Prelude.{ℕ, List, ◌++◌, take, drop}
use Rattle.byteorder.specs.Endian.{little_bytes}

-- the bytes with bytes 4 to 7 replaced by this offset of the first directory, least significant byte first
-- (TIFF 6.0, Section 2)
abbrev pub with_offset : ℕ → List ℕ → List ℕ
with_offset place bytes = take 4 bytes ++ little_bytes 4 place ++ drop 8 bytes
