-- PackBits (TIFF 6.0, Section 9): the expansion of packed bytes, and the packing of a row.
use Rattle.std.specs.Prelude.{◌≡◌, ℕ, zero, suc, ◌+◌, ◌-◌, ◌/◌, ◌≤◌, min, Bool, false, ◌&&◌, if◌then◌else◌}
use Rattle.std.specs.Prelude.{◌==◌, nat_lt, nat_le, List, [], ◌∷◌, ◌++◌, length, take, drop, replicate}
use Rattle.std.specs.List.{prefix_len}

-- The number of data bytes that follow a header. A header is a signed byte: 0 to 127 begin literals, 128 is
-- -128, and 129 to 255 are -127 to -1.
abbrev pub data_len : ℕ → ℕ
data_len header = if nat_lt header 128 then header + 1 else if header == 128 then 0 else 1

-- the next n bytes, or nothing if fewer follow
abbrev pub copied : ℕ → List ℕ → List ℕ
copied n bytes = if nat_le n (length bytes) then take n bytes else []

-- the next byte n times, or nothing if none follows
abbrev pub repeated : ℕ → List ℕ → List ℕ
repeated n [] = []
repeated n (byte ∷ _) = replicate n byte

-- the expansion of one packet, from its header and the bytes after it
abbrev pub packet_expansion : ℕ → List ℕ → List ℕ
packet_expansion header bytes =
    if nat_lt header 128 then copied (header + 1) bytes
    else if header == 128 then [] else repeated (257 - header) bytes

-- the expansion of at most this many packets
abbrev pub packets_expansion : ℕ → List ℕ → List ℕ
packets_expansion zero bytes = []
packets_expansion (suc packets) [] = []
packets_expansion (suc packets) (header ∷ bytes) =
    packet_expansion header bytes ++ packets_expansion packets (drop (data_len header) bytes)

-- the expansion of packed bytes; each packet has a header, so there are at most as many packets as bytes
unfoldable pub expansion : List ℕ → List ℕ
expansion bytes = packets_expansion (length bytes) bytes

-- the length of the run of equal bytes at the start of a row, at most 128
abbrev pub run_len : List ℕ → ℕ
run_len [] = 0
run_len (byte ∷ row) = min 128 (prefix_len (λ x. x == byte) (byte ∷ row))

-- whether three equal bytes begin here
abbrev pub begins_run : List ℕ → Bool
begins_run (a ∷ b ∷ c ∷ _) = (a == b) && (b == c)
begins_run _ = false

-- the length of the longest prefix of a row with no index at which three equal bytes begin
abbrev pub mixed_len : List ℕ → ℕ
mixed_len [] = 0
mixed_len (byte ∷ row) = if begins_run (byte ∷ row) then 0 else mixed_len row + 1

-- that length, at most 128
abbrev pub literal_len : List ℕ → ℕ
literal_len row = min 128 (mixed_len row)

-- the number of bytes of a row that its first packet represents
abbrev pub first_len : List ℕ → ℕ
first_len row = if nat_le 3 (run_len row) then run_len row else literal_len row

-- The first packet of a row. A run of n bytes, at least three, is the header 1 - n, a signed byte, and the
-- byte; anything else is a literal, its length minus 1 and its bytes.
abbrev pub first_packet : List ℕ → List ℕ
first_packet row =
    if nat_le 3 (run_len row) then (257 - run_len row) ∷ take 1 row
    else (literal_len row - 1) ∷ take (literal_len row) row

-- the first packets of a row, at most this many
abbrev pub packets_packing : ℕ → List ℕ → List ℕ
packets_packing zero row = []
packets_packing (suc packets) [] = []
packets_packing (suc packets) (byte ∷ row) =
    first_packet (byte ∷ row) ++ packets_packing packets (drop (first_len (byte ∷ row)) (byte ∷ row))

-- the packing of a row; each packet represents at least one byte, so there are no more packets than bytes
unfoldable pub packing : List ℕ → List ℕ
packing row = packets_packing (length row) row

-- the maximum length of the packing of n bytes: one header per 128 bytes, rounded up
abbrev pub packed_bound : ℕ → ℕ
packed_bound n = n + (n + 127) / 128

-- expanding a packing gives back the row
abbrev pub ExpandsToItsRow : Type 0
ExpandsToItsRow = (row : List ℕ) → expansion (packing row) ≡ row

-- no packing exceeds the bound
abbrev pub StaysWithinBound : Type 0
StaysWithinBound = (row : List ℕ) → length (packing row) ≤ packed_bound (length row)
