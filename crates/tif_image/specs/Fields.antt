-- Tests of an image's fields, each a function of the whole file: the field's value, or its fault (TIFF 6.0,
-- Sections 8, 15 and 16; the set of accepted values is plateroom's own).
use Rattle.std.specs.Prelude.{ℕ, ◌==◌, ◌%◌, ◌&&◌, ◌||◌, nat_lt, nat_le, Bool, true, false, if◌then◌else◌}
use Rattle.std.specs.Prelude.{List, [], ◌∷◌, length, take, replicate, Option, Some, None, Result, Ok, Err}
use Rattle.std.specs.List.{enumerate_from, find, list_all, list_any}
use Rattle.pr_base.specs.declared.fault.TagFault.{TagFault}
use Rattle.pr_base.specs.declared.fault.FaultKind.{FaultKind}
use Rattle.pr_base.specs.declared.fault.FaultKind.TheVariants.{Bits, DotRange, FieldCount, Tiled}
use Rattle.tif_dir.specs.Directory.{fault_at, field_of, is_present, number_at}
use Rattle.tif_dir.specs.Names.{bits_per_sample, dot_range, tile_byte_counts, tile_length, tile_offsets}
use Rattle.tif_dir.specs.Names.{tile_width}

-- ---- tests in order

-- a test that returns a value, then the tests after it; the result is the first fault
infixl 10 ◌>>=◌
abbrev pub ◌>>=◌ : {A B : Type 0} → Result A TagFault → (A → Result B TagFault) → Result B TagFault
(Ok value) >>= rest = rest value
(Err fault) >>= rest = Err fault

-- the same, if the tests after it do not use the value
infixl 10 ◌>>◌
abbrev pub ◌>>◌ : {A B : Type 0} → Result A TagFault → Result B TagFault → Result B TagFault
(Ok value) >> rest = rest
(Err fault) >> rest = Err fault

-- the condition holds; otherwise the fault
abbrev pub must : Bool → TagFault → Result (Unit {0}) TagFault
must true fault = Ok tt
must false fault = Err fault

-- there is no fault
abbrev pub no_fault : Option TagFault → Result (Unit {0}) TagFault
no_fault None = Ok tt
no_fault (Some fault) = Err fault

-- ---- fields of one value

-- the value of a field, which must be between two bounds
unfoldable pub number_within : List ℕ → ℕ → ℕ → ℕ → FaultKind → Result ℕ TagFault
number_within bytes tag least most kind = do
  value ← number_at bytes tag 0 1
  must (nat_le least value && nat_le value most) (fault_at tag kind)
  Ok value

-- the value of a field, which must be one of the accepted ones
unfoldable pub number_among : List ℕ → ℕ → List ℕ → FaultKind → Result ℕ TagFault
number_among bytes tag accepted kind = do
  value ← number_at bytes tag 0 1
  must (list_any (λ number. number == value) accepted) (fault_at tag kind)
  Ok value

-- ---- tiles

-- the tags of the tile fields, in order (Section 15)
abbrev pub tile_tags : List ℕ
tile_tags = tile_width ∷ tile_length ∷ tile_offsets ∷ tile_byte_counts ∷ []

-- none of these fields is present; the fault names the first that is
abbrev pub no_tile : Option ℕ → Result (Unit {0}) TagFault
no_tile None = Ok tt
no_tile (Some tag) = Err (fault_at tag Tiled)

unfoldable pub no_tiles : List ℕ → Result (Unit {0}) TagFault
no_tiles bytes = no_tile (find (λ tag. is_present (field_of bytes tag)) tile_tags)

-- ---- BitsPerSample

-- the first values of the field, one per sample; 1 for each if the field is absent
abbrev pub first_bits : ℕ → Result (Option (List ℕ)) TagFault → Result (List ℕ) TagFault
first_bits samples (Err fault) = Err fault
first_bits samples (Ok None) = Ok (replicate samples 1)
first_bits samples (Ok (Some values)) =
    if nat_lt (length values) samples then Err (fault_at bits_per_sample FieldCount)
    else Ok (take samples values)

-- all values equal this depth
abbrev pub same_bits : ℕ → Result (List ℕ) TagFault → Result (Unit {0}) TagFault
same_bits depth bits =
    bits >>= λ values. must (list_all (λ bit. bit == depth) values) (fault_at bits_per_sample Bits)

-- each sample has depth bits
unfoldable pub bits_each : List ℕ → ℕ → ℕ → Result (Unit {0}) TagFault
bits_each bytes samples depth = same_bits depth (first_bits samples (field_of bytes bits_per_sample))

-- ---- DotRange

-- value i of the full range: 0 is no ink, 255 is full ink
abbrev pub full_dot : ℕ → ℕ
full_dot i = if i % 2 == 0 then 0 else 255

-- whether a value, given after its index, is that of the full range
abbrev pub is_full_dot : ℕ × ℕ → Bool
is_full_dot dot = dot.1 == full_dot dot.0

abbrev pub is_full_range : List ℕ → Bool
is_full_range values =
    (length values == 2 || length values == 8) && list_all is_full_dot (enumerate_from 0 values)

-- one range for all inks or one for each of four, always 0 to 255
abbrev pub full_range : Result (Option (List ℕ)) TagFault → Result (Unit {0}) TagFault
full_range (Err fault) = Err fault
full_range (Ok None) = Ok tt
full_range (Ok (Some values)) =
    if nat_lt (length values) 2 then Err (fault_at dot_range FieldCount)
    else must (is_full_range values) (fault_at dot_range DotRange)

-- if the file has a dot range, it must be the full one
unfoldable pub full_dot_range : List ℕ → Result (Unit {0}) TagFault
full_dot_range bytes = full_range (field_of bytes dot_range)
