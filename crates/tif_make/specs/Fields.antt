-- A TIFF file made of fields (TIFF 6.0, Section 2): the header, one directory directly after it, then the
-- values that do not fit in an entry. The order of these parts is this crate's choice; others are valid too.
use Rattle.std.specs.Prelude.{ℕ, ◌+◌, ◌-◌, ◌*◌, ◌≤◌, nat_le, if◌then◌else◌, List, [], ◌∷◌, ◌++◌, length}
use Rattle.std.specs.Prelude.{replicate}
use Rattle.std.specs.List.{All, flat_map}
use Rattle.tif_dir.specs.declared.order.Order.{Order}
use Rattle.tif_dir.specs.Directory.{bytes_of, mark_of}
use Rattle.tif_make.specs.declared.field.Field.{Field}
use Rattle.tif_make.specs.declared.field.Values.{Values}
use Rattle.tif_make.specs.declared.field.Values.TheVariants.{Short, Shorts, Long, Longs}

-- ---- a field

-- a tag, the number of a type, the size of a value in bytes, and the values
pub record FieldData : Type 0 where
  pub tag : ℕ
  pub kind : ℕ
  pub size : ℕ
  pub values : List ℕ

-- a field of 16-bit numbers ("Types": 3 SHORT), and a field of 32-bit numbers (4 LONG)
abbrev pub shorts : ℕ → List ℕ → FieldData
shorts tag values = record { tag = tag; kind = 3; size = 2; values = values }

abbrev pub longs : ℕ → List ℕ → FieldData
longs tag values = record { tag = tag; kind = 4; size = 4; values = values }

-- the data of a field as the code represents it
abbrev pub data_of_values : ℕ → Values → FieldData
data_of_values tag (Short n) = shorts tag (n ∷ [])
data_of_values tag (Shorts ns) = shorts tag ns.now
data_of_values tag (Long n) = longs tag (n ∷ [])
data_of_values tag (Longs ns) = longs tag ns.now

abbrev pub data_of : Field → FieldData
data_of field = data_of_values field.tag field.values

-- the size of all values in bytes, and the bytes themselves
abbrev pub total : FieldData → ℕ
total field = field.size * length field.values

abbrev pub value_bytes : Order → FieldData → List ℕ
value_bytes order field = flat_map (bytes_of order field.size) field.values

-- the size and the bytes of values that do not fit in the entry ("Value/Offset": at most 4 bytes do)
abbrev pub outside_size : FieldData → ℕ
outside_size field = if nat_le (total field) 4 then 0 else total field

abbrev pub outside : Order → FieldData → List ℕ
outside order field = if nat_le (total field) 4 then [] else value_bytes order field

-- the outside bytes of all fields
abbrev pub outside_total : List FieldData → ℕ
outside_total [] = 0
outside_total (field ∷ fields) = outside_size field + outside_total fields

-- ---- the directory

-- the last four bytes of an entry: the values, left-justified, or their offset
abbrev pub value_or_place : Order → ℕ → FieldData → List ℕ
value_or_place order place field =
    if nat_le (total field) 4 then value_bytes order field ++ replicate (4 - total field) 0
    else bytes_of order 4 place

-- the entry of a field; place is the offset of its values if they do not fit in it ("Image File Directory")
unfoldable pub entry : Order → ℕ → FieldData → List ℕ
entry order place field =
    ((bytes_of order 2 field.tag ++ bytes_of order 2 field.kind) ++ bytes_of order 4 (length field.values))
    ++ value_or_place order place field

-- the entries of fields whose outside values are contiguous from offset place on
unfoldable pub entries : Order → ℕ → List FieldData → List ℕ
entries order place [] = []
entries order place (field ∷ fields) =
    entry order place field ++ entries order (place + outside_size field) fields

-- the offset of the end of a directory with this many fields: after the header, the number of entries, the
-- entries, and 0 for no next directory
abbrev pub directory_end : ℕ → ℕ
directory_end fields = 14 + 12 * fields

-- the bytes of a file up to the end of its fields' values
unfoldable pub front : Order → List FieldData → List ℕ
front order fields =
    ((mark_of order ++ bytes_of order 2 42) ++ bytes_of order 4 8)
    ++ ((bytes_of order 2 (length fields) ++ entries order (directory_end (length fields)) fields)
    ++ bytes_of order 4 0)
    ++ flat_map (outside order) fields

-- fields that fit in a directory: 16 bits hold their number, 32 bits the number of values and their offsets
pub record AreFields (fields : List FieldData) : Type 0 where
  pub count : length fields ≤ 65535
  pub values : All (λ field. length field.values ≤ 4294967295) fields
  pub places : directory_end (length fields) + outside_total fields ≤ 4294967295
