-- The first directory of a TIFF file and the values of its fields (TIFF 6.0, Section 2).
-- A file is a list of bytes.
use Rattle.std.specs.Prelude.{ℕ, ◌+◌, ◌*◌, ◌==◌, nat_lt, nat_le, nat_eq, Bool, true, false, if◌then◌else◌}
use Rattle.std.specs.Prelude.{List, length, take, drop, map, slice_index, slice_range, Option, Some, None}
use Rattle.std.specs.Prelude.{Result, Ok, Err, option_map, option_and_then, ok_or, codes}
use Rattle.std.specs.List.{starts_with, find}
use Rattle.std.specs.Result.{result_err}
use Rattle.std.specs.Simd.{first_chunks}
use Rattle.byteorder.specs.Endian.{little_number, little_bytes, big_number, big_bytes}
use Rattle.pr_base.specs.declared.fault.TagFault.{TagFault}
use Rattle.pr_base.specs.declared.fault.FaultKind.{FaultKind}
use Rattle.pr_base.specs.declared.fault.FaultKind.TheVariants.{Header, Directory, Missing, FieldType}
use Rattle.pr_base.specs.declared.fault.FaultKind.TheVariants.{FieldCount, FieldPlace}
use Rattle.tif_dir.specs.declared.order.Order.{Order}
use Rattle.tif_dir.specs.declared.order.Order.TheVariants.{Little, Big}
use Rattle.tif_dir.specs.declared.value_type.ValueType.{ValueType}
use Rattle.tif_dir.specs.declared.value_type.ValueType.TheVariants.{Byte, Short, Long}
use Rattle.tif_dir.specs.Table.{default_of}

-- a fault of this kind at this tag
abbrev pub fault_at : ℕ → FaultKind → TagFault
fault_at tag kind = record { tag = tag; kind = kind }

-- ---- numbers

-- the byte order given by the first two bytes ("Image File Header", bytes 0-1)
abbrev pub order_of : List ℕ → Option Order
order_of bytes =
    if starts_with nat_eq bytes (codes "II") then Some Little
    else if starts_with nat_eq bytes (codes "MM") then Some Big
    else None

-- the first two bytes of a file in this byte order ("Image File Header", bytes 0-1)
abbrev pub mark_of : Order → List ℕ
mark_of Little = codes "II"
mark_of Big = codes "MM"

-- the number in the first width bytes; II: least significant byte first, MM: most significant byte first
abbrev pub number_of : Order → ℕ → List ℕ → ℕ
number_of Little width bytes = little_number width bytes
number_of Big width bytes = big_number width bytes

-- a number as width bytes
abbrev pub bytes_of : Order → ℕ → ℕ → List ℕ
bytes_of Little width n = little_bytes width n
bytes_of Big width n = big_bytes width n

-- ---- the header and the directory

-- the byte order of a file with a valid header: 8 bytes or more, a known order, 42 ("Image File Header")
abbrev pub header_of : List ℕ → Option Order
header_of bytes =
    option_and_then
    (λ order. if nat_lt (length bytes) 8 then None
    else if number_of order 2 (drop 2 bytes) == 42 then Some order else None)
    (order_of bytes)

-- the offset of the first directory ("Image File Header", bytes 4-7)
abbrev pub directory_offset : Order → List ℕ → ℕ
directory_offset order bytes = number_of order 4 (drop 4 bytes)

-- the number of entries that the directory declares ("Image File Directory")
abbrev pub entry_count : Order → List ℕ → ℕ
entry_count order bytes = number_of order 2 (drop (directory_offset order bytes) bytes)

-- the entries of the first directory, 12 bytes each; none if they or their count extend past the end of the
-- file, or if there are no entries
abbrev pub entries_of : Order → List ℕ → Option (List (List ℕ))
entries_of order bytes =
    let place = directory_offset order bytes in
    let count = entry_count order bytes in
    if nat_lt (length bytes) (place + 2) then None
    else if count == 0 then None
    else if nat_lt (length bytes) (place + 2 + 12 * count) then None
    else Some (first_chunks 12 count (slice_range bytes (place + 2) (place + 2 + 12 * count)))

-- the byte order of a file and the entries of its first directory
pub record FirstDirectory : Type 0 where
  pub order : Order
  pub entries : List (List ℕ)

abbrev pub content_in : List ℕ → Option Order → Result FirstDirectory TagFault
content_in bytes None = Err (fault_at 0 Header)
content_in bytes (Some order) =
    ok_or
    (option_map (λ entries. record { order = order; entries = entries }) (entries_of order bytes))
    (fault_at 0 Directory)

-- the first directory of a file, or the fault of its header or directory
unfoldable pub directory_of : List ℕ → Result FirstDirectory TagFault
directory_of bytes = content_in bytes (header_of bytes)

-- the fault of a file's header or directory, if any
abbrev pub dir_fault : List ℕ → Option TagFault
dir_fault bytes = result_err (directory_of bytes)

-- ---- a field

-- the first entry with the tag
abbrev pub entry_of : FirstDirectory → ℕ → Option (List ℕ)
entry_of dir tag = find (λ entry. number_of dir.order 2 entry == tag) dir.entries

-- the supported types ("Types": 1 BYTE, 3 SHORT, 4 LONG)
abbrev pub type_of : ℕ → Option ValueType
type_of number =
    if number == 1 then Some Byte
    else if number == 3 then Some Short
    else if number == 4 then Some Long
    else None

-- the size of a value in bytes
abbrev pub size_of : ValueType → ℕ
size_of Byte = 1
size_of Short = 2
size_of Long = 4

-- the consecutive values in these bytes
abbrev pub values_in : Order → ValueType → ℕ → List ℕ → List ℕ
values_in order kind count bytes =
    map (number_of order (size_of kind)) (first_chunks (size_of kind) count bytes)

-- the bytes of an entry's values, total bytes in all: up to 4 are in the entry itself, left-justified
-- ("Value/Offset"), more are at the offset; none if they extend past the end of the file
abbrev pub held_bytes : Order → List ℕ → List ℕ → ℕ → Option (List ℕ)
held_bytes order bytes entry total =
    let place = number_of order 4 (drop 8 entry) in
    if nat_le total 4 then Some (take total (drop 8 entry))
    else if nat_le (place + total) (length bytes) then Some (slice_range bytes place (place + total))
    else None

-- the values of an entry, given its type
abbrev pub typed_field : Order → List ℕ → ℕ → List ℕ → Option ValueType → Result (Option (List ℕ)) TagFault
typed_field order bytes tag entry None = Err (fault_at tag FieldType)
typed_field order bytes tag entry (Some kind) =
    let count = number_of order 4 (drop 4 entry) in
    ok_or
    (option_map (λ held. Some (values_in order kind count held))
    (held_bytes order bytes entry (size_of kind * count)))
    (fault_at tag FieldPlace)

-- the values of an entry, if there is one
abbrev pub field_in : Order → List ℕ → ℕ → Option (List ℕ) → Result (Option (List ℕ)) TagFault
field_in order bytes tag None = Ok None
field_in order bytes tag (Some entry) =
    typed_field order bytes tag entry (type_of (number_of order 2 (drop 2 entry)))

abbrev pub field_from : List ℕ → ℕ → Result FirstDirectory TagFault → Result (Option (List ℕ)) TagFault
field_from bytes tag (Err fault) = Err fault
field_from bytes tag (Ok dir) = field_in dir.order bytes tag (entry_of dir tag)

-- the field of a tag in the first directory of a file: all its values, none if absent, or the first fault
unfoldable pub field_of : List ℕ → ℕ → Result (Option (List ℕ)) TagFault
field_of bytes tag = field_from bytes tag (directory_of bytes)

-- whether the first directory has an entry with the tag, of any type and offset; true for any fault
abbrev pub is_present : Result (Option (List ℕ)) TagFault → Bool
is_present (Ok None) = false
is_present (Ok (Some values)) = true
is_present (Err fault) = true

-- ---- a number from the table of fields

abbrev pub number_in : ℕ → ℕ → ℕ → Result (Option (List ℕ)) TagFault → Result ℕ TagFault
number_in tag i least (Err fault) = Err fault
number_in tag i least (Ok None) = ok_or (default_of tag i) (fault_at tag Missing)
number_in tag i least (Ok (Some values)) =
    if nat_lt (length values) least then Err (fault_at tag FieldCount) else Ok (slice_index values i)

-- value i of the field of a tag, or its default if the file has no such field. A field that is present must
-- have `least` values or more.
unfoldable pub number_at : List ℕ → ℕ → ℕ → ℕ → Result ℕ TagFault
number_at bytes tag i least = number_in tag i least (field_of bytes tag)
