-- The field of a tag in a known directory, and the number of a tag whose field is known.
use Rattle.std.proofs.Common.{◌≡◌, ℕ, ◌*◌, ◌<◌, ◌≤◌, List, length, drop, slice_index, Option, Some, None, Ok, Err, ok_or, ap, refl, arith}
use Rattle.std.proofs.lemmas.Bool.Decides.{nat_tests}
use Rattle.pr_base.specs.declared.fault.TagFault.{TagFault}
use Rattle.pr_base.specs.declared.fault.FaultKind.TheVariants.{Missing, FieldCount}
use Rattle.tif_dir.specs.declared.order.Order.{Order}
use Rattle.tif_dir.specs.declared.value_type.ValueType.{ValueType}
use Rattle.tif_dir.specs.Directory.{FirstDirectory, directory_of, entry_of, fault_at, field_from, field_in, field_of, held_bytes, number_at, number_in, number_of, size_of, type_of, values_in}
use Rattle.tif_dir.specs.Table.{default_of}

-- the field of a tag is that of the first entry with the tag
pub field_of-known : (bytes : List ℕ) (tag : ℕ) (dir : FirstDirectory) → directory_of bytes ≡ Ok dir
    → field_of bytes tag ≡ field_in dir.order bytes tag (entry_of dir tag)
unfolding field_of
field_of-known bytes tag dir h = ap (field_from bytes tag) h

-- the field of an entry with a supported type and values within the file
pub field_in-held : (order : Order) (bytes : List ℕ) (tag : ℕ) (found : Option (List ℕ)) (entry : List ℕ) (number count size : ℕ) (kind : ValueType) (held : List ℕ)
    → Some entry ≡ found → number ≡ number_of order 2 (drop 2 entry) → Some kind ≡ type_of number → count ≡ number_of order 4 (drop 4 entry) → size ≡ size_of kind
    → Some held ≡ held_bytes order bytes entry (size * count) → field_in order bytes tag found ≡ Ok (Some (values_in order kind count held))
field_in-held order bytes tag found entry number count size kind held is_found is_number is_kind is_count is_size is_held =
    rw (← is_found, ← is_number, ← is_kind, ← is_count, ← is_size, ← is_held) refl

-- value i of a field with enough values
pub number_at-present : (bytes : List ℕ) (tag i least : ℕ) (values : List ℕ) → field_of bytes tag ≡ Ok (Some values) → least ≤ length values
    → number_at bytes tag i least ≡ Ok (slice_index values i)
unfolding number_at
number_at-present bytes tag i least values h enough = rw h (grind (arith, nat_tests))

-- a field with too few values
pub number_at-short : (bytes : List ℕ) (tag i least : ℕ) (values : List ℕ) → field_of bytes tag ≡ Ok (Some values) → length values < least
    → number_at bytes tag i least ≡ Err (fault_at tag FieldCount)
unfolding number_at
number_at-short bytes tag i least values h few = rw h (grind (arith, nat_tests))

-- an absent field
pub number_at-absent : (bytes : List ℕ) (tag i least : ℕ) → field_of bytes tag ≡ Ok None
    → number_at bytes tag i least ≡ ok_or (default_of tag i) (fault_at tag Missing)
unfolding number_at
number_at-absent bytes tag i least h = ap (number_in tag i least) h

-- an unreadable field
pub number_at-fault : (bytes : List ℕ) (tag i least : ℕ) (fault : TagFault) → field_of bytes tag ≡ Err fault → number_at bytes tag i least ≡ Err fault
unfolding number_at
number_at-fault bytes tag i least fault h = ap (number_in tag i least) h
