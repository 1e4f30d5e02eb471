-- The definitions evaluated on a small file: a directory of one entry, most significant byte first.
use Rattle.std.proofs.Common.{◌≡◌, ℕ, List, [], ◌∷◌, Some, Ok, Err, refl}
use Rattle.pr_base.specs.declared.fault.FaultKind.TheVariants.{Header, Directory, Missing, FieldCount}
use Rattle.tif_dir.specs.Directory.{dir_fault, directory_of, fault_at, field_of, number_at}

-- tag 256, type SHORT, count 1, value 4
abbrev file : List ℕ
file = 77 ∷ 77 ∷ 0 ∷ 42 ∷ 0 ∷ 0 ∷ 0 ∷ 8 ∷ 0 ∷ 1 ∷ 1 ∷ 0 ∷ 0 ∷ 3 ∷ 0 ∷ 0 ∷ 0 ∷ 1 ∷ 0 ∷ 4 ∷ 0 ∷ 0 ∷ []

pub empty_file : dir_fault [] ≡ Some (fault_at 0 Header)
unfolding directory_of
empty_file = refl

pub header_alone : dir_fault (77 ∷ 77 ∷ 0 ∷ 42 ∷ 0 ∷ 0 ∷ 0 ∷ 8 ∷ []) ≡ Some (fault_at 0 Directory)
unfolding directory_of
header_alone = refl

pub short_value : field_of file 256 ≡ Ok (Some (4 ∷ []))
unfolding field_of directory_of
short_value = refl

pub one_value : number_at file 256 0 1 ≡ Ok 4
unfolding number_at field_of directory_of
one_value = refl

pub two_asked : number_at file 256 0 2 ≡ Err (fault_at 256 FieldCount)
unfolding number_at field_of directory_of
two_asked = refl

pub not_there : number_at file 257 0 1 ≡ Err (fault_at 257 Missing)
unfolding number_at field_of directory_of
not_there = refl

pub dot_range_left_out : number_at file 336 3 4 ≡ Ok 255
unfolding number_at field_of directory_of
dot_range_left_out = refl
