-- The definitions evaluated on a small file: 4 by 1 pixels in four inks, least significant byte first.
use Rattle.std.proofs.Common.{◌≡◌, ℕ, false, List, [], ◌∷◌, ◌++◌, Ok, Err, refl}
use Rattle.pr_base.specs.declared.fault.FaultKind.TheVariants.{Samples, Tiled, Width}
use Rattle.tif_dir.specs.Directory.{directory_of, fault_at, field_of, number_at}
use Rattle.tif_image.specs.Fields.{bits_each, full_dot_range, no_tiles, number_among, number_within}
use Rattle.tif_image.specs.declared.usage.Usage.TheVariants.{Contone}
use Rattle.tif_image.specs.Image.{image_fields}

-- an entry with one value: tag, type, count 1, and the value in two bytes
abbrev entry : ℕ → ℕ → ℕ → ℕ → List ℕ
entry low kind count value = low ∷ 1 ∷ kind ∷ 0 ∷ count ∷ 0 ∷ 0 ∷ 0 ∷ value ∷ 0 ∷ 0 ∷ 0 ∷ []

-- eight bytes of header, the entries of 256, 257, 258, 262 and 277, and the four values of 258
abbrev file : ℕ → ℕ → ℕ → List ℕ
file width tag samples =
    (73 ∷ 73 ∷ 42 ∷ 0 ∷ 8 ∷ 0 ∷ 0 ∷ 0 ∷ 6 ∷ 0 ∷ [])
    ++ entry 0 4 1 width ++ entry 1 4 1 1 ++ entry 2 3 4 82 ++ entry 6 3 1 5 ++ entry 21 3 1 samples ++ entry tag 3 1 1
    ++ (8 ∷ 0 ∷ 8 ∷ 0 ∷ 8 ∷ 0 ∷ 8 ∷ 0 ∷ [])

pub taken : image_fields Contone (file 4 3 4)
    ≡ Ok (record { width = 4; length = 1; samples = 4; bits = 8; planar = 1; packed = false; rows_per_strip = 4294967295 })
unfolding image_fields no_tiles number_within number_among bits_each full_dot_range number_at field_of directory_of
taken = refl

pub five_samples : image_fields Contone (file 4 3 5) ≡ Err (fault_at 277 Samples)
unfolding image_fields no_tiles number_within number_among bits_each full_dot_range number_at field_of directory_of
five_samples = refl

-- 325 in place of 259: the test for tiles comes before that of the width
pub tiled : image_fields Contone (file 0 69 4) ≡ Err (fault_at 325 Tiled)
unfolding image_fields no_tiles number_within number_among bits_each full_dot_range number_at field_of directory_of
tiled = refl

pub no_width : image_fields Contone (file 0 3 5) ≡ Err (fault_at 256 Width)
unfolding image_fields no_tiles number_within number_among bits_each full_dot_range number_at field_of directory_of
no_width = refl
