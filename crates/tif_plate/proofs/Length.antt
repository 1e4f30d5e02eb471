-- The lengths of the parts of a plate.
use Rattle.std.proofs.Common.{◌≡◌, ℕ, ◌+◌, ◌*◌, ◌%◌, ◌<◌, ◌≤◌, List, [], ◌++◌, length, nat_lt, replicate, refl, ◌∙◌, ap, arith}
use Rattle.std.specs.List.{flat_map}
use Rattle.std.proofs.lemmas.Bool.{cond-true, cond-false, lt-ltb, le-ltb}
use Rattle.std.proofs.lemmas.List.{length-append, length-replicate}
use Rattle.byteorder.specs.Endian.{little_bytes}
use Rattle.tif_plate.specs.Plate.{strip_table, plate_entries, plate_directory, bytes_behind, whole}
use Rattle.tif_plate.proofs.Puts.{length-pieces}

-- one strip has no table
pub strip_table-none : (places counts : List ℕ) → length counts < 2 → strip_table places counts ≡ []
unfolding strip_table
strip_table-none places counts few =
    cond-true (nat_lt (length counts) 2) [] (flat_map (little_bytes 4) places ++ flat_map (little_bytes 4) counts) (lt-ltb (length counts) 2 few)

-- two or more strips have a table
pub strip_table-some : (places counts : List ℕ) → 2 ≤ length counts → strip_table places counts ≡ flat_map (little_bytes 4) places ++ flat_map (little_bytes 4) counts
unfolding strip_table
strip_table-some places counts several =
    cond-false (nat_lt (length counts) 2) [] (flat_map (little_bytes 4) places ++ flat_map (little_bytes 4) counts) (le-ltb (length counts) 2 several)

-- numbers of four bytes each
pub length-numbers : (numbers : List ℕ) → length (flat_map (little_bytes 4) numbers) ≡ 4 * length numbers
length-numbers numbers = length-pieces (little_bytes 4) 4 numbers (λ n. refl)

pub length-strip_table : (places counts : List ℕ) → 2 ≤ length counts → length (strip_table places counts) ≡ 4 * length places + 4 * length counts
length-strip_table places counts several =
    ap length (strip_table-some places counts several)
    ∙ length-append (flat_map (little_bytes 4) places) (flat_map (little_bytes 4) counts)
    ∙ omega (arith, length-numbers places, length-numbers counts)

pub length-directory : (width height end : ℕ) → length (plate_directory width height end) ≡ 150
unfolding plate_directory plate_entries
length-directory width height end = refl

-- all bytes after the rows
pub length-behind : (width height dpi end : ℕ) (places counts : List ℕ) → length (bytes_behind width height dpi end places counts) ≡ end % 2 + 166 + length (strip_table places counts)
unfolding bytes_behind
length-behind width height dpi end places counts =
    length-append ((replicate (end % 2) 0 ++ plate_directory width height end) ++ (whole dpi ++ whole dpi)) (strip_table places counts)
    ∙ omega (
      arith,
      length-append (replicate (end % 2) 0 ++ plate_directory width height end) (whole dpi ++ whole dpi),
      length-append (replicate (end % 2) 0) (plate_directory width height end),
      length-replicate {A = ℕ} (end % 2) 0,
      length-directory width height end,
    )
