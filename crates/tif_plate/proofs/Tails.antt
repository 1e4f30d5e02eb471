-- The tail of a plate, written part by part.
use Rattle.std.proofs.Common.{◌≡◌, ℕ, ◌+◌, ◌%◌, List, ◌++◌, length, replicate, ◌∙◌, sym, ap, zero-add, arith}
use Rattle.std.proofs.lemmas.List.{length-append, length-replicate}
use Rattle.tif_plate.specs.Plate.{bytes_behind, plate_directory, strip_table, whole}
use Rattle.tif_plate.specs.Put.{Puts}
use Rattle.tif_plate.proofs.Length.{length-directory}
use Rattle.tif_plate.proofs.Puts.{Puts-then}

-- a zero byte if one is needed, the directory, the two resolutions and the table
pub tail-written : (width height dpi end directory first second table : ℕ) (places counts into zeroed listed one two new : List ℕ)
    → Puts 0 (replicate (end % 2) 0) into zeroed → directory ≡ 0 + end % 2
    → Puts directory (plate_directory width height end) zeroed listed → first ≡ directory + 150
    → Puts first (whole dpi) listed one → second ≡ first + 8
    → Puts second (whole dpi) one two → table ≡ second + 8
    → Puts table (strip_table places counts) two new
    → Puts 0 (bytes_behind width height dpi end places counts) into new
unfolding bytes_behind
tail-written width height dpi end directory first second table places counts into zeroed listed one two new p d q f r s t l u =
    let zeros : length (replicate (end % 2) 0) ≡ end % 2 = length-replicate {A = ℕ} (end % 2) 0 in
    let list : length (plate_directory width height end) ≡ 150 = length-directory width height end in
    let front : length (replicate (end % 2) 0 ++ plate_directory width height end) ≡ end % 2 + 150 =
    length-append (replicate (end % 2) 0) (plate_directory width height end) ∙ omega (arith, zeros, list) in
    let whole_front : length ((replicate (end % 2) 0 ++ plate_directory width height end) ++ (whole dpi ++ whole dpi)) ≡ end % 2 + 166 =
    length-append (replicate (end % 2) 0 ++ plate_directory width height end) (whole dpi ++ whole dpi) ∙ omega (arith, front) in
    let behind_list : first ≡ end % 2 + 150 = omega arith in
    let behind_both : table ≡ end % 2 + 166 = omega arith in
    let rows : Puts 0 (replicate (end % 2) 0 ++ plate_directory width height end) into listed =
    Puts-then 0 directory (replicate (end % 2) 0) (plate_directory width height end) into zeroed listed p q (d ∙ ap (λ n. 0 + n) (sym zeros)) in
    let both : Puts first (whole dpi ++ whole dpi) listed two =
    Puts-then first second (whole dpi) (whole dpi) listed one two r t s in
    Puts-then 0 table ((replicate (end % 2) 0 ++ plate_directory width height end) ++ (whole dpi ++ whole dpi)) (strip_table places counts) into two new
    (Puts-then 0 first (replicate (end % 2) 0 ++ plate_directory width height end) (whole dpi ++ whole dpi) into listed two rows both (behind_list ∙ sym front ∙ sym (zero-add (length (replicate (end % 2) 0 ++ plate_directory width height end)))))
    u (behind_both ∙ sym whole_front ∙ sym (zero-add (length ((replicate (end % 2) 0 ++ plate_directory width height end) ++ (whole dpi ++ whole dpi)))))
