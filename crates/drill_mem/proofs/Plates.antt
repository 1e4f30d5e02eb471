-- The dots of a plate are the 1 bits of the expansion of its packed rows.
use Rattle.std.proofs.Common.{◌≡◌, ℕ, suc, ◌+◌, ◌*◌, List, [], ◌∷◌, ◌++◌, take, length, map, All, sum_by, flat_map, count_ones, refl, ap, sym, ◌∙◌, append_assoc, length-append, add_comm, mul-suc, mul-zero, arith}
use Rattle.std.proofs.Math.Seq.{take-append_seam}
use Rattle.std.proofs.lemmas.List.Sums.{sum_by-append, sum_by-cons}
use Rattle.pr_base.specs.Row.{row_size}
use Rattle.tif_packbits.specs.Packbits.{expansion, packing}
use Rattle.tif_packbits.proofs.Packing.{expansion-packing}
use Rattle.tif_plate.specs.Plate.{bytes_behind, plate_file, rows_end, strip_counts, strip_starts}
use Rattle.drill_mem.specs.Dots.{HasSides, all_dots, file_dots, plate_dots, row_dots}

-- rows concatenated
abbrev joined : List (List ℕ) → List ℕ
joined [] = []
joined (row ∷ rows) = row ++ joined rows

-- the expansion of packed rows
expands : (rows : List (List ℕ)) (more : List ℕ) → expansion (flat_map packing rows ++ more) ≡ joined rows ++ expansion more
expands [] more = refl
expands (row ∷ rows) more =
    ap expansion (append_assoc (packing row) (flat_map packing rows) more)
    ∙ expansion-packing row (flat_map packing rows ++ more)
    ∙ ap (λ l. row ++ l) (expands rows more)
    ∙ sym (append_assoc row (joined rows) (expansion more))

joined-dots : (rows : List (List ℕ)) → row_dots (joined rows) ≡ plate_dots rows
joined-dots [] = refl
joined-dots (row ∷ rows) =
    sum_by-append count_ones row (joined rows) ∙ ap (λ n. row_dots row + n) (joined-dots rows)
    ∙ sym (sum_by-cons row_dots row rows)

joined-length : (size : ℕ) (rows : List (List ℕ)) → All (λ row. length row ≡ size) rows
    → length (joined rows) ≡ size * length rows
joined-length size [] all = sym (mul-zero size)
joined-length size (row ∷ rows) all =
    let first : length row ≡ size = all 0 [] (omega arith) in
    let rest : length (joined rows) ≡ size * length rows = joined-length size rows (λ k d less. all (suc k) d (omega (arith, less))) in
    length-append row (joined rows) ∙ ap (λ n. n + length (joined rows)) first ∙ ap (λ n. size + n) rest
    ∙ add_comm size (size * length rows) ∙ sym (mul-suc size (length rows))

-- the dots of one file
one_plate : (width dpi height : ℕ) (rows : List (List ℕ)) → HasSides width height rows
    → file_dots (row_size width * height) (plate_file width dpi rows) ≡ plate_dots rows
unfolding plate_file
one_plate width dpi height rows sides =
    let behind = bytes_behind width (length rows) dpi (rows_end rows) (strip_starts width rows) (strip_counts width rows) in
    let long : length (joined rows) ≡ row_size width * height =
    joined-length (row_size width) rows sides.sizes ∙ ap (λ n. row_size width * n) sides.count in
    ap (λ l. row_dots (take (row_size width * height) l)) (expands rows behind)
    ∙ ap (λ n. row_dots (take n (joined rows ++ expansion behind))) (sym long)
    ∙ ap row_dots (take-append_seam (joined rows) (expansion behind))
    ∙ joined-dots rows

all_of : (width dpi height : ℕ) (plates : List (List (List ℕ))) → All (HasSides width height) plates
    → sum_by (file_dots (row_size width * height)) (map (plate_file width dpi) plates) ≡ all_dots plates
all_of width dpi height [] sides = refl
all_of width dpi height (rows ∷ plates) sides =
    sum_by-cons (file_dots (row_size width * height)) (plate_file width dpi rows) (map (plate_file width dpi) plates)
    ∙ ap (λ n. n + sum_by (file_dots (row_size width * height)) (map (plate_file width dpi) plates))
    (one_plate width dpi height rows (sides 0 [] (omega arith)))
    ∙ ap (λ n. plate_dots rows + n) (all_of width dpi height plates (λ k d less. sides (suc k) d (omega (arith, less))))
    ∙ sym (sum_by-cons plate_dots rows plates)

-- the dots of all files
pub all_plates : (width dpi height : ℕ) (files : List (List ℕ)) (plates : List (List (List ℕ)))
    → files ≡ map (plate_file width dpi) plates → All (HasSides width height) plates
    → sum_by (file_dots (row_size width * height)) files ≡ all_dots plates
all_plates width dpi height files plates is sides =
    ap (sum_by (file_dots (row_size width * height))) is ∙ all_of width dpi height plates sides
