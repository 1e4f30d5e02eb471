-- No plate is longer than the load limit.
use Rattle.std.proofs.Common.{◌≡◌, ℕ, ◌*◌, ◌<◌, ◌≤◌, List, [], ◌∷◌, ◌++◌, length, ap, ⊎_elim, arith}
use Rattle.std.specs.Prelude.{All, slice_index_or}
use Rattle.std.specs.List.{flat_map, range_with_len}
use Rattle.std.proofs.lemmas.Bool.{cases_lt}
use Rattle.std.proofs.lemmas.List.{length-append, get_or_past}
use Rattle.std.proofs.lemmas.List.FromFn.{length-map-range_with_len}
use Rattle.tif_packbits.specs.Packbits.{packing, packed_bound}
use Rattle.tif_packbits.proofs.Packing.{packing_bounded}
use Rattle.tif_plate.specs.Plate.{rows_each, strip_count, strip_starts, strip_counts, strip_table, header_bytes, directory_offset, rows_end, bytes_behind, plate_file}
use Rattle.tif_plate.proofs.Cuts.{length-strip_counts}
use Rattle.tif_plate.proofs.Length.{length-behind, length-strip_table, strip_table-none}
use Rattle.tif_plate.proofs.Rounding.{rounded_up}
use Rattle.plan_json.specs.Data.{PlanData, plate_width, plate_height}
use Rattle.plan_json.specs.Plan.{IsPlan}
use Rattle.plan_rows.specs.Plates.{PlateOf, plate_rows}
use Rattle.plan_rows.specs.Rows.{row_number}
use Rattle.plate_verify.proofs.Each.{Each, Each-map, Each-range}

length-packings : (rows : List (List ℕ)) → Each (λ row. length row ≤ 8192) rows → length (flat_map packing rows) ≤ length rows * 8256
length-packings [] each = omega arith
length-packings (row ∷ rows) each =
    let rest : length (flat_map packing rows) ≤ length rows * 8256 = length-packings rows each.1 in
    let own : length (packing row) ≤ packed_bound (length row) = packing_bounded row in
    let small : length row ≤ 8192 = each.0 in
    let bound : packed_bound (length row) ≤ 8256 = omega arith in
    omega (arith, length-append (packing row) (flat_map packing rows))

strips-within : (width height : ℕ) → strip_count width height ≤ height
strips-within width height = (let some : 0 < rows_each width = omega arith in grind (arith, rounded_up height (rows_each width) some))

length-places : (width : ℕ) (rows : List (List ℕ)) → length (strip_starts width rows) ≡ strip_count width (length rows)
unfolding strip_starts
length-places width rows = length-map-range_with_len _ 0 (strip_count width (length rows))

length-table : (width : ℕ) (rows : List (List ℕ)) → length (strip_table (strip_starts width rows) (strip_counts width rows)) ≤ 8 * length rows
length-table width rows =
    let counts : length (strip_counts width rows) ≡ strip_count width (length rows) = length-strip_counts width rows in
    ⊎_elim
    (λ (few : length (strip_counts width rows) < 2).
    let none : length (strip_table (strip_starts width rows) (strip_counts width rows)) ≡ 0 = ap length (strip_table-none (strip_starts width rows) (strip_counts width rows) few) in
    omega (arith, none))
    (λ (more : 2 ≤ length (strip_counts width rows)).
    omega (arith, length-strip_table (strip_starts width rows) (strip_counts width rows) more, counts, length-places width rows, strips-within width (length rows)))
    (cases_lt (length (strip_counts width rows)) 2)

-- a plate with at most this many rows
pub plate-within : (width dpi : ℕ) (rows : List (List ℕ)) → length rows ≤ 65535 → Each (λ row. length row ≤ 8192) rows → length (plate_file width dpi rows) ≤ 600000000
unfolding plate_file
plate-within width dpi rows few each =
    let end : ℕ = rows_end rows in
    let front : List ℕ = header_bytes (directory_offset end) in
    let behind : List ℕ = bytes_behind width (length rows) dpi end (strip_starts width rows) (strip_counts width rows) in
    omega (
      arith,
      length-append (front ++ flat_map packing rows) behind,
      length-append front (flat_map packing rows),
      length-packings rows each,
      length-behind width (length rows) dpi end (strip_starts width rows) (strip_counts width rows),
      length-table width rows,
    )

-- a plate of a plan
pub rows-within : (plan : PlanData) (rows : List (List ℕ)) (plate : PlateOf) → IsPlan plan → All (λ row. length row ≤ 8192) rows
    → length (plate_file (plate_width plan) plan.dpi (plate_rows plan rows plate)) ≤ 600000000
rows-within plan rows plate is small =
    let many : length (plate_rows plan rows plate) ≡ plate_height plan = length-map-range_with_len _ 0 (plate_height plan) in
    plate-within (plate_width plan) plan.dpi (plate_rows plan rows plate) (omega (arith, is.height, many))
    (Each-map (λ (row : List ℕ). length row ≤ 8192) (λ y. slice_index_or rows (row_number plate.0 y plate.1) []) (range_with_len 0 (plate_height plan))
    (Each-range (λ y. length (slice_index_or rows (row_number plate.0 y plate.1) []) ≤ 8192) 0 (plate_height plan)
    (λ y _ _. one (row_number plate.0 y plate.1))))
  where
    one : (n : ℕ) → length (slice_index_or rows n []) ≤ 8192
    one n =
        ⊎_elim
        (λ (there : n < length rows). small n [] there)
        (λ (past : length rows ≤ n). (let none : length (slice_index_or rows n []) ≡ 0 = ap length (get_or_past rows n [] past) in omega (arith, none)))
        (cases_lt n (length rows))
