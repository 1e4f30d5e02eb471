-- A plate that grows row by row, and its completion.
use Rattle.std.proofs.Common.{◌≡◌, ℕ, ◌+◌, ◌/◌, ◌≤◌, List, [], ◌∷◌, ◌++◌, length, replicate, refl, sym, ap, ◌∙◌, append_assoc, arith}
use Rattle.std.specs.List.{All, flat_map}
use Rattle.std.proofs.lemmas.List.{append-nil, length-append}
use Rattle.std.proofs.lemmas.List.Elements.{All-append, All-cons, All-nil}
use Rattle.std.proofs.lemmas.Grind.{flat_map-append}
use Rattle.pr_base.specs.Offset.{with_offset}
use Rattle.pr_base.specs.Row.{row_size}
use Rattle.tif_packbits.specs.Packbits.{packing}
use Rattle.tif_plate.specs.Plate.{rows_each, strip_count, strip_counts, plate_file}
use Rattle.tif_plate.specs.Tail.{IsPlaceable, counts_so_far, front_bytes, tail_bytes, tail_offset}
use Rattle.tif_plate.proofs.Finish.{finishes}
use Rattle.tif_plate.proofs.Growth.{IsPlaceable-so_far, counts_so_far-all, counts_so_far-none, length-counts_so_far, sum-counts_so_far}
use Rattle.plate_bytes.specs.Made.{PlateState, so_far, whole, HasRows, TakesRow, HasAllRows, IsAlike, IsPlate}
use Rattle.plate_bytes.specs.Places.{row_ends}
use Rattle.plate_bytes.specs.Strips.{counted}
use Rattle.plate_bytes.proofs.Counts.{counted-row}
use Rattle.plate_bytes.proofs.Seams.{length-row_ends, row_ends-more}

-- a plate without rows
pub so_far-none : (plate : PlateState) → plate.bytes ≡ front_bytes → plate.counts ≡ replicate (strip_count plate.width plate.height) 0 → plate.ends ≡ []
    → plate ≡ so_far plate.width plate.height plate.dpi []
unfolding so_far row_ends
so_far-none plate bytes counts ends =
    ap {A = List ℕ} {B = PlateState} (λ l. record plate { bytes = l }) bytes
    ∙ ap {A = List ℕ} {B = PlateState} (λ l. record plate { bytes = front_bytes; counts = l }) (counts ∙ sym (counts_so_far-none plate.width plate.height))
    ∙ ap {A = List ℕ} {B = PlateState} (λ l. record plate { bytes = front_bytes; counts = counts_so_far plate.width plate.height []; ends = l }) ends

-- a plate from its parts
made : (plate : PlateState) (width height dpi : ℕ) (bytes counts ends : List ℕ) → plate.width ≡ width → plate.height ≡ height → plate.dpi ≡ dpi
    → plate.bytes ≡ bytes → plate.counts ≡ counts → plate.ends ≡ ends
    → plate ≡ record { width = width; height = height; dpi = dpi; bytes = bytes; counts = counts; ends = ends }
made plate width height dpi bytes counts ends w h d b c e =
    λ i. record { width = w i; height = h i; dpi = d i; bytes = b i; counts = c i; ends = e i }

-- the plate's parts are those of its rows
pub record HasParts (plate : PlateState) (rows : List (List ℕ)) : Type 0 where
  pub bytes : plate.bytes ≡ front_bytes ++ flat_map packing rows
  pub counts : plate.counts ≡ counts_so_far plate.width plate.height rows
  pub ends : plate.ends ≡ row_ends rows
  pub many : length plate.ends ≡ length rows

pub parts : (plate : PlateState) (rows : List (List ℕ)) → HasRows plate rows → HasParts plate rows
unfolding so_far
parts plate rows has = record {
  bytes = ap {A = PlateState} (λ p. p.bytes) has.is;
  counts = ap {A = PlateState} (λ p. p.counts) has.is;
  ends = ap {A = PlateState} (λ p. p.ends) has.is;
  many = ap {A = PlateState} (λ p. length p.ends) has.is ∙ length-row_ends rows;
}

-- every byte of a plate's rows has an offset that fits in 32 bits
pub bytes-fit : (plate : PlateState) (rows : List (List ℕ)) → IsPlate plate → HasRows plate rows → length rows ≤ plate.height → length plate.bytes ≤ 4000000008
bytes-fit plate rows is has within =
    let p : HasParts plate rows = parts plate rows has in
    let fits : IsPlaceable (counts_so_far plate.width plate.height rows) = IsPlaceable-so_far plate.width plate.height rows is.width is.height within has.each in
    omega (arith, ap length p.bytes, length-append front_bytes (flat_map packing rows), fits, sum-counts_so_far plate.width plate.height rows within)

-- one more row
pub rows-more : (plate : PlateState) (rows : List (List ℕ)) (row packed : List ℕ) → TakesRow plate rows row packed
    → All (λ r. length r ≡ row_size plate.width) (rows ++ row ∷ [])
rows-more plate rows row packed takes =
    All-append (λ (r : List ℕ). length r ≡ row_size plate.width) rows (row ∷ []) takes.has.each
    (All-cons (λ (r : List ℕ). length r ≡ row_size plate.width) row [] takes.size (All-nil (λ (r : List ℕ). length r ≡ row_size plate.width)))

-- the offset of the end of the next row fits in 32 bits
pub end-fits : (plate : PlateState) (rows : List (List ℕ)) (row packed : List ℕ) → IsPlate plate → TakesRow plate rows row packed → length plate.bytes + length packed ≤ 4000000008
end-fits plate rows row packed is takes =
    let p : HasParts plate rows = parts plate rows takes.has in
    let many : length (rows ++ row ∷ []) ≡ length rows + 1 = length-append rows (row ∷ []) in
    let fits : IsPlaceable (counts_so_far plate.width plate.height (rows ++ row ∷ [])) =
    IsPlaceable-so_far plate.width plate.height (rows ++ row ∷ []) is.width is.height (omega (arith, takes.more)) (rows-more plate rows row packed takes) in
    let all : length (flat_map packing (rows ++ row ∷ [])) ≡ length (flat_map packing rows) + length packed =
    ap length (flat_map-append packing rows (row ∷ [])) ∙ length-append (flat_map packing rows) (packing row ++ [])
    ∙ ap (λ l. length (flat_map packing rows) + length l) (append-nil (packing row) ∙ sym takes.is) in
    omega (
      arith,
      ap length p.bytes,
      length-append front_bytes (flat_map packing rows),
      fits,
      all,
      sum-counts_so_far plate.width plate.height (rows ++ row ∷ []) (omega (arith, takes.more)),
    )

-- the plate after one more row
pub so_far-more : (plate new : PlateState) (rows : List (List ℕ)) (row packed : List ℕ) → TakesRow plate rows row packed → IsAlike plate new
    → new.bytes ≡ plate.bytes ++ packed → new.ends ≡ plate.ends ++ length (plate.bytes ++ packed) ∷ []
    → new.counts ≡ counted (length plate.ends) (length plate.ends / rows_each plate.width) (length packed) plate.counts → new ≡ so_far plate.width plate.height plate.dpi (rows ++ row ∷ [])
unfolding so_far
so_far-more plate new rows row packed takes sides bytes ends counts =
    let p : HasParts plate rows = parts plate rows takes.has in
    let joined : front_bytes ++ (flat_map packing rows ++ packing row) ≡ plate.bytes ++ packed =
    sym (append_assoc front_bytes (flat_map packing rows) (packing row)) ∙ ap (λ l. l ++ packing row) (sym p.bytes) ∙ ap (λ l. plate.bytes ++ l) (sym takes.is) in
    let all : flat_map packing (rows ++ row ∷ []) ≡ flat_map packing rows ++ packing row = flat_map-append packing rows (row ∷ []) ∙ ap (λ l. flat_map packing rows ++ l) (append-nil (packing row)) in
    let last : 8 + length (flat_map packing rows ++ packing row) ≡ length (plate.bytes ++ packed) =
    sym (length-append front_bytes (flat_map packing rows ++ packing row)) ∙ ap length joined in
    made new plate.width plate.height plate.dpi (front_bytes ++ flat_map packing (rows ++ row ∷ [])) (counts_so_far plate.width plate.height (rows ++ row ∷ [])) (row_ends (rows ++ row ∷ []))
    sides.width sides.height sides.dpi
    (bytes ∙ sym joined ∙ ap (λ l. front_bytes ++ l) (sym all))
    (counts ∙ ap (λ n. counted n (n / rows_each plate.width) (length packed) plate.counts) p.many
    ∙ ap (λ l. counted (length rows) (length rows / rows_each plate.width) (length l) plate.counts) takes.is
    ∙ counted-row plate.width plate.height (length rows) rows row plate.counts refl takes.more (ap length p.counts ∙ length-counts_so_far plate.width plate.height rows) (λ some. p.counts))
    (ends ∙ ap (λ l. l ++ length (plate.bytes ++ packed) ∷ []) p.ends ∙ ap (λ n. row_ends rows ++ n ∷ []) (sym last) ∙ sym (row_ends-more rows row))

-- the front is there
pub front-there : (plate : PlateState) (rows : List (List ℕ)) → HasRows plate rows → 8 ≤ length plate.bytes
front-there plate rows has = (let p : HasParts plate rows = parts plate rows has in omega (arith, ap length p.bytes, length-append front_bytes (flat_map packing rows)))

-- front, packed rows and tail are the plate file
pub whole-is : (plate new : PlateState) (rows : List (List ℕ)) → HasAllRows plate rows → IsAlike plate new
    → new.bytes ≡ with_offset (tail_offset plate.counts) (plate.bytes ++ tail_bytes plate.width plate.height plate.dpi plate.counts)
    → new.counts ≡ plate.counts → new.ends ≡ plate.ends → new ≡ whole plate.width plate.height plate.dpi rows
unfolding whole
whole-is plate new rows has sides bytes counts ends =
    let p : HasParts plate rows = parts plate rows has.has in
    let counted : plate.counts ≡ strip_counts plate.width rows = p.counts ∙ counts_so_far-all plate.width plate.height rows has.all in
    made new plate.width plate.height plate.dpi (plate_file plate.width plate.dpi rows) (counts_so_far plate.width plate.height rows) (row_ends rows)
    sides.width sides.height sides.dpi
    (bytes ∙ ap (λ l. with_offset (tail_offset l) (plate.bytes ++ tail_bytes plate.width plate.height plate.dpi l)) counted
    ∙ ap (λ l. with_offset (tail_offset (strip_counts plate.width rows)) (l ++ tail_bytes plate.width plate.height plate.dpi (strip_counts plate.width rows))) p.bytes
    ∙ ap (λ n. with_offset (tail_offset (strip_counts plate.width rows)) ((front_bytes ++ flat_map packing rows) ++ tail_bytes plate.width n plate.dpi (strip_counts plate.width rows))) (sym has.all)
    ∙ finishes plate.width plate.dpi rows)
    (counts ∙ p.counts) (ends ∙ p.ends)
