-- The byte counts of a plate's strips, row by row.
use Rattle.std.proofs.Common.{◌≡◌, ◌≢◌, ℕ, ◌+◌, ◌*◌, ◌/◌, ◌^◌, ◌<◌, ◌≤◌, if◌then◌else◌, List, [], ◌∷◌, ◌++◌, length, sum, get_or, set, replicate, sym, ap, subst, ◌∙◌, ⊎_elim, arith}
use Rattle.std.specs.Prelude.{◌==◌, slice_index}
use Rattle.std.proofs.lemmas.Bool.{cases_eq, cond-true, cond-false, eq-eqb, ne_eqb}
use Rattle.std.proofs.lemmas.List.{length-set, length-replicate}
use Rattle.std.proofs.lemmas.List.Sums.{sum_by-set, get_or-le-sum_by}
use Rattle.std.proofs.lemmas.List.Folds.{sum_by-replicate}
use Rattle.pr_base.specs.Row.{row_size}
use Rattle.tif_packbits.specs.Packbits.{packing, packed_bound}
use Rattle.tif_packbits.proofs.Packing.{packing_bounded}
use Rattle.tif_plate.specs.Plate.{rows_each, strip_count}
use Rattle.tif_plate.specs.Tail.{counts_so_far}
use Rattle.tif_plate.proofs.Growth.{counts_so_far-none, counts_so_far-more, strip-in_plate}
use Rattle.plate_bytes.specs.Strips.{StripState, AreStrips, counted, row_after, with_row, without_rows}

-- the most bytes of a packed row
pub packing-few : (width : ℕ) (row : List ℕ) → width ≤ 65535 → length row ≡ row_size width → length (packing row) ≤ 8256
packing-few width row wide size =
    let P : ℕ → Type 0 = λ n. length (packing row) ≤ packed_bound n in
    let bound : length (packing row) ≤ packed_bound (row_size width) = subst P size (packing_bounded row) in
    omega (arith, wide)

-- the counts including a row, whose strip is one of the plate's
pub sum-counted : (y strip bytes : ℕ) (counts : List ℕ) → strip < length counts → sum (counted y strip bytes counts) ≡ (if y == 0 then 0 else sum counts) + bytes
sum-counted y strip bytes counts within =
    ⊎_elim
    (λ (none : y ≡ 0).
    let zeros : List ℕ = replicate (length counts) 0 in
    let inside : strip < length zeros = omega (arith, length-replicate {A = ℕ} (length counts) 0) in
    let all : sum zeros ≡ 0 = sum_by-replicate (λ n. n) (length counts) 0 ∙ omega arith in
    let one = sum_by-set (λ n. n) zeros strip (slice_index zeros strip + bytes) 0 inside in
    ap (λ list. sum (set list strip (slice_index list strip + bytes))) (cond-true (y == 0) zeros counts (eq-eqb y 0 none))
    ∙ omega (arith, one)
    ∙ ap (λ n. n + bytes) (sym (cond-true (y == 0) 0 (sum counts) (eq-eqb y 0 none))))
    (λ (some : y ≢ 0).
    let one = sum_by-set (λ n. n) counts strip (slice_index counts strip + bytes) 0 within in
    ap (λ list. sum (set list strip (slice_index list strip + bytes))) (cond-false (y == 0) (replicate (length counts) 0) counts (ne_eqb y 0 some))
    ∙ omega (arith, one)
    ∙ ap (λ n. n + bytes) (sym (cond-false (y == 0) 0 (sum counts) (ne_eqb y 0 some))))
    (cases_eq y 0)

pub length-counted : (y strip bytes : ℕ) (counts : List ℕ) → length (counted y strip bytes counts) ≡ length counts
length-counted y strip bytes counts =
    ⊎_elim
    (λ (none : y ≡ 0).
    ap (λ list. length (set list strip (slice_index list strip + bytes))) (cond-true (y == 0) (replicate (length counts) 0) counts (eq-eqb y 0 none))
    ∙ length-set (replicate (length counts) 0) strip (slice_index (replicate (length counts) 0) strip + bytes) ∙ length-replicate (length counts) 0)
    (λ (some : y ≢ 0).
    ap (λ list. length (set list strip (slice_index list strip + bytes))) (cond-false (y == 0) (replicate (length counts) 0) counts (ne_eqb y 0 some))
    ∙ length-set counts strip (slice_index counts strip + bytes))
    (cases_eq y 0)

-- the counts are those of the rows so far and the row; before the first row they are of no matter
pub counted-row : (width height y : ℕ) (rows : List (List ℕ)) (row counts : List ℕ) → length rows ≡ y → y < height → length counts ≡ strip_count width height
    → (y ≢ 0 → counts ≡ counts_so_far width height rows)
    → counted y (y / rows_each width) (length (packing row)) counts ≡ counts_so_far width height (rows ++ row ∷ [])
counted-row width height y rows row counts len below size known =
    ap (λ list. set list (y / rows_each width) (get_or list (y / rows_each width) 0 + length (packing row))) base-is
    ∙ ap (λ i. set so_far (i / rows_each width) (get_or so_far (i / rows_each width) 0 + length (packing row))) (sym len)
    ∙ sym (counts_so_far-more width height rows row (omega arith)) where
      so_far : List ℕ
      so_far = counts_so_far width height rows

      no-rows : (rows : List (List ℕ)) → length rows ≡ 0 → replicate (strip_count width height) 0 ≡ counts_so_far width height rows
      no-rows [] none = sym (counts_so_far-none width height)
      no-rows (row ∷ rows) none = absurd (omega arith)

      base-is : (if y == 0 then replicate (length counts) 0 else counts) ≡ so_far
      base-is =
          ⊎_elim
          (λ (none : y ≡ 0).
          cond-true (y == 0) (replicate (length counts) 0) counts (eq-eqb y 0 none)
          ∙ ap (λ m. replicate m 0) size
          ∙ no-rows rows (len ∙ none))
          (λ (some : y ≢ 0). cond-false (y == 0) (replicate (length counts) 0) counts (ne_eqb y 0 some) ∙ known some)
          (cases_eq y 0)

-- a row that isn't the last is followed by the next
pub next-more : (height y : ℕ) → y + 1 < height → row_after height y ≡ y + 1
next-more height y more = cond-false (y + 1 == height) 0 (y + 1) (ne_eqb (y + 1) height (omega arith))

-- the strip of the next row is one of the plate's, and its count fits in 32 bits
pub strip-there : (strips : StripState) → AreStrips strips → strips.next / rows_each strips.sides.width < length strips.counts
strip-there strips are =
    let here : strips.next / rows_each strips.sides.width < strip_count strips.sides.width strips.sides.height = strip-in_plate strips.sides.width strips.sides.height strips.next are.next in
    omega (arith, are.count, here)

pub count-fits : (strips : StripState) (bytes : ℕ) → AreStrips strips → bytes ≤ 8256
    → (if strips.next == 0 then 0 else slice_index strips.counts (strips.next / rows_each strips.sides.width)) + bytes < 2 ^ 32
count-fits strips bytes are few =
    let strip : ℕ = strips.next / rows_each strips.sides.width in
    let one : slice_index strips.counts strip ≤ sum strips.counts = get_or-le-sum_by (λ m. m) strips.counts strip 0 (strip-there strips are) in
    let all : sum strips.counts ≤ strips.sides.height * 8256 = are.all in
    let high : strips.sides.height ≤ 65535 = are.height.1 in
    ⊎_elim
    (λ (none : strips.next ≡ 0).
    let zero' : (if strips.next == 0 then 0 else slice_index strips.counts strip) ≡ 0 = cond-true (strips.next == 0) 0 (slice_index strips.counts strip) (eq-eqb strips.next 0 none) in
    omega (arith, few))
    (λ (some : strips.next ≢ 0).
    let same : (if strips.next == 0 then 0 else slice_index strips.counts strip) ≡ slice_index strips.counts strip = cond-false (strips.next == 0) 0 (slice_index strips.counts strip) (ne_eqb strips.next 0 some) in
    omega (arith, few, one, all))
    (cases_eq strips.next 0)

-- strips with one more row
pub strips-on : (strips : StripState) (bytes : ℕ) → AreStrips strips → bytes ≤ 8256 → AreStrips (with_row bytes strips)
strips-on strips bytes are few = record {
  width = are.width;
  height = are.height;
  dpi = are.dpi;
  next = ⊎_elim
      (λ (last : strips.next + 1 ≡ strips.sides.height). let none : after ≡ 0 = at-last last in omega (arith, none, are.next))
      (λ (open' : strips.next + 1 ≢ strips.sides.height). let more : after ≡ strips.next + 1 = at-other open' in omega (arith, more, are.next))
      (cases_eq (strips.next + 1) strips.sides.height);
  count = length-counted strips.next strip bytes strips.counts ∙ are.count;
  room = are.room;
  all = omega (arith, most, are.next);
  begun = λ some. ⊎_elim
      (λ (last : strips.next + 1 ≡ strips.sides.height). absurd (let none : after ≡ 0 = at-last last in omega arith))
      (λ (open' : strips.next + 1 ≢ strips.sides.height). let more : after ≡ strips.next + 1 = at-other open' in
      let P : ℕ → Type 0 = λ n. sum counts ≤ n * 8256 in subst P (sym more) most)
      (cases_eq (strips.next + 1) strips.sides.height);
} where
  strip : ℕ
  strip = strips.next / rows_each strips.sides.width

  counts : List ℕ
  counts = counted strips.next strip bytes strips.counts

  after : ℕ
  after = row_after strips.sides.height strips.next

  at-last : strips.next + 1 ≡ strips.sides.height → after ≡ 0
  at-last last = cond-true (strips.next + 1 == strips.sides.height) 0 (strips.next + 1) (eq-eqb (strips.next + 1) strips.sides.height last)

  at-other : strips.next + 1 ≢ strips.sides.height → after ≡ strips.next + 1
  at-other open' = cond-false (strips.next + 1 == strips.sides.height) 0 (strips.next + 1) (ne_eqb (strips.next + 1) strips.sides.height open')

  before : (if strips.next == 0 then 0 else sum strips.counts) ≤ strips.next * 8256
  before =
      ⊎_elim
      (λ (none : strips.next ≡ 0). let zero' : (if strips.next == 0 then 0 else sum strips.counts) ≡ 0 = cond-true (strips.next == 0) 0 (sum strips.counts) (eq-eqb strips.next 0 none) in omega arith)
      (λ (some : strips.next ≢ 0).
      let all : (if strips.next == 0 then 0 else sum strips.counts) ≡ sum strips.counts = cond-false (strips.next == 0) 0 (sum strips.counts) (ne_eqb strips.next 0 some) in
      let begun : sum strips.counts ≤ strips.next * 8256 = are.begun (omega arith) in
      omega (arith, all, begun))
      (cases_eq strips.next 0)

  most : sum counts ≤ (strips.next + 1) * 8256
  most = (let total : sum counts ≡ (if strips.next == 0 then 0 else sum strips.counts) + bytes = sum-counted strips.next strip bytes strips.counts (strip-there strips are) in omega (arith, total, before, few))

-- strips whose rows were removed
pub strips-without : (strips : StripState) → AreStrips strips → AreStrips (without_rows strips)
strips-without strips are =
    let none : sum (replicate (length strips.counts) 0) ≡ 0 = sum_by-replicate (λ n. n) (length strips.counts) 0 ∙ omega arith in
    record {
      width = are.width;
      height = are.height;
      dpi = are.dpi;
      next = omega (arith, are.next);
      count = length-replicate {A = ℕ} (length strips.counts) 0 ∙ are.count;
      room = are.room;
      all = omega (arith, none);
      begun = λ some. omega (arith, none);
    }
