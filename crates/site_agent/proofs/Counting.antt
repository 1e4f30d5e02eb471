-- What the counts of a site say about one of its rows, and how the site counts the row.
use Rattle.std.proofs.Common.{◌≡◌, ◌≢◌, ℕ, ◌+◌, ◌-◌, ◌/◌, ◌<◌, ◌≤◌, Bool, false, if◌then◌else◌, List, [], length, sum, get_or, set, Option, Some, None, nat_lt, refl, sym, ap, subst, ◌∙◌, ⊎_elim, arith}
use Rattle.std.specs.Prelude.{◌==◌, is_some, slice_get, slice_index_or, IfSome}
use Rattle.std.specs.Option.{option_map, option_map_or}
use Rattle.std.proofs.lemmas.Bool.{cases_eq, cases_lt, cond-true, cond-false, eq-eqb, ne_eqb, lt-ltb, le-ltb}
use Rattle.std.proofs.lemmas.List.{get_or-map, get_or-set_same, get_or-set_other, length-set}
use Rattle.pr_base.specs.Row.{row_size}
use Rattle.tif_packbits.specs.Packbits.{packing}
use Rattle.tif_packbits.specs.Frame.{packed_in, framed_row, IsFrame}
use Rattle.tif_packbits.proofs.Frames.{packed_in-frame}
use Rattle.tif_plate.specs.Plate.{rows_each, strip_count}
use Rattle.tif_plate.specs.Tail.{strips_end}
use Rattle.tif_plate.proofs.Growth.{strip-in_plate}
use Rattle.plate_bytes.specs.Strips.{StripState, counted, row_after, with_row as with_next_row}
use Rattle.plate_bytes.proofs.Counts.{packing-few, sum-counted, length-counted}
use Rattle.pr_rack.specs.Rack.{Slots}
use Rattle.site_agent.specs.declared.plate.SitePlate.{SitePlate}
use Rattle.site_agent.specs.declared.plate_row.PlateRow.{PlateRow}
use Rattle.site_agent.specs.Job.{SiteJob, sides_of, IsJob, last_in}
use Rattle.site_agent.specs.Given.{given, open_in, open_rows, finished_count, IsRowOf, IsNoRow}
use Rattle.site_agent.specs.Site.{SiteData, IsCounting, IsCounted, IsPlateRow, counts_of}
use Rattle.site_agent.specs.Stands.{AreBegun, AreAsLong, IsAsLong, path_and_length}
use Rattle.site_agent.specs.Tells.{finished_after}
use Rattle.site_agent.proofs.Givens.{given-stays}
use Rattle.site_agent.proofs.Opens.{plate_at, StandsAs, open_in-plate, finished-below, row-last}
use Rattle.site_agent.proofs.Steps.{row-given, row-next, open-before, fresh-before, open-after, last-after, open-other, given-other, finished-last, finished-open, open-none, finished-none}

-- ---- the bytes of a row

pub packed-few : (width : ℕ) (frame : List ℕ) → width ≤ 65535 → IsFrame frame
    → length (framed_row frame) ≡ row_size width → length (packed_in frame) ≤ 8256
packed-few width frame wide framed size =
    let few : length (packing (framed_row frame)) ≤ 8256 = packing-few width (framed_row frame) wide size in
    omega (arith, few, ap length (packed_in-frame frame framed))

-- ---- the next row, which is one of a plate

pub record Turn (job : SiteJob) (n finished : ℕ) (slots : List StripState) (place : PlateRow) (frame : List ℕ)
    (slot' : StripState) : Type 0 where
  pub counting : IsCounting job n finished slots
  pub place' : IsPlateRow job n place
  pub framed : IsFrame frame
  pub size : length (framed_row frame) ≡ row_size job.width
  pub slot : slot' ≡ get_or slots place.slot slot'

abbrev pub strip_of : SiteJob → PlateRow → ℕ
strip_of job place = place.y / rows_each job.width

pub in-rack : (job : SiteJob) (n finished : ℕ) (slots : List StripState) (place : PlateRow)
    → IsCounting job n finished slots → IsPlateRow job n place → (d : SitePlate) → place.slot < 5
in-rack job n finished slots place counting there d =
    let P : ℕ → Type 0 = λ s. s < 5 in subst P (there.slot d) (counting.is.each place.plate d there.row.within).slot

pub slot-within : (job : SiteJob) (n finished : ℕ) (slots : List StripState) (place : PlateRow)
    → IsCounting job n finished slots → IsPlateRow job n place → (d : SitePlate) → place.slot < length slots
slot-within job n finished slots place counting there d =
    let five : length slots ≡ 5 = counting.slots in
    let inside : place.slot < 5 = in-rack job n finished slots place counting there d in omega arith

counted-there : (job : SiteJob) (n finished : ℕ) (slots : List StripState) (place : PlateRow) (frame : List ℕ)
    (slot : StripState) (d : SitePlate) → Turn job n finished slots place frame slot
    → IsCounted job n place.slot slot
counted-there job n finished slots place frame slot d turn =
    let P : StripState → Type 0 = IsCounted job n place.slot in
    subst P (sym turn.slot) (turn.counting.each place.slot slot (in-rack job n finished slots place turn.counting turn.place' d))

pub strip-within : (job : SiteJob) (n finished : ℕ) (slots : List StripState) (place : PlateRow) (frame : List ℕ)
    (slot : StripState) (d : SitePlate) → Turn job n finished slots place frame slot
    → strip_of job place < length slot.counts
strip-within job n finished slots place frame slot d turn =
    let strips : length slot.counts ≡ strip_count job.width job.height = (counted-there job n finished slots place frame slot d turn).strips in
    let inside : strip_of job place < strip_count job.width job.height = strip-in_plate job.width job.height place.y turn.place'.row.below in
    omega arith

rows-there : (job : SiteJob) (n finished : ℕ) (slots : List StripState) (place : PlateRow) (frame : List ℕ)
    (slot : StripState) (d : SitePlate) → Turn job n finished slots place frame slot → slot.next ≡ place.y
rows-there job n finished slots place frame slot d turn =
    (counted-there job n finished slots place frame slot d turn).rows
    ∙ ap (open_rows job n) (sym (turn.place'.slot d))
    ∙ ⊎_elim
    (λ (none : place.y ≡ 0). ap (λ p. option_map_or (λ q. given job.height q n) p 0) (fresh-before job n place.plate place.y d turn.counting.is row none) ∙ sym none)
    (λ (some : place.y ≢ 0).
    ap (λ p. option_map_or (λ q. given job.height q n) p 0) (open-before job n place.plate place.y d turn.counting.is row (omega arith))
    ∙ row-given job n place.plate place.y d turn.counting.is row)
    (cases_eq place.y 0) where
      row : IsRowOf job n place.plate place.y
      row = turn.place'.row

-- the counts including the row
abbrev pub with_row : SiteJob → PlateRow → List ℕ → StripState → List ℕ
with_row job place frame slot = counted place.y (strip_of job place) (length (packed_in frame)) slot.counts

pub sum-with : (job : SiteJob) (n finished : ℕ) (slots : List StripState) (place : PlateRow) (frame : List ℕ)
    (slot : StripState) (d : SitePlate) → Turn job n finished slots place frame slot
    → sum (with_row job place frame slot)
    ≡ (if place.y == 0 then 0 else sum slot.counts) + length (packed_in frame)
sum-with job n finished slots place frame slot d turn = sum-counted place.y (strip_of job place) (length (packed_in frame)) slot.counts (strip-within job n finished slots place frame slot d turn)

-- the strips of the row's slot have counted the row, whatever is in their buffer
pub record HasCounted (job : SiteJob) (place : PlateRow) (frame : List ℕ)
    (slot' next' : StripState) : Type 0 where
  pub sides : next'.sides ≡ sides_of job
  pub next : next'.next ≡ row_after job.height place.y
  pub counts : next'.counts ≡ with_row job place frame slot'

pub has-counted : (job : SiteJob) (n finished : ℕ) (slots : List StripState) (place : PlateRow) (frame : List ℕ)
    (slot first next : StripState) (d : SitePlate) (bytes : ℕ) (room : List ℕ)
    → Turn job n finished slots place frame slot
    → bytes ≡ length (packed_in frame) → first ≡ with_next_row bytes slot
    → next ≡ record first { room = room } → HasCounted job place frame slot next
has-counted job n finished slots place frame slot first next d bytes room turn same counted' on =
    let rows : slot.next ≡ place.y = rows-there job n finished slots place frame slot d turn in
    let sides : slot.sides ≡ sides_of job = (counted-there job n finished slots place frame slot d turn).sides in
    record {
      sides = ap {A = StripState} (λ s. s.sides) on ∙ ap {A = StripState} (λ s. s.sides) counted' ∙ sides;
      next = ap {A = StripState} (λ s. s.next) on ∙ ap {A = StripState} (λ s. s.next) counted' ∙ ap (λ s. row_after s.height slot.next) sides ∙ ap (row_after job.height) rows;
      counts = ap {A = StripState} (λ s. s.counts) on ∙ ap {A = StripState} (λ s. s.counts) counted'
          ∙ ap (λ y. counted y (y / rows_each slot.sides.width) bytes slot.counts) rows
          ∙ ap (λ s. counted place.y (place.y / rows_each s.width) bytes slot.counts) sides
          ∙ ap (λ b. counted place.y (strip_of job place) b slot.counts) same;
    }

pub first-alone : (job : SiteJob) (n finished : ℕ) (slots : List StripState) (place : PlateRow) (frame : List ℕ)
    (slot : StripState) (d : SitePlate) → Turn job n finished slots place frame slot
    → place.y ≡ 0 → sum (with_row job place frame slot) ≡ length (packed_in frame)
first-alone job n finished slots place frame slot d turn none =
    sum-with job n finished slots place frame slot d turn ∙ ap (λ m. m + length (packed_in frame)) (cond-true (place.y == 0) 0 (sum slot.counts) (eq-eqb place.y 0 none)) ∙ omega arith

-- ---- what contracts see of its rack

pub begun-there : (job : SiteJob) (n : ℕ) (place : PlateRow) (begun : List Bool) (d : SitePlate) → IsJob job
    → IsPlateRow job n place → AreBegun job n begun → place.slot < 5
    → slice_get begun place.slot ≡ Some (nat_lt 0 place.y)
begun-there job n place begun d is there are inside =
    are.each place.slot inside
    ∙ ap (λ s. Some (is_some (open_in job n s))) (sym (there.slot d))
    ∙ ⊎_elim
    (λ (none : place.y ≡ 0).
    ap (λ p. Some (is_some p)) (fresh-before job n place.plate place.y d is there.row none) ∙ ap Some (sym (le-ltb 0 place.y (omega arith))))
    (λ (some : place.y ≢ 0).
    ap (λ p. Some (is_some p)) (open-before job n place.plate place.y d is there.row (omega arith)) ∙ ap Some (sym (lt-ltb 0 place.y (omega arith))))
    (cases_eq place.y 0)

pub stands-there : (job : SiteJob) (n finished : ℕ) (slots : List StripState) (place : PlateRow) (frame : List ℕ)
    (slot : StripState) (d : SitePlate) (working : Option Slots) → Turn job n finished slots place frame slot
    → IfSome working (AreAsLong job n (counts_of slots)) → 0 < place.y
    → IfSome working (IsAsLong (plate_at job place.plate d)
    (strips_end (with_row job place frame slot) - length (packed_in frame)))
stands-there job n finished slots place frame slot d None turn are some = tt
stands-there job n finished slots place frame slot d (Some held) turn are some =
    let plate : SitePlate = plate_at job place.plate d in
    let inside : place.slot < 5 = in-rack job n finished slots place turn.counting turn.place' d in
    let here : open_in job n place.slot ≡ Some plate = ap (open_in job n) (sym (turn.place'.slot d)) ∙ open-before job n place.plate place.y d turn.counting.is turn.place'.row some in
    let counts : get_or (counts_of slots) place.slot [] ≡ slot.counts =
    get_or-map (λ s. s.counts) slots place.slot slot [] (slot-within job n finished slots place turn.counting turn.place' d) ∙ ap (λ s. s.counts) (sym turn.slot) in
    let all = sum-with job n finished slots place frame slot d turn in
    let before : (if place.y == 0 then 0 else sum slot.counts) ≡ sum slot.counts = cond-false (place.y == 0) 0 (sum slot.counts) (ne_eqb place.y 0 (omega arith)) in
    let len : 8 + sum slot.counts ≡ strips_end (with_row job place frame slot) - length (packed_in frame) = omega (arith, all) in
    ap (λ s. option_map path_and_length (slice_index_or held s None)) (turn.place'.slot d)
    ∙ are.each place.slot inside
    ∙ ap (option_map (λ p. (p.path, 8 + sum (slice_index_or (counts_of slots) place.slot [])))) here
    ∙ ap (λ list. Some (plate.path, 8 + sum list)) counts
    ∙ ap (λ m. Some (plate.path, m)) len

-- ---- the site's counts after the row

rows-same : (job : SiteJob) (n m slot : ℕ) → open_in job m slot ≡ open_in job n slot
    → ((plate : SitePlate) → open_in job n slot ≡ Some plate → given job.height plate m
    ≡ given job.height plate n)
    → open_rows job n slot ≡ open_rows job m slot
rows-same job n m slot open' same = by_plate (open_in job n slot) refl where
  by_plate : (plate : Option SitePlate) → open_in job n slot ≡ plate
      → open_rows job n slot ≡ open_rows job m slot
  by_plate None there = ap (λ p. option_map_or (λ q. given job.height q n) p 0) there ∙ sym (ap (λ p. option_map_or (λ q. given job.height q m) p 0) (open' ∙ there))
  by_plate (Some plate) there = ap (λ p. option_map_or (λ q. given job.height q n) p 0) there ∙ sym (same plate there) ∙ sym (ap (λ p. option_map_or (λ q. given job.height q m) p 0) (open' ∙ there))

rows-own : (job : SiteJob) (n k y : ℕ) (d : SitePlate) → IsJob job → IsRowOf job n k y
    → row_after job.height y ≡ open_rows job (n + 1) (plate_at job k d).slot
rows-own job n k y d is row =
    let below : y < job.height = row.below in
    ⊎_elim
    (λ (more : y + 1 < job.height).
    cond-false (y + 1 == job.height) 0 (y + 1) (ne_eqb (y + 1) job.height (omega arith))
    ∙ sym (ap (λ p. option_map_or (λ q. given job.height q (n + 1)) p 0) (open-after job n k y d is row more) ∙ row-next job n k y d is row))
    (λ (most : job.height ≤ y + 1).
    cond-true (y + 1 == job.height) 0 (y + 1) (eq-eqb (y + 1) job.height (omega arith))
    ∙ sym (ap (λ p. option_map_or (λ q. given job.height q (n + 1)) p 0) (last-after job n k y d is row (omega arith))))
    (cases_lt (y + 1) job.height)

finished-own : (job : SiteJob) (n k y finished : ℕ) → IsJob job → IsRowOf job n k y
    → finished ≡ finished_count job n → finished_after job.height y finished ≡ finished_count job (n + 1)
finished-own job n k y finished is row same =
    let below : y < job.height = row.below in
    ⊎_elim
    (λ (more : y + 1 < job.height).
    cond-false (y + 1 == job.height) (finished + 1) finished (ne_eqb (y + 1) job.height (omega arith)) ∙ same ∙ sym (finished-open job n k y is row more))
    (λ (most : job.height ≤ y + 1).
    let last : y + 1 ≡ job.height = omega arith in
    cond-true (y + 1 == job.height) (finished + 1) finished (eq-eqb (y + 1) job.height last)
    ∙ ap (λ m. m + 1) (same ∙ (finished-last job n k y is row last).0) ∙ sym ((finished-last job n k y is row last).1))
    (cases_lt (y + 1) job.height)

pub counts-on : (job : SiteJob) (n finished : ℕ) (slots : List StripState) (place : PlateRow) (frame : List ℕ)
    (slot next : StripState) (d : SitePlate) → Turn job n finished slots place frame slot → n < job.total
    → HasCounted job place frame slot next
    → IsCounting job (n + 1) (finished_after job.height place.y finished) (set slots place.slot next)
counts-on job n finished slots place frame slot next d turn within has = record {
  is = turn.counting.is;
  within = omega arith;
  finished = finished-own job n place.plate place.y finished turn.counting.is turn.place'.row turn.counting.finished;
  slots = length-set slots place.slot next ∙ turn.counting.slots;
  each = λ s e less. ⊎_elim
      (λ (same : s ≡ place.slot).
      let Q : ℕ → Type 0 = λ i. IsCounted job (n + 1) i (get_or (set slots place.slot next) i e) in
      let P : StripState → Type 0 = IsCounted job (n + 1) place.slot in
      subst Q (sym same) (subst P (sym (get_or-set_same slots place.slot next e (slot-within job n finished slots place turn.counting turn.place' d))) own))
      (λ (apart : s ≢ place.slot).
      let P : StripState → Type 0 = IsCounted job (n + 1) s in
      subst P (sym (get_or-set_other slots place.slot s next e apart)) (other s e less apart))
      (cases_eq s place.slot);
} where
  own : IsCounted job (n + 1) place.slot next
  own = record {
    sides = has.sides;
    rows = has.next ∙ rows-own job n place.plate place.y d turn.counting.is turn.place'.row ∙ ap (open_rows job (n + 1)) (turn.place'.slot d);
    strips = ap length has.counts ∙ length-counted place.y (strip_of job place) (length (packed_in frame)) slot.counts ∙ (counted-there job n finished slots place frame slot d turn).strips;
  }

  other : (s : ℕ) (e : StripState) → s < 5 → s ≢ place.slot → IsCounted job (n + 1) s (get_or slots s e)
  other s e less apart =
      let before : IsCounted job n s (get_or slots s e) = turn.counting.each s e less in
      let apart' : s ≢ (plate_at job place.plate d).slot = λ same. apart (same ∙ turn.place'.slot d) in
      record {
        rows = before.rows ∙ rows-same job n (n + 1) s (open-other job n place.plate place.y s d turn.counting.is turn.place'.row apart') (λ p open'. given-other job n place.plate place.y s d p turn.counting.is turn.place'.row apart' open');
        strips = before.strips;
        sides = before.sides;
      }

-- a row that belongs to no plate
pub counts-past : (job : SiteJob) (n finished : ℕ) (slots : List StripState) → IsCounting job n finished slots
    → IsNoRow job n → n < job.total → IsCounting job (n + 1) finished slots
counts-past job n finished slots counting row within = record {
  is = counting.is;
  within = omega arith;
  finished = counting.finished ∙ sym (finished-none job n counting.is row);
  slots = counting.slots;
  each = λ s e less.
      let before : IsCounted job n s (get_or slots s e) = counting.each s e less in
      record {
        rows = before.rows ∙ rows-same job n (n + 1) s (open-none job n s row) (λ p open'. stays p s open');
        strips = before.strips;
        sides = before.sides;
      };
} where
  stays : (p : SitePlate) (s : ℕ) → open_in job n s ≡ Some p
      → given job.height p (n + 1) ≡ given job.height p n
  stays p s open' =
      let there : StandsAs job s p = open_in-plate job n s p open' in
      let P : SitePlate → Type 0 = λ q. given job.height q (n + 1) ≡ given job.height q n in
      subst P there.is (given-stays job.height n (plate_at job there.index p) (λ y below. row.none there.index y p there.within below))

-- ---- the counts as contracts see them

pub counts-own : (slots : List StripState) (s : ℕ) (next : StripState) → s < length slots
    → slice_index_or (counts_of (set slots s next)) s [] ≡ next.counts
counts-own slots s next within =
    get_or-map (λ slot. slot.counts) (set slots s next) s next [] (omega (arith, length-set slots s next)) ∙ ap (λ slot. slot.counts) (get_or-set_same slots s next next within)

pub counts-other : (slots : List StripState) (s i : ℕ) (next : StripState) → i < length slots → i ≢ s
    → slice_index_or (counts_of (set slots s next)) i [] ≡ slice_index_or (counts_of slots) i []
counts-other slots s i next within apart =
    get_or-map (λ slot. slot.counts) (set slots s next) i next [] (omega (arith, length-set slots s next))
    ∙ ap (λ slot. slot.counts) (get_or-set_other slots s i next next apart)
    ∙ sym (get_or-map (λ slot. slot.counts) slots i next [] within)

pub counts-at : (slots : List StripState) (s : ℕ) (slot : StripState) → s < length slots
    → slot ≡ get_or slots s slot → slice_index_or (counts_of slots) s [] ≡ slot.counts
counts-at slots s slot within is = get_or-map (λ x. x.counts) slots s slot [] within ∙ ap (λ x. x.counts) (sym is)

-- ---- the site as its contract sees it

-- the default entry for reads of a list of plates
abbrev pub any : SitePlate
any = record { path = []; first = 0; step = 0; slot = 0 }

pub turning : (job : SiteJob) (next finished : ℕ) (slots : List StripState) (ended : Bool) (old : SiteData)
    (place : PlateRow) (frame : List ℕ) (slot : StripState)
    → ◌≡◌ {A = SiteData} (record { job = job; next = next; counts = counts_of slots; ended = ended }) old
    → (ended ≡ false → IsCounting job next finished slots) → old.ended ≡ false
    → IsPlateRow old.job old.next place → IsFrame frame → length (framed_row frame) ≡ row_size old.job.width
    → slot ≡ get_or slots place.slot slot → Turn job next finished slots place frame slot
turning job next finished slots ended old place frame slot view counting going there framed size is =
    let P : SiteData → Type 0 = λ s. IsPlateRow s.job s.next place in
    record {
      counting = counting (ap (λ s. s.ended) view ∙ going);
      place' = subst P (sym view) there;
      framed = framed;
      size = size ∙ ap (λ s. row_size s.job.width) (sym view);
      slot = is;
    }

pub placing : (job : SiteJob) (next : ℕ) (counts : List (List ℕ)) (ended : Bool) (old : SiteData)
    (place : PlateRow)
    → ◌≡◌ {A = SiteData} (record { job = job; next = next; counts = counts; ended = ended }) old
    → IsPlateRow old.job old.next place → IsPlateRow job next place
placing job next counts ended old place view there = let P : SiteData → Type 0 = λ s. IsPlateRow s.job s.next place in subst P (sym view) there

-- if one of the plates has row n, not all plates are finished
pub finished-less : (job : SiteJob) (n finished : ℕ) (slots : List StripState) (place : PlateRow)
    → IsCounting job n finished slots → IsPlateRow job n place → finished < length job.plates
finished-less job n finished slots place counting there =
    let is : finished ≡ finished_count job n = counting.finished in
    let within : place.plate < length job.plates = there.row.within in
    ⊎_elim
    (λ (first : place.plate < finished_count job n).
    absurd (let ended : last_in job.height (plate_at job place.plate any) < n = finished-below job n place.plate any counting.is first in
    let last : n ≤ last_in job.height (plate_at job place.plate any) = row-last job n place.plate place.y any there.row in omega arith))
    (λ (rest : finished_count job n ≤ place.plate). omega arith)
    (cases_lt place.plate (finished_count job n))
