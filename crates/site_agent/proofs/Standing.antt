-- The state of a site and its rack after one more row.
use Rattle.std.proofs.Common.{◌≡◌, ◌≢◌, ℕ, ◌+◌, ◌/◌, ◌<◌, ◌≤◌, if◌then◌else◌, List, [], ◌∷◌, ◌++◌, length, map, take, Option, Some, None, refl, sym, ap, subst, ◌∙◌, ⊎_elim, arith}
use Rattle.std.specs.Prelude.{◌==◌, slice_get, slice_index_or, IfSome}
use Rattle.std.specs.List.{flat_map}
use Rattle.std.specs.Option.{option_map}
use Rattle.std.proofs.lemmas.Bool.{cases_eq, cases_lt, eq-eqb, ne_eqb, cond-true, cond-false}
use Rattle.std.proofs.lemmas.Grind.{flat_map-append, take_at_read}
use Rattle.std.proofs.lemmas.List.{append-nil, append_assoc, get_or-map, length-map, map-append}
use Rattle.std.proofs.lemmas.Option.{get_or_from_slice_get}
use Rattle.ring_lanes.specs.declared.source.Source.{Source}
use Rattle.tif_packbits.specs.Packbits.{packing}
use Rattle.tif_packbits.specs.Frame.{packed_in, framed_row, IsFrame}
use Rattle.tif_packbits.proofs.Frames.{packed_in-frame}
use Rattle.tif_plate.specs.Plate.{rows_each, strip_count, strip_counts}
use Rattle.tif_plate.specs.Tail.{front_bytes, tail_bytes, tail_offset, counts_so_far}
use Rattle.tif_plate.proofs.Finish.{finishes as plate-finishes}
use Rattle.tif_plate.proofs.Growth.{counts_so_far-all}
use Rattle.plate_bytes.specs.Strips.{counted}
use Rattle.plate_bytes.proofs.Counts.{counted-row}
use Rattle.pr_rack.specs.Rack.{Plate, Slots, closed, plate_in, with_plate}
use Rattle.pr_rack.specs.Told.{Tells}
use Rattle.site_agent.specs.declared.plate.SitePlate.{SitePlate}
use Rattle.site_agent.specs.Job.{SiteJob, sides_of, IsJob, number_in}
use Rattle.site_agent.specs.Given.{given, rows_of, open_in, kept_below, IsRowOf, IsNoRow}
use Rattle.site_agent.specs.Tells.{with_begin, with_taken, with_finish, after_row}
use Rattle.site_agent.specs.Stands.{file_of, files_of, files_below, rows_below, begun_plate, plate_below, taken_below, Holds, AreCounts, StandsAfter}
use Rattle.site_agent.proofs.Givens.{given-stays}
use Rattle.site_agent.proofs.Opens.{plate_at, StandsAs, open_in-plate}
use Rattle.site_agent.proofs.Steps.{row-given, row-next, open-before, open-after, last-after, open-other, given-other, finished-last, finished-open, open-none, finished-none, kept-row, kept-none, rows-more, rows-none, length-rows_of}
use Rattle.site_agent.proofs.Holding.{put, put-same, put-other, begins, takes, finishes, alike, FinishedTold}

-- ---- a slot whose plate gains no row

plate-same : (job : SiteJob) (rows : List (List ℕ)) (n m slot : ℕ) → open_in job m slot ≡ open_in job n slot
    → ((plate : SitePlate) → open_in job n slot ≡ Some plate → given job.height plate m
    ≡ given job.height plate n)
    → plate_below job rows n slot ≡ plate_below job rows m slot
plate-same job rows n m slot open' same = by_plate (open_in job n slot) refl where
  by_plate : (plate : Option SitePlate) → open_in job n slot ≡ plate
      → plate_below job rows n slot ≡ plate_below job rows m slot
  by_plate None there = ap (option_map (begun_plate job rows n)) there ∙ sym (ap (option_map (begun_plate job rows m)) (open' ∙ there))
  by_plate (Some plate) there =
      ap (option_map (begun_plate job rows n)) there
      ∙ ap (λ g. Some (plate.path, front_bytes ++ flat_map packing (rows_of rows plate g))) (sym (same plate there))
      ∙ sym (ap (option_map (begun_plate job rows m)) (open' ∙ there))

counts-same : (job : SiteJob) (rows : List (List ℕ)) (n m slot : ℕ) (counts after : List (List ℕ))
    → open_in job m slot ≡ open_in job n slot
    → ((plate : SitePlate) → open_in job n slot ≡ Some plate → given job.height plate m
    ≡ given job.height plate n)
    → slice_index_or after slot [] ≡ slice_index_or counts slot [] → AreCounts job rows n counts slot
    → AreCounts job rows m after slot
counts-same job rows n m slot counts after open' same kept are = by_plate (open_in job n slot) refl are where
  Are : Option SitePlate → ℕ → List (List ℕ) → Type 0
  Are plate i list = IfSome plate (λ p. slice_index_or list slot [] ≡ counts_so_far job.width job.height (rows_below job rows i p))

  by_plate : (plate : Option SitePlate) → open_in job n slot ≡ plate
      → IfSome plate (λ p. slice_index_or counts slot []
      ≡ counts_so_far job.width job.height (rows_below job rows n p)) → AreCounts job rows m after slot
  by_plate None there are' =
      let P : Option SitePlate → Type 0 = λ plate. IfSome plate (λ p. slice_index_or after slot [] ≡ counts_so_far job.width job.height (rows_below job rows m p)) in
      subst P (sym (open' ∙ there)) tt
  by_plate (Some plate) there are' =
      let P : Option SitePlate → Type 0 = λ plate. IfSome plate (λ p. slice_index_or after slot [] ≡ counts_so_far job.width job.height (rows_below job rows m p)) in
      subst P (sym (open' ∙ there)) (kept ∙ are' ∙ ap (λ g. counts_so_far job.width job.height (rows_of rows plate g)) (sym (same plate there)))

-- ---- a row that belongs to no plate

stays-none : (job : SiteJob) (n slot : ℕ) (plate : SitePlate) → IsNoRow job n
    → open_in job n slot ≡ Some plate → given job.height plate (n + 1) ≡ given job.height plate n
stays-none job n slot plate row open' =
    let there : StandsAs job slot plate = open_in-plate job n slot plate open' in
    let P : SitePlate → Type 0 = λ p. given job.height p (n + 1) ≡ given job.height p n in
    subst P there.is (given-stays job.height n (plate_at job there.index plate) (λ y below. row.none there.index y plate there.within below))

-- a row that is not kept changes nothing
pub row_passed : (job : SiteJob) (rows : List (List ℕ)) (source : Source) (n : ℕ) (before now : Tells)
    (counts : List (List ℕ)) → IsJob job → IsNoRow job n
    → StandsAfter job rows source n before now counts → StandsAfter job rows source (n + 1) before now counts
row_passed job rows source n before now counts is row stands = record {
  rack = alike (files_below job rows n) (files_below job rows (n + 1)) (taken_below job source n) (taken_below job source (n + 1)) (plate_below job rows n) (plate_below job rows (n + 1)) before now stands.rack
      (ap (λ k. take k (files_of job rows)) (sym (finished-none job n is row)))
      (ap (map (λ k. (k, source))) (sym (kept-none job n row)))
      (λ slot less. plate-same job rows n (n + 1) slot (open-none job n slot row) (λ plate open'. stays-none job n slot plate row open'));
  strips = λ slot less. counts-same job rows n (n + 1) slot counts counts (open-none job n slot row) (λ plate open'. stays-none job n slot plate row open') refl (stands.strips slot less);
}

-- ---- a row of a plate

-- the strips' counts including the row
pub counts-row : (job : SiteJob) (rows : List (List ℕ)) (source : Source) (n k y : ℕ) (before now : Tells)
    (counts : List (List ℕ)) (d : SitePlate) (frame : List ℕ) → IsJob job → IsRowOf job n k y
    → StandsAfter job rows source n before now counts → IsFrame frame
    → slice_get rows n ≡ Some (framed_row frame)
    → length (slice_index_or counts (plate_at job k d).slot []) ≡ strip_count job.width job.height
    → counted y (y / rows_each job.width) (length (packed_in frame))
    (slice_index_or counts (plate_at job k d).slot [])
    ≡ counts_so_far job.width job.height (rows_of rows (plate_at job k d) (y + 1))
counts-row job rows source n k y before now counts d frame is row stands framed here size =
    ap (λ packed. counted y (y / rows_each job.width) (length packed) held) (packed_in-frame frame framed)
    ∙ counted-row job.width job.height y (rows_of rows plate y) (framed_row frame) held (length-rows_of rows plate y) row.below size known
    ∙ ap (counts_so_far job.width job.height) (sym (rows-more rows plate y n (row.number d) ∙ ap (λ last. rows_of rows plate y ++ last ∷ []) (get_or_from_slice_get rows n (framed_row frame) [] here))) where
      plate : SitePlate
      plate = plate_at job k d

      held : List ℕ
      held = slice_index_or counts plate.slot []

      known : y ≢ 0 → held ≡ counts_so_far job.width job.height (rows_of rows plate y)
      known some =
          (let P : Option SitePlate → Type 0 = λ p. IfSome p (λ q. held ≡ counts_so_far job.width job.height (rows_below job rows n q)) in
          subst P (open-before job n k y d is row (omega arith)) (stands.strips plate.slot (is.each k d row.within).slot))
          ∙ ap (λ g. counts_so_far job.width job.height (rows_of rows plate g)) (row-given job n k y d is row)

-- the content of the row's slot once its plate is begun
row-begun : (job : SiteJob) (rows : List (List ℕ)) (source : Source) (n k y : ℕ) (before old : Tells)
    (counts : List (List ℕ)) (d : SitePlate) → IsJob job → IsRowOf job n k y
    → StandsAfter job rows source n before old counts
    → Holds (files_below job rows n) (taken_below job source n)
    (put (plate_at job k d).slot
    (Some ((plate_at job k d).path, front_bytes ++ flat_map packing (rows_of rows (plate_at job k d) y)))
    (plate_below job rows n))
    before (if y == 0 then with_begin (plate_at job k d) old else old)
row-begun job rows source n k y before old counts d is row stands =
    ⊎_elim
    (λ (none : y ≡ 0).
    let Q : List ℕ → Type 0 = λ bytes. Holds files taken (put slot (Some (path, bytes)) open') before (if y == 0 then with_begin plate old else old) in
    let P : Tells → Type 0 = Holds files taken (put slot (Some (path, front_bytes)) open') before in
    subst Q (sym (ap (λ z. front_bytes ++ flat_map packing (rows_of rows plate z)) none ∙ ap (λ list. front_bytes ++ flat_map packing list) (rows-none rows plate)))
    (subst P (sym (cond-true (y == 0) (with_begin plate old) old (eq-eqb y 0 none)))
    (begins files taken open' before old (with_begin plate old) slot (path, front_bytes) stands.rack refl)))
    (λ (some : y ≢ 0).
    let P : Tells → Type 0 = Holds files taken (put slot (Some (path, bytes)) open') before in
    subst P (sym (cond-false (y == 0) (with_begin plate old) old (ne_eqb y 0 some)))
    (alike files files taken taken open' (put slot (Some (path, bytes)) open') before old stands.rack refl refl
    (λ s less. ⊎_elim
    (λ (same : s ≡ slot).
    ap open' same
    ∙ ap (option_map (begun_plate job rows n)) (open-before job n k y d is row (omega arith))
    ∙ ap (λ g. Some (path, front_bytes ++ flat_map packing (rows_of rows plate g))) (row-given job n k y d is row)
    ∙ sym (put-same slot (Some (path, bytes)) open' s same))
    (λ (apart : s ≢ slot). sym (put-other slot (Some (path, bytes)) open' s apart))
    (cases_eq s slot))))
    (cases_eq y 0) where
      plate : SitePlate
      plate = plate_at job k d

      slot : ℕ
      slot = plate.slot

      path : List ℕ
      path = plate.path

      files : List Plate
      files = files_below job rows n

      taken : List (ℕ × Source)
      taken = taken_below job source n

      open' : ℕ → Option Plate
      open' = plate_below job rows n

      bytes : List ℕ
      bytes = front_bytes ++ flat_map packing (rows_of rows plate y)

-- the packed rows including the row
packed-more : (rows : List (List ℕ)) (plate : SitePlate) (y n : ℕ) (frame : List ℕ) → number_in plate y ≡ n
    → IsFrame frame → slice_get rows n ≡ Some (framed_row frame)
    → (front_bytes ++ flat_map packing (rows_of rows plate y)) ++ packed_in frame ≡ front_bytes
    ++ flat_map packing (rows_of rows plate (y + 1))
packed-more rows plate y n frame is framed here =
    append_assoc front_bytes (flat_map packing (rows_of rows plate y)) (packed_in frame)
    ∙ ap (λ packed. front_bytes ++ (flat_map packing (rows_of rows plate y) ++ packed)) (packed_in-frame frame framed ∙ sym (append-nil (packing (framed_row frame))))
    ∙ ap (λ list. front_bytes ++ list)
    (sym (flat_map-append packing (rows_of rows plate y) (framed_row frame ∷ []))
    ∙ ap (flat_map packing) (sym (rows-more rows plate y n is ∙ ap (λ last. rows_of rows plate y ++ last ∷ []) (get_or_from_slice_get rows n (framed_row frame) [] here))))

-- a plate with its last row, once it is closed, is its file
closed-is : (job : SiteJob) (rows : List (List ℕ)) (plate : SitePlate) (last : ℕ) (counts : List ℕ)
    → last ≡ job.height → counts ≡ counts_so_far job.width job.height (rows_of rows plate last)
    → closed (tail_bytes job.width job.height job.dpi counts) (tail_offset counts)
    (plate.path, front_bytes ++ flat_map packing (rows_of rows plate last)) ≡ file_of job rows plate
closed-is job rows plate last counts all are =
    ap (λ list. closed (tail_bytes job.width job.height job.dpi list) (tail_offset list) (plate.path, front_bytes ++ flat_map packing (rows_of rows plate last))) (are ∙ ap (λ m. counts_so_far job.width job.height (rows_of rows plate m)) all ∙ whole)
    ∙ ap (λ m. closed (tail_bytes job.width job.height job.dpi (strip_counts job.width every)) (tail_offset (strip_counts job.width every)) (plate.path, front_bytes ++ flat_map packing (rows_of rows plate m))) all
    ∙ ap (λ m. closed (tail_bytes job.width m job.dpi (strip_counts job.width every)) (tail_offset (strip_counts job.width every)) (plate.path, front_bytes ++ flat_map packing every)) (sym len)
    ∙ ap (λ bytes. (plate.path, bytes)) (plate-finishes job.width job.dpi every) where
      every : List (List ℕ)
      every = rows_of rows plate job.height

      len : length every ≡ job.height
      len = length-rows_of rows plate job.height

      whole : counts_so_far job.width job.height every ≡ strip_counts job.width every
      whole = counts_so_far-all job.width job.height every len

-- the files including that of the plate
files-last : (job : SiteJob) (rows : List (List ℕ)) (n k y : ℕ) (d : SitePlate) → IsJob job
    → IsRowOf job n k y → y + 1 ≡ job.height
    → files_below job rows n ++ file_of job rows (plate_at job k d) ∷ [] ≡ files_below job rows (n + 1)
files-last job rows n k y d is row last =
    let within : k < length (files_of job rows) = omega (arith, row.within, length-map job.plates (file_of job rows)) in
    let file : Plate = file_of job rows (plate_at job k d) in
    ap (λ m. take m (files_of job rows) ++ file ∷ []) ((finished-last job n k y is row last).0)
    ∙ ap (λ f. take k (files_of job rows) ++ f ∷ []) (sym (get_or-map (file_of job rows) job.plates k d file row.within))
    ∙ sym ((take_at_read (files_of job rows) k file within).1)
    ∙ ap (λ m. take m (files_of job rows)) (sym ((finished-last job n k y is row last).1))

taken-row : (job : SiteJob) (source : Source) (n k y : ℕ) (d : SitePlate) → IsRowOf job n k y
    → taken_below job source n ++ (n, source) ∷ [] ≡ taken_below job source (n + 1)
taken-row job source n k y d row =
    sym (map-append (λ k. (k, source)) (kept_below job n) (n ∷ [])) ∙ ap (map (λ k. (k, source))) (sym (kept-row job n k y d row))

-- ---- whether the finished plates are known

told-plate : (slot : ℕ) (plate : Option Plate) (working : Option Slots) → with_plate slot plate working ≡ None
    → working ≡ None
told-plate slot plate None none = refl
told-plate slot plate (Some slots) none = cc

told-begun : (plate : SitePlate) (y : ℕ) (old : Tells) → FinishedTold old
    → FinishedTold (if y == 0 then with_begin plate old else old)
told-begun plate y old told =
    ⊎_elim
    (λ (none : y ≡ 0). subst FinishedTold (sym (cond-true (y == 0) (with_begin plate old) old (eq-eqb y 0 none))) (λ e. told (told-plate plate.slot (Some (plate.path, front_bytes)) old.working e)))
    (λ (some : y ≢ 0). subst FinishedTold (sym (cond-false (y == 0) (with_begin plate old) old (ne_eqb y 0 some))) told)
    (cases_eq y 0)

told-taken : (slot n : ℕ) (frame : List ℕ) (source : Source) (old : Tells) → FinishedTold old
    → FinishedTold (with_taken slot n frame source old)
told-taken slot n frame source old told e = told (told-plate slot (option_map (λ plate. (plate.0, plate.1 ++ packed_in frame)) (plate_in old.working slot)) old.working e)

-- one row of a plate
pub row_kept : (job : SiteJob) (rows : List (List ℕ)) (source : Source) (n k y : ℕ) (before old now : Tells)
    (counts after : List (List ℕ)) (d : SitePlate) (frame : List ℕ) → IsJob job → IsRowOf job n k y
    → StandsAfter job rows source n before old counts → FinishedTold old → IsFrame frame
    → slice_get rows n ≡ Some (framed_row frame)
    → length (slice_index_or counts (plate_at job k d).slot []) ≡ strip_count job.width job.height
    → slice_index_or after (plate_at job k d).slot []
    ≡ counted y (y / rows_each job.width) (length (packed_in frame))
    (slice_index_or counts (plate_at job k d).slot [])
    → ((s : ℕ) → s < 5 → s ≢ (plate_at job k d).slot → slice_index_or after s [] ≡ slice_index_or counts s [])
    → now ≡ after_row (sides_of job) (plate_at job k d) y n frame source
    (slice_index_or after (plate_at job k d).slot []) old
    → StandsAfter job rows source (n + 1) before now after
row_kept job rows source n k y before old now counts after d frame is row stands told framed here size own others told_now =
    record {
      rack = ⊎_elim by_more by_last (cases_lt (y + 1) job.height);
      strips = λ s less. ⊎_elim (strips-own s) (λ (apart : s ≢ slot). counts-same job rows n (n + 1) s counts after (open-other job n k y s d is row apart) (λ p open'. given-other job n k y s d p is row apart open') (others s less apart) (stands.strips s less)) (cases_eq s slot);
    } where
      plate : SitePlate
      plate = plate_at job k d

      slot : ℕ
      slot = plate.slot

      in_rack : slot < 5
      in_rack = (is.each k d row.within).slot

      bytes : List ℕ
      bytes = front_bytes ++ flat_map packing (rows_of rows plate y)

      open-1 : ℕ → Option Plate
      open-1 = put slot (Some (plate.path, bytes)) (plate_below job rows n)

      open-2 : ℕ → Option Plate
      open-2 = put slot (Some (plate.path, bytes ++ packed_in frame)) open-1

      begun : Tells
      begun = if y == 0 then with_begin plate old else old

      taken : Tells
      taken = with_taken slot n frame source begun

      files : List Plate
      files = files_below job rows n

      listed : List (ℕ × Source)
      listed = taken_below job source n

      counts-are : slice_index_or after slot []
          ≡ counts_so_far job.width job.height (rows_of rows plate (y + 1))
      counts-are = own ∙ counts-row job rows source n k y before old counts d frame is row stands framed here size

      held : Holds files (listed ++ (n, source) ∷ []) open-2 before taken
      held = takes files listed open-1 before begun taken slot n source plate.path bytes (packed_in frame) (row-begun job rows source n k y before old counts d is row stands) in_rack (put-same slot (Some (plate.path, bytes)) (plate_below job rows n) slot refl) refl

      other-slot : (s : ℕ) → s ≢ slot → open-2 s ≡ plate_below job rows (n + 1) s
      other-slot s apart =
          put-other slot (Some (plate.path, bytes ++ packed_in frame)) open-1 s apart
          ∙ put-other slot (Some (plate.path, bytes)) (plate_below job rows n) s apart
          ∙ plate-same job rows n (n + 1) s (open-other job n k y s d is row apart) (λ p open'. given-other job n k y s d p is row apart open')

      by_more : y + 1 < job.height
          → Holds (files_below job rows (n + 1)) (taken_below job source (n + 1))
          (plate_below job rows (n + 1)) before now
      by_more more =
          let P : Tells → Type 0 = Holds (files_below job rows (n + 1)) (taken_below job source (n + 1)) (plate_below job rows (n + 1)) before in
          subst P (sym (told_now ∙ cond-false (y + 1 == job.height) (with_finish (sides_of job) slot (slice_index_or after slot []) taken) taken (ne_eqb (y + 1) job.height (omega arith))))
          (alike files (files_below job rows (n + 1)) (listed ++ (n, source) ∷ []) (taken_below job source (n + 1)) open-2 (plate_below job rows (n + 1)) before taken held
          (ap (λ m. take m (files_of job rows)) (sym (finished-open job n k y is row more)))
          (taken-row job source n k y d row)
          (λ s less. ⊎_elim
          (λ (same : s ≡ slot).
          put-same slot (Some (plate.path, bytes ++ packed_in frame)) open-1 s same
          ∙ ap (λ list. Some (plate.path, list)) (packed-more rows plate y n frame (row.number d) framed here)
          ∙ sym (ap (plate_below job rows (n + 1)) same ∙ ap (option_map (begun_plate job rows (n + 1))) (open-after job n k y d is row more)
          ∙ ap (λ g. Some (plate.path, front_bytes ++ flat_map packing (rows_of rows plate g))) (row-next job n k y d is row)))
          (λ (apart : s ≢ slot). other-slot s apart)
          (cases_eq s slot)))

      by_last : job.height ≤ y + 1
          → Holds (files_below job rows (n + 1)) (taken_below job source (n + 1))
          (plate_below job rows (n + 1)) before now
      by_last most =
          let below : y < job.height = row.below in
          let last : y + 1 ≡ job.height = omega arith in
          let P : Tells → Type 0 = Holds (files_below job rows (n + 1)) (taken_below job source (n + 1)) (plate_below job rows (n + 1)) before in
          let tail : List ℕ = tail_bytes job.width job.height job.dpi (slice_index_or after slot []) in
          let place : ℕ = tail_offset (slice_index_or after slot []) in
          subst P (sym (told_now ∙ cond-true (y + 1 == job.height) (with_finish (sides_of job) slot (slice_index_or after slot []) taken) taken (eq-eqb (y + 1) job.height last)))
          (alike (files ++ closed tail place (plate.path, bytes ++ packed_in frame) ∷ []) (files_below job rows (n + 1)) (listed ++ (n, source) ∷ []) (taken_below job source (n + 1)) (put slot None open-2) (plate_below job rows (n + 1)) before (with_finish (sides_of job) slot (slice_index_or after slot []) taken)
          (finishes files (listed ++ (n, source) ∷ []) open-2 before taken (with_finish (sides_of job) slot (slice_index_or after slot []) taken) slot place tail (plate.path, bytes ++ packed_in frame) held (told-taken slot n frame source begun (told-begun plate y old told)) in_rack (put-same slot (Some (plate.path, bytes ++ packed_in frame)) open-1 slot refl) refl)
          (ap (λ list. files ++ closed tail place (plate.path, list) ∷ []) (packed-more rows plate y n frame (row.number d) framed here)
          ∙ ap (λ f. files ++ f ∷ []) (closed-is job rows plate (y + 1) (slice_index_or after slot []) last counts-are)
          ∙ files-last job rows n k y d is row last)
          (taken-row job source n k y d row)
          (λ s less. ⊎_elim
          (λ (same : s ≡ slot).
          put-same slot None open-2 s same
          ∙ sym (ap (plate_below job rows (n + 1)) same ∙ ap (option_map (begun_plate job rows (n + 1))) (last-after job n k y d is row last)))
          (λ (apart : s ≢ slot). put-other slot None open-2 s apart ∙ other-slot s apart)
          (cases_eq s slot)))

      strips-own : (s : ℕ) → s ≡ slot → AreCounts job rows (n + 1) after s
      strips-own s same =
          let Q : ℕ → Type 0 = AreCounts job rows (n + 1) after in
          let P : Option SitePlate → Type 0 = λ p. IfSome p (λ q. slice_index_or after slot [] ≡ counts_so_far job.width job.height (rows_below job rows (n + 1) q)) in
          subst Q (sym same)
          (⊎_elim
          (λ (more : y + 1 < job.height). subst P (sym (open-after job n k y d is row more)) (counts-are ∙ ap (λ g. counts_so_far job.width job.height (rows_of rows plate g)) (sym (row-next job n k y d is row))))
          (λ (most : job.height ≤ y + 1). let below : y < job.height = row.below in subst P (sym (last-after job n k y d is row (omega arith))) tt)
          (cases_lt (y + 1) job.height))
