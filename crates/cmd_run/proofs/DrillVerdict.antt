-- The files of a generated job pass the verdict on its plan.
use Rattle.std.proofs.Common.{◌≡◌, ◌≢◌, ℕ, zero, suc, ◌+◌, ◌*◌, ◌/◌, ◌%◌, ◌<◌, ◌≤◌, Bool, true, false, not, if◌then◌else◌, nat_eq, nat_lt, List, [], ◌∷◌, ◌++◌, length, map, get_or, All, sum_by, codes, Option, Some, None, option_map, unwrap_or, refl, sym, ap, subst, ◌∙◌, ⊎_elim, zero-add, arith}
use Rattle.std.specs.Fmt.{digits}
use Rattle.std.specs.List.{range_with_len}
use Rattle.std.specs.Option.{option_or}
use Rattle.std.specs.Result.{result_err}
use Rattle.std.proofs.lemmas.Bool.{cases_lt}
use Rattle.std.proofs.lemmas.Bool.Decides.{nat_tests}
use Rattle.std.proofs.lemmas.List.{length-map}
use Rattle.std.proofs.lemmas.List.Elements.{All-cons}
use Rattle.std.proofs.lemmas.List.FromFn.{get_or-map-range_with_len, get_or-range_with_len, length-range_with_len}
use Rattle.std.proofs.lemmas.List.Sums.{sum_by-le}
use Rattle.pr_base.specs.declared.fault.FaultKind.{FaultKind}
use Rattle.pr_base.specs.declared.fault.FaultKind.TheVariants.{MaskSize, TooLong}
use Rattle.pr_ports.specs.Shelf.{held_at}
use Rattle.tif_image.specs.declared.usage.BilevelUse.TheVariants.{Line, Mask}
use Rattle.tif_image.specs.Image.{bilevel_shape, contone_shape}
use Rattle.plan_parts.specs.Data.{PageData}
use Rattle.plan_json.specs.Data.{PlanData}
use Rattle.press_job.specs.declared.refusal.Refusal.TheVariants.{File}
use Rattle.pr_base.specs.First.{first_some}
use Rattle.press_job.specs.Layers.{bytes_at}
use Rattle.press_job.specs.Tests.{fault_for, fault_of_file, fault_of_layers, fault_where, fit_fault, layer_fault, length_of, mention_fault, mentions_of, page_fault, page_fit_fault, use_of, width_of}
use Rattle.press_job.specs.Verdict.{IsMissing, files_in, first_files, held_bytes, limit_behind, misfit_refusal, named_fault, path_of, refusal_of, verdict_at, verdict_before, verdict_on, verdict_on_files}
use Rattle.press_job.proofs.FitLemmas.{shape_sides}
use Rattle.job_gen.specs.Images.{contone_bytes, files_of, files_with, line_bytes, mask_bytes}
use Rattle.job_gen.specs.Numbers.{site_count, size_of}
use Rattle.job_gen.specs.Passes.{ArePassing, most_bytes}
use Rattle.job_gen.specs.Plan.{image_layer, job_files, job_pages, job_plan, line_layer, other_page, page_index, plan_with, section_page}

-- ---- the uses of a file

-- the tests that a file of a generated plan passes, by its index: 1 is the linework, 2 the mask, and all
-- others are contone images
pub record PassesAt (file : ℕ) (bytes : List ℕ) : Type 0 where
  pub contone : file ≢ 1 → file ≢ 2 → result_err (contone_shape bytes) ≡ None
  pub line : file ≡ 1 → result_err (bilevel_shape Line bytes) ≡ None
  pub mask : file ≡ 2 → result_err (bilevel_shape Mask bytes) ≡ None

-- if no test finds a fault, the first fault is none
first_none : {A B : Type 0} (f : A → Option B) (xs : List A) → All (λ x. f x ≡ None) xs → first_some f xs ≡ None
first_none f [] h = refl
first_none f (x ∷ xs) h =
    ap (λ o. option_or o (first_some f xs)) (h 0 x (omega arith)) ∙ first_none f xs (λ k d less. h (suc k) d (omega (arith, less)))

mention_none : (file other : ℕ) (bytes : List ℕ) (usage : _) → (other ≡ file → fault_for usage bytes ≡ None)
    → mention_fault file bytes (other, usage) ≡ None
mention_none file other bytes usage h = by (nat_eq other file) refl
  where
    by : (same : Bool) → nat_eq other file ≡ same → (if same then fault_for usage bytes else None) ≡ None
    by true is = h (let e : other ≡ file = grind (arith, nat_tests) in e)
    by false is = refl

image_none : (file index : ℕ) (bytes : List ℕ) → PassesAt file bytes → index ≢ 1 → index ≢ 2
    → layer_fault file bytes (image_layer index) ≡ None
unfolding layer_fault
image_none file index bytes passes one two =
    ap (λ o. option_or o None)
    (mention_none file index bytes (use_of (image_layer index)) (λ same.
    passes.contone (λ e. one (same ∙ e)) (λ e. two (same ∙ e))))

-- the use of a layer's second mention
abbrev second_use : {A B : Type 0} → B → List (A × B) → B
second_use d [] = d
second_use d (first ∷ []) = d
second_use d (first ∷ second ∷ mentions) = second.1

line_none : (file : ℕ) (bytes : List ℕ) → PassesAt file bytes → layer_fault file bytes line_layer ≡ None
unfolding layer_fault
line_none file bytes passes =
    let line = use_of line_layer in
    let mask = second_use line (mentions_of line_layer) in
    ap (λ o. option_or o (option_or (mention_fault file bytes (2, mask)) None))
    (mention_none file 1 bytes line (λ same. passes.line (sym same)))
    ∙ ap (λ o. option_or o None) (mention_none file 2 bytes mask (λ same. passes.mask (sym same)))

-- the index of a page's image differs from those of the linework and the mask
index_one : (j : ℕ) → 1 ≤ j → page_index j ≢ 1
index_one j least = grind (arith, nat_tests)

index_two : (j : ℕ) → 1 ≤ j → page_index j ≢ 2
index_two j least = grind (arith, nat_tests)

page_none : (file pages j : ℕ) (bytes : List ℕ) → PassesAt file bytes → 1 ≤ j
    → page_fault file bytes (section_page pages j) ≡ None
page_none file pages j bytes passes least =
    ap (λ o. option_or o (first_some (layer_fault file bytes) (if nat_eq (j % 2) 1 then line_layer ∷ [] else [])))
    (image_none file (page_index j) bytes passes (index_one j least) (index_two j least))
    ∙ by (nat_eq (j % 2) 1)
  where
    by : (odd : Bool) → first_some (layer_fault file bytes) (if odd then line_layer ∷ [] else []) ≡ None
    by true = ap (λ o. option_or o None) (line_none file bytes passes)
    by false = refl

other_none : (file pages : ℕ) (bytes : List ℕ) → PassesAt file bytes → 1 ≤ pages → page_fault file bytes (other_page pages) ≡ None
other_none file pages bytes passes least =
    ap (λ o. option_or o None) (image_none file (pages + 2) bytes passes (omega arith) (omega arith))

-- the pages of a section, then another page
pages_none : {B : Type 0} (f : PageData → Option B) (pages : ℕ) (js : List ℕ) (last : PageData) → All (λ j. 1 ≤ j) js
    → ((j : ℕ) → 1 ≤ j → f (section_page pages j) ≡ None) → f last ≡ None
    → first_some f (map (section_page pages) js ++ last ∷ []) ≡ None
pages_none f pages [] last least each other = ap (λ o. option_or o None) other
pages_none f pages (j ∷ js) last least each other =
    ap (λ o. option_or o (first_some f (map (section_page pages) js ++ last ∷ []))) (each j (least 0 j (omega arith)))
    ∙ pages_none f pages js last (λ k d less. least (suc k) d (omega (arith, less))) each other

from_one : (pages : ℕ) → All (λ j. 1 ≤ j) (range_with_len 1 pages)
from_one pages = λ k d less.
    let within : k < pages = omega (arith, less, length-range_with_len 1 pages) in
    omega (arith, get_or-range_with_len 1 pages k d within)

file_none : (sites pages size file : ℕ) (bytes : List ℕ) → 1 ≤ pages → PassesAt file bytes
    → fault_of_file (plan_with sites pages size) file bytes ≡ None
unfolding fault_of_file plan_with job_pages
file_none sites pages size file bytes least passes =
    pages_none (page_fault file bytes) pages (range_with_len 1 pages) (other_page pages) (from_one pages)
    (λ j one. page_none file pages j bytes passes one) (other_none file pages bytes passes least)

-- ---- crops and masks

-- the mask has the same dimensions as the linework
pub record FitsMask (files : List (List ℕ)) : Type 0 where
  pub width : width_of (bytes_at files 2) ≡ width_of (bytes_at files 1)
  pub length : length_of (bytes_at files 2) ≡ length_of (bytes_at files 1)

same_none : (a b file tag : ℕ) (kind : FaultKind) → a ≡ b → fault_where (not (nat_eq a b)) file tag kind ≡ None
same_none a b file tag kind same =
    let e : nat_eq a b ≡ true = grind (arith, nat_tests) in
    ap (λ t. fault_where (not t) file tag kind) e

line_fits : (files : List (List ℕ)) → FitsMask files → fit_fault files line_layer ≡ None
unfolding fit_fault
line_fits files fits =
    ap (λ o. option_or o (fault_where (not (nat_eq (length_of (bytes_at files 2)) (length_of (bytes_at files 1)))) 2 257 MaskSize))
    (same_none (width_of (bytes_at files 2)) (width_of (bytes_at files 1)) 2 256 MaskSize fits.width)
    ∙ same_none (length_of (bytes_at files 2)) (length_of (bytes_at files 1)) 2 257 MaskSize fits.length

image_fits : (files : List (List ℕ)) (index : ℕ) → fit_fault files (image_layer index) ≡ None
unfolding fit_fault
image_fits files index = refl

page_fits : (files : List (List ℕ)) (pages j : ℕ) → FitsMask files → page_fit_fault files (section_page pages j) ≡ None
page_fits files pages j fits =
    ap (λ o. option_or o (first_some (fit_fault files) (if nat_eq (j % 2) 1 then line_layer ∷ [] else [])))
    (image_fits files (page_index j))
    ∙ by (nat_eq (j % 2) 1)
  where
    by : (odd : Bool) → first_some (fit_fault files) (if odd then line_layer ∷ [] else []) ≡ None
    by true = ap (λ o. option_or o None) (line_fits files fits)
    by false = refl

layers_none : (sites pages size : ℕ) (files : List (List ℕ)) → FitsMask files
    → fault_of_layers (plan_with sites pages size) files ≡ None
unfolding fault_of_layers plan_with job_pages
layers_none sites pages size files fits =
    pages_none (page_fit_fault files) pages (range_with_len 1 pages) (other_page pages) (from_one pages)
    (λ j one. page_fits files pages j fits) (ap (λ o. option_or o None) (image_fits files (pages + 2)))

-- ---- stored files

-- a file of a plan is stored, isn't too long, and passes its tests
record IsHeld (plan : PlanData) (held : List (List ℕ × List ℕ)) (file : ℕ) : Type 0 where
  bytes : List ℕ
  there : held_at held (path_of plan (codes "in") file) ≡ Some bytes
  small : length bytes ≤ most_bytes
  passes : PassesAt file bytes

-- every file of a plan is stored, isn't too long, and passes its tests; and the mask fits
record AreHeld (plan : PlanData) (held : List (List ℕ × List ℕ)) : Type 0 where
  few : length plan.files ≤ 11
  each : (file : ℕ) → file < length plan.files → IsHeld plan held file
  fits : FitsMask (files_in plan (codes "in") held)

-- ---- the verdict

first_length : (plan : PlanData) (held : List (List ℕ × List ℕ)) (count : ℕ) → length (first_files plan (codes "in") held count) ≡ count
unfolding first_files
first_length plan held count =
    length-map (range_with_len 0 count) (held_bytes plan (codes "in") held) ∙ length-range_with_len 0 count

small_each : (plan : PlanData) (held : List (List ℕ × List ℕ)) (count : ℕ) → AreHeld plan held → count ≤ length plan.files
    → All (λ bytes. length bytes ≤ most_bytes) (first_files plan (codes "in") held count)
unfolding first_files
small_each plan held count are within = λ k d less.
    let less' : k < count = omega (arith, less, first_length plan held count) in
    let h = are.each k (omega (arith, less', within)) in
    let e : get_or (map (held_bytes plan (codes "in") held) (range_with_len 0 count)) k d ≡ h.bytes =
    get_or-map-range_with_len (held_bytes plan (codes "in") held) 0 count k k d less' (omega arith)
    ∙ ap (λ o. unwrap_or o []) h.there in
    let small : length h.bytes ≤ 4000000 = h.small in
    omega (arith, ap length e, small)

few_loaded : (plan : PlanData) (held : List (List ℕ × List ℕ)) (count : ℕ) → AreHeld plan held → count ≤ length plan.files
    → sum_by length (first_files plan (codes "in") held count) ≤ 44000000
few_loaded plan held count are within =
    let sum : sum_by length (first_files plan (codes "in") held count) ≤ length (first_files plan (codes "in") held count) * 4000000 =
    sum_by-le length 4000000 (first_files plan (codes "in") held count) (small_each plan held count are within) in
    omega (arith, sum, first_length plan held count, within, are.few)

room_left : (loaded size : ℕ) → loaded ≤ 44000000 → size ≤ 4000000 → nat_lt (limit_behind loaded) size ≡ false
room_left loaded size few small =
    let room : size ≤ limit_behind loaded = omega (arith, few, small) in grind (arith, nat_tests)

at_none : (sites pages size file : ℕ) (held : List (List ℕ × List ℕ)) → 1 ≤ pages → AreHeld (plan_with sites pages size) held
    → file < length (plan_with sites pages size).files → verdict_at (plan_with sites pages size) (codes "in") held file ≡ None
unfolding verdict_at
at_none sites pages size file held least are within =
    let plan = plan_with sites pages size in
    let h = are.each file within in
    let loaded : ℕ = sum_by length (first_files plan (codes "in") held file) in
    let few : loaded ≤ 44000000 = few_loaded plan held file are (omega (arith, within)) in
    ap (verdict_on plan (codes "in") (limit_behind loaded) file) h.there
    ∙ ap (λ long. if long then Some (File (named_fault plan file 0 TooLong)) else option_map (refusal_of plan file) (fault_of_file plan file h.bytes))
    (room_left loaded (length h.bytes) few h.small)
    ∙ ap (option_map (refusal_of plan file)) (file_none sites pages size file h.bytes least h.passes)

-- the number at an index of a range
number_at : (count k d : ℕ) → k < count → get_or (range_with_len 0 count) k d ≡ k
number_at count k d within = get_or-range_with_len 0 count k d within ∙ zero-add k

before_none : (sites pages size : ℕ) (held : List (List ℕ × List ℕ)) → 1 ≤ pages → AreHeld (plan_with sites pages size) held
    → verdict_before (plan_with sites pages size) (codes "in") held (length (plan_with sites pages size).files) ≡ None
unfolding verdict_before
before_none sites pages size held least are =
    let plan = plan_with sites pages size in
    let count : ℕ = length plan.files in
    first_none (verdict_at plan (codes "in") held) (range_with_len 0 count) (λ k d less.
    let within : k < count = omega (arith, less, length-range_with_len 0 count) in
    ap (verdict_at plan (codes "in") held) (number_at count k d within)
    ∙ at_none sites pages size k held least are within)

plan_passes : (sites pages size : ℕ) (held : List (List ℕ × List ℕ)) → 1 ≤ pages → AreHeld (plan_with sites pages size) held
    → verdict_on_files (plan_with sites pages size) (codes "in") held ≡ None
plan_passes sites pages size held least are =
    let plan = plan_with sites pages size in
    ap (λ o. option_or o (option_map (misfit_refusal plan) (fault_of_layers plan (files_in plan (codes "in") held))))
    (before_none sites pages size held least are)
    ∙ ap (option_map (misfit_refusal plan)) (layers_none sites pages size (files_in plan (codes "in") held) are.fits)

-- ---- a generated job

module _ (n : ℕ) (passing : ArePassing n (contone_bytes n) (line_bytes n) (mask_bytes n)) (plan : PlanData)
    (held : List (List ℕ × List ℕ)) where
  held_by : (file : ℕ) (bytes : List ℕ) → held_at held (path_of plan (codes "in") file) ≡ Some bytes → length bytes ≤ most_bytes
      → PassesAt file bytes → IsHeld plan held file
  held_by file bytes is small passes = record { bytes = bytes; there = is; small = small; passes = passes }

  contone_held : (file f : ℕ) → file ≢ 1 → file ≢ 2
      → held_at held (path_of plan (codes "in") file) ≡ Some (contone_bytes n f) → IsHeld plan held file
  contone_held file f one two is =
      held_by file (contone_bytes n f) is (passing.contones f).small
      (record { contone = λ a b. ap result_err (passing.contones f).passes; line = λ e. absurd (one e); mask = λ e. absurd (two e) })

  line_held : held_at held (path_of plan (codes "in") 1) ≡ Some (line_bytes n) → IsHeld plan held 1
  line_held is =
      held_by 1 (line_bytes n) is passing.line_is.small
      (record { contone = λ a b. absurd (a refl); line = λ e. ap result_err passing.line_is.passes; mask = λ e. absurd (omega arith) })

  mask_held : held_at held (path_of plan (codes "in") 2) ≡ Some (mask_bytes n) → IsHeld plan held 2
  mask_held is =
      held_by 2 (mask_bytes n) is passing.mask_is.small
      (record { contone = λ a b. absurd (b refl); line = λ e. absurd (omega arith); mask = λ e. ap result_err passing.mask_is.passes })

  -- the first six files are the same ones whether a job has four pages or eight
  first_held : held_at held (path_of plan (codes "in") 0) ≡ Some (contone_bytes n 1)
      → held_at held (path_of plan (codes "in") 1) ≡ Some (line_bytes n)
      → held_at held (path_of plan (codes "in") 2) ≡ Some (mask_bytes n)
      → held_at held (path_of plan (codes "in") 3) ≡ Some (contone_bytes n 2)
      → held_at held (path_of plan (codes "in") 4) ≡ Some (contone_bytes n 3)
      → held_at held (path_of plan (codes "in") 5) ≡ Some (contone_bytes n 4)
      → (file : ℕ) → file < 6 → IsHeld plan held file
  first_held a b c d e f zero less = contone_held 0 1 (omega arith) (omega arith) a
  first_held a b c d e f (suc zero) less = line_held b
  first_held a b c d e f (suc (suc zero)) less = mask_held c
  first_held a b c d e f (suc (suc (suc zero))) less = contone_held 3 2 (omega arith) (omega arith) d
  first_held a b c d e f (suc (suc (suc (suc zero)))) less = contone_held 4 3 (omega arith) (omega arith) e
  first_held a b c d e f (suc (suc (suc (suc (suc zero))))) less = contone_held 5 4 (omega arith) (omega arith) f
  first_held a b c d e f (suc (suc (suc (suc (suc (suc file)))))) less = absurd (omega arith)

  -- a contone file more
  held_more : (file f : ℕ) → 2 < file → held_at held (path_of plan (codes "in") file) ≡ Some (contone_bytes n f)
      → ((k : ℕ) → k < file → IsHeld plan held k) → (k : ℕ) → k < suc file → IsHeld plan held k
  held_more file f past is each k less =
      ⊎_elim (λ below. each k below)
      (λ at. subst (IsHeld plan held) (let e : file ≡ k = omega (arith, at, less) in e) (contone_held file f (omega (arith, past)) (omega (arith, past)) is))
      (cases_lt k file)

mask_fits : (n : ℕ) (files : List (List ℕ)) → ArePassing n (contone_bytes n) (line_bytes n) (mask_bytes n)
    → bytes_at files 1 ≡ line_bytes n → bytes_at files 2 ≡ mask_bytes n → FitsMask files
mask_fits n files passing line mask =
    let a = shape_sides _ (line_bytes n) _ passing.line_is.passes in
    let b = shape_sides _ (mask_bytes n) _ passing.mask_is.passes in
    record {
      width = ap width_of mask ∙ sym b.width ∙ a.width ∙ sym (ap width_of line);
      length = ap length_of mask ∙ sym b.length ∙ a.length ∙ sym (ap length_of line);
    }

four_held : (n sites size : ℕ) → ArePassing n (contone_bytes n) (line_bytes n) (mask_bytes n)
    → AreHeld (plan_with sites 4 size) (files_with n 4)
unfolding digits files_with plan_with job_files first_files
four_held n sites size passing =
    let plan = plan_with sites 4 size in
    let held = files_with n 4 in
    let first = first_held n passing plan held refl refl refl refl refl refl in
    record {
      few = omega arith;
      each = held_more n passing plan held 6 0 (omega arith) refl first;
      fits = mask_fits n _ passing refl refl;
    }

eight_held : (n sites size : ℕ) → ArePassing n (contone_bytes n) (line_bytes n) (mask_bytes n)
    → AreHeld (plan_with sites 8 size) (files_with n 8)
unfolding digits files_with plan_with job_files first_files
eight_held n sites size passing =
    let plan = plan_with sites 8 size in
    let held = files_with n 8 in
    let first = first_held n passing plan held refl refl refl refl refl refl in
    let eight = held_more n passing plan held 7 6 (omega arith) refl (held_more n passing plan held 6 5 (omega arith) refl first) in
    let ten = held_more n passing plan held 9 8 (omega arith) refl (held_more n passing plan held 8 7 (omega arith) refl eight) in
    record {
      few = omega arith;
      each = held_more n passing plan held 10 0 (omega arith) refl ten;
      fits = mask_fits n _ passing refl refl;
    }

-- every generated job passes the verdict on its files
pub job_passes : (n : ℕ) → ArePassing n (contone_bytes n) (line_bytes n) (mask_bytes n)
    → verdict_on_files (job_plan n) (codes "in") (files_of n) ≡ None
job_passes n passing = by (n / 4 % 2) (omega arith)
  where
    by : (half : ℕ) → half < 2
        → verdict_on_files (plan_with (site_count n) (4 + 4 * half) (size_of n)) (codes "in") (files_with n (4 + 4 * half)) ≡ None
    by zero less = plan_passes (site_count n) 4 (size_of n) (files_with n 4) (omega arith) (four_held n (site_count n) (size_of n) passing)
    by (suc zero) less = plan_passes (site_count n) 8 (size_of n) (files_with n 8) (omega arith) (eight_held n (site_count n) (size_of n) passing)
    by (suc (suc half)) less = absurd (omega arith)

-- ---- a shelf of files that pass

-- if the first fault is none, no test finds a fault
none_each : {A B : Type 0} (f : A → Option B) (xs : List A) → first_some f xs ≡ None → All (λ x. f x ≡ None) xs
none_each f [] h = λ k d less. absurd (omega (arith, less))
none_each {A} {B} f (x ∷ xs) h = by (f x) refl (λ rest. none_each f xs rest) h
  where
    by : (o : Option B) → f x ≡ o → (first_some f xs ≡ None → All (λ y. f y ≡ None) xs) → option_or o (first_some f xs) ≡ None
        → All (λ y. f y ≡ None) (x ∷ xs)
    by None is all rest = All-cons (λ y. f y ≡ None) x xs is (all rest)
    by (Some y) is all rest = absurd (let e : Some y ≡ None = rest in cc)

-- a file that isn't stored is reported missing
not_held : (plan : PlanData) (limit file : ℕ) (found : Option (List ℕ)) → found ≡ None
    → verdict_on plan (codes "in") limit file found ≡ None → ⊥
not_held plan limit file None is none = cc
not_held plan limit file (Some bytes) is none = cc

first_of : {B : Type 0} (a b : Option B) → option_or a b ≡ None → a ≡ None
first_of None b h = refl
first_of (Some x) b h = cc

-- no file is missing if the verdict on the files is a pass
pub never_missing : (plan : PlanData) (held : List (List ℕ × List ℕ)) (path : List ℕ) → verdict_on_files plan (codes "in") held ≡ None
    → IsMissing plan (codes "in") (Some held) path → held_at held path ≡ None → ⊥
unfolding verdict_before verdict_at
never_missing plan held path passes missing none =
    let all : verdict_before plan (codes "in") held (length plan.files) ≡ None = first_of _ _ passes in
    let file : ℕ = missing.file in
    let each : verdict_at plan (codes "in") held (get_or (range_with_len 0 (length plan.files)) file file) ≡ None =
    none_each (verdict_at plan (codes "in") held) (range_with_len 0 (length plan.files)) all file file
    (omega (arith, missing.within, length-range_with_len 0 (length plan.files))) in
    let here : verdict_at plan (codes "in") held file ≡ None =
    ap (verdict_at plan (codes "in") held) (sym (number_at (length plan.files) file file missing.within)) ∙ each in
    not_held plan _ file (held_at held (path_of plan (codes "in") file)) (ap (held_at held) (sym missing.is_path) ∙ none) here
