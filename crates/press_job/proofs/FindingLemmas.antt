-- What the tests of files find, from one use of a file to the layers of a plan.
use Rattle.std.proofs.Common.{inl, inr, ◌≡◌, ℕ, ◌+◌, ◌<◌, ◌≤◌, true, false, List, [], ◌∷◌, ◌++◌, length, get_or, take, drop, refl, ap, sym, ◌∙◌, subst, arith}
use Rattle.std.specs.Prelude.{All, IfSome, Option, Some, None, Err, option_map, option_to_list, slice_get, slice_index_or}
use Rattle.std.specs.Option.{option_map_or, option_or}
use Rattle.std.proofs.lemmas.Bool.{cases_lt}
use Rattle.std.proofs.lemmas.List.{get_or_append_left, get_or_push, length_push, take_all}
use Rattle.std.proofs.lemmas.List.Elements.{All-more, All-same, All-weaker}
use Rattle.std.proofs.lemmas.Option.{get_or_from_slice_get, slice_get_within}
use Rattle.pr_base.specs.declared.fault.TagFault.{TagFault}
use Rattle.pr_base.specs.First.{first_some}
use Rattle.pr_base.proofs.Firsts.{first_some-end, first_some-found, first_some-on}
use Rattle.tif_image.specs.Found.{FoundData, IsFound}
use Rattle.tif_image.specs.Tested.{Tells}
use Rattle.tif_image.specs.declared.test_fault.TestFault.{TestFault}
use Rattle.tif_image.specs.declared.test_fault.TestFault.TheVariants.{Failed, Memory}
use Rattle.tif_image.specs.declared.usage.BilevelUse.TheVariants.{Line, Mask}
use Rattle.tif_image.specs.declared.usage.Usage.{Usage}
use Rattle.tif_image.specs.declared.usage.Usage.TheVariants.{Contone, Bilevel}
use Rattle.plan_parts.specs.Data.{LayerData, PageData}
use Rattle.plan_parts.specs.Parts as planned
use Rattle.plan_json.specs.Data.{PlanData}
use Rattle.plan_json.specs.Plan.{IsPlan}
use Rattle.press_job.specs.declared.file_test.FileTest.{FileTest}
use Rattle.press_job.specs.declared.findings.Findings.{Findings}
use Rattle.press_job.specs.Findings.{FilesData, HasLayer, HasRecords, HaveLayers, IsRecorded, found_of, with_found}
use Rattle.press_job.specs.Layers.{planned_layers, bytes_at}
use Rattle.press_job.specs.Tested.{GoesOn, IsTested, PassesIn, fault_at_mention, has_passed, with_use}
use Rattle.press_job.specs.Tests.{layer_fault, mention_fault, use_of}

-- each of these first files of a plan has its records
pub record AreRecorded (plan : PlanData) (files : FilesData) : Type 0 where
  pub count : length files.found ≡ length files.bytes
  pub each : (file : ℕ) (other : Findings) → file < length files.found
      → HasRecords plan file (bytes_at files.bytes file) (slice_index_or files.found file other)

-- ---- one use

-- a use that passes is noted with its record, and no other use is forgotten
still_passed : (test : FileTest) (found : FoundData) (usage other : Usage) → has_passed test other ≡ true → has_passed (with_use test usage found) other ≡ true
still_passed test found Contone Contone h = refl
still_passed test found Contone (Bilevel Line) h = h
still_passed test found Contone (Bilevel Mask) h = h
still_passed test found (Bilevel Line) Contone h = h
still_passed test found (Bilevel Line) (Bilevel Line) h = refl
still_passed test found (Bilevel Line) (Bilevel Mask) h = h
still_passed test found (Bilevel Mask) Contone h = h
still_passed test found (Bilevel Mask) (Bilevel Line) h = h
still_passed test found (Bilevel Mask) (Bilevel Mask) h = refl

found_noted : (test : FileTest) (found : FoundData) (usage other : Usage) → IsTested test → IsFound usage test.bytes.now found → has_passed (with_use test usage found) other ≡ true
    → IsFound other test.bytes.now (found_of (with_found test.found usage found) other)
found_noted test found Contone Contone are is h = is
found_noted test found Contone (Bilevel Line) are is h = are.each (Bilevel Line) h
found_noted test found Contone (Bilevel Mask) are is h = are.each (Bilevel Mask) h
found_noted test found (Bilevel Line) Contone are is h = are.each Contone h
found_noted test found (Bilevel Line) (Bilevel Line) are is h = is
found_noted test found (Bilevel Line) (Bilevel Mask) are is h = are.each (Bilevel Mask) h
found_noted test found (Bilevel Mask) Contone are is h = are.each Contone h
found_noted test found (Bilevel Mask) (Bilevel Line) are is h = are.each (Bilevel Line) h
found_noted test found (Bilevel Mask) (Bilevel Mask) are is h = is

pub use_noted : (test : FileTest) (usage : Usage) (found : FoundData) → IsTested test
    → IsFound usage test.bytes.now found → GoesOn test (with_use test usage found)
use_noted test Contone found are is = record { file = refl; bytes = refl; kept = still_passed test found Contone; tested = record { each = λ other. found_noted test found Contone other are is } }
use_noted test (Bilevel Line) found are is = record { file = refl; bytes = refl; kept = still_passed test found (Bilevel Line); tested = record { each = λ other. found_noted test found (Bilevel Line) other are is } }
use_noted test (Bilevel Mask) found are is = record { file = refl; bytes = refl; kept = still_passed test found (Bilevel Mask); tested = record { each = λ other. found_noted test found (Bilevel Mask) other are is } }

pub has_noted : (test : FileTest) (usage : Usage) (found : FoundData)
    → has_passed (with_use test usage found) usage ≡ true
has_noted test Contone found = refl
has_noted test (Bilevel Line) found = refl
has_noted test (Bilevel Mask) found = refl

-- a file that was not tested yet
pub untested : (test : FileTest) → test.contone ≡ false → test.line ≡ false → test.mask ≡ false
    → IsTested test
untested test contone line mask = record { each = each }
  where
    each : (usage : Usage) → has_passed test usage ≡ true
        → IsFound usage test.bytes.now (found_of test.found usage)
    each Contone h = absurd (cc (contone, h))
    each (Bilevel Line) h = absurd (cc (line, h))
    each (Bilevel Mask) h = absurd (cc (mask, h))

pub stands : (test : FileTest) → IsTested test → GoesOn test test
stands test are = record { file = refl; bytes = refl; kept = λ usage h. h; tested = are }

pub goes_on_then : (first mid last : FileTest) → GoesOn first mid → GoesOn mid last → GoesOn first last
goes_on_then first mid last one other = record {
  file = other.file ∙ one.file;
  bytes = other.bytes ∙ one.bytes;
  kept = λ usage h. other.kept usage (one.kept usage h);
  tested = other.tested;
}

-- ---- one mention

pub fault_of_same : (old new : FileTest) (mention : Option ℕ) (usage : Usage) → GoesOn old new
    → fault_at_mention new mention usage ≡ fault_at_mention old mention usage
fault_of_same old new None usage on = refl
fault_of_same old new (Some file) usage on =
    ap {A = ℕ} (λ n. mention_fault n new.bytes.now (file, usage)) on.file ∙ ap {A = List ℕ} (λ bytes. mention_fault old.file bytes (file, usage)) on.bytes

or_none : {B : Type 0} (a : Option B) → option_or a None ≡ a
or_none None = refl
or_none (Some x) = refl

-- the fault in a layer is that of its image, or else that of its mask
pub fault_of_both : (test : FileTest) (layer : LayerData)
    → layer_fault test.file test.bytes.now layer
    ≡ option_or (fault_at_mention test (Some layer.file) (use_of layer))
    (fault_at_mention test layer.mask (Bilevel Mask))
unfolding layer_fault
fault_of_both test layer = by layer.mask
  where
    by : (mask : Option ℕ)
        → first_some (mention_fault test.file test.bytes.now)
        ((layer.file, use_of layer) ∷ option_to_list (option_map (λ m. (m, Bilevel Mask)) mask))
        ≡ option_or (fault_at_mention test (Some layer.file) (use_of layer))
        (fault_at_mention test mask (Bilevel Mask))
    by None = refl
    by (Some mask) =
        ap {A = Option TagFault} (option_or (fault_at_mention test (Some layer.file) (use_of layer))) (or_none (mention_fault test.file test.bytes.now (mask, Bilevel Mask)))

-- ---- the first fault

-- a refusal with this fault, or because memory ran out
abbrev pub Refuses : TestFault → Option TagFault → Type 0
Refuses e first = Tells {T = Unit {0}} (Err e) first

pub told_same : (e : TestFault) (a b : Option TagFault) → a ≡ b → Refuses e b → Refuses e a
told_same e a b same told = subst {A = Option TagFault} (Refuses e) (sym same) told

pub told_first : (e : TestFault) (a b : Option TagFault) → Refuses e a → Refuses e (option_or a b)
told_first (Failed fault) a b is = ap {A = Option TagFault} (λ o. option_or o b) is
told_first Memory a b is = tt

pub told_second : (e : TestFault) (a b : Option TagFault) → a ≡ None → Refuses e b → Refuses e (option_or a b)
told_second e a b none told = subst {A = Option TagFault} (λ o. Refuses e (option_or o b)) (sym none) told

-- of a list: where an element has a fault, it is the first one
pub told_found : {A : Type 0} (e : TestFault) (f : A → Option TagFault) (xs : List A) (i : ℕ) (d : A)
    → i < length xs → first_some f xs ≡ first_some f (drop i xs) → Refuses e (f (get_or xs i d))
    → Refuses e (first_some f xs)
told_found (Failed fault) f xs i d within ahead is = sym (first_some-found f xs i d fault within ahead (sym is))
told_found Memory f xs i d within ahead is = tt

-- ---- layers and pages

pub passes_still : (old new : FileTest) (layer : LayerData) → GoesOn old new → PassesIn old layer
    → PassesIn new layer
passes_still old new layer on passes = record {
  image = λ same. on.kept (use_of layer) (passes.image (same ∙ on.file));
  mask = λ same. on.kept (Bilevel Mask) (passes.mask (same ∙ ap {A = ℕ} Some on.file));
}

-- the fault for an element at a later state of the test
fault_same : {X : Type 0} (fault : ℕ → List ℕ → X → Option TagFault) (old new : FileTest) (x : X) → GoesOn old new
    → fault old.file old.bytes.now x ≡ fault new.file new.bytes.now x
fault_same fault old new x on =
    ap {A = ℕ} (λ n. fault n old.bytes.now x) (sym on.file) ∙ ap {A = List ℕ} (λ bytes. fault new.file bytes x) (sym on.bytes)

-- a file was tested for its uses in the first i elements of a list, pages or layers, and it passed
pub record AreTested (X : Type 0) (fault : ℕ → List ℕ → X → Option TagFault) (passes : FileTest → X → Type 0) (xs : List X) (i : ℕ) (start now : FileTest) : Type 0 where
  pub goes_on : GoesOn start now
  pub ahead : first_some (fault start.file start.bytes.now) xs ≡ first_some (fault start.file start.bytes.now) (drop i xs)
  pub passed : All (passes now) (take i xs)

-- one more
pub tested_more : (X : Type 0) (fault : ℕ → List ℕ → X → Option TagFault) (passes : FileTest → X → Type 0) (xs : List X) (i : ℕ) (start now next : FileTest) (d : X)
    → AreTested X fault passes xs i start now → ((x : X) → passes now x → passes next x) → i < length xs → GoesOn now next
    → fault now.file now.bytes.now (get_or xs i d) ≡ None → passes next (get_or xs i d) → AreTested X fault passes xs (i + 1) start next
tested_more X fault passes xs i start now next d are still within on none own = record {
  goes_on = goes_on_then start now next are.goes_on on;
  ahead = first_some-on (fault start.file start.bytes.now) xs i d within are.ahead (sym (fault_same fault start now (get_or xs i d) are.goes_on ∙ none));
  passed = All-more (passes next) xs i d within (All-weaker (passes now) (passes next) still (take i xs) are.passed) own;
}

-- it is refused for the next one
pub tested_refused : (X : Type 0) (fault : ℕ → List ℕ → X → Option TagFault) (passes : FileTest → X → Type 0) (xs : List X) (i : ℕ) (start now : FileTest) (d : X) (e : TestFault)
    → AreTested X fault passes xs i start now → i < length xs → Refuses e (fault now.file now.bytes.now (get_or xs i d)) → Refuses e (first_some (fault start.file start.bytes.now) xs)
tested_refused X fault passes xs i start now d e are within told =
    told_found e (fault start.file start.bytes.now) xs i d within are.ahead (told_same e _ _ (fault_same fault start now (get_or xs i d) are.goes_on) told)

-- all of them
pub tested_all : (X : Type 0) (fault : ℕ → List ℕ → X → Option TagFault) (passes : FileTest → X → Type 0) (xs : List X) (i : ℕ) (start now : FileTest)
    → AreTested X fault passes xs i start now → length xs ≤ i → i ≤ length xs → (first_some (fault start.file start.bytes.now) xs ≡ None) × All (passes now) xs
tested_all X fault passes xs i start now are reached within =
    (sym (first_some-end (fault start.file start.bytes.now) xs i reached within are.ahead), All-same (passes now) xs (take i xs) (sym (take_all i xs reached)) are.passed)

-- what holds of a page whose layers all pass
abbrev pub PassesOn : FileTest → PageData → Type 0
PassesOn test page = All (PassesIn test) page.layers

pub page_still : (old new : FileTest) (page : PageData) → GoesOn old new → PassesOn old page → PassesOn new page
page_still old new page on all = All-weaker (PassesIn old) (PassesIn new) (λ layer. passes_still old new layer on) page.layers all

-- the records of a file that passed for all its uses by a plan
pub records_of : (plan : PlanData) (test : FileTest) → IsTested test
    → All (λ page. All (PassesIn test) page.layers) plan.pages
    → HasRecords plan test.file test.bytes.now test.found
records_of plan test are all =
    All-weaker (λ (page : PageData). All (PassesIn test) page.layers) (λ (page : PageData). All (IsRecorded test.file test.bytes.now test.found) page.layers)
    (λ page. All-weaker (PassesIn test) (IsRecorded test.file test.bytes.now test.found) (λ layer passes. record {
      image = λ same. are.each (use_of layer) (passes.image same);
      mask = λ same. are.each (Bilevel Mask) (passes.mask same);
    }) page.layers) plan.pages all

pub records_for : (plan : PlanData) (old new : FileTest) → GoesOn old new
    → All (λ page. All (PassesIn new) page.layers) plan.pages
    → HasRecords plan old.file old.bytes.now new.found
records_for plan old new on all =
    let P : ℕ → Type 0 = λ n. HasRecords plan n new.bytes.now new.found in
    let Q : List ℕ → Type 0 = λ bytes. HasRecords plan old.file bytes new.found in
    subst Q on.bytes (subst P on.file (records_of plan new on.tested all))

-- ---- one more file

pub none_recorded : (plan : PlanData) (files : FilesData) → files ≡ record { bytes = []; found = [] }
    → AreRecorded plan files
none_recorded plan files none = subst {A = FilesData} (AreRecorded plan) (sym none) (record { count = refl; each = λ file other less. absurd (omega arith) })

pub recorded_more : (plan : PlanData) (files new : FilesData) (file : ℕ) (bytes : List ℕ)
    (findings : Findings) → AreRecorded plan files → length files.bytes ≡ file
    → HasRecords plan file bytes findings
    → new ≡ record { bytes = files.bytes ++ bytes ∷ []; found = files.found ++ findings ∷ [] }
    → AreRecorded plan new
recorded_more plan files new file bytes findings are count has is = subst {A = FilesData} (AreRecorded plan) (sym is) (record {
  count = length_push files.found findings ∙ ap {A = ℕ} (λ n. n + 1) are.count ∙ sym (length_push files.bytes bytes);
  each = λ k other less.
      (let long = length_push files.found findings in
      let same = are.count in
      elim (cases_lt k (length files.found)) [
        | inl before ↦ moved _ _ _ _ k (get_or_append_left files.bytes (bytes ∷ []) [] k (omega arith)) (get_or_append_left files.found (findings ∷ []) other k before) (are.each k other before)
        | inr last ↦
            (let here : length files.found ≡ k = omega arith in
            let there : length files.bytes ≡ k = omega arith in
            let at : file ≡ k = omega arith in
            moved _ _ _ _ k (get_or_push files.bytes bytes [] k there) (get_or_push files.found findings other k here) (subst {A = ℕ} (λ n. HasRecords plan n bytes findings) at has))
      ]);
})
  where
    moved : (b c : List ℕ) (s t : Findings) (k : ℕ) → b ≡ c → s ≡ t → HasRecords plan k c t
        → HasRecords plan k b s
    moved b c s t k is found h =
        let P : List ℕ → Type 0 = λ l. HasRecords plan k l s in
        let Q : Findings → Type 0 = λ f. HasRecords plan k c f in
        subst P (sym is) (subst Q (sym found) h)

-- ---- all layers of a plan

pub layers_found : (plan : PlanData) (files : FilesData) → IsPlan plan
    → length files.bytes ≡ length plan.files → AreRecorded plan files → HaveLayers plan files
layers_found plan files is count are = record {
  each = λ p page_or below l layer_or under.
      (let page : PageData = slice_index_or plan.pages p page_or in
      let layer : LayerData = slice_index_or page.layers l layer_or in
      let on_page = is.pages p page_or below in
      let own : planned.IsLayer (length plan.files) layer = on_page.layers l layer_or under in
      let same = are.count in
      record {
        image = (let inside : layer.file < length files.found = omega (arith, own.file) in
            record {
              within = inside;
              is = λ other.
                  (are.each layer.file other inside p page_or below l layer_or under).image refl;
            });
        mask = λ mask there.
            (let known : mask < length plan.files = at_some layer.mask mask there own.mask in
            let inside : mask < length files.found = omega arith in
            record {
              within = inside;
              is = λ other.
                  (are.each mask other inside p page_or below l layer_or under).mask there;
            });
      });
}
  where
    at_some : (o : Option ℕ) (m : ℕ) → o ≡ Some m → IfSome o (λ m. m < length plan.files)
        → m < length plan.files
    at_some o m e h = subst {A = Option ℕ} (λ o. IfSome o (λ m. m < length plan.files)) e h

-- what holds of each layer of a page of the plan holds of each of these
pub planned_each : (P : LayerData → Type 0) (plan other : PlanData) (page i : ℕ) (planned : List LayerData)
    (d : LayerData) → ((item : PageData) → slice_get plan.pages page ≡ Some item → All P item.layers)
    → other ≡ plan → planned ≡ planned_layers other page → i < length planned → P (get_or planned i d)
planned_each P plan other page i planned d each other_is planned_is within =
    by_page (slice_get plan.pages page) refl (planned_is ∙ ap {A = PlanData} (λ p. planned_layers p page) other_is)
  where
    by_page : (o : Option PageData) → slice_get plan.pages page ≡ o
        → planned ≡ option_map_or (λ p. p.layers) o [] → P (get_or planned i d)
    by_page None there is = (let none = ap {A = List LayerData} length is in absurd (omega arith))
    by_page (Some item) there is =
        let long = ap {A = List LayerData} length is in
        let below : i < length item.layers = omega arith in
        subst {A = List LayerData} (λ ls. P (get_or ls i d)) (sym is) (each item there i d below)

-- each of the plan's layers of a page
pub planned_found : (plan other : PlanData) (files : FilesData) (page i : ℕ) (planned : List LayerData)
    (d : LayerData) → HaveLayers plan files → other ≡ plan → planned ≡ planned_layers other page
    → i < length planned
    → HasLayer files (get_or planned i d)
planned_found plan other files page i planned d have other_is planned_is within =
    planned_each (HasLayer files) plan other page i planned d (λ item there.
    let at : get_or plan.pages page item ≡ item = get_or_from_slice_get plan.pages page item item there in
    subst {A = PageData} (λ p. All (HasLayer files) p.layers) at (have.each page item (slice_get_within plan.pages page item there)))
    other_is planned_is within
