-- Files of a shelf whose contents are unknown: some files exist of which the same verdict holds.
use Rattle.std.proofs.Common.{inl, inr, ◌≡◌, ◌≢◌, ℕ, zero, suc, ◌+◌, ◌<◌, ◌≤◌, Bool, true, false, cond, List, [], ◌∷◌, ◌++◌, length, take, refl, ap, sym, ◌∙◌, subst, replicate, arith}
use Rattle.std.specs.Prelude.{IfSome, IsSomeAnd, Option, Some, None, nat_lt, nat_eq, option_map, slice_index_or, sum_by}
use Rattle.std.specs.Cmp.Lexicographic.{bytes_decides, pointwise}
use Rattle.std.specs.Option.{option_or}
use Rattle.std.proofs.Math.Seq.{take-append_seam, take-length}
use Rattle.std.proofs.lemmas.Bool.{cases_lt}
use Rattle.std.proofs.lemmas.Bool.Decides.{nat_tests}
use Rattle.std.proofs.lemmas.List.{append_cancel_left, get_or_append_left, get_or_push, length-replicate, length-take-le, length_push, take-append-le, take_more}
use Rattle.pr_base.specs.declared.fault.FileFault.{FileFault}
use Rattle.pr_base.specs.declared.fault.TagFault.{TagFault}
use Rattle.pr_base.specs.declared.fault.FaultKind.TheVariants.{TooLong}
use Rattle.pr_ports.specs.Shelf.{held_at}
use Rattle.plan_parts.specs.Words.{AreDistinct}
use Rattle.plan_json.specs.Data.{PlanData}
use Rattle.press_job.specs.declared.fit.Misfit.{Misfit}
use Rattle.press_job.specs.declared.refusal.Refusal.{Refusal}
use Rattle.press_job.specs.declared.refusal.Refusal.TheVariants.{File}
use Rattle.press_job.specs.Layers.{bytes_at}
use Rattle.press_job.specs.Tests.{ArePassed, fault_of_file, fault_of_layers}
use Rattle.press_job.specs.Verdict.{AreFirst, AreSound, IsFirstFault, OfFiles, WasFound, files_in, first_files, limit_behind, misfit_refusal, named_fault, path_of, refusal_of, verdict_before, verdict_on, verdict_on_files}
use Rattle.press_job.proofs.LoadLemmas.{first_more, no_files_first, refused_told}

abbrev Held : Type 0
Held = List (List ℕ × List ℕ)

pub of_files-weaker : (held : Option Held) (P Q : Held → Type 0) → ((files : Held) → P files → Q files)
    → OfFiles held P → OfFiles held Q
of_files-weaker None P Q step h = (h.0, step h.0 h.1)
of_files-weaker (Some files) P Q step h = step files h

-- ---- files at the paths of their names

abbrev paired : List ℕ → List (List ℕ) → List (List ℕ) → Held
paired folder [] files = []
paired folder (name ∷ names) [] = []
paired folder (name ∷ names) (bytes ∷ files) = (folder ++ 47 ∷ name, bytes) ∷ paired folder names files

abbrev head_of : List ℕ → List ℕ
head_of [] = []
head_of (x ∷ xs) = xs

paths_apart : (folder a b : List ℕ) → a ≢ b → pointwise nat_eq (folder ++ 47 ∷ a) (folder ++ 47 ∷ b) ≡ false
paths_apart folder a b apart = by (pointwise nat_eq (folder ++ 47 ∷ a) (folder ++ 47 ∷ b)) refl where
  by : (r : Bool) → pointwise nat_eq (folder ++ 47 ∷ a) (folder ++ 47 ∷ b) ≡ r
      → pointwise nat_eq (folder ++ 47 ∷ a) (folder ++ 47 ∷ b) ≡ false
  by false e = e
  by true e = absurd (apart (ap head_of (append_cancel_left folder (47 ∷ a) (47 ∷ b) ((bytes_decides (folder ++ 47 ∷ a) (folder ++ 47 ∷ b)).0 e))))

path_itself : (path : List ℕ) → pointwise nat_eq path path ≡ true
path_itself path = (bytes_decides path path).1 refl

found_first : (test : Bool) (bytes : List ℕ) (rest : Option (List ℕ)) → test ≡ true
    → cond {A = Option (List ℕ)} test (Some bytes) rest ≡ Some bytes
found_first true bytes rest e = refl
found_first false bytes rest e = absurd cc

found_later : (test : Bool) (bytes : List ℕ) (rest : Option (List ℕ)) → test ≡ false
    → cond {A = Option (List ℕ)} test (Some bytes) rest ≡ rest
found_later true bytes rest e = absurd cc
found_later false bytes rest e = refl

tail_distinct : (name : List ℕ) (names : List (List ℕ)) → AreDistinct (name ∷ names) → AreDistinct names
tail_distinct name names distinct i j d less within = distinct (suc i) (suc j) d (omega arith) (omega arith)

paired_at : (folder : List ℕ) (names files : List (List ℕ)) (k : ℕ) → AreDistinct names → k < length names
    → k < length files
    → held_at (paired folder names files) (folder ++ 47 ∷ slice_index_or names k [])
    ≡ Some (slice_index_or files k [])
paired_at folder [] files k distinct named within = absurd (omega arith)
paired_at folder (name ∷ names) [] k distinct named within = absurd (omega arith)
paired_at folder (name ∷ names) (bytes ∷ files) zero distinct named within =
    found_first (pointwise nat_eq (folder ++ 47 ∷ name) (folder ++ 47 ∷ name)) bytes _ (path_itself (folder ++ 47 ∷ name))
paired_at folder (name ∷ names) (bytes ∷ files) (suc k) distinct named within =
    let other = slice_index_or names k [] in
    found_later (pointwise nat_eq (folder ++ 47 ∷ name) (folder ++ 47 ∷ other)) bytes _
    (paths_apart folder name other (distinct 0 (suc k) [] (omega arith) (omega arith)))
    ∙ paired_at folder names files k (tail_distinct name names distinct) (omega arith) (omega arith)

-- ---- the first files

-- each of these first files is no longer than the limit after those before it allows
pub record AreWithin (files : List (List ℕ)) : Type 0 where
  pub each : (k : ℕ) → k < length files
      → length (bytes_at files k) ≤ limit_behind (sum_by length (take k files))

pub none_within : (files : List (List ℕ)) → files ≡ [] → AreWithin files
none_within files none = record { each = λ k less. (let long = ap length none in absurd (omega arith)) }

pub within_more : (files : List (List ℕ)) (bytes : List ℕ) → AreWithin files
    → length bytes ≤ limit_behind (sum_by length files) → AreWithin (files ++ bytes ∷ [])
within_more files bytes are fits = record {
  each = λ k less.
      (let long = length_push files bytes in
      elim (cases_lt k (length files)) [
        | inl before ↦ same _ _ _ _ (get_or_append_left files (bytes ∷ []) [] k before) (take-append-le k files (bytes ∷ []) (omega arith)) (are.each k before)
        | inr last ↦
            (let here : length files ≡ k = omega arith in
            same _ _ _ _ (get_or_push files bytes [] k here) (ap (λ n. take n (files ++ bytes ∷ [])) (sym here) ∙ take-append_seam files (bytes ∷ [])) fits)
      ]);
}
  where
    same : (b c : List ℕ) (s t : List (List ℕ)) → b ≡ c → s ≡ t → length c ≤ limit_behind (sum_by length t)
        → length b ≤ limit_behind (sum_by length s)
    same b c s t is front h =
        let P : List ℕ → Type 0 = λ l. length l ≤ limit_behind (sum_by length s) in
        let Q : List (List ℕ) → Type 0 = λ l. length c ≤ limit_behind (sum_by length l) in
        subst P (sym is) (subst Q (sym front) h)

-- files held at their paths, each within its limit and without a fault, are the first files
first_in : (plan : PlanData) (folder : List ℕ) (held : Held) (files : List (List ℕ))
    → ((k : ℕ) → k < length files → held_at held (path_of plan folder k) ≡ Some (bytes_at files k))
    → AreWithin files → ArePassed plan files → AreFirst plan folder held files
first_in plan folder held files there within passed =
    let P : List (List ℕ) → Type 0 = λ fs. AreFirst plan folder held fs in
    subst P (take-length files) (up_to (length files) (omega arith)) where
      up_to : (n : ℕ) → n ≤ length files → AreFirst plan folder held (take n files)
      up_to zero most = no_files_first plan folder held
      up_to (suc n) most =
          let before = up_to n (omega arith) in
          let bytes = bytes_at files n in
          let long : length (take n files) ≡ n = length-take-le n files (omega arith) in
          let P : List (List ℕ) → Type 0 = λ fs. AreFirst plan folder held fs in
          let e : n + 1 ≡ suc n = omega arith in
          subst P (sym (take_more files n [] (omega arith)) ∙ ap (λ k. take k files) e)
          (first_more plan folder held (take n files) bytes (limit_behind (sum_by length (take n files))) before refl
          (ap (λ k. held_at held (path_of plan folder k)) long ∙ there n (omega arith)) (within.each n (omega arith))
          (ap (λ k. fault_of_file plan k bytes) long ∙ passed.each n (omega arith)))

-- some files exist of which these are the first; they are the held files where known
pub are_first : (plan : PlanData) (folder : List ℕ) (held : Option Held) (files : List (List ℕ))
    → AreDistinct plan.files → length files ≤ length plan.files
    → IfSome held (λ all. AreFirst plan folder all files) → AreWithin files → ArePassed plan files
    → OfFiles held (λ all. AreFirst plan folder all files)
are_first plan folder (Some all) files distinct count first within passed = first
are_first plan folder None files distinct count first within passed =
    let all = paired folder plan.files files in
    (all, first_in plan folder all files (λ k less. paired_at folder plan.files files k distinct (omega arith) less) within passed)

-- ---- a file that is refused

-- what is found of a file that is too long
pub long_found : (plan : PlanData) (folder : List ℕ) (held : Option Held) (limit file : ℕ) (fault : FileFault)
    → IfSome held (λ files. IsSomeAnd (held_at files (path_of plan folder file))
    (λ bytes. limit < length bytes)) → fault ≡ named_fault plan file 0 TooLong
    → WasFound plan folder held limit file fault
long_found plan folder held limit file fault longer is = by held longer where
  long_is : (found : Option (List ℕ)) → IsSomeAnd found (λ bytes. limit < length bytes)
      → verdict_on plan folder limit file found ≡ Some (File fault)
  long_is None long = absurd long
  long_is (Some bytes) long =
      let test : nat_lt limit (length bytes) ≡ true = grind (arith, nat_tests) in
      ap (λ b. cond {A = Option Refusal} b (Some (File (named_fault plan file 0 TooLong))) (option_map (refusal_of plan file) (fault_of_file plan file bytes))) test ∙ ap (λ f. Some (File f)) (sym is)

  by : (held : Option Held)
      → IfSome held (λ files. IsSomeAnd (held_at files (path_of plan folder file))
      (λ bytes. limit < length bytes)) → WasFound plan folder held limit file fault
  by None longer =
      let long : length (replicate {A = ℕ} (limit + 1) 0) ≡ limit + 1 = length-replicate (limit + 1) 0 in
      record {
        found = Some (replicate (limit + 1) 0);
        is_held = tt;
        refused = long_is
            (Some (replicate (limit + 1) 0)) (omega (arith, long));
      }
  by (Some files) longer = record { found = held_at files (path_of plan folder file); is_held = refl; refused = long_is (held_at files (path_of plan folder file)) longer }

-- and of a file that has a fault
pub fault_found : (plan : PlanData) (folder : List ℕ) (held : Option Held) (limit file : ℕ) (bytes : List ℕ)
    (tags : TagFault) (fault : FileFault)
    → IfSome held (λ files. held_at files (path_of plan folder file) ≡ Some bytes) → length bytes ≤ limit
    → fault_of_file plan file bytes ≡ Some tags
    → fault ≡ named_fault plan file tags.tag tags.kind → WasFound plan folder held limit file fault
fault_found plan folder held limit file bytes tags fault there within faulty is = record {
  found = Some bytes;
  is_held = there;
  refused =
      let test : nat_lt limit (length bytes) ≡ false = grind (arith, nat_tests) in
      ap (λ b. cond {A = Option Refusal} b (Some (File (named_fault plan file 0 TooLong))) (option_map (refusal_of plan file) (fault_of_file plan file bytes))) test
      ∙ ap (option_map (refusal_of plan file)) faulty ∙ ap (λ f. Some (File f)) (sym is);
}

-- the refusal of a file for what was found is the verdict on all
pub refused_of : (plan : PlanData) (folder : List ℕ) (held : Option Held) (files : List (List ℕ))
    (file limit : ℕ) (fault : FileFault) → AreDistinct plan.files → length files ≡ file
    → file < length plan.files → IfSome held (λ all. AreFirst plan folder all files) → AreWithin files
    → ArePassed plan files → limit ≡ limit_behind (sum_by length files)
    → WasFound plan folder held limit file fault
    → OfFiles held (λ all. verdict_before plan folder all (length plan.files) ≡ Some (File fault))
refused_of plan folder (Some all) files file limit fault distinct count less first within passed limit_is was =
    refused_told plan folder (Some all) files file limit fault count less first limit_is (ap (verdict_on plan folder limit file) was.is_held ∙ was.refused)
refused_of plan folder None files file limit fault distinct count less first within passed limit_is was = by was.found was.refused where
  by : (found : Option (List ℕ)) → verdict_on plan folder limit file found ≡ Some (File fault)
      → OfFiles None (λ all. verdict_before plan folder all (length plan.files) ≡ Some (File fault))
  by None refused = absurd cc
  by (Some bytes) refused =
      let more = files ++ bytes ∷ [] in
      let all = paired folder plan.files more in
      let long = length_push files bytes in
      let at : (k : ℕ) → k < length more → held_at all (path_of plan folder k) ≡ Some (bytes_at more k) = λ k within_more. paired_at folder plan.files more k distinct (omega arith) within_more in
      let before : AreFirst plan folder all files =
      first_in plan folder all files (λ k below. at k (omega arith) ∙ ap (λ b. Some b) (get_or_append_left files (bytes ∷ []) [] k below)) within passed in
      let here : held_at all (path_of plan folder file) ≡ Some bytes = at file (omega arith) ∙ ap (λ b. Some b) (get_or_push files bytes [] file count) in
      (all, refused_told plan folder (Some all) files file limit fault count less before limit_is (ap (verdict_on plan folder limit file) here ∙ refused))

-- ---- the verdict on a plan's files

-- the verdict on loaded files is the verdict on the layers
judged_is : (plan : PlanData) (folder : List ℕ) (all : Held) (files : List (List ℕ))
    → length files ≡ length plan.files → AreFirst plan folder all files
    → verdict_on_files plan folder all ≡ option_map (misfit_refusal plan) (fault_of_layers plan files)
judged_is plan folder all files count are =
    let last = option_map (misfit_refusal plan) (fault_of_layers plan (files_in plan folder all)) in
    ap (λ before. option_or before last) (ap (verdict_before plan folder all) (sym count) ∙ are.pass)
    ∙ ap (λ fs. option_map (misfit_refusal plan) (fault_of_layers plan fs)) (ap (first_files plan folder all) (sym count) ∙ sym are.files_are)

-- all files were loaded, and the layers fit
pub sound_of : (plan : PlanData) (folder : List ℕ) (held : Option Held) (files : List (List ℕ))
    → length files ≡ length plan.files
    → OfFiles held (λ all. AreFirst plan folder all files) → fault_of_layers plan files ≡ None
    → OfFiles held (AreSound plan folder files)
sound_of plan folder held files count first fit =
    of_files-weaker held (λ all. AreFirst plan folder all files) (AreSound plan folder files) (λ all are. record {
      files_are = are.files_are ∙ ap (first_files plan folder all) count;
      pass = judged_is plan folder all files count are ∙ ap (option_map (misfit_refusal plan)) fit;
    }) first

-- all files were loaded, and a layer does not fit
pub misfit_of : (plan : PlanData) (folder : List ℕ) (held : Option Held) (files : List (List ℕ))
    (misfit : Misfit) (fault : FileFault) → length files ≡ length plan.files
    → OfFiles held (λ all. AreFirst plan folder all files) → fault_of_layers plan files ≡ Some misfit
    → fault ≡ named_fault plan misfit.file misfit.tag misfit.kind
    → OfFiles held (IsFirstFault plan folder fault)
misfit_of plan folder held files misfit fault count first unfit is =
    of_files-weaker held (λ all. AreFirst plan folder all files) (IsFirstFault plan folder fault) (λ all are.
    judged_is plan folder all files count are ∙ ap (option_map (misfit_refusal plan)) unfit ∙ ap (λ f. Some (File f)) (sym is)) first

-- a file was refused
pub file_of : (plan : PlanData) (folder : List ℕ) (held : Option Held) (fault : FileFault)
    → OfFiles held (λ all. verdict_before plan folder all (length plan.files) ≡ Some (File fault))
    → OfFiles held (IsFirstFault plan folder fault)
file_of plan folder held fault refused =
    of_files-weaker held (λ all. verdict_before plan folder all (length plan.files) ≡ Some (File fault)) (IsFirstFault plan folder fault) (λ all is.
    ap (λ before. option_or before (option_map (misfit_refusal plan) (fault_of_layers plan (files_in plan folder all)))) is) refused
