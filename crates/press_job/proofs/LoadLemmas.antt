-- Files loaded one after the other, and the verdict on them.
use Rattle.std.proofs.Common.{inl, inr, ◌≡◌, ℕ, zero, suc, ◌+◌, ◌-◌, ◌<◌, ◌≤◌, Bool, true, false, cond, List, [], ◌∷◌, ◌++◌, length, refl, ap, sym, ◌∙◌, subst, arith}
use Rattle.std.specs.Prelude.{IfSome, Option, Some, None, Err, nat_lt, option_map, sum_by, unwrap_or}
use Rattle.std.specs.List.{range_with_len}
use Rattle.std.specs.Option.{option_or}
use Rattle.std.proofs.lemmas.Bool.{cases_lt}
use Rattle.std.proofs.lemmas.Bool.Decides.{nat_tests}
use Rattle.std.proofs.lemmas.List.{get_or_append_left, get_or_push, length_push, map-id}
use Rattle.std.proofs.lemmas.List.FromFn.{map-range_with_len_more}
use Rattle.std.proofs.lemmas.List.Sums.{sum_by-cons}
use Rattle.pr_base.specs.declared.fault.FileFault.{FileFault}
use Rattle.pr_base.specs.declared.fault.TagFault.{TagFault}
use Rattle.pr_ports.specs.Shelf.{held_at}
use Rattle.plan_json.specs.Data.{PlanData}
use Rattle.press_job.specs.declared.refusal.Refusal.{Refusal}
use Rattle.press_job.specs.declared.refusal.Refusal.TheVariants.{File, Shelf, Memory}
use Rattle.pr_base.specs.First.{first_some}
use Rattle.press_job.specs.Tests.{ArePassed, fault_of_file}
use Rattle.press_job.specs.Verdict.{AreFirst, IfFile, first_files, held_bytes, limit_behind, path_of, verdict_at, verdict_before, verdict_on}

-- ---- one more element

range_more : (n : ℕ) → range_with_len 0 (n + 1) ≡ range_with_len 0 n ++ n ∷ []
range_more n =
    sym (map-id (range_with_len 0 (n + 1))) ∙ map-range_with_len_more (λ k. k) 0 n n (omega arith) ∙ ap (λ xs. xs ++ n ∷ []) (map-id (range_with_len 0 n))

option_or-assoc : {B : Type 0} (a b c : Option B) → option_or a (option_or b c) ≡ option_or (option_or a b) c
option_or-assoc None b c = refl
option_or-assoc (Some x) b c = refl

option_or-none : {B : Type 0} (a : Option B) → option_or a None ≡ a
option_or-none None = refl
option_or-none (Some x) = refl

first_some-append : {A B : Type 0} (f : A → Option B) (xs ys : List A)
    → first_some f (xs ++ ys) ≡ option_or (first_some f xs) (first_some f ys)
first_some-append f [] ys = refl
first_some-append f (x ∷ xs) ys = ap (option_or (f x)) (first_some-append f xs ys) ∙ option_or-assoc (f x) (first_some f xs) (first_some f ys)

-- the verdict on one more file
verdict_before-more : (plan : PlanData) (folder : List ℕ) (held : List (List ℕ × List ℕ)) (n : ℕ)
    → verdict_before plan folder held (n + 1)
    ≡ option_or (verdict_before plan folder held n) (verdict_at plan folder held n)
unfolding verdict_before
verdict_before-more plan folder held n =
    ap (first_some (verdict_at plan folder held)) (range_more n) ∙ first_some-append (verdict_at plan folder held) (range_with_len 0 n) (n ∷ [])
    ∙ ap (option_or (first_some (verdict_at plan folder held) (range_with_len 0 n))) (option_or-none (verdict_at plan folder held n))

verdict_stays : (plan : PlanData) (folder : List ℕ) (held : List (List ℕ × List ℕ)) (n k : ℕ)
    (refusal : Refusal) → verdict_before plan folder held n ≡ Some refusal
    → verdict_before plan folder held (n + k) ≡ Some refusal
verdict_stays plan folder held n zero refusal is = (let e : n + 0 ≡ n = omega arith in ap (verdict_before plan folder held) e ∙ is)
verdict_stays plan folder held n (suc k) refusal is =
    let e : n + suc k ≡ n + k + 1 = omega arith in
    ap (verdict_before plan folder held) e ∙ verdict_before-more plan folder held (n + k)
    ∙ ap (λ v. option_or v (verdict_at plan folder held (n + k))) (verdict_stays plan folder held n k refusal is)

-- the first refusal is the verdict on all
verdict_stops : (plan : PlanData) (folder : List ℕ) (held : List (List ℕ × List ℕ)) (n count : ℕ)
    (refusal : Refusal) → n < count → verdict_before plan folder held n ≡ None
    → verdict_at plan folder held n ≡ Some refusal → verdict_before plan folder held count ≡ Some refusal
verdict_stops plan folder held n count refusal within before here =
    let e : n + 1 + (count - (n + 1)) ≡ count = omega arith in
    ap (verdict_before plan folder held) (sym e)
    ∙ verdict_stays plan folder held (n + 1) (count - (n + 1)) refusal
    (verdict_before-more plan folder held n ∙ ap (λ v. option_or v (verdict_at plan folder held n)) before ∙ here)

-- ---- one more file

-- the verdict on the file after the first ones
at_first : (plan : PlanData) (folder : List ℕ) (held : List (List ℕ × List ℕ)) (files : List (List ℕ))
    (limit : ℕ) → AreFirst plan folder held files → limit ≡ limit_behind (sum_by length files)
    → verdict_at plan folder held (length files)
    ≡ verdict_on plan folder limit (length files) (held_at held (path_of plan folder (length files)))
unfolding verdict_at
at_first plan folder held files limit are limit_is =
    ap (λ l. verdict_on plan folder l (length files) (held_at held (path_of plan folder (length files)))) (ap (λ fs. limit_behind (sum_by length fs)) (sym are.files_are) ∙ sym limit_is)

pub no_files_first : (plan : PlanData) (folder : List ℕ) (held : List (List ℕ × List ℕ))
    → AreFirst plan folder held []
unfolding first_files verdict_before
no_files_first plan folder held = record { files_are = refl; pass = refl }

first_files-more : (plan : PlanData) (folder : List ℕ) (held : List (List ℕ × List ℕ)) (n : ℕ)
    → first_files plan folder held (n + 1) ≡ first_files plan folder held n
    ++ held_bytes plan folder held n ∷ []
unfolding first_files
first_files-more plan folder held n = map-range_with_len_more (held_bytes plan folder held) 0 n n (omega arith)

pub first_more : (plan : PlanData) (folder : List ℕ) (held : List (List ℕ × List ℕ)) (files : List (List ℕ))
    (bytes : List ℕ) (limit : ℕ) → AreFirst plan folder held files
    → limit ≡ limit_behind (sum_by length files)
    → held_at held (path_of plan folder (length files)) ≡ Some bytes → length bytes ≤ limit
    → fault_of_file plan (length files) bytes ≡ None
    → AreFirst plan folder held (files ++ bytes ∷ [])
first_more plan folder held files bytes limit are limit_is there within pass =
    let n = length files in
    let long : length (files ++ bytes ∷ []) ≡ n + 1 = length_push files bytes in
    let verdict : verdict_at plan folder held n ≡ None =
    at_first plan folder held files limit are limit_is ∙ ap (verdict_on plan folder limit n) there ∙ passed (nat_lt limit (length bytes)) _ (fault_of_file plan n bytes) _ (not_above limit (length bytes) within) pass in
    record {
      files_are =
          ap (λ fs. fs ++ bytes ∷ []) are.files_are ∙ ap (λ b. first_files plan folder held n ++ b ∷ []) (sym (ap (λ o. unwrap_or o []) there))
          ∙ sym (first_files-more plan folder held n) ∙ ap (first_files plan folder held) (sym long);
      pass =
          ap (verdict_before plan folder held) long ∙ verdict_before-more plan folder held n ∙ ap (λ v. option_or v (verdict_at plan folder held n)) are.pass ∙ verdict;
    }
  where
    not_above : (m k : ℕ) → k ≤ m → nat_lt m k ≡ false
    not_above m k h = grind (arith, nat_tests)

    passed : (long : Bool) (refusal : Refusal) (o : Option TagFault) (f : TagFault → Refusal) → long ≡ false
        → o ≡ None → cond {A = Option Refusal} long (Some refusal) (option_map f o) ≡ None
    passed true refusal o f e none = cc
    passed false refusal o f e none = ap (option_map f) none

-- the same where the contents of the shelf may be known
pub first_more_told : (plan : PlanData) (folder : List ℕ) (held : Option (List (List ℕ × List ℕ)))
    (files : List (List ℕ)) (bytes : List ℕ) (file limit : ℕ) → length files ≡ file
    → IfSome held (λ all. AreFirst plan folder all files) → limit ≡ limit_behind (sum_by length files)
    → IfSome held (λ all. held_at all (path_of plan folder file) ≡ Some bytes) → length bytes ≤ limit
    → fault_of_file plan file bytes ≡ None
    → IfSome held (λ all. AreFirst plan folder all (files ++ bytes ∷ []))
first_more_told plan folder None files bytes file limit count are limit_is there within pass = tt
first_more_told plan folder (Some held) files bytes file limit count are limit_is there within pass =
    first_more plan folder held files bytes limit are limit_is
    (ap (λ n. held_at held (path_of plan folder n)) count ∙ there) within (ap (λ n. fault_of_file plan n bytes) count ∙ pass)

-- one more file passes its tests
pub passed_more : (plan : PlanData) (files : List (List ℕ)) (bytes : List ℕ) (file : ℕ) → length files ≡ file
    → ArePassed plan files → fault_of_file plan file bytes ≡ None → ArePassed plan (files ++ bytes ∷ [])
passed_more plan files bytes file count are pass = record {
  each = λ k less.
      (let long = length_push files bytes in
      elim (cases_lt k (length files)) [
        | inl before ↦ ap (fault_of_file plan k) (get_or_append_left files (bytes ∷ []) [] k before) ∙ are.each k before
        | inr last ↦
            (let here : length files ≡ k = omega arith in
            let same : file ≡ k = sym count ∙ here in
            ap (fault_of_file plan k) (get_or_push files bytes [] k here) ∙ ap (λ n. fault_of_file plan n bytes) (sym same) ∙ pass)
      ]);
}

-- ---- refusals

-- an implication between facts about the fault of a refused file
pub IfFile-weaker : (A B : Type 0) (refusal : Refusal) (P Q : FileFault → Type 0)
    → ((fault : FileFault) → P fault → Q fault) → IfFile {T = A} (Err refusal) P
    → IfFile {T = B} (Err refusal) Q
IfFile-weaker A B (File fault) P Q step h = step fault h
IfFile-weaker A B (Shelf path) P Q step h = tt
IfFile-weaker A B Memory P Q step h = tt

-- the refusal of a file is the verdict on all
pub refused_told : (plan : PlanData) (folder : List ℕ) (held : Option (List (List ℕ × List ℕ)))
    (files : List (List ℕ)) (file limit : ℕ) (fault : FileFault) → length files ≡ file
    → file < length plan.files → IfSome held (λ all. AreFirst plan folder all files)
    → limit ≡ limit_behind (sum_by length files)
    → IfSome held (λ all. verdict_on plan folder limit file (held_at all (path_of plan folder file))
    ≡ Some (File fault))
    → IfSome held (λ all. verdict_before plan folder all (length plan.files) ≡ Some (File fault))
refused_told plan folder None files file limit fault count within are limit_is refused = tt
refused_told plan folder (Some held) files file limit fault count within are limit_is refused =
    verdict_stops plan folder held file (length plan.files) (File fault) within
    (ap (verdict_before plan folder held) (sym count) ∙ are.pass)
    (ap (verdict_at plan folder held) (sym count) ∙ at_first plan folder held files limit are limit_is
    ∙ ap (λ n. verdict_on plan folder limit n (held_at held (path_of plan folder n))) count ∙ refused)

-- ---- the invariant of loading

-- `file` files, of `loaded` bytes together, are loaded and pass
pub record AreLoaded (plan : PlanData) (folder : List ℕ) (held : Option (List (List ℕ × List ℕ)))
    (files : List (List ℕ)) (file loaded : ℕ) : Type 0 where
  pub count : length files ≡ file
  pub room : sum_by length files ≡ loaded
  pub within : loaded ≤ 3221225472
  pub passed : ArePassed plan files
  pub first : IfSome held (λ all. AreFirst plan folder all files)

pub none_loaded : (plan : PlanData) (folder : List ℕ) (held : Option (List (List ℕ × List ℕ)))
    (files : List (List ℕ)) → files ≡ [] → AreLoaded plan folder held files 0 0
none_loaded plan folder held files none = record {
  count = ap length none;
  room = ap (sum_by length) none;
  within = omega arith;
  passed = record { each = λ file less. (let long = ap length none in absurd (omega arith)) };
  first = told held;
}
  where
    told : (held : Option (List (List ℕ × List ℕ))) → IfSome held (λ all. AreFirst plan folder all files)
    told None = tt
    told (Some all) = subst {A = List (List ℕ)} (AreFirst plan folder all) (sym none) (no_files_first plan folder all)

sum_push : (files : List (List ℕ)) (bytes : List ℕ)
    → sum_by length (files ++ bytes ∷ []) ≡ sum_by length files + length bytes
sum_push [] bytes = omega (arith, sum_by-cons length bytes [])
sum_push (file ∷ files) bytes = omega (arith, sum_by-cons length file (files ++ bytes ∷ []), sum_by-cons length file files, sum_push files bytes)

pub loaded_more : (plan : PlanData) (folder : List ℕ) (held : Option (List (List ℕ × List ℕ)))
    (files new : List (List ℕ)) (file loaded limit size : ℕ) (bytes : List ℕ)
    → AreLoaded plan folder held files file loaded → new ≡ files ++ bytes ∷ [] → limit ≡ limit_behind loaded
    → loaded + limit ≤ 3221225472 → length bytes ≤ limit → size ≡ length bytes
    → IfSome held (λ all. held_at all (path_of plan folder file) ≡ Some bytes)
    → fault_of_file plan file bytes ≡ None → AreLoaded plan folder held new (file + 1) (loaded + size)
loaded_more plan folder held files new file loaded limit size bytes are new_is limit_is most within size_is there pass =
    let count = are.count in
    let room = are.room in
    let limit_at : limit ≡ limit_behind (sum_by length files) = limit_is ∙ ap limit_behind (sym room) in
    record {
      count = ap length new_is ∙ length_push files bytes ∙ ap (λ n. n + 1) count;
      room = ap (sum_by length) new_is ∙ sum_push files bytes ∙ omega arith;
      within = omega arith;
      passed = subst {A = List (List ℕ)} (ArePassed plan) (sym new_is) (passed_more plan files bytes file count are.passed pass);
      first = subst {A = List (List ℕ)} (λ fs. IfSome held (λ all. AreFirst plan folder all fs)) (sym new_is)
          (first_more_told plan folder held files bytes file limit count are.first limit_at there within pass);
    }
