-- The class of a file: the index of the first file with its bytes.
use Rattle.std.proofs.Common.{◌≡◌, ℕ, ◌+◌, ◌<◌, ◌≤◌, Bool, true, false, cond, eqb, ltb, List, [], ◌∷◌, ◌++◌, length, map, get_or, take, drop, not, Some, None, ap, sym, ◌∙◌, inl, inr, add-zero, length-append, arith}
use Rattle.std.specs.Prelude.{position, unwrap_or}
use Rattle.std.specs.List.{position_or_len}
use Rattle.std.specs.Str.{bytes_eq}
use Rattle.std.specs.Ordering.{nat_cmp, ordering_then, is_eq}
use Rattle.std.specs.declared.cmp.Ordering.TheVariants.{Less, Equal, Greater}
use Rattle.std.specs.Cmp.Lexicographic.{slice_cmp, texts_ties, unequal, bytes_decides, nat_list_eq_equiv}
use Rattle.std.proofs.lemmas.Bool.{cases_order, cases_Bool, cases_lt, cond-true, cond-false, lt-ltb, le-ltb, ltb-true, ltb-false, eq-eqb, ne_eqb, both_ways, not-true, not-false, false_from_ne_true}
use Rattle.std.proofs.lemmas.Cmp.{tied_itself, nat_cmp_total}
use Rattle.std.proofs.lemmas.List.{take_more, take-append-drop, get_or-map, length-map, length-take-le, map-append}
use Rattle.std.proofs.lemmas.List.Sums.{prefix_len-le-length, prefix_len_passes, prefix_len_stops}
use Rattle.std.proofs.lemmas.List.Folds.{position_or_len_push, prefix_len-append}
use Rattle.std.specs.Global.{Vec}
use Rattle.replate.specs.Inputs.{bytes_of}
use Rattle.replate.specs.Classes.{class_of}

-- files that compare equal in the order have the same bytes
pub tied : (a b : List ℕ) → is_eq (ordering_then (nat_cmp (length a) (length b)) (slice_cmp nat_cmp a b)) ≡ bytes_eq a b
tied a b =
    elim (cases_order (length a) (length b)) [
      | inl same ↦
          let e : nat_cmp (length a) (length b) ≡ Equal = ap (λ n. nat_cmp (length a) n) (sym same) ∙ tied_itself nat_cmp_total (length a) in
          ap (λ o. is_eq (ordering_then o (slice_cmp nat_cmp a b))) e ∙ sym (texts_ties a b)
      | inr (inl less) ↦
          let e : nat_cmp (length a) (length b) ≡ Less = cond-true (ltb (length a) (length b)) Less _ (lt-ltb _ _ less) in
          ap (λ o. is_eq (ordering_then o (slice_cmp nat_cmp a b))) e ∙ sym (unequal _ a b (λ same. absurd (omega arith)))
      | inr (inr more) ↦
          let e : nat_cmp (length a) (length b) ≡ Greater =
          cond-false (ltb (length a) (length b)) Less _ (le-ltb _ _ (omega arith))
          ∙ cond-false (eqb (length a) (length b)) Equal Greater (ne_eqb _ _ (λ same. absurd (omega arith))) in
          ap (λ o. is_eq (ordering_then o (slice_cmp nat_cmp a b))) e ∙ sym (unequal _ a b (λ same. absurd (omega arith)))
    ]

-- ---- places

place_le : (p : List ℕ → Bool) (files : List (List ℕ)) → position_or_len p files ≤ length files
place_le p files = prefix_len-le-length (λ x. not (p x)) files

place_some : (p : List ℕ → Bool) (files : List (List ℕ)) (k : ℕ) → position p files ≡ Some k → (position_or_len p files ≡ k) × (k < length files)
place_some p files k is =
    let at = position_or_len p files in
    elim (cases_Bool (ltb at (length files))) [
      | inl below ↦
          let e : position p files ≡ Some at = cond-true (ltb at (length files)) (Some at) None below in
          let same : at ≡ k = cc in
          (same, (let low = ltb-true at (length files) below in omega arith))
      | inr past ↦ (let e : position p files ≡ None = cond-false (ltb at (length files)) (Some at) None past in absurd cc)
    ]

place_none : (p : List ℕ → Bool) (files : List (List ℕ)) → position p files ≡ None → position_or_len p files ≡ length files
place_none p files is =
    let at = position_or_len p files in
    let most = place_le p files in
    elim (cases_Bool (ltb at (length files))) [
      | inl below ↦ (let e : position p files ≡ Some at = cond-true (ltb at (length files)) (Some at) None below in absurd cc)
      | inr past ↦ (let high = ltb-false at (length files) past in omega arith)
    ]

at_end : (p : List ℕ → Bool) (files : List (List ℕ)) → position_or_len p files ≡ length files → position p files ≡ None
at_end p files end = cond-false (ltb (position_or_len p files) (length files)) _ None (le-ltb _ _ (omega arith))

-- ---- one more file

before_last : (p : List ℕ → Bool) (files : List (List ℕ)) (x : List ℕ) → position_or_len p files < length files
    → position_or_len p (files ++ x ∷ []) ≡ position_or_len p files
before_last p files x low =
    position_or_len_push p files x
    ∙ cond-false (eqb (position_or_len p files) (length files)) _ (position_or_len p files) (ne_eqb _ _ (λ same. absurd (omega arith)))

at_last : (p : List ℕ → Bool) (files : List (List ℕ)) (x : List ℕ) → position_or_len p files ≡ length files
    → position_or_len p (files ++ x ∷ []) ≡ length files + cond (p x) 0 1
at_last p files x end = position_or_len_push p files x ∙ cond-true (eqb (position_or_len p files) (length files)) _ _ (eq-eqb _ _ end)

known_before : (p : List ℕ → Bool) (files : List (List ℕ)) (x : List ℕ) → position_or_len p files < length files
    → position p (files ++ x ∷ []) ≡ position p files
known_before p files x low =
    let at = position_or_len p files in
    let place = before_last p files x low in
    ap (λ n. cond (ltb n (length (files ++ x ∷ []))) (Some n) None) place
    ∙ cond-true (ltb at (length (files ++ x ∷ []))) (Some at) None (lt-ltb _ _ (omega (arith, length-append files (x ∷ []))))
    ∙ sym (cond-true (ltb at (length files)) (Some at) None (lt-ltb _ _ low))

known_last : (p : List ℕ → Bool) (files : List (List ℕ)) (x : List ℕ) → position_or_len p files ≡ length files → p x ≡ true
    → position p (files ++ x ∷ []) ≡ Some (length files)
known_last p files x end passes =
    let place : position_or_len p (files ++ x ∷ []) ≡ length files = at_last p files x end ∙ ap (λ b. length files + cond b 0 1) passes ∙ add-zero (length files) in
    ap (λ n. cond (ltb n (length (files ++ x ∷ []))) (Some n) None) place
    ∙ cond-true (ltb (length files) (length (files ++ x ∷ []))) (Some (length files)) None (lt-ltb _ _ (omega (arith, length-append files (x ∷ []))))

known_not : (p : List ℕ → Bool) (files : List (List ℕ)) (x : List ℕ) → position_or_len p files ≡ length files → p x ≡ false
    → position p (files ++ x ∷ []) ≡ None
known_not p files x end fails =
    let place : position_or_len p (files ++ x ∷ []) ≡ length files + 1 = at_last p files x end ∙ ap (λ b. length files + cond b 0 1) fails in
    at_end p (files ++ x ∷ []) (omega (arith, length-append files (x ∷ [])))

-- appending a file whose bytes are known doesn't change where a file is found
pub stays : (files : List (List ℕ)) (x q : List ℕ) (k : ℕ) → position (bytes_eq x) files ≡ Some k
    → position (bytes_eq q) (files ++ x ∷ []) ≡ position (bytes_eq q) files
stays files x q k found =
    let most = place_le (bytes_eq q) files in
    elim (cases_lt (position_or_len (bytes_eq q) files) (length files)) [
      | inl low ↦ known_before (bytes_eq q) files x low
      | inr high ↦
          let end : position_or_len (bytes_eq q) files ≡ length files = omega arith in
          let other : bytes_eq q x ≡ false =
          false_from_ne_true (bytes_eq q x) (λ same. let place = place_some (bytes_eq x) files k found in
          let here : position_or_len (bytes_eq q) files ≡ position_or_len (bytes_eq x) files = ap (λ b. position_or_len (bytes_eq b) files) ((bytes_decides q x).0 same) in
          let is = place.0 in let low = place.1 in absurd (omega arith)) in
          known_not (bytes_eq q) files x end other ∙ sym (at_end (bytes_eq q) files end)
    ]

-- a new file is found after the others, and the others are found as before
pub comes : (files : List (List ℕ)) (x q : List ℕ) → position (bytes_eq x) files ≡ None
    → position (bytes_eq q) (files ++ x ∷ []) ≡ cond (bytes_eq x q) (Some (length files)) (position (bytes_eq q) files)
comes files x q new =
    let most = place_le (bytes_eq q) files in
    elim (cases_Bool (bytes_eq x q)) [
      | inl same ↦
          let is : x ≡ q = (bytes_decides x q).0 same in
          let end : position_or_len (bytes_eq q) files ≡ length files = place_none (bytes_eq q) files (ap (λ b. position (bytes_eq b) files) (sym is) ∙ new) in
          known_last (bytes_eq q) files x end (nat_list_eq_equiv.symm q x ∙ same) ∙ sym (cond-true (bytes_eq x q) _ _ same)
      | inr other ↦
          let apart : bytes_eq q x ≡ false = nat_list_eq_equiv.symm q x ∙ other in
          elim (cases_lt (position_or_len (bytes_eq q) files) (length files)) [
            | inl low ↦ known_before (bytes_eq q) files x low ∙ sym (cond-false (bytes_eq x q) _ _ other)
            | inr high ↦
                let end : position_or_len (bytes_eq q) files ≡ length files = omega arith in
                known_not (bytes_eq q) files x end apart ∙ sym (at_end (bytes_eq q) files end) ∙ sym (cond-false (bytes_eq x q) _ _ other)
          ]
    ]

-- ---- classes

pub class_known : (files : List (List ℕ)) (x : List ℕ) (k : ℕ) → position (bytes_eq x) files ≡ Some k → k ≡ class_of (files ++ x ∷ []) x
class_known files x k found =
    let place = place_some (bytes_eq x) files k found in
    let is = place.0 in
    let low = place.1 in
    sym (before_last (bytes_eq x) files x (omega arith) ∙ is)

pub class_new : (files : List (List ℕ)) (x : List ℕ) → position (bytes_eq x) files ≡ None → length files ≡ class_of (files ++ x ∷ []) x
class_new files x new =
    sym (at_last (bytes_eq x) files x (place_none (bytes_eq x) files new) ∙ ap (λ b. length files + cond b 0 1) (nat_list_eq_equiv.refl x) ∙ add-zero (length files))

-- later files don't change the class of an earlier one
front_class : (front back : List (List ℕ)) (x : List ℕ) → class_of (front ++ x ∷ []) x ≡ class_of ((front ++ x ∷ []) ++ back) x
front_class front back x =
    let p : List ℕ → Bool = bytes_eq x in
    let most = place_le p front in
    let all = front ++ x ∷ [] in
    let low : position_or_len p all < length all =
    elim (cases_lt (position_or_len p front) (length front)) [
      | inl low ↦ (let is = before_last p front x low in omega (arith, length-append front (x ∷ [])))
      | inr high ↦
          (let end : position_or_len p front ≡ length front = omega arith in
          let is : position_or_len p all ≡ length front = at_last p front x end ∙ ap (λ b. length front + cond b 0 1) (nat_list_eq_equiv.refl x) ∙ add-zero (length front) in
          omega (arith, length-append front (x ∷ [])))
    ] in
    sym (prefix_len-append (λ b. not (p b)) all back ∙ cond-false (eqb (position_or_len p all) (length all)) _ _ (ne_eqb _ _ (λ same. absurd (omega arith))))

-- the class of a file of a list is determined by the files up to it
pub class_so_far : (files : List (List ℕ)) (i : ℕ) → i < length files
    → class_of (take i files ++ get_or files i [] ∷ []) (get_or files i []) ≡ class_of files (get_or files i [])
class_so_far files i within =
    let x = get_or files i [] in
    let parts : (take i files ++ x ∷ []) ++ drop (i + 1) files ≡ files = ap (λ l. l ++ drop (i + 1) files) (sym (take_more files i [] within)) ∙ take-append-drop (i + 1) files in
    front_class (take i files) (drop (i + 1) files) x ∙ ap (λ l. class_of l x) parts

-- the class of a file where others are known
pub class_sought : (files : List (List ℕ)) (x : List ℕ) → unwrap_or (position (bytes_eq x) files) (length files) ≡ class_of files x
class_sought files x =
    let at = position_or_len (bytes_eq x) files in
    let most = place_le (bytes_eq x) files in
    elim (cases_Bool (ltb at (length files))) [
      | inl below ↦ ap (λ o. unwrap_or o (length files)) (cond-true (ltb at (length files)) (Some at) None below)
      | inr past ↦
          (let high = ltb-false at (length files) past in
          let end : length files ≡ at = omega arith in
          ap (λ o. unwrap_or o (length files)) (cond-false (ltb at (length files)) (Some at) None past) ∙ end)
    ]

-- where the first file is an old one, two files have the same class exactly where they have the same bytes
pub class_tells : (olds : List (List ℕ)) (x y : List ℕ) (i : ℕ) → i < length olds → x ≡ get_or olds i [] → class_of olds x ≡ class_of olds y → x ≡ y
class_tells olds x y i within is same =
    let p : List ℕ → Bool = bytes_eq x in
    let q : List ℕ → Bool = bytes_eq y in
    let at = position_or_len p olds in
    let low : at < length olds = first_below p olds i within ((bytes_decides x (get_or olds i [])).1 is) in
    let here : bytes_eq x (get_or olds at []) ≡ true = first_passes p olds low in
    let there : bytes_eq y (get_or olds at []) ≡ true = ap (λ n. q (get_or olds n [])) same ∙ first_passes q olds (omega arith) in
    (bytes_decides x (get_or olds at [])).0 here ∙ sym ((bytes_decides y (get_or olds at [])).0 there)
  where
    first_passes : (p : List ℕ → Bool) (files : List (List ℕ)) → position_or_len p files < length files → p (get_or files (position_or_len p files) []) ≡ true
    first_passes p files low = not-false (p (get_or files (position_or_len p files) [])) (prefix_len_stops (λ b. not (p b)) files [] low)

    first_below : (p : List ℕ → Bool) (files : List (List ℕ)) (i : ℕ) → i < length files → p (get_or files i []) ≡ true → position_or_len p files < length files
    first_below p files i within passes =
        elim (cases_lt i (position_or_len p files)) [
          | inl before ↦ absurd (both_ways (p (get_or files i [])) (not-true (p (get_or files i [])) (prefix_len_passes (λ b. not (p b)) files i [] before)) passes)
          | inr behind ↦ omega arith
        ]

-- ---- files in memory

pub item_is : (files : List (Vec ℕ)) (i : ℕ) (x : Vec ℕ) → i < length files → x ≡ get_or files i x → get_or (bytes_of files) i [] ≡ x.items
item_is files i x within is = get_or-map (λ (file : Vec ℕ). file.items) files i x [] within ∙ ap {A = Vec ℕ} (λ file. file.items) (sym is)

-- one more file
pub files_more : (files : List (Vec ℕ)) (i : ℕ) (x : Vec ℕ) → i < length files → x ≡ get_or files i x
    → take (i + 1) (bytes_of files) ≡ take i (bytes_of files) ++ x.items ∷ []
files_more files i x within is =
    take_more (bytes_of files) i [] (omega (arith, length-map files (λ (file : Vec ℕ). file.items)))
    ∙ ap (λ bytes. take i (bytes_of files) ++ bytes ∷ []) (item_is files i x within is)

pub classes_more : (f : List ℕ → ℕ) (files : List (Vec ℕ)) (i : ℕ) (x : Vec ℕ) → i < length files → x ≡ get_or files i x
    → map f (take (i + 1) (bytes_of files)) ≡ map f (take i (bytes_of files)) ++ f x.items ∷ []
classes_more f files i x within is = ap (λ l. map f l) (files_more files i x within is) ∙ map-append f (take i (bytes_of files)) (x.items ∷ [])

pub class_of_item : (files : List (Vec ℕ)) (i : ℕ) (x : Vec ℕ) → i < length files → x ≡ get_or files i x
    → class_of (take i (bytes_of files) ++ x.items ∷ []) x.items ≡ class_of (bytes_of files) x.items
class_of_item files i x within is =
    let item = item_is files i x within is in
    ap (λ b. class_of (take i (bytes_of files) ++ b ∷ []) b) (sym item)
    ∙ class_so_far (bytes_of files) i (omega (arith, length-map files (λ (file : Vec ℕ). file.items)))
    ∙ ap (λ b. class_of (bytes_of files) b) item

pub seen_count : (files : List (Vec ℕ)) (i : ℕ) → i < length files → length (take i (bytes_of files)) ≡ i
seen_count files i within = length-take-le i (bytes_of files) (omega (arith, length-map files (λ (file : Vec ℕ). file.items)))
