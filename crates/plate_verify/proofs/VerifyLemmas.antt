-- What one load establishes about a plate, and how checks of plates follow each other.
use Rattle.std.proofs.Common.{◌≡◌, ℕ, ◌+◌, ◌<◌, ◌≤◌, Bool, true, false, if◌then◌else◌, List, [], ◌∷◌, ◌++◌, length, take, drop, get_or, Option, Some, None, option_map, Result, Ok, Err, refl, sym, ap, ◌∙◌, subst, inl, inr, append_assoc, arith}
use Rattle.std.specs.Prelude.{IfSome, IsSomeAnd, nat_lt, slice_get}
use Rattle.std.specs.List.{cons_option, filter_map, flat_map}
use Rattle.std.proofs.lemmas.Bool.{cond-true, cond-false, lt-ltb, le-ltb}
use Rattle.std.proofs.lemmas.Grind.{flat_map-append}
use Rattle.std.proofs.lemmas.List.{append-nil, take-append-drop, take_more, take_all}
use Rattle.pr_base.specs.Count.{Rose}
use Rattle.pr_ports.specs.Shelf.{IsComparedAt, IsLongerAt, held_at, missed_after}
use Rattle.plan_json.specs.Data.{PlanData}
use Rattle.plan_rows.specs.Inks.{has_site}
use Rattle.plan_rows.specs.Plates.{PlateOf, file_of, plate_rows}
use Rattle.plate_bytes.specs.Made.{PlateState, whole}
use Rattle.plate_bytes.specs.Places.{row_ends, row_holding}
use Rattle.plate_verify.specs.declared.checked.Checked.{Checked}
use Rattle.plate_verify.specs.declared.checked.Checked.TheVariants.{Same, Differs, Long}
use Rattle.plate_verify.specs.declared.checked.VerifyFault.{VerifyFault}
use Rattle.plate_verify.specs.declared.checked.VerifyFault.TheVariants.{Shelf, Memory}
use Rattle.pr_ports.specs.Difference.{difference_of}
use Rattle.plate_verify.specs.Order.{SitePlate}
use Rattle.plate_verify.specs.Wrong.{Found, OtherAt, TooMany, wrong_with, wrong_at}
use Rattle.plate_verify.specs.Verifying.{told, IfLong, UnlessLong, ShelfTold, Stays, IsQuiet, NoneWrong, path_at, AreRight, FindsWrong, FailsAt, Verified, IsMade, plates_at}

-- ---- one load

missed-same : (path : List ℕ) (missed : Option (Option (List ℕ))) → missed_after false path missed ≡ missed
missed-same path None = refl
missed-same path (Some last) = refl

missed-told : (path : List ℕ) (old new : Option (Option (List ℕ))) → new ≡ missed_after true path old → IfSome new (λ last. last ≡ Some path)
missed-told path None new e = subst {A = Option (Option (List ℕ))} (λ o. IfSome o (λ last. last ≡ Some path)) (sym e) tt
missed-told path (Some last) new e = subst {A = Option (Option (List ℕ))} (λ o. IfSome o (λ l. l ≡ Some path)) (sym e) refl

-- the effect on a shelf of a load with a result other than Failed
pub quiet : (old new : ShelfTold) (path : List ℕ) → new.missed ≡ missed_after false path old.missed → new.held ≡ old.held → new.faults ≡ old.faults → old.faults ≤ new.faults → old.longs ≤ new.longs → IsQuiet old new
quiet old new path missed held same faults longs = record { stays = record { held = held; faults = faults; longs = longs }; missed = missed ∙ missed-same path old.missed; faults = same }

-- the difference of the held bytes from the plate that was made
wrong_is : (plan : PlanData) (rows : List (List ℕ)) (out : List ℕ) (files : List (List ℕ × List ℕ)) (at : SitePlate) (made : PlateState) (bytes : List ℕ) → IsMade plan rows at.1 made
    → held_at files (path_at plan out at) ≡ Some bytes → length bytes ≤ 600000000
    → wrong_at plan rows out files at ≡ option_map (λ k. OtherAt (path_at plan out at) k (row_holding (plate_rows plan rows at.1) k)) (difference_of made.bytes bytes)
unfolding wrong_at whole
wrong_is plan rows out files at made bytes is held short =
    let file : List ℕ × List ℕ = file_of plan rows out at.0 at.1 in
    let tell : ℕ → Found = λ k. OtherAt file.0 k (row_holding (plate_rows plan rows at.1) k) in
    ap (wrong_with file (plate_rows plan rows at.1)) held
    ∙ cond-false (nat_lt 600000000 (length bytes)) (Some (TooMany file.0)) (option_map tell (difference_of file.1 bytes)) (le-ltb 600000000 (length bytes) short)
    ∙ ap (λ l. option_map tell (difference_of l bytes)) (sym (ap {A = PlateState} (λ p. p.bytes) is))

pub made_ends : (plan : PlanData) (rows : List (List ℕ)) (plate : PlateOf) (made : PlateState) → IsMade plan rows plate made → made.ends ≡ row_ends (plate_rows plan rows plate)
unfolding whole
made_ends plan rows plate made is = ap {A = PlateState} (λ p. p.ends) is

pub if_held : (held : Option (List (List ℕ × List ℕ))) (P Q : List (List ℕ × List ℕ) → Type 0) → IfSome held P → ((files : List (List ℕ × List ℕ)) → P files → Q files) → IfSome held Q
if_held None P Q h gives = tt
if_held (Some files) P Q h gives = gives files h

both_held : (held : Option (List (List ℕ × List ℕ))) (P Q R : List (List ℕ × List ℕ) → Type 0) → IfSome held P → IfSome held Q → ((files : List (List ℕ × List ℕ)) → P files → Q files → R files) → IfSome held R
both_held None P Q R h k gives = tt
both_held (Some files) P Q R h k gives = gives files h k

not_long : (path : List ℕ) (found : Checked) (f : ℕ → Option ℕ) (d : Option ℕ) (P : Type 0) → Some (told found) ≡ option_map (λ k. OtherAt path k (f k)) d → IfLong found P
not_long path (Same n) f d P e = tt
not_long path (Differs p at row) f d P e = tt
not_long path (Long p) f None P e = cc
not_long path (Long p) f (Some k) P e = cc

-- the same, where a file that is too long would have no condition
unless_long : (found : Checked) (P : Type 0) → P → UnlessLong found P
unless_long (Same n) P h = h
unless_long (Differs p at row) P h = h
unless_long (Long p) P h = tt

-- the plate was compared
pub verified_compared : (plan : PlanData) (rows : List (List ℕ)) (out : List ℕ) (at : SitePlate) (old new : ShelfTold) (path : List ℕ) (made : PlateState) (apart : Option ℕ) (found : Option Checked)
    → path ≡ path_at plan out at → IsComparedAt old.held path 600000000 made.bytes apart → IsQuiet old new → new.longs ≡ old.longs → IsMade plan rows at.1 made
    → option_map told found ≡ option_map (λ k. OtherAt path k (row_holding (plate_rows plan rows at.1) k)) apart
    → Verified plan rows out (at ∷ []) old new (Ok found)
verified_compared plan rows out at old new path made apart found named compared still longs is found_is = by_found found found_is
  where
    tell : ℕ → Found
    tell k = OtherAt path k (row_holding (plate_rows plan rows at.1) k)

    Alike : List ℕ → Type 0
    Alike file = (length file ≤ 600000000) × (apart ≡ difference_of made.bytes file)

    wrong : (files : List (List ℕ × List ℕ)) (o : Option (List ℕ)) → held_at files path ≡ o → IsSomeAnd o Alike → wrong_at plan rows out files at ≡ option_map tell apart
    wrong files None there held = absurd held
    wrong files (Some file) there held =
        wrong_is plan rows out files at made file is (ap (held_at files) (sym named) ∙ there) held.0
        ∙ ap {A = List ℕ} (λ p. option_map (λ k. OtherAt p k (row_holding (plate_rows plan rows at.1) k)) (difference_of made.bytes file)) (sym named)
        ∙ ap (option_map tell) (sym held.1)

    by_found : (found : Option Checked) → option_map told found ≡ option_map tell apart → Verified plan rows out (at ∷ []) old new (Ok found)
    by_found None e = record {
      quiet = still;
      longs = longs;
      right = if_held old.held (λ files. IsSomeAnd (held_at files path) Alike) (λ files. filter_map (wrong_at plan rows out files) (at ∷ []) ≡ []) compared
          (λ files there. ap (λ (o : Option Found). cons_option o []) (wrong files (held_at files path) refl there ∙ sym e));
    }
    by_found (Some x) e = record {
      quiet = still;
      first = if_held old.held (λ files. IsSomeAnd (held_at files path) Alike) (λ files. slice_get (filter_map (wrong_at plan rows out files) (at ∷ [])) 0 ≡ Some (told x)) compared
          (λ files there. ap (λ (o : Option Found). slice_get (cons_option o []) 0) (wrong files (held_at files path) refl there ∙ sym e));
      long = not_long path x (λ k. row_holding (plate_rows plan rows at.1) k) apart (Rose old.longs new.longs) e;
      short = unless_long x (new.longs ≡ old.longs) longs;
    }

-- there were too many bytes
pub verified_long : (plan : PlanData) (rows : List (List ℕ)) (out : List ℕ) (at : SitePlate) (old new : ShelfTold) (path : List ℕ)
    → path ≡ path_at plan out at → IsLongerAt old.held path 600000000 → Rose old.longs new.longs → IsQuiet old new → FindsWrong plan rows out (at ∷ []) old new (Long path)
unfolding wrong_at
verified_long plan rows out at old new path named longer rose still = record {
  quiet = still;
  first = if_held old.held (λ files. IsSomeAnd (held_at files path) (λ bytes. 600000000 < length bytes)) (λ files. slice_get (filter_map (wrong_at plan rows out files) (at ∷ [])) 0 ≡ Some (TooMany path)) longer
      (λ files there. ap (λ (o : Option Found). slice_get (cons_option o []) 0) (wrong files (held_at files path) refl there));
  long = rose;
  short = tt;
}
  where
    wrong : (files : List (List ℕ × List ℕ)) (o : Option (List ℕ)) → held_at files path ≡ o → IsSomeAnd o (λ bytes. 600000000 < length bytes)
        → wrong_with (file_of plan rows out at.0 at.1) (plate_rows plan rows at.1) (held_at files (path_at plan out at)) ≡ Some (TooMany path)
    wrong files None is there = absurd there
    wrong files (Some bytes) is there =
        let file : List ℕ × List ℕ = file_of plan rows out at.0 at.1 in
        ap (wrong_with file (plate_rows plan rows at.1)) (ap (held_at files) (sym named) ∙ is)
        ∙ cond-true (nat_lt 600000000 (length bytes)) (Some (TooMany file.0)) (option_map (λ k. OtherAt file.0 k (row_holding (plate_rows plan rows at.1) k)) (difference_of file.1 bytes)) (lt-ltb 600000000 (length bytes) there)
        ∙ ap {A = List ℕ} {B = Option Found} (λ p. Some (TooMany p)) (sym named)

-- the load failed
pub verified_failed : (plan : PlanData) (rows : List (List ℕ)) (out : List ℕ) (at : SitePlate) (old new : ShelfTold) (path : List ℕ)
    → path ≡ path_at plan out at → Rose old.faults new.faults → new.missed ≡ missed_after true path old.missed → Stays old new → new.longs ≡ old.longs → FailsAt plan rows out (at ∷ []) old new path
verified_failed plan rows out at old new path named rose missed stays longs = record {
  stays = stays;
  longs = longs;
  counted = rose;
  missed = missed-told path old.missed new.missed missed;
  before = [];
  at = at;
  behind = [];
  are = refl;
  named = named;
  right = nothing old.held;
}
  where
    nothing : (held : Option (List (List ℕ × List ℕ))) → NoneWrong plan rows out held []
    nothing None = tt
    nothing (Some files) = refl

-- a plate at a site that has it
pub at_its_site : (plan : PlanData) (rows : List (List ℕ)) (out : List ℕ) (plate : PlateOf) (site : ℕ) (old new : ShelfTold) (result : Result (Option Checked) VerifyFault)
    → has_site plate.0 site ≡ true → Verified plan rows out ((site, plate) ∷ []) old new result → Verified plan rows out (plates_at plate site) old new result
at_its_site plan rows out plate site old new result is verified =
    subst (λ (b : Bool). Verified plan rows out (if b then (site, plate) ∷ [] else []) old new result) (sym is) verified

-- ---- one check after another

stays-then : (a b c : ShelfTold) → Stays a b → Stays b c → Stays a c
stays-then a b c p q = record { held = q.held ∙ p.held; faults = (let f = p.faults in let g = q.faults in omega arith); longs = (let f = p.longs in let g = q.longs in omega arith) }

quiet-then : (a b c : ShelfTold) → IsQuiet a b → IsQuiet b c → IsQuiet a c
quiet-then a b c p q = record { stays = stays-then a b c p.stays q.stays; missed = q.missed ∙ p.missed; faults = q.faults ∙ p.faults }

rose-later : (a b c : ℕ) → a ≤ b → Rose b c → Rose a c
rose-later a b c le (inl less) = inl (omega arith)
rose-later a b c le (inr last) = inr last

filter_map-append : {X Y : Type 0} (f : X → Option Y) (xs ys : List X) → filter_map f (xs ++ ys) ≡ filter_map f xs ++ filter_map f ys
filter_map-append f [] ys = refl
filter_map-append {X} {Y} f (x ∷ xs) ys = by_answer (f x) (filter_map-append f xs ys)
  where
    by_answer : (o : Option Y) → filter_map f (xs ++ ys) ≡ filter_map f xs ++ filter_map f ys → cons_option o (filter_map f (xs ++ ys)) ≡ cons_option o (filter_map f xs) ++ filter_map f ys
    by_answer None e = e
    by_answer (Some y) e = ap (λ l. y ∷ l) e

none-then : (plan : PlanData) (rows : List (List ℕ)) (out : List ℕ) (held : Option (List (List ℕ × List ℕ))) (xs ys : List SitePlate)
    → NoneWrong plan rows out held xs → NoneWrong plan rows out held ys → NoneWrong plan rows out held (xs ++ ys)
none-then plan rows out held xs ys p q =
    both_held held (λ files. filter_map (wrong_at plan rows out files) xs ≡ []) (λ files. filter_map (wrong_at plan rows out files) ys ≡ []) (λ files. filter_map (wrong_at plan rows out files) (xs ++ ys) ≡ []) p q
    (λ files a b. filter_map-append (wrong_at plan rows out files) xs ys ∙ ap (λ l. l ++ filter_map (wrong_at plan rows out files) ys) a ∙ b)

-- after plates that match
pub then_verified : (plan : PlanData) (rows : List (List ℕ)) (out : List ℕ) (xs ys : List SitePlate) (a b c : ShelfTold) (r : Result (Option Checked) VerifyFault)
    → AreRight plan rows out xs a b → Verified plan rows out ys b c r → Verified plan rows out (xs ++ ys) a c r
then_verified plan rows out xs ys a b c (Ok None) p q = record {
  quiet = quiet-then a b c p.quiet q.quiet;
  longs = q.longs ∙ p.longs;
  right = none-then plan rows out a.held xs ys p.right (subst {A = Option (List (List ℕ × List ℕ))} (λ h. NoneWrong plan rows out h ys) p.quiet.stays.held q.right);
}
then_verified plan rows out xs ys a b c (Ok (Some found)) p q = record {
  quiet = quiet-then a b c p.quiet q.quiet;
  first = both_held a.held (λ files. filter_map (wrong_at plan rows out files) xs ≡ []) (λ files. slice_get (filter_map (wrong_at plan rows out files) ys) 0 ≡ Some (told found))
      (λ files. slice_get (filter_map (wrong_at plan rows out files) (xs ++ ys)) 0 ≡ Some (told found)) p.right
      (subst {A = Option (List (List ℕ × List ℕ))} (λ h. IfSome h (λ files. slice_get (filter_map (wrong_at plan rows out files) ys) 0 ≡ Some (told found))) p.quiet.stays.held q.first)
      (λ files none first. ap (λ l. slice_get l 0) (filter_map-append (wrong_at plan rows out files) xs ys ∙ ap (λ l. l ++ filter_map (wrong_at plan rows out files) ys) none) ∙ first);
  long = long_later found q.long;
  short = short_later found q.short;
}
  where
    short_later : (found : Checked) → UnlessLong found (c.longs ≡ b.longs) → UnlessLong found (c.longs ≡ a.longs)
    short_later (Same n) h = h ∙ p.longs
    short_later (Differs path at row) h = h ∙ p.longs
    short_later (Long path) h = tt

    long_later : (found : Checked) → IfLong found (Rose b.longs c.longs) → IfLong found (Rose a.longs c.longs)
    long_later (Same n) h = tt
    long_later (Differs path at row) h = tt
    long_later (Long path) h = rose-later a.longs b.longs c.longs p.quiet.stays.longs h
then_verified plan rows out xs ys a b c (Err (Shelf path)) p q = record {
  stays = stays-then a b c p.quiet.stays q.stays;
  longs = q.longs ∙ p.longs;
  counted = rose-later a.faults b.faults c.faults p.quiet.stays.faults q.counted;
  missed = q.missed;
  before = xs ++ q.before;
  at = q.at;
  behind = q.behind;
  are = ap (λ l. xs ++ l) q.are ∙ sym (append_assoc xs q.before (q.at ∷ q.behind));
  named = q.named;
  right = none-then plan rows out a.held xs q.before p.right (subst {A = Option (List (List ℕ × List ℕ))} (λ h. NoneWrong plan rows out h q.before) p.quiet.stays.held q.right);
}
then_verified plan rows out xs ys a b c (Err Memory) p (q, longs) = (quiet-then a b c p.quiet q, longs ∙ p.longs)

-- a result at which verifying stops
abbrev pub IsStopped : Result (Option Checked) VerifyFault → Type 0
IsStopped (Ok None) = ⊥
IsStopped (Ok (Some found)) = Unit {0}
IsStopped (Err fault) = Unit {0}

-- the later plates were not checked
pub verified_before : (plan : PlanData) (rows : List (List ℕ)) (out : List ℕ) (xs ys : List SitePlate) (a b : ShelfTold) (r : Result (Option Checked) VerifyFault)
    → Verified plan rows out xs a b r → IsStopped r → Verified plan rows out (xs ++ ys) a b r
verified_before plan rows out xs ys a b (Ok None) p s = absurd s
verified_before plan rows out xs ys a b (Ok (Some found)) p s = record {
  quiet = p.quiet;
  first = if_held a.held (λ files. slice_get (filter_map (wrong_at plan rows out files) xs) 0 ≡ Some (told found)) (λ files. slice_get (filter_map (wrong_at plan rows out files) (xs ++ ys)) 0 ≡ Some (told found)) p.first
      (λ files first. ap (λ l. slice_get l 0) (filter_map-append (wrong_at plan rows out files) xs ys) ∙ front (filter_map (wrong_at plan rows out files) xs) (filter_map (wrong_at plan rows out files) ys) (told found) first);
  long = p.long;
  short = p.short;
}
  where
    front : (xs ys : List Found) (x : Found) → slice_get xs 0 ≡ Some x → slice_get (xs ++ ys) 0 ≡ Some x
    front [] ys x e = cc
    front (y ∷ xs) ys x e = e
verified_before plan rows out xs ys a b (Err (Shelf path)) p s = record {
  stays = p.stays;
  longs = p.longs;
  counted = p.counted;
  missed = p.missed;
  before = p.before;
  at = p.at;
  behind = p.behind ++ ys;
  are = ap (λ l. l ++ ys) p.are ∙ append_assoc p.before (p.at ∷ p.behind) ys;
  named = p.named;
  right = p.right;
}
verified_before plan rows out xs ys a b (Err Memory) p s = p

-- ---- a loop over parts that have plates

pub none_verified : (plan : PlanData) (rows : List (List ℕ)) (out : List ℕ) (told' : ShelfTold) → AreRight plan rows out [] told' told'
none_verified plan rows out s = record { quiet = record { stays = record { held = refl; faults = omega arith; longs = omega arith }; missed = refl; faults = refl }; longs = refl; right = nothing s.held }
  where
    nothing : (held : Option (List (List ℕ × List ℕ))) → NoneWrong plan rows out held []
    nothing None = tt
    nothing (Some files) = refl

pieces-more : {X : Type 0} (f : X → List SitePlate) (xs : List X) (i : ℕ) (x : X) → i < length xs → x ≡ get_or xs i x → flat_map f (take (i + 1) xs) ≡ flat_map f (take i xs) ++ f x
pieces-more f xs i x below is =
    ap (flat_map f) (take_more xs i x below) ∙ flat_map-append f (take i xs) (get_or xs i x ∷ []) ∙ ap (λ l. flat_map f (take i xs) ++ l) (append-nil (f (get_or xs i x)))
    ∙ ap (λ y. flat_map f (take i xs) ++ f y) (sym is)

pub verified_more : {X : Type 0} (plan : PlanData) (rows : List (List ℕ)) (out : List ℕ) (f : X → List SitePlate) (xs : List X) (i : ℕ) (x : X) (a b c : ShelfTold) → i < length xs → x ≡ get_or xs i x
    → AreRight plan rows out (flat_map f (take i xs)) a b → AreRight plan rows out (f x) b c → AreRight plan rows out (flat_map f (take (i + 1) xs)) a c
verified_more plan rows out f xs i x a b c below is p q =
    subst {A = List SitePlate} (λ l. AreRight plan rows out l a c) (sym (pieces-more f xs i x below is)) (then_verified plan rows out (flat_map f (take i xs)) (f x) a b c (Ok None) p q)

pub verified_stops : {X : Type 0} (plan : PlanData) (rows : List (List ℕ)) (out : List ℕ) (f : X → List SitePlate) (xs : List X) (i : ℕ) (x : X) (a b c : ShelfTold) (r : Result (Option Checked) VerifyFault)
    → i < length xs → x ≡ get_or xs i x → AreRight plan rows out (flat_map f (take i xs)) a b → Verified plan rows out (f x) b c r → IsStopped r → Verified plan rows out (flat_map f xs) a c r
verified_stops plan rows out f xs i x a b c r below is p q s =
    let whole_list : flat_map f xs ≡ (flat_map f (take i xs) ++ f x) ++ flat_map f (drop (i + 1) xs) =
    ap (flat_map f) (sym (take-append-drop (i + 1) xs)) ∙ flat_map-append f (take (i + 1) xs) (drop (i + 1) xs) ∙ ap (λ l. l ++ flat_map f (drop (i + 1) xs)) (pieces-more f xs i x below is) in
    subst {A = List SitePlate} (λ l. Verified plan rows out l a c r) (sym whole_list)
    (verified_before plan rows out (flat_map f (take i xs) ++ f x) (flat_map f (drop (i + 1) xs)) a c r (then_verified plan rows out (flat_map f (take i xs)) (f x) a b c r p q) s)

pub verified_all : {X : Type 0} (plan : PlanData) (rows : List (List ℕ)) (out : List ℕ) (f : X → List SitePlate) (xs : List X) (i : ℕ) (a b : ShelfTold) → length xs ≤ i
    → AreRight plan rows out (flat_map f (take i xs)) a b → AreRight plan rows out (flat_map f xs) a b
verified_all plan rows out f xs i a b past p = subst {A = List SitePlate} (λ l. AreRight plan rows out l a b) (ap (flat_map f) (take_all i xs past)) p
