-- The law: a plan with number 1 is the same plan with number 2.
use Rattle.std.proofs.Common.{◌≡◌, ℕ, ◌==◌, Bool, true, false, cond, List, [], Option, Some, None, Ok, Ordering, Less, Equal, Greater, refl, ap, ◌∙◌}
use Rattle.std.specs.Prelude.{codes}
use Rattle.std.specs.Ordering.{nat_cmp, match_ordering}
use Rattle.std.specs.Cmp.Lexicographic.{slice_cmp}
use Rattle.std.specs.Str.{bytes_eq}
use Rattle.std.proofs.lemmas.Slice.Eq.{bytes_eq-Decides}
use Rattle.serde_json.specs.Data.{Data, object, unsigned, number as number_data, Members, no_members, member, put}
use Rattle.serde_json.specs.Find.{get, get_member}
use Rattle.serde_json.proofs.Views.{get_member-put, get_member-put_other}
use Rattle.plan_parts.specs.declared.printing.Screen.{Screen}
use Rattle.plan_parts.specs.Data.{TileData, CurveData, MarkData}
use Rattle.plan_json.specs.Data.{PlanData, SectionData, ZoneData, SiteData}
use Rattle.plan_json.specs.Laws.{PlanOneIsPlanTwo}
use Rattle.plan_json.specs.Pages.{PageText}
use Rattle.plan_parts.specs.Reading.{Reader, ◌>>=◌, at_key, is_among, first_unknown, all_known, object_with, required_in, required, optional_in, optional, number}
use Rattle.plan_json.specs.PlanOf.{front, inks, layout, top_keys, plan_by, plan_in}
use Rattle.plan_json.proofs.Later.{plan_by_later}
use Rattle.plan_parts.proofs.Sound.{bind_ok}

-- ---- two objects that differ in `plan` alone

abbrev Same : Data → Data → Type 0
Same c d = (key : List ℕ) → bytes_eq key (codes "plan") ≡ false → get key c ≡ get key d

required_same : (A : Type 0) (c d : Data) → Same c d → (key : List ℕ) → bytes_eq key (codes "plan") ≡ false
    → (read : Reader A) (path : List ℕ) → required key read path c ≡ required key read path d
unfolding required
required_same A c d same key other read path = ap (required_in read (at_key path key)) (same key other)

optional_same : (A : Type 0) (c d : Data) → Same c d → (key : List ℕ) → bytes_eq key (codes "plan") ≡ false
    → (absent : A) (read : Reader A) (path : List ℕ)
    → optional key absent read path c ≡ optional key absent read path d
unfolding optional
optional_same A c d same key other absent read path = ap (optional_in absent read (at_key path key)) (same key other)

front_same : (c d : Data) → Same c d → (path : List ℕ) → front path c ≡ front path d
unfolding front
front_same c d same path =
    simp (required_same (List ℕ) c d same (codes "edition") refl, required_same ℕ c d same (codes "dpi") refl, required_same (ℕ × ℕ) c d same (codes "page") refl, optional_same (List ℕ) c d same (codes "margins") refl, optional_same ℕ c d same (codes "gutter") refl, optional_same ℕ c d same (codes "limit") refl)

inks_same : (c d : Data) → Same c d → (spot : Bool) (width height : ℕ) (path : List ℕ)
    → inks spot width height path c ≡ inks spot width height path d
unfolding inks
inks_same c d same spot width height path =
    simp (optional_same (List TileData) c d same (codes "tiles") refl, optional_same (List Screen) c d same (codes "screens") refl, optional_same (List CurveData) c d same (codes "curves") refl, optional_same (List MarkData) c d same (codes "marks") refl)

layout_same : (c d : Data) → Same c d → (spot : Bool) (path : List ℕ)
    → layout spot path c ≡ layout spot path d
unfolding layout
layout_same c d same spot path =
    simp (required_same (List PageText) c d same (codes "pages") refl, required_same (List SectionData) c d same (codes "sections") refl, optional_same (List ZoneData) c d same (codes "zones") refl, required_same (List SiteData) c d same (codes "sites") refl)

plan_by_same : (c d : Data) → Same c d → (spot : Bool) (path : List ℕ)
    → plan_by spot path c ≡ plan_by spot path d
unfolding plan_by
plan_by_same c d same spot path = simp (front_same c d same, inks_same c d same, layout_same c d same)

-- ---- another number at the key `plan`

apart : (key : List ℕ) → bytes_eq key (codes "plan") ≡ false → key ≡ codes "plan" → ⊥
apart key other same = let equal : bytes_eq key (codes "plan") ≡ true = (bytes_eq-Decides key (codes "plan")).1 same in absurd cc

put_same : (v : Data) (ms : Members) → Same (object (put (codes "plan") v ms)) (object ms)
put_same v ms key other = get_member-put_other key (codes "plan") v ms (apart key other)

known_both : (b : Bool) (l : List ℕ) (x y : Option (List ℕ)) → (x ≡ None → y ≡ None)
    → cond b x (Some l) ≡ None → cond b y (Some l) ≡ None
known_both true l x y h e = h e
known_both false l x y h e = absurd cc

known_case : (keys : List (List ℕ)) (o : Ordering) (k l : List ℕ) (v e : Data) (ms rest : Members)
    → is_among keys k ≡ true → (first_unknown keys ms ≡ None → first_unknown keys rest ≡ None)
    → first_unknown keys (member l e ms) ≡ None
    → first_unknown keys (match_ordering o (member k v (member l e ms)) (member l v ms) (member l e rest))
    ≡ None
known_case keys Less k l v e ms rest among h known = rw among known
known_case keys Equal k l v e ms rest among h known = known
known_case keys Greater k l v e ms rest among h known = known_both (is_among keys l) l (first_unknown keys ms) (first_unknown keys rest) h known

put_known : (keys : List (List ℕ)) (k : List ℕ) (v : Data) (ms : Members) → is_among keys k ≡ true
    → first_unknown keys ms ≡ None → first_unknown keys (put k v ms) ≡ None
put_known keys k v no_members among known = rw among refl
put_known keys k v (member l e ms) among known = known_case keys (slice_cmp nat_cmp k l) k l v e ms (put k v ms) among (put_known keys k v ms among) known

none_unknown : (path : List ℕ) (d o : Data) (found : Option (List ℕ)) → all_known path d found ≡ Ok o
    → (found ≡ None) × (d ≡ o)
none_unknown path d o None e = (refl, cc)
none_unknown path d o (Some key) e = absurd cc

object_is : (keys : List (List ℕ)) (path : List ℕ) (ms : Members) (o : Data)
    → object_with keys path (object ms) ≡ Ok o → (first_unknown keys ms ≡ None) × (object ms ≡ o)
unfolding object_with
object_is keys path ms o e = none_unknown path (object ms) o (first_unknown keys ms) e

object_again : (keys : List (List ℕ)) (path : List ℕ) (ms : Members) → first_unknown keys ms ≡ None
    → object_with keys path (object ms) ≡ Ok (object ms)
unfolding object_with
object_again keys path ms known = rw known refl

version : (ms : Members) (n : ℕ) → number 1 2 (at_key [] (codes "plan")) (number_data (unsigned n)) ≡ Ok n
    → get_member (codes "plan") ms ≡ Some (number_data (unsigned n))
    → required (codes "plan") (number 1 2) [] (object ms) ≡ Ok n
unfolding required
version ms n read there = rw there read

one : number 1 2 (at_key [] (codes "plan")) (number_data (unsigned 1)) ≡ Ok 1
unfolding number
one = refl

two : number 1 2 (at_key [] (codes "plan")) (number_data (unsigned 2)) ≡ Ok 2
unfolding number
two = refl

-- reading the number, then the keys after it
made : (ms : Members) (n : ℕ) (plan : PlanData) → first_unknown top_keys ms ≡ None
    → required (codes "plan") (number 1 2) [] (object ms) ≡ Ok n → plan_by (n == 2) [] (object ms) ≡ Ok plan
    → plan_in (object ms) ≡ Ok plan
unfolding plan_in
made ms n plan known number_is read = rw (object_again top_keys [] ms known, number_is) read

parts : (ms : Members) (plan : PlanData) → plan_in (object ms) ≡ Ok plan
    → (first_unknown top_keys ms ≡ None) ×
    ((n : ℕ) × (required (codes "plan") (number 1 2) [] (object ms) ≡ Ok n)
    × (plan_by (n == 2) [] (object ms) ≡ Ok plan))
unfolding plan_in
parts ms plan e =
    let a = bind_ok (object_with top_keys [] (object ms)) (λ o. required (codes "plan") (number 1 2) [] o >>= λ n. plan_by (n == 2) [] o) plan e in
    let is = object_is top_keys [] ms a.0 a.1 in
    let rest : (required (codes "plan") (number 1 2) [] (object ms) >>= λ n. plan_by (n == 2) [] (object ms)) ≡ Ok plan = rw is.1 a.2 in
    let b = bind_ok (required (codes "plan") (number 1 2) [] (object ms)) (λ n. plan_by (n == 2) [] (object ms)) plan rest in
    (is.0, (b.0, b.1, b.2))

pub law : PlanOneIsPlanTwo
law ms plan there e =
    let p = parts ms plan e in
    let first = version ms 1 one there in
    let n-is : 1 ≡ p.1.0 = cc in
    let read : plan_by false [] (object ms) ≡ Ok plan = rw (← n-is) at p.1.2 in
    let next = put (codes "plan") (number_data (unsigned 2)) ms in
    let known = put_known top_keys (codes "plan") (number_data (unsigned 2)) ms refl p.0 in
    let second = version next 2 two (get_member-put (codes "plan") (number_data (unsigned 2)) ms) in
    made next 2 plan known second (plan_by_same (object next) (object ms) (put_same (number_data (unsigned 2)) ms) true [] ∙ plan_by_later [] (object ms) plan read)
