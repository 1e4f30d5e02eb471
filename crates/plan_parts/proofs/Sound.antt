-- What the vocabulary of reading guarantees about the values read.
use Rattle.std.proofs.Common.{◌≡◌, ◌≢◌, ℕ, zero, suc, ◌+◌, ◌<◌, ◌≤◌, Bool, true, false, cond, List, [], ◌∷◌, ◌++◌, length, map, get_or, Option, Some, None, Ok, Err, refl, ap, subst, arith}
use Rattle.std.specs.List.{position_from}
use Rattle.std.specs.Str.{bytes_eq}
use Rattle.std.proofs.lemmas.Grind.{common_steps}
use Rattle.std.proofs.lemmas.Bool.Decides.{nat_tests}
use Rattle.std.proofs.lemmas.Slice.Eq.{bytes_eq-Decides}
use Rattle.std.proofs.lemmas.List.Quantifiers.{all_pairs_push}
use Rattle.serde_json.specs.Data.{Data, Items, no_items, item}
use Rattle.serde_json.specs.Find.{get, get_item}
use Rattle.plan_parts.specs.declared.fault.PlanFault.{PlanFault}
use Rattle.plan_parts.specs.Forms.{is_name, is_file_name}
use Rattle.pr_base.specs.Number.{IsWithin}
use Rattle.plan_parts.specs.Words.{AreDistinct}
use Rattle.plan_parts.specs.Reading.{Read, Reader, ◌>>=◌, ◌>>◌, must, at_item, number, name, file_name, new_name, index_in, defined, count_of, items_within, each_after, list_of, required_in, required, optional_in, optional, nth, at_key}

-- the value of a step that did not fail
pub bind_ok : {A B : Type 0} (r : Read A) (f : A → Read B) (y : B) → (r >>= f) ≡ Ok y
    → (x : A) × (r ≡ Ok x) × (f x ≡ Ok y)
bind_ok (Ok x) f y e = (x, refl, e)
bind_ok (Err d) f y e = absurd cc

pub then_ok : {B : Type 0} (r : Read (Unit {0})) (f : Read B) (y : B) → (r >> f) ≡ Ok y
    → (x : Unit {0}) × (r ≡ Ok x) × (f ≡ Ok y)
then_ok (Ok x) f y e = (x, refl, e)
then_ok (Err d) f y e = absurd cc

pub must_ok : (b : Bool) (fault : PlanFault) {x : Unit {0}} → must b fault ≡ Ok x → b ≡ true
must_ok true fault e = refl
must_ok false fault e = absurd cc

abbrev done : {A : Type 0} → A → Read A
done x = Ok x

pub ok_is : {A : Type 0} (x y : A) → done x ≡ done y → x ≡ y
ok_is x y e = cc

pub number_sound : (low high : ℕ) (path : List ℕ) (d : Data) (n : ℕ) → number low high path d ≡ Ok n
    → IsWithin low high n
unfolding number
number_sound low high path d n e = grind (arith, common_steps, nat_tests)

pub name_sound : (path : List ℕ) (d : Data) (s : List ℕ) → name path d ≡ Ok s → is_name s ≡ true
unfolding name
name_sound path d s e = grind (arith, common_steps)

pub file_name_sound : (path : List ℕ) (d : Data) (s : List ℕ) → file_name path d ≡ Ok s
    → is_file_name s ≡ true
unfolding file_name
file_name_sound path d s e = grind (arith, common_steps)

pub new_name_sound : (earlier : List (List ℕ)) (path : List ℕ) (d : Data) (s : List ℕ)
    → new_name earlier path d ≡ Ok s → (is_name s ≡ true) × (index_in earlier s ≡ None)
unfolding new_name
new_name_sound earlier path d s e = grind (arith, common_steps, name_sound)

below_case : (b : Bool) (i : ℕ) (n : ℕ) (rest : Option ℕ) (k : ℕ) → ((k : ℕ) → rest ≡ Some k → k < i + 1 + n)
    → cond b (Some i) rest ≡ Some k → k < i + suc n
below_case true i n rest k later e = let same : i ≡ k = cc in omega arith
below_case false i n rest k later e = omega (arith, later k e)

below_from : (t : List ℕ → Bool) (i : ℕ) (xs : List (List ℕ)) (k : ℕ) → position_from t i xs ≡ Some k
    → k < i + length xs
below_from t i [] k e = absurd cc
below_from t i (x ∷ xs) k e = below_case (t x) i (length xs) _ k (below_from t (i + 1) xs) e

pub index_below : (names : List (List ℕ)) (s : List ℕ) (k : ℕ) → index_in names s ≡ Some k → k < length names
index_below names s k e = omega (arith, below_from (λ n. bytes_eq n s) 0 names k e)

pub defined_sound : (names : List (List ℕ)) (path : List ℕ) (d : Data) (k : ℕ) → defined names path d ≡ Ok k
    → k < length names
unfolding defined
defined_sound names path d k e = grind (arith, common_steps, index_below)

pub items_within_sound : (low high : ℕ) (path : List ℕ) (d : Data) (items : Items)
    → items_within low high path d ≡ Ok items → IsWithin low high (count_of items)
unfolding items_within
items_within_sound low high path d items e = grind (arith, common_steps, nat_tests)

-- ---- keys

required_case : {A : Type 0} (P : A → Type 0) (read : Reader A) (path : List ℕ) (found : Option Data) (x : A)
    → ((d : Data) → read path d ≡ Ok x → P x) → required_in read path found ≡ Ok x → P x
required_case P read path None x each e = absurd cc
required_case P read path (Some d) x each e = each d e

-- a property of everything that is read holds for the value of a key
pub required_gives : {A : Type 0} (P : A → Type 0) (read : Reader A)
    → ((path : List ℕ) (d : Data) (x : A) → read path d ≡ Ok x → P x)
    → (key path : List ℕ) (o : Data) (x : A) → required key read path o ≡ Ok x → P x
unfolding required
required_gives P read each key path o x e = required_case P read (at_key path key) (get key o) x (λ d. each (at_key path key) d x) e

optional_case : {A : Type 0} (P : A → Type 0) (absent : A) (read : Reader A) (path : List ℕ)
    (found : Option Data) (x : A) → P absent → ((d : Data) → read path d ≡ Ok x → P x)
    → optional_in absent read path found ≡ Ok x → P x
optional_case P absent read path None x h each e = let same : absent ≡ x = cc in subst P same h
optional_case P absent read path (Some d) x h each e = each d e

pub optional_gives : {A : Type 0} (P : A → Type 0) (absent : A) (read : Reader A) → P absent
    → ((path : List ℕ) (d : Data) (x : A) → read path d ≡ Ok x → P x)
    → (key path : List ℕ) (o : Data) (x : A) → optional key absent read path o ≡ Ok x → P x
unfolding optional
optional_gives P absent read h each key path o x e = optional_case P absent read (at_key path key) (get key o) x h (λ d. each (at_key path key) d x) e

pub number_required : (key : List ℕ) (low high : ℕ) (path : List ℕ) (o : Data) (n : ℕ)
    → required key (number low high) path o ≡ Ok n → IsWithin low high n
number_required key low high path o n e = required_gives (IsWithin low high) (number low high) (number_sound low high) key path o n e

pub number_optional : (key : List ℕ) (absent low high : ℕ) (path : List ℕ) (o : Data) (n : ℕ) → low ≤ absent
    → absent ≤ high → optional key absent (number low high) path o ≡ Ok n → IsWithin low high n
number_optional key absent low high path o n above below e =
    optional_gives (IsWithin low high) absent (number low high) (record { least = above; most = below }) (number_sound low high) key path o n e

pub name_required : (key path : List ℕ) (o : Data) (s : List ℕ) → required key name path o ≡ Ok s
    → is_name s ≡ true
name_required key path o s e = required_gives (λ s. is_name s ≡ true) name name_sound key path o s e

pub file_required : (key path : List ℕ) (o : Data) (s : List ℕ) → required key file_name path o ≡ Ok s
    → is_file_name s ≡ true
file_required key path o s e = required_gives (λ s. is_file_name s ≡ true) file_name file_name_sound key path o s e

pub new_name_required : (key : List ℕ) (earlier : List (List ℕ)) (path : List ℕ) (o : Data) (s : List ℕ)
    → required key (new_name earlier) path o ≡ Ok s → (is_name s ≡ true) × (index_in earlier s ≡ None)
new_name_required key earlier path o s e = required_gives (λ s. (is_name s ≡ true) × (index_in earlier s ≡ None)) (new_name earlier) (new_name_sound earlier) key path o s e

pub defined_required : (key : List ℕ) (names : List (List ℕ)) (path : List ℕ) (o : Data) (k : ℕ)
    → required key (defined names) path o ≡ Ok k → k < length names
defined_required key names path o k e = required_gives (λ k. k < length names) (defined names) (defined_sound names) key path o k e

-- a number of a list
pub nth_sound : (i low high : ℕ) (path : List ℕ) (items : Items) (n : ℕ)
    → nth i (number low high) path items ≡ Ok n → IsWithin low high n
unfolding nth
nth_sound i low high path items n e = required_case (IsWithin low high) (number low high) (at_item path i) (get_item i items) n (λ d. number_sound low high (at_item path i) d n) e

-- ---- distinct names

apart_case : (b : Bool) (i : ℕ) (rest : Option ℕ) → cond b (Some i) rest ≡ None → (b ≡ false) × (rest ≡ None)
apart_case true i rest e = absurd cc
apart_case false i rest e = (refl, e)

apart_at : (s : List ℕ) (i : ℕ) (names : List (List ℕ)) → position_from (λ n. bytes_eq n s) i names ≡ None
    → (k : ℕ) (d : List ℕ) → k < length names → get_or names k d ≢ s
apart_at s i [] e k d less = absurd (omega arith)
apart_at s i (n ∷ names) e zero d less = λ same. let h = apart_case (bytes_eq n s) i _ e in let equal : bytes_eq n s ≡ true = (bytes_eq-Decides n s).1 same in absurd cc
apart_at s i (n ∷ names) e (suc k) d less = apart_at s (i + 1) names (apart_case (bytes_eq n s) i _ e).1 k d (omega arith)

pub distinct-push : (names : List (List ℕ)) (s : List ℕ) → index_in names s ≡ None → AreDistinct names
    → AreDistinct (names ++ s ∷ [])
distinct-push names s new apart = all_pairs_push (λ a b. a ≢ b) names s apart (apart_at s 0 names new)

pub map-push : {A B : Type 0} (f : A → B) (xs : List A) (x : A) → map f (xs ++ x ∷ []) ≡ map f xs ++ f x ∷ []
map-push f [] x = refl
map-push f (y ∷ xs) x = ap (λ ys. f y ∷ ys) (map-push f xs x)

-- ---- lists

length-push : {A : Type 0} (xs : List A) (x : A) → length (xs ++ x ∷ []) ≡ length xs + 1
length-push [] x = refl
length-push (y ∷ xs) x = omega (arith, length-push xs x)

module _ {A : Type 0} (read : List A → Reader A) (I : List A → Type 0) (step : (xs : List A) (path : List ℕ) (d : Data) (x : A) → I xs → read xs path d ≡ Ok x → I (xs ++ x ∷ [])) where
  pub each_keeps : (xs : List A) (path : List ℕ) (items : Items) (ys : List A) → I xs
      → each_after xs read path items ≡ Ok ys → I ys × (length ys ≡ length xs + count_of items)
  unfolding each_after
  each_keeps xs path no_items ys h e = let same : xs ≡ ys = cc in (subst I same h, omega (arith, ap length same))
  each_keeps xs path (item d items) ys h e =
      let b = bind_ok (read xs (at_item path (length xs)) d) (λ x. each_after (xs ++ x ∷ []) read path items) ys e in
      let rest = each_keeps (xs ++ b.0 ∷ []) path items ys (step xs (at_item path (length xs)) d b.0 h b.1) b.2 in
      (rest.0, omega (arith, rest.1, length-push xs b.0))

  pub list_keeps : (low high : ℕ) (path : List ℕ) (d : Data) (ys : List A) → I []
      → list_of low high read path d ≡ Ok ys → I ys × IsWithin low high (length ys)
  list_keeps low high path d ys h e =
      let b = bind_ok (items_within low high path d) (each_after [] read path) ys e in
      let kept = each_keeps [] path b.0 ys h b.2 in
      let within = items_within_sound low high path d b.0 b.1 in
      (kept.0, record { least = omega (arith, kept.1, within.least); most = omega (arith, kept.1, within.most) })
