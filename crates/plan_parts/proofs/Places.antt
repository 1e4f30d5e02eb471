-- Indexes in lists of names, and the keys of an object.
use Rattle.std.proofs.Common.{◌≡◌, ℕ, ◌+◌, Bool, true, false, not, ◌||◌, cond, List, [], ◌∷◌, map, Option, Some, option_map, String, string_bytes, Global, refl, ap}
use Rattle.std.specs.List.{position_from, list_any, find}
use Rattle.std.specs.Map.{keys_of}
use Rattle.serde_json.specs.View.{members_view}
use Rattle.serde_json.specs.declared.value.Value.{Value}
use Rattle.plan_parts.specs.Reading.{is_among, first_unknown}

pub position_from-map : {A B : Type 0} (t : B → Bool) (f : A → B) (i : ℕ) (xs : List A)
    → position_from t i (map f xs) ≡ position_from (λ x. t (f x)) i xs
position_from-map t f i [] = refl
position_from-map t f i (x ∷ xs) = ap (cond (t (f x)) (Some i)) (position_from-map t f (i + 1) xs)

pub list_any-map : {A B : Type 0} (t : B → Bool) (f : A → B) (xs : List A)
    → list_any t (map f xs) ≡ list_any (λ x. t (f x)) xs
list_any-map t f [] = refl
list_any-map t f (x ∷ xs) = ap (λ b. t (f x) || b) (list_any-map t f xs)

unknown_case : (known : Bool) (e : String Global × Value) (rest : Option (String Global))
    (found : Option (List ℕ)) → option_map string_bytes rest ≡ found
    → option_map string_bytes (cond (not known) (Some e.0) rest) ≡ cond known found (Some (string_bytes e.0))
unknown_case true e rest found h = h
unknown_case false e rest found h = refl

-- the first unknown key of a map is that of the members that represent the map
pub first_unknown-entries : (keys : List (List ℕ)) (es : List (String Global × Value))
    → option_map string_bytes (find (λ key. not (is_among keys (string_bytes key))) (keys_of es))
    ≡ first_unknown keys (members_view es)
first_unknown-entries keys [] = refl
first_unknown-entries keys (e ∷ es) = unknown_case (is_among keys (string_bytes e.0)) e _ _ (first_unknown-entries keys es)
