-- Lists of values, and members, that grow by one entry.
use Rattle.std.proofs.Common.{◌≡◌, ℕ, ◌+◌, ◌<◌, List, [], ◌∷◌, ◌++◌, Vec, Global, length, map, take, get_or, refl, sym, ap, ◌∙◌}
use Rattle.std.specs.List.{range_with_len}
use Rattle.std.proofs.lemmas.List.{map-append, take_more}
use Rattle.std.proofs.lemmas.List.FromFn.{map-range_with_len_more}
use Rattle.serde_json.specs.Data.{Data, Members, array, item, put}
use Rattle.serde_json.specs.View.{view, items_of as shown_items}
use Rattle.serde_json.specs.declared.value.Value.{Value}
use Rattle.serde_json.specs.declared.value.Value.TheVariants.{Array}
use Rattle.serde_json.proofs.Views.{view-Array}
use Rattle.job_gen.specs.Text.{items_of, list_of, whole}

-- one more value
pub values_more : (f : ℕ → Data) (from k j : ℕ) (old new : List Value) (value : Value) → from + k ≡ j → map view old ≡ map f (range_with_len from k)
    → new ≡ old ++ value ∷ [] → view value ≡ f j → map view new ≡ map f (range_with_len from (k + 1))
values_more f from k j old new value e before is is_value =
    ap (map view) is ∙ map-append view old (value ∷ []) ∙ ap (λ xs. xs ++ view value ∷ []) before
    ∙ ap (λ d. map f (range_with_len from k) ++ d ∷ []) is_value ∙ sym (map-range_with_len_more f from k j e)

-- one more number of a list
pub numbers_more : (all : List ℕ) (i d : ℕ) (old new : List Value) (value : Value) → i < length all → map view old ≡ map whole (take i all)
    → new ≡ old ++ value ∷ [] → view value ≡ whole (get_or all i d) → map view new ≡ map whole (take (i + 1) all)
numbers_more all i d old new value less before grown is_value =
    ap (map view) grown ∙ map-append view old (value ∷ []) ∙ ap (λ xs. xs ++ view value ∷ []) before
    ∙ ap (λ one. map whole (take i all) ++ one ∷ []) is_value
    ∙ sym (map-append whole (take i all) (get_or all i d ∷ [])) ∙ sym (ap (map whole) (take_more all i d less))

items_are : (ds : List Data) → shown_items ds ≡ items_of ds
items_are [] = refl
items_are (d ∷ ds) = ap (item d) (items_are ds)

-- the value of a list
pub list_is : (ds : List Data) (values : Vec Value Global) → map view values.items ≡ ds → view (Array values) ≡ list_of ds
list_is ds values e = view-Array values ∙ ap (λ shown. array (shown_items shown)) e ∙ ap array (items_are ds)

-- one more member
pub member_more : (key : List ℕ) (d e : Data) (before old new : Members) → new ≡ put key e old → e ≡ d → old ≡ before
    → new ≡ put key d before
member_more key d e before old new grown is same = grown ∙ ap (λ (one : Data). put key one old) is ∙ ap (put key d) same
