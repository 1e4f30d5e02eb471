-- A loop that takes each ink of a list a step further.
use Rattle.std.proofs.Common.{All, ◌≡◌, ℕ, ◌+◌, ◌<◌, ◌≤◌, List, length, map, get_or, set, refl, ap, sym, ◌∙◌, subst, inl, inr, arith}
use Rattle.std.proofs.lemmas.Bool.{cases_eq}
use Rattle.std.proofs.lemmas.Grind.{get_or-set_at}
use Rattle.std.proofs.lemmas.List.{get_or-map, get_or-set_other, get_or_default, length-map, length-set, same_lists}
use Rattle.press_feed.specs.InkRows.{InkData}

-- the first n were taken a step further
pub record AreStepped (f : InkData → InkData) (n : ℕ) (old new : List InkData) : Type 0 where
  pub count : length new ≡ length old
  pub done : (k : ℕ) (d : InkData) → k < n → k < length old → get_or new k d ≡ f (get_or old k d)
  pub left : (k : ℕ) (d : InkData) → n ≤ k → get_or new k d ≡ get_or old k d

pub stepped_none : (f : InkData → InkData) (inks : List InkData) → AreStepped f 0 inks inks
stepped_none f inks = record {
  count = refl;
  done = λ k d less within. absurd (omega arith);
  left = λ k d above. refl;
}

-- one more
pub stepped_more : (f : InkData → InkData) (n : ℕ) (old inks : List InkData) (d x : InkData) → AreStepped f n old inks → n < length inks → x ≡ f (get_or inks n d) → AreStepped f (n + 1) old (set inks n x)
stepped_more f n old inks d x are within x_is =
    let long = are.count in
    record {
      count = length-set inks n x ∙ are.count;
      done = λ k e less below. elim (cases_eq k n) [
        | inl same ↦
            get_or-set_at inks n k x e same within ∙ x_is
            ∙ ap f (get_or_default inks n d e within ∙ are.left n e (omega arith) ∙ ap (λ i. get_or old i e) (sym same))
        | inr other ↦ get_or-set_other inks n k x e other ∙ are.done k e (omega arith) below
      ];
      left = λ k e above. get_or-set_other inks n k x e (λ same. absurd (omega arith)) ∙ are.left k e (omega arith);
    }

-- what held of all still holds of the next one
pub stepped_next : (P : InkData → Type 0) (f : InkData → InkData) (n : ℕ) (old inks : List InkData) (d : InkData) → AreStepped f n old inks → n < length inks → All P old → P (get_or inks n d)
stepped_next P f n old inks d are within all =
    let long = are.count in
    subst {A = InkData} P (sym (are.left n d (omega arith))) (all n d (omega arith))

-- all of them
pub stepped_all : (f : InkData → InkData) (n : ℕ) (old new : List InkData) → AreStepped f n old new → length old ≤ n → new ≡ map f old
stepped_all f n old new are all =
    let long = are.count in
    same_lists new (map f old) (are.count ∙ sym (length-map old f))
    (λ k d less. are.done k d (omega arith) (omega arith) ∙ sym (get_or-map f old k d d (omega arith)))
