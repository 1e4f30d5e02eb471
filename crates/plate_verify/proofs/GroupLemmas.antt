-- The plates of a group, made from the rows of a feed.
use Rattle.std.proofs.Common.{◌≡◌, ℕ, zero, suc, ◌+◌, ◌-◌, ◌*◌, ◌<◌, ◌≤◌, List, [], ◌∷◌, ◌++◌, length, map, take, drop, get_or, Some, Result, Ok, Err, refl, sym, ap, ◌∙◌, ⊎_elim, arith}
use Rattle.std.specs.Prelude.{OnOk, slice_get}
use Rattle.std.specs.List.{range_with_len}
use Rattle.std.proofs.lemmas.Bool.{cases_lt}
use Rattle.std.proofs.lemmas.List.{length-append, length-drop, length-take-le, get_or-drop, get_or_append_left, get_or-append_right}
use Rattle.std.proofs.lemmas.List.Elements.{All-drop}
use Rattle.pr_base.specs.declared.ink.Ink.{Ink}
use Rattle.pr_base.specs.Row.{row_size}
use Rattle.tif_packbits.specs.Frame.{frame_of}
use Rattle.plan_json.specs.Data.{PlanData, plate_width, plate_height}
use Rattle.plan_rows.specs.declared.group.Group.{Group}
use Rattle.plan_rows.specs.Inks.{inks_of, ink_count, ink_place}
use Rattle.plan_rows.specs.Plates.{plate_rows}
use Rattle.plan_rows.specs.Rows.{row_number}
use Rattle.plan_rows.proofs.Places.{ink_place-at}
use Rattle.plan_rows.proofs.RowLemmas.{ink_count-within}
use Rattle.plate_bytes.specs.Made.{PlateState, whole}
use Rattle.plate_verify.specs.Verifying.{AreMade}
use Rattle.plate_verify.specs.Making.{HaveSides, AreWhole, AreFed, turn_rows}
use Rattle.tif_plate.specs.declared.sides.Sides.{Sides}
use Rattle.plate_verify.specs.Verify.{FedFrom, FedGroup}
use Rattle.plan_rows.specs.Sides.{plate_sides}
use Rattle.plate_verify.proofs.MakeLemmas.{drops}

pub on_ok_always : {T E : Type 0} (r : Result T E) (P : Type 0) → P → OnOk r P
on_ok_always (Ok x) P p = p
on_ok_always (Err e) P p = tt

get_or-take : (k : ℕ) (plates : List PlateState) (i : ℕ) (d : PlateState) → i < length (take k plates) → get_or (take k plates) i d ≡ get_or plates i d
get_or-take zero plates i d below = absurd (omega arith)
get_or-take (suc k) [] i d below = refl
get_or-take (suc k) (p ∷ plates) zero d below = refl
get_or-take (suc k) (p ∷ plates) (suc i) d below = get_or-take k plates i d (omega arith)

-- the first plates receive the rows of the group
pub group_fed : (plan : PlanData) (rows : List (List ℕ)) (group : Group) (plates : List PlateState) (left : List (List ℕ)) (len k : ℕ) → FedGroup plan rows group plates left len → k ≡ ink_count group → k ≤ length plates
    → AreFed (take k plates) left len (plate_sides plan) (drop group.first rows)
group_fed plan rows group plates left len k g is few =
    let many : length (take k plates) ≡ k = length-take-le k plates few in
    let counted : plate_height plan * length (take k plates) ≡ plate_height plan * ink_count group = ap (λ n. plate_height plan * n) (many ∙ is) in
    let have : HaveSides (plate_sides plan) plates = g.fed.have in
    record {
      have = record {
        width = λ i d below. ap {A = PlateState} (λ p. p.width) (get_or-take k plates i d below) ∙ have.width i d (omega arith);
        height = λ i d below. ap {A = PlateState} (λ p. p.height) (get_or-take k plates i d below) ∙ have.height i d (omega arith);
        dpi = λ i d below. ap {A = PlateState} (λ p. p.dpi) (get_or-take k plates i d below) ∙ have.dpi i d (omega arith);
      };
      feeds = g.fed.feeds;
      enough = omega (arith, g.enough, counted, length-drop group.first rows);
      each = All-drop (λ (row : List ℕ). length row ≡ row_size (plate_width plan)) group.first rows g.fed.each;
      small = g.fed.small;
      frame = g.fed.frame;
    }

at_index : {X : Type 0} (xs : List X) (i : ℕ) (x : X) → slice_get xs i ≡ Some x → (i < length xs) × (get_or xs i x ≡ x)
at_index [] i x is = cc
at_index (y ∷ xs) zero x is = (let same : y ≡ x = cc in (omega arith, same))
at_index (y ∷ xs) (suc i) x is = (let rest : (i < length xs) × (get_or xs i x ≡ x) = at_index xs i x is in (omega arith, rest.1))

mapped_alike : (f g : ℕ → List ℕ) → ((n : ℕ) → f n ≡ g n) → (xs : List ℕ) → map f xs ≡ map g xs
mapped_alike f g same [] = refl
mapped_alike f g same (x ∷ xs) = ap (λ y. y ∷ map f xs) (same x) ∙ ap (λ l. g x ∷ l) (mapped_alike f g same xs)

-- the rows that come in turn are those of a plate
turn_is : (plan : PlanData) (rows : List (List ℕ)) (group : Group) (i : ℕ) (ink : Ink) → slice_get (inks_of group) i ≡ Some ink
    → turn_rows (ink_count group) (drop group.first rows) (plate_height plan) i ≡ plate_rows plan rows (group, ink)
turn_is plan rows group i ink is =
    let there : (i < length (inks_of group)) × (get_or (inks_of group) i ink ≡ ink) = at_index (inks_of group) i ink is in
    let place : ink_place group ink ≡ i = ap {A = Ink} (ink_place group) (sym there.1) ∙ ink_place-at group i ink there.0 in
    mapped_alike (λ z. get_or (drop group.first rows) (z * ink_count group + i) []) (λ z. get_or rows (row_number group z ink) [])
    (λ z.
    let number : group.first + (z * ink_count group + i) ≡ row_number group z ink = omega (arith, place) in
    get_or-drop group.first rows (z * ink_count group + i) [] ∙ ap (λ n. get_or rows n []) number)
    (range_with_len 0 (plate_height plan))

-- so the plates are made
pub group_made : (plan : PlanData) (rows : List (List ℕ)) (group : Group) (k height : ℕ) (made : List PlateState) → k ≡ ink_count group → height ≡ plate_height plan
    → AreWhole (plate_sides plan) (turn_rows k (drop group.first rows) height) made → AreMade plan rows group made
group_made plan rows group k height made is high all = record {
  each = λ i ink plate inked there.
      let at : (i < length made) × (get_or made i plate ≡ plate) = at_index made i plate there in
      sym at.1 ∙ all.are i plate at.0
      ∙ ap (λ n. whole (plate_width plan) (plate_height plan) plan.dpi (turn_rows n (drop group.first rows) height i)) is
      ∙ ap (λ n. whole (plate_width plan) (plate_height plan) plan.dpi (turn_rows (ink_count group) (drop group.first rows) n i)) high
      ∙ ap (whole (plate_width plan) (plate_height plan) plan.dpi) (turn_is plan rows group i ink inked);
}

pub whole_sides : (sides : Sides) (plate : PlateState) (rows : List (List ℕ)) → plate ≡ whole sides.width sides.height sides.dpi rows → (plate.width ≡ sides.width) × (plate.height ≡ sides.height) × (plate.dpi ≡ sides.dpi)
unfolding whole
whole_sides sides plate rows e = (ap {A = PlateState} (λ p. p.width) e, ap {A = PlateState} (λ p. p.height) e, ap {A = PlateState} (λ p. p.dpi) e)

-- the next group follows in the feed
pub fed_after : (plan : PlanData) (rows : List (List ℕ)) (group : Group) (plates made : List PlateState) (left left' : List (List ℕ)) (len len' k height : ℕ) (turn : ℕ → List (List ℕ))
    → FedGroup plan rows group plates left len → k ≡ ink_count group → height ≡ plate_height plan → length made ≡ length (take k plates) → AreWhole (plate_sides plan) turn made
    → left' ≡ map frame_of (drop (height * length (take k plates)) (drop group.first rows)) → len' ≡ len
    → FedFrom plan rows (group.first + plate_height plan * ink_count group) (made ++ drop k plates) left' len'
fed_after plan rows group plates made left left' len len' k height turn g is high many all feeds same =
    let few : k ≤ length plates = (let five : 5 ≤ length plates = g.fed.five in omega (arith, is, ink_count-within group)) in
    let taken : length (take k plates) ≡ k = length-take-le k plates few in
    let own : length made ≡ k = many ∙ taken in
    let whole_length : length (made ++ drop k plates) ≡ length plates = length-append made (drop k plates) ∙ omega (arith, own, length-drop k plates) in
    let have : HaveSides (plate_sides plan) plates = g.fed.have in
    let rows_taken : height * length (take k plates) ≡ plate_height plan * ink_count group = ap (λ n. height * n) (taken ∙ is) ∙ ap (λ n. n * ink_count group) high in
    record {
      have = record {
        width = λ i d below. field (λ p. p.width) (plate_width plan) own few (λ j e w. (whole_sides (plate_sides plan) (get_or made j e) (turn j) (all.are j e w)).0) have.width i d (omega (arith, whole_length));
        height = λ i d below. field (λ p. p.height) (plate_height plan) own few (λ j e w. (whole_sides (plate_sides plan) (get_or made j e) (turn j) (all.are j e w)).1) have.height i d (omega (arith, whole_length));
        dpi = λ i d below. field (λ p. p.dpi) plan.dpi own few (λ j e w. (whole_sides (plate_sides plan) (get_or made j e) (turn j) (all.are j e w)).2) have.dpi i d (omega (arith, whole_length));
      };
      five = omega (arith, whole_length, g.fed.five);
      feeds = feeds ∙ ap (λ n. map frame_of (drop n (drop group.first rows))) rows_taken ∙ ap (map frame_of) (drops group.first (plate_height plan * ink_count group) rows);
      each = g.fed.each;
      small = g.fed.small;
      frame = same ∙ g.fed.frame;
    }
  where
    field : (f : PlateState → ℕ) (x : ℕ) → length made ≡ k → k ≤ length plates → ((j : ℕ) (e : PlateState) → j < length made → f (get_or made j e) ≡ x) → ((j : ℕ) (e : PlateState) → j < length plates → f (get_or plates j e) ≡ x)
        → (i : ℕ) (d : PlateState) → i < length plates → f (get_or (made ++ drop k plates) i d) ≡ x
    field f x own few front behind i d below =
        ⊎_elim
        (λ (early : i < length made). ap f (get_or_append_left made (drop k plates) d i early) ∙ front i d early)
        (λ (late : length made ≤ i).
        ap f (get_or-append_right made (drop k plates) k i d own (omega arith) ∙ get_or-drop k plates (i - k) d) ∙ behind (k + (i - k)) d (omega arith))
        (cases_lt i (length made))
