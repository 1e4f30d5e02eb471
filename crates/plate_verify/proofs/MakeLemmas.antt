-- Plates made together: one row of each, all rows, and their completion.
use Rattle.std.proofs.Common.{◌≡◌, ℕ, zero, suc, ◌+◌, ◌*◌, ◌<◌, ◌≤◌, cond, List, [], ◌∷◌, ◌++◌, length, map, drop, get_or, set, Result, Ok, Err, refl, sym, ap, ◌∙◌, subst, ⊎_elim, arith}
use Rattle.std.specs.Prelude.{All, OnOk, nat_lt}
use Rattle.std.proofs.Math.Seq.{drop-cons}
use Rattle.std.proofs.Math.Nat.{add-mul, one-mul, mul-le-mul_right}
use Rattle.std.proofs.lemmas.Bool.{cases_eq, cond-true, cond-false, lt-ltb, le-ltb}
use Rattle.std.proofs.lemmas.List.{get_or-set_same, get_or-set_other, length-set, length-drop, get_or-drop}
use Rattle.std.proofs.lemmas.List.Elements.{All-drop}
use Rattle.std.proofs.lemmas.List.FromFn.{map-range_with_len_more, length-map-range_with_len, get_or-map-range_with_len}
use Rattle.pr_base.specs.Row.{FitsNext, row_size}
use Rattle.tif_packbits.specs.Frame.{frame_of, frame_size, packed_in, IsFrame}
use Rattle.tif_packbits.proofs.Frames.{length-frame_of, packed_in-frame_of, IsFrame-frame_of}
use Rattle.plan_rows.proofs.Held.{below_next}
use Rattle.plate_bytes.specs.Made.{PlateState, HasRows, TakesRow, HasAllRows, so_far, whole}
use Rattle.plate_verify.specs.Making.{HaveSides, HaveRows, AreWhole, AreFull, TakesNext, EachTakes, AreFed, turn_rows}
use Rattle.tif_plate.specs.declared.sides.Sides.{Sides}

pub on_ok : {T E : Type 0} (r : Result T E) (P Q : Type 0) → OnOk r P → (P → Q) → OnOk r Q
on_ok (Ok x) P Q p gives = gives p
on_ok (Err e) P Q p gives = tt

-- ---- one plate

pub fits_next : (plate : PlateState) (left : List (List ℕ)) (len : ℕ) (rows : List (List ℕ)) (row : List ℕ) (rest : List (List ℕ)) → TakesNext plate left len rows row rest → FitsNext left len
fits_next plate left len rows row rest takes =
    subst {A = List (List ℕ)} (λ l. FitsNext l len) (sym takes.feeds) (takes.frame ∙ sym (length-frame_of row))

first_is : (x y : List ℕ) (xs ys : List (List ℕ)) → x ∷ xs ≡ y ∷ ys → x ≡ y
first_is x y xs ys e = cc

pub frame_is : (plate : PlateState) (left : List (List ℕ)) (len : ℕ) (rows : List (List ℕ)) (row : List ℕ) (rest : List (List ℕ)) (frame : List ℕ) (left' : List (List ℕ))
    → TakesNext plate left len rows row rest → left ≡ frame ∷ left' → frame ≡ frame_of row
frame_is plate left len rows row rest frame left' takes given = first_is frame (frame_of row) left' rest (sym given ∙ takes.feeds)

pub is_frame : (plate : PlateState) (left : List (List ℕ)) (len : ℕ) (rows : List (List ℕ)) (row : List ℕ) (rest : List (List ℕ)) (frame : List ℕ) (left' : List (List ℕ))
    → TakesNext plate left len rows row rest → left ≡ frame ∷ left' → IsFrame frame
is_frame plate left len rows row rest frame left' takes given =
    subst {A = List ℕ} IsFrame (sym (frame_is plate left len rows row rest frame left' takes given)) (IsFrame-frame_of row takes.small)

pub takes_row : (plate : PlateState) (left : List (List ℕ)) (len : ℕ) (rows : List (List ℕ)) (row : List ℕ) (rest : List (List ℕ)) (frame packed : List ℕ) (left' : List (List ℕ))
    → TakesNext plate left len rows row rest → left ≡ frame ∷ left' → packed ≡ packed_in frame → TakesRow plate rows row packed
takes_row plate left len rows row rest frame packed left' takes given held = record {
  has = takes.has;
  more = takes.more;
  size = takes.size;
  is = held ∙ ap packed_in (frame_is plate left len rows row rest frame left' takes given) ∙ packed_in-frame_of row takes.small;
}

-- a plate in this state has these rows
pub has_rows : (sides : Sides) (plate : PlateState) (rows : List (List ℕ)) → plate ≡ so_far sides.width sides.height sides.dpi rows → All (λ row. length row ≡ row_size sides.width) rows → HasRows plate rows
unfolding so_far
has_rows sides plate rows e each =
    let w : plate.width ≡ sides.width = ap {A = PlateState} (λ p. p.width) e in
    let h : plate.height ≡ sides.height = ap {A = PlateState} (λ p. p.height) e in
    let d : plate.dpi ≡ sides.dpi = ap {A = PlateState} (λ p. p.dpi) e in
    record {
      is = e ∙ ap (λ x. so_far x sides.height sides.dpi rows) (sym w) ∙ ap (λ x. so_far plate.width x sides.dpi rows) (sym h) ∙ ap (λ x. so_far plate.width plate.height x rows) (sym d);
      each = subst {A = ℕ} (λ x. All (λ (row : List ℕ). length row ≡ row_size x) rows) (sym w) each;
    }

-- its state with more rows, by its own sides
pub by_sides : (sides : Sides) (plate : PlateState) (rows more : List (List ℕ)) → plate ≡ so_far sides.width sides.height sides.dpi rows
    → so_far plate.width plate.height plate.dpi more ≡ so_far sides.width sides.height sides.dpi more
unfolding so_far
by_sides sides plate rows more e =
    let w : plate.width ≡ sides.width = ap {A = PlateState} (λ p. p.width) e in
    let h : plate.height ≡ sides.height = ap {A = PlateState} (λ p. p.height) e in
    let d : plate.dpi ≡ sides.dpi = ap {A = PlateState} (λ p. p.dpi) e in
    ap (λ x. so_far x plate.height plate.dpi more) w ∙ ap (λ x. so_far sides.width x plate.dpi more) h ∙ ap (λ x. so_far sides.width sides.height x more) d

pub own_width : (sides : Sides) (plate : PlateState) (rows : List (List ℕ)) → plate ≡ so_far sides.width sides.height sides.dpi rows → (plate.width ≡ sides.width) × (plate.height ≡ sides.height) × (plate.dpi ≡ sides.dpi)
unfolding so_far
own_width sides plate rows e = (ap {A = PlateState} (λ p. p.width) e, ap {A = PlateState} (λ p. p.height) e, ap {A = PlateState} (λ p. p.dpi) e)

-- ---- a row of each

-- the rows of plate i after the first j plates took their next row
abbrev taken_rows : (ℕ → List (List ℕ)) → List (List ℕ) → ℕ → ℕ → List (List ℕ)
taken_rows rows next j i = cond (nat_lt i j) (rows i ++ get_or next i [] ∷ []) (rows i)

pub record TookUpTo (sides : Sides) (rows : ℕ → List (List ℕ)) (next : List (List ℕ)) (j : ℕ) (plates : List PlateState) (left : List (List ℕ)) : Type 0 where
  pub have : HaveRows sides (λ i. cond (nat_lt i j) (rows i ++ get_or next i [] ∷ []) (rows i)) plates
  pub feeds : left ≡ map frame_of (drop j next)

pub took-none : (plates : List PlateState) (left : List (List ℕ)) (len : ℕ) (sides : Sides) (rows : ℕ → List (List ℕ)) (next : List (List ℕ)) → EachTakes plates left len sides rows next → TookUpTo sides rows next 0 plates left
took-none plates left len sides rows next takes = record {
  have = record { are = λ i d below. takes.have.are i d below ∙ ap (so_far sides.width sides.height sides.dpi) (sym (cond-false (nat_lt i 0) (rows i ++ get_or next i [] ∷ []) (rows i) (le-ltb i 0 (omega arith)))) };
  feeds = takes.feeds;
}

own_rows : (sides : Sides) (rows : ℕ → List (List ℕ)) (next : List (List ℕ)) (j : ℕ) (plates : List PlateState) (left : List (List ℕ)) (d : PlateState) → TookUpTo sides rows next j plates left → j < length plates
    → get_or plates j d ≡ so_far sides.width sides.height sides.dpi (rows j)
own_rows sides rows next j plates left d took below =
    took.have.are j d below ∙ ap (so_far sides.width sides.height sides.dpi) (cond-false (nat_lt j j) (rows j ++ get_or next j [] ∷ []) (rows j) (le-ltb j j (omega arith)))

pub took-next : (plates0 : List PlateState) (left0 : List (List ℕ)) (len : ℕ) (sides : Sides) (rows : ℕ → List (List ℕ)) (next : List (List ℕ)) (j : ℕ) (plates : List PlateState) (left : List (List ℕ)) (len' : ℕ) (d : PlateState)
    → EachTakes plates0 left0 len sides rows next → TookUpTo sides rows next j plates left → length plates ≡ length plates0 → len' ≡ len → j < length plates
    → TakesNext (get_or plates j d) left len' (rows j) (get_or next j []) (map frame_of (drop (j + 1) next))
took-next plates0 left0 len sides rows next j plates left len' d takes took many same below =
    let e : get_or plates j d ≡ so_far sides.width sides.height sides.dpi (rows j) = own_rows sides rows next j plates left d took below in
    let own : ((get_or plates j d).width ≡ sides.width) × ((get_or plates j d).height ≡ sides.height) × ((get_or plates j d).dpi ≡ sides.dpi) = own_width sides (get_or plates j d) (rows j) e in
    let first : j < length plates0 = omega (arith, many) in
    let there : j < length next = omega (arith, takes.enough) in
    let size : length (get_or next j []) ≡ row_size sides.width = takes.each j [] there in
    let fewer : length (rows j) < sides.height = takes.more j first in
    let suc_is : suc j ≡ j + 1 = omega arith in
    record {
      has = has_rows sides (get_or plates j d) (rows j) e (takes.earlier j first);
      more = omega (arith, fewer, own.1);
      size = size ∙ ap row_size (sym own.0);
      small = omega (arith, size, takes.small);
      feeds = took.feeds ∙ ap (map frame_of) (drop-cons next j [] there) ∙ ap (λ n. frame_of (get_or next j []) ∷ map frame_of (drop n next)) suc_is;
      frame = same ∙ takes.frame ∙ ap frame_size (sym size);
    }

pub took-more : (plates0 : List PlateState) (left0 : List (List ℕ)) (len : ℕ) (sides : Sides) (rows : ℕ → List (List ℕ)) (next : List (List ℕ)) (j : ℕ) (plates : List PlateState) (left left' : List (List ℕ)) (d new : PlateState)
    → EachTakes plates0 left0 len sides rows next → TookUpTo sides rows next j plates left → j < length plates
    → new ≡ so_far (get_or plates j d).width (get_or plates j d).height (get_or plates j d).dpi (rows j ++ get_or next j [] ∷ []) → left' ≡ map frame_of (drop (j + 1) next)
    → TookUpTo sides rows next (j + 1) (set plates j new) left'
took-more plates0 left0 len sides rows next j plates left left' d new takes took below made fed =
    let e : get_or plates j d ≡ so_far sides.width sides.height sides.dpi (rows j) = own_rows sides rows next j plates left d took below in
    record {
      have = record {
        are = λ i d' within.
            ⊎_elim
            (λ (here : i ≡ j).
            ap (λ n. get_or (set plates j new) n d') here ∙ get_or-set_same plates j new d' below ∙ made ∙ by_sides sides (get_or plates j d) (rows j) (rows j ++ get_or next j [] ∷ []) e
            ∙ ap (so_far sides.width sides.height sides.dpi) (sym (cond-true (nat_lt j (j + 1)) (rows j ++ get_or next j [] ∷ []) (rows j) (lt-ltb j (j + 1) (omega arith))))
            ∙ ap (λ n. so_far sides.width sides.height sides.dpi (cond (nat_lt n (j + 1)) (rows n ++ get_or next n [] ∷ []) (rows n))) (sym here))
            (λ (other : i ≡ j → ⊥).
            get_or-set_other plates j i new d' other ∙ took.have.are i d' (omega (arith, length-set plates j new))
            ∙ ap (λ b. so_far sides.width sides.height sides.dpi (cond b (rows i ++ get_or next i [] ∷ []) (rows i))) (sym (below_next i j other)))
            (cases_eq i j);
      };
      feeds = fed;
    }

pub took-all : (sides : Sides) (rows : ℕ → List (List ℕ)) (next : List (List ℕ)) (j : ℕ) (plates : List PlateState) (left : List (List ℕ)) → TookUpTo sides rows next j plates left → length plates ≤ j
    → HaveRows sides (λ i. rows i ++ get_or next i [] ∷ []) plates
took-all sides rows next j plates left took past = record {
  are = λ i d below. took.have.are i d below
      ∙ ap (so_far sides.width sides.height sides.dpi) (cond-true (nat_lt i j) (rows i ++ get_or next i [] ∷ []) (rows i) (lt-ltb i j (omega arith)));
}

-- ---- no rows

pub record RestartedTo (sides : Sides) (j : ℕ) (plates : List PlateState) : Type 0 where
  pub done : (i : ℕ) (d : PlateState) → i < j → i < length plates → get_or plates i d ≡ so_far sides.width sides.height sides.dpi []
  pub sides' : HaveSides sides plates

pub restarted-none : (sides : Sides) (plates : List PlateState) → HaveSides sides plates → RestartedTo sides 0 plates
restarted-none sides plates have = record { done = λ i d less. absurd (omega arith); sides' = have }

pub empty_by : (sides : Sides) (plate : PlateState) → plate.width ≡ sides.width → plate.height ≡ sides.height → plate.dpi ≡ sides.dpi
    → so_far plate.width plate.height plate.dpi [] ≡ so_far sides.width sides.height sides.dpi []
empty_by sides plate w h d =
    ap (λ x. so_far x plate.height plate.dpi []) w ∙ ap (λ x. so_far sides.width x plate.dpi []) h ∙ ap (λ x. so_far sides.width sides.height x []) d

pub restarted-more : (sides : Sides) (j : ℕ) (plates : List PlateState) (d new : PlateState) → RestartedTo sides j plates → j < length plates
    → new ≡ so_far (get_or plates j d).width (get_or plates j d).height (get_or plates j d).dpi [] → RestartedTo sides (j + 1) (set plates j new)
restarted-more sides j plates d new to below made =
    let have : HaveSides sides plates = to.sides' in
    let is : new ≡ so_far sides.width sides.height sides.dpi [] = made ∙ empty_by sides (get_or plates j d) (have.width j d below) (have.height j d below) (have.dpi j d below) in
    let own : (new.width ≡ sides.width) × (new.height ≡ sides.height) × (new.dpi ≡ sides.dpi) = own_width sides new [] is in
    record {
      done = λ i d' less within.
          ⊎_elim
          (λ (here : i ≡ j). ap (λ n. get_or (set plates j new) n d') here ∙ get_or-set_same plates j new d' below ∙ is)
          (λ (other : i ≡ j → ⊥). get_or-set_other plates j i new d' other ∙ to.done i d' (omega arith) (omega (arith, length-set plates j new)))
          (cases_eq i j);
      sides' = record {
        width = λ i d' within. field j below (λ p. p.width) sides.width own.0 (λ k d'' w. have.width k d'' w) i d' within;
        height = λ i d' within. field j below (λ p. p.height) sides.height own.1 (λ k d'' w. have.height k d'' w) i d' within;
        dpi = λ i d' within. field j below (λ p. p.dpi) sides.dpi own.2 (λ k d'' w. have.dpi k d'' w) i d' within;
      };
    }
  where
    field : (j : ℕ) → j < length plates → (f : PlateState → ℕ) (x : ℕ) → f new ≡ x → ((i : ℕ) (d : PlateState) → i < length plates → f (get_or plates i d) ≡ x)
        → (i : ℕ) (d : PlateState) → i < length (set plates j new) → f (get_or (set plates j new) i d) ≡ x
    field j below f x own have i d within =
        ⊎_elim
        (λ (here : i ≡ j). ap (λ n. f (get_or (set plates j new) n d)) here ∙ ap f (get_or-set_same plates j new d below) ∙ own)
        (λ (other : i ≡ j → ⊥). ap f (get_or-set_other plates j i new d other) ∙ have i d (omega (arith, length-set plates j new)))
        (cases_eq i j)

-- ---- all rows

pub record TookRows (k : ℕ) (sides : Sides) (next : List (List ℕ)) (y : ℕ) (plates : List PlateState) (left : List (List ℕ)) : Type 0 where
  pub have : HaveRows sides (turn_rows k next y) plates
  pub feeds : left ≡ map frame_of (drop (y * k) next)

pub took_rows-none : (k : ℕ) (sides : Sides) (next : List (List ℕ)) (plates : List PlateState) (left : List (List ℕ)) → HaveRows sides (λ i. []) plates → left ≡ map frame_of next → TookRows k sides next 0 plates left
took_rows-none k sides next plates left none feeds = record { have = record { are = none.are }; feeds = feeds ∙ ap (λ n. map frame_of (drop n next)) zero_times }
  where
    zero_times : 0 ≡ 0 * k
    zero_times = omega arith

-- one row of a plate
turn_row-in : (k height y i z : ℕ) (next : List (List ℕ)) → height * k ≤ length next → y ≤ height → i < k → z < y → z * k + i < length next
turn_row-in k height y i z next enough within few below =
    let rows : (z + 1) * k ≤ height * k = mul-le-mul_right k (omega arith) in
    let one : (z + 1) * k ≡ z * k + k = add-mul z 1 k ∙ ap (λ n. z * k + n) (one-mul k) in
    omega (arith, rows, one, enough)

pub turn_rows-each : (k height y i width : ℕ) (next : List (List ℕ)) → height * k ≤ length next → y ≤ height → i < k → All (λ row. length row ≡ row_size width) next
    → All (λ row. length row ≡ row_size width) (turn_rows k next y i)
turn_rows-each k height y i width next enough within few each =
    λ z d less.
    let below : z < y = omega (arith, length-map-range_with_len (λ w. get_or next (w * k + i) []) 0 y) in
    ap length (get_or-map-range_with_len (λ w. get_or next (w * k + i) []) 0 y z z d below (omega arith))
    ∙ each (z * k + i) [] (turn_row-in k height y i z next enough within few below)

pub each-takes : (k : ℕ) (sides : Sides) (next : List (List ℕ)) (y : ℕ) (plates0 plates : List PlateState) (left0 left : List (List ℕ)) (len len' : ℕ) → TookRows k sides next y plates left
    → AreFed plates0 left0 len sides next → k ≡ length plates0 → length plates ≡ k → len' ≡ len → y < sides.height
    → EachTakes plates left len' sides (turn_rows k next y) (drop (y * k) next)
each-takes k sides next y plates0 plates left0 left len len' took fed first many same below =
    let rows : (y + 1) * k ≤ sides.height * k = mul-le-mul_right k (omega arith) in
    let one : (y + 1) * k ≡ y * k + k = add-mul y 1 k ∙ ap (λ n. y * k + n) (one-mul k) in
    let enough : sides.height * k ≤ length next = subst {A = ℕ} (λ n. sides.height * n ≤ length next) (sym first) fed.enough in
    record {
      have = took.have;
      feeds = took.feeds;
      enough = omega (arith, rows, one, enough, many, length-drop (y * k) next);
      each = All-drop (λ (row : List ℕ). length row ≡ row_size sides.width) (y * k) next fed.each;
      earlier = λ i few. turn_rows-each k sides.height y i sides.width next enough (omega arith) (omega (arith, many)) fed.each;
      more = λ i few. omega (arith, length-map-range_with_len (λ w. get_or next (w * k + i) []) 0 y);
      small = fed.small;
      frame = same ∙ fed.frame;
    }

none-dropped : (m n : ℕ) → drop {A = List ℕ} m [] ≡ drop n []
none-dropped zero zero = refl
none-dropped zero (suc n) = refl
none-dropped (suc m) zero = refl
none-dropped (suc m) (suc n) = refl

pub drops : (n m : ℕ) (rows : List (List ℕ)) → drop m (drop n rows) ≡ drop (n + m) rows
drops zero m rows = (let same : m ≡ 0 + m = omega arith in ap (λ k. drop k rows) same)
drops (suc n) m [] = none-dropped m (suc n + m)
drops (suc n) m (row ∷ rows) = (let same : suc (n + m) ≡ suc n + m = omega arith in drops n m rows ∙ ap (λ k. drop k (row ∷ rows)) same)

pub took_rows-more : (k : ℕ) (sides : Sides) (next : List (List ℕ)) (y : ℕ) (plates : List PlateState) (left : List (List ℕ)) (n : ℕ) → HaveRows sides (λ i. turn_rows k next y i ++ get_or (drop (y * k) next) i [] ∷ []) plates
    → n ≡ k → left ≡ map frame_of (drop n (drop (y * k) next)) → TookRows k sides next (y + 1) plates left
took_rows-more k sides next y plates left n have is feeds =
    let one : y * k + k ≡ (y + 1) * k = sym (add-mul y 1 k ∙ ap (λ m. y * k + m) (one-mul k)) in
    record {
      have = record {
        are = λ i d below. have.are i d below ∙ ap (so_far sides.width sides.height sides.dpi)
            (ap (λ row. turn_rows k next y i ++ row ∷ []) (get_or-drop (y * k) next i []) ∙ sym (map-range_with_len_more (λ w. get_or next (w * k + i) []) 0 y y (omega arith)));
      };
      feeds = feeds ∙ ap (λ m. map frame_of (drop m (drop (y * k) next))) is ∙ ap (map frame_of) (drops (y * k) k next) ∙ ap (λ m. map frame_of (drop m next)) one;
    }

pub took_rows-all : (k : ℕ) (sides : Sides) (next : List (List ℕ)) (y height : ℕ) (plates0 plates : List PlateState) (left0 left : List (List ℕ)) (len : ℕ) → TookRows k sides next y plates left
    → AreFed plates0 left0 len sides next → k ≡ length plates0 → length plates ≡ k → y ≡ height → height ≡ sides.height → AreFull sides (turn_rows k next height) plates
took_rows-all k sides next y height plates0 plates left0 left len took fed first many all high =
    let enough : sides.height * k ≤ length next = subst {A = ℕ} (λ n. sides.height * n ≤ length next) (sym first) fed.enough in
    record {
      have = record { are = λ i d below. took.have.are i d below ∙ ap (λ n. so_far sides.width sides.height sides.dpi (turn_rows k next n i)) all };
      each = λ i few. turn_rows-each k sides.height height i sides.width next enough (omega arith) (omega (arith, many)) fed.each;
      all = λ i few. length-map-range_with_len (λ w. get_or next (w * k + i) []) 0 height ∙ high;
    }

pub fed_again : (plates plates' : List PlateState) (left : List (List ℕ)) (len : ℕ) (sides : Sides) (next : List (List ℕ)) → AreFed plates left len sides next → HaveSides sides plates' → length plates' ≡ length plates
    → AreFed plates' left len sides next
fed_again plates plates' left len sides next fed have many = record {
  have = have;
  feeds = fed.feeds;
  enough = subst {A = ℕ} (λ n. sides.height * n ≤ length next) (sym many) fed.enough;
  each = fed.each;
  small = fed.small;
  frame = fed.frame;
}

-- ---- completion

pub record FinishedTo (sides : Sides) (rows : ℕ → List (List ℕ)) (j : ℕ) (plates : List PlateState) : Type 0 where
  pub done : (i : ℕ) (d : PlateState) → i < j → i < length plates → get_or plates i d ≡ whole sides.width sides.height sides.dpi (rows i)
  pub ahead : (i : ℕ) (d : PlateState) → j ≤ i → i < length plates → get_or plates i d ≡ so_far sides.width sides.height sides.dpi (rows i)

pub finished-none : (sides : Sides) (rows : ℕ → List (List ℕ)) (plates : List PlateState) → AreFull sides rows plates → FinishedTo sides rows 0 plates
finished-none sides rows plates full = record { done = λ i d less. absurd (omega arith); ahead = λ i d _ below. full.have.are i d below }

pub full-at : (sides : Sides) (rows : ℕ → List (List ℕ)) (plates0 plates : List PlateState) (j : ℕ) (d : PlateState) → AreFull sides rows plates0 → FinishedTo sides rows j plates → length plates ≡ length plates0 → j < length plates
    → HasAllRows (get_or plates j d) (rows j)
full-at sides rows plates0 plates j d full to many below =
    let e : get_or plates j d ≡ so_far sides.width sides.height sides.dpi (rows j) = to.ahead j d (omega arith) below in
    let first : j < length plates0 = omega (arith, many) in
    record {
      has = has_rows sides (get_or plates j d) (rows j) e (full.each j first);
      all = full.all j first ∙ sym ((own_width sides (get_or plates j d) (rows j) e).1);
    }

whole_by : (sides : Sides) (plate : PlateState) (rows : List (List ℕ)) → plate.width ≡ sides.width → plate.height ≡ sides.height → plate.dpi ≡ sides.dpi
    → whole plate.width plate.height plate.dpi rows ≡ whole sides.width sides.height sides.dpi rows
whole_by sides plate rows w h d =
    ap (λ x. whole x plate.height plate.dpi rows) w ∙ ap (λ x. whole sides.width x plate.dpi rows) h ∙ ap (λ x. whole sides.width sides.height x rows) d

pub finished-more : (sides : Sides) (rows : ℕ → List (List ℕ)) (plates : List PlateState) (j : ℕ) (d new : PlateState) → FinishedTo sides rows j plates → j < length plates
    → new ≡ whole (get_or plates j d).width (get_or plates j d).height (get_or plates j d).dpi (rows j) → FinishedTo sides rows (j + 1) (set plates j new)
finished-more sides rows plates j d new to below made =
    let e : get_or plates j d ≡ so_far sides.width sides.height sides.dpi (rows j) = to.ahead j d (omega arith) below in
    let own : ((get_or plates j d).width ≡ sides.width) × ((get_or plates j d).height ≡ sides.height) × ((get_or plates j d).dpi ≡ sides.dpi) = own_width sides (get_or plates j d) (rows j) e in
    record {
      done = λ i d' less within.
          ⊎_elim
          (λ (here : i ≡ j). ap (λ n. get_or (set plates j new) n d') here ∙ get_or-set_same plates j new d' below ∙ made ∙ whole_by sides (get_or plates j d) (rows j) own.0 own.1 own.2
          ∙ ap (λ n. whole sides.width sides.height sides.dpi (rows n)) (sym here))
          (λ (other : i ≡ j → ⊥). get_or-set_other plates j i new d' other ∙ to.done i d' (omega arith) (omega (arith, length-set plates j new)))
          (cases_eq i j);
      ahead = λ i d' past within.
          get_or-set_other plates j i new d' (λ (same : i ≡ j). absurd (omega arith)) ∙ to.ahead i d' (omega arith) (omega (arith, length-set plates j new));
    }

pub finished-all : (sides : Sides) (rows : ℕ → List (List ℕ)) (plates : List PlateState) (j : ℕ) → FinishedTo sides rows j plates → length plates ≤ j → AreWhole sides rows plates
finished-all sides rows plates j to past = record { are = λ i d below. to.done i d (omega arith) below }
