-- A schedule in terms of its readers' parts: as built from them, as read plainly, and after an event.
use Rattle.std.proofs.Common.{◌≡◌, ℕ, zero, suc, ◌+◌, ◌*◌, ◌/◌, ◌%◌, ◌<◌, ◌≤◌, false, List, [], ◌∷◌, map, replicate, get_or, ap, sym, ◌∙◌, refl, subst, arith}
use Rattle.std.specs.Prelude.{Option, Some, None}
use Rattle.std.specs.List.{range_with_len}
use Rattle.std.proofs.lemmas.List.FromFn.{get_or-map-range_with_len, length-map-range_with_len}
use Rattle.std.proofs.lemmas.Nat.{div-mul-add, mod-mul-add}
use Rattle.std.proofs.Math.Nat.{div-lt_iff_lt-mul, mod-mod}
use Rattle.ring_core.specs.declared.event.Stage.TheVariants.{Idle}
use Rattle.ring_core.specs.Schedule.{Schedule, readers, Progress, Lanes, progress_of, lanes_of, lane_place, start}
use Rattle.ring_core.specs.Sound.{IsSized, IsSoundProgress, IsSoundWords, IsSoundLanes, IsSound}
use Rattle.ring_core.proofs.Readers.{lane_in, fresh_progress, fresh_lanes}
use Rattle.ring_core.proofs.Lower.{plain_keeps}
use Rattle.ring_core.specs.Plain.{numbers, from_low, first_row, plain_lanes, schedule_of, plain}

-- functions that agree on a range map it to the same list
pub map_same : {A : Type 0} (f g : ℕ → A) (a n : ℕ) → ((k : ℕ) → a ≤ k → k < a + n → f k ≡ g k)
    → map f (range_with_len a n) ≡ map g (range_with_len a n)
map_same f g a zero h = refl
map_same f g a (suc n) h = λ i. h a (omega arith) (omega arith) i ∷ map_same f g (a + 1) n (λ k low high. h k (omega arith) (omega arith)) i

-- schedule s has these numbers, and n readers
pub record HasNumbers (s : Schedule) (places total head n : ℕ) : Type 0 where
  pub places_is : s.places ≡ places
  pub total_is : s.total ≡ total
  pub head_is : s.head ≡ head
  pub some_place : 0 < s.places
  pub count : readers s ≡ n
  pub sized : IsSized s

-- schedule s has n readers, whose parts are p and l
pub record IsMade (s : Schedule) (places total head n : ℕ) (p : ℕ → Progress) (l : ℕ → Lanes) : Type 0 where
  pub numbers : HasNumbers s places total head n
  pub progress : (r : ℕ) → r < n → progress_of s r ≡ p r
  pub lanes : (r : ℕ) → r < n → lanes_of s r ≡ l r

-- the row in a lane depends on the place alone
abbrev pub ByPlace : ℕ → Lanes → Type 0
ByPlace places l = (k : ℕ) → l.row (k % places) ≡ l.row k

made_progress : (places total head n : ℕ) (p : ℕ → Progress) (l : ℕ → Lanes) (r : ℕ) → r < n
    → progress_of (schedule_of places total head n p l) r ≡ p r
made_progress places total head n p l r h =
    let at : 0 + r ≡ r = omega arith in
    let a = get_or-map-range_with_len (λ (q : ℕ). (p q).known) 0 n r r None h at in
    let b = get_or-map-range_with_len (λ (q : ℕ). (p q).cursor) 0 n r r None h at in
    let c = get_or-map-range_with_len (λ (q : ℕ). (p q).seen) 0 n r r 0 h at in
    let d = get_or-map-range_with_len (λ (q : ℕ). (p q).taken) 0 n r r [] h at in
    λ i. record { known = a i; cursor = b i; seen = c i; taken = d i }

made_lanes : (places total head n : ℕ) (p : ℕ → Progress) (l : ℕ → Lanes) (r : ℕ) → 0 < places → r < n
    → ByPlace places (l r) → lanes_of (schedule_of places total head n p l) r ≡ l r
made_lanes places total head n p l r some h by =
    let at : 0 + r ≡ r = omega arith in
    let a = get_or-map-range_with_len (λ (q : ℕ). (l q).filled) 0 n r r false h at in
    let b = get_or-map-range_with_len (λ (q : ℕ). (l q).stage) 0 n r r Idle h at in
    let f : ℕ → Option ℕ = λ i. (l (i / places)).row (i % places) in
    let row : (k : ℕ) → get_or (map f (numbers (n * places))) (lane_place places r k) None ≡ (l r).row k = λ k. (
    let low : k % places < places = omega (arith, some) in
    let got = get_or-map-range_with_len f 0 (n * places) (lane_place places r k) (lane_place places r k) None (lane_in places n r k some h) (omega arith) in
    let q = div-mul-add r places (k % places) low in
    let m = mod-mul-add r places (k % places) low in
    got ∙ ((λ i. (l (q i)).row (m i)) ∙ by k)) in
    λ i. record { filled = a i; stage = b i; row = λ k. row k i }

made_sized : (places total head n : ℕ) (p : ℕ → Progress) (l : ℕ → Lanes)
    → IsSized (schedule_of places total head n p l)
made_sized places total head n p l =
    let count = length-map-range_with_len (λ (r : ℕ). (p r).cursor) 0 n in
    record {
      filled = length-map-range_with_len (λ (r : ℕ). (l r).filled) 0 n ∙ sym count;
      known = length-map-range_with_len (λ (r : ℕ). (p r).known) 0 n ∙ sym count;
      seen = length-map-range_with_len (λ (r : ℕ). (p r).seen) 0 n ∙ sym count;
      stage = length-map-range_with_len (λ (r : ℕ). (l r).stage) 0 n ∙ sym count;
      lane = length-map-range_with_len (λ (i : ℕ). (l (i / places)).row (i % places)) 0 (n * places) ∙ ap (λ k. k * places) (sym count);
      taken = length-map-range_with_len (λ (r : ℕ). (p r).taken) 0 n ∙ sym count;
    }

pub is_made : (places total head n : ℕ) (p : ℕ → Progress) (l : ℕ → Lanes) → 0 < places
    → ((r : ℕ) → r < n → ByPlace places (l r))
    → IsMade (schedule_of places total head n p l) places total head n p l
is_made places total head n p l some by = record {
  numbers = record {
    places_is = refl;
    total_is = refl;
    head_is = refl;
    some_place = some;
    count = length-map-range_with_len (λ (r : ℕ). (p r).cursor) 0 n;
    sized = made_sized places total head n p l;
  };
  progress = λ r h. made_progress places total head n p l r h;
  lanes = λ r h. made_lanes places total head n p l r some h (by r h);
}

-- schedules with the same parts are equal
pub made_same : (places total head n : ℕ) (p q : ℕ → Progress) (l m : ℕ → Lanes) → 0 < places
    → ((r : ℕ) → r < n → p r ≡ q r) → ((r : ℕ) → r < n → l r ≡ m r)
    → schedule_of places total head n p l ≡ schedule_of places total head n q m
made_same places total head n p q l m some e f =
    let filled = map_same (λ r. (l r).filled) (λ r. (m r).filled) 0 n (λ k _ h. ap (λ (x : Lanes). x.filled) (f k (omega arith))) in
    let known = map_same (λ r. (p r).known) (λ r. (q r).known) 0 n (λ k _ h. ap (λ (x : Progress). x.known) (e k (omega arith))) in
    let cursor = map_same (λ r. (p r).cursor) (λ r. (q r).cursor) 0 n (λ k _ h. ap (λ (x : Progress). x.cursor) (e k (omega arith))) in
    let seen = map_same (λ r. (p r).seen) (λ r. (q r).seen) 0 n (λ k _ h. ap (λ (x : Progress). x.seen) (e k (omega arith))) in
    let stage = map_same (λ r. (l r).stage) (λ r. (m r).stage) 0 n (λ k _ h. ap (λ (x : Lanes). x.stage) (f k (omega arith))) in
    let lane = map_same (λ i. (l (i / places)).row (i % places)) (λ i. (m (i / places)).row (i % places)) 0 (n * places)
    (λ i _ h. ap (λ (x : Lanes). x.row (i % places)) (f (i / places) ((div-lt_iff_lt-mul some).1 (omega arith)))) in
    let taken = map_same (λ r. (p r).taken) (λ r. (q r).taken) 0 n (λ k _ h. ap (λ (x : Progress). x.taken) (e k (omega arith))) in
    λ i. record { places = places; total = total; head = head; filled = filled i; known = known i; cursor = cursor i; seen = seen i; stage = stage i; lane = lane i; taken = taken i }

-- the plain reading of a schedule, in terms of its readers' parts
pub made_plain : (s : Schedule) (places total head n : ℕ) (p : ℕ → Progress) (l : ℕ → Lanes)
    → IsMade s places total head n p l
    → plain s ≡ schedule_of places total head n p (λ r. plain_lanes head (p r) (l r))
made_plain s places total head n p l m =
    let is = m.numbers in
    let some : 0 < places = subst (λ k. 0 < k) is.places_is is.some_place in
    (λ i. schedule_of (is.places_is i) (is.total_is i) (is.head_is i) (is.count i) (progress_of s) (λ r. plain_lanes (is.head_is i) (progress_of s r) (lanes_of s r)))
    ∙ made_same places total head n (progress_of s) p (λ r. plain_lanes head (progress_of s r) (lanes_of s r)) (λ r. plain_lanes head (p r) (l r)) some m.progress
    (λ r h i. plain_lanes head (m.progress r h i) (m.lanes r h i))

-- a schedule built from sound parts is sound
pub made_sound : (s : Schedule) (places total head n : ℕ) (p : ℕ → Progress) (l : ℕ → Lanes)
    → IsMade s places total head n p l → IsSoundWords places total head n p
    → ((r : ℕ) → r < n → IsSoundLanes places total head (p r) (l r)) → IsSound s
made_sound s places total head n p l m words lanes = let is = m.numbers in record {
  sized = is.sized;
  words = record {
    some_place = is.some_place;
    head_in = let a = is.head_is in let b = is.total_is in let c = words.head_in in omega arith;
    each = λ r h. let i : r < n = let c = is.count in omega arith in subst (λ x. x) (λ j. IsSoundProgress (sym is.places_is j) (sym is.head_is j) (sym (m.progress r i) j)) (words.each r i);
  };
  lanes = λ r h. let i : r < n = let c = is.count in omega arith in
      subst (λ x. x) (λ j. IsSoundLanes (sym is.places_is j) (sym is.total_is j) (sym is.head_is j) (sym (m.progress r i) j) (sym (m.lanes r i) j)) (lanes r i);
}

-- the parts of a schedule
pub own_parts : (s : Schedule) → IsSized s → 0 < s.places
    → IsMade s s.places s.total s.head (readers s) (progress_of s) (lanes_of s)
own_parts s z some = record {
  numbers = record { places_is = refl; total_is = refl; head_is = refl; some_place = some; count = refl; sized = z };
  progress = λ r h. refl;
  lanes = λ r h. refl;
}

-- in the plain reading the row in a lane still depends on the place alone
pub plain_by_place : (places head : ℕ) (p : Progress) (l : Lanes) → ByPlace places l
    → ByPlace places (plain_lanes head p l)
plain_by_place places head p l by k = ap (from_low (first_row head p.cursor)) (by k)

own_by_place : (s : Schedule) (r : ℕ) → ByPlace s.places (lanes_of s r)
own_by_place s r k = ap (λ j. get_or s.lane (r * s.places + j) None) (mod-mod k s.places)

pub plain_sound : (s : Schedule) → IsSound s → IsSound (plain s)
plain_sound s h =
    let some = h.words.some_place in
    let n = readers s in
    let p = progress_of s in
    let l : ℕ → Lanes = λ r. plain_lanes s.head (p r) (lanes_of s r) in
    made_sound (plain s) s.places s.total s.head n p l (is_made s.places s.total s.head n p l some (λ r i. plain_by_place s.places s.head (p r) (lanes_of s r) (own_by_place s r)))
    h.words (λ r i. plain_keeps s.places s.total s.head (p r) (lanes_of s r) (h.words.each r i) (h.lanes r i))

-- a schedule whose readers have not begun is the initial schedule
map_const : {A : Type 0} (c : A) (a n : ℕ) → map (λ (k : ℕ). c) (range_with_len a n) ≡ replicate n c
map_const c a zero = refl
map_const c a (suc n) = λ i. c ∷ map_const c (a + 1) n i

pub start_made : (places total n : ℕ)
    → schedule_of places total 0 n (λ _. fresh_progress) (λ _. fresh_lanes) ≡ start places n total
start_made places total n =
    let filled = map_const false 0 n in
    let first = map_const (Some 0) 0 n in
    let seen = map_const {A = ℕ} 0 0 n in
    let stage = map_const Idle 0 n in
    let lane = map_const {A = Option ℕ} None 0 (n * places) in
    let taken = map_const {A = List ℕ} [] 0 n in
    λ i. record { places = places; total = total; head = 0; filled = filled i; known = first i; cursor = first i; seen = seen i; stage = stage i; lane = lane i; taken = taken i }
