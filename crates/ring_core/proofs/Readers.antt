-- A schedule after an event, in terms of its readers' parts: the reader's own part changes as the event says,
-- and the others are unchanged.
use Rattle.std.proofs.Common.{◌≡◌, ℕ, ◌+◌, ◌*◌, ◌%◌, ◌<◌, ◌≤◌, ◌≢◌, Bool, true, false, List, [], ◌∷◌, ◌++◌, length, get_or, set, inl, inr, ap, sym, ◌∙◌, arith, get_or-set_same, get_or-set_other}
use Rattle.std.specs.Prelude.{Option, Some, None}
use Rattle.std.proofs.lemmas.Bool.{cases_eq, cases_lt}
use Rattle.std.proofs.lemmas.List.{get_or-replicate, get_or-map}
use Rattle.ring_core.specs.declared.event.Stage.TheVariants.{Idle, Holding, Closed}
use Rattle.ring_core.specs.declared.event.Event.TheVariants.{Look, Fill, Publish, See, Open, Close, Advance, Leave}
use Rattle.ring_core.specs.Schedule.{Schedule, readers, Progress, Lanes, progress_of, lanes_of, lane_place, start}
use Rattle.ring_core.specs.Events.{after, cursor_at}
use Rattle.ring_core.proofs.Changes.{put_row, looked, saw, advanced, departed, filled_with, unfilled, opened, closed, settled}
use Rattle.ring_core.specs.Sound.{IsSized}
use Rattle.ring_core.specs.Plain.{read_closed}
use Rattle.ring_core.proofs.Places.{further, put_same, put_other}

-- lanes of two readers have different indices
pub lanes_apart : (places q r a b : ℕ) → a < places → b < places → q ≢ r → q * places + a ≢ r * places + b
lanes_apart places q r a b ha hb other e = elim (cases_lt q r) [
  | inl below ↦ let f = further q r places below in let x : ℕ = q * places in let y : ℕ = r * places in let f' : x + places ≤ y = f in let e' : x + a ≡ y + b = e in omega arith
  | inr above ↦ let f = further r q places (omega arith) in let x : ℕ = q * places in let y : ℕ = r * places in let f' : y + places ≤ x = f in let e' : x + a ≡ y + b = e in omega arith
]

-- the index of a reader's lane is in range
pub lane_in : (places n r k : ℕ) → 0 < places → r < n → lane_place places r k < n * places
lane_in places n r k some h =
    let f = further r n places h in
    let m : k % places < places = omega (arith, some) in
    let x : ℕ = r * places in
    let y : ℕ = n * places in
    let f' : x + places ≤ y = f in
    let z : ℕ = k % places in
    let m' : z < places = m in
    omega arith

-- after a write to a lane of reader r, at the place of row n
pub lane_same : (places r n k : ℕ) (v : Option ℕ) (lane : List (Option ℕ))
    → lane_place places r n < length lane
    → get_or (set lane (lane_place places r n) v) (lane_place places r k) None
    ≡ put_row places n v (λ j. get_or lane (lane_place places r j) None) k
lane_same places r n k v lane h =
    let row : ℕ → Option ℕ = λ j. get_or lane (lane_place places r j) None in
    elim (cases_eq (k % places) (n % places)) [
      | inl e ↦
          ap (λ p. get_or (set lane (lane_place places r n) v) (r * places + p) None) e ∙ (get_or-set_same lane (lane_place places r n) v None h ∙ sym (put_same places n v row k e))
      | inr e ↦
          get_or-set_other lane (lane_place places r n) (lane_place places r k) v None (λ x. e (let a : ℕ = r * places in let b : ℕ = k % places in let c : ℕ = n % places in let x' : a + b ≡ a + c = x in let y : b ≡ c = omega arith in y)) ∙ sym (put_other places n v row k e)
    ]

pub lane_other : (places q r n k : ℕ) (v : Option ℕ) (lane : List (Option ℕ)) → 0 < places → q ≢ r
    → get_or (set lane (lane_place places r n) v) (lane_place places q k) None
    ≡ get_or lane (lane_place places q k) None
lane_other places q r n k v lane some other =
    get_or-set_other lane (lane_place places r n) (lane_place places q k) v None (lanes_apart places q r (k % places) (n % places) (omega (arith, some)) (omega (arith, some)) other)

-- the index of reader r's lane for row n is in range
pub lane_within : (s : Schedule) (r n : ℕ) → IsSized s → 0 < s.places → r < readers s
    → lane_place s.places r n < length s.lane
lane_within s r n z some h = let a = lane_in s.places (readers s) r n some h in let e = z.lane in omega arith

pub look_shows : (s : Schedule) (r : ℕ) → IsSized s → r < readers s
    → progress_of (after s (Look r)) r ≡ looked (progress_of s r)
look_shows s r z h =
    let e = get_or-set_same s.known r (get_or s.cursor r None) None (let k = z.known in omega arith) in
    λ i. record { known = e i; cursor = get_or s.cursor r None; seen = get_or s.seen r 0; taken = get_or s.taken r [] }

pub look_else : (s : Schedule) (r q : ℕ) → q ≢ r → progress_of (after s (Look r)) q ≡ progress_of s q
look_else s r q n =
    let e = get_or-set_other s.known r q (get_or s.cursor r None) None n in
    λ i. record { known = e i; cursor = get_or s.cursor q None; seen = get_or s.seen q 0; taken = get_or s.taken q [] }

pub fill_shows : (s : Schedule) (r : ℕ) → IsSized s → 0 < s.places → r < readers s
    → lanes_of (after s (Fill r)) r ≡ filled_with s.places s.head (lanes_of s r)
fill_shows s r z some h =
    let e = get_or-set_same s.filled r true false (let k = z.filled in omega arith) in
    let row = λ (k : ℕ). lane_same s.places r s.head k (Some s.head) s.lane (lane_within s r s.head z some h) in
    λ i. record { filled = e i; stage = get_or s.stage r Idle; row = λ k. row k i }

pub fill_else : (s : Schedule) (r q : ℕ) → 0 < s.places → q ≢ r → lanes_of (after s (Fill r)) q ≡ lanes_of s q
fill_else s r q some n =
    let e = get_or-set_other s.filled r q true false n in
    let row = λ (k : ℕ). lane_other s.places q r s.head k (Some s.head) s.lane some n in
    λ i. record { filled = e i; stage = get_or s.stage q Idle; row = λ k. row k i }

pub publish_shows : (s : Schedule) (q : ℕ) → IsSized s → q < readers s
    → lanes_of (after s Publish) q ≡ unfilled (lanes_of s q)
publish_shows s q z h =
    let e = get_or-map (λ (b : Bool). false) s.filled q false false (let k = z.filled in omega arith) in
    λ i. record { filled = e i; stage = get_or s.stage q Idle; row = λ k. get_or s.lane (lane_place s.places q k) None }

pub see_shows : (s : Schedule) (r : ℕ) → IsSized s → r < readers s
    → progress_of (after s (See r)) r ≡ saw s.head (progress_of s r)
see_shows s r z h =
    let e = get_or-set_same s.seen r s.head 0 (let k = z.seen in omega arith) in
    λ i. record { known = get_or s.known r None; cursor = get_or s.cursor r None; seen = e i; taken = get_or s.taken r [] }

pub see_else : (s : Schedule) (r q : ℕ) → q ≢ r → progress_of (after s (See r)) q ≡ progress_of s q
see_else s r q n =
    let e = get_or-set_other s.seen r q s.head 0 n in
    λ i. record { known = get_or s.known q None; cursor = get_or s.cursor q None; seen = e i; taken = get_or s.taken q [] }

pub open_shows : (s : Schedule) (r : ℕ) → IsSized s → 0 < s.places → r < readers s
    → lanes_of (after s (Open r)) r ≡ opened s.places (cursor_at s r) (lanes_of s r)
open_shows s r z some h =
    let e = get_or-set_same s.stage r Holding Idle (let k = z.stage in omega arith) in
    let row = λ (k : ℕ). lane_same s.places r (cursor_at s r) k None s.lane (lane_within s r (cursor_at s r) z some h) in
    λ i. record { filled = get_or s.filled r false; stage = e i; row = λ k. row k i }

pub open_else : (s : Schedule) (r q : ℕ) → 0 < s.places → q ≢ r → lanes_of (after s (Open r)) q ≡ lanes_of s q
open_else s r q some n =
    let e = get_or-set_other s.stage r q Holding Idle n in
    let row = λ (k : ℕ). lane_other s.places q r (cursor_at s r) k None s.lane some n in
    λ i. record { filled = get_or s.filled q false; stage = e i; row = λ k. row k i }

pub close_shows : (s : Schedule) (r : ℕ) → IsSized s → 0 < s.places → r < readers s
    → lanes_of (after s (Close r)) r ≡ closed s.places (cursor_at s r) (lanes_of s r)
close_shows s r z some h =
    let e = get_or-set_same s.stage r Closed Idle (let k = z.stage in omega arith) in
    let row = λ (k : ℕ). lane_same s.places r (cursor_at s r) k (Some (cursor_at s r)) s.lane (lane_within s r (cursor_at s r) z some h) in
    λ i. record { filled = get_or s.filled r false; stage = e i; row = λ k. row k i }

pub close_else : (s : Schedule) (r q : ℕ) → 0 < s.places → q ≢ r
    → lanes_of (after s (Close r)) q ≡ lanes_of s q
close_else s r q some n =
    let e = get_or-set_other s.stage r q Closed Idle n in
    let row = λ (k : ℕ). lane_other s.places q r (cursor_at s r) k (Some (cursor_at s r)) s.lane some n in
    λ i. record { filled = get_or s.filled q false; stage = e i; row = λ k. row k i }

pub advance_shows : (s : Schedule) (r : ℕ) → IsSized s → r < readers s
    → progress_of (after s (Advance r)) r ≡ advanced (cursor_at s r) (progress_of s r)
advance_shows s r z h =
    let e = get_or-set_same s.cursor r (Some (cursor_at s r + 1)) None h in
    let f = get_or-set_same s.taken r (get_or s.taken r [] ++ cursor_at s r ∷ []) [] (let k = z.taken in omega arith) in
    λ i. record { known = get_or s.known r None; cursor = e i; seen = get_or s.seen r 0; taken = f i }

pub advance_else : (s : Schedule) (r q : ℕ) → q ≢ r → progress_of (after s (Advance r)) q ≡ progress_of s q
advance_else s r q n =
    let e = get_or-set_other s.cursor r q (Some (cursor_at s r + 1)) None n in
    let f = get_or-set_other s.taken r q (get_or s.taken r [] ++ cursor_at s r ∷ []) [] n in
    λ i. record { known = get_or s.known q None; cursor = e i; seen = get_or s.seen q 0; taken = f i }

pub advance_settles : (s : Schedule) (r : ℕ) → IsSized s → r < readers s
    → lanes_of (after s (Advance r)) r ≡ settled (lanes_of s r)
advance_settles s r z h =
    let e = get_or-set_same s.stage r Idle Idle (let k = z.stage in omega arith) in
    λ i. record { filled = get_or s.filled r false; stage = e i; row = λ k. get_or s.lane (lane_place s.places r k) None }

pub advance_leaves : (s : Schedule) (r q : ℕ) → q ≢ r → lanes_of (after s (Advance r)) q ≡ lanes_of s q
advance_leaves s r q n =
    let e = get_or-set_other s.stage r q Idle Idle n in
    λ i. record { filled = get_or s.filled q false; stage = e i; row = λ k. get_or s.lane (lane_place s.places q k) None }

pub leave_shows : (s : Schedule) (r : ℕ) → r < readers s
    → progress_of (after s (Leave r)) r ≡ departed (progress_of s r)
leave_shows s r h =
    let e = get_or-set_same s.cursor r None None h in
    λ i. record { known = get_or s.known r None; cursor = e i; seen = get_or s.seen r 0; taken = get_or s.taken r [] }

pub leave_else : (s : Schedule) (r q : ℕ) → q ≢ r → progress_of (after s (Leave r)) q ≡ progress_of s q
leave_else s r q n =
    let e = get_or-set_other s.cursor r q None None n in
    λ i. record { known = get_or s.known q None; cursor = e i; seen = get_or s.seen q 0; taken = get_or s.taken q [] }

-- the stage of reader r, read as closed
pub closed_shows : (s : Schedule) (r : ℕ) → IsSized s → r < readers s
    → lanes_of (read_closed r s) r ≡ record (lanes_of s r) { stage = Closed }
closed_shows s r z h =
    let e = get_or-set_same s.stage r Closed Idle (let k = z.stage in omega arith) in
    λ i. record { filled = get_or s.filled r false; stage = e i; row = λ k. get_or s.lane (lane_place s.places r k) None }

pub closed_else : (s : Schedule) (r q : ℕ) → q ≢ r → lanes_of (read_closed r s) q ≡ lanes_of s q
closed_else s r q n =
    let e = get_or-set_other s.stage r q Closed Idle n in
    λ i. record { filled = get_or s.filled q false; stage = e i; row = λ k. get_or s.lane (lane_place s.places q k) None }

-- a reader before any event
abbrev pub fresh_progress : Progress
fresh_progress = record { known = Some 0; cursor = Some 0; seen = 0; taken = [] }

abbrev pub fresh_lanes : Lanes
fresh_lanes = record { filled = false; stage = Idle; row = λ k. None }

pub start_progress : (places n total q : ℕ) → q < n → progress_of (start places n total) q ≡ fresh_progress
start_progress places n total q h =
    let a = get_or-replicate n q (Some 0) None h in
    let b = get_or-replicate {A = ℕ} n q 0 0 h in
    let d = get_or-replicate {A = List ℕ} n q [] [] h in
    λ i. record { known = a i; cursor = a i; seen = b i; taken = d i }

pub start_lanes : (places n total q : ℕ) → 0 < places → q < n
    → lanes_of (start places n total) q ≡ fresh_lanes
start_lanes places n total q some h =
    let a = get_or-replicate n q false false h in
    let b = get_or-replicate n q Idle Idle h in
    let row = λ (k : ℕ). get_or-replicate {A = Option ℕ} (n * places) (lane_place places q k) None None (lane_in places n q k some h) in
    λ i. record { filled = a i; stage = b i; row = λ k. row k i }
