-- The writer's turn at a ring, row by row.
use Rattle.std.proofs.Common.{◌≡◌, ◌≢◌, ℕ, zero, suc, ◌+◌, ◌<◌, ◌≤◌, ◌⊎◌, Bool, true, false, cond, if◌then◌else◌, List, [], ◌∷◌, length, drop, get_or, Some, None, Result, Ok, Err, refl, sym, ap, subst, ◌∙◌, inl, inr, ⊎_elim, arith}
use Rattle.std.specs.Prelude.{All, IfErr, IsErrAnd, not, nat_eq, slice_get, slice_index}
use Rattle.std.proofs.lemmas.Bool.{cases_lt}
use Rattle.std.proofs.lemmas.List.Sums.{sum_by-cons}
use Rattle.std.proofs.lemmas.Option.{slice_get-get_or}
use Rattle.pr_base.specs.Row.{FitsNext}
use Rattle.ring_rule.proofs.Numbers.{cursor_is_word, cursor_none}
use Rattle.ring_rule.specs.Views.{left_word, cursor_in}
use Rattle.ring_lanes.specs.declared.answer.Full.{Full}
use Rattle.ring_lanes.specs.Writer.{AreKnown, HasRoom, IsFull, LooksOnce, LooksOnceAt, WriterState, cursor_known, joined_count}
use Rattle.ring_turns.specs.Feeding.{Grows, IsFed, IsKnownWithin, SomeJoined, WaitsFor, loads_of}

-- ---- the next frame

drop-next : {X : Type 0} (xs : List X) (n : ℕ) (d : X) → n < length xs → drop n xs ≡ get_or xs n d ∷ drop (suc n) xs
drop-next [] n d less = absurd (omega arith)
drop-next (x ∷ xs) zero d less = refl
drop-next (x ∷ xs) (suc n) d less = drop-next xs n d (omega arith)

-- the feed has a next frame, which fits the room for one
pub fits_next : (frames left : List (List ℕ)) (n size : ℕ) → left ≡ drop n frames → n < length frames → All (λ frame. length frame ≡ size) frames → FitsNext left size
fits_next frames left n size is less sized =
    subst (λ (list : List (List ℕ)). FitsNext list size) (sym (is ∙ drop-next frames n [] less)) (sym (sized n [] less))

-- what the feed gives is that frame, and the rest is still to come
pub next_is : (frames left rest : List (List ℕ)) (n : ℕ) (frame : List ℕ) → left ≡ drop n frames → n < length frames → left ≡ frame ∷ rest → slice_get frames n ≡ Some frame
next_is frames left rest n frame is less gave =
    let both : get_or frames n [] ∷ drop (suc n) frames ≡ frame ∷ rest = sym (is ∙ drop-next frames n [] less) ∙ gave in
    slice_get-get_or frames n [] less ∙ ap Some (ap (λ list. get_or list 0 []) both)

pub rest_is : (frames left rest : List (List ℕ)) (n : ℕ) (frame : List ℕ) → left ≡ drop n frames → n < length frames → left ≡ frame ∷ rest → rest ≡ drop (n + 1) frames
rest_is frames left rest n frame is less gave =
    let both : get_or frames n [] ∷ drop (suc n) frames ≡ frame ∷ rest = sym (is ∙ drop-next frames n [] less) ∙ gave in
    sym (ap (drop 1) both) ∙ ap (λ k. drop k frames) (let e : suc n ≡ n + 1 = omega arith in e)

-- ---- full

-- a reader that leaves no room isn't found where there is room
pub no_full : (before after : WriterState) (full : Full) → IsFull before after full → HasRoom before → ⊥
no_full before after full is room =
    let look = is.found.look in
    let less : before.head < look.known + before.ring.places = room full.site is.in_range look.known look.known_is in
    let same = look.behind in
    omega arith

-- a refusal that is handed on
pub err_told : {T E : Type 0} (F : E → Type 0) (r : Result T E) (x : E) → F x → IsErrAnd r (λ y. y ≡ x) → IfErr r F
err_told F (Ok v) x f h = absurd h
err_told F (Err y) x f h = subst F (sym h) f

-- ---- what the writer knows

-- the cursors known are at most head
pub known_within : (w : WriterState) → AreKnown w.known w.ring.places w.ring.readers w.head → IsKnownWithin w
known_within w are r k less is =
    let word : slice_index w.known r ≡ k = cursor_is_word (slice_index w.known r) k is in
    let joined : slice_index w.known r ≢ left_word = λ e. let none : None ≡ Some k = sym (cursor_none (slice_index w.known r) e) ∙ is in cc in
    let within = (are r less joined).0 in
    omega (arith, word, within)

-- after a look they still are
pub look_within : (old new : WriterState) → IsKnownWithin old → LooksOnce old new → new.ring.readers ≡ old.ring.readers → old.head ≤ new.head → IsKnownWithin new
look_within old new within looks readers head r k less is = by (looks r (omega (arith, readers, less))) where
  by : LooksOnceAt old new r → k ≤ new.head
  by (inl passed) =
      let low : k ≤ old.head = within r k (omega (arith, readers, less)) (ap cursor_in (sym passed.known) ∙ is) in
      omega (arith, low, head)
  by (inr look) =
      let found = look.loaded.found k is in
      let low = found.3 in
      omega (arith, low, head)

grows_known : (old mid new : WriterState) (r k : ℕ) → Grows old mid → r < old.ring.readers → LooksOnceAt mid new r → cursor_known new.known r ≡ Some k → (j : ℕ) × (cursor_known old.known r ≡ Some j) × (j ≤ k)
grows_known old mid new r k grows less (inl passed) is = grows.known r k less (ap cursor_in (sym passed.known) ∙ is)
grows_known old mid new r k grows less (inr look) is =
    let found = look.loaded.found k is in
    let known = grows.known r found.0 less found.1 in
    let low = found.2 in
    let lower = known.2 in
    (known.0, known.1, omega (arith, low, lower))

loads_stay : (mid new : WriterState) (r : ℕ) → LooksOnceAt mid new r → slice_index mid.loads r ≤ slice_index new.loads r
loads_stay mid new r (inl passed) = let same = passed.loads in omega (arith, same)
loads_stay mid new r (inr look) = let more = look.loaded.counted in omega (arith, more)

-- the writer's knowledge grows by a look
pub grows_on : (old mid new : WriterState) → Grows old mid → mid.ring.readers ≡ old.ring.readers → LooksOnce mid new → mid.head ≤ new.head → Grows old new
grows_on old mid new grows readers looks head = record {
  head = (let before = grows.head in omega (arith, before, head));
  known = λ r k less is. grows_known old mid new r k grows less (looks r (omega (arith, readers, less))) is;
  loads = λ r less. let before = grows.loads r less in let more = loads_stay mid new r (looks r (omega (arith, readers, less))) in omega (arith, before, more);
}

pub grows_not : (w : WriterState) → Grows w w
grows_not w = record {
  head = (let e : w.head ≤ w.head = omega arith in e);
  known = λ r k less is. (k, is, (let e : k ≤ k = omega arith in e));
  loads = λ r less. (let e : slice_index w.loads r ≤ slice_index w.loads r = omega arith in e);
}

-- ---- counts of loads

loads_grow : (old new : List ℕ) (n : ℕ) → ((r : ℕ) → r < n → slice_index old r ≤ slice_index new r) → loads_of old n ≤ loads_of new n
unfolding loads_of
loads_grow old new zero each = omega arith
loads_grow old new (suc n) each =
    let rest = loads_grow old new n (λ r less. each r (omega (arith, less))) in
    let last = each n (omega arith) in
    omega (arith, rest, last)

loads_rise : (old new : List ℕ) (n site : ℕ) → ((r : ℕ) → r < n → slice_index old r ≤ slice_index new r) → site < n → slice_index old site < slice_index new site → loads_of old n + 1 ≤ loads_of new n
unfolding loads_of
loads_rise old new zero site each less more = absurd (omega (arith, less))
loads_rise old new (suc n) site each less more =
    ⊎_elim
    (λ (below : site < n).
    let rest = loads_rise old new n site (λ r less'. each r (omega (arith, less'))) below more in
    let last = each n (omega arith) in
    omega (arith, rest, last))
    (λ (at : n ≤ site).
    let same : site ≡ n = omega (arith, at, less) in
    let rest = loads_grow old new n (λ r less'. each r (omega (arith, less'))) in
    let last : slice_index old n < slice_index new n = subst (λ (k : ℕ). slice_index old k < slice_index new k) same more in
    omega (arith, rest, last))
    (cases_lt site n)

-- ---- a turn so far

-- each cursor was loaded at most once for each row that was published, and for each place that was found taken
abbrev LooksAtMost : WriterState → WriterState → ℕ → Type 0
LooksAtMost old new waits = (r : ℕ) → r < old.ring.readers → slice_index new.loads r + old.head ≤ slice_index old.loads r + waits + new.head

looked_once : (mid new : WriterState) (r : ℕ) → LooksOnceAt mid new r → slice_index new.loads r ≤ slice_index mid.loads r + 1
looked_once mid new r (inl passed) = let same = passed.loads in omega (arith, same)
looked_once mid new r (inr look) = let more = look.loaded.counted in omega (arith, more)

-- what a turn has left of the writer's end, where it found a place taken so often
pub record HasFed (old new : WriterState) (waits : ℕ) : Type 0 where
  pub same : new ≡ record old { head = new.head; known = new.known; loads = new.loads }
  pub grows : Grows old new
  pub counted : loads_of old.loads old.ring.readers + waits ≤ loads_of new.loads old.ring.readers
  pub looks : LooksAtMost old new waits

pub fed_at_first : (w : WriterState) → HasFed w w 0
fed_at_first w = record {
  same = refl;
  grows = grows_not w;
  counted = (let e : loads_of w.loads w.ring.readers + 0 ≤ loads_of w.loads w.ring.readers = omega arith in e);
  looks = λ r less. (let e : slice_index w.loads r + w.head ≤ slice_index w.loads r + 0 + w.head = omega arith in e);
}

ring_same : (old new : WriterState) (waits : ℕ) → HasFed old new waits → new.ring ≡ old.ring
ring_same old new waits fed = ap (λ (w : WriterState). w.ring) fed.same

same_on : (old mid new : WriterState) → mid ≡ record old { head = mid.head; known = mid.known; loads = mid.loads } → new ≡ record mid { head = new.head; known = new.known; loads = new.loads }
    → new ≡ record old { head = new.head; known = new.known; loads = new.loads }
same_on old mid new first after = after ∙ ap {A = WriterState} (λ w. record w { head = new.head; known = new.known; loads = new.loads }) first

-- rows published and places found taken are together one more
fed_more : (old mid new : WriterState) (waits waits' : ℕ) → HasFed old mid waits → new ≡ record mid { head = new.head; known = new.known; loads = new.loads } → LooksOnce mid new → mid.head ≤ new.head
    → waits' + new.head ≡ waits + mid.head + 1 → loads_of mid.loads old.ring.readers + waits' ≤ loads_of new.loads old.ring.readers + waits → HasFed old new waits'
fed_more old mid new waits waits' fed after looks head one more =
    let readers : mid.ring.readers ≡ old.ring.readers = ap (λ (r : _). r.readers) (ring_same old mid waits fed) in
    let counted = fed.counted in
    record {
      same = same_on old mid new fed.same after;
      grows = grows_on old mid new fed.grows readers looks head;
      counted = omega (arith, more, counted);
      looks = λ r less.
          (let so_far = fed.looks r less in
          let once = looked_once mid new r (looks r (omega (arith, readers, less))) in
          omega (arith, so_far, once, one));
    }

-- a row was published
pub fed_on : (old mid new : WriterState) (waits : ℕ) → HasFed old mid waits → new ≡ record mid { head = new.head; known = new.known; loads = new.loads } → LooksOnce mid new → new.head ≡ mid.head + 1 → HasFed old new waits
fed_on old mid new waits fed after looks head =
    let readers : mid.ring.readers ≡ old.ring.readers = ap (λ (r : _). r.readers) (ring_same old mid waits fed) in
    let more = loads_grow mid.loads new.loads old.ring.readers (λ r less. loads_stay mid new r (looks r (omega (arith, readers, less)))) in
    fed_more old mid new waits waits fed after looks (omega (arith, head)) (omega (arith, head)) (omega (arith, more))

-- a place was found taken once more
pub fed_full : (old mid new : WriterState) (waits : ℕ) (full : Full) → HasFed old mid waits → new ≡ record mid { head = new.head; known = new.known; loads = new.loads } → LooksOnce mid new → new.head ≡ mid.head
    → IsFull mid new full → HasFed old new (waits + 1)
fed_full old mid new waits full fed after looks head is =
    let readers : mid.ring.readers ≡ old.ring.readers = ap (λ (r : _). r.readers) (ring_same old mid waits fed) in
    let own = is.found.look.loaded.counted in
    let in_range = is.in_range in
    let more = loads_rise mid.loads new.loads old.ring.readers full.site (λ r less. loads_stay mid new r (looks r (omega (arith, readers, less)))) (omega (arith, readers, in_range)) (omega (arith, own)) in
    fed_more old mid new waits (waits + 1) fed after looks (omega (arith, head)) (omega (arith, head)) (omega (arith, more))

-- so often that the writer goes on later
pub waits_for : (old mid new : WriterState) (waits patience : ℕ) (full : Full) → HasFed old mid waits → new ≡ record mid { head = new.head; known = new.known; loads = new.loads } → LooksOnce mid new → new.head ≡ mid.head
    → IsFull mid new full → waits + 1 ≡ patience → WaitsFor old new patience full.site full.at
waits_for old mid new waits patience full fed after looks head is last =
    let ring = ring_same old mid waits fed in
    let readers : mid.ring.readers ≡ old.ring.readers = ap (λ (r : _). r.readers) ring in
    let places : mid.ring.places ≡ old.ring.places = ap (λ (r : _). r.places) ring in
    let in_range : full.site < old.ring.readers = (let less = is.in_range in omega (arith, readers, less)) in
    let behind = is.found.behind in
    let own = is.found.look.loaded.counted in
    let before = fed.grows.loads full.site in_range in
    let counted = (fed_full old mid new waits full fed after looks head is).counted in
    record {
      reader = in_range;
      known = is.found.found;
      behind = omega (arith, behind, places, head);
      counted = omega (arith, counted, last);
      own = omega (arith, own, before);
    }

-- ---- joined readers

-- a word counts where it is that of no reader that left
counts : (word n : ℕ) → n ≡ cond (not (nat_eq word left_word)) 1 0 → n ≡ 0 → cursor_in word ≡ None
counts word n is none = by (nat_eq word left_word) is where
  by : (b : Bool) → n ≡ cond (not b) 1 0 → (if b then None else Some word) ≡ None
  by true e = refl
  by false e = absurd (omega (arith, e, none))

pub none_joined : (known : List ℕ) → joined_count known ≡ 0 → (r : ℕ) → r < length known → cursor_known known r ≡ None
none_joined [] none r less = absurd (omega (arith, less))
none_joined (word ∷ known) none zero less =
    let both = sym (sum_by-cons (λ y. cond (not (nat_eq y left_word)) 1 0) word known) ∙ none in
    counts word (cond (not (nat_eq word left_word)) 1 0) refl (omega (arith, both))
none_joined (word ∷ known) none (suc r) less =
    let both = sym (sum_by-cons (λ y. cond (not (nat_eq y left_word)) 1 0) word known) ∙ none in
    let rest : joined_count known ≡ 0 = omega (arith, both) in
    none_joined known rest r (omega (arith, less))

-- ---- the end of a turn

-- a reader's cursor is known where the writer waits for it
pub not_fed : (old mid new : WriterState) (waits : ℕ) (full : Full) → HasFed old mid waits → new ≡ record mid { head = new.head; known = new.known; loads = new.loads } → new.head ≡ mid.head → mid.head < mid.ring.total
    → IsFull mid new full → IsFed new → ⊥
not_fed old mid new waits full fed after head less is (inl all) =
    let total : new.ring.total ≡ mid.ring.total = ap (λ (w : WriterState). w.ring.total) after in
    omega (arith, all, total, head, less)
not_fed old mid new waits full fed after head less is (inr none) =
    let readers : new.ring.readers ≡ mid.ring.readers = ap (λ (w : WriterState). w.ring.readers) after in
    let in_range = is.in_range in
    let both : Some full.at ≡ None = sym is.found.found ∙ none full.site (omega (arith, readers, in_range)) in
    absurd (cc)

-- a turn that began where there was room has got on
pub stuck : (old mid new : WriterState) → (mid ≡ old) ⊎ (HasRoom old → old.head < mid.head) → (HasRoom mid → ⊥) → new.head ≡ mid.head → HasRoom old → old.head < new.head
stuck old mid new (inl same) full head room = absurd (full (subst (λ (w : WriterState). HasRoom w) (sym same) room))
stuck old mid new (inr more) full head room = let less = more room in omega (arith, less, head)

-- where all rows are published or every reader left it got on before
pub done_on : (old mid : WriterState) → (mid ≡ old) ⊎ (HasRoom old → old.head < mid.head) → IsFed mid → old.head < old.ring.total → SomeJoined old → HasRoom old → old.head < mid.head
done_on old mid (inl same) fed less joined room = absurd (by (subst (λ (w : WriterState). IsFed w) same fed)) where
  by : IsFed old → ⊥
  by (inl all) = omega (arith, all, less)
  by (inr none) = let both : Some joined.1 ≡ None = sym joined.3 ∙ none joined.0 joined.2 in absurd (cc)
done_on old mid (inr more) fed less joined room = more room
