-- A run from its first round to its last.
use Rattle.std.proofs.Common.{◌≡◌, ℕ, zero, suc, ◌+◌, ◌-◌, ◌<◌, ◌≤◌, ◌⊎◌, Bool, true, false, not, ◌&&◌, ◌||◌, List, [], ◌∷◌, ◌++◌, length, map, take, drop, get_or, Result, Ok, Err, Option, Some, None, refl, sym, ap, subst, ◌∙◌, inl, inr, ⊎_elim, zero-add, append-nil, arith}
use Rattle.std.specs.Prelude.{IfOk, IsErr, nat_lt, slice_get}
use Rattle.std.specs.List.{enumerate_from, list_any}
use Rattle.std.specs.Option.{option_and_then, option_map}
use Rattle.ink_keys.specs.Counts.{CountsData}
use Rattle.ink_keys.specs.Turn.{KeyReaderData}
use Rattle.ring_turns.proofs.Halves.{slice_get-take}
use Rattle.std.proofs.Math.Seq.{drop-append_seam, take-append_seam}
use Rattle.std.proofs.lemmas.Bool.{cases_lt, ltb-false}
use Rattle.std.proofs.lemmas.List.{take-append-drop, length-append, length-take-le, get_or-append_right, get_or_append_left, get_or-map, length-map, map-append}
use Rattle.std.proofs.lemmas.List.FromFn.{get_or-enumerate_from, length-enumerate_from}
use Rattle.std.proofs.lemmas.Option.{get_or_from_slice_get, same_Some, slice_get-get_or, slice_get-map, slice_get_past, slice_get_within}
use Rattle.atomic_table.specs.Seated.{TableId}
use Rattle.ring_rule.specs.declared.view.RingNumbers.{RingNumbers}
use Rattle.ring_rule.specs.Views.{up_to}
use Rattle.ring_rule.proofs.Numbers.{length_up}
use Rattle.ring_lanes.specs.Reader.{ReaderState, new_reader_state}
use Rattle.ring_lanes.specs.Writer.{WriterState, new_writer_state}
use Rattle.pr_rack.specs.declared.rack.RackCall.TheVariants.{Begin}
use Rattle.pr_rack.specs.Told.{RackTells}
use Rattle.plan_json.specs.Data.{PlanData}
use Rattle.plan_rows.specs.Plates.{site_plates}
use Rattle.plan_rows.specs.Rows.{row_places}
use Rattle.site_agent.specs.Plan.{fresh_site}
use Rattle.site_agent.specs.Stands.{grown}
use Rattle.site_agent.proofs.Going.{going_at_start}
use Rattle.site_agent.specs.Racks.{AreIdle, KeepCounts, AllTellSlots}
use Rattle.site_agent.proofs.Racks.{counts_stay, idle_is, slice_get-behind, slice_get-front}
use Rattle.ring_run.specs.declared.role.Role.{Role}
use Rattle.ring_run.specs.declared.role.Role.TheVariants.{Going, Left, Stopped, Counting}
use Rattle.ring_run.specs.declared.site_end.Outcome.{Outcome}
use Rattle.ring_run.specs.declared.site_end.SiteEnd.{SiteEnd}
use Rattle.ring_run.specs.declared.site_end.SiteEnd.TheVariants.{Finished}
use Rattle.ring_run.specs.declared.site_end.SiteEnd.TheVariants as Ended
use Rattle.ring_run.specs.Fits.{Delivery, FitsEnd, FitsPart, RunFits, RunPart, kept_rows}
use Rattle.ring_run.specs.JobRun.{RunLeaves}
use Rattle.ring_run.specs.Keyed.{AreFreshKeys, CountsFit, KeysFit, further_count}
use Rattle.ring_run.specs.Round.{AreEndsOf, StaySeated}
use Rattle.ring_run.specs.Seat.{SeatData, are_going, counts_at, counts_in, is_going, is_stopped}
use Rattle.ring_run.specs.Served.{AreSomeSeated, Carries, GoesOnAt, IsCounting, IsSeated, IsServed, Work, end_of, ends_in, fresh_seats, is_out, site_seat, site_seats}
use Rattle.ring_run.proofs.Keys.{counting_first, counts_fit}
use Rattle.ring_run.proofs.Rounds.{mapped, none_at, none_going}
use Rattle.ring_run.proofs.Serving.{finishes, going_part, total_is}

-- each is seated so
abbrev pub AreSeated : Work → List RackTells → List RackTells → List SeatData → Type 0
AreSeated work before now seats = (i : ℕ) (seat : SeatData) → slice_get seats i ≡ Some seat
    → IsSeated work i (slice_get before i) (slice_get now i) seat

-- what a site leaves at any time is a part
pub record LeavesPart (delivery : Delivery) (site : ℕ) (before now : RackTells) : Type 0 where
  pub part : FitsPart delivery site before now
  pub faults : before.faults ≤ now.faults

-- each site leaves a part
pub record AreStopped (delivery : Delivery) (before now : List RackTells) : Type 0 where
  pub each : (site : ℕ) (old new : RackTells) → site < length delivery.plan.sites
      → slice_get before site ≡ Some old → slice_get now site ≡ Some new → LeavesPart delivery site old new

-- ---- the start

get_or-up_to : (n i : ℕ) → i < n → get_or (up_to n) i 0 ≡ i
get_or-up_to zero i less = absurd (omega (arith, less))
get_or-up_to (suc n) i less =
    ⊎_elim
    (λ (before : i < n). get_or_append_left (up_to n) (n ∷ []) 0 i (omega (arith, before, length_up n)) ∙ get_or-up_to n i before)
    (λ (from : n ≤ i).
    let same : i ≡ length (up_to n) = omega (arith, from, less, length_up n) in
    ap (λ k. get_or (up_to n ++ n ∷ []) k 0) same ∙ get_or-append_right (up_to n) (n ∷ []) (length (up_to n)) (length (up_to n)) 0 refl (let e : length (up_to n) ≤ length (up_to n) = omega arith in e)
    ∙ ap (λ k. get_or (n ∷ []) k 0) (let e : length (up_to n) - length (up_to n) ≡ 0 = omega arith in e) ∙ (let e : n ≡ i = omega (arith, from, less) in e))
    (cases_lt i n)

-- there is a seat for each reader
pub length-site_seats : (plan : PlanData) (out : List ℕ) (readers : List ReaderState) → length (site_seats plan out readers) ≡ length readers
length-site_seats plan out readers = length-map (enumerate_from 0 readers) (site_seat plan out) ∙ length-enumerate_from 0 readers

all_new : (table : TableId) (ring : RingNumbers) (n i : ℕ) (reader : ReaderState) → slice_get (map (new_reader_state table ring) (up_to n)) i ≡ Some reader → reader ≡ new_reader_state table ring i
all_new table ring n i reader there =
    let at = mapped (new_reader_state table ring) (up_to n) i reader there in
    let inside = slice_get_within (up_to n) i at.0 at.1 in
    let number : at.0 ≡ i = sym (get_or_from_slice_get (up_to n) i at.0 0 at.1) ∙ get_or-up_to n i (omega (arith, inside, length_up n)) in
    sym at.2 ∙ ap (new_reader_state table ring) number

-- the ends of the seats are the given ends
site-readers : (plan : PlanData) (out : List ℕ) (k : ℕ) (readers : List ReaderState) → map (λ seat. seat.reader) (map (site_seat plan out) (enumerate_from k readers)) ≡ readers
site-readers plan out k [] = refl
site-readers plan out k (reader ∷ readers) = ap (λ list. reader ∷ list) (site-readers plan out (k + 1) readers)

key-readers : (key : KeyReaderData) (readers : List ReaderState) → map (λ (seat : SeatData). seat.reader) (map (λ reader. record { reader = reader; role = Counting key }) readers) ≡ readers
key-readers key [] = refl
key-readers key (reader ∷ readers) = ap (λ list. reader ∷ list) (key-readers key readers)

fresh-readers : (plan : PlanData) (out : List ℕ) (readers : List ReaderState) (keys : Option KeyReaderData) → map (λ seat. seat.reader) (fresh_seats plan out readers keys) ≡ readers
fresh-readers plan out readers None = site-readers plan out 0 readers
fresh-readers plan out readers (Some key) =
    map-append (λ (seat : SeatData). seat.reader) (site_seats plan out (take (length plan.sites) readers)) _
    ∙ ap (λ list. list ++ map (λ (seat : SeatData). seat.reader) (map (λ reader. record { reader = reader; role = Counting key }) (drop (length plan.sites) readers))) (site-readers plan out 0 (take (length plan.sites) readers))
    ∙ ap (λ list. take (length plan.sites) readers ++ list) (key-readers key (drop (length plan.sites) readers))
    ∙ take-append-drop (length plan.sites) readers

pub length-fresh_seats : (plan : PlanData) (out : List ℕ) (readers : List ReaderState) (keys : Option KeyReaderData) → length (fresh_seats plan out readers keys) ≡ length readers
length-fresh_seats plan out readers keys = sym (length-map (fresh_seats plan out readers keys) (λ (seat : SeatData). seat.reader)) ∙ ap length (fresh-readers plan out readers keys)

-- the reader at an index
fresh_reader : (plan : PlanData) (out : List ℕ) (table : TableId) (ring : RingNumbers) (readers : List ReaderState) (keys : Option KeyReaderData) (i : ℕ) (seat : SeatData) → readers ≡ map (new_reader_state table ring) (up_to ring.readers)
    → slice_get (fresh_seats plan out readers keys) i ≡ Some seat → seat.reader ≡ new_reader_state table ring i
fresh_reader plan out table ring readers keys i seat are there =
    all_new table ring ring.readers i seat.reader
    (ap (λ list. slice_get list i) (sym (fresh-readers plan out readers keys ∙ are))
    ∙ slice_get-map (λ (seat : SeatData). seat.reader) (fresh_seats plan out readers keys) i ∙ ap (option_map (λ (seat : SeatData). seat.reader)) there)

-- all readers are at the ends of the ring
pub fresh_ends : (plan : PlanData) (out : List ℕ) (table : TableId) (ring : RingNumbers) (writer : WriterState) (readers : List ReaderState) (keys : Option KeyReaderData) → writer ≡ new_writer_state table ring → readers ≡ map (new_reader_state table ring) (up_to ring.readers)
    → AreEndsOf writer (fresh_seats plan out readers keys)
fresh_ends plan out table ring writer readers keys is are = record {
  count = length-fresh_seats plan out readers keys ∙ ap length are ∙ length-map (up_to ring.readers) (new_reader_state table ring) ∙ length_up ring.readers ∙ ap (λ (w : WriterState). w.ring.readers) (sym is);
  each = λ i seat there.
      let fresh = fresh_reader plan out table ring readers keys i seat are there in
      record {
        table = ap (λ (x : ReaderState). x.table) fresh ∙ ap (λ (w : WriterState). w.table) (sym is);
        ring = ap (λ (x : ReaderState). x.ring) fresh ∙ ap (λ (w : WriterState). w.ring) (sym is);
        number = ap (λ (x : ReaderState). x.number) fresh;
      };
}

-- the role at an index: a site's, or behind those of the sites the key reader's
abbrev IsFirst : PlanData → List ℕ → Option KeyReaderData → ℕ → Role → Type 0
IsFirst plan out keys i role =
    ((i < length plan.sites) × (role ≡ Going (fresh_site plan out i))) ⊎ ((length plan.sites ≤ i) × (key : KeyReaderData) × (keys ≡ Some key) × (role ≡ Counting key))

site_role : (plan : PlanData) (out : List ℕ) (readers : List ReaderState) (i : ℕ) (seat : SeatData) → slice_get (site_seats plan out readers) i ≡ Some seat → seat.role ≡ Going (fresh_site plan out i)
site_role plan out readers i seat there =
    let count = length-site_seats plan out readers in
    let less : i < length readers = omega (arith, slice_get_within (site_seats plan out readers) i seat there, count) in
    ap (λ (x : SeatData). x.role)
    (sym (get_or_from_slice_get (site_seats plan out readers) i seat seat there)
    ∙ get_or-map (site_seat plan out) (enumerate_from 0 readers) i (0, seat.reader) seat (omega (arith, less, length-enumerate_from 0 readers))
    ∙ ap (site_seat plan out) (get_or-enumerate_from 0 readers i (0, seat.reader) less ∙ ap (λ k. (k, get_or readers i seat.reader)) (zero-add i)))

fresh_role : (plan : PlanData) (out : List ℕ) (readers : List ReaderState) (keys : Option KeyReaderData) (i : ℕ) (seat : SeatData) → length readers ≡ length plan.sites + further_count keys → slice_get (fresh_seats plan out readers keys) i ≡ Some seat
    → IsFirst plan out keys i seat.role
fresh_role plan out readers None i seat long there =
    inl (omega (arith, slice_get_within (site_seats plan out readers) i seat there, length-site_seats plan out readers, long), site_role plan out readers i seat there)
fresh_role plan out readers (Some key) i seat long there =
    let front = site_seats plan out (take (length plan.sites) readers) in
    let back : List SeatData = map (λ reader. record { reader = reader; role = Counting key }) (drop (length plan.sites) readers) in
    let first : length front ≡ length plan.sites = length-site_seats plan out (take (length plan.sites) readers) ∙ length-take-le (length plan.sites) readers (omega (arith, long)) in
    ⊎_elim
    (λ (less : i < length plan.sites). inl (less, site_role plan out (take (length plan.sites) readers) i seat (sym (slice_get-front front back i (omega (arith, less, first))) ∙ there)))
    (λ (more : length plan.sites ≤ i).
    let at = mapped (λ (reader : ReaderState). let s : SeatData = record { reader = reader; role = Counting key } in s) (drop (length plan.sites) readers) (i - length front) seat (sym (slice_get-behind front back i (omega (arith, more, first))) ∙ there) in
    inr (more, key, refl, ap (λ (s : SeatData). s.role) (sym at.2)))
    (cases_lt i (length plan.sites))

-- for how many keys a run counts
abbrev pub keys_for : Option KeyReaderData → ℕ
keys_for None = 0
keys_for (Some key) = key.counts.keys

-- at the start no row has been handled
run_begins : (delivery : Delivery) (table : TableId) (ring : RingNumbers) (readers : List ReaderState) (keys : Option KeyReaderData) (before : List RackTells) → Carries delivery ring → readers ≡ map (new_reader_state table ring) (up_to ring.readers)
    → length readers ≡ length delivery.plan.sites + further_count keys → length before ≡ length delivery.plan.sites → AreFreshKeys delivery.plan keys → AreIdle (length delivery.plan.sites) before → AllTellSlots before
    → AreSeated (record { delivery = delivery; keys = keys_for keys }) before before (fresh_seats delivery.plan delivery.out readers keys)
run_begins delivery table ring readers keys before carries are long racks fresh idle slots i seat there =
    by (fresh_role delivery.plan delivery.out readers keys i seat long there) where
      work : Work
      work = record { delivery = delivery; keys = keys_for keys }

      reader : seat.reader ≡ new_reader_state table ring i
      reader = fresh_reader delivery.plan delivery.out table ring readers keys i seat are there

      seated : (role : Role) → seat.role ≡ role → false ≡ is_out role → IsServed work i ring 0 (slice_get before i) (slice_get before i) role → IsSeated work i (slice_get before i) (slice_get before i) seat
      seated role is joined served =
          subst (λ (x : SeatData). IsSeated work i (slice_get before i) (slice_get before i) x)
          (sym (ap (λ (x : ReaderState). let s : SeatData = record { reader = x; role = seat.role } in s) reader ∙ ap (λ (y : Role). let s : SeatData = record { reader = new_reader_state table ring i; role = y } in s) is))
          (record { home = refl; within = (let e : 0 ≤ ring.total = omega arith in e); left = joined; is = served })

      site : (told : RackTells) → slice_get before i ≡ Some told → i < length delivery.plan.sites → IsServed work i ring 0 (slice_get before i) (slice_get before i) (Going (fresh_site delivery.plan delivery.out i))
      site told at less =
          subst (λ (o : Option RackTells). IsServed work i ring 0 o o (Going (fresh_site delivery.plan delivery.out i))) (sym at)
          (record {
            job_is = refl;
            next_is = refl;
            is = going_at_start delivery.plan delivery.rows delivery.out i (delivery.source i) told.tells carries.plan_is (idle_is told (slots i told at) (idle.each i told less at)) carries.count carries.are.each;
            missed = refl;
            faults = (let e : told.faults ≤ told.faults = omega arith in e);
          })

      none : (o : Option RackTells) → slice_get before i ≡ o → length delivery.plan.sites ≤ i → o ≡ None
      none None at more = refl
      none (Some told) at more = absurd (omega (arith, slice_get_within before i told at, racks, more))

      counting : (keys' : Option KeyReaderData) (key : KeyReaderData) → keys' ≡ Some key → AreFreshKeys delivery.plan keys' → IsCounting (record { delivery = delivery; keys = keys_for keys' }) ring 0 key
      counting keys' key is fresh' =
          subst (λ (o : Option KeyReaderData). IsCounting (record { delivery = delivery; keys = keys_for o }) ring 0 key) (sym is)
          (counting_first (record { delivery = delivery; keys = key.counts.keys }) ring key (subst (λ (o : Option KeyReaderData). AreFreshKeys delivery.plan o) is fresh') refl)

      by : IsFirst delivery.plan delivery.out keys i seat.role → IsSeated work i (slice_get before i) (slice_get before i) seat
      by (inl (less, is)) =
          let any : RackTells = record { tells = record { finished = None; working = None; begun = []; taken = None }; missed = None; faults = 0 } in
          seated (Going (fresh_site delivery.plan delivery.out i)) is refl (site (get_or before i any) (slice_get-get_or before i any (omega (arith, less, racks))) less)
      by (inr (more, key, keys-is, is)) = seated (Counting key) is refl (none (slice_get before i) refl more, counting keys key keys-is fresh)

-- so each reader may take its turn
begin_some : (work : Work) (writer : WriterState) (ring : RingNumbers) (before : List RackTells) (seats : List SeatData) → Carries work.delivery ring → writer.ring ≡ ring → AreEndsOf writer seats → AreSeated work before before seats → AreSomeSeated before seats
begin_some work writer ring before seats carries is ends are i seat there =
    let end = ends.each i seat there in
    record {
      work = work;
      before = slice_get before i;
      carries = subst (λ (r : RingNumbers). Carries work.delivery r) (sym (end.ring ∙ is)) carries;
      is = subst (λ (n : ℕ). IsSeated work n (slice_get before i) (slice_get before i) seat) (sym end.number) (are i seat there);
    }

-- after the last round each reader is seated, as at the start
end_seated : (work : Work) (writer : WriterState) (ring : RingNumbers) (before now : List RackTells) (were are : List SeatData) → Carries work.delivery ring → writer.ring ≡ ring → AreEndsOf writer were → length were ≡ length are → AreSeated work before before were
    → StaySeated before now were are → AreSeated work before now are
end_seated work writer ring before now were are carries is ends same seated stay i seat there =
    let within = slice_get_within are i seat there in
    let was : SeatData = get_or were i seat in
    let was-at : slice_get were i ≡ Some was = slice_get-get_or were i seat (omega (arith, within, same)) in
    stay work i (slice_get before i) was seat (subst (λ (x : RingNumbers). Carries work.delivery x) (sym ((ends.each i was was-at).ring ∙ is)) carries) was-at there (seated i was was-at)

-- ---- the end

-- the end of a site, where there is one, is that of a site that didn't run out of memory
told_end : (plan : PlanData) (site : ℕ) (role : Role) (end : SiteEnd) → Some end ≡ end_of plan site role → is_stopped role ≡ false
told_end plan site (Going going) end is = refl
told_end plan site (Left cause) end is = refl
told_end plan site Stopped end is = absurd (none is) where
  none : Some end ≡ None → ⊥
  none e = cc
told_end plan site (Counting key) end is = refl

end_fits : (work : Work) (ring own : RingNumbers) (site n : ℕ) (before now : RackTells) (role : Role) (end : SiteEnd) → Carries work.delivery ring → is_out role ≡ true ⊎ (n ≡ length (row_places work.delivery.plan))
    → IsServed work site own n (Some before) (Some now) role → Some end ≡ end_of work.delivery.plan site role → FitsEnd work.delivery site before now end
end_fits work ring own site n before now (Going going) end carries (inl out) at is = absurd (let e : false ≡ true = out in cc)
end_fits work ring own site n before now (Going going) end carries (inr all) at is =
    subst (λ (e : SiteEnd). FitsEnd work.delivery site before now e) (sym (same_Some end (Finished (length (site_plates work.delivery.plan site)) (kept_rows work.delivery.plan site)) is))
    (finishes work.delivery ring site before now going carries (subst (λ (m : ℕ). GoesOnAt work.delivery site m before now going) all at))
end_fits work ring own site n before now (Left cause) end carries over left is =
    subst (λ (e : SiteEnd). FitsEnd work.delivery site before now e) (sym (same_Some end (Ended.Left cause) is)) left.fits
end_fits work ring own site n before now Stopped end carries over stopped is = absurd (none is) where
  none : Some end ≡ None → ⊥
  none e = cc
end_fits work ring own site n before now (Counting key) end carries over counting is = absurd (none is) where
  none : Some end ≡ None → ⊥
  none e = cc

-- a joined reader that doesn't continue is at the end of the last row
over_at : (seat : SeatData) → is_going seat.reader ≡ false → seat.reader.cursor ≤ seat.reader.ring.total → seat.reader.left ≡ is_out seat.role → is_out seat.role ≡ true ⊎ (seat.reader.cursor ≡ seat.reader.ring.total)
over_at seat none within left = by seat.reader.left (nat_lt seat.reader.cursor seat.reader.ring.total) refl left none where
  by : (out more : Bool) → more ≡ nat_lt seat.reader.cursor seat.reader.ring.total → out ≡ is_out seat.role → (not out && more) ≡ false → is_out seat.role ≡ true ⊎ (seat.reader.cursor ≡ seat.reader.ring.total)
  by true more m o e = inl (sym o)
  by false true m o e = absurd (let f : true ≡ false = e in cc)
  by false false m o e = inr (let low : seat.reader.ring.total ≤ seat.reader.cursor = ltb-false seat.reader.cursor seat.reader.ring.total (sym m) in omega (arith, low, within))

none_all : (seats : List SeatData) → ((i : ℕ) (seat : SeatData) → slice_get seats i ≡ Some seat → is_stopped seat.role ≡ false) → list_any (λ seat. is_stopped seat.role) seats ≡ false
none_all [] each = refl
none_all (seat ∷ seats) each = ap (λ b. b || list_any (λ s. is_stopped s.role) seats) (each 0 seat refl) ∙ none_all seats (λ i s. each (suc i) s)

-- the end returned for a site
told_at : (plan : PlanData) (seats : List SeatData) (ends : List SiteEnd) → map Some ends ≡ ends_in plan seats → (site : ℕ) (end : SiteEnd) (seat : SeatData) → slice_get ends site ≡ Some end → slice_get seats site ≡ Some seat → Some end ≡ end_of plan site seat.role
told_at plan seats ends ends-are site end seat e there =
    let inside : site < length seats = slice_get_within seats site seat there in
    sym (get_or-map Some ends site end None (slice_get_within ends site end e) ∙ ap Some (get_or_from_slice_get ends site end end e))
    ∙ ap (λ list. get_or list site None) ends-are
    ∙ get_or-map (λ pair. end_of plan pair.0 pair.1.role) (enumerate_from 0 seats) site (0, seat) None (omega (arith, inside, length-enumerate_from 0 seats))
    ∙ ap (λ (pair : ℕ × SeatData). end_of plan pair.0 pair.1.role)
    (get_or-enumerate_from 0 seats site (0, seat) inside ∙ ap (λ k. (k, get_or seats site seat)) (zero-add site) ∙ ap (λ (x : SeatData). (site, x)) (get_or_from_slice_get seats site seat seat there))

told_count : (plan : PlanData) (seats : List SeatData) (ends : List SiteEnd) → map Some ends ≡ ends_in plan seats → length ends ≡ length seats
told_count plan seats ends ends-are = sym (length-map ends Some) ∙ ap length ends-are ∙ length-map (enumerate_from 0 seats) _ ∙ length-enumerate_from 0 seats

-- a reader without a rack is a key reader
alone : (work : Work) (site : ℕ) (ring : RingNumbers) (n : ℕ) (before now : Option RackTells) (role : Role) → now ≡ None → IsServed work site ring n before now role → (key : KeyReaderData) × (role ≡ Counting key) × IsCounting work ring n key
alone work site ring n before now role none served = by role before (subst (λ (o : Option RackTells). IsServed work site ring n before o role) none served) where
  by : (role' : Role) (first : Option RackTells) → IsServed work site ring n first None role' → (key : KeyReaderData) × (role' ≡ Counting key) × IsCounting work ring n key
  by (Going going) None served' = absurd served'
  by (Going going) (Some first) served' = absurd served'
  by (Left cause) None served' = absurd served'
  by (Left cause) (Some first) served' = absurd served'
  by Stopped None served' = absurd served'
  by Stopped (Some first) served' = absurd served'
  by (Counting key) first served' = (key, refl, served'.1)

-- the readers of a run after its last round
pub record AreOver (work : Work) (before now : List RackTells) (seats : List SeatData) (ring : RingNumbers) : Type 0 where
  pub any : SeatData
  pub carries : Carries work.delivery ring
  pub olds : length before ≡ length work.delivery.plan.sites
  pub news : length now ≡ length work.delivery.plan.sites
  pub enough : length work.delivery.plan.sites ≤ length seats
  pub rings : (i : ℕ) (seat : SeatData) → slice_get seats i ≡ Some seat → seat.reader.ring ≡ ring
  pub seated : AreSeated work before now seats
  pub over : are_going seats ≡ false

-- where ends are returned and the readers don't continue, none of them does
none_left : (work : Work) (before now : List RackTells) (seats : List SeatData) (ring : RingNumbers) (ends : List SiteEnd) → AreOver work before now seats ring → map Some ends ≡ ends_in work.delivery.plan (take (length work.delivery.plan.sites) seats)
    → (i : ℕ) (seat : SeatData) → slice_get seats i ≡ Some seat → is_going seat.reader ≡ false
none_left work before now seats ring ends are ends-are i seat there =
    none_at (λ (s : SeatData). is_going s.reader) seats i seat (none_going seats are.over (none_all seats (λ k s at. each k s at))) there where
      plan : PlanData
      plan = work.delivery.plan

      each : (k : ℕ) (s : SeatData) → slice_get seats k ≡ Some s → is_stopped s.role ≡ false
      each k s at =
          ⊎_elim
          (λ (less : k < length plan.sites).
          let count = told_count plan (take (length plan.sites) seats) ends ends-are in
          let long = length-take-le (length plan.sites) seats are.enough in
          let inside : k < length ends = omega (arith, less, count, long) in
          let d : SiteEnd = Ended.Left (record { plates = 0; row = 0; call = Begin; path = [] }) in
          told_end plan k s.role (get_or ends k d) (told_at plan (take (length plan.sites) seats) ends ends-are k (get_or ends k d) s (slice_get-get_or ends k d inside) (slice_get-take (length plan.sites) seats k less ∙ at)))
          (λ (more : length plan.sites ≤ k).
          let news = are.news in
          let key = alone work k s.reader.ring s.reader.cursor (slice_get before k) (slice_get now k) s.role (slice_get_past now k (omega (arith, news, more))) (are.seated k s at).is in
          ap is_stopped key.1)
          (cases_lt k (length plan.sites))

-- each site's end fits
run_fits : (work : Work) (before now : List RackTells) (seats : List SeatData) (ring : RingNumbers) (ends : List SiteEnd) → AreOver work before now seats ring → map Some ends ≡ ends_in work.delivery.plan (take (length work.delivery.plan.sites) seats)
    → RunFits work.delivery before now ends
run_fits work before now seats ring ends are ends-are = record {
  count = count;
  each = λ site old new end b r e.
      let less : site < length plan.sites = omega (arith, slice_get_within ends site end e, count) in
      let enough = are.enough in
      let seat : SeatData = get_or seats site are.any in
      let there : slice_get seats site ≡ Some seat = slice_get-get_or seats site are.any (omega (arith, less, enough)) in
      let seated = subst (λ (o : Option RackTells). IsSeated work site o (Some new) seat) b (subst (λ (o : Option RackTells). IsSeated work site (slice_get before site) o seat) r (are.seated site seat there)) in
      let total : seat.reader.ring.total ≡ length (row_places plan) = ap (λ (x : RingNumbers). x.total) (are.rings site seat there) ∙ total_is work.delivery ring are.carries in
      end_fits work ring seat.reader.ring site seat.reader.cursor old new seat.role end are.carries
      (⊎_elim (λ (out : is_out seat.role ≡ true). inl out) (λ (all : seat.reader.cursor ≡ seat.reader.ring.total). inr (all ∙ total))
      (over_at seat (none_left work before now seats ring ends are ends-are site seat there) seated.within seated.left))
      seated.is (told_at plan (take (length plan.sites) seats) ends ends-are site end seat e (slice_get-take (length plan.sites) seats site less ∙ there));
} where
  plan : PlanData
  plan = work.delivery.plan

  count : length ends ≡ length plan.sites
  count = told_count plan (take (length plan.sites) seats) ends ends-are ∙ length-take-le (length plan.sites) seats are.enough

-- the counts of the key reader fit, where the run has one
counts_are : (work : Work) (before now : List RackTells) (seats : List SeatData) (ring : RingNumbers) (ends : List SiteEnd) (keys : Option KeyReaderData) → AreOver work before now seats ring
    → map Some ends ≡ ends_in work.delivery.plan (take (length work.delivery.plan.sites) seats) → length seats ≡ length work.delivery.plan.sites + further_count keys → work.keys ≡ keys_for keys
    → CountsFit work.delivery.plan work.delivery.rows keys (counts_at (length work.delivery.plan.sites) seats)
counts_are work before now seats ring ends None are ends-are long keys-are = ap (option_and_then (λ (s : SeatData). counts_in s.role)) (slice_get_past seats (length work.delivery.plan.sites) (omega (arith, long)))
counts_are work before now seats ring ends (Some key) are ends-are long keys-are =
    let n : ℕ = length work.delivery.plan.sites in
    let seat : SeatData = get_or seats n are.any in
    let there : slice_get seats n ≡ Some seat = slice_get-get_or seats n are.any (omega (arith, long)) in
    let seated = are.seated n seat there in
    let news = are.news in
    let own = alone work n seat.reader.ring seat.reader.cursor (slice_get before n) (slice_get now n) seat.role (slice_get_past now n (omega (arith, news))) seated.is in
    let cursor : seat.reader.cursor ≡ seat.reader.ring.total =
    ⊎_elim (λ (out : is_out seat.role ≡ true). absurd (let e : false ≡ true = sym (ap is_out own.1) ∙ out in cc)) (λ (all : seat.reader.cursor ≡ seat.reader.ring.total). all)
    (over_at seat (none_left work before now seats ring ends are ends-are n seat there) seated.within seated.left) in
    let whole : IsCounting work ring ring.total own.0 =
    subst (λ (r : RingNumbers). IsCounting work r r.total own.0) (are.rings n seat there) (subst (λ (m : ℕ). IsCounting work seat.reader.ring m own.0) cursor own.2) in
    subst (λ (o : Option CountsData). CountsFit work.delivery.plan work.delivery.rows (Some key) o) (sym (ap (option_and_then (λ (s : SeatData). counts_in s.role)) there ∙ ap counts_in own.1))
    (subst (λ (k : ℕ). KeysFit work.delivery.plan work.delivery.rows k own.0.counts) keys-are (counts_fit work ring own.0 are.carries whole))

-- ---- out of memory

-- what a site leaves at any time is a part
stopped : (work : Work) (ring own : RingNumbers) (site n : ℕ) (before now : RackTells) (role : Role) → Carries work.delivery ring → n ≤ length (row_places work.delivery.plan) → IsServed work site own n (Some before) (Some now) role
    → LeavesPart work.delivery site before now
stopped work ring own site n before now (Going going) carries within at = record {
  part = going_part work.delivery ring site n before now going carries within at;
  faults = at.faults;
}
stopped work ring own site n before now (Left cause) carries within left = record { part = left.part; faults = left.faults }
stopped work ring own site n before now Stopped carries within left = record { part = left.part; faults = left.faults }
stopped work ring own site n before now (Counting key) carries within counting = absurd (none counting.0) where
  none : Some now ≡ None → ⊥
  none e = cc

are_stopped : (work : Work) (before now : List RackTells) (seats : List SeatData) (ring : RingNumbers) → AreOver work before now seats ring → AreStopped work.delivery before now
are_stopped work before now seats ring are = record {
  each = λ site old new less b r.
      let seat : SeatData = get_or seats site are.any in
      let enough = are.enough in
      let there : slice_get seats site ≡ Some seat = slice_get-get_or seats site are.any (omega (arith, less, enough)) in
      let seated = subst (λ (o : Option RackTells). IsSeated work site o (Some new) seat) b (subst (λ (o : Option RackTells). IsSeated work site (slice_get before site) o seat) r (are.seated site seat there)) in
      let total : seat.reader.ring.total ≡ length (row_places work.delivery.plan) = ap (λ (x : RingNumbers). x.total) (are.rings site seat there) ∙ total_is work.delivery ring are.carries in
      let within = seated.within in
      stopped work ring seat.reader.ring site seat.reader.cursor old new seat.role are.carries (omega (arith, within, total)) seated.is;
}

all_part : (delivery : Delivery) (before now : List RackTells) → AreStopped delivery before now → RunPart delivery before now
all_part delivery before now are = record { each = λ site old new less b r. (are.each site old new less b r).part }

grown-nothing : {X : Type 0} (list : Option (List X)) → list ≡ grown [] list
grown-nothing None = refl
grown-nothing (Some list) = ap Some (sym (append-nil list))

-- having made nothing is a part
pub none_part : (delivery : Delivery) (before : List RackTells) → RunPart delivery before before
none_part delivery before = record {
  each = λ site old new less b r.
      subst (λ (now : RackTells). FitsPart delivery site old now) (same_Some old new (sym b ∙ r))
      (record { files = 0; rows' = 0; finished = grown-nothing old.tells.finished; taken = grown-nothing old.tells.taken; failed = inl refl });
}

-- so it is for what is left where nothing was made because memory ran out
pub none_leaves : {E : Type 0} (delivery : Delivery) (keys : Option KeyReaderData) (before : List RackTells) (answer : Result (Outcome × Option CountsData) E) → IsErr answer → RunLeaves delivery keys before before answer
none_leaves delivery keys before (Ok pair) is = absurd (let no : false ≡ true = is in cc)
none_leaves delivery keys before (Err fault) is = record { fits = tt; counts_fit = tt; part = none_part delivery before; counts = counts_stay before }

-- ---- counts

-- the counts of all sites, from what holds of each
counts_keep : (delivery : Delivery) (before now : List RackTells) → AreStopped delivery before now → length now ≤ length delivery.plan.sites → KeepCounts before now
counts_keep delivery before now are few = record {
  each = λ site old new b r. (are.each site old new (omega (arith, slice_get_within now site new r, few)) b r).faults;
}

-- ---- racks and others after them

-- what holds of the sites' racks holds where other racks follow them
pub fits_wide : (delivery : Delivery) (before now rest : List RackTells) (ends : List SiteEnd) → length before ≡ length delivery.plan.sites → length now ≡ length delivery.plan.sites → RunFits delivery before now ends
    → RunFits delivery (before ++ rest) (now ++ rest) ends
fits_wide delivery before now rest ends olds news fits = record {
  count = fits.count;
  each = λ site old new end b r e.
      let count = fits.count in
      let inside : site < length delivery.plan.sites = omega (arith, slice_get_within ends site end e, count) in
      fits.each site old new end (sym (slice_get-front before rest site (omega (arith, inside, olds))) ∙ b) (sym (slice_get-front now rest site (omega (arith, inside, news))) ∙ r) e;
}

pub part_wide : (delivery : Delivery) (before now rest : List RackTells) → length before ≡ length delivery.plan.sites → length now ≡ length delivery.plan.sites → RunPart delivery before now → RunPart delivery (before ++ rest) (now ++ rest)
part_wide delivery before now rest olds news part = record {
  each = λ site old new less b r.
      part.each site old new less (sym (slice_get-front before rest site (omega (arith, less, olds))) ∙ b) (sym (slice_get-front now rest site (omega (arith, less, news))) ∙ r);
}

-- ---- ends

enumerate-more : {X : Type 0} (xs : List X) (x : X) (k : ℕ) → enumerate_from k (xs ++ x ∷ []) ≡ enumerate_from k xs ++ (k + length xs, x) ∷ []
enumerate-more [] x k = ap (λ n. (n, x) ∷ []) (let e : k ≡ k + 0 = omega arith in e)
enumerate-more (y ∷ xs) x k =
    ap (λ list. (k, y) ∷ list) (enumerate-more xs x (k + 1))
    ∙ ap (λ n. (k, y) ∷ (enumerate_from (k + 1) xs ++ (n, x) ∷ [])) (let e : (k + 1) + length xs ≡ k + suc (length xs) = omega arith in e)

-- one more site's end
pub ends_more : (plan : PlanData) (seats : List SeatData) (seat : SeatData) → ends_in plan (seats ++ seat ∷ []) ≡ ends_in plan seats ++ end_of plan (length seats) seat.role ∷ []
ends_more plan seats seat =
    ap (map (λ pair. end_of plan pair.0 pair.1.role)) (enumerate-more seats seat 0)
    ∙ map-append (λ pair. end_of plan pair.0 pair.1.role) (enumerate_from 0 seats) ((0 + length seats, seat) ∷ [])
    ∙ ap (λ n. ends_in plan seats ++ end_of plan n seat.role ∷ []) (zero-add (length seats))

pub length-ends_in : (plan : PlanData) (seats : List SeatData) → length (ends_in plan seats) ≡ length seats
length-ends_in plan seats = length-map (enumerate_from 0 seats) _ ∙ length-enumerate_from 0 seats

-- one more seat
pub seats_more : (plan : PlanData) (out : List ℕ) (readers : List ReaderState) (reader : ReaderState) → site_seats plan out (readers ++ reader ∷ []) ≡ site_seats plan out readers ++ site_seat plan out (length readers, reader) ∷ []
seats_more plan out readers reader =
    ap (map (site_seat plan out)) (enumerate-more readers reader 0)
    ∙ map-append (site_seat plan out) (enumerate_from 0 readers) ((0 + length readers, reader) ∷ [])
    ∙ ap (λ n. site_seats plan out readers ++ site_seat plan out (n, reader) ∷ []) (zero-add (length readers))

-- the key reader at the last of the ends
pub fresh_more : (plan : PlanData) (out : List ℕ) (readers front : List ReaderState) (last : ReaderState) (key : KeyReaderData) → readers ≡ front ++ last ∷ [] → length front ≡ length plan.sites
    → fresh_seats plan out readers (Some key) ≡ site_seats plan out front ++ record { reader = last; role = Counting key } ∷ []
fresh_more plan out readers front last key is long =
    let first : take (length plan.sites) readers ≡ front = ap (take (length plan.sites)) is ∙ ap (λ n. take n (front ++ last ∷ [])) (sym long) ∙ take-append_seam front (last ∷ []) in
    let rest : drop (length plan.sites) readers ≡ last ∷ [] = ap (drop (length plan.sites)) is ∙ ap (λ n. drop n (front ++ last ∷ [])) (sym long) ∙ drop-append_seam front (last ∷ []) in
    ap (λ list. site_seats plan out list ++ map (λ reader. record { reader = reader; role = Counting key }) (drop (length plan.sites) readers)) first
    ∙ ap (λ list. site_seats plan out front ++ map (λ reader. record { reader = reader; role = Counting key }) list) rest

-- the counts of the last reader
pub last_counts : (seats front : List SeatData) (last : SeatData) (n : ℕ) → seats ≡ front ++ last ∷ [] → length front ≡ n → counts_at n seats ≡ counts_in last.role
last_counts seats front last n is long =
    ap (counts_at n) is
    ∙ ap (option_and_then (λ (s : SeatData). counts_in s.role))
    (slice_get-behind front (last ∷ []) n (omega (arith, long)) ∙ ap (slice_get (last ∷ [])) (let e : n - length front ≡ 0 = omega (arith, long) in e))

-- ---- a loop over a list

-- an element that is still to come stands behind those that came, below the list's end
pub next_below : {X : Type 0} (done rest later all : List X) (x : X) → done ++ rest ≡ all → rest ≡ x ∷ later → length done < length all
next_below done rest later all x split next =
    let all-long : length done + length rest ≡ length all = sym (length-append done rest) ∙ ap length split in
    let rest-long : length rest ≡ length (x ∷ later) = ap length next in
    omega (arith, all-long, rest-long)

-- ---- a run over a newly opened ring

pub record Opens (delivery : Delivery) (writer : WriterState) (keys : Option KeyReaderData) (before : List RackTells) (seats : List SeatData) : Type 0 where
  pub ends : AreEndsOf writer seats
  pub seated : AreSeated (record { delivery = delivery; keys = keys_for keys }) before before seats
  pub some : AreSomeSeated before seats
  pub long : length seats ≡ length delivery.plan.sites + further_count keys

-- it begins at the ends of the ring, the first of which are the sites'
pub run_opens : (delivery : Delivery) (table : TableId) (ring : RingNumbers) (writer : WriterState) (readers : List ReaderState) (keys : Option KeyReaderData) (seats : List SeatData) (before : List RackTells) → writer ≡ new_writer_state table ring
    → readers ≡ map (new_reader_state table ring) (up_to ring.readers) → seats ≡ fresh_seats delivery.plan delivery.out readers keys → ring.readers ≡ length delivery.plan.sites + further_count keys → Carries delivery ring → AreFreshKeys delivery.plan keys
    → length before ≡ length delivery.plan.sites → AreIdle (length delivery.plan.sites) before → AllTellSlots before → Opens delivery writer keys before seats
run_opens delivery table ring writer readers keys seats before writer-is are seats-are count carries fresh racks idle slots =
    let long : length readers ≡ length delivery.plan.sites + further_count keys = ap length are ∙ length-map (up_to ring.readers) (new_reader_state table ring) ∙ length_up ring.readers ∙ count in
    let ends = fresh_ends delivery.plan delivery.out table ring writer readers keys writer-is are in
    let seated = run_begins delivery table ring readers keys before carries are long racks fresh idle slots in
    subst (λ (s : List SeatData). Opens delivery writer keys before s) (sym seats-are)
    (record {
      ends = ends;
      seated = seated;
      some = begin_some (record { delivery = delivery; keys = keys_for keys }) writer ring before (fresh_seats delivery.plan delivery.out readers keys) carries (ap (λ (w : WriterState). w.ring) writer-is) ends seated;
      long = length-fresh_seats delivery.plan delivery.out readers keys ∙ long;
    })

-- and leaves what a run leaves
pub run_leaves : {E : Type 0} (delivery : Delivery) (ring : RingNumbers) (writer writer' : WriterState) (keys : Option KeyReaderData) (before now : List RackTells) (seats seats' : List SeatData) (answer : Result (Outcome × Option CountsData) E) → Carries delivery ring
    → writer.ring ≡ ring → Opens delivery writer keys before seats → length before ≡ length delivery.plan.sites → length now ≡ length before → length seats' ≡ length seats → writer'.ring ≡ writer.ring → AreEndsOf writer' seats' → are_going seats' ≡ false
    → StaySeated before now seats seats' → IfOk answer (λ pair. map Some pair.0.sites.items ≡ ends_in delivery.plan (take (length delivery.plan.sites) seats')) → IfOk answer (λ pair. pair.1 ≡ counts_at (length delivery.plan.sites) seats')
    → RunLeaves delivery keys before now answer
run_leaves {E} delivery ring writer writer' keys before now seats seats' answer carries ring-is opens olds news same ring-stays ends over stay ends-are counts-are = by answer ends-are counts-are where
  work : Work
  work = record { delivery = delivery; keys = keys_for keys }

  long : length seats' ≡ length delivery.plan.sites + further_count keys
  long = same ∙ opens.long

  are : AreOver work before now seats' ring
  are = record {
    any = record {
      reader = new_reader_state writer.table ring 0;
      role = Stopped;
    };
    carries = carries;
    olds = olds;
    news = news ∙ olds;
    enough = (let l = long in omega (arith, l));
    rings = λ i seat there. (ends.each i seat there).ring ∙ ring-stays ∙ ring-is;
    seated = end_seated work writer ring before now seats seats' carries ring-is opens.ends (sym same) opens.seated stay;
    over = over;
  }

  stopped' : AreStopped delivery before now
  stopped' = are_stopped work before now seats' ring are

  keep : KeepCounts before now
  keep = counts_keep delivery before now stopped' (omega (arith, news, olds))

  by : (result : Result (Outcome × Option CountsData) E) → IfOk result (λ pair. map Some pair.0.sites.items ≡ ends_in delivery.plan (take (length delivery.plan.sites) seats')) → IfOk result (λ pair. pair.1 ≡ counts_at (length delivery.plan.sites) seats')
      → RunLeaves delivery keys before now result
  by (Ok pair) is counts = record {
    fits = run_fits work before now seats' ring pair.0.sites.items are is;
    counts_fit = subst (λ (o : Option CountsData). CountsFit delivery.plan delivery.rows keys o) (sym counts) (counts_are work before now seats' ring pair.0.sites.items keys are is long refl);
    part = tt;
    counts = keep;
  }
  by (Err fault) is counts = record { fits = tt; counts_fit = tt; part = all_part delivery before now stopped'; counts = keep }
