-- A reader that takes each row in turn and gives it back.
use Rattle.std.proofs.Common.{◌≡◌, ℕ, ◌+◌, ◌<◌, ◌≤◌, false, refl, sym, ap, ◌∙◌, ⊎_elim, arith}
use Rattle.std.proofs.lemmas.Bool.{cases_lt}
use Rattle.ring_lanes.specs.declared.answer.NotYet.{NotYet}
use Rattle.ring_lanes.specs.Held.{HeldRow}
use Rattle.ring_lanes.specs.Reader.{ReaderState, Closes, GoesOver, IsNotYet, IsOpened, SeesOnce}

pub closes-row : (reader opened closed : ReaderState) (held : HeldRow) → reader.held ≡ false → IsOpened reader opened held → SeesOnce reader opened
    → closed ≡ record opened { cursor = opened.cursor + 1; held = false } → Closes reader closed
closes-row reader opened closed held home is sees given-back =
    let all : closed ≡ record reader { cursor = reader.cursor + 1; held = false; seen = opened.seen; loads = opened.loads } =
    given-back ∙ ap {A = ReaderState} (λ r. record r { cursor = r.cursor + 1; held = false }) is.stays in
    let seen : closed.seen ≡ opened.seen = ap (λ r. r.seen) all in
    let loads : closed.loads ≡ opened.loads = ap (λ r. r.loads) all in
    let ahead : reader.cursor < opened.seen = is.ahead in
    record {
      reader =
          all
          ∙ ap (λ h. record reader { cursor = reader.cursor + 1; held = h; seen = opened.seen; loads = opened.loads }) (sym home)
          ∙ ap (λ s. record reader { cursor = reader.cursor + 1; seen = s; loads = opened.loads }) (sym seen)
          ∙ ap (λ l. record reader { cursor = reader.cursor + 1; seen = closed.seen; loads = l }) (sym loads);
      known = omega arith;
      grows = ⊎_elim
          (λ (less : reader.cursor < reader.seen). let same : opened.seen ≡ reader.seen = sees.seen less in omega arith)
          (λ (most : reader.seen ≤ reader.cursor). let more : reader.seen ≤ opened.seen = sees.grows most in omega arith)
          (cases_lt reader.cursor reader.seen);
      within = let most : opened.seen ≤ reader.ring.total = sees.within in omega arith;
      loads = ⊎_elim
          (λ (less : reader.cursor < reader.seen). let same : opened.loads ≡ reader.loads = sees.loads less in omega arith)
          (λ (most : reader.seen ≤ reader.cursor). let more : opened.loads ≡ reader.loads + 1 = sees.counted most in omega arith)
          (cases_lt reader.cursor reader.seen);
      found = ⊎_elim
          (λ (less : reader.cursor < reader.seen). let same : opened.loads ≡ reader.loads = sees.loads less in let still : opened.seen ≡ reader.seen = sees.seen less in omega arith)
          (λ (most : reader.seen ≤ reader.cursor). let more : opened.loads ≡ reader.loads + 1 = sees.counted most in omega arith)
          (cases_lt reader.cursor reader.seen);
    }

-- the reader at another cursor
abbrev at : ReaderState → ℕ → ℕ → ℕ → ReaderState
at reader cursor seen loads = record reader { cursor = cursor; seen = seen; loads = loads }

chained : (first now next : ReaderState) (cursor : ℕ) → now ≡ at first now.cursor now.seen now.loads → next ≡ at now cursor next.seen next.loads → next ≡ at first next.cursor next.seen next.loads
chained first now next cursor was is =
    let all : next ≡ at first cursor next.seen next.loads = is ∙ ap (λ r. at r cursor next.seen next.loads) was in
    all ∙ ap (λ n. at first n next.seen next.loads) (sym (ap (λ r. r.cursor) all))

-- no rows taken
pub over-first : (s : ReaderState) → s.cursor ≤ s.ring.total → GoesOver s s 0
over-first s within = record { reader = refl; grows = omega arith; within = within; seen = omega arith; counted = omega arith; found = omega arith }

-- one more row taken
pub over-on : (first now next : ReaderState) (waits : ℕ) → now.cursor < now.ring.total → GoesOver first now waits → Closes now next → GoesOver first next waits
over-on first now next waits less goes closes =
    let total : now.ring.total ≡ first.ring.total = ap (λ r. r.ring.total) goes.reader in
    let cursor : next.cursor ≡ now.cursor + 1 = ap (λ r. r.cursor) closes.reader in
    let low : first.cursor ≤ now.cursor = goes.grows in
    let seen : first.seen ≤ now.seen = goes.seen in
    let more : now.seen ≤ next.seen = closes.grows in
    let counted : first.loads + waits ≤ now.loads = goes.counted in
    let loads : now.loads ≤ next.loads = closes.loads in
    let found : now.loads + first.seen ≤ first.loads + waits + now.seen = goes.found in
    let once : next.loads + now.seen ≤ now.loads + next.seen = closes.found in
    record {
      reader = chained first now next (now.cursor + 1) goes.reader closes.reader;
      grows = omega arith;
      within = omega arith;
      seen = omega arith;
      counted = omega arith;
      found = omega arith;
    }

-- one more load found no row
pub over-awaiting : (first now next : ReaderState) (waits : ℕ) (answer : NotYet) → GoesOver first now waits → now.seen ≤ now.cursor → IsNotYet now next answer → GoesOver first next (waits + 1)
over-awaiting first now next waits answer goes behind not_yet =
    let same : next ≡ at now now.cursor answer.head (now.loads + 1) = not_yet.stays in
    let cursor : next.cursor ≡ now.cursor = ap (λ r. r.cursor) same in
    let seen : next.seen ≡ answer.head = ap (λ r. r.seen) same in
    let loads : next.loads ≡ now.loads + 1 = ap (λ r. r.loads) same in
    let head : answer.head ≡ now.cursor = not_yet.head in
    let low : first.cursor ≤ now.cursor = goes.grows in
    let high : now.cursor ≤ first.ring.total = goes.within in
    let known : first.seen ≤ now.seen = goes.seen in
    let counted : first.loads + waits ≤ now.loads = goes.counted in
    let found : now.loads + first.seen ≤ first.loads + waits + now.seen = goes.found in
    record {
      reader =
          chained first now next now.cursor goes.reader
          (same ∙ ap (λ s. at now now.cursor s (now.loads + 1)) (sym seen) ∙ ap (at now now.cursor next.seen) (sym loads));
      grows = omega arith;
      within = omega arith;
      seen = omega arith;
      counted = omega arith;
      found = omega arith;
    }
