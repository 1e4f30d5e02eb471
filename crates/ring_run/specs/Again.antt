-- The laws of a reader's turn: turns may be taken one after another, and two of them amount to one turn.
use Rattle.std.specs.Prelude.{◌≡◌, ℕ, Option}
use Rattle.std.proofs.Common.{sym, ap, subst, ◌∙◌}
use Rattle.std.proofs.Math.Nat.{le_trans, suc-le-suc_iff}
use Rattle.ring_rule.specs.declared.view.RingNumbers.{RingNumbers}
use Rattle.ring_lanes.specs.Reader.{ReaderState}
use Rattle.pr_rack.specs.Told.{RackTells}
use Rattle.ring_run.specs.Seat.{SeatData}
use Rattle.ring_run.specs.Served.{Carries, IsSeated, SomeSeated, TakesOn, Turned}

takes_again : (was then is : ReaderState) → TakesOn was then → TakesOn then is → TakesOn was is
takes_again was then is first next = record {
  stays = next.stays ∙ ap {A = ReaderState} (λ r. record r {
    cursor = is.cursor;
    left = is.left;
    seen = is.seen;
    loads = is.loads;
  }) first.stays;
  fewer = le_trans next.fewer first.fewer;
  gets_on = λ joined known. le_trans (suc-le-suc_iff.1 next.fewer) (first.gets_on joined known);
}

pub may_turn_again : (old mid : Option RackTells) (was then : SeatData) → SomeSeated old was
    → Turned old mid was then → SomeSeated mid then
may_turn_again old mid was then some turned =
    let ring : then.reader.ring ≡ was.reader.ring = ap (λ (r : ReaderState). r.ring) turned.end.stays in
    let number : then.reader.number ≡ was.reader.number =
    ap (λ (r : ReaderState). r.number) turned.end.stays in
    record {
      work = some.work;
      before = some.before;
      carries = subst (λ (r : RingNumbers). Carries some.work.delivery r) (sym ring) some.carries;
      is = subst (λ (n : ℕ). IsSeated some.work n some.before mid then) (sym number)
          (turned.seated some.work some.before some.carries some.is);
    }

pub turned_again : (old mid new : Option RackTells) (was then is : SeatData) → Turned old mid was then
    → Turned mid new then is → Turned old new was is
turned_again old mid new was then is first next =
    let ring : then.reader.ring ≡ was.reader.ring = ap (λ (r : ReaderState). r.ring) first.end.stays in
    let number : then.reader.number ≡ was.reader.number =
    ap (λ (r : ReaderState). r.number) first.end.stays in
    record {
      end = takes_again was.reader then.reader is.reader first.end next.end;
      seated = λ work before carries seated.
          subst (λ (n : ℕ). IsSeated work n before new is) number
          (next.seated work before (subst (λ (r : RingNumbers). Carries work.delivery r) (sym ring) carries)
          (subst (λ (n : ℕ). IsSeated work n before mid then) (sym number)
          (first.seated work before carries seated)));
    }
