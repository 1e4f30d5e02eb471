use Rattle.std.proofs.Common.{List, length, map, take, sym, ap, subst, ◌∙◌}
use Rattle.std.proofs.lemmas.List.{length-map, take_at}
use Rattle.ring_rule.proofs.Numbers.{length_up}
use Rattle.ring_rule.specs.Views.{up_to}
use Rattle.ring_lanes.specs.Reader.{new_reader_state}
use Rattle.ring_lanes.specs.Writer.{WriterState}
use Rattle.pr_rack.specs.Told.{RackTells, told}
use Rattle.site_agent.proofs.Results.{if_ok}
use Rattle.ring_run.specs.Fits.{on_ring}
use Rattle.ring_run.specs.Round.{AreEndsOf, StaySeated}
use Rattle.ring_run.specs.Seat.{SeatData, counts_at}
use Rattle.ring_run.specs.Served.{AreSomeSeated, ends_in}
use Rattle.ring_run.proofs.Running.{Opens, none_leaves, run_leaves, run_opens}
use Rattle.ring_run.proofs.rows.Run.run_on.Given.{Over}
use Rattle.ring_run.proofs.rows.Run.run_on.Goals.{After-as_mut_slice}
use Rattle.ring_run.proofs.rows.Run.run_on.Goals as goal

pub returns-in_err-writer : goal.returns-in_err-writer
returns-in_err-writer g c = record { leaves = none_leaves _ _ _ c.from_residual.result c.from_residual.ensures.0 }

pub seats_of-requires-clause-readers : goal.seats_of-requires-clause-readers
seats_of-requires-clause-readers g c =
    let ring = c.args.table.now.ring in
    ap length c.in_ok-writer.ensures.readers ∙ length-map (up_to ring.readers) (new_reader_state c.args.table.now.table ring) ∙ length_up ring.readers ∙ c.requires.readers

pub returns-in_err-seats : goal.returns-in_err-seats
returns-in_err-seats g c = record { leaves = none_leaves _ _ _ c.from_residual-in_err-seats.result c.from_residual-in_err-seats.ensures.0 }

-- the ends and the seats before the first round
opened : (g : Over) (c : After-as_mut_slice g)
    → Opens (on_ring c.args.self.now.plan.now c.args.self.now.out.now c.args.table.now.ring) c.in_ok-writer.field-0.writer c.args.keys (map (told g.R.Rack) c.args.racks.now) c.in_ok-seats.seats.items
opened g c =
    let tell : g.row.R.Denot → RackTells = told g.R.Rack in
    let ring = c.args.table.now.ring in
    run_opens (on_ring c.args.self.now.plan.now c.args.self.now.out.now ring) c.args.table.now.table ring c.in_ok-writer.field-0.writer c.in_ok-writer.field-0.readers.items c.args.keys c.in_ok-seats.seats.items (map tell c.args.racks.now) c.in_ok-writer.ensures.writer
    c.in_ok-writer.ensures.readers c.in_ok-seats.ensures c.requires.readers c.requires.carries c.requires.fresh_keys (length-map c.args.racks.now tell ∙ sym c.requires.racks) c.requires.idle c.tell_slots.ensures

pub run_rounds-requires-clause-ends : goal.run_rounds-requires-clause-ends
run_rounds-requires-clause-ends g c κs within =
    subst (λ (s : _). AreEndsOf c.in_ok-writer.field-0.writer s) (sym c.as_mut_slice.ensures.value)
    (opened g (goal.at.run_rounds-requires-clause-ends g c).After-as_mut_slice).ends

pub run_rounds-requires-clause-some : goal.run_rounds-requires-clause-some
run_rounds-requires-clause-some g c κs within =
    subst (λ (s : _). AreSomeSeated (map (told g.R.Rack) c.args.racks.now) s) (sym c.as_mut_slice.ensures.value)
    (opened g (goal.at.run_rounds-requires-clause-some g c).After-as_mut_slice).some

pub returns : goal.returns
returns g c =
    let tell : g.row.R.Denot → RackTells = told g.R.Rack in
    let ring = c.args.table.now.ring in
    let plan = c.args.self.now.plan.now in
    let writer = c.in_ok-writer.field-0.writer in
    let opens = opened g (goal.at.returns g c).After-as_mut_slice in
    let value = c.as_mut_slice.ensures.value in
    let rounds = c.run_rounds.ensures in
    let back = take_at c.run_rounds.new.seats _ _ (c.run_rounds.auto.seats ∙ c.as_mut_slice.ensures.len) in
    record {
      leaves = run_leaves (on_ring plan c.args.self.now.out.now ring) ring writer c.run_rounds.new.writer.end c.args.keys (map tell c.args.racks.now) (map tell c.run_rounds.new.racks) c.in_ok-seats.seats.items c.run_rounds.new.seats c.ends_of.result c.requires.carries
          (ap (λ (w : WriterState). w.ring) c.in_ok-writer.ensures.writer) opens (length-map c.args.racks.now tell ∙ sym c.requires.racks) (length-map c.run_rounds.new.racks tell ∙ c.run_rounds.auto.racks ∙ sym (length-map c.args.racks.now tell))
          (c.run_rounds.auto.seats ∙ ap length value) rounds.ring rounds.ends rounds.over
          (subst (λ (s : _). StaySeated (map tell c.args.racks.now) (map tell c.run_rounds.new.racks) s c.run_rounds.new.seats) value rounds.seated)
          (if_ok c.ends_of.result _ _ (λ pair is. is ∙ ap (λ (s : List SeatData). ends_in plan (take (length plan.sites) s)) back) c.ends_of.ensures.ends)
          (if_ok c.ends_of.result _ _ (λ pair is. is ∙ ap (counts_at (length plan.sites)) back) c.ends_of.ensures.counts);
    }
