use Rattle.std.proofs.Common.{◌∙◌, refl, ap, inl, inr}
use Rattle.std.specs.Prelude.{string_bytes}
use Rattle.std.proofs.lemmas.Result.{err_from_is_err_and}
use Rattle.cmd_replate.specs.Change.{change_told, change_makes, change_rules}
use Rattle.cmd_replate.specs.Remade.{remade_text, status_of_remade}
use Rattle.cmd_base.specs.Seen.{shelf_seen}
use Rattle.cmd_base.specs.Status.{number_of}
use Rattle.cmd_replate.proofs.Changing.{prints_late, text_is}
use Rattle.cmd_base.proofs.Grow.{grew_nothing}
use Rattle.cmd_base.proofs.Loads.{lengths_on, loads_on, none_lengths}
use Rattle.cmd_base.proofs.Told.{put_makes}
use Rattle.cmd_replate.proofs.change.print_change.Goals as goal

pub returns-in_err-text-clause-answered : goal.returns-in_err-text-clause-answered
returns-in_err-text-clause-answered g c =
    let late = c.in_ok-late.ensures.loaded in
    let p = err_from_is_err_and c.from_residual-in_err-text.result c.from_residual-in_err-text.ensures.1 in
    rw (p.1, p.2) (inr (inl (record {
      text = remade_text late.before.plan c.in_ok-late.late.job.plan c.args.change.paths.out.now
          c.in_ok-remade.remade.items;
      status = status_of_remade c.in_ok-remade.remade.items;
      prints = prints_late g.R.Rack (change_told c.args.change) _ c.in_ok-late.late late _ _
          c.in_ok-remade.remade.items _ _ c.in_ok-remade.ensures refl refl;
      grew = (0, grew_nothing _ _ refl);
    })))

pub returns-clause-answered : goal.returns-clause-answered
returns-clause-answered g c =
    let late = c.in_ok-late.ensures.loaded in
    let change = change_told c.args.change in
    put_makes (change_rules change) (change_makes g.R.Rack change) _ c.args.racks.now c.make_late.new.racks _
    c.as_bytes.result.now (number_of c.status_of.result) c.put_text.result
    (prints_late g.R.Rack change _ c.in_ok-late.late late _ _ c.in_ok-remade.remade.items _ _
    c.in_ok-remade.ensures
    (c.as_bytes.ensures.value ∙ c.in_ok-text.ensures
    ∙ text_is late.before.plan c.in_ok-late.late.job.plan c.in_ok-late.late.job.plan c.args.change.paths.out.now
    c.as_slice-ends.result.now c.in_ok-remade.remade.items (string_bytes c.in_ok-late.late.dropped)
    refl c.as_slice-ends.ensures.value late.is.dropped)
    (c.status_of.ensures ∙ ap status_of_remade c.as_slice-ends.ensures.value))
    c.put_text.ensures.puts

pub returns-in_err-late-clause-loads : goal.returns-in_err-late-clause-loads
returns-in_err-late-clause-loads g c =
    loads_on _ _ _ c.from_residual.ensures.1 c.in_err-late.ensures.loads

pub returns-in_err-remade-clause-loads : goal.returns-in_err-remade-clause-loads
returns-in_err-remade-clause-loads g c = λ done. c.in_ok-late.ensures.loads refl

pub returns-in_err-text-clause-loads : goal.returns-in_err-text-clause-loads
returns-in_err-text-clause-loads g c = λ done. c.in_ok-late.ensures.loads refl

pub returns-clause-loads : goal.returns-clause-loads
returns-clause-loads g c = λ done. c.in_ok-late.ensures.loads refl

pub returns-in_err-late-clause-lengths : goal.returns-in_err-late-clause-lengths
returns-in_err-late-clause-lengths g c =
    lengths_on (shelf_seen g.H.Shelf c.args.shelf.now c.load_late.new.shelf) _ _ c.from_residual.ensures.1 c.in_err-late.ensures.lengths

pub returns-in_err-remade-clause-lengths : goal.returns-in_err-remade-clause-lengths
returns-in_err-remade-clause-lengths g c =
    none_lengths (shelf_seen g.H.Shelf c.args.shelf.now c.load_late.new.shelf)
    c.from_residual-in_err-remade.result c.in_ok-late.ensures.lengths

pub returns-in_err-text-clause-lengths : goal.returns-in_err-text-clause-lengths
returns-in_err-text-clause-lengths g c =
    none_lengths (shelf_seen g.H.Shelf c.args.shelf.now c.load_late.new.shelf)
    c.from_residual-in_err-text.result c.in_ok-late.ensures.lengths

pub returns-clause-lengths : goal.returns-clause-lengths
returns-clause-lengths g c =
    none_lengths (shelf_seen g.H.Shelf c.args.shelf.now c.load_late.new.shelf) c.put_text.result
    c.in_ok-late.ensures.lengths

pub returns-in_err-late-clause-writes : goal.returns-in_err-late-clause-writes
returns-in_err-late-clause-writes g c = λ done. refl

pub returns-clause-writes : goal.returns-clause-writes
returns-clause-writes g c = c.put_text.ensures.writes
