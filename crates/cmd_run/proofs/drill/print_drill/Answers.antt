use Rattle.std.proofs.Common.{List, ℕ, refl, sym, subst}
use Rattle.cmd_base.proofs.Told.{put_tells}
use Rattle.cmd_run.specs.Drill.{IsDrilled, PrintsDrill, drill_rules}
use Rattle.cmd_run.proofs.drill.print_drill.Goals as goal

pub returns-clause-told : goal.returns-clause-told
returns-clause-told g c = λ shelf.
    put_tells drill_rules (PrintsDrill c.args.drill.number c.args.drill.ring) shelf _ c.as_bytes.result.now 0
    c.put_text.result
    (record {
      drilled = subst (λ (text : List ℕ). IsDrilled c.args.drill.number c.args.drill.ring text)
          (sym c.as_bytes.ensures.value) c.in_ok-text.ensures;
      zero = refl;
    })
    c.put_text.ensures.puts

pub returns-clause-writes : goal.returns-clause-writes
returns-clause-writes g c = c.put_text.ensures.writes
