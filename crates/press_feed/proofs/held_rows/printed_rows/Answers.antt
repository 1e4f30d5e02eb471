use Rattle.std.proofs.Common.{[], ◌∷◌, ◌++◌, arith}
use Rattle.std.proofs.lemmas.List.Elements.{All-push, All-same}
use Rattle.page_layers.specs.Inks.{HasWidth}
use Rattle.press_feed.proofs.held_rows.printed_rows.Goals as goal

pub loop-row-preserved : goal.loop-row-preserved
loop-row-preserved c =
    let rows = c.loop-row.rows.items in
    let row = c.in_ok-new.field-0 in
    let width = c.args.plan.now.page_width in
    record {
      long = omega (arith, c.in_ok-push.ensures.len);
      wide = All-same (λ planes. HasWidth planes width) c.push.new.self.items (rows ++ row ∷ []) c.in_ok-push.ensures.items
          (All-push (λ planes. HasWidth planes width) rows row c.loop-row.invariant.wide c.in_ok-new.ensures);
    }
