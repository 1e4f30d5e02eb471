use Rattle.std.proofs.Common.{◌≡◌, ◌+◌, ◌∷◌, [], Bool, List, length, length-append, ap, sym, subst, ◌∙◌}
use Rattle.plan_rows.specs.declared.group.Group.{Group}
use Rattle.replate.specs.Standing.{AreAllKept, AreKept}
use Rattle.replate.proofs.KeptLemmas.{rows_more}
use Rattle.replate.proofs.kept.kept_groups.Goals as goal

pub loop-index-preserved : goal.loop-index-preserved
loop-index-preserved c =
    let before = c.args.before.now in
    let after = c.args.after.now in
    let n = c.loop-index.index in
    let kept = c.loop-index.kept.items in
    let row = c.kept_sites-row.result in
    let count : length kept ≡ n = c.loop-index.invariant.count in
    let items = c.in_ok-push.ensures.items in
    let told = c.kept_sites-row.ensures in
    let one : AreKept before after c.group_with-group.result.now (length after.plan.sites) row = record { stays = told.stays; each = told.each } in
    let Of : Group → Type 0 = λ group. AreKept before after group (length after.plan.sites) row in
    let All_of : List (List Bool) → Type 0 = λ rows. AreAllKept before after (n + 1) rows in
    record {
      count = ap length items ∙ length-append kept (row ∷ []) ∙ ap (λ m. m + 1) count;
      rows = subst All_of (sym items) (rows_more before after n kept row count (subst Of c.group_with-group.ensures.group one) c.loop-index.invariant.rows);
    }
