use Rattle.std.proofs.Common.{◌++◌, ◌∷◌, ◌∙◌, [], map, ap, sym, arith}
use Rattle.std.specs.List.{range_with_len}
use Rattle.std.proofs.lemmas.List.FromFn.{map-range_with_len_more}
use Rattle.replate.specs.Making.{fresh_maker}
use Rattle.replate.proofs.remaking.Remaking.makers.Goals as goal

pub loop-site-preserved : goal.loop-site-preserved
loop-site-preserved c =
    let self = c.args.self.now in
    let made = fresh_maker self.after.now.plan self.out.now self.picks.now in
    let site = c.loop-site.site in
    c.in_ok-push.ensures.items ∙ ap (λ list. list ++ c.in_ok-maker.field-0 ∷ []) c.loop-site.invariant
    ∙ ap (λ maker. map made (range_with_len 0 site) ++ maker ∷ []) c.in_ok-maker.ensures
    ∙ sym (map-range_with_len_more made 0 site site (omega arith))
