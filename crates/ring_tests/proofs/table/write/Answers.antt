use Rattle.std.proofs.Common.{◌≡◌, ◌+◌, ◌<◌, ap, sym, ◌∙◌, subst, arith}
use Rattle.ring_rule.specs.Marks.{WriterMark}
use Rattle.ring_rule.specs.declared.view.WriterView.{WriterView}
use Rattle.ring_rule.specs.Plays.{looked_at, published, MayPublish}
use Rattle.ring_tests.specs.Numbered.{IsIdleWriter, served}
use Rattle.ring_tests.proofs.Rows.{two_done}
use Rattle.ring_tests.proofs.table.write.Goals as goal
use Rattle.ring_tests.proofs.table.write.Goals.{After-serve-2}

abbrev view : WriterMark → WriterView
view m = m.view

-- what the writer did to both readers
full : (c : After-serve-2) → c.serve-2.new.writer.view
    ≡ served c.look-second.result 1 (served c.look-first.result 0
    (looked_at 1 c.look-second.result (looked_at 0 c.look-first.result c.args.writer.now.view)))
full c =
    let first = ap (looked_at 1 c.look-second.result) (ap view c.look-first.ensures.view) in
    let looked = ap view c.look-second.ensures.view ∙ first in
    let served_first = ap view c.serve.ensures ∙ ap (served c.look-first.result 0) looked in
    ap view c.serve-2.ensures ∙ ap (served c.look-second.result 1) served_first

pub store_head-requires : goal.store_head-requires
store_head-requires c =
    let a = c.look-first.result in
    let b = c.look-second.result in
    let row : c.args.head < 5 = omega arith in
    subst (λ (v : WriterView). MayPublish v) (sym (full (goal.at.store_head-requires c).After-serve-2))
    (two_done 2 5 c.args.head a b c.args.writer.now.view c.requires row).may

pub returns : goal.returns
returns c =
    let a = c.look-first.result in
    let b = c.look-second.result in
    let row : c.args.head < 5 = omega arith in
    let last = ap view c.store_head.ensures ∙ ap published (full (goal.at.returns c).After-serve-2) in
    subst (λ (v : WriterView). IsIdleWriter 2 2 5 (c.args.head + 1) v) (sym last)
    (two_done 2 5 c.args.head a b c.args.writer.now.view c.requires row).idle
