use Rattle.std.proofs.Common.{◌≡◌, ◌+◌, ◌-◌, length, take, drop, ◌∙◌, arith}
use Rattle.std.proofs.lemmas.List.{get_or-drop, get_or-take, length-drop, length-take}
use Rattle.page_paint.proofs.Spans.{LaysSpan_spread}
use Rattle.page_paint.proofs.lay.knock_out_ink.Goals as goal

pub returns : goal.returns
returns c =
    let from = c.args.from in
    let cut = from + length c.args.admitted.now - from in
    let old = c.args.into.now in
    let size : length (take cut (drop from old)) ≡ length c.args.admitted.now = omega (arith, length-take cut (drop from old), length-drop from old) in
    LaysSpan_spread from cut (length (take cut (drop from old))) c.args.ink c.args.admitted.now old (take cut (drop from old)) c.spread.new.into (omega arith) (omega arith) size c.spread.auto.into
    (λ j within. get_or-take cut (drop from old) j 0 (omega arith) ∙ get_or-drop from old j 0) c.spread.ensures
