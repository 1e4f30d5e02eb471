use Rattle.std.proofs.Common.{◌∙◌, List, ℕ, Some, ap, map, subst, sym}
use Rattle.std.specs.Prelude.{slice_get}
use Rattle.tif_packbits.specs.Frame.{AreFrames, framed_row}
use Rattle.rack_tests.proofs.Numbered.{numbered-frames, numbered-next}
use Rattle.rack_tests.proofs.site.carry.Goals as goal

pub put-requires-clause-next : goal.put-requires-clause-next
put-requires-clause-next c =
    ap (λ d. slice_get d.rows d.put) c.loop-n.invariant.deck' ∙ numbered-next c.args.count c.loop-n.n c.loop-n-test.true ∙ ap Some (sym c.frame.ensures)

pub offer-last-requires-clause-frames : goal.offer-last-requires-clause-frames
offer-last-requires-clause-frames c =
    subst (λ (rows : List (List ℕ)). AreFrames 2 (map framed_row rows) rows) (sym (ap (λ d. d.rows) c.put.ensures ∙ ap (λ d. d.rows) c.loop-n.invariant.deck')) (numbered-frames c.args.count)
