use Rattle.std.proofs.Common.{◌++◌, ◌∙◌, List, ℕ, codes, ap}
use Rattle.cmd_run.specs.Keys.{count_text}
use Rattle.cmd_run.proofs.Keying.{pieces_all, pieces_more}
use Rattle.cmd_run.proofs.keys.key_line.Goals as goal

pub loop-count-preserved : goal.loop-count-preserved
loop-count-preserved c =
    pieces_more count_text c.args.counts.now _ c.loop-count.count-index _ _ _ _ c.loop-count-test.true c.loop-count.invariant
    c.in_ok-push_str.ensures.bytes (c.as_str.ensures.value ∙ c.in_ok-format.ensures.ok)

pub returns : goal.returns
returns c =
    c.in_ok-push_str-2.ensures.bytes
    ∙ ap (λ (l : List ℕ). l ++ codes "\n") (pieces_all count_text c.args.counts.now _ c.loop-count.count-index _ c.loop-count-test.false c.loop-count.invariant)
