use Rattle.std.proofs.Common.{◌∙◌, ap}
use Rattle.std.proofs.lemmas.List.{take_all}
use Rattle.plan_json.specs.Files.{texts}
use Rattle.plan_json.proofs.Mentions.{text-more}
use Rattle.plan_json.proofs.files.copies.Goals as goal

pub loop-name-preserved : goal.loop-name-preserved
loop-name-preserved c =
    c.in_ok-push.ensures.items ∙ text-more c.args.names.now _ c.loop-name.name-index _ _ c.loop-name-test.true c.loop-name.invariant c.in_ok-one.ensures

pub returns : goal.returns
returns c = c.loop-name.invariant ∙ ap texts (take_all c.loop-name.name-index c.args.names.now c.loop-name-test.false)
