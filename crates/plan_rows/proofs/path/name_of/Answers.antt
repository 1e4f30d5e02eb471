use Rattle.std.proofs.Common.{◌≡◌, ◌∙◌}
use Rattle.std.specs.Prelude.{string_bytes}
use Rattle.plan_rows.specs.Paths.{plate_text}
use Rattle.plan_rows.proofs.PathLemmas.{if_ok, parts_are}
use Rattle.plan_rows.proofs.path.name_of.Goals as goal

pub returns : goal.returns
returns c =
    if_ok c.format.result _ (λ text. string_bytes text ≡ plate_text c.args.section.now c.args.pair c.args.letter.now) c.format.ensures.ok
    (λ text h. h ∙ parts_are c.args.section.now c.args.letter.now c.args.pair)
