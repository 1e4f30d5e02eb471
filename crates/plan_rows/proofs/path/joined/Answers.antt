use Rattle.std.proofs.Common.{◌≡◌, ◌∙◌, ◌++◌}
use Rattle.std.specs.Prelude.{codes, string_bytes}
use Rattle.plan_rows.specs.Paths.{path_text}
use Rattle.plan_rows.proofs.PathLemmas.{if_ok, joined_are}
use Rattle.plan_rows.proofs.path.joined.Goals as goal

pub returns : goal.returns
returns c =
    if_ok c.format.result _ (λ text. string_bytes text ≡ path_text c.args.out.now c.args.site.now (c.args.edition.now ++ codes "-" ++ c.args.name.now ++ codes ".tif")) c.format.ensures.ok
    (λ text h. h ∙ joined_are c.args.out.now c.args.site.now c.args.edition.now c.args.name.now)
