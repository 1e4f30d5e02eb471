use Rattle.std.proofs.Common.{refl, ap, ◌∙◌, inl, rules}
use Rattle.cmd_one.specs.OneFile.{named, too_long}
use Rattle.cmd_one.proofs.one.print_one.Goals as goal

pub returns-in-Err-TooLong-clause-told : goal.returns-in-Err-TooLong-clause-told
returns-in-Err-TooLong-clause-told g c =
    let same : _ = ap (λ name. named name too_long) c.in_ok-name.ensures in
    ((refl, (too_long, c.too_long.ensures ∙ same, inl (refl, search rules, search rules))), record { given = refl; faults = refl })
