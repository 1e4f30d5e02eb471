use Rattle.std.proofs.Common.{sym, ◌∙◌}
use Rattle.std.specs.Str.{bytes_eq}
use Rattle.std.proofs.lemmas.Iterator.Adapters.{position_from-zero}
use Rattle.plan_parts.proofs.Places.{position_from-map}
use Rattle.plan_parts.proofs.names.index_of.Goals as goal

pub returns-clause-value : goal.returns-clause-value
returns-clause-value g c =
    c.index_by.ensures.value ∙ position_from-zero (λ item. bytes_eq (g.T.Named.named item) c.args.name.now) c.args.items.now
    ∙ sym (position_from-map (λ n. bytes_eq n c.args.name.now) g.T.Named.named 0 c.args.items.now)
