use Rattle.std.proofs.Common.{sym, ◌∙◌, Bor, List, ℕ}
use Rattle.std.specs.Str.{bytes_eq}
use Rattle.plan_parts.proofs.Places.{list_any-map}
use Rattle.plan_parts.proofs.object.is_among.Goals as goal

pub returns : goal.returns
returns c = c.is_any.ensures ∙ sym (list_any-map (bytes_eq c.args.key.now) (λ (k : Bor (List ℕ)). k.now) c.args.keys.now)
