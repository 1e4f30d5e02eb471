use Rattle.std.proofs.Common.{◌∙◌}
use Rattle.site_agent.proofs.Steps.{kept-by_place}
use Rattle.site_agent.proofs.site.Site.keeps_next.Goals as goal

pub returns : goal.returns
returns c = c.is_some.ensures ∙ kept-by_place c.args.self.now.job c.args.self.now.next c.place.result c.place.ensures.found c.place.ensures.none
