use Rattle.std.proofs.Common.{◌≡◌, ◌<◌, false, sym, subst}
use Rattle.site_agent.specs.Given.{is_kept}
use Rattle.site_agent.specs.Site.{SiteData, job_with}
use Rattle.site_agent.proofs.Counting.{counts-past}
use Rattle.site_agent.proofs.Steps.{is_kept-not}
use Rattle.site_agent.proofs.site.Site.pass.Goals as goal

pub invariant_of-self : goal.invariant_of-self
invariant_of-self c =
    λ open'. counts-past (job_with c.self.inside.plates.items c.self.inside.sides c.self.inside.total) c.self.inside.next c.self.inside.finished c.self.inside.slots.items (c.self.invariant open')
    (is_kept-not _ c.self.inside.next (subst (λ (s : SiteData). is_kept s.job s.next ≡ false) (sym c.self.view_is) c.requires.other))
    (subst (λ (s : SiteData). s.next < s.job.total) (sym c.self.view_is) c.requires.within)
