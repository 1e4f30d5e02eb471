-- A site partway through a run over all rows.
use Rattle.std.specs.Prelude.{◌≡◌, ℕ, false, List, All, length}
use Rattle.ring_lanes.specs.declared.source.Source.{Source}
use Rattle.pr_base.specs.Row.{row_size}
use Rattle.pr_rack.specs.Told.{Tells}
use Rattle.site_agent.specs.Site.{SiteData}
use Rattle.site_agent.specs.Stands.{StandsAfter}

-- in a run over these rows, taken from this source, the site has processed the rows below its next one; its
-- rack showed `before` at the start and shows `now`
pub record IsGoing (rows : List (List ℕ)) (source : Source) (before now : Tells) (site : SiteData)
    : Type 0 where
  pub on : site.ended ≡ false
  pub total : length rows ≡ site.job.total
  pub sides : All (λ row. length row ≡ row_size site.job.width) rows
  pub stands : StandsAfter site.job rows source site.next before now site.counts
