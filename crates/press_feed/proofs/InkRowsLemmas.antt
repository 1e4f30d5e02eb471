-- How an ink is screened, while its rows are drawn.
use Rattle.std.proofs.Common.{◌≡◌, sym, ◌∙◌, subst}
use Rattle.pr_base.specs.declared.ink.Ink.{Ink}
use Rattle.press_job.specs.Job.{JobData}
use Rattle.press_feed.specs.Drawn.{DrawnData}
use Rattle.press_feed.specs.InkRows.{IsInkRows, screener_of}
use Rattle.press_feed.specs.Screener.{IsScreener}
use Rattle.press_feed.specs.declared.drawer.Drawer.{Drawer}

-- other rows of the same job and ink
pub ink_kept : (drawer : Drawer) (old new : DrawnData) → IsInkRows drawer old → new.job ≡ old.job → new.ink ≡ old.ink → IsInkRows drawer new
ink_kept drawer old new is job_is ink_is = record {
  screens = subst {A = JobData} (λ job. IsScreener job.plan new.ink (screener_of drawer)) (sym job_is) (subst {A = Ink} (λ ink. IsScreener old.job.plan ink (screener_of drawer)) (sym ink_is) is.screens);
  job_is = λ chain there. is.job_is chain there ∙ sym job_is;
  ink_is = λ chain there. is.ink_is chain there ∙ sym ink_is;
}
