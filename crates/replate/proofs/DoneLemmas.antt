-- A site whose plates are all finished: no later row is one of its own.
use Rattle.std.proofs.Common.{◌≡◌, ℕ, zero, suc, ◌+◌, ◌<◌, false, List, length, Some, None, ap, subst, ◌∙◌}
use Rattle.std.proofs.Common.{inr, arith}
use Rattle.std.specs.Prelude.{is_some, slice_get}
use Rattle.std.specs.Option.{option_map}
use Rattle.ring_lanes.specs.declared.source.Source.{Source}
use Rattle.pr_rack.specs.Told.{Tells}
use Rattle.site_agent.specs.Given.{open_in, finished_count, IsNoRow}
use Rattle.site_agent.specs.Job.{SiteJob, IsJob}
use Rattle.site_agent.specs.Stands.{StandsAfter, begun_plate}
use Rattle.site_agent.proofs.Finding.{no-row_all, no-row_finished}
use Rattle.site_agent.proofs.Givens.{given-all}
use Rattle.site_agent.proofs.Opens.{plate_at, closed, closed-cases, finished-below}
use Rattle.site_agent.proofs.Standing.{row_passed}
use Rattle.site_agent.proofs.Steps.{finished-none}

-- if all its plates are finished below row n, no row from n on is one of theirs
none_more : (job : SiteJob) (n : ℕ) → IsJob job → finished_count job n ≡ length job.plates → IsNoRow job n
none_more job n is all = no-row_all job n
    (λ j within. no-row_finished job n j is (omega (arith, within, all)))

-- so after any later row its state is the same as after row n
pub stands_on : (job : SiteJob) (rows : List (List ℕ)) (source : Source) (n k : ℕ) (before now : Tells)
    (counts : List (List ℕ)) → IsJob job → finished_count job n ≡ length job.plates
    → StandsAfter job rows source n before now counts → StandsAfter job rows source (n + k) before now counts
stands_on job rows source n zero before now counts is all stands =
    let e : n ≡ n + 0 = omega arith in
    subst (λ (m : ℕ). StandsAfter job rows source m before now counts) e stands
stands_on job rows source n (suc k) before now counts is all stands =
    let row : IsNoRow job n = none_more job n is all in
    let e : n + 1 + k ≡ n + suc k = omega arith in
    subst (λ (m : ℕ). StandsAfter job rows source m before now counts) e
    (stands_on job rows source (n + 1) k before now counts is (finished-none job n is row ∙ all)
    (row_passed job rows source n before now counts is row stands))

-- in each slot no plate is open
none_open : (job : SiteJob) (n slot : ℕ) → IsJob job → finished_count job n ≡ length job.plates
    → open_in job n slot ≡ None
none_open job n slot is all =
    closed job n slot
    (λ j d within same.
    closed-cases job.height n (plate_at job j d)
    (inr (given-all job.height n (plate_at job j d) (let high : 0 < job.height = is.height.0 in high)
    (finished-below job n j d is (omega (arith, within, all))))))

-- and no slot of its rack is begun
pub none_begun_at : (job : SiteJob) (rows : List (List ℕ)) (source : Source) (n : ℕ) (before now : Tells)
    (counts : List (List ℕ)) → IsJob job → finished_count job n ≡ length job.plates
    → StandsAfter job rows source n before now counts → (slot : ℕ) → slot < 5
    → slice_get now.begun slot ≡ Some false
none_begun_at job rows source n before now counts is all stands slot less =
    stands.rack.begun slot less ∙ ap (λ p. Some (is_some (option_map (begun_plate job rows n) p)))
    (none_open job n slot is all)
