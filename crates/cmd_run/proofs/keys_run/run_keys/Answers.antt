use Rattle.std.proofs.Common.{◌≡◌, ◌+◌, ℕ, Option, Some, length, map, ap, refl, subst, sym, ◌∙◌, rules, arith}
use Rattle.plan_json.specs.Data.{PlanData, plate_width}
use Rattle.plan_json.specs.Plan.{IsPlan}
use Rattle.plan_rows.specs.Rows.{rows_of}
use Rattle.pr_rack.specs.Told.{RackTells, all_told, told}
use Rattle.press_job.specs.Rows.{plate_rows}
use Rattle.ink_keys.specs.Counts.{CountsData}
use Rattle.ink_keys.specs.Turn.{KeyReaderData}
use Rattle.site_agent.specs.Racks.{AreIdle}
use Rattle.ring_run.specs.Fits.{RunFits, RunPart, by_job}
use Rattle.ring_run.specs.Keyed.{CountsFit, IsFreshKey, KeysFit}
use Rattle.ring_run.proofs.Keys.{fresh_key}
use Rattle.site_agent.proofs.Results.{on_err}
use Rattle.ring_run.proofs.Running.{none_part}
use Rattle.cmd_run.proofs.keys_run.run_keys.Goals as goal

pub returns-in_err-counts-clause-part : goal.returns-in_err-counts-clause-part
returns-in_err-counts-clause-part g c = on_err c.from_residual.result _ (none_part _ _)

pub run_all-requires-clause-may : goal.run_all-requires-clause-may
run_all-requires-clause-may g c κs within =
    let plan = c.args.job.now.plan in
    let same = sym c.plan-plan.ensures.plan in
    let least = c.requires.patience.least in
    let enough = c.requires.racks in
    let sites : length plan.sites ≡ length c.plan-plan.result.now.sites = ap (λ (p : PlanData). length p.sites) same in
    let readers : c.len.result ≡ length c.plan-plan.result.now.sites = search rules in
    let width : c.shape.result.width ≡ plate_width plan = search rules in
    let key : KeyReaderData = record { rows = c.rows-rows.result.now; counts = c.in_ok-counts.counts } in
    let fresh = (fresh_key plan c.rows-rows.result.now c.shape.result.width c.args.keys c.in_ok-counts.counts key refl c.rows-rows.ensures c.in_ok-counts.ensures.zero width) in
    record {
      run_is = record {
        plan_is = subst {A = PlanData} IsPlan same c.plan-plan.ensures.valid;
        rows_are = c.rows-rows.ensures ∙ ap rows_of same;
        places = c.requires.ring;
        some = omega arith;
      };
      readers_are = omega (arith, readers);
      fresh = subst (λ (k : KeyReaderData). IsFreshKey c.plan-plan.result.now k) (sym c.new-reader.ensures) (subst (λ (p : PlanData). IsFreshKey p key) same fresh);
      enough = omega (arith, sites, enough);
      idle = subst (λ (p : PlanData). AreIdle (length p.sites) (all_told g.R.Rack c.args.racks.now)) same c.requires.idle;
    }

pub returns-in_err-outcome-clause-part : goal.returns-in_err-outcome-clause-part
returns-in_err-outcome-clause-part g c =
    let tell : g.row.R.Denot → RackTells = told g.R.Rack in
    let job = c.args.job.now in
    let readers : c.len.result ≡ length job.plan.sites = search rules in
    on_err c.from_residual-in_err-outcome.result _
    (subst (λ (n : ℕ). RunPart (by_job job c.args.out.now (n + 1) c.args.ring) (map tell c.args.racks.now) (map tell c.run_all.new.racks)) readers c.in_err-outcome.ensures.leaves.told.part)

pub returns-in_err-outcome-clause-counts : goal.returns-in_err-outcome-clause-counts
returns-in_err-outcome-clause-counts g c = c.in_err-outcome.ensures.leaves.told.counts

pub returns-clause-keys : goal.returns-clause-keys
returns-clause-keys g c =
    let plan = c.args.job.now.plan in
    let rows = plate_rows plan c.args.job.now.files in
    let key : KeyReaderData = record { rows = c.rows-rows.result.now; counts = c.in_ok-counts.counts } in
    let fit : CountsFit plan rows (Some key) c.in_ok-outcome.counts = subst (λ (k : KeyReaderData). CountsFit plan rows (Some k) c.in_ok-outcome.counts) c.new-reader.ensures c.in_ok-outcome.ensures.leaves.told.counts_fit in
    subst (λ (n : ℕ). KeysFit plan rows n c.in-Some.counts) (ap (λ (x : CountsData). x.keys) c.in_ok-counts.ensures.zero)
    (subst (λ (o : Option CountsData). CountsFit plan rows (Some key) o) c.in-Some.is fit)

pub returns-clause-fits : goal.returns-clause-fits
returns-clause-fits g c =
    let tell : g.row.R.Denot → RackTells = told g.R.Rack in
    let job = c.args.job.now in
    let readers : c.len.result ≡ length job.plan.sites = search rules in
    subst (λ (n : ℕ). RunFits (by_job job c.args.out.now (n + 1) c.args.ring) (map tell c.args.racks.now) (map tell c.run_all.new.racks) c.in_ok-outcome.outcome.sites.items) readers c.in_ok-outcome.ensures.leaves.told.fits

pub returns-clause-counts : goal.returns-clause-counts
returns-clause-counts g c = c.in_ok-outcome.ensures.leaves.told.counts
