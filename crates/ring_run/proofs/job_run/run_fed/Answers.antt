use Rattle.std.proofs.Common.{◌≡◌, ℕ, List, ◌++◌, length, map, refl, subst, sym, rules, arith}
use Rattle.tif_packbits.specs.Frame.{frame_size, framed_row}
use Rattle.pr_base.specs.Row.{row_size}
use Rattle.pr_rack.specs.Told.{RackTells, told}
use Rattle.plan_json.specs.Data.{PlanData, plate_width}
use Rattle.plan_json.specs.Plan.{IsPlan}
use Rattle.press_job.specs.Rows.{plate_frames}
use Rattle.ring_rule.specs.Views.{ring_of}
use Rattle.ring_run.specs.Fits.{by_ring}
use Rattle.ring_run.specs.Served.{Carries}
use Rattle.site_agent.proofs.Racks.{front_idle}
use Rattle.ring_run.proofs.JobRows.{job_carries, job_leaves, others_stay}
use Rattle.ring_run.proofs.job_run.run_fed.Goals as goal

pub run_rows-requires-clause-carries : goal.run_rows-requires-clause-carries
run_rows-requires-clause-carries g c κs within =
    let is : IsPlan c.args.job.now.plan = subst (λ (p : PlanData). IsPlan p) c.requires.plan c.requires.may.run_is.plan_is in
    let frames : List (List ℕ) = plate_frames c.args.job.now.plan c.args.job.now.files in
    let size : ℕ = frame_size (row_size (plate_width c.args.job.now.plan)) in
    subst (λ (q : PlanData). Carries (by_ring q (map framed_row frames) c.args.run.now.out.now c.args.run.now.readers c.args.run.now.ring) (ring_of c.args.run.now.ring c.args.run.now.readers frames size)) (sym c.requires.plan)
    (job_carries c.args.job.now.plan c.args.job.now.files c.args.run.now.out.now c.args.run.now.readers c.args.run.now.ring size is)

pub run_rows-requires-clause-may : goal.run_rows-requires-clause-may
run_rows-requires-clause-may g c κs within =
    let tell : g.row.R.Denot → RackTells = told g.R.Rack in
    let may = c.requires.may in
    let count : length c.split_at_mut-racks.result.0.now ≡ length c.args.run.now.plan.now.sites = search rules in
    record {
      run_is = may.run_is;
      readers_are = may.readers_are;
      fresh = may.fresh;
      enough = omega (arith, count);
      idle = front_idle tell (length c.args.run.now.plan.now.sites) c.args.racks.now c.split_at_mut-racks.result.0.now c.split_at_mut-racks.result.1.now (search rules) count may.idle;
    }

pub returns : goal.returns
returns g c =
    let tell : g.row.R.Denot → RackTells = told g.R.Rack in
    let own : IsPlan c.args.run.now.plan.now = c.requires.may.run_is.plan_is in
    let is : IsPlan c.args.job.now.plan = subst (λ (p : PlanData). IsPlan p) c.requires.plan own in
    let front = c.split_at_mut-racks.result.0.now in
    let rest = c.split_at_mut-racks.result.1.now in
    let front' = c.run_rows.new.racks in
    let count : length front ≡ length c.args.run.now.plan.now.sites = search rules in
    let split : c.args.racks.now ≡ front ++ rest = search rules in
    record {
      leaves = record {
        told = job_leaves tell c.args.run.now.plan.now c.args.job.now.plan c.args.job.now.files c.args.run.now.out.now c.args.run.now.readers c.args.run.now.ring c.args.keys c.args.racks.now _ front front' rest c.run_rows.result split refl count c.run_rows.auto.racks c.requires.plan
            own c.run_rows.ensures.leaves;
        others = others_stay c.args.run.now.plan.now c.args.job.now.plan c.args.racks.now _ front front' rest split refl count c.run_rows.auto.racks c.requires.plan;
      };
    }
