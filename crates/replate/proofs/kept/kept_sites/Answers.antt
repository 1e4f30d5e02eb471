use Rattle.std.proofs.Common.{◌≡◌, length, length-set, ◌∙◌, arith}
use Rattle.replate.proofs.KeptLemmas.{row_more}
use Rattle.replate.proofs.kept.kept_sites.Goals as goal

pub loop-site-preserved : goal.loop-site-preserved
loop-site-preserved c =
    let few = c.requires.few in
    let low = c.loop-site-test.true in
    let long : length c.loop-site.row ≡ 16 = c.loop-site.invariant.long in
    record {
      long = length-set c.loop-site.row c.loop-site.site c.is_kept.result ∙ long;
      kept = row_more c.args.jobs.now.before.now c.args.jobs.now.after.now c.args.group.now c.loop-site.site c.loop-site.row c.is_kept.result
          (omega arith) c.is_kept.ensures.found c.is_kept.ensures.each c.loop-site.invariant.kept;
    }
