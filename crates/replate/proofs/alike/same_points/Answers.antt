use Rattle.std.proofs.lemmas.Bool.Decides.{Decides-at}
use Rattle.std.specs.Cmp.Lexicographic.{pointwise_decides}
use Rattle.plan_rows.proofs.SitesOf.{pair_decides}
use Rattle.replate.proofs.alike.same_points.Goals as goal

pub returns : goal.returns
returns c = Decides-at c.eq.result _ c.eq.ensures (pointwise_decides pair_decides c.args.before.now c.args.after.now)
