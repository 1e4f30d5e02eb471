use Rattle.pr_ports.proofs.Rests.{rest_compared}
use Rattle.pr_ports.proofs.comparing.compare_long.Goals as goal

pub returns-in-Ok-left-clause-compared : goal.returns-in-Ok-left-clause-compared
returns-in-Ok-left-clause-compared g c =
    rest_compared (g.F.OffsetRead.whole c.args.file.now) c.args.bytes.now c.in-Ok-left.left.items c.deref.result.now c.compare_wide-alike.result _ c.difference_behind.result
    c.compare_wide-alike.ensures.within c.compare_wide-alike.ensures.front (rw (c.new-rest.ensures, c.new.ensures.items) at c.in-Ok-left.ensures.whole) c.deref.ensures.value c.difference_behind.ensures
