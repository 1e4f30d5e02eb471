-- One more row is drawn, of those that the chain took.
use Rattle.std.proofs.Common.{◌+◌, ◌-◌, ◌<◌, length, sym, subst, arith}
use Rattle.press_job.specs.Job.{JobData}
use Rattle.press_feed.specs.Drawn.{DrawnData, HasTaken}
use Rattle.press_feed.proofs.ChainLemmas.{chain_drawn, chain_row}
use Rattle.press_feed.proofs.DrawnLemmas.{drawn_more}
use Rattle.press_feed.proofs.drawn_rows.DrawnRows.diffuse_row.Goals as goal

pub diffuse_page-requires-clause-within : goal.diffuse_page-requires-clause-within
diffuse_page-requires-clause-within c =
    subst {A = JobData} (λ job. c.args.chain.now.count - 8 + c.args.k < job.plan.page_height) (sym c.requires.taken.job_is)
    (omega (arith, chain_row c.args.self.now c.args.k c.args.chain.now c.requires.taken, c.requires.within))

pub invariant_of-self : goal.invariant_of-self
invariant_of-self c =
    let d = c.self.inside in
    let e = c.self.view_is in
    let from = c.bit_of-from.result in
    let old = c.index_mut.result.now in
    let new = c.diffuse_page.new.self in
    let own : DrawnData = record { job = d.job.now; side = d.side; ink = d.ink; page = d.page; first = d.first; count = d.count; room = length d.rows.items } in
    let took : HasTaken own c.args.k c.args.chain.now = subst {A = DrawnData} (λ r. HasTaken r c.args.k c.args.chain.now) (sym e) c.requires.taken in
    drawn_more d.job.now d.side d.page d.ink d.first d.count from d.rows.items old new c.self.invariant (subst {A = DrawnData} (λ r. r.count < r.room) (sym e) c.requires.room) c.index_mut.ensures.value c.bit_of-from.ensures
    c.diffuse_page.ensures.long (chain_drawn own c.args.k from c.args.chain.now old new took c.diffuse_page.ensures.bits)
