-- The page is at its top, and so is each chain.
use Rattle.std.proofs.Common.{◌++◌, length, take, drop, refl, ap, subst, ◌∙◌, arith}
use Rattle.press_feed.specs.HeldRows.{HeldData}
use Rattle.press_feed.specs.InkRows.{restarted}
use Rattle.press_feed.specs.SideRows.{IsMovedTo, SideRowsData, drawns}
use Rattle.press_feed.proofs.SideRowsLemmas.{drawns-restarted, lent, restart_at, sides_same}
use Rattle.press_feed.proofs.side_rows.SideRows.restart.Goals as goal

pub invariant_of-self : goal.invariant_of-self
invariant_of-self c =
    let s = c.self.inside in
    let group = c.args.group.now in
    let page = c.page_of-page.result in
    let inks = lent (restarted group page) c.deref_mut.result.now s.inks.items c.restart_all.new.inks s.inks.len c.deref_mut.ensures.value c.restart_all.ensures (omega arith) in
    record {
      job_is = ap {A = HeldData} (λ h. h.job) c.begin.ensures ∙ c.self.invariant.job_is;
      each = sides_same s.job.now s.side s.inks.items _ (ap drawns inks ∙ drawns-restarted group page s.inks.items) c.self.invariant.each;
    }

pub returns : goal.returns
returns c =
    let s = c.self.inside in
    let new = c.restart_all.new.inks in
    let inks = lent (restarted c.args.group.now c.page_of-page.result) c.deref_mut.result.now s.inks.items new s.inks.len c.deref_mut.ensures.value c.restart_all.ensures (omega arith) in
    let before : SideRowsData = record { job = s.job.now; side = s.side; held = s.held; inks = s.inks.items } in
    let after : SideRowsData = record before { held = c.begin.new.self; inks = take s.inks.len (new ++ drop (length new) s.inks.items) } in
    subst {A = SideRowsData} (λ r. IsMovedTo c.args.group.now 0 r after) c.self.view_is
    (restart_at c.args.group.now c.page_of-page.result before after c.page_of-page.ensures c.begin.ensures (record { job_is = refl; side_is = refl }) inks)
