-- The rows held come next for each chain, which takes them.
use Rattle.std.proofs.Common.{All, ◌+◌, ◌≤◌, List, ◌++◌, length, take, drop, refl, ap, sym, subst, ◌∙◌, arith}
use Rattle.press_feed.specs.HeldRows.{HeldData}
use Rattle.press_feed.specs.InkRows.{InkData, IsNextChain, passed}
use Rattle.press_feed.specs.SideRows.{IsAtGroup, IsMovedTo, SideRowsData, drawns, next_of}
use Rattle.press_feed.proofs.SideRowsLemmas.{drawns-passed, lent, pass_at, pass_ready, sides_same}
use Rattle.press_feed.proofs.side_rows.SideRows.pass_block.Goals as goal

pub pass_all-requires : goal.pass_all-requires
pass_all-requires c =
    let s = c.self.inside in
    let group = c.args.group.now in
    let before : SideRowsData = record { job = s.job.now; side = s.side; held = s.held; inks = s.inks.items } in
    let at : IsAtGroup group (next_of before) before = subst {A = SideRowsData} (λ r. IsAtGroup group (next_of r) r) (sym c.self.view_is) c.requires.at in
    let within : next_of before + 8 ≤ s.job.now.plan.page_height = subst {A = SideRowsData} (λ r. next_of r + 8 ≤ r.job.plan.page_height) (sym c.self.view_is) c.requires.within in
    subst {A = List InkData} (λ inks. All (IsNextChain group c.show.new.self) inks) (sym c.deref_mut.ensures.value)
    (pass_ready group s.job.now s.side 8 s.held c.show.new.self s.inks.items c.show.ensures at.chains c.self.invariant.job_is c.self.invariant.each (omega arith) within (λ less. absurd (omega arith)))

pub invariant_of-self : goal.invariant_of-self
invariant_of-self c =
    let s = c.self.inside in
    let group = c.args.group.now in
    let inks = lent (passed group) c.deref_mut.result.now s.inks.items c.pass_all.new.inks s.inks.len c.deref_mut.ensures.value c.pass_all.ensures (omega arith) in
    record {
      job_is = ap {A = HeldData} (λ h. h.job) c.show.ensures ∙ c.self.invariant.job_is;
      each = sides_same s.job.now s.side s.inks.items _ (ap drawns inks ∙ drawns-passed group s.inks.items) c.self.invariant.each;
    }

pub returns : goal.returns
returns c =
    let s = c.self.inside in
    let group = c.args.group.now in
    let new = c.pass_all.new.inks in
    let inks = lent (passed group) c.deref_mut.result.now s.inks.items new s.inks.len c.deref_mut.ensures.value c.pass_all.ensures (omega arith) in
    let before : SideRowsData = record { job = s.job.now; side = s.side; held = s.held; inks = s.inks.items } in
    let after : SideRowsData = record before { held = c.show.new.self; inks = take s.inks.len (new ++ drop (length new) s.inks.items) } in
    subst {A = SideRowsData} (λ r. IsAtGroup group (next_of r) r → IsMovedTo group (next_of r + 8) r after) c.self.view_is (pass_at group before after c.show.ensures (record { job_is = refl; side_is = refl }) inks) c.requires.at
