use Rattle.std.proofs.Common.{All, ◌≡◌, ◌<◌, ◌≤◌, ℕ, List, length, get_or, ap, sym, subst, ◌∙◌, arith}
use Rattle.std.specs.Option.{ForSome}
use Rattle.std.proofs.lemmas.List.{with_items_is}
use Rattle.press_feed.specs.SideBand.{AreRowsFor, AreRowsOf, IsKept, IsPartOf, SideBandData}
use Rattle.press_feed.specs.SideRows.{SideRowsData}
use Rattle.press_feed.proofs.SideBandLemmas.{parts_kept, rows_for_each}
use Rattle.press_feed.proofs.side_band.SideBand.step.Goals as goal

pub step_parts-requires-clause-next : goal.step_parts-requires-clause-next
step_parts-requires-clause-next g c κs within =
    let b = c.self.inside in
    let next : ForSome c.args.next (AreRowsOf b.job.now b.height) = subst {A = SideBandData} (λ v. ForSome c.args.next (AreRowsOf v.job v.height)) (sym c.self.view_is) c.requires.next in
    subst {A = List SideRowsData} (λ parts. (k : ℕ) (d : SideRowsData) → k < length parts → ForSome c.args.next (AreRowsFor (get_or parts k d))) (sym c.deref_mut.ensures.value)
    (rows_for_each b.job.now b.height b.parts.items c.args.next c.self.invariant.parts_are next)

pub invariant_of-self : goal.invariant_of-self
invariant_of-self g c =
    let b = c.self.inside in
    let is = c.self.invariant in
    let new = c.step_parts.new.parts in
    let value = c.deref_mut.ensures.value in
    let long : length new ≡ length b.parts.items = c.step_parts.auto.parts ∙ ap {A = List SideRowsData} length value in
    let kept = subst {A = List SideRowsData} (λ old. (k : ℕ) (d : SideRowsData) → k < length old → IsKept (get_or old k d) (get_or new k d)) value c.step_parts.ensures in
    let same = with_items_is b.parts new (omega (arith, long)) in
    record {
      some_threads = is.some_threads;
      some = is.some;
      few = subst {A = List SideRowsData} (λ parts. length parts ≤ 65536) (sym same) (omega (arith, long, is.few));
      blocks = is.blocks;
      parts_are = subst {A = List SideRowsData} (All (IsPartOf b.job.now b.height)) (sym same) (parts_kept b.job.now b.height b.parts.items new is.parts_are long kept);
      drawn_are = is.drawn_are;
    }
