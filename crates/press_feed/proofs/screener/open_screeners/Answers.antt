use Rattle.std.proofs.Common.{List, get_or, sym, subst, arith}
use Rattle.std.proofs.lemmas.List.{get_or_default}
use Rattle.pr_base.specs.Ink.{all_inks}
use Rattle.press_feed.specs.declared.screener.Screener.{Screener}
use Rattle.press_feed.specs.Screener.{IsScreener}
use Rattle.press_feed.proofs.ScreenerLemmas.{screeners_more, screeners_all}
use Rattle.press_feed.proofs.screener.open_screeners.Goals as goal

pub loop-ink-preserved : goal.loop-ink-preserved
loop-ink-preserved c =
    let items = c.in_ok-push.ensures.items in
    let old = c.loop-ink.screeners.items in
    let new = c.in_ok-of.field-0 in
    let i = c.loop-ink.ink-index in
    record {
      long = omega (arith, c.in_ok-push.ensures.len);
      each = λ k e d less. subst {A = List Screener} (λ all. IsScreener c.args.plan.now (get_or all_inks k e) (get_or all k d)) (sym items)
          (screeners_more c.args.plan.now all_inks old new i _ (omega arith) (omega arith) (get_or_default all_inks i _ _ (omega arith)) c.loop-ink.invariant.each c.in_ok-of.ensures k e d less);
    }

pub returns : goal.returns
returns c = screeners_all c.args.plan.now c.loop-ink.screeners.items (omega arith) (λ k e d less. c.loop-ink.invariant.each k e d (omega arith))
