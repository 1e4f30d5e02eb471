-- The pixels of a row that was taken are those of the page.
use Rattle.std.proofs.Common.{◌≡◌, ℕ, ◌+◌, ◌-◌, ◌<◌, ◌≤◌, true, length, ap, sym, subst, arith}
use Rattle.pr_base.specs.Bits.{SetsBits}
use Rattle.press_job.specs.Printing.{page_bit}
use Rattle.press_feed.specs.ChainRows.{ChainData}
use Rattle.press_feed.specs.Screener.{is_diffused}
use Rattle.press_feed.proofs.ChainLemmas.{chain_sets}
use Rattle.press_feed.proofs.chain.Chain.draw.Goals as goal

pub returns : goal.returns
returns c =
    let chain = c.self.inside in
    let e = c.self.view_is in
    let k = c.args.k in
    let rows = chain.diffuser.rows in
    let taken : 8 ≤ chain.count = subst {A = ChainData} (λ d. 8 ≤ d.count) (sym e) c.requires.taken in
    subst {A = ChainData} (λ d. SetsBits (λ x. page_bit d.job.plan d.job.files d.page d.ink x (d.count - 8 + k)) c.args.from d.job.plan.page_width c.args.bits.now c.draw.new.bits) e
    (chain_sets chain.job.now chain.page chain.ink chain.count (chain.count - 8 + k) (length rows - 8 + k) c.args.from chain.diffuser c.args.bits.now c.draw.new.bits c.self.invariant.ahead
    (subst {A = ChainData} (λ d. is_diffused d.job.plan d.ink ≡ true) (sym e) c.requires.diffused) (omega (arith, c.requires.eight))
    (subst {A = ChainData} (λ d. d.count - 8 + k < d.job.plan.page_height) (sym e) c.requires.within) (ap {A = ℕ} (λ n. n - 8 + k) c.self.invariant.ahead.count_is) c.draw.ensures)
