use Rattle.std.proofs.Common.{rules, ap, sym, ◌∙◌}
use Rattle.press_feed.specs.Band.{BandData}
use Rattle.press_feed.proofs.feed.Feed.with_threads.Goals as goal

pub invariant_of-result : goal.invariant_of-result
invariant_of-result c = record {
  plan_is = search rules;
  maker_is = c.in_ok-maker.ensures;
  band_is = ap {A = BandData} (λ b. b.job) c.in_ok-band.ensures;
  wide_is = λ w there. c.in_ok-wide.ensures w there ∙ sym c.in_ok-maker.ensures;
}
