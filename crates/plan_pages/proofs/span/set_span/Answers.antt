use Rattle.std.proofs.Common.{◌+◌, ◌-◌, ◌/◌, ◌%◌, ◌^◌, ◌||◌, refl}
use Rattle.plan_pages.specs.Span.{in_span, in_byte, in_bytes}
use Rattle.plan_pages.proofs.SpanLemmas.{adds_join, adds_same, span_of_one, span_of_more}
use Rattle.plan_pages.proofs.span.set_span.Goals as goal

pub returns-then-first-last : goal.returns-then-first-last
returns-then-first-last c =
    adds_same _ (in_span c.args.from c.args.to) _ _ c.set_in_byte.ensures
    (λ x. span_of_one c.args.from c.args.to x c.requires.some c.if-first-last.true)

pub returns-else-first-last : goal.returns-else-first-last
returns-else-first-last c =
    adds_join _ _ (in_span c.args.from c.args.to) _ _ _
    (adds_join _ _ (λ x. in_byte (c.args.from / 8) (255 / 2 ^ (c.args.from % 8)) x || in_bytes (c.args.from / 8 + 1) ((c.args.to - 1) / 8) x) _ _ _
    c.set_in_byte-else-first-last.ensures c.set_bytes.ensures (λ x. refl))
    c.set_in_byte-else-first-last-2.ensures
    (λ x. span_of_more c.args.from c.args.to x c.requires.some c.if-first-last.false)
