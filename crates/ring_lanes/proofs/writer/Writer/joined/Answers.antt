use Rattle.std.proofs.Common.{◌≡◌, ℕ, Iter, length, ap, arith}
use Rattle.ring_lanes.proofs.writer.Writer.joined.Goals as goal

pub overflow_cast-result : goal.overflow_cast-result
overflow_cast-result g c =
    let source : length c.filter.result.iter.rest.now ≡ length c.iter.result.rest.now = ap (λ (i : Iter ℕ). length i.rest.now) c.filter.ensures.source in
    let items : length c.deref.result.now ≡ length c.self.inside.known.items = ap {B = ℕ} length c.deref.ensures.value in
    omega (arith, source, items, c.count.ensures.bound, c.iter.ensures.len, c.self.invariant.known_in, c.self.invariant.numbers.few_readers)
