use Rattle.std.proofs.Common.{List, ℕ, drop, length, ap, ◌∙◌}
use Rattle.ink_keys.specs.Keys.{dots_between}
use Rattle.ink_keys.proofs.Adding.{dots-front}
use Rattle.ink_keys.proofs.counts.unpack_front.Goals as goal

pub returns-clause-dots : goal.returns-clause-dots
returns-clause-dots c = λ from to within.
    dots-front c.unpack.new.row (drop c.row_bytes.result c.args.room.now) c.args.width from to (ap length c.unpack.ensures ∙ c.requires.size) within
    ∙ ap (λ (r : List ℕ). dots_between r from to) c.unpack.ensures
