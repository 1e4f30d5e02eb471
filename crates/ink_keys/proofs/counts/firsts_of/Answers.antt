use Rattle.std.proofs.Common.{◌++◌, ◌∷◌, [], map, ap, sym, ◌∙◌, arith}
use Rattle.std.specs.List.{range_with_len}
use Rattle.std.proofs.lemmas.List.FromFn.{map-range_with_len_more}
use Rattle.ink_keys.specs.Keys.{first_column}
use Rattle.ink_keys.proofs.counts.firsts_of.Goals as goal

pub loop-k-preserved : goal.loop-k-preserved
loop-k-preserved c =
    c.in_ok-push.ensures.items ∙ ap (λ xs. xs ++ c.first_of.result ∷ []) c.loop-k.invariant
    ∙ ap (λ x. map (first_column c.args.width c.args.keys) (range_with_len 0 c.loop-k.k) ++ x ∷ []) c.first_of.ensures
    ∙ sym (map-range_with_len_more (first_column c.args.width c.args.keys) 0 c.loop-k.k c.loop-k.k (omega arith))
