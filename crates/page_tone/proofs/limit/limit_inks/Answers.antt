-- Each colour's part is its share; together they are at most what black leaves.
use Rattle.std.proofs.Common.{◌+◌, ◌∙◌, refl, slice_index_or, arith}
use Rattle.page_tone.proofs.LimitLemmas.{limited-is, sum-shares}
use Rattle.page_tone.proofs.limit.limit_inks.Goals as goal

pub returns-clause-limited : goal.returns-clause-limited
returns-clause-limited c =
    let cyan = slice_index_or c.args.inks 0 0 in
    let magenta = slice_index_or c.args.inks 1 0 in
    let yellow = slice_index_or c.args.inks 2 0 in
    let black = slice_index_or c.args.inks 3 0 in
    let shares = c.share_of-share.ensures.shares in
    limited-is cyan magenta yellow black c.args.limit c.min-black.result c.min-rest.result c.part.result c.part-2.result c.part-3.result
    c.min-black.ensures c.min-rest.ensures
    (c.part.ensures ∙ shares cyan (omega arith) (omega arith))
    (c.part-2.ensures ∙ shares magenta (omega arith) (omega arith))
    (c.part-3.ensures ∙ shares yellow (omega arith) (omega arith))

pub returns-clause-within : goal.returns-clause-within
returns-clause-within c =
    let cyan = slice_index_or c.args.inks 0 0 in
    let magenta = slice_index_or c.args.inks 1 0 in
    let yellow = slice_index_or c.args.inks 2 0 in
    let rest = c.min-rest.result in
    let shares = c.share_of-share.ensures.shares in
    let first = c.part.ensures ∙ shares cyan (omega arith) (omega arith) in
    let second = c.part-2.ensures ∙ shares magenta (omega arith) (omega arith) in
    let third = c.part-3.ensures ∙ shares yellow (omega arith) (omega arith) in
    let all = sum-shares cyan magenta yellow rest (cyan + magenta + yellow) refl in
    omega (arith, first, second, third, all)
