-- The row's numbers and errors are the defined ones.
use Rattle.std.proofs.Common.{◌≡◌, ℕ, ◌+◌, ◌<◌, ℤ, pos, List, ◌++◌, length, take, drop, ap, subst, ◌∙◌, arith}
use Rattle.std.proofs.lemmas.List.{get_or-take, length-append, length-drop, length-take}
use Rattle.pr_base.specs.Bits.{SetsBits}
use Rattle.scr_diffuse.specs.Diffusion.{prints, v_below}
use Rattle.scr_diffuse.specs.Passes.{errors_in, number_at}
use Rattle.pr_base.proofs.BitLemmas.{SetsBits_same}
use Rattle.scr_diffuse.proofs.RowLemmas.{row_numbers, row_rest, kept_are}
use Rattle.scr_diffuse.proofs.row.diffuse_row.Goals.{After-keep_errors}
use Rattle.scr_diffuse.proofs.row.diffuse_row.Goals as goal

size : (c : After-keep_errors) → length c.add_above.new.errors ≡ length c.args.values.now + 2
size c = omega arith

count : (c : After-keep_errors) → length c.add_left.new.sums ≡ length c.args.values.now
count c = omega (arith, length-take (length c.args.values.now) c.add_above.new.errors, size c)

-- the row's numbers, with what is behind them
abbrev list : After-keep_errors → List ℤ
list c = c.add_left.new.sums ++ drop (length c.args.values.now) c.add_above.new.errors

made : (c : After-keep_errors) → (x : ℕ) → x < length c.args.values.now
    → number_at (list c) x ≡ v_below (errors_in c.args.errors.now) c.args.values.now x
made c = row_numbers c.args.values.now c.args.errors.now c.add_above.new.errors c.add_left.new.sums c.requires.left (count c) (size c) c.add_above.ensures.sums c.add_left.ensures.numbers

pub returns-clause-bits : goal.returns-clause-bits
returns-clause-bits c =
    let at = (goal.at.returns-clause-bits c).After-keep_errors in
    let width = length c.args.values.now in
    let numbers : List ℤ = take width (c.add_left.new.sums ++ drop width c.add_above.new.errors) in
    let whole : length numbers ≡ width =
    omega (arith, length-take width (list at), length-append c.add_left.new.sums (drop width c.add_above.new.errors), count at, size at) in
    let set : SetsBits (λ x. prints (number_at numbers x)) c.args.from width c.args.bits.now c.set_row.new.bits =
    subst (λ (n : ℕ). SetsBits (λ x. prints (number_at numbers x)) c.args.from n c.args.bits.now c.set_row.new.bits) whole c.set_row.ensures in
    SetsBits_same _ _ c.args.from width _ _ (λ x within. ap prints (get_or-take width (list at) x (pos 0) within ∙ made at x within)) set

pub returns-clause-errors : goal.returns-clause-errors
returns-clause-errors c =
    let at = (goal.at.returns-clause-errors c).After-keep_errors in
    let width = length c.args.values.now in
    let sums : List ℤ = c.add_above.new.errors in
    let whole : length (list at) ≡ width + 2 = omega (arith, length-append c.add_left.new.sums (drop width sums), length-drop width sums, count at, size at) in
    let rest : number_at sums (width + 1) ≡ pos 0 = c.add_above.ensures.rest (width + 1) (omega arith) ∙ c.requires.right in
    kept_are (errors_in c.args.errors.now) c.args.values.now (list at) c.keep_errors.new.numbers whole (omega arith) (made at)
    (row_rest c.args.values.now sums c.add_left.new.sums (count at) rest) c.keep_errors.ensures.margin c.keep_errors.ensures.errors c.keep_errors.ensures.last
