-- The writer fills the readers' lanes in order.
use Rattle.std.proofs.Common.{◌≡◌, ◌≢◌, ℕ, ◌<◌, ◌≤◌, true, false, List, Bool, length, get_or, sym, subst, arith}
use Rattle.std.specs.Prelude.{Some}
use Rattle.ring_rule.specs.Views.{left_word}
use Rattle.ring_rule.specs.Marks.{WriterMark}
use Rattle.ring_rule.specs.Plays.{MayFill}
use Rattle.ring_rule.proofs.Numbers.{cursor_some}
use Rattle.ring_lanes.specs.Writer.{MayFillAll, cursor_known}

-- only the filled flags differ
abbrev pub with_filled : WriterMark → List Bool → WriterMark
with_filled m filled = record m { view = record m.view { filled = filled } }

-- among the first n readers, the lanes of those that have not left are filled; no later lane is filled
pub record FilledUpTo (before after : WriterMark) (n : ℕ) : Type 0 where
  pub same : after ≡ with_filled before after.view.filled
  pub count : length after.view.filled ≡ length before.view.filled
  pub filled : (r k : ℕ) → r < n → cursor_known before.view.known r ≡ Some k → get_or after.view.filled r false ≡ true
  pub rest : (r : ℕ) → n ≤ r → get_or after.view.filled r false ≡ false

-- the lane of a reader that has not left may be filled next
pub may_fill : (b a : WriterMark) (r : ℕ) → MayFillAll b.view → FilledUpTo b a r → r < b.view.ring.readers → get_or b.view.known r 0 ≢ left_word → MayFill a.view r
may_fill b a r may f l joined =
    let P : WriterMark → Type 0 = λ m. MayFill m.view r in
    let unfilled = f.rest r (omega arith) in
    let word = get_or b.view.known r 0 in
    let is : cursor_known b.view.known r ≡ Some word = cursor_some word joined in
    subst P (sym f.same) record { in_range = l; row = may.row; room = (word, is, may.room r word l is); unfilled = unfilled }
