-- For the tests: the rows that the writer publishes.
use Rattle.std.proofs.Common.{◌≡◌, ℕ, ◌<◌, [], length, ap, ◌∙◌, arith}
use Rattle.std.specs.Prelude.{Some, slice_get}
use Rattle.std.proofs.lemmas.Option.{slice_get-get_or}
use Rattle.ring_tests.specs.Numbered.{numbered_row, numbered_rows}
use Rattle.ring_tests.proofs.Rows.{rows_count, rows_at}
use Rattle.ring_lanes.specs.Writer.{WriterState}
use Rattle.ring_tests.specs.Numbered.{IsFeeding}

pub all_rows : (total head : ℕ) (w : WriterState) → IsFeeding total head w → w.ring.total ≡ total
all_rows total head w f = f.count ∙ (ap {B = ℕ} length f.rows ∙ rows_count total)

pub next_row : (total head : ℕ) (w : WriterState) → IsFeeding total head w → head < total → slice_get w.ring.rows w.head ≡ Some (numbered_row head)
next_row total head w f l =
    let count = rows_count total in
    (λ i. slice_get (f.rows i) (f.at i)) ∙ (slice_get-get_or (numbered_rows total) head [] (omega arith) ∙ ap Some (rows_at total head l))
