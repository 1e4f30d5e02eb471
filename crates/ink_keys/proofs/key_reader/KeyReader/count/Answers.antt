use Rattle.std.proofs.Common.{◌≡◌, ap, subst, sym, ◌∙◌, Some, rules}
use Rattle.std.specs.Prelude.{slice_get}
use Rattle.pr_base.specs.Row.{row_size}
use Rattle.plan_rows.specs.Rows.{places_in}
use Rattle.tif_packbits.specs.Frame.{framed_row}
use Rattle.ink_keys.specs.Counts.{AddsRow}
use Rattle.ink_keys.specs.Turn.{KeyReaderData}
use Rattle.ink_keys.proofs.Turning.{counted-one, frame-taken, side-taken}
use Rattle.ink_keys.proofs.key_reader.KeyReader.count.Goals as goal

pub add-requires-clause-frame : goal.add-requires-clause-frame
add-requires-clause-frame g c =
    frame-taken c.args.self.now.counts.width c.args.reader.now.ring c.args.reader.now.cursor c.in_ok-held.held.bytes c.requires.ready.rows c.in_ok-held.ensures.row.row.bytes

pub add-requires-clause-size : goal.add-requires-clause-size
add-requires-clause-size g c =
    side-taken c.args.self.now.counts.width c.args.reader.now.ring c.args.reader.now.cursor c.in_ok-held.held.bytes c.requires.ready.rows c.in_ok-held.ensures.row.row.bytes
    ∙ ap (λ (k : KeyReaderData). row_size k.counts.width) (sym c.self.view_is)

pub returns : goal.returns
returns g c =
    counted-one c.args.self.now (record { rows = c.self.inside.rows.now; counts = c.add.new.self }) c.args.reader.now c.open.new.self c.close.new.self c.in_ok-held.held c.row_at-place.result
    c.requires.ready c.in_ok-held.ensures.row c.open.ensures.looks c.close.ensures
    (subst (λ (k : KeyReaderData). slice_get (places_in k.rows) c.in_ok-held.held.number ≡ Some c.row_at-place.result) c.self.view_is
    (search rules))
    (subst (λ (k : KeyReaderData). AddsRow c.row_at-place.result.group c.row_at-place.result.ink (framed_row c.in_ok-held.held.bytes) k.counts c.add.new.self) c.self.view_is c.add.ensures)
    (ap (λ (k : KeyReaderData). k.rows) c.self.view_is)
