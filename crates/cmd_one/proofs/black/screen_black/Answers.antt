use Rattle.std.proofs.Common.{◌∙◌, ◌+◌, ◌*◌, ◌<◌, ap, sym, length, slice_index, zero-add, arith}
use Rattle.pr_base.specs.Bits.{bit_at}
use Rattle.pr_base.proofs.Bits.{row_is_packed}
use Rattle.scr_tile.specs.Tile.{threshold_at, tile_bit}
use Rattle.scr_tile.specs.AnyTile.{threshold_of}
use Rattle.cmd_one.proofs.black.screen_black.Goals as goal

pub returns-clause-padding : goal.returns-clause-padding
returns-clause-padding c = λ x h. c.screen_row.ensures.behind x (omega arith) ∙ c.requires.padding x h

pub returns-clause-row : goal.returns-clause-row
returns-clause-row c =
    row_is_packed c.screen_row.new.bits (length c.args.black.now) (λ x. tile_bit (slice_index c.args.pixels.now (4 * x + 3)) (threshold_at 4 x c.args.y)) (omega arith)
    (λ j. omega (arith, c.type_inv.bits j))
    (λ x h. let within : x < length c.take_black.new.black = omega arith in
    ap (bit_at c.screen_row.new.bits) (sym (zero-add x)) ∙ c.screen_row.ensures.screened x within
    ∙ ap (λ value. tile_bit value (threshold_of c.args.tile.now x c.args.y)) (c.take_black.ensures x within) ∙ ap (tile_bit (slice_index c.args.pixels.now (4 * x + 3))) (c.requires.tile x c.args.y))
    (λ x h. c.screen_row.ensures.behind x (omega arith) ∙ c.requires.padding x h)
