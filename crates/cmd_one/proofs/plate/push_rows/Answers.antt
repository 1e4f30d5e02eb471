use Rattle.std.proofs.Common.{◌≡◌, ℕ, ◌+◌, ◌<◌, List, take, ap, ◌∙◌, subst, arith}
use Rattle.tif_packbits.specs.Packbits.{packing}
use Rattle.tif_strips.specs.Strips.{Cursor}
use Rattle.cmd_one.specs.One.{black_row}
use Rattle.cmd_one.specs.Room.{FitsRow}
use Rattle.cmd_one.proofs.Pack.{first_rows, piece_is, pushed_black, takes_black}
use Rattle.cmd_one.proofs.plate.push_rows.Goals as goal

pub push-requires : goal.push-requires
push-requires c =
    let below : c.loop-y.y < c.args.rows.shape.length = omega (arith, c.left-y-end.ensures) in
    let row : take c.pack_next-len.result c.deref.result.now ≡ packing (black_row c.args.rows.shape c.args.rows.bytes c.loop-y.y) =
    ap (take c.pack_next-len.result) c.deref.ensures.value ∙ piece_is c.loop-y.rows c.args.rows.shape c.args.rows.bytes c.loop-y.y c.pack_next-len.result c.pack_next-len.new.room.packed.items c.loop-y.invariant.at c.pack_next-len.ensures.packed in
    record {
      rows = first_rows c.args.rows.shape c.args.rows.bytes c.loop-y.y;
      row = black_row c.args.rows.shape c.args.rows.bytes c.loop-y.y;
      takes = takes_black c.args.rows.shape c.args.rows.bytes c.loop-y.y c.loop-y.plate _ c.loop-y.invariant.done below row;
    }

pub loop-y-preserved : goal.loop-y-preserved
loop-y-preserved c =
    let below : c.loop-y.y < c.args.rows.shape.length = omega (arith, c.left-y-end.ensures) in
    let rows : List (List ℕ) = first_rows c.args.rows.shape c.args.rows.bytes c.loop-y.y in
    let next : List ℕ = black_row c.args.rows.shape c.args.rows.bytes c.loop-y.y in
    let row : take c.pack_next-len.result c.deref.result.now ≡ packing next =
    ap (take c.pack_next-len.result) c.deref.ensures.value ∙ piece_is c.loop-y.rows c.args.rows.shape c.args.rows.bytes c.loop-y.y c.pack_next-len.result c.pack_next-len.new.room.packed.items c.loop-y.invariant.at c.pack_next-len.ensures.packed in
    record {
      at = c.pack_next-len.ensures.rows ∙ ap {A = Cursor} (λ cursor. record cursor { next = cursor.next + 1 }) c.loop-y.invariant.at;
      room = let P : Cursor → Type 0 = λ cursor. FitsRow cursor.shape.width c.pack_next-len.new.room in subst P c.loop-y.invariant.at c.pack_next-len.ensures.room;
      done = pushed_black c.args.rows.shape c.args.rows.bytes c.loop-y.y c.loop-y.plate c.push.new.self c.loop-y.invariant.done
          (c.in_ok-push.ensures.rows rows next (takes_black c.args.rows.shape c.args.rows.bytes c.loop-y.y c.loop-y.plate _ c.loop-y.invariant.done below row));
    }
