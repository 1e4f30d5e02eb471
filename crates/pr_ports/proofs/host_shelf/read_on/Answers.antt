use Rattle.std.proofs.Common.{◌≡◌, ◌+◌, length, refl, ◌∙◌, arith}
use Rattle.std.proofs.lemmas.Result.{IfOk-from_err}
use Rattle.pr_ports.proofs.Readers.{IsJoined, come_long, joined_kept, joined_longer, joined_more, joined_most, joined_nothing, joined_whole, not_too_long}
use Rattle.pr_ports.proofs.host_shelf.read_on.Given.{Over}
use Rattle.pr_ports.proofs.host_shelf.read_on.Goals.{In_ok-count}
use Rattle.pr_ports.proofs.host_shelf.read_on.Goals as goal

-- the bytes with the piece that was read
with_piece : (g : Over) (c : In_ok-count g)
    → IsJoined (g.F.Read.remaining c.args.file.now.stream) (g.F.Read.remaining c.read_piece.new.file.stream) c.args.bytes.items c.read_piece.new.bytes.items
with_piece g c = joined_more _ _ _ c.args.bytes.items c.pieces.bytes.items c.read_piece.new.bytes.items _ c.pieces.invariant.came c.in_ok-count.ensures.came

long_with : (g : Over) (c : In_ok-count g) → length c.read_piece.new.bytes.items ≡ length c.pieces.bytes.items + c.in_ok-count.count
long_with g c = come_long _ _ c.pieces.bytes.items c.read_piece.new.bytes.items _ c.in_ok-count.ensures.came

pub pieces-init : goal.pieces-init
pieces-init g c = record {
  short = c.requires;
  came = joined_nothing _ c.args.bytes.items;
  count = refl;
}

pub returns-in_err-count-clause-told : goal.returns-in_err-count-clause-told
returns-in_err-count-clause-told g c =
    not_too_long c.from_residual.result c.in_err-count.field-0.0 _ c.from_residual.ensures.1 c.in_err-count.ensures.short

pub returns-in_err-count-clause-longer : goal.returns-in_err-count-clause-longer
returns-in_err-count-clause-longer g c =
    not_too_long c.from_residual.result c.in_err-count.field-0.0 _ c.from_residual.ensures.1 c.in_err-count.ensures.short

pub returns-in_err-count-clause-whole : goal.returns-in_err-count-clause-whole
returns-in_err-count-clause-whole g c = IfOk-from_err c.from_residual.result _ c.from_residual.ensures.0

pub returns-in_err-count-clause-within : goal.returns-in_err-count-clause-within
returns-in_err-count-clause-within g c = IfOk-from_err c.from_residual.result _ c.from_residual.ensures.0

pub returns-in_err-count-clause-most : goal.returns-in_err-count-clause-most
returns-in_err-count-clause-most g c =
    joined_most _ _ c.args.bytes.items c.pieces.bytes.items c.args.limit
    (joined_kept _ _ _ c.args.bytes.items c.pieces.bytes.items c.pieces.invariant.came c.in_err-count.ensures.kept) (omega (arith, c.pieces.invariant.short))

pub returns-then-count-eq0-clause-whole : goal.returns-then-count-eq0-clause-whole
returns-then-count-eq0-clause-whole g c =
    let piece = c.in_ok-count.ensures.came in
    joined_whole _ _ c.args.bytes.items c.read_piece.new.bytes.items
    (with_piece g (goal.at.returns-then-count-eq0-clause-whole g c).In_ok-count) (piece.end c.if-count-eq0.true)

pub returns-then-count-eq0-clause-most : goal.returns-then-count-eq0-clause-most
returns-then-count-eq0-clause-most g c =
    let long = long_with g (goal.at.returns-then-count-eq0-clause-most g c).In_ok-count in
    joined_most _ _ c.args.bytes.items c.read_piece.new.bytes.items c.args.limit
    (with_piece g (goal.at.returns-then-count-eq0-clause-most g c).In_ok-count)
    (omega (arith, long, c.pieces.invariant.short, c.if-count-eq0.true))

pub returns-then-count-room-clause-most : goal.returns-then-count-room-clause-most
returns-then-count-room-clause-most g c =
    let long = long_with g (goal.at.returns-then-count-room-clause-most g c).In_ok-count in
    joined_most _ _ c.args.bytes.items c.read_piece.new.bytes.items c.args.limit
    (with_piece g (goal.at.returns-then-count-room-clause-most g c).In_ok-count)
    (omega (arith, long, c.in_ok-count.ensures.within, c.piece_len-most.ensures.within, c.pieces.invariant.short, c.len.ensures))

pub returns-then-count-room-clause-longer : goal.returns-then-count-room-clause-longer
returns-then-count-room-clause-longer g c =
    let long = long_with g (goal.at.returns-then-count-room-clause-longer g c).In_ok-count in
    joined_longer _ _ c.args.bytes.items c.read_piece.new.bytes.items c.args.limit
    (with_piece g (goal.at.returns-then-count-room-clause-longer g c).In_ok-count)
    (omega (arith, long, c.if-count-room.true, c.pieces.invariant.short, c.len.ensures))

pub pieces-preserved : goal.pieces-preserved
pieces-preserved g c =
    let long = long_with g (goal.at.pieces-preserved g c).In_ok-count in
    record {
      short = omega (arith, long, c.if-count-room.false, c.pieces.invariant.short, c.len.ensures);
      came = with_piece g (goal.at.pieces-preserved g c).In_ok-count;
      count = (◌∙◌) {b = c.pieces.file.faults} c.in_ok-count.ensures.count c.pieces.invariant.count;
    }
