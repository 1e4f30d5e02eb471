use Rattle.std.proofs.Common.{arith}
use Rattle.tif_make.specs.Strips.{plane_strips, strips}
use Rattle.tif_make.proofs.Bounds.{plane-room}
use Rattle.tif_make.proofs.Growing.{strips-end, strips-none, strips-plane}
use Rattle.std.proofs.Common.{ap, length}
use Rattle.tif_make.proofs.strips.Strips.of.Goals as goal

pub loop-plane-init : goal.loop-plane-init
loop-plane-init c = strips-none c.args.first _ c.new.ensures.items c.new-2.ensures.items c.new-3.ensures.items

pub add_plane-requires-clause-room : goal.add_plane-requires-clause-room
add_plane-requires-clause-room c =
    plane-room c.args.form.now c.args.rows.now c.loop-plane.plane _ c.requires.form c.requires.rows (omega arith)
    (ap length c.loop-plane.invariant.bytes_are)

pub loop-plane-preserved : goal.loop-plane-preserved
loop-plane-preserved c =
    strips-plane c.args.first (plane_strips c.args.form.now c.args.rows.now) c.loop-plane.plane c.loop-plane.made c.add_plane.new.self
    c.loop-plane.invariant c.in_ok-add_plane.ensures

pub returns : goal.returns
unfolding strips
returns c =
    strips-end c.args.first (plane_strips c.args.form.now c.args.rows.now) c.loop-plane.plane _ c.loop-plane.made (omega arith) c.loop-plane.invariant
