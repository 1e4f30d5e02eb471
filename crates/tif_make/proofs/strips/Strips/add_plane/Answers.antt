use Rattle.std.proofs.Common.{length, arith}
use Rattle.tif_make.specs.Strips.{plane_strips, strip}
use Rattle.tif_make.proofs.Bounds.{strip-room}
use Rattle.tif_make.proofs.Growing.{grows-end, grows-none, grows-strip, grown-length}
use Rattle.tif_make.proofs.strips.Strips.add_plane.Goals as goal

pub loop-i-init : goal.loop-i-init
loop-i-init c = grows-none c.args.first c.args.self.now

pub add_strip-requires-clause-room : goal.add_strip-requires-clause-room
add_strip-requires-clause-room c =
    strip-room c.args.form.now c.args.rows.now c.args.plane c.loop-i.i (length c.args.self.now.bytes.items) (length c.loop-i.self.bytes.items)
    (omega arith) (grown-length c.args.first _ c.args.self.now c.loop-i.self c.loop-i.invariant) c.requires.room

pub loop-i-preserved : goal.loop-i-preserved
loop-i-preserved c =
    grows-strip c.args.first (strip c.args.form.now c.args.rows.now c.args.plane) c.loop-i.i c.args.self.now c.loop-i.self c.add_strip.new.self
    c.loop-i.invariant c.in_ok-add_strip.ensures

pub returns : goal.returns
unfolding plane_strips
returns c =
    grows-end c.args.first (strip c.args.form.now c.args.rows.now c.args.plane) c.loop-i.i _ c.args.self.now c.loop-i.self (omega arith) c.loop-i.invariant
