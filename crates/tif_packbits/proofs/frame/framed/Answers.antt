use Rattle.std.proofs.Common.{◌≤◌, length, arith, rules, sym, ◌∙◌}
use Rattle.std.proofs.lemmas.List.{length-take-le, take_rest}
use Rattle.tif_packbits.proofs.Framing.{long-frame, fits-frame, packed_in-is}
use Rattle.tif_packbits.proofs.Frames.{packed_in-frame}
use Rattle.tif_packbits.proofs.frame.framed.Goals as goal

pub read_u16-len-requires : goal.read_u16-len-requires
read_u16-len-requires c = long-frame c.args.bytes.now c.requires

pub slice_bounds-behind-count : goal.slice_bounds-behind-count
slice_bounds-behind-count c = long-frame c.args.bytes.now c.requires

pub slice_bounds-behind-start : goal.slice_bounds-behind-start
slice_bounds-behind-start c = let long : 2 ≤ length c.args.bytes.now = long-frame c.args.bytes.now c.requires in search rules

pub slice_bounds-result-end : goal.slice_bounds-result-end
slice_bounds-result-end c =
    rw (take_rest c.args.bytes.now 2) (sym (length-take-le c.read_u16-len.result _ (omega (arith, fits-frame c.args.bytes.now c.requires, c.read_u16-len.ensures))))

pub returns-clause-held : goal.returns-clause-held
returns-clause-held c = packed_in-is c.args.bytes.now c.read_u16-len.result c.read_u16-len.ensures

pub returns-clause-packing : goal.returns-clause-packing
returns-clause-packing c =
    packed_in-is c.args.bytes.now c.read_u16-len.result c.read_u16-len.ensures ∙ packed_in-frame c.args.bytes.now c.requires
