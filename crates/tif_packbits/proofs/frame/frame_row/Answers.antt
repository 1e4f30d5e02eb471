use Rattle.tif_packbits.proofs.Framing.{frame-written}
use Rattle.tif_packbits.proofs.frame.frame_row.Goals as goal

pub returns : goal.returns
returns c =
    frame-written c.args.row.now c.args.into.now _ c.write_u16.new.buf c.fill.new.into c.pack_row-len.result c.requires.into
    c.pack_row-len.ensures.len c.pack_row-len.ensures.packed c.write_u16.ensures c.fill.ensures
