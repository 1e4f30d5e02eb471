use Rattle.std.proofs.Common.{map}
use Rattle.tif_make.specs.Fields.{data_of}
use Rattle.tif_make.proofs.Entries.{WritesEntries}
use Rattle.tif_make.proofs.directory.put_entries.Given as goal

abbrev pub invariant-loop-field : goal.invariant-loop-field
invariant-loop-field l =
    WritesEntries l.order (map data_of l.fields) l.field-index l.place l.fn.file.items l.file.items
