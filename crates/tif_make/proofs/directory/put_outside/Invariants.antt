use Rattle.std.proofs.Common.{◌≡◌, ◌++◌, map, take}
use Rattle.std.specs.List.{flat_map}
use Rattle.tif_make.specs.Fields.{data_of, outside}
use Rattle.tif_make.proofs.directory.put_outside.Given as goal

abbrev pub invariant-loop-field : goal.invariant-loop-field
invariant-loop-field l =
    l.file.items ≡ l.fn.file.items ++ flat_map (outside l.order) (take l.field-index (map data_of l.fields))
