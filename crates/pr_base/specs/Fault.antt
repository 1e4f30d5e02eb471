-- The table of file faults: each kind's number and text. Both are plateroom's own.
use Rattle.std.specs.Prelude.{ℕ, List, codes}
use Rattle.pr_base.specs.declared.fault.FaultKind.{FaultKind}
use Rattle.pr_base.specs.declared.fault.FaultKind.TheVariants.{TooLong, Header, Directory, Missing, FieldType}
use Rattle.pr_base.specs.declared.fault.FaultKind.TheVariants.{FieldCount, FieldPlace, Tiled, Width, Length}
use Rattle.pr_base.specs.declared.fault.FaultKind.TheVariants.{Bits, Compression, Photometric, FillOrder}
use Rattle.pr_base.specs.declared.fault.FaultKind.TheVariants.{Orientation, Samples, RowsPerStrip, Planar}
use Rattle.pr_base.specs.declared.fault.FaultKind.TheVariants.{InkSet, DotRange, StripPlace, Short, MaskSize}
use Rattle.pr_base.specs.declared.fault.FaultKind.TheVariants.{Crop}

abbrev pub kind_number : FaultKind → ℕ
kind_number TooLong = 1
kind_number Header = 2
kind_number Directory = 3
kind_number Missing = 4
kind_number FieldType = 5
kind_number FieldCount = 6
kind_number FieldPlace = 7
kind_number Tiled = 8
kind_number Width = 9
kind_number Length = 10
kind_number Bits = 11
kind_number Compression = 12
kind_number Photometric = 13
kind_number FillOrder = 14
kind_number Orientation = 15
kind_number Samples = 16
kind_number RowsPerStrip = 17
kind_number Planar = 18
kind_number InkSet = 19
kind_number DotRange = 20
kind_number StripPlace = 21
kind_number Short = 22
kind_number MaskSize = 23
kind_number Crop = 24

abbrev pub kind_text : FaultKind → List ℕ
kind_text TooLong = codes "too long"
kind_text Header = codes "header"
kind_text Directory = codes "directory"
kind_text Missing = codes "missing"
kind_text FieldType = codes "field type"
kind_text FieldCount = codes "field count"
kind_text FieldPlace = codes "field place"
kind_text Tiled = codes "tiled"
kind_text Width = codes "width"
kind_text Length = codes "length"
kind_text Bits = codes "bits"
kind_text Compression = codes "compression"
kind_text Photometric = codes "photometric"
kind_text FillOrder = codes "fill order"
kind_text Orientation = codes "orientation"
kind_text Samples = codes "samples"
kind_text RowsPerStrip = codes "rows per strip"
kind_text Planar = codes "planar"
kind_text InkSet = codes "ink set"
kind_text DotRange = codes "dot range"
kind_text StripPlace = codes "strip place"
kind_text Short = codes "short"
kind_text MaskSize = codes "mask size"
kind_text Crop = codes "crop"
