use Rattle.std.proofs.Common.{◌≡◌, ◌+◌, ◌*◌, map}
use Rattle.std.specs.List.{flat_map, range_with_len}
use Rattle.byteorder.specs.Endian.{little_bytes}
use Rattle.tif_plate.specs.Put.{Puts}
use Rattle.tif_plate.specs.Tail.{begin_of}
use Rattle.tif_plate.proofs.tail.put_offsets.Given as goal

abbrev pub invariant-loop-count : goal.invariant-loop-count
invariant-loop-count l = record {
  behind : l.behind ≡ l.at + 4 * l.count-index;
  place : l.place ≡ begin_of l.counts l.count-index;
  put : Puts l.at (flat_map (little_bytes 4) (map (begin_of l.counts) (range_with_len 0 l.count-index))) l.fn.into l.into;
}
