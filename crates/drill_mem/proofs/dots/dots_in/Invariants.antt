use Rattle.std.proofs.Common.{◌≡◌, ◌*◌, ◌≤◌, take, sum_by}
use Rattle.drill_mem.specs.Dots.{bytes_of, file_dots}
use Rattle.drill_mem.proofs.dots.dots_in.Given as goal

abbrev pub invariant-loop-file : goal.invariant-loop-file
invariant-loop-file l = record {
  dots_are : l.dots ≡ sum_by (file_dots l.bytes) (bytes_of (take l.file-index l.files));
  few : l.dots ≤ 4294967296 * l.file-index;
}
