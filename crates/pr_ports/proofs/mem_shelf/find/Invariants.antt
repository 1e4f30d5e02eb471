use Rattle.std.proofs.Common.{◌≡◌, drop}
use Rattle.pr_ports.specs.Mem.{files_of}
use Rattle.pr_ports.specs.Shelf.{held_at}
use Rattle.pr_ports.proofs.mem_shelf.find.Given as goal

-- looking up the path among the remaining files gives the same result as among all files
abbrev pub invariant-loop-file : goal.invariant-loop-file
invariant-loop-file l = held_at (files_of (drop l.file-index l.files)) l.path ≡ held_at (files_of l.files) l.path
