use Rattle.std.proofs.Common.{◌≡◌, ◌++◌, drop, string_bytes}
use Rattle.std.specs.List.{enumerate_from, flat_map}
use Rattle.cmd_run.specs.Keys.{group_lines, numbers_for}
use Rattle.cmd_run.proofs.keys.put_keys.Given as goal

abbrev pub invariant-loop-index : goal.invariant-loop-index
invariant-loop-index l =
    string_bytes l.text ++ flat_map (group_lines l.plan (numbers_for l.counts)) (enumerate_from l.index (drop l.index l.groups))
    ≡ string_bytes l.fn.text ++ flat_map (group_lines l.plan (numbers_for l.counts)) (enumerate_from 0 l.groups)
