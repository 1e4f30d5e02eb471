use Rattle.std.proofs.Common.{◌≡◌, ◌++◌, drop, codes, string_bytes}
use Rattle.std.specs.Fmt.{decimal}
use Rattle.std.specs.List.{flat_map}
use Rattle.cmd_run.specs.Keys.{count_text}
use Rattle.cmd_run.proofs.keys.key_line.Given as goal

abbrev pub invariant-loop-count : goal.invariant-loop-count
invariant-loop-count l =
    string_bytes l.line ++ flat_map count_text (drop l.count-index l.counts)
    ≡ codes "keys " ++ decimal l.fn.index ++ codes " " ++ l.name ++ flat_map count_text l.counts
