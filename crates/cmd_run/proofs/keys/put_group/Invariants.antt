use Rattle.std.proofs.Common.{◌≡◌, ◌++◌, drop, string_bytes}
use Rattle.std.specs.List.{flat_map}
use Rattle.plan_rows.specs.Inks.{inks_of}
use Rattle.cmd_run.specs.Keys.{numbers_for, plate_line}
use Rattle.cmd_run.proofs.keys.put_group.Given as goal

abbrev pub invariant-loop-ink : goal.invariant-loop-ink
invariant-loop-ink l =
    string_bytes l.text ++ flat_map (plate_line l.plan (numbers_for l.counts) l.index l.group) (drop l.ink-index (inks_of l.group))
    ≡ string_bytes l.fn.text ++ flat_map (plate_line l.plan (numbers_for l.counts) l.index l.group) (inks_of l.group)
