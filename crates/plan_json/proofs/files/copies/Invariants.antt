use Rattle.std.proofs.Common.{◌≡◌, take}
use Rattle.plan_json.specs.Files.{texts}
use Rattle.plan_json.proofs.files.copies.Given as goal

abbrev pub invariant-loop-name : goal.invariant-loop-name
invariant-loop-name l = l.all.items ≡ texts (take l.name-index l.names)
