use Rattle.std.proofs.Common.{◌≡◌, length, All, []}
use Rattle.pr_rack.specs.Mem.{empty_slots}
use Rattle.cmd_run.proofs.drill.empty_racks.Given as goal

abbrev pub invariant-loop-index : goal.invariant-loop-index
invariant-loop-index l = record {
  count : length l.racks.items ≡ l._index;
  slots : All (λ rack. rack.slots ≡ empty_slots) l.racks.items;
  taken : All (λ rack. rack.taken ≡ []) l.racks.items;
  files : All (λ rack. rack.files ≡ []) l.racks.items;
}
