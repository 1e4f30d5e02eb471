use Rattle.std.proofs.Common.{◌≡◌, ◌-◌, ◌≤◌, length}
use Rattle.pr_ports.proofs.Readers.{IsJoined}
use Rattle.pr_ports.proofs.host_shelf.read_on.Given as goal

abbrev pub invariant-pieces : goal.invariant-pieces
invariant-pieces g l = record {
  -- the bytes read are within the limit
  short : length l.bytes.items ≤ l.limit;
  -- those behind the bytes at the start are what the reader has delivered
  came : IsJoined (g.F.Read.remaining l.initial.file.stream) (g.F.Read.remaining l.file.stream)
      l.initial.bytes.items l.bytes.items;
  -- no read has failed
  count : l.file.faults ≡ l.initial.file.faults;
}

abbrev pub decreases-pieces : goal.decreases-pieces
decreases-pieces g l = l.limit - length l.bytes.items
