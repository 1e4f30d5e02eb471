use Rattle.std.proofs.Common.{◌≡◌, drop}
use Rattle.serde_json.specs.View.{members_view}
use Rattle.job_gen.specs.Text.{members_of, put_all}
use Rattle.job_gen.proofs.members.put_members.Given as goal

abbrev pub invariant-loop-key : goal.invariant-loop-key
invariant-loop-key l =
    put_all (members_view l.object.entries) (members_of (drop l.key-index l.members))
    ≡ put_all (members_view l.fn.object.entries) (members_of l.members)
