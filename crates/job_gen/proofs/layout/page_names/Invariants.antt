use Rattle.std.proofs.Common.{◌≡◌, map}
use Rattle.serde_json.specs.View.{view}
use Rattle.job_gen.specs.Text.{name_values}
use Rattle.job_gen.proofs.layout.page_names.Given as goal

abbrev pub invariant-loop-k : goal.invariant-loop-k
invariant-loop-k l = map view l.values.items ≡ name_values l.k
