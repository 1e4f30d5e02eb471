use Rattle.std.proofs.Common.{◌≡◌, map}
use Rattle.std.specs.List.{range_with_len}
use Rattle.serde_json.specs.View.{view}
use Rattle.job_gen.specs.Text.{section_page_value}
use Rattle.job_gen.proofs.layout.section_pages.Given as goal

abbrev pub invariant-loop-k : goal.invariant-loop-k
invariant-loop-k l = map view l.values.items ≡ map (section_page_value l.pages) (range_with_len 1 l.k)
