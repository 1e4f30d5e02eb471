use Rattle.std.proofs.Common.{◌≡◌, sym, ◌∙◌, true, false, rules, take, drop, ◌+◌}
use Rattle.std.specs.List.{list_all}
use Rattle.plan_parts.specs.Forms as spec
use Rattle.plan_parts.proofs.Texts.{all_parts-none, all_parts-some}
use Rattle.plan_parts.proofs.forms.+parts_name_files.Goals as goal

pub returns-in-None : goal.returns-in-None
returns-in-None t c = c.names_a_file.ensures ∙ sym (all_parts-none spec.names_a_file c.args.text.now (sym c.in-None.ensures.place))

pub returns-then-names_a_file : goal.returns-then-names_a_file
returns-then-names_a_file t c =
    let text = c.args.text.now in
    let whole = all_parts-some spec.names_a_file text c.in-Some.end (sym c.in-Some.ensures.place) in
    let first : spec.names_a_file (take c.in-Some.end text) ≡ true = search rules in
    let rest : c.parts_name_files.result ≡ list_all spec.names_a_file (spec.parts (drop (c.in-Some.end + 1) text)) = search rules in
    rw (whole, first) rest

pub returns-else-names_a_file : goal.returns-else-names_a_file
returns-else-names_a_file t c =
    let text = c.args.text.now in
    let whole = all_parts-some spec.names_a_file text c.in-Some.end (sym c.in-Some.ensures.place) in
    let first : spec.names_a_file (take c.in-Some.end text) ≡ false = search rules in
    rw (whole, first) (search rules)
