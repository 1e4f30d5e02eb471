use Rattle.std.proofs.Common.{ap, ◌∙◌, Bor, List, ℕ, map, option_map, Some, string_bytes}
use Rattle.plan_parts.proofs.Places.{first_unknown-entries}
use Rattle.plan_parts.proofs.object.first_unknown.Goals as goal

abbrev names : List (Bor (List ℕ)) → List (List ℕ)
names keys = map (λ (k : Bor (List ℕ)). k.now) keys

pub returns-in-Some : goal.returns-in-Some
returns-in-Some c =
    ap Some c.as_str.ensures.value ∙ ap (option_map string_bytes) c.in-Some.ensures ∙ first_unknown-entries (names c.args.keys.now) c.args.members.now.entries

pub returns-in-None : goal.returns-in-None
returns-in-None c =
    ap (option_map string_bytes) c.in-None.ensures ∙ first_unknown-entries (names c.args.keys.now) c.args.members.now.entries
