use Rattle.std.proofs.Common.{◌≡◌, ℕ, ◌*◌, List, Some, Ok, drop, sym, ap, ◌∙◌, arith}
use Rattle.std.specs.Option.{option_copied}
use Rattle.std.proofs.lemmas.Grind.{common_steps}
use Rattle.tif_dir.proofs.Fields.{field_in-held, field_of-known}
use Rattle.tif_dir.specs.Directory.{held_bytes, number_of, type_of}
use Rattle.tif_dir.proofs.dir.Dir.field.Goals as goal

pub returns-in_default : goal.returns-in_default
returns-in_default c =
    rw (← c.self.view_is, field_of-known c.self.inside.bytes.now c.args.tag _ c.self.invariant) (grind (arith, common_steps))

pub returns-in_err-kind : goal.returns-in_err-kind
returns-in_err-kind c =
    rw (← c.self.view_is, field_of-known c.self.inside.bytes.now c.args.tag _ c.self.invariant) (grind (arith, common_steps))

pub returns-in_err-held : goal.returns-in_err-held
returns-in_err-held c =
    rw (← c.self.view_is, field_of-known c.self.inside.bytes.now c.args.tag _ c.self.invariant) (grind (arith, common_steps))

pub returns : goal.returns
returns c =
    let f = c.self.inside in
    let entry = c.in-Some.entry.now in
    let number : c.read_u16-number.result ≡ number_of f.order 2 (drop 2 entry) = grind (arith, common_steps) in
    let kind : Some c.in_ok-kind.kind ≡ type_of c.read_u16-number.result = sym c.in_ok-kind.ensures.ok_part ∙ c.of.ensures in
    let count : c.read_u32-count.result ≡ number_of f.order 4 (drop 4 entry) = grind (arith, common_steps) in
    let held : Some c.in_ok-held.held.now ≡ held_bytes f.order f.bytes.now entry (c.size.result * c.read_u32-count.result) =
    sym (ap option_copied c.in_ok-held.ensures.ok_part) ∙ c.value_bytes-placed.ensures in
    let values =
    field_in-held f.order f.bytes.now c.args.tag _ entry _ _ _ c.in_ok-kind.kind c.in_ok-held.held.now c.in-Some.ensures number kind count c.size.ensures held in
    rw (← c.self.view_is, field_of-known f.bytes.now c.args.tag _ c.self.invariant, values)
    (ap (λ (list : List ℕ). Ok (Some list)) c.of-2.ensures)
