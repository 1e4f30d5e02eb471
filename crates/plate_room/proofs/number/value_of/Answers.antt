use Rattle.std.proofs.Common.{◌≡◌, true, sym, ◌∙◌, ap, inr}
use Rattle.plate_room.specs.Number.{is_number}
use Rattle.plate_room.proofs.Numbers.{value_ok, value_err}
use Rattle.plate_room.proofs.number.value_of.Goals as goal

pub returns-in-Ok : goal.returns-in-Ok
returns-in-Ok c =
    let is : is_number c.args.word.now ≡ true =
    ap is_number (sym c.as_bytes.ensures.value) ∙ sym c.is_number.ensures ∙ c.if-not-is_number.false in
    (is, value_ok _ c.args.word.now c.parse.result c.in-Ok.number is c.parse.ensures.value.0 c.in-Ok.is)

pub returns-in-Err : goal.returns-in-Err
returns-in-Err c =
    let is : is_number c.args.word.now ≡ true =
    ap is_number (sym c.as_bytes.ensures.value) ∙ sym c.is_number.ensures ∙ c.if-not-is_number.false in
    inr (value_err _ c.args.word.now c.parse.result c.in-Err.field-0 is c.parse.ensures.value.0 c.in-Err.is)
