use Rattle.std.proofs.Common.{◌≡◌, ◌≤◌, length, take, drop, ap, ◌∙◌, arith}
use Rattle.std.proofs.lemmas.List.{length-take-le}
use Rattle.tif_plate.specs.declared.sides.Sides.{Sides}
use Rattle.plan_json.specs.Data.{PlanData, plate_height}
use Rattle.plan_rows.proofs.RowLemmas.{ink_count-within}
use Rattle.plan_rows.specs.Sides.{plate_sides}
use Rattle.plate_verify.proofs.GroupLemmas.{on_ok_always, group_fed, group_made, fed_after}
use Rattle.plate_verify.proofs.group.verify_group.Goals as goal

high : (plan : PlanData) (sides : Sides) → sides ≡ plate_sides plan → sides.height ≡ plate_height plan
high plan sides is = ap {A = Sides} (λ s. s.height) is

pub make_plates-requires : goal.make_plates-requires
make_plates-requires g c =
    let few : c.ink_number.result ≤ length c.args.plates.now = omega (arith, c.ink_number.ensures.count, c.requires.fed.fed.fed.five, ink_count-within c.args.group.now) in
    record {
      sides = plate_sides c.args.edition.now.plan.now;
      next = drop c.args.group.now.first c.requires.fed.rows;
      fed = group_fed c.args.edition.now.plan.now c.requires.fed.rows c.args.group.now c.args.plates.now _ _ c.ink_number.result c.requires.fed.fed c.ink_number.ensures.count few;
      high = high c.args.edition.now.plan.now c.plate_sides.result c.plate_sides.ensures.sides;
    }

pub returns-clause-verified : goal.returns-clause-verified
returns-clause-verified g c = λ rows fed.
    let few : c.ink_number.result ≤ length c.args.plates.now = omega (arith, c.ink_number.ensures.count, fed.fed.five, ink_count-within c.args.group.now) in
    let whole_ones = c.in_ok-make_plates.ensures.plates (plate_sides c.args.edition.now.plan.now) (drop c.args.group.now.first rows)
    (group_fed c.args.edition.now.plan.now rows c.args.group.now c.args.plates.now _ _ c.ink_number.result fed c.ink_number.ensures.count few) (high c.args.edition.now.plan.now c.plate_sides.result c.plate_sides.ensures.sides) in
    c.verify_plates.ensures rows
    (group_made c.args.edition.now.plan.now rows c.args.group.now (length (take c.ink_number.result c.args.plates.now)) c.plate_sides.result.height c.make_plates.new.plates (length-take-le c.ink_number.result c.args.plates.now few ∙ c.ink_number.ensures.count) (high c.args.edition.now.plan.now c.plate_sides.result c.plate_sides.ensures.sides) whole_ones)

pub returns-clause-fed : goal.returns-clause-fed
returns-clause-fed g c = on_ok_always c.verify_plates.result _ (λ rows fed.
    let few : c.ink_number.result ≤ length c.args.plates.now = omega (arith, c.ink_number.ensures.count, fed.fed.five, ink_count-within c.args.group.now) in
    let own = group_fed c.args.edition.now.plan.now rows c.args.group.now c.args.plates.now _ _ c.ink_number.result fed c.ink_number.ensures.count few in
    fed_after c.args.edition.now.plan.now rows c.args.group.now c.args.plates.now c.make_plates.new.plates _ _ _ _ c.ink_number.result c.plate_sides.result.height _ fed c.ink_number.ensures.count (high c.args.edition.now.plan.now c.plate_sides.result c.plate_sides.ensures.sides) c.make_plates.auto.plates
    (c.in_ok-make_plates.ensures.plates (plate_sides c.args.edition.now.plan.now) (drop c.args.group.now.first rows) own (high c.args.edition.now.plan.now c.plate_sides.result c.plate_sides.ensures.sides))
    (c.in_ok-make_plates.ensures.feed (plate_sides c.args.edition.now.plan.now) (drop c.args.group.now.first rows) own (high c.args.edition.now.plan.now c.plate_sides.result c.plate_sides.ensures.sides)) c.make_plates.auto.frame)
