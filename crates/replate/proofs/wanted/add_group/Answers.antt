use Rattle.std.proofs.Common.{◌≡◌, ◌++◌, ◌∷◌, [], Bool, List, length, get_or, map, take, ap, ◌∙◌, arith}
use Rattle.std.proofs.lemmas.List.{map-append}
use Rattle.pr_base.specs.declared.ink.Ink.{Ink}
use Rattle.pr_base.specs.declared.ink.Ink.TheVariants.{C}
use Rattle.plan_rows.specs.Inks.{inks_of}
use Rattle.replate.specs.Plates.{PlateAt, group_at, ink_plates}
use Rattle.replate.specs.Remade.{is_picked}
use Rattle.replate.proofs.ListLemmas.{one_more}
use Rattle.replate.proofs.wanted.add_group.Goals as goal

pub loop-ink-preserved : goal.loop-ink-preserved
loop-ink-preserved c =
    let test : PlateAt → Bool = is_picked c.args.picks.now in
    let old = c.args.bits.now.items in
    let k = c.loop-ink.ink-index in
    let items = c.inks-ink-items.result.now in
    let inks : List Ink = inks_of (group_at c.args.after.now.plan c.args.index) in
    let same : items ≡ inks = c.inks-ink-items.ensures ∙ ap inks_of c.group_with-group.ensures.group in
    let plate : Ink → PlateAt = λ ink. record { site = c.args.site; group = c.args.index; ink = ink } in
    let seen : List Bool = old ++ map test (ink_plates c.args.site c.args.index (take k inks)) in
    let long : length items ≡ length inks = ap length same in
    let low = c.loop-ink-test.true in
    c.in_ok-add_plate.ensures ∙ ap (λ l. l ++ test (plate (get_or items k C)) ∷ []) c.loop-ink.invariant
    ∙ ap (λ l. seen ++ test (plate (get_or l k C)) ∷ []) same
    ∙ one_more (map test) (map-append test) plate old inks k C (omega arith)
