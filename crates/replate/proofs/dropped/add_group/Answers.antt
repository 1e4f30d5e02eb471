use Rattle.std.proofs.Common.{◌≡◌, ◌++◌, ◌∷◌, [], Bool, List, length, get_or, if◌then◌else◌, take, ap, ◌∙◌, arith}
use Rattle.std.specs.Prelude.{filter}
use Rattle.std.proofs.lemmas.List.Elements.{filter-append}
use Rattle.pr_base.specs.declared.ink.Ink.{Ink}
use Rattle.pr_base.specs.declared.ink.Ink.TheVariants.{C}
use Rattle.plan_rows.specs.Inks.{inks_of}
use Rattle.replate.specs.Picks.{is_dropped}
use Rattle.replate.specs.Plates.{PlateAt, group_at, ink_plates}
use Rattle.replate.proofs.ListLemmas.{one_more}
use Rattle.replate.proofs.dropped.add_group.Goals as goal

pub loop-ink-preserved : goal.loop-ink-preserved
loop-ink-preserved c =
    let plan = c.args.before.now.plan in
    let test : PlateAt → Bool = is_dropped plan c.args.after.now.plan in
    let old = c.args.plates.now.items in
    let k = c.loop-ink.ink-index in
    let items = c.inks-ink-items.result.now in
    let inks : List Ink = inks_of (group_at plan c.args.index) in
    let same : items ≡ inks = c.inks-ink-items.ensures ∙ ap inks_of c.group_with-group.ensures.group in
    let plate : Ink → PlateAt = λ ink. record { site = c.args.site; group = c.args.index; ink = ink } in
    let seen : List PlateAt = old ++ filter test (ink_plates c.args.site c.args.index (take k inks)) in
    let long : length items ≡ length inks = ap length same in
    let low = c.loop-ink-test.true in
    let here : PlateAt = plate (get_or items k C) in
    c.in_ok-add_dropped.ensures ∙ ap (λ b. c.loop-ink.plates.items ++ (if b then here ∷ [] else [])) c.is_dropped-dropped.ensures
    ∙ ap (λ l. l ++ filter test (here ∷ [])) c.loop-ink.invariant
    ∙ ap (λ l. seen ++ filter test (plate (get_or l k C) ∷ [])) same
    ∙ one_more (filter test) (filter-append test) plate old inks k C (omega arith)
