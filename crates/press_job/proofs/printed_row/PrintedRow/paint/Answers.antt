use Rattle.std.proofs.Common.{◌≡◌, length, replicate, refl, sym, ap, ◌∙◌, ℕ}
use Rattle.std.proofs.lemmas.List.{length-replicate}
use Rattle.page_layers.specs.Inks.{Planes}
use Rattle.press_job.specs.Planes.{shown_planes}
use Rattle.press_job.proofs.InkLemmas.{AreToned, AreToned-planes, length-values_at, shows_limited_planes, shows_unlimited}
use Rattle.press_job.proofs.printed_row.PrintedRow.paint.Goals.{After-tone-5}
use Rattle.press_job.proofs.printed_row.PrintedRow.paint.Goals as goal

-- ---- the planes after their curves

long_blank : (c : After-tone-5) → length c.self.inside.blank.items ≡ length c.self.inside.inks.cyan
long_blank c = ap length c.self.invariant.blank_is ∙ length-replicate (length c.self.inside.inks.cyan) 0

wide_before : (c : After-tone-5) → length c.self.inside.inks.cyan ≡ c.args.page.now.width
wide_before c =
    let old = c.self.inside in
    sym (length-values_at old.cyan.source old.inks.cyan old.cyan.values.items old.blank.items (length old.inks.cyan) refl c.self.invariant.cyan_wide (long_blank c))
    ∙ ap (λ (planes : Planes). length planes.cyan) c.self.view_is ∙ c.requires.width.cyan

toned : (c : After-tone-5)
    → AreToned c.args.tones.now c.args.colour c.args.spot c.next_in.new.into
    (shown_planes c.next_in.new.into c.self.inside.blank.items c.tone.new.self c.tone-2.new.self
    c.tone-3.new.self c.tone-4.new.self c.tone-5.new.self)
toned c =
    AreToned-planes c.args.tones.now c.args.colour c.args.spot c.next_in.new.into c.self.inside.blank.items c.args.page.now.width
    c.tone.new.self c.tone-2.new.self c.tone-3.new.self c.tone-4.new.self c.tone-5.new.self _ _ _ _ _ c.next_in.ensures.width
    (c.self.invariant.blank_is ∙ ap (λ (n : ℕ). replicate n 0) (wide_before c))
    c.plane.ensures c.plane-2.ensures c.plane-3.ensures c.plane-4.ensures c.plane-5.ensures
    c.tone.ensures.values c.tone-2.ensures.values c.tone-3.ensures.values c.tone-4.ensures.values c.tone-5.ensures.values

pub returns-else-is_limited-clause-shows : goal.returns-else-is_limited-clause-shows
returns-else-is_limited-clause-shows c =
    let inks = c.next_in.new.into in
    shows_unlimited c.args.tones.now c.args.colour c.args.spot c.args.page.now.layers c.args.page.now.width c.args.page.now.next inks
    (shown_planes inks c.self.inside.blank.items c.tone.new.self c.tone-2.new.self c.tone-3.new.self c.tone-4.new.self c.tone-5.new.self) c.next_in.ensures.width c.next_in.ensures.inks
    (toned (goal.at.returns-else-is_limited-clause-shows c).After-tone-5) (sym c.limits-is_limited.ensures ∙ c.if-is_limited.false)

pub returns-then-is_limited-clause-shows : goal.returns-then-is_limited-clause-shows
returns-then-is_limited-clause-shows c =
    let at = (goal.at.returns-then-is_limited-clause-shows c).After-tone-5 in
    let old_wide = wide_before at in
    let are = toned at in
    let on = c.if-is_limited.true in
    let limit = rw c.limit.ensures.limit at c.limit_planes.ensures.values in
    let kept = c.limit_planes.ensures in
    shows_limited_planes c.args.tones.now c.args.colour c.args.spot c.args.page.now.layers c.args.page.now.width c.args.page.now.next c.next_in.new.into c.self.inside.blank.items
    c.tone.new.self c.tone-2.new.self c.tone-3.new.self c.tone-4.new.self c.tone-5.new.self c.limit_planes.new.cyan c.limit_planes.new.magenta c.limit_planes.new.yellow c.limit_planes.new.black
    c.next_in.ensures.width
    (c.tone.ensures.width ∙ c.self.invariant.cyan_wide ∙ old_wide) (c.tone-2.ensures.width ∙ c.self.invariant.magenta_wide ∙ old_wide)
    (c.tone-3.ensures.width ∙ c.self.invariant.yellow_wide ∙ old_wide) (c.tone-4.ensures.width ∙ c.self.invariant.black_wide ∙ old_wide)
    (c.tone-5.ensures.width ∙ c.self.invariant.spot_wide ∙ old_wide) (long_blank at ∙ old_wide) c.next_in.ensures.inks are
    (c.tone.ensures.own on) (c.tone-2.ensures.own on) (c.tone-3.ensures.own on) (c.tone-4.ensures.own on) kept.cyan kept.magenta kept.yellow kept.black limit
