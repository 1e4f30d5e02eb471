use Rattle.std.proofs.Common.{◌≡◌, ◌∙◌, ◌++◌, ◌∷◌, [], Some, length, map, ap, sym, arith}
use Rattle.std.proofs.lemmas.List.{append_assoc, length-map, map-append}
use Rattle.ring_run.specs.Served.{end_of, ends_in}
use Rattle.ring_run.proofs.Running.{ends_more, length-ends_in, next_below}
use Rattle.ring_run.proofs.ends.site_ends.Goals as goal

pub end_at-requires-clause-index : goal.end_at-requires-clause-index
end_at-requires-clause-index g c =
    let ends : length c.loop-seat.ends.items ≡ length c.loop-seat.yielded = sym (length-map c.loop-seat.ends.items Some) ∙ ap length c.loop-seat.invariant.0 ∙ length-ends_in c.args.plan.now c.loop-seat.yielded in
    let below = next_below c.loop-seat.yielded c.loop-seat.seat-iterator.rest.items c.next.new.self.rest.items c.args.seats.items c.in-Some.seat c.loop-seat.invariant.1 c.in-Some.ensures.steps.0 in
    let is = c.len.ensures in
    let ok = c.loop-seat.ends.ok.0 in
    let count = c.requires.seats in
    omega (arith, ends, below, is, ok, count)

pub loop-seat-preserved : goal.loop-seat-preserved
loop-seat-preserved g c =
    let plan = c.args.plan.now in
    let done = c.loop-seat.yielded in
    let ends : length c.loop-seat.ends.items ≡ length done = sym (length-map c.loop-seat.ends.items Some) ∙ ap length c.loop-seat.invariant.0 ∙ length-ends_in plan done in
    let is = c.len.ensures in
    let ok = c.loop-seat.ends.ok.0 in
    let index : c.len.result ≡ length done = omega (arith, ends, is, ok) in
    let end : Some c.in_ok-end.end ≡ end_of plan (length done) c.in-Some.seat.role =
    sym c.in_ok-end.ensures.ok_part ∙ c.end_at.ensures ∙ ap (λ n. end_of plan n c.into_role.result) index ∙ ap (λ role. end_of plan (length done) role) c.into_role.ensures in (
      ap (λ list. map Some list) c.in_ok-push.ensures.items
          ∙ map-append Some c.loop-seat.ends.items (c.in_ok-end.end ∷ [])
          ∙ ap (λ list. list ++ Some c.in_ok-end.end ∷ []) c.loop-seat.invariant.0
          ∙ ap (λ e. ends_in plan done ++ e ∷ []) end
          ∙ sym (ends_more plan done c.in-Some.seat),
      append_assoc done (c.in-Some.seat ∷ []) c.next.new.self.rest.items ∙ ap (λ list. done ++ list) (sym c.in-Some.ensures.steps.0) ∙ c.loop-seat.invariant.1,
    )
