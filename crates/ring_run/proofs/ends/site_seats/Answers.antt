use Rattle.std.proofs.Common.{◌≡◌, ◌∙◌, ◌++◌, ◌∷◌, [], length, ap, sym, arith}
use Rattle.std.proofs.lemmas.List.{append_assoc}
use Rattle.site_agent.specs.Plan.{fresh_site}
use Rattle.site_agent.specs.Site.{SiteData}
use Rattle.ring_run.specs.declared.role.Role.TheVariants.{Going}
use Rattle.ring_run.specs.Served.{site_seat, site_seats}
use Rattle.ring_run.proofs.Running.{length-site_seats, next_below, seats_more}
use Rattle.ring_run.proofs.ends.site_seats.Goals as goal

pub new-requires-clause-site : goal.new-requires-clause-site
new-requires-clause-site g c =
    let seats : length c.loop-reader.seats.items ≡ length c.loop-reader.yielded = ap length c.loop-reader.invariant.0 ∙ length-site_seats c.args.plan.now c.args.out.now c.loop-reader.yielded in
    let below = next_below c.loop-reader.yielded c.loop-reader.reader-iterator.rest.items c.next.new.self.rest.items c.args.readers.items c.in-Some.reader c.loop-reader.invariant.1 c.in-Some.ensures.steps.0 in
    let is = c.len.ensures in
    let ok = c.loop-reader.seats.ok.0 in
    let count = c.requires.readers in
    omega (arith, seats, below, is, ok, count)

pub loop-reader-preserved : goal.loop-reader-preserved
loop-reader-preserved g c =
    let plan = c.args.plan.now in
    let out = c.args.out.now in
    let done = c.loop-reader.yielded in
    let seats : length c.loop-reader.seats.items ≡ length done = ap length c.loop-reader.invariant.0 ∙ length-site_seats plan out done in
    let is = c.len.ensures in
    let ok = c.loop-reader.seats.ok.0 in
    let index : c.len.result ≡ length done = omega (arith, seats, is, ok) in
    let seat : c.new-in-loop-reader.result ≡ site_seat plan out (length done, c.in-Some.reader) =
    c.new-in-loop-reader.ensures ∙ ap (λ (site : SiteData). record { reader = c.in-Some.reader; role = Going site }) (c.in_ok-site.ensures ∙ ap (fresh_site plan out) index) in (
      c.in_ok-push.ensures.items
          ∙ ap (λ list. list ++ c.new-in-loop-reader.result ∷ []) c.loop-reader.invariant.0
          ∙ ap (λ s. site_seats plan out done ++ s ∷ []) seat
          ∙ sym (seats_more plan out done c.in-Some.reader),
      append_assoc done (c.in-Some.reader ∷ []) c.next.new.self.rest.items ∙ ap (λ list. done ++ list) (sym c.in-Some.ensures.steps.0) ∙ c.loop-reader.invariant.1,
    )
