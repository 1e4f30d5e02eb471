use Rattle.std.proofs.Common.{◌≡◌, ◌≤◌, ◌<◌, ◌++◌, [], ℕ, Bool, List, length, take, ap, sym, zero-add, ◌∙◌, arith}
use Rattle.std.specs.Prelude.{filter}
use Rattle.std.specs.List.{flat_map, range_with_len}
use Rattle.std.proofs.lemmas.List.{take_all}
use Rattle.std.proofs.lemmas.List.Elements.{filter-append}
use Rattle.std.proofs.lemmas.List.FromFn.{length-range_with_len, get_or-range_with_len}
use Rattle.replate.specs.Picks.{dropped_of, is_dropped}
use Rattle.replate.specs.Plates.{PlateAt, all_plates, plates_of}
use Rattle.replate.proofs.ListLemmas.{joined_more}
use Rattle.replate.proofs.dropped.dropped_plates.Goals as goal

pub loop-site-preserved : goal.loop-site-preserved
loop-site-preserved c =
    let plan = c.args.before.now.plan in
    let test : PlateAt → Bool = is_dropped plan c.args.after.now.plan in
    let site = c.loop-site.site in
    let count = length plan.sites in
    let sites : List ℕ = range_with_len 0 count in
    let seen : List PlateAt = filter test (flat_map (plates_of plan) (take site sites)) in
    let is : c.site_count-site-end.result ≡ count = c.site_count-site-end.ensures.count ∙ ap (λ p. length p.sites) c.plan-plan.ensures.plan in
    let low = c.loop-site-test.true in
    let within : site < count = omega arith in
    c.in_ok-add_site.ensures ∙ ap (λ l. l ++ filter test (plates_of plan site)) c.loop-site.invariant
    ∙ ap (λ s. seen ++ filter test (plates_of plan s)) (sym (get_or-range_with_len 0 count site 0 within ∙ zero-add site))
    ∙ joined_more (filter test) (filter-append test) (plates_of plan) [] sites site 0 (omega (arith, length-range_with_len 0 count))

pub returns-clause-dropped : goal.returns-clause-dropped
unfolding dropped_of all_plates
returns-clause-dropped c =
    let plan = c.args.before.now.plan in
    let test : PlateAt → Bool = is_dropped plan c.args.after.now.plan in
    let count = length plan.sites in
    let sites : List ℕ = range_with_len 0 count in
    let is : c.site_count-site-end.result ≡ count = c.site_count-site-end.ensures.count ∙ ap (λ p. length p.sites) c.plan-plan.ensures.plan in
    let end : length sites ≤ c.loop-site.site = (let past = c.loop-site-test.false in omega (arith, length-range_with_len 0 count)) in
    c.loop-site.invariant ∙ ap (λ l. filter test (flat_map (plates_of plan) l)) (take_all c.loop-site.site sites end)
