use Rattle.std.proofs.Common.{◌≡◌, ◌+◌, ◌-◌, ℕ, length, IfSome, subst, arith}
use Rattle.tif_packbits.specs.Frame.{packed_in}
use Rattle.tif_plate.specs.Tail.{strips_end}
use Rattle.pr_rack.specs.Told.{Tells, told}
use Rattle.site_agent.specs.Stands.{IsAsLong}
use Rattle.site_agent.proofs.Answering.{stands-begun, stands-taken}
use Rattle.site_agent.proofs.Others.{begun-stays, stay-then, taken-stays}
use Rattle.site_agent.proofs.Results.{if_err, on_err}
use Rattle.site_agent.proofs.calls.deliver.Goals as goal

pub end-requires-clause-stands : goal.end-requires-clause-stands
end-requires-clause-stands g c =
    let packed : ℕ = length (packed_in c.args.held.now.bytes) in
    let len : ℕ = strips_end c.args.strips.now.counts - packed in
    let old : Tells = (told g.R.Rack c.args.rack.now).tells in
    let begun : Tells = (told g.R.Rack c.begin.new.rack).tells in
    let taken : Tells = (told g.R.Rack c.take.new.rack).tells in
    let P : ℕ → Type 0 = λ n. IfSome (g.R.Rack.working c.take.new.rack) (IsAsLong c.args.plate.now n) in
    let fits = c.requires.fits in
    let whole : len + packed ≡ strips_end c.args.strips.now.counts = omega (arith, fits) in
    subst P whole
    (stands-taken c.args.plate.now len c.args.held.now.number c.args.held.now.bytes c.args.held.now.source begun taken c.in_ok-take.ensures.ok
    (stands-begun c.args.y len c.args.plate.now old begun c.in_ok-begin.ensures.ok c.requires.begun (g.met.R.Rack.begun_told c.args.rack.now) c.requires.stands
    (λ none. let first = c.requires.first none in omega (arith, first))))

pub returns-in_err-take-clause-others_stay : goal.returns-in_err-take-clause-others_stay
returns-in_err-take-clause-others_stay g c =
    let slot : ℕ = c.args.plate.now.slot in
    let old : Tells = (told g.R.Rack c.args.rack.now).tells in
    let begun : Tells = (told g.R.Rack c.begin.new.rack).tells in
    on_err c.from_residual-in_err-take.result _
    (stay-then slot old begun (told g.R.Rack c.take.new.rack).tells (begun-stays c.args.y c.args.plate.now old begun c.in_ok-begin.ensures.ok) c.in_err-take.ensures.answers.others_stay)

pub returns-clause-others_stay : goal.returns-clause-others_stay
returns-clause-others_stay g c =
    let slot : ℕ = c.args.plate.now.slot in
    let old : Tells = (told g.R.Rack c.args.rack.now).tells in
    let begun : Tells = (told g.R.Rack c.begin.new.rack).tells in
    let taken : Tells = (told g.R.Rack c.take.new.rack).tells in
    if_err c.end.result _ _
    (stay-then slot old taken (told g.R.Rack c.end.new.rack).tells
    (stay-then slot old begun taken (begun-stays c.args.y c.args.plate.now old begun c.in_ok-begin.ensures.ok)
    (taken-stays slot c.args.held.now.number c.args.held.now.bytes c.args.held.now.source begun taken c.in_ok-take.ensures.ok)))
    c.end.ensures.answers.others_stay
