use Rattle.std.proofs.Common.{◌≡◌, ◌-◌, ◌∙◌, ℕ, false, subst, sym, arith}
use Rattle.pr_rack.specs.Told.{RackTells, told}
use Rattle.site_agent.specs.declared.kept.Kept.{Kept}
use Rattle.site_agent.specs.declared.kept.Kept.TheVariants as kept
use Rattle.site_agent.proofs.Drawing.{Keeps}
use Rattle.replate.specs.declared.maker.Maker.{Maker}
use Rattle.replate.specs.Making.{Made, has_left}
use Rattle.replate.proofs.MakerLemmas.{IsPutRow, asks, made_left, made_on, made_stopped}
use Rattle.replate.proofs.maker.hand.Given.{Over}
use Rattle.replate.proofs.maker.hand.Goals.{After-keep-kept}
use Rattle.replate.proofs.maker.hand.Goals as goal

pub keep-kept-requires : goal.keep-kept-requires
keep-kept-requires g c =
    let held = c.take-held.result in
    let n : ℕ = c.args.deck.now.put - 1 in
    let number : held.number ≡ n = (let put = c.take-held.ensures.number in omega (arith, put)) in
    asks c.args.deck.now.rows n (told g.R.Rack c.args.rack.now) c.args.maker.now held c.requires.some
    (sym c.has_left.ensures ∙ c.if-has_left.false) number c.take-held.ensures.bytes

-- ---- after the row was kept

going : (g : Over) (c : After-keep-kept g) → has_left c.args.maker.now.end ≡ false
going g c = sym c.has_left.ensures ∙ c.if-has_left.false

put_row : (g : Over) (c : After-keep-kept g) → IsPutRow c.args.deck.now.rows (c.args.deck.now.put - 1) c.take-held.result
put_row g c = record {
  number_is = (let put = c.take-held.ensures.number in omega (arith, put));
  bytes_are = c.take-held.ensures.bytes;
  source_is = c.take-held.ensures.source;
}

-- what the site and its rack are, by how the site kept the row
keeps_of : (g : Over) (c : After-keep-kept g) (is : Kept) → c.keep-kept.result ≡ is
    → Keeps c.args.maker.now.site c.keep-kept.new.site c.take-held.result (told g.R.Rack c.args.rack.now) (told g.R.Rack c.keep-kept.new.rack) is
keeps_of g c is same =
    subst (λ (k : Kept). Keeps c.args.maker.now.site c.keep-kept.new.site c.take-held.result (told g.R.Rack c.args.rack.now) (told g.R.Rack c.keep-kept.new.rack) k) same
    c.keep-kept.ensures

pub returns-in-Done-clause-made : goal.returns-in-Done-clause-made
returns-in-Done-clause-made g c =
    let at = (goal.at.returns-in-Done-clause-made g c).After-keep-kept in
    made_on c.args.deck.now.rows (c.args.deck.now.put - 1) (told g.R.Rack c.args.rack.now) (told g.R.Rack c.keep-kept.new.rack) c.take-held.result
    c.args.maker.now c.keep-kept.new.site (going g at) (put_row g at) (keeps_of g at kept.Done c.in-Done.is)

pub returns-in-Left-clause-made : goal.returns-in-Left-clause-made
returns-in-Left-clause-made g c =
    let at = (goal.at.returns-in-Left-clause-made g c).After-keep-kept in
    let n : ℕ = c.args.deck.now.put - 1 in
    let old : RackTells = told g.R.Rack c.args.rack.now in
    let new : RackTells = told g.R.Rack c.keep-kept.new.rack in
    subst (λ (is : Maker). Made c.args.deck.now.rows n old new c.args.maker.now is) (sym c.leave.ensures)
    (made_left c.args.deck.now.rows n old new c.take-held.result c.args.maker.now c.keep-kept.new.site c.in-Left.cause (going g at) (put_row g at)
    (keeps_of g at (kept.Left c.in-Left.cause) c.in-Left.is))

pub returns-in-Memory-clause-stopped : goal.returns-in-Memory-clause-stopped
returns-in-Memory-clause-stopped g c =
    let at = (goal.at.returns-in-Memory-clause-stopped g c).After-keep-kept in
    made_stopped c.args.deck.now.rows (c.args.deck.now.put - 1) (told g.R.Rack c.args.rack.now) (told g.R.Rack c.keep-kept.new.rack) c.take-held.result
    c.args.maker.now c.keep-kept.new.site (going g at) (put_row g at) (keeps_of g at kept.Memory c.in-Memory.is)
