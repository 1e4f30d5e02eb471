use Rattle.std.proofs.Common.{◌≡◌, subst, false, Some, sym, ◌∙◌, ap}
use Rattle.pr_rack.specs.Told.{RackTells, told}
use Rattle.site_agent.specs.Turn.{GoesOnBy, GoesOnTo}
use Rattle.site_agent.proofs.Going.{going_working}
use Rattle.ring_run.specs.declared.role.Role.{Role}
use Rattle.ring_run.specs.declared.role.Role.TheVariants.{Going, Left, Stopped}
use Rattle.ring_run.specs.Served.{SomeSeated, Turned, is_out}
use Rattle.ring_run.proofs.Serving.{asked_rows, some_going_at, turned_left, turned_on, turned_out}
use Rattle.ring_run.proofs.role.Role.turn.Given.{Over}
use Rattle.ring_run.proofs.role.Role.turn.Goals.{After-turn}
use Rattle.ring_run.proofs.role.Role.turn.Goals as goal

pub turn-requires-clause-rows : goal.turn-requires-clause-rows
turn-requires-clause-rows g c =
    let told : RackTells = told g.R.Rack c.args.rack.now in
    let some = subst (λ (s : Role). SomeSeated (Some told) (record { reader = c.args.reader.now; role = s })) c.in-Going.is c.requires.some in
    let at = some_going_at told c.args.reader.now c.in-Going.site some in
    asked_rows some.work.delivery c.args.reader.now.ring c.args.reader.now.number c.args.reader.now.cursor at.0 told c.in-Going.site some.carries at.1

pub turn-requires-clause-working : goal.turn-requires-clause-working
turn-requires-clause-working g c =
    let told : RackTells = told g.R.Rack c.args.rack.now in
    let some = subst (λ (s : Role). SomeSeated (Some told) (record { reader = c.args.reader.now; role = s })) c.in-Going.is c.requires.some in
    let at = some_going_at told c.args.reader.now c.in-Going.site some in
    going_working some.work.delivery.rows (some.work.delivery.source c.args.reader.now.number) at.0.tells told.tells c.in-Going.site at.1.is

-- ---- after the turn

joined : (g : Over) (c : After-turn g) → c.args.reader.now.left ≡ false
joined g c = c.requires.some.is.left ∙ ap is_out c.in-Going.is

-- what a site's turn leaves, as what a role's turn does
abbrev TurnsTo : (g : Over) → After-turn g → Role → Role → Type 0
TurnsTo g c old new = Turned (Some (told g.R.Rack c.args.rack.now)) (Some (told g.R.Rack c.turn.new.rack)) (record { reader = c.args.reader.now; role = old }) (record { reader = c.turn.new.reader; role = new })

becomes : (g : Over) (c : After-turn g) (new : Role) → TurnsTo g c (Going c.in-Going.site) new → TurnsTo g c c.args.self.now new
becomes g c new turned = subst (λ (s : Role). TurnsTo g c s new) (sym c.in-Going.is) turned

-- the turn of a site that continues
goes_on : (g : Over) (c : After-turn g) → c.turn.new.reader.left ≡ false → GoesOnBy c.args.reader.now c.in-Going.site c.turn.new.self (told g.R.Rack c.args.rack.now) (told g.R.Rack c.turn.new.rack)
    → GoesOnTo c.in-Going.site c.turn.new.self c.turn.new.reader.cursor → (told g.R.Rack c.turn.new.rack).missed ≡ (told g.R.Rack c.args.rack.now).missed → TurnsTo g c c.args.self.now (Going c.turn.new.self)
goes_on g c joins stands goes missed =
    becomes g c (Going c.turn.new.self)
    (turned_on (told g.R.Rack c.args.rack.now) (told g.R.Rack c.turn.new.rack) c.args.reader.now c.turn.new.reader c.in-Going.site c.turn.new.self c.turn.ensures.reader joins (joined g c) c.turn.ensures.grows c.turn.ensures.within
    c.turn.ensures.gets_on stands goes missed c.turn.ensures.faults_stay)

pub returns-in-Waiting : goal.returns-in-Waiting
returns-in-Waiting g c =
    let is = c.in-Waiting.ensures in
    record { turned = goes_on g (goal.at.returns-in-Waiting g c).After-turn is.joined is.stands is.goes_on is.done_missed }

pub returns-in-Finished : goal.returns-in-Finished
returns-in-Finished g c =
    let is = c.in-Finished.ensures in
    record { turned = goes_on g (goal.at.returns-in-Finished g c).After-turn is.joined is.stands is.goes_on is.done_missed }

pub returns-in-Left : goal.returns-in-Left
returns-in-Left g c =
    let at = (goal.at.returns-in-Left g c).After-turn in
    record {
      turned = becomes g at (Left c.in-Left.cause) (turned_left (told g.R.Rack c.args.rack.now) (told g.R.Rack c.turn.new.rack) c.args.reader.now c.turn.new.reader c.in-Going.site c.in-Left.cause c.turn.ensures.reader c.in-Left.ensures.leaves (joined g at) c.in-Left.ensures.closes c.turn.ensures.within c.in-Left.ensures.left
          c.in-Left.ensures.left_row c.in-Left.ensures.left_counted c.in-Left.ensures.left_missed c.in-Left.ensures.left_stands c.turn.ensures.faults_stay);
    }

pub returns-in-Memory : goal.returns-in-Memory
returns-in-Memory g c =
    let at = (goal.at.returns-in-Memory g c).After-turn in
    record {
      turned = becomes g at Stopped (turned_out (told g.R.Rack c.args.rack.now) (told g.R.Rack c.turn.new.rack) c.args.reader.now c.turn.new.reader c.in-Going.site c.turn.ensures.reader c.in-Memory.ensures.leaves (joined g at) c.in-Memory.ensures.closes c.turn.ensures.within c.in-Memory.ensures.memory_stands
          c.in-Memory.ensures.memory_missed c.turn.ensures.faults_stay);
    }
