use Rattle.std.proofs.Common.{ℕ, length, subst}
use Rattle.plate_verify.specs.Making.{AreWhole, turn_rows}
use Rattle.plate_verify.proofs.MakeLemmas.{fed_again}
use Rattle.plate_verify.proofs.making.make_plates.Goals as goal

pub finish_all-requires : goal.finish_all-requires
finish_all-requires g c =
    let r = c.requires in
    let again = fed_again c.args.plates.now c.restart_all.new.plates _ _ r.sides r.next r.fed (c.in_ok-restart_all.ensures.sides r.sides r.fed.have) c.restart_all.auto.plates in
    record {
      sides = r.sides;
      rows = turn_rows (length c.restart_all.new.plates) r.next c.args.height;
      full = c.in_ok-take_all.ensures.plates r.sides r.next (c.in_ok-restart_all.ensures.none r.sides r.fed.have) again r.high;
    }

pub returns-clause-plates : goal.returns-clause-plates
returns-clause-plates g c = λ sides next fed high.
    let again = fed_again c.args.plates.now c.restart_all.new.plates _ _ sides next fed (c.in_ok-restart_all.ensures.sides sides fed.have) c.restart_all.auto.plates in
    let full = c.in_ok-take_all.ensures.plates sides next (c.in_ok-restart_all.ensures.none sides fed.have) again high in
    subst {A = ℕ} (λ n. AreWhole sides (turn_rows n next c.args.height) c.finish_all.new.plates) c.restart_all.auto.plates
    (c.in_ok-finish_all.ensures sides (turn_rows (length c.restart_all.new.plates) next c.args.height) full)
