use Rattle.std.proofs.Common.{List, ℕ, Option, None, Some, Ok, Err, ap, subst, sym, ◌∙◌, refl, true}
use Rattle.plate_verify.specs.declared.checked.Checked.TheVariants.{Differs, Long}
use Rattle.plate_verify.specs.declared.checked.VerifyFault.TheVariants.{Shelf}
use Rattle.plate_verify.specs.Wrong.{Found, OtherAt}
use Rattle.pr_ports.specs.Shelf.{IsComparedAt, IsLongerAt, missed_after}
use Rattle.plan_rows.specs.Plates.{plate_rows}
use Rattle.plate_verify.specs.Verifying.{shelf_told}
use Rattle.plate_verify.proofs.VerifyLemmas.{at_its_site, quiet, made_ends, verified_compared, verified_long, verified_failed}
use Rattle.plate_verify.proofs.inks.verify_at_site.Goals as goal

pub returns-in-Ok-None : goal.returns-in-Ok-None
returns-in-Ok-None g c = λ rows made.
    let ends = rw (c.in-Ok-None.field-0-is, c.bytes.ensures) at c.in-Ok-None.ensures in
    at_its_site c.args.edition.now.plan.now rows c.args.edition.now.out.now (c.args.group.now, c.args.ink) c.args.site (shelf_told g.H.Shelf c.args.shelf.now) (shelf_told g.H.Shelf c.compare.new.self)
    (Ok None) (sym c.has_site.ensures ∙ c.if-not-has_site.false)
    (verified_compared c.args.edition.now.plan.now rows c.args.edition.now.out.now (c.args.site, (c.args.group.now, c.args.ink)) (shelf_told g.H.Shelf c.args.shelf.now) (shelf_told g.H.Shelf c.compare.new.self)
    c.in_ok-path.path c.args.made.now None None
    c.in_ok-path.ensures
    (subst {A = List ℕ} (λ p. IsComparedAt (g.H.Shelf.held c.args.shelf.now) p 600000000 c.args.made.now.bytes None) c.as_str.ensures ends.compared)
    (quiet (shelf_told g.H.Shelf c.args.shelf.now) (shelf_told g.H.Shelf c.compare.new.self) c.as_str.result.now ends.missed ends.held (ends.uncounted refl) ends.faults_stay ends.longs_stay)
    (ends.long_uncounted refl)
    made
    refl)

pub returns-in-Ok-Some : goal.returns-in-Ok-Some
returns-in-Ok-Some g c = λ rows made.
    let ends = rw (c.in-Ok-Some.field-0-is, c.bytes.ensures) at c.in-Ok-Some.ensures in
    let row = c.row_of.ensures (plate_rows c.args.edition.now.plan.now rows (c.args.group.now, c.args.ink)) (made_ends c.args.edition.now.plan.now rows (c.args.group.now, c.args.ink) c.args.made.now made) in
    at_its_site c.args.edition.now.plan.now rows c.args.edition.now.out.now (c.args.group.now, c.args.ink) c.args.site (shelf_told g.H.Shelf c.args.shelf.now) (shelf_told g.H.Shelf c.compare.new.self)
    (Ok (Some (Differs c.in_ok-path.path c.in-Ok-Some.at c.row_of.result))) (sym c.has_site.ensures ∙ c.if-not-has_site.false)
    (verified_compared c.args.edition.now.plan.now rows c.args.edition.now.out.now (c.args.site, (c.args.group.now, c.args.ink)) (shelf_told g.H.Shelf c.args.shelf.now) (shelf_told g.H.Shelf c.compare.new.self)
    c.in_ok-path.path c.args.made.now (Some c.in-Ok-Some.at) (Some (Differs c.in_ok-path.path c.in-Ok-Some.at c.row_of.result))
    c.in_ok-path.ensures
    (subst {A = List ℕ} (λ p. IsComparedAt (g.H.Shelf.held c.args.shelf.now) p 600000000 c.args.made.now.bytes (Some c.in-Ok-Some.at)) c.as_str.ensures ends.compared)
    (quiet (shelf_told g.H.Shelf c.args.shelf.now) (shelf_told g.H.Shelf c.compare.new.self) c.as_str.result.now ends.missed ends.held (ends.uncounted refl) ends.faults_stay ends.longs_stay)
    (ends.long_uncounted refl)
    made
    (ap {B = Option Found} (λ r. Some (OtherAt c.in_ok-path.path c.in-Ok-Some.at r)) row))

pub returns-in-Err-Failed : goal.returns-in-Err-Failed
returns-in-Err-Failed g c = λ rows made.
    let ends = rw c.in-Err-Failed.field-0-is at c.in-Err-Failed.ensures in
    at_its_site c.args.edition.now.plan.now rows c.args.edition.now.out.now (c.args.group.now, c.args.ink) c.args.site (shelf_told g.H.Shelf c.args.shelf.now) (shelf_told g.H.Shelf c.compare.new.self)
    (Err (Shelf c.in_ok-path.path)) (sym c.has_site.ensures ∙ c.if-not-has_site.false)
    (verified_failed c.args.edition.now.plan.now rows c.args.edition.now.out.now (c.args.site, (c.args.group.now, c.args.ink)) (shelf_told g.H.Shelf c.args.shelf.now) (shelf_told g.H.Shelf c.compare.new.self)
    c.in_ok-path.path c.in_ok-path.ensures
    (ends.counted refl)
    (ends.missed ∙ ap {A = List ℕ} (λ p. missed_after true p (g.H.Shelf.missed c.args.shelf.now)) c.as_str.ensures)
    (record { held = ends.held; faults = ends.faults_stay; longs = ends.longs_stay })
    (ends.long_uncounted refl))

pub returns-in-Err-TooLong : goal.returns-in-Err-TooLong
returns-in-Err-TooLong g c = λ rows made.
    let ends = rw c.in-Err-TooLong.field-0-is at c.in-Err-TooLong.ensures in
    at_its_site c.args.edition.now.plan.now rows c.args.edition.now.out.now (c.args.group.now, c.args.ink) c.args.site (shelf_told g.H.Shelf c.args.shelf.now) (shelf_told g.H.Shelf c.compare.new.self)
    (Ok (Some (Long c.in_ok-path.path))) (sym c.has_site.ensures ∙ c.if-not-has_site.false)
    (verified_long c.args.edition.now.plan.now rows c.args.edition.now.out.now (c.args.site, (c.args.group.now, c.args.ink)) (shelf_told g.H.Shelf c.args.shelf.now) (shelf_told g.H.Shelf c.compare.new.self)
    c.in_ok-path.path c.in_ok-path.ensures
    (subst {A = List ℕ} (λ p. IsLongerAt (g.H.Shelf.held c.args.shelf.now) p 600000000) c.as_str.ensures ends.longer)
    ends.long_counted
    (quiet (shelf_told g.H.Shelf c.args.shelf.now) (shelf_told g.H.Shelf c.compare.new.self) c.as_str.result.now ends.missed ends.held (ends.uncounted refl) ends.faults_stay ends.longs_stay))
