use Rattle.std.proofs.Common.{◌<◌, ◌≤◌, length, Ok, Err, Some, arith}
use Rattle.plate_verify.specs.Verifying.{shelf_told}
use Rattle.plate_verify.proofs.Stepping.{sites_more, sites_stop, sites_all}
use Rattle.plate_verify.proofs.inks.verify_at_sites.Goals as goal

pub loop-site-preserved : goal.loop-site-preserved
loop-site-preserved g c = λ rows made.
    let below : c.loop-site.site < length c.args.edition.now.plan.now.sites = omega (arith, c.site_count-site-end.ensures.count) in
    let each = rw c.in-Ok-None.field-0-is at c.in-Ok-None.ensures in
    sites_more c.args.edition.now.plan.now rows c.args.edition.now.out.now (c.args.group.now, c.args.ink) c.loop-site.site (shelf_told g.H.Shelf c.args.shelf.now) (shelf_told g.H.Shelf c.loop-site.shelf) (shelf_told g.H.Shelf c.verify_at_site.new.shelf)
    below (c.loop-site.invariant rows made) (each rows made)

pub returns-in-Ok-Some : goal.returns-in-Ok-Some
returns-in-Ok-Some g c = λ rows made.
    let below : c.loop-site.site < length c.args.edition.now.plan.now.sites = omega (arith, c.site_count-site-end.ensures.count) in
    let each = rw c.in-Ok-Some.field-0-is at c.in-Ok-Some.ensures in
    sites_stop c.args.edition.now.plan.now rows c.args.edition.now.out.now (c.args.group.now, c.args.ink) c.loop-site.site (shelf_told g.H.Shelf c.args.shelf.now) (shelf_told g.H.Shelf c.loop-site.shelf) (shelf_told g.H.Shelf c.verify_at_site.new.shelf)
    (Ok (Some c.in-Ok-Some.found)) below (c.loop-site.invariant rows made) (each rows made) tt

pub returns-in-Err : goal.returns-in-Err
returns-in-Err g c = λ rows made.
    let below : c.loop-site.site < length c.args.edition.now.plan.now.sites = omega (arith, c.site_count-site-end.ensures.count) in
    sites_stop c.args.edition.now.plan.now rows c.args.edition.now.out.now (c.args.group.now, c.args.ink) c.loop-site.site (shelf_told g.H.Shelf c.args.shelf.now) (shelf_told g.H.Shelf c.loop-site.shelf) (shelf_told g.H.Shelf c.verify_at_site.new.shelf)
    (Err c.in-Err.fault) below (c.loop-site.invariant rows made) (c.in-Err.ensures rows made) tt

pub returns : goal.returns
returns g c = λ rows made.
    let past : length c.args.edition.now.plan.now.sites ≤ c.loop-site.site = omega (arith, c.site_count-site-end.ensures.count) in
    sites_all c.args.edition.now.plan.now rows c.args.edition.now.out.now (c.args.group.now, c.args.ink) c.loop-site.site (shelf_told g.H.Shelf c.args.shelf.now) (shelf_told g.H.Shelf c.loop-site.shelf)
    past (c.loop-site.invariant rows made)
