-- The rows that an ink has then are of the same side and job.
use Rattle.std.proofs.Common.{◌<◌, length, ap, sym, subst, ◌∙◌}
use Rattle.press_feed.specs.SideRows.{SideRowsData}
use Rattle.press_feed.proofs.SideRowsLemmas.{item_of, sides_set}
use Rattle.press_feed.proofs.side_rows.SideRows.exchange_rows.Goals as goal

pub exchange-requires : goal.exchange-requires
exchange-requires c =
    let s = c.self.inside in
    let of = item_of s.job.now s.side s.inks.items c.args.index c.index_mut.result.now c.self.invariant.each (subst {A = SideRowsData} (λ r. c.args.index < length r.inks) (sym c.self.view_is) c.requires.index) c.index_mut.ensures.value in
    c.requires.rows ∙ ap {A = SideRowsData} (λ r. r.job) (sym c.self.view_is) ∙ sym of.job_is

pub invariant_of-self : goal.invariant_of-self
invariant_of-self c =
    let s = c.self.inside in
    let of = item_of s.job.now s.side s.inks.items c.args.index c.index_mut.result.now c.self.invariant.each (subst {A = SideRowsData} (λ r. c.args.index < length r.inks) (sym c.self.view_is) c.requires.index) c.index_mut.ensures.value in
    record {
      job_is = c.self.invariant.job_is;
      each = sides_set s.job.now s.side s.inks.items c.args.index c.exchange.new.self c.self.invariant.each
          (record { job_is = c.exchange.ensures.like.job_is ∙ of.job_is; side_is = c.exchange.ensures.like.side_is ∙ of.side_is });
    }

pub returns-clause-rows : goal.returns-clause-rows
returns-clause-rows c =
    let s = c.self.inside in
    let of = item_of s.job.now s.side s.inks.items c.args.index c.index_mut.result.now c.self.invariant.each (subst {A = SideRowsData} (λ r. c.args.index < length r.inks) (sym c.self.view_is) c.requires.index) c.index_mut.ensures.value in
    c.exchange.ensures.rows ∙ of.job_is ∙ ap {A = SideRowsData} (λ r. r.job) c.self.view_is
