use Rattle.std.proofs.Common.{◌∷◌, [], length, ap, sym, ◌∙◌, arith}
use Rattle.std.proofs.lemmas.List.{length-append}
use Rattle.ring_run.specs.Seat.{counts_in}
use Rattle.ring_run.proofs.Running.{last_counts}
use Rattle.ring_run.proofs.ends.take_counts.Goals as goal

pub returns-clause-counts : goal.returns-clause-counts
returns-clause-counts g c =
    let front = c.pop.new.self.items in
    let last = c.in_ok-pop.field-0 in
    let items = c.in_ok-pop.ensures.items in
    let long = ap length items in
    let both = length-append front (last ∷ []) in
    let is = c.len.ensures in
    let ok = c.args.seats.now.ok.0 in
    let few = c.requires in
    let more = c.if-len-sites.false in
    c.into_counts.ensures ∙ ap counts_in c.into_role.ensures ∙ sym (last_counts c.args.seats.now.items front last c.args.sites items (omega (arith, long, both, is, ok, few, more)))
