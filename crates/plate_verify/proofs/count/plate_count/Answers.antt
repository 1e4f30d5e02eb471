use Rattle.std.proofs.Common.{◌*◌, sym, ap, ◌∙◌}
use Rattle.std.specs.Prelude.{count_by}
use Rattle.std.specs.List.{range_with_len}
use Rattle.plan_rows.specs.Inks.{has_site, ink_count}
use Rattle.plate_verify.proofs.CountLemmas.{group-count}
use Rattle.plate_verify.proofs.count.plate_count.Goals as goal

pub returns-clause-count : goal.returns-clause-count
returns-clause-count c =
    ap (λ n. n * c.sites_of.result) c.ink_number.ensures.count
    ∙ ap (λ n. ink_count c.args.group.now * n) (c.sites_of.ensures.count ∙ ap (λ n. count_by (has_site c.args.group.now) (range_with_len 0 n)) c.site_count.ensures.count)
    ∙ sym (group-count c.args.plan.now c.args.group.now)
