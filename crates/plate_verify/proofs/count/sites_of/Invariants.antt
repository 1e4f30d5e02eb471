use Rattle.std.proofs.Common.{◌≡◌, ◌≤◌}
use Rattle.std.specs.Prelude.{count_by}
use Rattle.std.specs.List.{range_with_len}
use Rattle.plan_rows.specs.Inks.{has_site}
use Rattle.plate_verify.proofs.count.sites_of.Given as goal

abbrev pub invariant-loop-site : goal.invariant-loop-site
invariant-loop-site l = record {
  counted : l.count ≡ count_by (has_site l.group) (range_with_len 0 l.site);
  within : l.count ≤ l.site;
}
