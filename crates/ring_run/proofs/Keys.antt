-- A key reader before the first row of a run and after the last.
use Rattle.std.proofs.Common.{◌≡◌, ℕ, List, length, sym, ap, subst, ◌∙◌}
use Rattle.plan_json.specs.Data.{PlanData, plate_width}
use Rattle.plan_rows.specs.Groups.{groups_of}
use Rattle.plan_rows.specs.Rows.{RowPlanData, rows_of}
use Rattle.ring_rule.specs.declared.view.RingNumbers.{RingNumbers}
use Rattle.ink_keys.specs.Counts.{CountsData, IsBounded, no_counts}
use Rattle.ink_keys.specs.Plates.{AreKeyCounts, CountsPlan}
use Rattle.ink_keys.specs.Turn.{CountsRows, KeyReaderData}
use Rattle.ink_keys.proofs.Plates.{bounded-first, plates-are}
use Rattle.ink_keys.proofs.Turning.{none-counted}
use Rattle.ring_run.specs.Keyed.{IsFreshKey, KeysFit}
use Rattle.ring_run.specs.Served.{Carries, IsCounting, Work, first_counts}
use Rattle.ring_run.proofs.Serving.{rows_are, rows_of_ring, total_is}

-- a key reader made for a plan is fresh
pub fresh_key : (plan : PlanData) (rows : RowPlanData) (width number : ℕ) (counts : CountsData) (key : KeyReaderData) → key ≡ record { rows = rows; counts = counts } → rows ≡ rows_of plan
    → counts ≡ no_counts (length rows.groups) width number → width ≡ plate_width plan → IsFreshKey plan key
fresh_key plan rows width number counts key same rows-is counts-is width-is =
    let own : key.counts ≡ no_counts (length rows.groups) width number = ap (λ (x : KeyReaderData). x.counts) same ∙ counts-is in
    record {
      rows_are = ap (λ (x : KeyReaderData). x.rows) same ∙ rows-is;
      zeros = own ∙ ap (λ (p : RowPlanData). no_counts (length p.groups) width number) rows-is ∙ ap (λ n. no_counts (length (groups_of plan)) n number) width-is
          ∙ ap (λ n. no_counts (length (groups_of plan)) (plate_width plan) n) (sym (ap (λ (c : CountsData). c.keys) own));
    }

-- before the first row it has counted no row
pub counting_first : (work : Work) (ring : RingNumbers) (key : KeyReaderData) → IsFreshKey work.delivery.plan key → key.counts.keys ≡ work.keys → IsCounting work ring 0 key
counting_first work ring key fresh keys =
    let zeros : key.counts ≡ first_counts work.delivery.plan work.keys = fresh.zeros ∙ ap (λ n. first_counts work.delivery.plan n) keys in
    record {
      rows = fresh.rows_are;
      bounded = subst (λ (c : CountsData). IsBounded c 0) (sym zeros) (bounded-first (length (groups_of work.delivery.plan)) (plate_width work.delivery.plan) work.keys);
      counted = subst (λ (c : CountsData). CountsRows (rows_of work.delivery.plan) ring 0 0 (first_counts work.delivery.plan work.keys) c) (sym zeros) (none-counted (rows_of work.delivery.plan) ring 0 (first_counts work.delivery.plan work.keys));
    }

-- after the last row its counts fit
pub counts_fit : (work : Work) (ring : RingNumbers) (key : KeyReaderData) → Carries work.delivery ring → IsCounting work ring ring.total key → KeysFit work.delivery.plan work.delivery.rows work.keys key.counts
counts_fit work ring key carries is =
    let plan = work.delivery.plan in
    let keys : key.counts.keys ≡ work.keys = ap (λ (c : CountsData). c.keys) is.counted.same in
    let counts : CountsPlan plan ring key.counts = record {
      is_plan = carries.plan_is;
      rows = rows_of_ring work.delivery ring carries;
      total = total_is work.delivery ring carries;
      counted = subst (λ (n : ℕ). CountsRows (rows_of plan) ring 0 ring.total (first_counts plan n) key.counts) (sym keys) is.counted;
    } in
    record {
      groups_are = ap (λ (c : CountsData). c.groups) is.counted.same;
      width_is = ap (λ (c : CountsData). c.width) is.counted.same;
      keys_are = keys;
      each = subst (λ (list : List (List ℕ)). AreKeyCounts plan list key.counts) (rows_are work.delivery ring carries) (plates-are plan ring key.counts counts);
    }
