-- A site before the first row, and the groups of a plan.
use Rattle.std.proofs.Common.{◌≡◌, ℕ, ◌+◌, ◌<◌, List, [], ◌∷◌, length, get_or, replicate, sym, ap, subst, ◌∙◌, arith}
use Rattle.std.specs.Prelude.{All, filter}
use Rattle.std.specs.List.{flat_map, range_with_len}
use Rattle.std.specs.Option.{option_map_or}
use Rattle.std.proofs.lemmas.List.{get_or-map, get_or-replicate, length-map, length-replicate}
use Rattle.std.proofs.lemmas.List.Elements.{All-nil, All-cons, All-head, All-tail}
use Rattle.plan_json.specs.Data.{PlanData, plate_height}
use Rattle.plan_rows.specs.declared.group.Group.{Group}
use Rattle.plan_rows.specs.Groups.{group_of, is_first, site_pages, groups_of, section_groups, pair_groups, numbered, row_count}
use Rattle.plan_rows.proofs.GroupLemmas.{all_pieces}
use Rattle.tif_plate.specs.Plate.{strip_count}
use Rattle.plate_bytes.specs.Strips.{StripState}
use Rattle.site_agent.specs.Job.{SiteJob, sides_of, IsJob}
use Rattle.site_agent.specs.Given.{given, open_rows}
use Rattle.site_agent.specs.Site.{AreFresh, IsCounting}
use Rattle.site_agent.proofs.Givens.{given-none}
use Rattle.site_agent.proofs.Opens.{plate_at, closed, closed-cases, finished-is}
use Rattle.std.proofs.Common.{inl}

-- ---- groups

abbrev In : PlanData → Group → Type 0
In plan group = group.section < length plan.sections

pair-in : (plan : PlanData) (section pair : ℕ) → section < length plan.sections
    → All (In plan) (pair_groups plan section pair)
unfolding pair_groups group_of
pair-in plan section pair within k d less =
    let firsts : List ℕ = filter (is_first (site_pages plan section pair)) (range_with_len 0 (length plan.sites)) in
    let there = get_or-map (group_of plan section pair (site_pages plan section pair)) firsts k 0 d (omega (arith, length-map firsts (group_of plan section pair (site_pages plan section pair)))) in
    subst (λ (g : Group). In plan g) (sym there) within

section-in : (plan : PlanData) (section : ℕ) → section < length plan.sections
    → All (In plan) (section_groups plan section)
unfolding section_groups
section-in plan section within = all_pieces (In plan) (pair_groups plan section) 1 _ (λ pair low high. pair-in plan section pair within)

numbered-in : (plan : PlanData) (height from : ℕ) (groups : List Group) → All (In plan) groups
    → All (In plan) (numbered height from groups)
numbered-in plan height from [] all = All-nil (In plan)
numbered-in plan height from (group ∷ groups) all =
    All-cons (In plan) (record group { first = from }) (numbered height (from + row_count height group) groups) (All-head (In plan) group groups all) (numbered-in plan height (from + row_count height group) groups (All-tail (In plan) group groups all))

-- each group belongs to a section of the plan
pub groups-in : (plan : PlanData) → All (λ group. group.section < length plan.sections) (groups_of plan)
unfolding groups_of
groups-in plan = numbered-in plan (plate_height plan) 0 (flat_map (section_groups plan) (range_with_len 0 (length plan.sections))) (all_pieces (In plan) (section_groups plan) 0 (length plan.sections) (λ section low high. section-in plan section (omega arith)))

-- ---- the first row

open-start : (job : SiteJob) (slot : ℕ) → open_rows job 0 slot ≡ 0
open-start job slot =
    ap (λ p. option_map_or (λ q. given job.height q 0) p 0)
    (closed job 0 slot (λ j d less same. closed-cases job.height 0 (plate_at job j d) (inl (given-none job.height 0 (plate_at job j d) (omega arith)))))

pub counts-fresh : (job : SiteJob) (slots : List StripState) → IsJob job → AreFresh (sides_of job) slots
    → IsCounting job 0 0 slots
counts-fresh job slots is fresh = record {
  is = is;
  within = omega arith;
  finished = sym (finished-is job 0 0 (omega arith) (λ j d less. absurd (omega arith)) (λ j d from less. omega arith));
  slots = five;
  each = λ s d less.
      let inside : s < length slots = omega (arith, five) in
      let none : (get_or slots s d).next ≡ 0 = fresh.rows s d inside in
      record {
        rows = none ∙ sym (open-start job s);
        strips = ap length (sym (get_or-map (λ slot. slot.counts) slots s d [] inside) ∙ ap (λ list. get_or list s []) fresh.counts ∙ get_or-replicate 5 s (replicate (strip_count job.width job.height) 0) [] less)
            ∙ length-replicate {A = ℕ} (strip_count job.width job.height) 0;
        sides = fresh.sides s d inside;
      };
} where
  five : length slots ≡ 5
  five = sym (length-map slots (λ slot. slot.counts)) ∙ ap length fresh.counts ∙ length-replicate {A = List ℕ} 5 (replicate (strip_count job.width job.height) 0)
