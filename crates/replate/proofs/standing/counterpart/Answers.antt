use Rattle.std.proofs.Common.{◌≡◌, ℕ, List, sym, subst, ap, ◌∙◌}
use Rattle.std.specs.Prelude.{IsTrue}
use Rattle.plan_rows.specs.declared.group.Group.{Group}
use Rattle.plan_rows.specs.Inks.{has_site}
use Rattle.plan_rows.specs.Groups.{groups_of}
use Rattle.plan_rows.specs.Rows.{RowPlanData}
use Rattle.replate.specs.Plates.{group_at}
use Rattle.replate.specs.Standing.{IsGroupOf}
use Rattle.plan_rows.proofs.Names.{sites_apart, sections_apart}
use Rattle.replate.proofs.GroupLemmas.{group_in_plan}
use Rattle.replate.proofs.standing.counterpart.Goals as goal

pub returns-in_default-section_named-clause-none :
    goal.returns-in_default-section_named-clause-none
returns-in_default-section_named-clause-none c = λ its index stands.
    c.in_default-section_named.ensures.none (group_at c.args.other.now index).section
    (group_in_plan c.args.other.now index c.site_named.ensures.plan stands.within).section (stands.section_named ∙ sym c.section_name.ensures)

pub returns-in_default-group_of-clause-none : goal.returns-in_default-group_of-clause-none
returns-in_default-group_of-clause-none c = λ its index stands.
    let other = c.args.other.now in
    let is = c.site_named.ensures.plan in
    let of = group_in_plan other index is stands.within in
    let same_site : its ≡ c.in-Some.its =
    sites_apart other its c.in-Some.its is stands.site_within c.in-Some.ensures.found (stands.site_named ∙ sym c.site_name.ensures ∙ sym c.in-Some.ensures.named) in
    let section : (group_at other index).section ≡ c.in-Some-section_named.section =
    sections_apart other (group_at other index).section c.in-Some-section_named.section is of.section c.in-Some-section_named.ensures.found
    (stands.section_named ∙ sym c.section_name.ensures ∙ sym c.in-Some-section_named.ensures.named) in
    let groups : c.groups.result.now ≡ groups_of other = c.groups.ensures.groups ∙ ap {A = RowPlanData} (λ rows. rows.groups) c.requires.rows in
    let Of : List Group → Type 0 = λ all. IsGroupOf all c.in-Some-section_named.section c.args.group.now.pair c.in-Some.its index in
    let At : ℕ → Type 0 = λ site. IsTrue (has_site (group_at other index) site) in
    c.in_default-group_of.ensures.none index (subst Of (sym groups) (record {
      within = stands.within;
      section_is = section;
      pair_is = stands.pair_is;
      of_site = subst At same_site stands.of_site;
    }))
