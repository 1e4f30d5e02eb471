-- The site and group of another plan that a plate's path names: found by the names of the site and the
-- section, and by the pair.
use Rattle.std.specs.Prelude.{◌≡◌, ◌<◌, ◌≤◌, ℕ, Bool, false, IsTrue, List, [], length, slice_index_or}
use Rattle.plan_parts.specs.declared.printing.Screen.TheVariants.{Diffuse}
use Rattle.plan_json.specs.Data.{PlanData}
use Rattle.plan_rows.specs.declared.group.Group.{Group}
use Rattle.plan_rows.specs.Inks.{has_site}
use Rattle.plan_rows.specs.Groups.{groups_of}
use Rattle.plan_rows.specs.Paths.{site_name, section_name}
use Rattle.replate.specs.Inputs.{JobData}
use Rattle.replate.specs.Plates.{group_at, group_in}
use Rattle.replate.specs.Recipe.{page_recipe, screen_recipe, settings_of}

-- a group's section and pages are the plan's, and its pair is one of at most 64
pub record IsOfPlan (plan : PlanData) (group : Group) : Type 0 where
  pub section : group.section < length plan.sections
  pub pair : group.pair ≤ 64
  pub left : group.left < length plan.pages
  pub right : group.right < length plan.pages

-- the group with this index is of a section, a pair and a site
pub record IsGroupOf (groups : List Group) (section pair site index : ℕ) : Type 0 where
  pub within : index < length groups
  pub section_is : (group_in groups index).section ≡ section
  pub pair_is : (group_in groups index).pair ≡ pair
  pub of_site : IsTrue (has_site (group_in groups index) site)

-- a group of another plan at one of its sites: except for the edition, its plates there have the paths of the
-- plates of this group at this site
pub record StandsFor (plan : PlanData) (site : ℕ) (group : Group) (other : PlanData) (its index : ℕ)
    : Type 0 where
  pub site_within : its < length other.sites
  pub site_named : site_name other its ≡ site_name plan site
  pub within : index < length (groups_of other)
  pub section_named : section_name other (group_at other index).section ≡ section_name plan group.section
  pub pair_is : (group_at other index).pair ≡ group.pair
  pub of_site : IsTrue (has_site (group_at other index) its)

-- an old and a new group print the same two pages
pub record SamePages (before : JobData) (old : Group) (after : JobData) (new : Group) : Type 0 where
  pub left : page_recipe before.plan before.files old.left ≡ page_recipe after.plan after.files new.left
  pub right : page_recipe before.plan before.files old.right ≡ page_recipe after.plan after.files new.right

-- an old group at one of its sites corresponds to this new group at this site, and prints the same two pages
pub record Stays (before after : JobData) (site : ℕ) (group : Group) (its index : ℕ) : Type 0 where
  pub stands : StandsFor after.plan site group before.plan its index
  pub pages : SamePages before (group_at before.plan index) after group

-- for each site of a new group, whether some old group stays there
pub record AreKept (before after : JobData) (group : Group) (sites : ℕ) (row : List Bool) : Type 0 where
  pub stays : (site : ℕ) → site < sites → IsTrue (slice_index_or row site false)
      → (its : ℕ) × ((index : ℕ) × Stays before after site group its index)
  pub each : (site its index : ℕ) → site < sites → IsTrue (has_site group site)
      → Stays before after site group its index → IsTrue (slice_index_or row site false)

-- the same for each of the first new groups
pub record AreAllKept (before after : JobData) (groups : ℕ) (kept : List (List Bool)) : Type 0 where
  pub rows : (index : ℕ) → index < groups
      → AreKept before after (group_at after.plan index) (length after.plan.sites)
      (slice_index_or kept index [])

-- both plans have the same edition and settings, and screen the ink in this slot alike
pub record IsAlike (before after : PlanData) (slot : ℕ) : Type 0 where
  pub edition : before.edition ≡ after.edition
  pub settings : settings_of before ≡ settings_of after
  pub screen : screen_recipe before (slice_index_or before.screens slot Diffuse)
      ≡ screen_recipe after (slice_index_or after.screens slot Diffuse)
