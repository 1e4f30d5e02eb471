-- A section as a site prints it, compared between two jobs: an edition and a part of it.
use Rattle.std.specs.Prelude.{◌≡◌, ◌<◌, ◌≤◌, ◌*◌, ℕ, length}
use Rattle.pr_base.specs.declared.ink.Ink.{Ink}
use Rattle.plan_json.specs.Plan.{IsPlan}
use Rattle.pr_base.specs.Ink.{slot_of}
use Rattle.plan_pages.specs.Pages.{page_count}
use Rattle.plan_rows.specs.Groups.{pages_at}
use Rattle.plan_rows.specs.Paths.{site_name, section_name}
use Rattle.replate.specs.Inputs.{JobData}
use Rattle.replate.specs.Plates.{PlateAt, IsPlateOf, group_at, path_below}
use Rattle.replate.specs.Recipe.{PageRecipe, page_recipe}
use Rattle.replate.specs.Standing.{IsAlike}
use Rattle.replate_law.specs.Law.{bytes_of_plate}

-- a section of a job at a site
pub record SectionAt : Type 0 where
  pub job : JobData
  pub site : ℕ
  pub section : ℕ

-- the plan is valid, and has the site and the section
pub record IsSectionAt (at : SectionAt) : Type 0 where
  pub plan : IsPlan at.job.plan
  pub site : at.site < length at.job.plan.sites
  pub section : at.section < length at.job.plan.sections

-- the recipes of the left and the right page that the site prints for a pair of the section
abbrev pub left_page : SectionAt → ℕ → PageRecipe
left_page at pair =
    page_recipe at.job.plan at.job.files (pages_at at.job.plan at.section pair at.site).0

abbrev pub right_page : SectionAt → ℕ → PageRecipe
right_page at pair =
    page_recipe at.job.plan at.job.files (pages_at at.job.plan at.section pair at.site).1

-- two jobs print a section alike at a site: the edition, settings and screens, the names of the site and of
-- the section, and the page count are the same, and each pair has the same two pages. Other sections, sites
-- and zones of either job do not matter
pub record PrintAlike (a b : SectionAt) : Type 0 where
  pub inks : (ink : Ink) → IsAlike a.job.plan b.job.plan (slot_of ink)
  pub site_named : site_name a.job.plan a.site ≡ site_name b.job.plan b.site
  pub section_named : section_name a.job.plan a.section ≡ section_name b.job.plan b.section
  pub count : page_count a.job.plan a.section ≡ page_count b.job.plan b.section
  pub left : (pair : ℕ) → 1 ≤ pair → 2 * pair ≤ page_count a.job.plan a.section
      → left_page a pair ≡ left_page b pair
  pub right : (pair : ℕ) → 1 ≤ pair → 2 * pair ≤ page_count a.job.plan a.section
      → right_page a pair ≡ right_page b pair

-- for each section, as job b prints it at its site, job a prints a section alike at this site
pub record SitePrints (a : JobData) (site : ℕ) (b : JobData) (its : ℕ) : Type 0 where
  pub each : (section : ℕ) → section < length b.plan.sections → (own : ℕ) × (own < length a.plan.sections)
      × PrintAlike (record { job = a; site = site; section = own })
      (record { job = b; site = its; section = section })

-- a plate of the section at the site
pub record IsPlateIn (at : SectionAt) (plate : PlateAt) : Type 0 where
  pub is : IsPlateOf at.job.plan plate
  pub site : plate.site ≡ at.site
  pub section : (group_at at.job.plan plate.group).section ≡ at.section

-- some plate of the section at the site has the path and the bytes of a plate of another job
pub record HasPlate (at : SectionAt) (job : JobData) (plate : PlateAt) : Type 0 where
  pub own : PlateAt
  pub is : IsPlateIn at own
  pub path : path_below at.job.plan own ≡ path_below job.plan plate
  pub bytes : bytes_of_plate at.job own ≡ bytes_of_plate job plate
