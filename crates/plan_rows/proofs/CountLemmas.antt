-- The number of pages of a section.
use Rattle.std.proofs.Common.{◌≡◌, ◌<◌, ◌%◌, ℕ, [], length, Option}
use Rattle.std.proofs.lemmas.Option.{slice_get-get_or}
use Rattle.std.proofs.lemmas.List.Elements.{All-get_or}
use Rattle.std.specs.Option.{option_map_or}
use Rattle.std.proofs.Common.{subst, sym}
use Rattle.plan_json.specs.Data.{PlanData, SectionData}
use Rattle.pr_base.specs.Number.{IsWithin}
use Rattle.plan_json.specs.Plan.{IsPlan, IsSection}
use Rattle.plan_pages.specs.Pages.{page_count}

-- an even number from 2 to 128
pub record HasCount (count : ℕ) : Type 0 where
  pub within : IsWithin 2 128 count
  pub even : count % 2 ≡ 0

pub section_count : (plan : PlanData) (section : ℕ) → IsPlan plan → section < length plan.sections → HasCount (page_count plan section)
section_count plan section is within =
    let any : SectionData = record { name = []; pages = [] } in
    let has = All-get_or (IsSection (length plan.pages)) plan.sections section any within is.sections in
    let P : Option SectionData → Type 0 = λ o. HasCount (length (option_map_or (λ s. s.pages) o [])) in
    subst P (sym (slice_get-get_or plan.sections section any within)) (record { within = has.count; even = has.even })
