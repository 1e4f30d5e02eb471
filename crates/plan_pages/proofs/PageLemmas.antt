-- A chosen page is one of the plan's pages.
use Rattle.std.proofs.Common.{ℕ, zero, suc, ◌-◌, ◌<◌, ◌≤◌, Bool, List, [], ◌∷◌, length, Option, Some, None, arith}
use Rattle.std.specs.Prelude.{IfSome, slice_get, All}
use Rattle.std.specs.List.{find}
use Rattle.std.specs.Option.{option_and_then, option_map_or}
use Rattle.std.proofs.lemmas.Bool.{cond_both}
use Rattle.std.proofs.lemmas.List.Elements.{All-nil, All-head, All-tail, All-get_or}
use Rattle.plan_json.specs.Data.{PlanData}
use Rattle.plan_json.specs.Plan.{IsPlan, IsSection, IsZone, IsReplace}
use Rattle.plan_pages.specs.Pages.{section_pages, page_count, replacements, is_for, chosen_page}

-- a fact about each element holds for the element at an index, if there is one
pub IfSome-slice_get : {X : Type 0} (P : X → Type 0) (xs : List X) (i : ℕ) → All P xs → IfSome (slice_get xs i) P
IfSome-slice_get P [] i each = tt
IfSome-slice_get P (x ∷ xs) zero each = All-head P x xs each
IfSome-slice_get P (x ∷ xs) (suc i) each = IfSome-slice_get P xs i (All-tail P x xs each)

-- and for the element found by a test, if there is one
pub IfSome-find : {X : Type 0} (P : X → Type 0) (test : X → Bool) (xs : List X) → All P xs → IfSome (find test xs) P
IfSome-find P test [] each = tt
IfSome-find {X} P test (x ∷ xs) each =
    cond_both {A = Option X} (test x) (Some x) (find test xs) (λ o. IfSome o P) (λ _. All-head P x xs each) (λ _. IfSome-find P test xs (All-tail P x xs each))

-- a fact about the mapped value and about the default
pub option_map_or-holds : {X Y : Type 0} (P : X → Type 0) (Q : Y → Type 0) (f : X → Y) (o : Option X) (y : Y) → IfSome o P → ((x : X) → P x → Q (f x)) → Q y → Q (option_map_or f o y)
option_map_or-holds P Q f None y has each none = none
option_map_or-holds P Q f (Some x) y has each none = each x has

pub section_pages-each : (plan : PlanData) (section : ℕ) → IsPlan plan → All (λ page. page < length plan.pages) (section_pages plan section)
section_pages-each plan section is =
    let each : ℕ → Type 0 = λ page. page < length plan.pages in
    let P : List ℕ → Type 0 = λ pages. All each pages in
    option_map_or-holds (IsSection (length plan.pages)) P (λ s. s.pages) (slice_get plan.sections section) []
    (IfSome-slice_get (IsSection (length plan.pages)) plan.sections section is.sections) (λ s has. has.pages) (All-nil each)

pub replacements-each : (plan : PlanData) (site : ℕ) → IsPlan plan → All (IsReplace (length plan.pages) plan.sections) (replacements plan site)
replacements-each plan site is =
    let each = IsReplace (length plan.pages) plan.sections in
    let zone : Option ℕ = option_and_then (λ s. s.zone) (slice_get plan.sites site) in
    elim zone as (λ o. All each (option_map_or (λ z. z.replace) (option_and_then (λ z. slice_get plan.zones z) o) [])) [
      | None ↦ All-nil each
      | Some z ↦ option_map_or-holds (IsZone (length plan.pages) plan.sections) (λ items. All each items) (λ zone. zone.replace) (slice_get plan.zones z) []
          (IfSome-slice_get (IsZone (length plan.pages) plan.sections) plan.zones z is.zones) (λ zone has. has.items) (All-nil each)
    ]

-- a chosen page is one of the plan's
pub chosen_page-within : (plan : PlanData) (site section page : ℕ) → IsPlan plan → 1 ≤ page → page ≤ page_count plan section → chosen_page plan site section page < length plan.pages
unfolding chosen_page
chosen_page-within plan site section page is first last =
    let each = IsReplace (length plan.pages) plan.sections in
    option_map_or-holds each (λ p. p < length plan.pages) (λ item. item.with) (find (is_for section page) (replacements plan site)) _
    (IfSome-find each (is_for section page) (replacements plan site) (replacements-each plan site is)) (λ item has. has.with)
    (All-get_or (λ p. p < length plan.pages) (section_pages plan section) (page - 1) 0 (omega arith) (section_pages-each plan section is))
