-- Two jobs print a section alike at a site: each plate of it there has one of the same path and recipe in the
-- other job.
use Rattle.std.proofs.Common.{◌≡◌, ℕ, zero, suc, ◌+◌, ◌-◌, ◌*◌, ◌/◌, ◌<◌, ◌≤◌, Bool, true, false, cond, eqb, List, [], ◌∷◌, length, map, get_or, take, refl, ap, sym, subst, ◌∙◌, inl, inr, zero-add, length-take, get_or-take, arith}
use Rattle.std.specs.Prelude.{filter, ◌&&◌, ◌||◌}
use Rattle.std.specs.List.{flat_map, list_any, range_with_len}
use Rattle.std.proofs.lemmas.Bool.{and_from, and_parts, cases_Bool, eq-eqb, eqb-true, not_from_false}
use Rattle.std.proofs.lemmas.List.Folds.{list_any_at}
use Rattle.std.proofs.lemmas.List.FromFn.{get_or-range_with_len, length-range_with_len}
use Rattle.plan_json.specs.Data.{PlanData, plate_height}
use Rattle.pr_base.specs.Ink.{slot_of}
use Rattle.plan_pages.specs.Pages.{page_count}
use Rattle.plan_rows.specs.declared.group.Group.{Group}
use Rattle.plan_rows.specs.Groups.{group_of, groups_of, is_first, numbered, page_colour, page_spot, pages_at, pages_of, pair_groups, row_count, same_pages, section_groups, site_pages}
use Rattle.plan_rows.specs.Inks.{has_site, inks_of}
use Rattle.plan_rows.specs.Paths.{section_name, site_name}
use Rattle.plan_rows.proofs.GroupLemmas.{inks_by, site_pages-size}
use Rattle.plan_rows.proofs.SitesOf.{has_site_is, pair_decides}
use Rattle.replate.specs.Picks.{MustMake, recipe_at}
use Rattle.replate.specs.Plates.{PlateAt, group_at, group_in, path_below}
use Rattle.replate.specs.Recipe.{PageRecipe, page_recipe, recipe_of}
use Rattle.replate.proofs.GroupLemmas.{group_in_plan}
use Rattle.plan_rows.proofs.Names.{paths_same}
use Rattle.replate.proofs.PlateLemmas.{any-flat_map, some_at}
use Rattle.replate_law.specs.Part.{HasPlate, IsPlateIn, IsSectionAt, PrintAlike, SectionAt}
use Rattle.replate_law.proofs.Printed.{file_by, file_is}

-- ---- a group of each pair at each site

any_kept : {X Y : Type 0} (p : Y → Bool) (test : X → Bool) (f : X → Y) (xs : List X) → list_any p (map f (filter test xs)) ≡ list_any (λ x. test x && p (f x)) xs
any_kept p test f [] = refl
any_kept p test f (x ∷ xs) = go (test x) (any_kept p test f xs)
  where
    go : (b : Bool) → list_any p (map f (filter test xs)) ≡ list_any (λ z. test z && p (f z)) xs
        → list_any p (map f (cond b (x ∷ filter test xs) (filter test xs))) ≡ ((b && p (f x)) || list_any (λ z. test z && p (f z)) xs)
    go true rest = ap (λ b. p (f x) || b) rest
    go false rest = rest

-- the first site that prints the same pages as a site
record FirstLike (pages : List (ℕ × ℕ)) (site : ℕ) : Type 0 where
  at : ℕ
  before : at ≤ site
  first : is_first pages at ≡ true
  alike : same_pages (pages_of pages at) (pages_of pages site) ≡ true

first_like : (pages : List (ℕ × ℕ)) (most site : ℕ) → site < most → FirstLike pages site
first_like pages zero site low = absurd (omega arith)
first_like pages (suc most) site low =
    let own = pages_of pages site in
    elim (cases_Bool (list_any (same_pages own) (take site pages))) [
      | inl some ↦
          let at = some_at (same_pages own) (take site pages) (0, 0) some in
          let less : at.0 < site = (let within = at.1 in omega (arith, length-take site pages)) in
          let there : same_pages own (pages_of pages at.0) ≡ true = sym (ap (same_pages own) (get_or-take site pages at.0 (0, 0) less)) ∙ at.2 in
          let rest = first_like pages most at.0 (omega arith) in
          let before = rest.before in
          record {
            at = rest.at;
            before = omega arith;
            first = rest.first;
            alike = (pair_decides (pages_of pages rest.at) own).1 ((pair_decides (pages_of pages rest.at) (pages_of pages at.0)).0 rest.alike ∙ sym ((pair_decides own (pages_of pages at.0)).0 there));
          }
      | inr none ↦ record { at = site; before = omega arith; first = not_from_false _ none; alike = (pair_decides own own).1 refl }
    ]

-- whether a group has this section and this pair and includes this site
abbrev is_at : ℕ → ℕ → ℕ → Group → Bool
is_at section pair site group = (eqb group.section section && eqb group.pair pair) && has_site group site

group_is_at : (plan : PlanData) (section pair : ℕ) (pages : List (ℕ × ℕ)) (first site : ℕ) → site < length pages → same_pages (pages_of pages first) (pages_of pages site) ≡ true
    → is_at section pair site (group_of plan section pair pages first) ≡ true
unfolding group_of
group_is_at plan section pair pages first site low alike =
    and_from (eqb section section && eqb pair pair) (has_site (group_of plan section pair pages first) site)
    (and_from (eqb section section) (eqb pair pair) (eq-eqb section section refl) (eq-eqb pair pair refl))
    (has_site_is plan section pair pages first site low ∙ alike)

in_pair : (plan : PlanData) (section pair site : ℕ) → site < length plan.sites → list_any (is_at section pair site) (pair_groups plan section pair) ≡ true
unfolding pair_groups
in_pair plan section pair site low =
    let pages = site_pages plan section pair in
    let of : ℕ → Group = group_of plan section pair pages in
    let sites = range_with_len 0 (length plan.sites) in
    let first = first_like pages (suc site) site (omega arith) in
    let before = first.before in
    let test : ℕ → Bool = λ s. is_first pages s && is_at section pair site (of s) in
    let here : test first.at ≡ true =
    and_from (is_first pages first.at) (is_at section pair site (of first.at)) first.first (group_is_at plan section pair pages first.at site (omega (arith, site_pages-size plan section pair)) first.alike) in
    any_kept (is_at section pair site) (is_first pages) of sites
    ∙ list_any_at test sites first.at 0 (omega (arith, length-range_with_len 0 (length plan.sites)))
    (ap test (get_or-range_with_len 0 (length plan.sites) first.at 0 (omega arith) ∙ zero-add first.at) ∙ here)

in_section : (plan : PlanData) (section pair site : ℕ) → 1 ≤ pair → 2 * pair ≤ page_count plan section → site < length plan.sites
    → list_any (is_at section pair site) (section_groups plan section) ≡ true
unfolding section_groups
in_section plan section pair site first last low =
    let test : ℕ → Bool = λ p. list_any (is_at section pair site) (pair_groups plan section p) in
    let pairs = page_count plan section / 2 in
    let at : get_or (range_with_len 1 pairs) (pair - 1) 0 ≡ 1 + (pair - 1) = get_or-range_with_len 1 pairs (pair - 1) 0 (omega arith) in
    let is : get_or (range_with_len 1 pairs) (pair - 1) 0 ≡ pair = omega arith in
    any-flat_map (is_at section pair site) (pair_groups plan section) (range_with_len 1 pairs)
    ∙ list_any_at test (range_with_len 1 pairs) (pair - 1) 0 (omega (arith, length-range_with_len 1 pairs))
    (ap test is ∙ in_pair plan section pair site low)

-- numbering the first rows does not affect the test
any_numbered : (section pair site height from : ℕ) (groups : List Group) → list_any (is_at section pair site) (numbered height from groups) ≡ list_any (is_at section pair site) groups
any_numbered section pair site height from [] = refl
any_numbered section pair site height from (group ∷ groups) =
    ap (λ b. is_at section pair site group || b) (any_numbered section pair site height (from + row_count height group) groups)

in_groups : (plan : PlanData) (section pair site : ℕ) → section < length plan.sections → 1 ≤ pair → 2 * pair ≤ page_count plan section → site < length plan.sites
    → list_any (is_at section pair site) (groups_of plan) ≡ true
unfolding groups_of
in_groups plan section pair site within first last low =
    let test : ℕ → Bool = λ s. list_any (is_at section pair site) (section_groups plan s) in
    let sections = range_with_len 0 (length plan.sections) in
    any_numbered section pair site (plate_height plan) 0 (flat_map (section_groups plan) sections)
    ∙ any-flat_map (is_at section pair site) (section_groups plan) sections
    ∙ list_any_at test sections section 0 (omega (arith, length-range_with_len 0 (length plan.sections)))
    (ap test (get_or-range_with_len 0 (length plan.sections) section 0 within ∙ zero-add section) ∙ in_section plan section pair site first last low)

-- the group that a site prints for this section and pair
record GroupFor (plan : PlanData) (section pair site : ℕ) : Type 0 where
  index : ℕ
  within : index < length (groups_of plan)
  section_is : (group_at plan index).section ≡ section
  pair_is : (group_at plan index).pair ≡ pair
  of_site : has_site (group_at plan index) site ≡ true

group_for : (plan : PlanData) (section pair site : ℕ) → section < length plan.sections → 1 ≤ pair → 2 * pair ≤ page_count plan section → site < length plan.sites
    → GroupFor plan section pair site
group_for plan section pair site within first last low =
    let found = some_at (is_at section pair site) (groups_of plan) (group_in [] 0) (in_groups plan section pair site within first last low) in
    let group = group_at plan found.0 in
    let parts = and_parts (eqb group.section section && eqb group.pair pair) (has_site group site) found.2 in
    let place = and_parts (eqb group.section section) (eqb group.pair pair) parts.0 in
    record {
      index = found.0;
      within = found.1;
      section_is = eqb-true group.section section place.0;
      pair_is = eqb-true group.pair pair place.1;
      of_site = parts.1;
    }

-- ---- plates of a section at a site

-- the plate with the same ink, path and recipe
record Twin (a b : SectionAt) (plate : PlateAt) : Type 0 where
  own : PlateAt
  is : IsPlateIn a own
  ink : own.ink ≡ plate.ink
  path : path_below a.job.plan own ≡ path_below b.job.plan plate
  recipe : recipe_at a.job own ≡ recipe_at b.job plate

twin : (a b : SectionAt) (plate : PlateAt) → IsSectionAt a → IsSectionAt b → PrintAlike a b → IsPlateIn b plate → Twin a b plate
unfolding page_recipe recipe_of
twin a b plate a_is b_is alike is =
    let whole = a.job.plan in
    let part = b.job.plan in
    let new = group_at part plate.group in
    let new_tells = group_in_plan part plate.group b_is.plan is.is.group in
    let first = new_tells.first in
    let within : 2 * new.pair ≤ page_count part b.section =
    subst {A = ℕ} (λ s. 2 * new.pair ≤ page_count part s) is.section new_tells.last in
    let count = alike.count in
    let last : 2 * new.pair ≤ page_count whole a.section = omega arith in
    let found = group_for whole a.section new.pair a.site a_is.section first last a_is.site in
    let old = group_at whole found.index in
    let old_tells = group_in_plan whole found.index a_is.plan found.within in
    let of_site : has_site new b.site ≡ true = subst {A = ℕ} (λ s. has_site new s ≡ true) is.site is.is.of_site in
    let old_pages : pages_at whole a.section new.pair a.site ≡ (old.left, old.right) =
    ap (λ s. pages_at whole s new.pair a.site) (sym found.section_is) ∙ ap (λ p. pages_at whole old.section p a.site) (sym found.pair_is)
    ∙ old_tells.pages a.site a_is.site found.of_site in
    let new_pages : pages_at part b.section new.pair b.site ≡ (new.left, new.right) =
    ap (λ s. pages_at part s new.pair b.site) (sym is.section) ∙ new_tells.pages b.site b_is.site of_site in
    let left : page_recipe whole a.job.files old.left ≡ page_recipe part b.job.files new.left =
    ap {A = ℕ × ℕ} (λ p. page_recipe whole a.job.files p.0) (sym old_pages) ∙ alike.left new.pair first last ∙ ap {A = ℕ × ℕ} (λ p. page_recipe part b.job.files p.0) new_pages in
    let right : page_recipe whole a.job.files old.right ≡ page_recipe part b.job.files new.right =
    ap {A = ℕ × ℕ} (λ p. page_recipe whole a.job.files p.1) (sym old_pages) ∙ alike.right new.pair first last ∙ ap {A = ℕ × ℕ} (λ p. page_recipe part b.job.files p.1) new_pages in
    let colour : old.colour ≡ new.colour =
    old_tells.colour ∙ ap {A = PageRecipe} (λ l. l.colour || page_colour whole old.right) left ∙ ap {A = PageRecipe} (λ r. page_colour part new.left || r.colour) right ∙ sym new_tells.colour in
    let spot : old.spot ≡ new.spot =
    old_tells.spot ∙ ap {A = PageRecipe} (λ l. l.spot || page_spot whole old.right) left ∙ ap {A = PageRecipe} (λ r. page_spot part new.left || r.spot) right ∙ sym new_tells.spot in
    let inks : inks_of old ≡ inks_of new = inks_by old new colour spot in
    let ink = alike.inks plate.ink in
    record {
      own = record { site = a.site; group = found.index; ink = plate.ink };
      is = record {
        is = record {
          site = a_is.site;
          group = found.within;
          of_site = found.of_site;
          of_ink = ap (λ all. list_any (λ i. eqb (slot_of i) (slot_of plate.ink)) all) inks ∙ is.is.of_ink;
        };
        site = refl;
        section = found.section_is;
      };
      ink = refl;
      path = paths_same whole part a.site plate.site old new plate.ink plate.ink
          (record {
            site_named = alike.site_named ∙ ap (site_name part) (sym is.site);
            edition = ink.edition;
            section_named = ap (section_name whole) found.section_is ∙ alike.section_named ∙ ap (section_name part) (sym is.section);
            pair_is = found.pair_is;
            ink_is = refl;
          });
      recipe = λ i. record { settings = ink.settings i; screen = ink.screen i; left = left i; right = right i };
    }

-- ---- the clauses of the law

pub turned : (a b : SectionAt) → PrintAlike a b → PrintAlike b a
turned a b alike =
    let count = alike.count in
    record {
      inks = λ ink. (let one = alike.inks ink in record { edition = sym one.edition; settings = sym one.settings; screen = sym one.screen });
      site_named = sym alike.site_named;
      section_named = sym alike.section_named;
      count = sym alike.count;
      left = λ pair first last. sym (alike.left pair first (omega arith));
      right = λ pair first last. sym (alike.right pair first (omega arith));
    }

pub unmade : (whole part : SectionAt) (plate : PlateAt) → IsSectionAt whole → IsSectionAt part → PrintAlike whole part → IsPlateIn part plate → MustMake whole.job part.job plate → ⊥
unmade whole part plate whole_is part_is alike is must =
    let old = twin whole part plate whole_is part_is alike is in
    must old.own old.is.is old.path old.recipe

pub same : (whole part : SectionAt) (plate : PlateAt) → IsSectionAt whole → IsSectionAt part → PrintAlike whole part → IsPlateIn part plate → HasPlate whole part.job plate
same whole part plate whole_is part_is alike is =
    let old = twin whole part plate whole_is part_is alike is in
    record {
      own = old.own;
      is = old.is;
      path = old.path;
      bytes = file_is whole.job old.own whole_is.plan old.is.is
          ∙ ap (λ r. file_by r old.own.ink) old.recipe ∙ ap (λ i. file_by (recipe_at part.job plate) i) old.ink
          ∙ sym (file_is part.job plate part_is.plan is.is);
    }
