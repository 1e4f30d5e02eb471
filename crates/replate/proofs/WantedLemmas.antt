-- Which plates of a site must be made: flags collected group by group, one for each plate of the site.
use Rattle.std.proofs.Common.{◌≡◌, ℕ, ◌+◌, ◌<◌, Bool, true, false, cond, if◌then◌else◌, List, [], ◌∷◌, ◌++◌, ◌≤◌, length, get_or, set, inl, inr, refl, ap, sym, subst, ◌∙◌, zero-add, arith}
use Rattle.std.specs.Prelude.{filter}
use Rattle.std.specs.List.{enumerate_from, flat_map, range_with_len}
use Rattle.std.proofs.lemmas.Bool.{cases_eq}
use Rattle.std.proofs.lemmas.Grind.{get_or-set_at}
use Rattle.std.proofs.lemmas.List.Folds.{list_any_at, list_any_none}
use Rattle.std.proofs.lemmas.List.FromFn.{get_or-range_with_len, length-range_with_len}
use Rattle.std.proofs.lemmas.List.{get_or_append_left, get_or_default, get_or_push, get_or-set_other}
use Rattle.std.proofs.lemmas.List.{length-append, length-map}
use Rattle.plan_json.specs.Data.{PlanData}
use Rattle.plan_rows.specs.declared.group.Group.{Group}
use Rattle.plan_rows.specs.Inks.{has_site, inks_of}
use Rattle.plan_rows.specs.Groups.{groups_of}
use Rattle.plan_rows.specs.Plates.{group_plates, site_plates}
use Rattle.pr_base.specs.declared.ink.Ink.{Ink}
use Rattle.pr_base.specs.Ink.{all_inks, slot_of}
use Rattle.pr_base.proofs.Inks.{ink_at_slot, slot_below, slot_tells}
use Rattle.replate.specs.Picks.{PicksData}
use Rattle.replate.specs.Plates.{group_at, ink_plates, plates_in, plates_of}
use Rattle.replate.specs.Remade.{is_picked, picked_bits}
use Rattle.replate.specs.Wanted.{AreWanted, made_for, some_made}

groups-count : (site k : ℕ) (groups : List Group) → length (flat_map (plates_in site) (enumerate_from k groups)) ≡ length (flat_map group_plates (filter (λ group. has_site group site) groups))
groups-count site k [] = refl
groups-count site k (group ∷ groups) = by (has_site group site) (groups-count site (k + 1) groups) where
  by : (b : Bool) → length (flat_map (plates_in site) (enumerate_from (k + 1) groups)) ≡ length (flat_map group_plates (filter (λ g. has_site g site) groups))
      → length ((if b then ink_plates site k (inks_of group) else []) ++ flat_map (plates_in site) (enumerate_from (k + 1) groups))
      ≡ length (flat_map group_plates (cond b (group ∷ filter (λ g. has_site g site) groups) (filter (λ g. has_site g site) groups)))
  by true next =
      length-append (ink_plates site k (inks_of group)) (flat_map (plates_in site) (enumerate_from (k + 1) groups))
      ∙ ap (λ n. n + length (flat_map (plates_in site) (enumerate_from (k + 1) groups))) (length-map (inks_of group) _ ∙ sym (length-map (inks_of group) (λ ink. (group, ink))))
      ∙ ap (λ n. length (group_plates group) + n) next
      ∙ sym (length-append (group_plates group) (flat_map group_plates (filter (λ g. has_site g site) groups)))
  by false next = next

-- there is a flag for each plate of the site
pub length-picked_bits : (picks : PicksData) (plan : PlanData) (site : ℕ) → length (picked_bits picks plan site) ≡ length (site_plates plan site)
unfolding plates_of site_plates
length-picked_bits picks plan site = length-map (plates_of plan site) (is_picked picks) ∙ groups-count site 0 (groups_of plan)

-- ---- plates that must be made for some site

pub some_found : (picks : PicksData) (group : Group) (index : ℕ) (ink : Ink) (site : ℕ) → site < 16 → made_for picks group index ink site ≡ true → true ≡ some_made picks group index ink
unfolding some_made
some_found picks group index ink site less made =
    sym (list_any_at (made_for picks group index ink) (range_with_len 0 16) site 0 (omega (arith, less, length-range_with_len 0 16))
    (ap (made_for picks group index ink) (get_or-range_with_len 0 16 site 0 less ∙ zero-add site) ∙ made))

pub none_found : (picks : PicksData) (group : Group) (index : ℕ) (ink : Ink) (n : ℕ) → 16 ≤ n → ((site : ℕ) → site < n → made_for picks group index ink site ≡ false) → false ≡ some_made picks group index ink
unfolding some_made
none_found picks group index ink n all none =
    sym (list_any_none (made_for picks group index ink) (range_with_len 0 16)
    (λ site d less.
    let inside : site < 16 = omega (arith, less, length-range_with_len 0 16) in
    ap (made_for picks group index ink) (get_or-range_with_len 0 16 site d inside ∙ zero-add site) ∙ none site (omega (arith, inside, all))))

-- the flags of the first inks of a group
pub record AreFlags (picks : PicksData) (group : Group) (index inks : ℕ) (flags : List Bool) : Type 0 where
  pub each : (k : ℕ) (d : Ink) → k < inks → get_or flags (slot_of (get_or all_inks k d)) false ≡ some_made picks group index (get_or all_inks k d)

pub flags_more : (picks : PicksData) (group : Group) (index i : ℕ) (e : Ink) (flags : List Bool) (at : ℕ) (bit : Bool) → i < 5 → length flags ≡ 5 → at ≡ slot_of (get_or all_inks i e)
    → bit ≡ some_made picks group index (get_or all_inks i e) → AreFlags picks group index i flags → AreFlags picks group index (i + 1) (set flags at bit)
flags_more picks group index i e flags at bit within long place is before = record {
  each = λ k d less.
      let other : Ink = get_or all_inks k d in
      let ink : Ink = get_or all_inks i e in
      elim (cases_eq (slot_of other) (slot_of ink)) [
        | inl same ↦
            get_or-set_at flags at (slot_of other) bit false (same ∙ sym place) (let below = slot_below ink in omega (arith, below, place, long))
            ∙ is ∙ ap (some_made picks group index) (sym (slot_tells other ink same))
        | inr differ ↦
            get_or-set_other flags at (slot_of other) bit false (λ same. differ (same ∙ place))
            ∙ elim (cases_eq k i) [
              | inl last ↦ absurd (differ (ap (λ j. slot_of (get_or all_inks j d)) last ∙ ap slot_of (get_or_default all_inks i d e within)))
              | inr apart ↦ before.each k d (let apart' : k ≡ i → ⊥ = apart in omega arith)
            ]
      ];
}

pub flags_all : (picks : PicksData) (group : Group) (index n : ℕ) (flags : List Bool) → 5 ≤ n → AreFlags picks group index n flags → (ink : Ink) → get_or flags (slot_of ink) false ≡ some_made picks group index ink
flags_all picks group index n flags all are ink =
    subst (λ (j : Ink). get_or flags (slot_of j) false ≡ some_made picks group index j) (ink_at_slot ink ink)
    (are.each (slot_of ink) ink (let below = slot_below ink in omega (arith, below, all)))

-- one group more
pub wanted_more : (picks : PicksData) (plan : PlanData) (n : ℕ) (flags new : List (List Bool)) (row : List Bool) (group : Group) → new ≡ flags ++ row ∷ [] → group ≡ group_at plan n
    → ((ink : Ink) → get_or row (slot_of ink) false ≡ some_made picks group n ink) → AreWanted picks plan n flags → AreWanted picks plan (n + 1) new
wanted_more picks plan n flags new row group items is own were = record {
  count_is = ap length items ∙ length-append flags (row ∷ []) ∙ ap (λ m. m + 1) were.count_is;
  each = λ index ink less.
      let count = were.count_is in
      let Row : List Bool → ℕ → Type 0 = λ r k. get_or r (slot_of ink) false ≡ some_made picks (group_at plan k) k ink in
      subst (λ (rows : List (List Bool)). Row (get_or rows index []) index) (sym items)
      (elim (cases_eq index n) [
        | inl last ↦
            subst (λ k. Row (get_or (flags ++ row ∷ []) k []) k) (sym last)
            (subst (λ (r : List Bool). Row r n) (sym (get_or_push flags row [] n count))
            (subst (λ (g : Group). get_or row (slot_of ink) false ≡ some_made picks g n ink) is (own ink)))
        | inr other ↦
            let within : index < n = (let apart : index ≡ n → ⊥ = other in omega arith) in
            subst (λ (r : List Bool). Row r index) (sym (get_or_append_left flags (row ∷ []) [] index (omega (arith, within, count)))) (were.each index ink within)
      ]);
}
