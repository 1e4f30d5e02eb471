-- The numbers of plates and rows that a site has.
use Rattle.std.proofs.Common.{◌≡◌, ℕ, suc, ◌+◌, ◌*◌, ◌<◌, Bool, true, false, cond, if◌then◌else◌, List, [], ◌∷◌, ◌++◌, length, map, filter, take, get_or, refl, sym, ap, ◌∙◌, zero-add, append-nil, arith}
use Rattle.std.specs.Prelude.{count_by, slice_get}
use Rattle.std.specs.List.{enumerate_from, flat_map, range_with_len}
use Rattle.std.specs.Option.{option_map_or}
use Rattle.std.proofs.lemmas.Grind.{flat_map-append}
use Rattle.std.proofs.lemmas.List.{length-append, length-map}
use Rattle.std.proofs.lemmas.List.Elements.{filter_more}
use Rattle.std.proofs.lemmas.List.FromFn.{length-range_with_len}
use Rattle.std.proofs.lemmas.List.Sums.{sum_by-append, sum_by-cons}
use Rattle.pr_base.specs.declared.ink.Ink.{Ink}
use Rattle.plan_json.specs.Data.{PlanData, plate_height}
use Rattle.plan_rows.specs.declared.group.Group.{Group}
use Rattle.plan_rows.specs.declared.place.RowPlace.{RowPlace}
use Rattle.plan_rows.specs.Groups.{groups_of}
use Rattle.plan_rows.specs.Inks.{has_site, ink_count, inks_of}
use Rattle.plan_rows.specs.Plates.{group_plates, site_plates}
use Rattle.plan_rows.specs.Rows.{group_rows, is_of, keeps_row, place_of, places_in, row_places}
use Rattle.ring_run.specs.Fits.{kept_rows}
use Rattle.ring_run.specs.Served.{plates_in}

-- ---- plates, group by group

one-group : (b : Bool) (group : Group) → length (flat_map group_plates (cond b (group ∷ []) [])) ≡ (if b then ink_count group else 0)
one-group true group = ap length (append-nil (group_plates group)) ∙ length-map (inks_of group) (λ ink. (group, ink))
one-group false group = refl

-- one more group
pub plates_more : (groups : List Group) (site i : ℕ) (d : Group) → i < length groups
    → length (plates_in (take (i + 1) groups) site) ≡ length (plates_in (take i groups) site) + (if has_site (get_or groups i d) site then ink_count (get_or groups i d) else 0)
plates_more groups site i d within =
    let before : List Group = filter (λ group. has_site group site) (take i groups) in
    let more : List Group = cond (has_site (get_or groups i d) site) (get_or groups i d ∷ []) [] in
    ap (λ list. length (flat_map group_plates list)) (filter_more (λ group. has_site group site) groups i d within)
    ∙ ap length (flat_map-append group_plates before more)
    ∙ length-append (flat_map group_plates before) (flat_map group_plates more)
    ∙ ap (λ n. length (flat_map group_plates before) + n) (one-group (has_site (get_or groups i d) site) (get_or groups i d))

-- ---- rows

count_by-cons : {X : Type 0} (p : X → Bool) (x : X) (xs : List X) → count_by p (x ∷ xs) ≡ cond (p x) 1 0 + count_by p xs
count_by-cons p x xs = sum_by-cons (λ y. cond (p y) 1 0) x xs

count_by-append : {X : Type 0} (p : X → Bool) (xs ys : List X) → count_by p (xs ++ ys) ≡ count_by p xs + count_by p ys
count_by-append p xs ys = sum_by-append (λ y. cond (p y) 1 0) xs ys

-- counting numbers by the elements of a list at these indexes is counting the elements
count-numbers : {X : Type 0} (p : X → Bool) (f : ℕ → Bool) (xs : List X) (k : ℕ) → ((i : ℕ) → f (k + i) ≡ option_map_or p (slice_get xs i) false)
    → count_by f (range_with_len k (length xs)) ≡ count_by p xs
count-numbers p f [] k alike = refl
count-numbers p f (x ∷ xs) k alike =
    count_by-cons f k (range_with_len (k + 1) (length xs))
    ∙ ap (λ b. cond b 1 0 + count_by f (range_with_len (k + 1) (length xs))) (ap f (let e : k ≡ k + 0 = omega arith in e) ∙ alike 0)
    ∙ ap (λ n. cond (p x) 1 0 + n) (count-numbers p f xs (k + 1) (λ i. ap f (let e : (k + 1) + i ≡ k + suc i = omega arith in e) ∙ alike (suc i)))
    ∙ sym (count_by-cons p x xs)

-- either all rows of one group are kept, or none
kept_row : (groups : List Group) (site index y : ℕ) (b : Bool) (inks : List Ink) → is_of groups site index ≡ b
    → count_by (λ place. is_of groups site place.group) (map (place_of index y) inks) ≡ cond b (length inks) 0
kept_row groups site index y true [] is = refl
kept_row groups site index y false [] is = refl
kept_row groups site index y b (ink ∷ inks) is =
    count_by-cons (λ place. is_of groups site place.group) (place_of index y ink) (map (place_of index y) inks)
    ∙ ap (λ t. cond t 1 0 + count_by (λ place. is_of groups site place.group) (map (place_of index y) inks)) is
    ∙ ap (λ n. cond b 1 0 + n) (kept_row groups site index y b inks is)
    ∙ by_test b where
      by_test : (t : Bool) → cond t 1 0 + cond t (length inks) 0 ≡ cond t (length (ink ∷ inks)) 0
      by_test true = omega arith
      by_test false = refl

kept_group : (groups : List Group) (site index : ℕ) (b : Bool) (inks : List Ink) (ys : List ℕ) → is_of groups site index ≡ b
    → count_by (λ place. is_of groups site place.group) (flat_map (λ y. map (place_of index y) inks) ys) ≡ length ys * cond b (length inks) 0
kept_group groups site index b inks [] is = sym (let e : 0 * cond b (length inks) 0 ≡ 0 = omega arith in e)
kept_group groups site index b inks (y ∷ ys) is =
    count_by-append (λ place. is_of groups site place.group) (map (place_of index y) inks) (flat_map (λ z. map (place_of index z) inks) ys)
    ∙ ap (λ n. n + count_by (λ place. is_of groups site place.group) (flat_map (λ z. map (place_of index z) inks) ys)) (kept_row groups site index y b inks is)
    ∙ ap (λ n. cond b (length inks) 0 + n) (kept_group groups site index b inks ys is)
    ∙ (let e : cond b (length inks) 0 + length ys * cond b (length inks) 0 ≡ suc (length ys) * cond b (length inks) 0 = omega arith in e)

-- the rows of all groups
kept_groups : (all : List Group) (height site k : ℕ) (groups : List Group) → ((i : ℕ) → slice_get all (k + i) ≡ slice_get groups i)
    → count_by (λ place. is_of all site place.group) (flat_map (group_rows height) (enumerate_from k groups)) ≡ length (plates_in groups site) * height
kept_groups all height site k [] alike = sym (let e : 0 * height ≡ 0 = omega arith in e)
kept_groups all height site k (group ∷ groups) alike =
    let test : RowPlace → Bool = λ place. is_of all site place.group in
    let here : is_of all site k ≡ has_site group site = ap (λ g. option_map_or (λ h. has_site h site) g false) (ap (slice_get all) (let e : k ≡ k + 0 = omega arith in e) ∙ alike 0) in
    count_by-append test (group_rows height (k, group)) (flat_map (group_rows height) (enumerate_from (k + 1) groups))
    ∙ ap (λ n. n + count_by test (flat_map (group_rows height) (enumerate_from (k + 1) groups))) (kept_group all site k (has_site group site) (inks_of group) (range_with_len 0 height) here)
    ∙ ap (λ n. length (range_with_len 0 height) * cond (has_site group site) (ink_count group) 0 + n)
    (kept_groups all height site (k + 1) groups (λ i. ap (slice_get all) (let e : (k + 1) + i ≡ k + suc i = omega arith in e) ∙ alike (suc i)))
    ∙ ap (λ h. h * cond (has_site group site) (ink_count group) 0 + length (plates_in groups site) * height) (length-range_with_len 0 height)
    ∙ by_test (has_site group site) where
      by_test : (b : Bool) → height * cond b (ink_count group) 0 + length (plates_in groups site) * height ≡ length (flat_map group_plates (cond b (group ∷ filter (λ g. has_site g site) groups) (filter (λ g. has_site g site) groups))) * height
      by_test true =
          (let e : height * ink_count group + length (plates_in groups site) * height ≡ (ink_count group + length (plates_in groups site)) * height = omega arith in e)
          ∙ ap (λ n. (n + length (plates_in groups site)) * height) (sym (length-map (inks_of group) (λ ink. (group, ink))))
          ∙ ap (λ n. n * height) (sym (length-append (group_plates group) (plates_in groups site)))
      by_test false = omega arith

-- a site keeps the rows of its plates
pub kept_count : (plan : PlanData) (site : ℕ) → kept_rows plan site ≡ length (site_plates plan site) * plate_height plan
unfolding site_plates places_in
kept_count plan site =
    count-numbers (λ place. is_of (groups_of plan) site place.group) (keeps_row plan site) (row_places plan) 0 (λ i. ap (keeps_row plan site) (zero-add i))
    ∙ kept_groups (groups_of plan) (plate_height plan) site 0 (groups_of plan) (λ i. ap (slice_get (groups_of plan)) (zero-add i))

-- the plates of a site, out of all groups
pub plates_are : (plan : PlanData) (site : ℕ) → length (plates_in (groups_of plan) site) ≡ length (site_plates plan site)
unfolding site_plates
plates_are plan site = refl
