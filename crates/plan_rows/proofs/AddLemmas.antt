-- Appending groups to a row plan, with the numbers of their first rows.
use Rattle.std.proofs.Common.{◌≡◌, ℕ, zero, suc, ◌+◌, ◌-◌, ◌*◌, ◌^◌, ◌<◌, ◌≤◌, true, false, cond, List, [], ◌∷◌, ◌++◌, length, map, refl, ap, sym, ◌∙◌, subst, append_assoc, append-nil, add-one, arith}
use Rattle.std.specs.Prelude.{sum_by, filter}
use Rattle.std.specs.List.{flat_map, range_with_len}
use Rattle.std.proofs.lemmas.List.{length-append, map-append}
use Rattle.std.proofs.lemmas.List.Sums.{sum_by-cons, sum_by-append}
use Rattle.std.proofs.lemmas.List.Concat.{flat_map-append}
use Rattle.std.proofs.lemmas.List.Elements.{filter-append}
use Rattle.plan_json.specs.Data.{PlanData}
use Rattle.pr_base.specs.declared.ink.Ink.{Ink}
use Rattle.plan_rows.specs.declared.group.Group.{Group}
use Rattle.plan_rows.specs.Inks.{inks_of}
use Rattle.plan_rows.specs.Groups.{numbered, row_count, group_of, groups_among, is_first}
use Rattle.plan_rows.specs.Rows.{RowPlanData, added, row_total, IsRowPlan}
use Rattle.plan_rows.proofs.RowLemmas.{total-most, row_count-most}

-- ---- numbering

pub length-numbered : (height first : ℕ) (groups : List Group) → length (numbered height first groups) ≡ length groups
length-numbered height first [] = refl
length-numbered height first (group ∷ groups) = ap (λ n. suc n) (length-numbered height (first + row_count height group) groups)

pub total-numbered : (height first : ℕ) (groups : List Group) → sum_by (row_count height) (numbered height first groups) ≡ sum_by (row_count height) groups
total-numbered height first [] = refl
total-numbered height first (group ∷ groups) =
    sum_by-cons (row_count height) (record group { first = first }) (numbered height (first + row_count height group) groups)
    ∙ ap (λ n. row_count height group + n) (total-numbered height (first + row_count height group) groups)
    ∙ sym (sum_by-cons (row_count height) group groups)

pub numbered-append : (height first : ℕ) (xs ys : List Group) → numbered height first (xs ++ ys) ≡ numbered height first xs ++ numbered height (first + sum_by (row_count height) xs) ys
numbered-append height first [] ys = ap (λ n. numbered height n ys) (omega arith)
numbered-append height first (x ∷ xs) ys =
    let next : first + row_count height x + sum_by (row_count height) xs ≡ first + sum_by (row_count height) (x ∷ xs) = omega (arith, sum_by-cons (row_count height) x xs) in
    ap (λ zs. record x { first = first } ∷ zs)
    (numbered-append height (first + row_count height x) xs ys
    ∙ ap (λ n. numbered height (first + row_count height x) xs ++ numbered height n ys) next)

pub numbered-numbered : (height first other : ℕ) (groups : List Group) → numbered height first (numbered height other groups) ≡ numbered height first groups
numbered-numbered height first other [] = refl
numbered-numbered height first other (group ∷ groups) =
    ap (λ zs. record group { first = first } ∷ zs) (numbered-numbered height (first + row_count height group) (other + row_count height group) groups)

-- ---- the appended groups

-- the groups of a row plan after some were appended
pub added-groups : (whole : ℕ) (rows : RowPlanData) (groups : List Group) → IsRowPlan whole rows → (added rows groups).groups ≡ rows.groups ++ numbered rows.height (row_total rows) groups
added-groups whole rows groups is =
    numbered-append rows.height 0 rows.groups groups
    ∙ ap (λ xs. xs ++ numbered rows.height (0 + row_total rows) groups) (sym is.in_order)
    ∙ ap (λ n. rows.groups ++ numbered rows.height n groups) (omega arith)

pub added-nil : (whole : ℕ) (rows : RowPlanData) → IsRowPlan whole rows → added rows [] ≡ rows
added-nil whole rows is =
    ap (λ gs. let r : RowPlanData = record { groups = gs; height = rows.height } in r) (ap (λ gs. numbered rows.height 0 gs) (append-nil rows.groups) ∙ sym is.in_order)

pub added-added : (rows : RowPlanData) (xs ys : List Group) → added (added rows xs) ys ≡ added rows (xs ++ ys)
added-added rows xs ys =
    let h = rows.height in
    let front : List Group = rows.groups ++ xs in
    ap (λ gs. let r : RowPlanData = record { groups = gs; height = h } in r)
    (numbered-append h 0 (numbered h 0 front) ys
    ∙ ap (λ gs. gs ++ numbered h (0 + sum_by (row_count h) (numbered h 0 front)) ys) (numbered-numbered h 0 0 front)
    ∙ ap (λ n. numbered h 0 front ++ numbered h (0 + n) ys) (total-numbered h 0 front)
    ∙ sym (numbered-append h 0 front ys)
    ∙ ap (λ gs. numbered h 0 gs) (append_assoc rows.groups xs ys))

pub length-added : (rows : RowPlanData) (groups : List Group) → length (added rows groups).groups ≡ length rows.groups + length groups
length-added rows groups = length-numbered rows.height 0 (rows.groups ++ groups) ∙ length-append rows.groups groups

-- one more group, numbered by the total so far
pub add_one : (whole : ℕ) (rows : RowPlanData) (group : Group) → IsRowPlan whole rows → added rows (group ∷ []) ≡ record { groups = rows.groups ++ record group { first = whole } ∷ []; height = rows.height }
add_one whole rows group is =
    ap (λ gs. let r : RowPlanData = record { groups = gs; height = rows.height } in r)
    (added-groups whole rows (group ∷ []) is ∙ ap (λ n. rows.groups ++ record group { first = n } ∷ []) (sym is.total))

-- the row plan keeps its invariant
pub added_is : (whole : ℕ) (rows : RowPlanData) (group : Group) → IsRowPlan whole rows → length rows.groups < 8192 → IsRowPlan (whole + row_count rows.height group) (added rows (group ∷ []))
added_is whole rows group is room = record {
  in_order = sym (numbered-numbered rows.height 0 0 (rows.groups ++ group ∷ []));
  total =
      let before = is.total in
      let more : sum_by (row_count rows.height) (rows.groups ++ group ∷ []) ≡ row_total rows + sum_by (row_count rows.height) (group ∷ []) = sum_by-append (row_count rows.height) rows.groups (group ∷ []) in
      let last : sum_by (row_count rows.height) (group ∷ []) ≡ row_count rows.height group + 0 = sum_by-cons (row_count rows.height) group [] in
      let same : row_total (added rows (group ∷ [])) ≡ sum_by (row_count rows.height) (rows.groups ++ group ∷ []) = total-numbered rows.height 0 (rows.groups ++ group ∷ []) in
      omega arith;
  height = is.height;
  count = (let many : length (added rows (group ∷ [])).groups ≡ length rows.groups + 1 = length-added rows (group ∷ []) in omega arith);
}

-- ---- the fields after a group is appended

pub add_fits : (whole : ℕ) (fields : RowPlanData) (group : Group) (inks : List Ink) → IsRowPlan whole fields → inks ≡ inks_of group → whole + fields.height * length inks < 2 ^ 64
add_fits whole fields group inks is are =
    let total = is.total in
    let most = total-most whole fields is in
    let rows : fields.height * length inks ≡ row_count fields.height group = ap (λ list. fields.height * length list) are in
    let few = row_count-most fields.height group is.height.most in
    omega arith

pub add_invariant : (whole : ℕ) (fields rows : RowPlanData) (group : Group) (inks : List Ink) (items : List Group) → IsRowPlan whole fields → fields ≡ rows → length rows.groups < 8192 → inks ≡ inks_of group
    → items ≡ fields.groups ++ record group { first = whole } ∷ [] → IsRowPlan (whole + fields.height * length inks) (record { groups = items; height = fields.height })
add_invariant whole fields rows group inks items is shows room are pushed =
    let P : ℕ → Type 0 = λ n. IsRowPlan n (record { groups = items; height = fields.height }) in
    let Q : RowPlanData → Type 0 = λ r. IsRowPlan (whole + row_count fields.height group) r in
    subst P (ap (λ list. whole + fields.height * length list) (sym are))
    (subst Q (add_one whole fields group is ∙ ap (λ gs. let r : RowPlanData = record { groups = gs; height = fields.height } in r) (sym pushed))
    (added_is whole fields group is (subst {A = RowPlanData} (λ r. length r.groups < 8192) (sym shows) room)))

pub add_shows : (whole : ℕ) (fields rows : RowPlanData) (group : Group) (items : List Group) → IsRowPlan whole fields → fields ≡ rows
    → items ≡ fields.groups ++ record group { first = whole } ∷ [] → ◌≡◌ {A = RowPlanData} (record { groups = items; height = fields.height }) (added rows (group ∷ []))
add_shows whole fields rows group items is shows pushed =
    ap (λ gs. let r : RowPlanData = record { groups = gs; height = fields.height } in r) pushed
    ∙ sym (add_one whole fields group is) ∙ ap {A = RowPlanData} (λ r. added r (group ∷ [])) shows

-- ---- one group at a time

range-suc : (from n last : ℕ) → from + n ≡ last → range_with_len from (suc n) ≡ range_with_len from n ++ last ∷ []
range-suc from zero last is = ap (λ k. k ∷ []) (omega arith)
range-suc from (suc n) last is = ap (λ xs. from ∷ xs) (range-suc (from + 1) n last (omega arith))

range-more : (from n last : ℕ) → from + n ≡ last → range_with_len from (n + 1) ≡ range_with_len from n ++ last ∷ []
range-more from n last is = ap (λ k. range_with_len from k) (add-one n) ∙ range-suc from n last is

among_more : (plan : PlanData) (section pair site : ℕ) (pages : List (ℕ × ℕ)) → groups_among plan section pair pages (site + 1) ≡ groups_among plan section pair pages site ++ map (group_of plan section pair pages) (filter (is_first pages) (site ∷ []))
among_more plan section pair site pages =
    ap (λ xs. map (group_of plan section pair pages) (filter (is_first pages) xs)) (range-more 0 site site (omega arith))
    ∙ ap (λ xs. map (group_of plan section pair pages) xs) (filter-append (is_first pages) (range_with_len 0 site) (site ∷ []))
    ∙ map-append (group_of plan section pair pages) (filter (is_first pages) (range_with_len 0 site)) (filter (is_first pages) (site ∷ []))

-- a site that is the first of its group, and one that is not
pub among_first : (plan : PlanData) (section pair site : ℕ) (pages : List (ℕ × ℕ)) → is_first pages site ≡ true → groups_among plan section pair pages (site + 1) ≡ groups_among plan section pair pages site ++ group_of plan section pair pages site ∷ []
among_first plan section pair site pages first =
    among_more plan section pair site pages
    ∙ ap (λ b. groups_among plan section pair pages site ++ map (group_of plan section pair pages) (cond b (site ∷ []) [])) first

pub among_other : (plan : PlanData) (section pair site : ℕ) (pages : List (ℕ × ℕ)) → is_first pages site ≡ false → groups_among plan section pair pages (site + 1) ≡ groups_among plan section pair pages site
among_other plan section pair site pages other =
    among_more plan section pair site pages
    ∙ ap (λ b. groups_among plan section pair pages site ++ map (group_of plan section pair pages) (cond b (site ∷ []) [])) other
    ∙ append-nil (groups_among plan section pair pages site)

-- one more piece
pub pieces_more : {X : Type 0} (f : ℕ → List X) (from n last : ℕ) → from + n ≡ last → flat_map f (range_with_len from (n + 1)) ≡ flat_map f (range_with_len from n) ++ f last
pieces_more f from n last is =
    ap (λ xs. flat_map f xs) (range-more from n last is)
    ∙ flat_map-append f (range_with_len from n) (last ∷ [])
    ∙ ap (λ xs. flat_map f (range_with_len from n) ++ xs) (append-nil (f last))

-- ---- the loops

-- before the first group
pub starts_at : (whole : ℕ) (fields rows : RowPlanData) → IsRowPlan whole fields → fields ≡ rows → rows ≡ added rows []
starts_at whole fields rows is shows = sym (added-nil whole rows (subst {A = RowPlanData} (λ r. IsRowPlan whole r) shows is))

-- some groups, then some more
pub goes_on : (start now next : RowPlanData) (xs ys zs : List Group) → now ≡ added start xs → next ≡ added now ys → zs ≡ xs ++ ys → next ≡ added start zs
goes_on start now next xs ys zs so_far more all =
    more ∙ ap {A = RowPlanData} (λ r. added r ys) so_far ∙ added-added start xs ys ∙ ap (λ gs. added start gs) (sym all)

-- one more pair, from pair 1 on
pub pairs_more : {X : Type 0} (f : ℕ → List X) (pair : ℕ) → 1 ≤ pair → flat_map f (range_with_len 1 (pair + 1 - 1)) ≡ flat_map f (range_with_len 1 (pair - 1)) ++ f pair
pairs_more f pair first =
    let next : pair + 1 - 1 ≡ pair - 1 + 1 = omega arith in
    ap (λ n. flat_map f (range_with_len 1 n)) next ∙ pieces_more f 1 (pair - 1) pair (omega arith)
