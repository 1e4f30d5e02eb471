-- The sites of a plan, grouped by the pages that they print.
use Rattle.std.proofs.Common.{◌≡◌, ℕ, ◌+◌, ◌*◌, ◌%◌, ◌^◌, ◌<◌, ◌≤◌, true, false, cond, add-zero, length-set, List, length, take, set, get_or, get_or-set_same, get_or-set_other, ap, sym, ◌∙◌, subst, inl, inr, arith}
use Rattle.std.specs.Prelude.{sum_by}
use Rattle.std.specs.List.{enumerate_from}
use Rattle.std.proofs.lemmas.Bool.{cases_eq}
use Rattle.std.proofs.lemmas.List.Sums.{sum_by_more}
use Rattle.std.proofs.lemmas.List.FromFn.{fill_by_all, length-enumerate_from, get_or-enumerate_from}
use Rattle.std.proofs.lemmas.List.{get_or-take, length-take, take_all}
use Rattle.std.proofs.lemmas.Nat.{pow-add}
use Rattle.std.proofs.Math.Nat.{mod-eq_of_lt}
use Rattle.std.proofs.Math.Pow.{pow-lt}
use Rattle.plan_json.specs.Data.{PlanData}
use Rattle.plan_pages.specs.Pages.{chosen_page, page_count, pair_of}
use Rattle.plan_rows.specs.Groups.{pages_at, site_pages, same_pages, site_bit, pages_of}

-- ---- the sites that print two pages

site_bit-true : (own its : ℕ × ℕ) (i : ℕ) → same_pages own its ≡ true → site_bit own (i, its) ≡ 2 ^ i
site_bit-true own its i same = ap (λ b. cond b (2 ^ i) 0) same

site_bit-false : (own its : ℕ × ℕ) (i : ℕ) → same_pages own its ≡ false → site_bit own (i, its) ≡ 0
site_bit-false own its i other = ap (λ b. cond b (2 ^ i) 0) other

pub bits_more : (own : ℕ × ℕ) (pages : List (ℕ × ℕ)) (i : ℕ) (d : ℕ × ℕ) → i < length pages
    → sum_by (site_bit own) (take (i + 1) (enumerate_from 0 pages)) ≡ sum_by (site_bit own) (take i (enumerate_from 0 pages)) + site_bit own (i, get_or pages i d)
bits_more own pages i d within =
    let e : ℕ × (ℕ × ℕ) = (0, d) in
    let here : get_or (enumerate_from 0 pages) i e ≡ (i, get_or pages i d) =
    get_or-enumerate_from 0 pages i e within ∙ ap (λ n. (n, get_or pages i d)) (omega arith) in
    sum_by_more (site_bit own) (enumerate_from 0 pages) i e (omega (arith, length-enumerate_from 0 pages))
    ∙ ap (λ p. sum_by (site_bit own) (take i (enumerate_from 0 pages)) + site_bit own p) here

-- the bits of the sites among the first i
pub record HasBits (own : ℕ × ℕ) (pages : List (ℕ × ℕ)) (i sites : ℕ) : Type 0 where
  pub is : sites ≡ sum_by (site_bit own) (take i (enumerate_from 0 pages))
  pub small : sites < 2 ^ i

pub bits_with : (own : ℕ × ℕ) (pages : List (ℕ × ℕ)) (i sites bit : ℕ) (d : ℕ × ℕ) → HasBits own pages i sites → i < length pages → same_pages own (get_or pages i d) ≡ true → bit ≡ 2 ^ i → HasBits own pages (i + 1) (sites + bit)
bits_with own pages i sites bit d has within same one =
    let so_far = sum_by (site_bit own) (take i (enumerate_from 0 pages)) in
    let twice : 2 ^ (i + 1) ≡ 2 ^ i * 2 ^ 1 = pow-add 2 i 1 in
    let small = has.small in
    record {
      is = ap (λ s. s + bit) has.is ∙ ap (λ b. so_far + b) (one ∙ sym (site_bit-true own (get_or pages i d) i same)) ∙ sym (bits_more own pages i d within);
      small = omega arith;
    }

pub bits_without : (own : ℕ × ℕ) (pages : List (ℕ × ℕ)) (i sites : ℕ) (d : ℕ × ℕ) → HasBits own pages i sites → i < length pages → same_pages own (get_or pages i d) ≡ false → HasBits own pages (i + 1) sites
bits_without own pages i sites d has within other =
    let so_far = sum_by (site_bit own) (take i (enumerate_from 0 pages)) in
    let twice : 2 ^ (i + 1) ≡ 2 ^ i * 2 ^ 1 = pow-add 2 i 1 in
    let small = has.small in
    record {
      is = has.is ∙ sym (add-zero so_far) ∙ ap (λ b. so_far + b) (sym (site_bit-false own (get_or pages i d) i other)) ∙ sym (bits_more own pages i d within);
      small = omega arith;
    }

-- all sites
pub bits_all : (own : ℕ × ℕ) (pages : List (ℕ × ℕ)) (i sites : ℕ) → HasBits own pages i sites → length pages ≤ i → sites ≡ sum_by (site_bit own) (enumerate_from 0 pages)
bits_all own pages i sites has all =
    has.is ∙ ap (λ list. sum_by (site_bit own) list) (take_all i (enumerate_from 0 pages) (omega (arith, length-enumerate_from 0 pages)))

-- ---- the pages of each site

-- the pages of the first n sites, all of them pages of the plan
pub record HasPages (plan : PlanData) (section pair n : ℕ) (pages : List (ℕ × ℕ)) : Type 0 where
  pub are : (k : ℕ) → k < n → pages_of pages k ≡ pages_at plan section pair k
  pub left : (k : ℕ) → k < n → (pages_of pages k).0 < length plan.pages
  pub right : (k : ℕ) → k < n → (pages_of pages k).1 < length plan.pages
  pub size : length pages ≡ 16

pub pages_more : (plan : PlanData) (section pair n left right : ℕ) (pages : List (ℕ × ℕ)) → n < 16 → HasPages plan section pair n pages
    → ◌≡◌ {A = ℕ × ℕ} (left, right) (pages_at plan section pair n) → left < length plan.pages → right < length plan.pages → HasPages plan section pair (n + 1) (set pages n (left, right))
pages_more plan section pair n left right pages within has is left_within right_within =
    let now : List (ℕ × ℕ) = set pages n (left, right) in
    let here : pages_of now n ≡ (left, right) = get_or-set_same pages n (left, right) (0, 0) (let size = has.size in omega arith) in
    let each : (P : ℕ → ℕ × ℕ → Type 0) → P n (left, right) → ((k : ℕ) → k < n → P k (pages_of pages k)) → (k : ℕ) → k < n + 1 → P k (pages_of now k) =
    λ P last front k below. elim (cases_eq k n) [
      | inl same ↦ subst (λ (j : ℕ). P j (pages_of now j)) (sym same) (subst (λ (p : ℕ × ℕ). P n p) (sym here) last)
      | inr other ↦ subst (λ (p : ℕ × ℕ). P k p) (sym (get_or-set_other pages n k (left, right) (0, 0) other)) (front k (omega arith))
    ] in
    record {
      are = each (λ k p. p ≡ pages_at plan section pair k) is has.are;
      left = each (λ _ p. p.0 < length plan.pages) left_within has.left;
      right = each (λ _ p. p.1 < length plan.pages) right_within has.right;
      size = length-set pages n (left, right) ∙ has.size;
    }

-- the two pages chosen for a site
pub pages_are : (plan : PlanData) (section pair site count left right : ℕ) (places : ℕ × ℕ) → count ≡ page_count plan section → places ≡ pair_of count pair
    → left ≡ chosen_page plan site section places.0 → right ≡ chosen_page plan site section places.1 → ◌≡◌ {A = ℕ × ℕ} (left, right) (pages_at plan section pair site)
pages_are plan section pair site count left right places counted paired is_left is_right =
    let pair_is : places ≡ pair_of (page_count plan section) pair = paired ∙ ap (λ n. pair_of n pair) counted in
    let of : ℕ × ℕ → ℕ × ℕ = λ p. (chosen_page plan site section p.0, chosen_page plan site section p.1) in
    ap {A = ℕ} (λ l. let p : ℕ × ℕ = (l, right) in p) is_left
    ∙ ap {A = ℕ} (λ r. let p : ℕ × ℕ = (chosen_page plan site section places.0, r) in p) is_right
    ∙ ap of pair_is

pub pages_all : (plan : PlanData) (section pair : ℕ) (pages : List (ℕ × ℕ)) → length plan.sites ≤ 16 → HasPages plan section pair (length plan.sites) pages → take (length plan.sites) pages ≡ site_pages plan section pair
unfolding site_pages
pages_all plan section pair pages room has =
    let size = has.size in
    fill_by_all (pages_at plan section pair) (take (length plan.sites) pages) (length plan.sites) (0, 0) (omega (arith, length-take (length plan.sites) pages))
    (λ k below. get_or-take (length plan.sites) pages k (0, 0) below ∙ has.are k below)

-- the value of `1 << i` in a u16
pub bit_is : (i : ℕ) → i < 16 → 1 * 2 ^ i % 65536 ≡ 2 ^ i
bit_is i small =
    let below : 2 ^ i < 2 ^ 16 = pow-lt small in
    let one : 1 * 2 ^ i ≡ 2 ^ i = omega arith in
    ap (λ n. n % 65536) one ∙ mod-eq_of_lt below
