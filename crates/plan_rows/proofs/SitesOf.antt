-- The sites of a group; a site belongs to at most one group of a pair.
use Rattle.std.proofs.Common.{◌≡◌, ℕ, zero, suc, ◌+◌, ◌-◌, ◌*◌, ◌/◌, ◌%◌, ◌^◌, ◌<◌, ◌≤◌, Bool, true, false, cond, List, [], ◌∷◌, length, map, take, get_or, refl, ap, sym, ◌∙◌, inl, inr, eqb, arith}
use Rattle.std.specs.Prelude.{◌&&◌, filter, sum_by}
use Rattle.std.specs.Bool.{Decides}
use Rattle.std.specs.List.{enumerate_from, list_any, range_with_len}
use Rattle.std.proofs.lemmas.Bool.{cond_both, cases_eq, both_ways, not-true}
use Rattle.std.proofs.lemmas.Bool.Decides.{Decides-and, Decides-eqb, Decides-like}
use Rattle.std.proofs.lemmas.List.{take_all, get_or-take, length-take}
use Rattle.std.proofs.lemmas.List.Folds.{list_any_at}
use Rattle.std.proofs.lemmas.List.FromFn.{length-enumerate_from}
use Rattle.std.proofs.lemmas.Nat.{pow-add}
use Rattle.std.proofs.lemmas.Nat.Bits.{bit_at_cat_low, bit_at_cat_high}
use Rattle.std.proofs.Math.Nat.{mul-le-mul_right}
use Rattle.plan_json.specs.Data.{PlanData}
use Rattle.plan_rows.specs.Inks.{has_site}
use Rattle.plan_rows.specs.Groups.{same_pages, pages_of, is_first, site_bit, group_of}
use Rattle.plan_rows.proofs.PartLemmas.{bits_more}

-- ---- whether a site belongs to a group

-- the sum of the first n bits, and each of these bits
record HasSums (own : ℕ × ℕ) (pages : List (ℕ × ℕ)) (n : ℕ) : Type 0 where
  small : sum_by (site_bit own) (take n (enumerate_from 0 pages)) < 2 ^ n
  bits : (k : ℕ) → k < n → sum_by (site_bit own) (take n (enumerate_from 0 pages)) / 2 ^ k % 2 ≡ cond (same_pages own (pages_of pages k)) 1 0

times : (b : Bool) (p : ℕ) → cond b p 0 ≡ cond b 1 0 * p
times true p = omega arith
times false p = omega arith

bit_small : (b : Bool) → cond b 1 0 < 2
bit_small true = omega arith
bit_small false = omega arith

bit_itself : (b : Bool) → cond b 1 0 / 2 ^ 0 % 2 ≡ cond b 1 0
bit_itself true = refl
bit_itself false = refl

has_sums : (own : ℕ × ℕ) (pages : List (ℕ × ℕ)) (n : ℕ) → n ≤ length pages → HasSums own pages n
has_sums own pages zero within = record { small = omega arith; bits = λ k none. absurd (omega arith) }
has_sums own pages (suc n) within =
    let before = has_sums own pages n (omega arith) in
    let low : ℕ = sum_by (site_bit own) (take n (enumerate_from 0 pages)) in
    let b : Bool = same_pages own (pages_of pages n) in
    let bit : ℕ = cond b 1 0 in
    let next : n + 1 ≡ suc n = omega arith in
    let sum : sum_by (site_bit own) (take (suc n) (enumerate_from 0 pages)) ≡ bit * 2 ^ n + low =
    ap (λ m. sum_by (site_bit own) (take m (enumerate_from 0 pages))) (sym next) ∙ bits_more own pages n (0, 0) (omega arith)
    ∙ ap (λ t. low + t) (times b (2 ^ n)) ∙ omega arith in
    let twice : 2 ^ (n + 1) ≡ 2 ^ n * 2 ^ 1 = pow-add 2 n 1 in
    let power : 2 ^ suc n ≡ 2 ^ n * 2 = ap (λ m. 2 ^ m) (sym next) ∙ twice in
    let small = before.small in
    let none : n - n ≡ 0 = omega arith in
    record {
      small = (let one : bit ≤ 1 = (let two = bit_small b in omega arith) in let most : bit * 2 ^ n ≤ 1 * 2 ^ n = mul-le-mul_right (2 ^ n) one in omega arith);
      bits = λ k below. ap (λ s. s / 2 ^ k % 2) sum ∙ elim (cases_eq k n) [
        | inl last ↦ ap (λ m. (bit * 2 ^ n + low) / 2 ^ m % 2) last ∙ bit_at_cat_high bit n low n small (omega arith)
            ∙ ap (λ m. bit / 2 ^ m % 2) none ∙ bit_itself b ∙ ap (λ m. cond (same_pages own (pages_of pages m)) 1 0) (sym last)
        | inr other ↦ bit_at_cat_low bit n low k (let apart : k ≡ n → ⊥ = other in omega arith) ∙ before.bits k (let apart : k ≡ n → ⊥ = other in omega arith)
      ];
    }

is_one : (b : Bool) → eqb (cond b 1 0) 1 ≡ b
is_one true = refl
is_one false = refl

-- a site of the plan belongs to a group exactly if it prints the group's pages
pub has_site_is : (plan : PlanData) (section pair : ℕ) (pages : List (ℕ × ℕ)) (first site : ℕ) → site < length pages → has_site (group_of plan section pair pages first) site ≡ same_pages (pages_of pages first) (pages_of pages site)
unfolding group_of
has_site_is plan section pair pages first site within =
    let own = pages_of pages first in
    let all : take (length pages) (enumerate_from 0 pages) ≡ enumerate_from 0 pages = take_all (length pages) (enumerate_from 0 pages) (omega (arith, length-enumerate_from 0 pages)) in
    ap (λ list. eqb (sum_by (site_bit own) list / 2 ^ site % 2) 1) (sym all)
    ∙ ap (λ n. eqb n 1) ((has_sums own pages (length pages) (omega arith)).bits site within)
    ∙ is_one (same_pages own (pages_of pages site))

-- ---- one group of a pair

-- two pairs of numbers are equal exactly if their parts are
pub pair_decides : (p q : ℕ × ℕ) → Decides (eqb p.0 q.0 && eqb p.1 q.1) (p ≡ q)
pair_decides p q =
    Decides-like (eqb p.0 q.0 && eqb p.1 q.1) (λ both. λ i. (both.0 i, both.1 i))
    (λ same. (ap {A = ℕ × ℕ} (λ r. r.0) same, ap {A = ℕ × ℕ} (λ r. r.1) same))
    (Decides-and (eqb p.0 q.0) (eqb p.1 q.1) (Decides-eqb p.0 q.0) (Decides-eqb p.1 q.1))

same_pages-both : (a b c : ℕ × ℕ) → same_pages a c ≡ true → same_pages b c ≡ true → same_pages b a ≡ true
same_pages-both a b c left right =
    (pair_decides b a).1 ((pair_decides b c).0 right ∙ sym ((pair_decides a c).0 left))

-- no site prints the same pages as two different first sites
pub first_apart : (pages : List (ℕ × ℕ)) (a b site : ℕ) → a < b → b < length pages → is_first pages b ≡ true
    → same_pages (pages_of pages a) (pages_of pages site) ≡ true → same_pages (pages_of pages b) (pages_of pages site) ≡ true → ⊥
first_apart pages a b site before within first left right =
    let none : list_any (same_pages (pages_of pages b)) (take b pages) ≡ false = not-true (list_any (same_pages (pages_of pages b)) (take b pages)) first in
    let there : same_pages (pages_of pages b) (get_or (take b pages) a (0, 0)) ≡ true =
    ap (λ p. same_pages (pages_of pages b) p) (get_or-take b pages a (0, 0) before) ∙ same_pages-both (pages_of pages a) (pages_of pages b) (pages_of pages site) left right in
    both_ways (list_any (same_pages (pages_of pages b)) (take b pages)) none
    (list_any_at (same_pages (pages_of pages b)) (take b pages) a (0, 0) (omega (arith, length-take b pages)) there)

pub filter-map : {X Y : Type 0} (test : Y → Bool) (f : X → Y) (xs : List X) → filter test (map f xs) ≡ map f (filter (λ x. test (f x)) xs)
filter-map test f [] = refl
filter-map test f (x ∷ xs) = by_test (test (f x)) (filter-map test f xs)
  where
    by_test : (b : Bool) → filter test (map f xs) ≡ map f (filter (λ z. test (f z)) xs)
        → cond b (f x ∷ filter test (map f xs)) (filter test (map f xs)) ≡ map f (cond b (x ∷ filter (λ z. test (f z)) xs) (filter (λ z. test (f z)) xs))
    by_test true rest = ap (λ ys. f x ∷ ys) rest
    by_test false rest = rest

none_of : (p q : ℕ → Bool) (from n : ℕ) → ((b : ℕ) → from ≤ b → b < from + n → q b ≡ true → p b ≡ true → ⊥) → filter p (filter q (range_with_len from n)) ≡ []
none_of p q from zero none = refl
none_of p q from (suc n) none =
    let rest = none_of p q (from + 1) n (λ b low high. none b (omega arith) (omega arith)) in
    cond_both {A = List ℕ} (q from) (from ∷ filter q (range_with_len (from + 1) n)) (filter q (range_with_len (from + 1) n)) (λ xs. filter p xs ≡ [])
    (λ first. cond_both {A = List ℕ} (p from) (from ∷ filter p (filter q (range_with_len (from + 1) n))) (filter p (filter q (range_with_len (from + 1) n))) (λ xs. xs ≡ [])
    (λ passes. absurd (none from (omega arith) (omega arith) first passes)) (λ _. rest))
    (λ _. rest)

pub one_of : (p q : ℕ → Bool) (from n : ℕ) → ((a b : ℕ) → from ≤ a → a < b → b < from + n → q b ≡ true → p a ≡ true → p b ≡ true → ⊥) → length (filter p (filter q (range_with_len from n))) ≤ 1
one_of p q from zero apart = omega arith
one_of p q from (suc n) apart =
    let others = filter p (filter q (range_with_len (from + 1) n)) in
    let rest : length others ≤ 1 = one_of p q (from + 1) n (λ a b low before high. apart a b (omega arith) before (omega arith)) in
    cond_both {A = List ℕ} (q from) (from ∷ filter q (range_with_len (from + 1) n)) (filter q (range_with_len (from + 1) n)) (λ xs. length (filter p xs) ≤ 1)
    (λ first. cond_both {A = List ℕ} (p from) (from ∷ others) others (λ xs. length xs ≤ 1)
    (λ passes. (let none : others ≡ [] = none_of p q (from + 1) n (λ b low high is_q is_p. apart from b (omega arith) (omega arith) (omega arith) is_q passes is_p) in
    let empty : length others ≡ 0 = ap (λ xs. length xs) none in omega arith)) (λ _. rest))
    (λ _. rest)
