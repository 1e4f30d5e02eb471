-- One more number of a list.
use Rattle.std.proofs.Common.{◌≡◌, ◌≢◌, ℕ, zero, suc, ◌+◌, ◌<◌, ◌≤◌, ℤ, pos, List, length, slice_set, refl, ap, sym, ◌∙◌, arith, add-one, below_more, get_or-set_same, get_or-set_other}
use Rattle.scr_diffuse.specs.Diffusion.{left_of, error_of}
use Rattle.scr_diffuse.specs.Passes.{number_at, v_of, v_from}

pub left-same : (f g : ℕ → ℤ) (n : ℕ) → ((k : ℕ) → k < n → f k ≡ g k) → left_of f n ≡ left_of g n
left-same f g zero same = refl
left-same f g (suc n) same = same n (omega arith)

pub left-next : (f : ℕ → ℤ) (n : ℕ) → left_of f (n + 1) ≡ f n
left-next f n = rw add-one refl

-- a number that was written, and another one
pub written : (numbers : List ℤ) (i : ℕ) (v : ℤ) → i < length numbers
    → number_at (slice_set numbers i v) i ≡ v
written numbers i v within = get_or-set_same numbers i v (pos 0) within

pub unwritten : (numbers : List ℤ) (i k : ℕ) (v : ℤ) → k ≢ i
    → number_at (slice_set numbers i v) k ≡ number_at numbers k
unwritten numbers i k v other = get_or-set_other numbers i k v (pos 0) other

-- the numbers v up to i don't depend on that of pixel i
pub v_from-same : (sums numbers : List ℤ) (i k : ℕ) (v : ℤ) → k ≤ i
    → v_from sums numbers k ≡ v_from sums (slice_set numbers i v) k
v_from-same sums numbers i k v within =
    ap (v_of (number_at sums k)) (left-same _ _ k (λ j below. ap error_of (sym (unwritten numbers i j v (λ e. absurd (omega arith))))))

-- the first i numbers of a list have become their errors
abbrev pub KeptTo : ℕ → List ℤ → List ℤ → Type 0
KeptTo i old now =
    ((k : ℕ) → k < i → number_at now k ≡ error_of (number_at old k))
    × ((k : ℕ) → i ≤ k → number_at now k ≡ number_at old k)

pub KeptTo-more : (i : ℕ) (old now : List ℤ) (e : ℤ) → i < length now → KeptTo i old now
    → e ≡ error_of (number_at now i) → KeptTo (i + 1) old (slice_set now i e)
KeptTo-more i old now e within kept error = (
  below_more _ _ (λ k below. unwritten now i k e (λ h. absurd (omega arith)) ∙ kept.0 k below)
      (written now i e within ∙ error ∙ ap error_of (kept.1 i (omega arith))),
  λ k above. unwritten now i k e (λ h. absurd (omega arith)) ∙ kept.1 k (omega arith),
)
