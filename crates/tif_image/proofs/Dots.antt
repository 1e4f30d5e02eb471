-- The values of a dot range, one by one and all together.
use Rattle.std.proofs.Common.{◌≡◌, ◌≢◌, ℕ, ◌+◌, ◌<◌, true, false, List, length, get_or, take, ap, ◌∙◌, zero-add, arith}
use Rattle.std.specs.List.{enumerate_from, list_all}
use Rattle.std.proofs.lemmas.Bool.{and_from, eq-eqb, ne_eqb}
use Rattle.std.proofs.lemmas.List.{take_all}
use Rattle.std.proofs.lemmas.List.Folds.{list_all_at, list_all_more}
use Rattle.std.proofs.lemmas.List.FromFn.{get_or-enumerate_from, length-enumerate_from}
use Rattle.tif_image.specs.Fields.{full_dot, is_full_dot}

-- the value that the test reads at index i
dot-at : (values : List ℕ) (i : ℕ) → i < length values → get_or (enumerate_from 0 values) i (0, 0) ≡ (i, get_or values i 0)
dot-at values i lt = get_or-enumerate_from 0 values i (0, 0) lt ∙ simp zero-add

-- one more value of the full range
pub dots-more : (values : List ℕ) (i : ℕ) → i < length values → list_all is_full_dot (take i (enumerate_from 0 values)) ≡ true
    → get_or values i 0 ≡ full_dot i → list_all is_full_dot (take (i + 1) (enumerate_from 0 values)) ≡ true
dots-more values i lt before value =
    list_all_more is_full_dot (enumerate_from 0 values) i (0, 0) (omega (arith, length-enumerate_from 0 values))
    ∙ and_from _ _ before (ap is_full_dot (dot-at values i lt) ∙ eq-eqb _ _ value)

-- one value that differs from the full range
pub dots-other : (values : List ℕ) (i : ℕ) → i < length values → get_or values i 0 ≢ full_dot i
    → list_all is_full_dot (enumerate_from 0 values) ≡ false
dots-other values i lt value =
    list_all_at is_full_dot (enumerate_from 0 values) i (0, 0) (omega (arith, length-enumerate_from 0 values))
    (ap is_full_dot (dot-at values i lt) ∙ ne_eqb _ _ value)

-- all values
pub dots-all : (values : List ℕ) (i : ℕ) → length values ≡ i → list_all is_full_dot (take i (enumerate_from 0 values)) ≡ true
    → list_all is_full_dot (enumerate_from 0 values) ≡ true
dots-all values i len all = rw (take_all i (enumerate_from 0 values) (omega (arith, length-enumerate_from 0 values))) at all
