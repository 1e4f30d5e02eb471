-- A row whose pixels are limited from left to right.
use Rattle.std.proofs.Common.{◌≡◌, ◌≢◌, ⊎_elim, ℕ, ◌+◌, ◌*◌, ◌/◌, ◌<◌, ◌≤◌, min, List, length, get_or, set, refl, ap, sym, subst, ◌∙◌, arith, below_more, get_or-set_same, get_or-set_other}
use Rattle.std.proofs.Math.Nat.{min-eq_left}
use Rattle.std.proofs.lemmas.Bool.{cases_lt}
use Rattle.page_tone.specs.Limit.{HasLimited, IsWritten, limited, limited_at}

-- one more value has been written
pub written-more : (value : ℕ → ℕ) (from x v : ℕ) (old now : List ℕ) → x < length now → from ≤ x → IsWritten value from x old now → v ≡ value x → IsWritten value from (x + 1) old (set now x v)
written-more value from x v old now within above so is = record {
  inside = λ k reached less. below_more (λ k. from ≤ k → get_or (set now x v) k 0 ≡ value k) x
      (λ k less reached. (let other : k ≢ x = omega arith in get_or-set_other now x k v 0 other ∙ so.inside k reached less))
      (λ reached. get_or-set_same now x v 0 within ∙ is) k less reached;
  before = λ k less. (let other : k ≢ x = omega arith in get_or-set_other now x k v 0 other ∙ so.before k less);
  behind = λ k past. (let other : k ≢ x = omega arith in get_or-set_other now x k v 0 other ∙ so.behind k (omega arith));
}

-- one written part after another
pub written-join : (value next : ℕ → ℕ) (from at to : ℕ) (old mid new : List ℕ) → from ≤ at → at ≤ to → IsWritten value from at old mid → IsWritten next at to mid new → ((x : ℕ) → at ≤ x → next x ≡ value x) → IsWritten value from to old new
written-join value next from at to old mid new begins ends first second same = record {
  inside = λ x above less. ⊎_elim
      (λ (left : x < at). second.before x left ∙ first.inside x above left)
      (λ (right : at ≤ x). second.inside x right less ∙ same x right)
      (cases_lt x at);
  before = λ x less. second.before x (omega arith) ∙ first.before x less;
  behind = λ x past. second.behind x past ∙ first.behind x (omega arith);
}

-- the same part with values that another function gives too
pub written-same : (value next : ℕ → ℕ) (from to : ℕ) (old new : List ℕ) → ((x : ℕ) → from ≤ x → x < to → value x ≡ next x) → IsWritten value from to old new → IsWritten next from to old new
written-same value next from to old new same so = record {
  inside = λ x above less. so.inside x above less ∙ same x above less;
  before = so.before;
  behind = so.behind;
}

-- nothing is written
pub written-none : (value : ℕ → ℕ) (from : ℕ) (old : List ℕ) → IsWritten value from from old old
written-none value from old = record {
  inside = λ x above less. absurd (omega arith);
  before = λ x less. refl;
  behind = λ x past. refl;
}

limited_at-same : (limit x : ℕ) (c m y k c' m' y' k' : List ℕ) → get_or c x 0 ≡ get_or c' x 0 → get_or m x 0 ≡ get_or m' x 0 → get_or y x 0 ≡ get_or y' x 0 → get_or k x 0 ≡ get_or k' x 0 → limited_at limit c m y k x ≡ limited_at limit c' m' y' k' x
limited_at-same limit x c m y k c' m' y' k' cyan magenta yellow black =
    ap (λ n. limited n (get_or m x 0) (get_or y x 0) (get_or k x 0) limit) cyan
    ∙ ap (λ n. limited (get_or c' x 0) n (get_or y x 0) (get_or k x 0) limit) magenta
    ∙ ap (λ n. limited (get_or c' x 0) (get_or m' x 0) n (get_or k x 0) limit) yellow
    ∙ ap (λ n. limited (get_or c' x 0) (get_or m' x 0) (get_or y' x 0) n limit) black

-- one more pixel has been limited
pub limited-more : (limit from x : ℕ) (c m y k c' m' y' k' inks : List ℕ) → from ≤ x → x < length c' → x < length m' → x < length y' → x < length k' → HasLimited limit from x c m y k c' m' y' k' → inks ≡ limited_at limit c' m' y' k' x
    → HasLimited limit from (x + 1) c m y k (set c' x (get_or inks 0 0)) (set m' x (get_or inks 1 0)) (set y' x (get_or inks 2 0)) (set k' x (get_or inks 3 0))
limited-more limit from x c m y k c' m' y' k' inks above cyan magenta yellow black so is =
    let all : inks ≡ limited_at limit c m y k x = is ∙ limited_at-same limit x c' m' y' k' c m y k (so.cyan_is.behind x (omega arith)) (so.magenta_is.behind x (omega arith)) (so.yellow_is.behind x (omega arith)) (so.black_is.behind x (omega arith)) in
    record {
      cyan_is = written-more _ from x _ c c' cyan above so.cyan_is (ap (λ inks. get_or inks 0 0) all);
      magenta_is = written-more _ from x _ m m' magenta above so.magenta_is (ap (λ inks. get_or inks 1 0) all);
      yellow_is = written-more _ from x _ y y' yellow above so.yellow_is (ap (λ inks. get_or inks 2 0) all);
      black_is = written-more _ from x _ k k' black above so.black_is (ap (λ inks. get_or inks 3 0) all);
    }

-- one limited part of a row after another
pub limited-join : (limit from at to : ℕ) (c m y k c' m' y' k' c2 m2 y2 k2 : List ℕ) → from ≤ at → at ≤ to → HasLimited limit from at c m y k c' m' y' k' → HasLimited limit at to c' m' y' k' c2 m2 y2 k2 → HasLimited limit from to c m y k c2 m2 y2 k2
limited-join limit from at to c m y k c' m' y' k' c2 m2 y2 k2 begins ends first second =
    let same : (x : ℕ) → at ≤ x → limited_at limit c' m' y' k' x ≡ limited_at limit c m y k x =
    λ x above. limited_at-same limit x c' m' y' k' c m y k (first.cyan_is.behind x above) (first.magenta_is.behind x above) (first.yellow_is.behind x above) (first.black_is.behind x above) in
    record {
      cyan_is = written-join _ _ from at to c c' c2 begins ends first.cyan_is second.cyan_is (λ x above. ap (λ inks. get_or inks 0 0) (same x above));
      magenta_is = written-join _ _ from at to m m' m2 begins ends first.magenta_is second.magenta_is (λ x above. ap (λ inks. get_or inks 1 0) (same x above));
      yellow_is = written-join _ _ from at to y y' y2 begins ends first.yellow_is second.yellow_is (λ x above. ap (λ inks. get_or inks 2 0) (same x above));
      black_is = written-join _ _ from at to k k' k2 begins ends first.black_is second.black_is (λ x above. ap (λ inks. get_or inks 3 0) (same x above));
    }

-- a block of 64 pixels, or of those that are left
pub limited-block : (limit block width to : ℕ) (c m y k c' m' y' k' c2 m2 y2 k2 : List ℕ) → block < width / 64 + 1 → to ≡ min (64 * block + 64) width → HasLimited limit 0 (min (64 * block) width) c m y k c' m' y' k' → HasLimited limit (64 * block) to c' m' y' k' c2 m2 y2 k2
    → HasLimited limit 0 (min (64 * (block + 1)) width) c m y k c2 m2 y2 k2
limited-block limit block width to c m y k c' m' y' k' c2 m2 y2 k2 within is first second =
    let more : 64 * block + 64 ≡ 64 * (block + 1) = omega arith in
    let at_is : 64 * block ≡ min (64 * block) width = sym (min-eq_left (omega arith)) in
    let to_is : to ≡ min (64 * (block + 1)) width = is ∙ ap (λ n. min n width) more in
    let ends : min (64 * block) width ≤ min (64 * (block + 1)) width = omega arith in
    limited-join limit 0 (min (64 * block) width) (min (64 * (block + 1)) width) c m y k c' m' y' k' c2 m2 y2 k2 (omega arith) ends first
    (subst (λ n. HasLimited limit n (min (64 * (block + 1)) width) c' m' y' k' c2 m2 y2 k2) at_is
    (subst (λ n. HasLimited limit (64 * block) n c' m' y' k' c2 m2 y2 k2) to_is second))
