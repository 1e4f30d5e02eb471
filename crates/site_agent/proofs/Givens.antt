-- The number of a plate's rows below row n.
use Rattle.std.proofs.Common.{◌≡◌, ◌≢◌, ℕ, ◌+◌, ◌-◌, ◌*◌, ◌<◌, ◌≤◌, Bool, get_or, sym, ap, ◌∙◌, ⊎_elim, arith}
use Rattle.std.specs.Prelude.{nat_lt}
use Rattle.std.specs.List.{range_with_len}
use Rattle.std.proofs.Math.Nat.{add-mul, one-mul, mul-le-mul_right}
use Rattle.std.proofs.lemmas.Bool.{lt-ltb, le-ltb, ltb-true, ltb-false, cases_lt}
use Rattle.std.proofs.lemmas.List.FromFn.{length-range_with_len, get_or-range_with_len}
use Rattle.std.proofs.lemmas.List.Sums.{count_by-le-length}
use Rattle.site_agent.specs.declared.plate.SitePlate.{SitePlate}
use Rattle.site_agent.specs.Job.{number_in, last_in}
use Rattle.site_agent.specs.Given.{given}
use Rattle.site_agent.proofs.Fronts.{count_by-front, IsFront, front-pass, front-fail}

-- the row numbers of a plate increase
pub number-less : (plate : SitePlate) (y z : ℕ) → 0 < plate.step → y < z
    → number_in plate y < number_in plate z
number-less plate y z some less =
    let next : (y + 1) * plate.step ≡ y * plate.step + plate.step = add-mul y 1 plate.step ∙ ap (λ m. y * plate.step + m) (one-mul plate.step) in
    let most : (y + 1) * plate.step ≤ z * plate.step = mul-le-mul_right plate.step (omega arith) in
    omega arith

pub number-within : (plate : SitePlate) (y z : ℕ) → y ≤ z → number_in plate y ≤ number_in plate z
number-within plate y z less =
    let most : y * plate.step ≤ z * plate.step = mul-le-mul_right plate.step less in
    omega arith

-- row y of the plate is below row n
abbrev below : SitePlate → ℕ → ℕ → Bool
below plate n y = nat_lt (number_in plate y) n

at : (height y d : ℕ) → y < height → get_or (range_with_len 0 height) y d ≡ y
at height y d less = get_or-range_with_len 0 height y d less ∙ omega arith

-- the first k rows are below row n, and no others
pub given-is : (height k n : ℕ) (plate : SitePlate) → k ≤ height → ((y : ℕ) → y < k → number_in plate y < n)
    → ((y : ℕ) → k ≤ y → y < height → n ≤ number_in plate y)
    → given height plate n ≡ k
unfolding given
given-is height k n plate within less more =
    count_by-front (below plate n) (range_with_len 0 height) k (omega (arith, length-range_with_len 0 height))
    (λ y d first. ap (below plate n) (at height y d (omega arith)) ∙ lt-ltb (number_in plate y) n (less y first))
    (λ y d from inside. let in_plate : y < height = omega (arith, length-range_with_len 0 height) in ap (below plate n) (at height y d in_plate) ∙ le-ltb (number_in plate y) n (more y from in_plate))

front : (height n : ℕ) (plate : SitePlate) → IsFront (below plate n) (range_with_len 0 height)
front height n plate = record {
  before = λ i j d less inside is.
      let in_plate : j < height = omega (arith, length-range_with_len 0 height) in
      let later : number_in plate j < n = ltb-true (number_in plate j) n (sym (ap (below plate n) (at height j d in_plate)) ∙ is) in
      let order : number_in plate i ≤ number_in plate j = number-within plate i j (omega arith) in
      ap (below plate n) (at height i d (omega arith)) ∙ lt-ltb (number_in plate i) n (omega arith);
}

pub given-within : (height n : ℕ) (plate : SitePlate) → given height plate n ≤ height
unfolding given
given-within height n plate = omega (arith, count_by-le-length (below plate n) (range_with_len 0 height), length-range_with_len 0 height)

-- the rows given so far are those below row n
pub given-below : (height n : ℕ) (plate : SitePlate) (y : ℕ) → y < given height plate n
    → number_in plate y < n
unfolding given
given-below height n plate y first =
    let in_plate : y < height = omega (arith, count_by-le-length (below plate n) (range_with_len 0 height), length-range_with_len 0 height) in
    ltb-true (number_in plate y) n (sym (ap (below plate n) (at height y 0 in_plate)) ∙ front-pass (below plate n) (range_with_len 0 height) y 0 (front height n plate) first)

pub given-above : (height n : ℕ) (plate : SitePlate) (y : ℕ) → given height plate n ≤ y → y < height
    → n ≤ number_in plate y
unfolding given
given-above height n plate y from in_plate =
    ltb-false (number_in plate y) n
    (sym (ap (below plate n) (at height y 0 in_plate)) ∙ front-fail (below plate n) (range_with_len 0 height) y 0 (front height n plate) from (omega (arith, length-range_with_len 0 height)))

-- before and after the plate's own row n
pub given-at : (height n y : ℕ) (plate : SitePlate) → 0 < plate.step → y < height → number_in plate y ≡ n
    → given height plate n ≡ y
given-at height n y plate some inside is =
    given-is height y n plate (omega arith)
    (λ z first. let h : number_in plate z < number_in plate y = number-less plate z y some first in omega arith)
    (λ z from less. let h : number_in plate y ≤ number_in plate z = number-within plate y z from in omega arith)

pub given-next : (height n y : ℕ) (plate : SitePlate) → 0 < plate.step → y < height → number_in plate y ≡ n
    → given height plate (n + 1) ≡ y + 1
given-next height n y plate some inside is =
    given-is height (y + 1) (n + 1) plate (omega arith)
    (λ z first. let h : number_in plate z ≤ number_in plate y = number-within plate z y (omega arith) in omega arith)
    (λ z from less. let h : number_in plate y < number_in plate z = number-less plate y z some (omega arith) in omega arith)

-- another row changes nothing
pub given-stays : (height n : ℕ) (plate : SitePlate) → ((y : ℕ) → y < height → number_in plate y ≢ n)
    → given height plate (n + 1) ≡ given height plate n
given-stays height n plate other =
    let within : given height plate n ≤ height = given-within height n plate in
    given-is height (given height plate n) (n + 1) plate within
    (λ y first. let h : number_in plate y < n = given-below height n plate y first in omega arith)
    (λ y from less.
    let h : n ≤ number_in plate y = given-above height n plate y from less in
    ⊎_elim
    (λ (below' : n < number_in plate y). omega arith)
    (λ (most : number_in plate y ≤ n). absurd (other y less (omega arith)))
    (cases_lt n (number_in plate y)))

-- no row, some rows, and all rows
pub given-none : (height n : ℕ) (plate : SitePlate) → n ≤ plate.first → given height plate n ≡ 0
given-none height n plate before =
    given-is height 0 n plate (omega arith) (λ y first. absurd (omega arith))
    (λ y from less. let h : number_in plate 0 ≤ number_in plate y = number-within plate 0 y (omega arith) in omega arith)

pub given-some : (height n : ℕ) (plate : SitePlate) → 0 < height → plate.first < n → 0 < given height plate n
given-some height n plate high begun =
    ⊎_elim
    (λ (some : 0 < given height plate n). some)
    (λ (none : given height plate n ≤ 0). absurd (let h : n ≤ number_in plate 0 = given-above height n plate 0 none high in omega arith))
    (cases_lt 0 (given height plate n))

pub given-all : (height n : ℕ) (plate : SitePlate) → 0 < height → last_in height plate < n
    → given height plate n ≡ height
given-all height n plate high ended =
    given-is height height n plate (omega arith)
    (λ y first. let h : number_in plate y ≤ last_in height plate = number-within plate y (height - 1) (omega arith) in omega arith)
    (λ y from less. absurd (omega arith))

pub given-not_all : (height n : ℕ) (plate : SitePlate) → 0 < height → n ≤ last_in height plate
    → given height plate n < height
given-not_all height n plate high open' =
    ⊎_elim
    (λ (some : given height plate n < height). some)
    (λ (all : height ≤ given height plate n). absurd (let h : number_in plate (height - 1) < n = given-below height n plate (height - 1) (omega arith) in omega arith))
    (cases_lt (given height plate n) height)

-- the converse
pub given-begun : (height n : ℕ) (plate : SitePlate) → 0 < given height plate n → plate.first < n
given-begun height n plate some = let h : number_in plate 0 < n = given-below height n plate 0 some in omega arith

pub given-unfinished : (height n : ℕ) (plate : SitePlate) → given height plate n < height
    → n ≤ last_in height plate
given-unfinished height n plate some =
    let within : given height plate n ≤ height - 1 = omega arith in
    given-above height n plate (height - 1) within (omega arith)
