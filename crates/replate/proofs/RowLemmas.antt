-- A row handed to each site in turn.
use Rattle.std.proofs.Common.{◌≡◌, ℕ, zero, suc, ◌+◌, ◌-◌, ◌<◌, ◌≤◌, true, List, [], ◌∷◌, length, set, get_or}
use Rattle.std.proofs.Common.{Some, refl, sym, ap, subst, ◌∙◌, ⊎_elim, arith}
use Rattle.std.specs.Prelude.{slice_get}
use Rattle.std.proofs.lemmas.Bool.{cases_lt}
use Rattle.std.proofs.lemmas.Option.{get_or_from_slice_get, slice_get_within}
use Rattle.ring_lanes.specs.Deck.{DeckState}
use Rattle.pr_rack.specs.Told.{RackTells}
use Rattle.site_agent.proofs.Holding.{get-set_other}
use Rattle.site_agent.proofs.Racks.{set-aside, set-here}
use Rattle.replate.specs.declared.maker.Maker.{Maker}
use Rattle.replate.specs.Making.{AllMade, AllSomeServed, AllStopped, HasPart, Made, SomeServed, Stopped}
use Rattle.replate.proofs.MakerLemmas.{served_part}

-- ---- lists

pub there_is : {X : Type 0} (xs : List X) (i : ℕ) → i < length xs → (x : X) × (slice_get xs i ≡ Some x)
there_is [] i less = absurd (omega (arith, less))
there_is (x ∷ xs) zero less = (x, refl)
there_is (x ∷ xs) (suc i) less = there_is xs i (omega (arith, less))

-- ---- a row that is put on a deck

-- what holds of the next row holds of the last one once it is put
pub as_last : (P : List (List ℕ) → ℕ → Type 0) (was is : DeckState)
    → is ≡ record was { put = was.put + 1; there = true } → P was.rows was.put → P is.rows (is.put - 1)
as_last P was is same p =
    subst (λ (deck : DeckState). P deck.rows (deck.put - 1)) (sym same)
    (subst (P was.rows) (let e : was.put ≡ was.put + 1 - 1 = omega arith in e) p)

-- and back
pub as_next : (P : List (List ℕ) → ℕ → Type 0) (was is : DeckState)
    → is ≡ record was { put = was.put + 1; there = true } → P is.rows (is.put - 1) → P was.rows was.put
as_next P was is same p =
    subst (P was.rows) (let e : was.put + 1 - 1 ≡ was.put = omega arith in e)
    (subst (λ (deck : DeckState). P deck.rows (deck.put - 1)) same p)

-- ---- a row that is handed on

-- the first n pairs took their turns, and the others haven't yet
pub record HandedUpTo {X Y : Type 0} (handed : X → Y → X → Y → Type 0) (xs : List X) (ys : List Y)
    (ps : List X) (qs : List Y) (n : ℕ) : Type 0 where
  pub done : (j : ℕ) (x p : X) (y q : Y) → j < n → slice_get xs j ≡ Some x → slice_get ys j ≡ Some y
      → slice_get ps j ≡ Some p → slice_get qs j ≡ Some q → handed x y p q
  pub rest : (j : ℕ) (x : X) → n ≤ j → slice_get xs j ≡ Some x → slice_get ps j ≡ Some x
  pub others : (j : ℕ) (y : Y) → n ≤ j → slice_get ys j ≡ Some y → slice_get qs j ≡ Some y

-- one more pair
pub handed_more : {X Y : Type 0} (handed : X → Y → X → Y → Type 0) (xs : List X) (ys : List Y) (ps : List X)
    (qs : List Y) (i : ℕ) (d p' : X) (e q' : Y) → HandedUpTo handed xs ys ps qs i
    → handed (get_or ps i d) (get_or qs i e) p' q'
    → HandedUpTo handed xs ys (set ps i p') (set qs i q') (i + 1)
handed_more {X} {Y} handed xs ys ps qs i d p' e q' upto here = record {
  done = λ j x p y q less at-x at-y at-p at-q.
      ⊎_elim
      (λ (before : j < i). upto.done j x p y q before at-x at-y
      (set-aside ps i j p' p (λ e. omega (arith, e, before)) at-p)
      (set-aside qs i j q' q (λ e. omega (arith, e, before)) at-q))
      (λ (from : i ≤ j).
      let index : j ≡ i = omega (arith, from, less) in
      let x-there : get_or ps i d ≡ x =
      get_or_from_slice_get ps i x d
      (upto.rest i x (let e : i ≤ i = omega arith in e) (ap (slice_get xs) (sym index) ∙ at-x)) in
      let y-there : get_or qs i e ≡ y =
      get_or_from_slice_get qs i y e
      (upto.others i y (let e : i ≤ i = omega arith in e) (ap (slice_get ys) (sym index) ∙ at-y)) in
      let p-is : p' ≡ p = set-here ps i p' p (ap (slice_get (set ps i p')) (sym index) ∙ at-p) in
      let q-is : q' ≡ q = set-here qs i q' q (ap (slice_get (set qs i q')) (sym index) ∙ at-q) in
      subst (λ (a : X). handed a y p q) x-there
      (subst (λ (b : Y). handed (get_or ps i d) b p q) y-there
      (subst (λ (a : X). handed (get_or ps i d) (get_or qs i e) a q) p-is
      (subst (λ (b : Y). handed (get_or ps i d) (get_or qs i e) p' b) q-is here))))
      (cases_lt j i);
  rest = λ j x from at. get-set_other ps i j p' x (λ e. omega (arith, e, from))
      (upto.rest j x (omega (arith, from)) at);
  others = λ j y from at. get-set_other qs i j q' y (λ e. omega (arith, e, from))
      (upto.others j y (omega (arith, from)) at);
}

-- a row of a deck handed to a site, whose rack is read by `tell`
abbrev pub MadeBy : {R : Type 0} → (R → RackTells) → List (List ℕ) → ℕ → Maker → R → Maker → R → Type 0
MadeBy {R} tell frames n maker rack maker' rack' = Made frames n (tell rack) (tell rack') maker maker'

-- the next site may take the row
pub next_served : {R : Type 0} (tell : R → RackTells) (frames : List (List ℕ)) (n : ℕ) (makers : List Maker)
    (racks : List R) (makers' : List Maker) (racks' : List R) (i : ℕ) (d : Maker) (e : R) → i < length makers
    → i < length racks
    → HandedUpTo (MadeBy tell frames n) makers racks makers' racks' i
    → AllSomeServed tell frames n makers racks
    → SomeServed frames n (tell (get_or racks' i e)) (get_or makers' i d)
next_served {R} tell frames n makers racks makers' racks' i d e some-maker some-rack upto some =
    let maker = there_is makers i some-maker in
    let rack = there_is racks i some-rack in
    let low : i ≤ i = omega arith in
    let maker-is : get_or makers' i d ≡ maker.0 =
    get_or_from_slice_get makers' i maker.0 d (upto.rest i maker.0 low maker.1) in
    let rack-is : get_or racks' i e ≡ rack.0 =
    get_or_from_slice_get racks' i rack.0 e (upto.others i rack.0 low rack.1) in
    subst (λ (a : Maker). SomeServed frames n (tell (get_or racks' i e)) a) (sym maker-is)
    (subst (λ (b : R). SomeServed frames n (tell b) maker.0) (sym rack-is)
    (some i maker.0 rack.0 maker.1 rack.1))

-- the row was handed to all sites
pub all_handed : {R : Type 0} (tell : R → RackTells) (frames : List (List ℕ)) (n : ℕ) (makers : List Maker)
    (racks : List R) (makers' : List Maker) (racks' : List R) (count : ℕ) → length makers ≤ count
    → HandedUpTo (MadeBy tell frames n) makers racks makers' racks' count
    → AllMade tell frames n makers racks makers' racks'
all_handed tell frames n makers racks makers' racks' count all upto i maker maker' rack rack' m r m' r' =
    upto.done i maker maker' rack rack' (omega (arith, all, slice_get_within makers i maker m)) m r m' r'

-- one of the racks ran out of memory
pub all_ended : {R : Type 0} (tell : R → RackTells) (frames : List (List ℕ)) (n : ℕ) (makers : List Maker)
    (racks : List R) (makers' : List Maker) (racks' : List R) (i : ℕ) (d : Maker) (e rack'' : R)
    → length makers' ≡ length makers → HandedUpTo (MadeBy tell frames n) makers racks makers' racks' i
    → Stopped frames n (tell (get_or racks' i e)) (tell rack'') (get_or makers' i d)
    → AllStopped tell frames n makers racks (set racks' i rack'')
all_ended {R} tell frames n makers racks makers' racks' i d e rack'' same upto stopped j maker rack rack'
    m r r' = record {
      each = λ making site before carries served.
          ⊎_elim
          (λ (before' : j < i).
          let then' = there_is makers' j (omega (arith, slice_get_within makers j maker m, same)) in
          let made : Made frames n (tell rack) (tell rack') maker then'.0 =
          upto.done j maker then'.0 rack rack' before' m r then'.1
          (set-aside racks' i j rack'' rack' (λ e. omega (arith, e, before')) r') in
          served_part making site (n + 1) before (tell rack') then'.0.site then'.0.end
          (made.each making site before carries served))
          (λ (from : i ≤ j).
          ⊎_elim
          (λ (here : j < i + 1).
          let index : j ≡ i = omega (arith, from, here) in
          let maker-there : get_or makers' i d ≡ maker =
          get_or_from_slice_get makers' i maker d
          (upto.rest i maker (let e : i ≤ i = omega arith in e) (ap (slice_get makers) (sym index) ∙ m)) in
          let rack-there : get_or racks' i e ≡ rack =
          get_or_from_slice_get racks' i rack e
          (upto.others i rack (let e : i ≤ i = omega arith in e) (ap (slice_get racks) (sym index) ∙ r)) in
          let last : rack'' ≡ rack' =
          set-here racks' i rack'' rack' (ap (slice_get (set racks' i rack'')) (sym index) ∙ r') in
          let ended : Stopped frames n (tell rack) (tell rack') maker =
          subst (λ (a : Maker). Stopped frames n (tell rack) (tell rack') a) maker-there
          (subst (λ (b : R). Stopped frames n (tell b) (tell rack') (get_or makers' i d)) rack-there
          (subst (λ (b : R). Stopped frames n (tell (get_or racks' i e)) (tell b) (get_or makers' i d)) last
          stopped)) in
          ended.each making site before carries served)
          (λ (later : i + 1 ≤ j).
          let still : slice_get racks' j ≡ Some rack = upto.others j rack from r in
          let same' : rack ≡ rack' =
          sym (get_or_from_slice_get racks' j rack rack still)
          ∙ get_or_from_slice_get racks' j rack' rack
          (set-aside racks' i j rack'' rack' (λ e. omega (arith, e, later)) r') in
          subst (λ (b : R). HasPart making site before (tell b)) same'
          (served_part making site n before (tell rack) maker.site maker.end served))
          (cases_lt j (i + 1)))
          (cases_lt j i);
    }
