-- A row that is passed over, since no site has a plate of it left to make.
use Rattle.std.proofs.Common.{◌≡◌, ℕ, ◌+◌, ◌<◌, ◌≤◌, false, List, [], length, map, get_or, set, refl, sym, ap, subst, ◌∙◌, ⊎_elim, arith}
use Rattle.std.specs.Prelude.{All, slice_get}
use Rattle.std.specs.Option.{option_map}
use Rattle.std.proofs.lemmas.Bool.{cases_lt}
use Rattle.std.proofs.lemmas.Grind.{get_or-set_at}
use Rattle.std.proofs.lemmas.List.{ext_get_or, get_or-map, get_or-set_other, get_or_default, length-map}
use Rattle.std.proofs.lemmas.Option.{get_or_from_slice_get, same_Some, slice_get-map, slice_get_within}
use Rattle.ring_lanes.specs.declared.source.Source.TheVariants.{Deck}
use Rattle.tif_packbits.specs.Frame.{framed_row}
use Rattle.pr_rack.specs.Told.{RackTells}
use Rattle.site_agent.specs.Job.{IsJob}
use Rattle.site_agent.specs.Kept.{GoesOn}
use Rattle.site_agent.specs.Site.{SiteData}
use Rattle.site_agent.proofs.Going.{going_further}
use Rattle.site_agent.proofs.Parts.{picked_is}
use Rattle.site_agent.proofs.Standing.{row_passed}
use Rattle.site_agent.proofs.Steps.{is_kept-not}
use Rattle.replate.specs.declared.maker.Maker.{Maker}
use Rattle.replate.specs.declared.remade.RemadeEnd.{RemadeEnd}
use Rattle.replate.specs.declared.remade.RemadeEnd.TheVariants.{Done, Left}
use Rattle.replate.specs.Making.{AllMade, AllSomeServed, Carries, IsBeforeRow, IsUp, Made, NextBy, ServedBy, SomeServed, keeps_by, keeps_next, passed, passed_by}
use Rattle.replate.specs.Remade.{Making}
use Rattle.replate.proofs.DeliveryLemmas.{up_of}
use Rattle.replate.proofs.RowLemmas.{there_is}

-- a site that continues has a next row while the deal has one
has_next : (frames : List (List ℕ)) (n : ℕ) (told : RackTells) (maker : Maker) → n < length frames → SomeServed frames n told maker → IsBeforeRow maker
has_next frames n told maker low some = by some.making some.site' some.before maker.end some.carries some.is where
  by : (making : Making) (site : ℕ) (before : RackTells) (end : RemadeEnd) → Carries making frames → ServedBy making site n before told maker.site end → NextBy end maker.site
  by making site before (Done made kept') carries at = record {
    on = at.is.on;
    within = (let next = at.next_is in let total = at.is.total in let long = ap length carries.framed in omega (arith, low, next, total, long, length-map frames framed_row));
  }
  by making site before (Left made path) carries left = tt

-- a site that passed over a row which is of none of its plates has handled it
passed_made : (frames : List (List ℕ)) (n : ℕ) (told : RackTells) (maker : Maker) → keeps_next maker ≡ false → Made frames n told told maker (passed maker)
passed_made frames n told maker other = record { each = λ making site before carries served. by making site before maker.end carries served other } where
  by : (making : Making) (site : ℕ) (before : RackTells) (end : RemadeEnd) → Carries making frames → ServedBy making site n before told maker.site end → keeps_by end maker.site ≡ false
      → ServedBy making site (n + 1) before told (passed_by end maker.site) end
  by making site before (Done made kept') carries at other' =
      let going : SiteData = maker.site in
      let next : SiteData = record going { next = going.next + 1 } in
      let own : IsJob going.job = subst IsJob (sym at.job_is) (picked_is making.plan making.out site (making.bits site) carries.plan_is) in
      let goes : GoesOn going next = record { job = refl; next = refl; going = at.is.on } in
      record {
        job_is = at.job_is;
        next_is = ap (λ m. m + 1) at.next_is;
        is = going_further making.rows Deck before.tells told.tells told.tells going next at.is goes
            (λ stands. row_passed going.job making.rows Deck going.next before.tells told.tells going.counts own (is_kept-not going.job going.next other') stands);
        made_are = at.made_are;
        kept_are = at.kept_are;
        missed = at.missed;
        faults = at.faults;
      }
  by making site before (Left made path) carries left other' = left

-- ---- all sites

-- no site has ended unless it left
pub all_go_on : {R : Type 0} (tell : R → RackTells) (frames : List (List ℕ)) (n : ℕ) (makers : List Maker) (racks : List R) → length makers ≡ length racks → AllSomeServed tell frames n makers racks → All IsUp makers
all_go_on tell frames n makers racks count some i d less =
    let maker = there_is makers i less in
    let rack = there_is racks i (omega (arith, less, count)) in
    let at = some i maker.0 rack.0 maker.1 rack.1 in
    subst IsUp (sym (get_or_from_slice_get makers i maker.0 d maker.1)) (up_of at.making at.site' n at.before (tell rack.0) maker.0.site maker.0.end at.is)

pub all_have_next : {R : Type 0} (tell : R → RackTells) (frames : List (List ℕ)) (n : ℕ) (makers : List Maker) (racks : List R) → n < length frames → length makers ≡ length racks → AllSomeServed tell frames n makers racks
    → All IsBeforeRow makers
all_have_next tell frames n makers racks low count some i d less =
    let maker = there_is makers i less in
    let rack = there_is racks i (omega (arith, less, count)) in
    subst IsBeforeRow (sym (get_or_from_slice_get makers i maker.0 d maker.1)) (has_next frames n (tell rack.0) maker.0 low (some i maker.0 rack.0 maker.1 rack.1))

pub all_passed : {R : Type 0} (tell : R → RackTells) (frames : List (List ℕ)) (n : ℕ) (makers : List Maker) (racks : List R) (makers' : List Maker) → makers' ≡ map passed makers → All (λ maker. keeps_next maker ≡ false) makers
    → AllMade tell frames n makers racks makers' racks
all_passed {R} tell frames n makers racks makers' are others i maker maker' rack rack' m r m' r' =
    let maker-is : passed maker ≡ maker' =
    same_Some (passed maker) maker' (sym (slice_get-map passed makers i ∙ ap (option_map passed) m) ∙ ap (λ (list : List Maker). slice_get list i) (sym are) ∙ m') in
    let rack-is : rack ≡ rack' = same_Some rack rack' (sym r ∙ r') in
    let other : keeps_next maker ≡ false = subst (λ (x : Maker). keeps_next x ≡ false) (get_or_from_slice_get makers i maker maker m) (others i maker (slice_get_within makers i maker m)) in
    subst (λ (x : Maker). Made frames n (tell rack) (tell rack') maker x) maker-is
    (subst (λ (b : R). Made frames n (tell rack) (tell b) maker (passed maker)) rack-is (passed_made frames n (tell rack) maker other))

-- ---- one site after the other

-- the first n sites passed over the row, and the others haven't yet
pub record PassedUpTo (xs ys : List Maker) (n : ℕ) : Type 0 where
  pub done : (j : ℕ) (d : Maker) → j < n → get_or ys j d ≡ passed (get_or xs j d)
  pub rest : (j : ℕ) (d : Maker) → n ≤ j → get_or ys j d ≡ get_or xs j d

-- one more
pub passed_more : (xs ys : List Maker) (i : ℕ) (e new : Maker) → i < length ys → PassedUpTo xs ys i → new ≡ passed (get_or ys i e) → PassedUpTo xs (set ys i new) (i + 1)
passed_more xs ys i e new within upto is = record {
  done = λ j d less.
      ⊎_elim
      (λ (below : j < i). get_or-set_other ys i j new d (λ same. omega (arith, same, below)) ∙ upto.done j d below)
      (λ (above : i ≤ j).
      let same : j ≡ i = omega (arith, less, above) in
      get_or-set_at ys i j new d same within ∙ is ∙ ap passed (get_or_default ys i e d within ∙ upto.rest i d (let low : i ≤ i = omega arith in low) ∙ ap (λ k. get_or xs k d) (sym same)))
      (cases_lt j i);
  rest = λ j d from. get_or-set_other ys i j new d (λ same. omega (arith, same, from)) ∙ upto.rest j d (omega (arith, from));
}

-- all of them
pub passed_all : (xs ys : List Maker) (n : ℕ) → length ys ≡ length xs → length xs ≤ n → PassedUpTo xs ys n → ys ≡ map passed xs
passed_all xs ys n long all upto =
    ext_get_or any ys (map passed xs) (long ∙ sym (length-map xs passed))
    (λ j less. upto.done j any (omega (arith, less, long, all)) ∙ sym (get_or-map passed xs j any any (omega (arith, less, long)))) where
      any : Maker
      any = record { site = record { job = record { plates = []; width = 0; height = 0; dpi = 0; total = 0 }; next = 0; counts = []; ended = false }; end = Left 0 [] }
