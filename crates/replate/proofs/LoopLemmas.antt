-- All sites of a delivery, before each row of its loop.
use Rattle.std.proofs.Common.{◌≡◌, ℕ, ◌+◌, ◌<◌, ◌≤◌, true, false, List, length, map, get_or, Some, refl, sym}
use Rattle.std.proofs.Common.{ap, subst, ◌∙◌, zero-add, arith}
use Rattle.std.specs.Prelude.{All, slice_get}
use Rattle.std.specs.List.{range_with_len}
use Rattle.std.specs.Option.{option_map}
use Rattle.std.proofs.lemmas.List.{get_or-map, length-map}
use Rattle.std.proofs.lemmas.List.FromFn.{get_or-range_with_len, length-map-range_with_len}
use Rattle.std.proofs.lemmas.List.FromFn.{length-range_with_len}
use Rattle.std.proofs.lemmas.Option.{get_or_from_slice_get, same_Some, slice_get-map, slice_get_within}
use Rattle.tif_packbits.specs.Frame.{framed_row}
use Rattle.pr_rack.specs.Told.{RackTells}
use Rattle.plan_json.specs.Data.{PlanData}
use Rattle.plan_json.specs.Plan.{IsPlan}
use Rattle.site_agent.specs.Racks.{AllTellSlots, AreIdle, KeepCounts}
use Rattle.replate.specs.declared.maker.Maker.{Maker}
use Rattle.replate.specs.declared.remade.RemadeEnd.{RemadeEnd}
use Rattle.replate.specs.Making.{AllMade, AllSomeServed, AllStopped, Carries, HasPart}
use Rattle.replate.specs.Making.{IsServed, IsUp, fresh_maker, fresh_makers, is_making}
use Rattle.replate.specs.Picks.{PicksData}
use Rattle.replate.specs.Remade.{AreRowsOf, FitsEnd, Making, RemadeFits, by_picks}
use Rattle.replate.proofs.MakerLemmas.{served_part}
use Rattle.replate.proofs.RowLemmas.{there_is}
use Rattle.replate.proofs.DeliveryLemmas.{begins_at, end_fits, rack_at, row_is_left, served_at, tells_at}
use Rattle.replate.proofs.DeliveryLemmas.{AreServed, HaveParts, up_of}

-- ---- the start

-- a delivery whose sites have handled the rows below row n: these are its racks at first and now
pub record IsAtRow {R : Type 0} (tell : R → RackTells) (making : Making) (rows : List (List ℕ)) (n : ℕ)
    (racks now : List R) (makers : List Maker) : Type 0 where
  pub carries : Carries making rows
  pub within : n ≤ length rows
  pub sites : length making.plan.sites ≡ length racks
  pub same_count : length now ≡ length racks
  pub served : AreServed making n (map tell racks) (map tell now) makers

-- the same by another name of its sites
pub with_makers : {R : Type 0} {tell : R → RackTells} {making : Making} {rows : List (List ℕ)} {n : ℕ}
    {racks now : List R} {makers list : List Maker} → list ≡ makers
    → IsAtRow tell making rows n racks now makers → IsAtRow tell making rows n racks now list
with_makers {R} {tell} {making} {rows} {n} {racks} {now} same at =
    subst (λ (list : List Maker). IsAtRow tell making rows n racks now list) (sym same) at

all_begin : (plan : PlanData) (frames : List (List ℕ)) (out : List ℕ) (picks : PicksData)
    (before : List RackTells) (makers : List Maker)
    → Carries (by_picks plan (map framed_row frames) out picks) frames
    → makers ≡ fresh_makers plan out picks → AreIdle (length plan.sites) before → AllTellSlots before
    → AreServed (by_picks plan (map framed_row frames) out picks) 0 before before makers
all_begin plan frames out picks before makers carries fresh idle slots = record {
  count = ap length fresh ∙ length-map-range_with_len (fresh_maker plan out picks) 0 (length plan.sites);
  each = λ site old new maker b r m.
      let m' : slice_get (fresh_makers plan out picks) site ≡ Some maker =
      ap (λ (list : List Maker). slice_get list site) (sym fresh) ∙ m in
      let inside : site < length plan.sites =
      omega (
        arith,
        slice_get_within (fresh_makers plan out picks) site maker m',
        length-map-range_with_len (fresh_maker plan out picks) 0 (length plan.sites),
      ) in
      let maker-is : maker ≡ fresh_maker plan out picks site =
      sym (get_or_from_slice_get (fresh_makers plan out picks) site maker maker m')
      ∙ get_or-map (fresh_maker plan out picks) (range_with_len 0 (length plan.sites)) site 0 maker
      (omega (arith, inside, length-range_with_len 0 (length plan.sites)))
      ∙ ap (fresh_maker plan out picks)
      (get_or-range_with_len 0 (length plan.sites) site 0 inside ∙ zero-add site) in
      subst (λ (now : RackTells). IsServed making site 0 old now maker) (same_Some old new (sym b ∙ r))
      (subst (λ (a : Maker). IsServed making site 0 old old a) (sym maker-is)
      (begins_at plan frames out picks site old carries inside (slots site old b)
      (idle.each site old inside b)));
} where
  making : Making
  making = by_picks plan (map framed_row frames) out picks

pub makers_begin : {R : Type 0} (tell : R → RackTells) (plan : PlanData) (frames : List (List ℕ))
    (out : List ℕ) (picks : PicksData) (n : ℕ) (racks : List R) (makers : List Maker) → IsPlan plan
    → AreRowsOf plan frames → n ≡ 0 → length plan.sites ≡ length racks → makers ≡ fresh_makers plan out picks
    → AreIdle (length plan.sites) (map tell racks) → AllTellSlots (map tell racks)
    → IsAtRow tell (by_picks plan (map framed_row frames) out picks) frames n racks racks makers
makers_begin {R} tell plan frames out picks n racks makers is rows first sites fresh idle slots =
    subst (λ (k : ℕ). IsAtRow tell making frames k racks racks makers) (sym first)
    (record {
      carries = carries;
      within = omega arith;
      sites = sites;
      same_count = refl;
      served = all_begin plan frames out picks (map tell racks) makers carries fresh idle slots;
    }) where
      making : Making
      making = by_picks plan (map framed_row frames) out picks

      carries : Carries making frames
      carries = record { plan_is = is; rows_are = rows; framed = refl }

-- ---- a row

module _ {R : Type 0} {tell : R → RackTells} {making : Making} {rows : List (List ℕ)} {n : ℕ}
    {racks now : List R} {makers : List Maker} (at : IsAtRow tell making rows n racks now makers) where
  olds : length (map tell racks) ≡ length makers
  olds = length-map racks tell ∙ sym at.sites ∙ sym at.served.count

  news : length (map tell now) ≡ length makers
  news = length-map now tell ∙ at.same_count ∙ sym at.sites ∙ sym at.served.count

  pub makers_count : length makers ≡ length now
  makers_count = at.served.count ∙ at.sites ∙ sym at.same_count

  pub all_up : All IsUp makers
  all_up i d less =
      let here = served_at making n (map tell racks) (map tell now) makers i d olds news at.served less in
      up_of making i n here.0 here.1.0 (get_or makers i d).site (get_or makers i d).end here.1.1

  -- a row is left while some site has plates left to make
  pub row_left : (i : ℕ) × (i < length makers) × ((d : Maker) → is_making (get_or makers i d) ≡ true)
      → n < length rows
  row_left some =
      let maker = there_is makers some.0 some.1 in
      row_is_left making rows n (map tell racks) (map tell now) makers some.0 maker.0 at.carries olds news
      at.served at.within some.1 (some.2 maker.0)

  pub all_some : AllSomeServed tell rows n makers now
  all_some i maker rack m r =
      let old = there_is (map tell racks) i (omega (arith, slice_get_within makers i maker m, olds)) in
      record {
        making = making;
        site' = i;
        before = old.0;
        carries = at.carries;
        is = at.served.each i old.0 (tell rack) maker old.1 (tells_at tell now i rack r) m;
      }

  -- each site handled the row
  all_made : (makers' : List Maker) (now' : List R) → length makers' ≡ length makers
      → length now' ≡ length now → AllMade tell rows n makers now makers' now'
      → AreServed making (n + 1) (map tell racks) (map tell now') makers'
  all_made makers' now' same same' made = record {
    count = same ∙ at.served.count;
    each = λ site old new maker' b r m'.
        let rack' = rack_at tell now' site new r in
        let rack = there_is now site (omega (arith, slice_get_within now' site rack'.0 rack'.1, same')) in
        let maker = there_is makers site (omega (arith, slice_get_within makers' site maker' m', same)) in
        subst (λ (told : RackTells). IsServed making site (n + 1) old told maker') rack'.2
        ((made site maker.0 maker' rack.0 rack'.0 maker.1 rack.1 m' rack'.1).each making site old at.carries
        (at.served.each site old (tell rack.0) maker.0 b (tells_at tell now site rack.0 rack.1) maker.1));
  }

  pub next_row : (rows' : List (List ℕ)) (n' : ℕ) (makers' : List Maker) (now' : List R) → rows' ≡ rows
      → n' ≡ n + 1 → n < length rows → length makers' ≡ length makers → length now' ≡ length now
      → AllMade tell rows n makers now makers' now' → IsAtRow tell making rows' n' racks now' makers'
  next_row rows' n' makers' now' rows-are n-is low same same' made =
      subst (λ (list : List (List ℕ)). IsAtRow tell making list n' racks now' makers') (sym rows-are)
      (subst (λ (k : ℕ). IsAtRow tell making rows k racks now' makers') (sym n-is)
      (record {
        carries = at.carries;
        within = omega (arith, low);
        sites = at.sites;
        same_count = same' ∙ at.same_count;
        served = all_made makers' now' same same' made;
      }))

  -- memory ran out at the row
  pub all_stopped : (now' : List R) → length now' ≡ length now → AllStopped tell rows n makers now now'
      → HaveParts making (map tell racks) (map tell now')
  all_stopped now' same stopped = record {
    each = λ site old new less b r.
        let rack' = rack_at tell now' site new r in
        let rack = there_is now site (omega (arith, slice_get_within now' site rack'.0 rack'.1, same)) in
        let count = at.served.count in
        let maker = there_is makers site (omega (arith, less, count)) in
        subst (λ (told : RackTells). HasPart making site old told) rack'.2
        ((stopped site maker.0 rack.0 rack'.0 maker.1 rack.1 rack'.1).each making site old at.carries
        (at.served.each site old (tell rack.0) maker.0 b (tells_at tell now site rack.0 rack.1) maker.1));
  }

  pub have_parts : HaveParts making (map tell racks) (map tell now)
  have_parts = record {
    each = λ site old new less b r.
        let count = at.served.count in
        let maker = there_is makers site (omega (arith, less, count)) in
        served_part making site n old new maker.0.site maker.0.end
        (at.served.each site old new maker.0 b r maker.1);
  }

  pub counts_keep : (now' : List R) → length now' ≡ length now
      → HaveParts making (map tell racks) (map tell now') → KeepCounts (map tell racks) (map tell now')
  counts_keep now' same parts = record {
    each = λ site old new b r.
        let sites = at.sites in
        let count = at.same_count in
        let less : site < length making.plan.sites =
        omega (
          arith,
          slice_get_within (map tell now') site new r,
          length-map now' tell,
          same,
          count,
          sites,
        ) in
        (parts.each site old new less b r).faults;
  }

  -- no site has plates left to make
  pub remade_fits : (ends : List RemadeEnd) → All (λ maker. is_making maker ≡ false) makers
      → ends ≡ map (λ maker. maker.end) makers → RemadeFits making (map tell racks) (map tell now) ends
  remade_fits ends none are = record {
    count = ap length are ∙ length-map makers (λ maker. maker.end) ∙ at.served.count;
    each = λ site old new end b r e.
        let long = ap length are ∙ length-map makers (λ maker. maker.end) in
        let maker = there_is makers site (omega (arith, slice_get_within ends site end e, long)) in
        let end-is : maker.0.end ≡ end =
        same_Some maker.0.end end
        (sym (ap (option_map (λ (m : Maker). m.end)) maker.1)
        ∙ sym (slice_get-map (λ (m : Maker). m.end) makers site)
        ∙ ap (λ (list : List RemadeEnd). slice_get list site) (sym are) ∙ e) in
        let over : is_making maker.0 ≡ false =
        subst (λ (m : Maker). is_making m ≡ false) (get_or_from_slice_get makers site maker.0 maker.0 maker.1)
        (none site maker.0 (slice_get_within makers site maker.0 maker.1)) in
        let within = at.within in
        let count = at.carries.rows_are.count in
        subst (λ (x : RemadeEnd). FitsEnd making site old new x) end-is
        (end_fits making site n old new maker.0.site maker.0.end at.carries.plan_is
        (omega (arith, within, count)) over (at.served.each site old new maker.0 b r maker.1));
  }
