-- The rows of a side in some inks, step by step.
use Rattle.std.proofs.Common.{All, ◌≡◌, ℕ, ◌+◌, ◌<◌, ◌≤◌, Bool, true, false, cond, List, [], ◌∷◌, ◌++◌, length, map, get_or, set, take, drop, refl, ap, sym, ◌∙◌, subst, arith}
use Rattle.std.specs.Prelude.{Option, Some, None, slice_get}
use Rattle.std.specs.Option.{ForSome, option_map}
use Rattle.std.proofs.lemmas.List.{get_or-map, length-map, map-set, take_at}
use Rattle.std.proofs.lemmas.List.Elements.{All-map, All-same, All-set, All-weaker}
use Rattle.std.proofs.lemmas.Option.{get_or_from_slice_get, same_Some, slice_get-get_or, slice_get-map}
use Rattle.pr_base.specs.Ink.{all_inks, slot_of}
use Rattle.pr_base.specs.declared.ink.Ink.{Ink}
use Rattle.pr_base.proofs.Inks.{ink_at_slot, slot_below}
use Rattle.plan_rows.specs.Inks.{has_ink}
use Rattle.plan_rows.specs.declared.group.Group.{Group}
use Rattle.press_job.specs.Job.{JobData}
use Rattle.press_feed.specs.declared.side.Side.{Side}
use Rattle.press_feed.specs.ChainRows.{ChainData, at_top, behind_block}
use Rattle.press_feed.specs.Drawn.{DrawnData, HasRow, before_row, behind_rows, blank_rows}
use Rattle.press_feed.specs.HeldRows.{HeldData, next_rows, top_of}
use Rattle.press_feed.specs.InkRows.{InkData, IsAtRow, IsNextChain, IsNextIn, IsReady, begun, drawn_on, passed, restarted}
use Rattle.press_feed.specs.PlateRow.{IsRowsOf}
use Rattle.press_feed.specs.SideRows.{AreInAll, HaveRoom, IsAtGroup, IsDrawnOf, IsMovedTo, IsOpenFor, IsSameSide, SideRowsData, drawn_behind, drawn_for, drawns, next_of}
use Rattle.press_feed.specs.Sides.{page_on}

no_ink : (b : Bool) → b ≡ true → b ≡ false → ⊥
no_ink true on off = cc
no_ink false on off = cc

-- ---- the drawn rows of each ink

drawns_map : (f : InkData → InkData) (g : DrawnData → DrawnData) (inks : List InkData) → ((ink : InkData) → (f ink).drawn ≡ g ink.drawn) → drawns (map f inks) ≡ map g (drawns inks)
drawns_map f g [] each = refl
drawns_map f g (ink ∷ inks) each = let first = each ink in let rest = drawns_map f g inks each in cc

drawns_same : (f : InkData → InkData) (inks : List InkData) → ((ink : InkData) → (f ink).drawn ≡ ink.drawn) → drawns (map f inks) ≡ drawns inks
drawns_same f [] each = refl
drawns_same f (ink ∷ inks) each = let first = each ink in let rest = drawns_same f inks each in cc

map_both : (f g h : DrawnData → DrawnData) (rows : List DrawnData) → ((d : DrawnData) → f (g d) ≡ h d) → map f (map g rows) ≡ map h rows
map_both f g h [] each = refl
map_both f g h (d ∷ rows) each = let first = each d in let rest = map_both f g h rows each in cc

-- by whether the group prints the ink
drawn_by : (flag : Bool) (x y : InkData) (p q : DrawnData) → x.drawn ≡ p → y.drawn ≡ q → (cond flag x y).drawn ≡ cond flag p q
drawn_by true x y p q here there = here
drawn_by false x y p q here there = there

kept_by : (flag : Bool) (x y : InkData) → x.drawn ≡ y.drawn → (cond flag x y).drawn ≡ y.drawn
kept_by true x y same = same
kept_by false x y same = refl

pub drawns-restarted : (group : Group) (page : ℕ) (inks : List InkData) → drawns (map (restarted group page) inks) ≡ drawns inks
drawns-restarted group page inks = drawns_same (restarted group page) inks (λ ink. kept_by (has_ink group ink.drawn.ink) (record ink { chain = option_map (at_top page) ink.chain }) ink refl)

pub drawns-passed : (group : Group) (inks : List InkData) → drawns (map (passed group) inks) ≡ drawns inks
drawns-passed group inks = drawns_same (passed group) inks (λ ink. kept_by (has_ink group ink.drawn.ink) (record ink { chain = option_map behind_block ink.chain }) ink refl)

pub drawns-begun : (group : Group) (side : Side) (page first : ℕ) (inks : List InkData) → page ≡ page_on side group → drawns (map (begun group page first) inks) ≡ map (drawn_for group side first 0) (drawns inks)
drawns-begun group side page first inks page_is =
    drawns_map (begun group page first) (drawn_for group side first 0) inks
    (λ ink. drawn_by (has_ink group ink.drawn.ink) (record ink { drawn = before_row page first ink.drawn }) ink (record ink.drawn { page = page_on side group; first = first; count = 0 }) ink.drawn
    (ap {A = ℕ} (λ p. before_row p first ink.drawn) page_is) refl)

pub drawns-drawn : (group : Group) (count : ℕ) (inks : List InkData) → drawns (map (drawn_on group count) inks) ≡ map (drawn_behind group count) (drawns inks)
drawns-drawn group count inks =
    drawns_map (drawn_on group count) (drawn_behind group count) inks
    (λ ink. drawn_by (has_ink group ink.drawn.ink) (record { drawn = behind_rows count ink.drawn; chain = option_map behind_block ink.chain }) ink (behind_rows count ink.drawn) ink.drawn refl refl)

-- further rows behind those of a group
further : (group : Group) (side : Side) (first a b : ℕ) (d : DrawnData) → drawn_behind group b (drawn_for group side first a d) ≡ drawn_for group side first (a + b) d
further group side first a b d =
    ap {A = Bool} (λ flag. cond flag (behind_rows b (drawn_for group side first a d)) (drawn_for group side first a d)) (ap {A = Ink} (has_ink group) (same_ink (has_ink group d.ink)))
    ∙ both (has_ink group d.ink)
  where
    same_ink : (flag : Bool) → (cond {A = DrawnData} flag (record d { page = page_on side group; first = first; count = a }) d).ink ≡ d.ink
    same_ink true = refl
    same_ink false = refl

    both : (flag : Bool) → cond {A = DrawnData} flag (behind_rows b (cond flag (record d { page = page_on side group; first = first; count = a }) d)) (cond flag (record d { page = page_on side group; first = first; count = a }) d)
        ≡ cond flag (record d { page = page_on side group; first = first; count = a + b }) d
    both true = refl
    both false = refl

pub drawn_further : (group : Group) (side : Side) (first a b : ℕ) (old mid new : List DrawnData) → mid ≡ map (drawn_for group side first a) old → new ≡ map (drawn_behind group b) mid → new ≡ map (drawn_for group side first (a + b)) old
drawn_further group side first a b old mid new mid_is new_is =
    new_is ∙ ap (map (drawn_behind group b)) mid_is ∙ map_both (drawn_behind group b) (drawn_for group side first a) (drawn_for group side first (a + b)) old (further group side first a b)

-- ---- what holds of each

-- of the drawn rows, and so of the inks
all_inks_of : (P : DrawnData → Type 0) (inks : List InkData) → All P (drawns inks) → All (λ ink. P ink.drawn) inks
all_inks_of P inks all = λ k d less.
    let long : length (drawns inks) ≡ length inks = length-map inks (λ ink. ink.drawn) in
    subst {A = DrawnData} P (get_or-map (λ ink. ink.drawn) inks k d d.drawn less) (all k d.drawn (omega arith))

of_either : (job : JobData) (side : Side) (flag : Bool) (p q : DrawnData) → IsDrawnOf job side p → IsDrawnOf job side q → IsDrawnOf job side (cond flag p q)
of_either job side true p q one other = one
of_either job side false p q one other = other

pub sides_same : (job : JobData) (side : Side) (old new : List InkData) → drawns new ≡ drawns old → All (IsDrawnOf job side) (drawns old) → All (IsDrawnOf job side) (drawns new)
sides_same job side old new same all = All-same (IsDrawnOf job side) (drawns new) (drawns old) same all

pub sides_begun : (job : JobData) (side own : Side) (group : Group) (first count : ℕ) (old new : List InkData) → drawns new ≡ map (drawn_for group own first count) (drawns old) → All (IsDrawnOf job side) (drawns old) → All (IsDrawnOf job side) (drawns new)
sides_begun job side own group first count old new is all =
    All-same (IsDrawnOf job side) (drawns new) (map (drawn_for group own first count) (drawns old)) is
    (All-map (IsDrawnOf job side) (drawn_for group own first count) (drawns old)
    (λ k d less. (let of = all k d less in
    of_either job side (has_ink group (get_or (drawns old) k d).ink) (record (get_or (drawns old) k d) { page = page_on own group; first = first; count = count }) (get_or (drawns old) k d)
    (record { job_is = of.job_is; side_is = of.side_is }) of)))

pub sides_drawn_on : (job : JobData) (side : Side) (group : Group) (count : ℕ) (old new : List InkData) → drawns new ≡ map (drawn_behind group count) (drawns old) → All (IsDrawnOf job side) (drawns old) → All (IsDrawnOf job side) (drawns new)
sides_drawn_on job side group count old new is all =
    All-same (IsDrawnOf job side) (drawns new) (map (drawn_behind group count) (drawns old)) is
    (All-map (IsDrawnOf job side) (drawn_behind group count) (drawns old)
    (λ k d less. (let of = all k d less in
    of_either job side (has_ink group (get_or (drawns old) k d).ink) (behind_rows count (get_or (drawns old) k d)) (get_or (drawns old) k d)
    (record { job_is = of.job_is; side_is = of.side_is }) of)))

-- each ink has as much room as before
room_by : (flag : Bool) (n : ℕ) (p q : DrawnData) → n ≤ p.room → n ≤ q.room → n ≤ (cond flag p q).room
room_by true n p q here there = here
room_by false n p q here there = there

rooms_of : (n : ℕ) (inks : List InkData) → HaveRoom n inks → All (λ (d : DrawnData). n ≤ d.room) (drawns inks)
rooms_of n inks room = All-map (λ (d : DrawnData). n ≤ d.room) (λ (ink : InkData). ink.drawn) inks room

pub room_same : (n m : ℕ) (old new : List InkData) → drawns new ≡ drawns old → m ≤ n → HaveRoom n old → HaveRoom m new
room_same n m old new same less room =
    all_inks_of (λ d. m ≤ d.room) new (All-same (λ (d : DrawnData). m ≤ d.room) (drawns new) (drawns old) same
    (All-weaker (λ (d : DrawnData). n ≤ d.room) (λ d. m ≤ d.room) (λ d enough. omega arith) (drawns old) (rooms_of n old room)))

pub room_begun : (n : ℕ) (group : Group) (side : Side) (first count : ℕ) (old new : List InkData) → drawns new ≡ map (drawn_for group side first count) (drawns old) → HaveRoom n old → HaveRoom n new
room_begun n group side first count old new is room =
    all_inks_of (λ d. n ≤ d.room) new (All-same (λ (d : DrawnData). n ≤ d.room) (drawns new) (map (drawn_for group side first count) (drawns old)) is
    (All-map (λ (d : DrawnData). n ≤ d.room) (drawn_for group side first count) (drawns old)
    (λ k d less. (let enough = rooms_of n old room k d less in
    room_by (has_ink group (get_or (drawns old) k d).ink) n (record (get_or (drawns old) k d) { page = page_on side group; first = first; count = count }) (get_or (drawns old) k d) enough enough))))

-- new rows
pub blank_room : (job : JobData) (side : Side) (room : ℕ) (inks : List Ink) (rows : List InkData) → drawns rows ≡ map (blank_rows job side room) inks → HaveRoom room rows
blank_room job side room inks rows are =
    all_inks_of (λ d. room ≤ d.room) rows (All-same (λ (d : DrawnData). room ≤ d.room) (drawns rows) (map (blank_rows job side room) inks) are
    (All-map (λ (d : DrawnData). room ≤ d.room) (blank_rows job side room) inks (λ k d less. omega arith)))

pub blank_sides : (job : JobData) (side : Side) (room : ℕ) (inks : List Ink) (rows : List InkData) → drawns rows ≡ map (blank_rows job side room) inks → All (IsDrawnOf job side) (drawns rows)
blank_sides job side room inks rows are =
    All-same (IsDrawnOf job side) (drawns rows) (map (blank_rows job side room) inks) are
    (All-map (IsDrawnOf job side) (blank_rows job side room) inks (λ k d less. record { job_is = refl; side_is = refl }))

-- ---- chains

at_first : (page : ℕ) (chain : Option ChainData) → IsAtRow page 0 (option_map (at_top page) chain)
at_first page None = record { page_is = λ c there. cc; count_is = λ c there. cc }
at_first page (Some chain) = record {
  page_is = λ c there. ap {A = ChainData} (λ x. x.page) (sym (same_Some (at_top page chain) c there));
  count_is = λ c there. ap {A = ChainData} (λ x. x.count) (sym (same_Some (at_top page chain) c there));
}

at_block : (page n : ℕ) (chain : Option ChainData) → IsAtRow page n chain → IsAtRow page (n + 8) (option_map behind_block chain)
at_block page n None is = record { page_is = λ c there. cc; count_is = λ c there. cc }
at_block page n (Some chain) is = record {
  page_is = λ c there. ap {A = ChainData} (λ x. x.page) (sym (same_Some (behind_block chain) c there)) ∙ is.page_is chain refl;
  count_is = λ c there. ap {A = ChainData} (λ x. x.count) (sym (same_Some (behind_block chain) c there)) ∙ ap (λ m. m + 8) (is.count_is chain refl);
}

ready_top : (group : Group) (page : ℕ) (ink : InkData) (flag : Bool) → has_ink group ink.drawn.ink ≡ flag → IsReady group page 0 (cond flag (record ink { chain = option_map (at_top page) ink.chain }) ink)
ready_top group page ink true own = record { at = λ on. at_first page ink.chain }
ready_top group page ink false own = record { at = λ on. absurd (no_ink (has_ink group ink.drawn.ink) on own) }

ready_block : (group : Group) (page n : ℕ) (ink : InkData) (flag : Bool) → has_ink group ink.drawn.ink ≡ flag → IsReady group page n ink → IsReady group page (n + 8) (cond flag (record ink { chain = option_map behind_block ink.chain }) ink)
ready_block group page n ink true own is = record { at = λ on. at_block page n ink.chain (is.at on) }
ready_block group page n ink false own is = record { at = λ on. absurd (no_ink (has_ink group ink.drawn.ink) on own) }

ready_drawn : (group : Group) (page n count : ℕ) (ink : InkData) (flag : Bool) → has_ink group ink.drawn.ink ≡ flag → IsReady group page n ink
    → IsReady group page (n + 8) (cond flag (record { drawn = behind_rows count ink.drawn; chain = option_map behind_block ink.chain }) ink)
ready_drawn group page n count ink true own is = record { at = λ on. at_block page n ink.chain (is.at on) }
ready_drawn group page n count ink false own is = record { at = λ on. absurd (no_ink (has_ink group ink.drawn.ink) on own) }

ready_begun : (group : Group) (page n own first : ℕ) (ink : InkData) (flag : Bool) → IsReady group page n ink → IsReady group page n (cond flag (record ink { drawn = before_row own first ink.drawn }) ink)
ready_begun group page n own first ink true is = record { at = λ on. is.at on }
ready_begun group page n own first ink false is = is

pub all_ready_top : (group : Group) (page : ℕ) (inks : List InkData) → All (IsReady group page 0) (map (restarted group page) inks)
all_ready_top group page inks = All-map (IsReady group page 0) (restarted group page) inks (λ k d less. ready_top group page (get_or inks k d) (has_ink group (get_or inks k d).drawn.ink) refl)

pub all_ready_block : (group : Group) (page n : ℕ) (inks : List InkData) → All (IsReady group page n) inks → All (IsReady group page (n + 8)) (map (passed group) inks)
all_ready_block group page n inks all = All-map (IsReady group page (n + 8)) (passed group) inks (λ k d less. ready_block group page n (get_or inks k d) (has_ink group (get_or inks k d).drawn.ink) refl (all k d less))

pub all_ready_drawn : (group : Group) (page n count : ℕ) (inks : List InkData) → All (IsReady group page n) inks → All (IsReady group page (n + 8)) (map (drawn_on group count) inks)
all_ready_drawn group page n count inks all = All-map (IsReady group page (n + 8)) (drawn_on group count) inks (λ k d less. ready_drawn group page n count (get_or inks k d) (has_ink group (get_or inks k d).drawn.ink) refl (all k d less))

pub all_ready_begun : (group : Group) (page n own first : ℕ) (inks : List InkData) → All (IsReady group page n) inks → All (IsReady group page n) (map (begun group own first) inks)
all_ready_begun group page n own first inks all = All-map (IsReady group page n) (begun group own first) inks (λ k d less. ready_begun group page n own first (get_or inks k d) (has_ink group (get_or inks k d).drawn.ink) (all k d less))

-- ---- what comes next

next_chain : (group : Group) (job : JobData) (side : Side) (held : HeldData) (ink : InkData) → IsReady group held.page held.first ink → held.job ≡ job → IsDrawnOf job side ink.drawn → held.first < held.job.plan.page_height
    → (held.count < 8 → held.first + held.count ≡ held.job.plan.page_height) → IsNextChain group held ink
next_chain group job side held ink ready job_is of some whole = record {
  job_is = job_is ∙ sym of.job_is;
  next = λ on chain there. record {
    page_is = sym ((ready.at on).page_is chain there);
    first_is = sym ((ready.at on).count_is chain there);
    some = some;
    whole = whole;
  };
}

pub all_next_chain : (group : Group) (job : JobData) (side : Side) (held : HeldData) (inks : List InkData) → All (IsReady group held.page held.first) inks → held.job ≡ job → All (IsDrawnOf job side) (drawns inks) → held.first < held.job.plan.page_height
    → (held.count < 8 → held.first + held.count ≡ held.job.plan.page_height) → All (IsNextChain group held) inks
all_next_chain group job side held inks ready job_is of some whole = λ k d less. next_chain group job side held (get_or inks k d) (ready k d less) job_is (all_inks_of (IsDrawnOf job side) inks of k d less) some whole

pub all_next_in : (group : Group) (held : HeldData) (inks : List InkData) → All (IsNextChain group held) inks → All (IsOpenFor group held.page held.first held.count) (drawns inks) → All (IsNextIn group held) inks
all_next_in group held inks next free = λ k d less.
    let is : IsOpenFor group held.page held.first held.count (get_or inks k d).drawn = all_inks_of (IsOpenFor group held.page held.first held.count) inks free k d less in
    record {
      chain_is = next k d less;
      page_is = λ on. sym (is.page_is on);
      row_is = λ on. sym (is.row_is on);
      room = λ on. is.room on;
    }

-- rows of a group that are drawn so far are open for further ones
open_by : (group : Group) (side : Side) (page next first done rows : ℕ) (d : DrawnData) (flag : Bool) → has_ink group d.ink ≡ flag → page ≡ page_on side group → first + done ≡ next → done + rows ≤ d.room
    → IsOpenFor group page next rows (cond flag (record d { page = page_on side group; first = first; count = done }) d)
open_by group side page next first done rows d true own page_is next_is room = record { page_is = λ on. sym page_is; row_is = λ on. next_is; room = λ on. room }
open_by group side page next first done rows d false own page_is next_is room = record {
  page_is = λ on. absurd (no_ink (has_ink group d.ink) on own);
  row_is = λ on. absurd (no_ink (has_ink group d.ink) on own);
  room = λ on. absurd (no_ink (has_ink group d.ink) on own);
}

pub all_open : (group : Group) (side : Side) (page next first done rows most : ℕ) (old new : List InkData) → drawns new ≡ map (drawn_for group side first done) (drawns old) → page ≡ page_on side group → first + done ≡ next → done + rows ≤ most → HaveRoom most old
    → All (IsOpenFor group page next rows) (drawns new)
all_open group side page next first done rows most old new is page_is next_is fits room =
    All-same (IsOpenFor group page next rows) (drawns new) (map (drawn_for group side first done) (drawns old)) is
    (All-map (IsOpenFor group page next rows) (drawn_for group side first done) (drawns old)
    (λ k d less. (let enough = rooms_of most old room k d less in
    open_by group side page next first done rows (get_or (drawns old) k d) (has_ink group (get_or (drawns old) k d).ink) refl page_is next_is (omega arith))))

-- ---- where a side is

pub at_same : (group : Group) (a b : ℕ) (rows : SideRowsData) → IsAtGroup group a rows → a ≡ b → IsAtGroup group b rows
at_same group a b rows at same = subst {A = ℕ} (λ n. IsAtGroup group n rows) same at

pub restart_at : (group : Group) (page : ℕ) (old new : SideRowsData) → page ≡ page_on old.side group → new.held ≡ top_of page old.held → IsSameSide old new → new.inks ≡ map (restarted group page) old.inks → IsMovedTo group 0 old new
restart_at group page old new page_is held_is same inks_is =
    let at_page : new.held.page ≡ page = ap {A = HeldData} (λ h. h.page) held_is in
    record {
      at = record {
        page_is = at_page ∙ page_is ∙ ap {A = Side} (λ s. page_on s group) (sym same.side_is);
        next_is = ap {A = HeldData} (λ h. h.first + h.count) held_is;
        chains = subst {A = List InkData} (λ inks. All (IsReady group new.held.page 0) inks) (sym inks_is)
            (subst {A = ℕ} (λ p. All (IsReady group p 0) (map (restarted group page) old.inks)) (sym at_page) (all_ready_top group page old.inks));
      };
      same = same;
      drawn = ap drawns inks_is ∙ drawns-restarted group page old.inks;
    }

pub begin_at : (group : Group) (page first : ℕ) (old new : SideRowsData) → new.held ≡ old.held → new.side ≡ old.side → new.inks ≡ map (begun group page first) old.inks → IsAtGroup group first old → IsAtGroup group first new
begin_at group page first old new held_is side_is inks_is at =
    let same : new.held.page ≡ old.held.page = ap {A = HeldData} (λ h. h.page) held_is in
    record {
      page_is = same ∙ at.page_is ∙ ap {A = Side} (λ s. page_on s group) (sym side_is);
      next_is = ap {A = HeldData} (λ h. h.first + h.count) held_is ∙ at.next_is;
      chains = subst {A = List InkData} (λ inks. All (IsReady group new.held.page first) inks) (sym inks_is)
          (subst {A = ℕ} (λ p. All (IsReady group p first) (map (begun group page first) old.inks)) (sym same) (all_ready_begun group old.held.page first page first old.inks at.chains));
    }

pub pass_at : (group : Group) (old new : SideRowsData) → new.held ≡ next_rows 8 old.held → IsSameSide old new → new.inks ≡ map (passed group) old.inks → IsAtGroup group (next_of old) old → IsMovedTo group (next_of old + 8) old new
pass_at group old new held_is same inks_is at =
    let on_page : new.held.page ≡ old.held.page = ap {A = HeldData} (λ h. h.page) held_is in
    record {
      at = record {
        page_is = on_page ∙ at.page_is ∙ ap {A = Side} (λ s. page_on s group) (sym same.side_is);
        next_is = ap {A = HeldData} (λ h. h.first + h.count) held_is;
        chains = subst {A = List InkData} (λ inks. All (IsReady group new.held.page (next_of old + 8)) inks) (sym inks_is)
            (subst {A = ℕ} (λ p. All (IsReady group p (next_of old + 8)) (map (passed group) old.inks)) (sym on_page) (all_ready_block group old.held.page (next_of old) old.inks at.chains));
      };
      same = same;
      drawn = ap drawns inks_is ∙ drawns-passed group old.inks;
    }

pub draw_at : (group : Group) (rows : ℕ) (old new : SideRowsData) → rows ≡ 8 → new.held ≡ next_rows rows old.held → new.side ≡ old.side → new.inks ≡ map (drawn_on group rows) old.inks → IsAtGroup group (next_of old) old → IsAtGroup group (next_of old + 8) new
draw_at group rows old new eight held_is side_is inks_is at =
    let same : new.held.page ≡ old.held.page = ap {A = HeldData} (λ h. h.page) held_is in
    record {
      page_is = same ∙ at.page_is ∙ ap {A = Side} (λ s. page_on s group) (sym side_is);
      next_is = ap {A = HeldData} (λ h. h.first + h.count) held_is ∙ ap (λ n. next_of old + n) eight;
      chains = subst {A = List InkData} (λ inks. All (IsReady group new.held.page (next_of old + 8)) inks) (sym inks_is)
          (subst {A = ℕ} (λ p. All (IsReady group p (next_of old + 8)) (map (drawn_on group rows) old.inks)) (sym same) (all_ready_drawn group old.held.page (next_of old) rows old.inks at.chains));
    }

-- the rows that are shown next are those that come next in each ink
next_are : (group : Group) (job : JobData) (side : Side) (n : ℕ) (old : HeldData) (inks : List InkData) → All (IsReady group old.page (old.first + old.count)) inks → old.job ≡ job → All (IsDrawnOf job side) (drawns inks)
    → 0 < n → old.first + old.count + n ≤ job.plan.page_height → (n < 8 → old.first + old.count + n ≡ job.plan.page_height) → All (IsNextChain group (next_rows n old)) inks
next_are group job side n old inks ready job_is of some within whole =
    let height : old.job.plan.page_height ≡ job.plan.page_height = ap {A = JobData} (λ j. j.plan.page_height) job_is in
    all_next_chain group job side (next_rows n old) inks ready job_is of (omega arith) (λ less. whole less ∙ sym height)

pub pass_ready : (group : Group) (job : JobData) (side : Side) (n : ℕ) (old new : HeldData) (inks : List InkData) → new ≡ next_rows n old → All (IsReady group old.page (old.first + old.count)) inks → old.job ≡ job → All (IsDrawnOf job side) (drawns inks)
    → 0 < n → old.first + old.count + n ≤ job.plan.page_height → (n < 8 → old.first + old.count + n ≡ job.plan.page_height) → All (IsNextChain group new) inks
pass_ready group job side n old new inks new_is ready job_is of some within whole =
    subst {A = HeldData} (λ h. All (IsNextChain group h) inks) (sym new_is) (next_are group job side n old inks ready job_is of some within whole)

pub draw_ready : (group : Group) (job : JobData) (side : Side) (n : ℕ) (old new : HeldData) (inks : List InkData) → new ≡ next_rows n old → All (IsReady group old.page (old.first + old.count)) inks → old.job ≡ job → All (IsDrawnOf job side) (drawns inks)
    → 0 < n → old.first + old.count + n ≤ job.plan.page_height → (n < 8 → old.first + old.count + n ≡ job.plan.page_height) → All (IsOpenFor group old.page (old.first + old.count) n) (drawns inks) → All (IsNextIn group new) inks
draw_ready group job side n old new inks new_is ready job_is of some within whole free =
    subst {A = HeldData} (λ h. All (IsNextIn group h) inks) (sym new_is) (all_next_in group (next_rows n old) inks (next_are group job side n old inks ready job_is of some within whole) free)

-- ---- inks that were lent

-- the inks after a call to which all were lent, which took each a step further
pub lent : (f : InkData → InkData) (given old new : List InkData) (len : ℕ) → given ≡ old → new ≡ map f given → length old ≡ len → take len (new ++ drop (length new) old) ≡ map f old
lent f given old new len given_is new_is long =
    take_at new (drop (length new) old) len (ap {A = List InkData} length new_is ∙ length-map given f ∙ ap {A = List InkData} length given_is ∙ long) ∙ new_is ∙ ap (map f) given_is

-- one of them
pub item_of : (job : JobData) (side : Side) (inks : List InkData) (i : ℕ) (item : InkData) → All (IsDrawnOf job side) (drawns inks) → i < length inks → item ≡ get_or inks i item → IsDrawnOf job side item.drawn
item_of job side inks i item all less item_is = subst {A = InkData} (λ ink. IsDrawnOf job side ink.drawn) (sym item_is) (all_inks_of (IsDrawnOf job side) inks all i item less)

pub sides_set : (job : JobData) (side : Side) (inks : List InkData) (i : ℕ) (ink : InkData) → All (IsDrawnOf job side) (drawns inks) → IsDrawnOf job side ink.drawn → All (IsDrawnOf job side) (drawns (set inks i ink))
sides_set job side inks i ink all of =
    All-same (IsDrawnOf job side) (drawns (set inks i ink)) (set (drawns inks) i ink.drawn) (map-set (λ (one : InkData). one.drawn) inks i ink) (All-set (IsDrawnOf job side) (drawns inks) i ink.drawn of all)

-- ---- the five inks

pub in_all_open : (job : JobData) (side : Side) (inks : List InkData) → drawns inks ≡ map (blank_rows job side 64) all_inks → HaveRoom 64 inks → AreInAll inks
in_all_open job side inks is room = record { inks_are = ap {A = List DrawnData} (map (λ d. d.ink)) is; room = room }

-- the ink of a place stays
ink_kept : (flag : Bool) (x d : DrawnData) → x.ink ≡ d.ink → (cond flag x d).ink ≡ d.ink
ink_kept true x d same = same
ink_kept false x d same = refl

inks_kept : (group : Group) (side : Side) (first count : ℕ) (rows : List DrawnData) → map (λ d. d.ink) (map (drawn_for group side first count) rows) ≡ map (λ d. d.ink) rows
inks_kept group side first count [] = refl
inks_kept group side first count (d ∷ rows) =
    let one : (drawn_for group side first count d).ink ≡ d.ink = ink_kept (has_ink group d.ink) (record d { page = page_on side group; first = first; count = count }) d refl in
    let rest = inks_kept group side first count rows in
    cc

pub in_all_drawn : (group : Group) (side : Side) (first count : ℕ) (old new : List InkData) → AreInAll old → drawns new ≡ map (drawn_for group side first count) (drawns old) → HaveRoom 64 new → AreInAll new
in_all_drawn group side first count old new are is room = record {
  inks_are = ap {A = List DrawnData} (map (λ d. d.ink)) is ∙ inks_kept group side first count (drawns old) ∙ are.inks_are;
  room = room;
}

pub in_all_five : (inks : List InkData) → AreInAll inks → length inks ≡ 5
in_all_five inks are = sym (length-map inks (λ (i : InkData). i.drawn)) ∙ sym (length-map (drawns inks) (λ (d : DrawnData). d.ink)) ∙ ap {A = List Ink} length are.inks_are

-- the rows at the slot of an ink are in this ink
at_slot : (inks : List InkData) (ink : Ink) (d : DrawnData) → AreInAll inks → (get_or (drawns inks) (slot_of ink) d).ink ≡ ink
at_slot inks ink d are =
    let five = in_all_five inks are in
    let long : length (drawns inks) ≡ length inks = length-map inks (λ (i : InkData). i.drawn) in
    let below = slot_below ink in
    sym (get_or-map (λ (r : DrawnData). r.ink) (drawns inks) (slot_of ink) d ink (omega arith)) ∙ ap (λ is. get_or is (slot_of ink) ink) are.inks_are ∙ ink_at_slot ink ink

-- those that are lent
pub lent_rows : (inks : List InkData) (ink : Ink) (i : ℕ) (item : InkData) → AreInAll inks → i ≡ slot_of ink → item ≡ get_or inks i item → slice_get (drawns inks) (slot_of ink) ≡ Some item.drawn
lent_rows inks ink i item are i_is item_is =
    let five = in_all_five inks are in
    let below = slot_below ink in
    slice_get-map (λ (one : InkData). one.drawn) inks (slot_of ink)
    ∙ ap (option_map (λ (one : InkData). one.drawn)) (slice_get-get_or inks (slot_of ink) item (omega arith))
    ∙ ap {A = InkData} (λ one. Some one.drawn) (ap (λ n. get_or inks n item) (sym i_is) ∙ sym item_is)

pub lent_own : (job : JobData) (side : Side) (inks : List InkData) (ink : Ink) (rows : DrawnData) → AreInAll inks → All (IsDrawnOf job side) (drawns inks) → slice_get (drawns inks) (slot_of ink) ≡ Some rows → IsRowsOf job side ink rows
lent_own job side inks ink rows are all there =
    let five = in_all_five inks are in
    let long : length (drawns inks) ≡ length inks = length-map inks (λ (i : InkData). i.drawn) in
    let below = slot_below ink in
    let own : get_or (drawns inks) (slot_of ink) rows ≡ rows = get_or_from_slice_get (drawns inks) (slot_of ink) rows rows there in
    let of : IsDrawnOf job side rows = subst {A = DrawnData} (IsDrawnOf job side) own (all (slot_of ink) rows (omega arith)) in
    record {
      job_is = of.job_is;
      side_is = of.side_is;
      ink_is = ap {A = DrawnData} (λ d. d.ink) (sym own) ∙ at_slot inks ink rows are;
    }

-- the block with a row was drawn
has_row : (group : Group) (side : Side) (first count y : ℕ) (d : DrawnData) (flag : Bool) → flag ≡ true → first ≤ y → y < first + count
    → HasRow (cond flag (record d { page = page_on side group; first = first; count = count }) d) (page_on side group) y
has_row group side first count y d true on from within = record { page_is = refl; from = from; within = within }
has_row group side first count y d false on from within = cc

pub row_reached : (group : Group) (side : Side) (ink : Ink) (first count y : ℕ) (old new : List InkData) → AreInAll old → drawns new ≡ map (drawn_for group side first count) (drawns old) → has_ink group ink ≡ true → first ≤ y → y < first + count
    → ForSome (slice_get (drawns new) (slot_of ink)) (λ drawn. HasRow drawn (page_on side group) y)
row_reached group side ink first count y old new are is on from within = λ d there.
    let five = in_all_five old are in
    let long : length (drawns old) ≡ length old = length-map old (λ (i : InkData). i.drawn) in
    let below = slot_below ink in
    let own = get_or (drawns old) (slot_of ink) d in
    let drawn : drawn_for group side first count own ≡ d =
    sym (get_or-map (drawn_for group side first count) (drawns old) (slot_of ink) d d (omega arith)) ∙ ap {A = List DrawnData} (λ rows. get_or rows (slot_of ink) d) (sym is) ∙ get_or_from_slice_get (drawns new) (slot_of ink) d d there in
    subst {A = DrawnData} (λ one. HasRow one (page_on side group) y) drawn
    (has_row group side first count y own (has_ink group own.ink) (ap {A = Ink} (has_ink group) (at_slot old ink d are) ∙ on) from within)
