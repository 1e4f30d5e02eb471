-- The screeners of a plan's inks: one for each, and what a tile makes of a row.
use Rattle.std.proofs.Common.{◌≡◌, ℕ, ◌+◌, ◌<◌, false, List, [], ◌∷◌, ◌++◌, length, get_or, ap, sym, ◌∙◌, subst, arith, below_more}
use Rattle.std.specs.Prelude.{slice_index}
use Rattle.std.proofs.lemmas.List.{get_or_push, get_or_append_left, get_or_default}
use Rattle.std.proofs.lemmas.List.FromFn.{get_or-map-range_with_len}
use Rattle.pr_base.specs.declared.ink.Ink.{Ink}
use Rattle.pr_base.specs.Bits.{SetsBits}
use Rattle.pr_base.specs.Ink.{all_inks, slot_of}
use Rattle.pr_base.proofs.Inks.{ink_at_slot, slot_below}
use Rattle.scr_tile.specs.Tile.{tile_bit}
use Rattle.scr_tile.specs.AnyTile.{threshold_of}
use Rattle.scr_tile.specs.declared.any_tile.AnyTile.{AnyTile}
use Rattle.plan_parts.specs.declared.printing.Screen.{Screen}
use Rattle.plan_parts.specs.declared.printing.Screen.TheVariants.{Bayer, Diffuse, Own}
use Rattle.plan_json.specs.Data.{PlanData}
use Rattle.press_feed.specs.declared.screener.Screener.{Screener}
use Rattle.press_feed.specs.declared.screener.Screener.TheVariants.{Tile}
use Rattle.press_job.specs.Printing.{bit_under, page_bit, page_values, printed_at, printed_row, screen_of}
use Rattle.press_job.proofs.PlaneLemmas.{get_or-printed_row}
use Rattle.press_feed.specs.Screener.{AreScreeners, IsScreener, is_diffusion, threshold_under}

-- ---- one for each ink

-- one more is appended to those of the inks so far
pub screeners_more : (plan : PlanData) (inks : List Ink) (screeners : List Screener) (screener : Screener) (i : ℕ) (ink : Ink) → length screeners ≡ i → i < length inks
    → ink ≡ get_or inks i ink
    → ((k : ℕ) (e : Ink) (d : Screener) → k < i → IsScreener plan (get_or inks k e) (get_or screeners k d)) → IsScreener plan ink screener
    → (k : ℕ) (e : Ink) (d : Screener) → k < i + 1 → IsScreener plan (get_or inks k e) (get_or (screeners ++ screener ∷ []) k d)
screeners_more plan inks screeners screener i ink long within there before is k e d less =
    below_more (λ k. IsScreener plan (get_or inks k e) (get_or (screeners ++ screener ∷ []) k d)) i
    (λ k below. subst {A = Screener} (λ s. IsScreener plan (get_or inks k e) s) (sym (get_or_append_left screeners (screener ∷ []) d k (omega arith))) (before k e d below))
    (subst {A = Screener} (λ s. IsScreener plan (get_or inks i e) s) (sym (get_or_push screeners screener d i long))
    (subst {A = Ink} (λ j. IsScreener plan j screener) (there ∙ get_or_default inks i ink e within) is))
    k less

-- those of all inks
pub screeners_all : (plan : PlanData) (screeners : List Screener) → length screeners ≡ 5
    → ((k : ℕ) (e : Ink) (d : Screener) → k < 5 → IsScreener plan (get_or all_inks k e) (get_or screeners k d)) → AreScreeners plan screeners
screeners_all plan screeners long each = record {
  five = long;
  each = λ ink d. subst {A = Ink} (λ j. IsScreener plan j (get_or screeners (slot_of ink) d)) (ink_at_slot ink ink) (each (slot_of ink) ink d (slot_below ink));
}

-- what was read at the slot of an ink screens it
own_screener : (plan : PlanData) (ink : Ink) (screeners : List Screener) (i : ℕ) (own screener : Screener) → AreScreeners plan screeners → i ≡ slot_of ink → own ≡ get_or screeners i own → own ≡ screener → IsScreener plan ink screener
own_screener plan ink screeners i own screener are i_is own_is is =
    subst {A = Screener} (IsScreener plan ink) (ap (λ n. get_or screeners n own) (sym i_is) ∙ sym own_is ∙ is) (are.each ink own)

pub own_tile : (plan side_plan : PlanData) (ink : Ink) (screeners : List Screener) (i : ℕ) (own : Screener) (tile : AnyTile) → AreScreeners plan screeners → side_plan ≡ plan → i ≡ slot_of ink → own ≡ get_or screeners i own → own ≡ Tile tile
    → IsScreener side_plan ink (Tile tile)
own_tile plan side_plan ink screeners i own tile are same i_is own_is is =
    subst {A = PlanData} (λ p. IsScreener p ink (Tile tile)) (sym same) (own_screener plan ink screeners i own (Tile tile) are i_is own_is is)

-- ---- a row

-- row y of the values of a page
pub get_or-page_values : (plan : PlanData) (files : List (List ℕ)) (page : ℕ) (ink : Ink) (y : ℕ) → y < plan.page_height → get_or (page_values plan files page ink) y [] ≡ printed_row plan files page ink y
unfolding page_values
get_or-page_values plan files page ink y within = get_or-map-range_with_len (printed_row plan files page ink) 0 plan.page_height y y [] within (omega arith)

-- ---- a tile

-- the bit under the tile of a screen is that of the page
bit-by_tile : (plan : PlanData) (files : List (List ℕ)) (page : ℕ) (ink : Ink) (x y : ℕ) (tile : AnyTile) (screen : Screen) → false ≡ is_diffusion screen
    → ((x y : ℕ) → threshold_of tile x y ≡ threshold_under plan screen x y) → x < plan.page_width
    → tile_bit (slice_index (printed_row plan files page ink y) x) (threshold_of tile x y) ≡ bit_under plan files page ink x y screen
bit-by_tile plan files page ink x y tile (Bayer side) kind thresholds column =
    ap (λ v. tile_bit v (threshold_of tile x y)) (get_or-printed_row plan files page ink x y column) ∙ ap (λ t. tile_bit (printed_at plan files page ink x y) t) (thresholds x y)
bit-by_tile plan files page ink x y tile (Own index) kind thresholds column =
    ap (λ v. tile_bit v (threshold_of tile x y)) (get_or-printed_row plan files page ink x y column) ∙ ap (λ t. tile_bit (printed_at plan files page ink x y) t) (thresholds x y)
bit-by_tile plan files page ink x y tile Diffuse kind thresholds column = cc

bit_is : (plan : PlanData) (files : List (List ℕ)) (page : ℕ) (ink : Ink) (x y : ℕ) (tile : AnyTile) → IsScreener plan ink (Tile tile) → x < plan.page_width
    → tile_bit (slice_index (printed_row plan files page ink y) x) (threshold_of tile x y) ≡ page_bit plan files page ink x y
unfolding page_bit
bit_is plan files page ink x y tile is column = bit-by_tile plan files page ink x y tile (screen_of plan ink) is.kind is.thresholds column

-- the pixels under the tile of an ink are those of the page
pub tile_sets : (plan : PlanData) (files : List (List ℕ)) (page : ℕ) (ink : Ink) (y from : ℕ) (tile : AnyTile) (values old new : List ℕ) → IsScreener plan ink (Tile tile) → length values ≡ plan.page_width
    → values ≡ printed_row plan files page ink y → SetsBits (λ x. tile_bit (slice_index values x) (threshold_of tile x y)) from (length values) old new
    → SetsBits (λ x. page_bit plan files page ink x y) from plan.page_width old new
tile_sets plan files page ink y from tile values old new is width values_are sets =
    let at : SetsBits (λ x. tile_bit (slice_index (printed_row plan files page ink y) x) (threshold_of tile x y)) from plan.page_width old new =
    subst {A = List ℕ} (λ vs. SetsBits (λ x. tile_bit (slice_index vs x) (threshold_of tile x y)) from plan.page_width old new) values_are
    (subst {A = ℕ} (λ n. SetsBits (λ x. tile_bit (slice_index values x) (threshold_of tile x y)) from n old new) width sets) in
    record {
      inside = λ x less. at.inside x less ∙ bit_is plan files page ink x y tile is less;
      before = at.before;
      behind = at.behind;
    }
