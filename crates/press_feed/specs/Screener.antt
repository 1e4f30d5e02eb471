-- How an ink is screened.
use Rattle.std.specs.Prelude.{◌≡◌, ℕ, Bool, true, false, List, length, slice_index_or}
use Rattle.pr_base.specs.declared.ink.Ink.{Ink}
use Rattle.pr_base.specs.Ink.{slot_of}
use Rattle.scr_tile.specs.Tile.{threshold_at}
use Rattle.scr_tile.specs.AnyTile.{threshold_of}
use Rattle.plan_parts.specs.declared.printing.Screen.{Screen}
use Rattle.plan_parts.specs.declared.printing.Screen.TheVariants.{Bayer, Diffuse, Own}
use Rattle.plan_json.specs.Data.{PlanData}
use Rattle.press_feed.specs.declared.screener.Screener.{Screener}
use Rattle.press_feed.specs.declared.screener.Screener.TheVariants.{Tile, Diffusion}
use Rattle.press_job.specs.Printing.{own_threshold, screen_of}

-- ---- the screens of a plan

abbrev pub is_diffusion : Screen → Bool
is_diffusion (Bayer side) = false
is_diffusion Diffuse = true
is_diffusion (Own tile) = false

-- whether the plan diffuses an ink
abbrev pub is_diffused : PlanData → Ink → Bool
is_diffused plan ink = is_diffusion (screen_of plan ink)

-- the threshold of a pixel under a screen; 0 if the ink is diffused
abbrev pub threshold_under : PlanData → Screen → ℕ → ℕ → ℕ
threshold_under plan (Bayer side) x y = threshold_at side x y
threshold_under plan Diffuse x y = 0
threshold_under plan (Own tile) x y = own_threshold plan tile x y

-- ---- a screener

abbrev pub diffuses : Screener → Bool
diffuses (Tile tile) = false
diffuses Diffusion = true

abbrev pub threshold_in : Screener → ℕ → ℕ → ℕ
threshold_in (Tile tile) x y = threshold_of tile x y
threshold_in Diffusion x y = 0

-- it screens an ink as the plan says
pub record IsScreener (plan : PlanData) (ink : Ink) (screener : Screener) : Type 0 where
  pub kind : diffuses screener ≡ is_diffused plan ink
  pub thresholds : (x y : ℕ) → threshold_in screener x y ≡ threshold_under plan (screen_of plan ink) x y

-- a screener for each ink of a plan
pub record AreScreeners (plan : PlanData) (screeners : List Screener) : Type 0 where
  pub five : length screeners ≡ 5
  pub each : (ink : Ink) (d : Screener) → IsScreener plan ink (slice_index_or screeners (slot_of ink) d)
