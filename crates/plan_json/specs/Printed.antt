-- The middle and the last keys of a plan, as they are read.
use Rattle.std.specs.Prelude.{List}
use Rattle.plan_parts.specs.declared.printing.Screen.{Screen}
use Rattle.plan_parts.specs.Data.{TileData, CurveData, MarkData}
use Rattle.plan_json.specs.Data.{SectionData, ZoneData, SiteData}
use Rattle.plan_json.specs.Pages.{PageText}

-- how inks are printed
pub record Inks : Type 0 where
  pub tiles : List TileData
  pub screens : List Screen
  pub curves : List CurveData
  pub marks : List MarkData

-- which pages are printed where
pub record Layout : Type 0 where
  pub pages : List PageText
  pub sections : List SectionData
  pub zones : List ZoneData
  pub sites : List SiteData
