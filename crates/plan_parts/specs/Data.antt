-- The parts of a plan as plain data. Texts are their bytes; lists of five are in the order C, M, Y, K, S.
use Rattle.std.specs.Prelude.{ℕ, List, Bool}
use Rattle.plan_parts.specs.declared.printing.Mark.{Mark}
use Rattle.plan_parts.specs.declared.layer.PlanLayer.{PlanLayer}

-- a mark: its inks, its position and its sides
abbrev pub MarkData : Type 0
MarkData = Mark

-- a layer of a page; `file` and `mask` are indexes of the plan's files
abbrev pub LayerData : Type 0
LayerData = PlanLayer

-- the points of a curve: an input ink value, and the value that it becomes
abbrev pub CurveData : Type 0
CurveData = List (ℕ × ℕ)

-- a threshold tile: its thresholds row by row
pub record TileData : Type 0 where
  pub name : List ℕ
  pub width : ℕ
  pub height : ℕ
  pub at : List ℕ

-- a page; the first layer is at the bottom
pub record PageData : Type 0 where
  pub name : List ℕ
  pub colour : Bool
  pub spot : Bool
  pub layers : List LayerData
