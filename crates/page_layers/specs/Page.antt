-- The rows of a page.
use Rattle.std.specs.Prelude.{ℕ, ◌-◌, ◌==◌, ◌&&◌, nat_lt, not, if◌then◌else◌, Bool, List}
use Rattle.page_layers.specs.declared.layer.Layer.{Layer}
use Rattle.page_layers.specs.Layer.{covers_row, row_at}

-- a page before one of its rows: its layers, its sides in pixels, the number of the next row, and the number
-- of layers that it has buffers for
pub record Page : Type 0 where
  pub layers : List Layer
  pub width : ℕ
  pub height : ℕ
  pub next : ℕ
  pub room : ℕ

-- whether the layer shows on row y of a page of this width
abbrev pub shows_on : ℕ → Layer → ℕ → Bool
shows_on width layer y = nat_lt layer.x width && covers_row layer y

-- whether rows y - 1 and y show the same of the layer: nothing, or the same row of the image
abbrev pub shows_alike : ℕ → Layer → ℕ → Bool
shows_alike width layer y =
    if shows_on width layer (y - 1) then shows_on width layer y && (row_at layer (y - 1) == row_at layer y)
    else not (shows_on width layer y)
