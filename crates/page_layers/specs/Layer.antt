-- A layer of a page, and what it does to the ink at a pixel. The rules are plateroom's own. Coordinates are a
-- column and a row in an image, and x and y on a page.
use Rattle.std.specs.Prelude.{◌≡◌, ℕ, ◌+◌, ◌-◌, ◌*◌, ◌/◌, ◌≤◌, ◌&&◌, nat_lt, nat_le, Bool, true}
use Rattle.std.specs.Prelude.{if◌then◌else◌, List, [], ◌∷◌, slice_index, Option, Some, None}
use Rattle.std.specs.List.{fold}
use Rattle.std.specs.Option.{ForSome}
use Rattle.tif_strips.specs.declared.shape.Shape.{Shape}
use Rattle.tif_image.specs.Image.{BilevelImage, pixel_marked, sample_at}
use Rattle.page_layers.specs.declared.layer.Art.{Art}
use Rattle.page_layers.specs.declared.layer.Art.TheVariants.{Contone, Line}
use Rattle.page_layers.specs.declared.layer.Layer.{Layer}
use Rattle.page_layers.specs.Inks.{blank, laid}

-- ---- the image of a layer

-- the shape of the image
abbrev pub shape_of : Art → Shape
shape_of (Contone image) = image.shape
shape_of (Line image inks) = image.shape

-- the bytes of the image's file
abbrev pub bytes_of : Art → List ℕ
bytes_of (Contone image) = image.bytes
bytes_of (Line image inks) = image.bytes

-- the five ink values that a pixel of the image paints: the four samples of a contone image and no spot ink,
-- or the inks of linework
abbrev pub paint_at : Art → ℕ → ℕ → List ℕ
paint_at (Contone image) column row =
    sample_at image.shape image.bytes column row 0 ∷ sample_at image.shape image.bytes column row 1
    ∷ sample_at image.shape image.bytes column row 2 ∷ sample_at image.shape image.bytes column row 3 ∷ 0 ∷ []
paint_at (Line image inks) column row =
    slice_index inks 0 ∷ slice_index inks 1 ∷ slice_index inks 2
    ∷ slice_index inks 3 ∷ slice_index inks 4 ∷ []

-- whether a pixel of the image paints: every pixel of a contone image, the marked pixels of linework
abbrev pub paints_at : Art → ℕ → ℕ → Bool
paints_at (Contone image) column row = true
paints_at (Line image inks) column row = pixel_marked image.shape image.bytes column row

-- whether the mask lets a pixel of the image show; without a mask every pixel shows
abbrev pub shows_through : Option BilevelImage → ℕ → ℕ → Bool
shows_through None column row = true
shows_through (Some mask) column row = pixel_marked mask.shape mask.bytes column row

-- whether a pixel of the image shows on the page
abbrev pub admits : Layer → ℕ → ℕ → Bool
admits layer column row = paints_at layer.art column row && shows_through layer.mask column row

-- ---- the position of a layer on the page

-- whether a column of the image is at x of the page
abbrev pub covers_column : Layer → ℕ → Bool
covers_column layer x = nat_le layer.x x && nat_lt x (layer.x + layer.crop.width * layer.scale)

-- whether a row of the image is at y of the page
abbrev pub covers_row : Layer → ℕ → Bool
covers_row layer y = nat_le layer.y y && nat_lt y (layer.y + layer.crop.height * layer.scale)

-- the column of the image at x; each column covers `scale` columns of the page
abbrev pub column_at : Layer → ℕ → ℕ
column_at layer x = layer.crop.x + (x - layer.x) / layer.scale

-- the row of the image at y; each row covers `scale` rows of the page
abbrev pub row_at : Layer → ℕ → ℕ
row_at layer y = layer.crop.y + (y - layer.y) / layer.scale

-- ---- the ink of a page

-- the five ink values at a pixel of the page, with the layer painted over those below
abbrev pub painted : Layer → ℕ → ℕ → List ℕ → List ℕ
painted layer x y under =
    if covers_column layer x && covers_row layer y && admits layer (column_at layer x) (row_at layer y)
    then laid layer.overprint (paint_at layer.art (column_at layer x) (row_at layer y)) under
    else under

-- the five ink values at a pixel of a page: its layers painted in order over no ink, the first at the bottom
unfoldable pub ink_at : List Layer → ℕ → ℕ → List ℕ
ink_at layers x y = fold (λ under layer. painted layer x y under) blank layers

-- ---- the layers that a page accepts

-- the crop is not empty and inside the image, the scale is 1 to 64, and a mask has the width and length of
-- the image
pub record IsLayer (layer : Layer) : Type 0 where
  pub wide : 1 ≤ layer.crop.width
  pub high : 1 ≤ layer.crop.height
  pub columns : layer.crop.x + layer.crop.width ≤ (shape_of layer.art).width
  pub rows : layer.crop.y + layer.crop.height ≤ (shape_of layer.art).length
  pub scaled : 1 ≤ layer.scale
  pub scale : layer.scale ≤ 64
  pub mask_width : ForSome layer.mask (λ mask. mask.shape.width ≡ (shape_of layer.art).width)
  pub mask_length : ForSome layer.mask (λ mask. mask.shape.length ≡ (shape_of layer.art).length)
