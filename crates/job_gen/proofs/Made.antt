-- A generated file as the reader sees it.
use Rattle.std.specs.Prelude.{ℕ, ◌==◌}
use Rattle.tif_strips.specs.declared.shape.Shape.{Shape}
use Rattle.tif_make.specs.declared.form.ImageForm.{ImageForm}
use Rattle.tif_make.specs.declared.form.Planar.{Planar}
use Rattle.tif_make.specs.declared.form.Planar.TheVariants.{Chunky, Separate}
use Rattle.tif_make.specs.Form.{compression_of}

-- PlanarConfiguration (TIFF 6.0, Section 8)
abbrev pub planar_number : Planar → ℕ
planar_number Chunky = 1
planar_number Separate = 2

-- the shape of an image with this layout, of this many samples of this many bits
abbrev pub shape_for : ℕ → ℕ → ImageForm → Shape
shape_for samples bits form = record {
  width = form.width;
  length = form.length;
  samples = samples;
  bits = bits;
  planar = planar_number form.planar;
  packed = compression_of form.compression == 32773;
  rows_per_strip = form.rows_per_strip;
}
