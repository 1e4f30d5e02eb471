-- A plate built in memory.
use Rattle.std.specs.Prelude.{◌≡◌, ℕ, ◌<◌, ◌≤◌, List, ◌++◌, length}
use Rattle.std.specs.List.{All, flat_map}
use Rattle.pr_base.specs.Row.{row_size}
use Rattle.tif_packbits.specs.Packbits.{packing}
use Rattle.tif_plate.specs.Plate.{IsSide, IsDpi, strip_count, plate_file}
use Rattle.tif_plate.specs.Tail.{counts_so_far, front_bytes}
use Rattle.plate_bytes.specs.Places.{row_ends}
use Rattle.plate_bytes.specs.Strips.{StripState}

-- the model of a plate in memory
pub record PlateState : Type 0 where
  -- width and height in pixels, and the resolution in pixels per inch
  pub width : ℕ
  pub height : ℕ
  pub dpi : ℕ
  -- the bytes so far
  pub bytes : List ℕ
  -- the byte counts of its strips so far
  pub counts : List ℕ
  -- the offset of the end of each packed row
  pub ends : List ℕ

-- the plate of these strips, with these bytes and ends of rows
abbrev pub plate_of : StripState → List ℕ → List ℕ → PlateState
plate_of strips bytes ends = record {
  width = strips.sides.width;
  height = strips.sides.height;
  dpi = strips.sides.dpi;
  bytes = bytes;
  counts = strips.counts;
  ends = ends;
}

-- a plate of this width, height and resolution that has only these first rows
unfoldable pub so_far : ℕ → ℕ → ℕ → List (List ℕ) → PlateState
so_far width height dpi rows = record {
  width = width;
  height = height;
  dpi = dpi;
  bytes = front_bytes ++ flat_map packing rows;
  counts = counts_so_far width height rows;
  ends = row_ends rows;
}

-- a plate with all its rows and the bytes after them: the plate file
unfoldable pub whole : ℕ → ℕ → ℕ → List (List ℕ) → PlateState
whole width height dpi rows = record {
  width = width;
  height = height;
  dpi = dpi;
  bytes = plate_file width dpi rows;
  counts = counts_so_far width height rows;
  ends = row_ends rows;
}

-- the same width, height and resolution
pub record IsAlike (old new : PlateState) : Type 0 where
  pub width : new.width ≡ old.width
  pub height : new.height ≡ old.height
  pub dpi : new.dpi ≡ old.dpi

-- the plate has exactly these rows so far, each of the right length
pub record HasRows (plate : PlateState) (rows : List (List ℕ)) : Type 0 where
  pub is : plate ≡ so_far plate.width plate.height plate.dpi rows
  pub each : All (λ row. length row ≡ row_size plate.width) rows

-- the plate has these rows, and packed is the packing of a next row
pub record TakesRow (plate : PlateState) (rows : List (List ℕ)) (row packed : List ℕ) : Type 0 where
  pub has : HasRows plate rows
  pub more : length rows < plate.height
  pub size : length row ≡ row_size plate.width
  pub is : packed ≡ packing row

-- the plate has some rows, and packed is the packing of some next row
pub record CanTake (plate : PlateState) (packed : List ℕ) : Type 0 where
  pub rows : List (List ℕ)
  pub row : List ℕ
  pub takes : TakesRow plate rows row packed

-- the plate has these rows, and they are all of its rows
pub record HasAllRows (plate : PlateState) (rows : List (List ℕ)) : Type 0 where
  pub has : HasRows plate rows
  pub all : length rows ≡ plate.height

-- the plate has all of some rows
pub record IsFull (plate : PlateState) : Type 0 where
  pub rows : List (List ℕ)
  pub has : HasAllRows plate rows

-- the invariant of a plate
pub record IsPlate (plate : PlateState) : Type 0 where
  pub width : IsSide plate.width
  pub height : IsSide plate.height
  pub dpi : IsDpi plate.dpi
  pub strips : length plate.counts ≡ strip_count plate.width plate.height
  pub rows : length plate.ends ≤ plate.height
