-- Plates that are made together from the rows of a feed, one row of each in turn.
use Rattle.std.specs.Prelude.{◌≡◌, ℕ, ◌+◌, ◌*◌, ◌<◌, ◌≤◌, All, List, [], ◌∷◌, length, map, slice_index_or}
use Rattle.std.specs.List.{range_with_len}
use Rattle.pr_base.specs.Row.{row_size}
use Rattle.tif_packbits.specs.Frame.{frame_of, frame_size}
use Rattle.tif_plate.specs.declared.sides.Sides.{Sides}
use Rattle.plate_bytes.specs.Made.{PlateState, HasRows, so_far, whole}

-- each of these plates has these sides
pub record HaveSides (sides : Sides) (plates : List PlateState) : Type 0 where
  pub width : (i : ℕ) (d : PlateState) → i < length plates → (slice_index_or plates i d).width ≡ sides.width
  pub height : (i : ℕ) (d : PlateState) → i < length plates
      → (slice_index_or plates i d).height ≡ sides.height
  pub dpi : (i : ℕ) (d : PlateState) → i < length plates → (slice_index_or plates i d).dpi ≡ sides.dpi

-- plate i has these rows so far
pub record HaveRows (sides : Sides) (rows : ℕ → List (List ℕ)) (plates : List PlateState) : Type 0 where
  pub are : (i : ℕ) (d : PlateState) → i < length plates
      → slice_index_or plates i d ≡ so_far sides.width sides.height sides.dpi (rows i)

-- plate i is the whole file of these rows
pub record AreWhole (sides : Sides) (rows : ℕ → List (List ℕ)) (plates : List PlateState) : Type 0 where
  pub are : (i : ℕ) (d : PlateState) → i < length plates
      → slice_index_or plates i d ≡ whole sides.width sides.height sides.dpi (rows i)

-- a plate has these rows, and the frame of its next row is the next of a feed
pub record TakesNext (plate : PlateState) (left : List (List ℕ)) (len : ℕ) (rows : List (List ℕ))
    (row : List ℕ) (rest : List (List ℕ)) : Type 0 where
  pub has : HasRows plate rows
  pub more : length rows < plate.height
  pub size : length row ≡ row_size plate.width
  pub small : length row ≤ 8192
  pub feeds : left ≡ frame_of row ∷ rest
  pub frame : len ≡ frame_size (length row)

pub record CanTakeNext (plate : PlateState) (left : List (List ℕ)) (len : ℕ) : Type 0 where
  pub rows : List (List ℕ)
  pub row : List ℕ
  pub rest : List (List ℕ)
  pub takes : TakesNext plate left len rows row rest

-- plate i has these rows, and the frames of these next rows are the next of a feed
pub record EachTakes (plates : List PlateState) (left : List (List ℕ)) (len : ℕ) (sides : Sides)
    (rows : ℕ → List (List ℕ)) (next : List (List ℕ)) : Type 0 where
  pub have : HaveRows sides rows plates
  pub feeds : left ≡ map frame_of next
  pub enough : length plates ≤ length next
  pub each : All (λ row. length row ≡ row_size sides.width) next
  pub earlier : (i : ℕ) → i < length plates → All (λ row. length row ≡ row_size sides.width) (rows i)
  pub more : (i : ℕ) → i < length plates → length (rows i) < sides.height
  pub small : row_size sides.width ≤ 8192
  pub frame : len ≡ frame_size (row_size sides.width)

pub record EachCanTake (plates : List PlateState) (left : List (List ℕ)) (len : ℕ) : Type 0 where
  pub sides : Sides
  pub rows : ℕ → List (List ℕ)
  pub next : List (List ℕ)
  pub takes : EachTakes plates left len sides rows next

-- the first y rows of plate i of k, where the plates' rows come in turn
abbrev pub turn_rows : ℕ → List (List ℕ) → ℕ → ℕ → List (List ℕ)
turn_rows k next y i = map (λ z. slice_index_or next (z * k + i) []) (range_with_len 0 y)

-- plates of these sides; the frames of all their rows are the next of a feed
pub record AreFed (plates : List PlateState) (left : List (List ℕ)) (len : ℕ) (sides : Sides)
    (next : List (List ℕ)) : Type 0 where
  pub have : HaveSides sides plates
  pub feeds : left ≡ map frame_of next
  pub enough : sides.height * length plates ≤ length next
  pub each : All (λ row. length row ≡ row_size sides.width) next
  pub small : row_size sides.width ≤ 8192
  pub frame : len ≡ frame_size (row_size sides.width)

pub record CanBeFed (plates : List PlateState) (left : List (List ℕ)) (len height : ℕ) : Type 0 where
  pub sides : Sides
  pub next : List (List ℕ)
  pub fed : AreFed plates left len sides next
  pub high : height ≡ sides.height

-- the same for plates that have no rows yet
pub record CanTakeAll (plates : List PlateState) (left : List (List ℕ)) (len height : ℕ) : Type 0 where
  pub sides : Sides
  pub next : List (List ℕ)
  pub fed : AreFed plates left len sides next
  pub none : HaveRows sides (λ i. []) plates
  pub high : height ≡ sides.height

-- plate i has these rows, which are all its rows
pub record AreFull (sides : Sides) (rows : ℕ → List (List ℕ)) (plates : List PlateState) : Type 0 where
  pub have : HaveRows sides rows plates
  pub each : (i : ℕ) → i < length plates → All (λ row. length row ≡ row_size sides.width) (rows i)
  pub all : (i : ℕ) → i < length plates → length (rows i) ≡ sides.height

pub record CanFinish (plates : List PlateState) : Type 0 where
  pub sides : Sides
  pub rows : ℕ → List (List ℕ)
  pub full : AreFull sides rows plates
