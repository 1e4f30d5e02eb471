-- Rows that equal the row above them, by their packed bytes.
use Rattle.std.proofs.Common.{lit<, ◌≡◌, ◌≢◌, ℕ, ◌+◌, ◌-◌, ◌<◌, ◌≤◌, Bool, List, [], Option, Some, None, IfSome, IsSome, IsTrue, length, take, get_or, refl, sym, ap, ◌∙◌, arith}
use Rattle.std.proofs.lemmas.List.{length-take-le}
use Rattle.std.proofs.lemmas.Option.{IfSome_then}
use Rattle.tif_strips.specs.declared.last_row.LastRow.{LastRow}
use Rattle.tif_strips.specs.declared.place.Place.{Place}
use Rattle.tif_strips.specs.Strips.{Image, plane_row, plane_row_length, planes}
use Rattle.tif_strips.specs.Planes.{aheads_of}
use Rattle.tif_strips.specs.Place.{IsPlace}
use Rattle.tif_strips.specs.Again.{AreAbove, AreFirst, AreLong, AreNext, ComesAgain, IsAbove, Repeats}
use Rattle.tif_strips.proofs.Inks.{image_row-ink}
use Rattle.tif_strips.proofs.Places.{row_ahead, row_long}

-- the first row of the samples ahead is above the row after it
first_above : (image : Image) (place : Place) (plane row : ℕ) (known : Option (List ℕ)) → IsPlace image place → 0 < place.rows → row ≡ plane_row_length image.shape → plane < planes image.shape
    → IfSome known (λ k. k ≡ take row (get_or (aheads_of place.planes) plane [])) → IfSome known (IsAbove image plane (place.next + 1))
first_above image place plane row known is some row_is below has = IfSome_then known has (λ k first. record {
  below = omega arith;
  long = ap length first ∙ length-take-le row _ (row_long image place plane row is some row_is below) ∙ row_is;
  is = first ∙ row_ahead image place plane row is some row_is below ∙ ap (plane_row image.shape image.bytes plane) (omega arith);
})

pub are_above : (image : Image) (place : Place) (row : ℕ) (last : LastRow) → IsPlace image place → 0 < place.rows → row ≡ plane_row_length image.shape → planes image.shape ≡ 4
    → AreFirst row (aheads_of place.planes) last → AreAbove image (place.next + 1) last
are_above image place row last is some row_is four first = record {
  cyan_is = first_above image place 0 row last.cyan is some row_is (omega arith) first.cyan_is;
  magenta_is = first_above image place 1 row last.magenta is some row_is (omega arith) first.magenta_is;
  yellow_is = first_above image place 2 row last.yellow is some row_is (omega arith) first.yellow_is;
  black_is = first_above image place 3 row last.black is some row_is (omega arith) first.black_is;
}

-- a known row that comes next is the row of its plane again
again_plane : (image : Image) (place : Place) (plane : ℕ) (row : List ℕ) → IsPlace image place → 0 < place.rows → plane < planes image.shape
    → IsAbove image plane place.next row → take (length row) (get_or (aheads_of place.planes) plane []) ≡ row
    → plane_row image.shape image.bytes plane place.next ≡ plane_row image.shape image.bytes plane (place.next - 1)
again_plane image place plane row is some below above next =
    sym (row_ahead image place plane (length row) is some above.long below) ∙ next ∙ above.is

again_ink : (image : Image) (place : Place) (ink : ℕ) (known : Option (List ℕ)) → IsPlace image place → 0 < place.rows → planes image.shape ≡ 4 → ink < 4 → IsSome known
    → IfSome known (IsAbove image ink place.next) → IfSome known (λ row. take (length row) (get_or (aheads_of place.planes) ink []) ≡ row)
    → Repeats image.shape image.bytes ink place.next
again_ink image place ink None is some four small there above next = cc
again_ink image place ink (Some row) is some four small there above next = λ x within.
    (let more : planes image.shape ≢ 1 = λ one. absurd (omega arith) in
    sym (image_row-ink image.shape image.bytes place.next x ink more within small)
    ∙ ap (λ list. get_or list x 0) (again_plane image place ink row is some (omega arith) above next)
    ∙ image_row-ink image.shape image.bytes (place.next - 1) x ink more within small)

below_next : (image : Image) (place : Place) (known : Option (List ℕ)) → IsSome known → IfSome known (IsAbove image 3 place.next) → 0 < place.next
below_next image place None there above = cc
below_next image place (Some row) there above = above.below

pub comes_again : (image : Image) (place : Place) (colour : Bool) (last : LastRow) → IsPlace image place → 0 < place.rows → planes image.shape ≡ 4
    → AreAbove image place.next last → AreNext colour (aheads_of place.planes) last → ComesAgain image.shape image.bytes colour place.next
comes_again image place colour last is some four above next = record {
  below = below_next image place last.black next.black_known above.black_is;
  cyan = λ coloured. again_ink image place 0 last.cyan is some four (lit< tt) (next.cyan_known coloured) above.cyan_is next.cyan_is;
  magenta = λ coloured. again_ink image place 1 last.magenta is some four (lit< tt) (next.magenta_known coloured) above.magenta_is next.magenta_is;
  yellow = λ coloured. again_ink image place 2 last.yellow is some four (lit< tt) (next.yellow_known coloured) above.yellow_is next.yellow_is;
  black = again_ink image place 3 last.black is some four (lit< tt) next.black_known above.black_is next.black_is;
}

-- then it is above the row after that
above_later : (image : Image) (place : Place) (plane : ℕ) (known : Option (List ℕ)) → IsPlace image place → 0 < place.rows → plane < planes image.shape
    → IfSome known (IsAbove image plane place.next) → IfSome known (λ row. take (length row) (get_or (aheads_of place.planes) plane []) ≡ row)
    → IfSome known (IsAbove image plane (place.next + 1))
above_later image place plane None is some below above next = above
above_later image place plane (Some row) is some below above next = record {
  below = omega arith;
  long = above.long;
  is =
      above.is ∙ sym (again_plane image place plane row is some below above next)
      ∙ ap (plane_row image.shape image.bytes plane) (omega arith);
}

pub are_later : (image : Image) (place : Place) (colour : Bool) (last : LastRow) → IsPlace image place → 0 < place.rows → planes image.shape ≡ 4
    → AreAbove image place.next last → AreNext colour (aheads_of place.planes) last → AreAbove image (place.next + 1) last
are_later image place colour last is some four above next = record {
  cyan_is = above_later image place 0 last.cyan is some (omega arith) above.cyan_is next.cyan_is;
  magenta_is = above_later image place 1 last.magenta is some (omega arith) above.magenta_is next.magenta_is;
  yellow_is = above_later image place 2 last.yellow is some (omega arith) above.yellow_is next.yellow_is;
  black_is = above_later image place 3 last.black is some (omega arith) above.black_is next.black_is;
}

-- known rows are as long as a row
pub above_long : (image : Image) (y row : ℕ) (last : LastRow) → row ≡ plane_row_length image.shape → AreAbove image y last → AreLong row last
above_long image y row last row_is above = record {
  cyan_is = IfSome_then last.cyan above.cyan_is (λ k is. is.long ∙ sym row_is);
  magenta_is = IfSome_then last.magenta above.magenta_is (λ k is. is.long ∙ sym row_is);
  yellow_is = IfSome_then last.yellow above.yellow_is (λ k is. is.long ∙ sym row_is);
  black_is = IfSome_then last.black above.black_is (λ k is. is.long ∙ sym row_is);
}
