-- Rows of an ink that are written as slices.
use Rattle.std.proofs.Common.{◌≡◌, ℕ, Bool, true, false, not, ◌++◌, List, length, take, drop, sym, ap, subst, ◌∙◌}
use Rattle.std.proofs.lemmas.List.{take_at}
use Rattle.tif_strips.specs.Strips.{Cursor, ink_part}
use Rattle.page_paint.specs.declared.lay.Painting.{Painting}
use Rattle.page_paint.specs.Rows.{LaysSpan}
use Rattle.page_layers.specs.Rows.{IsInkOf}

-- a list that is written whole as a slice
pub written : (len : ℕ) (items old new : List ℕ) → length old ≡ len → length new ≡ length old → take len (new ++ drop (length new) items) ≡ new
written len items old new len_is long = take_at new (drop (length new) items) len (long ∙ len_is)

-- what holds of the slice before and after holds of the row
pub slice_written : (R : List ℕ → List ℕ → Type 0) (len : ℕ) (row items old new : List ℕ) → items ≡ row → old ≡ items → length old ≡ len → length new ≡ length old → R old new
    → R row (take len (new ++ drop (length new) items))
slice_written R len row items old new row_is old_is len_is long holds =
    subst (R row) (sym (written len items old new len_is long)) (subst (λ list. R list new) (old_is ∙ row_is) holds)

-- the samples of an ink that was read
pub IsInkOf_read : (is_painted : Bool) (image : Cursor) (y ink first : ℕ) (old new : List ℕ) → length new ≡ length old → new ≡ ink_part image.shape image.bytes y ink first (length old)
    → IsInkOf is_painted image y ink first old new
IsInkOf_read is_painted image y ink first old new long is = record { long = long; samples = λ on. is }

-- an ink that is not painted keeps its row
pub IsInkOf_kept : (is_painted : Bool) (image : Cursor) (y ink first : ℕ) (row items : List ℕ) → not is_painted ≡ true → items ≡ row → IsInkOf is_painted image y ink first row items
IsInkOf_kept true image y ink first row items off same = absurd (cc)
IsInkOf_kept false image y ink first row items off same = record { long = ap length same; samples = λ on. absurd (cc) }

-- paint over the slice is paint over the row, by equal names of how it is painted and of the paint
pub LaysSpan_written : (painting own : Painting) (from len : ℕ) (paint own_paint admitted row items old new : List ℕ) → items ≡ row → old ≡ items → length old ≡ len → own ≡ painting → own_paint ≡ paint
    → LaysSpan own from own_paint admitted old new → LaysSpan painting from paint admitted row (take len (new ++ drop (length new) items))
LaysSpan_written painting own from len paint own_paint admitted row items old new row_is old_is len_is own_is paint_is lays =
    slice_written (LaysSpan painting from paint admitted) len row items old new row_is old_is len_is lays.long
    (subst (λ list. LaysSpan painting from list admitted old new) paint_is (subst (λ way. LaysSpan way from own_paint admitted old new) own_is lays))
