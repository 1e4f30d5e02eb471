-- The rows of a small edition, and a key reader at a ring.
use Rattle.std.proofs.Common.{◌≡◌, ℕ, zero, suc, ◌<◌, List, [], ◌∷◌, length, Some, false, refl, sym, ap, subst, ◌∙◌, arith}
use Rattle.std.specs.Prelude.{All, slice_get}
use Rattle.std.proofs.lemmas.Option.{same_Some, slice_get_within}
use Rattle.tif_packbits.specs.Frame.{IsFrame, frame_of, framed_row}
use Rattle.tif_packbits.proofs.Frames.{IsFrame-frame_of, framed_row-frame_of, length-frame_of}
use Rattle.plan_rows.specs.Rows.{RowPlanData, places_in}
use Rattle.ring_rule.specs.declared.view.RingNumbers.{RingNumbers}
use Rattle.ring_rule.specs.Views.{ring_of}
use Rattle.ring_lanes.specs.Reader.{ReaderState}
use Rattle.ink_keys.specs.Counts.{CountsData, IsBounded, no_counts}
use Rattle.ink_keys.specs.Turn.{AreRowsOf, KeyReaderData}
use Rattle.ink_keys.proofs.Plates.{bounded-first}
use Rattle.rack_tests.specs.Counting.{IsCounting, small_rows}
use Rattle.rack_tests.specs.Numbered.{numbered}
use Rattle.rack_tests.proofs.Numbered.{length-numbered, numbered-frames}

-- ---- the rows of a small edition

pub length-small : length small_rows ≡ 2
unfolding small_rows
length-small = refl

pub small-sizes : All (λ row. length row ≡ 5) small_rows
unfolding small_rows
small-sizes zero d within = length-frame_of (171 ∷ 0 ∷ [])
small-sizes (suc zero) d within = length-frame_of (19 ∷ 0 ∷ [])
small-sizes (suc (suc k)) d within = absurd (omega arith)

pub small-first : (n : ℕ) (frame : List ℕ) → n ≡ 0 → frame ≡ frame_of (171 ∷ 0 ∷ []) → slice_get small_rows n ≡ Some frame
unfolding small_rows
small-first n frame at is = ap (slice_get small_rows) at ∙ ap Some (sym is)

pub small-last : (n : ℕ) (frame : List ℕ) → n ≡ 1 → frame ≡ frame_of (19 ∷ 0 ∷ []) → slice_get small_rows n ≡ Some frame
unfolding small_rows
small-last n frame at is = ap (slice_get small_rows) at ∙ ap Some (sym is)

two-framed : (row bytes : List ℕ) → length row ≡ 2 → frame_of row ≡ bytes → IsFrame bytes × (length (framed_row bytes) ≡ 2)
two-framed row bytes two is = (
  subst IsFrame is (IsFrame-frame_of row (omega arith)),
  ap (λ b. length (framed_row b)) (sym is) ∙ ap length (framed_row-frame_of row (omega arith)) ∙ two,
)

pub small-frame : (n : ℕ) (bytes : List ℕ) → slice_get small_rows n ≡ Some bytes → IsFrame bytes × (length (framed_row bytes) ≡ 2)
unfolding small_rows
small-frame zero bytes there = two-framed (171 ∷ 0 ∷ []) bytes refl (same_Some (frame_of (171 ∷ 0 ∷ [])) bytes there)
small-frame (suc zero) bytes there = two-framed (19 ∷ 0 ∷ []) bytes refl (same_Some (frame_of (19 ∷ 0 ∷ [])) bytes there)
small-frame (suc (suc n)) bytes there = absurd (omega (arith, slice_get_within small_rows (suc (suc n)) bytes there))

-- ---- at a ring

abbrev pub key_data : RowPlanData → CountsData → KeyReaderData
key_data rows counts = record { rows = rows; counts = counts }

-- a new key reader with a new reader
pub counting-first : (count groups keys : ℕ) (rows : RowPlanData) (reader : ReaderState) (key : KeyReaderData) → 0 < count → length (places_in rows) ≡ count
    → key ≡ key_data rows (no_counts groups 16 keys) → reader.ring ≡ ring_of 2 1 (numbered count) 5 → reader.cursor ≡ 0 → reader.left ≡ false → reader.held ≡ false
    → IsCounting reader key
counting-first count groups keys rows reader key some total new ring cursor joined home =
    let all : reader.ring.total ≡ count = ap (λ r. r.total) ring ∙ length-numbered count in
    subst (λ (k : KeyReaderData). IsCounting reader k) (sym new)
    (record {
      joined = joined;
      home = home;
      row = omega arith;
      total = all ∙ sym total;
      frames = subst (λ (r : RingNumbers). AreRowsOf 16 r) (sym ring) (record { count = refl; frames = numbered-frames count });
      bounded = subst (λ (n : ℕ). IsBounded (no_counts groups 16 keys) n) (sym cursor) (bounded-first groups 16 keys);
    })
