-- A key reader at a ring, and the rows of a small edition.
use Rattle.std.specs.Prelude.{◌≡◌, ◌<◌, ℕ, List, [], ◌∷◌, false, length, map}
use Rattle.tif_packbits.specs.Frame.{frame_of}
use Rattle.plan_rows.specs.Rows.{places_in}
use Rattle.ring_lanes.specs.Reader.{ReaderState}
use Rattle.ink_keys.specs.Counts.{IsBounded}
use Rattle.ink_keys.specs.Turn.{AreRowsOf, KeyReaderData}

-- two rows of two bytes, in frames
unfoldable pub small_rows : List (List ℕ)
small_rows = map frame_of ((171 ∷ 0 ∷ []) ∷ (19 ∷ 0 ∷ []) ∷ [])

-- a key reader may count the row at the reader's cursor
pub record IsCounting (reader : ReaderState) (key : KeyReaderData) : Type 0 where
  pub joined : reader.left ≡ false
  pub home : reader.held ≡ false
  pub row : reader.cursor < reader.ring.total
  pub total : reader.ring.total ≡ length (places_in key.rows)
  pub frames : AreRowsOf key.counts.width reader.ring
  pub bounded : IsBounded key.counts reader.cursor
