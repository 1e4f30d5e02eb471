-- Rows by which the tests identify plates, and the state between two calls of a test: a rack, a site partway
-- through its rows, the ends of a ring.
use Rattle.std.specs.Prelude.{◌≡◌, ℕ, ◌+◌, ◌<◌, List, [], ◌∷◌, false, map, Some, is_some}
use Rattle.std.specs.List.{range_with_len}
use Rattle.tif_packbits.specs.Frame.{frame_of, framed_row}
use Rattle.ring_lanes.specs.declared.source.Source.TheVariants.{Deck}
use Rattle.ring_rule.specs.Views.{ring_of}
use Rattle.ring_lanes.specs.Reader.{ReaderState}
use Rattle.ring_lanes.specs.Writer.{WriterState}
use Rattle.pr_rack.specs.Mem.{MemState, empty_slots}
use Rattle.pr_rack.specs.Rack.{none_begun}
use Rattle.pr_rack.specs.Told.{RackTells, Tells}
use Rattle.site_agent.specs.Draw.{IsReady, stage}
use Rattle.site_agent.specs.Going.{IsGoing}
use Rattle.site_agent.specs.Site.{SiteData}

-- this many frames of rows of two bytes: row n is n + 1 and 0
unfoldable pub numbered : ℕ → List (List ℕ)
numbered count = map (λ n. frame_of ((n + 1) ∷ 0 ∷ [])) (range_with_len 0 count)

-- what contracts see of a rack in memory: its plates
abbrev pub told_by : MemState → Tells
told_by rack = record {
  finished = Some rack.files;
  working = Some rack.slots;
  begun = map is_some rack.slots;
  taken = Some rack.taken;
}

-- the same at the start
abbrev pub told_first : Tells
told_first = record {
  finished = Some [];
  working = Some empty_slots;
  begun = none_begun;
  taken = Some [];
}

-- the same, with failures
abbrev pub all_by : MemState → RackTells
all_by rack = record { tells = told_by rack; missed = Some rack.misses.missed; faults = rack.misses.faults }

-- a site is partway through rows of these frames, taken from a deck
abbrev pub Takes : List (List ℕ) → MemState → SiteData → Type 0
Takes frames rack site = IsGoing (map framed_row frames) Deck told_first (told_by rack) site

-- ---- at a ring of two places and one reader

-- the writer published `head` of these frames
pub record IsFeeding (count head : ℕ) (writer : WriterState) : Type 0 where
  pub ring : writer.ring ≡ ring_of 2 1 (numbered count) 5
  pub at : writer.head ≡ head

-- the reader has taken no row yet and has not left
pub record IsNew (count : ℕ) (reader : ReaderState) : Type 0 where
  pub ring : reader.ring ≡ ring_of 2 1 (numbered count) 5
  pub cursor : reader.cursor ≡ 0
  pub left : reader.left ≡ false
  pub held : reader.held ≡ false

-- a site may take the row at the reader's cursor
pub record IsTurning (reader : ReaderState) (rack : MemState) (site : SiteData) : Type 0 where
  pub ready : IsReady (stage site reader (all_by rack))
  pub row : reader.cursor < reader.ring.total
