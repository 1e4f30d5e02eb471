-- Sites that take numbered rows from a deck.
use Rattle.std.proofs.Common.{◌≡◌, ℕ, ◌+◌, ◌<◌, List, [], ◌∷◌, length, map, get_or, Some, false, Result, Ok, Err, IfOk, refl, sym, ap, subst, ◌∙◌, arith}
use Rattle.std.specs.Prelude.{All, is_some, slice_get}
use Rattle.std.specs.List.{range_with_len}
use Rattle.std.specs.Option.{option_map}
use Rattle.std.proofs.lemmas.List.{length-map}
use Rattle.std.proofs.lemmas.List.FromFn.{length-map-range_with_len, get_or-map-range_with_len}
use Rattle.std.proofs.lemmas.Option.{slice_get-get_or, slice_get-map, slice_get_within, get_or_from_slice_get}
use Rattle.ring_lanes.specs.declared.source.Source.{Source}
use Rattle.ring_lanes.specs.declared.source.Source.TheVariants.{Deck}
use Rattle.ring_rule.specs.declared.view.RingNumbers.{RingNumbers}
use Rattle.ring_rule.specs.Views.{ring_of}
use Rattle.ring_lanes.specs.Reader.{ReaderState}
use Rattle.ring_lanes.specs.Writer.{WriterState}
use Rattle.pr_base.specs.Row.{row_size}
use Rattle.pr_rack.specs.Mem.{MemState, empty_slots}
use Rattle.pr_rack.specs.Rack.{Slots}
use Rattle.tif_packbits.specs.Frame.{AreFrames, IsFrame, frame_of, framed_row}
use Rattle.tif_packbits.proofs.Frames.{AreFrames-frame, framed_row-frame_of, length-frame_of}
use Rattle.pr_rack.specs.Told.{Tells}
use Rattle.plan_json.specs.Data.{PlanData, plate_width}
use Rattle.plan_json.specs.Plan.{IsPlan}
use Rattle.plan_rows.specs.Rows.{row_places}
use Rattle.site_agent.specs.declared.kept.Kept.{Kept}
use Rattle.site_agent.specs.declared.kept.Kept.TheVariants.{Done, Left, Memory}
use Rattle.site_agent.specs.Going.{IsGoing}
use Rattle.site_agent.specs.Kept.{GoesOn, OnDone}
use Rattle.rack_tests.specs.Numbered.{IsFeeding, IsTurning, Takes, numbered, told_by, told_first}
use Rattle.site_agent.specs.Plan.{fresh_site}
use Rattle.site_agent.specs.Site.{SiteData}
use Rattle.site_agent.specs.Stands.{AreAsLong, AreBegun, StandsAfter}
use Rattle.site_agent.specs.Turn.{AreRowsFor}
use Rattle.site_agent.proofs.Going.{going_at_start, going_begun, going_further, going_working, idle_at_first}

-- ---- the rows

pub length-numbered : (count : ℕ) → length (numbered count) ≡ count
unfolding numbered
length-numbered count = length-map-range_with_len (λ n. frame_of ((n + 1) ∷ 0 ∷ [])) 0 count

get_or-numbered : (count n : ℕ) (d : List ℕ) → n < count → get_or (numbered count) n d ≡ frame_of ((n + 1) ∷ 0 ∷ [])
unfolding numbered
get_or-numbered count n d less = get_or-map-range_with_len (λ m. frame_of ((m + 1) ∷ 0 ∷ [])) 0 count n n d less (omega arith)

pub numbered-next : (count n : ℕ) → n < count → slice_get (numbered count) n ≡ Some (frame_of ((n + 1) ∷ 0 ∷ []))
numbered-next count n less =
    slice_get-get_or (numbered count) n [] (omega (arith, length-numbered count)) ∙ ap Some (get_or-numbered count n [] less)

pub numbered-sizes : (count : ℕ) → All (λ row. length row ≡ 5) (numbered count)
numbered-sizes count k d less =
    ap length (get_or-numbered count k d (omega (arith, length-numbered count))) ∙ length-frame_of ((k + 1) ∷ 0 ∷ [])

pub numbered-frames : (count : ℕ) → AreFrames 2 (map framed_row (numbered count)) (numbered count)
unfolding numbered
numbered-frames count = record {
  small = omega arith;
  each = λ k d less. two k d (omega (arith, length-map (numbered count) framed_row, length-numbered count));
  are = frames (range_with_len 0 count);
} where
  row : ℕ → List ℕ
  row n = (n + 1) ∷ 0 ∷ []

  rows-are : (ns : List ℕ) → map framed_row (map (λ n. frame_of (row n)) ns) ≡ map row ns
  rows-are [] = refl
  rows-are (n ∷ ns) = ap (λ r. r ∷ map framed_row (map (λ m. frame_of (row m)) ns)) (framed_row-frame_of (row n) (omega arith)) ∙ ap (λ rest. row n ∷ rest) (rows-are ns)

  two : (k : ℕ) (d : List ℕ) → k < count → length (get_or (map framed_row (numbered count)) k d) ≡ 2
  two k d less = ap (λ rows. length (get_or rows k d)) (rows-are (range_with_len 0 count)) ∙ ap length (get_or-map-range_with_len row 0 count k k d less (omega arith))

  frames : (ns : List ℕ) → map (λ n. frame_of (row n)) ns ≡ map frame_of (map framed_row (map (λ n. frame_of (row n)) ns))
  frames [] = refl
  frames (n ∷ ns) = ap (λ f. f ∷ map (λ m. frame_of (row m)) ns) (ap frame_of (sym (framed_row-frame_of (row n) (omega arith)))) ∙ ap (λ rest. frame_of (framed_row (frame_of (row n))) ∷ rest) (frames ns)

-- ---- a row that is passed on

pub of_done : (last : Kept) (P : Type 0) → last ≡ Done → OnDone last P → P
of_done Done P is p = p
of_done (Left cause) P is p = absurd (cc)
of_done Memory P is p = absurd (cc)

pub frame-handed : (frames : List (List ℕ)) (n : ℕ) (bytes : List ℕ) → AreFrames 2 (map framed_row frames) frames → slice_get frames n ≡ Some bytes → IsFrame bytes
frame-handed frames n bytes are there =
    subst IsFrame (get_or_from_slice_get frames n bytes bytes there)
    (AreFrames-frame 2 (map framed_row frames) frames n bytes are (omega (arith, slice_get_within frames n bytes there, length-map frames framed_row)))

pub row-handed : (frames : List (List ℕ)) (n m : ℕ) (bytes : List ℕ) → n ≡ m → slice_get frames m ≡ Some bytes → slice_get (map framed_row frames) n ≡ Some (framed_row bytes)
row-handed frames n m bytes same there =
    ap (slice_get (map framed_row frames)) same ∙ slice_get-map framed_row frames m ∙ ap (λ o. option_map framed_row o) there

pub taken-further : (frames : List (List ℕ)) (rack rack' : MemState) (site site' : SiteData) (bytes : List ℕ) (source : Source) (kept : Kept) → Takes frames rack site → source ≡ Deck
    → slice_get (map framed_row frames) site.next ≡ Some (framed_row bytes)
    → OnDone kept ((rows : List (List ℕ)) (before : Tells) → slice_get rows site.next ≡ Some (framed_row bytes) → StandsAfter site.job rows source site.next before (told_by rack) site.counts
    → StandsAfter site.job rows source (site.next + 1) before (told_by rack') site'.counts)
    → OnDone kept (GoesOn site site') → OnDone kept (Takes frames rack' site')
taken-further frames rack rack' site site' bytes source Done going deck there keeps goes =
    going_further (map framed_row frames) Deck told_first (told_by rack) (told_by rack') site site' going goes
    (λ stands.
    subst (λ (s : Source). StandsAfter site.job (map framed_row frames) s (site.next + 1) told_first (told_by rack') site'.counts) deck
    (keeps (map framed_row frames) told_first there
    (subst (λ (s : Source). StandsAfter site.job (map framed_row frames) s site.next told_first (told_by rack) site.counts) (sym deck) stands)))
taken-further frames rack rack' site site' bytes source (Left cause) going deck there keeps goes = tt
taken-further frames rack rack' site site' bytes source Memory going deck there keeps goes = tt

-- ---- a new site

pub takes-first : {E : Type 0} (plan : PlanData) (out : List ℕ) (site : ℕ) (made : Result SiteData E) → IsPlan plan → row_size (plate_width plan) ≡ 2 → IfOk made (λ s. s ≡ fresh_site plan out site)
    → IfOk made (λ s. IsGoing (map framed_row (numbered (length (row_places plan)))) Deck told_first told_first s)
takes-first plan out site (Ok made) is two fresh =
    let count : ℕ = length (row_places plan) in
    subst (λ (s : SiteData). IsGoing (map framed_row (numbered count)) Deck told_first told_first s) (sym fresh)
    (going_at_start plan (map framed_row (numbered count)) out site Deck told_first is (idle_at_first told_first refl refl)
    (length-map (numbered count) framed_row ∙ length-numbered count)
    (λ k d less. (numbered-frames count).each k d less ∙ sym two))
takes-first plan out site (Err e) is two fresh = tt

-- ---- at a ring

pub next-fed : (count n : ℕ) (writer : WriterState) → IsFeeding count n writer → n < count → slice_get writer.ring.rows writer.head ≡ Some (frame_of ((n + 1) ∷ 0 ∷ []))
next-fed count n writer feeding less = ap (λ r. slice_get r.rows writer.head) feeding.ring ∙ ap (slice_get (numbered count)) feeding.at ∙ numbered-next count n less

pub rows-fed : (count n : ℕ) (writer : WriterState) → IsFeeding count n writer → writer.ring.total ≡ count
rows-fed count n writer feeding = ap (λ r. r.total) feeding.ring ∙ length-numbered count

-- a new site with a new reader
pub turning-first : (count : ℕ) (source : Source) (reader : ReaderState) (rack : MemState) (site : SiteData) → 0 < count
    → IsGoing (map framed_row (numbered count)) source told_first told_first site → site.next ≡ 0 → reader.ring ≡ ring_of 2 1 (numbered count) 5 → reader.cursor ≡ 0
    → reader.left ≡ false → reader.held ≡ false → rack.slots ≡ empty_slots → IsTurning reader rack site
turning-first count source reader rack site some going first ring cursor joined home empty =
    let rows : List (List ℕ) = map framed_row (numbered count) in
    let inside : 0 < length rows = omega (arith, length-map (numbered count) framed_row, length-numbered count) in
    let two : row_size site.job.width ≡ 2 = sym (going.sides 0 [] inside) ∙ (numbered-frames count).each 0 [] inside in
    let total : reader.ring.total ≡ length (numbered count) = ap (λ r. r.total) ring in
    record {
      ready = record {
        going = going.on;
        joined = joined;
        home = home;
        next = cursor ∙ sym first;
        rows = subst (λ (r : RingNumbers). AreRowsFor site.job r) (sym ring)
            (record {
              total = sym (length-map (numbered count) framed_row) ∙ going.total;
              count = refl;
              frames = subst (λ (n : ℕ). AreFrames n rows (numbered count)) (sym two) (numbered-frames count);
            });
        begun = subst (λ (slots : Slots). AreBegun site.job site.next (map is_some slots)) (sym empty) (going_begun rows source told_first told_first site going);
        working = subst (λ (slots : Slots). AreAsLong site.job site.next site.counts slots) (sym empty) (going_working rows source told_first told_first site going);
      };
      row = omega (arith, length-numbered count);
    }
