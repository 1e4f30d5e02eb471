-- A turn of a key reader, row by row.
use Rattle.std.proofs.Common.{◌≡◌, ℕ, ◌+◌, ◌-◌, ◌<◌, ◌≤◌, false, List, [], length, map, get_or, Some, refl, sym, ap, subst, ◌∙◌, arith}
use Rattle.std.specs.Prelude.{slice_get, sum_by}
use Rattle.std.specs.List.{range_with_len}
use Rattle.std.specs.Option.{option_map, option_map_or}
use Rattle.std.proofs.lemmas.List.{length-map}
use Rattle.std.proofs.lemmas.List.Sums.{sum_by-cons}
use Rattle.std.proofs.lemmas.Option.{slice_get-map, slice_get_within, get_or_from_slice_get}
use Rattle.pr_base.specs.Row.{row_size}
use Rattle.pr_base.specs.declared.ink.Ink.{Ink}
use Rattle.plan_rows.specs.Rows.{RowPlanData, places_in}
use Rattle.plan_rows.specs.declared.place.RowPlace.{RowPlace}
use Rattle.tif_packbits.specs.Frame.{IsFrame, framed_row}
use Rattle.tif_packbits.proofs.Frames.{AreFrames-frame}
use Rattle.ring_rule.specs.declared.view.RingNumbers.{RingNumbers}
use Rattle.ring_lanes.specs.Held.{HeldRow}
use Rattle.ring_lanes.specs.Reader.{ReaderState, IsOpened, SeesOnce}
use Rattle.ring_lanes.proofs.Overs.{closes-row, over-first, over-on}
use Rattle.ink_keys.specs.Counts.{CountsData, AddsRow, number_at, row_adds}
use Rattle.ink_keys.specs.Turn.{KeyReaderData, AreRowsOf, CountsOne, CountsRows, Goes, IsReady, Stage, row_part, stage}
use Rattle.ink_keys.proofs.Ranges.{sum-parts}

-- ---- a row

pub frame-taken : (width : ℕ) (ring : RingNumbers) (n : ℕ) (bytes : List ℕ) → AreRowsOf width ring → slice_get ring.rows n ≡ Some bytes → IsFrame bytes
frame-taken width ring n bytes are there =
    subst IsFrame (get_or_from_slice_get ring.rows n bytes bytes there)
    (AreFrames-frame (row_size width) (map framed_row ring.rows) ring.rows n bytes are.frames (omega (arith, slice_get_within ring.rows n bytes there, length-map ring.rows framed_row)))

pub side-taken : (width : ℕ) (ring : RingNumbers) (n : ℕ) (bytes : List ℕ) → AreRowsOf width ring → slice_get ring.rows n ≡ Some bytes → length (framed_row bytes) ≡ row_size width
side-taken width ring n bytes are there =
    let here : slice_get (map framed_row ring.rows) n ≡ Some (framed_row bytes) = slice_get-map framed_row ring.rows n ∙ ap (λ o. option_map framed_row o) there in
    ap length (sym (get_or_from_slice_get (map framed_row ring.rows) n (framed_row bytes) (framed_row bytes) here))
    ∙ are.frames.each n (framed_row bytes) (slice_get_within (map framed_row ring.rows) n (framed_row bytes) here)

-- the contribution of a row, by its place
pub part-is : (rows : RowPlanData) (ring : RingNumbers) (width keys g : ℕ) (i : Ink) (k n : ℕ) (place : RowPlace) (bytes : List ℕ) → slice_get (places_in rows) n ≡ Some place
    → slice_get ring.rows n ≡ Some bytes → row_part rows ring width keys g i k n ≡ row_adds width keys place.group place.ink (framed_row bytes) g i k
unfolding row_part
part-is rows ring width keys g i k n place bytes there held =
    ap (λ o. option_map_or (λ p. row_adds width keys p.group p.ink (framed_row (get_or ring.rows n [])) g i k) o 0) there
    ∙ ap (λ b. row_adds width keys place.group place.ink (framed_row b) g i k) (get_or_from_slice_get ring.rows n bytes [] held)

one-number : (f : ℕ → ℕ) (n : ℕ) → sum_by f (range_with_len n (n + 1 - n)) ≡ f n
one-number f n =
    let one : n + 1 - n ≡ 1 = omega arith in
    ap (λ m. sum_by f (range_with_len n m)) one ∙ omega (arith, sum_by-cons f n [])

-- one row was counted
pub row-counted : (rows : RowPlanData) (ring : RingNumbers) (n : ℕ) (place : RowPlace) (bytes : List ℕ) (old new : CountsData) → slice_get (places_in rows) n ≡ Some place
    → slice_get ring.rows n ≡ Some bytes → AddsRow place.group place.ink (framed_row bytes) old new → CountsRows rows ring n (n + 1) old new
row-counted rows ring n place bytes old new there held adds = record {
  same = adds.same;
  each = λ g i k less.
      adds.each g i k less
      ∙ ap (λ m. number_at old g i k + m)
      (sym (one-number (row_part rows ring old.width old.keys g i k) n ∙ part-is rows ring old.width old.keys g i k n place bytes there held));
}

-- ---- consecutive rows

pub none-counted : (rows : RowPlanData) (ring : RingNumbers) (n : ℕ) (counts : CountsData) → CountsRows rows ring n n counts counts
none-counted rows ring n counts = record {
  same = refl;
  each = λ g i k less.
      let none : n - n ≡ 0 = omega arith in
      let sums : sum_by (row_part rows ring counts.width counts.keys g i k) (range_with_len n (n - n)) ≡ 0 =
      ap (λ m. sum_by (row_part rows ring counts.width counts.keys g i k) (range_with_len n m)) none in
      omega arith;
}

with-numbers : CountsData → List ℕ → CountsData
with-numbers counts numbers = record counts { numbers = numbers }

joined : (rows : RowPlanData) (ring : RingNumbers) (from mid to : ℕ) (old : CountsData) (now new : List ℕ) → from ≤ mid → mid ≤ to
    → CountsRows rows ring from mid old (record old { numbers = now }) → CountsRows rows ring mid to (record old { numbers = now }) (record old { numbers = new })
    → CountsRows rows ring from to old (record old { numbers = new })
joined rows ring from mid to old now new order order' first second = record {
  same = refl;
  each = λ g i k less.
      let part = row_part rows ring old.width old.keys g i k in
      let before = first.each g i k less in
      let more = second.each g i k less in
      let next : from + (mid - from) ≡ mid = omega arith in
      let span : mid - from + (to - mid) ≡ to - from = omega arith in
      let sums : sum_by part (range_with_len from (to - from)) ≡ sum_by part (range_with_len from (mid - from)) + sum_by part (range_with_len mid (to - mid)) =
      ap (λ n. sum_by part (range_with_len from n)) (sym span) ∙ sum-parts part from (mid - from) (to - mid)
      ∙ ap (λ n. sum_by part (range_with_len from (mid - from)) + sum_by part (range_with_len n (to - mid))) next in
      omega arith;
}

-- two turns, the second beginning where the first ended
pub counted-both : (rows : RowPlanData) (ring : RingNumbers) (from mid to : ℕ) (old now new : CountsData) → from ≤ mid → mid ≤ to → CountsRows rows ring from mid old now
    → CountsRows rows ring mid to now new → CountsRows rows ring from to old new
counted-both rows ring from mid to old now new order order' first second =
    let was : now ≡ record old { numbers = now.numbers } = first.same in
    let is : new ≡ record old { numbers = new.numbers } = second.same ∙ ap {A = CountsData} (λ c. record c { numbers = new.numbers }) was in
    subst (λ (c : CountsData). CountsRows rows ring from to old c) (sym is)
    (joined rows ring from mid to old now.numbers new.numbers order order' (subst (λ (c : CountsData). CountsRows rows ring from mid old c) was first)
    (subst (λ (c : CountsData). CountsRows rows ring mid to c (record old { numbers = new.numbers })) was
    (subst (λ (c : CountsData). CountsRows rows ring mid to now c) is second)))

-- ---- the reader

-- the row at the cursor was taken, counted and given back
pub counted-one : (key next : KeyReaderData) (reader opened closed : ReaderState) (held : HeldRow) (place : RowPlace) → IsReady (stage key reader)
    → IsOpened reader opened held → SeesOnce reader opened → closed ≡ record opened { cursor = opened.cursor + 1; held = false }
    → slice_get (places_in key.rows) held.number ≡ Some place → AddsRow place.group place.ink (framed_row held.bytes) key.counts next.counts → next.rows ≡ key.rows
    → CountsOne (stage key reader) (stage next closed)
counted-one key next reader opened closed held place ready is sees given-back there adds rows =
    let all : closed ≡ record reader { cursor = reader.cursor + 1; held = false; seen = opened.seen; loads = opened.loads } =
    given-back ∙ ap {A = ReaderState} (λ r. record r { cursor = r.cursor + 1; held = false }) is.stays in
    let cursor : closed.cursor ≡ reader.cursor + 1 = ap (λ r. r.cursor) all in
    let ring : closed.ring ≡ reader.ring = ap (λ r. r.ring) all in
    let width : next.counts.width ≡ key.counts.width = ap (λ c. c.width) adds.same in
    record {
      ready = record {
        joined = ap (λ r. r.left) all ∙ ready.joined;
        home = ap (λ r. r.held) all;
        total = ap (λ r. r.total) ring ∙ ready.total ∙ ap (λ r. length (places_in r)) (sym rows);
        few = subst (λ (r : RingNumbers). r.total ≤ 2684313600) (sym ring) ready.few;
        rows =
            subst (λ (r : RingNumbers). AreRowsOf next.counts.width r) (sym ring)
            (subst (λ (w : ℕ). AreRowsOf w reader.ring) (sym width) ready.rows);
        bounded = λ p. (let most = adds.most p in let before = ready.bounded p in omega arith);
      };
      closes = closes-row reader opened closed held ready.home is sees given-back;
      rows = rows;
      counts = row-counted key.rows reader.ring reader.cursor place held.bytes key.counts next.counts
          (ap (slice_get (places_in key.rows)) (sym is.row.number) ∙ there) is.row.bytes adds;
    }

-- ---- a turn

pub goes-first : (s : Stage) → IsReady s → s.reader.cursor ≤ s.reader.ring.total → Goes s s 0
goes-first s ready within = record {
  ready = ready;
  over = over-first s.reader within;
  rows = refl;
  counts = none-counted s.key.rows s.reader.ring s.reader.cursor s.key.counts;
}

-- one more row was counted
pub goes-on : (first now next : Stage) (waits : ℕ) → now.reader.cursor < now.reader.ring.total → Goes first now waits → CountsOne now next → Goes first next waits
goes-on first now next waits less goes one =
    let ring : now.reader.ring ≡ first.reader.ring = ap (λ r. r.ring) goes.over.reader in
    let cursor : next.reader.cursor ≡ now.reader.cursor + 1 = ap (λ r. r.cursor) one.closes.reader in
    let low : first.reader.cursor ≤ now.reader.cursor = goes.over.grows in
    let last : CountsRows first.key.rows first.reader.ring now.reader.cursor (now.reader.cursor + 1) now.key.counts next.key.counts =
    subst (λ (r : RowPlanData). CountsRows r first.reader.ring now.reader.cursor (now.reader.cursor + 1) now.key.counts next.key.counts) goes.rows
    (subst (λ (r : RingNumbers). CountsRows now.key.rows r now.reader.cursor (now.reader.cursor + 1) now.key.counts next.key.counts) ring one.counts) in
    record {
      ready = one.ready;
      over = over-on first.reader now.reader next.reader waits less goes.over one.closes;
      rows = one.rows ∙ goes.rows;
      counts =
          subst (λ (n : ℕ). CountsRows first.key.rows first.reader.ring first.reader.cursor n first.key.counts next.key.counts) (sym cursor)
          (counted-both first.key.rows first.reader.ring first.reader.cursor now.reader.cursor (now.reader.cursor + 1) first.key.counts now.key.counts next.key.counts low (omega arith) goes.counts last);
    }
