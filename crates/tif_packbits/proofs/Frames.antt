-- Frames and the rows in them, for the crates above.
use Rattle.std.proofs.Common.{◌≡◌, ℕ, suc, ◌-◌, ◌^◌, ◌<◌, ◌≤◌, List, [], ◌∷◌, ◌++◌, length, take, drop, map, replicate, get_or, refl, sym, ap, ◌∙◌, arith}
use Rattle.std.specs.List.{All}
use Rattle.std.proofs.lemmas.List.{get_or-map, length-append, length-map, length-replicate, map-append, take_at}
use Rattle.std.proofs.lemmas.List.Elements.{All-append, All-cons, All-nil}
use Rattle.byteorder.specs.Endian.{little_bytes, little_number}
use Rattle.byteorder.specs.Numbers.{little_number-reads_back}
use Rattle.tif_packbits.specs.Packbits.{packing, expansion, packed_bound}
use Rattle.tif_packbits.specs.Frame.{frame_size, frame_of, packed_in, framed_row, IsFrame, AreFrames, TellsItsRow}
use Rattle.tif_packbits.proofs.Packing.{packing_expands, packing_bounded, expansion-packing}

-- the length of a frame follows from the row's length
pub length-frame_of : (row : List ℕ) → length (frame_of row) ≡ frame_size (length row)
unfolding frame_of
length-frame_of row =
    length-append (little_bytes 2 (length (packing row)) ++ packing row) (replicate (packed_bound (length row) - length (packing row)) 0)
    ∙ omega (arith, length-replicate {A = ℕ} (packed_bound (length row) - length (packing row)) 0, packing_bounded row)

-- the bytes after a frame's two-byte header
drop-frame_of : (row : List ℕ) → drop 2 (frame_of row) ≡ packing row ++ replicate (packed_bound (length row) - length (packing row)) 0
unfolding frame_of
drop-frame_of row = refl

-- a frame's two-byte header
pub number-frame_of : (row : List ℕ) → length (packing row) < 256 ^ 2 → little_number 2 (frame_of row) ≡ length (packing row)
unfolding frame_of
number-frame_of row small =
    little_number-reads_back 2 (length (packing row)) (packing row ++ replicate (packed_bound (length row) - length (packing row)) 0) small

-- the packed bytes in a row's frame are the row's packing
pub packed_in-frame_of : (row : List ℕ) → length row ≤ 8192 → packed_in (frame_of row) ≡ packing row
unfolding packed_in
packed_in-frame_of row within =
    let len : little_number 2 (frame_of row) ≡ length (packing row) = number-frame_of row (omega (arith, packing_bounded row)) in
    rw (len, drop-frame_of row) (take_at (packing row) (replicate (packed_bound (length row) - length (packing row)) 0) (length (packing row)) refl)

-- the row in a row's frame is the row itself
pub framed_row-frame_of : (row : List ℕ) → length row ≤ 8192 → framed_row (frame_of row) ≡ row
unfolding framed_row
framed_row-frame_of row within = ap expansion (packed_in-frame_of row within) ∙ packing_expands row

-- a frame is the frame of the row in it
pub IsFrame-row : (bytes : List ℕ) → IsFrame bytes → bytes ≡ frame_of (framed_row bytes)
IsFrame-row bytes frame =
    frame.is ∙ ap frame_of (sym (framed_row-frame_of frame.row frame.within) ∙ ap framed_row (sym frame.is))

-- the packed bytes of a frame are the packing of its row
pub packed_in-frame : (bytes : List ℕ) → IsFrame bytes → packed_in bytes ≡ packing (framed_row bytes)
packed_in-frame bytes frame =
    ap packed_in frame.is ∙ packed_in-frame_of frame.row frame.within
    ∙ ap packing (sym (framed_row-frame_of frame.row frame.within) ∙ ap framed_row (sym frame.is))

-- the frame of a row is a frame
pub IsFrame-frame_of : (row : List ℕ) → length row ≤ 8192 → IsFrame (frame_of row)
IsFrame-frame_of row within = record { row = row; within = within; is = refl }

-- the rows in the frames of a list of rows are those rows
pub map-framed_row-frame_of : (rows : List (List ℕ)) → All (λ row. length row ≤ 8192) rows → map framed_row (map frame_of rows) ≡ rows
map-framed_row-frame_of [] within = refl
map-framed_row-frame_of (row ∷ rows) within =
    ap (λ first. first ∷ map framed_row (map frame_of rows)) (framed_row-frame_of row (within 0 row (omega arith)))
    ∙ ap (λ rest. row ∷ rest) (map-framed_row-frame_of rows (λ k d less. within (suc k) d (omega arith)))

-- the bytes after the header expand to a list that begins with the row
row-in-frame : (row : List ℕ) → take (length row) (expansion (drop 2 (frame_of row))) ≡ row
row-in-frame row =
    let zeros : List ℕ = replicate (packed_bound (length row) - length (packing row)) 0 in
    ap (λ bytes. take (length row) (expansion bytes)) (drop-frame_of row)
    ∙ ap (take (length row)) (expansion-packing row zeros)
    ∙ take_at row (expansion zeros) (length row) refl

-- rows of equal length with equal frames are equal
pub frame_of-tells : TellsItsRow
frame_of-tells row other len same =
    sym (row-in-frame row) ∙ ap (λ bytes. take (length row) (expansion (drop 2 bytes))) same
    ∙ ap (λ n. take n (expansion (drop 2 (frame_of other)))) len ∙ row-in-frame other

-- frame_size is injective
frame_size-tells : (m n : ℕ) → frame_size m ≡ frame_size n → m ≡ n
frame_size-tells m n same = omega arith

-- the length of a frame determines the length of its row
pub length-framed_row : (bytes : List ℕ) (n : ℕ) → IsFrame bytes → length bytes ≡ frame_size n → length (framed_row bytes) ≡ n
length-framed_row bytes n frame size =
    frame_size-tells (length (framed_row bytes)) n
    (sym (length-frame_of (framed_row bytes)) ∙ ap length (sym (IsFrame-row bytes frame)) ∙ size)

-- rows short enough for a frame
small-rows : (size : ℕ) (rows : List (List ℕ)) → size ≤ 8192 → All (λ row. length row ≡ size) rows → All (λ row. length row ≤ 8192) rows
small-rows size rows small each = λ k d less. omega (arith, each k d less)

-- the rows in the frames of rows are those rows
pub AreFrames-rows : (size : ℕ) (rows frames : List (List ℕ)) → AreFrames size rows frames → map framed_row frames ≡ rows
AreFrames-rows size rows frames are = ap (map framed_row) are.are ∙ map-framed_row-frame_of rows (small-rows size rows are.small are.each)

-- as many frames as rows
pub AreFrames-length : (size : ℕ) (rows frames : List (List ℕ)) → AreFrames size rows frames → length frames ≡ length rows
AreFrames-length size rows frames are = ap length are.are ∙ length-map rows frame_of

-- frame n is the frame of row n
pub AreFrames-at : (size : ℕ) (rows frames : List (List ℕ)) (n : ℕ) (row frame : List ℕ) → AreFrames size rows frames → n < length rows
    → get_or frames n frame ≡ frame_of (get_or rows n row)
AreFrames-at size rows frames n row frame are less =
    ap (λ all. get_or all n frame) are.are ∙ get_or-map frame_of rows n row frame less

-- each frame is a frame and has this length
pub AreFrames-each : (size : ℕ) (rows frames : List (List ℕ)) → AreFrames size rows frames → All (λ frame. length frame ≡ frame_size size) frames
AreFrames-each size rows frames are =
    λ k d less. let more : k < length rows = omega (arith, AreFrames-length size rows frames are) in
    ap length (AreFrames-at size rows frames k d d are more) ∙ length-frame_of (get_or rows k d) ∙ ap frame_size (are.each k d more)

pub AreFrames-frame : (size : ℕ) (rows frames : List (List ℕ)) (n : ℕ) (frame : List ℕ) → AreFrames size rows frames → n < length rows → IsFrame (get_or frames n frame)
AreFrames-frame size rows frames n frame are less = record {
  row = get_or rows n frame;
  within = omega (arith, are.each n frame less, are.small);
  is = AreFrames-at size rows frames n frame frame are less;
}

-- one more row
pub AreFrames-more : (size : ℕ) (rows frames : List (List ℕ)) (row : List ℕ) → AreFrames size rows frames → length row ≡ size
    → AreFrames size (rows ++ row ∷ []) (frames ++ frame_of row ∷ [])
AreFrames-more size rows frames row are len = record {
  small = are.small;
  each = All-append (λ (row' : List ℕ). length row' ≡ size) rows (row ∷ []) are.each (All-cons (λ (row' : List ℕ). length row' ≡ size) row [] len (All-nil (λ (row' : List ℕ). length row' ≡ size)));
  are = ap (λ all. all ++ frame_of row ∷ []) are.are ∙ sym (map-append frame_of rows (row ∷ []));
}
