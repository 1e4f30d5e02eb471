-- Writing and reading a frame around its two-byte header.
use Rattle.std.proofs.Common.{◌≡◌, ℕ, ◌+◌, ◌-◌, ◌≤◌, List, [], ◌∷◌, ◌++◌, length, take, drop, replicate, refl, sym, ap, ◌∙◌, arith}
use Rattle.std.proofs.lemmas.List.{append-nil, append_assoc, length-append, length-drop, drop_all, drop_at, take_at, take_rest}
use borrow.Rule.Slice.PartMut.{put_mid}
use Rattle.byteorder.specs.Endian.{little_bytes, little_number}
use Rattle.tif_packbits.specs.Packbits.{packing, packed_bound}
use Rattle.tif_packbits.specs.Frame.{frame_size, frame_of, packed_in, IsFrame}
use Rattle.tif_packbits.proofs.Packing.{packing_bounded}
use Rattle.tif_packbits.proofs.Frames.{length-frame_of, number-frame_of}

-- a frame is at least two bytes long
pub long-frame : (bytes : List ℕ) → IsFrame bytes → 2 ≤ length bytes
long-frame bytes frame = omega (arith, ap length frame.is, length-frame_of frame.row)

-- a frame holds at least as many bytes after the header as the header says
pub fits-frame : (bytes : List ℕ) → IsFrame bytes → little_number 2 bytes ≤ length (drop 2 bytes)
fits-frame bytes frame =
    let len : little_number 2 bytes ≡ length (packing frame.row) =
    ap (little_number 2) frame.is ∙ number-frame_of frame.row (omega (arith, frame.within, packing_bounded frame.row)) in
    omega (arith, len, packing_bounded frame.row, ap length frame.is, length-frame_of frame.row, length-drop 2 bytes)

-- the packed bytes are that many bytes after the header
pub packed_in-is : (bytes : List ℕ) (len : ℕ) → len ≡ little_number 2 bytes → take len (take (length bytes - 2) (drop 2 bytes)) ≡ packed_in bytes
unfolding packed_in
packed_in-is bytes len is = rw (take_rest bytes 2, is) refl

-- zeros over everything after a prefix
zeros-behind : (whole front rest zeros : List ℕ) (len : ℕ) → whole ≡ front ++ rest → len ≡ length front
    → zeros ≡ replicate (length (take (length whole - len) (drop len whole))) 0
    → put_mid len (length whole - len) whole zeros ≡ front ++ replicate (length rest) 0
zeros-behind whole front rest zeros len joined is zeroed =
    let first : take len whole ≡ front = ap (take len) joined ∙ take_at front rest len (sym is) in
    let all : take (length whole - len) (drop len whole) ≡ rest =
    take_rest whole len ∙ (ap (drop len) joined ∙ drop_at front rest len (sym is)) in
    let none : drop (length whole - len) (drop len whole) ≡ [] =
    drop_all (length whole - len) (drop len whole) (omega (arith, length-drop len whole)) in
    rw (first, zeroed, all, none, append-nil) refl

-- what is written after the first two bytes
behind-two : (into part : List ℕ) → 2 ≤ length into → drop 2 (put_mid 2 (length into - 2) into part) ≡ part
behind-two [] part long = absurd (omega arith)
behind-two (a ∷ []) part long = absurd (omega arith)
behind-two (a ∷ b ∷ into) part long =
    let none : drop (length (a ∷ b ∷ into) - 2) into ≡ [] = drop_all (length (a ∷ b ∷ into) - 2) into (omega arith) in
    rw (none, append-nil) refl

-- a buffer that holds the length in two bytes, the packing and zeros is the row's frame
pub frame-written : (row into part headed zeros : List ℕ) (len : ℕ) → length into ≡ frame_size (length row) → len ≡ length (packing row)
    → part ≡ packing row ++ drop len (take (length into - 2) (drop 2 into))
    → headed ≡ little_bytes 2 len ++ drop 2 (put_mid 2 (length into - 2) into part)
    → zeros ≡ replicate (length (take (length headed - (2 + len)) (drop (2 + len) headed))) 0
    → put_mid (2 + len) (length headed - (2 + len)) headed zeros ≡ frame_of row
unfolding frame_of
frame-written row into part headed zeros len size is packed header zeroed =
    let rest : List ℕ = drop len (take (length into - 2) (drop 2 into)) in
    let whole : headed ≡ (little_bytes 2 len ++ packing row) ++ rest =
    header ∙ ap (λ bytes. little_bytes 2 len ++ bytes) (behind-two into part (omega arith) ∙ packed) ∙ sym (append_assoc (little_bytes 2 len) (packing row) rest) in
    let left : length rest ≡ packed_bound (length row) - length (packing row) =
    ap (λ bytes. length (drop len bytes)) (take_rest into 2) ∙ omega (arith, length-drop len (drop 2 into), length-drop 2 into) in
    let front : 2 + len ≡ length (little_bytes 2 len ++ packing row) = omega (arith, length-append (little_bytes 2 len) (packing row)) in
    zeros-behind headed (little_bytes 2 len ++ packing row) rest zeros (2 + len) whole front zeroed
    ∙ ap (λ n. (little_bytes 2 len ++ packing row) ++ replicate n 0) left
    ∙ ap (λ n. (little_bytes 2 n ++ packing row) ++ replicate (packed_bound (length row) - length (packing row)) 0) is
