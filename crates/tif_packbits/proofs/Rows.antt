-- A row packed into a buffer packet by packet.
use Rattle.std.proofs.Common.{◌≡◌, ℕ, ◌+◌, ◌-◌, ◌<◌, ◌≤◌, List, [], ◌∷◌, ◌++◌, length, take, drop, refl, sym, ap, ◌∙◌, arith}
use Rattle.std.proofs.lemmas.List.{append-nil, append_assoc, length-append, length-drop, length-take-le, drop-drop, drop_all, drop_at, take_all, take_at, take_rest}
use borrow.Rule.Slice.PartMut.{put_mid}
use Rattle.tif_packbits.specs.Front.{IsWritten, StandFor}
use Rattle.tif_packbits.specs.Packbits.{packing, run_len, literal_len, first_len, first_packet, packed_bound}
use Rattle.tif_packbits.proofs.Packing.{packing_more, packing-none, packing_bounded, first_len-le-length, first_len-some, first_len-run, first_len-literal, first_packet-run, first_packet-literal, literal_len-le-length, run_len-le-length}
use Rattle.tif_packbits.proofs.Pieces.{HasGiven, HasGiven-none, HasGiven-piece, HasGiven-next, HasGiven-length}

-- the packing of the row is written up to `at`; that of its bytes from index `from` on is still to come
pub record IsPacked (row start into : List ℕ) (from at : ℕ) : Type 0 where
  pub in_row : from ≤ length row
  pub given : HasGiven (packing row) start into (packing (drop from row)) at

pub IsPacked-none : (row start : List ℕ) → IsPacked row start start 0 0
IsPacked-none row start = record { in_row = omega arith; given = HasGiven-none (packing row) start }

-- the buffer has room for the packing of the remaining bytes
pub IsPacked-room : (row start into : List ℕ) (from at : ℕ) → IsPacked row start into from at → packed_bound (length row) ≤ length start
    → length (packing (take (length row - from) (drop from row))) ≤ length (take (length into - at) (drop at into))
IsPacked-room row start into from at packed room =
    let same : _ = HasGiven-length _ _ _ _ _ packed.given in
    let bound : _ = packing_bounded row in
    let left : _ = ap length packed.given.rest in
    let ahead : _ = length-drop at (packing row) in
    let space : _ = length-drop at into in
    rw (take_rest row from, take_rest into at) (omega (arith, packed.given.in_ahead))

-- packets are written
pub IsPacked-more : (row start into part : List ℕ) (from at taken count : ℕ) → IsPacked row start into from at → packed_bound (length row) ≤ length start
    → IsWritten (take (length row - from) (drop from row)) (take (length into - at) (drop at into)) part taken count
    → IsPacked row start (put_mid at (length into - at) into part) (from + taken) (at + count)
IsPacked-more row start into part from at taken count packed room new =
    let stand : StandFor new.bytes (drop from row) taken = rw (take_rest row from) at new.stand in
    let given : HasGiven (packing row) start into (new.bytes ++ packing (drop taken (drop from row))) at =
    HasGiven-next (packing row) start into [] (packing (drop from row)) new.bytes (packing (drop taken (drop from row))) at packed.given refl stand.whole in
    let fits : length (packing (drop from row)) ≤ length (take (length into - at) (drop at into)) =
    rw (take_rest row from) at (IsPacked-room row start into from at packed room) in
    let both : _ = ap length stand.whole ∙ length-append new.bytes (packing (drop taken (drop from row))) in
    let all : take count new.bytes ≡ new.bytes = take_all count new.bytes (omega (arith, new.size)) in
    let none : drop count new.bytes ≡ [] = drop_all count new.bytes (omega (arith, new.size)) in
    let part_at : part ≡ take count new.bytes ++ drop count (take (length into - at) (drop at into)) = new.is ∙ rw all refl in
    let after : _ = HasGiven-piece _ _ _ new.bytes (packing (drop taken (drop from row))) part at count given (omega (arith, new.size)) part_at in
    let rest : drop taken (drop from row) ≡ drop (from + taken) row = drop-drop taken from row in
    let left : _ = length-drop from row in
    record {
      in_row = omega (arith, packed.in_row, stand.within);
      given = HasGiven-next _ _ _ (drop count new.bytes) (packing (drop taken (drop from row))) [] (packing (drop (from + taken) row)) _ after none (ap packing rest);
    }

-- less of the row remains
pub IsPacked-smaller : (row old part : List ℕ) (from taken count : ℕ) → from < length row → IsWritten (take (length row - from) (drop from row)) old part taken count → length row - (from + taken) < length row - from
IsPacked-smaller row old part from taken count more new = omega (arith, new.stand.some)

-- the first packet of a row
stands_first : (row : List ℕ) → 0 < length row → StandFor (first_packet row) row (first_len row)
stands_first row some = record { some = first_len-some row some; within = first_len-le-length row; whole = packing_more row some }

pub run_stands : (row : List ℕ) (n : ℕ) → 3 ≤ n → n ≡ run_len row → StandFor ((257 - n) ∷ take 1 row) row n
run_stands row n long is =
    let run : 3 ≤ run_len row = omega arith in
    let some : 0 < length row = omega (arith, run_len-le-length row) in
    let packet : first_packet row ≡ (257 - n) ∷ take 1 row = first_packet-run row run ∙ ap (λ k. (257 - k) ∷ take 1 row) (sym is) in
    let len : first_len row ≡ n = first_len-run row run ∙ sym is in
    rw (packet, len) at (stands_first row some)

pub literal_stands : (row : List ℕ) (n : ℕ) → 0 < length row → run_len row < 3 → n ≡ literal_len row → StandFor ((n - 1) ∷ take n row) row n
literal_stands row n some short is =
    let packet : first_packet row ≡ (n - 1) ∷ take n row = first_packet-literal row short ∙ ap (λ k. (k - 1) ∷ take k row) (sym is) in
    let len : first_len row ≡ n = first_len-literal row short ∙ sym is in
    rw (packet, len) at (stands_first row some)

-- one or more packets followed by further ones
both_stand : (a b row : List ℕ) (n m : ℕ) → StandFor a row n → StandFor b (drop n row) m → StandFor (a ++ b) row (n + m)
both_stand a b row n m first second =
    let left : _ = length-drop n row in
    record {
      some = omega (arith, first.some);
      within = omega (arith, first.within, second.within);
      whole = first.whole ∙ ap (λ bytes. a ++ bytes) second.whole ∙ sym (append_assoc a b (packing (drop m (drop n row))))
          ∙ ap (λ rest. (a ++ b) ++ packing rest) (drop-drop m n row);
    }

-- the bytes of a first packet, and the space it takes in the packing
pub run_room : (row : List ℕ) (n : ℕ) → 3 ≤ n → n ≡ run_len row → 2 ≤ length (packing row)
run_room row n long is =
    let stand : _ = run_stands row n long is in
    let some : _ = run_len-le-length row in
    omega (arith, ap length stand.whole, length-append ((257 - n) ∷ take 1 row) (packing (drop n row)), length-take-le 1 row (omega arith))

pub literal_room : (row : List ℕ) (n : ℕ) → 0 < length row → run_len row < 3 → n ≡ literal_len row → n + 1 + length (packing (drop n row)) ≡ length (packing row)
literal_room row n some short is =
    let stand : _ = literal_stands row n some short is in
    let within : _ = literal_len-le-length row in
    omega (arith, ap length stand.whole, length-append ((n - 1) ∷ take n row) (packing (drop n row)), length-take-le n row (omega arith))

pub run_written : (row old new : List ℕ) (n : ℕ) → 3 ≤ n → n ≡ run_len row → new ≡ ((257 - n) ∷ take 1 row) ++ drop 2 old → IsWritten row old new n 2
run_written row old new n long is new_is =
    record { bytes = (257 - n) ∷ take 1 row; stand = run_stands row n long is; size = omega (arith, run_len-le-length row, length-take-le 1 row (omega (arith, run_len-le-length row))); is = new_is }

pub literal_written : (row old new : List ℕ) (n : ℕ) → 0 < length row → run_len row < 3 → n ≡ literal_len row → new ≡ ((n - 1) ∷ take n row) ++ drop (n + 1) old → IsWritten row old new n (n + 1)
literal_written row old new n some short is new_is =
    record { bytes = (n - 1) ∷ take n row; stand = literal_stands row n some short is; size = omega (arith, length-take-le n row (omega (arith, literal_len-le-length row))); is = new_is }

-- no run is longer than one packet can represent
pub run_len-most : (row : List ℕ) → run_len row ≤ 128
run_len-most [] = omega arith
run_len-most (byte ∷ row) = omega arith

-- the length of the buffer is unchanged
pub length-written : (row old new : List ℕ) (header n : ℕ) → n ≤ length row → n + 1 ≤ length old → new ≡ (header ∷ take n row) ++ drop (n + 1) old → length new ≡ length old
length-written row old new header n within room is =
    omega (arith, ap length is, length-append (header ∷ take n row) (drop (n + 1) old), length-take-le n row within, length-drop (n + 1) old)

pub both_written : (row old mid part : List ℕ) (n run : ℕ) → 0 < length row → run_len row < 3 → n ≡ literal_len row → 3 ≤ run → run ≡ run_len (drop n row) → n + 3 ≤ length old
    → mid ≡ ((n - 1) ∷ take n row) ++ drop (n + 1) old
    → part ≡ ((257 - run) ∷ take 1 (take (length row - n) (drop n row))) ++ drop 2 (take (length mid - (n + 1)) (drop (n + 1) mid))
    → IsWritten row old (put_mid (n + 1) (length mid - (n + 1)) mid part) (n + run) (n + 3)
both_written row old mid part n run some short is long run_is room mid_is part_is =
    let a : List ℕ = (n - 1) ∷ take n row in
    let b : List ℕ = (257 - run) ∷ take 1 (drop n row) in
    let within : _ = literal_len-le-length row in
    let a_len : length a ≡ n + 1 = omega (arith, length-take-le n row (omega arith)) in
    let b_len : length b ≡ 2 = omega (arith, length-take-le 1 (drop n row) (omega (arith, run_len-le-length (drop n row)))) in
    let front : take (n + 1) mid ≡ a = ap (take (n + 1)) mid_is ∙ take_at a (drop (n + 1) old) (n + 1) a_len in
    let back : drop (n + 1) mid ≡ drop (n + 1) old = ap (drop (n + 1)) mid_is ∙ drop_at a (drop (n + 1) old) (n + 1) a_len in
    let none : drop (length mid - (n + 1)) (drop (n + 1) mid) ≡ [] = drop_all (length mid - (n + 1)) (drop (n + 1) mid) (omega (arith, length-drop (n + 1) mid)) in
    let three : n + 1 + 2 ≡ n + 3 = omega arith in
    let part_at : part ≡ b ++ drop (n + 3) old = part_is ∙ (rw (take_rest row n, take_rest mid (n + 1), back, drop-drop 2 (n + 1) old, three) refl) in
    record {
      bytes = a ++ b;
      stand = both_stand a b row n run (literal_stands row n some short is) (run_stands (drop n row) run long run_is);
      size = omega (arith, length-append a b);
      is = rw (none, front, append-nil, part_at) (sym (append_assoc a b (drop (n + 3) old)));
    }

-- the whole row is packed
pub IsPacked-all : (row start into : List ℕ) (from at : ℕ) → IsPacked row start into from at → length row ≤ from → packed_bound (length row) ≤ length start
    → (at ≡ length (packing row)) × (into ≡ packing row ++ drop at start)
IsPacked-all row start into from at packed end room =
    let none : packing (drop from row) ≡ [] = packing-none (drop from row) (omega (arith, length-drop from row)) in
    let left : _ = ap length (sym none ∙ packed.given.rest) in
    let ahead : _ = length-drop at (packing row) in
    let len : at ≡ length (packing row) = omega (arith, packed.given.in_ahead) in
    let all : take at (packing row) ≡ packing row = take_all at (packing row) (omega arith) in
    (len, packed.given.written ∙ rw all refl)
