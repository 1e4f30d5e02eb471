-- A list copied to a buffer piece by piece, or skipped.
use Rattle.std.proofs.Common.{◌≡◌, ℕ, ◌+◌, ◌-◌, ◌<◌, ◌≤◌, List, [], ◌++◌, length, take, drop, min, refl, sym, ap, ◌∙◌, arith}
use Rattle.std.proofs.Math.Seq.{take-add}
use Rattle.std.proofs.lemmas.List.{append-nil, append_assoc, length-append, length-drop, length-take-le, take-append-le, drop-append-le, drop-drop, drop_all, drop_at, take_all, take_at, take_rest}
use borrow.Rule.Slice.PartMut.{put_mid}

-- the first `at` bytes of `ahead` are in the buffer, whose other bytes are unchanged, and `left` remains
pub record HasGiven (ahead start into left : List ℕ) (at : ℕ) : Type 0 where
  pub in_room : at ≤ length start
  pub in_ahead : at ≤ length ahead
  pub written : into ≡ take at ahead ++ drop at start
  pub rest : left ≡ drop at ahead

pub HasGiven-none : (ahead start : List ℕ) → HasGiven ahead start start ahead 0
HasGiven-none ahead start = record { in_room = omega arith; in_ahead = omega arith; written = refl; rest = refl }

-- the length of the buffer is unchanged
pub HasGiven-length : (ahead start into left : List ℕ) (at : ℕ) → HasGiven ahead start into left at → length into ≡ length start
HasGiven-length ahead start into left at given =
    let front : length (take at ahead) ≡ at = length-take-le at ahead given.in_ahead in
    ap length given.written ∙ omega (arith, given.in_room, front, length-append (take at ahead) (drop at start), length-drop at start)

-- n bytes of a piece are written after those given before
pub HasGiven-piece : (ahead start into piece behind part : List ℕ) (at n : ℕ) → HasGiven ahead start into (piece ++ behind) at
    → n ≡ min (length piece) (length (take (length into - at) (drop at into)))
    → part ≡ take n piece ++ drop n (take (length into - at) (drop at into))
    → HasGiven ahead start (put_mid at (length into - at) into part) (drop n piece ++ behind) (at + n)
HasGiven-piece ahead start into piece behind part at n given count is =
    let same : _ = HasGiven-length ahead start into (piece ++ behind) at given in
    let room : take (length into - at) (drop at into) ≡ drop at into = take_rest into at in
    let room_len : _ = length-drop at into in
    let counted : n ≡ min (length piece) (length (drop at into)) = rw (← room) count in
    let piece_len : _ = length-append piece behind in
    let rest_len : _ = ap length given.rest in
    let ahead_len : _ = length-drop at ahead in
    let front_len : length (take at ahead) ≡ at = length-take-le at ahead given.in_ahead in
    let kept_front : take at into ≡ take at ahead = ap (take at) given.written ∙ take_at (take at ahead) (drop at start) at front_len in
    let kept_back : drop at into ≡ drop at start = ap (drop at) given.written ∙ drop_at (take at ahead) (drop at start) at front_len in
    let next : take n piece ≡ take n (drop at ahead) =
    sym (take-append-le n piece behind (omega arith)) ∙ ap (take n) given.rest in
    let past : drop n (drop at into) ≡ drop (at + n) start = ap (drop n) kept_back ∙ drop-drop n at start in
    let part_is : part ≡ take n (drop at ahead) ++ drop (at + n) start =
    is ∙ (rw (room, next, past) refl) in
    let none : drop (length into - at) (drop at into) ≡ [] = drop_all (length into - at) (drop at into) (omega arith) in
    let written : put_mid at (length into - at) into part ≡ take (at + n) ahead ++ drop (at + n) start =
    rw (none, append-nil, kept_front, part_is, take-add at n ahead) (sym (append_assoc (take at ahead) (take n (drop at ahead)) (drop (at + n) start))) in
    record {
      in_room = omega (arith, given.in_room);
      in_ahead = omega arith;
      written = written;
      rest = sym (drop-append-le n piece behind (omega arith)) ∙ (ap (drop n) given.rest ∙ drop-drop n at ahead);
    }

-- a piece that doesn't fill the buffer is consumed whole
pub HasGiven-whole : (ahead start into piece behind written : List ℕ) (at n : ℕ) → HasGiven ahead start into (piece ++ behind) at → HasGiven ahead start written (drop n piece ++ behind) (at + n)
    → n ≡ min (length piece) (length (take (length into - at) (drop at into)))
    → (at + n ≡ length written → ⊥)
    → drop n piece ≡ []
HasGiven-whole ahead start into piece behind written at n before after count not_full =
    let same_before : _ = HasGiven-length ahead start into (piece ++ behind) at before in
    let same_after : _ = HasGiven-length ahead start written (drop n piece ++ behind) (at + n) after in
    let room : _ = length-drop at into in
    let counted : n ≡ min (length piece) (length (drop at into)) = rw (← take_rest into at) count in
    drop_all n piece (omega (arith, before.in_room))

-- the next piece comes before those after it
pub HasGiven-next : (ahead start into gone behind next more : List ℕ) (at : ℕ) → HasGiven ahead start into (gone ++ behind) at → gone ≡ [] → behind ≡ next ++ more → HasGiven ahead start into (next ++ more) at
HasGiven-next ahead start into gone behind next more at given none is =
    let same : gone ++ behind ≡ next ++ more = rw none is in
    record { in_room = given.in_room; in_ahead = given.in_ahead; written = given.written; rest = sym same ∙ given.rest }

-- the buffer is full
pub HasGiven-full : (ahead start into left : List ℕ) (at : ℕ) → HasGiven ahead start into left at → at ≡ length into
    → (length start ≤ length ahead) × (into ≡ take (length start) ahead) × (left ≡ drop (length start) ahead)
HasGiven-full ahead start into left at given full =
    let same : _ = HasGiven-length ahead start into left at given in
    let at_end : at ≡ length start = full ∙ same in
    let none : drop at start ≡ [] = drop_all at start (omega arith) in
    (omega (arith, given.in_ahead), given.written ∙ (rw (none, append-nil, at_end) refl), given.rest ∙ rw at_end refl)

-- nothing is left and the buffer is not full
pub HasGiven-all : (ahead start into : List ℕ) (at : ℕ) → HasGiven ahead start into [] at → (at ≡ length into → ⊥)
    → (length ahead < length start) × (into ≡ ahead ++ drop (length ahead) start) × ([] ≡ drop (length start) ahead)
HasGiven-all ahead start into at given not_full =
    let same : _ = HasGiven-length ahead start into [] at given in
    let none_len : _ = ap length given.rest in
    let left_len : _ = length-drop at ahead in
    let at_end : at ≡ length ahead = omega (arith, given.in_ahead) in
    let short : length ahead < length start = omega (arith, given.in_room) in
    let whole : take (length ahead) ahead ≡ ahead = take_all (length ahead) ahead (omega arith) in
    (short, given.written ∙ (rw (at_end, whole) refl), sym (drop_all (length start) ahead (omega arith)))

-- a piece that fills the buffer
pub HasGiven-filled : (ahead start into piece behind part : List ℕ) (at n : ℕ) → HasGiven ahead start into (piece ++ behind) at
    → n ≡ min (length piece) (length (take (length into - at) (drop at into)))
    → part ≡ take n piece ++ drop n (take (length into - at) (drop at into))
    → at + n ≡ length (put_mid at (length into - at) into part)
    → (length start ≤ length ahead) × (put_mid at (length into - at) into part ≡ take (length start) ahead) × (drop n piece ++ behind ≡ drop (length start) ahead)
HasGiven-filled ahead start into piece behind part at n given count is full =
    HasGiven-full ahead start (put_mid at (length into - at) into part) (drop n piece ++ behind) (at + n) (HasGiven-piece ahead start into piece behind part at n given count is) full

-- a last piece, which doesn't fill it
pub HasGiven-ended : (ahead start into piece behind part : List ℕ) (at n : ℕ) → HasGiven ahead start into (piece ++ behind) at
    → n ≡ min (length piece) (length (take (length into - at) (drop at into)))
    → part ≡ take n piece ++ drop n (take (length into - at) (drop at into))
    → (at + n ≡ length (put_mid at (length into - at) into part) → ⊥) → behind ≡ []
    → (drop n piece ≡ []) × (length ahead < length start) × (put_mid at (length into - at) into part ≡ ahead ++ drop (length ahead) start) × ([] ≡ drop (length start) ahead)
HasGiven-ended ahead start into piece behind part at n given count is not_full none =
    let written = put_mid at (length into - at) into part in
    let next = HasGiven-piece ahead start into piece behind part at n given count is in
    let whole = HasGiven-whole ahead start into piece behind written at n given next count not_full in
    let all = HasGiven-all ahead start written (at + n) (HasGiven-next ahead start written (drop n piece) behind [] [] (at + n) next whole none) not_full in
    (whole, all.0, all.1, all.2)

-- of `n` bytes to skip, `most` are still to be skipped, and `left` remains
pub record HasPassed (ahead left : List ℕ) (n most : ℕ) : Type 0 where
  pub of_n : most ≤ n
  pub in_ahead : n ≤ length ahead + most
  pub rest : left ≡ drop (n - most) ahead

pub HasPassed-none : (ahead : List ℕ) (n : ℕ) → HasPassed ahead ahead n n
HasPassed-none ahead n =
    let none : n - n ≡ 0 = omega arith in
    record { of_n = omega arith; in_ahead = omega arith; rest = rw none refl }

-- k bytes of a piece are skipped
pub HasPassed-piece : (ahead piece behind : List ℕ) (n most k : ℕ) → HasPassed ahead (piece ++ behind) n most → k ≡ min (length piece) most → HasPassed ahead (drop k piece ++ behind) n (most - k)
HasPassed-piece ahead piece behind n most k passed count =
    let piece_len : _ = length-append piece behind in
    let rest_len : _ = ap length passed.rest in
    let ahead_len : _ = length-drop (n - most) ahead in
    let there : n - most + k ≡ n - (most - k) = omega (arith, passed.of_n) in
    record {
      of_n = omega (arith, passed.of_n);
      in_ahead = omega (arith, passed.of_n, passed.in_ahead);
      rest = sym (drop-append-le k piece behind (omega arith)) ∙ (ap (drop k) passed.rest ∙ (drop-drop k (n - most) ahead ∙ ap (λ m. drop m ahead) there));
    }

-- a piece is skipped whole if bytes are still to be skipped after it
pub HasPassed-whole : (piece : List ℕ) (most k : ℕ) → k ≡ min (length piece) most → (most - k ≡ 0 → ⊥) → drop k piece ≡ []
HasPassed-whole piece most k count more = drop_all k piece (omega arith)

-- the next piece comes before those after it
pub HasPassed-next : (ahead gone behind next more : List ℕ) (n most : ℕ) → HasPassed ahead (gone ++ behind) n most → gone ≡ [] → behind ≡ next ++ more → HasPassed ahead (next ++ more) n most
HasPassed-next ahead gone behind next more n most passed none is =
    let same : gone ++ behind ≡ next ++ more = rw none is in
    record { of_n = passed.of_n; in_ahead = passed.in_ahead; rest = sym same ∙ passed.rest }

-- no more bytes are to be skipped
pub HasPassed-full : (ahead left : List ℕ) (n most : ℕ) → HasPassed ahead left n most → most ≡ 0 → (n ≤ length ahead) × (left ≡ drop n ahead)
HasPassed-full ahead left n most passed none =
    let there : n - most ≡ n = omega arith in
    (omega (arith, passed.in_ahead), passed.rest ∙ ap (λ m. drop m ahead) there)

-- nothing is left, and bytes are still to be skipped
pub HasPassed-all : (ahead : List ℕ) (n most : ℕ) → HasPassed ahead [] n most → (most ≡ 0 → ⊥) → (length ahead < n) × ([] ≡ drop n ahead)
HasPassed-all ahead n most passed more =
    let none_len : _ = ap length passed.rest in
    let left_len : _ = length-drop (n - most) ahead in
    let short : length ahead < n = omega (arith, passed.of_n) in
    (short, sym (drop_all n ahead (omega arith)))

-- a piece with the last bytes to be skipped
pub HasPassed-filled : (ahead piece behind : List ℕ) (n most k : ℕ) → HasPassed ahead (piece ++ behind) n most → k ≡ min (length piece) most → most - k ≡ 0
    → (n ≤ length ahead) × (drop k piece ++ behind ≡ drop n ahead)
HasPassed-filled ahead piece behind n most k passed count none =
    HasPassed-full ahead (drop k piece ++ behind) n (most - k) (HasPassed-piece ahead piece behind n most k passed count) none

-- a last piece, behind which bytes are still to be skipped
pub HasPassed-ended : (ahead piece behind : List ℕ) (n most k : ℕ) → HasPassed ahead (piece ++ behind) n most → k ≡ min (length piece) most → (most - k ≡ 0 → ⊥) → behind ≡ []
    → (drop k piece ≡ []) × (length ahead < n) × ([] ≡ drop n ahead)
HasPassed-ended ahead piece behind n most k passed count more none =
    let whole = HasPassed-whole piece most k count more in
    let all = HasPassed-all ahead n (most - k) (HasPassed-next ahead (drop k piece) behind [] [] n (most - k) (HasPassed-piece ahead piece behind n most k passed count) whole none) more in
    (whole, all.0, all.1)
