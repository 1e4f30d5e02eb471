-- Runs and literals at the start of a row, from comparisons of its bytes.
use Rattle.std.proofs.Common.{◌≡◌, ℕ, zero, suc, ◌+◌, ◌<◌, ◌≤◌, ◌⊎◌, ⊎_elim, Bool, true, false, ◌&&◌, eqb, List, [], ◌∷◌, length, drop, get_or, min, refl, ◌∙◌, arith}
use Rattle.std.specs.List.{prefix_len}
use Rattle.std.proofs.lemmas.Bool.{eq-eqb, ne_eqb, cond-true, cond-false, cases_lt, cases_Bool, and_from, and_left, and_right}
use Rattle.std.proofs.lemmas.List.Sums.{prefix_len-le-length}
use Rattle.tif_packbits.specs.Packbits.{run_len, begins_run, mixed_len, literal_len}
use Rattle.tif_packbits.proofs.Packing.{mixed_len-le-length}

-- at least n bytes pass
prefix_len-ge : (p : ℕ → Bool) (row : List ℕ) (n : ℕ) → n ≤ length row → ((k : ℕ) → k < n → p (get_or row k 0) ≡ true) → n ≤ prefix_len p row
prefix_len-ge p row zero within pass = omega arith
prefix_len-ge p [] (suc n) within pass = omega arith
prefix_len-ge p (byte ∷ row) (suc n) within pass =
    let counted : _ = cond-true (p byte) (1 + prefix_len p row) 0 (pass 0 (omega arith)) in
    let rest : _ = prefix_len-ge p row n (omega arith) (λ k less. pass (suc k) (omega arith)) in
    omega arith

-- a byte that fails ends the count
prefix_len-le : (p : ℕ → Bool) (row : List ℕ) (n : ℕ) → p (get_or row n 0) ≡ false → n < length row → prefix_len p row ≤ n
prefix_len-le p [] n fail within = omega arith
prefix_len-le p (byte ∷ row) zero fail within =
    let counted : _ = cond-false (p byte) (1 + prefix_len p row) 0 fail in omega arith
prefix_len-le p (byte ∷ row) (suc n) fail within =
    let rest : _ = prefix_len-le p row n fail (omega arith) in
    ⊎_elim
    (λ (more : p byte ≡ true). let counted : _ = cond-true (p byte) (1 + prefix_len p row) 0 more in omega arith)
    (λ (none : p byte ≡ false). let counted : _ = cond-false (p byte) (1 + prefix_len p row) 0 none in omega arith)
    (cases_Bool (p byte))

-- a run that reaches the longest packet or the end of the row
pub run_len_full : (row : List ℕ) (n most : ℕ) → 1 ≤ n → most ≡ min (length row) 128 → most ≤ n → n ≤ most → ((k : ℕ) → k < n → get_or row k 0 ≡ get_or row 0 0) → n ≡ run_len row
run_len_full [] n most some is full within same = omega arith
run_len_full (byte ∷ row) n most some is full within same =
    let counted : _ = prefix_len-ge (λ x. eqb x byte) (byte ∷ row) n (omega arith) (λ k less. eq-eqb (get_or (byte ∷ row) k 0) byte (same k less)) in
    let bound : _ = prefix_len-le-length (λ x. eqb x byte) (byte ∷ row) in
    omega arith

-- a run that ends at a different byte
pub run_len_stops : (row : List ℕ) (n : ℕ) → n < length row → n ≤ 128 → ((k : ℕ) → k < n → get_or row k 0 ≡ get_or row 0 0) → (get_or row n 0 ≡ get_or row 0 0 → ⊥) → n ≡ run_len row
run_len_stops [] n within short same other = absurd (omega arith)
run_len_stops (byte ∷ row) n within short same other =
    let counted : _ = prefix_len-ge (λ x. eqb x byte) (byte ∷ row) n (omega arith) (λ k less. eq-eqb (get_or (byte ∷ row) k 0) byte (same k less)) in
    let ended : _ = prefix_len-le (λ x. eqb x byte) (byte ∷ row) n (ne_eqb (get_or (byte ∷ row) n 0) byte other) within in
    omega arith

-- whether three equal bytes begin at index k
begins_run-at : (row : List ℕ) (k : ℕ) → k + 2 < length row → begins_run (drop k row) ≡ (eqb (get_or row k 0) (get_or row (k + 1) 0) && eqb (get_or row (k + 1) 0) (get_or row (k + 2) 0))
begins_run-at [] k within = absurd (omega arith)
begins_run-at (a ∷ []) zero within = absurd (omega arith)
begins_run-at (a ∷ b ∷ []) zero within = absurd (omega arith)
begins_run-at (a ∷ b ∷ c ∷ row) zero within = refl
begins_run-at (a ∷ row) (suc k) within =
    let one : suc k + 1 ≡ suc (k + 1) = omega arith in
    let two : suc k + 2 ≡ suc (k + 2) = omega arith in
    rw (one, two) (begins_run-at row k (omega arith))

-- none begins at the last two indices or past them
begins_run-end : (row : List ℕ) (k : ℕ) → length row ≤ k + 2 → begins_run (drop k row) ≡ false
begins_run-end [] zero past = refl
begins_run-end [] (suc k) past = refl
begins_run-end (a ∷ []) zero past = refl
begins_run-end (a ∷ b ∷ []) zero past = refl
begins_run-end (a ∷ b ∷ c ∷ row) zero past = absurd (omega arith)
begins_run-end (a ∷ row) (suc k) past = begins_run-end row k (omega arith)

-- three equal bytes begin here
pub begins_run-here : (row : List ℕ) (k : ℕ) → k + 2 < length row → get_or row k 0 ≡ get_or row (k + 1) 0 → get_or row (k + 1) 0 ≡ get_or row (k + 2) 0 → begins_run (drop k row) ≡ true
begins_run-here row k within first second =
    begins_run-at row k within ∙ and_from (eqb (get_or row k 0) (get_or row (k + 1) 0)) (eqb (get_or row (k + 1) 0) (get_or row (k + 2) 0)) (eq-eqb _ _ first) (eq-eqb _ _ second)

pub begins_run-first : (row : List ℕ) (k : ℕ) → k + 2 < length row → (get_or row k 0 ≡ get_or row (k + 1) 0 → ⊥) → begins_run (drop k row) ≡ false
begins_run-first row k within other =
    begins_run-at row k within ∙ and_left (eqb (get_or row k 0) (get_or row (k + 1) 0)) (eqb (get_or row (k + 1) 0) (get_or row (k + 2) 0)) (ne_eqb _ _ other)

pub begins_run-second : (row : List ℕ) (k : ℕ) → k + 2 < length row → (get_or row (k + 1) 0 ≡ get_or row (k + 2) 0 → ⊥) → begins_run (drop k row) ≡ false
begins_run-second row k within other =
    begins_run-at row k within ∙ and_right (eqb (get_or row k 0) (get_or row (k + 1) 0)) (eqb (get_or row (k + 1) 0) (get_or row (k + 2) 0)) (ne_eqb _ _ other)

-- where two neighbours differ, no run begins at the first of them nor at the index before
pub begins_run-next : (row : List ℕ) (k : ℕ) → k + 1 < length row → (get_or row k 0 ≡ get_or row (k + 1) 0 → ⊥) → begins_run (drop k row) ≡ false
begins_run-next row k within other =
    ⊎_elim
    (λ (inside : k + 2 < length row). begins_run-first row k inside other)
    (λ (past : length row ≤ k + 2). begins_run-end row k past)
    (cases_lt (k + 2) (length row))

-- at least n indices at which no run begins
mixed_len-ge : (row : List ℕ) (n : ℕ) → n ≤ length row → ((k : ℕ) → k < n → begins_run (drop k row) ≡ false) → n ≤ mixed_len row
mixed_len-ge row zero within none = omega arith
mixed_len-ge [] (suc n) within none = omega arith
mixed_len-ge (byte ∷ row) (suc n) within none =
    let counted : _ = cond-false (begins_run (byte ∷ row)) 0 (mixed_len row + 1) (none 0 (omega arith)) in
    let rest : _ = mixed_len-ge row n (omega arith) (λ k less. none (suc k) (omega arith)) in
    omega arith

-- an index at which a run begins ends the count
mixed_len-le : (row : List ℕ) (n : ℕ) → begins_run (drop n row) ≡ true → mixed_len row ≤ n
mixed_len-le [] n here = omega arith
mixed_len-le (byte ∷ row) zero here =
    let counted : _ = cond-true (begins_run (byte ∷ row)) 0 (mixed_len row + 1) here in omega arith
mixed_len-le (byte ∷ row) (suc n) here =
    let rest : _ = mixed_len-le row n here in
    ⊎_elim
    (λ (now : begins_run (byte ∷ row) ≡ true). let counted : _ = cond-true (begins_run (byte ∷ row)) 0 (mixed_len row + 1) now in omega arith)
    (λ (later : begins_run (byte ∷ row) ≡ false). let counted : _ = cond-false (begins_run (byte ∷ row)) 0 (mixed_len row + 1) later in omega arith)
    (cases_Bool (begins_run (byte ∷ row)))

-- a literal that ends where three equal bytes begin
pub literal_len_stops : (row : List ℕ) (n : ℕ) → n ≤ length row → n ≤ 128 → ((k : ℕ) → k < n → begins_run (drop k row) ≡ false) → begins_run (drop n row) ≡ true → n ≡ literal_len row
literal_len_stops row n within short none here =
    let counted : _ = mixed_len-ge row n within none in
    let ended : _ = mixed_len-le row n here in
    omega arith

-- a literal that reaches the longest packet or the end of the row
pub literal_len_full : (row : List ℕ) (most at : ℕ) → most ≡ min (length row) 128 → ((k : ℕ) → k < at → begins_run (drop k row) ≡ false) → (most ≤ at) ⊎ (length row ≤ at + 2) → most ≡ literal_len row
literal_len_full row most at is none ends =
    let counted : most ≤ mixed_len row =
    mixed_len-ge row most (omega arith)
    (λ k less.
    ⊎_elim
    (λ (before : k < at). none k before)
    (λ (past : at ≤ k).
    ⊎_elim
    (λ (full : most ≤ at). absurd (omega arith))
    (λ (last : length row ≤ at + 2). begins_run-end row k (omega arith))
    ends)
    (cases_lt k at)) in
    let bound : _ = mixed_len-le-length row in
    omega arith
