-- The values of a field, by their positions in its bytes.
use Rattle.std.proofs.Common.{◌≡◌, ℕ, zero, suc, ◌+◌, ◌*◌, ◌<◌, ◌≤◌, List, length, take, drop, map, get_or, refl, sym, ap, ◌∙◌, arith}
use Rattle.std.proofs.Math.Nat.{add_comm, mul-zero, mul-suc, mul-le-mul_left}
use Rattle.std.proofs.lemmas.List.{drop-drop}
use Rattle.std.specs.Simd.{first_chunks}
use Rattle.byteorder.specs.Numbers.{big_from-take, little_from-take}
use Rattle.tif_dir.specs.declared.order.Order.{Order}
use Rattle.tif_dir.specs.declared.order.Order.TheVariants.{Little, Big}
use Rattle.tif_dir.specs.declared.value_type.ValueType.{ValueType}
use Rattle.tif_dir.specs.Directory.{number_of, size_of, values_in}

-- a number depends only on its own bytes
pub number_of-take : (order : Order) (n m : ℕ) (bytes : List ℕ) → n ≤ m → number_of order n (take m bytes) ≡ number_of order n bytes
number_of-take Little n m bytes h = little_from-take 0 n m bytes (omega arith)
number_of-take Big n m bytes h = big_from-take 0 n m bytes (omega arith)

-- as many results as chunks
pub length-map_chunks : (f : List ℕ → ℕ) (n k : ℕ) (bytes : List ℕ) → length (map f (first_chunks n k bytes)) ≡ k
length-map_chunks f n zero bytes = refl
length-map_chunks f n (suc k) bytes = ap (λ (j : ℕ). suc j) (length-map_chunks f n k (drop n bytes))

-- result i comes from the chunk at byte n * i
pub get_or-map_chunks : (f : List ℕ → ℕ) (n k : ℕ) (bytes : List ℕ) (i : ℕ) → i < k
    → get_or (map f (first_chunks n k bytes)) i 0 ≡ f (take n (drop (n * i) bytes))
get_or-map_chunks f n zero bytes i h = absurd (omega arith)
get_or-map_chunks f n (suc k) bytes zero h = simp mul-zero
get_or-map_chunks f n (suc k) bytes (suc i) h =
    get_or-map_chunks f n k (drop n bytes) i (omega arith) ∙ rw (mul-suc n i, drop-drop) (simp add_comm)

-- a field has as many values as its count
pub length-values_in : (order : Order) (kind : ValueType) (count : ℕ) (bytes : List ℕ) → length (values_in order kind count bytes) ≡ count
length-values_in order kind count bytes = length-map_chunks (number_of order (size_of kind)) (size_of kind) count bytes

-- value i is the number at its position
pub get_or-values_in : (order : Order) (kind : ValueType) (count : ℕ) (bytes : List ℕ) (i : ℕ) → i < count
    → get_or (values_in order kind count bytes) i 0 ≡ number_of order (size_of kind) (drop (size_of kind * i) bytes)
get_or-values_in order kind count bytes i h =
    get_or-map_chunks (number_of order (size_of kind)) (size_of kind) count bytes i h
    ∙ number_of-take order (size_of kind) (size_of kind) (drop (size_of kind * i) bytes) (omega arith)

-- the bytes of value i are within the field's bytes
pub value-fits : (order : Order) (kind : ValueType) (count : ℕ) (bytes values : List ℕ) (i : ℕ)
    → values_in order kind count bytes ≡ values → length bytes ≡ size_of kind * count → i < length values
    → size_of kind * i + size_of kind ≤ length bytes
value-fits order kind count bytes values i is_values is_length h =
    let counted : length values ≡ count = ap length (sym is_values) ∙ length-values_in order kind count bytes in
    let below : suc i ≤ count = omega arith in
    let scaled : size_of kind * suc i ≤ size_of kind * count = mul-le-mul_left (size_of kind) below in
    let split : size_of kind * suc i ≡ size_of kind * i + size_of kind = mul-suc (size_of kind) i in
    omega arith
