-- Lists compared element by element.
use Rattle.std.proofs.Common.{◌≡◌, ℕ, ◌+◌, ◌<◌, Bool, true, false, List, [], ◌∷◌, ◌++◌, length, map, get_or, take, append_assoc, append-nil, refl, ap, sym, ◌∙◌, arith}
use Rattle.std.specs.List.{flat_map}
use Rattle.std.specs.Bool.{Decides, beq}
use Rattle.std.proofs.lemmas.List.{take_more, get_or-map, length-map, map_more}
use Rattle.std.proofs.lemmas.List.Concat.{flat_map-append}

-- where two elements differ, the lists differ
pub maps_differ : {X Y : Type 0} (f g : X → Y) (xs ys : List X) (i : ℕ) (d : X) → i < length xs → i < length ys
    → (f (get_or xs i d) ≡ g (get_or ys i d) → ⊥) → map f xs ≡ map g ys → ⊥
maps_differ f g xs ys i d left right differs same =
    differs (sym (get_or-map f xs i d (f d) left) ∙ ap (λ l. get_or l i (f d)) same ∙ get_or-map g ys i d (f d) right)

-- one more element
pub maps_more : {X Y : Type 0} (f g : X → Y) (xs ys : List X) (i : ℕ) (d : X) → i < length xs → i < length ys
    → f (get_or xs i d) ≡ g (get_or ys i d) → take i (map f xs) ≡ take i (map g ys) → take (i + 1) (map f xs) ≡ take (i + 1) (map g ys)
maps_more f g xs ys i d left right same before =
    take_more (map f xs) i (f d) (omega (arith, length-map xs f))
    ∙ ap (λ l. l ++ get_or (map f xs) i (f d) ∷ []) before
    ∙ ap (λ x. take i (map g ys) ++ x ∷ []) (get_or-map f xs i d (f d) left ∙ same ∙ sym (get_or-map g ys i d (f d) right))
    ∙ sym (take_more (map g ys) i (f d) (omega (arith, length-map ys g)))

pub flags_decide : (a b : Bool) → Decides (beq a b) (a ≡ b)
flags_decide true true = (λ _. refl, λ _. refl)
flags_decide true false = (λ same. sym same, λ same. sym same)
flags_decide false true = (λ same. same, λ same. same)
flags_decide false false = (λ _. refl, λ _. refl)

-- ---- lists that are made piece by piece, each piece by a function that keeps joins

pub joined_more : {X Y Z : Type 0} (g : List Y → List Z) → ((a b : List Y) → g (a ++ b) ≡ g a ++ g b)
    → (f : X → List Y) (old : List Z) (xs : List X) (i : ℕ) (d : X) → i < length xs
    → (old ++ g (flat_map f (take i xs))) ++ g (f (get_or xs i d)) ≡ old ++ g (flat_map f (take (i + 1) xs))
joined_more g joins f old xs i d within =
    append_assoc old (g (flat_map f (take i xs))) (g (f (get_or xs i d)))
    ∙ ap (λ l. old ++ l) (sym (joins (flat_map f (take i xs)) (f (get_or xs i d)))
    ∙ ap (λ l. g l) (sym (ap (λ l. flat_map f l) (take_more xs i d within) ∙ flat_map-append f (take i xs) (get_or xs i d ∷ [])
    ∙ ap (λ l. flat_map f (take i xs) ++ l) (append-nil (f (get_or xs i d))))))

-- the same for pieces of one element
pub one_more : {X Y Z : Type 0} (g : List Y → List Z) → ((a b : List Y) → g (a ++ b) ≡ g a ++ g b)
    → (f : X → Y) (old : List Z) (xs : List X) (i : ℕ) (d : X) → i < length xs
    → (old ++ g (map f (take i xs))) ++ g (f (get_or xs i d) ∷ []) ≡ old ++ g (map f (take (i + 1) xs))
one_more g joins f old xs i d within =
    append_assoc old (g (map f (take i xs))) (g (f (get_or xs i d) ∷ []))
    ∙ ap (λ l. old ++ l) (sym (joins (map f (take i xs)) (f (get_or xs i d) ∷ []))
    ∙ ap (λ l. g l) (sym (map_more f xs i d within)))
