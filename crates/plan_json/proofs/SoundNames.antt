-- Lists of items of new names: what is read of each item holds of all, and their names are distinct.
use Rattle.std.proofs.Common.{◌≡◌, ℕ, List, [], ◌∷◌, ◌++◌, length, map, None, Ok, arith}
use Rattle.std.specs.Prelude.{All}
use Rattle.std.proofs.lemmas.List.Elements.{All-nil, All-push}
use Rattle.serde_json.specs.Data.{Data}
use Rattle.pr_base.specs.Number.{IsWithin}
use Rattle.plan_parts.specs.Words.{AreDistinct}
use Rattle.plan_parts.specs.Reading.{Reader, index_in, list_of}
use Rattle.plan_parts.proofs.Sound.{distinct-push, map-push, list_keeps}

abbrev pub AreNamed : {X : Type 0} → (X → Type 0) → (X → List ℕ) → List X → Type 0
AreNamed P name_of xs = All P xs × AreDistinct (map name_of xs)

pub none_apart : AreDistinct []
none_apart i j d less within = absurd (omega arith)

pub none_named : {X : Type 0} (P : X → Type 0) (name_of : X → List ℕ) → AreNamed P name_of []
none_named P name_of = (All-nil P, none_apart)

-- one more item, of a new name
named_push : {X : Type 0} (P : X → Type 0) (name_of : X → List ℕ) (xs : List X) (x : X)
    → AreNamed P name_of xs → P x × (index_in (map name_of xs) (name_of x) ≡ None)
    → AreNamed P name_of (xs ++ x ∷ [])
named_push P name_of xs x h t =
    (All-push P xs x h.0 t.0, rw (map-push name_of xs x) (distinct-push (map name_of xs) (name_of x) t.1 h.1))

pub named_sound : {X : Type 0} (P : X → Type 0) (name_of : X → List ℕ) (read : List X → Reader X)
    → ((xs : List X) (path : List ℕ) (d : Data) (x : X) → read xs path d ≡ Ok x → P x × (index_in (map name_of xs) (name_of x) ≡ None))
    → (low high : ℕ) (path : List ℕ) (d : Data) (v : List X) → list_of low high read path d ≡ Ok v
    → AreNamed P name_of v × IsWithin low high (length v)
named_sound P name_of read each low high path d v e =
    list_keeps read (AreNamed P name_of) (λ xs path d x h one. named_push P name_of xs x h (each xs path d x one)) low high path d v (none_named P name_of) e
