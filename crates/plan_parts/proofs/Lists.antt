-- The items of a list, one at a time.
use Rattle.std.proofs.Common.{◌≡◌, ℕ, suc, ◌+◌, ◌<◌, ◌≤◌, List, [], ◌∷◌, ◌++◌, length, get_or, drop, Ok, refl, sym, ap, subst, ◌∙◌, drop-cons, add-one, arith}
use Rattle.std.proofs.Math.ListN.{drop_of_length-le}
use Rattle.std.proofs.lemmas.Bool.{le-leb}
use Rattle.serde_json.specs.Data.{Data}
use Rattle.serde_json.specs.View.{view, items_view}
use Rattle.serde_json.specs.declared.value.Value.{Value}
use Rattle.plan_parts.specs.declared.fault.PlanFault.{PlanFault}
use Rattle.plan_parts.specs.declared.fault.PlanFault.TheVariants.{Missing, Kind, Range, Unknown, Repeat, Memory, NotJson}
use Rattle.plan_parts.specs.Gives.{Fails}
use Rattle.plan_parts.proofs.Sound.{each_keeps}
use Rattle.plan_parts.specs.Reading.{Read, Reader, ◌>>=◌, at_item, count_of, items_in, items_within, each_after}

pub count_view : (vs : List Value) → count_of (items_view vs) ≡ length vs
count_view [] = refl
count_view (v ∷ vs) = ap suc (count_view vs)

-- a list of a length within the bounds is read
pub items_within-read : (low high : ℕ) (path : List ℕ) (d : Data) (vs : List Value)
    → items_in path d ≡ Ok (items_view vs) → low ≤ length vs → length vs ≤ high
    → items_within low high path d ≡ Ok (items_view vs)
unfolding items_within
items_within-read low high path d vs read least most =
    rw (read, count_view vs, le-leb low (length vs) least, le-leb (length vs) high most) refl

-- where a step fails, the steps after it fail with the same fault
pub fails_then : {A B : Type 0} (fault : PlanFault) (read : Read A) (rest : A → Read B) → Fails fault read
    → Fails fault (read >>= rest)
fails_then Memory read rest h = tt
fails_then NotJson read rest h = rw h refl
fails_then (Missing path) read rest h = rw h refl
fails_then (Kind path) read rest h = rw h refl
fails_then (Range path) read rest h = rw h refl
fails_then (Unknown path) read rest h = rw h refl
fails_then (Repeat path) read rest h = rw h refl

module _ {A : Type 0} (read : List A → Reader A) (path : List ℕ) (vs : List Value) (total : Read (List A)) where
  -- the items that are left to read, given the items before them
  abbrev pub Reads : List A → ℕ → Type 0
  Reads xs i = each_after xs read path (items_view (drop i vs)) ≡ total

  turn : (xs : List A) (i : ℕ) (v : Value) → i < length vs → v ≡ get_or vs i v → Reads xs i
      → (read xs (at_item path (length xs)) (view v) >>= λ x. each_after (xs ++ x ∷ []) read path
      (items_view (drop (i + 1) vs))) ≡ total
  unfolding each_after
  turn xs i v less is h =
      let e : drop i vs ≡ v ∷ drop (i + 1) vs = rw add-one (drop-cons vs i v less ∙ ap (λ w. w ∷ drop (suc i) vs) (sym is)) in
      ap (λ ws. each_after xs read path (items_view ws)) (sym e) ∙ h

  pub each-more : (xs : List A) (i : ℕ) (v : Value) (x : A) → i < length vs → v ≡ get_or vs i v
      → read xs (at_item path (length xs)) (view v) ≡ Ok x → Reads xs i → Reads (xs ++ x ∷ []) (i + 1)
  each-more xs i v x less is one h = rw one at (turn xs i v less is h)

  pub each-fails : (fault : PlanFault) (xs : List A) (i : ℕ) (v : Value) → i < length vs → v ≡ get_or vs i v
      → Fails fault (read xs (at_item path (length xs)) (view v)) → Reads xs i → Fails fault total
  each-fails fault xs i v less is one h = subst (Fails fault) (turn xs i v less is h) (fails_then fault _ _ one)

  pub each-done : (xs : List A) (i : ℕ) → length vs ≤ i → Reads xs i → total ≡ Ok xs
  unfolding each_after
  each-done xs i all h = sym h ∙ ap (λ ws. each_after xs read path (items_view ws)) (drop_of_length-le vs all)

-- as many values are read as there are items
pub each-count : {A : Type 0} (read : List A → Reader A) (path : List ℕ) (vs : List Value) (xs : List A)
    → each_after [] read path (items_view vs) ≡ Ok xs → length xs ≡ length vs
each-count read path vs xs e = omega (arith, (each_keeps read (λ _. Unit {0}) (λ _ _ _ _ _ _. tt) [] path (items_view vs) xs tt e).1, count_view vs)
