use Rattle.std.proofs.Common.{◌≡◌, ℕ, ◌<◌, List, [], ◌++◌, map, length, get_or, set, Vec, Global, sym, ap, ◌∙◌, arith}
use Rattle.std.proofs.lemmas.List.{map-set, get_or-map, set-get_or}
use Rattle.std.specs.Prelude.{Result, Ok, Err, OnErr}
use Rattle.ring_core.proofs.step.push_row.Goals as goal

on_err : {T E : Type 0} (r : Result T E) (P : Type 0) → P → OnErr r P
on_err (Ok x) P p = tt
on_err (Err e) P p = p

abbrev lists : List (Vec ℕ Global) → List (List ℕ)
lists vs = map (λ v. v.items) vs

-- one list is replaced by another
put : (vs : List (Vec ℕ Global)) (i : ℕ) (v old : Vec ℕ Global) (xs : List ℕ) → i < length vs
    → old ≡ get_or vs i old → v.items ≡ old.items ++ xs
    → lists (set vs i v) ≡ set (lists vs) i (get_or (lists vs) i [] ++ xs)
put vs i v old xs h at e =
    let there : get_or (lists vs) i [] ≡ old.items = get_or-map (λ (w : Vec ℕ Global). w.items) vs i old [] h ∙ ap (λ (w : Vec ℕ Global). w.items) (sym at) in
    map-set (λ (w : Vec ℕ Global). w.items) vs i v ∙ ap (λ ys. set (lists vs) i ys) (e ∙ ap (λ ys. ys ++ xs) (sym there))

kept : (vs : List (Vec ℕ Global)) (i : ℕ) (v old : Vec ℕ Global) → i < length vs → old ≡ get_or vs i old
    → v.items ≡ old.items → lists (set vs i v) ≡ lists vs
kept vs i v old h at e =
    let there : get_or (lists vs) i [] ≡ old.items = get_or-map (λ (w : Vec ℕ Global). w.items) vs i old [] h ∙ ap (λ (w : Vec ℕ Global). w.items) (sym at) in
    map-set (λ (w : Vec ℕ Global). w.items) vs i v ∙ (ap (λ ys. set (lists vs) i ys) (e ∙ sym there) ∙ set-get_or (lists vs) i [])

pub returns-in_err-push-clause-err : goal.returns-in_err-push-clause-err
returns-in_err-push-clause-err c =
    let h : c.args.reader < length c.args.taken.now.items = omega arith in
    on_err _ _ (kept _ _ _ _ h c.index_mut.ensures.value c.in_err-push.ensures.items)

pub returns-clause-ok : goal.returns-clause-ok
returns-clause-ok c =
    let h : c.args.reader < length c.args.taken.now.items = omega arith in
    put _ _ _ _ _ h c.index_mut.ensures.value c.in_ok-push.ensures.items
