-- Looking up views by actor in a list of views, before and after one view changes or is appended.
use Rattle.std.proofs.Common.{◌≡◌, ◌≢◌, ℕ, zero, suc, ◌+◌, ◌<◌, ◌⊎◌, cond, eqb, List, [], ◌∷◌, ◌++◌, length, set, sym, refl, ap, ◌∙◌, inl, inr, arith}
use Rattle.std.specs.Prelude.{Some}
use Rattle.std.proofs.lemmas.Bool.{cases_eq, eq-eqb, ne_eqb}
use mathlib.Core.Option.{some, some-injective, some-ne-none}
use lib.ListN.{get_elem?}
use Rattle.atomic_table.proofs.Lists.{at_set, set_here}
use Rattle.ring_rule.specs.declared.view.RingNumbers.{RingNumbers}
use Rattle.ring_rule.specs.declared.view.WriterView.{WriterView}
use Rattle.ring_rule.specs.declared.view.ReaderView.{ReaderView}
use Rattle.ring_rule.specs.declared.view.View.{View}
use Rattle.ring_rule.specs.declared.view.View.TheVariants.{Writer, Reader, HeadNote, CursorNote, Spent}
use Rattle.ring_rule.specs.Views.{new_reader, actor_of, writer_or, reader_or, writer_of, reader_of, put_reader}
use Rattle.ring_rule.specs.Kept.{Alone}

-- a choice by whether two numbers are equal
pub pick_same : {A : Type 0} (n m : ℕ) (a b : A) → n ≡ m → cond (eqb n m) a b ≡ a
pick_same n m a b e = ap (λ t. cond t a b) (eq-eqb n m e)

pub pick_other : {A : Type 0} (n m : ℕ) (a b : A) → n ≢ m → cond (eqb n m) a b ≡ b
pick_other n m a b e = ap (λ t. cond t a b) (ne_eqb n m e)

-- a view of another actor is skipped
writer_skip : (v : View) (w : WriterView) → actor_of v ≢ Some 0 → writer_or v w ≡ w
writer_skip (Writer u) w n = absurd (n refl)
writer_skip (Reader x) w n = refl
writer_skip (HeadNote h) w n = refl
writer_skip (CursorNote c) w n = refl
writer_skip Spent w n = refl

reader_skip : (r : ℕ) (v : View) (x : ReaderView) → actor_of v ≢ Some (r + 1) → reader_or r v x ≡ x
reader_skip r (Writer u) x n = refl
reader_skip r (Reader y) x n = pick_other y.number r y x (λ e. n (ap (λ k. Some (k + 1)) e))
reader_skip r (HeadNote h) x n = refl
reader_skip r (CursorNote c) x n = refl
reader_skip r Spent x n = refl

-- if no actor has two views in a list, the same holds for its tail, and the first view's actor is not in the
-- tail
alone_rest : (v : View) (vs : List View) → Alone (v ∷ vs) → Alone vs
alone_rest v vs h i j n a b p q s t = let e : suc i ≡ suc j = h (suc i) (suc j) n a b p q s t in omega arith

alone_first : (v u : View) (vs : List View) (i n : ℕ) → Alone (v ∷ vs) → get_elem? vs i ≡ some u → actor_of u ≡ Some n → actor_of v ≢ Some n
alone_first v u vs i n h at e f = let same : 0 ≡ suc i = h 0 (suc i) n v u refl at f e in absurd (omega arith)

-- the view of an actor in the list is the one that the lookup returns
pub writer_at : (g : RingNumbers) (vs : List View) (i : ℕ) (w : WriterView) → Alone vs → get_elem? vs i ≡ some (Writer w) → writer_of g vs ≡ w
writer_at g [] i w h e = absurd (some-ne-none (Writer w) (sym e))
writer_at g (v ∷ vs) zero w h e = ap (λ (u : View). writer_or u (writer_of g vs)) (some-injective v (Writer w) e)
writer_at g (v ∷ vs) (suc i) w h e = writer_skip v (writer_of g vs) (alone_first v (Writer w) vs i 0 h e refl) ∙ writer_at g vs i w (alone_rest v vs h) e

pub reader_at : (g : RingNumbers) (vs : List View) (i : ℕ) (x : ReaderView) → Alone vs → get_elem? vs i ≡ some (Reader x) → reader_of g vs x.number ≡ x
reader_at g [] i x h e = absurd (some-ne-none (Reader x) (sym e))
reader_at g (v ∷ vs) zero x h e =
    ap (λ (u : View). reader_or x.number u (reader_of g vs x.number)) (some-injective v (Reader x) e) ∙ pick_same x.number x.number x (reader_of g vs x.number) refl
reader_at g (v ∷ vs) (suc i) x h e = reader_skip x.number v (reader_of g vs x.number) (alone_first v (Reader x) vs i (x.number + 1) h e refl) ∙ reader_at g vs i x (alone_rest v vs h) e

-- replacing one view by another, neither of this actor, does not change what the lookup returns for it
pub writer_kept : (g : RingNumbers) (vs : List View) (i : ℕ) (a b : View) → get_elem? vs i ≡ some a → actor_of a ≢ Some 0 → actor_of b ≢ Some 0 → writer_of g (set vs i b) ≡ writer_of g vs
writer_kept g [] i a b e n m = refl
writer_kept g (v ∷ vs) zero a b e n m =
    writer_skip b (writer_of g vs) m ∙ sym (ap (λ (u : View). writer_or u (writer_of g vs)) (some-injective v a e) ∙ writer_skip a (writer_of g vs) n)
writer_kept g (v ∷ vs) (suc i) a b e n m = ap (writer_or v) (writer_kept g vs i a b e n m)

pub reader_kept : (g : RingNumbers) (vs : List View) (i r : ℕ) (a b : View) → get_elem? vs i ≡ some a → actor_of a ≢ Some (r + 1) → actor_of b ≢ Some (r + 1) → reader_of g (set vs i b) r ≡ reader_of g vs r
reader_kept g [] i r a b e n m = refl
reader_kept g (v ∷ vs) zero r a b e n m =
    reader_skip r b (reader_of g vs r) m ∙ sym (ap (λ (u : View). reader_or r u (reader_of g vs r)) (some-injective v a e) ∙ reader_skip r a (reader_of g vs r) n)
reader_kept g (v ∷ vs) (suc i) r a b e n m = ap (reader_or r v) (reader_kept g vs i r a b e n m)

-- a view replaced by one of the same actor, or of none
pub alone_set : (vs : List View) (i : ℕ) (a b : View) → Alone vs → get_elem? vs i ≡ some a → ((n : ℕ) → actor_of b ≡ Some n → actor_of a ≡ Some n) → Alone (set vs i b)
alone_set vs i a b h e same j k n u v p q s t = elim (at_set vs i j b u p) [
  | inl x ↦
      let su : actor_of b ≡ Some n = ap actor_of x.1 ∙ s in
      elim (at_set vs i k b v q) [
        | inl y ↦ x.0 ∙ sym y.0
        | inr y ↦ x.0 ∙ h i k n a v e y.1 (same n su) t
      ]
  | inr x ↦ elim (at_set vs i k b v q) [
    | inl y ↦ h j i n u a x.1 e s (same n (ap actor_of y.1 ∙ t)) ∙ sym y.0
    | inr y ↦ h j k n u v x.1 y.1 s t
  ]
]

-- the list with y in the place of its reader's view
pub readers_put : (g : RingNumbers) (vs : List View) (i : ℕ) (x y : ReaderView) (r : ℕ) → Alone vs → get_elem? vs i ≡ some (Reader x) → y.number ≡ x.number → i < length vs
    → reader_of g (set vs i (Reader y)) r ≡ put_reader y (reader_of g vs) r
readers_put g vs i x y r h e n in_list = elim (cases_eq y.number r) [
  | inl is ↦
      let same : (k : ℕ) → actor_of (Reader y) ≡ Some k → actor_of (Reader x) ≡ Some k = λ k f. ap (λ j. Some (j + 1)) (sym n) ∙ f in
      ap (λ k. reader_of g (set vs i (Reader y)) k) (sym is) ∙ (reader_at g (set vs i (Reader y)) i y (alone_set vs i (Reader x) (Reader y) h e same) (set_here vs i (Reader y) in_list) ∙ sym (pick_same y.number r y (reader_of g vs r) is))
  | inr other ↦
      let apart : (z : ReaderView) → z.number ≡ y.number → actor_of (Reader z) ≢ Some (r + 1) = λ z f q. other (let k : z.number + 1 ≡ r + 1 = cc in omega arith) in
      reader_kept g vs i r (Reader x) (Reader y) e (apart x (sym n)) (apart y refl) ∙ sym (pick_other y.number r y (reader_of g vs r) other)
]

-- an element's index is in range
pub at_in : (vs : List View) (i : ℕ) (v : View) → get_elem? vs i ≡ some v → i < length vs
at_in [] i v e = absurd (some-ne-none v (sym e))
at_in (x ∷ vs) zero v e = omega arith
at_in (x ∷ vs) (suc i) v e = let h = at_in vs i v e in omega arith

-- a view appended to the others: of another actor, or a reader's first view
pub writer_more : (g : RingNumbers) (vs : List View) (v : View) → actor_of v ≢ Some 0 → writer_of g (vs ++ v ∷ []) ≡ writer_of g vs
writer_more g [] v n = writer_skip v (writer_of g []) n
writer_more g (u ∷ vs) v n = ap (writer_or u) (writer_more g vs v n)

pub reader_more : (g : RingNumbers) (vs : List View) (v : View) (r : ℕ) → actor_of v ≢ Some (r + 1) → reader_of g (vs ++ v ∷ []) r ≡ reader_of g vs r
reader_more g [] v r n = reader_skip r v (reader_of g [] r) n
reader_more g (u ∷ vs) v r n = ap (reader_or r u) (reader_more g vs v r n)

pub readers_first : (g : RingNumbers) (vs : List View) (m r : ℕ) → reader_of g (vs ++ Reader (new_reader g m) ∷ []) r ≡ reader_of g vs r
readers_first g [] m r = elim (cases_eq m r) [
  | inl is ↦ pick_same m r (new_reader g m) (new_reader g r) is ∙ ap (new_reader g) is
  | inr other ↦ pick_other m r (new_reader g m) (new_reader g r) other
]
readers_first g (u ∷ vs) m r = ap (reader_or r u) (readers_first g vs m r)

-- an element of a list with one appended is in the list or is the appended one
pub at_end : (vs : List View) (a b : View) (j : ℕ) → get_elem? (vs ++ a ∷ []) j ≡ some b → (get_elem? vs j ≡ some b) ⊎ ((j ≡ length vs) × (a ≡ b))
at_end [] a b zero e = inr (refl, some-injective a b e)
at_end [] a b (suc j) e = absurd (some-ne-none b (sym e))
at_end (x ∷ vs) a b zero e = inl e
at_end (x ∷ vs) a b (suc j) e = elim (at_end vs a b j e) [ inl h ↦ inl h | inr h ↦ inr (ap suc h.0, h.1) ]

-- a view appended to the others, of an actor that had none, or of no actor
pub alone_more : (vs : List View) (a : View) → Alone vs → ((n j : ℕ) (v : View) → actor_of a ≡ Some n → get_elem? vs j ≡ some v → actor_of v ≢ Some n) → Alone (vs ++ a ∷ [])
alone_more vs a h fresh i j n u v p q s t = elim (at_end vs a u i p) [
  | inl x ↦ elim (at_end vs a v j q) [
    | inl y ↦ h i j n u v x y s t
    | inr y ↦ absurd (fresh n i u (ap actor_of y.1 ∙ t) x s)
  ]
  | inr x ↦ elim (at_end vs a v j q) [
    | inl y ↦ absurd (fresh n j v (ap actor_of x.1 ∙ s) y t)
    | inr y ↦ x.0 ∙ sym y.0
  ]
]
