-- Words as cursors, and the rows that a reader took.
use Rattle.std.proofs.Common.{◌≡◌, ◌≢◌, ℕ, ◌+◌, zero, suc, true, false, cond, [], ◌∷◌, ◌++◌, ◌||◌, ◌&&◌, Bool, length, refl, arith, length-append, sym, ap, ◌∙◌, inl, inr, add-one}
use Rattle.std.specs.Prelude.{Option, Some, None}
use Rattle.std.proofs.lemmas.Bool.{cases_eq}
use Rattle.ring_rule.specs.declared.view.ReaderView.{ReaderView}
use Rattle.ring_rule.specs.Views.{left_word, cursor_in, word_of, up_to}
use Rattle.ring_rule.proofs.Roster.{pick_same, pick_other}

-- the word of a row number shows that number
pub cursor_some : (n : ℕ) → n ≢ left_word → cursor_in n ≡ Some n
cursor_some n h = let none : Option ℕ = None in pick_other n left_word none (Some n) h

pub cursor_none : (n : ℕ) → n ≡ left_word → cursor_in n ≡ None
cursor_none n h = let none : Option ℕ = None in pick_same n left_word none (Some n) h

-- a number that a word shows is the word itself
pub cursor_is_word : (n k : ℕ) → cursor_in n ≡ Some k → n ≡ k
cursor_is_word n k e = elim (cases_eq n left_word) [
  | inl is ↦ let f : None ≡ Some k = sym (cursor_none n is) ∙ e in cc
  | inr other ↦ let f : Some n ≡ Some k = sym (cursor_some n other) ∙ e in cc
]

-- the word of a joined reader is the number of rows that it took
pub word_joined : (x : ReaderView) → x.left ≡ false → word_of x ≡ x.taken
word_joined x e = ap (λ t. cond t left_word x.taken) e

pub word_left : (x : ReaderView) → x.left ≡ true → word_of x ≡ left_word
word_left x e = ap (λ t. cond t left_word x.taken) e

-- one more row taken
pub up_to_more : (n : ℕ) → up_to (n + 1) ≡ up_to n ++ n ∷ []
up_to_more n = ap up_to (add-one n)

pub length_up : (n : ℕ) → length (up_to n) ≡ n
length_up zero = refl
length_up (suc n) = omega (arith, length-append (up_to n) (n ∷ []), length_up n)

pub or_true : (b : Bool) → (b || true) ≡ true
or_true true = refl
or_true false = refl

pub or_false : (b : Bool) → (b || false) ≡ b
or_false true = refl
or_false false = refl

pub and_false : (b : Bool) → (b && false) ≡ false
and_false true = refl
and_false false = refl
