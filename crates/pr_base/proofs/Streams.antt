-- Bytes accepted by a writer, accumulated over calls.
use Rattle.std.proofs.Common.{◌≡◌, ℕ, List, ◌++◌, length, take, drop, Option, ap, sym, ◌∙◌, append_assoc, subst}
use Rattle.std.specs.Io.KnownBytes.{Keeps, Appends}
use Rattle.std.proofs.KnownBytes.{Appends-trans, Appends-kept}
use Rattle.std.proofs.Math.Seq.{take-append_seam}
use Rattle.std.proofs.lemmas.List.{take-append-drop}
use Rattle.pr_base.specs.Stream.{AppendsFront}

-- the writer has accepted all bytes before the rest
pub record HasPassed (old new : Option (List ℕ)) (all rest : List ℕ) : Type 0 where
  pub front : List ℕ
  pub whole : front ++ rest ≡ all
  pub taken : Appends old new front

-- the writer accepts some more of the rest
pub passed_more : {old mid : Option (List ℕ)} {all rest : List ℕ} (new : Option (List ℕ)) (count : ℕ) (behind : List ℕ) → behind ≡ drop count rest →
    HasPassed old mid all rest → Appends mid new (take count rest) → HasPassed old new all behind
passed_more {old} {mid} {all} {rest} new count behind is passed more = record {
  front = passed.front ++ take count rest;
  whole = append_assoc passed.front (take count rest) behind
      ∙ ap (λ l. passed.front ++ l) (ap (λ l. take count rest ++ l) is ∙ take-append-drop count rest) ∙ passed.whole;
  taken = Appends-trans old mid new passed.front (take count rest) passed.taken more;
}

-- a writer that accepts no more has accepted a prefix of all
pub passed_front : {old mid : Option (List ℕ)} {all rest : List ℕ} (new : Option (List ℕ)) → HasPassed old mid all rest → Keeps mid new → AppendsFront old new all
passed_front {old} {mid} {all} {rest} new passed kept = (
  length passed.front,
  let P : List ℕ → Type 0 = λ l. Appends old new l in
      subst P (sym (ap (take (length passed.front)) (sym passed.whole) ∙ take-append_seam passed.front rest)) (Appends-kept old mid new passed.front passed.taken kept),
)
