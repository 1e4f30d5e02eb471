-- Consecutive pieces taken by a sink, combined.
use Rattle.std.proofs.Common.{◌≡◌, ◌⊎◌, ℕ, Bool, true, false, inl, inr, refl, List, [], ◌++◌, length, take, Option, Some, None, Result, Ok, Err, OnOk, OnErr, ap, sym, ◌∙◌, append_assoc, subst}
use Rattle.std.proofs.Math.Seq.{take-append_seam}
use Rattle.std.proofs.lemmas.List.{append-nil}
use Rattle.pr_base.specs.Count.{count_after}
use Rattle.pr_ports.specs.Sink.{Grew, GrewByPrefix, has_failed}
use Rattle.pr_ports.specs.declared.sink.SinkFault.{SinkFault}
use Rattle.cmd_base.specs.Note.{GrewByTwo}

-- two consecutive pieces
pub grew_then : (a b c : Option (List ℕ)) (s t : List ℕ) → Grew a b s → Grew b c t → Grew a c (s ++ t)
grew_then None b c s t e f = tt
grew_then (Some given) b c s t e f = (rw e at f) ∙ ap Some (append_assoc given s t)

-- nothing was taken
pub grew_nothing : (a b : Option (List ℕ)) → b ≡ a → Grew a b []
grew_nothing None b e = tt
grew_nothing (Some given) b e = e ∙ ap Some (sym (append-nil given))

-- what was taken is a prefix of the whole
pub front_of : (a b : Option (List ℕ)) (front rest whole : List ℕ) → front ++ rest ≡ whole → Grew a b front → GrewByPrefix a b whole
front_of a b front rest whole e h =
    (length front, let P : List ℕ → Type 0 = λ l. Grew a b l in subst P (sym (ap (take (length front)) (sym e) ∙ take-append_seam front rest)) h)

-- a put appends a prefix of its text, whatever it returns
pub put_front : (result : Result (Unit {0}) SinkFault) (a b : Option (List ℕ)) (text : List ℕ) → OnOk result (Grew a b text) → OnErr result (GrewByPrefix a b text) → GrewByPrefix a b text
put_front (Ok done) a b text h k = front_of a b text [] text (append-nil text) h
put_front (Err fault) a b text h k = k

-- a prefix of the second text alone
pub second_front : (a b : Option (List ℕ)) (first second : List ℕ) → GrewByPrefix a b second → GrewByTwo a b first second
second_front a b first second (n, h) = (0, n, h)

-- a prefix of the first text, then one of the second
pub both_fronts : (a b c : Option (List ℕ)) (first second : List ℕ) → GrewByPrefix a b first → GrewByPrefix b c second → GrewByTwo a c first second
both_fronts a b c first second (n, h) (m, k) = (n, m, grew_then a b c (take n first) (take m second) h k)

-- one put counts at most one failure
pub put_once : (result : Result (Unit {0}) SinkFault) (a b : ℕ) → (has_failed result ≡ true → b ≡ count_after a)
    → (has_failed result ≡ false → b ≡ a) → (b ≡ a) ⊎ (b ≡ count_after a)
put_once result a b failed other = by (has_failed result) failed other where
  by : (failed : Bool) → (failed ≡ true → b ≡ count_after a) → (failed ≡ false → b ≡ a) → (b ≡ a) ⊎ (b ≡ count_after a)
  by true h k = inr (h refl)
  by false h k = inl (k refl)

-- the same behind a put that counted none
pub once_behind : (a b c : ℕ) → b ≡ a → (c ≡ b) ⊎ (c ≡ count_after b) → (c ≡ a) ⊎ (c ≡ count_after a)
once_behind a b c same h = let P : ℕ → Type 0 = λ n. (c ≡ n) ⊎ (c ≡ count_after n) in subst P same h
