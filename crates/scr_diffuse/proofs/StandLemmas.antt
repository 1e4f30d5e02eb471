-- The errors that a diffuser keeps: at the start, and after a row.
use Rattle.std.proofs.Common.{◌≡◌, ℕ, zero, suc, ◌+◌, ◌-◌, ◌≤◌, ℤ, pos, List, [], ◌∷◌, ◌++◌, length, take, drop, get_or, refl, ap, sym, ◌∙◌, arith, add-one}
use Rattle.std.proofs.lemmas.List.{append-nil, length-append}
use Rattle.std.proofs.lemmas.List.Concat.{flat_map-append}
use Rattle.std.proofs.Math.Path.{fun_ext}
use Rattle.std.proofs.Math.Seq.{take-append_seam}
use Rattle.scr_diffuse.specs.Diffuser.{StandBelow, joined}
use Rattle.scr_diffuse.specs.Diffusion.{error_above, error_left, left_of, v_at, v_below}
use Rattle.scr_diffuse.specs.Passes.{errors_in, number_at}
use Rattle.scr_diffuse.proofs.DiffusionLemmas.{error-margin, error-outside, error_above-put, error_left-small, none-small, v_at-put}
use Rattle.scr_diffuse.proofs.StepLemmas.{left-next}

-- one more step
pub joined_more : (steps all : List (List (List ℕ))) (rows : List (List ℕ)) → all ≡ steps ++ rows ∷ []
    → joined all ≡ joined steps ++ rows
joined_more steps all rows more = ap joined more ∙ flat_map-append (λ r. r) steps (rows ∷ []) ∙ ap (λ last. joined steps ++ last) (append-nil rows)

-- above the first row all errors are 0
pub nothing_above : (k : ℕ) → left_of (λ x. error_above [] x 0) k ≡ pos 0
unfolding error_above
nothing_above zero = refl
nothing_above (suc k) = refl

pub stand_at_start : (rows : List (List ℕ)) (errors : List ℤ) (n : ℕ) → rows ≡ [] → length errors ≡ n + 2
    → ((k : ℕ) → number_at errors k ≡ pos 0) → StandBelow rows errors
stand_at_start rows errors n none size zeros = rw none (record {
  room = (n, size);
  below = record { margined = λ k. zeros k ∙ sym (nothing_above k); small = λ k. rw (zeros k) none-small };
  right = zeros (length errors - 1);
})

-- the errors of the list are those above the next row
pub above_is : (rows : List (List ℕ)) (errors : List ℤ) → StandBelow rows errors
    → errors_in errors ≡ (λ x. error_above rows x (length rows))
above_is rows errors stand = fun_ext (λ k. stand.below.margined (k + 1) ∙ left-next (λ x. error_above rows x (length rows)) k)

next_margined : (rows : List (List ℕ)) (values : List ℕ) (errors new : List ℤ) → StandBelow rows errors
    → ((k : ℕ) → number_at new k ≡ error_left (errors_in errors) values k)
    → (k : ℕ)
    → number_at new k ≡ left_of (λ x. error_above (rows ++ values ∷ []) x (length (rows ++ values ∷ []))) k
next_margined rows values errors new stand made zero = made 0 ∙ error-margin (errors_in errors) values
next_margined rows values errors new stand made (suc x) =
    let count : length (rows ++ values ∷ []) ≡ length rows + 1 = omega (arith, length-append rows (values ∷ [])) in
    made (suc x) ∙ ap (λ (f : ℕ → ℤ). error_left f values (suc x)) (above_is rows errors stand)
    ∙ ap (error_left (λ k. error_above rows k (length rows)) values) (sym (add-one x))
    ∙ sym (error_above-put rows values x) ∙ ap (error_above (rows ++ values ∷ []) x) (sym count)

-- after a row
pub stand_next : (rows all : List (List ℕ)) (values : List ℕ) (errors new : List ℤ) → StandBelow rows errors
    → all ≡ rows ++ values ∷ [] → length errors ≡ length values + 2 → length new ≡ length errors
    → ((k : ℕ) → get_or values k 0 ≤ 255)
    → ((k : ℕ) → number_at new k ≡ error_left (errors_in errors) values k) → StandBelow all new
stand_next rows all values errors new stand more size same bytes made =
    let end : length new - 1 ≡ suc (length values) = omega arith in
    rw more (record {
      room = (stand.room.0, same ∙ stand.room.1);
      below = record {
        margined = next_margined rows values errors new stand made;
        small = λ k. rw (made k) (error_left-small (errors_in errors) values (λ j. stand.below.small (j + 1)) bytes k);
      };
      right = ap (number_at new) end ∙ made (suc (length values)) ∙ error-outside (errors_in errors) values (length values) (omega arith);
    })

-- the numbers v of the next row
pub v_next : (rows : List (List ℕ)) (values : List ℕ) (errors : List ℤ) (x : ℕ) → StandBelow rows errors
    → v_below (errors_in errors) values x ≡ v_at (rows ++ values ∷ []) x (length rows)
v_next rows values errors x stand = ap (λ (f : ℕ → ℤ). v_below f values x) (above_is rows errors stand) ∙ sym (v_at-put rows values x)

-- a list that was lent whole, and comes back
pub lent_whole : {A : Type 0} (n : ℕ) (new old : List A) → n ≡ length new
    → take n (new ++ drop (length new) old) ≡ new
lent_whole n new old whole = rw whole (take-append_seam new (drop (length new) old))
