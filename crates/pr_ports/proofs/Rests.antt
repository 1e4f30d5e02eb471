-- A file whose first bytes are alike, and what was loaded behind them.
use Rattle.std.proofs.Common.{◌≡◌, ℕ, ◌+◌, ◌<◌, ◌≤◌, List, [], ◌++◌, length, take, drop, Option, None, Some, ap, sym, ◌∙◌, ⊎_elim, arith}
use Rattle.std.specs.Prelude.{IfSome}
use Rattle.std.specs.Option.{option_map}
use Rattle.std.proofs.lemmas.Bool.{cases_lt}
use Rattle.std.proofs.lemmas.List.{length-take-le, take-take, take_all}
use Rattle.pr_ports.specs.Difference.{difference_of}
use Rattle.pr_ports.specs.Offset.{HasFront}
use Rattle.pr_ports.proofs.Differences.{difference-behind}

-- a list has as many bytes as one takes of it
long_as : (n : ℕ) (all : List ℕ) → length (take n all) ≡ n → n ≤ length all
long_as n all is =
    ⊎_elim
    (λ (short : length all < n). let whole = ap length (take_all n all (omega arith)) in omega (arith, whole, is, short))
    (λ (long : n ≤ length all). long)
    (cases_lt (length all) n)

-- a front within a front of a list is the list's
front_within : (n most : ℕ) (all : List ℕ) → n ≤ length (take most all) → take n (take most all) ≡ take n all
front_within n most all within =
    ⊎_elim
    (λ (short : length all < most). ap (take n) (take_all most all (omega arith)))
    (λ (long : most ≤ length all). let whole = length-take-le most all long in take-take n most all (omega (arith, whole, within)))
    (cases_lt (length all) most)

short_within : (n most : ℕ) (all : List ℕ) → n ≤ length (take most all) → n ≤ length all
short_within n most all within =
    ⊎_elim
    (λ (short : length all < most). let whole = ap length (take_all most all (omega arith)) in omega (arith, whole, within))
    (λ (long : most ≤ length all). let whole = length-take-le most all long in omega (arith, whole, within, long))
    (cases_lt (length all) most)

-- a file differs from bytes where what comes behind the bytes that are alike does
pub rest_compared : (whole : Option (List ℕ)) (bytes rest left : List ℕ) (alike most : ℕ) (at : Option ℕ)
    → alike ≤ length (take most bytes) → HasFront whole 0 (take most bytes) alike
    → IfSome (option_map (λ (all : List ℕ). drop alike all) whole) (λ l. [] ++ l ≡ rest) → left ≡ rest
    → at ≡ option_map (λ k. alike + k) (difference_of (drop alike bytes) left)
    → IfSome whole (λ all. at ≡ difference_of bytes all)
rest_compared None bytes rest left alike most at within front is same found = tt
rest_compared (Some all) bytes rest left alike most at within front is same found =
    let equal : take alike bytes ≡ take alike all = sym (front_within alike most bytes within) ∙ front in
    let short : alike ≤ length bytes = short_within alike most bytes within in
    let long : alike ≤ length all = long_as alike all (ap length (sym equal) ∙ length-take-le alike bytes short) in
    found ∙ ap (λ (l : List ℕ). option_map (λ k. alike + k) (difference_of (drop alike bytes) l)) (same ∙ sym is) ∙ sym (difference-behind bytes all alike short long equal)
