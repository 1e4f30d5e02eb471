-- A part of a list of words is a list of words.
use Rattle.std.proofs.Common.{◌≡◌, ℕ, ◌+◌, ◌-◌, ◌<◌, ◌≤◌, ℤ, pos, List, length, slice_range, arith}
use Rattle.std.proofs.lemmas.List.Edits.{get_or-between, length-between}
use Rattle.scr_diffuse.specs.Passes.{AreWords}

pub AreWords-between : (numbers : List ℤ) (i j : ℕ) → j ≤ length numbers → AreWords numbers
    → AreWords (slice_range numbers i j)
AreWords-between numbers i j within words x below =
    let count : length (slice_range numbers i j) ≡ j - i = length-between numbers i j within in
    let room : i + x < j = omega arith in
    rw (get_or-between numbers i j x (pos 0) room) (words (i + x) (omega arith))
