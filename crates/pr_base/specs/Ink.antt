-- The five inks: their order and their letters.
use Rattle.std.specs.Prelude.{ℕ, List, [], ◌∷◌, codes}
use Rattle.pr_base.specs.declared.ink.Ink.{Ink}
use Rattle.pr_base.specs.declared.ink.Ink.TheVariants.{C, M, Y, K, S}

-- all inks: the samples of a CMYK pixel in order (TIFF 6.0, Section 16), then the spot ink
abbrev pub all_inks : List Ink
all_inks = C ∷ M ∷ Y ∷ K ∷ S ∷ []

-- the index of an ink in that list
abbrev pub slot_of : Ink → ℕ
slot_of C = 0
slot_of M = 1
slot_of Y = 2
slot_of K = 3
slot_of S = 4

-- the letter of an ink
abbrev pub letter_of : Ink → List ℕ
letter_of C = codes "C"
letter_of M = codes "M"
letter_of Y = codes "Y"
letter_of K = codes "K"
letter_of S = codes "S"
