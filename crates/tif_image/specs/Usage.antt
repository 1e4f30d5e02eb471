-- The field values that each use of an image requires (TIFF 6.0, Sections 3, 8 and 16).
use Rattle.std.specs.Prelude.{ℕ, List, [], ◌∷◌}
use Rattle.tif_image.specs.declared.usage.Usage.{Usage}
use Rattle.tif_image.specs.declared.usage.Usage.TheVariants.{Contone, Bilevel}
use Rattle.tif_image.specs.declared.usage.BilevelUse.TheVariants.{Line, Mask}

-- samples per pixel ("SamplesPerPixel")
abbrev pub samples_of : Usage → ℕ
samples_of Contone = 4
samples_of (Bilevel usage) = 1

-- bits per sample ("BitsPerSample")
abbrev pub depth_of : Usage → ℕ
depth_of Contone = 8
depth_of (Bilevel usage) = 1

-- the accepted values of PhotometricInterpretation: 5 for separated inks (Section 16), 0 for WhiteIsZero, 1
-- for BlackIsZero, and 4 for a transparency mask (Section 8)
abbrev pub photometrics_of : Usage → List ℕ
photometrics_of Contone = 5 ∷ []
photometrics_of (Bilevel Line) = 0 ∷ 1 ∷ []
photometrics_of (Bilevel Mask) = 0 ∷ 1 ∷ 4 ∷ []
