-- The planes of a strip, and pixels interleaved from four of them.
use Rattle.std.specs.Prelude.{◌≡◌, ℕ, ◌+◌, ◌*◌, ◌<◌, ◌≤◌, List, [], ◌∷◌, drop, length, map, take, slice_index}
use Rattle.std.specs.Prelude.{slice_index_or}
use Rattle.std.specs.List.{range_with_len}
use Rattle.tif_strips.specs.declared.planes.Inks.{Inks}
use Rattle.tif_strips.specs.declared.planes.Planes.{Planes}
use Rattle.tif_strips.specs.declared.planes.Planes.TheVariants.{One, Four}
use Rattle.tif_strips.specs.declared.samples.PackedSamples.{PackedSamples}
use Rattle.tif_strips.specs.declared.samples.Samples.{Samples}
use Rattle.tif_strips.specs.declared.samples.Samples.TheVariants.{Plain, Packed}
use Rattle.tif_strips.specs.declared.shape.Shape.{Shape}
use Rattle.tif_strips.specs.Strips.{planes, samples_in, stored_bytes, strips_per_plane}

-- the samples still to come of packed ones
abbrev pub packed_ahead : PackedSamples → List ℕ
packed_ahead samples = drop samples.skipped samples.unpacker

-- the samples still to come
abbrev pub ahead_of : Samples → List ℕ
ahead_of (Plain stored) = stored.now
ahead_of (Packed samples) = packed_ahead samples

-- the samples still to come of each ink
abbrev pub inks_of : Inks → List (List ℕ)
inks_of inks = ahead_of inks.cyan ∷ ahead_of inks.magenta ∷ ahead_of inks.yellow ∷ ahead_of inks.black ∷ []

-- the samples still to come of each plane
abbrev pub aheads_of : Planes → List (List ℕ)
aheads_of (One samples) = ahead_of samples ∷ []
aheads_of (Four inks) = inks_of inks

-- the samples of strip i of each plane
abbrev pub strip_samples : Shape → List ℕ → ℕ → List (List ℕ)
strip_samples shape bytes i =
    map
    (λ plane. samples_in shape.packed (stored_bytes shape bytes (plane * strips_per_plane shape + i)))
    (range_with_len 0 (planes shape))

-- the first count pixels of a row have the samples of these inks
pub record HasPixels (inks : List (List ℕ)) (count : ℕ) (into : List ℕ) : Type 0 where
  pub each : (x ink : ℕ) → x < count → ink < 4
      → slice_index into (4 * x + ink) ≡ slice_index (slice_index_or inks ink []) x

-- from byte from on, a row of a plane has the samples that each ink's slice holds
pub record FitInks (row from : ℕ) (c m y k : List ℕ) : Type 0 where
  pub cyan : from + length c ≤ row
  pub magenta : from + length m ≤ row
  pub yellow : from + length y ≤ row
  pub black : from + length k ≤ row

-- the slices, of which these are the values before and after, hold the samples of their inks from byte from
-- on
pub record TakeInks (inks : List (List ℕ)) (from : ℕ)
    (c m y k cyan magenta yellow black : List ℕ) : Type 0 where
  pub cyan_is : cyan ≡ take (length c) (drop from (slice_index_or inks 0 []))
  pub magenta_is : magenta ≡ take (length m) (drop from (slice_index_or inks 1 []))
  pub yellow_is : yellow ≡ take (length y) (drop from (slice_index_or inks 2 []))
  pub black_is : black ≡ take (length k) (drop from (slice_index_or inks 3 []))
