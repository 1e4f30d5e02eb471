-- The row of the tests' deck.
use Rattle.std.proofs.Common.{◌≡◌, ℕ, zero, suc, List, [], ◌∷◌, length, arith}
use Rattle.std.specs.List.{All}
use Rattle.tif_packbits.specs.Frame.{frame_of}
use Rattle.tif_packbits.proofs.Frames.{length-frame_of}

-- in a list of one row, each row has that row's length
pub each_long : (frame : List ℕ) (n : ℕ) → length frame ≡ n → All (λ row. length row ≡ n) (frame ∷ [])
each_long frame n long zero d within = long
each_long frame n long (suc k) d within = absurd (omega arith)

-- it is five bytes long
pub five_long : length (frame_of (171 ∷ 0 ∷ [])) ≡ 5
five_long = length-frame_of (171 ∷ 0 ∷ [])
