-- The row at an offset, for two rows of two packed bytes each: they begin at 8 and 10, and end at 12.
use Rattle.std.proofs.Common.{◌≡◌, [], ◌∷◌, Some, None, refl}
use Rattle.tif_packbits.specs.Packbits.{packing}
use Rattle.plate_bytes.specs.Places.{row_ends, row_holding}

ends : row_ends ((144 ∷ []) ∷ (1 ∷ 1 ∷ 1 ∷ []) ∷ []) ≡ 10 ∷ 12 ∷ []
unfolding packing row_ends
ends = refl

in_front : row_holding ((144 ∷ []) ∷ (1 ∷ 1 ∷ 1 ∷ []) ∷ []) 7 ≡ None
unfolding packing row_holding
in_front = refl

at_first : row_holding ((144 ∷ []) ∷ (1 ∷ 1 ∷ 1 ∷ []) ∷ []) 8 ≡ Some 0
unfolding packing row_holding
at_first = refl

end_of_first : row_holding ((144 ∷ []) ∷ (1 ∷ 1 ∷ 1 ∷ []) ∷ []) 9 ≡ Some 0
unfolding packing row_holding
end_of_first = refl

at_last : row_holding ((144 ∷ []) ∷ (1 ∷ 1 ∷ 1 ∷ []) ∷ []) 11 ≡ Some 1
unfolding packing row_holding
at_last = refl

behind : row_holding ((144 ∷ []) ∷ (1 ∷ 1 ∷ 1 ∷ []) ∷ []) 12 ≡ None
unfolding packing row_holding
behind = refl
