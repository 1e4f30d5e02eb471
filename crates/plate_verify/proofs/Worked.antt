-- Where small files first differ, and each kind of difference for a plate of two rows.
use Rattle.std.proofs.Common.{◌≡◌, [], ◌∷◌, Some, None, refl}
use Rattle.tif_packbits.specs.Packbits.{packing}
use Rattle.plate_bytes.specs.Places.{row_holding}
use Rattle.pr_ports.specs.Difference.{difference_of}
use Rattle.plate_verify.specs.Wrong.{OtherAt, NotHeld, wrong_with}

no_bytes : difference_of [] [] ≡ None
no_bytes = refl

equal : difference_of (1 ∷ 2 ∷ 3 ∷ []) (1 ∷ 2 ∷ 3 ∷ []) ≡ None
equal = refl

in_the_middle : difference_of (1 ∷ 2 ∷ 3 ∷ []) (1 ∷ 7 ∷ 8 ∷ []) ≡ Some 1
in_the_middle = refl

cut_short : difference_of (1 ∷ 2 ∷ 3 ∷ []) (1 ∷ 2 ∷ []) ≡ Some 2
cut_short = refl

nothing_held : difference_of (1 ∷ 2 ∷ 3 ∷ []) [] ≡ Some 0
nothing_held = refl

one_too_many : difference_of (1 ∷ 2 ∷ []) (1 ∷ 2 ∷ 3 ∷ []) ≡ Some 2
one_too_many = refl

-- a file of 14 bytes whose two packed rows are at offsets 8 and 10
right : wrong_with (1 ∷ [], 0 ∷ 1 ∷ 2 ∷ 3 ∷ 4 ∷ 5 ∷ 6 ∷ 7 ∷ 0 ∷ 144 ∷ 254 ∷ 1 ∷ 8 ∷ 9 ∷ []) ((144 ∷ []) ∷ (1 ∷ 1 ∷ 1 ∷ []) ∷ [])
    (Some (0 ∷ 1 ∷ 2 ∷ 3 ∷ 4 ∷ 5 ∷ 6 ∷ 7 ∷ 0 ∷ 144 ∷ 254 ∷ 1 ∷ 8 ∷ 9 ∷ [])) ≡ None
right = refl

in_second_row : wrong_with (1 ∷ [], 0 ∷ 1 ∷ 2 ∷ 3 ∷ 4 ∷ 5 ∷ 6 ∷ 7 ∷ 0 ∷ 144 ∷ 254 ∷ 1 ∷ 8 ∷ 9 ∷ []) ((144 ∷ []) ∷ (1 ∷ 1 ∷ 1 ∷ []) ∷ [])
    (Some (0 ∷ 1 ∷ 2 ∷ 3 ∷ 4 ∷ 5 ∷ 6 ∷ 7 ∷ 0 ∷ 144 ∷ 254 ∷ 7 ∷ 8 ∷ 9 ∷ [])) ≡ Some (OtherAt (1 ∷ []) 11 (Some 1))
unfolding packing row_holding
in_second_row = refl

-- the row is that of the right plate, also if the held file ends earlier
cut_in_first_row : wrong_with (1 ∷ [], 0 ∷ 1 ∷ 2 ∷ 3 ∷ 4 ∷ 5 ∷ 6 ∷ 7 ∷ 0 ∷ 144 ∷ 254 ∷ 1 ∷ 8 ∷ 9 ∷ []) ((144 ∷ []) ∷ (1 ∷ 1 ∷ 1 ∷ []) ∷ [])
    (Some (0 ∷ 1 ∷ 2 ∷ 3 ∷ 4 ∷ 5 ∷ 6 ∷ 7 ∷ 0 ∷ [])) ≡ Some (OtherAt (1 ∷ []) 9 (Some 0))
unfolding packing row_holding
cut_in_first_row = refl

behind_the_rows : wrong_with (1 ∷ [], 0 ∷ 1 ∷ 2 ∷ 3 ∷ 4 ∷ 5 ∷ 6 ∷ 7 ∷ 0 ∷ 144 ∷ 254 ∷ 1 ∷ 8 ∷ 9 ∷ []) ((144 ∷ []) ∷ (1 ∷ 1 ∷ 1 ∷ []) ∷ [])
    (Some (0 ∷ 1 ∷ 2 ∷ 3 ∷ 4 ∷ 5 ∷ 6 ∷ 7 ∷ 0 ∷ 144 ∷ 254 ∷ 1 ∷ 8 ∷ [])) ≡ Some (OtherAt (1 ∷ []) 13 None)
unfolding packing row_holding
behind_the_rows = refl

not_held : wrong_with (1 ∷ [], 0 ∷ []) [] None ≡ Some (NotHeld (1 ∷ []))
not_held = refl
