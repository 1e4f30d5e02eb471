-- The inks of a group, and whether a site belongs to it.
use Rattle.std.specs.Prelude.{ℕ, ◌/◌, ◌%◌, ◌^◌, Bool, true, false, ◌==◌, List, [], ◌∷◌, ◌++◌, length}
use Rattle.std.specs.Prelude.{count_by, nat_lt}
use Rattle.std.specs.List.{list_any}
use Rattle.pr_base.specs.declared.ink.Ink.{Ink}
use Rattle.pr_base.specs.declared.ink.Ink.TheVariants.{C, M, Y, K, S}
use Rattle.pr_base.specs.Ink.{slot_of}
use Rattle.plan_rows.specs.declared.group.Group.{Group}

-- the process inks of a plate, by whether it prints colour
abbrev pub process_inks : Bool → List Ink
process_inks true = C ∷ M ∷ Y ∷ K ∷ []
process_inks false = K ∷ []

-- the spot ink, if a plate prints it
abbrev pub spot_inks : Bool → List Ink
spot_inks true = S ∷ []
spot_inks false = []

-- the inks of a group in order
abbrev pub inks_of : Group → List Ink
inks_of group = process_inks group.colour ++ spot_inks group.spot

abbrev pub ink_count : Group → ℕ
ink_count group = length (inks_of group)

-- how many of the group's inks come before this one
abbrev pub ink_place : Group → Ink → ℕ
ink_place group ink = count_by (λ other. nat_lt (slot_of other) (slot_of ink)) (inks_of group)

-- whether the plates of a group print an ink
abbrev pub has_ink : Group → Ink → Bool
has_ink group ink = list_any (λ other. slot_of other == slot_of ink) (inks_of group)

-- whether a site belongs to the group: bit i for site i
abbrev pub has_site : Group → ℕ → Bool
has_site group site = group.sites / 2 ^ site % 2 == 1
