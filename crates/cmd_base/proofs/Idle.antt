-- State of racks that have no begun slot.
use Rattle.std.proofs.Common.{◌≡◌, ◌≤◌, ◌<◌, ◌⊎◌, ℕ, List, length, Some, None, option_map, sym, ap, ◌∙◌, inl, inr}
use Rattle.std.specs.Prelude.{slice_get, slice_index_or}
use Rattle.std.proofs.lemmas.Option.{same_Some, slice_get-map, slice_get_cases}
use Rattle.pr_rack.specs.Rack.{none_begun}
use Rattle.pr_rack.specs.declared.rack.Rack.{Ghosts}
use Rattle.pr_rack.specs.Told.{RackTells, all_told, told}
use Rattle.cmd_base.specs.Seen.{AreIdle}

-- where no rack has a begun slot, the state read from any rack shows none
pub idle_at : {R : Type 0} (g : Ghosts R) (racks : List R) (site : ℕ) (tells : RackTells) → AreIdle g racks
    → slice_get (all_told g racks) site ≡ Some tells → tells.tells.begun ≡ none_begun
idle_at {R} g racks site tells idle at = by (slice_get_cases racks site).1 where
  by : ((rack : R) × (site < length racks) × (slice_get racks site ≡ Some rack) × (slice_index_or racks site rack ≡ rack))
      ⊎ ((length racks ≤ site) × (slice_get racks site ≡ None))
      → tells.tells.begun ≡ none_begun
  by (inl (rack, less, is, got)) =
      let both : Some (told g rack) ≡ Some tells =
      ap (option_map (told g)) (sym is) ∙ sym (slice_get-map (told g) racks site) ∙ at in
      let same : told g rack ≡ tells = same_Some _ _ both in
      ap (λ (t : RackTells). t.tells.begun) (sym same) ∙ sym (ap g.begun got) ∙ idle site rack less
  by (inr (past, none)) =
      let e : None ≡ Some tells = ap (option_map (told g)) (sym none) ∙ sym (slice_get-map (told g) racks site) ∙ at in
      absurd cc
