-- The effect on all slots of a change to one slot.
use Rattle.std.proofs.Common.{◌≡◌, ℕ, ◌<◌, Bool, true, false, List, ◌++◌, Option, Some, None, is_some, length, map, slice_get, slice_index_or, slice_set, ap, sym, ◌∙◌, arith}
use Rattle.std.specs.Option.{option_map}
use Rattle.std.proofs.lemmas.List.{length-set, map-set, set-get_or, set-set}
use Rattle.std.proofs.lemmas.Option.{get_or_from_slice_get, slice_get_within}
use Rattle.std.proofs.Math.Seq.{map-set_same}
use Rattle.pr_rack.specs.Rack.{Plate, Slots, OthersBegun, OthersStand, with_bytes}

module _ (slots new : Slots) (slot : ℕ) (plate : Option Plate) (e : new ≡ slice_set slots slot plate) where
  -- which slots are begun after this was put into one
  pub begun_set : map is_some new ≡ slice_set (map is_some slots) slot (is_some plate)
  begun_set = ap (map is_some) e ∙ map-set is_some slots slot plate

  -- whether each other slot is begun is unchanged
  pub others_begun : OthersBegun slot (map is_some slots) (map is_some new)
  others_begun = ap (λ l. slice_set l slot false) begun_set ∙ set-set (map is_some slots) slot (is_some plate) false

  -- the other slots are unchanged
  pub others_stand : OthersStand slot (Some slots) (Some new)
  others_stand = ap Some (ap (λ l. slice_set l slot None) e ∙ set-set slots slot plate None)

-- a plate was taken out of its slot and put back with more bytes
module _ (slots out new : Slots) (slot : ℕ) (old : Plate) (more all : List ℕ) (stood : slice_index_or slots slot None ≡ Some old)
    (out_is : out ≡ slice_set slots slot None) (new_is : new ≡ slice_set out slot (Some (old.0, all))) (all_is : all ≡ old.1 ++ more) where
  back : new ≡ slice_set slots slot (Some (old.0, all))
  back = new_is ∙ ap (λ l. slice_set l slot (Some (old.0, all))) out_is ∙ set-set slots slot None (Some (old.0, all))

  -- the plate has these bytes at its end
  pub put_back : new ≡ slice_set slots slot (option_map (with_bytes more) (slice_index_or slots slot None))
  put_back =
      let plate : Some (old.0, all) ≡ option_map (with_bytes more) (slice_index_or slots slot None) =
      ap (λ bytes. Some (old.0, bytes)) all_is ∙ sym (ap (option_map (with_bytes more)) stood) in
      back ∙ ap (slice_set slots slot) plate

  -- its slot is still begun
  pub still_begun : map is_some new ≡ map is_some slots
  still_begun = ap (map is_some) back ∙ map-set_same is_some slots slot (Some (old.0, all)) None (ap is_some (sym stood))

-- the file of a begun slot was taken out of it
module _ (before old out : List Bool) (slot : ℕ) (same : before ≡ old) (begun : slice_get old slot ≡ Some true) (out_is : out ≡ slice_set before slot false) where
  out_of : out ≡ slice_set old slot false
  out_of = out_is ∙ ap (λ slots. slice_set slots slot false) same

  -- the other slots are unchanged
  pub others_open : OthersBegun slot old out
  others_open = ap (λ l. slice_set l slot false) out_of ∙ set-set old slot false false

  -- the slot is one of the rack's
  pub slot_within : slot < length out
  slot_within =
      let within : slot < length old = slice_get_within old slot true begun in
      let long : length out ≡ length old = ap {B = ℕ} length out_of ∙ length-set old slot false in
      omega arith

  -- putting a file back into the slot restores which slots are begun
  pub open_again : (new : List Bool) → new ≡ slice_set out slot true → new ≡ old
  open_again new new_is =
      let stood : true ≡ slice_index_or old slot true = sym (get_or_from_slice_get old slot true true begun) in
      new_is ∙ ap (λ l. slice_set l slot true) out_of ∙ set-set old slot false true ∙ ap (slice_set old slot) stood ∙ set-get_or old slot true
