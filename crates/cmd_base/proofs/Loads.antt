-- The loads of a call that follows another.
use Rattle.std.proofs.Common.{◌≡◌, Bool, false, Result, Ok, Err, sym, subst, ◌∙◌}
use Rattle.std.specs.Prelude.{IsErrAnd}
use Rattle.pr_ports.specs.declared.shelf.Shelf.{Ghosts}
use Rattle.cmd_base.specs.declared.refusal.Refusal.{Refusal}
use Rattle.cmd_base.specs.declared.refusal.Refusal.TheVariants.{Words, LongPlan, Plan, File, Shelf}
use Rattle.cmd_base.specs.declared.refusal.Stop.{Stop}
use Rattle.cmd_base.specs.declared.refusal.Stop.TheVariants as stop
use Rattle.cmd_base.specs.Loads.{AllLoaded, Lengths, Loads, NoneLong, StopLengths, UnlessLong, refused_load}
use Rattle.cmd_base.specs.Seen.{ShelfSeen, shelf_seen}

module _ {H : Type 0} (g : Ghosts H) (a b c : H) where
  -- none failed in either call, so none failed in both together
  pub all_behind : AllLoaded (shelf_seen g a b) → AllLoaded (shelf_seen g b c) → AllLoaded (shelf_seen g a c)
  all_behind before here = record { missed = here.missed ∙ before.missed; faults = here.faults ∙ before.faults }

  -- none failed in the first call, nor in the second if `failed` is false
  pub loads_behind : (failed : Bool) → AllLoaded (shelf_seen g a b) → (failed ≡ false → AllLoaded (shelf_seen g b c))
      → failed ≡ false → AllLoaded (shelf_seen g a c)
  loads_behind failed before here done = all_behind before (here done)

-- ---- a stop that is handed on as it came

pub handed : {T : Type 0} (F : Result T Stop → Type 0) (result : Result T Stop) (why : Stop) → IsErrAnd result (λ it. it ≡ why) → F (Err why) → F result
handed F (Ok value) why is holds = absurd is
handed F (Err it) why is holds = subst (λ stop. F (Err stop)) (sym is) holds

pub loads_on : {T : Type 0} (shelf : ShelfSeen) (result : Result T Stop) (why : Stop) → IsErrAnd result (λ it. it ≡ why)
    → (refused_load why ≡ false → AllLoaded shelf) → Loads shelf result
loads_on shelf = handed (Loads shelf)

pub lengths_on : {T : Type 0} (shelf : ShelfSeen) (result : Result T Stop) (why : Stop) → IsErrAnd result (λ it. it ≡ why)
    → StopLengths shelf why → Lengths shelf result
lengths_on shelf = handed (Lengths shelf)

-- ---- counts

-- no file was counted as too long before this result
pub none_lengths : {T : Type 0} (shelf : ShelfSeen) (result : Result T Stop) → NoneLong shelf → Lengths shelf result
none_lengths shelf (Ok value) none = none
none_lengths shelf (Err (stop.Refused Words)) none = none
none_lengths shelf (Err (stop.Refused (LongPlan whose))) none = tt
none_lengths shelf (Err (stop.Refused (Plan whose fault))) none = none
none_lengths shelf (Err (stop.Refused (File whose fault))) none = λ other. none
none_lengths shelf (Err (stop.Refused (Shelf path))) none = none
none_lengths shelf (Err stop.Memory) none = none
none_lengths shelf (Err stop.Printing) none = none

module _ {H : Type 0} (g : Ghosts H) (a b c : H) where
  -- none was counted in the first call, nor in the second unless it was refused so
  unless_behind : (refusal : Refusal) → NoneLong (shelf_seen g a b) → UnlessLong refusal (NoneLong (shelf_seen g b c))
      → UnlessLong refusal (NoneLong (shelf_seen g a c))
  unless_behind Words before here = here ∙ before
  unless_behind (LongPlan whose) before here = tt
  unless_behind (Plan whose fault) before here = here ∙ before
  unless_behind (File whose fault) before here = λ other. here other ∙ before
  unless_behind (Shelf path) before here = here ∙ before

  pub lengths_behind : (why : Stop) → NoneLong (shelf_seen g a b) → StopLengths (shelf_seen g b c) why
      → StopLengths (shelf_seen g a c) why
  lengths_behind (stop.Refused refusal) before here = unless_behind refusal before here
  lengths_behind stop.Memory before here = here ∙ before
  lengths_behind stop.Printing before here = here ∙ before
