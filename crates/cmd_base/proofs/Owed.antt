-- Proof obligations of a command, from which the clauses of `plate_main` follow for all commands at once.
use Rattle.std.proofs.Common.{◌≡◌, ◌⊎◌, ℕ, ◌<◌, List, length, map, Bool, true, false, if◌then◌else◌, Some, None, option_map, refl, ap, ◌∙◌, inl, inr, arith}
use Rattle.std.specs.Prelude.{slice_get}
use Rattle.std.proofs.lemmas.Option.{slice_get-map, slice_get_cases}
use Rattle.pr_base.specs.Count.{Rose}
use Rattle.pr_rack.specs.declared.rack.Rack.{Ghosts}
use Rattle.pr_rack.specs.Told.{RackTells, told}
use Rattle.cmd_base.specs.declared.refusal.Refusal.{Refusal}
use Rattle.cmd_base.specs.Status.{IsDoneStatus}
use Rattle.cmd_base.specs.Refusal.{status_of}
use Rattle.cmd_base.specs.Seen.{Files, ShelfSeen, LoadFailed, RackFailed}
use Rattle.cmd_base.specs.Task.{Makes, Rules}

-- the obligations of a command with these rules and makes
pub record Owes {R : Type 0} (g : Ghosts R) (rules : Rules) (makes : Makes R) : Type 0 where
  -- a returned refusal is the verdict, or a load failed
  pub met : (files : Files) (shelf : ShelfSeen) (refusal : Refusal) → shelf.held ≡ Some files → rules.Meets shelf refusal
      → (rules.verdict files ≡ Some refusal) ⊎ ((status_of refusal ≡ 5) × LoadFailed shelf)
  -- the arguments are not refused
  pub known : (shelf : ShelfSeen) (refusal : Refusal) → rules.Meets shelf refusal → status_of refusal ≡ 2 → ⊥
  -- where the command prints, the verdict is no refusal
  pub prints : (files : Files) (shelf : ShelfSeen) (racks racks' : List R) (text : List ℕ) (status : ℕ)
      → shelf.held ≡ Some files → makes.Prints shelf racks racks' text status → rules.verdict files ≡ None
  -- the same where it was cut short before printing
  pub begins : (files : Files) (shelf : ShelfSeen) (racks racks' : List R)
      → shelf.held ≡ Some files → makes.Begins shelf racks racks' → rules.verdict files ≡ None
  -- where it prints, the status is that of a completed command
  pub done : (shelf : ShelfSeen) (racks racks' : List R) (text : List ℕ) (status : ℕ)
      → makes.Prints shelf racks racks' text status → IsDoneStatus status
  -- status 1 occurs only where a rack failed
  pub one : (shelf : ShelfSeen) (racks racks' : List R) (text : List ℕ) (status : ℕ)
      → makes.Prints shelf racks racks' text status → status ≡ 1 → RackFailed g racks racks'
  -- any other status follows from the files
  pub ends : (files : Files) (shelf : ShelfSeen) (racks racks' : List R) (text : List ℕ) (status : ℕ)
      → shelf.held ≡ Some files → makes.Prints shelf racks racks' text status
      → rules.Ends files status ⊎ (status ≡ 1)

-- ---- lemmas that several commands use

pub zero_or_one : (status : ℕ) → status ≡ 0 → status ≡ 1 → ⊥
zero_or_one status zero one = omega arith

-- the element at an index within bounds
pub there : {A : Type 0} (xs : List A) (k : ℕ) → k < length xs → (x : A) × (slice_get xs k ≡ Some x)
there xs k less = elim ((slice_get_cases xs k).1) [
  | inl found ↦ (found.0, found.2)
  | inr past ↦ absurd (let far = past.0 in omega arith)
]

-- a status that is 0 where all sites are done, and 1 otherwise
pub zero_one : (all : Bool) (status : ℕ) → status ≡ (if all then 0 else 1) → (status ≡ 0) ⊎ (status ≡ 1)
zero_one true status is = inl is
zero_one false status is = inr is

-- it is 1 only if not all are done
pub not_all : (all : Bool) (status : ℕ) → status ≡ (if all then 0 else 1) → status ≡ 1 → all ≡ false
not_all true status is one = absurd (zero_or_one status is one)
not_all false status is one = refl

-- a rack that counted a failure, at the number of its site
pub rack_failed : {R : Type 0} (g : Ghosts R) (racks racks' : List R) (site : ℕ) → site < length racks → length racks' ≡ length racks
    → ((old new : RackTells) → slice_get (map (told g) racks) site ≡ Some old → slice_get (map (told g) racks') site ≡ Some new → Rose old.faults new.faults)
    → RackFailed g racks racks'
rack_failed g racks racks' site within kept rose =
    let old = there racks site within in
    let new = there racks' site (omega (arith, within, kept)) in
    record {
      site = site;
      old = old.0;
      new = new.0;
      before = old.1;
      after = new.1;
      rose = rose (told g old.0) (told g new.0)
          (slice_get-map (told g) racks site ∙ ap (option_map (told g)) old.1)
          (slice_get-map (told g) racks' site ∙ ap (option_map (told g)) new.1);
    }
