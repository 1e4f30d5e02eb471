-- The outcome of verifying the plates of a job, from the contract of `plate_verify`'s `verify`.
use Rattle.std.proofs.Common.{◌≡◌, ◌≤◌, ◌∙◌, ℕ, List, map, Option, IfSome, Result, Ok, Err, refl, sym, subst, inl, inr, arith}
use Rattle.pr_base.specs.Count.{Rose}
use Rattle.pr_ports.specs.declared.shelf.Shelf.{Ghosts}
use Rattle.tif_packbits.specs.Frame.{framed_row}
use Rattle.plan_json.specs.Data.{PlanData}
use Rattle.plan_json.specs.Plan.{IsPlan}
use Rattle.press_job.specs.Job.{JobData}
use Rattle.press_job.specs.Rows.{plate_frames, plate_rows}
use Rattle.plate_verify.specs.declared.checked.Checked.{Checked}
use Rattle.plate_verify.specs.declared.checked.Checked.TheVariants.{Same, Differs, Long}
use Rattle.plate_verify.specs.Verifying.{FailsAt, IfLong, NoneWrong, UnlessLong, shelf_told, told}
use Rattle.plate_verify.specs.Order.{plates_in_order}
use Rattle.plate_verify.specs.Wrong.{first_wrong}
use Rattle.cmd_base.specs.declared.refusal.Refusal.{Refusal}
use Rattle.cmd_base.specs.declared.refusal.Refusal.TheVariants.{Shelf}
use Rattle.cmd_base.specs.declared.refusal.Stop.{Stop}
use Rattle.cmd_base.specs.declared.refusal.Stop.TheVariants as stop
use Rattle.cmd_verify.specs.Check.{Asked, CheckLengths, IsFound, IsLost, Verifies, MayFindLong, wrong_of}
use Rattle.cmd_base.specs.Job.{IsPrepared}
use Rattle.cmd_base.specs.Loads.{NoneLong, StopLengths, UnlessLong as UnlessRefused}
use Rattle.cmd_base.specs.Seen.{Files, ShelfSeen, SinkSeen, shelf_seen}
use Rattle.cmd_base.specs.Task.{Puts}
use Rattle.cmd_base.proofs.Rows.{over_job}

-- ---- verifying a job

module _ {H : Type 0} (g : Ghosts H) (a b : H) (own : PlanData) (job : JobData) (left : List (List ℕ)) (out : List ℕ) where
  pub verifies_found : (checked : Checked) → own ≡ job.plan → IsPlan job.plan → left ≡ plate_frames job.plan job.files
      → IfSome (g.held a) (λ held. first_wrong own (map framed_row left) out held ≡ told checked)
      → IfLong checked (Rose (g.longs a) (g.longs b)) → UnlessLong checked (g.longs b ≡ g.longs a)
      → IsFound job out (shelf_seen g a b) checked
  verifies_found checked same is feeds found long short = record {
    first = over_job own job left same is feeds
        (λ plan rows. IfSome (g.held a) (λ held. first_wrong plan rows out held ≡ told checked)) found;
    long = long;
    short = short;
  }

  pub verifies_lost : (path : List ℕ) → own ≡ job.plan → IsPlan job.plan → left ≡ plate_frames job.plan job.files
      → FailsAt own (map framed_row left) out (plates_in_order own) (shelf_told g a) (shelf_told g b) path
      → (named : List ℕ) × (Shelf path ≡ Shelf named) × IsLost job out (shelf_seen g a b) named
  verifies_lost path same is feeds fails =
      let f : FailsAt job.plan (plate_rows job.plan job.files) out (plates_in_order job.plan) (shelf_told g a) (shelf_told g b) path =
      over_job own job left same is feeds
      (λ plan rows. FailsAt plan rows out (plates_in_order plan) (shelf_told g a) (shelf_told g b) path) fails in (
        path,
        refl,
        record {
          before = f.before;
          at = f.at;
          behind = f.behind;
          are = f.are;
          named = f.named;
          right = f.right;
          missed = record { counted = f.counted; last = f.missed };
          longs = f.longs;
        },
      )

-- ---- verifying after the job is loaded

-- a count that did not fall and then rose has risen overall
pub rose_behind : (a b c : ℕ) → a ≤ b → Rose b c → Rose a c
rose_behind a b c less rose = grind arith

long_behind : (checked : Checked) (a b c : ℕ) → a ≤ b → IfLong checked (Rose b c) → IfLong checked (Rose a c)
long_behind (Same plates) a b c less long = long
long_behind (Differs path at row) a b c less long = long
long_behind (Long path) a b c less long = rose_behind a b c less long

short_behind : (checked : Checked) (a b c : ℕ) → b ≡ a → UnlessLong checked (c ≡ b) → UnlessLong checked (c ≡ a)
short_behind (Same plates) a b c same short = short ∙ same
short_behind (Differs path at row) a b c same short = short ∙ same
short_behind (Long path) a b c same short = tt

module _ {H : Type 0} (g : Ghosts H) (a b c : H) (held : g.held b ≡ g.held a) (faults : g.faults a ≤ g.faults b)
    (none : g.longs b ≡ g.longs a) (job : JobData) (out : List ℕ) where
  pub found_behind : (checked : Checked) → IsFound job out (shelf_seen g b c) checked → IsFound job out (shelf_seen g a c) checked
  found_behind checked found = record {
    first = subst (λ (h : Option Files). IfSome h (λ files. wrong_of job out files ≡ told checked)) held found.first;
    long = long_behind checked (g.longs a) (g.longs b) (g.longs c) (omega (arith, none)) found.long;
    short = short_behind checked (g.longs a) (g.longs b) (g.longs c) none found.short;
  }

  lost_behind : (path : List ℕ) → IsLost job out (shelf_seen g b c) path → IsLost job out (shelf_seen g a c) path
  lost_behind path lost = record {
    before = lost.before;
    at = lost.at;
    behind = lost.behind;
    are = lost.are;
    named = lost.named;
    right = subst (λ (h : Option Files). NoneWrong job.plan (plate_rows job.plan job.files) out h lost.before) held lost.right;
    missed = record {
      counted = rose_behind (g.faults a) (g.faults b) (g.faults c) faults lost.missed.counted;
      last = lost.missed.last;
    };
    longs = lost.longs ∙ none;
  }

  -- the outcome of verifying, over the whole time since before the job was loaded
  pub verifies_behind : (result : Result Checked Stop) → Verifies job out (shelf_seen g b c) result
      → Verifies job out (shelf_seen g a c) result
  verifies_behind (Ok checked) found = found_behind checked found
  verifies_behind (Err (stop.Refused refusal)) (path, is, lost) = (path, is, lost_behind path lost)
  verifies_behind (Err stop.Memory) h = h ∙ none
  verifies_behind (Err stop.Printing) h = h

-- ---- files that are too long

-- no file was counted as too long, or the result that was found is a plate that is
pub found_short : (asked : Asked) (shelf : ShelfSeen) (job : JobData) (checked : Checked)
    → IsPrepared shelf.held asked.plan asked.files job → IsFound job asked.out shelf checked
    → MayFindLong asked shelf
found_short asked shelf job (Same plates) prepared found = inl found.short
found_short asked shelf job (Differs path at row) prepared found = inl found.short
found_short asked shelf job (Long path) prepared found =
    inr (record { job = job; prepared = prepared; path = path; found = found })

-- the same once its line was printed
pub put_lengths : (asked : Asked) (shelf : ShelfSeen) (text : List ℕ) (own : ℕ) (out : SinkSeen) (result : Result ℕ Stop)
    → Puts text own out result → MayFindLong asked shelf → CheckLengths asked shelf result
put_lengths asked shelf text own out (Ok status) puts short = short
put_lengths asked shelf text own out (Err (stop.Refused refusal)) puts short = absurd puts
put_lengths asked shelf text own out (Err stop.Memory) puts short = short
put_lengths asked shelf text own out (Err stop.Printing) puts short = short

-- nothing was printed
pub stop_lengths : (asked : Asked) (shelf : ShelfSeen) (why : Stop) → StopLengths shelf why
    → CheckLengths asked shelf (Err why)
stop_lengths asked shelf (stop.Refused refusal) none = none
stop_lengths asked shelf stop.Memory none = inl none
stop_lengths asked shelf stop.Printing none = inl none

-- why no result was found
pub looks_lengths : (job : JobData) (out : List ℕ) (shelf : ShelfSeen) (why : Stop) → Verifies job out shelf (Err why)
    → StopLengths shelf why
looks_lengths job out shelf (stop.Refused refusal) (path, is, lost) =
    subst (λ (r : Refusal). UnlessRefused r (NoneLong shelf)) (sym is) lost.longs
looks_lengths job out shelf stop.Memory none = none
looks_lengths job out shelf stop.Printing h = absurd h
