-- The parts of a band that several threads draw and pack.
use Rattle.std.proofs.Common.{◌≡◌, ℕ, ◌+◌, ◌<◌, ◌≤◌, List, length, get_or, sym, ◌∙◌, subst, arith}
use Rattle.std.specs.Prelude.{Option, Some, slice_get}
use Rattle.std.specs.Option.{ForSome}
use Rattle.std.specs.List.{All}
use Rattle.std.proofs.lemmas.Option.{get_or_from_slice_get, slice_get_within}
use Rattle.plan_json.specs.Plan.{IsPlan}
use Rattle.press_job.specs.Job.{JobData}
use Rattle.press_job.specs.Rows.{plate_frames}
use Rattle.press_job.proofs.FrameLemmas.{length-plate_frames}
use Rattle.press_feed.proofs.FeedLemmas.{next_small}
use Rattle.press_feed.specs.declared.band_rows.BandRows.{BandRows}
use Rattle.press_feed.specs.Band.{FrameData, HoldsFrom, IsFrameAt}
use Rattle.press_feed.specs.SideBand.{AreRowsFor, AreRowsOf, IsKept, IsPartOf}
use Rattle.press_feed.specs.SideRows.{SideRowsData}

-- the frame at a place
pub frame_at : (job : JobData) (first n place : ℕ) (frames : List FrameData) (frame : FrameData) → HoldsFrom job first frames → slice_get frames place ≡ Some frame → first + place ≡ n
    → IsFrameAt job n frame
frame_at job first n place frames frame held there number =
    subst {A = ℕ} (λ m. IsFrameAt job m frame) number
    (subst {A = FrameData} (IsFrameAt job (first + place)) (get_or_from_slice_get frames place frame frame there) (held.each place frame (slice_get_within frames place frame there)))

-- rows of a step are rows that each part may draw
pub rows_for : (job : JobData) (height : ℕ) (part : SideRowsData) (rows : BandRows) → IsPartOf job height part → AreRowsOf job height rows → AreRowsFor part rows
rows_for job height part rows is are = record {
  rows_are = subst {A = JobData} (λ j. AreRowsOf j rows.count rows) (sym is.job_is) (record {
    group_is = are.group_is;
    blocks = are.blocks;
    within = are.within;
    onward = are.onward;
    last = are.last;
    few = omega arith;
  });
  room = λ k d less. (let room = is.room k d less in let few = are.few in omega (arith, room, few));
}

pub part_kept : (job : JobData) (height : ℕ) (old new : SideRowsData) → IsPartOf job height old → IsKept old new → IsPartOf job height new
part_kept job height old new is kept = record { job_is = kept.job_is ∙ is.job_is; room = kept.room height is.room }

pub parts_kept : (job : JobData) (height : ℕ) (old new : List SideRowsData) → All (IsPartOf job height) old → length new ≡ length old
    → ((k : ℕ) (d : SideRowsData) → k < length old → IsKept (get_or old k d) (get_or new k d)) → All (IsPartOf job height) new
parts_kept job height old new are long kept =
    λ k d less. (let within : k < length old = omega (arith, long, less) in part_kept job height (get_or old k d) (get_or new k d) (are k d within) (kept k d within))

-- each part may draw the rows of a step
pub rows_for_each : (job : JobData) (height : ℕ) (parts : List SideRowsData) (next : Option BandRows) → All (IsPartOf job height) parts → ForSome next (AreRowsOf job height)
    → (k : ℕ) (d : SideRowsData) → k < length parts → ForSome next (AreRowsFor (get_or parts k d))
rows_for_each job height parts next are of = λ k d less rows there. rows_for job height (get_or parts k d) rows (are k d less) (of rows there)

-- the number of a frame is small
pub small_number : (job : JobData) (n : ℕ) → IsPlan job.plan → n < length (plate_frames job.plan job.files) → n ≤ 2684313600
small_number job n is within =
    let small = next_small job.plan n is (omega (arith, within, length-plate_frames job.plan job.files)) in
    omega (arith, small)
