-- A band of consecutive frames in the order of a job's rows.
use Rattle.std.specs.Prelude.{◌≡◌, ℕ, ◌+◌, ◌*◌, ◌<◌, ◌≤◌, Bool, false, true, List, length, slice_get}
use Rattle.std.specs.Prelude.{slice_index_or, Some}
use Rattle.std.specs.List.{All}
use Rattle.pr_base.specs.Row.{row_size}
use Rattle.tif_packbits.specs.Frame.{frame_size}
use Rattle.plan_json.specs.Data.{plate_width}
use Rattle.press_job.specs.Job.{JobData}
use Rattle.press_job.specs.Rows.{plate_frames}

-- the bytes of a frame of a job
abbrev pub frame_bytes : JobData → ℕ
frame_bytes job = frame_size (row_size (plate_width job.plan))

-- ---- a frame of a band

-- the bytes of a buffer, and whether they are those of a frame
pub record FrameData : Type 0 where
  pub bytes : List ℕ
  pub made : Bool

-- if a frame was made here, it is frame n of a job
abbrev pub IsFrameAt : JobData → ℕ → FrameData → Type 0
IsFrameAt job n frame = frame.made ≡ true → slice_get (plate_frames job.plan job.files) n ≡ Some frame.bytes

-- this many buffers of this many bytes, with no frame
pub record AreFresh (count len : ℕ) (frames : List FrameData) : Type 0 where
  pub count_is : length frames ≡ count
  pub long : All (λ frame. length frame.bytes ≡ len) frames
  pub none : All (λ frame. frame.made ≡ false) frames

-- ---- a thread's share of a band

-- buffers for some frames of a job
pub record ShareData : Type 0 where
  pub job : JobData
  pub frames : List FrameData

-- each has the length of a frame
pub record IsShare (job : JobData) (frames : List FrameData) : Type 0 where
  pub each : All (λ frame. length frame.bytes ≡ frame_bytes job) frames

-- it has buffers for this many frames of this job
pub record IsShareOf (job : JobData) (count : ℕ) (share : ShareData) : Type 0 where
  pub job_is : share.job ≡ job
  pub count_is : length share.frames ≡ count

-- those of these that were made are the frames of a job from this one on
pub record HoldsFrom (job : JobData) (first : ℕ) (frames : List FrameData) : Type 0 where
  pub each : (i : ℕ) (d : FrameData) → i < length frames
      → IsFrameAt job (first + i) (slice_index_or frames i d)

-- ---- a band

-- buffers for the frames of a job from number `first` to below `end`; `size` is the capacity
pub record BandData : Type 0 where
  pub job : JobData
  pub size : ℕ
  pub first : ℕ
  pub end : ℕ

-- frame n is one of these
abbrev pub Covers : BandData → ℕ → Type 0
Covers band n = (band.first ≤ n) × (n < band.end)

-- shares of equal capacity, whose frames are consecutive if the band is not empty
pub record IsBand (job : JobData) (each first end : ℕ) (shares : List ShareData) : Type 0 where
  pub some : 0 < each
  pub few : each ≤ 65536
  pub most : length shares ≤ 65536
  pub own : All (IsShareOf job each) shares
  pub within : end ≤ first + length shares * each
  pub made : (k : ℕ) (d : ShareData) → k < length shares → first < end
      → HoldsFrom job (first + k * each) (slice_index_or shares k d).frames

-- the shares of a band were made from frame `first` on
pub record AreMade (first each : ℕ) (old new : List ShareData) : Type 0 where
  pub frames : (k : ℕ) (d : ShareData) → k < length old
      → HoldsFrom (slice_index_or old k d).job (first + k * each) (slice_index_or new k d).frames
  pub same : (k : ℕ) (d : ShareData) → k < length old
      → IsShareOf (slice_index_or old k d).job each (slice_index_or new k d)
