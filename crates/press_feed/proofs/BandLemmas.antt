-- Frames made one after the other, and consecutive shares.
use Rattle.std.proofs.Common.{inl, inr, ◌≡◌, ℕ, ◌+◌, ◌-◌, ◌*◌, ◌/◌, ◌%◌, ◌<◌, ◌≤◌, List, [], ◌∷◌, ◌++◌, length, set, get_or, sym, subst, arith}
use Rattle.std.specs.Prelude.{All, Some, slice_get}
use Rattle.std.proofs.Math.Nat.{mul-le-mul_right}
use Rattle.std.proofs.lemmas.Bool.{cases_lt}
use Rattle.std.proofs.lemmas.Grind.{get_or-set_at}
use Rattle.std.proofs.lemmas.List.{get_or-set_other}
use Rattle.std.proofs.lemmas.List.Elements.{All-append, All-cons, All-nil}
use Rattle.std.proofs.lemmas.Nat.{div-add-mod'}
use Rattle.std.proofs.lemmas.Option.{get_or_from_slice_get, slice_get_within}
use Rattle.press_feed.specs.Band.{FrameData, HoldsFrom, IsBand, IsFrameAt, IsShareOf, ShareData}
use Rattle.press_job.specs.Job.{JobData}

-- ---- the frames of a share

-- the first i of them were made
pub record MadeUpTo (job : JobData) (first i : ℕ) (frames : List FrameData) : Type 0 where
  pub each : (k : ℕ) (d : FrameData) → k < i → IsFrameAt job (first + k) (get_or frames k d)

pub made_more : (job : JobData) (first i : ℕ) (frames : List FrameData) (frame : FrameData) → i < length frames → IsFrameAt job (first + i) frame → MadeUpTo job first i frames
    → MadeUpTo job first (i + 1) (set frames i frame)
made_more job first i frames frame within own is = record {
  each = λ k d less.
      elim (cases_lt k i) [
        | inl below ↦ subst {A = FrameData} (IsFrameAt job (first + k)) (sym (get_or-set_other frames i k frame d (λ e. absurd (omega arith)))) (is.each k d below)
        | inr above ↦
            (let same : k ≡ i = omega arith in
            subst {A = FrameData} (IsFrameAt job (first + k)) (sym (get_or-set_at frames i k frame d same within)) (subst {A = ℕ} (λ n. IsFrameAt job (first + n) frame) (sym same) own))
      ];
}

-- ---- the shares of a band

-- one more, of which holds what holds of all so far
pub pushed_all : {X : Type 0} (P : X → Type 0) (old new : List X) (x : X) → new ≡ old ++ x ∷ [] → All P old → P x → All P new
pushed_all {X = X} P old new x is all own = subst {A = List X} (All P) (sym is) (All-append P old (x ∷ []) all (All-cons P x [] own (All-nil P)))

-- an index below the total is in one of the shares
share_within : (at each count : ℕ) → 0 < each → at < count * each → at / each < count
share_within at each count some within =
    elim (cases_lt (at / each) count) [
      | inl below ↦ below
      | inr above ↦ (let low = mul-le-mul_right each above in let whole = div-add-mod' at each in absurd (omega arith))
    ]

-- the frame at its index has the right number
pub band_frame : (job : JobData) (each first end n : ℕ) (shares : List ShareData) (share : ShareData) (frame : FrameData) → IsBand job each first end shares → first ≤ n → n < end
    → share ≡ get_or shares ((n - first) / each) share → slice_get share.frames ((n - first) % each) ≡ Some frame → IsFrameAt job n frame
band_frame job each first end n shares share frame is low high share_is there =
    let at = n - first in
    let k = at / each in
    let i = at % each in
    let whole : k * each + i ≡ at = div-add-mod' at each in
    let within = is.within in
    let below : k < length shares = share_within at each (length shares) is.some (omega arith) in
    let held : HoldsFrom job (first + k * each) share.frames =
    subst {A = ShareData} (λ s. HoldsFrom job (first + k * each) s.frames) (sym share_is) (is.made k share below (omega arith)) in
    let here : IsFrameAt job (first + k * each + i) frame =
    subst {A = FrameData} (IsFrameAt job (first + k * each + i)) (get_or_from_slice_get share.frames i frame frame there) (held.each i frame (slice_get_within share.frames i frame there)) in
    let number : first + k * each + i ≡ n = omega arith in
    subst {A = ℕ} (λ m. IsFrameAt job m frame) number here

-- a share belongs to the band's job
pub band_share : (job : JobData) (each first end n : ℕ) (shares : List ShareData) (share : ShareData) → IsBand job each first end shares → first ≤ n → n < end
    → share ≡ get_or shares ((n - first) / each) share → IsShareOf job each share
band_share job each first end n shares share is low high share_is =
    let within = is.within in
    let below : (n - first) / each < length shares = share_within (n - first) each (length shares) is.some (omega arith) in
    subst {A = ShareData} (IsShareOf job each) (sym share_is) (is.own ((n - first) / each) share below)
