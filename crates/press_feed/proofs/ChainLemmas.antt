-- The rows that a chain of an ink of a page takes, and their pixels.
use Rattle.std.proofs.Common.{◌≡◌, ℕ, ◌+◌, ◌-◌, ◌<◌, true, List, refl, ap, sym, ◌∙◌, subst, arith}
use Rattle.pr_base.specs.Bits.{SetsBits}
use Rattle.pr_base.specs.declared.ink.Ink.{Ink}
use Rattle.plan_json.specs.Data.{PlanData}
use Rattle.plan_parts.specs.declared.printing.Screen.{Screen}
use Rattle.plan_parts.specs.declared.printing.Screen.TheVariants.{Bayer, Diffuse, Own}
use Rattle.press_job.specs.Job.{JobData}
use Rattle.press_job.specs.Printing.{bit_under, page_bit, page_values, screen_of}
use Rattle.scr_diffuse.specs.Diffuser.{PageFront}
use Rattle.scr_diffuse.specs.Diffusion.{diffused_bit, prints}
use Rattle.scr_diffuse.proofs.DiffusionLemmas.{v_at-same}
use Rattle.press_feed.specs.ChainRows.{ChainData, IsAhead}
use Rattle.press_feed.specs.Drawn.{DrawnData, HasTaken}
use Rattle.press_feed.specs.Screener.{is_diffused, is_diffusion}
use Rattle.press_feed.proofs.ScreenerLemmas.{get_or-page_values}

-- ---- the bits of a row

diffused-under : (plan : PlanData) (files : List (List ℕ)) (page : ℕ) (ink : Ink) (x y : ℕ) (screen : Screen) → is_diffusion screen ≡ true → bit_under plan files page ink x y screen ≡ diffused_bit (page_values plan files page ink) x y
diffused-under plan files page ink x y (Bayer side) is = cc
diffused-under plan files page ink x y Diffuse is = refl
diffused-under plan files page ink x y (Own tile) is = cc

page_bit-diffused : (plan : PlanData) (files : List (List ℕ)) (page : ℕ) (ink : Ink) (x y : ℕ) → is_diffused plan ink ≡ true → page_bit plan files page ink x y ≡ diffused_bit (page_values plan files page ink) x y
unfolding page_bit
page_bit-diffused plan files page ink x y is = diffused-under plan files page ink x y (screen_of plan ink) is

-- a row that a chain took sets the pixels of its page
pub chain_sets : (job : JobData) (page : ℕ) (ink : Ink) (count y n from : ℕ) (front : PageFront) (old new : List ℕ) → IsAhead job page ink count front → is_diffused job.plan ink ≡ true → y < count → y < job.plan.page_height → n ≡ y
    → SetsBits (λ x. diffused_bit front.rows x n) from front.width old new → SetsBits (λ x. page_bit job.plan job.files page ink x y) from job.plan.page_width old new
chain_sets job page ink count y n from front old new ahead on before within row sets =
    let at : SetsBits (λ x. diffused_bit front.rows x y) from job.plan.page_width old new =
    subst {A = ℕ} (λ m. SetsBits (λ x. diffused_bit front.rows x m) from job.plan.page_width old new) row
    (subst {A = ℕ} (λ w. SetsBits (λ x. diffused_bit front.rows x n) from w old new) ahead.width_is sets) in
    record {
      inside = λ x less. at.inside x less
          ∙ ap prints (v_at-same front.rows (page_values job.plan job.files page ink) x y (λ j less. ahead.rows_are j (omega arith) (omega arith) ∙ sym (get_or-page_values job.plan job.files page ink j (omega arith))))
          ∙ sym (page_bit-diffused job.plan job.files page ink x y on);
      before = at.before;
      behind = at.behind;
    }

-- ---- from block to block

-- the next row to be drawn, of those that a chain took last
pub chain_row : (drawn : DrawnData) (k : ℕ) (chain : ChainData) → HasTaken drawn k chain → chain.count - 8 + k ≡ drawn.first + drawn.count
chain_row drawn k chain took = omega (arith, took.count_is, took.taken)

pub chain_drawn : (drawn : DrawnData) (k from : ℕ) (chain : ChainData) (old new : List ℕ) → HasTaken drawn k chain
    → SetsBits (λ x. page_bit chain.job.plan chain.job.files chain.page chain.ink x (chain.count - 8 + k)) from chain.job.plan.page_width old new
    → SetsBits (λ x. page_bit drawn.job.plan drawn.job.files drawn.page drawn.ink x (drawn.first + drawn.count)) from drawn.job.plan.page_width old new
chain_drawn drawn k from chain old new took sets =
    let row = drawn.first + drawn.count in
    subst {A = JobData} (λ job. SetsBits (λ x. page_bit job.plan job.files drawn.page drawn.ink x row) from job.plan.page_width old new) took.job_is
    (subst {A = ℕ} (λ page. SetsBits (λ x. page_bit chain.job.plan chain.job.files page drawn.ink x row) from chain.job.plan.page_width old new) took.page_is
    (subst {A = Ink} (λ ink. SetsBits (λ x. page_bit chain.job.plan chain.job.files chain.page ink x row) from chain.job.plan.page_width old new) took.ink_is
    (subst {A = ℕ} (λ y. SetsBits (λ x. page_bit chain.job.plan chain.job.files chain.page chain.ink x y) from chain.job.plan.page_width old new) (chain_row drawn k chain took) sets)))
