-- Each iteration writes the pixels of one more block.
use Rattle.std.proofs.Common.{◌≡◌, ℕ, ◌+◌, ◌*◌, ◌∙◌, length, ap, subst, arith}
use Rattle.std.specs.Prelude.{slice_index}
use Rattle.std.proofs.lemmas.List.Edits.{get_or-between}
use Rattle.pr_base.specs.Bits.{bit_at, SetsBits}
use Rattle.scr_diffuse.specs.Block.{bit_of}
use Rattle.pr_base.proofs.BitLemmas.{SetsBits_none, SetsBits_join}
use Rattle.pr_base.proofs.Blocks.{SetsBits_block}
use Rattle.scr_diffuse.proofs.dots.set_blocks.Goals as goal

pub loop-k-init : goal.loop-k-init
loop-k-init c = SetsBits_none _ _ _

pub loop-k-preserved : goal.loop-k-preserved
loop-k-preserved c =
    let at = 64 * c.loop-k.k in
    let byte = c.args.first + 8 * c.loop-k.k in
    let test : ℕ → _ = λ x. bit_of (slice_index c.args.columns.now x) c.args.lane in
    SetsBits_join test (8 * c.args.first) at (8 * byte) 64 (64 * (c.loop-k.k + 1)) _ _ _ (omega arith) (omega arith) c.loop-k.invariant
    (SetsBits_block (λ x. test (at + x)) c.loop-k.bits c.copy_from_slice.new.self byte _ (omega arith) (omega arith) (omega arith)
    (λ x within. ap (λ bytes. bit_at bytes x) c.copy_from_slice.ensures.after
    ∙ c.block_of-block.ensures x within ∙ ap (λ n. bit_of n c.args.lane) (get_or-between c.args.columns.now at (at + 64) x 0 (omega arith))))

pub returns : goal.returns
returns c =
    let whole : 64 * c.loop-k.k ≡ length c.args.columns.now = omega arith in
    subst (λ (n : ℕ). SetsBits (λ x. bit_of (slice_index c.args.columns.now x) c.args.lane) (8 * c.args.first) n c.args.bits.now c.loop-k.bits) whole c.loop-k.invariant
