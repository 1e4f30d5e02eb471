-- Each iteration sets the pixels of one more byte.
use Rattle.std.proofs.Common.{◌≡◌, ℕ, ◌+◌, ◌*◌, ◌∙◌, length, ap, subst, arith, pos}
use Rattle.std.proofs.lemmas.List.Edits.{get_or-between}
use Rattle.pr_base.specs.Bits.{SetsBits}
use Rattle.scr_diffuse.specs.Diffusion.{prints}
use Rattle.scr_diffuse.specs.Passes.{number_at}
use Rattle.pr_base.proofs.BitLemmas.{SetsBits_none, SetsBits_join, SetsBits_byte}
use Rattle.scr_diffuse.proofs.SpanLemmas.{AreWords-between}
use Rattle.scr_diffuse.proofs.bits.set_bytes.Goals as goal

pub loop-j-init : goal.loop-j-init
loop-j-init c = SetsBits_none _ _ _

pub byte_of-requires-clause-range : goal.byte_of-requires-clause-range
byte_of-requires-clause-range c = AreWords-between _ _ _ (omega arith) c.requires.range

pub loop-j-preserved : goal.loop-j-preserved
loop-j-preserved c =
    let at = 8 * c.loop-j.j in
    let i = c.args.first + c.loop-j.j in
    let test : ℕ → _ = λ x. prints (number_at c.args.numbers.now x) in
    SetsBits_join test (8 * c.args.first) at (8 * i) 8 (8 * (c.loop-j.j + 1)) _ _ _ (omega arith) (omega arith) c.loop-j.invariant
    (SetsBits_byte (λ x. test (at + x)) c.loop-j.bits i _ (omega arith)
    (λ y within. c.byte_of.ensures y within ∙ ap prints (get_or-between c.args.numbers.now at (at + 8) y (pos 0) (omega arith))))

pub returns : goal.returns
returns c =
    let whole : 8 * c.loop-j.j ≡ length c.args.numbers.now = omega arith in
    subst (λ (n : ℕ). SetsBits (λ x. prints (number_at c.args.numbers.now x)) (8 * c.args.first) n c.args.bits.now c.loop-j.bits) whole c.loop-j.invariant
