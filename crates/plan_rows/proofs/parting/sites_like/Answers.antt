use Rattle.std.proofs.Common.{◌+◌, ℕ, sym, subst, ◌∙◌, arith}
use Rattle.plan_rows.proofs.PartLemmas.{HasBits, bits_with, bits_without, bits_all, bit_is}
use Rattle.plan_rows.proofs.parting.sites_like.Goals as goal
use Rattle.plan_rows.proofs.parting.sites_like.Goals.{then-same_pages, else-same_pages}

pub loop-i-preserved : goal.loop-i-preserved
loop-i-preserved c =
    let P : ℕ → Type 0 = λ sites. HasBits c.args.own c.args.pages.now (c.loop-i.i + 1) sites in
    elim c.if-same_pages.branch [
      | then-same_pages w ↦ subst P (sym w.sites-is) (bits_with c.args.own c.args.pages.now c.loop-i.i c.loop-i.sites _ _ c.loop-i.invariant c.loop-i-test.true (sym c.same_pages.ensures ∙ w.if-same_pages.true) (bit_is c.loop-i.i (omega arith)))
      | else-same_pages w ↦ subst P (sym w.sites-is) (bits_without c.args.own c.args.pages.now c.loop-i.i c.loop-i.sites _ c.loop-i.invariant c.loop-i-test.true (sym c.same_pages.ensures ∙ w.if-same_pages.false))
    ]

pub returns : goal.returns
returns c = bits_all c.args.own c.args.pages.now c.loop-i.i c.loop-i.sites c.loop-i.invariant c.loop-i-test.false
