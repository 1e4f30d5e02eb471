-- Each iteration writes one more value.
use Rattle.std.proofs.Common.{◌≡◌, ◌∙◌, ◌+◌, ◌*◌, get_or, slice_set, get_or-set_same, get_or-set_other, inl, inr, arith}
use Rattle.std.proofs.lemmas.Bool.{cases_eq}
use Rattle.scr_diffuse.specs.Block.{row_in}
use Rattle.scr_diffuse.specs.Weave.{value_behind}
use Rattle.scr_diffuse.proofs.weave.set_column.Goals as goal

pub loop-k-init : goal.loop-k-init
loop-k-init c = record { before = c.requires.before; here = λ j none. absurd (omega arith) }

pub loop-k-preserved : goal.loop-k-preserved
loop-k-preserved c =
    let at = 8 * c.args.x + c.loop-k.k in
    let here : get_or (slice_set c.loop-k.columns at c.value_at.result) at 0 ≡ value_behind (row_in c.args.rows.now c.loop-k.k) c.args.x (3 * c.loop-k.k) =
    get_or-set_same c.loop-k.columns at c.value_at.result 0 (omega (arith, c.loop-k.auto.columns)) ∙ c.value_at.ensures in
    record {
      before = record { each = λ j y few within. get_or-set_other c.loop-k.columns at (8 * y + j) c.value_at.result 0 (λ e. absurd (omega arith)) ∙ c.loop-k.invariant.before.each j y few within };
      here = λ j less. elim (cases_eq j c.loop-k.k) [
        | inl same ↦ rw same here
        | inr other ↦ get_or-set_other c.loop-k.columns at (8 * c.args.x + j) c.value_at.result 0 (λ e. absurd (omega arith)) ∙ c.loop-k.invariant.here j (omega arith)
      ];
    }

pub returns : goal.returns
returns c = record {
  each = λ j y few within. elim (cases_eq y c.args.x) [
    | inl same ↦ rw same (c.loop-k.invariant.here j (omega arith))
    | inr other ↦ c.loop-k.invariant.before.each j y few (omega arith)
  ];
}
