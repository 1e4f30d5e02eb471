use Rattle.std.proofs.Common.{◌*◌, ◌<◌, ℕ, length, refl, subst, sym, inl, inr, ◌∙◌, arith}
use Rattle.std.proofs.lemmas.Bool.{cases_lt}
use Rattle.std.proofs.lemmas.Bool.{false≢true}
use Rattle.page_layers.proofs.Layers.{IsAdmitted-bare, IsAdmitted-once, IsAdmitted-stretched}
use Rattle.page_layers.proofs.admit.admit_row.Goals as goal

-- at scale 1 as many columns of the page as of the image
pub mark_row-requires-clause-columns : goal.mark_row-requires-clause-columns
mark_row-requires-clause-columns c =
    let width = c.args.layer.now.crop.width in
    let all = length c.args.admitted.now in
    elim (cases_lt width all) [
      | inl more ↦ absurd (omega (arith, c.requires.columns, c.requires.enough width (subst (λ (scale : ℕ). scale * width < all) (sym c.if-layer-eq1.true) (omega arith))))
      | inr within ↦ within
    ]

pub returns-then-is_bare : goal.returns-then-is_bare
returns-then-is_bare c =
    let bare = sym c.is_bare.ensures ∙ c.if-is_bare.true in
    record {
      bare = λ bare. refl;
      admitted = IsAdmitted-bare c.args.layer.now _ _ c.args.admitted.now bare (c.requires.bare bare);
    }

pub returns-then-layer-eq1 : goal.returns-then-layer-eq1
returns-then-layer-eq1 c = record {
  bare = λ bare. absurd (false≢true (sym c.if-is_bare.false ∙ c.is_bare.ensures ∙ bare));
  admitted = IsAdmitted-once c.args.layer.now _ _ c.mark_row.new.marks c.if-layer-eq1.true c.mark_row.ensures;
}

pub returns : goal.returns
returns c = record {
  bare = λ bare. absurd (false≢true (sym c.if-is_bare.false ∙ c.is_bare.ensures ∙ bare));
  admitted = IsAdmitted-stretched c.args.layer.now _ _ _ c.mark_row-2.new.marks c.stretch.new.into c.mark_row-2.ensures c.stretch.ensures c.requires.enough;
}
