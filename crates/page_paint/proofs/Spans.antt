-- One ink value painted over a span of a row.
use Rattle.std.proofs.Common.{◌≡◌, ◌≢◌, ℕ, ◌+◌, ◌-◌, ◌<◌, ◌≤◌, Bool, true, false, if◌then◌else◌, List, length, take, drop, get_or, replicate, refl, ap, sym, ◌∙◌, arith}
use Rattle.std.specs.Prelude.{◌==◌}
use Rattle.std.proofs.lemmas.Bool.{ne_eqb}
use Rattle.std.proofs.lemmas.List.{get_or-drop, get_or-replicate, get_or-take, length-drop, length-replicate, length-take}
use borrow.Rule.Slice.PartMut.{put_mid}
use Rattle.pr_base.proofs.Parts.{part_above, part_below, part_here, part_long}
use Rattle.page_paint.specs.declared.lay.Painting.{Painting}
use Rattle.page_paint.specs.declared.lay.Painting.TheVariants.{Whole, Knockout, Overprint, Nothing}
use Rattle.page_paint.specs.Rows.{IsLaid, LaysSpan, laid_where}

-- a part of a row that was rewritten
LaysSpan_part : (painting : Painting) (from cut size : ℕ) (paint admitted old part : List ℕ) → from + length admitted ≤ length old → cut ≡ length admitted → size ≡ length admitted → length part ≡ size
    → ((j : ℕ) → j < length admitted → get_or part j 0 ≡ laid_where painting (get_or admitted j 0) (get_or paint j 0) (get_or old (from + j) 0))
    → LaysSpan painting from paint admitted old (put_mid from cut old part)
LaysSpan_part painting from cut size paint admitted old part room cut_is size_is long each = record {
  long = part_long from cut old part (omega arith) (omega arith);
  inside = λ j within.
      let back : from + j - from ≡ j = omega arith in
      part_here from cut old part (from + j) (omega arith) (omega arith) (omega arith) (omega arith) ∙ ap (λ k. get_or part k 0) back ∙ each j within;
  before = λ x below. part_below from cut old part x (omega arith) below;
  behind = λ x above. part_above from cut old part x (omega arith) (omega arith) (omega arith);
}

-- paint laid over a part of a row
pub LaysSpan_laid : (painting : Painting) (from cut : ℕ) (paint admitted old part : List ℕ) → from + length admitted ≤ length old → cut ≡ length admitted
    → length part ≡ length (take cut (drop from old)) → IsLaid painting paint admitted (take cut (drop from old)) (length (take cut (drop from old))) part
    → LaysSpan painting from paint admitted old (put_mid from cut old part)
LaysSpan_laid painting from cut paint admitted old part room cut_is long laid =
    let size : length (take cut (drop from old)) ≡ length admitted = omega (arith, length-take cut (drop from old), length-drop from old) in
    LaysSpan_part painting from cut (length (take cut (drop from old))) paint admitted old part room cut_is size long
    (λ j within.
    laid.each j (omega arith)
    ∙ ap (laid_where painting (get_or admitted j 0) (get_or paint j 0)) (get_or-take cut (drop from old) j 0 (omega arith) ∙ get_or-drop from old j 0))

-- paint that replaces a part of a row
pub LaysSpan_whole : (from cut : ℕ) (paint admitted old part : List ℕ) → from + length admitted ≤ length old → cut ≡ length admitted → length paint ≡ length admitted → part ≡ paint
    → LaysSpan Whole from paint admitted old (put_mid from cut old part)
LaysSpan_whole from cut paint admitted old part room cut_is size_is same =
    LaysSpan_part Whole from cut (length paint) paint admitted old part room cut_is size_is (ap length same) (λ j within. ap (λ list. get_or list j 0) same)

-- a value that fills its span
pub LaysSpan_fill : (from cut size ink : ℕ) (admitted old part : List ℕ) → from + length admitted ≤ length old → cut ≡ length admitted → size ≡ length admitted → part ≡ replicate size ink
    → LaysSpan Whole from (replicate (length admitted) ink) admitted old (put_mid from cut old part)
LaysSpan_fill from cut size ink admitted old part room cut_is size_is filled =
    LaysSpan_part Whole from cut size (replicate (length admitted) ink) admitted old part room cut_is size_is (ap length filled ∙ length-replicate size ink)
    (λ j within. ap (λ list. get_or list j 0) filled ∙ get_or-replicate size j ink 0 (omega arith) ∙ sym (get_or-replicate (length admitted) j ink 0 within))

-- a value painted where it is admitted
pub LaysSpan_spread : (from cut size ink : ℕ) (admitted old under part : List ℕ) → from + length admitted ≤ length old → cut ≡ length admitted → size ≡ length admitted → length part ≡ size
    → ((j : ℕ) → j < length admitted → get_or under j 0 ≡ get_or old (from + j) 0)
    → ((j : ℕ) → j < size → get_or part j 0 ≡ (if get_or admitted j 0 == 0 then get_or under j 0 else ink))
    → LaysSpan Knockout from (replicate (length admitted) ink) admitted old (put_mid from cut old part)
LaysSpan_spread from cut size ink admitted old under part room cut_is size_is long there spread =
    LaysSpan_part Knockout from cut size (replicate (length admitted) ink) admitted old part room cut_is size_is long
    (λ j within.
    spread j (omega arith) ∙ ap (λ u. if get_or admitted j 0 == 0 then u else ink) (there j within)
    ∙ ap (λ p. if get_or admitted j 0 == 0 then get_or old (from + j) 0 else p) (sym (get_or-replicate (length admitted) j ink 0 within)))

both : (bit : Bool) (under : ℕ) → under ≡ (if bit then under else under)
both true under = refl
both false under = refl

-- where nothing is painted, nothing changes
pub LaysSpan_nothing : (from : ℕ) (paint admitted old : List ℕ) → LaysSpan Nothing from paint admitted old old
LaysSpan_nothing from paint admitted old = record { long = refl; inside = λ j within. refl; before = λ x below. refl; behind = λ x above. refl }

-- overprinting the value 0 changes nothing
pub LaysSpan_none : (from ink : ℕ) (admitted old : List ℕ) → ink ≡ 0 → LaysSpan Overprint from (replicate (length admitted) ink) admitted old old
LaysSpan_none from ink admitted old none = record {
  long = refl;
  inside = λ j within.
      both (get_or admitted j 0 == 0) (get_or old (from + j) 0)
      ∙ sym (ap (λ p. laid_where Overprint (get_or admitted j 0) p (get_or old (from + j) 0)) (get_or-replicate (length admitted) j ink 0 within ∙ none));
  before = λ x below. refl;
  behind = λ x above. refl;
}

-- overprinting any other value knocks out
pub LaysSpan_overprint : (from ink : ℕ) (admitted old new : List ℕ) → ink ≢ 0 → LaysSpan Knockout from (replicate (length admitted) ink) admitted old new → LaysSpan Overprint from (replicate (length admitted) ink) admitted old new
LaysSpan_overprint from ink admitted old new some laid = record {
  long = laid.long;
  inside = λ j within.
      let value = get_or-replicate (length admitted) j ink 0 within in
      laid.inside j within
      ∙ ap (λ t. if get_or admitted j 0 == 0 then get_or old (from + j) 0 else if t then get_or old (from + j) 0 else get_or (replicate (length admitted) ink) j 0)
      (sym (ap (λ p. p == 0) value ∙ ne_eqb ink 0 some));
  before = laid.before;
  behind = laid.behind;
}
