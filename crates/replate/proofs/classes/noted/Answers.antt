use Rattle.std.proofs.Common.{Some, position, sym, ap, ◌∙◌, cond, length}
use Rattle.std.specs.Str.{bytes_eq}
use Rattle.std.specs.BTreeMap.{get}
use Rattle.std.specs.Ordering.{nat_cmp, ordering_then, is_eq}
use Rattle.std.specs.Cmp.Lexicographic.{slice_cmp}
use Rattle.replate.specs.Classes.{whole_cmp}
use Rattle.replate.proofs.ClassLemmas.{class_known, class_new, stays, comes, tied}
use Rattle.replate.proofs.classes.noted.Goals as goal

pub returns-in-Some-clause-class : goal.returns-in-Some-clause-class
returns-in-Some-clause-class c = λ files knows count. class_known files c.args.file.now _ (sym (c.sought.ensures files knows) ∙ c.in-Some.is)

pub returns-in-Some-clause-known : goal.returns-in-Some-clause-known
returns-in-Some-clause-known c = λ files knows count. record {
  each = λ whole size. knows.each whole size
      ∙ sym (stays files c.args.file.now whole.1.now _ (sym (c.sought.ensures files knows) ∙ c.in-Some.is));
}

pub returns-in_ok-_none-in-None-clause-class : goal.returns-in_ok-_none-in-None-clause-class
returns-in_ok-_none-in-None-clause-class c = λ files knows count.
    sym count ∙ class_new files c.args.file.now (sym (c.sought.ensures files knows) ∙ c.in-None.is)

pub returns-in_ok-_none-in-None-clause-known : goal.returns-in_ok-_none-in-None-clause-known
returns-in_ok-_none-in-None-clause-known c = λ files knows count.
    let file = c.args.file.now in
    record {
      each = λ whole size.
          c.in_ok-_none-in-None.ensures.updates.0 whole
          ∙ ap (λ n. cond (is_eq (ordering_then (nat_cmp (length file) n) (slice_cmp nat_cmp file whole.1.now))) (Some c.args.index) (get whole_cmp c.args.known.now whole)) size
          ∙ ap (λ b. cond b (Some c.args.index) (get whole_cmp c.args.known.now whole)) (tied file whole.1.now)
          ∙ ap (λ o. cond (bytes_eq file whole.1.now) (Some c.args.index) o) (knows.each whole size)
          ∙ ap (λ n. cond (bytes_eq file whole.1.now) (Some n) (position (bytes_eq whole.1.now) files)) (sym count)
          ∙ sym (comes files file whole.1.now (sym (c.sought.ensures files knows) ∙ c.in-None.is));
    }
