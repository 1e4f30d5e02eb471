use Rattle.std.proofs.Common.{◌≡◌, ◌++◌, ◌∷◌, [], ℕ, List, length, map, take, ap, sym, subst, ◌∙◌}
use Rattle.replate.specs.Inputs.{bytes_of}
use Rattle.replate.specs.Classes.{Knows, class_of}
use Rattle.replate.proofs.ClassLemmas.{classes_more, files_more, class_of_item, seen_count}
use Rattle.replate.proofs.classes.numbered.Goals as goal

pub loop-index-preserved : goal.loop-index-preserved
loop-index-preserved c =
    let files = c.args.files.now in
    let i = c.loop-index.index in
    let file = c.index-files-index.result in
    let bytes = c.as_slice.result.now in
    let seen : List (List ℕ) = take i (bytes_of files) in
    let is = c.as_slice.ensures.value in
    let count : length seen ≡ i = seen_count files i c.loop-index-test.true in
    let noted = c.in_ok-class.ensures in
    let class : c.in_ok-class.class ≡ class_of (bytes_of files) file.items =
    noted.class seen c.loop-index.invariant.known count ∙ ap (λ b. class_of (seen ++ b ∷ []) b) is
    ∙ class_of_item files i file c.loop-index-test.true c.index-files-index.is in
    let Known : List (List ℕ) → Type 0 = λ l. Knows c.noted.new.known l in
    record {
      classes = c.in_ok-push.ensures.items ∙ ap (λ l. l ++ c.in_ok-class.class ∷ []) c.loop-index.invariant.classes
          ∙ ap (λ k. map (class_of (bytes_of files)) seen ++ k ∷ []) class
          ∙ sym (classes_more (class_of (bytes_of files)) files i file c.loop-index-test.true c.index-files-index.is);
      known = subst Known (ap (λ b. seen ++ b ∷ []) is ∙ sym (files_more files i file c.loop-index-test.true c.index-files-index.is))
          (noted.known seen c.loop-index.invariant.known count);
    }
