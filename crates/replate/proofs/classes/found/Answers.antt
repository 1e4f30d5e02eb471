use Rattle.std.proofs.Common.{◌≡◌, ◌++◌, ◌∷◌, [], map, take, position, ap, sym, ◌∙◌}
use Rattle.std.specs.Prelude.{unwrap_or}
use Rattle.std.specs.Str.{bytes_eq}
use Rattle.replate.specs.Inputs.{bytes_of}
use Rattle.replate.specs.Classes.{class_of}
use Rattle.replate.proofs.ClassLemmas.{classes_more, class_sought}
use Rattle.replate.proofs.classes.found.Goals as goal

pub loop-file-preserved : goal.loop-file-preserved
loop-file-preserved c = λ olds knows count.
    let file = c.file-item.result in
    let bytes = c.as_slice.result.now in
    let class : c.unwrap_or-class.result ≡ class_of olds file.items =
    c.unwrap_or-class.ensures ∙ ap (λ o. unwrap_or o c.args.count) (c.sought.ensures olds knows)
    ∙ ap (λ n. unwrap_or (position (bytes_eq bytes) olds) n) (sym count) ∙ class_sought olds bytes
    ∙ ap (λ b. class_of olds b) c.as_slice.ensures.value in
    c.in_ok-push.ensures.items ∙ ap (λ l. l ++ c.unwrap_or-class.result ∷ []) (c.loop-file.invariant olds knows count)
    ∙ ap (λ k. map (class_of olds) (take c.loop-file.file-index (bytes_of c.args.files.now)) ++ k ∷ []) class
    ∙ sym (classes_more (class_of olds) c.args.files.now c.loop-file.file-index file c.loop-file-test.true c.file-item.is)
