use Rattle.std.proofs.Common.{◌≡◌, List, ℕ, Some, codes, sym, ap, subst, ◌∙◌}
use Rattle.std.proofs.lemmas.Option.{same_Some}
use Rattle.pr_ports.specs.Mem.{files_of}
use Rattle.pr_ports.specs.Shelf.{held_at}
use Rattle.press_job.specs.Verdict.{IsMissing}
use Rattle.cmd_run.proofs.DrillVerdict.{never_missing}
use Rattle.cmd_run.proofs.drill.prepare_job.Goals as goal

pub unreachable-requires-in-Err-Shelf : goal.unreachable-requires-in-Err-Shelf
unreachable-requires-in-Err-Shelf g c =
    let path : List ℕ = c.in-Err-Shelf._path in
    let old = c.new-shelf.result in
    let new = c.prepare.new.shelf in
    let missed : new.missed ≡ Some path = rw c.in-Err-Shelf.field-0-is at c.in-Err-Shelf.ensures.shelf.missed in
    let lost : IsMissing c.args.plan (codes "in") (Some old.files) path = rw c.in-Err-Shelf.field-0-is at c.in-Err-Shelf.ensures.path in
    let held : new.files ≡ old.files = same_Some _ _ c.in-Err-Shelf.ensures.shelf.held in
    never_missing c.args.plan (files_of c.args.files.items) path c.requires.passes
    (subst (λ (files : List (List ℕ × List ℕ)). IsMissing c.args.plan (codes "in") (Some files) path) c.new-shelf.ensures.files lost)
    (ap (λ files. held_at files path) (sym (held ∙ c.new-shelf.ensures.files)) ∙ c.lacks_what_it_missed.ensures path missed)
