use Rattle.std.proofs.Common.{sym, ◌∙◌}
use Rattle.replate.proofs.PageLemmas.{page_is, pages_tell, pages_same}
use Rattle.replate.proofs.kept.is_same.Goals as goal

pub returns : goal.returns
returns c =
    let before = c.args.jobs.now.before.now in
    let after = c.args.jobs.now.after.now in
    let old = c.page_at in
    let new = c.page_at-2 in
    let classes = c.args.jobs.now.classes.now in
    let is_old = page_is before.plan before.files c.args.old old.result.now c.requires.old old.ensures.page in
    let is_new = page_is after.plan after.files c.args.new new.result.now c.requires.new new.ensures.page in (
      λ same. is_old ∙ pages_tell before.files after.files classes old.result.now new.result.now c.requires.classes old.ensures.layers new.ensures.layers (c.same_page.ensures.0 same) ∙ sym is_new,
      λ alike. c.same_page.ensures.1 (pages_same before.files after.files classes old.result.now new.result.now c.requires.classes old.ensures.layers new.ensures.layers (sym is_old ∙ alike ∙ is_new)),
    )
