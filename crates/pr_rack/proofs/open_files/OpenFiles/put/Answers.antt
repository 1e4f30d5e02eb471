use Rattle.std.proofs.Common.{◌∙◌, Bool, List, Some, true, ap, is_some, slice_set}
use Rattle.std.proofs.lemmas.List.{map-set}
use Rattle.pr_rack.proofs.open_files.OpenFiles.put.Goals as goal

pub returns : goal.returns
returns c = map-set is_some c.self.inside.files c.args.slot (Some c.args.file) ∙ ap {A = List Bool} {B = List Bool} (λ slots. slice_set slots c.args.slot true) c.self.view_is
