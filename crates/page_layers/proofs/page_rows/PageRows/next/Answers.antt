use Rattle.std.proofs.Common.{◌∙◌}
use Rattle.page_layers.proofs.Only.{only-ink_at}
use Rattle.page_layers.proofs.page_rows.PageRows.next.Goals as goal

pub returns-clause-inks : goal.returns-clause-inks
returns-clause-inks c = λ x within. c.next_in.ensures.inks x within ∙ only-ink_at c.args.self.now.layers x c.args.self.now.next
