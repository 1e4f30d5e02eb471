use Rattle.std.proofs.Common.{ℕ, ◌<◌, ◌∙◌, List, length, sym, ap, subst, arith}
use Rattle.std.specs.Prelude.{drop}
use Rattle.std.proofs.lemmas.List.{drop-drop, length-drop}
use Rattle.replate.proofs.remaking.pass_over.Goals as goal

pub pass-requires : goal.pass-requires
pass-requires g c =
    let below = c.requires.below in
    subst (λ (rows : List (List ℕ)). 0 < length rows) (sym c.requires.feed) (omega (arith, below, length-drop c.args.deck.now.put c.args.deck.now.rows))

pub returns-clause-feed : goal.returns-clause-feed
returns-clause-feed g c = c.pass.ensures ∙ ap (drop 1) c.requires.feed ∙ drop-drop 1 c.args.deck.now.put c.args.deck.now.rows
