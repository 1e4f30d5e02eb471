use Rattle.plate_verify.proofs.Bounds.{rows-within}
use Rattle.plate_verify.proofs.Rights.{same-none, same_holds, held_same}
use Rattle.plate_verify.proofs.laws.same_is_a_yes.Goals as goal

pub returns-clause-held : goal.returns-clause-held
returns-clause-held c = same_holds

pub returns-clause-number : goal.returns-clause-number
returns-clause-number c = λ plan rows out held n e. (same-none plan rows out held n e).1

pub returns-clause-same : goal.returns-clause-same
returns-clause-same c = held_same

pub returns-clause-within : goal.returns-clause-within
returns-clause-within c = rows-within
