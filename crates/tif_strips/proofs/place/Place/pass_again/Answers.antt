-- The known rows come next, and are rows of their planes.
use Rattle.std.proofs.Common.{◌≡◌, ◌<◌, arith, rules}
use Rattle.tif_strips.specs.Strips.{plane_row_length}
use Rattle.tif_strips.proofs.Agains.{are_later, comes_again}
use Rattle.tif_strips.proofs.Places.{IsPlace-later}
use Rattle.tif_strips.proofs.place.Place.pass_again.Goals as goal

pub returns-clause-again : goal.returns-clause-again
returns-clause-again c = λ yes.
    comes_again c.args.table.now c.args.self.now c.args.colour c.args.last.now c.requires.place (omega arith) c.requires.planes c.requires.known (c.have_next.ensures (search rules))

pub returns-clause-known : goal.returns-clause-known
returns-clause-known c = λ yes.
    are_later c.args.table.now c.args.self.now c.args.colour c.args.last.now c.requires.place (omega arith) c.requires.planes c.requires.known (c.have_next.ensures (search rules))

pub returns-clause-place : goal.returns-clause-place
returns-clause-place c =
    let row : c.plane_row_len.result ≡ plane_row_length c.args.table.now.shape = rw c.shape.ensures.shape at c.plane_row_len.ensures.len in
    IsPlace-later c.args.table.now c.args.self.now 1 c.plane_row_len.result c.pass.new.self c.requires.place (omega arith) (omega arith) (omega arith) c.pass.ensures.left
