use Rattle.std.proofs.Common.{◌≡◌, ◌++◌, ℕ, List, length, drop, arith, sym, ap, ◌∙◌}
use Rattle.tif_plate.specs.Plate.{bytes_behind}
use Rattle.tif_plate.specs.Put.{Puts}
use Rattle.tif_plate.specs.Tail.{begins}
use Rattle.tif_plate.proofs.Length.{length-behind}
use Rattle.tif_plate.proofs.Puts.{Puts-first}
use Rattle.tif_plate.proofs.Tails.{tail-written}
use Rattle.tif_plate.proofs.tail.plate_tail.Goals as goal

pub returns-clause-len : goal.returns-clause-len
returns-clause-len c =
    rw (← c.strips_end-end.ensures) (omega (arith, length-behind c.args.width c.args.height c.args.dpi c.strips_end-end.result (begins c.args.counts.now) c.args.counts.now))

pub returns-clause-written : goal.returns-clause-written
returns-clause-written c =
    let bytes : List ℕ = bytes_behind c.args.width c.args.height c.args.dpi c.strips_end-end.result (begins c.args.counts.now) c.args.counts.now in
    let all : Puts 0 bytes c.args.into.now c.put_table-len.new.into =
    tail-written c.args.width c.args.height c.args.dpi c.strips_end-end.result _ _ _ _ (begins c.args.counts.now) c.args.counts.now _ _ _ _ _ _
    c.put_zeros-at.ensures.put c.put_zeros-at.ensures.at c.put_directory-at.ensures.put c.put_directory-at.ensures.at
    c.put_whole-at.ensures.put c.put_whole-at.ensures.at c.put_whole-at-2.ensures.put c.put_whole-at-2.ensures.at c.put_table-len.ensures.put in
    let len : c.put_table-len.result ≡ length bytes =
    omega (arith, length-behind c.args.width c.args.height c.args.dpi c.strips_end-end.result (begins c.args.counts.now) c.args.counts.now) in
    rw (← c.strips_end-end.ensures) (Puts-first bytes c.args.into.now c.put_table-len.new.into all ∙ ap (λ n. bytes ++ drop n c.args.into.now) (sym len))
