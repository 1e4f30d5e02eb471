use Rattle.ring_rule.proofs.writer.WriterSeat.fill.Given as goal

abbrev pub ghosts-pick : goal.ghosts-pick
ghosts-pick g a = record { reader = a.reader }
