use Rattle.std.proofs.Common.{◌≡◌, take, length, ap, ◌∙◌, arith}
use Rattle.std.proofs.lemmas.Grind.{common_steps}
use Rattle.std.proofs.Math.Seq.{take-append_seam}
use Rattle.pr_ports.proofs.Offsets.{front_cut}
use Rattle.pr_ports.proofs.long_file.read_front.Goals as goal

pub returns-clause-front : goal.returns-clause-front
returns-clause-front g c =
    let into = c.fill_wide-count.new.into in
    let long : c.resize.new.self.len ≡ length into = grind (arith, common_steps) in
    let cut : c.truncate.new.self.items ≡ take c.fill_wide-count.result into =
    c.truncate.ensures.items ∙ ap (take c.fill_wide-count.result) (rw long (take-append_seam into _)) in
    front_cut _ into c.truncate.new.self.items c.fill_wide-count.result cut c.fill_wide-count.ensures.within c.fill_wide-count.ensures.front
