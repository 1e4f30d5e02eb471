use Rattle.std.proofs.Common.{◌≡◌, ◌≤◌, ◌+◌, ◌++◌, ℕ, take, length, replicate, arith, ap, ◌∙◌}
use Rattle.std.proofs.lemmas.Grind.{common_steps}
use Rattle.std.proofs.lemmas.List.{take_all}
use Rattle.std.proofs.Math.Seq.{take-append_seam}
use Rattle.pr_ports.proofs.Readers.{piece_came}
use Rattle.pr_ports.proofs.host_shelf.read_piece.Goals as goal

pub returns-in-Some-clause-came : goal.returns-in-Some-clause-came
returns-in-Some-clause-came g c =
    let len : c.len-len.result ≡ length c.args.bytes.now.items = grind (arith, common_steps) in
    let room : c.resize.new.self.items ≡ c.args.bytes.now.items ++ replicate c.args.most 0 = grind (arith, common_steps, take_all {A = ℕ}) in
    let long : length c.read_behind.new.into ≡ length c.resize.new.self.items = grind (arith, common_steps) in
    let front : take (length c.args.bytes.now.items) c.read_behind.new.into ≡ take (length c.args.bytes.now.items) c.resize.new.self.items = grind (arith, common_steps) in
    let within : length c.args.bytes.now.items + c.in-Some.count ≤ length c.read_behind.new.into = grind (arith, common_steps) in
    let whole : c.resize.new.self.len ≡ length c.read_behind.new.into = grind (arith, common_steps) in
    let cut : c.truncate.new.self.items ≡ take (length c.args.bytes.now.items + c.in-Some.count) c.read_behind.new.into =
    c.truncate.ensures.items ∙ ap (take (c.len-len.result + c.in-Some.count)) (rw whole (take-append_seam c.read_behind.new.into _))
    ∙ ap (λ n. take (n + c.in-Some.count) c.read_behind.new.into) len in
    piece_came _ _ c.args.bytes.now.items c.resize.new.self.items c.read_behind.new.into c.truncate.new.self.items c.args.most c.in-Some.count
    c.requires room long front within (rw len at c.in-Some.ensures.bytes.0) (rw len at c.in-Some.ensures.bytes.1) cut
