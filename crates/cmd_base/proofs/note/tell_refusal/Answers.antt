use Rattle.std.proofs.Common.{◌∙◌, subst, List, ℕ, inr, refl}
use Rattle.pr_ports.specs.Sink.{GrewByPrefix}
use Rattle.cmd_base.proofs.Grow.{second_front, both_fronts, once_behind}
use Rattle.cmd_base.proofs.note.tell_refusal.Goals as goal

pub returns-in_default : goal.returns-in_default
returns-in_default g c = inr (inr (c.tell_memory.ensures.status, second_front _ _ _ _ c.tell_memory.ensures.note, c.tell_memory.ensures.once))

pub returns : goal.returns
returns g c =
    let P : List ℕ → Type 0 = λ line. GrewByPrefix (g.E.Sink.given c.args.note.now) (g.E.Sink.given c.put.new.self) line in
    let put = rw c.in-Err-Memory.field-0-is at c.in-Err-Memory.ensures in
    inr (inr (
      c.tell_memory-in-Err-Memory.ensures.status,
      both_fronts _ _ _ _ _ (subst P (c.as_bytes.ensures.value ∙ c.in-Ok.ensures) c.in-Err-Memory.ensures.refused) c.tell_memory-in-Err-Memory.ensures.note,
      once_behind _ _ _ (put.uncounted refl) c.tell_memory-in-Err-Memory.ensures.once,
    ))
