use Rattle.cmd_base.specs.Line.{memory_line}
use Rattle.cmd_base.proofs.Grow.{put_front, put_once}
use Rattle.cmd_base.proofs.note.tell_memory.Goals as goal

pub returns-clause-note : goal.returns-clause-note
returns-clause-note g c = put_front c.put.result _ _ memory_line c.put.ensures.taken c.put.ensures.refused

pub returns-clause-once : goal.returns-clause-once
returns-clause-once g c = put_once c.put.result _ _ c.put.ensures.once c.put.ensures.uncounted
