use Rattle.std.specs.Prelude.{codes}
use Rattle.job_gen.specs.Text.{printing_members}
use Rattle.job_gen.proofs.Listed.{member_more}
use Rattle.job_gen.proofs.text.put_printing.Goals as goal

pub returns : goal.returns
unfolding printing_members
returns c =
    member_more (codes "marks") _ _ _ _ _ c.in_ok-put-2.ensures.ok c.in_ok-marks.ensures
    (member_more (codes "screens") _ _ _ _ _ c.in_ok-put.ensures.ok c.in_ok-screens.ensures c.in_ok-put_members.ensures)
