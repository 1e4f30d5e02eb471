use Rattle.std.proofs.Common.{length}
use Rattle.plan_parts.proofs.forms.+parts_name_files.Given as goal

abbrev pub decreases-parts_name_files : goal.decreases-parts_name_files
decreases-parts_name_files l = length l.text.now
