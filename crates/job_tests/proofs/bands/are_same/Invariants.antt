use Rattle.std.proofs.Common.{◌≡◌, drop}
use Rattle.press_job.specs.Rows.{plate_frames}
use Rattle.job_tests.proofs.bands.are_same.Given as goal

abbrev pub invariant-loop-n : goal.invariant-loop-n
invariant-loop-n g l = record {
  one : g.F.RowFeed.left l.one ≡ drop l._n (plate_frames l.job.plan l.job.files);
  wide : g.W.RowFeed.left l.wide ≡ drop l._n (plate_frames l.job.plan l.job.files);
}
