use Rattle.std.proofs.Common.{◌≡◌, ◌≤◌}
use Rattle.press_job.proofs.FindingLemmas.{AreRecorded}
use Rattle.press_job.proofs.LoadLemmas.{AreLoaded}
use Rattle.press_job.proofs.UntoldLemmas.{AreWithin}
use Rattle.press_job.proofs.loading.load_files.Given as goal

abbrev pub invariant-loop-file : goal.invariant-loop-file
invariant-loop-file g l = record {
  loaded : AreLoaded l.plan l.folder (g.H.Shelf.held l.initial.shelf) l.files.bytes l.file l.loaded;
  records : AreRecorded l.plan l.files;
  limits : AreWithin l.files.bytes;
  held : g.H.Shelf.held l.shelf ≡ g.H.Shelf.held l.initial.shelf;
  missed : g.H.Shelf.missed l.shelf ≡ g.H.Shelf.missed l.initial.shelf;
  faults : g.H.Shelf.faults l.shelf ≡ g.H.Shelf.faults l.initial.shelf;
  faults_stay : g.H.Shelf.faults l.initial.shelf ≤ g.H.Shelf.faults l.shelf;
  longs : g.H.Shelf.longs l.shelf ≡ g.H.Shelf.longs l.initial.shelf;
}
