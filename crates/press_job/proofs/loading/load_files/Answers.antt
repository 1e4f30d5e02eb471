use Rattle.std.proofs.Common.{◌≡◌, ◌≤◌, ℕ, List, length, ap, sym, subst, refl, ◌∙◌, rules, arith}
use Rattle.std.specs.Prelude.{IfSome, Option, Some}
use Rattle.std.proofs.lemmas.Result.{err_from_is_err_and}
use Rattle.pr_ports.specs.Shelf.{held_at}
use Rattle.press_job.specs.declared.refusal.Refusal.TheVariants.{File}
use Rattle.press_job.specs.Findings.{FilesData}
use Rattle.press_job.specs.Verdict.{WasFound, limit_behind, path_of, verdict_on}
use Rattle.press_job.proofs.FindingLemmas.{layers_found, none_recorded, recorded_more}
use Rattle.press_job.proofs.LoadLemmas.{IfFile-weaker, loaded_more, none_loaded, refused_told}
use Rattle.press_job.proofs.UntoldLemmas.{AreWithin, are_first, none_within, refused_of, within_more}
use Rattle.press_job.proofs.loading.load_files.Goals as goal

pub loop-file-init : goal.loop-file-init
loop-file-init g c = record {
  loaded = none_loaded c.args.plan.now c.args.folder.now (g.H.Shelf.held c.args.shelf.now) c.new-files.result.bytes (ap {A = FilesData} (λ f. f.bytes) c.new-files.ensures);
  records = none_recorded c.args.plan.now c.new-files.result c.new-files.ensures;
  limits = none_within c.new-files.result.bytes (ap {A = FilesData} (λ f. f.bytes) c.new-files.ensures);
  held = refl;
  missed = refl;
  faults = refl;
  faults_stay = omega arith;
  longs = refl;
}

pub loop-file-preserved : goal.loop-file-preserved
loop-file-preserved g c =
    let all = c.loop-file.invariant in
    record {
      loaded =
          loaded_more c.args.plan.now c.args.folder.now (g.H.Shelf.held c.args.shelf.now) c.loop-file.files.bytes c.push.new.self.bytes c.loop-file.file c.loop-file.loaded c.limit_behind-limit.result c.len.result c.in_ok-bytes.bytes.items
          all.loaded (ap {A = FilesData} (λ f. f.bytes) c.in_ok-push.ensures) c.limit_behind-limit.ensures.limit c.limit_behind-limit.ensures.within c.in_ok-bytes.ensures.within (first_of (omega arith, search rules, grind arith))
          (subst {A = Option (List (List ℕ × List ℕ))} (λ held. IfSome held (λ files. held_at files (path_of c.args.plan.now c.args.folder.now c.loop-file.file) ≡ Some c.in_ok-bytes.bytes.items)) all.held c.in_ok-bytes.ensures.bytes)
          c.in_ok-bytes.ensures.passed;
      records = recorded_more c.args.plan.now c.loop-file.files c.push.new.self c.loop-file.file c.in_ok-bytes.bytes.items c.in_ok-bytes.found all.records all.loaded.count c.in_ok-bytes.ensures.records c.in_ok-push.ensures;
      limits = subst {A = List (List ℕ)} AreWithin (sym (ap {A = FilesData} (λ f. f.bytes) c.in_ok-push.ensures)) (within_more c.loop-file.files.bytes c.in_ok-bytes.bytes.items all.limits (subst {A = ℕ} (λ most. length c.in_ok-bytes.bytes.items ≤ most) (c.limit_behind-limit.ensures.limit ∙ ap limit_behind (sym all.loaded.room)) c.in_ok-bytes.ensures.within));
      held = c.in_ok-bytes.ensures.shelf.held ∙ all.held;
      missed = c.in_ok-bytes.ensures.shelf.done_missed ∙ all.missed;
      faults = c.in_ok-bytes.ensures.shelf.done_faults ∙ all.faults;
      faults_stay = omega (arith, c.in_ok-bytes.ensures.shelf.faults_stay, all.faults_stay);
      longs = c.in_ok-bytes.ensures.shelf.done_longs ∙ all.longs;
    }

pub returns-in_err-bytes-clause-refused : goal.returns-in_err-bytes-clause-refused
returns-in_err-bytes-clause-refused g c =
    let all = c.loop-file.invariant in
    let p = err_from_is_err_and c.from_residual.result c.from_residual.ensures.1 in
    rw (p.1, p.2)
    (IfFile-weaker ℕ ℕ c.in_err-bytes.field-0.0 _ _
    (λ fault h. refused_told c.args.plan.now c.args.folder.now (g.H.Shelf.held c.args.shelf.now) c.loop-file.files.bytes c.loop-file.file c.limit_behind-limit.result fault all.loaded.count (omega (arith, ap {A = List (List ℕ)} length c.files-count.ensures.files)) all.loaded.first
    (c.limit_behind-limit.ensures.limit ∙ ap limit_behind (sym all.loaded.room))
    (subst {A = Option (List (List ℕ × List ℕ))}
    (λ held. IfSome held (λ files. verdict_on c.args.plan.now c.args.folder.now c.limit_behind-limit.result c.loop-file.file (held_at files (path_of c.args.plan.now c.args.folder.now c.loop-file.file)) ≡ Some (File fault))) all.held h))
    c.in_err-bytes.ensures.refused)

pub returns-in_err-bytes-clause-faulty : goal.returns-in_err-bytes-clause-faulty
returns-in_err-bytes-clause-faulty g c =
    let all = c.loop-file.invariant in
    let p = err_from_is_err_and c.from_residual.result c.from_residual.ensures.1 in
    let file = c.loop-file.file in
    let limit = c.limit_behind-limit.result in
    rw (p.1, p.2)
    (IfFile-weaker ℕ ℕ c.in_err-bytes.field-0.0 _ _
    (λ fault was. refused_of c.args.plan.now c.args.folder.now (g.H.Shelf.held c.args.shelf.now) c.loop-file.files.bytes file limit fault c.files-count.ensures.plan.file_names all.loaded.count (omega (arith, ap {A = List (List ℕ)} length c.files-count.ensures.files)) all.loaded.first all.limits all.loaded.passed
    (c.limit_behind-limit.ensures.limit ∙ ap limit_behind (sym all.loaded.room))
    (subst {A = Option (List (List ℕ × List ℕ))} (λ held. WasFound c.args.plan.now c.args.folder.now held limit file fault) all.held was))
    c.in_err-bytes.ensures.found)

pub returns-clause-sound : goal.returns-clause-sound
returns-clause-sound g c =
    let loaded = c.loop-file.invariant.loaded in
    are_first c.args.plan.now c.args.folder.now (g.H.Shelf.held c.args.shelf.now) c.loop-file.files.bytes c.files-count.ensures.plan.file_names (omega (arith, loaded.count, c.loop-file.auto.file-end, ap {A = List (List ℕ)} length c.files-count.ensures.files)) loaded.first c.loop-file.invariant.limits loaded.passed

pub returns-clause-found : goal.returns-clause-found
returns-clause-found g c =
    let all = c.loop-file.invariant in
    layers_found c.args.plan.now c.loop-file.files c.files-count.ensures.plan (omega (arith, all.loaded.count, c.loop-file.auto.file-end, ap {A = List (List ℕ)} length c.files-count.ensures.files)) all.records
