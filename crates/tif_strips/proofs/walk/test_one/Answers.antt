use Rattle.std.proofs.Common.{◌≡◌, None, Some, ap, sym, ◌∙◌}
use Rattle.std.specs.Result.{result_err}
use Rattle.tif_strips.specs.Strip.{bytes_at, fault_of}
use Rattle.tif_strips.specs.Strips.{fault_of_strip, stored_bytes}
use Rattle.tif_strips.proofs.Faults.{bytes_at-passed, fault_of_strip-is}
use Rattle.tif_strips.proofs.Marks.{strip_marked}
use Rattle.tif_strips.proofs.Walks.{among-one}
use Rattle.tif_strips.proofs.walk.test_one.Goals as goal

pub returns-then-is_again-clause-fault : goal.returns-then-is_again-clause-fault
returns-then-is_again-clause-fault c =
    let image = c.args.table.now in
    let fault = fault_of_strip-is image.shape image.bytes c.args.i ∙ ap (fault_of image.shape.packed image.bytes) (sym c.strip-strip.ensures) in
    sym (among-one image c.args.i ∙ fault ∙ c.requires.passed c.strip-strip.result (c.is_again.ensures.0 c.if-is_again.true))

pub returns-in-Ok-clause-fault : goal.returns-in-Ok-clause-fault
returns-in-Ok-clause-fault c =
    let image = c.args.table.now in
    let fault = fault_of_strip-is image.shape image.bytes c.args.i ∙ ap (fault_of image.shape.packed image.bytes) (sym c.strip-strip.ensures) in
    sym (among-one image c.args.i ∙ fault ∙ sym c.check.ensures.fault ∙ ap result_err c.in-Ok.is)

pub returns-in-Ok-clause-marks : goal.returns-in-Ok-clause-marks
returns-in-Ok-clause-marks c =
    let image = c.args.table.now in
    let fault = fault_of_strip-is image.shape image.bytes c.args.i ∙ ap (fault_of image.shape.packed image.bytes) (sym c.strip-strip.ensures) in
    let none : fault_of_strip image.shape image.bytes c.args.i ≡ None = fault ∙ sym c.check.ensures.fault ∙ ap result_err c.in-Ok.is in
    let there : bytes_at image.bytes c.strip-strip.result ≡ Some (stored_bytes image.shape image.bytes c.args.i) = ap (bytes_at image.bytes) c.strip-strip.ensures ∙ bytes_at-passed image.shape image.bytes c.args.i none in
    let held = rw c.in-Ok.is at c.check.ensures.marks in
    λ ok. strip_marked image c.args.i c.args.per c.check.new.marks (c.check.auto.marks ∙ c.requires.room) (rw there at held)

pub returns-in-Err-clause-fault : goal.returns-in-Err-clause-fault
returns-in-Err-clause-fault c =
    let image = c.args.table.now in
    let fault = fault_of_strip-is image.shape image.bytes c.args.i ∙ ap (fault_of image.shape.packed image.bytes) (sym c.strip-strip.ensures) in
    sym (among-one image c.args.i ∙ fault ∙ sym c.check.ensures.fault ∙ ap result_err c.in-Err.is)
