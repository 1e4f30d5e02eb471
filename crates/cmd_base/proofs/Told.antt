-- Outcomes of a command after its text was written.
use Rattle.std.proofs.Common.{ℕ, List, Result, Ok, Err, subst, sym, inl, inr, refl}
use Rattle.cmd_base.specs.declared.refusal.Stop.{Stop}
use Rattle.cmd_base.specs.declared.refusal.Stop.TheVariants as stop
use Rattle.cmd_base.specs.Seen.{ShelfSeen, SinkSeen}
use Rattle.cmd_base.specs.Task.{Answers, Makes, Puts, Rules, Told, telling}

-- the outcome of a command that leaves the racks unchanged
pub told_answers : {R : Type 0} (rules : Rules) (Tells : ShelfSeen → List ℕ → ℕ → Type 0) (shelf : ShelfSeen)
    (racks : List R) (out : SinkSeen) (result : Result ℕ Stop) → Told rules Tells shelf out result
    → Answers rules (telling Tells) shelf racks racks out result
told_answers rules Tells shelf racks out (Ok status) whole =
    record { text = whole.text; prints = (whole.tells, refl); grew = whole.grew }
told_answers rules Tells shelf racks out (Err (stop.Refused refusal)) (met, silent) = (met, refl, silent)
told_answers rules Tells shelf racks out (Err stop.Memory) (inl same) = inl (refl, same)
told_answers rules Tells shelf racks out (Err stop.Memory) (inr front) =
    inr (inl (record { text = front.text; status = front.status; prints = (front.tells, refl); grew = front.grew }))
told_answers rules Tells shelf racks out (Err stop.Printing) (front, rose) =
    (record { text = front.text; status = front.status; prints = (front.tells, refl); grew = front.grew }, rose)

-- the outcome after its text was written
pub put_tells : (rules : Rules) (Tells : ShelfSeen → List ℕ → ℕ → Type 0) (shelf : ShelfSeen) (out : SinkSeen)
    (text : List ℕ) (own : ℕ) (result : Result ℕ Stop) → Tells shelf text own → Puts text own out result
    → Told rules Tells shelf out result
put_tells rules Tells shelf out text own (Ok status) tells (is, grew) =
    record { text = text; tells = let P : ℕ → Type 0 = λ s. Tells shelf text s in subst P (sym is) tells; grew = grew }
put_tells rules Tells shelf out text own (Err (stop.Refused refusal)) tells h = absurd h
put_tells rules Tells shelf out text own (Err stop.Memory) tells front =
    inr (record { text = text; status = own; tells = tells; grew = front })
put_tells rules Tells shelf out text own (Err stop.Printing) tells (front, rose) =
    (record { text = text; status = own; tells = tells; grew = front }, rose)

-- the outcome of a command over racks after its text was written
pub put_makes : {R : Type 0} (rules : Rules) (makes : Makes R) (shelf : ShelfSeen) (racks racks' : List R) (out : SinkSeen)
    (text : List ℕ) (own : ℕ) (result : Result ℕ Stop) → makes.Prints shelf racks racks' text own → Puts text own out result
    → Answers rules makes shelf racks racks' out result
put_makes rules makes shelf racks racks' out text own (Ok status) prints (is, grew) = record {
  text = text;
  prints = let P : ℕ → Type 0 = λ s. makes.Prints shelf racks racks' text s in subst P (sym is) prints;
  grew = grew;
}
put_makes rules makes shelf racks racks' out text own (Err (stop.Refused refusal)) prints h = absurd h
put_makes rules makes shelf racks racks' out text own (Err stop.Memory) prints front =
    inr (inl (record { text = text; status = own; prints = prints; grew = front }))
put_makes rules makes shelf racks racks' out text own (Err stop.Printing) prints (front, rose) =
    (record { text = text; status = own; prints = prints; grew = front }, rose)
