use Rattle.std.proofs.Common.{◌+◌, Vec, Global, vec_len, map, ◌≡◌, ℕ, true, false, ◌||◌, Bool, Option, Some, None, is_some, sym, ◌∙◌, refl, ap, arith, length, List, get_or, ◌<◌}
use Rattle.std.proofs.lemmas.List.{get_or_read, with_items_is, length-map}
use Rattle.std.specs.Vec.{with_items}
use Rattle.std.proofs.lemmas.Bool.{and_from, and_right, lt-ltb}
use Rattle.std.specs.Prelude.{is_none, nat_lt}
use Rattle.ring_core.specs.Schedule.{readers, progress_of, lanes_of}
use Rattle.ring_core.specs.Events.{each_below, is_ready}
use Rattle.ring_core.specs.Shown.{schedule_in}
use Rattle.ring_core.proofs.Whole.{each_below_yes, each_below_no}
use Rattle.ring_core.proofs.state.Core.publish.Goals as goal

not_none : (o : Option ℕ) (f : Bool) → is_some o ≡ true → f ≡ false → (is_none o || f) ≡ false
not_none None f s t = cc
not_none (Some k) f s t = t

not_ready : (ks : List (Option ℕ)) (fs : List Bool) (r : ℕ) (o : Option ℕ) (f : Bool) → r < length ks
    → r < length fs → o ≡ get_or ks r o → f ≡ get_or fs r f → is_some o ≡ true → f ≡ false
    → (is_none (get_or ks r None) || get_or fs r false) ≡ false
not_ready ks fs r o f h k a b s t =
    let a' = get_or_read ks r o h a None in
    let b' = get_or_read fs r f k b false in
    not_none (get_or ks r None) (get_or fs r false) (ap is_some (sym a') ∙ s) (sym b' ∙ t)

pub returns-then-not-index : goal.returns-then-not-index
returns-then-not-index c =
    let s = schedule_in c.args.self.now in
    let p : ℕ → Bool = λ r. is_ready (progress_of s r) (lanes_of s r) in
    let z = c.requires.sized in
    let below : c.loop-reader.reader < readers s = omega (arith, z.known, c.len-reader-end.ensures) in
    let known : c.loop-reader.reader < length s.known = omega (arith, z.known) in
    let filled : c.loop-reader.reader < length s.filled = omega (arith, z.filled) in
    let some : is_some c.index.result.now ≡ true = sym c.is_some.ensures ∙ c.if-is_some.true in
    let no : p c.loop-reader.reader ≡ false = not_ready s.known s.filled c.loop-reader.reader c.index.result.now c.index-then-is_some.result.now known filled c.index.ensures c.index-then-is_some.ensures some c.if-not-index.true in
    (and_right (nat_lt s.head s.total) (each_below (readers s) p) (each_below_no (readers s) p c.loop-reader.reader below no), refl)

-- the flags of a Vec after all were set to false
cleared : (v : Vec Bool Global) (ws old : List Bool) → length old ≡ vec_len v → old ≡ v.items
    → ws ≡ map (λ (b : Bool). false) old → (with_items v ws).items ≡ map (λ (b : Bool). false) v.items
cleared v ws old n is e = with_items_is v ws (ap length e ∙ (length-map old (λ (b : Bool). false) ∙ n)) ∙ (e ∙ ap (λ xs. map (λ (b : Bool). false) xs) is)

pub returns : goal.returns
returns c =
    let s = schedule_in c.args.self.now in
    let p : ℕ → Bool = λ r. is_ready (progress_of s r) (lanes_of s r) in
    let z = c.requires.sized in
    let lt : s.head < s.total = omega arith in
    let each : (k : ℕ) → k < readers s → p k ≡ true = λ k h. c.loop-reader.invariant k (omega (arith, z.known, c.len-reader-end.ensures)) in
    (and_from (nat_lt s.head s.total) (each_below (readers s) p) (lt-ltb s.head s.total lt) (each_below_yes (readers s) p each), ap (λ (fs : List Bool). record s { head = s.head + 1; filled = fs }) (cleared c.args.self.now.filled c.clear.new.flags c.as_mut_slice.result.now c.as_mut_slice.ensures.len c.as_mut_slice.ensures.value c.clear.ensures))
