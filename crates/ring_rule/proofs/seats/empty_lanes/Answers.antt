use Rattle.std.proofs.Common.{rules, ◌≡◌, ℕ, [], ◌∷◌, ◌++◌, length, replicate, refl, ap, sym, ◌∙◌, subst, arith, length-append}
use Rattle.std.specs.Prelude.{Some, None}
use Rattle.std.specs.List.{All}
use Rattle.std.proofs.lemmas.List.{length-replicate}
use Rattle.std.proofs.lemmas.List.Elements.{All-push}
use Rattle.ring_rule.specs.declared.lane.Lane.{Lane}
use Rattle.ring_rule.specs.Shown.{Slot}
use Rattle.ring_rule.specs.Empty.{IsEmptyLane}
use Rattle.ring_rule.proofs.seats.empty_lanes.Goals as goal

pub loop-lane-preserved : goal.loop-lane-preserved
loop-lane-preserved c =
    let bytes = c.in_ok-bytes.bytes in
    let items : bytes.items ≡ replicate {A = ℕ} c.args.row_len 0 = search rules in
    let long : length bytes.items ≡ c.args.row_len = ap length items ∙ length-replicate {A = ℕ} c.args.row_len 0 in
    let lane : Lane = record { number = None; bytes = bytes } in
    let slot : Slot = Some lane in
    let more : c.push.new.self.items ≡ c.loop-lane.lanes.items ++ slot ∷ [] = search rules in
    let count = c.loop-lane.invariant.count in
    let longer = length-append c.loop-lane.lanes.items (slot ∷ []) in
    let both = ap length more in
    record {
      count = omega arith;
      empty = subst (λ xs. All (IsEmptyLane c.args.row_len) xs) (sym more) (All-push (IsEmptyLane c.args.row_len) c.loop-lane.lanes.items slot c.loop-lane.invariant.empty record { lane = lane; is = refl; number = refl; long = long });
    }
