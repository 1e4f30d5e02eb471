use Rattle.std.proofs.Common.{rules, ◌≡◌, ℕ, ◌+◌, ◌*◌, ◌<◌, List, length, replicate, refl, ap, sym, ◌∙◌, subst, arith}
use Rattle.std.specs.List.{All}
use Rattle.ring_rule.specs.Views.{left_word, ring_of}
use Rattle.ring_rule.specs.Empty.{IsEmptyLane}
use Rattle.ring_rule.specs.Laws.{IsFirst}
use Rattle.ring_rule.proofs.First.{first_of_words}
use Rattle.ring_rule.proofs.table.RingTable.new.Goals as goal

pub new-requires : goal.new-requires
new-requires g c =
    let deal = c.of.result.value in
    let same : deal ≡ c.args.deal.now = c.of.ensures in
    let places : c.from.result ≡ c.args.places = c.from.ensures in
    let readers : c.from-2.result ≡ c.args.readers = c.from-2.ensures in
    let ring = ring_of c.from.result c.from-2.result (g.D.Deal.rows deal) (g.D.Deal.size deal) in
    let some : 0 < c.from.result = omega arith in
    let small = c.requires.total in
    let rows : length (g.D.Deal.rows deal) ≡ length (g.D.Deal.rows c.args.deal.now) = ap (λ d. length (g.D.Deal.rows d)) same in
    let total : length (g.D.Deal.rows deal) < left_word = omega arith in
    let items : c.in_ok-words.words.items ≡ replicate {A = ℕ} (c.args.readers + 1) 0 = search rules in
    let words : c.as_slice.result.now ≡ replicate (c.from-2.result + 1) 0 = c.as_slice.ensures.value ∙ (items ∙ ap (λ n. replicate {A = ℕ} (n + 1) 0) (sym readers)) in
    let long : c.row_len.result ≡ g.D.Deal.size deal = c.row_len.ensures.size ∙ ap g.D.Deal.size (sym same) in
    let even : All (λ (row : List ℕ). length row ≡ ring.row_len) ring.rows = subst (λ x. x) (λ i. All (λ (row : List ℕ). length row ≡ long i) (g.D.Deal.rows (sym same i))) c.row_len.ensures.each in
    let deep : length c.in_ok-lanes.lanes.items ≡ c.from-2.result * c.from.result = c.in_ok-lanes.ensures.count ∙ (λ i. sym readers i * sym places i) in
    let empty : All (IsEmptyLane ring.row_len) c.in_ok-lanes.lanes.items = subst (λ n. All (IsEmptyLane n) c.in_ok-lanes.lanes.items) long c.in_ok-lanes.ensures.empty in
    let first : IsFirst ring c.in_ok-lanes.lanes.items = record { places = some; total = total; rows_in = refl; even = even; deep = deep; empty = empty } in
    first_of_words ring c.as_slice.result.now c.in_ok-lanes.lanes.items words first
