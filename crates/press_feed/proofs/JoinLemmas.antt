-- Rows of both sides, joined to a row of a plate.
use Rattle.std.proofs.Common.{inl, inr, ◌≡◌, ℕ, ◌+◌, ◌-◌, ◌*◌, ◌/◌, ◌%◌, ◌<◌, ◌≤◌, Bool, true, false, ◌||◌, eqb, max, List, length, replicate, get_or, set, take, drop, refl, ap, sym, ◌∙◌, subst, arith}
use Rattle.std.specs.Prelude.{bit_or}
use Rattle.std.proofs.lemmas.Bool.{cases_lt}
use Rattle.std.proofs.lemmas.Bool.Decides.{nat_tests}
use Rattle.std.proofs.lemmas.Grind.{get_or-set_at}
use Rattle.std.proofs.lemmas.List.{get_or-drop, get_or-set_other, get_or-take}
use Rattle.std.proofs.lemmas.Nat.Bits.{bit_at_or, bit_at-lt}
use borrow.Rule.Slice.PartMut.{put_mid}
use Rattle.pr_base.specs.Bits.{SetsBits, bit_at, byte_bit}
use Rattle.pr_base.specs.Row.{row_size}
use Rattle.pr_base.specs.declared.ink.Ink.{Ink}
use Rattle.pr_base.proofs.Parts.{part_above, part_below, part_here}
use Rattle.plan_pages.specs.Plate.{shape_of_plate}
use Rattle.plan_rows.specs.declared.group.Group.{Group}
use Rattle.press_job.specs.Job.{JobData}
use Rattle.press_job.specs.Printing.{page_bit}
use Rattle.press_feed.specs.declared.side.Side.{Side}
use Rattle.press_feed.specs.declared.side.Side.TheVariants.{Left, Right}
use Rattle.press_feed.specs.Drawn.{DrawnData, HasRow, IsClearBeside, ShowsRowOf, side_byte}
use Rattle.press_feed.specs.PlateRow.{IsJoined, IsRowsOf, IsUnion}
use Rattle.press_feed.specs.Plates.{DrawsPages}
use Rattle.press_feed.proofs.PlateLemmas.{bit_at-zeros, pages_set}

-- ---- bytes joined with others

max_is_one : (p q : ℕ) → p < 2 → q < 2 → eqb (max p q) 1 ≡ (eqb p 1 || eqb q 1)
max_is_one p q left right = grind (arith, nat_tests)

byte_bit-or : (a b k : ℕ) → byte_bit (bit_or a b) k ≡ (byte_bit a k || byte_bit b k)
byte_bit-or a b k =
    ap (λ n. eqb n 1) (bit_at_or a b (7 - k)) ∙ max_is_one _ _ (bit_at-lt a (7 - k)) (bit_at-lt b (7 - k))

-- the first k bytes were joined, and the others are unchanged
pub record IsUnionTo (row old : List ℕ) (k : ℕ) (now : List ℕ) : Type 0 where
  pub joined : (j : ℕ) → j < k → get_or now j 0 ≡ bit_or (get_or old j 0) (get_or row j 0)
  pub others : (j : ℕ) → k ≤ j → get_or now j 0 ≡ get_or old j 0

pub union_more : (row old now : List ℕ) (k : ℕ) → k < length now → IsUnionTo row old k now → IsUnionTo row old (k + 1) (set now k (bit_or (get_or now k 0) (get_or row k 0)))
union_more row old now k within is = record {
  joined = λ j less. elim (cases_lt j k) [
    | inl below ↦ get_or-set_other now k j _ 0 (λ e. absurd (omega arith)) ∙ is.joined j below
    | inr above ↦
        (let same : j ≡ k = omega arith in
        get_or-set_at now k j _ 0 same within ∙ ap (λ b. bit_or b (get_or row k 0)) (is.others k (omega arith)) ∙ ap (λ i. bit_or (get_or old i 0) (get_or row i 0)) (sym same))
  ];
  others = λ j above. get_or-set_other now k j _ 0 (λ e. absurd (omega arith)) ∙ is.others j (omega arith);
}

-- a part of a row that was joined
pub joined_part : (row old part : List ℕ) (at cut to : ℕ) → at + length row ≤ length old → cut ≡ length row → to ≡ at + length row → length part ≡ cut
    → IsUnion row (take (to - at) (drop at old)) part → IsJoined row at old (put_mid at cut old part)
joined_part row old part at cut to room cut_is to_is long union = record {
  inside = λ k within.
      let back : at + k - at ≡ k = omega arith in
      part_here at cut old part (at + k) (omega arith) (omega arith) (omega arith) (omega arith) ∙ ap (λ j. get_or part j 0) back ∙ union.each k within
      ∙ ap (λ b. bit_or b (get_or row k 0)) (get_or-take (to - at) (drop at old) k 0 (omega arith) ∙ get_or-drop at old k 0);
  before = λ k below. part_below at cut old part k (omega arith) below;
  behind = λ k above. part_above at cut old part k (omega arith) (omega arith) (omega arith);
}

-- ---- pixels of a row joined with another

-- a pixel of the other row
bit_in : (row : List ℕ) (at : ℕ) (old new : List ℕ) (j : ℕ) → IsJoined row at old new → j / 8 < length row → bit_at new (8 * at + j) ≡ (bit_at old (8 * at + j) || bit_at row j)
bit_in row at old new j is within =
    let byte : (8 * at + j) / 8 ≡ at + j / 8 = omega arith in
    let bit : (8 * at + j) % 8 ≡ j % 8 = omega arith in
    let k = (8 * at + j) % 8 in
    ap (λ i. byte_bit (get_or new i 0) k) byte ∙ ap (λ b. byte_bit b k) (is.inside (j / 8) within)
    ∙ byte_bit-or (get_or old (at + j / 8) 0) (get_or row (j / 8) 0) k
    ∙ ap (λ i. byte_bit (get_or old i 0) k || byte_bit (get_or row (j / 8) 0) k) (sym byte)
    ∙ ap (λ m. bit_at old (8 * at + j) || byte_bit (get_or row (j / 8) 0) m) bit

or_false : (b : Bool) → (b || false) ≡ b
or_false true = refl
or_false false = refl

-- a pixel at which the other row has none
unset : (row : List ℕ) (at : ℕ) (old new : List ℕ) (x : ℕ) → IsJoined row at old new → ((j : ℕ) → x ≡ 8 * at + j → bit_at row j ≡ false) → bit_at new x ≡ bit_at old x
unset row at old new x is none =
    elim (cases_lt (x / 8) at) [
      | inl before ↦ ap (λ b. byte_bit b (x % 8)) (is.before (x / 8) before)
      | inr above ↦
          elim (cases_lt (x / 8) (at + length row)) [
            | inl inside ↦
                (let j = x - 8 * at in
                let there : x ≡ 8 * at + j = omega arith in
                ap (bit_at new) there ∙ bit_in row at old new j is (omega arith) ∙ ap (λ b. bit_at old (8 * at + j) || b) (none j there)
                ∙ or_false (bit_at old (8 * at + j)) ∙ ap (bit_at old) (sym there))
            | inr behind ↦ ap (λ b. byte_bit b (x % 8)) (is.behind (x / 8) behind)
          ]
    ]

-- a row whose pixels are set by a test from bit e % 8 on, joined from byte e / 8 on where nothing was set
sets_joined : (test : ℕ → Bool) (e width : ℕ) (row old new : List ℕ) → IsJoined row (e / 8) old new → length row ≡ row_size (e % 8 + width)
    → ((x : ℕ) → x < e % 8 → bit_at row x ≡ false) → ((x : ℕ) → e % 8 + width ≤ x → bit_at row x ≡ false) → ((x : ℕ) → x < width → bit_at row (e % 8 + x) ≡ test x)
    → ((x : ℕ) → x < width → bit_at old (e + x) ≡ false) → SetsBits test e width old new
sets_joined test e width row old new is long before behind shows blank = record {
  inside = λ x less.
      let there : e + x ≡ 8 * (e / 8) + (e % 8 + x) = omega arith in
      ap (bit_at new) there ∙ bit_in row (e / 8) old new (e % 8 + x) is (omega arith)
      ∙ ap (λ b. b || bit_at row (e % 8 + x)) (ap (bit_at old) (sym there) ∙ blank x less) ∙ shows x less;
  before = λ k below. unset row (e / 8) old new k is (λ j there. before j (omega arith));
  behind = λ k above. unset row (e / 8) old new k is (λ j there. behind j (omega arith));
}

-- ---- rows of both sides

pub clear_row : (job : JobData) (side : Side) (ink : Ink) (drawn : DrawnData) (row : List ℕ) → IsRowsOf job side ink drawn → IsClearBeside drawn.job.plan drawn.side row
    → IsClearBeside job.plan side row
clear_row job side ink drawn row of clear =
    subst {A = JobData} (λ j. IsClearBeside j.plan side row) of.job_is (subst {A = Side} (λ s. IsClearBeside drawn.job.plan s row) of.side_is clear)

pub shown_row : (job : JobData) (side : Side) (ink : Ink) (page y : ℕ) (drawn : DrawnData) (row : List ℕ) → IsRowsOf job side ink drawn → HasRow drawn page y
    → ShowsRowOf drawn.job drawn.side drawn.page drawn.ink y row → ShowsRowOf job side page ink y row
shown_row job side ink page y drawn row of has shows =
    subst {A = JobData} (λ j. ShowsRowOf j side page ink y row) of.job_is
    (subst {A = Side} (λ s. ShowsRowOf drawn.job s page ink y row) of.side_is
    (subst {A = ℕ} (λ p. ShowsRowOf drawn.job drawn.side p ink y row) has.page_is
    (subst {A = Ink} (λ i. ShowsRowOf drawn.job drawn.side drawn.page i y row) of.ink_is shows)))

-- rows of both sides joined to a blank row
pub sides_joined : (job : JobData) (group : Group) (ink : Ink) (y n : ℕ) (left right zeros one two : List ℕ) → zeros ≡ replicate {A = ℕ} n 0
    → IsClearBeside job.plan Left left → ShowsRowOf job Left group.left ink y left → IsJoined left (side_byte job.plan Left) zeros one
    → IsClearBeside job.plan Right right → ShowsRowOf job Right group.right ink y right → IsJoined right (side_byte job.plan Right) one two → DrawsPages job group ink y two
sides_joined job group ink y n left right zeros one two none left_clear left_shows first right_clear right_shows second =
    let plan = job.plan in
    let files = job.files in
    let shape = shape_of_plate plan in
    let blank : (x : ℕ) → bit_at zeros x ≡ false = λ x. ap (λ bits. bit_at bits x) none ∙ bit_at-zeros n x in
    let on_left : SetsBits (λ x. page_bit plan files group.left ink x y) shape.left_x plan.page_width zeros one =
    sets_joined (λ x. page_bit plan files group.left ink x y) shape.left_x plan.page_width left zeros one first left_clear.long left_clear.before left_clear.behind left_shows.each (λ x less. blank (shape.left_x + x)) in
    let on_right : SetsBits (λ x. page_bit plan files group.right ink x y) shape.right_x plan.page_width one two =
    sets_joined (λ x. page_bit plan files group.right ink x y) shape.right_x plan.page_width right one two second right_clear.long right_clear.before right_clear.behind right_shows.each
    (λ x less. on_left.behind (shape.right_x + x) (omega arith) ∙ blank (shape.right_x + x)) in
    λ row there. pages_set plan files group.left group.right ink row y n zeros one two none there on_left on_right
