-- The keys lines printed from a run's counts are those of its job.
use Rattle.std.proofs.Common.{◌≡◌, ◌<◌, ◌≤◌, ◌+◌, ◌++◌, ◌∙◌, ℕ, List, [], ◌∷◌, suc, Some, All, length, map, drop, get_or, refl, sym, ap, subst, append_assoc, drop-cons, add-one, arith}
use Rattle.std.specs.Prelude.{codes, slice_get, slice_index}
use Rattle.std.specs.Fmt.{digits}
use Rattle.std.specs.List.{enumerate_from, flat_map, range_with_len}
use Rattle.std.proofs.Math.ListN.{drop_of_length-le}
use Rattle.std.proofs.lemmas.List.{append-nil, ext_get_or}
use Rattle.std.proofs.lemmas.List.FromFn.{get_or-map-range_with_len, length-map-range_with_len}
use Rattle.std.proofs.lemmas.List.Elements.{All-contains_itself, All-head, All-tail}
use Rattle.pr_base.specs.declared.ink.Ink.{Ink}
use Rattle.plan_json.specs.Data.{PlanData}
use Rattle.plan_json.specs.Plan.{IsPlan}
use Rattle.plan_rows.specs.declared.group.Group.{Group}
use Rattle.plan_rows.specs.Groups.{groups_of}
use Rattle.plan_rows.specs.Inks.{inks_of}
use Rattle.plan_rows.specs.Paths.{plate_name_of}
use Rattle.plan_rows.proofs.GroupLemmas.{groups_in_plan}
use Rattle.ink_keys.specs.Counts.{CountsData, number_at}
use Rattle.ink_keys.specs.Keys.{key_count}
use Rattle.ink_keys.specs.Plates.{AreKeyCounts}
use Rattle.cmd_run.specs.Keys.{group_lines, key_counts, key_line, lines_with, numbers_at, numbers_for, plate_line}

-- a text with the pieces that are left is the whole: one piece more, and none left
module _ {X : Type 0} (f : X → List ℕ) (xs : List X) (whole : List ℕ) where
  pub pieces_more : (i : ℕ) (d : X) (old new piece : List ℕ) → i < length xs → old ++ flat_map f (drop i xs) ≡ whole
      → new ≡ old ++ piece → piece ≡ f (get_or xs i d) → new ++ flat_map f (drop (i + 1) xs) ≡ whole
  pieces_more i d old new piece less before grown is =
      let rest = flat_map f (drop (i + 1) xs) in
      let next : drop i xs ≡ get_or xs i d ∷ drop (i + 1) xs = rw add-one (drop-cons xs i d less) in
      ap (λ (l : List ℕ). l ++ rest) (grown ∙ ap (λ (l : List ℕ). old ++ l) is) ∙ append_assoc old (f (get_or xs i d)) rest
      ∙ ap (λ (l : List X). old ++ flat_map f l) (sym next) ∙ before

  pub pieces_all : (i : ℕ) (text : List ℕ) → length xs ≤ i → text ++ flat_map f (drop i xs) ≡ whole → text ≡ whole
  pieces_all i text all before =
      sym (append-nil text) ∙ ap (λ (l : List X). text ++ flat_map f l) (sym (drop_of_length-le xs all)) ∙ before

-- each group of a plan belongs to one of its sections
pub sections_within : (plan : PlanData) (groups : List Group) → IsPlan plan → groups ≡ groups_of plan
    → All (λ group. group.section < length plan.sections) groups
sections_within plan groups is all =
    subst (λ (list : List Group). All (λ group. group.section < length plan.sections) list) (sym all)
    (λ k d less. (groups_in_plan plan is k d less).section)

-- numbers that equal the counts at each key are the list of all counts
pub numbers_are : (counts : CountsData) (index : ℕ) (ink : Ink) (found : List ℕ) → length found ≡ counts.keys
    → ((k : ℕ) → k < counts.keys → slice_index found k ≡ number_at counts index ink k) → found ≡ numbers_at counts index ink
numbers_are counts index ink found count each =
    ext_get_or 0 found (map (number_at counts index ink) (range_with_len 0 counts.keys))
    (count ∙ sym (length-map-range_with_len (number_at counts index ink) 0 counts.keys))
    (λ k less.
    let within : k < counts.keys = omega (arith, less, count) in
    each k within ∙ sym (get_or-map-range_with_len (number_at counts index ink) 0 counts.keys k k 0 within (omega arith)))

-- concatenations of equal pieces are equal
same_pieces : {X : Type 0} (f g : X → List ℕ) (xs : List X) → All (λ x. f x ≡ g x) xs → flat_map f xs ≡ flat_map g xs
same_pieces f g [] same = refl
same_pieces f g (x ∷ xs) same =
    ap (λ (l : List ℕ). l ++ flat_map f xs) (All-head (λ x. f x ≡ g x) x xs same)
    ∙ ap (λ (l : List ℕ). g x ++ l) (same_pieces f g xs (All-tail (λ x. f x ≡ g x) x xs same))

module _ (plan : PlanData) (f g : ℕ → Group → Ink → List ℕ) where
  -- groups whose plates have the same counts have the same lines
  groups_alike : (start : ℕ) (groups : List Group)
      → ((i n : ℕ) (group : Group) → start + i ≡ n → slice_get groups i ≡ Some group → All (λ ink. f n group ink ≡ g n group ink) (inks_of group))
      → flat_map (group_lines plan f) (enumerate_from start groups) ≡ flat_map (group_lines plan g) (enumerate_from start groups)
  groups_alike start [] same = refl
  groups_alike start (group ∷ groups) same =
      ap (λ (l : List ℕ). l ++ flat_map (group_lines plan f) (enumerate_from (start + 1) groups))
      (same_pieces (plate_line plan f start group) (plate_line plan g start group) (inks_of group)
      (λ k d less. ap (key_line start (plate_name_of plan group (get_or (inks_of group) k d))) (same 0 start group (omega arith) refl k d less)))
      ∙ ap (λ (l : List ℕ). group_lines plan g (start, group) ++ l)
      (groups_alike (start + 1) groups (λ i n other is at. same (suc i) n other (omega (arith, is)) at))

-- the lines printed from counts that are those of all plates are the lines of the plates
pub lines_are : (plan : PlanData) (rows : List (List ℕ)) (counts : CountsData) → AreKeyCounts plan rows counts
    → lines_with plan (numbers_for counts) ≡ lines_with plan (key_counts plan rows counts.keys)
unfolding lines_with
lines_are plan rows counts each =
    groups_alike plan (numbers_for counts) (key_counts plan rows counts.keys) 0 (groups_of plan)
    (λ i n group is at k d less.
    let ink : Ink = get_or (inks_of group) k d in
    ext_get_or 0 (numbers_for counts n group ink) (key_counts plan rows counts.keys n group ink)
    (length-map-range_with_len (number_at counts n ink) 0 counts.keys
    ∙ sym (length-map-range_with_len (key_count plan rows group ink counts.keys) 0 counts.keys))
    (λ key inside.
    let within : key < counts.keys = omega (arith, inside, length-map-range_with_len (number_at counts n ink) 0 counts.keys) in
    get_or-map-range_with_len (number_at counts n ink) 0 counts.keys key key 0 within (omega arith)
    ∙ each n group ink key (ap (λ m. slice_get (groups_of plan) m) (omega (arith, is)) ∙ at) (All-contains_itself (inks_of group) k d less) within
    ∙ sym (get_or-map-range_with_len (key_count plan rows group ink counts.keys) 0 counts.keys key key 0 within (omega arith))))

-- the line of a plate with these counts
row_one : key_line 0 (codes "A-001-K") (3 ∷ 5 ∷ 0 ∷ 0 ∷ []) ≡ codes "keys 0 A-001-K 3 5 0 0\n"
unfolding digits
row_one = refl

row_two : key_line 12 (codes "SPORT-064-S") (65535 ∷ []) ≡ codes "keys 12 SPORT-064-S 65535\n"
unfolding digits
row_two = refl
