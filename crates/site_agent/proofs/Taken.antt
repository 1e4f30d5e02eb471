-- The rows that a site has taken when it stops, in terms of the plan.
use Rattle.std.proofs.Common.{◌≡◌, ℕ, zero, suc, ◌+◌, ◌-◌, ◌<◌, ◌≤◌, Bool, true, false, cond, List, [], ◌∷◌, ◌++◌, length, map, take, filter, Option, Some, None, refl, sym, ap, ◌∙◌, ⊎_elim, arith}
use Rattle.std.specs.Prelude.{◌==◌, ◌&&◌, ◌||◌, nat_lt}
use Rattle.std.specs.List.{range_with_len}
use Rattle.std.proofs.lemmas.Bool.{eq-eqb, ne_eqb, lt-ltb, le-ltb}
use Rattle.std.proofs.lemmas.List.{append-nil, append_assoc, map-append, map-id}
use Rattle.std.proofs.lemmas.List.Elements.{filter-append}
use Rattle.std.proofs.lemmas.List.FromFn.{filter_of_map_range_with_len_more}
use Rattle.std.proofs.Math.Seq.{take-append_seam}
use Rattle.ring_lanes.specs.declared.source.Source.{Source}
use Rattle.pr_rack.specs.declared.rack.RackCall.{RackCall}
use Rattle.pr_rack.specs.declared.rack.RackCall.TheVariants.{Begin, Row, Finish}
use Rattle.pr_rack.specs.Rack.{with_row}
use Rattle.plan_json.specs.Data.{PlanData}
use Rattle.plan_json.specs.Plan.{IsPlan}
use Rattle.plan_rows.specs.Rows.{row_places, keeps_row}
use Rattle.site_agent.specs.declared.kept.LeftCause.{LeftCause}
use Rattle.site_agent.specs.Job.{SiteJob}
use Rattle.site_agent.specs.Given.{is_kept}
use Rattle.site_agent.specs.Kept.{IsCauseAt, TakenOnce}
use Rattle.site_agent.specs.Plan.{job_of, drawn_rows, is_finish, rows_up_to}
use Rattle.site_agent.specs.Refused.{taken_at}
use Rattle.site_agent.specs.Stands.{grown, taken_below}
use Rattle.site_agent.proofs.Counting.{any}
use Rattle.site_agent.proofs.Keeps.{drawn_below, kept_is}
use Rattle.site_agent.proofs.Steps.{is_kept-row}

-- ---- the rows below row m that pass a test, with their source

abbrev listed : (ℕ → Bool) → Source → ℕ → List (ℕ × Source)
listed keeps source m = map (λ n. (n, source)) (filter keeps (range_with_len 0 m))

one : (source : Source) (m : ℕ) (b : Bool)
    → ◌≡◌ {A = List (ℕ × Source)} (map (λ n. (n, source)) (cond b (m ∷ []) [])) (cond b ((m, source) ∷ []) [])
one source m true = refl
one source m false = refl

listed-more : (keeps : ℕ → Bool) (source : Source) (m : ℕ)
    → listed keeps source (m + 1) ≡ listed keeps source m ++ cond (keeps m) ((m, source) ∷ []) []
listed-more keeps source m =
    ap (λ list. map (λ n. (n, source)) (filter keeps list)) (sym (map-id (range_with_len 0 (m + 1))))
    ∙ ap (map (λ n. (n, source))) (filter_of_map_range_with_len_more keeps (λ k. k) 0 m m (omega arith))
    ∙ ap (λ list. map (λ n. (n, source)) (filter keeps list ++ cond (keeps m) (m ∷ []) [])) (map-id (range_with_len 0 m))
    ∙ map-append (λ n. (n, source)) (filter keeps (range_with_len 0 m)) (cond (keeps m) (m ∷ []) [])
    ∙ ap (λ list. listed keeps source m ++ list) (one source m (keeps m))

passes : (test : ℕ × Source → Bool) (row : ℕ × Source) (b : Bool) → test row ≡ true
    → filter test (cond b (row ∷ []) []) ≡ cond b (row ∷ []) []
passes test row true pass = ap (λ t. cond t (row ∷ []) []) pass
passes test row false pass = refl

refuses : (test : ℕ × Source → Bool) (row : ℕ × Source) (b : Bool) → test row ≡ false
    → filter test (cond b (row ∷ []) []) ≡ []
refuses test row true fail = ap (λ t. cond t (row ∷ []) []) fail
refuses test row false fail = refl

-- ---- those of them up to row n

abbrev is_up_to : ℕ → RackCall → ℕ × Source → Bool
is_up_to n call taken = nat_lt taken.0 n || taken.0 == n && is_finish call

below : (keeps : ℕ → Bool) (source : Source) (n : ℕ) (call : RackCall) (m : ℕ) → m ≤ n
    → rows_up_to n call (listed keeps source m) ≡ listed keeps source m
below keeps source n call zero less = refl
below keeps source n call (suc m) less =
    let next : suc m ≡ m + 1 = omega arith in
    let inside : m < n = omega arith in
    ap (λ k. rows_up_to n call (listed keeps source k)) next
    ∙ ap (rows_up_to n call) (listed-more keeps source m)
    ∙ filter-append (is_up_to n call) (listed keeps source m) (cond (keeps m) ((m, source) ∷ []) [])
    ∙ ap (λ list. list ++ filter (is_up_to n call) (cond (keeps m) ((m, source) ∷ []) [])) (below keeps source n call m (omega arith))
    ∙ ap (λ list. listed keeps source m ++ list) (passes (is_up_to n call) (m, source) (keeps m) (ap (λ b. b || m == n && is_finish call) (lt-ltb m n inside)))
    ∙ sym (listed-more keeps source m)
    ∙ ap (listed keeps source) (sym next)

-- row n itself only if the call was to finish its plate
with_it : (source : Source) (n : ℕ) (call : RackCall)
    → filter (is_up_to n call) ((n, source) ∷ []) ≡ cond (is_finish call) ((n, source) ∷ []) []
with_it source n call =
    ap (λ b. cond (b || n == n && is_finish call) ((n, source) ∷ []) []) (le-ltb n n (omega arith))
    ∙ ap (λ b. cond (b && is_finish call) ((n, source) ∷ []) []) (eq-eqb n n refl)

behind : (keeps : ℕ → Bool) (source : Source) (n : ℕ) (call : RackCall) (j : ℕ) → keeps n ≡ true
    → rows_up_to n call (listed keeps source (n + 1 + j)) ≡ listed keeps source n
    ++ cond (is_finish call) ((n, source) ∷ []) []
behind keeps source n call zero kept =
    ap (λ k. rows_up_to n call (listed keeps source k)) (let e : n + 1 + 0 ≡ n + 1 = omega arith in e)
    ∙ ap (rows_up_to n call) (listed-more keeps source n ∙ ap (λ b. listed keeps source n ++ cond b ((n, source) ∷ []) []) kept)
    ∙ filter-append (is_up_to n call) (listed keeps source n) ((n, source) ∷ [])
    ∙ ap (λ list. list ++ filter (is_up_to n call) ((n, source) ∷ [])) (below keeps source n call n (omega arith))
    ∙ ap (λ list. listed keeps source n ++ list) (with_it source n call)
behind keeps source n call (suc j) kept =
    let m : ℕ = n + 1 + j in
    let next : n + 1 + suc j ≡ m + 1 = omega arith in
    ap (λ k. rows_up_to n call (listed keeps source k)) next
    ∙ ap (rows_up_to n call) (listed-more keeps source m)
    ∙ filter-append (is_up_to n call) (listed keeps source m) (cond (keeps m) ((m, source) ∷ []) [])
    ∙ ap (λ list. rows_up_to n call (listed keeps source m) ++ list)
    (refuses (is_up_to n call) (m, source) (keeps m)
    (ap (λ b. b || m == n && is_finish call) (le-ltb m n (omega arith))
    ∙ ap (λ b. b && is_finish call) (ne_eqb m n (omega arith))))
    ∙ append-nil (rows_up_to n call (listed keeps source m))
    ∙ behind keeps source n call j kept

-- a list up to a row is a prefix of the list
begins_with : (keeps : ℕ → Bool) (source : Source) (n j : ℕ)
    → (rest : List (ℕ × Source)) × (listed keeps source (n + j) ≡ listed keeps source n ++ rest)
begins_with keeps source n zero = ([], ap (listed keeps source) (let e : n + 0 ≡ n = omega arith in e) ∙ sym (append-nil (listed keeps source n)))
begins_with keeps source n (suc j) =
    let rest = begins_with keeps source n j in
    let next : n + suc j ≡ (n + j) + 1 = omega arith in
    let last : List (ℕ × Source) = cond (keeps (n + j)) ((n + j, source) ∷ []) [] in (
      rest.0 ++ last,
      ap (listed keeps source) next ∙ listed-more keeps source (n + j) ∙ ap (λ list. list ++ last) rest.1 ∙ append_assoc (listed keeps source n) rest.0 last,
    )

-- ---- a site that dropped out at row n

taken-then : (call : RackCall) (n : ℕ) (source : Source) (list : List (ℕ × Source))
    (before : Option (List (ℕ × Source)))
    → taken_at call n source (grown list before)
    ≡ grown (list ++ cond (is_finish call) ((n, source) ∷ []) []) before
taken-then Begin n source list before = ap (λ l. grown l before) (sym (append-nil list))
taken-then Row n source list before = ap (λ l. grown l before) (sym (append-nil list))
taken-then Finish n source list None = refl
taken-then Finish n source list (Some rows) = ap Some (append_assoc rows list ((n, source) ∷ []))

-- the site took its rows up to that row
pub taken_up_to : (plan : PlanData) (out : List ℕ) (site : ℕ) (source : Source) (n : ℕ) (cause : LeftCause)
    (before old new : Option (List (ℕ × Source))) → IsPlan plan → n < length (row_places plan)
    → IsCauseAt (job_of plan out site) n cause
    → old ≡ grown (taken_below (job_of plan out site) source n) before
    → new ≡ taken_at cause.call n source old
    → new ≡ grown (rows_up_to cause.row cause.call (drawn_rows plan site source)) before
taken_up_to plan out site source n cause before old new is within at stood took =
    let job : SiteJob = job_of plan out site in
    let keeps : ℕ → Bool = keeps_row plan site in
    let kept : keeps n ≡ true = sym (kept_is plan out site n is within) ∙ is_kept-row job n at.index at.y any at.is in
    let all : length (row_places plan) ≡ n + 1 + (length (row_places plan) - (n + 1)) = omega arith in
    took
    ∙ ap (taken_at cause.call n source) (stood ∙ ap (λ list. grown list before) (drawn_below plan out site source n is (omega arith)))
    ∙ taken-then cause.call n source (listed keeps source n) before
    ∙ ap (λ list. grown list before)
    (sym (behind keeps source n cause.call (length (row_places plan) - (n + 1)) kept)
    ∙ ap (λ k. rows_up_to n cause.call (listed keeps source k)) (sym all)
    ∙ ap (λ k. rows_up_to k cause.call (drawn_rows plan site source)) (sym at.row))

-- ---- a site whose rack ran out of memory

-- the rows taken below a row are the first of those that the site keeps
pub taken_first : (plan : PlanData) (out : List ℕ) (site : ℕ) (source : Source) (n : ℕ) → IsPlan plan
    → n ≤ length (row_places plan)
    → taken_below (job_of plan out site) source n
    ≡ take (length (taken_below (job_of plan out site) source n)) (drawn_rows plan site source)
taken_first plan out site source n is within =
    let keeps : ℕ → Bool = keeps_row plan site in
    let all : length (row_places plan) ≡ n + (length (row_places plan) - n) = omega arith in
    let rest = begins_with keeps source n (length (row_places plan) - n) in
    let here = drawn_below plan out site source n is within in
    here
    ∙ sym (take-append_seam (listed keeps source n) rest.0)
    ∙ ap (take (length (listed keeps source n))) (sym rest.1 ∙ ap (listed keeps source) (sym all))
    ∙ ap (λ k. take k (drawn_rows plan site source)) (ap length (sym here))

with_row-grown : (n : ℕ) (source : Source) (list : List (ℕ × Source)) (before : Option (List (ℕ × Source)))
    → with_row n source (grown list before) ≡ grown (list ++ (n, source) ∷ []) before
with_row-grown n source list None = refl
with_row-grown n source list (Some rows) = ap Some (append_assoc rows list ((n, source) ∷ []))

-- a site whose rack ran out of memory at row n took the first of those rows
pub taken_in_part : (plan : PlanData) (out : List ℕ) (site : ℕ) (source : Source) (n : ℕ)
    (before old new : Option (List (ℕ × Source))) → IsPlan plan → n < length (row_places plan)
    → is_kept (job_of plan out site) n ≡ true
    → old ≡ grown (taken_below (job_of plan out site) source n) before → TakenOnce n source old new
    → (k : ℕ) × (new ≡ grown (take k (drawn_rows plan site source)) before)
taken_in_part plan out site source n before old new is within kept stood once =
    ⊎_elim
    (λ (none : new ≡ old).
    (length (taken_below job source n), none ∙ stood ∙ ap (λ list. grown list before) (taken_first plan out site source n is (omega arith))))
    (λ (more : new ≡ with_row n source old). (
      length (taken_below job source (n + 1)),
      more
          ∙ ap (with_row n source) (stood ∙ ap (λ list. grown list before) (drawn_below plan out site source n is (omega arith)))
          ∙ with_row-grown n source (listed keeps source n) before
          ∙ ap (λ list. grown list before)
          (sym (listed-more keeps source n ∙ ap (λ b. listed keeps source n ++ cond b ((n, source) ∷ []) []) (sym (kept_is plan out site n is within) ∙ kept))
          ∙ sym (drawn_below plan out site source (n + 1) is (omega arith))
          ∙ taken_first plan out site source (n + 1) is (omega arith)),
    ))
    once where
      job : SiteJob
      job = job_of plan out site

      keeps : ℕ → Bool
      keeps = keeps_row plan site
