-- The text of a plan's value reads back as that value.
use Rattle.std.proofs.Common.{◌≡◌, ℕ, zero, suc, ◌+◌, ◌*◌, ◌/◌, ◌%◌, ◌<◌, ◌≤◌, List, Some, Ok, sym, ap, subst, ◌∙◌, arith}
use Rattle.std.specs.Fmt.{digits}
use Rattle.std.specs.Str.{IsUtf8}
use Rattle.serde_json.specs.Data.{Data, depth}
use Rattle.serde_json.specs.Read.{max_depth, read}
use Rattle.plan_parts.specs.Reading.{◌>>=◌}
use Rattle.plan_json.specs.PlanOf.{plan_in, plan_of}
use Rattle.plan_json.proofs.Json.{json-some}
use Rattle.job_gen.specs.Numbers.{page_count, site_count, size_of}
use Rattle.job_gen.specs.Plan.{job_plan}
use Rattle.job_gen.specs.Text.{job_value, layout_members, pages_value, printing_members, sections_value, sites_value, value_with}
use Rattle.job_gen.proofs.PlanRead.{plan_is}

-- the nesting depth of the value
depth_by : (k half size : ℕ) → k < 4 → half < 2 → depth (value_with (k + 1) (4 + 4 * half) size) ≤ max_depth
unfolding digits value_with printing_members layout_members pages_value sections_value sites_value
depth_by zero zero size a b = omega arith
depth_by (suc zero) zero size a b = omega arith
depth_by (suc (suc zero)) zero size a b = omega arith
depth_by (suc (suc (suc zero))) zero size a b = omega arith
depth_by zero (suc zero) size a b = omega arith
depth_by (suc zero) (suc zero) size a b = omega arith
depth_by (suc (suc zero)) (suc zero) size a b = omega arith
depth_by (suc (suc (suc zero))) (suc zero) size a b = omega arith
depth_by (suc (suc (suc (suc k)))) half size a b = absurd (omega arith)
depth_by k (suc (suc half)) size a b = absurd (omega arith)

depth_within : (n : ℕ) → depth (job_value n) ≤ max_depth
depth_within n = depth_by (n % 4) (n / 4 % 2) (size_of n) (omega arith) (omega arith)

-- the text of the value of a job
pub text_is : (n sites pages size : ℕ) (value : Data) (text : List ℕ) → IsUtf8 text → sites ≡ site_count n → pages ≡ page_count n → size ≡ size_of n
    → value ≡ value_with sites pages size → (depth value ≤ max_depth → read text ≡ Some value) → plan_of text ≡ Ok (job_plan n)
unfolding plan_of
text_is n sites pages size value text utf8 s p z is reads =
    let same : value ≡ job_value n =
    is ∙ ap (λ k. value_with k pages size) s ∙ ap (λ k. value_with (site_count n) k size) p ∙ ap (value_with (site_count n) (page_count n)) z in
    let here : read text ≡ Some (job_value n) = reads (subst (λ d. depth d ≤ max_depth) (sym same) (depth_within n)) ∙ ap Some same in
    ap (λ r. r >>= plan_in) (json-some text (job_value n) utf8 here) ∙ plan_is n
