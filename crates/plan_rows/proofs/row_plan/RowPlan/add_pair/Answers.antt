use Rattle.std.proofs.Common.{◌≡◌, ◌+◌, ◌∙◌, ℕ, List, [], ◌∷◌, ◌++◌, length, take, ap, sym, arith}
use Rattle.plan_rows.specs.declared.group.Group.{Group}
use Rattle.plan_rows.specs.Groups.{groups_among, pair_groups}
use Rattle.plan_rows.specs.Rows.{RowPlanData, added}
use Rattle.plan_rows.proofs.AddLemmas.{starts_at, goes_on, length-added, among_first, among_other}
use Rattle.plan_rows.proofs.row_plan.RowPlan.add_pair.Goals as goal
use Rattle.plan_rows.proofs.row_plan.RowPlan.add_pair.Goals.{then-is_first+in_ok-add, else-is_first}

pub loop-site-init : goal.loop-site-init
loop-site-init c = record { so_far = starts_at c.self.inside.total _ c.args.self.now c.self.invariant c.self.view_is; count = omega arith }

pub loop-site-preserved : goal.loop-site-preserved
loop-site-preserved c =
    let plan = c.args.plan.now in
    let pages : List (ℕ × ℕ) = take c.site_count-sites.result c.site_pages-pages.result in
    let before = c.loop-site.invariant.count in
    elim c.if-is_first.branch [
      | then-is_first+in_ok-add w ↦
          let now : c.if-is_first.self ≡ added c.loop-site.self (w.group_of.result ∷ []) = w.self-is ∙ w.in_ok-add.ensures in
          let one : length c.if-is_first.self.groups ≡ length c.loop-site.self.groups + 1 = ap {A = RowPlanData} (λ r. length r.groups) now ∙ length-added c.loop-site.self (w.group_of.result ∷ []) in
          record {
            so_far = goes_on c.args.self.now c.loop-site.self c.if-is_first.self _ _ _ c.loop-site.invariant.so_far now
                (among_first plan c.args.section c.args.pair c.loop-site.site pages (sym c.is_first.ensures ∙ w.if-is_first.true)
                ∙ ap {A = Group} (λ g. groups_among plan c.args.section c.args.pair pages c.loop-site.site ++ g ∷ []) (sym w.group_of.ensures));
            count = omega arith;
          }
      | else-is_first w ↦
          let same : length c.if-is_first.self.groups ≡ length c.loop-site.self.groups = ap {A = RowPlanData} (λ r. length r.groups) w.self-is in
          record {
            so_far = w.self-is ∙ c.loop-site.invariant.so_far
                ∙ ap (λ gs. added c.args.self.now gs) (sym (among_other plan c.args.section c.args.pair c.loop-site.site pages (sym c.is_first.ensures ∙ w.if-is_first.false)));
            count = omega arith;
          }
    ]

pub returns-clause-groups : goal.returns-clause-groups
unfolding pair_groups
returns-clause-groups c =
    let count = c.site_count-sites.ensures.count in
    let end : c.loop-site.site ≡ c.site_count-sites.result = omega arith in
    let among : List (ℕ × ℕ) → ℕ → RowPlanData = λ pages n. added c.args.self.now (groups_among c.args.plan.now c.args.section c.args.pair pages n) in
    c.loop-site.invariant.so_far
    ∙ ap (λ n. among (take c.site_count-sites.result c.site_pages-pages.result) n) (end ∙ count)
    ∙ ap (λ n. among (take n c.site_pages-pages.result) (length c.args.plan.now.sites)) count
    ∙ ap (λ pages. among pages (length c.args.plan.now.sites)) c.site_pages-pages.ensures.pages
