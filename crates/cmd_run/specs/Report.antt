-- The report of a run: a line for each site, and a total line.
use Rattle.std.specs.Prelude.{ℕ, Bool, true, false, if◌then◌else◌, List, [], ◌∷◌, ◌++◌, length, codes}
use Rattle.std.specs.Fmt.{decimal}
use Rattle.std.specs.List.{list_all}
use Rattle.pr_rack.specs.declared.rack.RackCall.{RackCall}
use Rattle.pr_rack.specs.declared.rack.RackCall.TheVariants.{Begin, Row, Finish}
use Rattle.plan_json.specs.Data.{PlanData, SiteData}
use Rattle.plan_rows.specs.Rows.{row_places}
use Rattle.ring_run.specs.declared.site_end.SiteEnd.{SiteEnd}
use Rattle.ring_run.specs.declared.site_end.SiteEnd.TheVariants.{Finished, Left}

abbrev pub call_word : RackCall → List ℕ
call_word Begin = codes "begin"
call_word Row = codes "row"
call_word Finish = codes "finish"

-- the line of a site
abbrev pub site_line : SiteData → SiteEnd → List ℕ
site_line site (Finished plates rows) =
    codes "site " ++ site.name ++ codes " finished plates " ++ decimal plates
    ++ codes " rows " ++ decimal rows ++ codes "\n"
site_line site (Left cause) =
    codes "site " ++ site.name ++ codes " left plates " ++ decimal cause.plates
    ++ codes " row " ++ decimal cause.row
    ++ codes " call " ++ call_word cause.call ++ codes " file " ++ cause.path ++ codes "\n"

-- the lines of the sites that ended like this, in order
abbrev pub site_lines : List SiteData → List SiteEnd → List ℕ
site_lines [] ends = []
site_lines (site ∷ sites) [] = []
site_lines (site ∷ sites) (end ∷ ends) = site_line site end ++ site_lines sites ends

abbrev pub total_line : ℕ → ℕ → List ℕ
total_line rows sites = codes "total rows " ++ decimal rows ++ codes " sites " ++ decimal sites ++ codes "\n"

-- the lines of the sites in the plan's order, and the total line
unfoldable pub report_of : PlanData → List SiteEnd → List ℕ
report_of plan ends =
    site_lines plan.sites ends ++ total_line (length (row_places plan)) (length plan.sites)

abbrev pub is_finished : SiteEnd → Bool
is_finished (Finished plates rows) = true
is_finished (Left cause) = false

-- the status of a run: 0 if every site finished, else 1
unfoldable pub status_of_ends : List SiteEnd → ℕ
status_of_ends ends = if list_all is_finished ends then 0 else 1
