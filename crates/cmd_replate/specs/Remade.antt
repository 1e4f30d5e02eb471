-- Output of the command `replate`: a line for each site, one for each dropped plate, and a total.
use Rattle.std.specs.Prelude.{ℕ, ◌+◌, Bool, true, false, if◌then◌else◌, List, [], ◌∷◌, ◌++◌, codes}
use Rattle.std.specs.Fmt.{decimal}
use Rattle.std.specs.List.{list_all}
use Rattle.plan_json.specs.Data.{PlanData, SiteData}
use Rattle.plan_rows.specs.Paths.{path_of}
use Rattle.replate.specs.declared.remade.RemadeEnd.{RemadeEnd}
use Rattle.replate.specs.declared.remade.RemadeEnd.TheVariants.{Done, Left}
use Rattle.replate.specs.Picks.{dropped_of}
use Rattle.replate.specs.Plates.{PlateAt, group_at}

-- ---- sites

-- the line of a site
abbrev pub remade_line : SiteData → RemadeEnd → List ℕ
remade_line site (Done made kept) =
    codes "site " ++ site.name ++ codes " made " ++ decimal made
    ++ codes " kept " ++ decimal kept ++ codes "\n"
remade_line site (Left made path) =
    codes "site " ++ site.name ++ codes " left made " ++ decimal made
    ++ codes " file " ++ path ++ codes "\n"

-- the lines of the sites with these ends, in order
abbrev pub remade_lines : List SiteData → List RemadeEnd → List ℕ
remade_lines [] ends = []
remade_lines (site ∷ sites) [] = []
remade_lines (site ∷ sites) (end ∷ ends) = remade_line site end ++ remade_lines sites ends

-- ---- dropped plates

-- the path of an old plate below a folder
abbrev pub dropped_path : PlanData → List ℕ → PlateAt → List ℕ
dropped_path plan out plate = path_of plan out plate.site (group_at plan plate.group) plate.ink

-- the line of a dropped plate
abbrev pub dropped_line : PlanData → List ℕ → PlateAt → List ℕ
dropped_line plan out plate = codes "dropped " ++ dropped_path plan out plate ++ codes "\n"

-- the lines of these plates, in order
abbrev pub dropped_lines : PlanData → List ℕ → List PlateAt → List ℕ
dropped_lines plan out [] = []
dropped_lines plan out (plate ∷ plates) = dropped_line plan out plate ++ dropped_lines plan out plates

-- ---- total

-- the number of plates that a site finished
abbrev pub made_of : RemadeEnd → ℕ
made_of (Done made kept) = made
made_of (Left made path) = made

-- the number of plates that all sites finished, including sites that dropped out
abbrev pub total_made : List RemadeEnd → ℕ
total_made [] = 0
total_made (end ∷ ends) = made_of end + total_made ends

-- the last line
abbrev pub made_line : ℕ → List ℕ
made_line made = codes "total made " ++ decimal made ++ codes "\n"

-- the text, with these lines of dropped plates
abbrev pub text_with : List SiteData → List RemadeEnd → List ℕ → List ℕ
text_with sites ends dropped = remade_lines sites ends ++ dropped ++ made_line (total_made ends)

-- the text for an old and a new plan and these ends of the new sites
abbrev pub remade_text : PlanData → PlanData → List ℕ → List RemadeEnd → List ℕ
remade_text before after out ends =
    text_with after.sites ends (dropped_lines before out (dropped_of before after))

-- ---- the status

abbrev pub is_done : RemadeEnd → Bool
is_done (Done made kept) = true
is_done (Left made path) = false

-- 0 where no site dropped out, else 1
unfoldable pub status_of_remade : List RemadeEnd → ℕ
status_of_remade ends = if list_all is_done ends then 0 else 1
