-- A rack after the made plates are stored and the dropped ones deleted, path by path.
use Rattle.std.proofs.Common.{◌≡◌, ℕ, suc, ◌+◌, ◌<◌, Bool, true, false, cond, List, [], ◌∷◌, ◌++◌, length, map, Some, None, refl, ap, sym, subst, add-zero, zero-add, ◌∙◌, inl, inr, arith}
use Rattle.std.specs.Prelude.{IsTrue, ◌↔◌, ◌&&◌, ◌||◌, filter, not, option_map}
use Rattle.std.specs.List.{enumerate_from, find, flat_map, list_any}
use Rattle.std.specs.Option.{option_or}
use Rattle.std.specs.Str.{bytes_eq}
use Rattle.std.specs.Cmp.Lexicographic.{bytes_decides}
use Rattle.std.proofs.lemmas.Bool.{and_from, and_parts, both_ways, cases_Bool, false≢true, false_from_ne_true, not_from_false, not_from_true, or_left, true_from_ne_false}
use Rattle.std.proofs.lemmas.List.{append_cancel_left, map-append}
use Rattle.pr_base.specs.declared.ink.Ink.{Ink}
use Rattle.plan_json.specs.Data.{PlanData}
use Rattle.plan_json.specs.Plan.{IsPlan}
use Rattle.plan_rows.specs.declared.group.Group.{Group}
use Rattle.plan_rows.specs.Groups.{groups_of}
use Rattle.plan_rows.specs.Inks.{has_site, inks_of}
use Rattle.plan_rows.specs.Paths.{site_name}
use Rattle.plan_rows.specs.Plates.{PlateOf, file_of, group_plates, site_plates}
use Rattle.press_job.specs.Rows.{plate_rows}
use Rattle.replate.specs.Inputs.{JobData}
use Rattle.replate.specs.Picks.{MustMake, dropped_of, is_dropped, recipe_at}
use Rattle.replate.specs.Plates.{IsPlateOf, PlateAt, all_plates, group_at, group_in, has_path, ink_plates, path_below, plates_in, plates_of}
use Rattle.plan_rows.proofs.Names.{path_under, paths_tell, sites_apart}
use Rattle.replate.proofs.PlateLemmas.{any_of_site, any_plate, can_tell, some_of_site, some_plate}
use Rattle.site_agent.specs.Picked.{kept_where}
use Rattle.replate_law.specs.Law.{File, bytes_of_plate, entry_of, files_of_site, held_in, is_dropped_path, picked_files, remade_at}
use Rattle.replate_law.proofs.Printed.{file_by, file_is}
use Rattle.replate_law.proofs.Unmade.{held, one_recipe, same}

-- ---- the bytes at a path

held_none : (e : PlateAt → File) (path : List ℕ) (ps : List PlateAt) → list_any (λ p. bytes_eq (e p).0 path) ps ≡ false → held_in (map e ps) path ≡ None
held_none e path [] none = refl
held_none e path (p ∷ ps) none = go (bytes_eq (e p).0 path) (held_none e path ps) none
  where
    go : (b : Bool) → (list_any (λ q. bytes_eq (e q).0 path) ps ≡ false → held_in (map e ps) path ≡ None) → (b || list_any (λ q. bytes_eq (e q).0 path) ps) ≡ false → option_map (λ (file : File). file.1) (cond b (Some (e p)) (find (λ file. bytes_eq file.0 path) (map e ps))) ≡ None
    go true rest is = absurd (false≢true (sym is))
    go false rest is = rest is

-- if some plate has the path, the bytes at the path are those of such a plate
found : (e : PlateAt → File) (path : List ℕ) (ps : List PlateAt) → list_any (λ p. bytes_eq (e p).0 path) ps ≡ true
    → (bytes : List ℕ) × (held_in (map e ps) path ≡ Some bytes) × (list_any (λ p. bytes_eq (e p).0 path && bytes_eq (e p).1 bytes) ps ≡ true)
found e path [] some = absurd (false≢true some)
found e path (p ∷ ps) some = go (bytes_eq (e p).0 path) (found e path ps) some
  where
    go : (b : Bool)
        → (list_any (λ q. bytes_eq (e q).0 path) ps ≡ true
        → (bytes : List ℕ) × (held_in (map e ps) path ≡ Some bytes) × (list_any (λ q. bytes_eq (e q).0 path && bytes_eq (e q).1 bytes) ps ≡ true))
        → (b || list_any (λ q. bytes_eq (e q).0 path) ps) ≡ true
        → (bytes : List ℕ) × (option_map (λ (file : File). file.1) (cond b (Some (e p)) (find (λ file. bytes_eq file.0 path) (map e ps))) ≡ Some bytes)
        × (((b && bytes_eq (e p).1 bytes) || list_any (λ q. bytes_eq (e q).0 path && bytes_eq (e q).1 bytes) ps) ≡ true)
    go true rest is = ((e p).1, refl, or_left (true && bytes_eq (e p).1 (e p).1) _ ((bytes_decides (e p).1 (e p).1).1 refl))
    go false rest is = (let behind = rest is in (behind.0, behind.1, behind.2))

any-filter : (made test : PlateAt → Bool) (ps : List PlateAt) → list_any test (filter made ps) ≡ list_any (λ p. made p && test p) ps
any-filter made test [] = refl
any-filter made test (p ∷ ps) = go (made p) (any-filter made test ps)
  where
    go : (b : Bool) → list_any test (filter made ps) ≡ list_any (λ q. made q && test q) ps
        → list_any test (cond b (p ∷ filter made ps) (filter made ps)) ≡ ((b && test p) || list_any (λ q. made q && test q) ps)
    go true rest = ap (λ b. test p || b) rest
    go false rest = rest

-- ---- the files of a site are the entries of its plates

inks_are : (job : JobData) (out : List ℕ) (site index : ℕ) (group : Group) (inks : List Ink) → group_at job.plan index ≡ group
    → map (entry_of job out) (ink_plates site index inks) ≡ map (file_of job.plan (plate_rows job.plan job.files) out site) (map (λ ink. (group, ink)) inks)
inks_are job out site index group [] is = refl
inks_are job out site index group (ink ∷ inks) is =
    let one = ap (λ g. file_of job.plan (plate_rows job.plan job.files) out site (g, ink)) is in
    let rest = inks_are job out site index group inks is in
    λ i. one i ∷ rest i

entries_are : (job : JobData) (out : List ℕ) (site n : ℕ) (groups : List Group) → ((k : ℕ) → k < length groups → group_at job.plan (n + k) ≡ group_in groups k)
    → map (entry_of job out) (flat_map (plates_in site) (enumerate_from n groups))
    ≡ map (file_of job.plan (plate_rows job.plan job.files) out site) (flat_map group_plates (filter (λ group. has_site group site) groups))
entries_are job out site n [] at = refl
entries_are job out site n (group ∷ groups) at =
    let of : PlateOf → File = file_of job.plan (plate_rows job.plan job.files) out site in
    let here : group_at job.plan n ≡ group = ap (group_at job.plan) (sym (add-zero n)) ∙ at 0 (omega arith) in
    let rest = entries_are job out site (n + 1) groups (λ k low. let next : n + 1 + k ≡ n + suc k = omega arith in ap (group_at job.plan) next ∙ at (suc k) (omega arith)) in
    map-append (entry_of job out) (plates_in site (n, group)) (flat_map (plates_in site) (enumerate_from (n + 1) groups))
    ∙ ap (λ l. map (entry_of job out) (plates_in site (n, group)) ++ l) rest
    ∙ go (has_site group site) of (inks_are job out site n group (inks_of group) here)
  where
    go : (b : Bool) (of : PlateOf → File) → map (entry_of job out) (ink_plates site n (inks_of group)) ≡ map of (group_plates group)
        → map (entry_of job out) (cond b (ink_plates site n (inks_of group)) []) ++ map of (flat_map group_plates (filter (λ g. has_site g site) groups))
        ≡ map of (flat_map group_plates (cond b (group ∷ filter (λ g. has_site g site) groups) (filter (λ g. has_site g site) groups)))
    go true of same =
        ap (λ l. l ++ map of (flat_map group_plates (filter (λ g. has_site g site) groups))) same
        ∙ sym (map-append of (group_plates group) (flat_map group_plates (filter (λ g. has_site g site) groups)))
    go false of same = refl

files_are : (job : JobData) (out : List ℕ) (site : ℕ) → files_of_site job out site ≡ map (entry_of job out) (plates_of job.plan site)
unfolding site_plates plates_of
files_are job out site = sym (entries_are job out site 0 (groups_of job.plan) (λ k low. ap (group_at job.plan) (zero-add k)))

-- the entries at the flags of a test are those of the plates that pass the test
kept_tested : (made : PlateAt → Bool) (e : PlateAt → File) (ps : List PlateAt) → kept_where (map made ps) (map e ps) ≡ map e (filter made ps)
kept_tested made e [] = refl
kept_tested made e (p ∷ ps) = go (made p) (kept_tested made e ps)
  where
    go : (b : Bool) → kept_where (map made ps) (map e ps) ≡ map e (filter made ps)
        → cond b (e p ∷ kept_where (map made ps) (map e ps)) (kept_where (map made ps) (map e ps)) ≡ map e (cond b (p ∷ filter made ps) (filter made ps))
    go true rest = ap (λ l. e p ∷ l) rest
    go false rest = rest

picked_are : (job : JobData) (out : List ℕ) (site : ℕ) (made : PlateAt → Bool) → picked_files job out site made ≡ map (entry_of job out) (filter made (plates_of job.plan site))
picked_are job out site made =
    ap (kept_where (map made (plates_of job.plan site))) (files_are job out site) ∙ kept_tested made (entry_of job out) (plates_of job.plan site)

-- if no plate of a site has the path, the site has no file at it
pub none_at : (job : JobData) (out path : List ℕ) (site : ℕ) → list_any (λ p. bytes_eq (entry_of job out p).0 path) (plates_of job.plan site) ≡ false → held_in (files_of_site job out site) path ≡ None
none_at job out path site none = ap (λ files. held_in files path) (files_are job out site) ∙ held_none (entry_of job out) path (plates_of job.plan site) none

-- ---- paths and bytes of plates

path_out : (job : JobData) (out : List ℕ) (plate : PlateAt) → (entry_of job out plate).0 ≡ out ++ path_below job.plan plate
path_out job out plate = path_under job.plan out plate.site (group_at job.plan plate.group) plate.ink

paths_below : (a b : JobData) (out : List ℕ) (p q : PlateAt) → (entry_of a out p).0 ≡ (entry_of b out q).0 → path_below a.plan p ≡ path_below b.plan q
paths_below a b out p q is = append_cancel_left out (path_below a.plan p) (path_below b.plan q) (sym (path_out a out p) ∙ is ∙ path_out b out q)

pub paths_above : (a b : JobData) (out : List ℕ) (p q : PlateAt) → path_below a.plan p ≡ path_below b.plan q → (entry_of a out p).0 ≡ (entry_of b out q).0
paths_above a b out p q is = path_out a out p ∙ ap (λ l. out ++ l) is ∙ sym (path_out b out q)

-- if plates of two plans have the same path, their sites have the same name
site_named : (plan : PlanData) (other : PlanData) (p q : PlateAt) → IsPlan plan → IsPlan other → IsPlateOf plan p → IsPlateOf other q → path_below plan p ≡ path_below other q
    → site_name plan p.site ≡ site_name other q.site
site_named plan other p q is other_is of other_of path =
    (paths_tell plan other p.site q.site (group_at plan p.group) (group_at other q.group) p.ink q.ink (can_tell plan p.site p.group is of.site of.group) (can_tell other q.site q.group other_is other_of.site other_of.group) path).site_named

-- if plates of two plans have the same path, the first one's site is the one with the name of the second
-- one's site
site_is : (plan : PlanData) (other : PlanData) (p q : PlateAt) (its : ℕ) → IsPlan plan → IsPlan other → IsPlateOf plan p → IsPlateOf other q → path_below plan p ≡ path_below other q
    → its < length plan.sites → site_name plan its ≡ site_name other q.site → p.site ≡ its
site_is plan other p q its is other_is of other_of path low name =
    sites_apart plan p.site its is of.site low (site_named plan other p q is other_is of other_of path ∙ sym name)

-- ---- a site that the old job doesn't name

untested : (made : PlateAt → Bool) (ps : List PlateAt) → list_any (λ p. not (made p)) ps ≡ false → filter made ps ≡ ps
untested made [] all = refl
untested made (p ∷ ps) all = go (made p) (untested made ps) all
  where
    go : (b : Bool) → (list_any (λ q. not (made q)) ps ≡ false → filter made ps ≡ ps) → (not b || list_any (λ q. not (made q)) ps) ≡ false
        → cond b (p ∷ filter made ps) (filter made ps) ≡ p ∷ ps
    go true rest is = ap (λ l. p ∷ l) (rest is)
    go false rest is = absurd (false≢true (sym is))

module _ (before after : JobData) (out : List ℕ) (site : ℕ) (made : PlateAt → Bool) (before_is : IsPlan before.plan) (after_is : IsPlan after.plan)
    (low : site < length after.plan.sites) (other : (old : ℕ) → old < length before.plan.sites → site_name before.plan old ≡ site_name after.plan site → ⊥)
    (told : (new : PlateAt) → IsPlateOf after.plan new → IsTrue (made new) ↔ MustMake before after new) where
  -- each of its plates must be made
  all_made : (new : PlateAt) → IsPlateOf after.plan new → new.site ≡ site → made new ≡ true
  all_made new new_is at =
      (told new new_is).1 (λ old old_is old_path recipe.
      other old.site old_is.site (site_named before.plan after.plan old new before_is after_is old_is new_is old_path ∙ ap (site_name after.plan) at))

  -- so all of its files are made
  pub new_site : picked_files after out site made ≡ files_of_site after out site
  new_site =
      picked_are after out site made
      ∙ ap (map (entry_of after out))
      (untested made (plates_of after.plan site)
      (false_from_ne_true (list_any (λ p. not (made p)) (plates_of after.plan site)) (λ some.
      let one = some_of_site after.plan site (λ p. not (made p)) low some in
      both_ways (not (made one.0)) (ap not (all_made one.0 one.1 one.2)) one.3)))
      ∙ sym (files_are after out site)

module _ (before after : JobData) (out path : List ℕ) (old_site site : ℕ) (made : PlateAt → Bool) (before_is : IsPlan before.plan) (after_is : IsPlan after.plan)
    (old_low : old_site < length before.plan.sites) (low : site < length after.plan.sites) (name : site_name before.plan old_site ≡ site_name after.plan site)
    (told : (new : PlateAt) → IsPlateOf after.plan new → IsTrue (made new) ↔ MustMake before after new) where
  is_new : PlateAt → Bool
  is_new p = bytes_eq (entry_of after out p).0 path

  is_old : PlateAt → Bool
  is_old p = bytes_eq (entry_of before out p).0 path

  -- two new plates with the same path have the same bytes, and either both or neither must be made
  one_file : (p q : PlateAt) → IsPlateOf after.plan p → IsPlateOf after.plan q → (entry_of after out p).0 ≡ (entry_of after out q).0 → bytes_of_plate after p ≡ bytes_of_plate after q
  one_file p q p_is q_is same_path =
      let one = one_recipe after p q after_is p_is q_is (paths_below after after out p q same_path) in
      file_is after p after_is p_is ∙ ap (λ r. file_by r p.ink) one.0 ∙ ap (λ i. file_by (recipe_at after q) i) one.1 ∙ sym (file_is after q after_is q_is)

  one_made : (p q : PlateAt) → IsPlateOf after.plan p → IsPlateOf after.plan q → (entry_of after out p).0 ≡ (entry_of after out q).0 → made p ≡ true → made q ≡ true
  one_made p q p_is q_is same_path is =
      let below = paths_below after after out p q same_path in
      let one = one_recipe after p q after_is p_is q_is below in
      let must = (told p p_is).0 is in
      (told q q_is).1 (λ old old_is old_path recipe. must old old_is (old_path ∙ sym below) (recipe ∙ sym one.0))

  -- no made file has the path where no made plate of the site has it
  none_picked : ((p : PlateAt) → IsPlateOf after.plan p → p.site ≡ site → made p ≡ true → is_new p ≡ true → ⊥) → held_in (picked_files after out site made) path ≡ None
  unfolding is_new
  none_picked none =
      ap (λ files. held_in files path) (picked_are after out site made)
      ∙ held_none (entry_of after out) path (filter made (plates_of after.plan site))
      (any-filter made is_new (plates_of after.plan site)
      ∙ false_from_ne_true (list_any (λ p. made p && is_new p) (plates_of after.plan site)) (λ some.
      let other = some_of_site after.plan site (λ p. made p && is_new p) low some in
      let both = and_parts (made other.0) (is_new other.0) other.3 in
      none other.0 other.1 other.2 both.0 both.1))

  -- the case that a new plate of the site has the path
  module _ (new : PlateAt) (new_is : IsPlateOf after.plan new) (at_site : new.site ≡ site) (at_path : (entry_of after out new).0 ≡ path) where
    pub new_held : held_in (files_of_site after out site) path ≡ Some (bytes_of_plate after new)
    unfolding is_new
    new_held =
        let at : list_any is_new (plates_of after.plan site) ≡ true =
        subst (λ s. list_any is_new (plates_of after.plan s) ≡ true) at_site (any_of_site after.plan is_new new new_is ((bytes_decides (entry_of after out new).0 path).1 at_path)) in
        let all = found (entry_of after out) path (plates_of after.plan site) at in
        let other = some_of_site after.plan site (λ p. is_new p && bytes_eq (entry_of after out p).1 all.0) low all.2 in
        let parts = and_parts (is_new other.0) (bytes_eq (entry_of after out other.0).1 all.0) other.3 in
        let its_path = (bytes_decides (entry_of after out other.0).0 path).0 parts.0 in
        ap (λ files. held_in files path) (files_are after out site) ∙ all.1
        ∙ ap Some (sym ((bytes_decides (entry_of after out other.0).1 all.0).0 parts.1) ∙ one_file other.0 new other.1 new_is (its_path ∙ sym at_path))

    made_held : made new ≡ true → held_in (picked_files after out site made) path ≡ Some (bytes_of_plate after new)
    unfolding is_new
    made_held is =
        let at : list_any is_new (filter made (plates_of after.plan site)) ≡ true =
        any-filter made is_new (plates_of after.plan site)
        ∙ subst (λ s. list_any (λ p. made p && is_new p) (plates_of after.plan s) ≡ true) at_site
        (any_of_site after.plan (λ p. made p && is_new p) new new_is (and_from (made new) (is_new new) is ((bytes_decides (entry_of after out new).0 path).1 at_path))) in
        let all = found (entry_of after out) path (filter made (plates_of after.plan site)) at in
        let test : PlateAt → Bool = λ p. is_new p && bytes_eq (entry_of after out p).1 all.0 in
        let other = some_of_site after.plan site (λ p. made p && test p) low (sym (any-filter made test (plates_of after.plan site)) ∙ all.2) in
        let both = and_parts (made other.0) (test other.0) other.3 in
        let parts = and_parts (is_new other.0) (bytes_eq (entry_of after out other.0).1 all.0) both.1 in
        let its_path = (bytes_decides (entry_of after out other.0).0 path).0 parts.0 in
        ap (λ files. held_in files path) (picked_are after out site made) ∙ all.1
        ∙ ap Some (sym ((bytes_decides (entry_of after out other.0).1 all.0).0 parts.1) ∙ one_file other.0 new other.1 new_is (its_path ∙ sym at_path))

    unmade_held : made new ≡ false → held_in (picked_files after out site made) path ≡ None
    unfolding is_new
    unmade_held is = none_picked (λ p p_is at picked here.
        both_ways (made new) is (one_made p new p_is new_is ((bytes_decides (entry_of after out p).0 path).0 here ∙ sym at_path) picked))

    not_dropped : is_dropped_path before after out path ≡ false
    unfolding dropped_of has_path
    not_dropped =
        any-filter (is_dropped before.plan after.plan) (λ old. bytes_eq (entry_of before out old).0 path) (all_plates before.plan)
        ∙ false_from_ne_true (list_any (λ p. is_dropped before.plan after.plan p && bytes_eq (entry_of before out p).0 path) (all_plates before.plan)) (λ some.
        let old = some_plate before.plan (λ p. is_dropped before.plan after.plan p && bytes_eq (entry_of before out p).0 path) some in
        let both = and_parts (is_dropped before.plan after.plan old.0) (bytes_eq (entry_of before out old.0).0 path) old.2 in
        let old_path = (bytes_decides (entry_of before out old.0).0 path).0 both.1 in
        let below = paths_below after before out new old.0 (at_path ∙ sym old_path) in
        let has : has_path after.plan (path_below before.plan old.0) ≡ true =
        any_plate after.plan (λ plate. bytes_eq (path_below after.plan plate) (path_below before.plan old.0)) new new_is ((bytes_decides (path_below after.plan new) (path_below before.plan old.0)).1 below) in
        both_ways (is_dropped before.plan after.plan old.0) (not_from_true (has_path after.plan (path_below before.plan old.0)) has) both.0)

    old_held : made new ≡ false → held_in (files_of_site before out old_site) path ≡ Some (bytes_of_plate after new)
    unfolding has_path is_old
    old_held is =
        let unmade : MustMake before after new → ⊥ = λ must. both_ways (made new) is ((told new new_is).1 must) in
        let has = some_plate before.plan (λ plate. bytes_eq (path_below before.plan plate) (path_below after.plan new)) (held before after new before_is unmade) in
        let below = (bytes_decides (path_below before.plan has.0) (path_below after.plan new)).0 has.2 in
        let its = site_is before.plan after.plan has.0 new old_site before_is after_is has.1 new_is below old_low (name ∙ ap (site_name after.plan) (sym at_site)) in
        let old_path : (entry_of before out has.0).0 ≡ path = paths_above before after out has.0 new below ∙ at_path in
        let at : list_any is_old (plates_of before.plan old_site) ≡ true =
        subst (λ s. list_any is_old (plates_of before.plan s) ≡ true) its (any_of_site before.plan is_old has.0 has.1 ((bytes_decides (entry_of before out has.0).0 path).1 old_path)) in
        let all = found (entry_of before out) path (plates_of before.plan old_site) at in
        let other = some_of_site before.plan old_site (λ p. is_old p && bytes_eq (entry_of before out p).1 all.0) old_low all.2 in
        let parts = and_parts (is_old other.0) (bytes_eq (entry_of before out other.0).1 all.0) other.3 in
        let its_path = (bytes_decides (entry_of before out other.0).0 path).0 parts.0 in
        ap (λ files. held_in files path) (files_are before out old_site) ∙ all.1
        ∙ ap Some (sym ((bytes_decides (entry_of before out other.0).1 all.0).0 parts.1)
        ∙ same before after other.0 new before_is after_is other.1 new_is (paths_below before after out other.0 new (its_path ∙ sym at_path)) unmade)

    there : remade_at before after out old_site site made path ≡ held_in (files_of_site after out site) path
    there = elim (cases_Bool (made new)) [
      | inl is ↦ ap (λ o. option_or o (cond (is_dropped_path before after out path) None (held_in (files_of_site before out old_site) path))) (made_held is) ∙ sym new_held
      | inr is ↦
          ap (λ o. option_or o (cond (is_dropped_path before after out path) None (held_in (files_of_site before out old_site) path))) (unmade_held is)
          ∙ ap (λ b. cond b None (held_in (files_of_site before out old_site) path)) not_dropped ∙ old_held is ∙ sym new_held
    ]

  -- the case that no new plate of the site has the path
  module _ (none : list_any is_new (plates_of after.plan site) ≡ false) where
    none_held : held_in (files_of_site after out site) path ≡ None
    unfolding is_new
    none_held = none_at after out path site none

    none_made : held_in (picked_files after out site made) path ≡ None
    unfolding is_new
    none_made = none_picked (λ p p_is at picked here.
        both_ways (list_any is_new (plates_of after.plan site)) none
        (subst (λ s. list_any is_new (plates_of after.plan s) ≡ true) at (any_of_site after.plan is_new p p_is here)))

    -- an old plate with the path would be kept, so the new plan would have it
    none_old : is_dropped_path before after out path ≡ false → held_in (files_of_site before out old_site) path ≡ None
    unfolding is_new is_old dropped_of has_path
    none_old kept =
        ap (λ files. held_in files path) (files_are before out old_site) ∙ held_none (entry_of before out) path (plates_of before.plan old_site)
        (false_from_ne_true (list_any is_old (plates_of before.plan old_site)) (λ some.
        let old = some_of_site before.plan old_site is_old old_low some in
        let old_path = (bytes_decides (entry_of before out old.0).0 path).0 old.3 in
        let has : has_path after.plan (path_below before.plan old.0) ≡ true =
        true_from_ne_false (has_path after.plan (path_below before.plan old.0)) (λ lacks.
        both_ways (list_any (λ p. is_dropped before.plan after.plan p && bytes_eq (entry_of before out p).0 path) (all_plates before.plan))
        (sym (any-filter (is_dropped before.plan after.plan) (λ p. bytes_eq (entry_of before out p).0 path) (all_plates before.plan)) ∙ kept)
        (any_plate before.plan (λ p. is_dropped before.plan after.plan p && bytes_eq (entry_of before out p).0 path) old.0 old.1
        (and_from (is_dropped before.plan after.plan old.0) (bytes_eq (entry_of before out old.0).0 path) (not_from_false (has_path after.plan (path_below before.plan old.0)) lacks) old.3))) in
        let new = some_plate after.plan (λ plate. bytes_eq (path_below after.plan plate) (path_below before.plan old.0)) has in
        let below = (bytes_decides (path_below after.plan new.0) (path_below before.plan old.0)).0 new.2 in
        let its = site_is after.plan before.plan new.0 old.0 site after_is before_is new.1 old.1 below low (sym name ∙ ap (site_name before.plan) (sym old.2)) in
        let new_path : (entry_of after out new.0).0 ≡ path = paths_above after before out new.0 old.0 below ∙ old_path in
        both_ways (list_any is_new (plates_of after.plan site)) none
        (subst (λ s. list_any is_new (plates_of after.plan s) ≡ true) its (any_of_site after.plan is_new new.0 new.1 ((bytes_decides (entry_of after out new.0).0 path).1 new_path)))))

    nowhere : remade_at before after out old_site site made path ≡ held_in (files_of_site after out site) path
    nowhere =
        ap (λ o. option_or o (cond (is_dropped_path before after out path) None (held_in (files_of_site before out old_site) path))) none_made
        ∙ elim (cases_Bool (is_dropped_path before after out path)) [
          | inl gone ↦ ap (λ b. cond b None (held_in (files_of_site before out old_site) path)) gone ∙ sym none_held
          | inr kept ↦ ap (λ b. cond b None (held_in (files_of_site before out old_site) path)) kept ∙ none_old kept ∙ sym none_held
        ]

  pub remade : remade_at before after out old_site site made path ≡ held_in (files_of_site after out site) path
  unfolding is_new
  remade = elim (cases_Bool (list_any is_new (plates_of after.plan site))) [
    | inl some ↦
        let new = some_of_site after.plan site is_new low some in
        there new.0 new.1 new.2 ((bytes_decides (entry_of after out new.0).0 path).0 new.3)
    | inr none ↦ nowhere none
  ]
