-- Two jobs print all sections alike at a site: the site's files are the same, path by path.
use Rattle.std.proofs.Common.{◌≡◌, ℕ, ◌<◌, Bool, true, false, List, length, Some, refl, ap, sym, subst, ◌∙◌, inl, inr}
use Rattle.std.specs.Prelude.{IsTrue, ◌↔◌}
use Rattle.std.specs.List.{list_any}
use Rattle.std.specs.Str.{bytes_eq}
use Rattle.std.specs.Cmp.Lexicographic.{bytes_decides}
use Rattle.std.proofs.lemmas.Bool.{both_ways, cases_Bool, false≢true, false_from_ne_true}
use Rattle.plan_json.specs.Plan.{IsPlan}
use Rattle.replate.specs.Inputs.{JobData}
use Rattle.replate.specs.Picks.{MustMake}
use Rattle.replate.specs.Plates.{IsPlateOf, PlateAt, group_at, plates_of}
use Rattle.replate.proofs.GroupLemmas.{group_in_plan}
use Rattle.replate.proofs.PlateLemmas.{any_of_site, some_of_site}
use Rattle.replate_law.specs.Law.{bytes_of_plate, entry_of, files_of_site, held_in}
use Rattle.replate_law.specs.Part.{SectionAt, SitePrints}
use Rattle.replate_law.proofs.Parts.{same}
use Rattle.replate_law.proofs.Remade.{new_held, none_at, paths_above}

-- compared with itself, a job has no plate that must be made
none_made : (job : JobData) (new : PlateAt) → IsPlateOf job.plan new → IsTrue false ↔ MustMake job job new
none_made job new is = (λ yes. absurd (false≢true yes), λ must. absurd (must new is refl refl))

-- whether a plate has a path
abbrev is_here : JobData → List ℕ → List ℕ → PlateAt → Bool
is_here job out path plate = bytes_eq (entry_of job out plate).0 path

-- at the path of a plate of the site, the site's files have the bytes of the plate
here : (job : JobData) (out path : List ℕ) (site : ℕ) (plate : PlateAt) → IsPlan job.plan → site < length job.plan.sites → IsPlateOf job.plan plate → plate.site ≡ site → (entry_of job out plate).0 ≡ path
    → held_in (files_of_site job out site) path ≡ Some (bytes_of_plate job plate)
here job out path site plate is low of at_site at_path = new_held job job out path site site (λ _. false) is is low low refl (none_made job) plate of at_site at_path

-- each plate of job b at its site has a plate of job a with the same path and bytes
twin : (a b : JobData) (site its : ℕ) (plate : PlateAt) → IsPlan a.plan → IsPlan b.plan → site < length a.plan.sites → its < length b.plan.sites → SitePrints a site b its
    → IsPlateOf b.plan plate → plate.site ≡ its
    → (own : PlateAt) × IsPlateOf a.plan own × (own.site ≡ site) × ((out : List ℕ) → (entry_of a out own).0 ≡ (entry_of b out plate).0) × (bytes_of_plate a own ≡ bytes_of_plate b plate)
twin a b site its plate a_is b_is low its_low prints of at_site =
    let section = (group_at b.plan plate.group).section in
    let within = (group_in_plan b.plan plate.group b_is of.group).section in
    let of_a = prints.each section within in
    let whole : SectionAt = record { job = a; site = site; section = of_a.0 } in
    let part : SectionAt = record { job = b; site = its; section = section } in
    let own = same whole part plate (record { plan = a_is; site = low; section = of_a.1 }) (record { plan = b_is; site = its_low; section = within }) of_a.2 (record { is = of; site = at_site; section = refl }) in
    (own.own, own.is.is, own.is.site, λ out. paths_above a b out own.own plate own.path, own.bytes)

pub files : (a b : JobData) (out path : List ℕ) (site its : ℕ) → IsPlan a.plan → IsPlan b.plan → site < length a.plan.sites → its < length b.plan.sites
    → SitePrints a site b its → SitePrints b its a site → held_in (files_of_site a out site) path ≡ held_in (files_of_site b out its) path
files a b out path site its a_is b_is low its_low prints back =
    elim (cases_Bool (list_any (is_here b out path) (plates_of b.plan its))) [
      | inl some ↦
          let new = some_of_site b.plan its (is_here b out path) its_low some in
          let at_path = (bytes_decides (entry_of b out new.0).0 path).0 new.3 in
          let own = twin a b site its new.0 a_is b_is low its_low prints new.1 new.2 in
          here a out path site own.0 a_is low own.1 own.2 (own.3 out ∙ at_path) ∙ ap Some own.4 ∙ sym (here b out path its new.0 b_is its_low new.1 new.2 at_path)
      | inr none ↦
          none_at a out path site
          (false_from_ne_true (list_any (is_here a out path) (plates_of a.plan site)) (λ some.
          let old = some_of_site a.plan site (is_here a out path) low some in
          let at_path = (bytes_decides (entry_of a out old.0).0 path).0 old.3 in
          let own = twin b a its site old.0 b_is a_is its_low low back old.1 old.2 in
          both_ways (list_any (is_here b out path) (plates_of b.plan its)) none
          (subst {A = ℕ} (λ s. list_any (is_here b out path) (plates_of b.plan s) ≡ true) own.2
          (any_of_site b.plan (is_here b out path) own.0 own.1 ((bytes_decides (entry_of b out own.0).0 path).1 (own.3 out ∙ at_path))))))
          ∙ sym (none_at b out path its none)
    ]
