-- The sections, zones and sites that are read satisfy the clauses of a plan.
use Rattle.std.proofs.Common.{◌≡◌, ℕ, zero, suc, ◌%◌, ◌<◌, ◌≤◌, ◌==◌, false, List, [], ◌∷◌, ◌++◌, length, map, get_or, Option, None, Ok, refl, ap, subst, arith}
use Rattle.std.specs.Prelude.{All, AllPairs, IfSome, slice_index_or, codes}
use Rattle.std.specs.List.{list_any}
use Rattle.std.proofs.lemmas.Grind.{common_steps}
use Rattle.std.proofs.lemmas.Bool.Decides.{nat_tests}
use Rattle.std.proofs.lemmas.List.Elements.{All-nil, All-push}
use Rattle.std.proofs.lemmas.List.Quantifiers.{all_pairs_push}
use Rattle.serde_json.specs.Data.{Data}
use Rattle.plan_parts.specs.declared.fault.PlanFault.{PlanFault}
use Rattle.plan_parts.specs.declared.fault.PlanFault.TheVariants.{Range}
use Rattle.plan_json.specs.Data.{SectionData, ZoneData, ReplaceData, SiteData}
use Rattle.pr_base.specs.Number.{IsWithin}
use Rattle.plan_parts.specs.Words.{AreDistinct}
use Rattle.plan_json.specs.Plan.{IsSection, IsReplace, ReplaceApart, IsZone, IsSite}
use Rattle.plan_parts.specs.Reading.{Read, ◌>>=◌, ◌>>◌, must, object_with, new_name, index_in, defined, count_of, items_within, each_after, required, optional}
use Rattle.plan_json.specs.Pages.{page}
use Rattle.plan_json.specs.Zoning.{section_keys, replace_keys, zone_keys, site_keys, section_pages, section, sections, section_names, page_count, replaces, new_page, replace, replaced, zone, zones, zone_names, site_zone, site, sites, site_names}
use Rattle.plan_parts.proofs.Sound.{ok_is, required_gives, optional_gives, new_name_required, defined_required, bind_ok, number_sound, defined_sound, items_within_sound, each_keeps, list_keeps}
use Rattle.plan_json.proofs.SoundNames.{named_sound, none_named}

-- ---- sections

abbrev pub AreSections : ℕ → List SectionData → Type 0
AreSections n sections = All (IsSection n) sections × AreDistinct (section_names sections)

pub length-map : {A B : Type 0} (f : A → B) (xs : List A) → length (map f xs) ≡ length xs
length-map f [] = refl
length-map f (x ∷ xs) = ap suc (length-map f xs)

abbrev pub ArePlaces : ℕ → List ℕ → Type 0
ArePlaces n v = All (λ k. k < n) v

pub record IsEven (n : ℕ) (v : List ℕ) : Type 0 where
  pub count : IsWithin 2 128 (length v)
  pub even : length v % 2 ≡ 0
  pub places : ArePlaces n v

even_then : (n : ℕ) (fault : PlanFault) (read : Read (List ℕ)) (v : List ℕ)
    → (must (n % 2 == 0) fault >> read) ≡ Ok v → (n % 2 ≡ 0) × (read ≡ Ok v)
even_then n fault read v e = grind (arith, common_steps, nat_tests)

pub section_pages_sound : (names : List (List ℕ)) (path : List ℕ) (d : Data) (v : List ℕ)
    → section_pages names path d ≡ Ok v → IsEven (length names) v
unfolding section_pages
section_pages_sound names path d v e =
    let s = bind_ok (items_within 2 128 path d) (λ items. must (count_of items % 2 == 0) (Range path) >> each_after [] (λ _. defined names) path items) v e in
    let t = even_then (count_of s.0) (Range path) (each_after [] (λ _. defined names) path s.0) v s.2 in
    let P : ℕ → Type 0 = λ k. k < length names in
    let kept = each_keeps (λ _. defined names) (All P) (λ xs path d x h one. All-push P xs x h (defined_sound names path d x one)) [] path s.0 v (All-nil P) t.1 in
    let within = items_within_sound 2 128 path d s.0 s.1 in
    let same : length v ≡ count_of s.0 = omega (arith, kept.1) in
    record { count = rw same within; even = rw same t.0; places = kept.0 }

section_pages_required : (key : List ℕ) (names : List (List ℕ)) (path : List ℕ) (o : Data) (v : List ℕ)
    → required key (section_pages names) path o ≡ Ok v → IsEven (length names) v
section_pages_required key names path o v e = required_gives (IsEven (length names)) (section_pages names) (section_pages_sound names) key path o v e

section_sound : (names : List (List ℕ)) (earlier : List SectionData) (path : List ℕ) (d : Data)
    (s : SectionData) → section names earlier path d ≡ Ok s
    → IsSection (length names) s × (index_in (section_names earlier) s.name ≡ None)
unfolding section
section_sound names earlier path d s e =
    let s0 = bind_ok (object_with section_keys path d) (λ o. required (codes "name") (new_name (section_names earlier)) path o >>= λ name. required (codes "pages") (section_pages names) path o >>= λ pages. Ok (record { name = name; pages = pages })) s e in
    let s1 = bind_ok (required (codes "name") (new_name (section_names earlier)) path s0.0) (λ name. required (codes "pages") (section_pages names) path s0.0 >>= λ pages. Ok (record { name = name; pages = pages })) s s0.2 in
    let s2 = bind_ok (required (codes "pages") (section_pages names) path s0.0) (λ pages. Ok (record { name = s1.0; pages = pages })) s s1.2 in
    let same = ok_is {A = SectionData} (record { name = s1.0; pages = s2.0 }) s s2.2 in
    let n = new_name_required (codes "name") (section_names earlier) path s0.0 s1.0 s1.1 in
    let p = section_pages_required (codes "pages") names path s0.0 s2.0 s2.1 in
    subst (λ (s : SectionData). IsSection (length names) s × (index_in (section_names earlier) s.name ≡ None)) same (record { name = n.0; count = p.count; even = p.even; pages = p.places }, n.1)

pub sections_sound : (names : List (List ℕ)) (path : List ℕ) (d : Data) (v : List SectionData)
    → sections names path d ≡ Ok v → AreSections (length names) v × IsWithin 1 8 (length v)
unfolding sections
sections_sound names = named_sound (IsSection (length names)) (λ (t : SectionData). t.name) (section names) (section_sound names) 1 8

-- ---- zones

new_page_sound : (earlier : List ReplaceData) (section count : ℕ) (path : List ℕ) (d : Data) (n : ℕ)
    → new_page earlier section count path d ≡ Ok n
    → IsWithin 1 count n × (list_any (replaces section n) earlier ≡ false)
unfolding new_page
new_page_sound earlier section count path d n e = grind (arith, common_steps, number_sound)

names_of_sections : (sections : List SectionData) → length (section_names sections) ≡ length sections
names_of_sections sections = length-map (λ (s : SectionData). s.name) sections

-- within the list, the default value does not matter
same_at : {A : Type 0} (xs : List A) (i : ℕ) (c d : A) → i < length xs → get_or xs i c ≡ get_or xs i d
same_at [] i c d h = absurd (omega arith)
same_at (x ∷ xs) zero c d h = refl
same_at (x ∷ xs) (suc i) c d h = same_at xs i c d (omega arith)

page_count_any : (sections : List SectionData) (i : ℕ) (s : SectionData) → i < length sections
    → length (slice_index_or sections i s).pages ≡ page_count sections i
page_count_any sections i s h = ap (λ (t : SectionData). length t.pages) (same_at sections i s _ h)

record ReplaceParts (names : List (List ℕ)) (sections : List SectionData) (earlier : List ReplaceData)
    (r : ReplaceData) : Type 0 where
  section : r.section < length (section_names sections)
  page : IsWithin 1 (page_count sections r.section) r.page
  with : r.with < length names
  new : list_any (replaces r.section r.page) earlier ≡ false

new_page_required : (key : List ℕ) (earlier : List ReplaceData) (section count : ℕ) (path : List ℕ) (o : Data)
    (n : ℕ) → required key (new_page earlier section count) path o ≡ Ok n
    → IsWithin 1 count n × (list_any (replaces section n) earlier ≡ false)
new_page_required key earlier section count path o n e =
    required_gives (λ n. IsWithin 1 count n × (list_any (replaces section n) earlier ≡ false)) (new_page earlier section count) (new_page_sound earlier section count) key path o n e

replace_parts : (names : List (List ℕ)) (sections : List SectionData) (earlier : List ReplaceData)
    (path : List ℕ) (d : Data) (r : ReplaceData)
    → replace names sections earlier path d ≡ Ok r → ReplaceParts names sections earlier r
unfolding replace
replace_parts names sections earlier path d r e =
    let s0 = bind_ok (object_with replace_keys path d) (λ o. required (codes "section") (defined (section_names sections)) path o >>= λ section. required (codes "page") (new_page earlier section (page_count sections section)) path o >>= λ page. required (codes "with") (defined names) path o >>= λ with. Ok (record { section = section; page = page; with = with })) r e in
    let s1 = bind_ok (required (codes "section") (defined (section_names sections)) path s0.0) (λ section. required (codes "page") (new_page earlier section (page_count sections section)) path s0.0 >>= λ page. required (codes "with") (defined names) path s0.0 >>= λ with. Ok (record { section = section; page = page; with = with })) r s0.2 in
    let s2 = bind_ok (required (codes "page") (new_page earlier s1.0 (page_count sections s1.0)) path s0.0) (λ page. required (codes "with") (defined names) path s0.0 >>= λ with. Ok (record { section = s1.0; page = page; with = with })) r s1.2 in
    let s3 = bind_ok (required (codes "with") (defined names) path s0.0) (λ with. Ok (record { section = s1.0; page = s2.0; with = with })) r s2.2 in
    let same = ok_is {A = ReplaceData} (record { section = s1.0; page = s2.0; with = s3.0 }) r s3.2 in
    let p = new_page_required (codes "page") earlier s1.0 (page_count sections s1.0) path s0.0 s2.0 s2.1 in
    subst (ReplaceParts names sections earlier) same (record { section = defined_required (codes "section") (section_names sections) path s0.0 s1.0 s1.1; page = p.0; with = defined_required (codes "with") names path s0.0 s3.0 s3.1; new = p.1 })

abbrev AreReplaced : ℕ → List SectionData → List ReplaceData → Type 0
AreReplaced n sections v = All (IsReplace n sections) v × AllPairs ReplaceApart v

apart_from : (section page : ℕ) (earlier : List ReplaceData) (with : ℕ)
    → list_any (replaces section page) earlier ≡ false → (k : ℕ) (d : ReplaceData) → k < length earlier
    → ReplaceApart (get_or earlier k d) (record { section = section; page = page; with = with })
apart_from section page [] with e k d less = absurd (omega arith)
apart_from section page (r ∷ earlier) with e zero d less = grind (arith, common_steps, nat_tests)
apart_from section page (r ∷ earlier) with e (suc k) d less = apart_from section page earlier with (grind (arith, common_steps)) k d (omega arith)

replaced_step : (names : List (List ℕ)) (sections : List SectionData) (xs : List ReplaceData) (path : List ℕ)
    (d : Data) (x : ReplaceData)
    → AreReplaced (length names) sections xs → replace names sections xs path d ≡ Ok x
    → AreReplaced (length names) sections (xs ++ x ∷ [])
replaced_step names sections xs path d x h e =
    let t = replace_parts names sections xs path d x e in
    let inside : x.section < length sections = omega (arith, t.section, names_of_sections sections) in
    let one : IsReplace (length names) sections x = record { section = inside; page = λ s. rw (page_count_any sections x.section s inside) t.page; with = t.with } in
    (All-push (IsReplace (length names) sections) xs x h.0 one, all_pairs_push ReplaceApart xs x h.1 (apart_from x.section x.page xs x.with t.new))

no_pairs : AllPairs ReplaceApart []
no_pairs i j d less within = absurd (omega arith)

replaced_sound : (names : List (List ℕ)) (sections : List SectionData) (path : List ℕ) (d : Data)
    (v : List ReplaceData) → replaced names sections path d ≡ Ok v
    → AreReplaced (length names) sections v × (length v ≤ 1024)
unfolding replaced
replaced_sound names sections path d v e =
    let kept = list_keeps (replace names sections) (AreReplaced (length names) sections) (replaced_step names sections) 0 1024 path d v (All-nil (IsReplace (length names) sections), no_pairs) e in
    (kept.0, kept.1.most)

replaced_required : (key : List ℕ) (names : List (List ℕ)) (sections : List SectionData) (path : List ℕ)
    (o : Data) (v : List ReplaceData) → required key (replaced names sections) path o ≡ Ok v
    → AreReplaced (length names) sections v × (length v ≤ 1024)
replaced_required key names sections path o v e =
    required_gives (λ v. AreReplaced (length names) sections v × (length v ≤ 1024)) (replaced names sections) (replaced_sound names sections) key path o v e

zone_sound : (names : List (List ℕ)) (sections : List SectionData) (earlier : List ZoneData) (path : List ℕ)
    (d : Data) (z : ZoneData)
    → zone names sections earlier path d ≡ Ok z
    → IsZone (length names) sections z × (index_in (zone_names earlier) z.name ≡ None)
unfolding zone
zone_sound names sections earlier path d z e =
    let s0 = bind_ok (object_with zone_keys path d) (λ o. required (codes "name") (new_name (zone_names earlier)) path o >>= λ name. required (codes "replace") (replaced names sections) path o >>= λ items. Ok (record { name = name; replace = items })) z e in
    let s1 = bind_ok (required (codes "name") (new_name (zone_names earlier)) path s0.0) (λ name. required (codes "replace") (replaced names sections) path s0.0 >>= λ items. Ok (record { name = name; replace = items })) z s0.2 in
    let s2 = bind_ok (required (codes "replace") (replaced names sections) path s0.0) (λ items. Ok (record { name = s1.0; replace = items })) z s1.2 in
    let same = ok_is {A = ZoneData} (record { name = s1.0; replace = s2.0 }) z s2.2 in
    let n = new_name_required (codes "name") (zone_names earlier) path s0.0 s1.0 s1.1 in
    let i = replaced_required (codes "replace") names sections path s0.0 s2.0 s2.1 in
    subst (λ (z : ZoneData). IsZone (length names) sections z × (index_in (zone_names earlier) z.name ≡ None)) same (record { name = n.0; count = i.1; items = i.0.0; apart = i.0.1 }, n.1)

abbrev pub AreZones : ℕ → List SectionData → List ZoneData → Type 0
AreZones n sections zones = All (IsZone n sections) zones × AreDistinct (zone_names zones)

pub no_zones : (n : ℕ) (sections : List SectionData) → AreZones n sections []
no_zones n sections = none_named (IsZone n sections) (λ (t : ZoneData). t.name)

pub zones_sound : (names : List (List ℕ)) (sections : List SectionData) (path : List ℕ) (d : Data)
    (v : List ZoneData) → zones names sections path d ≡ Ok v
    → AreZones (length names) sections v × (length v ≤ 16)
unfolding zones
zones_sound names sections path d v e =
    let kept = named_sound (IsZone (length names) sections) (λ (t : ZoneData). t.name) (zone names sections) (zone_sound names sections) 0 16 path d v e in
    (kept.0, kept.1.most)

-- ---- sites

site_zone_sound : (names : List (List ℕ)) (path : List ℕ) (d : Data) (z : Option ℕ)
    → site_zone names path d ≡ Ok z → IfSome z (λ zone. zone < length names)
unfolding site_zone
site_zone_sound names path d z e = grind (arith, common_steps, defined_sound)

site_zone_optional : (key : List ℕ) (names : List (List ℕ)) (path : List ℕ) (o : Data) (z : Option ℕ)
    → optional key None (site_zone names) path o ≡ Ok z → IfSome z (λ zone. zone < length names)
site_zone_optional key names path o z e = optional_gives (λ z. IfSome z (λ zone. zone < length names)) None (site_zone names) tt (site_zone_sound names) key path o z e

site_sound : (names : List (List ℕ)) (earlier : List SiteData) (path : List ℕ) (d : Data) (s : SiteData)
    → site names earlier path d ≡ Ok s
    → IsSite (length names) s × (index_in (site_names earlier) s.name ≡ None)
unfolding site
site_sound names earlier path d s e =
    let s0 = bind_ok (object_with site_keys path d) (λ o. required (codes "name") (new_name (site_names earlier)) path o >>= λ name. optional (codes "zone") None (site_zone names) path o >>= λ zone. Ok (record { name = name; zone = zone })) s e in
    let s1 = bind_ok (required (codes "name") (new_name (site_names earlier)) path s0.0) (λ name. optional (codes "zone") None (site_zone names) path s0.0 >>= λ zone. Ok (record { name = name; zone = zone })) s s0.2 in
    let s2 = bind_ok (optional (codes "zone") None (site_zone names) path s0.0) (λ zone. Ok (record { name = s1.0; zone = zone })) s s1.2 in
    let same = ok_is {A = SiteData} (record { name = s1.0; zone = s2.0 }) s s2.2 in
    let n = new_name_required (codes "name") (site_names earlier) path s0.0 s1.0 s1.1 in
    subst (λ (s : SiteData). IsSite (length names) s × (index_in (site_names earlier) s.name ≡ None)) same (record { name = n.0; zone = site_zone_optional (codes "zone") names path s0.0 s2.0 s2.1 }, n.1)

abbrev pub AreSites : ℕ → List SiteData → Type 0
AreSites n sites = All (IsSite n) sites × AreDistinct (site_names sites)

pub sites_sound : (names : List (List ℕ)) (path : List ℕ) (d : Data) (v : List SiteData)
    → sites names path d ≡ Ok v → AreSites (length names) v × IsWithin 1 16 (length v)
unfolding sites
sites_sound names = named_sound (IsSite (length names)) (λ (t : SiteData). t.name) (site names) (site_sound names) 1 16
