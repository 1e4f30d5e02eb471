-- What is read is a plan: the results of reading each key, combined.
use Rattle.std.proofs.Common.{◌≡◌, ℕ, ◌≤◌, ◌==◌, Bool, true, List, [], length, Ok, refl, sym, ap, subst, ◌∙◌, arith}
use Rattle.std.specs.Prelude.{All, codes}
use Rattle.std.proofs.lemmas.Grind.{common_steps}
use Rattle.serde_json.specs.Data.{Data}
use Rattle.plan_parts.specs.declared.fault.PlanFault.{PlanFault}
use Rattle.plan_parts.specs.declared.fault.PlanFault.TheVariants.{Range}
use Rattle.plan_parts.specs.Gives.{Fails}
use Rattle.plan_parts.proofs.Lists.{fails_then}
use Rattle.plan_json.specs.declared.first_keys.FirstKeys.{FirstKeys}
use Rattle.plan_parts.specs.declared.printing.Screen.{Screen}
use Rattle.plan_parts.specs.Forms.{is_name}
use Rattle.plan_parts.specs.Data.{PageData, TileData, CurveData, MarkData}
use Rattle.plan_json.specs.Data.{PlanData, SectionData, ZoneData, SiteData, width_over, height_over}
use Rattle.pr_base.specs.Number.{IsWithin}
use Rattle.plan_parts.specs.Parts.{IsMark}
use Rattle.plan_json.specs.Plan.{IsPlan}
use Rattle.plan_json.specs.Printed.{Inks, Layout}
use Rattle.plan_parts.specs.Reading.{◌>>=◌, ◌>>◌, must, at_key, object_with, required, optional, number, name}
use Rattle.plan_parts.specs.Printing.{tiles, screens, bayer_screens, curves, identities, marks}
use Rattle.plan_json.specs.Pages.{PageText, pages, page_names}
use Rattle.plan_json.specs.Files.{files_of, pages_of}
use Rattle.plan_json.specs.Zoning.{sections, zones, zone_names, sites}
use Rattle.plan_json.specs.PlanOf.{top_keys, plan_in, page_size, margins, no_margins, fits_plate, front, inks, layout, joined, plan_by}
use Rattle.plan_parts.proofs.Sound.{ok_is, bind_ok, then_ok, must_ok, required_gives, optional_gives, number_required, number_optional, name_required, nth_sound}
use Rattle.plan_parts.proofs.SoundPrinting.{AreTiles, AreScreens, AreCurves, tiles_sound, no_tiles, screens_sound, bayer_screens_sound, curves_sound, identities_sound, marks_sound, no_marks, inside_sound}
use Rattle.plan_json.proofs.SoundPages.{ArePages, pages_sound}
use Rattle.plan_json.proofs.SoundZoning.{AreSections, AreZones, AreSites, sections_sound, zones_sound, no_zones, sites_sound, length-map}
use Rattle.plan_json.proofs.SoundFiles.{pages_of_are, length-pages_of, names-pages_of, files_are, files_distinct, first_mentions}

-- ---- the first keys

page_size_sound : (path : List ℕ) (d : Data) (p : ℕ × ℕ) → page_size path d ≡ Ok p
    → IsWithin 1 65535 p.0 × IsWithin 1 65535 p.1
unfolding page_size
page_size_sound path d p e = grind (arith, common_steps, nth_sound)

margins_sound : (path : List ℕ) (d : Data) (m : List ℕ) → margins path d ≡ Ok m → length m ≡ 4
unfolding margins
margins_sound path d m e = grind (arith, common_steps)

page_required : (key path : List ℕ) (o : Data) (p : ℕ × ℕ) → required key page_size path o ≡ Ok p
    → IsWithin 1 65535 p.0 × IsWithin 1 65535 p.1
page_required key path o p e = required_gives (λ p. IsWithin 1 65535 p.0 × IsWithin 1 65535 p.1) page_size page_size_sound key path o p e

margins_optional : (key path : List ℕ) (o : Data) (m : List ℕ) → optional key no_margins margins path o ≡ Ok m
    → length m ≡ 4
margins_optional key path o m e = optional_gives (λ m. length m ≡ 4) no_margins margins refl margins_sound key path o m e

record AreFirstKeys (f : FirstKeys) : Type 0 where
  edition : is_name f.edition ≡ true
  dpi : IsWithin 1 10000 f.dpi
  page_width : IsWithin 1 65535 f.page_width
  page_height : IsWithin 1 65535 f.page_height
  margins : length f.margins ≡ 4
  width : width_over f.margins f.page_width f.gutter ≤ 65535
  height : height_over f.margins f.page_height ≤ 65535
  limit : f.limit ≤ 1020

front_sound : (path : List ℕ) (o : Data) (f : FirstKeys) → front path o ≡ Ok f → AreFirstKeys f
unfolding front
front_sound path o f e =
    let s0 = bind_ok (required (codes "edition") name path o) (λ edition. required (codes "dpi") (number 1 10000) path o >>= λ dpi. required (codes "page") page_size path o >>= λ page. optional (codes "margins") no_margins margins path o >>= λ edges. optional (codes "gutter") 0 (number 0 65535) path o >>= λ gutter. must (fits_plate edges page.0 page.1 gutter) (Range (at_key path (codes "page"))) >> (optional (codes "limit") 1020 (number 0 1020) path o >>= λ limit. Ok (record { edition = edition; dpi = dpi; page_width = page.0; page_height = page.1; margins = edges; gutter = gutter; limit = limit }))) f e in
    let s1 = bind_ok (required (codes "dpi") (number 1 10000) path o) (λ dpi. required (codes "page") page_size path o >>= λ page. optional (codes "margins") no_margins margins path o >>= λ edges. optional (codes "gutter") 0 (number 0 65535) path o >>= λ gutter. must (fits_plate edges page.0 page.1 gutter) (Range (at_key path (codes "page"))) >> (optional (codes "limit") 1020 (number 0 1020) path o >>= λ limit. Ok (record { edition = s0.0; dpi = dpi; page_width = page.0; page_height = page.1; margins = edges; gutter = gutter; limit = limit }))) f s0.2 in
    let s2 = bind_ok (required (codes "page") page_size path o) (λ page. optional (codes "margins") no_margins margins path o >>= λ edges. optional (codes "gutter") 0 (number 0 65535) path o >>= λ gutter. must (fits_plate edges page.0 page.1 gutter) (Range (at_key path (codes "page"))) >> (optional (codes "limit") 1020 (number 0 1020) path o >>= λ limit. Ok (record { edition = s0.0; dpi = s1.0; page_width = page.0; page_height = page.1; margins = edges; gutter = gutter; limit = limit }))) f s1.2 in
    let s3 = bind_ok (optional (codes "margins") no_margins margins path o) (λ edges. optional (codes "gutter") 0 (number 0 65535) path o >>= λ gutter. must (fits_plate edges s2.0.0 s2.0.1 gutter) (Range (at_key path (codes "page"))) >> (optional (codes "limit") 1020 (number 0 1020) path o >>= λ limit. Ok (record { edition = s0.0; dpi = s1.0; page_width = s2.0.0; page_height = s2.0.1; margins = edges; gutter = gutter; limit = limit }))) f s2.2 in
    let s4 = bind_ok (optional (codes "gutter") 0 (number 0 65535) path o) (λ gutter. must (fits_plate s3.0 s2.0.0 s2.0.1 gutter) (Range (at_key path (codes "page"))) >> (optional (codes "limit") 1020 (number 0 1020) path o >>= λ limit. Ok (record { edition = s0.0; dpi = s1.0; page_width = s2.0.0; page_height = s2.0.1; margins = s3.0; gutter = gutter; limit = limit }))) f s3.2 in
    let s5 = then_ok (must (fits_plate s3.0 s2.0.0 s2.0.1 s4.0) (Range (at_key path (codes "page")))) (optional (codes "limit") 1020 (number 0 1020) path o >>= λ limit. Ok (record { edition = s0.0; dpi = s1.0; page_width = s2.0.0; page_height = s2.0.1; margins = s3.0; gutter = s4.0; limit = limit })) f s4.2 in
    let s6 = bind_ok (optional (codes "limit") 1020 (number 0 1020) path o) (λ limit. Ok (record { edition = s0.0; dpi = s1.0; page_width = s2.0.0; page_height = s2.0.1; margins = s3.0; gutter = s4.0; limit = limit })) f s5.2 in
    let same = ok_is {A = FirstKeys} (record { edition = s0.0; dpi = s1.0; page_width = s2.0.0; page_height = s2.0.1; margins = s3.0; gutter = s4.0; limit = s6.0 }) f s6.2 in
    let p = page_required (codes "page") path o s2.0 s2.1 in
    let inside = inside_sound (width_over s3.0 s2.0.0 s4.0) (height_over s3.0 s2.0.1) 65535 65535 (must_ok _ (Range (at_key path (codes "page"))) s5.1) in
    subst AreFirstKeys same (record { edition = name_required (codes "edition") path o s0.0 s0.1; dpi = number_required (codes "dpi") 1 10000 path o s1.0 s1.1; page_width = p.0; page_height = p.1; margins = margins_optional (codes "margins") path o s3.0 s3.1; width = inside.0; height = inside.1; limit = (number_optional (codes "limit") 1020 0 1020 path o s6.0 (omega arith) (omega arith) s6.1).most })

-- ---- inks

record AreInks (width height : ℕ) (i : Inks) : Type 0 where
  tiles : AreTiles i.tiles
  tile_count : length i.tiles ≤ 16
  screens : AreScreens (length i.tiles) i.screens
  curves : AreCurves i.curves
  marks : All (IsMark width height) i.marks
  mark_count : length i.marks ≤ 64

tiles_optional : (key path : List ℕ) (o : Data) (v : List TileData) → optional key [] tiles path o ≡ Ok v
    → AreTiles v × (length v ≤ 16)
tiles_optional key path o v e = optional_gives (λ v. AreTiles v × (length v ≤ 16)) [] tiles (no_tiles, omega arith) tiles_sound key path o v e

screens_optional : (key : List ℕ) (spot : Bool) (tiles : List TileData) (path : List ℕ) (o : Data)
    (v : List Screen) → optional key bayer_screens (screens spot tiles) path o ≡ Ok v
    → AreScreens (length tiles) v
screens_optional key spot tiles path o v e = optional_gives (AreScreens (length tiles)) bayer_screens (screens spot tiles) (bayer_screens_sound (length tiles)) (screens_sound spot tiles) key path o v e

curves_optional : (key : List ℕ) (spot : Bool) (path : List ℕ) (o : Data) (v : List CurveData)
    → optional key identities (curves spot) path o ≡ Ok v → AreCurves v
curves_optional key spot path o v e = optional_gives AreCurves identities (curves spot) identities_sound (curves_sound spot) key path o v e

marks_optional : (key : List ℕ) (spot : Bool) (width height : ℕ) (path : List ℕ) (o : Data)
    (v : List MarkData) → optional key [] (marks spot width height) path o ≡ Ok v
    → All (IsMark width height) v × (length v ≤ 64)
marks_optional key spot width height path o v e = optional_gives (λ v. All (IsMark width height) v × (length v ≤ 64)) [] (marks spot width height) (no_marks width height, omega arith) (marks_sound spot width height) key path o v e

inks_sound : (spot : Bool) (width height : ℕ) (path : List ℕ) (o : Data) (i : Inks)
    → inks spot width height path o ≡ Ok i → AreInks width height i
unfolding inks
inks_sound spot width height path o i e =
    let s0 = bind_ok (optional (codes "tiles") [] tiles path o) (λ own. optional (codes "screens") bayer_screens (screens spot own) path o >>= λ shown. optional (codes "curves") identities (curves spot) path o >>= λ drawn. optional (codes "marks") [] (marks spot width height) path o >>= λ put. Ok (record { tiles = own; screens = shown; curves = drawn; marks = put })) i e in
    let s1 = bind_ok (optional (codes "screens") bayer_screens (screens spot s0.0) path o) (λ shown. optional (codes "curves") identities (curves spot) path o >>= λ drawn. optional (codes "marks") [] (marks spot width height) path o >>= λ put. Ok (record { tiles = s0.0; screens = shown; curves = drawn; marks = put })) i s0.2 in
    let s2 = bind_ok (optional (codes "curves") identities (curves spot) path o) (λ drawn. optional (codes "marks") [] (marks spot width height) path o >>= λ put. Ok (record { tiles = s0.0; screens = s1.0; curves = drawn; marks = put })) i s1.2 in
    let s3 = bind_ok (optional (codes "marks") [] (marks spot width height) path o) (λ put. Ok (record { tiles = s0.0; screens = s1.0; curves = s2.0; marks = put })) i s2.2 in
    let same = ok_is {A = Inks} (record { tiles = s0.0; screens = s1.0; curves = s2.0; marks = s3.0 }) i s3.2 in
    let t = tiles_optional (codes "tiles") path o s0.0 s0.1 in
    let m = marks_optional (codes "marks") spot width height path o s3.0 s3.1 in
    subst (AreInks width height) same (record { tiles = t.0; tile_count = t.1; screens = screens_optional (codes "screens") spot s0.0 path o s1.0 s1.1; curves = curves_optional (codes "curves") spot path o s2.0 s2.1; marks = m.0; mark_count = m.1 })

-- ---- pages, sections, zones and sites

record IsLayout (l : Layout) : Type 0 where
  pages : ArePages l.pages
  page_count : IsWithin 1 2048 (length l.pages)
  sections : AreSections (length (page_names l.pages)) l.sections
  section_count : IsWithin 1 8 (length l.sections)
  zones : AreZones (length (page_names l.pages)) l.sections l.zones
  zone_count : length l.zones ≤ 16
  sites : AreSites (length (zone_names l.zones)) l.sites
  site_count : IsWithin 1 16 (length l.sites)

pages_required : (key : List ℕ) (spot : Bool) (path : List ℕ) (o : Data) (v : List PageText)
    → required key (pages spot) path o ≡ Ok v → ArePages v × IsWithin 1 2048 (length v)
pages_required key spot path o v e = required_gives (λ v. ArePages v × IsWithin 1 2048 (length v)) (pages spot) (pages_sound spot) key path o v e

sections_required : (key : List ℕ) (names : List (List ℕ)) (path : List ℕ) (o : Data) (v : List SectionData)
    → required key (sections names) path o ≡ Ok v → AreSections (length names) v × IsWithin 1 8 (length v)
sections_required key names path o v e = required_gives (λ v. AreSections (length names) v × IsWithin 1 8 (length v)) (sections names) (sections_sound names) key path o v e

zones_optional : (key : List ℕ) (names : List (List ℕ)) (s : List SectionData) (path : List ℕ) (o : Data)
    (v : List ZoneData) → optional key [] (zones names s) path o ≡ Ok v
    → AreZones (length names) s v × (length v ≤ 16)
zones_optional key names s path o v e = optional_gives (λ v. AreZones (length names) s v × (length v ≤ 16)) [] (zones names s) (no_zones (length names) s, omega arith) (zones_sound names s) key path o v e

sites_required : (key : List ℕ) (names : List (List ℕ)) (path : List ℕ) (o : Data) (v : List SiteData)
    → required key (sites names) path o ≡ Ok v → AreSites (length names) v × IsWithin 1 16 (length v)
sites_required key names path o v e = required_gives (λ v. AreSites (length names) v × IsWithin 1 16 (length v)) (sites names) (sites_sound names) key path o v e

layout_sound : (spot : Bool) (path : List ℕ) (o : Data) (l : Layout) → layout spot path o ≡ Ok l → IsLayout l
unfolding layout
layout_sound spot path o l e =
    let s0 = bind_ok (required (codes "pages") (pages spot) path o) (λ ps. required (codes "sections") (sections (page_names ps)) path o >>= λ ss. optional (codes "zones") [] (zones (page_names ps) ss) path o >>= λ zs. required (codes "sites") (sites (zone_names zs)) path o >>= λ at. Ok (record { pages = ps; sections = ss; zones = zs; sites = at })) l e in
    let s1 = bind_ok (required (codes "sections") (sections (page_names s0.0)) path o) (λ ss. optional (codes "zones") [] (zones (page_names s0.0) ss) path o >>= λ zs. required (codes "sites") (sites (zone_names zs)) path o >>= λ at. Ok (record { pages = s0.0; sections = ss; zones = zs; sites = at })) l s0.2 in
    let s2 = bind_ok (optional (codes "zones") [] (zones (page_names s0.0) s1.0) path o) (λ zs. required (codes "sites") (sites (zone_names zs)) path o >>= λ at. Ok (record { pages = s0.0; sections = s1.0; zones = zs; sites = at })) l s1.2 in
    let s3 = bind_ok (required (codes "sites") (sites (zone_names s2.0)) path o) (λ at. Ok (record { pages = s0.0; sections = s1.0; zones = s2.0; sites = at })) l s2.2 in
    let same = ok_is {A = Layout} (record { pages = s0.0; sections = s1.0; zones = s2.0; sites = s3.0 }) l s3.2 in
    let p = pages_required (codes "pages") spot path o s0.0 s0.1 in
    let s = sections_required (codes "sections") (page_names s0.0) path o s1.0 s1.1 in
    let z = zones_optional (codes "zones") (page_names s0.0) s1.0 path o s2.0 s2.1 in
    let t = sites_required (codes "sites") (zone_names s2.0) path o s3.0 s3.1 in
    subst IsLayout same (record { pages = p.0; page_count = p.1; sections = s.0; section_count = s.1; zones = z.0; zone_count = z.1; sites = t.0; site_count = t.1 })

-- ---- the plan

names_count : (pages : List PageText) → length (page_names pages) ≡ length (pages_of pages)
names_count pages = length-map (λ (p : PageText). p.name) pages ∙ sym (length-pages_of pages)

joined_sound : (f : FirstKeys) (i : Inks) (l : Layout) → AreFirstKeys f
    → AreInks (width_over f.margins f.page_width f.gutter) (height_over f.margins f.page_height) i
    → IsLayout l → IsPlan (joined f i l)
unfolding joined
joined_sound f i l F I L =
    let n = names_count l.pages in
    record {
      edition = F.edition;
      dpi = F.dpi;
      page_width = F.page_width;
      page_height = F.page_height;
      margins = F.margins;
      width = F.width;
      height = F.height;
      limit = F.limit;
      tile_count = I.tile_count;
      tiles = I.tiles.0;
      tile_names = I.tiles.1;
      screen_count = I.screens.0;
      screens = I.screens.1;
      curve_count = I.curves.0;
      curves = I.curves.1;
      mark_count = I.mark_count;
      marks = I.marks;
      page_count = rw (length-pages_of l.pages) L.page_count;
      pages = pages_of_are l.pages L.pages.0;
      page_names = rw (names-pages_of l.pages) L.pages.1;
      section_count = L.section_count;
      sections = rw (← n) L.sections.0;
      section_names = L.sections.1;
      zone_count = L.zone_count;
      zones = rw (← n) L.zones.0;
      zone_names = L.zones.1;
      site_count = L.site_count;
      sites = rw (← length-map (λ z. z.name) l.zones) L.sites.0;
      site_names = L.sites.1;
      files = files_are l.pages L.pages.0;
      file_names = files_distinct l.pages;
      first_mention = first_mentions l.pages;
    }

pub plan_by_sound : (spot : Bool) (path : List ℕ) (o : Data) (p : PlanData) → plan_by spot path o ≡ Ok p
    → IsPlan p
unfolding plan_by
plan_by_sound spot path o p e =
    let width : FirstKeys → ℕ = λ f. width_over f.margins f.page_width f.gutter in
    let height : FirstKeys → ℕ = λ f. height_over f.margins f.page_height in
    let a = bind_ok (front path o) (λ f. inks spot (width f) (height f) path o >>= λ i. layout spot path o >>= λ l. Ok (joined f i l)) p e in
    let b = bind_ok (inks spot (width a.0) (height a.0) path o) (λ i. layout spot path o >>= λ l. Ok (joined a.0 i l)) p a.2 in
    let c = bind_ok (layout spot path o) (λ l. Ok (joined a.0 b.0 l)) p b.2 in
    let same : joined a.0 b.0 c.0 ≡ p = cc in
    rw (← same) (joined_sound a.0 b.0 c.0 (front_sound path o a.0 a.1) (inks_sound spot (width a.0) (height a.0) path o b.0 b.1) (layout_sound spot path o c.0 c.1))

-- ---- the plan in memory

-- a plan of these parts, with its pages and files as they are placed
abbrev pub written : FirstKeys → Inks → Layout → List PageData → List (List ℕ) → PlanData
written f i l pages files = record (joined f i l) { pages = pages; files = files }

plan_made : (spot : Bool) (path : List ℕ) (o : Data) (f : FirstKeys) (i : Inks) (l : Layout) (width height : ℕ)
    → front path o ≡ Ok f → width ≡ width_over f.margins f.page_width f.gutter
    → height ≡ height_over f.margins f.page_height
    → inks spot width height path o ≡ Ok i → layout spot path o ≡ Ok l
    → plan_by spot path o ≡ Ok (joined f i l)
unfolding plan_by
plan_made spot path o f i l width height front-is width-is height-is inks-is layout-is =
    let inks-there = rw (width-is, height-is) at inks-is in
    rw (front-is, inks-there, layout-is) refl

joined_written : (f : FirstKeys) (i : Inks) (l : Layout) (ps : List PageData) (fs : List (List ℕ))
    → ps ≡ pages_of l.pages → fs ≡ files_of l.pages → joined f i l ≡ written f i l ps fs
unfolding joined
joined_written f i l ps fs pages-are files-are = rw (pages-are, files-are) refl

pub plan_whole : (spot : Bool) (path : List ℕ) (o : Data) (f : FirstKeys) (i shown : Inks)
    (l laid : Layout) (width height : ℕ) (ps : List PageData) (fs : List (List ℕ)) → front path o ≡ Ok f
    → width ≡ width_over f.margins f.page_width f.gutter → height ≡ height_over f.margins f.page_height
    → inks spot width height path o ≡ Ok i → layout spot path o ≡ Ok l → shown ≡ i → laid ≡ l
    → ps ≡ pages_of laid.pages → fs ≡ files_of laid.pages
    → (plan_by spot path o ≡ Ok (written f shown laid ps fs)) × IsPlan (written f shown laid ps fs)
plan_whole spot path o f i shown l laid width height ps fs front-is width-is height-is inks-is layout-is inks-shown layout-shown pages-are files-are =
    let made = plan_made spot path o f i l width height front-is width-is height-is inks-is layout-is in
    let same : joined f i l ≡ written f shown laid ps fs = rw (← inks-shown, ← layout-shown) (joined_written f shown laid ps fs pages-are files-are) in
    (made ∙ ap Ok same, subst IsPlan same (plan_by_sound spot path o (joined f i l) made))

-- ---- the number of the plan

pub in_object : (d : Data) (fault : PlanFault) → Fails fault (object_with top_keys [] d)
    → Fails fault (plan_in d)
unfolding plan_in
in_object d fault h = fails_then fault (object_with top_keys [] d) (λ o. required (codes "plan") (number 1 2) [] o >>= λ n. plan_by (n == 2) [] o) h

pub in_number : (d o : Data) (q : List ℕ) (fault : PlanFault) → q ≡ [] → object_with top_keys [] d ≡ Ok o
    → Fails fault (required (codes "plan") (number 1 2) q o) → Fails fault (plan_in d)
unfolding plan_in
in_number d o q fault same first h =
    let there = subst (λ (p : List ℕ). Fails fault (required (codes "plan") (number 1 2) p o)) same h in
    rw first (fails_then fault (required (codes "plan") (number 1 2) [] o) (λ n. plan_by (n == 2) [] o) there)

pub in_plan : (d o : Data) (q : List ℕ) (n : ℕ) → q ≡ [] → object_with top_keys [] d ≡ Ok o
    → required (codes "plan") (number 1 2) q o ≡ Ok n → plan_in d ≡ plan_by (n == 2) q o
unfolding plan_in
in_plan d o q n same first second =
    let there = subst (λ (p : List ℕ). required (codes "plan") (number 1 2) p o ≡ Ok n) same second in
    rw (first, there, same) refl
