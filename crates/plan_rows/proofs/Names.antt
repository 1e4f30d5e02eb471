-- The path of a plate determines its site, edition, section, pair and ink by name, also across two plans.
use Rattle.std.proofs.Common.{◌≡◌, ◌≢◌, ℕ, zero, suc, ◌+◌, ◌/◌, ◌%◌, ◌<◌, Bool, true, false, cond, nat_eq, List, [], ◌∷◌, ◌++◌, length, map, get_or, refl, ap, sym, ◌∙◌, inl, inr, append_assoc, arith}
use Rattle.std.specs.Prelude.{All, AllPairs, IsTrue, codes, slice_get}
use Rattle.std.specs.List.{list_all}
use Rattle.std.specs.Option.{option_map_or}
use Rattle.std.proofs.lemmas.Bool.{and_parts, cases_order, both_ways}
use Rattle.std.proofs.lemmas.List.{append_cancel_left, length-map}
use Rattle.std.proofs.lemmas.List.Elements.{All-nil, All-cons, All-head, All-tail, All-weaker}
use Rattle.pr_base.specs.declared.ink.Ink.{Ink}
use Rattle.pr_base.specs.declared.ink.Ink.TheVariants.{C, M, Y, K, S}
use Rattle.plan_json.specs.Data.{PlanData, SiteData, SectionData}
use Rattle.plan_parts.specs.Forms.{is_name, is_name_byte}
use Rattle.plan_json.specs.Plan.{IsPlan, IsSite, IsSection}
use Rattle.plan_rows.specs.declared.group.Group.{Group}
use Rattle.plan_rows.specs.Paths.{letter_of, three_digits, site_name, section_name, path_of, path_text, name_text}

-- ---- texts without a given byte

abbrev pub Lacks : ℕ → List ℕ → Type 0
Lacks c text = All (λ b. b ≢ c) text

-- two equal texts, split at the first such byte, have equal parts
pub split_at : (c : ℕ) (a b x y : List ℕ) → Lacks c a → Lacks c b → a ++ (c ∷ x) ≡ b ++ (c ∷ y) → (a ≡ b) × (x ≡ y)
split_at c [] [] x y left right same = (refl, cc)
split_at c [] (d ∷ b) x y left right same = absurd (All-head (λ k. k ≢ c) d b right cc)
split_at c (d ∷ a) [] x y left right same = absurd (All-head (λ k. k ≢ c) d a left cc)
split_at c (d ∷ a) (e ∷ b) x y left right same =
    let head : d ≡ e = cc in
    let tail : a ++ (c ∷ x) ≡ b ++ (c ∷ y) = cc in
    let rest = split_at c a b x y (All-tail (λ k. k ≢ c) d a left) (All-tail (λ k. k ≢ c) e b right) tail in
    (ap (λ k. k ∷ a) head ∙ ap (λ l. e ∷ l) rest.0, rest.1)

each_passes : (test : ℕ → Bool) (xs : List ℕ) → list_all test xs ≡ true → All (λ x. test x ≡ true) xs
each_passes test [] all = All-nil (λ x. test x ≡ true)
each_passes test (x ∷ xs) all =
    let both = and_parts (test x) (list_all test xs) all in
    All-cons (λ y. test y ≡ true) x xs both.0 (each_passes test xs both.1)

name_bytes : (text : List ℕ) → IsTrue (is_name text) → All (λ b. is_name_byte b ≡ true) text
unfolding is_name
name_bytes text is = each_passes is_name_byte text (and_parts _ (list_all is_name_byte text) is).1

pub name_lacks : (c : ℕ) (text : List ℕ) → is_name_byte c ≡ false → IsTrue (is_name text) → Lacks c text
name_lacks c text other is =
    All-weaker (λ b. is_name_byte b ≡ true) (λ b. b ≢ c) (λ b passes same. both_ways (is_name_byte c) other (sym (ap is_name_byte same) ∙ passes)) text (name_bytes text is)

-- ---- names by index

abbrev pub named : {X : Type 0} → (X → List ℕ) → List X → ℕ → List ℕ
named f xs i = option_map_or f (slice_get xs i) []

pub named-get : {X : Type 0} (f : X → List ℕ) (xs : List X) (i : ℕ) → named f xs i ≡ get_or (map f xs) i []
named-get f [] i = refl
named-get f (x ∷ xs) zero = refl
named-get f (x ∷ xs) (suc i) = named-get f xs i

pub named-distinct : {X : Type 0} (f : X → List ℕ) (xs : List X) (i j : ℕ) → AllPairs (λ a b. a ≢ b) (map f xs) → i < length xs → j < length xs → named f xs i ≡ named f xs j → i ≡ j
named-distinct f xs i j apart left right same =
    let names : get_or (map f xs) i [] ≡ get_or (map f xs) j [] = sym (named-get f xs i) ∙ same ∙ named-get f xs j in
    elim (cases_order i j) [
      | inl one ↦ one
      | inr (inl before) ↦ absurd (apart i j [] before (omega (arith, length-map xs f)) names)
      | inr (inr behind) ↦ absurd (apart j i [] behind (omega (arith, length-map xs f)) (sym names))
    ]

pub named-holds : {X : Type 0} (P : List ℕ → Type 0) (f : X → List ℕ) (xs : List X) (i : ℕ) → i < length xs → All (λ x. P (f x)) xs → P (named f xs i)
named-holds P f [] i within each = absurd (omega arith)
named-holds P f (x ∷ xs) zero within each = All-head (λ y. P (f y)) x xs each
named-holds P f (x ∷ xs) (suc i) within each = named-holds P f xs i (omega arith) (All-tail (λ y. P (f y)) x xs each)

-- no two sites have the same name, and no two sections
pub sites_apart : (plan : PlanData) (i j : ℕ) → IsPlan plan → i < length plan.sites → j < length plan.sites → site_name plan i ≡ site_name plan j → i ≡ j
sites_apart plan i j is left right same = named-distinct (λ (s : SiteData). s.name) plan.sites i j is.site_names left right same

pub sections_apart : (plan : PlanData) (i j : ℕ) → IsPlan plan → i < length plan.sections → j < length plan.sections → section_name plan i ≡ section_name plan j → i ≡ j
sections_apart plan i j is left right same = named-distinct (λ (s : SectionData). s.name) plan.sections i j is.section_names left right same

-- names have no byte that is not allowed in names
pub site_lacks : (plan : PlanData) (c site : ℕ) → is_name_byte c ≡ false → IsPlan plan → site < length plan.sites → Lacks c (site_name plan site)
site_lacks plan c site other is within =
    named-holds (Lacks c) (λ (s : SiteData). s.name) plan.sites site within
    (All-weaker (IsSite (length plan.zones)) (λ s. Lacks c s.name) (λ s has. name_lacks c s.name other has.name) plan.sites is.sites)

pub section_lacks : (plan : PlanData) (c section : ℕ) → is_name_byte c ≡ false → IsPlan plan → section < length plan.sections → Lacks c (section_name plan section)
section_lacks plan c section other is within =
    named-holds (Lacks c) (λ (s : SectionData). s.name) plan.sections section within
    (All-weaker (IsSection (length plan.pages)) (λ s. Lacks c s.name) (λ s has. name_lacks c s.name other has.name) plan.sections is.sections)

-- ---- the parts of a path

regroup : (o s i e d n a l t : List ℕ) → o ++ s ++ i ++ s ++ (e ++ d ++ (n ++ d ++ a ++ d ++ l) ++ t) ≡ o ++ (s ++ (i ++ (s ++ (e ++ (d ++ (n ++ (d ++ (a ++ (d ++ (l ++ t))))))))))
regroup o s i e d n a l t = simp append_assoc

-- the text after the section's name
abbrev pub behind_section : ℕ → Ink → List ℕ
behind_section pair ink = three_digits pair ++ (45 ∷ (letter_of ink ++ codes ".tif"))

pub path_is : (plan : PlanData) (out : List ℕ) (site : ℕ) (group : Group) (ink : Ink)
    → path_of plan out site group ink ≡ out ++ (47 ∷ (site_name plan site ++ (47 ∷ (plan.edition ++ (45 ∷ (section_name plan group.section ++ (45 ∷ behind_section group.pair ink)))))))
unfolding path_of
path_is plan out site group ink =
    regroup out (codes "/") (site_name plan site) plan.edition (codes "-") (section_name plan group.section) (three_digits group.pair) (letter_of ink) (codes ".tif")

-- the path begins with the output folder, whatever it is
pub path_under : (plan : PlanData) (out : List ℕ) (site : ℕ) (group : Group) (ink : Ink) → path_of plan out site group ink ≡ out ++ path_of plan [] site group ink
path_under plan out site group ink = path_is plan out site group ink ∙ ap (λ l. out ++ l) (sym (path_is plan [] site group ink))

-- the text after the output folder
path_behind : (a b : PlanData) (out : List ℕ) (site site' : ℕ) (group group' : Group) (ink ink' : Ink)
    → path_of a out site group ink ≡ path_of b out site' group' ink'
    → site_name a site ++ (47 ∷ (a.edition ++ (45 ∷ (section_name a group.section ++ (45 ∷ behind_section group.pair ink)))))
    ≡ site_name b site' ++ (47 ∷ (b.edition ++ (45 ∷ (section_name b group'.section ++ (45 ∷ behind_section group'.pair ink')))))
path_behind a b out site site' group group' ink ink' same =
    let both = append_cancel_left out _ _ (sym (path_is a out site group ink) ∙ same ∙ path_is b out site' group' ink') in
    cc

-- plates of two sites have different paths
pub paths_tell_sites : (plan : PlanData) (out : List ℕ) (site other : ℕ) (group group' : Group) (ink ink' : Ink) → IsPlan plan → site < length plan.sites → other < length plan.sites
    → path_of plan out site group ink ≡ path_of plan out other group' ink' → site ≡ other
unfolding is_name_byte
paths_tell_sites plan out site other group group' ink ink' is left right same =
    let parts = split_at 47 (site_name plan site) (site_name plan other) _ _ (site_lacks plan 47 site refl is left) (site_lacks plan 47 other refl is right) (path_behind plan plan out site other group group' ink ink' same) in
    named-distinct (λ (s : SiteData). s.name) plan.sites site other is.site_names left right parts.0

pub digits_tell : (a b : ℕ) (x y : List ℕ) → a < 1000 → b < 1000 → three_digits a ++ x ≡ three_digits b ++ y → (a ≡ b) × (x ≡ y)
digits_tell a b x y left right same =
    let hundreds : 48 + a / 100 % 10 ≡ 48 + b / 100 % 10 = cc in
    let tens : 48 + a / 10 % 10 ≡ 48 + b / 10 % 10 = cc in
    let ones : 48 + a % 10 ≡ 48 + b % 10 = cc in
    let rest : x ≡ y = cc in
    (omega arith, rest)

-- the ink of a letter
pub ink_of : List ℕ → Ink
ink_of [] = K
ink_of (b ∷ rest) = cond (nat_eq b 67) C (cond (nat_eq b 77) M (cond (nat_eq b 89) Y (cond (nat_eq b 75) K S)))

pub ink_of-letter : (ink : Ink) → ink_of (letter_of ink ++ codes ".tif") ≡ ink
unfolding ink_of
ink_of-letter C = refl
ink_of-letter M = refl
ink_of-letter Y = refl
ink_of-letter K = refl
ink_of-letter S = refl

-- two plates of two plans have the same edition, site name, section name, pair and ink
pub record SameNames (a : PlanData) (site : ℕ) (group : Group) (ink : Ink) (b : PlanData) (site' : ℕ) (group' : Group) (ink' : Ink) : Type 0 where
  pub site_named : site_name a site ≡ site_name b site'
  pub edition : a.edition ≡ b.edition
  pub section_named : section_name a group.section ≡ section_name b group'.section
  pub pair_is : group.pair ≡ group'.pair
  pub ink_is : ink ≡ ink'

-- a plate whose path determines its names: its site and its section are in the plan, and its pair is below
-- 1000
pub record CanTell (plan : PlanData) (site : ℕ) (group : Group) : Type 0 where
  pub plan_is : IsPlan plan
  pub of_site : site < length plan.sites
  pub of_section : group.section < length plan.sections
  pub digits : group.pair < 1000

-- equal paths have the same edition, site name, section name, pair and ink, since names have no `-` or `/`
pub paths_tell : (a b : PlanData) (site site' : ℕ) (group group' : Group) (ink ink' : Ink) → CanTell a site group → CanTell b site' group'
    → path_of a [] site group ink ≡ path_of b [] site' group' ink' → SameNames a site group ink b site' group' ink'
unfolding is_name_byte
paths_tell a b site site' group group' ink ink' left right same =
    let behind = path_behind a b [] site site' group group' ink ink' same in
    let sites = split_at 47 (site_name a site) (site_name b site') _ _ (site_lacks a 47 site refl left.plan_is left.of_site) (site_lacks b 47 site' refl right.plan_is right.of_site) behind in
    let editions = split_at 45 a.edition b.edition _ _ (name_lacks 45 a.edition refl left.plan_is.edition) (name_lacks 45 b.edition refl right.plan_is.edition) sites.1 in
    let sections = split_at 45 (section_name a group.section) (section_name b group'.section) _ _ (section_lacks a 45 group.section refl left.plan_is left.of_section) (section_lacks b 45 group'.section refl right.plan_is right.of_section) editions.1 in
    let tail = digits_tell group.pair group'.pair _ _ left.digits right.digits sections.1 in
    let letters : letter_of ink ++ codes ".tif" ≡ letter_of ink' ++ codes ".tif" = (let all = tail.1 in cc) in
    record {
      site_named = sites.0;
      edition = editions.0;
      section_named = sections.0;
      pair_is = tail.0;
      ink_is = sym (ink_of-letter ink) ∙ ap ink_of letters ∙ ink_of-letter ink';
    }

-- plates for which these are the same have equal paths
pub paths_same : (a b : PlanData) (site site' : ℕ) (group group' : Group) (ink ink' : Ink) → SameNames a site group ink b site' group' ink'
    → path_of a [] site group ink ≡ path_of b [] site' group' ink'
unfolding path_of
paths_same a b site site' group group' ink ink' same =
    ap (λ name. path_text [] name (name_text a.edition (section_name a group.section) group.pair (letter_of ink))) same.site_named
    ∙ ap (λ edition. path_text [] (site_name b site') (name_text edition (section_name a group.section) group.pair (letter_of ink))) same.edition
    ∙ ap (λ name. path_text [] (site_name b site') (name_text b.edition name group.pair (letter_of ink))) same.section_named
    ∙ ap (λ pair. path_text [] (site_name b site') (name_text b.edition (section_name b group'.section) pair (letter_of ink))) same.pair_is
    ∙ ap (λ i. path_text [] (site_name b site') (name_text b.edition (section_name b group'.section) group'.pair (letter_of i))) same.ink_is
