-- Pages whose layers give their files by index, and the files, satisfy the clauses of a plan.
use Rattle.std.proofs.Common.{◌≡◌, ◌≢◌, ℕ, zero, suc, ◌+◌, ◌<◌, ◌≤◌, ◌||◌, Bool, true, false, cond, List, [], ◌∷◌, ◌++◌, length, map, get_or, Option, Some, None, option_map, nat_eq, ne_eqb, zero-add, refl, sym, ap, ◌∙◌, arith}
use Rattle.std.specs.Prelude.{All, IfSome, option_to_list}
use Rattle.std.specs.List.{flat_map, list_any, AllByRecursion, range_with_len}
use Rattle.std.specs.Str.{bytes_eq}
use Rattle.std.proofs.lemmas.Bool.{eq-eqb}
use Rattle.std.proofs.lemmas.List.Elements.{All-nil, All-push, All-from_recursion, recursion_from_All}
use Rattle.std.proofs.lemmas.List.Quantifiers.{all_pairs_push}
use Rattle.std.proofs.lemmas.List.Folds.{list_any_at}
use Rattle.std.proofs.lemmas.List.FromFn.{get_or-range_with_len, length-range_with_len}
use Rattle.std.proofs.lemmas.Slice.Eq.{bytes_eq-Decides}
use Rattle.indexmap.specs.IndexSet.{insert_key, insert_all}
use Rattle.plan_json.specs.declared.named.NamedLayer.{NamedLayer}
use Rattle.plan_parts.specs.Forms.{is_file_name}
use Rattle.plan_json.specs.Data.{layer_files, mentioned}
use Rattle.plan_parts.specs.Words.{AreDistinct}
use Rattle.plan_parts.specs.Parts.{IsLayer, IsPage}
use Rattle.plan_json.specs.Pages.{PageText}
use Rattle.plan_json.specs.Files.{Known, named_by, named_on, files_of, index_of, layer_of, page_of, pages_of}
use Rattle.plan_json.proofs.Mentions.{all_known, noted, stays, split, known_below, any_known, none_last, length_last}
use Rattle.plan_json.proofs.SoundPages.{IsNamedLayer, IsPageText}
use Rattle.plan_json.proofs.SoundZoning.{length-map}
use Rattle.plan_json.proofs.SoundNames.{none_apart}

abbrev Texts : Type 0
Texts = List (List ℕ)

-- ---- layers and pages by index

mask_is : (files : Texts) (mask : Option (List ℕ)) → AllByRecursion (Known files) (option_to_list mask)
    → IfSome (option_map (index_of files) mask) (λ m. m < length files)
mask_is files None h = tt
mask_is files (Some s) h = known_below files s h.0

layer_is : (files : Texts) (layer : NamedLayer) → IsNamedLayer layer
    → AllByRecursion (Known files) (named_by layer) → IsLayer (length files) (layer_of files layer)
unfolding layer_of
layer_is files layer is known = record {
  file = known_below files layer.file known.0;
  x = is.x;
  y = is.y;
  scale = is.scale;
  crop = is.crop;
  mask = mask_is files layer.mask known.1;
  inks = is.inks;
  ink = is.ink;
}

-- items whose files are known, one by one
items_are : {X Y : Type 0} (names : X → Texts) (of : X → Y) (files : Texts) (P : X → Type 0) (Q : Y → Type 0)
    → ((x : X) → P x → AllByRecursion (Known files) (names x) → Q (of x)) → (xs : List X)
    → AllByRecursion P xs → AllByRecursion (Known files) (flat_map names xs) → AllByRecursion Q (map of xs)
items_are names of files P Q each [] is known = tt
items_are names of files P Q each (x ∷ xs) is known =
    let parts = split (Known files) (names x) (flat_map names xs) known in
    (each x is.0 parts.0, items_are names of files P Q each xs is.1 parts.1)

page_is : (files : Texts) (page : PageText) → IsPageText page → AllByRecursion (Known files) (named_on page)
    → IsPage (length files) (page_of files page)
unfolding page_of
page_is files page is known = record {
  name = is.name;
  count = omega (arith, length-map (layer_of files) page.layers, is.count);
  layers = All-from_recursion (IsLayer (length files)) (map (layer_of files) page.layers) (items_are named_by (layer_of files) files IsNamedLayer (IsLayer (length files)) (layer_is files) page.layers (recursion_from_All IsNamedLayer page.layers is.layers) known);
}

pub pages_of_are : (pages : List PageText) → All IsPageText pages
    → All (IsPage (length (files_of pages))) (pages_of pages)
unfolding pages_of files_of
pages_of_are pages is =
    let files = insert_all bytes_eq [] (flat_map named_on pages) in
    All-from_recursion (IsPage (length files)) (map (page_of files) pages) (items_are named_on (page_of files) files IsPageText (IsPage (length files)) (page_is files) pages (recursion_from_All IsPageText pages is) (all_known [] (flat_map named_on pages)))

pub length-pages_of : (pages : List PageText) → length (pages_of pages) ≡ length pages
unfolding pages_of
length-pages_of pages = length-map (page_of (files_of pages)) pages

names_same : (files : Texts) (pages : List PageText)
    → map (λ page. page.name) (map (page_of files) pages) ≡ map (λ page. page.name) pages
unfolding page_of
names_same files [] = refl
names_same files (page ∷ pages) = ap (λ names. page.name ∷ names) (names_same files pages)

pub names-pages_of : (pages : List PageText)
    → map (λ page. page.name) (pages_of pages) ≡ map (λ page. page.name) pages
unfolding pages_of
names-pages_of pages = names_same (files_of pages) pages

-- ---- the files

file_push : (b : Bool) (P : List ℕ → Type 0) (files : Texts) (s : List ℕ) → All P files → P s
    → All P (cond b files (files ++ s ∷ []))
file_push true P files s h p = h
file_push false P files s h p = All-push P files s h p

files_keep : (P : List ℕ → Type 0) (files xs : Texts) → All P files → AllByRecursion P xs
    → All P (insert_all bytes_eq files xs)
files_keep P files [] h each = h
files_keep P files (x ∷ xs) h each = files_keep P (insert_key bytes_eq files x) xs (file_push (list_any (bytes_eq x) files) P files x h each.0) each.1

join : (P : List ℕ → Type 0) (xs ys : Texts) → AllByRecursion P xs → AllByRecursion P ys
    → AllByRecursion P (xs ++ ys)
join P [] ys h g = g
join P (x ∷ xs) ys h g = (h.0, join P xs ys h.1 g)

abbrev IsFile : List ℕ → Type 0
IsFile s = is_file_name s ≡ true

mask_file : (mask : Option (List ℕ)) → IfSome mask (λ m. is_file_name m ≡ true)
    → AllByRecursion IsFile (option_to_list mask)
mask_file None h = tt
mask_file (Some s) h = (h, tt)

layers_files : (layers : List NamedLayer) → AllByRecursion IsNamedLayer layers
    → AllByRecursion IsFile (flat_map named_by layers)
layers_files [] is = tt
layers_files (layer ∷ layers) is = join IsFile (named_by layer) (flat_map named_by layers) (is.0.file, mask_file layer.mask is.0.mask) (layers_files layers is.1)

pages_files : (pages : List PageText) → AllByRecursion IsPageText pages
    → AllByRecursion IsFile (flat_map named_on pages)
pages_files [] is = tt
pages_files (page ∷ pages) is = join IsFile (named_on page) (flat_map named_on pages) (layers_files page.layers (recursion_from_All IsNamedLayer page.layers is.0.layers)) (pages_files pages is.1)

pub files_are : (pages : List PageText) → All IsPageText pages → All IsFile (files_of pages)
unfolding files_of
files_are pages is = files_keep IsFile [] (flat_map named_on pages) (All-nil IsFile) (pages_files pages (recursion_from_All IsPageText pages is))

or_false : (b rest : Bool) → (b || rest) ≡ false → (b ≡ false) × (rest ≡ false)
or_false true rest e = absurd cc
or_false false rest e = (refl, e)

any_apart : (files : Texts) (s : List ℕ) → list_any (bytes_eq s) files ≡ false → (k : ℕ) (d : List ℕ)
    → k < length files → get_or files k d ≢ s
any_apart [] s e k d less = absurd (omega arith)
any_apart (f ∷ files) s e zero d less = λ same.
    let other = or_false (bytes_eq s f) _ e in
    let equal : bytes_eq s f ≡ true = (bytes_eq-Decides s f).1 (sym same) in
    absurd cc
any_apart (f ∷ files) s e (suc k) d less = any_apart files s (or_false (bytes_eq s f) _ e).1 k d (omega arith)

distinct_case : (b : Bool) (files : Texts) (s : List ℕ) → list_any (bytes_eq s) files ≡ b → AreDistinct files
    → AreDistinct (cond b files (files ++ s ∷ []))
distinct_case true files s e h = h
distinct_case false files s e h = all_pairs_push (λ a b. a ≢ b) files s h (any_apart files s e)

distinct_all : (files xs : Texts) → AreDistinct files → AreDistinct (insert_all bytes_eq files xs)
distinct_all files [] h = h
distinct_all files (x ∷ xs) h = distinct_all (insert_key bytes_eq files x) xs (distinct_case _ files x refl h)

pub files_distinct : (pages : List PageText) → AreDistinct (files_of pages)
unfolding files_of
files_distinct pages = distinct_all [] (flat_map named_on pages) none_apart

-- ---- the order of first mention

map-append : {A B : Type 0} (f : A → B) (xs ys : List A) → map f (xs ++ ys) ≡ map f xs ++ map f ys
map-append f [] ys = refl
map-append f (x ∷ xs) ys = ap (λ zs. f x ∷ zs) (map-append f xs ys)

mask_index : (files : Texts) (mask : Option (List ℕ))
    → option_to_list (option_map (index_of files) mask) ≡ map (index_of files) (option_to_list mask)
mask_index files None = refl
mask_index files (Some s) = refl

layer_mentions : (files : Texts) (layer : NamedLayer)
    → layer_files (layer_of files layer) ≡ map (index_of files) (named_by layer)
unfolding layer_of
layer_mentions files layer = ap (λ is. index_of files layer.file ∷ is) (mask_index files layer.mask)

layers_mention : (files : Texts) (layers : List NamedLayer)
    → flat_map layer_files (map (layer_of files) layers) ≡ map (index_of files) (flat_map named_by layers)
layers_mention files [] = refl
layers_mention files (layer ∷ layers) =
    ap (λ ks. ks ++ flat_map layer_files (map (layer_of files) layers)) (layer_mentions files layer)
    ∙ ap (λ ks. map (index_of files) (named_by layer) ++ ks) (layers_mention files layers) ∙ sym (map-append (index_of files) (named_by layer) (flat_map named_by layers))

page_mentions : (files : Texts) (page : PageText)
    → flat_map layer_files (page_of files page).layers ≡ map (index_of files) (named_on page)
unfolding page_of
page_mentions files page = layers_mention files page.layers

pages_mention : (files : Texts) (pages : List PageText)
    → mentioned (map (page_of files) pages) ≡ map (index_of files) (flat_map named_on pages)
pages_mention files [] = refl
pages_mention files (page ∷ pages) =
    ap (λ ks. ks ++ mentioned (map (page_of files) pages)) (page_mentions files page)
    ∙ ap (λ ks. map (index_of files) (named_on page) ++ ks) (pages_mention files pages) ∙ sym (map-append (index_of files) (named_on page) (flat_map named_on pages))

range_push : (a n : ℕ) → range_with_len a (suc n) ≡ range_with_len a n ++ (a + n) ∷ []
range_push a zero = let same : a ≡ a + 0 = omega arith in ap (λ k. k ∷ []) same
range_push a (suc n) =
    let same : a + 1 + n ≡ a + suc n = omega arith in
    ap (λ ks. a ∷ ks) (range_push (a + 1) n ∙ ap (λ k. range_with_len (a + 1) n ++ k ∷ []) same)

in_range : (n k : ℕ) → k < n → list_any (nat_eq k) (range_with_len 0 n) ≡ true
in_range n k h =
    let inside : k < length (range_with_len 0 n) = omega (arith, length-range_with_len 0 n) in
    let there : get_or (range_with_len 0 n) k 0 ≡ k = omega (arith, get_or-range_with_len 0 n k 0 h) in
    list_any_at (nat_eq k) (range_with_len 0 n) k 0 inside (eq-eqb k (get_or (range_with_len 0 n) k 0) (sym there))

past_range : (a n k : ℕ) → a + n ≤ k → list_any (nat_eq k) (range_with_len a n) ≡ false
past_range a zero k h = refl
past_range a (suc n) k h = let other : k ≢ a = omega arith in rw (ne_eqb k a other) (past_range (a + 1) n k (omega arith))

rank_case : (b : Bool) (files : Texts) (s : List ℕ) → list_any (bytes_eq s) files ≡ b
    → insert_key nat_eq (range_with_len 0 (length files)) (index_of files s)
    ≡ range_with_len 0 (length (cond b files (files ++ s ∷ [])))
rank_case true files s e = rw (in_range (length files) (index_of files s) (known_below files s (any_known files s e))) refl
rank_case false files s e =
    let last = none_last files s e in
    let longer : length (files ++ s ∷ []) ≡ suc (length files) = omega (arith, length_last files s) in
    rw (last.0, past_range 0 (length files) (length files) (omega arith), longer) (sym (range_push 0 (length files) ∙ ap (λ k. range_with_len 0 (length files) ++ k ∷ []) (zero-add (length files))))

ranks : (files xs final : Texts) → final ≡ insert_all bytes_eq files xs
    → insert_all nat_eq (range_with_len 0 (length files)) (map (index_of final) xs)
    ≡ range_with_len 0 (length (insert_all bytes_eq files xs))
ranks files [] final same = refl
ranks files (x ∷ xs) final same =
    let next = insert_key bytes_eq files x in
    let n = noted files x in
    let rank : index_of final x ≡ index_of files x = ap (λ fs. index_of fs x) same ∙ (stays next x xs n.1).0 ∙ n.0 in
    let one : insert_key nat_eq (range_with_len 0 (length files)) (index_of final x) ≡ range_with_len 0 (length next) = ap (insert_key nat_eq (range_with_len 0 (length files))) rank ∙ rank_case _ files x refl in
    ap (λ ks. insert_all nat_eq ks (map (index_of final) xs)) one ∙ ranks next xs final same

pub first_mentions : (pages : List PageText)
    → insert_all nat_eq [] (mentioned (pages_of pages)) ≡ range_with_len 0 (length (files_of pages))
unfolding pages_of files_of
first_mentions pages =
    let names = flat_map named_on pages in
    let files = insert_all bytes_eq [] names in
    ap (insert_all nat_eq []) (pages_mention files pages) ∙ ranks [] names files refl
