-- Files added one after another are each listed once, in order of first mention, and keep their indexes.
use Rattle.std.proofs.Common.{◌≡◌, ℕ, suc, ◌+◌, ◌<◌, ◌||◌, Bool, true, false, not, cond, ◌⊎◌, inl, inr, List, [], ◌∷◌, ◌++◌, length, map, take, get_or, Option, Some, None, option_map, Bor, refl, sym, ap, subst, ◌∙◌, append_assoc, arith}
use Rattle.std.specs.Prelude.{option_to_list}
use Rattle.std.specs.List.{flat_map, list_any, position_or_len, AllByRecursion}
use Rattle.std.specs.Str.{bytes_eq}
use Rattle.std.proofs.lemmas.List.{append-nil, take_more}
use Rattle.std.proofs.lemmas.List.Concat.{flat_map-append}
use Rattle.std.proofs.lemmas.List.Sums.{fold-append}
use Rattle.std.proofs.lemmas.Slice.Eq.{bytes_eq-Decides}
use Rattle.indexmap.specs.IndexSet.{insert_key, insert_all}
use Rattle.plan_json.specs.declared.named.NamedLayer.{NamedLayer}
use Rattle.plan_parts.specs.Data.{LayerData, PageData}
use Rattle.plan_json.specs.Pages.{PageText}
use Rattle.plan_json.specs.Files.{texts, named_by, named_on, files_of, index_of, layer_of, page_of, pages_of, Known, Stays, Places, PlacesAll, NotesMask}
use Rattle.plan_parts.proofs.Places.{list_any-map}
use Rattle.plan_parts.proofs.Sound.{map-push}

abbrev Texts : Type 0
Texts = List (List ℕ)

-- ---- the set of files

insert_case : (b : Bool) (keys : List (Bor (List ℕ))) (k : Bor (List ℕ))
    → texts (cond b keys (keys ++ k ∷ [])) ≡ cond b (texts keys) (texts keys ++ k.now ∷ [])
insert_case true keys k = refl
insert_case false keys k = map-push (λ (s : Bor (List ℕ)). s.now) keys k

pub shown-insert_key : (keys : List (Bor (List ℕ))) (k : Bor (List ℕ))
    → texts (insert_key (λ a b. bytes_eq a.now b.now) keys k) ≡ insert_key bytes_eq (texts keys) k.now
shown-insert_key keys k =
    insert_case (list_any (λ b. bytes_eq k.now b.now) keys) keys k
    ∙ ap (λ b. cond b (texts keys) (texts keys ++ k.now ∷ [])) (sym (list_any-map (bytes_eq k.now) (λ (s : Bor (List ℕ)). s.now) keys))

pub shown-index_of : (keys : List (Bor (List ℕ))) (s : List ℕ)
    → position_or_len (λ b. bytes_eq s b.now) keys ≡ index_of (texts keys) s
unfolding index_of
shown-index_of [] s = refl
shown-index_of (k ∷ keys) s = ap (λ n. cond (not (bytes_eq s k.now)) (1 + n) 0) (shown-index_of keys s)

-- one more text
pub text-more : (names : List (Bor (List ℕ))) (d : Bor (List ℕ)) (i : ℕ) (before : Texts) (text : List ℕ)
    → i < length names → before ≡ texts (take i names) → text ≡ (get_or names i d).now
    → before ++ text ∷ [] ≡ texts (take (i + 1) names)
text-more names d i before text less is next =
    ap (λ all. all ++ text ∷ []) is ∙ ap (λ one. texts (take i names) ++ one ∷ []) next
    ∙ sym (map-push (λ (s : Bor (List ℕ)). s.now) (take i names) (get_or names i d)) ∙ sym (ap texts (take_more names i d less))

-- ---- indexes that do not change

pub known_below : (files : Texts) (s : List ℕ) → Known files s → index_of files s < length files
unfolding Known
known_below files s h = h

known_case : (b : Bool) (i n : ℕ) → cond (not b) (1 + i) 0 < suc n → (b ≡ true) ⊎ ((b ≡ false) × (i < n))
known_case true i n h = inl refl
known_case false i n h = inr (refl, omega arith)

kept : (files : Texts) (s : List ℕ) (more : Texts) → Known files s
    → (index_of (files ++ more) s ≡ index_of files s) × Known (files ++ more) s
unfolding Known index_of
kept [] s more h = absurd (omega arith)
kept (f ∷ files) s more h =
    elim (known_case (bytes_eq s f) (index_of files s) (length files) h) [
      | inl here ↦ (rw here refl, rw here (omega arith))
      | inr later ↦ let rest = kept files s more later.1 in (rw later.0 (ap (λ n. 1 + n) rest.0), rw later.0 (omega (arith, rest.1)))
    ]

itself : (s : List ℕ) → bytes_eq s s ≡ true
itself s = (bytes_eq-Decides s s).1 refl

any_case : (b rest : Bool) (i n : ℕ) → (rest ≡ true → i < n) → (b || rest) ≡ true
    → cond (not b) (1 + i) 0 < suc n
any_case true rest i n later e = omega arith
any_case false rest i n later e = omega (arith, later e)

pub any_known : (files : Texts) (s : List ℕ) → list_any (bytes_eq s) files ≡ true → Known files s
unfolding Known index_of
any_known [] s e = absurd cc
any_known (f ∷ files) s e = any_case (bytes_eq s f) _ (index_of files s) (length files) (any_known files s) e

or_false : (b rest : Bool) → (b || rest) ≡ false → (b ≡ false) × (rest ≡ false)
or_false true rest e = absurd cc
or_false false rest e = (refl, e)

pub none_last : (files : Texts) (s : List ℕ) → list_any (bytes_eq s) files ≡ false
    → (index_of files s ≡ length files) × (index_of (files ++ s ∷ []) s ≡ length files)
unfolding index_of
none_last [] s e = (refl, rw (itself s) refl)
none_last (f ∷ files) s e =
    let other = or_false (bytes_eq s f) _ e in
    let rest = none_last files s other.1 in
    (rw other.0 (omega (arith, rest.0)), rw other.0 (omega (arith, rest.1)))

pub length_last : (files : Texts) (s : List ℕ) → length (files ++ s ∷ []) ≡ length files + 1
length_last [] s = refl
length_last (f ∷ files) s = omega (arith, length_last files s)

noted_case : (b : Bool) (files : Texts) (s : List ℕ) → list_any (bytes_eq s) files ≡ b
    → (index_of (cond b files (files ++ s ∷ [])) s ≡ index_of files s)
    × (index_of (cond b files (files ++ s ∷ [])) s < length (cond b files (files ++ s ∷ [])))
unfolding Known
noted_case true files s e = (refl, any_known files s e)
noted_case false files s e = let h = none_last files s e in (h.1 ∙ sym h.0, omega (arith, h.1, length_last files s))

-- a file that is added has its old index, or the next one
pub noted : (files : Texts) (s : List ℕ)
    → (index_of (insert_key bytes_eq files s) s ≡ index_of files s) × Known (insert_key bytes_eq files s) s
unfolding Known
noted files s = noted_case _ files s refl

one_case : (b : Bool) (files : Texts) (s : List ℕ)
    → (more : Texts) × (cond b files (files ++ s ∷ []) ≡ files ++ more)
one_case true files s = ([], sym (append-nil files))
one_case false files s = (s ∷ [], refl)

grows : (files xs : Texts) → (more : Texts) × (insert_all bytes_eq files xs ≡ files ++ more)
grows files [] = ([], sym (append-nil files))
grows files (x ∷ xs) =
    let one = one_case (list_any (bytes_eq x) files) files x in
    let rest = grows (insert_key bytes_eq files x) xs in
    (one.0 ++ rest.0, rest.1 ∙ ap (λ fs. fs ++ rest.0) one.1 ∙ append_assoc files one.0 rest.0)

pub stays : (files : Texts) (s : List ℕ) (xs : Texts) → Known files s
    → (index_of (insert_all bytes_eq files xs) s ≡ index_of files s) × Known (insert_all bytes_eq files xs) s
stays files s xs h =
    let g = grows files xs in
    let k = kept files s g.0 h in
    let P : Texts → Type 0 = λ fs. (index_of fs s ≡ index_of files s) × Known fs s in
    subst P (sym g.1) k

pub all_known : (files xs : Texts) → AllByRecursion (Known (insert_all bytes_eq files xs)) xs
all_known files [] = tt
all_known files (x ∷ xs) =
    ((stays (insert_key bytes_eq files x) x xs (noted files x).1).1, all_known (insert_key bytes_eq files x) xs)

-- ---- a layer

mask_same : (files : Texts) (mask : Option (List ℕ)) (more : Texts)
    → AllByRecursion (Known files) (option_to_list mask)
    → option_map (index_of (insert_all bytes_eq files more)) mask ≡ option_map (index_of files) mask
mask_same files None more h = refl
mask_same files (Some s) more h = ap Some (stays files s more h.0).0

layer_stays : (layer : NamedLayer) → Stays (named_by layer) (λ files. layer_of files layer)
unfolding layer_of
layer_stays layer files more h = rw ((stays files layer.file more h.0).0, mask_same files layer.mask more h.1) refl

mask_noted : (files : Texts) (mask : Option (List ℕ))
    → option_map (index_of (insert_all bytes_eq files (option_to_list mask))) mask
    ≡ option_map (index_of files) mask
mask_noted files None = refl
mask_noted files (Some s) = ap Some (noted files s).0

-- ---- items in sequence

pub split : {A : Type 0} (P : A → Type 0) (xs ys : List A) → AllByRecursion P (xs ++ ys)
    → AllByRecursion P xs × AllByRecursion P ys
split P [] ys h = (tt, h)
split P (x ∷ xs) ys h = let rest = split P xs ys h.1 in ((h.0, rest.0), rest.1)

module _ {X Y : Type 0} (names : X → Texts) (of : Texts → X → Y) where
  pub place_none : (old : Texts) → PlacesAll names of old [] old []
  place_none old = record { files = refl; items = refl; stays = λ files more h. refl }

  place_more : (old : Texts) (done : List X) (x : X) (mid new : Texts) (ys : List Y) (y : Y)
      → PlacesAll names of old done mid ys → Places names of mid x new y
      → PlacesAll names of old (done ++ x ∷ []) new (ys ++ y ∷ [])
  place_more old done x mid new ys y before one =
      let joined : flat_map names (done ++ x ∷ []) ≡ flat_map names done ++ names x = flat_map-append names done (x ∷ []) ∙ ap (λ fs. flat_map names done ++ fs) (append-nil (names x)) in
      let known : AllByRecursion (Known mid) (flat_map names done) = subst (λ (fs : Texts). AllByRecursion (Known fs) (flat_map names done)) (sym before.files) (all_known old (flat_map names done)) in
      let placed : map (of new) done ≡ map (of mid) done = rw one.files (before.stays mid (names x) known) in
      record {
        files = one.files ∙ ap (λ fs. insert_all bytes_eq fs (names x)) before.files ∙ sym (fold-append (insert_key bytes_eq) old (flat_map names done) (names x)) ∙ ap (insert_all bytes_eq old) (sym joined);
        items = ap (λ zs. zs ++ y ∷ []) (before.items ∙ sym placed) ∙ ap (λ z. map (of new) done ++ z ∷ []) one.item ∙ sym (map-push (of new) done x);
        stays = λ files more h.
            let all = insert_all bytes_eq files more in
            let parts = split (Known files) (flat_map names done) (names x) (subst (AllByRecursion (Known files)) joined h) in
            map-push (of all) done x
            ∙ ap (λ zs. zs ++ of all x ∷ []) (before.stays files more parts.0)
            ∙ ap (λ z. map (of files) done ++ z ∷ []) (one.stays files more parts.1)
            ∙ sym (map-push (of files) done x);
      }

  -- the next of a list of items
  pub place_next : (old : Texts) (xs : List X) (i : ℕ) (x : X) (mid new : Texts) (ys : List Y) (y : Y)
      → i < length xs
      → x ≡ get_or xs i x → PlacesAll names of old (take i xs) mid ys → Places names of mid x new y
      → PlacesAll names of old (take (i + 1) xs) new (ys ++ y ∷ [])
  place_next old xs i x mid new ys y less is before one =
      let front : take (i + 1) xs ≡ take i xs ++ x ∷ [] = take_more xs i x less ∙ ap (λ l. take i xs ++ l ∷ []) (sym is) in
      rw front (place_more old (take i xs) x mid new ys y before one)

-- ---- a mask

pub mask-none : (old : Texts) → NotesMask old None old None
mask-none old = record { files = refl; index_is = refl }

pub mask-some : (old new : Texts) (s : List ℕ) (i : ℕ) → new ≡ insert_key bytes_eq old s → i ≡ index_of old s
    → NotesMask old (Some s) new (Some i)
mask-some old new s i files index = record { files = files; index_is = ap Some index }

pub layer-placed : (old mid new : Texts) (layer : NamedLayer) (file : ℕ) (mask : Option ℕ)
    → mid ≡ insert_key bytes_eq old layer.file → file ≡ index_of old layer.file
    → NotesMask mid layer.mask new mask
    → Places named_by layer_of old layer new
    (record { line = layer.line; file = file; x = layer.x; y = layer.y; scale = layer.scale; crop = layer.crop; mask = mask; overprint = layer.overprint; ink = layer.ink })
unfolding layer_of
layer-placed old mid new layer file mask files index masked =
    let n = noted old layer.file in
    let known : Known mid layer.file = subst (λ (fs : Texts). Known fs layer.file) (sym files) n.1 in
    let first : file ≡ index_of mid layer.file = index ∙ sym n.0 ∙ ap (λ fs. index_of fs layer.file) (sym files) in
    let there : file ≡ index_of new layer.file = first ∙ sym (stays mid layer.file (option_to_list layer.mask) known).0 ∙ ap (λ fs. index_of fs layer.file) (sym masked.files) in
    let same : mask ≡ option_map (index_of new) layer.mask = masked.index_is ∙ sym (mask_noted mid layer.mask) ∙ ap (λ fs. option_map (index_of fs) layer.mask) (sym masked.files) in
    record {
      files = masked.files ∙ ap (λ fs. insert_all bytes_eq fs (option_to_list layer.mask)) files;
      item = rw (there, same) refl;
      stays = layer_stays layer;
    }

pub page-placed : (old new : Texts) (page : PageText) (layers : List LayerData)
    → PlacesAll named_by layer_of old page.layers new layers
    → Places named_on page_of old page new
    (record { name = page.name; colour = page.colour; spot = page.spot; layers = layers })
unfolding page_of
page-placed old new page layers all = record {
  files = all.files;
  item = rw all.items refl;
  stays = λ files more h. rw (all.stays files more h) refl;
}

pub page-shown : (old new : Texts) (page : PageText) (name : List ℕ) (colour spot : Bool)
    (from : List NamedLayer) (layers : List LayerData)
    → ◌≡◌ {A = PageText} (record { name = name; colour = colour; spot = spot; layers = from }) page
    → PlacesAll named_by layer_of old from new layers
    → Places named_on page_of old page new
    (record { name = name; colour = colour; spot = spot; layers = layers })
page-shown old new page name colour spot from layers is all =
    subst (λ (p : PageText). Places named_on page_of old p new (record { name = name; colour = colour; spot = spot; layers = layers })) is
    (page-placed old new (record { name = name; colour = colour; spot = spot; layers = from }) layers all)

pub pages-placed : (old : Texts) (pages : List PageText) (new : Texts) (ys : List PageData) → old ≡ []
    → PlacesAll named_on page_of old pages new ys → (ys ≡ pages_of pages) × (new ≡ files_of pages)
unfolding pages_of files_of
pages-placed old pages new ys none all =
    let files : new ≡ insert_all bytes_eq [] (flat_map named_on pages) = all.files ∙ ap (λ fs. insert_all bytes_eq fs (flat_map named_on pages)) none in
    (all.items ∙ ap (λ fs. map (page_of fs) pages) files, files)
