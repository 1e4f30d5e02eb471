-- The pages that are read satisfy the clauses of a plan.
use Rattle.std.proofs.Common.{◌≡◌, ℕ, ◌≤◌, Bool, true, false, List, [], ◌∷◌, length, Option, Some, None, Ok, refl, subst, arith}
use Rattle.std.specs.Prelude.{All, IfSome, codes, if◌then◌else◌}
use Rattle.std.proofs.lemmas.Grind.{common_steps}
use Rattle.std.proofs.lemmas.List.Elements.{All-nil, All-push}
use Rattle.serde_json.specs.Data.{Data, Items}
use Rattle.serde_json.specs.Find.{get_item}
use Rattle.plan_json.specs.declared.named.NamedLayer.{NamedLayer}
use Rattle.plan_json.specs.declared.named.Painting.{Painting}
use Rattle.plan_json.specs.declared.named.Placing.{Placing}
use Rattle.plan_parts.specs.Forms.{is_name, is_file_name}
use Rattle.pr_base.specs.Number.{IsWithin}
use Rattle.plan_parts.specs.Words.{AreDistinct}
use Rattle.plan_parts.specs.Parts.{IsCrop}
use Rattle.plan_parts.specs.Reading.{◌>>=◌, at_item, optional_in, object_with, new_name, file_name, number, index_in, items_within, required, optional, nth}
use Rattle.plan_json.specs.Pages.{PageText, layer_keys, page_keys, kind, paint, crop, mask, ink, black, placing, painting, layer, layers, page_inks, page, pages, page_names, fifth}
use Rattle.plan_parts.proofs.Sound.{ok_is, required_gives, optional_gives, number_optional, new_name_required, file_required, nth_sound, bind_ok, number_sound, file_name_sound, list_keeps}
use Rattle.plan_parts.proofs.SoundPrinting.{five}
use Rattle.plan_json.proofs.SoundNames.{named_sound}

-- ---- layers

-- a layer that names its files
pub record IsNamedLayer (layer : NamedLayer) : Type 0 where
  pub file : is_file_name layer.file ≡ true
  pub x : layer.x ≤ 65535
  pub y : layer.y ≤ 65535
  pub scale : IsWithin 1 64 layer.scale
  pub crop : IfSome layer.crop IsCrop
  pub mask : IfSome layer.mask (λ mask. is_file_name mask ≡ true)
  pub inks : length layer.ink ≡ 5
  pub ink : All (IsWithin 0 255) layer.ink

crop_sound : (path : List ℕ) (d : Data) (c : Option (List ℕ)) → crop path d ≡ Ok c → IfSome c IsCrop
unfolding crop
crop_sound path d c e = grind (arith, common_steps, nth_sound)

mask_sound : (path : List ℕ) (d : Data) (m : Option (List ℕ)) → mask path d ≡ Ok m
    → IfSome m (λ mask. is_file_name mask ≡ true)
unfolding mask
mask_sound path d m e = grind (arith, common_steps, file_name_sound)

abbrev AreValues : List ℕ → Type 0
AreValues ink = (length ink ≡ 5) × All (IsWithin 0 255) ink

value : (n : ℕ) → n ≤ 255 → IsWithin 0 255 n
value n h = record { least = omega arith; most = h }

fifth_case : (path : List ℕ) (found : Option Data) (n : ℕ) → optional_in 0 (number 0 255) path found ≡ Ok n
    → n ≤ 255
fifth_case path None n e = let same : 0 ≡ n = cc in omega arith
fifth_case path (Some d) n e = (number_sound 0 255 path d n e).most

fifth_sound : (path : List ℕ) (items : Items) (n : ℕ) → fifth path items ≡ Ok n → n ≤ 255
fifth_sound path items n e = fifth_case (at_item path 4) (get_item 4 items) n e

five_values : (c m y k s : ℕ) → c ≤ 255 → m ≤ 255 → y ≤ 255 → k ≤ 255 → s ≤ 255
    → All (IsWithin 0 255) (c ∷ m ∷ y ∷ k ∷ s ∷ [])
five_values c m y k s a b d e f = five (IsWithin 0 255) c m y k s (value c a) (value m b) (value y d) (value k e) (value s f)

ink_sound : (spot : Bool) (path : List ℕ) (d : Data) (v : List ℕ) → ink spot path d ≡ Ok v → AreValues v
unfolding ink
ink_sound spot path d v e =
    let s0 = bind_ok (items_within 4 (if spot then 5 else 4) path d) (λ items. nth 0 (number 0 255) path items >>= λ c. nth 1 (number 0 255) path items >>= λ m. nth 2 (number 0 255) path items >>= λ y. nth 3 (number 0 255) path items >>= λ k. fifth path items >>= λ s. Ok (c ∷ m ∷ y ∷ k ∷ s ∷ [])) v e in
    let s1 = bind_ok (nth 0 (number 0 255) path s0.0) (λ c. nth 1 (number 0 255) path s0.0 >>= λ m. nth 2 (number 0 255) path s0.0 >>= λ y. nth 3 (number 0 255) path s0.0 >>= λ k. fifth path s0.0 >>= λ s. Ok (c ∷ m ∷ y ∷ k ∷ s ∷ [])) v s0.2 in
    let s2 = bind_ok (nth 1 (number 0 255) path s0.0) (λ m. nth 2 (number 0 255) path s0.0 >>= λ y. nth 3 (number 0 255) path s0.0 >>= λ k. fifth path s0.0 >>= λ s. Ok (s1.0 ∷ m ∷ y ∷ k ∷ s ∷ [])) v s1.2 in
    let s3 = bind_ok (nth 2 (number 0 255) path s0.0) (λ y. nth 3 (number 0 255) path s0.0 >>= λ k. fifth path s0.0 >>= λ s. Ok (s1.0 ∷ s2.0 ∷ y ∷ k ∷ s ∷ [])) v s2.2 in
    let s4 = bind_ok (nth 3 (number 0 255) path s0.0) (λ k. fifth path s0.0 >>= λ s. Ok (s1.0 ∷ s2.0 ∷ s3.0 ∷ k ∷ s ∷ [])) v s3.2 in
    let s5 = bind_ok (fifth path s0.0) (λ s. Ok (s1.0 ∷ s2.0 ∷ s3.0 ∷ s4.0 ∷ s ∷ [])) v s4.2 in
    let same = ok_is {A = List ℕ} (s1.0 ∷ s2.0 ∷ s3.0 ∷ s4.0 ∷ s5.0 ∷ []) v s5.2 in
    subst AreValues same (refl, five_values s1.0 s2.0 s3.0 s4.0 s5.0 (nth_sound 0 0 255 path s0.0 s1.0 s1.1).most (nth_sound 1 0 255 path s0.0 s2.0 s2.1).most (nth_sound 2 0 255 path s0.0 s3.0 s3.1).most (nth_sound 3 0 255 path s0.0 s4.0 s4.1).most (fifth_sound path s0.0 s5.0 s5.1))

black_sound : AreValues black
black_sound = (refl, five_values 0 0 0 255 0 (omega arith) (omega arith) (omega arith) (omega arith) (omega arith))

crop_optional : (key path : List ℕ) (o : Data) (c : Option (List ℕ)) → optional key None crop path o ≡ Ok c
    → IfSome c IsCrop
crop_optional key path o c e = optional_gives (λ c. IfSome c IsCrop) None crop tt crop_sound key path o c e

mask_optional : (key path : List ℕ) (o : Data) (m : Option (List ℕ)) → optional key None mask path o ≡ Ok m
    → IfSome m (λ mask. is_file_name mask ≡ true)
mask_optional key path o m e = optional_gives (λ m. IfSome m (λ mask. is_file_name mask ≡ true)) None mask tt mask_sound key path o m e

ink_optional : (key : List ℕ) (spot : Bool) (path : List ℕ) (o : Data) (v : List ℕ)
    → optional key black (ink spot) path o ≡ Ok v → AreValues v
ink_optional key spot path o v e = optional_gives AreValues black (ink spot) black_sound (ink_sound spot) key path o v e

record IsPainted (p : Painting) : Type 0 where
  crop : IfSome p.crop IsCrop
  mask : IfSome p.mask (λ mask. is_file_name mask ≡ true)
  inks : length p.ink ≡ 5
  ink : All (IsWithin 0 255) p.ink

painted_sound : (spot : Bool) (path : List ℕ) (o : Data) (p : Painting) → painting spot path o ≡ Ok p
    → IsPainted p
unfolding painting
painted_sound spot path o p e =
    let s0 = bind_ok (optional (codes "crop") None crop path o) (λ crop. optional (codes "mask") None mask path o >>= λ mask. optional (codes "paint") false paint path o >>= λ overprint. optional (codes "ink") black (ink spot) path o >>= λ ink. Ok (record { crop = crop; mask = mask; overprint = overprint; ink = ink })) p e in
    let s1 = bind_ok (optional (codes "mask") None mask path o) (λ mask. optional (codes "paint") false paint path o >>= λ overprint. optional (codes "ink") black (ink spot) path o >>= λ ink. Ok (record { crop = s0.0; mask = mask; overprint = overprint; ink = ink })) p s0.2 in
    let s2 = bind_ok (optional (codes "paint") false paint path o) (λ overprint. optional (codes "ink") black (ink spot) path o >>= λ ink. Ok (record { crop = s0.0; mask = s1.0; overprint = overprint; ink = ink })) p s1.2 in
    let s3 = bind_ok (optional (codes "ink") black (ink spot) path o) (λ ink. Ok (record { crop = s0.0; mask = s1.0; overprint = s2.0; ink = ink })) p s2.2 in
    let same = ok_is {A = Painting} (record { crop = s0.0; mask = s1.0; overprint = s2.0; ink = s3.0 }) p s3.2 in
    let i = ink_optional (codes "ink") spot path o s3.0 s3.1 in
    subst IsPainted same (record { crop = crop_optional (codes "crop") path o s0.0 s0.1; mask = mask_optional (codes "mask") path o s1.0 s1.1; inks = i.0; ink = i.1 })

record IsPlaced (p : Placing) : Type 0 where
  x : p.x ≤ 65535
  y : p.y ≤ 65535
  scale : IsWithin 1 64 p.scale

placing_sound : (path : List ℕ) (o : Data) (p : Placing) → placing path o ≡ Ok p → IsPlaced p
unfolding placing
placing_sound path o p e =
    let s0 = bind_ok (optional (codes "x") 0 (number 0 65535) path o) (λ x. optional (codes "y") 0 (number 0 65535) path o >>= λ y. optional (codes "scale") 1 (number 1 64) path o >>= λ scale. Ok (record { x = x; y = y; scale = scale })) p e in
    let s1 = bind_ok (optional (codes "y") 0 (number 0 65535) path o) (λ y. optional (codes "scale") 1 (number 1 64) path o >>= λ scale. Ok (record { x = s0.0; y = y; scale = scale })) p s0.2 in
    let s2 = bind_ok (optional (codes "scale") 1 (number 1 64) path o) (λ scale. Ok (record { x = s0.0; y = s1.0; scale = scale })) p s1.2 in
    let same = ok_is {A = Placing} (record { x = s0.0; y = s1.0; scale = s2.0 }) p s2.2 in
    subst IsPlaced same (record { x = (number_optional (codes "x") 0 0 65535 path o s0.0 (omega arith) (omega arith) s0.1).most; y = (number_optional (codes "y") 0 0 65535 path o s1.0 (omega arith) (omega arith) s1.1).most; scale = number_optional (codes "scale") 1 1 64 path o s2.0 (omega arith) (omega arith) s2.1 })

layer_sound : (spot : Bool) (path : List ℕ) (d : Data) (l : NamedLayer) → layer spot path d ≡ Ok l
    → IsNamedLayer l
unfolding layer
layer_sound spot path d l e =
    let s0 = bind_ok (object_with layer_keys path d) (λ o. required (codes "kind") kind path o >>= λ line. required (codes "file") file_name path o >>= λ file. placing path o >>= λ at. painting spot path o >>= λ how. Ok (record { line = line; file = file; x = at.x; y = at.y; scale = at.scale; crop = how.crop; mask = how.mask; overprint = how.overprint; ink = how.ink })) l e in
    let s1 = bind_ok (required (codes "kind") kind path s0.0) (λ line. required (codes "file") file_name path s0.0 >>= λ file. placing path s0.0 >>= λ at. painting spot path s0.0 >>= λ how. Ok (record { line = line; file = file; x = at.x; y = at.y; scale = at.scale; crop = how.crop; mask = how.mask; overprint = how.overprint; ink = how.ink })) l s0.2 in
    let s2 = bind_ok (required (codes "file") file_name path s0.0) (λ file. placing path s0.0 >>= λ at. painting spot path s0.0 >>= λ how. Ok (record { line = s1.0; file = file; x = at.x; y = at.y; scale = at.scale; crop = how.crop; mask = how.mask; overprint = how.overprint; ink = how.ink })) l s1.2 in
    let s3 = bind_ok (placing path s0.0) (λ at. painting spot path s0.0 >>= λ how. Ok (record { line = s1.0; file = s2.0; x = at.x; y = at.y; scale = at.scale; crop = how.crop; mask = how.mask; overprint = how.overprint; ink = how.ink })) l s2.2 in
    let s4 = bind_ok (painting spot path s0.0) (λ how. Ok (record { line = s1.0; file = s2.0; x = s3.0.x; y = s3.0.y; scale = s3.0.scale; crop = how.crop; mask = how.mask; overprint = how.overprint; ink = how.ink })) l s3.2 in
    let same = ok_is {A = NamedLayer} (record { line = s1.0; file = s2.0; x = s3.0.x; y = s3.0.y; scale = s3.0.scale; crop = s4.0.crop; mask = s4.0.mask; overprint = s4.0.overprint; ink = s4.0.ink }) l s4.2 in
    let p = placing_sound path s0.0 s3.0 s3.1 in
    let h = painted_sound spot path s0.0 s4.0 s4.1 in
    subst IsNamedLayer same (record { file = file_required (codes "file") path s0.0 s2.0 s2.1; x = p.x; y = p.y; scale = p.scale; crop = h.crop; mask = h.mask; inks = h.inks; ink = h.ink })

-- ---- pages

pub record IsPageText (page : PageText) : Type 0 where
  pub name : is_name page.name ≡ true
  pub count : length page.layers ≤ 32
  pub layers : All IsNamedLayer page.layers

layers_sound : (spot : Bool) (path : List ℕ) (d : Data) (v : List NamedLayer) → layers spot path d ≡ Ok v
    → All IsNamedLayer v × (length v ≤ 32)
unfolding layers
layers_sound spot path d v e =
    let kept = list_keeps (λ _. layer spot) (All IsNamedLayer) (λ xs path d x h one. All-push IsNamedLayer xs x h (layer_sound spot path d x one)) 0 32 path d v (All-nil IsNamedLayer) e in
    (kept.0, kept.1.most)

layers_required : (key : List ℕ) (spot : Bool) (path : List ℕ) (o : Data) (v : List NamedLayer)
    → required key (layers spot) path o ≡ Ok v → All IsNamedLayer v × (length v ≤ 32)
layers_required key spot path o v e = required_gives (λ v. All IsNamedLayer v × (length v ≤ 32)) (layers spot) (layers_sound spot) key path o v e

page_sound : (spot : Bool) (earlier : List PageText) (path : List ℕ) (d : Data) (p : PageText)
    → page spot earlier path d ≡ Ok p → IsPageText p × (index_in (page_names earlier) p.name ≡ None)
unfolding page
page_sound spot earlier path d p e =
    let s0 = bind_ok (object_with page_keys path d) (λ o. required (codes "name") (new_name (page_names earlier)) path o >>= λ name. required (codes "inks") (page_inks spot) path o >>= λ inks. required (codes "layers") (layers spot) path o >>= λ all. Ok (record { name = name; colour = inks.0; spot = inks.1; layers = all })) p e in
    let s1 = bind_ok (required (codes "name") (new_name (page_names earlier)) path s0.0) (λ name. required (codes "inks") (page_inks spot) path s0.0 >>= λ inks. required (codes "layers") (layers spot) path s0.0 >>= λ all. Ok (record { name = name; colour = inks.0; spot = inks.1; layers = all })) p s0.2 in
    let s2 = bind_ok (required (codes "inks") (page_inks spot) path s0.0) (λ inks. required (codes "layers") (layers spot) path s0.0 >>= λ all. Ok (record { name = s1.0; colour = inks.0; spot = inks.1; layers = all })) p s1.2 in
    let s3 = bind_ok (required (codes "layers") (layers spot) path s0.0) (λ all. Ok (record { name = s1.0; colour = s2.0.0; spot = s2.0.1; layers = all })) p s2.2 in
    let same = ok_is {A = PageText} (record { name = s1.0; colour = s2.0.0; spot = s2.0.1; layers = s3.0 }) p s3.2 in
    let n = new_name_required (codes "name") (page_names earlier) path s0.0 s1.0 s1.1 in
    let l = layers_required (codes "layers") spot path s0.0 s3.0 s3.1 in
    subst (λ (p : PageText). IsPageText p × (index_in (page_names earlier) p.name ≡ None)) same (record { name = n.0; count = l.1; layers = l.0 }, n.1)

abbrev pub ArePages : List PageText → Type 0
ArePages pages = All IsPageText pages × AreDistinct (page_names pages)

pub pages_sound : (spot : Bool) (path : List ℕ) (d : Data) (v : List PageText) → pages spot path d ≡ Ok v
    → ArePages v × IsWithin 1 2048 (length v)
unfolding pages
pages_sound spot = named_sound IsPageText (λ (p : PageText). p.name) (page spot) (page_sound spot) 1 2048
