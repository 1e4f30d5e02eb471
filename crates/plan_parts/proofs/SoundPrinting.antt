-- The tiles, screens, curves and marks that are read have the properties that a plan promises.
use Rattle.std.proofs.Common.{◌≡◌, ℕ, zero, suc, ◌+◌, ◌-◌, ◌*◌, ◌<◌, ◌≤◌, ◌&&◌, Bool, true, false, cond, IsTrue, List, [], ◌∷◌, ◌++◌, length, map, Option, Some, None, Ok, Err, refl, ap, subst, arith, add-one}
use borrow.Author.Tests.{ltb-true}
use Rattle.std.proofs.lemmas.Bool.{leb-true}
use Rattle.std.specs.Prelude.{All, nat_lt, option_map, codes}
use Rattle.std.specs.Prelude.{drop, nat_eq, nat_le, if◌then◌else◌}
use Rattle.std.specs.List.{list_any, starts_with}
use Rattle.std.specs.Str.{bytes_eq}
use Rattle.std.proofs.lemmas.Grind.{common_steps}
use Rattle.std.proofs.lemmas.Bool.Decides.{nat_tests}
use Rattle.std.proofs.lemmas.List.Elements.{All-nil, All-cons, All-push}
use Rattle.serde_json.specs.Data.{Data}
use Rattle.plan_parts.specs.declared.fault.PlanFault.TheVariants.{Range, Unknown}
use Rattle.plan_parts.specs.declared.printing.Screen.{Screen}
use Rattle.plan_parts.specs.declared.printing.Screen.TheVariants.{Bayer, Diffuse, Own}
use Rattle.plan_parts.specs.Data.{TileData, CurveData, MarkData}
use Rattle.pr_base.specs.Number.{IsWithin}
use Rattle.plan_parts.specs.Words.{AreDistinct}
use Rattle.plan_parts.specs.Parts.{IsTile, IsScreen, IsCurve, IsMark, place}
use Rattle.plan_parts.specs.Reading.{Read, Reader, ◌>>=◌, ◌>>◌, must, some_or, text, new_name, object_with, ink_keys, number, index_in, required, optional}
use Rattle.plan_parts.specs.Printing.{each_ink, tile_keys, mark_keys, bytes_of, tile_in, tile, tiles, tile_names, screen_named, own_screen, screen, screens, bayer_screens, identity, identities, is_rising, spans, point, points, curve, curves, taken, flags_in, mark_inks, mark_in, is_inside, mark, marks}
use Rattle.plan_parts.proofs.Sound.{ok_is, then_ok, must_ok, required_gives, optional_gives, number_required, new_name_required, nth_sound, bind_ok, number_sound, index_below, distinct-push, map-push, list_keeps}

-- ---- tiles

pub bytes_sound : (n : ℕ) (path : List ℕ) (d : Data) (v : List ℕ) → bytes_of n path d ≡ Ok v
    → (length v ≡ n) × All (IsWithin 0 255) v
unfolding bytes_of
bytes_sound n path d v e =
    let kept = list_keeps (λ _. number 0 255) (All (IsWithin 0 255)) (λ xs path d x h one. All-push (IsWithin 0 255) xs x h (number_sound 0 255 path d x one)) n n path d v (All-nil (IsWithin 0 255)) e in
    (omega (arith, kept.1.least, kept.1.most), kept.0)

bytes_required : (key : List ℕ) (n : ℕ) (path : List ℕ) (o : Data) (v : List ℕ)
    → required key (bytes_of n) path o ≡ Ok v → (length v ≡ n) × All (IsWithin 0 255) v
bytes_required key n path o v e = required_gives (λ v. (length v ≡ n) × All (IsWithin 0 255) v) (bytes_of n) (bytes_sound n) key path o v e

tile_in_sound : (earlier : List TileData) (path : List ℕ) (o : Data) (t : TileData)
    → tile_in earlier path o ≡ Ok t → IsTile t × (index_in (tile_names earlier) t.name ≡ None)
unfolding tile_in
tile_in_sound earlier path o t e =
    let s1 = bind_ok (required (codes "name") (new_name (tile_names earlier)) path o) (λ name. required (codes "width") (number 1 64) path o >>= λ width. required (codes "height") (number 1 64) path o >>= λ height. required (codes "at") (bytes_of (width * height)) path o >>= λ at. Ok (record { name = name; width = width; height = height; at = at })) t e in
    let s2 = bind_ok (required (codes "width") (number 1 64) path o) (λ width. required (codes "height") (number 1 64) path o >>= λ height. required (codes "at") (bytes_of (width * height)) path o >>= λ at. Ok (record { name = s1.0; width = width; height = height; at = at })) t s1.2 in
    let s3 = bind_ok (required (codes "height") (number 1 64) path o) (λ height. required (codes "at") (bytes_of (s2.0 * height)) path o >>= λ at. Ok (record { name = s1.0; width = s2.0; height = height; at = at })) t s2.2 in
    let s4 = bind_ok (required (codes "at") (bytes_of (s2.0 * s3.0)) path o) (λ at. Ok (record { name = s1.0; width = s2.0; height = s3.0; at = at })) t s3.2 in
    let same = ok_is {A = TileData} (record { name = s1.0; width = s2.0; height = s3.0; at = s4.0 }) t s4.2 in
    let n = new_name_required (codes "name") (tile_names earlier) path o s1.0 s1.1 in
    let v = bytes_required (codes "at") (s2.0 * s3.0) path o s4.0 s4.1 in
    subst (λ (t : TileData). IsTile t × (index_in (tile_names earlier) t.name ≡ None)) same
    (record { name = n.0; width = number_required (codes "width") 1 64 path o s2.0 s2.1; height = number_required (codes "height") 1 64 path o s3.0 s3.1; numbers = v.0; bytes = v.1 }, n.1)

pub tile_sound : (earlier : List TileData) (path : List ℕ) (d : Data) (t : TileData)
    → tile earlier path d ≡ Ok t → IsTile t × (index_in (tile_names earlier) t.name ≡ None)
unfolding tile
tile_sound earlier path d t e = let s = bind_ok (object_with tile_keys path d) (tile_in earlier path) t e in tile_in_sound earlier path s.0 t s.2

abbrev pub AreTiles : List TileData → Type 0
AreTiles tiles = All IsTile tiles × AreDistinct (tile_names tiles)

tiles_step : (xs : List TileData) (path : List ℕ) (d : Data) (x : TileData) → AreTiles xs
    → tile xs path d ≡ Ok x → AreTiles (xs ++ x ∷ [])
tiles_step xs path d x h e =
    let t = tile_sound xs path d x e in
    (All-push IsTile xs x h.0 t.0, rw (map-push (λ (t : TileData). t.name) xs x) (distinct-push (tile_names xs) x.name t.1 h.1))

none_apart : AreDistinct []
none_apart i j d less within = absurd (omega arith)

pub tiles_sound : (path : List ℕ) (d : Data) (v : List TileData) → tiles path d ≡ Ok v
    → AreTiles v × (length v ≤ 16)
unfolding tiles
tiles_sound path d v e = let kept = list_keeps tile AreTiles tiles_step 0 16 path d v (All-nil IsTile, none_apart) e in (kept.0, kept.1.most)

pub no_tiles : AreTiles []
no_tiles = (All-nil IsTile, none_apart)

-- ---- a value for each ink

pub five : {A : Type 0} (P : A → Type 0) (c m y k s : A) → P c → P m → P y → P k → P s
    → All P (c ∷ m ∷ y ∷ k ∷ s ∷ [])
five P c m y k s a b d e f =
    All-cons P c (m ∷ y ∷ k ∷ s ∷ []) a (All-cons P m (y ∷ k ∷ s ∷ []) b (All-cons P y (k ∷ s ∷ []) d (All-cons P k (s ∷ []) e (All-cons P s [] f (All-nil P)))))

-- a property of the default and of everything that is read holds for each of the five values
each_ink_gives : {A : Type 0} (P : A → Type 0) (absent : A) (read : Reader A) → P absent
    → ((path : List ℕ) (d : Data) (x : A) → read path d ≡ Ok x → P x)
    → (path : List ℕ) (o : Data) (v : List A) → each_ink absent read path o ≡ Ok v → (length v ≡ 5) × All P v
unfolding each_ink
each_ink_gives {A} P absent read h each path o v e =
    let s1 = bind_ok (optional (codes "C") absent read path o) (λ c. optional (codes "M") absent read path o >>= λ m. optional (codes "Y") absent read path o >>= λ y. optional (codes "K") absent read path o >>= λ k. optional (codes "S") absent read path o >>= λ s. Ok (c ∷ m ∷ y ∷ k ∷ s ∷ [])) v e in
    let s2 = bind_ok (optional (codes "M") absent read path o) (λ m. optional (codes "Y") absent read path o >>= λ y. optional (codes "K") absent read path o >>= λ k. optional (codes "S") absent read path o >>= λ s. Ok (s1.0 ∷ m ∷ y ∷ k ∷ s ∷ [])) v s1.2 in
    let s3 = bind_ok (optional (codes "Y") absent read path o) (λ y. optional (codes "K") absent read path o >>= λ k. optional (codes "S") absent read path o >>= λ s. Ok (s1.0 ∷ s2.0 ∷ y ∷ k ∷ s ∷ [])) v s2.2 in
    let s4 = bind_ok (optional (codes "K") absent read path o) (λ k. optional (codes "S") absent read path o >>= λ s. Ok (s1.0 ∷ s2.0 ∷ s3.0 ∷ k ∷ s ∷ [])) v s3.2 in
    let s5 = bind_ok (optional (codes "S") absent read path o) (λ s. Ok (s1.0 ∷ s2.0 ∷ s3.0 ∷ s4.0 ∷ s ∷ [])) v s4.2 in
    let same = ok_is {A = List A} (s1.0 ∷ s2.0 ∷ s3.0 ∷ s4.0 ∷ s5.0 ∷ []) v s5.2 in
    let one : (key : List ℕ) (x : A) → optional key absent read path o ≡ Ok x → P x = λ key x. optional_gives P absent read h each key path o x in
    subst (λ (v : List A). (length v ≡ 5) × All P v) same
    (refl, five P s1.0 s2.0 s3.0 s4.0 s5.0 (one (codes "C") s1.0 s1.1) (one (codes "M") s2.0 s2.1) (one (codes "Y") s3.0 s3.1) (one (codes "K") s4.0 s4.1) (one (codes "S") s5.0 s5.1))

-- ---- screens

pick : (P : Screen → Type 0) (b : Bool) (x : Screen) (rest : Read Screen) (s : Screen) → P x
    → (rest ≡ Ok s → P s) → cond b (Ok x) rest ≡ Ok s → P s
pick P true x rest s h g e = subst P (ok_is x s e) h
pick P false x rest s h g e = g e

own_case : (n : ℕ) (path : List ℕ) (found : Option ℕ) (s : Screen) → ((k : ℕ) → found ≡ Some k → k < n)
    → some_or (Unknown path) (option_map Own found) ≡ Ok s → IsScreen n s
own_case n path None s h e = absurd cc
own_case n path (Some k) s h e = subst (IsScreen n) (ok_is (Own k) s e) (h k refl)

tile_case : (n : ℕ) (path : List ℕ) (b : Bool) (own : Read Screen) (s : Screen) → (own ≡ Ok s → IsScreen n s)
    → cond b own (Err (Range path)) ≡ Ok s → IsScreen n s
tile_case n path true own s h e = h e
tile_case n path false own s h e = absurd cc

named_sound : (names : List (List ℕ)) (path text : List ℕ) (s : Screen) → screen_named names path text ≡ Ok s
    → IsScreen (length names) s
unfolding screen_named
named_sound names path text s e =
    let P : Screen → Type 0 = IsScreen (length names) in
    let r6 = if starts_with nat_eq text (codes "tile:") then own_screen names path (drop 5 text) else Err (Range path) in
    let r5 = if bytes_eq text (codes "diffuse") then Ok Diffuse else r6 in
    let r4 = if bytes_eq text (codes "bayer16") then Ok (Bayer 16) else r5 in
    let r3 = if bytes_eq text (codes "bayer8") then Ok (Bayer 8) else r4 in
    let r2 = if bytes_eq text (codes "bayer4") then Ok (Bayer 4) else r3 in
    pick P (bytes_eq text (codes "bayer2")) (Bayer 2) r2 s refl
    (pick P (bytes_eq text (codes "bayer4")) (Bayer 4) r3 s refl
    (pick P (bytes_eq text (codes "bayer8")) (Bayer 8) r4 s refl
    (pick P (bytes_eq text (codes "bayer16")) (Bayer 16) r5 s refl
    (pick P (bytes_eq text (codes "diffuse")) Diffuse r6 s tt
    (tile_case (length names) path (starts_with nat_eq text (codes "tile:")) (own_screen names path (drop 5 text)) s
    (own_case (length names) path (index_in names (drop 5 text)) s (index_below names (drop 5 text)))))))) e

pub screen_sound : (names : List (List ℕ)) (path : List ℕ) (d : Data) (s : Screen)
    → screen names path d ≡ Ok s → IsScreen (length names) s
unfolding screen
screen_sound names path d s e = let b = bind_ok (text path d) (screen_named names path) s e in named_sound names path b.0 s b.2

abbrev pub AreScreens : ℕ → List Screen → Type 0
AreScreens tiles v = (length v ≡ 5) × All (IsScreen tiles) v

length-map : {A B : Type 0} (f : A → B) (xs : List A) → length (map f xs) ≡ length xs
length-map f [] = refl
length-map f (x ∷ xs) = ap suc (length-map f xs)

bayer : (n : ℕ) → IsScreen n (Bayer 8)
bayer n = refl

pub bayer_screens_sound : (n : ℕ) → AreScreens n bayer_screens
bayer_screens_sound n = (refl, five (IsScreen n) (Bayer 8) (Bayer 8) (Bayer 8) (Bayer 8) (Bayer 8) (bayer n) (bayer n) (bayer n) (bayer n) (bayer n))

pub screens_sound : (spot : Bool) (tiles : List TileData) (path : List ℕ) (d : Data) (v : List Screen)
    → screens spot tiles path d ≡ Ok v → AreScreens (length tiles) v
unfolding screens
screens_sound spot tiles path d v e =
    let s = bind_ok (object_with (ink_keys spot) path d) (each_ink (Bayer 8) (screen (tile_names tiles)) path) v e in
    let n = length (tile_names tiles) in
    let same : n ≡ length tiles = length-map (λ (t : TileData). t.name) tiles in
    subst (λ (n : ℕ). AreScreens n v) same (each_ink_gives (IsScreen n) (Bayer 8) (screen (tile_names tiles)) (bayer n) (screen_sound (tile_names tiles)) path s.0 v s.2)

-- ---- curves

pub point_sound : (path : List ℕ) (d : Data) (p : ℕ × ℕ) → point path d ≡ Ok p → (p.0 ≤ 255) × (p.1 ≤ 255)
unfolding point
point_sound path d p e = grind (arith, common_steps, nth_sound)

abbrev pub ArePoints : CurveData → Type 0
ArePoints points = All (λ p. p.0 ≤ 255) points × All (λ p. p.1 ≤ 255) points

points_step : (xs : CurveData) (path : List ℕ) (d : Data) (x : ℕ × ℕ) → ArePoints xs → point path d ≡ Ok x
    → ArePoints (xs ++ x ∷ [])
points_step xs path d x h e = let p = point_sound path d x e in (All-push (λ (p : ℕ × ℕ). p.0 ≤ 255) xs x h.0 p.0, All-push (λ (p : ℕ × ℕ). p.1 ≤ 255) xs x h.1 p.1)

pub points_sound : (path : List ℕ) (d : Data) (v : CurveData) → points path d ≡ Ok v
    → ArePoints v × IsWithin 2 32 (length v)
unfolding points
points_sound path d v e = list_keeps (λ _. point) ArePoints points_step 2 32 path d v (All-nil (λ (p : ℕ × ℕ). p.0 ≤ 255), All-nil (λ (p : ℕ × ℕ). p.1 ≤ 255)) e

both : (a b : Bool) → (a && b) ≡ true → (a ≡ true) × (b ≡ true)
both true b e = (refl, e)
both false b e = absurd cc

rises_next : (points : CurveData) → is_rising points ≡ true → (k : ℕ) → suc k < length points
    → place points k < place points (suc k)
rises_next [] e k h = absurd (omega arith)
rises_next (p ∷ []) e k h = absurd (omega arith)
rises_next (p ∷ q ∷ points) e zero h = let b = both (nat_lt p.0 q.0) (is_rising (q ∷ points)) e in ltb-true _ _ b.0
rises_next (p ∷ q ∷ points) e (suc k) h = let b = both (nat_lt p.0 q.0) (is_rising (q ∷ points)) e in rises_next (q ∷ points) b.1 k (omega arith)

rises_at : (points : CurveData) → is_rising points ≡ true → (k : ℕ) → k + 1 < length points
    → place points k < place points (k + 1)
rises_at points e k h = let next = rises_next points e k (omega arith) in rw add-one next

spans_sound : (points : CurveData) → spans points ≡ true
    → (place points 0 ≡ 0) × (place points (length points - 1) ≡ 255) × (is_rising points ≡ true)
unfolding spans
spans_sound points e = grind (arith, common_steps, nat_tests)

pub curve_sound : (path : List ℕ) (d : Data) (v : CurveData) → curve path d ≡ Ok v
    → (points path d ≡ Ok v) × (spans v ≡ true)
unfolding curve
curve_sound path d v e = grind (arith, common_steps)

pub curve_is : (path : List ℕ) (d : Data) (v : CurveData) → curve path d ≡ Ok v → IsCurve v
curve_is path d v e =
    let c = curve_sound path d v e in
    let p = points_sound path d v c.0 in
    let s = spans_sound v c.1 in
    record { count = p.1; first = s.0; last = s.1; rises = rises_at v s.2; places = p.0.0; values = p.0.1 }

two_of : (P : ℕ × ℕ → Type 0) → P (0, 0) → P (255, 255) → All P identity
two_of P a b = All-cons P (0, 0) ((255, 255) ∷ []) a (All-cons P (255, 255) [] b (All-nil P))

pub identity_is : IsCurve identity
identity_is = record {
  count = record { least = omega arith; most = omega arith };
  first = refl;
  last = refl;
  rises = rises_at identity refl;
  places = two_of (λ p. p.0 ≤ 255) (omega arith) (omega arith);
  values = two_of (λ p. p.1 ≤ 255) (omega arith) (omega arith);
}

abbrev pub AreCurves : List CurveData → Type 0
AreCurves v = (length v ≡ 5) × All IsCurve v

pub identities_sound : AreCurves identities
identities_sound = (refl, five IsCurve identity identity identity identity identity identity_is identity_is identity_is identity_is identity_is)

pub curves_sound : (spot : Bool) (path : List ℕ) (d : Data) (v : List CurveData) → curves spot path d ≡ Ok v
    → AreCurves v
unfolding curves
curves_sound spot path d v e =
    let s = bind_ok (object_with (ink_keys spot) path d) (each_ink identity curve path) v e in
    each_ink_gives IsCurve identity curve identity_is curve_is path s.0 v s.2

-- ---- marks

flags_case : (b : Bool) (rest : Option (List Bool)) (n : ℕ) (flags : List Bool)
    → ((fs : List Bool) → rest ≡ Some fs → length fs ≡ n) → option_map (λ fs. b ∷ fs) rest ≡ Some flags
    → length flags ≡ suc n
flags_case b None n flags h e = absurd cc
flags_case b (Some fs) n flags h e = let same : b ∷ fs ≡ flags = cc in rw (← same) (ap suc (h fs refl))

flags_length : (letters s : List ℕ) (flags : List Bool) → flags_in letters s ≡ Some flags
    → length flags ≡ length letters
flags_length [] [] flags e = let same : [] ≡ flags = cc in rw (← same) refl
flags_length [] (b ∷ s) flags e = absurd cc
flags_length (letter ∷ letters) s flags e = flags_case (taken letter s).0 _ (length letters) flags (flags_length letters (taken letter s).1) e

five_flags : (s : List ℕ) (flags : List Bool) → flags_in (codes "CMYKS") s ≡ Some flags → length flags ≡ 5
five_flags s flags e = flags_length (codes "CMYKS") s flags e

abbrev pub AreInks : List Bool → Type 0
AreInks inks = (length inks ≡ 5) × IsTrue (list_any (λ ink. ink) inks)

pub mark_inks_sound : (spot : Bool) (path : List ℕ) (d : Data) (v : List Bool) → mark_inks spot path d ≡ Ok v
    → AreInks v
unfolding mark_inks
mark_inks_sound spot path d v e = grind (arith, common_steps, five_flags)

inks_required : (key : List ℕ) (spot : Bool) (path : List ℕ) (o : Data) (v : List Bool)
    → required key (mark_inks spot) path o ≡ Ok v → AreInks v
inks_required key spot path o v e = required_gives AreInks (mark_inks spot) (mark_inks_sound spot) key path o v e

pub inside_sound : (a b width height : ℕ) → (nat_le a width && nat_le b height) ≡ true
    → (a ≤ width) × (b ≤ height)
inside_sound a b width height e = let h = both (nat_le a width) (nat_le b height) e in (leb-true _ _ h.0, leb-true _ _ h.1)

-- the inks of a mark, and its sides
abbrev IsMarkAnywhere : MarkData → Type 0
IsMarkAnywhere m = AreInks m.inks × IsWithin 1 65535 m.w × IsWithin 1 65535 m.h

mark_in_sound : (spot : Bool) (path : List ℕ) (o : Data) (m : MarkData) → mark_in spot path o ≡ Ok m
    → IsMarkAnywhere m
unfolding mark_in
mark_in_sound spot path o m e =
    let s1 = bind_ok (required (codes "inks") (mark_inks spot) path o) (λ inks. required (codes "x") (number 0 65535) path o >>= λ x. required (codes "y") (number 0 65535) path o >>= λ y. required (codes "w") (number 1 65535) path o >>= λ w. required (codes "h") (number 1 65535) path o >>= λ h. Ok (record { inks = inks; x = x; y = y; w = w; h = h })) m e in
    let s2 = bind_ok (required (codes "x") (number 0 65535) path o) (λ x. required (codes "y") (number 0 65535) path o >>= λ y. required (codes "w") (number 1 65535) path o >>= λ w. required (codes "h") (number 1 65535) path o >>= λ h. Ok (record { inks = s1.0; x = x; y = y; w = w; h = h })) m s1.2 in
    let s3 = bind_ok (required (codes "y") (number 0 65535) path o) (λ y. required (codes "w") (number 1 65535) path o >>= λ w. required (codes "h") (number 1 65535) path o >>= λ h. Ok (record { inks = s1.0; x = s2.0; y = y; w = w; h = h })) m s2.2 in
    let s4 = bind_ok (required (codes "w") (number 1 65535) path o) (λ w. required (codes "h") (number 1 65535) path o >>= λ h. Ok (record { inks = s1.0; x = s2.0; y = s3.0; w = w; h = h })) m s3.2 in
    let s5 = bind_ok (required (codes "h") (number 1 65535) path o) (λ h. Ok (record { inks = s1.0; x = s2.0; y = s3.0; w = s4.0; h = h })) m s4.2 in
    let same = ok_is {A = MarkData} (record { inks = s1.0; x = s2.0; y = s3.0; w = s4.0; h = s5.0 }) m s5.2 in
    subst IsMarkAnywhere same
    (inks_required (codes "inks") spot path o s1.0 s1.1, number_required (codes "w") 1 65535 path o s4.0 s4.1, number_required (codes "h") 1 65535 path o s5.0 s5.1)

pub mark_sound : (spot : Bool) (width height : ℕ) (path : List ℕ) (d : Data) (m : MarkData)
    → mark spot width height path d ≡ Ok m → IsMark width height m
unfolding mark
mark_sound spot width height path d m e =
    let s0 = bind_ok (object_with mark_keys path d) (λ o. mark_in spot path o >>= λ found. must (is_inside width height found) (Range path) >> Ok found) m e in
    let s1 = bind_ok (mark_in spot path s0.0) (λ found. must (is_inside width height found) (Range path) >> Ok found) m s0.2 in
    let s2 = then_ok (must (is_inside width height s1.0) (Range path)) (Ok s1.0) m s1.2 in
    let same = ok_is {A = MarkData} s1.0 m s2.2 in
    let anywhere = mark_in_sound spot path s0.0 s1.0 s1.1 in
    let inside = inside_sound (s1.0.x + s1.0.w) (s1.0.y + s1.0.h) width height (must_ok _ (Range path) s2.1) in
    subst (IsMark width height) same
    (record { inks = anywhere.0.0; some = anywhere.0.1; w = anywhere.1; h = anywhere.2; right = inside.0; bottom = inside.1 })

pub marks_sound : (spot : Bool) (width height : ℕ) (path : List ℕ) (d : Data) (v : List MarkData)
    → marks spot width height path d ≡ Ok v → All (IsMark width height) v × (length v ≤ 64)
unfolding marks
marks_sound spot width height path d v e =
    let P = IsMark width height in
    let kept = list_keeps (λ _. mark spot width height) (All P) (λ xs path d x h one. All-push P xs x h (mark_sound spot width height path d x one)) 0 64 path d v (All-nil P) e in
    (kept.0, kept.1.most)

pub no_marks : (width height : ℕ) → All (IsMark width height) []
no_marks width height = All-nil (IsMark width height)
