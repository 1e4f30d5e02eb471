-- The five inks of a row of a page after curves and limit.
use Rattle.std.proofs.Common.{◌≡◌, ℕ, zero, suc, ◌+◌, ◌<◌, ◌≤◌, Bool, true, false, if◌then◌else◌, List, [], ◌∷◌, length, replicate, refl, ap, sym, subst, ◌∙◌, arith}
use Rattle.std.specs.Prelude.{nat_lt, slice_index, slice_index_or}
use Rattle.pr_base.specs.Ink.{slot_of}
use Rattle.std.proofs.lemmas.Bool.Decides.{nat_tests}
use Rattle.pr_base.specs.declared.ink.Ink.{Ink}
use Rattle.pr_base.specs.declared.ink.Ink.TheVariants.{C, M, Y, K, S}
use Rattle.page_layers.specs.declared.layer.Layer.{Layer}
use Rattle.page_layers.specs.Inks.{HasWidth, Planes, inks_at, only, painted_inks, plane_of}
use Rattle.page_layers.specs.Layer.{ink_at}
use Rattle.page_tone.specs.Limit.{AreLimited, limited}
use Rattle.page_tone.proofs.LimitLemmas.{limited-free}
use Rattle.plan_json.specs.Data.{PlanData}
use Rattle.press_job.specs.declared.plane.Plane.{Plane}
use Rattle.press_job.specs.declared.plane.Source.{Source}
use Rattle.press_job.specs.declared.plane.Source.TheVariants.{Painted, Own, Blank}
use Rattle.press_job.specs.Planes.{IsSameKind, IsToned, ShowsInks, shown_in, shown_planes, values_at}
use Rattle.press_job.specs.Printing.{limited_inks, printed_ink, prints_ink, toned, toned_ink}
use Rattle.press_job.specs.Tones.{limits, most_ink}
use Rattle.press_job.proofs.LimitLemmas.{limited-same}

-- five rows after their curves
pub record AreToned (plan : PlanData) (colour spotted : Bool) (inks shown : Planes) : Type 0 where
  pub cyan : IsToned plan C colour inks.cyan shown.cyan
  pub magenta : IsToned plan M colour inks.magenta shown.magenta
  pub yellow : IsToned plan Y colour inks.yellow shown.yellow
  pub black : IsToned plan K true inks.black shown.black
  pub spot : IsToned plan S spotted inks.spot shown.spot

-- each value at a pixel
record HasValues (plan : PlanData) (colour spotted : Bool) (inks shown : Planes) (x : ℕ) : Type 0 where
  cyan : slice_index shown.cyan x ≡ toned_ink plan colour spotted (inks_at inks x) C
  magenta : slice_index shown.magenta x ≡ toned_ink plan colour spotted (inks_at inks x) M
  yellow : slice_index shown.yellow x ≡ toned_ink plan colour spotted (inks_at inks x) Y
  black : slice_index shown.black x ≡ toned_ink plan colour spotted (inks_at inks x) K
  spot : slice_index shown.spot x ≡ toned_ink plan colour spotted (inks_at inks x) S

has_values : (plan : PlanData) (colour spot : Bool) (inks shown : Planes) (width x : ℕ) → HasWidth inks width
    → AreToned plan colour spot inks shown → x < width → HasValues plan colour spot inks shown x
has_values plan colour spot inks shown width x wide are less =
    let cyan = wide.cyan in
    let magenta = wide.magenta in
    let yellow = wide.yellow in
    let black = wide.black in
    let own_spot = wide.spot in
    record {
      cyan = are.cyan.values x (omega arith);
      magenta = are.magenta.values x (omega arith);
      yellow = are.yellow.values x (omega arith);
      black = are.black.values x (omega arith);
      spot = are.spot.values x (omega arith);
    }

-- whether a page prints each ink
abbrev pub printed_inks : Bool → Bool → List Bool
printed_inks colour spot = painted_inks (record { colour = colour; spot = spot })

-- the value at a place among those of the inks that are painted
at-only : (inks : List Bool) (values : List ℕ) (i : ℕ) → slice_index_or inks i false ≡ true
    → slice_index (only inks values) i ≡ slice_index values i
at-only [] values i on = absurd (cc)
at-only (ink ∷ inks) [] i on = refl
at-only (ink ∷ inks) (value ∷ values) zero on = ap (λ ink. if ink then value else 0) on
at-only (ink ∷ inks) (value ∷ values) (suc i) on = at-only inks values i on

toned_only : (plan : PlanData) (colour spot : Bool) (values : List ℕ) (ink : Ink)
    → toned_ink plan colour spot values ink
    ≡ toned_ink plan colour spot (only (printed_inks colour spot) values) ink
toned_only plan colour spot values ink = one (prints_ink colour spot ink) (λ on. at-only (printed_inks colour spot) values (slot_of ink) (printed ink on))
  where
    printed : (ink : Ink) → prints_ink colour spot ink ≡ true
        → slice_index_or (printed_inks colour spot) (slot_of ink) false ≡ true
    printed C on = on
    printed M on = on
    printed Y on = on
    printed K on = on
    printed S on = on

    one : (prints : Bool)
        → (prints ≡ true → slice_index (only (printed_inks colour spot) values) (slot_of ink)
        ≡ slice_index values (slot_of ink))
        → (if prints then toned plan ink (slice_index values (slot_of ink)) else 0)
        ≡ (if prints then toned plan ink (slice_index (only (printed_inks colour spot) values)
        (slot_of ink)) else 0)
    one true same = ap (toned plan ink) (sym (same refl))
    one false same = refl

-- what a page prints of an ink depends on the inks that it prints alone
only_printed : (plan : PlanData) (colour spot : Bool) (inks layers : List ℕ)
    → only (printed_inks colour spot) inks ≡ only (printed_inks colour spot) layers
    → (ink : Ink) → printed_ink plan colour spot inks ink ≡ printed_ink plan colour spot layers ink
only_printed plan colour spot inks layers same = at
  where
    toned_same : (ink : Ink) → toned_ink plan colour spot inks ink ≡ toned_ink plan colour spot layers ink
    toned_same ink =
        toned_only plan colour spot inks ink ∙ ap (λ values. toned_ink plan colour spot values ink) same ∙ sym (toned_only plan colour spot layers ink)

    limited_same : limited_inks plan colour spot inks ≡ limited_inks plan colour spot layers
    limited_same = limited-same _ _ _ _ _ _ _ _ plan.limit (toned_same C) (toned_same M) (toned_same Y) (toned_same K)

    at : (ink : Ink) → printed_ink plan colour spot inks ink ≡ printed_ink plan colour spot layers ink
    at C = ap (λ values. slice_index values 0) limited_same
    at M = ap (λ values. slice_index values 1) limited_same
    at Y = ap (λ values. slice_index values 2) limited_same
    at K = ap (λ values. slice_index values 3) limited_same
    at S = toned_same S

-- where the limit cannot change a page, the sum of four values is within it
above : (colour : Bool) (limit c m y k : ℕ) → nat_lt limit (most_ink colour) ≡ false → c ≤ 255 → m ≤ 255
    → y ≤ 255 → k ≤ 255 → (colour ≡ false → c ≡ 0) → (colour ≡ false → m ≡ 0) → (colour ≡ false → y ≡ 0)
    → c + m + y + k ≤ limit
above true limit c m y k off cyan magenta yellow black no_cyan no_magenta no_yellow = let most : 1020 ≤ limit = grind (arith, nat_tests) in omega arith
above false limit c m y k off cyan magenta yellow black no_cyan no_magenta no_yellow =
    let most : 255 ≤ limit = grind (arith, nat_tests) in
    let c_is = no_cyan refl in
    let m_is = no_magenta refl in
    let y_is = no_yellow refl in
    omega arith

-- without a limit, the rows after their curves are printed
pub shows_unlimited : (plan : PlanData) (colour spot : Bool) (layers : List Layer) (width y : ℕ)
    (inks shown : Planes) → HasWidth inks width
    → ((x : ℕ) → x < width → only (printed_inks colour spot) (inks_at inks x)
    ≡ only (printed_inks colour spot) (ink_at layers x y)) → AreToned plan colour spot inks shown
    → limits plan colour ≡ false → ShowsInks plan colour spot layers width y shown
shows_unlimited plan colour spot layers width y inks shown wide laid are off =
    record {
      each = λ ink x less. at ink x less ∙ only_printed plan colour spot (inks_at inks x)
          (ink_at layers x y) (laid x less) ink;
    }
  where
    free : (x : ℕ) → x < width
        → limited_inks plan colour spot (inks_at inks x)
        ≡ slice_index shown.cyan x ∷ slice_index shown.magenta x ∷ slice_index shown.yellow x ∷ slice_index shown.black x ∷ []
    free x less =
        let is = has_values plan colour spot inks shown width x wide are less in
        let wide_cyan = wide.cyan in
        let wide_magenta = wide.magenta in
        let wide_yellow = wide.yellow in
        let wide_black = wide.black in
        let cyan = are.cyan.bytes x (omega arith) in
        let magenta = are.magenta.bytes x (omega arith) in
        let yellow = are.yellow.bytes x (omega arith) in
        let black = are.black.bytes x (omega arith) in
        let most = above colour plan.limit (slice_index shown.cyan x) (slice_index shown.magenta x) (slice_index shown.yellow x) (slice_index shown.black x) off (omega arith) (omega arith) (omega arith) (omega arith)
        (λ none. is.cyan ∙ ap (λ colour. if colour then toned plan C (slice_index inks.cyan x) else 0) none) (λ none. is.magenta ∙ ap (λ colour. if colour then toned plan M (slice_index inks.magenta x) else 0) none)
        (λ none. is.yellow ∙ ap (λ colour. if colour then toned plan Y (slice_index inks.yellow x) else 0) none) in
        limited-same _ (slice_index shown.cyan x) _ (slice_index shown.magenta x) _ (slice_index shown.yellow x) _ (slice_index shown.black x) plan.limit (sym is.cyan) (sym is.magenta) (sym is.yellow) (sym is.black)
        ∙ limited-free (slice_index shown.cyan x) (slice_index shown.magenta x) (slice_index shown.yellow x) (slice_index shown.black x) plan.limit most

    at : (ink : Ink) (x : ℕ) → x < width
        → slice_index (plane_of shown ink) x ≡ printed_ink plan colour spot (inks_at inks x) ink
    at C x less = sym (ap (λ values. slice_index values 0) (free x less))
    at M x less = sym (ap (λ values. slice_index values 1) (free x less))
    at Y x less = sym (ap (λ values. slice_index values 2) (free x less))
    at K x less = sym (ap (λ values. slice_index values 3) (free x less))
    at S x less = (has_values plan colour spot inks shown width x wide are less).spot

-- with a limit, the limited rows are printed
pub shows_limited : (plan : PlanData) (colour spot : Bool) (layers : List Layer) (width y : ℕ)
    (inks shown new : Planes) → HasWidth inks width → HasWidth shown width
    → ((x : ℕ) → x < width → only (printed_inks colour spot) (inks_at inks x)
    ≡ only (printed_inks colour spot) (ink_at layers x y)) → AreToned plan colour spot inks shown
    → AreLimited plan.limit shown.cyan shown.magenta shown.yellow shown.black
    new.cyan new.magenta new.yellow new.black
    → new.spot ≡ shown.spot → ShowsInks plan colour spot layers width y new
shows_limited plan colour spot layers width y inks shown new wide shown_wide laid are cut spot_is =
    record {
      each = λ ink x less. at ink x less ∙ only_printed plan colour spot (inks_at inks x)
          (ink_at layers x y) (laid x less) ink;
    }
  where
    same : (x : ℕ) → x < width
        → limited (slice_index shown.cyan x) (slice_index shown.magenta x) (slice_index shown.yellow x)
        (slice_index shown.black x) plan.limit ≡ limited_inks plan colour spot (inks_at inks x)
    same x less =
        let is = has_values plan colour spot inks shown width x wide are less in
        limited-same (slice_index shown.cyan x) _ (slice_index shown.magenta x) _ (slice_index shown.yellow x) _ (slice_index shown.black x) _ plan.limit is.cyan is.magenta is.yellow is.black

    inside : (x : ℕ) → x < width → x < length shown.cyan
    inside x less = (let long = shown_wide.cyan in omega arith)

    at : (ink : Ink) (x : ℕ) → x < width
        → slice_index (plane_of new ink) x ≡ printed_ink plan colour spot (inks_at inks x) ink
    at C x less = cut.cyan_is x (inside x less) ∙ ap (λ values. slice_index values 0) (same x less)
    at M x less = cut.magenta_is x (inside x less) ∙ ap (λ values. slice_index values 1) (same x less)
    at Y x less = cut.yellow_is x (inside x less) ∙ ap (λ values. slice_index values 2) (same x less)
    at K x less = cut.black_is x (inside x less) ∙ ap (λ values. slice_index values 3) (same x less)
    at S x less = ap (λ row. slice_index row x) spot_is ∙ (has_values plan colour spot inks shown width x wide are less).spot

-- ---- the planes of a row

-- the values of a plane, wherever they are, are as many as a row has
pub length-values_at : (source : Source) (row own blank : List ℕ) (width : ℕ) → length row ≡ width
    → length own ≡ width → length blank ≡ width → length (values_at source row own blank) ≡ width
length-values_at Painted row own blank width row_long own_long blank_long = row_long
length-values_at Own row own blank width row_long own_long blank_long = own_long
length-values_at Blank row own blank width row_long own_long blank_long = blank_long

own_values : (row blank : List ℕ) (plane : Plane) → plane.source ≡ Own
    → shown_in row blank plane ≡ plane.values.items
own_values row blank plane own = ap (λ source. values_at source row plane.values.items blank) own

-- what the tone of a plane states: its values after the curve, at the painted row and at any blank row
abbrev IsPlaneToned : PlanData → Ink → Bool → List ℕ → Plane → Type 0
IsPlaneToned plan ink prints row plane = (none : List ℕ) → none ≡ replicate (length row) 0 → IsToned plan ink prints row (shown_in row none plane)

toned_plane : (plan : PlanData) (ink : Ink) (prints : Bool) (row painted blank : List ℕ) (width : ℕ)
    (plane : Plane) → row ≡ painted → length painted ≡ width → blank ≡ replicate width 0
    → IsPlaneToned plan ink prints row plane → IsToned plan ink prints painted (shown_in painted blank plane)
toned_plane plan ink prints row painted blank width plane same long blank_is toned =
    let count : length row ≡ width = ap length same ∙ long in
    subst {A = List ℕ} (λ r. IsToned plan ink prints r (shown_in r blank plane)) same (toned blank (blank_is ∙ ap (λ n. replicate n 0) (sym count)))

-- five planes after their curves
pub AreToned-planes : (plan : PlanData) (colour spot : Bool) (inks : Planes) (blank : List ℕ) (width : ℕ)
    (c m ye k s : Plane) (cyan magenta yellow black own : List ℕ) → HasWidth inks width
    → blank ≡ replicate width 0
    → cyan ≡ inks.cyan → magenta ≡ inks.magenta → yellow ≡ inks.yellow → black ≡ inks.black → own ≡ inks.spot
    → IsPlaneToned plan C colour cyan c → IsPlaneToned plan M colour magenta m
    → IsPlaneToned plan Y colour yellow ye → IsPlaneToned plan K true black k → IsPlaneToned plan S spot own s
    → AreToned plan colour spot inks (shown_planes inks blank c m ye k s)
AreToned-planes plan colour spot inks blank width c m ye k s cyan magenta yellow black own wide blank_is c_row m_row y_row k_row s_row c_toned m_toned y_toned k_toned s_toned = record {
  cyan = toned_plane plan C colour cyan inks.cyan blank width c c_row wide.cyan blank_is c_toned;
  magenta = toned_plane plan M colour magenta inks.magenta blank width m m_row wide.magenta blank_is m_toned;
  yellow = toned_plane plan Y colour yellow inks.yellow blank width ye y_row wide.yellow blank_is y_toned;
  black = toned_plane plan K true black inks.black blank width k k_row wide.black blank_is k_toned;
  spot = toned_plane plan S spot own inks.spot blank width s s_row wide.spot blank_is s_toned;
}

-- planes with values of their own, under a limit
pub shows_limited_planes : (plan : PlanData) (colour spot : Bool) (layers : List Layer) (width y : ℕ)
    (inks : Planes) (blank : List ℕ) (c m ye k s c' m' ye' k' : Plane) → HasWidth inks width
    → length c.values.items ≡ width → length m.values.items ≡ width → length ye.values.items ≡ width
    → length k.values.items ≡ width → length s.values.items ≡ width → length blank ≡ width
    → ((x : ℕ) → x < width → only (printed_inks colour spot) (inks_at inks x)
    ≡ only (printed_inks colour spot) (ink_at layers x y))
    → AreToned plan colour spot inks (shown_planes inks blank c m ye k s) → c.source ≡ Own → m.source ≡ Own
    → ye.source ≡ Own → k.source ≡ Own → IsSameKind c c' → IsSameKind m m' → IsSameKind ye ye'
    → IsSameKind k k' → AreLimited plan.limit c.values.items m.values.items ye.values.items k.values.items
    c'.values.items m'.values.items ye'.values.items k'.values.items
    → ShowsInks plan colour spot layers width y (shown_planes inks blank c' m' ye' k' s)
shows_limited_planes plan colour spot layers width y inks blank c m ye k s c' m' ye' k' wide c_long m_long y_long k_long s_long blank_long laid are c_own m_own y_own k_own c_kind m_kind y_kind k_kind cut =
    let shown = shown_planes inks blank c m ye k s in
    let new = shown_planes inks blank c' m' ye' k' s in
    let c_is = own_values inks.cyan blank c c_own in
    let m_is = own_values inks.magenta blank m m_own in
    let y_is = own_values inks.yellow blank ye y_own in
    let k_is = own_values inks.black blank k k_own in
    let c'_is = own_values inks.cyan blank c' (c_kind.source_is ∙ c_own) in
    let m'_is = own_values inks.magenta blank m' (m_kind.source_is ∙ m_own) in
    let y'_is = own_values inks.yellow blank ye' (y_kind.source_is ∙ y_own) in
    let k'_is = own_values inks.black blank k' (k_kind.source_is ∙ k_own) in
    let shown_wide : HasWidth shown width = record {
      cyan = length-values_at c.source inks.cyan c.values.items blank width wide.cyan c_long blank_long;
      magenta = length-values_at m.source inks.magenta m.values.items blank width wide.magenta m_long blank_long;
      yellow = length-values_at ye.source inks.yellow ye.values.items blank width wide.yellow y_long blank_long;
      black = length-values_at k.source inks.black k.values.items blank width wide.black k_long blank_long;
      spot = length-values_at s.source inks.spot s.values.items blank width wide.spot s_long blank_long;
    } in
    shows_limited plan colour spot layers width y inks shown new wide shown_wide laid are (rw (c_is, m_is, y_is, k_is, c'_is, m'_is, y'_is, k'_is) cut) refl
