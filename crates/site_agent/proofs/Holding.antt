-- The effect of a rack's calls on its contents.
use Rattle.std.proofs.Common.{◌≡◌, ◌≢◌, ℕ, ◌<◌, Bool, true, false, if◌then◌else◌, List, [], ◌∷◌, ◌++◌, length, Option, Some, None, refl, sym, ap, subst, ◌∙◌, ⊎_elim, arith}
use Rattle.std.specs.Prelude.{◌==◌, is_some, slice_get, slice_set, IfSome, option_to_list}
use Rattle.std.specs.Option.{option_map}
use Rattle.std.proofs.lemmas.Bool.{cases_eq, eq-eqb, ne_eqb, cond-true, cond-false}
use Rattle.std.proofs.lemmas.List.{append_assoc, length-set, get_or-set_same, get_or-set_other}
use Rattle.std.proofs.lemmas.Option.{slice_get_within, slice_get-get_or, get_or_from_slice_get}
use Rattle.ring_lanes.specs.declared.source.Source.{Source}
use Rattle.pr_rack.specs.Rack.{Plate, Slots, plate_in, with_plate, with_more, with_row, finished_with, closed}
use Rattle.pr_rack.specs.Told.{Tells}
use Rattle.site_agent.specs.Stands.{grown, Holds}

-- ---- slots

pub get-set_same : {X : Type 0} (xs : List X) (i : ℕ) (x y : X) → slice_get xs i ≡ Some y
    → slice_get (slice_set xs i x) i ≡ Some x
get-set_same xs i x y there =
    let within : i < length xs = slice_get_within xs i y there in
    slice_get-get_or (slice_set xs i x) i x (omega (arith, length-set xs i x)) ∙ ap Some (get_or-set_same xs i x x within)

pub get-set_other : {X : Type 0} (xs : List X) (i j : ℕ) (x y : X) → j ≢ i → slice_get xs j ≡ Some y
    → slice_get (slice_set xs i x) j ≡ Some y
get-set_other xs i j x y apart there =
    let within : j < length xs = slice_get_within xs j y there in
    slice_get-get_or (slice_set xs i x) j x (omega (arith, length-set xs i x))
    ∙ ap Some (get_or-set_other xs i j x x apart)
    ∙ ap Some (get_or_from_slice_get xs j y x there)

-- the contents of the slots, with one of them replaced
abbrev pub put : ℕ → Option Plate → (ℕ → Option Plate) → ℕ → Option Plate
put slot plate open' s = if s == slot then plate else open' s

pub put-same : (slot : ℕ) (plate : Option Plate) (open' : ℕ → Option Plate) (s : ℕ) → s ≡ slot
    → put slot plate open' s ≡ plate
put-same slot plate open' s same = cond-true (s == slot) plate (open' s) (eq-eqb s slot same)

pub put-other : (slot : ℕ) (plate : Option Plate) (open' : ℕ → Option Plate) (s : ℕ) → s ≢ slot
    → put slot plate open' s ≡ open' s
put-other slot plate open' s apart = cond-false (s == slot) plate (open' s) (ne_eqb s slot apart)

-- a list derived from each slot, with one of them set
pub put-shown : {X : Type 0} (f : Option Plate → X) (xs : List X) (slot : ℕ) (plate : Option Plate)
    (open' : ℕ → Option Plate) (s : ℕ)
    → slice_get xs s ≡ Some (f (open' s))
    → slice_get (slice_set xs slot (f plate)) s ≡ Some (f (put slot plate open' s))
put-shown f xs slot plate open' s there =
    ⊎_elim
    (λ (same : s ≡ slot).
    ap (slice_get (slice_set xs slot (f plate))) same
    ∙ get-set_same xs slot (f plate) (f (open' s)) (sym (ap (slice_get xs) same) ∙ there)
    ∙ ap (λ p. Some (f p)) (sym (put-same slot plate open' s same)))
    (λ (apart : s ≢ slot).
    get-set_other xs slot s (f plate) (f (open' s)) apart there
    ∙ ap (λ p. Some (f p)) (sym (put-other slot plate open' s apart)))
    (cases_eq s slot)

-- the content of each slot, where known
abbrev pub Work : (ℕ → Option Plate) → Option Slots → Type 0
Work open' working = IfSome working (λ slots. (slot : ℕ) → slot < 5 → slice_get slots slot ≡ Some (open' slot))

put-work : (slot : ℕ) (plate : Option Plate) (open' : ℕ → Option Plate) (working : Option Slots)
    → Work open' working → Work (put slot plate open') (with_plate slot plate working)
put-work slot plate open' None work = tt
put-work slot plate open' (Some slots) work = λ s less. put-shown (λ p. p) slots slot plate open' s (work s less)

-- the plate in a slot
work-plate : (slot : ℕ) (open' : ℕ → Option Plate) (slots : Slots) → slot < 5 → Work open' (Some slots)
    → plate_in (Some slots) slot ≡ open' slot
work-plate slot open' slots less work = get_or_from_slice_get slots slot (open' slot) None (work slot less)

-- ---- the calls

pub begins : (files : List Plate) (rows : List (ℕ × Source)) (open' : ℕ → Option Plate)
    (before old now : Tells) (slot : ℕ) (plate : Plate) → Holds files rows open' before old
    → now ≡ record old {
      working = with_plate slot
          (Some plate) old.working;
      begun = slice_set old.begun slot true;
    }
    → Holds files rows (put slot (Some plate) open') before now
begins files rows open' before old now slot plate holds is =
    let P : Tells → Type 0 = Holds files rows (put slot (Some plate) open') before in
    subst P (sym is) (record {
      finished = holds.finished;
      taken = holds.taken;
      begun = λ s less. put-shown is_some old.begun slot (Some plate) open' s (holds.begun s less);
      working = put-work slot (Some plate) open' old.working holds.working;
    })

-- more bytes appended to a plate
more-work : (slot : ℕ) (path bytes more : List ℕ) (open' : ℕ → Option Plate) (working : Option Slots)
    → slot < 5 → open' slot ≡ Some (path, bytes) → Work open' working
    → Work (put slot (Some (path, bytes ++ more)) open') (with_more slot more working)
more-work slot path bytes more open' None less there work = tt
more-work slot path bytes more open' (Some slots) less there work =
    let P : Option Plate → Type 0 = λ plate. Work (put slot (Some (path, bytes ++ more)) open') (Some (slice_set slots slot (option_map (λ p. (p.0, p.1 ++ more)) plate))) in
    subst P (sym (work-plate slot open' slots less work ∙ there)) (put-work slot (Some (path, bytes ++ more)) open' (Some slots) work)

-- a slot that is still begun
same-begun : (xs : List Bool) (slot s : ℕ) (plate : Plate) (open' : ℕ → Option Plate)
    → is_some (open' slot) ≡ true → slice_get xs s ≡ Some (is_some (open' s))
    → slice_get xs s ≡ Some (is_some (put slot (Some plate) open' s))
same-begun xs slot s plate open' begun there =
    ⊎_elim
    (λ (same : s ≡ slot). there ∙ ap Some (ap (λ i. is_some (open' i)) same ∙ begun) ∙ ap (λ p. Some (is_some p)) (sym (put-same slot (Some plate) open' s same)))
    (λ (apart : s ≢ slot). there ∙ ap (λ p. Some (is_some p)) (sym (put-other slot (Some plate) open' s apart)))
    (cases_eq s slot)

grown-more : {X : Type 0} (rows more : List X) (old now next : Option (List X)) → now ≡ grown rows old
    → next ≡ grown more now → next ≡ grown (rows ++ more) old
grown-more rows more None now next first then' = then' ∙ ap (grown more) first
grown-more rows more (Some old) now next first then' = then' ∙ ap (grown more) first ∙ ap Some (append_assoc old rows more)

pub takes : (files : List Plate) (rows : List (ℕ × Source)) (open' : ℕ → Option Plate)
    (before old now : Tells) (slot number : ℕ) (source : Source) (path bytes more : List ℕ)
    → Holds files rows open' before old → slot < 5 → open' slot ≡ Some (path, bytes)
    → now ≡ record old { working = with_more slot more old.working; taken = with_row number source old.taken }
    → Holds files (rows ++ (number, source) ∷ []) (put slot (Some (path, bytes ++ more)) open') before now
takes files rows open' before old now slot number source path bytes more holds less there is =
    let P : Tells → Type 0 = Holds files (rows ++ (number, source) ∷ []) (put slot (Some (path, bytes ++ more)) open') before in
    subst P (sym is) (record {
      finished = holds.finished;
      taken = grown-more rows ((number, source) ∷ []) before.taken old.taken (with_row number source old.taken) holds.taken refl;
      begun = λ s below. same-begun old.begun slot s (path, bytes ++ more) open' (ap is_some there) (holds.begun s below);
      working = more-work slot path bytes more open' old.working less there holds.working;
    })

-- where the contents of the slots are unknown, the finished plates are too
abbrev pub FinishedTold : Tells → Type 0
FinishedTold now = now.working ≡ None → now.finished ≡ None

finished-more : (files : List Plate) (open' : ℕ → Option Plate) (before finished : Option (List Plate))
    (working : Option Slots) (slot place : ℕ) (tail : List ℕ) (plate : Plate)
    → slot < 5 → open' slot ≡ Some plate → Work open' working → (working ≡ None → finished ≡ None)
    → finished ≡ grown files before
    → finished_with working slot tail place finished ≡ grown (files ++ closed tail place plate ∷ []) before
finished-more files open' None finished None slot place tail plate less there work told is =
    ap (finished_with None slot tail place) (told refl)
finished-more files open' (Some old) finished None slot place tail plate less there work told is =
    absurd (let none : finished ≡ None = told refl in cc)
finished-more files open' before finished (Some slots) slot place tail plate less there work told is =
    ap (λ p. grown (option_to_list (option_map (closed tail place) p)) finished) (work-plate slot open' slots less work ∙ there)
    ∙ grown-more files (closed tail place plate ∷ []) before finished (grown (closed tail place plate ∷ []) finished) is refl

pub finishes : (files : List Plate) (rows : List (ℕ × Source)) (open' : ℕ → Option Plate)
    (before old now : Tells) (slot place : ℕ) (tail : List ℕ) (plate : Plate)
    → Holds files rows open' before old → FinishedTold old → slot < 5 → open' slot ≡ Some plate
    → now
    ≡ record old { finished = finished_with old.working slot tail place old.finished; working = with_plate slot None old.working; begun = slice_set old.begun slot false }
    → Holds (files ++ closed tail place plate ∷ []) rows (put slot None open') before now
finishes files rows open' before old now slot place tail plate holds told less there is =
    let P : Tells → Type 0 = Holds (files ++ closed tail place plate ∷ []) rows (put slot None open') before in
    subst P (sym is) (record {
      finished = finished-more files open' before.finished old.finished old.working slot place tail plate less there holds.working told holds.finished;
      taken = holds.taken;
      begun = λ s below. put-shown is_some old.begun slot None open' s (holds.begun s below);
      working = put-work slot None open' old.working holds.working;
    })

-- the same contents in other terms
pub alike : (files files' : List Plate) (rows rows' : List (ℕ × Source)) (open' other : ℕ → Option Plate)
    (before now : Tells) → Holds files rows open' before now
    → files ≡ files' → rows ≡ rows' → ((slot : ℕ) → slot < 5 → open' slot ≡ other slot)
    → Holds files' rows' other before now
alike files files' rows rows' open' other before now holds same_files same_rows same = record {
  finished = holds.finished ∙ ap (λ list. grown list before.finished) same_files;
  taken = holds.taken ∙ ap (λ list. grown list before.taken) same_rows;
  begun = λ s less. holds.begun s less ∙ ap (λ p. Some (is_some p)) (same s less);
  working = work now.working holds.working;
} where
  work : (working : Option Slots) → Work open' working → Work other working
  work None h = tt
  work (Some slots) h = λ s less. h s less ∙ ap Some (same s less)
