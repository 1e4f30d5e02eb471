-- A directory written field by field.
use Rattle.std.proofs.Common.{◌≡◌, ℕ, zero, suc, ◌+◌, ◌*◌, ◌<◌, ◌≤◌, List, [], ◌∷◌, ◌++◌, length, map, take, get_or, sym, ap, subst, ◌∙◌, arith, append_assoc, add-zero, add_assoc}
use Rattle.std.proofs.lemmas.List.{append-nil, map-append, take-map, take_more, length-map, get_or-map, flat_map_more}
use Rattle.std.specs.List.{flat_map}
use Rattle.tif_dir.specs.declared.order.Order.{Order}
use Rattle.tif_make.specs.declared.field.Field.{Field}
use Rattle.tif_make.specs.declared.field.Values.TheVariants.{Short}
use Rattle.tif_make.specs.Fields.{AreFields, FieldData, data_of, directory_end, entries, entry, outside, outside_size, outside_total}

-- a placeholder for a field past the last
abbrev pub no_field : Field
no_field = record { tag = 0; values = Short 0 }

-- the entries of the first i fields are written, and `place` is the offset for the outside values of the next
pub record WritesEntries (order : Order) (fields : List FieldData) (i place : ℕ) (old new : List ℕ) : Type 0 where
  pub place_is : place ≡ directory_end (length fields) + outside_total (take i fields)
  pub bytes : new ≡ old ++ entries order (directory_end (length fields)) (take i fields)

-- one more field
pub one_more : (fields : List Field) (i : ℕ) (d : Field) → i < length fields
    → take (i + 1) (map data_of fields) ≡ take i (map data_of fields) ++ data_of (get_or fields i d) ∷ []
one_more fields i d below =
    take-map data_of (i + 1) fields ∙ ap (map data_of) (take_more fields i d below)
    ∙ map-append data_of (take i fields) (get_or fields i d ∷ [])
    ∙ ap (λ xs. xs ++ data_of (get_or fields i d) ∷ []) (sym (take-map data_of i fields))

-- the number of a field's values fits in 32 bits
pub values_within : (fields : List Field) (i : ℕ) (d : Field) → i < length fields → AreFields (map data_of fields)
    → length (data_of (get_or fields i d)).values ≤ 4294967295
values_within fields i d below are =
    subst (λ f. length f.values ≤ 4294967295) (get_or-map data_of fields i d (data_of d) below) (are.values i (data_of d) (rw length-map below))

-- the outside bytes of two lists of fields add up
pub outside_total-append : (fields more : List FieldData) → outside_total (fields ++ more) ≡ outside_total fields + outside_total more
outside_total-append [] more = omega arith
outside_total-append (field ∷ fields) more = omega (arith, outside_total-append fields more)

-- the entries with one more field
pub entries-more : (order : Order) (place : ℕ) (fields : List FieldData) (field : FieldData)
    → entries order place (fields ++ field ∷ []) ≡ entries order place fields ++ entry order (place + outside_total fields) field
unfolding entries
entries-more order place [] field = append-nil _ ∙ ap (λ n. entry order n field) (sym (add-zero place))
entries-more order place (f ∷ fields) field =
    ap (λ bytes. entry order place f ++ bytes) (entries-more order (place + outside_size f) fields field)
    ∙ sym (append_assoc (entry order place f) _ _)
    ∙ ap (λ n. (entry order place f ++ entries order (place + outside_size f) fields) ++ entry order n field) (add_assoc place (outside_size f) (outside_total fields))

-- the first fields have at most as many outside bytes as all fields
pub outside_total-take : (fields : List FieldData) (i : ℕ) → outside_total (take i fields) ≤ outside_total fields
outside_total-take fields zero = omega arith
outside_total-take [] (suc i) = omega arith
outside_total-take (field ∷ fields) (suc i) = omega (arith, outside_total-take fields i)

-- every offset fits in 32 bits
pub place_within : (order : Order) (fields : List Field) (i place : ℕ) (old new : List ℕ) → AreFields (map data_of fields)
    → WritesEntries order (map data_of fields) i place old new → place ≤ 4294967295
place_within order fields i place old new are written =
    omega (arith, are.places, written.place_is, outside_total-take (map data_of fields) i)

-- so does the offset after the outside values of one more field
pub place_behind_within : (order : Order) (fields : List Field) (i place : ℕ) (old new : List ℕ) (d : Field) → i < length fields
    → AreFields (map data_of fields) → WritesEntries order (map data_of fields) i place old new
    → place + outside_size (data_of (get_or fields i d)) ≤ 4294967295
place_behind_within order fields i place old new d below are written =
    let f = data_of (get_or fields i d) in
    let before = take i (map data_of fields) in
    let with : outside_total (take (i + 1) (map data_of fields)) ≡ outside_total before + outside_size f =
    ap outside_total (one_more fields i d below) ∙ outside_total-append before (f ∷ []) ∙ omega arith in
    omega (arith, are.places, written.place_is, outside_total-take (map data_of fields) (i + 1))

-- before the first field
pub written_none : (order : Order) (fields : List Field) (old : List ℕ)
    → WritesEntries order (map data_of fields) 0 (14 + 12 * length fields) old old
unfolding entries
written_none order fields old = record {
  place_is = rw length-map (omega arith);
  bytes = sym (append-nil old);
}

-- one more entry is written
pub written_more : (order : Order) (fields : List Field) (i place size : ℕ) (old new next : List ℕ) (d : Field) → i < length fields
    → WritesEntries order (map data_of fields) i place old new
    → next ≡ new ++ entry order place (data_of (get_or fields i d))
    → size ≡ outside_size (data_of (get_or fields i d))
    → WritesEntries order (map data_of fields) (i + 1) (place + size) old next
written_more order fields i place size old new next d below written is_next is_size =
    let f = data_of (get_or fields i d) in
    let e = one_more fields i d below in
    let before = take i (map data_of fields) in
    record {
      place_is = rw e (omega (arith, written.place_is, outside_total-append before (f ∷ [])));
      bytes =
          is_next ∙ ap (λ xs. xs ++ entry order place f) written.bytes ∙ append_assoc old _ _
          ∙ ap (λ n. old ++ (entries order (directory_end (length (map data_of fields))) before ++ entry order n f)) written.place_is
          ∙ ap (λ xs. old ++ xs) (sym (entries-more order (directory_end (length (map data_of fields))) before f))
          ∙ ap (λ xs. old ++ entries order (directory_end (length (map data_of fields))) xs) (sym e);
    }

-- the outside values of one more field are written
pub outside_more : (order : Order) (fields : List Field) (i : ℕ) (old new next : List ℕ) (d : Field) → i < length fields
    → new ≡ old ++ flat_map (outside order) (take i (map data_of fields))
    → next ≡ new ++ outside order (data_of (get_or fields i d))
    → next ≡ old ++ flat_map (outside order) (take (i + 1) (map data_of fields))
outside_more order fields i old new next d below is is_next =
    is_next ∙ ap (λ xs. xs ++ outside order (data_of (get_or fields i d))) is
    ∙ flat_map_more (outside order) old (take i (map data_of fields)) (data_of (get_or fields i d))
    ∙ ap (λ xs. old ++ flat_map (outside order) xs) (sym (one_more fields i d below))
