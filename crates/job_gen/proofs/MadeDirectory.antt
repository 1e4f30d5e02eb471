-- The directory of a generated file reads back: each field as it was written, and no others.
use Rattle.std.proofs.Common.{◌≡◌, ℕ, suc, ◌+◌, ◌-◌, ◌*◌, ◌^◌, ◌<◌, ◌≤◌, Bool, true, false, cond, nat_lt, nat_le, if◌then◌else◌, ◌==◌, List, [], ◌∷◌, ◌++◌, length, map, take, drop, replicate, Option, Some, None, Ok, refl, sym, ap, subst, ◌∙◌, arith}
use Rattle.std.specs.List.{All, find, flat_map}
use Rattle.std.specs.Simd.{first_chunks}
use Rattle.std.proofs.lemmas.Bool.Decides.{nat_tests}
use Rattle.std.proofs.lemmas.List.{append-nil, append_assoc, drop-drop, drop_at, length-append, length-replicate, take_at}
use Rattle.byteorder.specs.Numbers.{big_number-reads_back, length-bytes_high_first, length-bytes_low_first, little_number-reads_back}
use Rattle.tif_dir.specs.declared.order.Order.{Order}
use Rattle.tif_dir.specs.declared.order.Order.TheVariants.{Little, Big}
use Rattle.tif_dir.specs.declared.value_type.ValueType.{ValueType}
use Rattle.tif_dir.specs.Directory.{bytes_of, directory_of, entries_of, field_in, field_of, header_of, held_bytes, mark_of, number_of, order_of, size_of, type_of, values_in}
use Rattle.tif_dir.proofs.Fields.{field_in-held, field_of-known}
use Rattle.tif_dir.proofs.Values.{number_of-take}
use Rattle.tif_make.specs.Fields.{FieldData, directory_end, entries, entry, front, outside, outside_size, outside_total, total, value_bytes, value_or_place}

-- ---- numbers

pub length-bytes : (order : Order) (size n : ℕ) → length (bytes_of order size n) ≡ size
length-bytes Little size n = length-bytes_low_first 0 size n
length-bytes Big size n = length-bytes_high_first size n

pub number-back : (order : Order) (size n : ℕ) (rest : List ℕ) → n < 256 ^ size
    → number_of order size (bytes_of order size n ++ rest) ≡ n
number-back Little size n rest fits = little_number-reads_back size n rest fits
number-back Big size n rest fits = big_number-reads_back size n rest fits

-- ---- values

-- a field of a type that the reader accepts, whose values and tag fit
pub record IsWritten (field : FieldData) : Type 0 where
  pub kind : ValueType
  pub type_is : type_of field.kind ≡ Some kind
  pub size_is : size_of kind ≡ field.size
  pub kind_fits : field.kind < 65536
  pub tag_fits : field.tag < 65536
  pub count_fits : length field.values < 4294967296
  pub values_fit : All (λ value. value < 256 ^ field.size) field.values

pub length-values : (order : Order) (size : ℕ) (values : List ℕ) → length (flat_map (bytes_of order size) values) ≡ size * length values
length-values order size [] = omega arith
length-values order size (value ∷ values) =
    length-append (bytes_of order size value) (flat_map (bytes_of order size) values)
    ∙ omega (arith, length-bytes order size value, length-values order size values)

pub values-back : (order : Order) (kind : ValueType) (values : List ℕ) → All (λ value. value < 256 ^ size_of kind) values
    → values_in order kind (length values) (flat_map (bytes_of order (size_of kind)) values) ≡ values
values-back order kind [] fit = refl
values-back order kind (value ∷ values) fit =
    let size = size_of kind in
    let first = bytes_of order size value in
    let more = flat_map (bytes_of order size) values in
    let head : number_of order size (take size (first ++ more)) ≡ value =
    number_of-take order size size (first ++ more) (omega arith) ∙ number-back order size value more (fit 0 0 (omega arith)) in
    let rest : drop size (first ++ more) ≡ more = drop_at first more size (length-bytes order size value) in
    let tail = values-back order kind values (λ k d below. fit (suc k) d (omega arith)) in
    ap (λ x. x ∷ map (number_of order size) (first_chunks size (length values) (drop size (first ++ more)))) head
    ∙ ap (λ bytes. value ∷ map (number_of order size) (first_chunks size (length values) bytes)) rest
    ∙ ap (λ xs. value ∷ xs) tail

-- ---- an entry

-- its parts
entry-parts : (order : Order) (place : ℕ) (field : FieldData)
    → entry order place field
    ≡ bytes_of order 2 field.tag ++ (bytes_of order 2 field.kind ++ (bytes_of order 4 (length field.values) ++ value_or_place order place field))
unfolding entry
entry-parts order place field =
    append_assoc (bytes_of order 2 field.tag ++ bytes_of order 2 field.kind) _ _ ∙ append_assoc (bytes_of order 2 field.tag) _ _

entry-tag : (order : Order) (place : ℕ) (field : FieldData) → IsWritten field → number_of order 2 (entry order place field) ≡ field.tag
entry-tag order place field is =
    ap (number_of order 2) (entry-parts order place field) ∙ number-back order 2 field.tag _ is.tag_fits

entry-drop_two : (order : Order) (place : ℕ) (field : FieldData)
    → drop 2 (entry order place field) ≡ bytes_of order 2 field.kind ++ (bytes_of order 4 (length field.values) ++ value_or_place order place field)
entry-drop_two order place field =
    ap (drop 2) (entry-parts order place field) ∙ drop_at (bytes_of order 2 field.tag) _ 2 (length-bytes order 2 field.tag)

entry-kind : (order : Order) (place : ℕ) (field : FieldData) → IsWritten field → number_of order 2 (drop 2 (entry order place field)) ≡ field.kind
entry-kind order place field is =
    ap (number_of order 2) (entry-drop_two order place field) ∙ number-back order 2 field.kind _ is.kind_fits

entry-drop_four : (order : Order) (place : ℕ) (field : FieldData)
    → drop 4 (entry order place field) ≡ bytes_of order 4 (length field.values) ++ value_or_place order place field
entry-drop_four order place field =
    sym (drop-drop 2 2 (entry order place field)) ∙ ap (drop 2) (entry-drop_two order place field)
    ∙ drop_at (bytes_of order 2 field.kind) _ 2 (length-bytes order 2 field.kind)

entry-count : (order : Order) (place : ℕ) (field : FieldData) → IsWritten field
    → number_of order 4 (drop 4 (entry order place field)) ≡ length field.values
entry-count order place field is =
    ap (number_of order 4) (entry-drop_four order place field) ∙ number-back order 4 (length field.values) _ is.count_fits

entry-drop_eight : (order : Order) (place : ℕ) (field : FieldData) → drop 8 (entry order place field) ≡ value_or_place order place field
entry-drop_eight order place field =
    sym (drop-drop 4 4 (entry order place field)) ∙ ap (drop 4) (entry-drop_four order place field)
    ∙ drop_at (bytes_of order 4 (length field.values)) _ 4 (length-bytes order 4 (length field.values))

-- ---- the values of an entry

held-by : (order : Order) (place : ℕ) (field : FieldData) (file pre more : List ℕ) (fits : Bool) → nat_le (total field) 4 ≡ fits
    → place ≡ length pre → place < 4294967296 → file ≡ pre ++ (outside order field ++ more)
    → held_bytes order file (entry order place field) (total field) ≡ Some (value_bytes order field)
held-by order place field file pre more true h at small is =
    rw (entry-drop_eight order place field, h)
    (ap Some (take_at (value_bytes order field) _ (total field) (length-values order field.size field.values)))
held-by order place field file pre more false h at small is =
    let here : number_of order 4 (bytes_of order 4 place) ≡ place =
    ap (number_of order 4) (sym (append-nil (bytes_of order 4 place))) ∙ number-back order 4 place [] small in
    let out : outside order field ≡ value_bytes order field = rw h refl in
    let whole : file ≡ pre ++ (value_bytes order field ++ more) = is ∙ ap (λ xs. pre ++ (xs ++ more)) out in
    let len : length (value_bytes order field) ≡ total field = length-values order field.size field.values in
    let lies : nat_le (place + total field) (length file) ≡ true =
    within (omega (arith, ap length whole, length-append pre (value_bytes order field ++ more), length-append (value_bytes order field) more)) in
    let cut : take (place + total field - place) (drop place file) ≡ value_bytes order field =
    ap (λ xs. take (place + total field - place) (drop place xs)) whole
    ∙ ap (take (place + total field - place)) (drop_at pre _ place (sym at))
    ∙ take_at (value_bytes order field) more (place + total field - place) (omega arith) in
    rw (entry-drop_eight order place field, h, here, lies, cut) refl
  where
    within : {a b : ℕ} → a ≤ b → nat_le a b ≡ true
    within h = grind (arith, nat_tests)

typed-values : (order : Order) (field : FieldData) (is : IsWritten field)
    → values_in order is.kind (length field.values) (value_bytes order field) ≡ field.values
typed-values order field is =
    ap (λ size. values_in order is.kind (length field.values) (flat_map (bytes_of order size) field.values)) (sym is.size_is)
    ∙ values-back order is.kind field.values (subst (λ size. All (λ value. value < 256 ^ size) field.values) (sym is.size_is) is.values_fit)

entry-back : (order : Order) (tag place : ℕ) (field : FieldData) (file pre more : List ℕ) → IsWritten field
    → place ≡ length pre → place < 4294967296 → file ≡ pre ++ (outside order field ++ more)
    → field_in order file tag (Some (entry order place field)) ≡ Ok (Some field.values)
entry-back order tag place field file pre more is at small whole =
    field_in-held order file tag (Some (entry order place field)) (entry order place field) field.kind (length field.values) field.size
    is.kind (value_bytes order field) refl (sym (entry-kind order place field is)) (sym is.type_is) (sym (entry-count order place field is))
    (sym is.size_is) (sym (held-by order place field file pre more (nat_le (total field) 4) refl at small whole))
    ∙ ap (λ values. Ok (Some values)) (typed-values order field is)

-- ---- all entries

-- the entries one by one
abbrev pub entry_list : Order → ℕ → List FieldData → List (List ℕ)
entry_list order place [] = []
entry_list order place (field ∷ fields) = entry order place field ∷ entry_list order (place + outside_size field) fields

length-last : (order : Order) (place : ℕ) (field : FieldData) (fits : Bool) → nat_le (total field) 4 ≡ fits
    → length (value_or_place order place field) ≡ 4
length-last order place field true h =
    rw h (length-append (value_bytes order field) (replicate (4 - total field) 0)
    ∙ omega (arith, length-values order field.size field.values, length-replicate {A = ℕ} (4 - total field) 0, small h))
  where
    small : {a : ℕ} → nat_le a 4 ≡ true → a ≤ 4
    small h = grind (arith, nat_tests)
length-last order place field false h = rw h (length-bytes order 4 place)

length-entry : (order : Order) (place : ℕ) (field : FieldData) → length (entry order place field) ≡ 12
length-entry order place field =
    let a = bytes_of order 2 field.tag in
    let b = bytes_of order 2 field.kind in
    let c = bytes_of order 4 (length field.values) in
    ap length (entry-parts order place field) ∙ length-append a _
    ∙ omega (
      arith,
      length-append b (c ++ value_or_place order place field),
      length-append c (value_or_place order place field),
      length-bytes order 2 field.tag,
      length-bytes order 2 field.kind,
      length-bytes order 4 (length field.values),
      length-last order place field (nat_le (total field) 4) refl,
    )

pub length-entries : (order : Order) (place : ℕ) (fields : List FieldData) → length (entries order place fields) ≡ 12 * length fields
unfolding entries
length-entries order place [] = omega arith
length-entries order place (field ∷ fields) =
    length-append (entry order place field) (entries order (place + outside_size field) fields)
    ∙ omega (arith, length-entry order place field, length-entries order (place + outside_size field) fields)

chunks-back : (order : Order) (place : ℕ) (fields : List FieldData)
    → first_chunks 12 (length fields) (entries order place fields) ≡ entry_list order place fields
unfolding entries
chunks-back order place [] = refl
chunks-back order place (field ∷ fields) =
    let e = entry order place field in
    let rest = entries order (place + outside_size field) fields in
    ap (λ x. x ∷ first_chunks 12 (length fields) (drop 12 (e ++ rest))) (take_at e rest 12 (length-entry order place field))
    ∙ ap (λ xs. e ∷ first_chunks 12 (length fields) xs) (drop_at e rest 12 (length-entry order place field))
    ∙ ap (λ xs. e ∷ xs) (chunks-back order (place + outside_size field) fields)

-- ---- a field of a list

-- the values of the first field with a tag
abbrev pub lookup : ℕ → List FieldData → Option (List ℕ)
lookup tag [] = None
lookup tag (field ∷ fields) = if field.tag == tag then Some field.values else lookup tag fields

chosen : (order : Order) (file : List ℕ) (tag : ℕ) (e : List ℕ) (rest : Option (List ℕ)) (values : List ℕ) (more : Option (List ℕ)) (here : Bool)
    → field_in order file tag (Some e) ≡ Ok (Some values) → field_in order file tag rest ≡ Ok more
    → field_in order file tag (cond here (Some e) rest) ≡ Ok (cond here (Some values) more)
chosen order file tag e rest values more true a b = a
chosen order file tag e rest values more false a b = b

length-outside : (order : Order) (field : FieldData) (fits : Bool) → nat_le (total field) 4 ≡ fits → length (outside order field) ≡ outside_size field
length-outside order field true h = rw h refl
length-outside order field false h = rw h (length-values order field.size field.values)

field-found : (order : Order) (tag place : ℕ) (fields : List FieldData) (file pre more : List ℕ) → All IsWritten fields
    → place ≡ length pre → place + outside_total fields < 4294967296 → file ≡ pre ++ (flat_map (outside order) fields ++ more)
    → field_in order file tag (find (λ e. number_of order 2 e == tag) (entry_list order place fields)) ≡ Ok (lookup tag fields)
field-found order tag place [] file pre more are at small whole = refl
field-found order tag place (field ∷ fields) file pre more are at small whole =
    let is : IsWritten field = are 0 field (omega arith) in
    let out = outside order field in
    let outs = flat_map (outside order) fields in
    let first : file ≡ pre ++ (out ++ (outs ++ more)) = whole ∙ ap (λ xs. pre ++ xs) (append_assoc out outs more) in
    let next : file ≡ (pre ++ out) ++ (outs ++ more) = first ∙ sym (append_assoc pre out (outs ++ more)) in
    let here : place + outside_size field ≡ length (pre ++ out) =
    omega (arith, length-append pre out, length-outside order field (nat_le (total field) 4) refl) in
    let rest = find (λ e. number_of order 2 e == tag) (entry_list order (place + outside_size field) fields) in
    let shape : find (λ e. number_of order 2 e == tag) (entry_list order place (field ∷ fields))
    ≡ cond (field.tag == tag) (Some (entry order place field)) rest =
    ap (λ n. cond (n == tag) (Some (entry order place field)) rest) (entry-tag order place field is) in
    ap (field_in order file tag) shape
    ∙ chosen order file tag (entry order place field) rest field.values (lookup tag fields) (field.tag == tag)
    (entry-back order tag place field file pre (outs ++ more) is at (omega arith) first)
    (field-found order tag (place + outside_size field) fields file (pre ++ out) more (λ k d below. are (suc k) d (omega arith)) here (omega arith) next)

-- ---- the whole file

-- the parts of a file
front-parts : (order : Order) (fields : List FieldData) (data' : List ℕ)
    → front order fields ++ data'
    ≡ mark_of order ++ (bytes_of order 2 42 ++ (bytes_of order 4 8 ++ (bytes_of order 2 (length fields)
    ++ (entries order (directory_end (length fields)) fields ++ (bytes_of order 4 0 ++ (flat_map (outside order) fields ++ data'))))))
unfolding front
front-parts order fields data' = simp append_assoc

-- the bytes before the values stored outside of entries
before_values : Order → List FieldData → List ℕ
before_values order fields =
    mark_of order ++ (bytes_of order 2 42 ++ (bytes_of order 4 8 ++ (bytes_of order 2 (length fields)
    ++ (entries order (directory_end (length fields)) fields ++ bytes_of order 4 0))))

values-parts : (order : Order) (fields : List FieldData) (data' : List ℕ)
    → front order fields ++ data' ≡ before_values order fields ++ (flat_map (outside order) fields ++ data')
unfolding before_values
values-parts order fields data' = front-parts order fields data' ∙ sym (simp append_assoc)

length-mark : (order : Order) → length (mark_of order) ≡ 2
length-mark Little = refl
length-mark Big = refl

length-before : (order : Order) (fields : List FieldData) → length (before_values order fields) ≡ directory_end (length fields)
unfolding before_values
length-before order fields =
    simp length-append
    (omega (
      arith,
      length-mark order,
      length-bytes order 2 42,
      length-bytes order 4 8,
      length-bytes order 2 (length fields),
      length-entries order (directory_end (length fields)) fields,
      length-bytes order 4 0,
    ))

order-back : (order : Order) (rest : List ℕ) → order_of (mark_of order ++ rest) ≡ Some order
order-back Little rest = refl
order-back Big rest = refl

drop-two : (order : Order) (fields : List FieldData) (data' : List ℕ)
    → drop 2 (front order fields ++ data')
    ≡ bytes_of order 2 42 ++ (bytes_of order 4 8 ++ (bytes_of order 2 (length fields)
    ++ (entries order (directory_end (length fields)) fields ++ (bytes_of order 4 0 ++ (flat_map (outside order) fields ++ data')))))
drop-two order fields data' = ap (drop 2) (front-parts order fields data') ∙ drop_at (mark_of order) _ 2 (length-mark order)

drop-four : (order : Order) (fields : List FieldData) (data' : List ℕ)
    → drop 4 (front order fields ++ data')
    ≡ bytes_of order 4 8 ++ (bytes_of order 2 (length fields)
    ++ (entries order (directory_end (length fields)) fields ++ (bytes_of order 4 0 ++ (flat_map (outside order) fields ++ data'))))
drop-four order fields data' =
    sym (drop-drop 2 2 (front order fields ++ data')) ∙ ap (drop 2) (drop-two order fields data')
    ∙ drop_at (bytes_of order 2 42) _ 2 (length-bytes order 2 42)

drop-eight : (order : Order) (fields : List FieldData) (data' : List ℕ)
    → drop 8 (front order fields ++ data')
    ≡ bytes_of order 2 (length fields)
    ++ (entries order (directory_end (length fields)) fields ++ (bytes_of order 4 0 ++ (flat_map (outside order) fields ++ data')))
drop-eight order fields data' =
    sym (drop-drop 4 4 (front order fields ++ data')) ∙ ap (drop 4) (drop-four order fields data')
    ∙ drop_at (bytes_of order 4 8) _ 4 (length-bytes order 4 8)

drop-ten : (order : Order) (fields : List FieldData) (data' : List ℕ)
    → drop 10 (front order fields ++ data')
    ≡ entries order (directory_end (length fields)) fields ++ (bytes_of order 4 0 ++ (flat_map (outside order) fields ++ data'))
drop-ten order fields data' =
    sym (drop-drop 2 8 (front order fields ++ data')) ∙ ap (drop 2) (drop-eight order fields data')
    ∙ drop_at (bytes_of order 2 (length fields)) _ 2 (length-bytes order 2 (length fields))

below-no : (a b : ℕ) → b ≤ a → nat_lt a b ≡ false
below-no a b h = grind (arith, nat_tests)

-- a file is long enough for its directory
length-file : (order : Order) (fields : List FieldData) (data' : List ℕ)
    → directory_end (length fields) ≤ length (front order fields ++ data')
length-file order fields data' =
    omega (
      arith,
      ap length (values-parts order fields data'),
      length-before order fields,
      length-append (before_values order fields) (flat_map (outside order) fields ++ data'),
    )

pub header-back : (order : Order) (fields : List FieldData) (data' : List ℕ) → header_of (front order fields ++ data') ≡ Some order
header-back order fields data' =
    let bytes = front order fields ++ data' in
    let named : order_of bytes ≡ Some order = ap order_of (front-parts order fields data') ∙ order-back order _ in
    let magic : number_of order 2 (drop 2 bytes) ≡ 42 =
    ap (number_of order 2) (drop-two order fields data') ∙ number-back order 2 42 _ (omega arith) in
    let long : nat_lt (length bytes) 8 ≡ false = below-no (length bytes) 8 (omega (arith, length-file order fields data')) in
    rw (named, long, magic) refl

entries-back : (order : Order) (fields : List FieldData) (data' : List ℕ) → 0 < length fields → length fields ≤ 65535
    → entries_of order (front order fields ++ data') ≡ Some (entry_list order (directory_end (length fields)) fields)
entries-back order fields data' some few =
    let bytes = front order fields ++ data' in
    let n = length fields in
    let all = entries order (directory_end n) fields in
    let place : number_of order 4 (drop 4 bytes) ≡ 8 =
    ap (number_of order 4) (drop-four order fields data') ∙ number-back order 4 8 _ (omega arith) in
    let count : number_of order 2 (drop 8 bytes) ≡ n =
    ap (number_of order 2) (drop-eight order fields data') ∙ number-back order 2 n _ (omega arith) in
    let long : nat_lt (length bytes) 10 ≡ false = below-no (length bytes) 10 (omega (arith, length-file order fields data')) in
    let fits : nat_lt (length bytes) (10 + 12 * n) ≡ false = below-no (length bytes) (10 + 12 * n) (omega (arith, length-file order fields data')) in
    let none : n == 0 ≡ false = grind (arith, nat_tests) in
    let cut : first_chunks 12 n (take (10 + 12 * n - 10) (drop 10 bytes)) ≡ entry_list order (directory_end n) fields =
    ap (λ xs. first_chunks 12 n (take (10 + 12 * n - 10) xs)) (drop-ten order fields data')
    ∙ ap (first_chunks 12 n) (take_at all _ (10 + 12 * n - 10) (omega (arith, length-entries order (directory_end n) fields)))
    ∙ chunks-back order (directory_end n) fields in
    rw (place, count, long, none, fits, cut) refl

-- the directory of a generated file
pub directory-back : (order : Order) (fields : List FieldData) (data' : List ℕ) → 0 < length fields → length fields ≤ 65535
    → directory_of (front order fields ++ data')
    ≡ Ok (record { order = order; entries = entry_list order (directory_end (length fields)) fields })
unfolding directory_of
directory-back order fields data' some few = rw (header-back order fields data', entries-back order fields data' some few) refl

-- each field of a generated file reads back as written
pub field-back : (order : Order) (fields : List FieldData) (data' : List ℕ) (tag : ℕ) → 0 < length fields → length fields ≤ 65535
    → All IsWritten fields → directory_end (length fields) + outside_total fields < 4294967296
    → field_of (front order fields ++ data') tag ≡ Ok (lookup tag fields)
field-back order fields data' tag some few are small =
    field_of-known (front order fields ++ data') tag _ (directory-back order fields data' some few)
    ∙ field-found order tag (directory_end (length fields)) fields (front order fields ++ data') (before_values order fields) data' are
    (sym (length-before order fields)) small (values-parts order fields data')

-- the number of bytes before the strips
length-outsides : (order : Order) (fields : List FieldData) → length (flat_map (outside order) fields) ≡ outside_total fields
length-outsides order [] = refl
length-outsides order (field ∷ fields) =
    length-append (outside order field) (flat_map (outside order) fields)
    ∙ omega (arith, length-outside order field (nat_le (total field) 4) refl, length-outsides order fields)

pub length-front : (order : Order) (fields : List FieldData) → length (front order fields) ≡ directory_end (length fields) + outside_total fields
length-front order fields =
    ap length (sym (append-nil (front order fields)) ∙ values-parts order fields [])
    ∙ length-append (before_values order fields) (flat_map (outside order) fields ++ [])
    ∙ omega (arith, length-before order fields, length-append (flat_map (outside order) fields) [], length-outsides order fields)
