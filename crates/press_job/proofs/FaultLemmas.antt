-- No test of an image or of a layer reports a file as too long, and each fault names a file of the plan.
use Rattle.std.proofs.Common.{◌≢◌, ℕ, ◌+◌, ◌<◌, not, Bool, true, false, cond, List, [], ◌∷◌, length, map, get_or}
use Rattle.std.specs.Prelude.{All, IfSome, Option, Some, None, Result, Ok, Err, nat_eq, nat_lt, ok_or, option_map, slice_index}
use Rattle.std.specs.List.{range_with_len}
use Rattle.std.specs.Option.{option_or}
use Rattle.std.specs.Result.{result_err}
use Rattle.std.proofs.lemmas.List.Elements.{All-cons, All-head, All-tail, All-weaker, All-map}
use Rattle.pr_base.specs.declared.fault.FaultKind.{FaultKind}
use Rattle.pr_base.specs.declared.fault.FaultKind.TheVariants as kind
use Rattle.pr_base.specs.declared.fault.TagFault.{TagFault}
use Rattle.tif_dir.specs.declared.order.Order.{Order}
use Rattle.tif_dir.specs.declared.value_type.ValueType.{ValueType}
use Rattle.tif_dir.specs.Directory.{FirstDirectory, content_in, dir_fault, directory_of, entries_of, fault_at, field_from, field_in, field_of, header_of, number_at, number_in, typed_field}
use Rattle.tif_dir.specs.Names as tag
use Rattle.tif_strips.specs.declared.shape.Shape.{Shape}
use Rattle.tif_strips.specs.Strips.{fault_of_field, fault_of_strip, needed_length, samples_in, stored_bytes, strip_count, strip_fault, strip_offset, strip_size}
use Rattle.tif_image.specs.Fields.{◌>>=◌, ◌>>◌, bits_each, first_bits, full_dot_range, full_range, must, no_fault, no_tile, no_tiles, number_among, number_within}
use Rattle.tif_image.specs.Image.{bilevel_shape, contone_shape, image_fields, ink_fields, shape_of}
use Rattle.plan_parts.specs.Data.{LayerData}
use Rattle.plan_json.specs.Data.{PlanData}
use Rattle.plan_parts.specs.Parts.{IsLayer, IsPage}
use Rattle.plan_json.specs.Plan.{IsPlan}
use Rattle.press_job.specs.declared.fit.Misfit.{Misfit}
use Rattle.tif_image.specs.declared.usage.Usage.{Usage}
use Rattle.tif_image.specs.declared.usage.Usage.TheVariants.{Contone, Bilevel}
use Rattle.pr_base.specs.First.{first_some}
use Rattle.press_job.specs.Tests.{crop_fault, fault_for, fault_of_file, fault_of_layers, fault_where, fit_fault, layer_fault, length_of, mask_fault, mention_fault, mentions_of, page_fault, page_fit_fault, width_of}
use Rattle.press_job.specs.Layers.{bytes_at}

-- ---- the first result of a list

option_or-holds : {B : Type 0} (P : B → Type 0) (a b : Option B) → IfSome a P → IfSome b P
    → IfSome (option_or a b) P
option_or-holds P None b first second = second
option_or-holds P (Some x) b first second = first

-- what holds of each result holds of the first
pub first_some-holds : {A B : Type 0} (P : B → Type 0) (f : A → Option B) (xs : List A)
    → All (λ x. IfSome (f x) P) xs → IfSome (first_some f xs) P
first_some-holds P f [] all = tt
first_some-holds {A} {B} P f (x ∷ xs) all =
    option_or-holds P (f x) (first_some f xs) (All-head (λ x. IfSome (f x) P) x xs all) (first_some-holds P f xs (All-tail (λ x. IfSome (f x) P) x xs all))

-- what holds of any result holds of the first
first_some-any : {A B : Type 0} (P : B → Type 0) (f : A → Option B) (xs : List A) → ((x : A) → IfSome (f x) P)
    → IfSome (first_some f xs) P
first_some-any P f [] each = tt
first_some-any P f (x ∷ xs) each = option_or-holds P (f x) (first_some f xs) (each x) (first_some-any P f xs each)

-- ---- kinds

-- a fault of another kind than TooLong
abbrev IsShort : TagFault → Type 0
IsShort fault = fault.kind ≢ kind.TooLong

-- no result is a TooLong fault
abbrev NeverLong : {A : Type 0} → Result A TagFault → Type 0
NeverLong (Ok value) = Unit {0}
NeverLong (Err fault) = IsShort fault

bind-never : {A B : Type 0} (r : Result A TagFault) (rest : A → Result B TagFault) → NeverLong r
    → ((x : A) → NeverLong (rest x)) → NeverLong (r >>= rest)
bind-never (Ok value) rest first later = later value
bind-never (Err fault) rest first later = first

then-never : {A B : Type 0} (r : Result A TagFault) (rest : Result B TagFault) → NeverLong r → NeverLong rest
    → NeverLong (r >> rest)
then-never (Ok value) rest first later = later
then-never (Err fault) rest first later = first

must-never : (test : Bool) (fault : TagFault) → IsShort fault → NeverLong (must test fault)
must-never true fault short = tt
must-never false fault short = short

if-never : {A : Type 0} (test : Bool) (a b : Result A TagFault) → NeverLong a → NeverLong b
    → NeverLong (cond {A = Result A TagFault} test a b)
if-never true a b first second = first
if-never false a b first second = second

ok_or-never : {A : Type 0} (o : Option A) (fault : TagFault) → IsShort fault → NeverLong (ok_or o fault)
ok_or-never None fault short = short
ok_or-never (Some x) fault short = tt

no_fault-never : (o : Option TagFault) → IfSome o IsShort → NeverLong (no_fault o)
no_fault-never None short = tt
no_fault-never (Some fault) short = short

err-never : {A : Type 0} (r : Result A TagFault) → NeverLong r → IfSome (result_err r) IsShort
err-never (Ok value) short = tt
err-never (Err fault) short = short

-- ---- a directory

content-never : (bytes : List ℕ) (header : Option Order) → NeverLong (content_in bytes header)
content-never bytes None = λ e. (cc)
content-never bytes (Some order) = ok_or-never {A = FirstDirectory} (option_map (λ entries. record { order = order; entries = entries }) (entries_of order bytes)) (fault_at 0 kind.Directory) (λ e. (cc))

directory-never : (bytes : List ℕ) → NeverLong (directory_of bytes)
unfolding directory_of
directory-never bytes = content-never bytes (header_of bytes)

typed-never : (order : Order) (bytes : List ℕ) (at : ℕ) (entry : List ℕ) (type : Option ValueType)
    → NeverLong (typed_field order bytes at entry type)
typed-never order bytes at entry None = λ e. (cc)
typed-never order bytes at entry (Some type) = ok_or-never {A = Option (List ℕ)} _ (fault_at at kind.FieldPlace) (λ e. (cc))

field_in-never : (order : Order) (bytes : List ℕ) (at : ℕ) (entry : Option (List ℕ))
    → NeverLong (field_in order bytes at entry)
field_in-never order bytes at None = tt
field_in-never order bytes at (Some entry) = typed-never order bytes at entry _

field_from-never : (bytes : List ℕ) (at : ℕ) (dir : Result FirstDirectory TagFault) → NeverLong dir
    → NeverLong (field_from bytes at dir)
field_from-never bytes at (Err fault) short = short
field_from-never bytes at (Ok dir) short = field_in-never dir.order bytes at _

field-never : (bytes : List ℕ) (at : ℕ) → NeverLong (field_of bytes at)
unfolding field_of
field-never bytes at = field_from-never bytes at (directory_of bytes) (directory-never bytes)

number_in-never : (at i least : ℕ) (field : Result (Option (List ℕ)) TagFault) → NeverLong field
    → NeverLong (number_in at i least field)
number_in-never at i least (Err fault) short = short
number_in-never at i least (Ok None) short = ok_or-never {A = ℕ} _ (fault_at at kind.Missing) (λ e. (cc))
number_in-never at i least (Ok (Some values)) short =
    if-never {A = ℕ} (nat_lt (length values) least) (Err (fault_at at kind.FieldCount)) (Ok (slice_index values i)) (λ e. (cc)) tt

number-never : (bytes : List ℕ) (at i least : ℕ) → NeverLong (number_at bytes at i least)
unfolding number_at
number-never bytes at i least = number_in-never at i least (field_of bytes at) (field-never bytes at)

-- ---- an image

within-never : (bytes : List ℕ) (at least most : ℕ) (k : FaultKind) → k ≢ kind.TooLong
    → NeverLong (number_within bytes at least most k)
unfolding number_within
within-never bytes at least most k short =
    bind-never {A = ℕ} {B = ℕ} (number_at bytes at 0 1) _ (number-never bytes at 0 1) (λ value. then-never {A = Unit {0}} {B = ℕ} _ (Ok value) (must-never _ (fault_at at k) short) tt)

among-never : (bytes : List ℕ) (at : ℕ) (accepted : List ℕ) (k : FaultKind) → k ≢ kind.TooLong
    → NeverLong (number_among bytes at accepted k)
unfolding number_among
among-never bytes at accepted k short =
    bind-never {A = ℕ} {B = ℕ} (number_at bytes at 0 1) _ (number-never bytes at 0 1) (λ value. then-never {A = Unit {0}} {B = ℕ} _ (Ok value) (must-never _ (fault_at at k) short) tt)

tile-never : (o : Option ℕ) → NeverLong (no_tile o)
tile-never None = tt
tile-never (Some at) = λ e. (cc)

tiles-never : (bytes : List ℕ) → NeverLong (no_tiles bytes)
unfolding no_tiles
tiles-never bytes = tile-never _

first_bits-never : (samples : ℕ) (field : Result (Option (List ℕ)) TagFault) → NeverLong field
    → NeverLong (first_bits samples field)
first_bits-never samples (Err fault) short = short
first_bits-never samples (Ok None) short = tt
first_bits-never samples (Ok (Some values)) short = if-never {A = List ℕ} (nat_lt (length values) samples) _ _ (λ e. (cc)) tt

bits-never : (bytes : List ℕ) (samples depth : ℕ) → NeverLong (bits_each bytes samples depth)
unfolding bits_each
bits-never bytes samples depth =
    bind-never {A = List ℕ} {B = Unit {0}} (first_bits samples (field_of bytes tag.bits_per_sample)) _ (first_bits-never samples (field_of bytes tag.bits_per_sample) (field-never bytes tag.bits_per_sample))
    (λ values. must-never _ (fault_at tag.bits_per_sample kind.Bits) (λ e. (cc)))

range-never : (field : Result (Option (List ℕ)) TagFault) → NeverLong field → NeverLong (full_range field)
range-never (Err fault) short = short
range-never (Ok None) short = tt
range-never (Ok (Some values)) short = if-never {A = Unit {0}} (nat_lt (length values) 2) _ _ (λ e. (cc)) (must-never _ (fault_at tag.dot_range kind.DotRange) (λ e. (cc)))

dots-never : (bytes : List ℕ) → NeverLong (full_dot_range bytes)
unfolding full_dot_range
dots-never bytes = range-never (field_of bytes tag.dot_range) (field-never bytes tag.dot_range)

fields-never : (usage : Usage) (bytes : List ℕ) → NeverLong (ink_fields usage bytes)
    → NeverLong (image_fields usage bytes)
unfolding image_fields
fields-never usage bytes inks =
    then-never _ _ (tiles-never bytes)
    (bind-never _ _ (within-never bytes tag.image_width 1 65535 kind.Width (λ e. (cc))) (λ width.
    bind-never _ _ (within-never bytes tag.image_length 1 65535 kind.Length (λ e. (cc))) (λ length.
    then-never _ _ (among-never bytes tag.samples_per_pixel _ kind.Samples (λ e. (cc)))
    (then-never _ _ (bits-never bytes _ _)
    (bind-never _ _ (among-never bytes tag.compression _ kind.Compression (λ e. (cc))) (λ compression.
    then-never _ _ (among-never bytes tag.photometric_interpretation _ kind.Photometric (λ e. (cc)))
    (then-never _ _ (among-never bytes tag.fill_order _ kind.FillOrder (λ e. (cc)))
    (then-never _ _ (among-never bytes tag.orientation _ kind.Orientation (λ e. (cc)))
    (bind-never _ _ (among-never bytes tag.planar_configuration _ kind.Planar (λ e. (cc))) (λ planar.
    then-never _ _ inks
    (bind-never _ _ (within-never bytes tag.rows_per_strip 1 4294967295 kind.RowsPerStrip (λ e. (cc))) (λ rows. tt))))))))))))

-- ---- strips

place-short : IsShort (fault_at tag.strip_offsets kind.StripPlace)
place-short e = cc

length-short : IsShort (fault_at tag.strip_offsets kind.Short)
length-short e = cc

strip-never : (shape : Shape) (bytes : List ℕ) (strip : ℕ) → IfSome (fault_of_strip shape bytes strip) IsShort
unfolding fault_of_strip
strip-never shape bytes strip =
    let outside = nat_lt (length bytes) (strip_offset shape bytes strip + strip_size shape bytes strip) in
    let short = nat_lt (length (samples_in shape.packed (stored_bytes shape bytes strip))) (needed_length shape strip) in
    let rest : Option TagFault = cond {A = Option TagFault} short (Some (fault_at tag.strip_offsets kind.Short)) None in
    if_some outside (fault_at tag.strip_offsets kind.StripPlace) rest place-short (if_some short (fault_at tag.strip_offsets kind.Short) None length-short tt)
  where
    if_some : (test : Bool) (fault : TagFault) (o : Option TagFault) → IsShort fault → IfSome o IsShort
        → IfSome (cond {A = Option TagFault} test (Some fault) o) IsShort
    if_some true fault o short rest = short
    if_some false fault o short rest = rest

strips-never : (shape : Shape) (bytes : List ℕ) → IfSome (strip_fault shape bytes) IsShort
unfolding strip_fault
strips-never shape bytes =
    let strips : List (Option TagFault) = map (fault_of_strip shape bytes) (range_with_len 0 (strip_count shape)) in
    let counts : List (Option TagFault) = fault_of_field shape bytes tag.strip_byte_counts ∷ strips in
    first_some-holds IsShort (λ (test : Option TagFault). test) (fault_of_field shape bytes tag.strip_offsets ∷ counts)
    (All-cons (λ o. IfSome o IsShort) (fault_of_field shape bytes tag.strip_offsets) counts (err-never (number_at bytes tag.strip_offsets 0 (strip_count shape)) (number-never bytes tag.strip_offsets 0 (strip_count shape)))
    (All-cons (λ o. IfSome o IsShort) (fault_of_field shape bytes tag.strip_byte_counts) strips (err-never (number_at bytes tag.strip_byte_counts 0 (strip_count shape)) (number-never bytes tag.strip_byte_counts 0 (strip_count shape)))
    (All-map (λ (o : Option TagFault). IfSome o IsShort) (fault_of_strip shape bytes) (range_with_len 0 (strip_count shape)) (λ k d less. strip-never shape bytes (get_or (range_with_len 0 (strip_count shape)) k d)))))

image-never : (usage : Usage) (bytes : List ℕ) → NeverLong (ink_fields usage bytes)
    → NeverLong (shape_of usage bytes)
unfolding shape_of
image-never usage bytes inks =
    then-never _ _ (no_fault-never (dir_fault bytes) (err-never (directory_of bytes) (directory-never bytes)))
    (bind-never _ _ (fields-never usage bytes inks) (λ shape. then-never _ _ (no_fault-never (strip_fault shape bytes) (strips-never shape bytes)) tt))

-- ---- the files of a plan

for-never : (usage : Usage) (bytes : List ℕ) → IfSome (fault_for usage bytes) IsShort
for-never Contone bytes =
    err-never (contone_shape bytes)
    (image-never _ bytes (then-never {A = ℕ} {B = Unit {0}} _ (full_dot_range bytes) (among-never bytes tag.ink_set (1 ∷ []) kind.InkSet (λ e. (cc))) (dots-never bytes)))
for-never (Bilevel usage) bytes = err-never (bilevel_shape usage bytes) (image-never _ bytes tt)

mention-never : (file : ℕ) (bytes : List ℕ) (mention : ℕ × Usage)
    → IfSome (mention_fault file bytes mention) IsShort
mention-never file bytes (other, usage) = chosen (nat_eq other file) (fault_for usage bytes) (for-never usage bytes)
  where
    chosen : (test : Bool) (o : Option TagFault) → IfSome o IsShort
        → IfSome (cond {A = Option TagFault} test o None) IsShort
    chosen true o short = short
    chosen false o short = tt

-- no fault of a file is TooLong
pub file_never_long : (plan : PlanData) (file : ℕ) (bytes : List ℕ)
    → IfSome (fault_of_file plan file bytes) (λ fault. fault.kind ≢ kind.TooLong)
unfolding fault_of_file layer_fault
file_never_long plan file bytes =
    first_some-any IsShort (page_fault file bytes) plan.pages
    (λ page. first_some-any IsShort (layer_fault file bytes) page.layers
    (λ layer. first_some-any IsShort (mention_fault file bytes) (mentions_of layer) (mention-never file bytes)))

-- ---- layers

-- a fault of a layer names a file of the plan, and reports a crop or a mask that does not fit
pub record IsMisfit (count : ℕ) (misfit : Misfit) : Type 0 where
  pub within : misfit.file < count
  pub short : misfit.kind ≢ kind.TooLong

where-fits : (count : ℕ) (test : Bool) (file at : ℕ) (k : FaultKind) → file < count → k ≢ kind.TooLong
    → IfSome (fault_where test file at k) (IsMisfit count)
where-fits count true file at k within short = record { within = within; short = short }
where-fits count false file at k within short = tt

crop-short : kind.Crop ≢ kind.TooLong
crop-short e = cc

mask-short : kind.MaskSize ≢ kind.TooLong
mask-short e = cc

crop-fits : (count file : ℕ) (bytes : List ℕ) (crop : Option (List ℕ)) → file < count
    → IfSome (crop_fault file bytes crop) (IsMisfit count)
crop-fits count file bytes None within = tt
crop-fits count file bytes (Some crop) within =
    let wide = nat_lt (width_of bytes) (slice_index crop 0 + slice_index crop 2) in
    let high = nat_lt (length_of bytes) (slice_index crop 1 + slice_index crop 3) in
    option_or-holds (IsMisfit count) (fault_where wide file tag.image_width kind.Crop) (fault_where high file tag.image_length kind.Crop)
    (where-fits count wide file tag.image_width kind.Crop within crop-short) (where-fits count high file tag.image_length kind.Crop within crop-short)

mask-fits : (count : ℕ) (files : List (List ℕ)) (bytes : List ℕ) (mask : Option ℕ)
    → IfSome mask (λ m. m < count) → IfSome (mask_fault files bytes mask) (IsMisfit count)
mask-fits count files bytes None within = tt
mask-fits count files bytes (Some mask) within =
    let own = bytes_at files mask in
    let wide = not (nat_eq (width_of own) (width_of bytes)) in
    let high = not (nat_eq (length_of own) (length_of bytes)) in
    option_or-holds (IsMisfit count) (fault_where wide mask tag.image_width kind.MaskSize) (fault_where high mask tag.image_length kind.MaskSize)
    (where-fits count wide mask tag.image_width kind.MaskSize within mask-short) (where-fits count high mask tag.image_length kind.MaskSize within mask-short)

layer-fits : (count : ℕ) (files : List (List ℕ)) (layer : LayerData) → IsLayer count layer
    → IfSome (fit_fault files layer) (IsMisfit count)
unfolding fit_fault
layer-fits count files layer is =
    let bytes = bytes_at files layer.file in
    option_or-holds (IsMisfit count) (crop_fault layer.file bytes layer.crop) (mask_fault files bytes layer.mask) (crop-fits count layer.file bytes layer.crop is.file) (mask-fits count files bytes layer.mask is.mask)

pub layers_fit : (plan : PlanData) (files : List (List ℕ)) → IsPlan plan
    → IfSome (fault_of_layers plan files) (IsMisfit (length plan.files))
unfolding fault_of_layers
layers_fit plan files is =
    first_some-holds (IsMisfit (length plan.files)) (page_fit_fault files) plan.pages
    (All-weaker (IsPage (length plan.files)) (λ page. IfSome (page_fit_fault files page) (IsMisfit (length plan.files)))
    (λ page page_is. first_some-holds (IsMisfit (length plan.files)) (fit_fault files) page.layers
    (All-weaker (IsLayer (length plan.files)) (λ layer. IfSome (fit_fault files layer) (IsMisfit (length plan.files))) (λ layer layer_is. layer-fits (length plan.files) files layer layer_is) page.layers page_is.layers))
    plan.pages is.pages)
