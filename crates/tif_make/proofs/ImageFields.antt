-- The sizes of an image's fields.
use Rattle.std.proofs.Common.{◌≡◌, ℕ, ◌*◌, ◌≤◌, List, ◌++◌, length, map, take, Result, OnOk, refl, sym, ap, subst, ◌∙◌, arith}
use Rattle.pr_base.specs.declared.memory.NoMemory.{NoMemory}
use Rattle.std.proofs.lemmas.List.{length-map, length-take, take-map}
use Rattle.std.specs.List.{All}
use Rattle.std.proofs.Math.Nat.{mul-le-mul_right}
use Rattle.std.proofs.lemmas.List.Elements.{All-from_recursion, All-take}
use Rattle.std.proofs.lemmas.Bool.Decides.{nat_tests}
use Rattle.tif_make.specs.declared.form.ImageForm.{ImageForm}
use Rattle.tif_make.specs.declared.form.Kind.{Kind}
use Rattle.tif_make.specs.declared.form.Kind.TheVariants.{Contone, Line, Mask}
use Rattle.tif_make.specs.declared.form.Planar.{Planar}
use Rattle.tif_make.specs.declared.form.Planar.TheVariants.{Chunky, Separate}
use Rattle.tif_make.specs.declared.field.Field.{Field}
use Rattle.tif_dir.specs.Names.{bits_per_sample, strip_byte_counts, strip_offsets}
use Rattle.tif_make.specs.Fields.{AreFields, FieldData, data_of, front, longs, outside_size, outside_total, shorts, total}
use Rattle.tif_make.specs.Form.{IsForm, bits_of, field_count, planes, planes_of, strip_count, strips_each}
use Rattle.tif_make.specs.Image.{all_fields, image_fields}
use Rattle.tif_make.proofs.Entries.{outside_total-take}
use Rattle.tif_make.proofs.Pieces.{strips_each-within}

-- the outside bytes of a field are at most all its bytes
pub outside-within : (field : FieldData) → outside_size field ≤ total field
outside-within field = grind (arith, nat_tests)

bits-within : (kind : Kind) → length (bits_of kind) ≤ 4
bits-within Contone = omega arith
bits-within Line = omega arith
bits-within Mask = omega arith

pub planes-within : (kind : Kind) (planar : Planar) → planes_of kind planar ≤ 4
planes-within Contone Separate = omega arith
planes-within Contone Chunky = omega arith
planes-within Line planar = omega arith
planes-within Mask planar = omega arith

-- the list of all fields has ten
pub all_fields-length : (form : ImageForm) (places counts : List ℕ) → length (all_fields form places counts) ≡ 10
unfolding all_fields
all_fields-length form places counts = refl

pub strips-within : (form : ImageForm) → IsForm form → strip_count form ≤ 262140
strips-within form is =
    let few = strips_each-within form is in
    let scaled : planes form * strips_each form ≤ 4 * strips_each form = mul-le-mul_right (strips_each form) (planes-within form.kind form.planar) in
    let side = is.length in
    omega arith

-- the number of values of each field
all_fields-values : (form : ImageForm) (places counts : List ℕ) → length places ≤ 262140 → length counts ≤ 262140
    → All (λ field. length field.values ≤ 4294967295) (all_fields form places counts)
unfolding all_fields
all_fields-values form places counts few_places few_counts =
    let one : 1 ≤ 4294967295 = omega arith in
    All-from_recursion (λ field. length field.values ≤ 4294967295) (all_fields form places counts)
    (one, (one, (omega (arith, bits-within form.kind), (one, (one, (omega arith, (one, (one, (omega arith, (one, tt))))))))))

-- the outside bytes of all fields
all_fields-outside : (form : ImageForm) (places counts : List ℕ) → length places ≤ 262140 → length counts ≤ 262140
    → outside_total (all_fields form places counts) ≤ 2097200
unfolding all_fields
all_fields-outside form places counts few_places few_counts =
    omega (
      arith,
      outside-within (shorts bits_per_sample (bits_of form.kind)),
      outside-within (longs strip_offsets places),
      outside-within (longs strip_byte_counts counts),
      bits-within form.kind,
    )

-- the first n fields fit in a directory
pub fields_are : (form : ImageForm) (places counts : List ℕ) (n : ℕ) → IsForm form → length places ≡ strip_count form
    → length counts ≡ strip_count form → n ≤ 10 → AreFields (take n (all_fields form places counts))
fields_are form places counts n is has_places has_counts few =
    let all = all_fields form places counts in
    let some = strips-within form is in
    let taken : length (take n all) ≡ n = length-take n all ∙ omega (arith, all_fields-length form places counts) in
    record {
      count = omega arith;
      values = All-take (λ field. length field.values ≤ 4294967295) n all (all_fields-values form places counts (omega arith) (omega arith));
      places = omega (arith, taken, outside_total-take all n, all_fields-outside form places counts (omega arith) (omega arith));
    }

-- the fields built by the code
pub code_fields : (form : ImageForm) (places counts : List ℕ) (fields : List Field) (n : ℕ) → map data_of fields ≡ all_fields form places counts
    → map data_of (take n fields) ≡ take n (all_fields form places counts)
code_fields form places counts fields n e = sym (take-map data_of n fields) ∙ ap (take n) e

pub code_fields-length : (form : ImageForm) (places counts : List ℕ) (fields : List Field) → map data_of fields ≡ all_fields form places counts
    → length fields ≡ 10
code_fields-length form places counts fields e = sym (length-map fields data_of) ∙ ap length e ∙ all_fields-length form places counts

-- the front of the file, with the fields built by the code
pub fronts_same : (form : ImageForm) (places counts : List ℕ) (fields : List Field) (n : ℕ) (result : Result (Unit {0}) NoMemory) (old new : List ℕ)
    → map data_of fields ≡ all_fields form places counts → n ≡ field_count form.planar
    → OnOk result (new ≡ old ++ front form.order (map data_of (take n fields)))
    → OnOk result (new ≡ old ++ front form.order (image_fields form places counts))
unfolding image_fields
fronts_same form places counts fields n result old new e is_count h =
    subst (λ fs. OnOk result (new ≡ old ++ front form.order fs))
    (code_fields form places counts fields n e ∙ ap (λ k. take k (all_fields form places counts)) is_count) h
