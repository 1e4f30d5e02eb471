use Rattle.std.proofs.Common.{◌≡◌, ◌≤◌, ℕ, List, Some, Ok, length, subst}
use Rattle.tif_dir.specs.Directory.{field_of}
use Rattle.tif_dir.specs.Names.{strip_byte_counts, strip_offsets}
use Rattle.tif_strips.proofs.Tables.{fields_table}
use Rattle.tif_strips.proofs.strip_table.StripTable.read.Goals as goal

pub invariant_of-result : goal.invariant_of-result
invariant_of-result c =
    let offsets = c.in_ok-offsets.offsets in
    let sizes = c.in_ok-sizes.sizes in
    let P : List ℕ → Type 0 = λ b. field_of b strip_offsets ≡ Ok (Some offsets) in
    let Q : List ℕ → Type 0 = λ b. field_of b strip_byte_counts ≡ Ok (Some sizes) in
    let R : ℕ → Type 0 = λ n. n ≤ length offsets in
    let S : ℕ → Type 0 = λ n. n ≤ length sizes in
    fields_table (record { shape = c.args.shape; bytes = c.args.bytes.now }) offsets sizes c.requires.shape (subst P c.requires.dir c.in_ok-offsets.ensures.values) (subst Q c.requires.dir c.in_ok-sizes.ensures.values)
    (subst R c.strip_count-strips.ensures.count c.in_ok-offsets.ensures.enough) (subst S c.strip_count-strips.ensures.count c.in_ok-sizes.ensures.enough)
