use Rattle.std.proofs.Common.{◌≡◌, ◌*◌, ◌+◌, ◌<◌, ap, sym, ◌∙◌}
use Rattle.std.specs.Option.{option_copied}
use Rattle.std.proofs.lemmas.Option.{none-some, same_Some}
use Rattle.tif_strips.specs.Strips.{Image, stored_bytes, strip_count, strips_per_plane}
use Rattle.tif_strips.proofs.Faults.{bytes_at-known}
use Rattle.tif_strips.proofs.strip_table.StripTable.stored.Goals as goal

pub unreachable-requires : goal.unreachable-requires
unreachable-requires c =
    let image = c.args.self.now in
    let shape : c.self.inside.shape ≡ image.shape = ap (λ (i : Image). i.shape) c.self.view_is in
    let bytes : c.self.inside.bytes.now ≡ image.bytes = ap (λ (i : Image). i.bytes) c.self.view_is in
    let within : c.strip_number-number.result < strip_count image.shape = rw shape at c.strip_number-number.ensures.within in
    none-some _
    (sym (ap option_copied c.in_default.is) ∙ c.stored.ensures
    ∙ bytes_at-known image.shape image.bytes _ c.strip_number-number.result c.strip.result c.requires.passed within bytes c.strip.ensures)

pub returns : goal.returns
returns c =
    let image = c.args.self.now in
    let shape : c.self.inside.shape ≡ image.shape = ap (λ (i : Image). i.shape) c.self.view_is in
    let bytes : c.self.inside.bytes.now ≡ image.bytes = ap (λ (i : Image). i.bytes) c.self.view_is in
    let within : c.strip_number-number.result < strip_count image.shape = rw shape at c.strip_number-number.ensures.within in
    let number : c.strip_number-number.result ≡ c.args.plane * strips_per_plane image.shape + c.args.i = rw shape at c.strip_number-number.ensures.number in
    same_Some _ _ (c.in-Some.ensures ∙ bytes_at-known image.shape image.bytes _ c.strip_number-number.result c.strip.result c.requires.passed within bytes c.strip.ensures) ∙ ap (stored_bytes image.shape image.bytes) number
