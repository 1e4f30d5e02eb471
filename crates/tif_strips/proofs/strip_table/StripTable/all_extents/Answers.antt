use Rattle.std.proofs.Common.{◌≡◌, ℕ, ◌<◌, [], ◌∷◌, ◌++◌, map, sym, ap, ◌∙◌, zero-add, arith}
use Rattle.std.specs.List.{range_with_len}
use Rattle.std.proofs.lemmas.List.FromFn.{map-range_with_len_more}
use Rattle.tif_strips.specs.declared.extents.Extent.{Extent}
use Rattle.tif_strips.specs.Extents.{extent_of, extents_of}
use Rattle.tif_strips.specs.Strips.{Image, strip_count}
use Rattle.tif_strips.proofs.strip_table.StripTable.all_extents.Goals as goal

pub loop-i-preserved : goal.loop-i-preserved
loop-i-preserved c =
    let image = c.args.self.now in
    let i : ℕ = c.loop-i.i in
    let below : i < strip_count c.self.inside.shape = omega (arith, c.loop-i-test.true, c.strip_count-count.ensures.count) in
    let own : c.at.result ≡ extent_of image i = c.at.ensures ∙ c.self.invariant.extents_are i below ∙ ap (λ (m : Image). extent_of m i) c.self.view_is in
    c.in_ok-push.ensures.items ∙ ap (λ xs. xs ++ c.at.result ∷ []) c.loop-i.invariant ∙ ap (λ (e : Extent). map (extent_of image) (range_with_len 0 i) ++ e ∷ []) own ∙ sym (map-range_with_len_more (extent_of image) 0 i i (zero-add i))

pub returns : goal.returns
unfolding extents_of
returns c =
    let image = c.args.self.now in
    let all : c.loop-i.i ≡ c.strip_count-count.result = omega (arith, c.loop-i-test.false, c.loop-i.auto.i-end) in
    c.loop-i.invariant ∙ ap (λ n. map (extent_of image) (range_with_len 0 n)) (all ∙ c.strip_count-count.ensures.count ∙ ap (λ (m : Image). strip_count m.shape) c.self.view_is)
