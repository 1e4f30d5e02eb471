use Rattle.std.proofs.Common.{◌≡◌, ◌+◌, ◌∷◌, length, ap, ◌∙◌, arith}
use Rattle.std.specs.Vec.Iter.{into_iter_items}
use Rattle.std.proofs.lemmas.List.{length_push}
use Rattle.std.proofs.lemmas.List.Elements.{All-rest}
use Rattle.page_layers.specs.Layer.{IsLayer}
use Rattle.page_layers.specs.Page.{Page}
use Rattle.page_tests.proofs.layers.put_all.Goals as goal

pub loop-layer-preserved : goal.loop-layer-preserved
loop-layer-preserved c =
    let next = c.in-Some.ensures.steps.0 in
    let more : length c.put.new.self.layers ≡ length c.loop-layer.page.layers + 1 = ap (λ (p : Page). length p.layers) c.put.ensures ∙ length_push c.loop-layer.page.layers c.in-Some.layer in
    let less : length (into_iter_items c.loop-layer.layer-iterator) ≡ length (c.in-Some.layer ∷ into_iter_items c.next.new.self) = ap length next in
    record {
      to_come = All-rest IsLayer c.in-Some.layer (into_iter_items c.next.new.self) _ next c.loop-layer.invariant.to_come;
      top = ap (λ (p : Page). p.next) c.put.ensures ∙ c.loop-layer.invariant.top;
      width = ap (λ (p : Page). p.width) c.put.ensures ∙ c.loop-layer.invariant.width;
      room = omega (arith, more, less, ap (λ (p : Page). p.room) c.put.ensures, c.loop-layer.invariant.room);
    }
