use Rattle.std.proofs.Common.{◌≡◌, ap, arith, ◌∙◌, subst, sym}
use Rattle.std.proofs.lemmas.List.Elements.{All-push, All-same}
use Rattle.page_layers.specs.Page.{Page}
use Rattle.page_layers.specs.Rows.{IsReady}
use Rattle.page_layers.proofs.Pages.{IsReady-open}
use Rattle.page_layers.proofs.page_rows.PageRows.put.Goals as goal

pub invariant_of-self : goal.invariant_of-self
invariant_of-self c =
    let top : c.self.inside.next ≡ 0 = ap (λ (page : Page). page.next) c.self.view_is ∙ c.requires.top in
    record {
      wide = c.self.invariant.wide;
      high = c.self.invariant.high;
      within = c.self.invariant.within;
      ready =
          All-same (IsReady c.self.inside.width c.self.inside.next) c.push_reserved.new.self.items _ c.push_reserved.ensures.items
          (All-push (IsReady c.self.inside.width c.self.inside.next) c.self.inside.layers.items c.open.result c.self.invariant.ready
          (subst (λ y. IsReady c.self.inside.width y c.open.result) (sym top) (IsReady-open c.self.inside.width c.args.layer _ c.open.result c.open.ensures c.requires.layer)));
      layers_fit = omega (arith, c.self.invariant.layers_fit, c.push_reserved.ensures.len, c.take_last-room.ensures.len, c.push_reserved.ensures.capacity);
      rooms_fit = omega (arith, c.self.invariant.rooms_fit, c.push_reserved.ensures.len, c.take_last-room.ensures.len, c.take_last-room.ensures.capacity);
    }
