use Rattle.std.proofs.Common.{rules, ◌≡◌, ◌+◌, ◌++◌, ◌∷◌, ◌∙◌, ◌<◌, [], false, if◌then◌else◌, length, get_or, ap, sym, refl, arith}
use Rattle.std.proofs.lemmas.List.{append_assoc, length-append}
use Rattle.site_agent.specs.Picked.{kept_where}
use Rattle.site_agent.proofs.Parts.{kept-more, kept-nil}
use Rattle.site_agent.proofs.plates.picked_of.Goals as goal

pub loop-plate-init : goal.loop-plate-init
loop-plate-init c = record {
  picked = c.new-picked.ensures.items ∙ sym (kept-nil c.args.wanted.now);
  all = search rules;
  here = refl;
}

pub loop-plate-preserved : goal.loop-plate-preserved
loop-plate-preserved c =
    let was = c.loop-plate.invariant in
    let seen = c.loop-plate.yielded in
    let plate = c.in-Some.plate in
    let wanted = c.args.wanted.now in
    let all : length seen + length c.loop-plate.plate-iterator.rest.items ≡ length c.args.plates.items = sym (length-append seen c.loop-plate.plate-iterator.rest.items) ∙ ap length was.all in
    let some : length c.loop-plate.plate-iterator.rest.items ≡ length (plate ∷ c.next.new.self.rest.items) = ap length c.in-Some.ensures.steps.0 in
    let count : length wanted ≡ length c.args.plates.items = c.requires in
    let less : length seen < length wanted = omega (arith, all, some, count) in
    record {
      picked = c.in_ok-add_wanted.ensures
          ∙ ap (λ list. list ++ (if get_or wanted c.loop-plate.index false then plate ∷ [] else [])) was.picked
          ∙ ap (λ n. kept_where wanted seen ++ (if get_or wanted n false then plate ∷ [] else [])) was.here
          ∙ sym (kept-more wanted seen plate less);
      all = append_assoc seen (plate ∷ []) c.next.new.self.rest.items ∙ ap (λ list. seen ++ list) (sym c.in-Some.ensures.steps.0) ∙ was.all;
      here = ap (λ n. n + 1) was.here ∙ sym (length-append seen (plate ∷ []));
    }
