use Rattle.std.proofs.Common.{◌≡◌, ℕ, List, length, ap, subst, sym, ◌∙◌, arith}
use Rattle.std.specs.Vec.{with_items}
use Rattle.std.proofs.lemmas.List.{with_items_is}
use Rattle.tif_packbits.specs.Frame.{framed_row}
use Rattle.ink_keys.specs.Keys.{dots_between}
use Rattle.ink_keys.specs.Counts.{CountsData, AddsRow, keys_before}
use Rattle.ink_keys.proofs.Adding.{adds-whole, first-most, first-order, length-firsts, still-counts}
use Rattle.ink_keys.proofs.counts.Counts.add.Goals as goal

pub add_dots-requires-clause-few : goal.add_dots-requires-clause-few
add_dots-requires-clause-few c =
    let few = c.self.invariant.few_keys in
    omega (arith, length-firsts c.self.inside.width c.self.inside.keys c.deref-2.result.now (c.deref-2.ensures.value ∙ c.self.invariant.firsts_are))

pub add_dots-requires-clause-within : goal.add_dots-requires-clause-within
add_dots-requires-clause-within c =
    omega (arith, length-firsts c.self.inside.width c.self.inside.keys c.deref-2.result.now (c.deref-2.ensures.value ∙ c.self.invariant.firsts_are), c.start-start.ensures.within, ap {A = CountsData} (λ v. v.keys) c.self.view_is, ap {A = CountsData} (λ v. length v.numbers) c.self.view_is, ap length c.deref_mut-2.ensures.value)

pub add_dots-requires-clause-narrow : goal.add_dots-requires-clause-narrow
add_dots-requires-clause-narrow c = λ k.
    let narrow = c.self.invariant.narrow in
    omega (arith, first-most c.self.inside.width c.self.inside.keys c.deref-2.result.now k (c.deref-2.ensures.value ∙ c.self.invariant.firsts_are) c.self.invariant.some_key)

pub add_dots-requires-clause-order : goal.add_dots-requires-clause-order
add_dots-requires-clause-order c = λ k less.
    first-order c.self.inside.width c.self.inside.keys c.deref-2.result.now k (c.deref-2.ensures.value ∙ c.self.invariant.firsts_are) c.self.invariant.some_key less

pub add_dots-requires-clause-inside : goal.add_dots-requires-clause-inside
add_dots-requires-clause-inside c = λ k.
    let fits : length c.unpack_front.new.room ≡ c.self.inside.row.len = c.unpack_front.ensures.count ∙ c.deref_mut.ensures.len in
    let room : c.deref.result.now ≡ c.unpack_front.new.room = c.deref.ensures.value ∙ with_items_is c.self.inside.row c.unpack_front.new.room fits in
    omega (arith, first-most c.self.inside.width c.self.inside.keys c.deref-2.result.now k (c.deref-2.ensures.value ∙ c.self.invariant.firsts_are) c.self.invariant.some_key, ap length room, c.unpack_front.ensures.count, ap length c.deref_mut.ensures.value, c.self.invariant.room)

pub invariant_of-self : goal.invariant_of-self
invariant_of-self c =
    let row_fits : length c.unpack_front.new.room ≡ c.self.inside.row.len = c.unpack_front.ensures.count ∙ c.deref_mut.ensures.len in
    let numbers_fit : length c.add_dots.new.numbers ≡ c.self.inside.numbers.len = c.add_dots.ensures.count ∙ c.deref_mut-2.ensures.len in
    still-counts c.self.inside.groups c.self.inside.width c.self.inside.keys c.self.inside.numbers.items (with_items c.self.inside.numbers c.add_dots.new.numbers).items c.self.inside.firsts.items c.self.inside.row.items (with_items c.self.inside.row c.unpack_front.new.room).items
    c.self.invariant
    (ap length (with_items_is c.self.inside.numbers c.add_dots.new.numbers numbers_fit) ∙ c.add_dots.ensures.count ∙ ap length c.deref_mut-2.ensures.value)
    (ap length (with_items_is c.self.inside.row c.unpack_front.new.room row_fits) ∙ c.unpack_front.ensures.count ∙ ap length c.deref_mut.ensures.value)

pub returns : goal.returns
returns c =
    let row_fits : length c.unpack_front.new.room ≡ c.self.inside.row.len = c.unpack_front.ensures.count ∙ c.deref_mut.ensures.len in
    let numbers_fit : length c.add_dots.new.numbers ≡ c.self.inside.numbers.len = c.add_dots.ensures.count ∙ c.deref_mut-2.ensures.len in
    let room : c.deref.result.now ≡ c.unpack_front.new.room = c.deref.ensures.value ∙ with_items_is c.self.inside.row c.unpack_front.new.room row_fits in
    let counts : CountsData = record { groups = c.self.inside.groups; width = c.self.inside.width; keys = c.self.inside.keys; numbers = c.self.inside.numbers.items } in
    let numbers : List ℕ = (with_items c.self.inside.numbers c.add_dots.new.numbers).items in
    subst (λ (v : CountsData). AddsRow c.args.place.group c.args.place.ink (framed_row c.args.held.now.bytes) v (record counts { numbers = numbers })) c.self.view_is
    (adds-whole counts c.args.place.group c.args.place.ink (framed_row c.args.held.now.bytes) c.self.inside.row.items c.deref.result.now c.self.inside.firsts.items c.deref-2.result.now c.deref_mut-2.result.now c.add_dots.new.numbers numbers c.start-start.result
    c.self.invariant
    (λ from to within. ap (λ (r : List ℕ). dots_between r from to) room ∙ c.unpack_front.ensures.dots from to within ∙ ap (λ (bytes : List ℕ). dots_between (framed_row bytes) from to) c.bytes.ensures)
    c.deref-2.ensures.value
    c.deref_mut-2.ensures.value
    (sym (with_items_is c.self.inside.numbers c.add_dots.new.numbers numbers_fit))
    (subst (λ (v : CountsData). c.start-start.result ≡ keys_before v.keys c.args.place.group c.args.place.ink) (sym c.self.view_is) c.start-start.ensures.start)
    (record { here = c.add_dots.ensures.here; below = c.add_dots.ensures.below; above = c.add_dots.ensures.above }))
