use Rattle.std.proofs.Common.{◌≡◌, ◌≤◌, ◌+◌, ◌-◌, ◌*◌, ℕ, List, [], length, take, drop, get_or, lit<, refl, ap, arith}
use Rattle.std.proofs.lemmas.List.{length-drop, length-take}
use Rattle.tif_strips.specs.Planes.{ahead_of}
use Rattle.tif_strips.proofs.Inks.{HasPixels-block, block-given, block-left}
use Rattle.tif_strips.proofs.planes.Inks.fill.Goals as goal

-- a block is no longer than the samples ahead
block_fits : (count at width : ℕ) (block ahead start : List ℕ) → ahead ≡ drop at start → width ≤ length start
    → count ≤ width - at → length (take count block) ≤ length ahead
block_fits count at width block ahead start ahead_is enough small =
    rw ahead_is (omega (arith, length-take count block, length-drop at start))

pub fill-requires-in-loop-at : goal.fill-requires-in-loop-at
fill-requires-in-loop-at c =
    let ahead : ahead_of c.loop-at.self.magenta ≡ drop c.loop-at.at (ahead_of c.args.self.now.magenta) = ap (λ (lists : List (List ℕ)). get_or lists 1 []) c.loop-at.invariant.left in
    block_fits c.min-count.result c.loop-at.at c.args.width c.loop-at.m _ _ ahead (c.requires.enough 1 (lit< tt)) (omega arith)

pub fill-requires-in-loop-at-2 : goal.fill-requires-in-loop-at-2
fill-requires-in-loop-at-2 c =
    let ahead : ahead_of c.loop-at.self.yellow ≡ drop c.loop-at.at (ahead_of c.args.self.now.yellow) = ap (λ (lists : List (List ℕ)). get_or lists 2 []) c.loop-at.invariant.left in
    block_fits c.min-count.result c.loop-at.at c.args.width c.loop-at.y _ _ ahead (c.requires.enough 2 (lit< tt)) (omega arith)

pub fill-requires-in-loop-at-3 : goal.fill-requires-in-loop-at-3
fill-requires-in-loop-at-3 c =
    let ahead : ahead_of c.loop-at.self.black ≡ drop c.loop-at.at (ahead_of c.args.self.now.black) = ap (λ (lists : List (List ℕ)). get_or lists 3 []) c.loop-at.invariant.left in
    block_fits c.min-count.result c.loop-at.at c.args.width c.loop-at.k _ _ ahead (c.requires.enough 3 (lit< tt)) (omega arith)

pub loop-at-preserved : goal.loop-at-preserved
loop-at-preserved c =
    let at = c.loop-at.at in
    let count = c.min-count.result in
    let within : at + count ≤ c.args.width = omega arith in
    let cyan : ahead_of c.loop-at.self.cyan ≡ drop at (ahead_of c.args.self.now.cyan) = ap (λ (lists : List (List ℕ)). get_or lists 0 []) c.loop-at.invariant.left in
    let magenta : ahead_of c.loop-at.self.magenta ≡ drop at (ahead_of c.args.self.now.magenta) = ap (λ (lists : List (List ℕ)). get_or lists 1 []) c.loop-at.invariant.left in
    let yellow : ahead_of c.loop-at.self.yellow ≡ drop at (ahead_of c.args.self.now.yellow) = ap (λ (lists : List (List ℕ)). get_or lists 2 []) c.loop-at.invariant.left in
    let black : ahead_of c.loop-at.self.black ≡ drop at (ahead_of c.args.self.now.black) = ap (λ (lists : List (List ℕ)). get_or lists 3 []) c.loop-at.invariant.left in
    let long_c : count ≤ length c.loop-at.c = omega arith in
    let long_m : count ≤ length c.loop-at.m = omega arith in
    let long_y : count ≤ length c.loop-at.y = omega arith in
    let long_k : count ≤ length c.loop-at.k = omega arith in
    let left_c = block-left count at c.loop-at.c _ _ _ long_c cyan c.fill.ensures.left in
    let left_m = block-left count at c.loop-at.m _ _ _ long_m magenta c.fill-in-loop-at.ensures.left in
    let left_y = block-left count at c.loop-at.y _ _ _ long_y yellow c.fill-in-loop-at-2.ensures.left in
    let left_k = block-left count at c.loop-at.k _ _ _ long_k black c.fill-in-loop-at-3.ensures.left in
    let all_c : at + count ≤ length (ahead_of c.args.self.now.cyan) = omega (arith, c.requires.enough 0 (lit< tt)) in
    let all_m : at + count ≤ length (ahead_of c.args.self.now.magenta) = omega (arith, c.requires.enough 1 (lit< tt)) in
    let all_y : at + count ≤ length (ahead_of c.args.self.now.yellow) = omega (arith, c.requires.enough 2 (lit< tt)) in
    let all_k : at + count ≤ length (ahead_of c.args.self.now.black) = omega (arith, c.requires.enough 3 (lit< tt)) in
    record {
      within = within;
      left = rw (left_c, left_m, left_y, left_k) refl;
      pixels =
          HasPixels-block (ahead_of c.args.self.now.cyan) (ahead_of c.args.self.now.magenta) (ahead_of c.args.self.now.yellow) (ahead_of c.args.self.now.black) _ _ _ _ at count
          (4 * (at + count) - 4 * at) c.loop-at.into c.lay_pixels.new.into (omega arith) (omega arith) (omega arith) all_c
          (block-given count at c.loop-at.c _ _ _ long_c all_c cyan c.fill.ensures.given)
          (block-given count at c.loop-at.m _ _ _ long_m all_m magenta c.fill-in-loop-at.ensures.given)
          (block-given count at c.loop-at.y _ _ _ long_y all_y yellow c.fill-in-loop-at-2.ensures.given)
          (block-given count at c.loop-at.k _ _ _ long_k all_k black c.fill-in-loop-at-3.ensures.given)
          c.loop-at.invariant.pixels c.lay_pixels.ensures;
    }
