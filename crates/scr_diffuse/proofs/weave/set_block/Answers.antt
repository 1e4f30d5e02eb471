-- Each iteration stores one more vector.
use Rattle.std.proofs.Common.{◌≡◌, ◌∙◌, ◌+◌, ◌-◌, ◌*◌, ◌≤◌, length, take, drop, get_or, [], ap, sym, arith}
use Rattle.std.proofs.lemmas.List.{length-drop, length-take}
use Rattle.std.proofs.lemmas.Simd.{put_chunk_whole}
use lib.Lanes.{put_chunk}
use Rattle.scr_diffuse.proofs.WeaveLemmas.{block_done, block_more, columns_before, thrice_at}
use Rattle.scr_diffuse.proofs.weave.set_block.Goals as goal

pub loop-k-preserved : goal.loop-k-preserved
loop-k-preserved c =
    let at = 8 * c.args.first + 16 * c.loop-k.k in
    let cut = at + 16 - at in
    let columns = c.loop-k.columns in
    let vector = get_or c.weave-woven.result c.loop-k.k [] in
    let slot = take (at + 16 - at) (drop at columns) in
    let room : at + cut ≤ length columns = omega (arith, c.loop-k.auto.columns) in
    let slot_long : length slot ≡ 16 = omega (arith, c.loop-k.auto.columns, length-take (at + 16 - at) (drop at columns), length-drop at columns) in
    let part_is : put_chunk 0 slot vector ≡ vector = put_chunk_whole slot vector (slot_long ∙ sym (c.weave-woven.ensures.vectors c.loop-k.k (omega arith))) in
    let long : length (put_chunk 0 slot vector) ≡ cut = ap length part_is ∙ c.weave-woven.ensures.vectors c.loop-k.k (omega arith) ∙ omega arith in
    record {
      before = columns_before c.args.rows.now c.args.first at cut columns (put_chunk 0 slot vector) c.loop-k.invariant.before (omega arith) room;
      here = λ m less. block_more c.args.rows.now c.args.first c.loop-k.k at cut columns (put_chunk 0 slot vector) c.weave-woven.result (omega arith) (omega arith) room long part_is m less c.loop-k.invariant.here;
    }

pub returns : goal.returns
returns c =
    block_done c.args.rows.now c.args.first c.loop-k.columns c.block_of.result c.weave-woven.result c.requires.late c.loop-k.invariant.before (λ m less. c.loop-k.invariant.here m (omega arith))
    (λ k x few within. thrice_at c.block_of.result c.weave.result c.weave-2.result c.weave-woven.result k x few within c.weave.ensures.places c.weave-2.ensures.places c.weave-woven.ensures.places)
    c.block_of.ensures.values
