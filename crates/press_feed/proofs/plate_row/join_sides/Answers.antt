use Rattle.std.proofs.Common.{ℕ, subst, arith}
use Rattle.press_feed.specs.declared.side.Side.TheVariants.{Left, Right}
use Rattle.press_feed.specs.PlateRow.{IsJoined}
use Rattle.press_feed.proofs.JoinLemmas.{clear_row, shown_row, sides_joined}
use Rattle.press_feed.proofs.plate_row.join_sides.Goals as goal

pub join_at-requires : goal.join_at-requires
join_at-requires c =
    let job = c.args.job.now in
    let clear = clear_row job Left c.args.ink c.args.left.now c.row.result.now c.requires.left c.row.ensures.clear in
    omega (arith, clear.long, c.byte_of.ensures, c.requires.row)

pub join_at-requires-2 : goal.join_at-requires-2
join_at-requires-2 c =
    let job = c.args.job.now in
    let clear = clear_row job Right c.args.ink c.args.right.now c.row-2.result.now c.requires.right c.row-2.ensures.clear in
    omega (arith, clear.long, c.byte_of-2.ensures, c.requires.row)

pub returns : goal.returns
returns c =
    let job = c.args.job.now in
    let group = c.args.group.now in
    let ink = c.args.ink in
    let y = c.args.y in
    let left = c.args.left.now in
    let right = c.args.right.now in
    sides_joined job group ink y _ c.row.result.now c.row-2.result.now c.clear.new.bits c.join_at.new.bits c.join_at-2.new.bits c.clear.ensures
    (clear_row job Left ink left c.row.result.now c.requires.left c.row.ensures.clear)
    (shown_row job Left ink group.left y left c.row.result.now c.requires.left c.requires.left_row c.row.ensures.shows)
    (subst {A = ℕ} (λ at. IsJoined c.row.result.now at c.clear.new.bits c.join_at.new.bits) c.byte_of.ensures c.join_at.ensures)
    (clear_row job Right ink right c.row-2.result.now c.requires.right c.row-2.ensures.clear)
    (shown_row job Right ink group.right y right c.row-2.result.now c.requires.right c.requires.right_row c.row-2.ensures.shows)
    (subst {A = ℕ} (λ at. IsJoined c.row-2.result.now at c.join_at.new.bits c.join_at-2.new.bits) c.byte_of-2.ensures c.join_at-2.ensures)
