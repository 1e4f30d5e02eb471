use Rattle.std.proofs.Common.{◌+◌, ◌-◌, drop, arith}
use Rattle.std.proofs.lemmas.List.{length-drop, take_rest}
use Rattle.tif_packbits.proofs.Packing.{literal_len-le-length}
use Rattle.tif_packbits.proofs.Rows.{run_room, literal_room, run_written, literal_written, both_written, length-written, run_len-most}
use Rattle.tif_packbits.proofs.pack.write_front.Goals as goal

pub write_run-requires-clause-room : goal.write_run-requires-clause-room
write_run-requires-clause-room c = omega (arith, c.requires.room, run_room c.args.row.now c.in-Run.n c.in-Run.ensures.0 c.in-Run.ensures.1)

pub returns-in-Run : goal.returns-in-Run
returns-in-Run c = run_written c.args.row.now c.args.into.now _ c.in-Run.n c.in-Run.ensures.0 c.in-Run.ensures.1 c.write_run.ensures

pub write_literal-requires-clause-row : goal.write_literal-requires-clause-row
write_literal-requires-clause-row c = omega (arith, c.in-Literal.ensures.1, literal_len-le-length c.args.row.now)

pub write_literal-requires-clause-room : goal.write_literal-requires-clause-room
write_literal-requires-clause-room c =
    omega (arith, c.requires.room, literal_room c.args.row.now c.in-Literal.n c.requires.some c.in-Literal.ensures.0 c.in-Literal.ensures.1)

pub returns-in-Literal : goal.returns-in-Literal
returns-in-Literal c =
    literal_written c.args.row.now c.args.into.now _ c.in-Literal.n c.requires.some c.in-Literal.ensures.0 c.in-Literal.ensures.1 c.write_literal.ensures

pub write_literal-requires-in-Both-clause-room : goal.write_literal-requires-in-Both-clause-room
write_literal-requires-in-Both-clause-room c =
    omega (arith, c.requires.room, literal_room c.args.row.now c.in-Both.n c.requires.some c.in-Both.ensures.0 c.in-Both.ensures.1)

pub write_run-requires-in-Both-clause-room : goal.write_run-requires-in-Both-clause-room
write_run-requires-in-Both-clause-room c =
    let all : _ = literal_room c.args.row.now c.in-Both.n c.requires.some c.in-Both.ensures.0 c.in-Both.ensures.1 in
    let two : _ = run_room (drop c.in-Both.n c.args.row.now) c.in-Both.run' c.in-Both.ensures.2 c.in-Both.ensures.3 in
    let mid : _ = length-written c.args.row.now c.args.into.now c.write_literal-in-Both.new.into (c.in-Both.n - 1) c.in-Both.n (omega (arith, c.in-Both.ensures.1, literal_len-le-length c.args.row.now)) (omega (arith, all, c.requires.room)) c.write_literal-in-Both.ensures in
    rw (take_rest c.write_literal-in-Both.new.into (c.in-Both.n + 1))
    (omega (arith, all, two, mid, c.requires.room, length-drop (c.in-Both.n + 1) c.write_literal-in-Both.new.into))

pub returns-in-Both : goal.returns-in-Both
returns-in-Both c =
    let all : _ = literal_room c.args.row.now c.in-Both.n c.requires.some c.in-Both.ensures.0 c.in-Both.ensures.1 in
    let two : _ = run_room (drop c.in-Both.n c.args.row.now) c.in-Both.run' c.in-Both.ensures.2 c.in-Both.ensures.3 in
    both_written c.args.row.now c.args.into.now c.write_literal-in-Both.new.into c.write_run-in-Both.new.into c.in-Both.n c.in-Both.run'
    c.requires.some c.in-Both.ensures.0 c.in-Both.ensures.1 c.in-Both.ensures.2 c.in-Both.ensures.3 (omega (arith, all, two, c.requires.room))
    c.write_literal-in-Both.ensures c.write_run-in-Both.ensures

pub overflow_add-result-in-Both : goal.overflow_add-result-in-Both
overflow_add-result-in-Both c =
    record { fits = omega (arith, c.in-Both.ensures.1, c.in-Both.ensures.3, run_len-most (drop c.in-Both.n c.args.row.now)) }
