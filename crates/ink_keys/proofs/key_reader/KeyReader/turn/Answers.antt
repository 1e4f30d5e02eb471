use Rattle.std.proofs.Common.{length, ap, arith}
use Rattle.plan_rows.specs.Rows.{places_in}
use Rattle.ring_lanes.specs.Reader.{ReaderState}
use Rattle.ink_keys.specs.Turn.{KeyReaderData, stage}
use Rattle.ink_keys.proofs.Turning.{goes-first, goes-on}
use Rattle.ink_keys.proofs.key_reader.KeyReader.turn.Goals as goal

pub loop-self-init : goal.loop-self-init
loop-self-init g c = record {
  goes = goes-first (stage c.args.self.now c.args.reader.now)
      (record {
        joined = c.requires.joined;
        home = c.requires.home;
        total = c.requires.total;
        few = omega (arith, c.requires.total, c.total-total.ensures.total, c.total-total.ensures.most, ap (λ (k : KeyReaderData). length (places_in k.rows)) c.self.view_is);
        rows = c.requires.frames;
        bounded = c.requires.bounded;
      })
      (omega (arith, c.requires.some_row));
  few = c.requires.patience;
}

pub loop-self-preserved-in-Ok : goal.loop-self-preserved-in-Ok
loop-self-preserved-in-Ok g c = record {
  goes = goes-on (stage c.args.self.now c.args.reader.now) (stage c.loop-self.self c.loop-self.reader) (stage c.count.new.self c.count.new.reader) c.loop-self.waits
      (omega (arith, c.loop-self-test.true, c.cursor.ensures.cursor, c.requires.total, c.total-total.ensures.total, ap (λ (k : KeyReaderData). length (places_in k.rows)) c.self.view_is, ap {A = ReaderState} (λ r. r.ring.total) c.loop-self.invariant.goes.over.reader))
      c.loop-self.invariant.goes c.in-Ok.ensures;
  few = c.loop-self.invariant.few;
}
