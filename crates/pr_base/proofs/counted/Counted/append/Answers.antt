use Rattle.std.proofs.Common.{rules}
use Rattle.std.proofs.KnownBytes.{Keeps-refl}
use Rattle.std.proofs.lemmas.List.{take_rest}
use Rattle.pr_base.proofs.Streams.{passed_front, passed_more}
use Rattle.pr_base.proofs.counted.Counted.append.Goals as goal

pub returns-in-None-clause-front : goal.returns-in-None-clause-front
returns-in-None-clause-front g c = passed_front _ c.loop-rest.invariant.passed c.in-None.ensures.bytes

pub loop-rest-preserved : goal.loop-rest-preserved
loop-rest-preserved g c = record {
  passed = passed_more _ c.in-Some.count _ (take_rest _ c.in-Some.count) c.loop-rest.invariant.passed c.in-Some.ensures.bytes;
  count = search rules;
}

pub returns-clause-front : goal.returns-clause-front
returns-clause-front g c = passed_front _ c.loop-rest.invariant.passed (Keeps-refl _)
