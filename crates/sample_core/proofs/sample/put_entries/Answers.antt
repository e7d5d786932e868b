use Rattle.std.proofs.Common.{length, refl, ap, ◌∙◌, arith}
use Rattle.std.proofs.lemmas.Result.{err_from_is_err_and}
use Rattle.outside_core.proofs.Appending.{KeepsOthers-then}
use Rattle.sample_core.proofs.Texts.{record-length}
use Rattle.sample_core.proofs.Moving.{KeepsOthers-Moved, entries-unmoved, entries-moved, entries-torn}
use Rattle.sample_core.proofs.sample.put_entries.Goals as goal

pub loop-i-preserved : goal.loop-i-preserved
loop-i-preserved g c = record {
  moved = entries-moved (g.D.Depot.files c.args.depot.now) (g.D.Depot.files c.loop-i.depot) (g.D.Depot.files c.put.new.depot) c.args.name.now c.args.buffer.now
      c.loop-i.buffer c.record_of.result c.put.new.self c.args.keys.now c.loop-i.i c.record_of.ensures c.loop-i.invariant.moved c.in_ok-put.ensures.ok;
  only_writes = record {
    later = omega (arith, c.loop-i.invariant.only_writes.later, c.in_ok-put.ensures.only_writes.later);
    same_reads = c.in_ok-put.ensures.only_writes.same_reads ∙ c.loop-i.invariant.only_writes.same_reads;
    same_failed = c.in_ok-put.ensures.only_writes.same_failed ∙ c.loop-i.invariant.only_writes.same_failed;
  };
}

pub returns-in_err-put-clause-err : goal.returns-in_err-put-clause-err
returns-in_err-put-clause-err g c =
    let p = err_from_is_err_and c.from_residual.result c.from_residual.ensures.1 in
    rw p.1 (entries-torn (g.D.Depot.files c.args.depot.now) (g.D.Depot.files c.loop-i.depot) (g.D.Depot.files c.put.new.depot) c.args.name.now c.args.buffer.now
    c.loop-i.buffer c.record_of.result c.args.keys.now c.loop-i.i c.args.count c.loop-i-test.true c.record_of.ensures c.loop-i.invariant.moved
    c.in_err-put.ensures.err)

pub returns-in_err-put-clause-others : goal.returns-in_err-put-clause-others
returns-in_err-put-clause-others g c =
    KeepsOthers-then (g.D.Depot.files c.args.depot.now) (g.D.Depot.files c.loop-i.depot) (g.D.Depot.files c.put.new.depot) c.args.name.now
    (KeepsOthers-Moved _ _ c.args.name.now _ _ _ c.loop-i.invariant.moved)
    c.in_err-put.ensures.others

pub returns-clause-others : goal.returns-clause-others
returns-clause-others g c = KeepsOthers-Moved (g.D.Depot.files c.args.depot.now) (g.D.Depot.files c.loop-i.depot) c.args.name.now _ _ _ c.loop-i.invariant.moved

pub loop-i-init : goal.loop-i-init
loop-i-init g c = record {
  moved = entries-unmoved (g.D.Depot.files c.args.depot.now) c.args.name.now c.args.buffer.now c.args.keys.now;
  only_writes = record { later = omega arith; same_reads = refl; same_failed = refl };
}

pub put-requires : goal.put-requires
put-requires g c = omega (arith, ap length c.record_of.ensures, record-length c.args.keys.now c.loop-i.i)
