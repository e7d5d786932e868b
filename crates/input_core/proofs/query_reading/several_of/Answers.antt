use Rattle.std.proofs.Common.{ℕ, List, Result, ap, ◌∙◌}
use Rattle.std.proofs.lemmas.Result.{err_from_is_err_and}
use Rattle.octets_core.specs.Layout.{Layout, with_fault}
use Rattle.octets_core.specs.declared.fault.LayoutFault.{LayoutFault}
use Rattle.octets_core.proofs.Repeated.{goes_on, ends, is_done}
use Rattle.ident_core.specs.declared.range.Sighting.{Sighting}
use Rattle.input_core.specs.QueryLayout.{sighting}
use Rattle.input_core.specs.declared.fault.QueriesFault.{QueriesFault}
use Rattle.input_core.specs.declared.fault.QueriesFault.TheVariants as faults
use Rattle.input_core.proofs.query_reading.several_of.Goals as goal

abbrev each : Unit {0} → Layout LayoutFault Sighting
each s = sighting

abbrev same : Unit {0} → Sighting → Unit {0}
same s x = s

abbrev wrapped : Result (List Sighting × ℕ) LayoutFault → Result (List Sighting × ℕ) QueriesFault
wrapped read = with_fault faults.Layout read

pub returns-in_err-sighting : goal.returns-in_err-sighting
returns-in_err-sighting c =
    let p = err_from_is_err_and c.from_residual-in_err-sighting.result c.from_residual-in_err-sighting.ensures.1 in
    rw (p.1, p.2) (λ wants. ap wrapped (ends each same c.loop.sightings.items c.args.count c.loop.counter tt c.loop.cursor.bytes c.loop.cursor.at
    c.in_err-sighting.field-0.0 _ c.loop-test.true c.in_err-sighting.ensures.0 c.loop.invariant.read))

pub loop-preserved : goal.loop-preserved
loop-preserved c =
    let read = c.in_ok-sighting.ensures in
    record {
      read = rw (c.in_ok-push.ensures.items, read.1) (goes_on each same c.loop.sightings.items c.args.count c.loop.counter tt c.loop.cursor.bytes
          c.loop.cursor.at c.in_ok-sighting.sighting c.sighting_of.new.cursor.at _ c.loop-test.true read.0 c.loop.invariant.read);
      same = read.1 ∙ c.loop.invariant.same;
    }

pub returns : goal.returns
returns c =
    let all = is_done each same c.loop.sightings.items c.args.count c.loop.counter tt c.loop.cursor.bytes c.loop.cursor.at _ c.loop-test.false c.loop.invariant.read in
    (ap wrapped all, c.loop.invariant.same)
