use Rattle.std.proofs.Common.{ℕ, List, Option, Some, Result, ap, ◌∙◌}
use Rattle.std.proofs.lemmas.Result.{err_from_is_err_and}
use Rattle.octets_core.specs.Layout.{with_fault}
use Rattle.octets_core.specs.declared.fault.LayoutFault.{LayoutFault}
use Rattle.octets_core.proofs.Repeated.{goes_on, ends, is_done}
use Rattle.ident_core.specs.declared.range.Range.{Range}
use Rattle.ident_core.specs.RangeLayout.{range}
use Rattle.ident_core.specs.declared.fault.RangesFault.{RangesFault}
use Rattle.ident_core.specs.declared.fault.RangesFault.TheVariants as faults
use Rattle.ident_core.proofs.RangeFacts.{ranges-ok}
use Rattle.ident_core.proofs.layout.read_ranges.Goals as goal

abbrev next : Option (List ℕ) → Range → Option (List ℕ)
next previous r = Some r.log

abbrev wrapped : Result (List Range × ℕ) LayoutFault → Result (List Range × ℕ) RangesFault
wrapped read = with_fault faults.Layout read

pub returns-in_err-range-clause-exact : goal.returns-in_err-range-clause-exact
returns-in_err-range-clause-exact c =
    let p = err_from_is_err_and c.from_residual-in_err-range.result c.from_residual-in_err-range.ensures.1 in
    rw (p.1, p.2) (λ wants. ap wrapped (ends range next c.loop.ranges.items c.args.count c.loop.counter c.loop.previous c.loop.cursor.bytes c.loop.cursor.at
    c.in_err-range.field-0.0 _ c.loop-test.true c.in_err-range.ensures.0 c.loop.invariant.read))

pub loop-preserved : goal.loop-preserved
loop-preserved c =
    let read = c.in_ok-range.ensures in
    record {
      read = rw (c.in_ok-push.ensures.items, read.1) (goes_on range next c.loop.ranges.items c.args.count c.loop.counter c.loop.previous c.loop.cursor.bytes
          c.loop.cursor.at c.in_ok-range.range c.read_range.new.cursor.at _ c.loop-test.true read.0 c.loop.invariant.read);
      same = read.1 ∙ c.loop.invariant.same;
    }

pub returns : goal.returns
returns c =
    let all = is_done range next c.loop.ranges.items c.args.count c.loop.counter c.loop.previous c.loop.cursor.bytes c.loop.cursor.at _ c.loop-test.false c.loop.invariant.read in
    record { exact = (ap wrapped all, c.loop.invariant.same); facts = ranges-ok c.args.count c.args.cursor.now.bytes c.args.cursor.now.at _ all; kept = c.loop.invariant.same }
