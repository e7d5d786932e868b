use Rattle.std.proofs.Common.{◌+◌, ◌∙◌, drop, ap, sym}
use Rattle.ident_core.specs.Order.{is_same}
use Rattle.universe_core.specs.Reading.{entry_fields, entries_of}
use Rattle.universe_core.proofs.Merge.{run_ends, run_goes, left_at}
use Rattle.universe_core.proofs.merging.run_length.Goals as goal

pub returns-then-not-is_same-clause-value : goal.returns-then-not-is_same-clause-value
returns-then-not-is_same-clause-value c = λ ranges.
    let fields = entry_fields c.args.issuers.now ranges in
    let all = entries_of c.args.issuers.now ranges c.args.entries.now in
    run_ends c.args.id.now (fields c.index-entries-i.result) all (drop (c.loop-i.i + 1) all) c.loop-i.i
    (left_at fields c.args.entries.now c.loop-i.i c.index-entries-i.result c.loop-i-test.true c.index-entries-i.is)
    (ap (is_same c.args.id.now) (sym c.id.ensures) ∙ sym c.is_same.ensures ∙ c.if-not-is_same.true) (c.loop-i.invariant ranges)

pub loop-i-preserved : goal.loop-i-preserved
loop-i-preserved c = λ ranges.
    let fields = entry_fields c.args.issuers.now ranges in
    let all = entries_of c.args.issuers.now ranges c.args.entries.now in
    run_goes c.args.id.now (fields c.index-entries-i.result) all (drop (c.loop-i.i + 1) all) c.loop-i.i
    (left_at fields c.args.entries.now c.loop-i.i c.index-entries-i.result c.loop-i-test.true c.index-entries-i.is)
    (ap (is_same c.args.id.now) (sym c.id.ensures) ∙ sym c.is_same.ensures ∙ c.if-not-is_same.false) (c.loop-i.invariant ranges)
