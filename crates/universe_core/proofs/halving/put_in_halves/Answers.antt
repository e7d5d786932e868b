use Rattle.std.proofs.Common.{◌∙◌, ◌<◌, ◌≤◌, ap, sym, subst, length, arith}
use Rattle.std.specs.Prelude.{IsPermutation}
use Rattle.std.specs.List.Sorted.{IsPartitionPoint}
use Rattle.std.specs.Ordering.{is_lt}
use Rattle.std.proofs.lemmas.List.{get_or_read, take-append-drop}
use Rattle.std.proofs.lemmas.List.Sorted.{IsPermutation-trans}
use Rattle.universe_core.proofs.Halves.{goes_before}
use Rattle.universe_core.proofs.Parting.{Fails, Passes, behind_it, in_front, one_put}
use Rattle.universe_core.proofs.halving.put_in_halves.Goals as goal

pub loop-i-preserved : goal.loop-i-preserved
loop-i-preserved c =
    let goes = goes_before c.middle-cut.result in
    let within : c.loop-i.i < length c.loop-i.entries = omega (arith, c.loop-i-test.true, c.loop-i.auto.entries) in record {
      same = IsPermutation-trans c.args.entries.now c.loop-i.entries c.swap.new.self c.loop-i.invariant.same c.swap.ensures.permutation;
      put =
          one_put goes c.loop-i.entries c.swap.new.self c.loop-i.front c.loop-i.i c.index-entries-i.result c.is_lt-before.result
          (λ d. sym (get_or_read c.loop-i.entries c.loop-i.i c.index-entries-i.result within c.index-entries-i.is d))
          (c.is_lt-before.ensures ∙ ap is_lt c.order.ensures ∙ ap goes (sym c.index-entries-i.is)) c.swap.ensures.by_index c.loop-i.invariant.put;
    }

pub returns-clause-halves : goal.returns-clause-halves
returns-clause-halves c =
    let goes = goes_before c.middle-cut.result in
    let put = c.loop-i.invariant.put in
    let order = put.order in
    let within : c.loop-i.front ≤ length c.loop-i.entries = omega (arith, c.loop-i-test.false, c.loop-i.auto) in
    let point : IsPartitionPoint (Passes goes) (Fails goes) c.loop-i.entries c.loop-i.front =
    (put.before, λ k d le lt. put.behind k d le (omega (arith, c.loop-i-test.false, c.loop-i.auto))) in
    record {
      same = subst (IsPermutation c.args.entries.now) (sym (take-append-drop c.loop-i.front c.loop-i.entries)) c.loop-i.invariant.same;
      among = c.middle-cut.ensures;
      before = in_front goes c.loop-i.entries c.loop-i.front within point;
      behind = behind_it goes c.loop-i.entries c.loop-i.front within point;
    }
