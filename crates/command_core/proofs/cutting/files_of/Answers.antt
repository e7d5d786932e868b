use Rattle.std.proofs.Common.{List, length, Vec, ℕ, Global, ap, arith}
use Rattle.std.specs.Vec.Iter.{into_iter_items}
use Rattle.command_core.proofs.CutFiles.{one_filed}
use Rattle.command_core.proofs.cutting.files_of.Goals as goal

pub loop-name-preserved : goal.loop-name-preserved
loop-name-preserved c =
    let next = rw c.in-Some.is at c.next.ensures.items in
    let fewer = rw c.in-Some.is at c.next.ensures.len in
    rw (c.in_ok-push-in-Some.ensures.items, c.new.ensures, c.as_str.ensures) (record {
      whole = omega (arith, fewer, c.loop-name.invariant.whole, ap (λ (vs : List (Vec ℕ Global)). length vs) next);
      filed = one_filed c.loop-name.name-index c.args.names.now c.args.texts.items (into_iter_items c.loop-name.left) c.loop-name.files.items c.loop-name.invariant.filed c.name-item.result
          c.in-Some.text (into_iter_items c.next.new.self) c.loop-name-test.true c.name-item.is next;
    })
