use Rattle.std.proofs.Common.{◌∷◌, ◌≡◌, length, Result, Ok, ap, ◌∙◌, rules}
use Rattle.std.proofs.lemmas.List.{nil_from_length}
use Rattle.builder_core.specs.declared.built.Built.{Built}
use Rattle.builder_core.specs.declared.fault.BuildFault.{BuildFault}
use Rattle.builder_core.proofs.Assembly.{block_next, leaf_next, last_next, fault_next, all_next, is_whole, not_whole}
use Rattle.builder_core.proofs.assembling.assemble.Goals as goal

pub loop-outcome-preserved-in-Continue-branch-2 : goal.loop-outcome-preserved-in-Continue-branch-2
loop-outcome-preserved-in-Continue-branch-2 c =
    let left = c.next.new.self.rest.items in
    let head = c.in-Some.ensures.steps.0 ∙ ap (λ (o : Result Built BuildFault). o ∷ left) (c.in-Ok-Block.is ∙ ap Ok c.in-Ok-Block.field-0-is) in
    rw c.in_ok-push-in-Ok-Block.ensures.items
    (block_next c.args.outcomes.items c.loop-outcome.blocks.items c.loop-outcome.leaves.items c.loop-outcome.outcome-iterator.rest.items left c.loop-outcome.invariant c.in-Ok-Block.block head)

pub loop-outcome-preserved-in-Continue-branch-4 : goal.loop-outcome-preserved-in-Continue-branch-4
loop-outcome-preserved-in-Continue-branch-4 c =
    let s = c.in-Ok-Leaf.field-0-0 in
    let left = c.next.new.self.rest.items in
    let head = c.in-Some.ensures.steps.0 ∙ ap (λ (o : Result Built BuildFault). o ∷ left) (c.in-Ok-Leaf.is ∙ ap Ok c.in-Ok-Leaf.field-0-is) in
    let count : c.len.result ≡ length c.push-in-Ok-Leaf.new.self.items = search rules in
    let full = is_whole c.len.result s.shift c.loop-outcome.leaves.items c.push-in-Ok-Leaf.new.self.items s.leaf s.few count c.in_ok-push-in-Ok-Leaf.ensures.items c.if-len-shift.true in
    rw (c.in_ok-push-in-Ok-Leaf-2.ensures.items, c.new-then-len-shift.ensures, c.replace-all.ensures.value, c.in_ok-push-in-Ok-Leaf.ensures.items, c.replace-all.ensures.after, c.new.ensures.items)
    (last_next c.args.outcomes.items c.loop-outcome.blocks.items c.loop-outcome.leaves.items c.loop-outcome.outcome-iterator.rest.items left c.loop-outcome.invariant s head full)

pub loop-outcome-preserved : goal.loop-outcome-preserved
loop-outcome-preserved c =
    let s = c.in-Ok-Leaf.field-0-0 in
    let left = c.next.new.self.rest.items in
    let head = c.in-Some.ensures.steps.0 ∙ ap (λ (o : Result Built BuildFault). o ∷ left) (c.in-Ok-Leaf.is ∙ ap Ok c.in-Ok-Leaf.field-0-is) in
    let count : c.len.result ≡ length c.push-in-Ok-Leaf.new.self.items = search rules in
    let more = not_whole c.len.result s.shift c.loop-outcome.leaves.items c.push-in-Ok-Leaf.new.self.items s.leaf s.few count c.in_ok-push-in-Ok-Leaf.ensures.items c.if-len-shift.false in
    rw c.in_ok-push-in-Ok-Leaf.ensures.items
    (leaf_next c.args.outcomes.items c.loop-outcome.blocks.items c.loop-outcome.leaves.items c.loop-outcome.outcome-iterator.rest.items left c.loop-outcome.invariant s head more)

pub returns-in-Err : goal.returns-in-Err
returns-in-Err c =
    let left = c.next.new.self.rest.items in
    fault_next c.args.outcomes.items c.loop-outcome.blocks.items c.loop-outcome.leaves.items c.loop-outcome.outcome-iterator.rest.items left c.loop-outcome.invariant c.in-Err.fault
    (c.in-Some.ensures.steps.0 ∙ ap (λ (o : Result Built BuildFault). o ∷ left) c.in-Err.is)

pub returns : goal.returns
returns c =
    let none : length c.loop-outcome.outcome-iterator.rest.items ≡ 0 = search rules in
    all_next c.args.outcomes.items c.loop-outcome.blocks c.loop-outcome.leaves.items c.loop-outcome.outcome-iterator.rest.items c.loop-outcome.invariant (nil_from_length _ none)
