use Rattle.std.proofs.Common.{◌≡◌, ◌+◌, ◌<◌, length, get_or, Some, ap, ◌∙◌, arith}
use Rattle.card_core.specs.declared.leaf.Leaf.TheVariants.{Clean}
use Rattle.part_text.specs.PartText.{shard_leaf_text}
use Rattle.view_core.proofs.Endings.{stands_next, longer_by, all_texts}
use Rattle.view_core.proofs.ends.shards_end.Goals as goal

pub loop-init : goal.loop-init
loop-init c = record { value = λ leaves fits count s. omega arith; within = λ le. le }

pub returns-in_err-end-clause-value : goal.returns-in_err-end-clause-value
returns-in_err-end-clause-value c = λ leaves fits count s.
    let i = c.loop.counter in
    let lt : i < length leaves = omega (arith, count) in
    let so_far = c.loop.invariant.value leaves fits count s in
    let none = c.in_err-end.ensures.value (get_or leaves i Clean) (fits i Clean lt)
    (stands_next shard_leaf_text c.args.bytes.now c.args.at leaves i Clean c.loop.end lt so_far s) in
    absurd cc

pub loop-preserved : goal.loop-preserved
loop-preserved c = record {
  value = λ leaves fits count s.
      let i = c.loop.counter in
      let lt : i < length leaves = omega (arith, count) in
      let so_far = c.loop.invariant.value leaves fits count s in
      let some = c.in_ok-end.ensures.value (get_or leaves i Clean) (fits i Clean lt)
      (stands_next shard_leaf_text c.args.bytes.now c.args.at leaves i Clean c.loop.end lt so_far s) in
      let is : c.in_ok-end.end ≡ c.loop.end + length (shard_leaf_text (get_or leaves i Clean)) = cc in
      is ∙ longer_by shard_leaf_text c.args.at leaves i Clean c.loop.end lt so_far;
  within = λ le. c.in_ok-end.ensures.within;
}

pub returns-clause-value : goal.returns-clause-value
returns-clause-value c = λ leaves fits count s.
    ap Some (all_texts shard_leaf_text c.args.at leaves c.loop.counter c.loop.end (omega (arith, count))
    (c.loop.invariant.value leaves fits count s))

pub returns-clause-within : goal.returns-clause-within
returns-clause-within c = c.loop.invariant.within
