use Rattle.std.proofs.Common.{◌≡◌, ℕ, ◌+◌, ◌<◌, ◌^◌, List, length, get_or, ap, ◌∙◌, arith}
use Rattle.std.proofs.lemmas.List.Elements.{All-get_or}
use Rattle.std.proofs.lemmas.Nat.{pow_pos}
use Rattle.ident_core.specs.declared.identity.Identity.{Identity}
use Rattle.equation_core.specs.Rows.{sha256_row}
use Rattle.equation_core.specs.Shards.{shard}
use Rattle.card_core.specs.declared.leaf.Leaf.TheVariants.{Clean}
use Rattle.card_core.specs.Leaf.{is_leaf_positive}
use Rattle.part_text.specs.Fitting.{LeafFits}
use Rattle.part_text.specs.PartText.{shard_leaf_text}
use Rattle.view_core.specs.Texts.{places_of}
use Rattle.view_core.proofs.Texts.{length-places, stands_item}
use Rattle.view_core.proofs.Shards.{first_begins, stands_shift, stands_leaves}
use Rattle.view_core.proofs.block.sharded_says.Goals as goal

pub returns-then-shift-gt-MAX_SHIFT-clause-value : goal.returns-then-shift-gt-MAX_SHIFT-clause-value
returns-then-shift-gt-MAX_SHIFT-clause-value g c s before behind fits h up are =
    let shift = c.number8_at-shift.ensures s.shift (omega (arith, fits.facts.few)) (stands_shift c.args.bytes.now c.args.at s h) in
    absurd (omega (arith, shift, fits.facts.few, c.if-shift-gt-MAX_SHIFT.true))

pub returns-in-Some-clause-value : goal.returns-in-Some-clause-value
returns-in-Some-clause-value g c s before behind fits h up are =
    let shift = c.number8_at-shift.ensures s.shift (omega (arith, fits.facts.few)) (stands_shift c.args.bytes.now c.args.at s h) in
    let own : List ℕ = places_of shard_leaf_text (c.args.at + 1) s.leaves in
    let some : 0 < 2 ^ s.shift = pow_pos s.shift in
    let begins = first_begins shard_leaf_text (c.args.at + 1) s.leaves (omega (arith, some, fits.facts.count)) in
    let below : c.shard.result < length s.leaves = rw (fits.facts.count, ← shift) c.shard.ensures.below in
    let few : c.shard.result < length own = omega (arith, below, length-places shard_leaf_text (c.args.at + 1) s.leaves) in
    let place : c.in-Some.place ≡ get_or own c.shard.result 0 = let found = c.in-Some.ensures.value before own behind up are begins few in cc in
    let same = c.shard.ensures.value ∙ ap (λ (n : ℕ). shard c.args.draws.now n) shift in
    c.shard_says.ensures.value (get_or s.leaves c.shard.result Clean) (All-get_or LeafFits s.leaves c.shard.result Clean below fits.leaves)
    (rw place (stands_item shard_leaf_text c.args.bytes.now (c.args.at + 1) s.leaves c.shard.result Clean below (stands_leaves c.args.bytes.now c.args.at s h)))
    ∙ ap (λ (x : Identity). is_leaf_positive sha256_row x (get_or s.leaves c.shard.result Clean)) c.shard.ensures.same
    ∙ ap (λ (n : ℕ). is_leaf_positive sha256_row c.args.draws.now (get_or s.leaves n Clean)) same

pub returns-in-None-clause-value : goal.returns-in-None-clause-value
returns-in-None-clause-value g c s before behind fits h up are =
    let shift = c.number8_at-shift.ensures s.shift (omega (arith, fits.facts.few)) (stands_shift c.args.bytes.now c.args.at s h) in
    let own : List ℕ = places_of shard_leaf_text (c.args.at + 1) s.leaves in
    let some : 0 < 2 ^ s.shift = pow_pos s.shift in
    let begins = first_begins shard_leaf_text (c.args.at + 1) s.leaves (omega (arith, some, fits.facts.count)) in
    let below : c.shard.result < length s.leaves = rw (fits.facts.count, ← shift) c.shard.ensures.below in
    let few : c.shard.result < length own = omega (arith, below, length-places shard_leaf_text (c.args.at + 1) s.leaves) in
    absurd (let none = c.in-None.ensures.value before own behind up are begins few in cc)
