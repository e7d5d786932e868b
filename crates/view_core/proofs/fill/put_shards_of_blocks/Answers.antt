use Rattle.std.proofs.Common.{◌<◌, length, get_or, arith}
use Rattle.part_text.specs.PartText.{block_text}
use Rattle.view_core.proofs.Endings.{stands_next}
use Rattle.view_core.proofs.Filling.{block_words, blocks_indexed, no_block, went_none, went_more, went_all}
use Rattle.view_core.proofs.fill.put_shards_of_blocks.Goals as goal

pub loop-init : goal.loop-init
loop-init c = record {
  value = λ blocks fits count s. went_none block_text block_words c.args.index.now c.args.from blocks;
  went = record { within = c.requires.place; more = omega arith; few = omega arith };
}

pub put_shards_of_block-requires-clause-room : goal.put_shards_of_block-requires-clause-room
put_shards_of_block-requires-clause-room c = omega (arith, c.loop.invariant.went.few)

pub returns-in_err-walk-clause-value : goal.returns-in_err-walk-clause-value
returns-in_err-walk-clause-value c = λ blocks fits count s.
    let i = c.loop.counter in
    let lt : i < length blocks = omega (arith, count) in
    let went = c.loop.invariant.value blocks fits count s in
    let stands = stands_next block_text c.args.store.now c.args.from.at blocks i no_block c.loop.walk.at lt went.at s in
    let walked = c.in_err-walk.ensures.value (get_or blocks i no_block) (fits i no_block lt) stands in
    absurd cc

pub loop-preserved : goal.loop-preserved
loop-preserved c = record {
  value = λ blocks fits count s.
      let i = c.loop.counter in
      let lt : i < length blocks = omega (arith, count) in
      let went = c.loop.invariant.value blocks fits count s in
      let stands = stands_next block_text c.args.store.now c.args.from.at blocks i no_block c.loop.walk.at lt went.at s in
      let walked = c.in_ok-walk.ensures.value (get_or blocks i no_block) (fits i no_block lt) stands in
      went_more block_text block_words c.args.index.now c.loop.index c.put_shards_of_block.new.index c.args.from c.loop.walk
      c.in_ok-walk.walk blocks i no_block lt went walked;
  went =
      let went = c.loop.invariant.went in
      let one = c.in_ok-walk.ensures.went in
      record { within = one.within; more = omega (arith, went.more, one.more); few = omega (arith, went.few, one.few) };
}

pub returns-clause-value : goal.returns-clause-value
returns-clause-value c = λ blocks fits count s.
    went_all block_text block_words c.args.index.now c.loop.index c.args.from c.loop.walk blocks c.loop.counter _ (omega (arith, count))
    (blocks_indexed c.args.from.at blocks)
    (c.loop.invariant.value blocks fits count s)

pub returns-clause-went : goal.returns-clause-went
returns-clause-went c =
    let went = c.loop.invariant.went in
    record { within = went.within; more = went.more; few = omega (arith, went.few) }
