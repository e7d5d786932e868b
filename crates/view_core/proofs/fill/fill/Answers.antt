use Rattle.std.proofs.Common.{◌≡◌, List, Ok, sym, ap, arith, Some}
use Rattle.octets_core.specs.Reading.{value_of}
use Rattle.part_text.specs.SealedFields.{SealedFields}
use Rattle.store_core.specs.StoreLayout.{store}
use Rattle.view_core.proofs.Filling.{standing_store, stood, AreWalked, are_walked, index_is_long, index_stands}
use Rattle.view_core.proofs.fill.fill.Goals as goal
use Rattle.view_core.proofs.fill.fill.Goals.{In_ok-shards}

-- ---- none, which no store gives

none_first : (c : goal.Then-store-lt-STORE_HEAD) (parts : List SealedFields) → value_of (store c.args.store.now 0) ≡ Ok parts → ⊥
none_first c parts read =
    let holds = standing_store c.args.store.now parts (λ i. omega (arith, c.type_inv.store i)) read in
    omega (arith, holds.long, c.if-store-lt-STORE_HEAD.true)

pub returns-then-store-lt-STORE_HEAD-clause-value : goal.returns-then-store-lt-STORE_HEAD-clause-value
returns-then-store-lt-STORE_HEAD-clause-value c = λ parts read. absurd (none_first c parts read)

pub returns-then-store-lt-STORE_HEAD-clause-index : goal.returns-then-store-lt-STORE_HEAD-clause-index
returns-then-store-lt-STORE_HEAD-clause-index c = λ parts read room. absurd (none_first c parts read)

none_in_parts : (c : goal.After-from_residual) (parts : List SealedFields) → value_of (store c.args.store.now 0) ≡ Ok parts → ⊥
none_in_parts c parts read =
    let holds = standing_store c.args.store.now parts (λ i. omega (arith, c.type_inv.store i)) read in
    let count = c.number8_at-count.ensures _ holds.few holds.count in
    let walked = c.in_err-parts.ensures.there parts holds.all_fit (sym count) holds.texts in
    cc

pub returns-in_err-parts-clause-value : goal.returns-in_err-parts-clause-value
returns-in_err-parts-clause-value c = λ parts read. absurd (none_in_parts c parts read)

pub returns-in_err-parts-clause-index : goal.returns-in_err-parts-clause-index
returns-in_err-parts-clause-index c = λ parts read room. absurd (none_in_parts c parts read)

none_in_shards : (c : goal.After-from_residual-in_err-shards) (parts : List SealedFields) → value_of (store c.args.store.now 0) ≡ Ok parts
    → ⊥
none_in_shards c parts read =
    let holds = standing_store c.args.store.now parts (λ i. omega (arith, c.type_inv.store i)) read in
    let count = c.number8_at-count.ensures _ holds.few holds.count in
    let first = c.in_ok-parts.ensures.value parts holds.all_fit (sym count) holds.texts in
    let told = c.in_ok-parts.ensures.sharded parts holds.all_fit (sym count) holds.texts in
    let walked = c.in_err-shards.ensures.value parts holds.all_fit (sym count) holds.texts (stood _ _ _ _ _ _ first) told in
    cc

pub returns-in_err-shards-clause-value : goal.returns-in_err-shards-clause-value
returns-in_err-shards-clause-value c = λ parts read. absurd (none_in_shards c parts read)

pub returns-in_err-shards-clause-index : goal.returns-in_err-shards-clause-index
returns-in_err-shards-clause-index c = λ parts read room. absurd (none_in_shards c parts read)

-- ---- both walks

walked : (c : In_ok-shards) (parts : List SealedFields) → value_of (store c.args.store.now 0) ≡ Ok parts
    → AreWalked c.args.index.now c.put_shards_behind.new.index parts c.in_ok-parts.parts.walk c.in_ok-shards.shards
walked c parts read =
    let holds = standing_store c.args.store.now parts (λ i. omega (arith, c.type_inv.store i)) read in
    let count = c.number8_at-count.ensures _ holds.few holds.count in
    let first = c.in_ok-parts.ensures.value parts holds.all_fit (sym count) holds.texts in
    let told = c.in_ok-parts.ensures.sharded parts holds.all_fit (sym count) holds.texts in
    are_walked c.args.store.now c.args.index.now c.put_parts.new.index c.put_shards_behind.new.index parts c.in_ok-parts.parts.walk
    c.in_ok-shards.shards holds c.requires.few
    first
    (c.in_ok-shards.ensures.value parts holds.all_fit (sym count) holds.texts (stood _ _ _ _ _ _ first) told)

pub returns-in_err-put_counts-clause-value : goal.returns-in_err-put_counts-clause-value
returns-in_err-put_counts-clause-value c = λ parts read.
    let are = walked (goal.at.returns-in_err-put_counts-clause-value c).In_ok-shards parts read in
    absurd (let none = c.in_err-put_counts.ensures.fits are.few_parts are.few_shards in cc)

pub returns-in_err-put_counts-clause-index : goal.returns-in_err-put_counts-clause-index
returns-in_err-put_counts-clause-index c = λ parts read room.
    let are = walked (goal.at.returns-in_err-put_counts-clause-index c).In_ok-shards parts read in
    absurd (let none = c.in_err-put_counts.ensures.fits are.few_parts are.few_shards in cc)

pub returns-clause-value : goal.returns-clause-value
returns-clause-value c = λ parts read.
    let are = walked (goal.at.returns-clause-value c).In_ok-shards parts read in
    ap Some (index_is_long c.args.index.now c.put_shards_behind.new.index parts c.in_ok-parts.parts.walk c.in_ok-shards.shards are)

pub returns-clause-index : goal.returns-clause-index
returns-clause-index c = λ parts read.
    let are = walked (goal.at.returns-clause-index c).In_ok-shards parts read in
    index_stands c.args.index.now c.put_shards_behind.new.index c.put_counts.new.index parts c.in_ok-parts.parts.walk c.in_ok-shards.shards are
    (c.in_ok-put_counts.ensures.words are.few_parts are.few_shards)
