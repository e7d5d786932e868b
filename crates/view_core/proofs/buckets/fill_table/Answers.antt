use Rattle.std.proofs.Common.{◌≡◌, ◌<◌, ◌∙◌, ℕ, length, get_or, refl, sym, ap, arith}
use Rattle.std.specs.Prelude.{nat_lt}
use Rattle.std.proofs.lemmas.List.{length-set}
use Rattle.view_core.specs.Index.{bucket_in}
use Rattle.view_core.proofs.BucketFills.{filled_none, filled_block, filled_word, filled_all}
use Rattle.view_core.proofs.Filling.{no_block}
use Rattle.view_core.proofs.PlaceSearch.{as_many, stands_block, issuer_stands, in_order}
use Rattle.view_core.proofs.buckets.fill_table.Goals as goal

pub loop-bucket-init : goal.loop-bucket-init
loop-bucket-init c = record {
  value = λ at blocks are wide. filled_none blocks c.args.table.now;
  block = omega arith;
  len = omega arith;
}

pub loop-bucket-preserved-then-comes_before : goal.loop-bucket-preserved-then-comes_before
loop-bucket-preserved-then-comes_before c = record {
  value = λ at blocks are wide.
      let inside = c.if-comes_before.ensures.within refl in
      let s = stands_block c.args.bytes.now at c.args.places.now blocks c.loop-bucket.block no_block are inside in
      let told = c.if-comes_before.ensures.value _ s.0.issuer inside (issuer_stands c.args.bytes.now _ (get_or blocks c.loop-bucket.block no_block) s.1) in
      let long : length c.loop-bucket.table ≡ length blocks
      = c.loop-bucket.invariant.len ∙ wide ∙ as_many c.args.bytes.now at c.args.places.now blocks are in
      filled_block blocks c.loop-bucket.table c.loop-bucket.block c.loop-bucket.bucket (c.loop-bucket.invariant.value at blocks are wide)
      (ap (λ (n : ℕ). nat_lt (bucket_in n (get_or blocks c.loop-bucket.block no_block).issuer) c.loop-bucket.bucket) (sym long)
      ∙ sym told);
  block = omega (arith, c.if-comes_before.ensures.within refl);
  len = c.loop-bucket.invariant.len;
}

pub loop-bucket-preserved : goal.loop-bucket-preserved
loop-bucket-preserved c = record {
  value = λ at blocks are wide.
      let many = as_many c.args.bytes.now at c.args.places.now blocks are in
      let long : length c.loop-bucket.table ≡ length blocks = c.loop-bucket.invariant.len ∙ wide ∙ many in
      filled_word blocks c.loop-bucket.table c.loop-bucket.block c.loop-bucket.bucket
      (in_order c.args.bytes.now at c.args.places.now blocks (λ i. omega (arith, c.type_inv.bytes i)) are)
      (c.loop-bucket.invariant.value at blocks are wide) c.loop-bucket-test.true (omega (arith, c.loop-bucket.invariant.block, many))
      (λ lt.
      let inside : c.loop-bucket.block < length c.args.places.now = omega (arith, lt, many) in
      let s = stands_block c.args.bytes.now at c.args.places.now blocks c.loop-bucket.block no_block are inside in
      let told = c.if-comes_before.ensures.value _ s.0.issuer inside (issuer_stands c.args.bytes.now _ (get_or blocks c.loop-bucket.block no_block) s.1) in
      ap (λ (n : ℕ). nat_lt (bucket_in n (get_or blocks c.loop-bucket.block no_block).issuer) c.loop-bucket.bucket) (sym long)
      ∙ sym told);
  block = c.loop-bucket.invariant.block;
  len = length-set c.loop-bucket.table c.loop-bucket.bucket c.loop-bucket.block ∙ c.loop-bucket.invariant.len;
}

pub returns-clause-value : goal.returns-clause-value
returns-clause-value c = λ at blocks are wide.
    filled_all blocks c.loop-bucket.table c.loop-bucket.block c.loop-bucket.bucket (c.loop-bucket.invariant.value at blocks are wide)
    (c.loop-bucket.invariant.len ∙ wide ∙ as_many c.args.bytes.now at c.args.places.now blocks are) c.loop-bucket-test.false
