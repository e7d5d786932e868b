use Rattle.std.proofs.Common.{[], ◌∷◌, arith, length-append}
use Rattle.piece_core.proofs.Growing.{one_more}
use Rattle.piece_core.proofs.texts.begun_texts.Goals as goal

pub loop-alloc-preserved : goal.loop-alloc-preserved
loop-alloc-preserved c =
    let text = c.in_ok-to_vec.field-0 in
    rw c.in_ok-push.ensures.items (record {
      few = omega (arith, c.loop-alloc-test.true, c.len.ensures, c.get-places.ensures.value, length-append c.loop-alloc.texts.items (text ∷ []));
      each = one_more c.loop-alloc.texts.items text c.args.begin.now (c.in_ok-to_vec.ensures.items_if_clones_equal (λ x y is. is)) c.loop-alloc.invariant.each;
    })
