use Rattle.std.proofs.Common.{◌∙◌, List, ap, slice_index_or}
use Rattle.card_core.specs.declared.verdict.Verdict.{Verdict}
use Rattle.store_core.proofs.Verdicts.{said-more}
use Rattle.store_core.proofs.asking.four_said_by.Goals as goal

pub loop-sealed-preserved : goal.loop-sealed-preserved
loop-sealed-preserved g c =
    let parts = c.args.parts.now in
    let said = c.four_verdicts.ensures in
    let before = c.loop-sealed.invariant in
    record {
      same_a = said.a ∙ before.same_a;
      same_b = said.b ∙ before.same_b;
      same_c = said.c ∙ before.same_c;
      same_d = said.d ∙ before.same_d;
      of_a = c.joined_with-of_a.ensures ∙ said-more c.args.a.now c.loop-sealed.a parts c.loop-sealed.sealed-index c.sealed-item.result c.part-part.result.now c.loop-sealed.of_a _
          c.loop-sealed-test.true c.sealed-item.is c.part-part.ensures before.same_a before.of_a (ap (λ (l : List Verdict). slice_index_or l 0 _) said.said);
      of_b = c.joined_with-of_b.ensures ∙ said-more c.args.b.now c.loop-sealed.b parts c.loop-sealed.sealed-index c.sealed-item.result c.part-part.result.now c.loop-sealed.of_b _
          c.loop-sealed-test.true c.sealed-item.is c.part-part.ensures before.same_b before.of_b (ap (λ (l : List Verdict). slice_index_or l 1 _) said.said);
      of_c = c.joined_with-of_c.ensures ∙ said-more c.args.c.now c.loop-sealed.c parts c.loop-sealed.sealed-index c.sealed-item.result c.part-part.result.now c.loop-sealed.of_c _
          c.loop-sealed-test.true c.sealed-item.is c.part-part.ensures before.same_c before.of_c (ap (λ (l : List Verdict). slice_index_or l 2 _) said.said);
      of_d = c.joined_with-of_d.ensures ∙ said-more c.args.d.now c.loop-sealed.d parts c.loop-sealed.sealed-index c.sealed-item.result c.part-part.result.now c.loop-sealed.of_d _
          c.loop-sealed-test.true c.sealed-item.is c.part-part.ensures before.same_d before.of_d (ap (λ (l : List Verdict). slice_index_or l 3 _) said.said);
    }
