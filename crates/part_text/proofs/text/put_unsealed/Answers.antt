use Rattle.std.proofs.Common.{◌≡◌, List, Some, None, true, subst}
use Rattle.std.specs.Prelude.{All}
use Rattle.octets_core.specs.Linked.{is_after}
use Rattle.card_core.specs.declared.block.Block.{Block}
use Rattle.ident_core.specs.HeadFields.{HeadFields}
use Rattle.part_text.specs.Fitting.{BlockFits, FitsHead}
use Rattle.octets_core.proofs.Loops.{Linked-with}
use Rattle.part_text.proofs.text.put_unsealed.Goals as goal

pub returns-clause-fits : goal.returns-clause-fits
returns-clause-fits g c = record {
  facts = c.blocks-blocks.ensures.facts;
  head = subst (λ (h : HeadFields). FitsHead h) c.head.ensures c.in_ok-put_head.ensures.fits;
  blocks = Linked-with (λ previous b. is_after previous b.issuer ≡ true) BlockFits (λ previous b. Some b.issuer) None c.args.part.now.blocks c.blocks-blocks.ensures.facts.ascending
      (subst (λ (bs : List Block). All BlockFits bs) c.blocks-blocks.ensures.value c.in_ok-put_blocks.ensures.fits);
}
