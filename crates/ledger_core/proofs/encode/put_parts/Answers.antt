use Rattle.std.proofs.Common.{ℕ, List, ◌++◌, sym, ap, ◌∙◌, subst}
use Rattle.std.specs.Prelude.{All, flat_map}
use Rattle.std.proofs.lemmas.List.{take_all}
use Rattle.std.proofs.lemmas.List.Elements.{All-map}
use Rattle.std.proofs.lemmas.List.Folds.{flat_map-map}
use Rattle.ledger_core.specs.declared.fields.LedgerPart.{LedgerPart}
use Rattle.ledger_core.specs.LedgerFields.{part_fields}
use Rattle.ledger_core.specs.LedgerText.{part_text}
use Rattle.ledger_core.specs.Fitting.{IsSmall, PartFits}
use Rattle.ledger_core.proofs.Small.{at-place}
use Rattle.octets_core.proofs.Loops.{appended-more, all-more}
use Rattle.ledger_core.proofs.encode.put_parts.Goals as goal

pub loop-part-preserved : goal.loop-part-preserved
loop-part-preserved c = record {
  text = appended-more (λ p. part_text (part_fields p)) c.args.parts.now c.loop-part.part-index c.part-item.result c.args.out.now.items c.loop-part.out.items
      c.put_part.new.out.items c.loop-part-test.true c.part-item.is c.loop-part.invariant.text c.in_ok-put_part.ensures.text;
  fits = all-more (λ p. PartFits (part_fields p)) c.args.parts.now c.loop-part.part-index c.part-item.result c.loop-part-test.true c.part-item.is
      c.loop-part.invariant.fits c.in_ok-put_part.ensures.fits;
}

pub put_part-requires : goal.put_part-requires
put_part-requires c = at-place (λ p. IsSmall (part_fields p)) c.args.parts.now c.loop-part.part-index c.part-item.result c.loop-part-test.true c.part-item.is c.requires

pub returns-clause-text : goal.returns-clause-text
returns-clause-text c =
    let ps : List LedgerPart = c.args.parts.now in
    c.loop-part.invariant.text
    ∙ ap (λ (l : List LedgerPart). c.args.out.now.items ++ flat_map (λ p. part_text (part_fields p)) l) (take_all c.loop-part.part-index ps c.loop-part-test.false)
    ∙ ap (λ (l : List ℕ). c.args.out.now.items ++ l) (sym (flat_map-map part_text part_fields ps))

pub returns-clause-fits : goal.returns-clause-fits
returns-clause-fits c =
    let ps : List LedgerPart = c.args.parts.now in
    All-map PartFits part_fields ps
    (subst (λ (l : List LedgerPart). All (λ p. PartFits (part_fields p)) l) (take_all c.loop-part.part-index ps c.loop-part-test.false) c.loop-part.invariant.fits)
