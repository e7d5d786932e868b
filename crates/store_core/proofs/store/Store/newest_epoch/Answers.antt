use Rattle.std.proofs.Common.{◌∙◌, ◌-◌, ap, sym, subst, length, arith}
use Rattle.std.specs.Prelude.{◌≤◌, List}
use Rattle.ident_core.specs.HeadFields.{HeadFields}
use Rattle.card_core.specs.PartFields.{PartFields}
use Rattle.part_text.specs.SealedFields.{SealedFields}
use Rattle.store_core.specs.Newest.{epoch_of}
use Rattle.store_core.specs.Chain.{newest_of}
use Rattle.store_core.proofs.Growing.{newest-found}
use Rattle.store_core.proofs.store.Store.newest_epoch.Goals as goal

pub returns : goal.returns
returns c =
    let parts = c.parts-parts.result.now in
    let some : 1 ≤ length parts = subst (λ (l : List SealedFields). 1 ≤ length l) (sym c.parts-parts.ensures.value) c.parts-parts.ensures.some in
    c.epoch.ensures ∙ ap (λ (h : HeadFields). h.epoch) (c.head.ensures ∙ ap (λ (p : PartFields). p.head) c.part.ensures)
    ∙ sym (ap epoch_of (ap newest_of (sym c.parts-parts.ensures.value)
    ∙ newest-found parts (length parts - 1) c.index-parts-parts.result some (omega arith) c.index-parts-parts.is))
