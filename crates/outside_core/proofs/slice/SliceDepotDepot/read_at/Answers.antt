use Rattle.std.proofs.Common.{◌≡◌, [], refl, sym, ap, ◌∙◌, inr}
use Rattle.std.specs.FinMap.{get, insert, empty}
use Rattle.outside_core.proofs.SliceFiles.{held-there, none-there}
use Rattle.outside_core.proofs.slice.SliceDepotDepot.read_at.Goals as goal

pub returns-then-not-is_empty-clause-cause : goal.returns-then-not-is_empty-clause-cause
returns-then-not-is_empty-clause-cause c =
    inr ((insert empty [] c.args.self.now.bytes.now, refl, none-there c.args.self.now.bytes.now c.args.name.now (sym c.is_empty.ensures ∙ c.if-not-is_empty.true)), refl)

pub returns-clause-bytes : goal.returns-clause-bytes
returns-clause-bytes c = λ files e.
    let same : insert empty [] c.args.self.now.bytes.now ≡ files = cc in (
      c.args.self.now.bytes.now,
      ap (λ f. get f c.args.name.now) (sym same)
          ∙ held-there c.args.self.now.bytes.now c.args.name.now (sym c.is_empty.ensures ∙ c.if-not-is_empty.false),
      c.copy_from.ensures.piece,
    )
