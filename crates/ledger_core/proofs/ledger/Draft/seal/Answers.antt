use Rattle.std.proofs.Common.{◌-◌, refl, sym, subst, arith}
use Rattle.ledger_core.specs.LedgerFields.{LedgerFields, ledger_fields, IsLedger}
use Rattle.ledger_core.proofs.Seals.{IsLedger-sealed, seal-is}
use Rattle.ledger_core.proofs.ledger.Draft.seal.Goals as goal

pub invariant_of-result : goal.invariant_of-result
invariant_of-result c =
    let l : LedgerFields = ledger_fields c.self.inside.parts.items c.self.inside.items.items in
    let is = seal-is c.self.inside.parts.items c.self.inside.items.items (c.len-newest.result - 1) c.index_mut.result.now l c.args.trailer refl
    (omega (arith, c.len-newest.ensures, c.self.inside.parts.ok.0)) c.index_mut.ensures.value in
    subst (λ (k : LedgerFields). IsLedger k) (sym is) (IsLedger-sealed l c.args.trailer c.self.invariant)

pub returns : goal.returns
returns c =
    seal-is c.self.inside.parts.items c.self.inside.items.items (c.len-newest.result - 1) c.index_mut.result.now c.args.self c.args.trailer
    c.self.view_is (omega (arith, c.len-newest.ensures, c.self.inside.parts.ok.0)) c.index_mut.ensures.value
