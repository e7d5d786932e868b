use Rattle.std.proofs.Common.{ℕ, List, Option, Some, Result, ap, ◌∙◌}
use Rattle.std.proofs.lemmas.Result.{err_from_is_err_and}
use Rattle.octets_core.specs.Layout.{Layout, with_fault}
use Rattle.octets_core.specs.Linked.{is_after}
use Rattle.octets_core.specs.Reading.{key}
use Rattle.octets_core.specs.declared.field.Field.TheVariants as fields
use Rattle.octets_core.specs.declared.fault.LayoutFault.{LayoutFault}
use Rattle.octets_core.proofs.Repeated.{goes_on, ends, is_done}
use Rattle.ledger_core.specs.declared.fault.LedgerFault.{LedgerFault}
use Rattle.ledger_core.specs.declared.fault.LedgerFault.TheVariants as faults
use Rattle.ledger_core.proofs.decode.issuers_of.Goals as goal

abbrev issuer_after : Option (List ℕ) → Layout LayoutFault (List ℕ)
issuer_after previous = key fields.LedgerIssuer (is_after previous)

abbrev next : Option (List ℕ) → List ℕ → Option (List ℕ)
next previous issuer = Some issuer

abbrev wrapped : Result (List (List ℕ) × ℕ) LayoutFault → Result (List (List ℕ) × ℕ) LedgerFault
wrapped read = with_fault faults.Layout read

pub returns-in_err-issuer : goal.returns-in_err-issuer
returns-in_err-issuer c =
    let p = err_from_is_err_and c.from_residual-in_err-issuer.result c.from_residual-in_err-issuer.ensures.1 in
    rw (p.1, p.2) (λ wants. ap wrapped (ends issuer_after next c.loop.issuers.items c.args.count c.loop.counter c.loop.previous c.loop.cursor.bytes
    c.loop.cursor.at c.in_err-issuer.field-0.0 _ c.loop-test.true c.in_err-issuer.ensures.0 c.loop.invariant.read))

pub loop-preserved : goal.loop-preserved
loop-preserved c =
    let read = c.in_ok-issuer.ensures in
    record {
      read = rw (c.in_ok-push.ensures.items, read.1) (goes_on issuer_after next c.loop.issuers.items c.args.count c.loop.counter c.loop.previous
          c.loop.cursor.bytes c.loop.cursor.at c.in_ok-issuer.issuer c.read_key_after.new.cursor.at _ c.loop-test.true read.0 c.loop.invariant.read);
      same = read.1 ∙ c.loop.invariant.same;
    }

pub returns : goal.returns
returns c =
    let all = is_done issuer_after next c.loop.issuers.items c.args.count c.loop.counter c.loop.previous c.loop.cursor.bytes c.loop.cursor.at _ c.loop-test.false c.loop.invariant.read in
    (ap wrapped all, c.loop.invariant.same)
