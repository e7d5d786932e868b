-- What a decoder of ledgers gives.
use Rattle.std.proofs.Common.{◌≡◌, ℕ, List, Result, Ok, Err, ap, subst, IfOk}
use Rattle.octets_core.specs.Position.{Position, start_of}
use Rattle.octets_core.specs.Layout.{with_fault}
use Rattle.octets_core.specs.Reading.{value_of, GivesUnless}
use Rattle.octets_core.specs.declared.fault.LayoutFault.{LayoutFault}
use Rattle.octets_core.proofs.Fields.{ok_is, mapped-ok}
use Rattle.octets_core.proofs.Texts.{IsBytes}
use Rattle.ledger_core.specs.declared.fault.LedgerFault.{LedgerFault}
use Rattle.ledger_core.specs.declared.fault.LedgerFault.TheVariants as faults
use Rattle.ledger_core.specs.LedgerFields.{LedgerFields}
use Rattle.ledger_core.specs.LedgerText.{IsText}
use Rattle.ledger_core.specs.LedgerLayout.{body, ledger}
use Rattle.ledger_core.specs.LedgerReading.{fielded, ledger_of_bytes}
use Rattle.ledger_core.specs.Fitting.{Fits}
use Rattle.ledger_core.proofs.LedgerTexts.{text-again}
use Rattle.ledger_core.proofs.LedgerReads.{body-leaves, ledger-found}

-- what was read off a cursor that began at the first byte
pub body-fits : (bytes : List ℕ) → IsBytes bytes → (old new : Position) (l : LedgerFields) → old ≡ start_of bytes → fielded body old.bytes old.at ≡ Ok (l, new.at) → Fits l
body-fits bytes fits old new l is h =
    let from : fielded body bytes 0 ≡ Ok (l, new.at) = subst (λ (q : Position). fielded body q.bytes q.at ≡ Ok (l, new.at)) is h in
    ((body-leaves bytes fits).each (l, new.at) (mapped-ok faults.Layout body bytes 0 (l, new.at) from)).fits

of-value : {A : Type 0} (x : A) (read : Result (A × ℕ) LedgerFault) → value_of read ≡ Ok x → (n : ℕ) × (read ≡ Ok (x, n))
of-value {A} x (Ok y) h = (y.1, ap (λ (z : A). Ok (z, y.1)) (ok_is {E = LedgerFault} y.0 x h))
of-value x (Err e) h = absurd cc

found : (bytes : List ℕ) (l : LedgerFields) → IsBytes bytes → ledger_of_bytes bytes ≡ Ok l → IsText l bytes × Fits l
found bytes l fits h =
    let a = of-value l (fielded ledger bytes 0) h in
    ledger-found bytes l a.0 fits (mapped-ok faults.Layout ledger bytes 0 (l, a.0) a.1)

pub spelled-of : (bytes : List ℕ) (r : Result LedgerFields LedgerFault) → IsBytes bytes
    → GivesUnless faults.NoMemory (λ (l : LedgerFields). l) r (ledger_of_bytes bytes) → IfOk r (λ l. IsText l bytes)
spelled-of bytes (Ok l) fits h = (found bytes l fits h).0
spelled-of bytes (Err e) fits h = tt

pub fits-of : (bytes : List ℕ) (r : Result LedgerFields LedgerFault) → IsBytes bytes → GivesUnless faults.NoMemory (λ (l : LedgerFields). l) r (ledger_of_bytes bytes) → IfOk r (λ l. Fits l)
fits-of bytes (Ok l) fits h = (found bytes l fits h).1
fits-of bytes (Err e) fits h = tt

pub only-of : (bytes : List ℕ) (r : Result LedgerFields LedgerFault) (l : LedgerFields) → GivesUnless faults.NoMemory (λ (l : LedgerFields). l) r (ledger_of_bytes bytes)
    → Fits l → IsText l bytes → GivesUnless faults.NoMemory (λ (l : LedgerFields). l) r (Ok l)
only-of bytes r l h fits is =
    let again : ledger_of_bytes bytes ≡ Ok l = ap (λ (read : Result (LedgerFields × ℕ) LayoutFault). value_of (with_fault faults.Layout read)) (text-again l bytes fits is) in
    subst (λ (f : Result LedgerFields LedgerFault). GivesUnless faults.NoMemory (λ (l : LedgerFields). l) r f) again h
