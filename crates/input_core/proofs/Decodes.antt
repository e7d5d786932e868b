-- What a reader of query files gives.
use Rattle.std.proofs.Common.{◌≡◌, ℕ, zero, suc, List, [], ◌∷◌, map, Result, Ok, Err, ap, ◌∙◌, subst, IfOk, arith}
use Rattle.std.specs.Prelude.{All}
use Rattle.octets_core.specs.Layout.{with_fault}
use Rattle.octets_core.specs.Reading.{value_of, GivesUnless}
use Rattle.octets_core.specs.declared.fault.LayoutFault.{LayoutFault}
use Rattle.octets_core.proofs.Fields.{ok_is, mapped-ok}
use Rattle.octets_core.proofs.Texts.{IsBytes}
use Rattle.input_core.specs.declared.fault.QueriesFault.{QueriesFault}
use Rattle.input_core.specs.declared.fault.QueriesFault.TheVariants as faults
use Rattle.input_core.specs.declared.query.Asked.{Asked}
use Rattle.input_core.specs.Queries.{Query, as_query, QueryFits, QueriesFit}
use Rattle.input_core.specs.QueryText.{queries_text}
use Rattle.input_core.specs.QueryLayout.{query_file}
use Rattle.input_core.specs.QueryReading.{fielded, queries_in}
use Rattle.input_core.proofs.QueryTexts.{queries-again}
use Rattle.input_core.proofs.QueryReads.{queries-found}

of-value : {A : Type 0} (x : A) (read : Result (A × ℕ) QueriesFault) → value_of read ≡ Ok x → (n : ℕ) × (read ≡ Ok (x, n))
of-value {A} x (Ok y) h = (y.1, ap (λ (z : A). Ok (z, y.1)) (ok_is {E = QueriesFault} y.0 x h))
of-value x (Err e) h = absurd cc

found : (bytes : List ℕ) (qs : List Query) → IsBytes bytes → queries_in bytes ≡ Ok qs → (bytes ≡ queries_text qs) × QueriesFit qs
found bytes qs fits h =
    let a = of-value qs (fielded query_file bytes 0) h in
    queries-found bytes qs a.0 fits (mapped-ok faults.Layout query_file bytes 0 (qs, a.0) a.1)

pub spelled-of : {X : Type 0} (view : X → List Query) (bytes : List ℕ) (r : Result X QueriesFault) → IsBytes bytes → GivesUnless faults.NoMemory view r (queries_in bytes)
    → IfOk r (λ x. bytes ≡ queries_text (view x))
spelled-of view bytes (Ok x) fits h = (found bytes (view x) fits h).0
spelled-of view bytes (Err e) fits h = tt

pub fits-of : {X : Type 0} (view : X → List Query) (bytes : List ℕ) (r : Result X QueriesFault) → IsBytes bytes → GivesUnless faults.NoMemory view r (queries_in bytes)
    → IfOk r (λ x. QueriesFit (view x))
fits-of view bytes (Ok x) fits h = (found bytes (view x) fits h).1
fits-of view bytes (Err e) fits h = tt

all-of : (qs : List Asked) → All QueryFits (map as_query qs) → All (λ a. QueryFits (as_query a)) qs
all-of [] all k d lt = absurd (omega arith)
all-of (q ∷ qs) all zero d lt = all 0 (as_query q) (omega arith)
all-of (q ∷ qs) all (suc k) d lt = all-of qs (λ i e less. all (suc i) e (omega arith)) k d (omega arith)

pub each-of : {X : Type 0} (asked : X → List Asked) (r : Result X QueriesFault) → IfOk r (λ x. QueriesFit (map as_query (asked x))) → IfOk r (λ x. All (λ a. QueryFits (as_query a)) (asked x))
each-of asked (Ok x) fits = all-of (asked x) fits.each
each-of asked (Err e) fits = tt

pub only-of : {X : Type 0} (view : X → List Query) (bytes : List ℕ) (r : Result X QueriesFault) (qs : List Query) → GivesUnless faults.NoMemory view r (queries_in bytes)
    → QueriesFit qs → bytes ≡ queries_text qs → GivesUnless faults.NoMemory view r (Ok qs)
only-of view bytes r qs h fits is =
    let again : queries_in bytes ≡ Ok qs = ap queries_in is ∙ ap (λ (read : Result (List Query × ℕ) LayoutFault). value_of (with_fault faults.Layout read)) (queries-again qs fits) in
    subst (λ (f : Result (List Query) QueriesFault). GivesUnless faults.NoMemory view r f) again h
