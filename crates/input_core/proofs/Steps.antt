-- Reading queries off a cursor, one after the other.
use Rattle.std.proofs.Common.{◌≡◌, ℕ, ◌+◌, ◌-◌, ◌<◌, ◌≤◌, List, [], ◌∷◌, ◌++◌, map, Result, Ok, Err, refl, ap, ◌∙◌}
use Rattle.std.proofs.lemmas.List.{map-append}
use Rattle.octets_core.specs.Layout.{Layout, with_fault}
use Rattle.octets_core.specs.declared.fault.LayoutFault.{LayoutFault}
use Rattle.octets_core.proofs.Repeated.{with_front, goes_on, ends, is_done}
use Rattle.octets_core.proofs.Fields.{mapped-ok}
use Rattle.input_core.specs.declared.fault.QueriesFault.{QueriesFault}
use Rattle.input_core.specs.declared.fault.QueriesFault.TheVariants as faults
use Rattle.input_core.specs.declared.query.Asked.{Asked}
use Rattle.input_core.specs.Queries.{Query, as_query}
use Rattle.input_core.specs.QueryLayout.{query, many}
use Rattle.input_core.specs.QueryReading.{fielded}

abbrev each : Unit {0} → Layout LayoutFault Query
each s = query

abbrev same : Unit {0} → Query → Unit {0}
same s x = s

pub queries-go_on : (qs : List Asked) (q : Asked) (count i : ℕ) (bytes : List ℕ) (at end : ℕ) (total : Result (List Query × ℕ) LayoutFault) → i < count
    → fielded query bytes at ≡ Ok (as_query q, end) → with_front (map as_query qs) (many query (count - i) bytes at) ≡ total
    → with_front (map as_query (qs ++ q ∷ [])) (many query (count - (i + 1)) bytes end) ≡ total
queries-go_on qs q count i bytes at end total lt read so_far =
    let one = mapped-ok faults.Layout query bytes at (as_query q, end) read in
    rw (map-append as_query qs (q ∷ [])) (goes_on each same (map as_query qs) count i tt bytes at (as_query q) end total lt one so_far)

ends-with : (front : List Query) (count i : ℕ) (bytes : List ℕ) (at : ℕ) (e : QueriesFault) (read : Result (Query × ℕ) LayoutFault) (total : Result (List Query × ℕ) LayoutFault) → i < count
    → query bytes at ≡ read → with_fault faults.Layout read ≡ Err e → with_front front (many query (count - i) bytes at) ≡ total → with_fault faults.Layout total ≡ Err e
ends-with front count i bytes at e (Ok x) total lt is fault so_far = absurd cc
ends-with front count i bytes at e (Err f) total lt is fault so_far =
    ap (λ (r : Result (List Query × ℕ) LayoutFault). with_fault faults.Layout r) (ends each same front count i tt bytes at f total lt is so_far) ∙ ap (λ (d : QueriesFault). Err d) cc

pub queries-end : (qs : List Asked) (count i : ℕ) (bytes : List ℕ) (at : ℕ) (e : QueriesFault) (total : Result (List Query × ℕ) LayoutFault) → i < count
    → fielded query bytes at ≡ Err e → with_front (map as_query qs) (many query (count - i) bytes at) ≡ total → with_fault faults.Layout total ≡ Err e
queries-end qs count i bytes at e total lt fault so_far = ends-with (map as_query qs) count i bytes at e (query bytes at) total lt refl fault so_far

pub queries-done : (qs : List Asked) (count i : ℕ) (bytes : List ℕ) (at : ℕ) (total : Result (List Query × ℕ) LayoutFault) → count ≤ i
    → with_front (map as_query qs) (many query (count - i) bytes at) ≡ total → with_fault faults.Layout total ≡ Ok (map as_query qs, at)
queries-done qs count i bytes at total le so_far =
    ap (λ (r : Result (List Query × ℕ) LayoutFault). with_fault faults.Layout r) (is_done each same (map as_query qs) count i tt bytes at total le so_far)
