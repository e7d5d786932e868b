-- What the bytes of a file that holds a store are read as.
use Rattle.std.proofs.Common.{◌≡◌, ℕ, ◌+◌, ◌<◌, List, ◌++◌, length, take, drop, Ok, Err, sym, ap, ◌∙◌, arith, length-append}
use Rattle.std.proofs.lemmas.List.{length-take}
use Rattle.octets_core.specs.Reading.{fault_at}
use Rattle.octets_core.specs.declared.field.Field.TheVariants as fields
use Rattle.octets_core.specs.declared.fault.Why.TheVariants as why
use Rattle.store_core.specs.StoreLayout.{store_parts}
use Rattle.store_core.specs.StoreReading.{EndsAs}
use Rattle.store_core.proofs.StoreReads.{parts-more, piece-parts}
use Rattle.input_core.specs.declared.fault.FileFault.TheVariants as faults
use Rattle.input_core.specs.Faults.{of_store}
use Rattle.input_core.specs.Readings.{faulted, store_in}

-- bytes stand behind the store
pub store-behind : (b w x : List ℕ) (n : ℕ) → n < length w → EndsAs (b ++ take n w) → store_in (b ++ w ++ x) ≡ Err (faults.Layout (fault_at why.Value fields.End (length b + n)))
store-behind b w x n lt ends =
    let whole = ends (drop n w ++ x) in
    let size : length (b ++ take n w) ≡ length b + n = omega (arith, length-append b (take n w), length-take n w, lt) in
    let behind : length b + n < length (b ++ w ++ x) = omega (arith, length-append (b ++ w) x, length-append b w, lt) in
    ap (faulted of_store) (parts-more (b ++ w ++ x) whole.0 (length b + n) behind
    (ap (λ (l : List ℕ). store_parts l 0) (sym (piece-parts b w x n)) ∙ whole.1 ∙ ap (λ (i : ℕ). Ok (whole.0, i)) size))
