-- Behind records that pass, the others are read from what is held behind them.
use Rattle.std.proofs.Common.{◌≡◌, ℕ, ◌+◌, List, [], ◌∷◌, ◌++◌, length, Some, Result, Ok, Err, refl, sym, ap, ◌∙◌, append_assoc, length-append, arith}
use Rattle.std.specs.Prelude.{flat_map}
use Rattle.job_core.specs.declared.bounds.Limits.{Limits}
use Rattle.job_core.specs.declared.fault.JobFault.{JobFault}
use Rattle.job_core.specs.JobLayout.{Item, HeldSoFar, with_item, next_item, with_serials, records}
use Rattle.job_core.specs.JobText.{record_text, Pass, held_behind, serials_behind, behind}
use Rattle.job_core.proofs.RecordTexts.{next-read}
use Rattle.job_core.proofs.Steps.{goes_on}

abbrev pub texts_of : List Item → List ℕ
texts_of xs = flat_map record_text xs

-- a record, and texts behind it
pub split : (before : List ℕ) (x : Item) (xs : List Item) (rest : List ℕ) → before ++ (texts_of (x ∷ xs) ++ rest) ≡ before ++ (record_text x ++ (texts_of xs ++ rest))
split before x xs rest = ap (λ (l : List ℕ). before ++ l) (append_assoc (record_text x) (texts_of xs) rest)

joined : (x : Item) (xs : List Item) (r : Result (List Item × ℕ) JobFault) → behind (x ∷ []) (behind xs r) ≡ behind (x ∷ xs) r
joined x xs (Ok y) = refl
joined x xs (Err e) = refl

none-behind : (r : Result (List Item × ℕ) JobFault) → r ≡ behind [] r
none-behind (Ok y) = refl
none-behind (Err e) = refl

pub passes : (brings : List ℕ → ℕ) (limits : Limits) (h : HeldSoFar) (serials : ℕ) (xs : List Item) (before rest : List ℕ) → Pass brings limits h serials xs
    → records brings limits h serials (before ++ (texts_of xs ++ rest)) (length before)
    ≡ behind xs (records brings limits (held_behind h xs) (serials_behind brings serials xs) (before ++ (texts_of xs ++ rest)) (length before + length (texts_of xs)))
passes brings limits h serials [] before rest pass =
    ap (λ (n : ℕ). records brings limits h serials (before ++ rest) n) (omega arith)
    ∙ none-behind (records brings limits h serials (before ++ rest) (length before + 0))
passes brings limits h serials (x ∷ xs) before rest pass =
    let n : ℕ = with_serials brings serials x in
    let B : List ℕ = before ++ (record_text x ++ (texts_of xs ++ rest)) in
    let next : next_item limits h B (length before) ≡ Ok (Some x, length before + length (record_text x)) = (next-read limits h before x pass.0).each (texts_of xs ++ rest) in
    let later = passes brings limits (with_item h x) n xs (before ++ record_text x) rest pass.2 in
    let moved : B ≡ (before ++ record_text x) ++ (texts_of xs ++ rest) = sym (append_assoc before (record_text x) (texts_of xs ++ rest)) in
    let place : length before + length (record_text x) ≡ length (before ++ record_text x) = omega (arith, length-append before (record_text x)) in
    let end : length (before ++ record_text x) + length (texts_of xs) ≡ length before + length (texts_of (x ∷ xs))
    = omega (arith, length-append before (record_text x), length-append (record_text x) (texts_of xs)) in
    let H : HeldSoFar = held_behind (with_item h x) xs in
    let S : ℕ = serials_behind brings n xs in
    rw (split before x xs rest)
    (goes_on brings limits h serials B (length before) x (length before + length (record_text x)) next pass.1
    ∙ ap (behind (x ∷ []))
    (ap (λ (q : ℕ). records brings limits (with_item h x) n B q) place
    ∙ ap (λ (l : List ℕ). records brings limits (with_item h x) n l (length (before ++ record_text x))) moved
    ∙ later
    ∙ ap (λ (l : List ℕ). behind xs (records brings limits H S l (length (before ++ record_text x) + length (texts_of xs)))) (sym moved)
    ∙ ap (λ (q : ℕ). behind xs (records brings limits H S B q)) end)
    ∙ joined x xs (records brings limits H S B (length before + length (texts_of (x ∷ xs)))))
