-- Entries that are taken from a page or from a piece.
use Rattle.std.proofs.Common.{◌≡◌, ℕ, zero, suc, ◌+◌, ◌*◌, ◌-◌, ◌≤◌, ◌<◌, List, [], ◌∷◌, ◌++◌, length, map, take, drop, get_or, Some, None, Option, Ok, refl, sym, ap, subst, ◌∙◌, append_assoc, length-append, arith}
use Rattle.std.specs.Prelude.{All, flat_map}
use Rattle.std.specs.Int.{w8, w64, to_be_bytes}
use Rattle.std.proofs.lemmas.List.{length-map}
use Rattle.std.proofs.lemmas.List.Elements.{All-nil, All-cons}
use Rattle.std.proofs.Math.Seq.{take-append_seam, drop-append_seam}
use Rattle.octets_core.specs.Linked.{Linked}
use Rattle.ident_core.specs.declared.range.Range.{Range}
use Rattle.ident_core.specs.RangeText.{range_text, FitsRange}
use Rattle.job_core.specs.JobLayout.{CrlText, EntryText}
use Rattle.job_core.specs.JobText.{JobContents, FitsEntry, FitsJob, opening_text, range_record, crl_record, entry_record, spelling}
use Rattle.gather_core.specs.declared.counting.Tally.{Tally}
use Rattle.gather_core.specs.declared.page.PageEntry.{PageEntry}
use Rattle.gather_core.specs.declared.texts.EntryTexts.{EntryTexts}
use Rattle.gather_core.specs.Pages.{PageFields, fields_of, EntryFits}
use Rattle.gather_core.specs.Raw.{of_log, piece_limits, raw_job, opened_text}
use Rattle.gather_core.specs.Opened.{Counts, Holds, records_of}
use Rattle.gather_core.proofs.Joining.{spelling-opened}

-- ---- of a page

-- as those of a log
abbrev pub texts : List ℕ → List PageEntry → List EntryText
texts log entries = map (of_log log) (map fields_of entries)

entry-fits : (log : List ℕ) (e : PageFields) → length log ≡ 32 → EntryFits e → FitsEntry (of_log log e)
entry-fits log e key fits = (key, omega (arith, fits.0), omega (arith, fits.1))

length-texts : (log : List ℕ) (entries : List PageEntry) → length (texts log entries) ≡ length entries
length-texts log entries = length-map (map fields_of entries) (of_log log) ∙ length-map entries fields_of

all-fit-by : (log : List ℕ) (xs : List PageFields) → length log ≡ 32 → All EntryFits xs → All FitsEntry (map (of_log log) xs)
all-fit-by log [] key fits = All-nil FitsEntry
all-fit-by log (x ∷ xs) key fits =
    All-cons FitsEntry (of_log log x) (map (of_log log) xs) (entry-fits log x key (fits 0 x (omega arith))) (all-fit-by log xs key (λ k d lt. fits (suc k) d (omega (arith, lt))))

all-fit : (log : List ℕ) (entries : List PageEntry) → length log ≡ 32 → All EntryFits (map fields_of entries) → All FitsEntry (texts log entries)
all-fit log entries key fits = all-fit-by log (map fields_of entries) key fits

pub held-page : (t : EntryTexts) (log : List ℕ) (entries : List PageEntry) (n : ℕ) → length log ≡ 32 → All EntryFits (map fields_of entries)
    → records_of t ≡ flat_map entry_record (texts log (take n entries)) → take n entries ≡ entries → t.count ≡ length entries → Holds t (texts log entries)
held-page t log entries n key fits text all count = record {
  text = text ∙ ap (λ (l : List PageEntry). flat_map entry_record (texts log l)) all;
  count = count ∙ sym (length-texts log entries);
  fit = all-fit log entries key fits;
}

pub fits-at : (entries : List PageEntry) (n : ℕ) (e : PageEntry) → All EntryFits (map fields_of entries) → n < length entries → e ≡ get_or entries n e → EntryFits (fields_of e)
fits-at [] n e fits lt at = absurd (omega (arith, lt))
fits-at (x ∷ xs) zero e fits lt at = subst (λ (y : PageEntry). EntryFits (fields_of y)) (sym at) (fits 0 (fields_of x) (omega arith))
fits-at (x ∷ xs) (suc n) e fits lt at = fits-at xs n e (λ k d less. fits (suc k) d (omega (arith, less))) (omega (arith, lt)) at

-- ---- of a piece

range-length : (r : Range) (previous : Option (List ℕ)) → FitsRange previous r → length (range_record r) ≡ 49
range-length r previous fits =
    let from : List ℕ = r.log ++ to_be_bytes w64 r.from in
    let text : length (range_text r) ≡ length from + 8 = length-append from (to_be_bytes w64 r.to) in
    let front : length from ≡ length r.log + 8 = length-append r.log (to_be_bytes w64 r.from) in
    omega (arith, text, front, fits.1.0)

ranges-length : (previous : Option (List ℕ)) (rs : List Range) → Linked FitsRange (λ previous r. Some r.log) previous rs → length (flat_map range_record rs) ≡ 49 * length rs
ranges-length previous [] linked = omega arith
ranges-length previous (r ∷ rs) linked =
    omega (arith, range-length r previous linked.0, ranges-length (Some r.log) rs linked.1, length-append (range_record r) (flat_map range_record rs))

no_crls : (crls : List CrlText) → length crls ≤ 0 → crls ≡ []
no_crls [] few = refl
no_crls (c ∷ cs) few = absurd (omega (arith, few))

-- the entries stand between the opening with the ranges and the end
piece-cut : (bytes : List ℕ) (n : Tally) (j : JobContents) → bytes ≡ spelling j → FitsJob piece_limits j → n.ranges ≡ length j.ranges
    → drop (24 + 49 * n.ranges) (take (length bytes - 1) bytes) ≡ flat_map entry_record j.entries
piece-cut bytes n j is fits count =
    let O : List ℕ = opening_text j.epoch j.moment in
    let R : List ℕ = flat_map range_record j.ranges in
    let E : List ℕ = flat_map entry_record j.entries in
    let none : j.crls ≡ [] = no_crls j.crls fits.few_crls in
    let opened : opened_text j ≡ (O ++ R) ++ E = ap (λ (cs : List CrlText). O ++ (R ++ (flat_map crl_record cs ++ E))) none ∙ sym (append_assoc O R E) in
    let all : bytes ≡ ((O ++ R) ++ E) ++ to_be_bytes w8 0 = is ∙ spelling-opened j ∙ ap (λ (l : List ℕ). l ++ to_be_bytes w8 0) opened in
    let before : 24 + 49 * n.ranges ≡ length (O ++ R) = omega (arith, count, length-append O R, ranges-length None j.ranges fits.ranges) in
    let size : length bytes ≡ length ((O ++ R) ++ E) + 1 = ap (λ (l : List ℕ). length l) all ∙ length-append ((O ++ R) ++ E) (to_be_bytes w8 0) in
    let last : length bytes - 1 ≡ length ((O ++ R) ++ E) = omega (arith, size) in
    ap (λ (k : ℕ). drop (24 + 49 * n.ranges) (take k bytes)) last
    ∙ ap (λ (l : List ℕ). drop (24 + 49 * n.ranges) (take (length ((O ++ R) ++ E)) l)) all
    ∙ ap (drop (24 + 49 * n.ranges)) (take-append_seam ((O ++ R) ++ E) (to_be_bytes w8 0))
    ∙ ap (λ (k : ℕ). drop k ((O ++ R) ++ E)) before
    ∙ drop-append_seam (O ++ R) E

pub piece-held : (bytes : List ℕ) (n : Tally) (t : EntryTexts) → Counts piece_limits bytes (Ok n)
    → t.start ≡ 24 + 49 * n.ranges → t.text.items ≡ take (length bytes - 1) bytes → t.count ≡ n.entries
    → (j : JobContents) × (raw_job piece_limits bytes ≡ Ok j) × (n.epoch ≡ j.epoch) × Holds t j.entries
piece-held bytes n t (j, raw, is, fits, epoch, ranges, count) start popped same =
    let text : records_of t ≡ flat_map entry_record j.entries = rw (start, popped) (piece-cut bytes n j is fits ranges) in
    (j, raw, epoch, record { text = text; count = same ∙ count; fit = fits.entries })
