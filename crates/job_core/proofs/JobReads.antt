-- The text of what a job holds is read as its meaning, or its serials are too many.
use Rattle.std.proofs.Common.{◌≡◌, ℕ, suc, ◌+◌, ◌-◌, ◌≤◌, ◌<◌, ◌^◌, ◌⊎◌, List, [], ◌∷◌, ◌++◌, length, Some, None, Result, Ok, Err, refl, sym, ap, subst, ◌∙◌}
use Rattle.std.proofs.Common.{append_assoc, length-append, arith, inl, inr, IfOk, OnOk}
use Rattle.std.specs.Prelude.{All, map, flat_map, codes}
use Rattle.std.specs.Int.{w8, w64, to_be_bytes}
use Rattle.std.specs.Str.{bytes_eq}
use Rattle.std.proofs.lemmas.Bool.{cases_lt, le-ltb, le-leb, lt-leb}
use Rattle.std.proofs.lemmas.List.{append-nil}
use Rattle.octets_core.specs.Layout.{Layout, then_read, ◌>>=◌, whole}
use Rattle.octets_core.specs.Linked.{Linked}
use Rattle.octets_core.specs.Reading.{value_of, end}
use Rattle.octets_core.proofs.Texts.{IsRead, reads, done, from_front, bytes_field-read, number_field-read, wide64}
use Rattle.ident_core.specs.declared.range.Range.{Range}
use Rattle.ident_core.specs.RangeText.{FitsRange}
use Rattle.ident_core.proofs.RangeTexts.{below_limit}
use Rattle.job_core.specs.declared.bounds.Limits.{Limits}
use Rattle.job_core.specs.declared.bounds.What.TheVariants as what
use Rattle.job_core.specs.declared.fault.JobFault.{JobFault}
use Rattle.job_core.specs.declared.fault.JobFault.TheVariants as faults
use Rattle.job_core.specs.JobLayout.{fielded, CrlText, EntryText, HeldSoFar, nothing_held, Item, OneRange, OneCrl, OneEntry, with_item, serials_of, with_serials, next_item, records}
use Rattle.job_core.specs.JobLayout.{opening, JobTexts, job}
use Rattle.job_core.specs.JobText.{JobContents, range_record, crl_record, entry_record, record_text, opening_text, spelling}
use Rattle.job_core.specs.JobText.{FitsCrl, FitsEntry, FitsJob, FitsItem, Pass, held_behind, serials_behind, behind}
use Rattle.job_core.specs.JobMeaning.{meaning_of, kept_in, reading_of, meant, job_of}
use Rattle.job_core.proofs.RecordTexts.{next-read, next-none}
use Rattle.job_core.proofs.Steps.{goes_on, ends, runs_over}
use Rattle.job_core.proofs.Passing.{texts_of, split, passes}
use Rattle.job_core.proofs.Items.{items_of, texts-are, contents-are, brought, brought-more}

first_of : {X : Type 0} (P : X → Type 0) (x : X) (xs : List X) → All P (x ∷ xs) → P x
first_of P x xs all = all 0 x (omega arith)

others_of : {X : Type 0} (P : X → Type 0) (x : X) (xs : List X) → All P (x ∷ xs) → All P xs
others_of P x xs all = λ k d lt. all (suc k) d (omega (arith, lt))

-- ---- records that pass

abbrev too_many : Limits → JobFault
too_many limits = faults.TooMany what.Serials limits.serials

-- some records pass, and the next one brings too many serials
abbrev Over : Limits → HeldSoFar → ℕ → List Item → Type 0
Over limits h serials [] = ⊥
Over limits h serials (x ∷ xs) =
    FitsItem limits h x × ((limits.serials < with_serials serials_of serials x)
    ⊎ ((with_serials serials_of serials x ≤ limits.serials) × Over limits (with_item h x) (with_serials serials_of serials x) xs))

-- what ranges leave: other counts as they are
abbrev AfterRanges : (HeldSoFar → Type 0) → HeldSoFar → Type 0
AfterRanges P h = (t : HeldSoFar) → t.kind ≤ 1 → t.crls ≡ h.crls → t.entries ≡ h.entries → P t

ranges-pass : (limits : Limits) (rs : List Range) (h : HeldSoFar) (serials : ℕ) (xs : List Item) → h.kind ≤ 1 → h.ranges + length rs ≤ limits.ranges
    → Linked FitsRange (λ previous r. Some r.log) h.log rs → serials ≤ limits.serials → AfterRanges (λ t. Pass serials_of limits t serials xs) h
    → Pass serials_of limits h serials (map (λ r. OneRange r) rs ++ xs)
ranges-pass limits [] h serials xs low few fits under each = each h low refl refl
ranges-pass limits (r ∷ rs) h serials xs low few fits under each = (
  (fits.0, low, omega (arith, few)),
  under,
  ranges-pass limits rs (with_item h (OneRange r)) serials xs (omega arith) (omega (arith, few)) fits.1 under each,
)

ranges-over : (limits : Limits) (rs : List Range) (h : HeldSoFar) (serials : ℕ) (xs : List Item) → h.kind ≤ 1 → h.ranges + length rs ≤ limits.ranges
    → Linked FitsRange (λ previous r. Some r.log) h.log rs → serials ≤ limits.serials → AfterRanges (λ t. Over limits t serials xs) h
    → Over limits h serials (map (λ r. OneRange r) rs ++ xs)
ranges-over limits [] h serials xs low few fits under each = each h low refl refl
ranges-over limits (r ∷ rs) h serials xs low few fits under each = (
  (fits.0, low, omega (arith, few)),
  inr (under, ranges-over limits rs (with_item h (OneRange r)) serials xs (omega arith) (omega (arith, few)) fits.1 under each),
)

crls-pass : (limits : Limits) (cs : List CrlText) (h : HeldSoFar) (serials : ℕ) (xs : List Item) → h.kind ≤ 2 → h.crls + length cs ≤ limits.crls
    → serials + brought cs ≤ limits.serials → All FitsCrl cs
    → ((t : HeldSoFar) → t.kind ≤ 2 → t.entries ≡ h.entries → Pass serials_of limits t (serials + brought cs) xs)
    → Pass serials_of limits h serials (map (λ c. OneCrl c) cs ++ xs)
crls-pass limits [] h serials xs low few under fits each = subst (λ (n : ℕ). Pass serials_of limits h n xs) (omega arith) (each h low refl)
crls-pass limits (c ∷ cs) h serials xs low few under fits each =
    let sum : brought (c ∷ cs) ≡ serials_of c.bytes + brought cs = brought-more c cs in
    let next : serials + brought (c ∷ cs) ≡ serials + serials_of c.bytes + brought cs = omega (arith, sum) in (
      (first_of FitsCrl c cs fits, low, omega (arith, few)),
      omega (arith, under, sum),
      crls-pass limits cs (with_item h (OneCrl c)) (serials + serials_of c.bytes) xs (omega arith) (omega (arith, few)) (omega (arith, under, sum))
          (others_of FitsCrl c cs fits) (λ t kind entries. subst (λ (n : ℕ). Pass serials_of limits t n xs) next (each t kind entries)),
    )

crls-over : (limits : Limits) (cs : List CrlText) (h : HeldSoFar) (serials : ℕ) (xs : List Item) → h.kind ≤ 2 → h.crls + length cs ≤ limits.crls
    → serials ≤ limits.serials → limits.serials < serials + brought cs → All FitsCrl cs → Over limits h serials (map (λ c. OneCrl c) cs ++ xs)
crls-over limits [] h serials xs low few under over fits = absurd (omega (arith, under, over))
crls-over limits (c ∷ cs) h serials xs low few under over fits =
    let sum : brought (c ∷ cs) ≡ serials_of c.bytes + brought cs = brought-more c cs in (
      (first_of FitsCrl c cs fits, low, omega (arith, few)),
      elim (cases_lt limits.serials (serials + serials_of c.bytes)) [
        | inl past ↦ inl past
        | inr le ↦ inr (
          le,
          crls-over limits cs (with_item h (OneCrl c)) (serials + serials_of c.bytes) xs (omega arith) (omega (arith, few)) le
              (omega (arith, over, sum)) (others_of FitsCrl c cs fits),
        )
      ],
    )

entries-pass : (limits : Limits) (es : List EntryText) (h : HeldSoFar) (serials : ℕ) → h.kind ≤ 3 → h.entries + length es ≤ limits.entries
    → serials ≤ limits.serials → All FitsEntry es → Pass serials_of limits h serials (map (λ e. OneEntry e) es)
entries-pass limits [] h serials low few under fits = tt
entries-pass limits (e ∷ es) h serials low few under fits = (
  (first_of FitsEntry e es fits, low, omega (arith, few)),
  under,
  entries-pass limits es (with_item h (OneEntry e)) serials (omega arith) (omega (arith, few)) under (others_of FitsEntry e es fits),
)

job-passes : (limits : Limits) (j : JobContents) → FitsJob limits j → kept_in (meaning_of j).crls ≤ limits.serials → Pass serials_of limits nothing_held 0 (items_of j)
job-passes limits j fits under =
    ranges-pass limits j.ranges nothing_held 0 (map (λ c. OneCrl c) j.crls ++ map (λ e. OneEntry e) j.entries) (omega arith) (omega (arith, fits.few_ranges)) fits.ranges (omega arith)
    (λ t kind crls entries.
    crls-pass limits j.crls t 0 (map (λ e. OneEntry e) j.entries) (omega (arith, kind)) (omega (arith, crls, fits.few_crls)) (omega (arith, under)) fits.crls
    (λ u low same. entries-pass limits j.entries u (0 + brought j.crls) (omega (arith, low)) (omega (arith, same, entries, fits.few_entries)) (omega (arith, under)) fits.entries))

job-over : (limits : Limits) (j : JobContents) → FitsJob limits j → limits.serials < kept_in (meaning_of j).crls → Over limits nothing_held 0 (items_of j)
job-over limits j fits over =
    ranges-over limits j.ranges nothing_held 0 (map (λ c. OneCrl c) j.crls ++ map (λ e. OneEntry e) j.entries) (omega arith) (omega (arith, fits.few_ranges)) fits.ranges (omega arith)
    (λ t kind crls entries.
    crls-over limits j.crls t 0 (map (λ e. OneEntry e) j.entries) (omega (arith, kind)) (omega (arith, crls, fits.few_crls)) (omega arith) (omega (arith, over)) fits.crls)

-- ---- what they are read as

records-over : (limits : Limits) (h : HeldSoFar) (serials : ℕ) (xs : List Item) (before rest : List ℕ) → Over limits h serials xs
    → records serials_of limits h serials (before ++ (texts_of xs ++ rest)) (length before) ≡ Err (too_many limits)
records-over limits h serials [] before rest over = absurd over
records-over limits h serials (x ∷ xs) before rest (fits, over) =
    let n : ℕ = with_serials serials_of serials x in
    let B : List ℕ = before ++ (record_text x ++ (texts_of xs ++ rest)) in
    let next : next_item limits h B (length before) ≡ Ok (Some x, length before + length (record_text x)) = (next-read limits h before x fits).each (texts_of xs ++ rest) in
    rw (split before x xs rest)
    (elim over [
      | inl past ↦ runs_over serials_of limits h serials B (length before) x (length before + length (record_text x)) next past
      | inr on ↦
          let later = records-over limits (with_item h x) n xs (before ++ record_text x) rest on.1 in
          let moved : (before ++ record_text x) ++ (texts_of xs ++ rest) ≡ B = append_assoc before (record_text x) (texts_of xs ++ rest) in
          let place : length (before ++ record_text x) ≡ length before + length (record_text x) = length-append before (record_text x) in
          goes_on serials_of limits h serials B (length before) x (length before + length (record_text x)) next on.0
          ∙ ap (behind (x ∷ []))
          (ap (λ (q : ℕ). records serials_of limits (with_item h x) n B q) (sym place)
          ∙ ap (λ (l : List ℕ). records serials_of limits (with_item h x) n l (length (before ++ record_text x))) (sym moved)
          ∙ later)
    ])

records-end : (brings : List ℕ → ℕ) (limits : Limits) (xs : List Item) (before : List ℕ) → Pass brings limits nothing_held 0 xs
    → records brings limits nothing_held 0 (before ++ (texts_of xs ++ to_be_bytes w8 0)) (length before) ≡ Ok (xs, length (before ++ (texts_of xs ++ to_be_bytes w8 0)))
records-end brings limits xs before pass =
    let zero : List ℕ = to_be_bytes w8 0 in
    let B : List ℕ = before ++ (texts_of xs ++ zero) in
    let H : HeldSoFar = held_behind nothing_held xs in
    let S : ℕ = serials_behind brings 0 xs in
    let moved : (before ++ texts_of xs) ++ (zero ++ []) ≡ B = append_assoc before (texts_of xs) (zero ++ []) ∙ ap (λ (l : List ℕ). before ++ (texts_of xs ++ l)) (append-nil zero) in
    let at : length (before ++ texts_of xs) ≡ length before + length (texts_of xs) = length-append before (texts_of xs) in
    let last : length before + length (texts_of xs) + 1 ≡ length B = omega (arith, length-append before (texts_of xs ++ zero), length-append (texts_of xs) zero) in
    let read = (next-none limits H (before ++ texts_of xs)).each [] in
    let next : next_item limits H B (length before + length (texts_of xs)) ≡ Ok (None, length before + length (texts_of xs) + 1) = rw (← moved, ← at) read in
    passes brings limits nothing_held 0 xs before zero pass
    ∙ ap (behind xs) (ends brings limits H S B (length before + length (texts_of xs)) (length before + length (texts_of xs) + 1) next)
    ∙ ap (λ (l : List Item). Ok (l, length before + length (texts_of xs) + 1)) (append-nil xs)
    ∙ ap (λ (n : ℕ). Ok (xs, n)) last

-- ---- the job

pub opening-read : (epoch moment : ℕ) → epoch < 2 ^ 64 → moment < 2 ^ 64 → (before : List ℕ) → IsRead opening before (epoch, moment) (opening_text epoch moment)
unfolding opening
opening-read epoch moment few_epoch few_moment before = from_front
    (reads _ (bytes_field-read _ _ 8 (bytes_eq (codes "CLUBJOB1")) _ (codes "CLUBJOB1") refl refl)
    (reads _ (number_field-read _ _ w64 (2 ^ 64) 0 (2 ^ 64 - 1) wide64 _ epoch (omega arith) (below_limit _ few_epoch) few_epoch)
    (reads _ (number_field-read _ _ w64 (2 ^ 64) 0 (2 ^ 64 - 1) wide64 _ moment (omega arith) (below_limit _ few_moment) few_moment)
    (done (epoch, moment)))))

-- what is read behind the opening
abbrev pub behind_opening : (List ℕ → ℕ) → Limits → ℕ × ℕ → Layout JobFault JobTexts
behind_opening brings limits o = records brings limits nothing_held 0 >>= λ xs. fielded end >>= λ over. whole (record { epoch = o.0; moment = o.1; items = xs })

pub behind-opening : (brings : List ℕ → ℕ) (limits : Limits) (bytes : List ℕ) (at : ℕ) (o : ℕ × ℕ) (q : ℕ) → opening bytes at ≡ Ok (o, q)
    → job brings limits bytes at ≡ behind_opening brings limits o bytes q
unfolding job
behind-opening brings limits bytes at o q is = rw is refl

pub ends-at : (bytes : List ℕ) → end bytes (length bytes) ≡ Ok (tt, length bytes)
ends-at bytes = rw (le-ltb (length bytes) (length bytes) (omega arith)) refl

regrouped : (o r c e z : List ℕ) → o ++ r ++ c ++ e ++ z ≡ o ++ ((r ++ (c ++ e)) ++ z)
regrouped o r c e z =
    ap (λ (l : List ℕ). l ++ z) (append_assoc (o ++ r) c e ∙ append_assoc o r (c ++ e)) ∙ append_assoc o (r ++ (c ++ e)) z

pub spelling-is : (j : JobContents) → spelling j ≡ opening_text j.epoch j.moment ++ (texts_of (items_of j) ++ to_be_bytes w8 0)
unfolding spelling
spelling-is j =
    regrouped (opening_text j.epoch j.moment) (flat_map range_record j.ranges) (flat_map crl_record j.crls) (flat_map entry_record j.entries) (to_be_bytes w8 0)
    ∙ ap (λ (l : List ℕ). opening_text j.epoch j.moment ++ (l ++ to_be_bytes w8 0)) (sym (texts-are j.ranges j.crls j.entries))

opened : (brings : List ℕ → ℕ) (limits : Limits) (epoch moment : ℕ) → epoch < 2 ^ 64 → moment < 2 ^ 64 → (T : List ℕ)
    → job brings limits (opening_text epoch moment ++ T) 0 ≡ behind_opening brings limits (epoch, moment) (opening_text epoch moment ++ T) (length (opening_text epoch moment))
opened brings limits epoch moment few_epoch few_moment T =
    behind-opening brings limits (opening_text epoch moment ++ T) 0 (epoch, moment) (length (opening_text epoch moment)) ((opening-read epoch moment few_epoch few_moment []).each T)

-- the opening, records that pass, and the end are read as these
pub texts-read : (brings : List ℕ → ℕ) (limits : Limits) (t : JobTexts) → t.epoch < 2 ^ 64 → t.moment < 2 ^ 64 → Pass brings limits nothing_held 0 t.items
    → let B : List ℕ = opening_text t.epoch t.moment ++ (texts_of t.items ++ to_be_bytes w8 0) in job brings limits B 0 ≡ Ok (t, length B)
texts-read brings limits t epoch moment pass =
    let O : List ℕ = opening_text t.epoch t.moment in
    let T : List ℕ = texts_of t.items ++ to_be_bytes w8 0 in
    opened brings limits t.epoch t.moment epoch moment T
    ∙ ap (λ r. then_read r (λ xs. fielded end >>= λ over. whole (record { epoch = t.epoch; moment = t.moment; items = xs })) (O ++ T)) (records-end brings limits t.items O pass)
    ∙ rw (ends-at (O ++ T)) refl

pub whole-read : (limits : Limits) (j : JobContents) → FitsJob limits j → kept_in (meaning_of j).crls ≤ limits.serials → job_of limits (spelling j) ≡ Ok (meaning_of j)
whole-read limits j fits under =
    let t : JobTexts = record { epoch = j.epoch; moment = j.moment; items = items_of j } in
    ap (job_of limits) (spelling-is j)
    ∙ ap (λ r. meant (value_of r)) (texts-read serials_of limits t fits.epoch fits.moment (job-passes limits j fits under))
    ∙ ap (λ (k : JobContents). Ok (meaning_of k)) (contents-are j)

over-read : (limits : Limits) (j : JobContents) → FitsJob limits j → limits.serials < kept_in (meaning_of j).crls → job_of limits (spelling j) ≡ Err (too_many limits)
over-read limits j fits over =
    let O : List ℕ = opening_text j.epoch j.moment in
    let T : List ℕ = texts_of (items_of j) ++ to_be_bytes w8 0 in
    let read : job serials_of limits (O ++ T) 0 ≡ Err (too_many limits) =
    opened serials_of limits j.epoch j.moment fits.epoch fits.moment T
    ∙ ap (λ r. then_read r (λ xs. fielded end >>= λ over. whole (record { epoch = j.epoch; moment = j.moment; items = xs })) (O ++ T))
    (records-over limits nothing_held 0 (items_of j) O (to_be_bytes w8 0) (job-over limits j fits over)) in
    rw (spelling-is j) (ap (λ r. meant (value_of r)) read)

-- what is spelled so is read as its meaning; or its serials are too many
pub spelled-read : (limits : Limits) (j : JobContents) → FitsJob limits j → job_of limits (spelling j) ≡ reading_of limits j
spelled-read limits j fits =
    elim (cases_lt limits.serials (kept_in (meaning_of j).crls)) [
      | inl over ↦ rw (lt-leb (kept_in (meaning_of j).crls) limits.serials over) (over-read limits j fits over)
      | inr under ↦ rw (le-leb (kept_in (meaning_of j).crls) limits.serials under) (whole-read limits j fits under)
    ]

pub read_back-of : {X : Type 0} (items : X → List ℕ) (limits : Limits) (j : JobContents) {E : Type 0} (r : Result X E) → IfOk r (λ out. items out ≡ spelling j) → OnOk r (FitsJob limits j)
    → IfOk r (λ out. job_of limits (items out) ≡ reading_of limits j)
read_back-of items limits j (Ok out) text fits = ap (job_of limits) text ∙ spelled-read limits j fits
read_back-of items limits j (Err e) text fits = tt
