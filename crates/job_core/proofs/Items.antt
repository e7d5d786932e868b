-- The records of what a job holds: their texts, and how many serials they bring.
use Rattle.std.proofs.Common.{◌≡◌, ℕ, ◌+◌, ◌≤◌, List, [], ◌∷◌, ◌++◌, refl, ap, ◌∙◌, arith}
use Rattle.std.specs.Prelude.{map, flat_map}
use Rattle.std.proofs.lemmas.List.Folds.{flat_map-map}
use Rattle.std.proofs.lemmas.List.Sums.{sum_by-cons}
use Rattle.std.proofs.lemmas.Grind.{flat_map-append}
use Rattle.ident_core.specs.declared.range.Range.{Range}
use Rattle.crl_core.specs.Outcome.{outcome}
use Rattle.job_core.specs.declared.bounds.Limits.{Limits}
use Rattle.job_core.specs.JobFields.{CrlMeaning}
use Rattle.job_core.specs.JobLayout.{CrlText, EntryText, HeldSoFar, Item, OneRange, OneCrl, OneEntry, with_item, kept, serials_of, crl_meaning}
use Rattle.job_core.specs.JobText.{JobContents, range_record, crl_record, entry_record, record_text, ranges_in, crls_in, entries_in, contents_in, Pass, serials_behind}
use Rattle.job_core.specs.JobMeaning.{kept_in}

abbrev pub items : List Range → List CrlText → List EntryText → List Item
items rs cs es = map (λ r. OneRange r) rs ++ (map (λ c. OneCrl c) cs ++ map (λ e. OneEntry e) es)

abbrev pub items_of : JobContents → List Item
items_of j = items j.ranges j.crls j.entries

pub texts-are : (rs : List Range) (cs : List CrlText) (es : List EntryText)
    → flat_map record_text (items rs cs es) ≡ flat_map range_record rs ++ (flat_map crl_record cs ++ flat_map entry_record es)
texts-are rs cs es =
    let R : List Item = map (λ r. OneRange r) rs in
    let C : List Item = map (λ c. OneCrl c) cs in
    let E : List Item = map (λ e. OneEntry e) es in
    let r : flat_map record_text R ≡ flat_map range_record rs = flat_map-map record_text (λ r. OneRange r) rs in
    let c : flat_map record_text C ≡ flat_map crl_record cs = flat_map-map record_text (λ c. OneCrl c) cs in
    let e : flat_map record_text E ≡ flat_map entry_record es = flat_map-map record_text (λ e. OneEntry e) es in
    flat_map-append record_text R (C ++ E)
    ∙ ap (λ (l : List ℕ). flat_map record_text R ++ l) (flat_map-append record_text C E)
    ∙ rw (r, c, e) refl

-- each kind by itself
entries-apart : (es : List EntryText) → let xs : List Item = items [] [] es in (ranges_in xs ≡ []) × (crls_in xs ≡ []) × (entries_in xs ≡ es)
entries-apart [] = (refl, refl, refl)
entries-apart (e ∷ es) = let t = entries-apart es in (t.0, t.1, ap (λ (l : List EntryText). e ∷ l) t.2)

crls-apart : (cs : List CrlText) (es : List EntryText) → let xs : List Item = items [] cs es in (ranges_in xs ≡ []) × (crls_in xs ≡ cs) × (entries_in xs ≡ es)
crls-apart [] es = entries-apart es
crls-apart (c ∷ cs) es = let t = crls-apart cs es in (t.0, ap (λ (l : List CrlText). c ∷ l) t.1, t.2)

all-apart : (rs : List Range) (cs : List CrlText) (es : List EntryText) → let xs : List Item = items rs cs es in (ranges_in xs ≡ rs) × (crls_in xs ≡ cs) × (entries_in xs ≡ es)
all-apart [] cs es = crls-apart cs es
all-apart (r ∷ rs) cs es = let t = all-apart rs cs es in (ap (λ (l : List Range). r ∷ l) t.0, t.1, t.2)

pub contents-are : (j : JobContents) → contents_in (record { epoch = j.epoch; moment = j.moment; items = items_of j }) ≡ j
contents-are j = let t = all-apart j.ranges j.crls j.entries in rw (t.0, t.1, t.2) refl

-- ---- how many serials they bring

abbrev pub brought : List CrlText → ℕ
brought cs = kept_in (map crl_meaning cs)

pub brought-more : (c : CrlText) (cs : List CrlText) → brought (c ∷ cs) ≡ kept (outcome c.bytes) + brought cs
brought-more c cs = sum_by-cons (λ (m : CrlMeaning). kept m.outcome) (crl_meaning c) (map crl_meaning cs)

pub serials-kept : (n : ℕ) (xs : List Item) → serials_behind serials_of n xs ≡ n + brought (crls_in xs)
serials-kept n [] = omega arith
serials-kept n (OneRange r ∷ xs) = serials-kept n xs
serials-kept n (OneCrl c ∷ xs) = omega (arith, serials-kept (n + serials_of c.bytes) xs, brought-more c (crls_in xs))
serials-kept n (OneEntry e ∷ xs) = serials-kept n xs

-- of records that pass, no more than the limit
pub few-brought : (limits : Limits) (h : HeldSoFar) (n : ℕ) (xs : List Item) → n ≤ limits.serials → Pass serials_of limits h n xs → n + brought (crls_in xs) ≤ limits.serials
few-brought limits h n [] le pass = omega (arith, le)
few-brought limits h n (OneRange r ∷ xs) le pass = few-brought limits (with_item h (OneRange r)) n xs le pass.2
few-brought limits h n (OneCrl c ∷ xs) le pass =
    omega (arith, few-brought limits (with_item h (OneCrl c)) (n + serials_of c.bytes) xs pass.1 pass.2, brought-more c (crls_in xs))
few-brought limits h n (OneEntry e ∷ xs) le pass = few-brought limits (with_item h (OneEntry e)) n xs le pass.2
