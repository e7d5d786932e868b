-- Records of a job of which some are kept.
use Rattle.std.specs.Prelude.{filter, if◌then◌else◌}
use Rattle.std.specs.Int.{w8, to_be_bytes}
use Rattle.std.proofs.Common.{◌≡◌, ℕ, List, [], ◌∷◌, ◌++◌, map, Bool, true, false, cond, refl, sym, ap, ◌∙◌}
use Rattle.std.proofs.lemmas.List.{append-nil}
use Rattle.std.proofs.lemmas.List.Concat.{flat_map-append}
use Rattle.std.proofs.lemmas.List.Elements.{filter-append}
use Rattle.ident_core.specs.declared.range.Range.{Range}
use Rattle.job_core.specs.declared.bounds.Limits.{Limits}
use Rattle.job_core.specs.JobLayout.{CrlText, EntryText, Item, OneRange, OneCrl, OneEntry, JobTexts, nothing_held, entry_meaning}
use Rattle.job_core.specs.JobText.{opening_text, record_text, spelling, Pass}
use Rattle.job_core.specs.Reader.{no_serials}
use Rattle.job_core.proofs.Items.{items}
use Rattle.job_core.proofs.JobReads.{spelling-is}
use Rattle.job_core.proofs.Passing.{texts_of}
use Rattle.gather_core.specs.Raw.{contents_in, ranges_in, crls_in, entries_in}
use Rattle.job_core.proofs.Sorting.{sorted}
use Rattle.place_core.specs.Cuts.{Cut}
use Rattle.piece_core.specs.Cuts.{keeps_entry, kept_texts, cut_contents}

-- ---- a filter behind a map

pushed_through : {A B : Type 0} (f : A → B) (k : B → Bool) (a : A) (xs : List A) (ys : List B) (b : Bool) → map f xs ≡ ys
    → map f (cond b (a ∷ xs) xs) ≡ cond b (f a ∷ ys) ys
pushed_through {A} {B} f k a xs ys true next = ap (λ (l : List B). f a ∷ l) next
pushed_through {A} {B} f k a xs ys false next = next

pub map_filter : {A B : Type 0} (f : A → B) (k : B → Bool) (xs : List A) → map f (filter (λ a. k (f a)) xs) ≡ filter k (map f xs)
map_filter f k [] = refl
map_filter f k (a ∷ xs) = pushed_through f k a (filter (λ a. k (f a)) xs) (filter k (map f xs)) (k (f a)) (map_filter f k xs)

-- ---- records that are kept

abbrev pub keeps_item : Cut → Item → Bool
keeps_item cut (OneRange r) = true
keeps_item cut (OneCrl c) = cut.takes c.issuer
keeps_item cut (OneEntry e) = keeps_entry cut (entry_meaning e)

abbrev pub kept : Cut → List Item → List Item
kept cut xs = filter (keeps_item cut) xs

one_text : (x : Item) (b : Bool) → texts_of (cond b (x ∷ []) []) ≡ (if b then record_text x else [])
one_text x true = append-nil (record_text x)
one_text x false = refl

-- with one record more, which is kept or not
pub kept_more : (cut : Cut) (xs : List Item) (x : Item) → texts_of (kept cut (xs ++ x ∷ [])) ≡ texts_of (kept cut xs) ++ (if keeps_item cut x then record_text x else [])
kept_more cut xs x =
    ap texts_of (filter-append (keeps_item cut) xs (x ∷ []))
    ∙ flat_map-append record_text (kept cut xs) (kept cut (x ∷ []))
    ∙ ap (λ (l : List ℕ). texts_of (kept cut xs) ++ l) (one_text x (keeps_item cut x))

all_ranges : (cut : Cut) (rs : List Range) → kept cut (map (λ r. OneRange r) rs) ≡ map (λ r. OneRange r) rs
all_ranges cut [] = refl
all_ranges cut (r ∷ rs) = ap (λ (l : List Item). OneRange r ∷ l) (all_ranges cut rs)

kept_items : (cut : Cut) (rs : List Range) (cs : List CrlText) (es : List EntryText)
    → kept cut (items rs cs es) ≡ items rs (filter (λ (c : CrlText). cut.takes c.issuer) cs) (kept_texts cut es)
kept_items cut rs cs es =
    let R : List Item = map (λ r. OneRange r) rs in
    let C : List Item = map (λ c. OneCrl c) cs in
    let E : List Item = map (λ e. OneEntry e) es in
    let crls = map_filter (λ c. OneCrl c) (keeps_item cut) cs in
    let entries = map_filter (λ e. OneEntry e) (keeps_item cut) es in
    rw (filter-append (keeps_item cut) R (C ++ E), all_ranges cut rs, filter-append (keeps_item cut) C E, ← crls, ← entries) refl

-- the texts of what is kept of a job's records are the text of the job, cut
pub cut_spelled : (cut : Cut) (limits : Limits) (t : JobTexts) → Pass no_serials limits nothing_held 0 t.items
    → opening_text t.epoch t.moment ++ (texts_of (kept cut t.items) ++ to_be_bytes w8 0) ≡ spelling (cut_contents cut (contents_in t))
cut_spelled cut limits t pass =
    ap (λ (l : List Item). opening_text t.epoch t.moment ++ (texts_of l ++ to_be_bytes w8 0))
    (ap (kept cut) (sym (sorted _ limits nothing_held 0 t.items pass).is)
    ∙ kept_items cut (ranges_in t.items) (crls_in t.items) (entries_in t.items))
    ∙ sym (spelling-is (cut_contents cut (contents_in t)))
