-- The counts of a job.
use Rattle.std.specs.List.{count_by, filter_map}
use Rattle.std.proofs.Common.{◌≡◌, ℕ, suc, inl, inr, List, [], ◌∷◌, map, filter, length, Bool, true, false, cond, ◌&&◌, Option, refl, sym, ap, ◌∙◌, subst, All}
use Rattle.std.proofs.lemmas.Bool.{false_from_ne_true, true≢false}
use Rattle.std.proofs.lemmas.List.Sums.{length-filter}
use Rattle.ident_core.specs.declared.identity.Identity.{Identity}
use Rattle.ident_core.specs.declared.range.Range.{Range}
use Rattle.job_core.specs.declared.meaning.Job.{Job}
use Rattle.ledger_core.specs.LedgerFields.{LedgerFields}
use Rattle.ledger_core.specs.declared.fields.LedgerItem.{LedgerItem}
use Rattle.ident_core.specs.Among.{Among}
use Rattle.ident_core.specs.Sets.{has, has_key}
use Rattle.ident_core.proofs.Elements.{bool_same}
use Rattle.ident_core.proofs.Sets.{has-from_Among}
use Rattle.universe_core.specs.Jobs.{Entry, JobFacts, facts_of_job, enrolled}
use Rattle.universe_core.specs.History.{Past, accepted_with, universe, is_revoked, revoked}
use Rattle.universe_core.specs.Ledgers.{no_ledger, past_in}
use Rattle.universe_core.specs.Counting.{is_class, count}
use Rattle.universe_core.specs.Reading.{class_alone, if_read, IsPlaced, entries_of}
use Rattle.universe_core.specs.Members.{as_item, member_in, members_in}
use Rattle.universe_core.specs.declared.class.Class.{Class}
use Rattle.universe_core.specs.declared.member.Member.{Member}
use Rattle.universe_core.specs.declared.read_entry.ReadEntry.{ReadEntry}
use Rattle.universe_core.proofs.Revoking.{universe_is, universe_has, revoked_is, revoked_has}

length_mapped : {A B : Type 0} (p : B → Bool) (f : A → B) (xs : List A) → length (filter p (map f xs)) ≡ length (filter (λ x. p (f x)) xs)
length_mapped p f [] = refl
length_mapped p f (x ∷ xs) =
    (elim (p (f x)) as (λ b. length (cond b (f x ∷ filter p (map f xs)) (filter p (map f xs))) ≡ length (cond b (x ∷ filter (λ y. p (f y)) xs) (filter (λ y. p (f y)) xs)))
    [ true ↦ ap suc (length_mapped p f xs) | false ↦ length_mapped p f xs ])

pub count_by-map : {A B : Type 0} (p : B → Bool) (f : A → B) (xs : List A) → count_by p (map f xs) ≡ count_by (λ x. p (f x)) xs
count_by-map p f xs = sym (length-filter p (map f xs)) ∙ length_mapped p f xs ∙ length-filter (λ x. p (f x)) xs

-- ---- of a job, as slices show it

pub count_job : (k : Class) (job : Job) (ranges : List Range) (issuers : List (List ℕ)) (es : List (Option Entry)) (n : ℕ)
    → ranges ≡ job.ranges.items → issuers ≡ enrolled (facts_of_job job) → es ≡ job.entries.items
    → n ≡ count_by (λ e. is_class k (class_alone ranges issuers e)) es → n ≡ count k (past_in no_ledger) (facts_of_job job)
count_job k job ranges issuers es n r i e h =
    h ∙ ap (λ z. count_by (λ d. is_class k (class_alone z issuers d)) es) r ∙ ap (λ z. count_by (λ d. is_class k (class_alone job.ranges.items z d)) es) i
    ∙ ap (count_by (λ d. is_class k (class_alone job.ranges.items (enrolled (facts_of_job job)) d))) e

pub read_job : (job : Job) (ranges : List Range) (issuers : List (List ℕ)) (es : List (Option Entry)) (left : List Entry)
    → ranges ≡ job.ranges.items → issuers ≡ enrolled (facts_of_job job) → es ≡ job.entries.items
    → left ≡ filter_map (λ e. if_read ranges issuers e) es
    → left ≡ filter_map (if_read job.ranges.items (enrolled (facts_of_job job))) job.entries.items
read_job job ranges issuers es left r i e h =
    h ∙ ap (λ z. filter_map (λ d. if_read z issuers d) es) r ∙ ap (λ z. filter_map (λ d. if_read job.ranges.items z d) es) i
    ∙ ap (filter_map (λ d. if_read job.ranges.items (enrolled (facts_of_job job)) d)) e

-- the same, where the issuers and the ranges are shown once more
pub read_again : (issuers keys : List (List ℕ)) (ranges shown : List Range) (left : List ReadEntry) (whole : List Entry) → keys ≡ issuers → shown ≡ ranges
    → entries_of issuers ranges left ≡ whole → entries_of keys shown left ≡ whole
read_again issuers keys ranges shown left whole k s h = (λ i. entries_of (k i) (s i) left) ∙ h

pub placed_again : (issuers keys : List (List ℕ)) (ranges shown : List Range) (left : List ReadEntry) → keys ≡ issuers → shown ≡ ranges
    → All (IsPlaced issuers ranges) left → All (IsPlaced keys shown) left
placed_again issuers keys ranges shown left k s h = subst (λ is. All (IsPlaced is shown) left) (sym k) (subst (λ rs. All (IsPlaced issuers rs) left) (sym s) h)

-- ---- the universe and the revoked set

pub universe_count : (ledger : LedgerFields) (job : JobFacts) (issuers : List (List ℕ)) (items : List LedgerItem) → issuers ≡ enrolled job
    → items ≡ map as_item (members_in ledger job)
    → count_by (λ i. has_key issuers i.id.issuer) items ≡ length (universe (past_in ledger) job)
unfolding universe
universe_count ledger job issuers items k m =
    ap (λ ks. count_by (λ (d : LedgerItem). has_key ks d.id.issuer) items) k ∙ ap (count_by (λ (d : LedgerItem). has_key (enrolled job) d.id.issuer)) m
    ∙ count_by-map (λ (d : LedgerItem). has_key (enrolled job) d.id.issuer) as_item (members_in ledger job)
    ∙ count_by-map (λ (d : Member). has_key (enrolled job) d.id.issuer) (member_in ledger job) (accepted_with (past_in ledger) job)
    ∙ sym (length-filter (λ x. has_key (enrolled job) x.issuer) (accepted_with (past_in ledger) job))

test_by : (past : Past) (job : JobFacts) (x : Identity) (b : Bool) → has_key (enrolled job) x.issuer ≡ b → has (accepted_with past job) x ≡ true → has (revoked past job) x ≡ (b && is_revoked past job x)
test_by past job x true e a = bool_same (has (revoked past job) x) (is_revoked past job x) (λ h. (revoked_is past job x h).1) (revoked_has past job x (universe_has past job x a e))
test_by past job x false e a = false_from_ne_true (has (revoked past job) x) (λ h. absurd (true≢false (sym (universe_is past job x (revoked_is past job x h).0).1 ∙ e)))

twice_step : {A : Type 0} (p : A → Bool) (x : A) (qs rs : List A) (b c : Bool) → c ≡ (b && p x) → filter p qs ≡ rs → filter p (cond b (x ∷ qs) qs) ≡ cond c (x ∷ rs) rs
twice_step p x qs rs true c e rest = ap (λ z. cond (p x) (x ∷ z) z) rest ∙ ap (λ t. cond t (x ∷ rs) rs) (sym e)
twice_step p x qs rs false c e rest = rest ∙ ap (λ t. cond t (x ∷ rs) rs) (sym e)

filter_twice : {A : Type 0} (p q r : A → Bool) (xs : List A) → ((x : A) → Among xs x → r x ≡ (q x && p x)) → filter p (filter q xs) ≡ filter r xs
filter_twice p q r [] h = refl
filter_twice p q r (x ∷ xs) h = twice_step p x (filter q xs) (filter r xs) (q x) (r x) (h x (inl refl)) (filter_twice p q r xs (λ y a. h y (inr a)))

revoked_filter : (past : Past) (job : JobFacts) → revoked past job ≡ filter (has (revoked past job)) (accepted_with past job)
unfolding revoked universe
revoked_filter past job =
    filter_twice (is_revoked past job) (λ x. has_key (enrolled job) x.issuer) (has (revoked past job)) (accepted_with past job)
    (λ x a. test_by past job x (has_key (enrolled job) x.issuer) refl (has-from_Among (accepted_with past job) x a))

pub revoked_count : (past : Past) (job : JobFacts) (flags : List Bool) → flags ≡ map (has (revoked past job)) (accepted_with past job) → count_by (λ b. b) flags ≡ length (revoked past job)
revoked_count past job flags f =
    ap (count_by (λ b. b)) f ∙ count_by-map (λ b. b) (has (revoked past job)) (accepted_with past job)
    ∙ sym (length-filter (has (revoked past job)) (accepted_with past job)) ∙ ap length (sym (revoked_filter past job))
