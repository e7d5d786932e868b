-- What the merge gives is what the definitions say.
use Rattle.std.proofs.Common.{◌≡◌, ℕ, zero, suc, ◌⊎◌, inl, inr, ⊎_elim, List, [], ◌∷◌, map, filter, find, length, Bool, true, false, cond, not, Option, Some}
use Rattle.std.proofs.Common.{None, arith, refl, sym, ap, ◌∙◌, subst, ◌&&◌, ◌||◌, take}
use Rattle.std.specs.Prelude.{ℤ, is_some, nat_lt, ◌+◌, ◌≤◌, ◌++◌}
use Rattle.std.specs.List.{list_any, list_all, count_by, filter_map, cons_option, slice_get}
use Rattle.std.specs.Option.{option_map}
use Rattle.std.specs.Bool.{then_some}
use Rattle.std.specs.List.Sorted.{IsStrictlySortedBy}
use Rattle.std.proofs.lemmas.Bool.Decides.{nat_tests}
use Rattle.std.proofs.lemmas.Bool.{true≢false, or_cases, or_left, or_right}
use Rattle.std.proofs.lemmas.List.{length-map}
use Rattle.std.proofs.lemmas.List.Sums.{sum_by-cons, count_by-le-length}
use Rattle.std.proofs.lemmas.List.Folds.{list_all-map}
use Rattle.std.proofs.lemmas.Option.{slice_get-map}
use Rattle.std.proofs.lemmas.List.Kept.{IsStrictlySortedBy-filter}
use Rattle.ident_core.specs.Among.{Among}
use Rattle.ident_core.specs.declared.identity.Identity.{Identity}
use Rattle.ident_core.specs.declared.range.Sighting.{Sighting}
use Rattle.ident_core.specs.declared.range.Range.{Range}
use Rattle.universe_core.specs.Jobs.{Entry, JobFacts, enrolled}
use Rattle.ident_core.specs.Order.{is_same, identity_cmp}
use Rattle.ident_core.specs.Sets.{has_key}
use Rattle.ident_core.specs.Coverage.{covers}
use Rattle.universe_core.specs.declared.class.Class.TheVariants.{Uncovered, Unenrolled, Late, Accepted}
use Rattle.universe_core.specs.History.{Past, class_by, class_of, if_accepted, shown, sightings, accepted_with, covers_all}
use Rattle.universe_core.specs.Dates.{greatest, dates}
use Rattle.universe_core.specs.Ledgers.{past_in, parts_before, item_of, birth_or, last_or_none, last_covers, part_covers, covered_and_enrolled_by, old_dates}
use Rattle.ledger_core.specs.LedgerFields.{LedgerFields, LedgerPartFields, part_fields, ledger_fields}
use Rattle.ledger_core.specs.declared.fields.LedgerPart.{LedgerPart}
use Rattle.ledger_core.specs.declared.fields.LedgerItem.{LedgerItem}
use Rattle.ident_core.proofs.Elements.{Among-filter, Among-in_filter, Among-map, Among-in_map, Among-filter_map, Among-in_filter_map, found, any_at, all_at, all_from, bool_same, map_agree}
use Rattle.ident_core.proofs.Sets.{same_is, same_refl, identity_total, identities_are, Among-union, Among-in_union}
use Rattle.ident_core.proofs.Order.{sorted_unique}
use Rattle.universe_core.specs.declared.member.Member.{Member}
use Rattle.universe_core.specs.Merging.{all_ids, count_told, merged}
use Rattle.universe_core.specs.Judging.{is_late_beside, is_timely, timely, sightings_of, dates_of, is_member_of, member_of, judge_of}
use Rattle.universe_core.proofs.Greatest.{greatest_behind}
use Rattle.universe_core.proofs.Merge.{item_ids}
use Rattle.universe_core.proofs.Revoking.{map_map}

-- ---- lists

filter_map_test : {A B : Type 0} (t : A → Bool) (f : A → B) (xs : List A) → filter_map (λ x. cond (t x) (Some (f x)) None) xs ≡ map f (filter t xs)
filter_map_test t f [] = refl
filter_map_test t f (x ∷ xs) =
    (elim (t x) as (λ b. cons_option (cond b (Some (f x)) None) (filter_map (λ y. cond (t y) (Some (f y)) None) xs) ≡ map f (cond b (x ∷ filter t xs) (filter t xs)))
    [ true ↦ ap (λ z. f x ∷ z) (filter_map_test t f xs) | false ↦ filter_map_test t f xs ])

-- ---- classes

accept_yes : (c n l : Bool) (e : Entry) → c ≡ true → n ≡ true → l ≡ false → if_accepted (cond (not c) Uncovered (cond (not n) Unenrolled (cond l Late Accepted))) (Some e) ≡ Some e
accept_yes true true false e a b d = refl
accept_yes true true true e a b d = absurd (true≢false d)
accept_yes true false l e a b d = absurd (true≢false (sym b))
accept_yes false n l e a b d = absurd (true≢false (sym a))

some_entry : (d e : Entry) → ◌≡◌ {A = Option Entry} (Some d) (Some e) → d ≡ e
some_entry d e h = cc

accept_is : (c n l : Bool) (d e : Entry) → if_accepted (cond (not c) Uncovered (cond (not n) Unenrolled (cond l Late Accepted))) (Some d) ≡ Some e → (d ≡ e) × (c ≡ true) × (n ≡ true) × (l ≡ false)
accept_is true true false d e h = (some_entry d e h, refl, refl, refl)
accept_is true true true d e h = absurd cc
accept_is true false l d e h = absurd cc
accept_is false n l d e h = absurd cc

-- the sorted entries of a job are those that its ranges cover and whose issuers are enrolled
pub record AreRead (job : JobFacts) (sorted : List Entry) : Type 0 where
  pub among : (e : Entry) → Among sorted e → Among job.entries (Some e) × (covers job.ranges e.sighting ≡ true) × (has_key (enrolled job) e.id.issuer ≡ true)
  pub all : (e : Entry) → Among job.entries (Some e) → covers job.ranges e.sighting ≡ true → has_key (enrolled job) e.id.issuer ≡ true → Among sorted e

module _ (past : Past) (job : JobFacts) (sorted : List Entry) (reads : AreRead job sorted) where
  shown_to : (d : Entry) → Among sorted d → past.comes_late d.id d.sighting ≡ false → Among (shown past job) d
  unfolding shown class_by
  shown_to d a l =
      let r = reads.among d a in
      Among-in_filter_map (λ o. if_accepted (class_of past job o) o) job.entries (Some d) d r.0
      (accept_yes (covers job.ranges d.sighting) (has_key (enrolled job) d.id.issuer) (past.comes_late d.id d.sighting) d r.1 r.2 l)

  from_entry : (o : Option Entry) (e : Entry) → Among job.entries o → if_accepted (class_of past job o) o ≡ Some e
      → Among sorted e × (past.comes_late e.id e.sighting ≡ false)
  unfolding class_by
  from_entry None e a h = absurd cc
  from_entry (Some d) e a h =
      let t = accept_is (covers job.ranges d.sighting) (has_key (enrolled job) d.id.issuer) (past.comes_late d.id d.sighting) d e h in
      (subst (λ z. Among sorted z) t.0 (reads.all d a t.1 t.2), subst (λ (z : Entry). past.comes_late z.id z.sighting ≡ false) t.0 t.3)

  shown_from : (e : Entry) → Among (shown past job) e → Among sorted e × (past.comes_late e.id e.sighting ≡ false)
  unfolding shown
  shown_from e a =
      let f = Among-filter_map (λ o. if_accepted (class_of past job o) o) job.entries e a in
      from_entry f.0 e f.1 f.2

-- ---- the sightings of an identity

Among-sightings : (x : Identity) (entries : List Entry) (s : Sighting) → Among (sightings x entries) s → (e : Entry) × Among entries e × (x ≡ e.id) × (e.sighting ≡ s)
unfolding sightings
Among-sightings x entries s a =
    let m = Among-map (λ (e : Entry). e.sighting) (filter (λ (e : Entry). is_same x e.id) entries) s a in
    let f = Among-filter (λ (e : Entry). is_same x e.id) entries m.0 m.1 in
    (m.0, f.0, same_is x m.0.id f.1, m.2)

Among-in_sightings : (entries : List Entry) (e : Entry) → Among entries e → Among (sightings e.id entries) e.sighting
unfolding sightings
Among-in_sightings entries e a = Among-in_map (λ (d : Entry). d.sighting) (filter (λ (d : Entry). is_same e.id d.id) entries) e
    (Among-in_filter (λ (d : Entry). is_same e.id d.id) entries e a (same_refl e.id))

-- ---- the dates of an identity

pub Among-dates : (x : Identity) (entries : List Entry) (d : Option ℤ) → Among (dates x entries) d → (e : Entry) × Among entries e × (x ≡ e.id) × (e.until ≡ d)
unfolding dates
Among-dates x entries d a =
    let m = Among-map (λ (e : Entry). e.until) (filter (λ (e : Entry). is_same x e.id) entries) d a in
    let f = Among-filter (λ (e : Entry). is_same x e.id) entries m.0 m.1 in
    (m.0, f.0, same_is x m.0.id f.1, m.2)

Among-in_dates : (entries : List Entry) (e : Entry) → Among entries e → Among (dates e.id entries) e.until
unfolding dates
Among-in_dates entries e a = Among-in_map (λ (d : Entry). d.until) (filter (λ (d : Entry). is_same e.id d.id) entries) e
    (Among-in_filter (λ (d : Entry). is_same e.id d.id) entries e a (same_refl e.id))

not_yes : (b : Bool) → not b ≡ true → b ≡ false
not_yes false h = refl
not_yes true h = absurd (true≢false (sym h))

not_no : (b : Bool) → b ≡ false → not b ≡ true
not_no false h = refl
not_no true h = absurd (true≢false h)

pub any_parts : (x : Identity) (s : Sighting) (n : ℕ) (parts : List LedgerPart)
    → list_any (λ (p : LedgerPartFields). covers p.ranges s && has_key p.issuers x.issuer) (take n (map part_fields parts))
    ≡ list_any (λ (p : LedgerPart). covers p.ranges.items s && has_key p.issuers.items x.issuer) (take n parts)
any_parts x s zero parts = refl
any_parts x s (suc n) [] = refl
any_parts x s (suc n) (p ∷ parts) = ap (λ (b : Bool). (covers p.ranges.items s && has_key p.issuers.items x.issuer) || b) (any_parts x s n parts)

pub lacked_is : (parts : List LedgerPart) (items : List LedgerItem) (x : Identity) (s : Sighting) → (past_in (ledger_fields parts items)).comes_late x s
    ≡ covered_and_enrolled_by (take (birth_or (length parts) (find (λ (i : LedgerItem). is_same x i.id) items)) (map part_fields parts)) x s
unfolding past_in parts_before item_of
lacked_is parts items x s =
    ap (λ n. covered_and_enrolled_by (take (birth_or n (find (λ (i : LedgerItem). is_same x i.id) items)) (map part_fields parts)) x s) (length-map parts part_fields)

kept_of : {A B : Type 0} (f : A → B) (p : B → Bool) (xs : List A) → map f (filter (λ x. p (f x)) xs) ≡ filter p (map f xs)
kept_of f p [] = refl
kept_of f p (x ∷ xs) =
    (elim (p (f x)) as (λ b. map f (cond b (x ∷ filter (λ y. p (f y)) xs) (filter (λ y. p (f y)) xs)) ≡ cond b (f x ∷ filter p (map f xs)) (filter p (map f xs)))
    [ true ↦ ap (λ z. f x ∷ z) (kept_of f p xs) | false ↦ kept_of f p xs ])

-- where the part of the last is there, it covers the entries that pass a test or not
pub settled_there : {A : Type 0} (f : A → Entry) (test : Entry → Bool) (parts : List LedgerPart) (last : Option ℕ) (place : ℕ) (part : LedgerPart) (run : List A)
    → last ≡ Some place → slice_get parts place ≡ Some part
    → list_all (λ e. covers part.ranges.items (f e).sighting) (filter (λ e. test (f e)) run) ≡ last_covers (map part_fields parts) last (sightings_of (filter test (map f run)))
settled_there f test parts last place part run h at =
    sym (list_all-map (λ (e : Entry). covers part.ranges.items e.sighting) f (filter (λ e. test (f e)) run))
    ∙ ap (list_all (λ (e : Entry). covers part.ranges.items e.sighting)) (kept_of f test run)
    ∙ sym (list_all-map (covers part.ranges.items) (λ (e : Entry). e.sighting) (filter test (map f run)))
    ∙ sym (ap (λ o. last_covers (map part_fields parts) o (sightings_of (filter test (map f run)))) h
    ∙ ap (λ q. part_covers q (sightings_of (filter test (map f run)))) (slice_get-map part_fields parts place ∙ ap (option_map part_fields) at))

-- the dates of the entries that pass a test
pub dates_kept : {A : Type 0} (f : A → Entry) (test : Entry → Bool) (run : List A) → map (λ e. (f e).until) (filter (λ e. test (f e)) run) ≡ dates_of (filter test (map f run))
dates_kept f test run = sym (map_map f (λ (e : Entry). e.until) (filter (λ e. test (f e)) run)) ∙ ap dates_of (kept_of f test run)

-- some entry doesn't pass where not all of them do
other_step : (b any : Bool) (n m : ℕ) → n ≤ m → nat_lt n m ≡ any → nat_lt (cond b 1 0 + n) (suc m) ≡ (not b || any)
other_step true any n m le rest = grind (arith, nat_tests) ∙ rest
other_step false any n m le rest = grind (arith, nat_tests)

pub some_other : {A : Type 0} (p : A → Bool) (xs : List A) → nat_lt (count_by p xs) (length xs) ≡ list_any (λ x. not (p x)) xs
some_other p [] = refl
some_other p (x ∷ xs) =
    ap (λ n. nat_lt n (suc (length xs))) (sum_by-cons (λ y. cond (p y) 1 0) x xs)
    ∙ other_step (p x) (list_any (λ y. not (p y)) xs) (count_by p xs) (length xs) (count_by-le-length p xs) (some_other p xs)

some_if : {A : Type 0} (b : Bool) (x : A) → then_some b x ≡ cond b (Some x) None
some_if true x = refl
some_if false x = refl

-- what the code makes of an identity, from how many of its entries are late
pub judged_is : (parts : List LedgerPart) (x : Identity) (old : Option LedgerItem) (run : List Entry) (accepted : Bool) (birth : ℕ) (last : Option ℕ) (settled : Bool) (until : Option ℤ)
    → accepted ≡ is_member_of parts old run → birth ≡ birth_or (length parts) old → last ≡ last_or_none old
    → settled ≡ last_covers (map part_fields parts) last (sightings_of (filter (is_timely parts birth) run))
    → until ≡ greatest (old_dates old ++ dates_of (filter (is_timely parts birth) run))
    → then_some accepted (record { id = x; birth = birth; last = last; settled = settled; until = until }) ≡ judge_of parts x old run
judged_is parts x old run accepted birth last settled until a b l s u =
    let covered = s ∙ (λ k. last_covers (map part_fields parts) (l k) (sightings_of (filter (is_timely parts (b k)) run))) in
    let told = u ∙ (λ k. greatest (old_dates old ++ dates_of (filter (is_timely parts (b k)) run))) in
    some_if accepted (record { id = x; birth = birth; last = last; settled = settled; until = until })
    ∙ (λ k. cond (a k) (Some (record { id = x; birth = b k; last = l k; settled = covered k; until = told k })) None)

-- with the item of each entry, late is what a part before the birth of its identity lacks
pub told_lacked : (parts : List LedgerPart) (items : List LedgerItem) (es : List Entry)
    → count_told (is_late_beside parts) items es ≡ count_by (λ (e : Entry). (past_in (ledger_fields parts items)).comes_late e.id e.sighting) es
told_lacked parts items es = ap (λ f. count_by f es) (λ i. λ (e : Entry). sym (lacked_is parts items e.id e.sighting) i)

item_step : (x : Identity) (i : LedgerItem) (is : List LedgerItem) (b : Bool) → is_same x i.id ≡ b → (Among (item_ids is) x → is_some (find (λ (j : LedgerItem). is_same x j.id) is) ≡ true)
    → Among (item_ids (i ∷ is)) x → is_some (cond b (Some i) (find (λ (j : LedgerItem). is_same x j.id) is)) ≡ true
item_step x i is true e next a = refl
item_step x i is false e next (inl h) = absurd (true≢false (sym (subst (λ y. is_same y i.id ≡ true) h (same_refl i.id)) ∙ e))
item_step x i is false e next (inr a) = next a

some_item : (x : Identity) (is : List LedgerItem) → Among (item_ids is) x → is_some (find (λ (j : LedgerItem). is_same x j.id) is) ≡ true
some_item x [] a = absurd a
some_item x (i ∷ is) a = item_step x i is (is_same x i.id) refl (some_item x is) a

back_step : (x : Identity) (i : LedgerItem) (is : List LedgerItem) (b : Bool) → is_same x i.id ≡ b → (is_some (find (λ (j : LedgerItem). is_same x j.id) is) ≡ true → Among (item_ids is) x)
    → is_some (cond b (Some i) (find (λ (j : LedgerItem). is_same x j.id) is)) ≡ true → Among (item_ids (i ∷ is)) x
back_step x i is true e next h = inl (sym (same_is x i.id e))
back_step x i is false e next h = inr (next h)

item_some : (x : Identity) (is : List LedgerItem) → is_some (find (λ (j : LedgerItem). is_same x j.id) is) ≡ true → Among (item_ids is) x
item_some x [] h = absurd (true≢false (sym h))
item_some x (i ∷ is) h = back_step x i is (is_same x i.id) refl (item_some x is) h

module _ (parts : List LedgerPart) (items : List LedgerItem) (job : JobFacts) (sorted : List Entry) (reads : AreRead job sorted) where
  abbrev ledger : LedgerFields
  ledger = ledger_fields parts items

  abbrev item_at : Identity → Option LedgerItem
  item_at x = find (λ (i : LedgerItem). is_same x i.id) items

  abbrev run_at : Identity → List Entry
  run_at x = filter (λ (e : Entry). is_same x e.id) sorted

  abbrev late_in : Identity → Entry → Bool
  late_in x e = covered_and_enrolled_by (take (birth_or (length parts) (item_at x)) (map part_fields parts)) e.id e.sighting

  late_is : (x : Identity) (e : Entry) → x ≡ e.id → late_in x e ≡ (past_in ledger).comes_late e.id e.sighting
  late_is x e h =
      subst (λ y. late_in y e ≡ (past_in ledger).comes_late e.id e.sighting) (sym h) (sym (lacked_is parts items e.id e.sighting))

  timely_to : (x : Identity) (e : Entry) → Among (timely parts (item_at x) (run_at x)) e → Among sorted e × (x ≡ e.id) × ((past_in ledger).comes_late e.id e.sighting ≡ false)
  timely_to x e a =
      let f = Among-filter (is_timely parts (birth_or (length parts) (item_at x))) (run_at x) e a in
      let g = Among-filter (λ (d : Entry). is_same x d.id) sorted e f.0 in
      let i = same_is x e.id g.1 in
      (g.0, i, sym (late_is x e i) ∙ not_yes (late_in x e) f.1)

  run_from : (x : Identity) (e : Entry) → Among sorted e → x ≡ e.id → Among (run_at x) e
  run_from x e a i = Among-in_filter (λ (d : Entry). is_same x d.id) sorted e a (subst (λ y. is_same x y ≡ true) i (same_refl x))

  timely_at : (x : Identity) (e : Entry) → x ≡ e.id → (past_in ledger).comes_late e.id e.sighting ≡ false → is_timely parts (birth_or (length parts) (item_at x)) e ≡ true
  timely_at x e i l = not_no (late_in x e) (late_is x e i ∙ l)

  timely_from : (x : Identity) (e : Entry) → Among sorted e → x ≡ e.id → (past_in ledger).comes_late e.id e.sighting ≡ false → Among (timely parts (item_at x) (run_at x)) e
  timely_from x e a i l = Among-in_filter (is_timely parts (birth_or (length parts) (item_at x))) (run_at x) e (run_from x e a i) (timely_at x e i l)

  -- ---- the fields of a member

  covered_is : (ranges : List Range) (x : Identity) → covers_all ranges (sightings_of (timely parts (item_at x) (run_at x))) ≡ covers_all ranges (sightings x (shown (past_in ledger) job))
  covered_is ranges x =
      bool_same (covers_all ranges (sightings_of (timely parts (item_at x) (run_at x)))) (covers_all ranges (sightings x (shown (past_in ledger) job)))
      (λ h. all_from (covers ranges) (sightings x (shown (past_in ledger) job)) (λ s a.
      let m = Among-sightings x (shown (past_in ledger) job) s a in
      let e : Entry = m.0 in
      let d = shown_from (past_in ledger) job sorted reads e m.1 in
      let c : covers ranges e.sighting ≡ true = all_at (covers ranges) (sightings_of (timely parts (item_at x) (run_at x))) e.sighting h
      (Among-in_map (λ (z : Entry). z.sighting) (timely parts (item_at x) (run_at x)) e (timely_from x e d.0 m.2 d.1)) in
      subst (λ t. covers ranges t ≡ true) m.3 c))
      (λ h. all_from (covers ranges) (sightings_of (timely parts (item_at x) (run_at x))) (λ z a.
      let m = Among-map (λ (e : Entry). e.sighting) (timely parts (item_at x) (run_at x)) z a in
      let e : Entry = m.0 in
      let t = timely_to x e m.1 in
      let s : Among (shown (past_in ledger) job) e = shown_to (past_in ledger) job sorted reads e t.0 t.2 in
      let w : Among (sightings x (shown (past_in ledger) job)) e.sighting =
      subst (λ y. Among (sightings y (shown (past_in ledger) job)) e.sighting) (sym t.1) (Among-in_sightings (shown (past_in ledger) job) e s) in
      subst (λ (y : Sighting). covers ranges y ≡ true) m.2 (all_at (covers ranges) (sightings x (shown (past_in ledger) job)) e.sighting h w)))

  settled_part : (q : Option LedgerPartFields) (x : Identity)
      → part_covers q (sightings_of (timely parts (item_at x) (run_at x))) ≡ part_covers q (sightings x (shown (past_in ledger) job))
  settled_part None x = refl
  settled_part (Some p) x = covered_is p.ranges x

  settled_last : (o : Option ℕ) (x : Identity)
      → last_covers (map part_fields parts) o (sightings_of (timely parts (item_at x) (run_at x))) ≡ last_covers (map part_fields parts) o (sightings x (shown (past_in ledger) job))
  settled_last None x = refl
  settled_last (Some r) x = settled_part (slice_get (map part_fields parts) r) x

  date_to : (x : Identity) (d : Option ℤ) → Among (dates_of (timely parts (item_at x) (run_at x))) d → Among (dates x (shown (past_in ledger) job)) d
  date_to x d a =
      let m = Among-map (λ (e : Entry). e.until) (timely parts (item_at x) (run_at x)) d a in
      let e : Entry = m.0 in
      let t = timely_to x e m.1 in
      let s : Among (shown (past_in ledger) job) e = shown_to (past_in ledger) job sorted reads e t.0 t.2 in
      let w : Among (dates x (shown (past_in ledger) job)) e.until =
      subst (λ y. Among (dates y (shown (past_in ledger) job)) e.until) (sym t.1) (Among-in_dates (shown (past_in ledger) job) e s) in
      subst (λ (o : Option ℤ). Among (dates x (shown (past_in ledger) job)) o) m.2 w

  date_from : (x : Identity) (d : Option ℤ) → Among (dates x (shown (past_in ledger) job)) d → Among (dates_of (timely parts (item_at x) (run_at x))) d
  date_from x d a =
      let m = Among-dates x (shown (past_in ledger) job) d a in
      let e : Entry = m.0 in
      let r = shown_from (past_in ledger) job sorted reads e m.1 in
      subst (λ (o : Option ℤ). Among (dates_of (timely parts (item_at x) (run_at x))) o) m.3
      (Among-in_map (λ (z : Entry). z.until) (timely parts (item_at x) (run_at x)) e (timely_from x e r.0 m.2 r.1))

  date_is : (x : Identity) → greatest (old_dates (item_at x) ++ dates_of (timely parts (item_at x) (run_at x))) ≡ greatest (old_dates (item_at x) ++ dates x (shown (past_in ledger) job))
  date_is x =
      greatest_behind (old_dates (item_at x)) (dates_of (timely parts (item_at x) (run_at x))) (dates x (shown (past_in ledger) job))
      (date_to x) (date_from x)

  -- what the definitions say of an identity
  abbrev pub member_for : Identity → Member
  member_for x = record {
    id = x;
    birth = birth_or (length ledger.parts) (item_of ledger x);
    last = last_or_none (item_of ledger x);
    settled = (past_in ledger).already_revoked x (sightings x (shown (past_in ledger) job));
    until = greatest (old_dates (item_of ledger x) ++ dates x (shown (past_in ledger) job));
  }

  member_is : (x : Identity) → member_of parts x (item_at x) (run_at x) ≡ member_for x
  unfolding item_of past_in
  member_is x =
      let b : birth_or (length parts) (item_at x) ≡ birth_or (length (map part_fields parts)) (item_at x) = ap (λ n. birth_or n (item_at x)) (sym (length-map parts part_fields)) in
      let s : last_covers (map part_fields parts) (last_or_none (item_at x)) (sightings_of (timely parts (item_at x) (run_at x)))
      ≡ last_covers (map part_fields parts) (last_or_none (item_at x)) (sightings x (shown (past_in ledger) job)) =
      settled_last (last_or_none (item_at x)) x in
      λ k. record { id = x; birth = b k; last = last_or_none (item_at x); settled = s k; until = date_is x k }

  -- ---- the members

  abbrev test : Identity → Bool
  test x = is_member_of parts (item_at x) (run_at x)

  abbrev timely_test : Identity → Entry → Bool
  timely_test x e = is_timely parts (birth_or (length parts) (item_at x)) e

  abbrev accepted : List Identity
  accepted = accepted_with (past_in ledger) job

  in_accepted : (z : Identity) → Among (map (λ (e : Entry). e.id) (shown (past_in ledger) job)) z ⊎ Among (item_ids items) z → Among accepted z
  unfolding accepted_with past_in
  in_accepted z a =
      Among-in_union (map (λ (e : Entry). e.id) (shown (past_in ledger) job)) (item_ids items) z
      a

  of_accepted : (z : Identity) → Among accepted z → Among (map (λ (e : Entry). e.id) (shown (past_in ledger) job)) z ⊎ Among (item_ids items) z
  unfolding accepted_with past_in
  of_accepted z a =
      Among-union (map (λ (e : Entry). e.id) (shown (past_in ledger) job)) (item_ids items) z a

  accepted_sorted : IsStrictlySortedBy identity_cmp accepted
  unfolding accepted_with past_in
  accepted_sorted = (identities_are (map (λ (e : Entry). e.id) (shown (past_in ledger) job) ++ item_ids items)).ascends

  shown_id : (z : Identity) (e : Entry) → Among sorted e → z ≡ e.id → (past_in ledger).comes_late e.id e.sighting ≡ false → Among (map (λ (d : Entry). d.id) (shown (past_in ledger) job)) z
  shown_id z e a i l =
      subst (λ y. Among (map (λ (d : Entry). d.id) (shown (past_in ledger) job)) y) (sym i)
      (Among-in_map (λ (d : Entry). d.id) (shown (past_in ledger) job) e (shown_to (past_in ledger) job sorted reads e a l))

  kept_to : (z : Identity) → Among (filter test (all_ids items sorted)) z → Among accepted z
  kept_to z a =
      let f = Among-filter test (all_ids items sorted) z a in
      ⊎_elim (λ h. in_accepted z (inr (item_some z items h)))
      (λ h.
      let e = found (timely_test z) (run_at z) h in
      let t = timely_to z e.0 (Among-in_filter (timely_test z) (run_at z) e.0 e.1 e.2) in
      in_accepted z (inl (shown_id z e.0 t.0 t.1 t.2)))
      (or_cases (is_some (item_at z)) (list_any (timely_test z) (run_at z)) f.1)

  from_shown : (z : Identity) → Among (map (λ (e : Entry). e.id) (shown (past_in ledger) job)) z → Among (filter test (all_ids items sorted)) z
  from_shown z a =
      let m = Among-map (λ (e : Entry). e.id) (shown (past_in ledger) job) z a in
      let e : Entry = m.0 in
      let d = shown_from (past_in ledger) job sorted reads e m.1 in
      let i : z ≡ e.id = sym m.2 in
      let u : Among (all_ids items sorted) z =
      Among-in_union (map (λ (e : Entry). e.id) sorted) (item_ids items) z
      (inl (subst (λ y. Among (map (λ (e : Entry). e.id) sorted) y) (sym i) (Among-in_map (λ (e : Entry). e.id) sorted e d.0))) in
      Among-in_filter test (all_ids items sorted) z u
      (or_right (is_some (item_at z)) (list_any (timely_test z) (run_at z)) (any_at (timely_test z) (run_at z) e (run_from z e d.0 i) (timely_at z e i d.1)))

  from_item : (z : Identity) → Among (item_ids items) z → Among (filter test (all_ids items sorted)) z
  from_item z a =
      Among-in_filter test (all_ids items sorted) z (Among-in_union (map (λ (e : Entry). e.id) sorted) (item_ids items) z (inr a))
      (or_left (is_some (item_at z)) (list_any (timely_test z) (run_at z)) (some_item z items a))

  kept_is : filter test (all_ids items sorted) ≡ accepted
  kept_is =
      sorted_unique identity_cmp identity_total (filter test (all_ids items sorted)) accepted
      (IsStrictlySortedBy-filter identity_cmp test (all_ids items sorted) (identities_are (map (λ (e : Entry). e.id) sorted ++ item_ids items)).ascends)
      accepted_sorted kept_to (λ z a. ⊎_elim (λ p. from_shown z p) (λ q. from_item z q) (of_accepted z a))

  -- the merge gives the accepted identities, each with its birth, its last and whether its sightings are settled
  pub members_are : merged (judge_of parts) items sorted ≡ map member_for accepted
  unfolding merged
  members_are =
      filter_map_test test (λ x. member_of parts x (item_at x) (run_at x)) (all_ids items sorted)
      ∙ ap (map (λ x. member_of parts x (item_at x) (run_at x))) kept_is
      ∙ map_agree (λ x. member_of parts x (item_at x) (run_at x)) member_for accepted (λ x a. member_is x)
