-- The ledger's step is the history's.
use Rattle.std.specs.List.{list_any, find}
use Rattle.std.specs.Prelude.{is_some}
use Rattle.std.specs.Option.{option_map}
use Rattle.std.proofs.Common.{◌≡◌, ℕ, ⊎_elim, List, [], ◌∷◌, ◌++◌, map, take, length, Bool, true, false, cond, if◌then◌else◌, ◌&&◌, ◌||◌, Option, Some, None, refl, sym, ap, ◌∙◌}
use Rattle.std.proofs.lemmas.Bool.{true≢false, false_from_ne_true}
use Rattle.std.proofs.lemmas.List.{map-append, length-map}
use Rattle.std.proofs.lemmas.Option.{slice_get-map}
use Rattle.ident_core.specs.declared.identity.Identity.{Identity}
use Rattle.ident_core.specs.declared.range.Sighting.{Sighting}
use Rattle.ident_core.specs.Order.{is_same}
use Rattle.ident_core.specs.Coverage.{covers}
use Rattle.ledger_core.specs.LedgerFields.{LedgerPartFields}
use Rattle.ledger_core.specs.declared.fields.LedgerItem.{LedgerItem}
use Rattle.ident_core.specs.Among.{Among}
use Rattle.ident_core.specs.Sets.{has, has_key}
use Rattle.ident_core.proofs.Elements.{Among-cases, Among-right, all_at, all_from, bool_same, map_agree, map_back}
use Rattle.ident_core.proofs.Sets.{same_is, has-from_Among}
use Rattle.universe_core.specs.Jobs.{JobFacts}
use Rattle.universe_core.specs.History.{Release, past_of, released, shown, revoked, accepted_with, accepted_by, seen, sightings, is_listed, already_revoked_by, birth, covers_all}
use Rattle.universe_core.specs.Dates.{greatest, dates, until}
use Rattle.universe_core.specs.Ledgers.{item_of, birth_or, last_or_none, old_dates, parts_before, part_covers, last_covers, past_in, next_item, next_with, next_ledger, last, item_from, part_from, ledger_of}
use Rattle.universe_core.specs.Groups.{groups}
use Rattle.universe_core.specs.Counting.{counts}
use Rattle.universe_core.specs.Step.{groups_after, counts_after}
use Rattle.history_core.specs.Facts.{IsSound}
use Rattle.history_core.proofs.Dates.{until_next}
use Rattle.history_core.proofs.Releases.{accepted_by-has, accepted_by-push, settled_parts, settled_from}
use Rattle.history_core.proofs.Places.{birth-push, birth-none, lacked_before_birth, last-push, CoversAll, last_is}

-- ---- an identity's item

found_item : (rs : List Release) (x y : Identity) (ys : List Identity) (b : Bool) → is_same x y ≡ b
    → find (λ (i : LedgerItem). is_same x i.id) (map (item_from rs) ys) ≡ cond (has ys x) (Some (item_from rs x)) None
    → cond b (Some (item_from rs y)) (find (λ (i : LedgerItem). is_same x i.id) (map (item_from rs) ys)) ≡ cond (b || has ys x) (Some (item_from rs x)) None
found_item rs x y ys true e next = ap (λ (z : Identity). Some (item_from rs z)) (sym (same_is x y e))
found_item rs x y ys false e next = next

find_item : (rs : List Release) (x : Identity) (ys : List Identity) → find (λ (i : LedgerItem). is_same x i.id) (map (item_from rs) ys) ≡ cond (has ys x) (Some (item_from rs x)) None
find_item rs x [] = refl
find_item rs x (y ∷ ys) = found_item rs x y ys (is_same x y) refl (find_item rs x ys)

item_is : (rs : List Release) (x : Identity) → item_of (ledger_of rs) x ≡ cond (has (accepted_by [] rs) x) (Some (item_from rs x)) None
unfolding item_of ledger_of
item_is rs x = find_item rs x (accepted_by [] rs)

parts_are : (rs : List Release) → (ledger_of rs).parts ≡ map part_from rs
unfolding ledger_of
parts_are rs = refl

module _ (rs : List Release) (sound : IsSound rs) where
  -- an identity that isn't accepted has no birth and no last part
  unknown : (x : Identity) → has (accepted_by [] rs) x ≡ false → (r : Release) → Among rs r → has r.accepted x ≡ false
  unknown x n r a = false_from_ne_true (has r.accepted x) (λ h. true≢false (sym (accepted_by-has [] rs r x sound.widens a h) ∙ n))

  birth_case : (x : Identity) (b : Bool) → has (accepted_by [] rs) x ≡ b → birth_or (length rs) (cond b (Some (item_from rs x)) None) ≡ birth x rs
  birth_case x true e = refl
  birth_case x false e = sym (birth-none x rs (unknown x e))

  unrevoked_last : (x : Identity) (o : Option ℕ) → CoversAll x rs o → ((r : Release) → Among rs r → has r.revoked x ≡ false) → None ≡ o
  unrevoked_last x None l n = refl
  unrevoked_last x (Some k) l n = absurd (true≢false (sym l.3 ∙ n l.0 l.1))

  last_case : (x : Identity) (b : Bool) → has (accepted_by [] rs) x ≡ b → last_or_none (cond b (Some (item_from rs x)) None) ≡ last x rs
  last_case x true e = refl
  last_case x false e =
      unrevoked_last x (last x rs) (last_is x rs sound.widens)
      (λ r a. false_from_ne_true (has r.revoked x) (λ h. true≢false (sym ((sound.formed r a).accepted x h) ∙ unknown x e r a)))

  birth_in : (x : Identity) → birth_or (length (ledger_of rs).parts) (item_of (ledger_of rs) x) ≡ birth x rs
  birth_in x =
      ap (λ n. birth_or n (item_of (ledger_of rs) x)) (ap length (parts_are rs) ∙ length-map rs part_from)
      ∙ ap (birth_or (length rs)) (item_is rs x) ∙ birth_case x (has (accepted_by [] rs) x) refl

  last_in : (x : Identity) → last_or_none (item_of (ledger_of rs) x) ≡ last x rs
  last_in x = ap last_or_none (item_is rs x) ∙ last_case x (has (accepted_by [] rs) x) refl

  -- ---- the three sentences that a ledger reads otherwise

  lacked_in : (x : Identity) (s : Sighting) → (past_in (ledger_of rs)).comes_late x s ≡ (past_of rs).comes_late x s
  unfolding past_in past_of parts_before
  lacked_in x s =
      ap (λ n. list_any (λ (p : LedgerPartFields). covers p.ranges s && has_key p.issuers x.issuer) (take n (ledger_of rs).parts)) (birth_in x)
      ∙ ap (λ ps. list_any (λ (p : LedgerPartFields). covers p.ranges s && has_key p.issuers x.issuer) (take (birth x rs) ps)) (parts_are rs)
      ∙ lacked_before_birth x s rs sound.widens

  pub listed_case : (x : Identity) (o : Option ℕ) → CoversAll x rs o → is_some o ≡ is_listed rs x
  listed_case x None l =
      sym (false_from_ne_true (is_listed rs x) (λ h.
      let st = settled_parts rs x (sightings x (seen rs)) (sound.settled x h) in
      true≢false (sym st.revoked ∙ l st.by st.among)))
  listed_case x (Some k) l = sym (sound.revoked x l.0 l.1 l.3)

  listed_in : (x : Identity) → (past_in (ledger_of rs)).listed_before x ≡ (past_of rs).listed_before x
  unfolding past_in past_of
  listed_in x = ap is_some (last_in x) ∙ listed_case x (last x rs) (last_is x rs sound.widens)

  covers_case : (x : Identity) (now : List Sighting) (r : Release) → Among rs r → has r.revoked x ≡ true
      → ((q : Release) → Among rs q → has q.revoked x ≡ true → (s : Sighting) → covers q.ranges s ≡ true → covers r.ranges s ≡ true)
      → covers_all r.ranges now ≡ already_revoked_by rs x (sightings x (seen rs) ++ now)
  covers_case x now r a v w =
      bool_same (covers_all r.ranges now) (already_revoked_by rs x (sightings x (seen rs) ++ now))
      (λ h.
      let old = settled_parts rs x (sightings x (seen rs)) (sound.settled x (sound.revoked x r a v)) in
      settled_from rs x (sightings x (seen rs) ++ now) (record {
        by = r;
        among = a;
        revoked = v;
        covered = λ s i. ⊎_elim (λ b. w old.by old.among old.revoked s (old.covered s b)) (λ b. all_at (covers r.ranges) now s h b) (Among-cases (sightings x (seen rs)) now s i);
      }))
      (λ h.
      let st = settled_parts rs x (sightings x (seen rs) ++ now) h in
      all_from (covers r.ranges) now (λ s i. w st.by st.among st.revoked s (st.covered s (Among-right (sightings x (seen rs)) now s i))))

  settled_case : (x : Identity) (now : List Sighting) (o : Option ℕ) → CoversAll x rs o → last_covers (map part_from rs) o now ≡ already_revoked_by rs x (sightings x (seen rs) ++ now)
  settled_case x now None l =
      sym (false_from_ne_true (already_revoked_by rs x (sightings x (seen rs) ++ now)) (λ h.
      let st = settled_parts rs x (sightings x (seen rs) ++ now) h in
      true≢false (sym st.revoked ∙ l st.by st.among)))
  settled_case x now (Some k) l =
      ap (λ o. part_covers o now) (slice_get-map part_from rs k ∙ ap (option_map part_from) l.2) ∙ covers_case x now l.0 l.1 l.3 l.4

  settled_in : (x : Identity) (now : List Sighting) → (past_in (ledger_of rs)).already_revoked x now ≡ (past_of rs).already_revoked x now
  unfolding past_in past_of
  settled_in x now =
      ap (λ o. last_covers (ledger_of rs).parts o now) (last_in x) ∙ ap (λ ps. last_covers ps (last x rs) now) (parts_are rs)
      ∙ settled_case x now (last x rs) (last_is x rs sound.widens)

  accepted_in : (past_in (ledger_of rs)).accepted ≡ (past_of rs).accepted
  unfolding past_in past_of ledger_of
  accepted_in = map_back (item_from rs) (λ (i : LedgerItem). i.id) (accepted_by [] rs) (λ x. refl)

  -- A ledger tells what the history tells.
  pub past_in_ledger : past_in (ledger_of rs) ≡ past_of rs
  past_in_ledger = λ i. record {
    accepted = accepted_in i;
    comes_late = λ x s. lacked_in x s i;
    listed_before = λ x. listed_in x i;
    already_revoked = λ x now. settled_in x now i;
  }

  -- ---- the next ledger

  last_next : (job : JobFacts) (x : Identity) → (if has (revoked (past_of rs) job) x then Some (length (ledger_of rs).parts) else last_or_none (item_of (ledger_of rs) x))
      ≡ cond (has (revoked (past_of rs) job) x) (Some (length rs)) (last x rs)
  last_next job x =
      ap (λ n. cond (has (revoked (past_of rs) job) x) (Some n) (last_or_none (item_of (ledger_of rs) x))) (ap length (parts_are rs) ∙ length-map rs part_from)
      ∙ ap (λ o. cond (has (revoked (past_of rs) job) x) (Some (length rs)) o) (last_in x)

  old_case : (x : Identity) (b : Bool) → old_dates (cond b (Some (item_from rs x)) None) ≡ cond b (until x rs ∷ []) []
  old_case x true = refl
  old_case x false = refl

  date_next : (job : JobFacts) (trailer : List ℕ) (x : Identity)
      → greatest (old_dates (item_of (ledger_of rs) x) ++ dates x (shown (past_of rs) job)) ≡ until x (rs ++ released (past_of rs) job trailer ∷ [])
  date_next job trailer x =
      ap (λ ds. greatest (ds ++ dates x (shown (past_of rs) job))) (ap old_dates (item_is rs x) ∙ old_case x (has (accepted_by [] rs) x))
      ∙ until_next rs sound x job trailer

  item_next : (job : JobFacts) (trailer : List ℕ) (x : Identity) → has (accepted_with (past_of rs) job) x ≡ true
      → next_item (past_of rs) (ledger_of rs) job x ≡ item_from (rs ++ released (past_of rs) job trailer ∷ []) x
  item_next job trailer x h = λ i. record {
    id = x;
    birth = (birth_in x ∙ sym (birth-push x rs (released (past_of rs) job trailer) h)) i;
    last = (last_next job x ∙ sym (last-push x rs (released (past_of rs) job trailer))) i;
    until = date_next job trailer x i;
  }

  next_items : (job : JobFacts) (trailer : List ℕ) → map (next_item (past_of rs) (ledger_of rs) job) (accepted_with (past_of rs) job)
      ≡ map (item_from (rs ++ released (past_of rs) job trailer ∷ [])) (accepted_by [] (rs ++ released (past_of rs) job trailer ∷ []))
  next_items job trailer =
      map_agree (next_item (past_of rs) (ledger_of rs) job) (item_from (rs ++ released (past_of rs) job trailer ∷ [])) (accepted_with (past_of rs) job)
      (λ x a. item_next job trailer x (has-from_Among (accepted_with (past_of rs) job) x a))
      ∙ ap (map (item_from (rs ++ released (past_of rs) job trailer ∷ []))) (sym (accepted_by-push [] rs (released (past_of rs) job trailer)))

  next_with_past : (job : JobFacts) (trailer : List ℕ) → next_with (past_of rs) (ledger_of rs) job trailer ≡ ledger_of (rs ++ released (past_of rs) job trailer ∷ [])
  unfolding ledger_of
  next_with_past job trailer = λ i. record {
    parts = sym (map-append part_from rs (released (past_of rs) job trailer ∷ [])) i;
    items = next_items job trailer i;
  }

  -- The next ledger of a history's ledger is that of the history with the job.
  pub next_is : (job : JobFacts) (trailer : List ℕ) → next_ledger (ledger_of rs) job trailer ≡ ledger_of (rs ++ released (past_of rs) job trailer ∷ [])
  next_is job trailer = ap (λ past. next_with past (ledger_of rs) job trailer) past_in_ledger ∙ next_with_past job trailer

  -- The groups and the counts of a history's ledger are those of the history.
  pub groups_are : (job : JobFacts) (trailer : List ℕ) → groups_after (ledger_of rs) job ≡ groups (released (past_of rs) job trailer)
  unfolding groups
  groups_are job trailer = ap (λ past. groups (released past job [])) past_in_ledger

  pub counts_are : (job : JobFacts) → counts_after (ledger_of rs) job ≡ counts (past_of rs) job
  counts_are job = ap (λ past. counts past job) past_in_ledger
