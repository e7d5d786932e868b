-- An admitted job keeps the facts.
use Rattle.std.proofs.Common.{◌≡◌, ℕ, ◌⊎◌, inl, inr, ⊎_elim, List, [], ◌∷◌, ◌++◌, true, false, ◌||◌, refl, sym, ap, ◌∙◌, subst}
use Rattle.std.proofs.lemmas.Bool.{or_cases, or_left, or_right, and_from, and_parts, cases_Bool, true≢false, false≢true}
use Rattle.ident_core.specs.declared.identity.Identity.{Identity}
use Rattle.ident_core.specs.declared.range.Sighting.{Sighting}
use Rattle.ident_core.specs.Coverage.{covers}
use Rattle.ident_core.specs.Among.{Among}
use Rattle.ident_core.specs.Sets.{has, has_key}
use Rattle.ident_core.proofs.Elements.{Among-left, Among-right, Among-push, Among-push_cases, Among-cases}
use Rattle.universe_core.specs.Jobs.{Entry, JobFacts, enrolled, lists}
use Rattle.universe_core.specs.History.{Release, past_of, released, sightings, accepted_by, seen, birth, is_listed, already_revoked_by, shown, accepted_with, universe, enrolls_and_lists, revoked}
use Rattle.universe_core.proofs.Issuers.{enrolled_ascend}
use Rattle.history_core.specs.Facts.{Widens, IsFormed, IsSound, KeepsCoverage}
use Rattle.history_core.proofs.Sightings.{Among-sightings}
use Rattle.history_core.proofs.Coverage.{covers_next}
use Rattle.history_core.proofs.Accepting.{shown_is, accepted_cases, accepted_old, accepted_new, universe_is, universe_has, revoked_is}
use Rattle.history_core.proofs.Accepting.{revoked_listed, not_revoked, accepted_ascend}
use Rattle.history_core.proofs.Releases.{seen-push, sightings-append, accepted_by-push, accepted_by-has, Widens-push, is_listed_at, is_listed_by}
use Rattle.history_core.proofs.Releases.{IsSettled, settled_parts, settled_from, not_lacked}

pub nothing_sound : IsSound []
unfolding is_listed birth seen accepted_by
nothing_sound = record {
  widens = tt;
  formed = λ r a. absurd a;
  covered = λ e a. absurd a;
  timely = λ e a. absurd a;
  entered = λ x h. absurd (false≢true h);
  revoked = λ x r a. absurd a;
  settled = λ x h. absurd (false≢true h);
}

-- ---- what the past is

past_accepted : (rs : List Release) (x : Identity) → has (accepted_by [] rs) x ≡ true → has (past_of rs).accepted x ≡ true
unfolding past_of
past_accepted rs x h = h

accepted_past : (rs : List Release) (x : Identity) → has (past_of rs).accepted x ≡ true → has (accepted_by [] rs) x ≡ true
unfolding past_of
accepted_past rs x h = h

past_timely : (rs : List Release) (x : Identity) (s : Sighting) (r : Release) → (past_of rs).comes_late x s ≡ false → Among rs r → covers r.ranges s ≡ true
    → has_key r.issuers x.issuer ≡ true → has r.accepted x ≡ true
unfolding past_of
past_timely rs x s r h = not_lacked rs x s r h

past_listed : (rs : List Release) (x : Identity) → (past_of rs).listed_before x ≡ is_listed rs x
unfolding past_of
past_listed rs x = refl

past_settled : (rs : List Release) (x : Identity) (now : List Sighting) → (past_of rs).already_revoked x now ≡ already_revoked_by rs x (sightings x (seen rs) ++ now)
unfolding past_of
past_settled rs x now = refl

module _ (rs : List Release) (job : JobFacts) (trailer : List ℕ) (sound : IsSound rs) (follows : KeepsCoverage rs job) where
  abbrev after : List Release
  after = rs ++ released (past_of rs) job trailer ∷ []

  -- what a release has accepted the job has
  kept : (r : Release) (x : Identity) → Among rs r → has r.accepted x ≡ true → has (accepted_with (past_of rs) job) x ≡ true
  kept r x a h = accepted_old (past_of rs) job x (past_accepted rs x (accepted_by-has [] rs r x sound.widens a h))

  -- an entry of the history with this job is an old one or a new one
  entry_cases : (e : Entry) → Among (seen after) e → Among (seen rs) e ⊎ Among (shown (past_of rs) job) e
  entry_cases e a =
      Among-cases (seen rs) (shown (past_of rs) job) e (subst (λ (es : List Entry). Among es e) (seen-push rs (released (past_of rs) job trailer)) a)

  -- an old entry's identity is accepted
  known : (e : Entry) → Among (seen rs) e → has (accepted_with (past_of rs) job) e.id ≡ true
  known e a = let c = sound.covered e a in kept c.0 e.id c.1 (sound.timely e a c.0 c.1 c.2 c.3)

  -- each of its sightings is covered by the job
  covered_now : (e : Entry) → Among (seen after) e → covers job.ranges e.sighting ≡ true
  covered_now e a =
      ⊎_elim (λ old. let c = sound.covered e old in covers_next rs job c.0 e.sighting follows sound.widens c.1 c.2) (λ n. (shown_is (past_of rs) job e n).covered) (entry_cases e a)

  widens : Widens after
  widens = Widens-push rs (released (past_of rs) job trailer) sound.widens
      (λ r a. record { covered = λ s h. covers_next rs job r s follows sound.widens a h; accepted = λ x h. kept r x a h })

  formed_now : IsFormed (released (past_of rs) job trailer)
  formed_now = record {
    issuers_ascend = enrolled_ascend job;
    accepted_ascend = accepted_ascend (past_of rs) job;
    enrolled = λ x h. (universe_is (past_of rs) job x (revoked_is (past_of rs) job x h).0).1;
    accepted = λ x h. (universe_is (past_of rs) job x (revoked_is (past_of rs) job x h).0).0;
    shown = λ e h. accepted_new (past_of rs) job e h;
  }

  formed : (r : Release) → Among after r → IsFormed r
  formed r a = ⊎_elim (λ old. sound.formed r old) (λ e. subst IsFormed e formed_now) (Among-push_cases rs (released (past_of rs) job trailer) r a)

  covered : (e : Entry) → Among (seen after) e → (r : Release) × Among after r × (covers r.ranges e.sighting ≡ true) × (has_key r.issuers e.id.issuer ≡ true)
  covered e a =
      ⊎_elim (λ old. let c = sound.covered e old in (c.0, Among-left rs (released (past_of rs) job trailer ∷ []) c.0 c.1, c.2, c.3))
      (λ n. let i = shown_is (past_of rs) job e n in (released (past_of rs) job trailer, Among-push rs (released (past_of rs) job trailer), i.covered, i.enrolled)) (entry_cases e a)

  timely_now : (e : Entry) → Among (seen after) e → has (accepted_with (past_of rs) job) e.id ≡ true
  timely_now e a = ⊎_elim (λ old. known e old) (λ n. accepted_new (past_of rs) job e n) (entry_cases e a)

  timely_before : (e : Entry) → Among (seen after) e → (r : Release) → Among rs r → covers r.ranges e.sighting ≡ true → has_key r.issuers e.id.issuer ≡ true → has r.accepted e.id ≡ true
  timely_before e a r i c k =
      ⊎_elim (λ old. sound.timely e old r i c k) (λ n. past_timely rs e.id e.sighting r (shown_is (past_of rs) job e n).timely i c k) (entry_cases e a)

  timely : (e : Entry) → Among (seen after) e → (r : Release) → Among after r → covers r.ranges e.sighting ≡ true → has_key r.issuers e.id.issuer ≡ true → has r.accepted e.id ≡ true
  timely e a r i c k =
      ⊎_elim (λ old. timely_before e a r old c k) (λ (q : released (past_of rs) job trailer ≡ r). ap (λ (z : Release). has z.accepted e.id) (sym q) ∙ timely_now
      e a) (Among-push_cases rs (released (past_of rs) job trailer) r i)

  from_old : (e : Entry) → Among (seen rs) e → Among (seen after) e
  from_old e a = subst (λ (es : List Entry). Among es e) (sym (seen-push rs (released (past_of rs) job trailer))) (Among-left (seen rs) (shown (past_of rs) job) e a)

  from_new : (e : Entry) → Among (shown (past_of rs) job) e → Among (seen after) e
  from_new e a = subst (λ (es : List Entry). Among es e) (sym (seen-push rs (released (past_of rs) job trailer))) (Among-right (seen rs) (shown (past_of rs) job) e a)

  entered : (x : Identity) → has (accepted_by [] after) x ≡ true → (e : Entry) × Among (seen after) e × (e.id ≡ x)
  entered x h =
      ⊎_elim (λ old. let e = sound.entered x (accepted_past rs x old) in (e.0, from_old e.0 e.1, e.2)) (λ n. (n.0, from_new n.0 n.1, n.2))
      (accepted_cases (past_of rs) job x (ap (λ xs. has xs x) (sym (accepted_by-push [] rs (released (past_of rs) job trailer))) ∙ h))

  -- listed before or now is listed
  still_listed : (x : Identity) → is_listed rs x ≡ true → is_listed after x ≡ true
  still_listed x h =
      let l = is_listed_by rs x h in
      is_listed_at after l.by x (Among-left rs (released (past_of rs) job trailer ∷ []) l.by l.among) (l.accepted sound.widens) l.lists

  listed_with : (x : Identity) → has (universe (past_of rs) job) x ≡ true → lists job x ≡ true → is_listed after x ≡ true
  listed_with x u l =
      let i = universe_is (past_of rs) job x u in
      is_listed_at after (released (past_of rs) job trailer) x (Among-push rs (released (past_of rs) job trailer)) i.0
      (and_from (lists job x) (has_key (enrolled job) x.issuer) l i.1)

  listed_now : (x : Identity) → has (accepted_with (past_of rs) job) x ≡ true
      → enrolls_and_lists x (released (past_of rs) job trailer) ≡ true → (has (universe (past_of rs) job) x ≡ true) × (lists job x ≡ true)
  listed_now x a h =
      let p = and_parts (lists job x) (has_key (enrolled job) x.issuer) h in (universe_has (past_of rs) job x a p.1, p.0)

  listed_cases : (x : Identity) → is_listed after x ≡ true
      → (is_listed rs x ≡ true) ⊎ ((has (universe (past_of rs) job) x ≡ true) × (lists job x ≡ true))
  listed_cases x h =
      let l = is_listed_by after x h in
      ⊎_elim (λ old. inl (is_listed_at rs l.by x old (l.accepted widens) l.lists))
      (λ (q : released (past_of rs) job trailer ≡ l.by). inr (listed_now x (ap (λ (z : Release). has z.accepted x) q ∙ l.accepted widens)
      (ap (enrolls_and_lists x) q ∙ l.lists)))
      (Among-push_cases rs (released (past_of rs) job trailer) l.by l.among)

  revoked_now : (x : Identity) → has (revoked (past_of rs) job) x ≡ true → is_listed after x ≡ true
  revoked_now x h =
      ⊎_elim (λ l. still_listed x (sym (past_listed rs x) ∙ l)) (λ l. listed_with x (revoked_is (past_of rs) job x h).0 l)
      (or_cases ((past_of rs).listed_before x) (lists job x) (revoked_listed (past_of rs) job x h))

  revoked_listed_after : (x : Identity) (r : Release) → Among after r → has r.revoked x ≡ true → is_listed after x ≡ true
  revoked_listed_after x r a h =
      ⊎_elim (λ old. still_listed x (sound.revoked x r old h)) (λ (q : released (past_of rs) job trailer ≡ r). revoked_now x (ap (λ (z : Release). has z.revoked x) q ∙ h))
      (Among-push_cases rs (released (past_of rs) job trailer) r a)

  -- a release that covers an identity's old and new sightings covers all of them
  sighting_cases : (x : Identity) (s : Sighting) → Among (sightings x (seen after)) s → Among (sightings x (seen rs) ++ sightings x (shown (past_of rs) job)) s
  sighting_cases x s a =
      subst (λ (ss : List Sighting). Among ss s) (ap (sightings x) (seen-push rs (released (past_of rs) job trailer)) ∙ sightings-append x (seen rs) (shown (past_of rs) job)) a

  -- settled by the new release itself
  settled_by_new : (x : Identity) → has (revoked (past_of rs) job) x ≡ true → already_revoked_by after x (sightings x (seen after)) ≡ true
  settled_by_new x h = settled_from after x (sightings x (seen after)) (record {
    by = released (past_of rs) job trailer;
    among = Among-push rs (released (past_of rs) job trailer);
    revoked = h;
    covered = λ s a.
        let m = Among-sightings x (seen after) s a in
        subst (λ (t : Sighting). covers job.ranges t ≡ true) m.3 (covered_now m.0 m.1);
  })

  -- settled by an older one
  settled_by_old : (x : Identity) → IsSettled rs x (sightings x (seen rs) ++ sightings x (shown (past_of rs) job)) → already_revoked_by after x (sightings x (seen after)) ≡ true
  settled_by_old x h = settled_from after x (sightings x (seen after)) (record {
    by = h.by;
    among = Among-left rs (released (past_of rs) job trailer ∷ []) h.by h.among;
    revoked = h.revoked;
    covered = λ s a. h.covered s (sighting_cases x s a);
  })

  listed_accepted : (x : Identity) → is_listed rs x ≡ true → has (accepted_with (past_of rs) job) x ≡ true
  listed_accepted x h = let l = is_listed_by rs x h in kept l.by x l.among (l.accepted sound.widens)

  -- of the universe, listed, and not revoked now
  settled_in_universe : (x : Identity) → has (universe (past_of rs) job) x ≡ true → (is_listed rs x || lists job x) ≡ true → has (revoked (past_of rs) job) x ≡ false
      → already_revoked_by after x (sightings x (seen after)) ≡ true
  settled_in_universe x u l n =
      let was : ((past_of rs).listed_before x || lists job x) ≡ true = ap (λ b. b || lists job x) (past_listed rs x) ∙ l in
      let s : (past_of rs).already_revoked x (sightings x (shown (past_of rs) job)) ≡ true = not_revoked (past_of rs) job x u was n in
      settled_by_old x (settled_parts rs x (sightings x (seen rs) ++ sightings x (shown (past_of rs) job)) (sym (past_settled rs x (sightings x (shown (past_of rs) job))) ∙ s))

  -- listed before, and its issuer isn't enrolled: it has no new sighting
  settled_elsewhere : (x : Identity) → is_listed rs x ≡ true → has_key (enrolled job) x.issuer ≡ false → already_revoked_by after x (sightings x (seen after)) ≡ true
  settled_elsewhere x l n =
      let old = settled_parts rs x (sightings x (seen rs)) (sound.settled x l) in
      settled_by_old x (record {
        by = old.by;
        among = old.among;
        revoked = old.revoked;
        covered = λ s a. ⊎_elim (λ b. old.covered s b)
            (λ b.
            let m = Among-sightings x (shown (past_of rs) job) s b in
            absurd (true≢false (sym (ap (λ (y : Identity). has_key (enrolled job) y.issuer) m.2 ∙ (shown_is (past_of rs) job m.0 m.1).enrolled) ∙ n)))
            (Among-cases (sightings x (seen rs)) (sightings x (shown (past_of rs) job)) s a);
      })

  settled_unrevoked : (x : Identity) → has (revoked (past_of rs) job) x ≡ false
      → (is_listed rs x ≡ true) ⊎ ((has (universe (past_of rs) job) x ≡ true) × (lists job x ≡ true))
      → already_revoked_by after x (sightings x (seen after)) ≡ true
  settled_unrevoked x n (inl l) =
      ⊎_elim
      (λ e. settled_in_universe x (universe_has (past_of rs) job x (listed_accepted x l) e) (or_left (is_listed rs x) (lists job x) l) n)
      (λ e. settled_elsewhere x l e) (cases_Bool (has_key (enrolled job) x.issuer))
  settled_unrevoked x n (inr l) =
      settled_in_universe x l.0 (or_right (is_listed rs x) (lists job x) l.1) n

  settled : (x : Identity) → is_listed after x ≡ true → already_revoked_by after x (sightings x (seen after)) ≡ true
  settled x h =
      ⊎_elim (λ e. settled_by_new x e) (λ e. settled_unrevoked x e (listed_cases x h)) (cases_Bool (has (revoked (past_of rs) job) x))

  pub keeps_sound : IsSound (rs ++ released (past_of rs) job trailer ∷ [])
  keeps_sound = record {
    widens = widens;
    formed = formed;
    covered = covered;
    timely = timely;
    entered = entered;
    revoked = revoked_listed_after;
    settled = settled;
  }
