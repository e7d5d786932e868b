-- A base keeps the facts, whichever identities are kept.
use Rattle.std.specs.List.{filter, flat_map}
use Rattle.std.proofs.Common.{◌≡◌, ℕ, inl, inr, ⊎_elim, List, [], ◌∷◌, Bool, true, refl, sym, ap, ◌∙◌, subst}
use Rattle.std.proofs.lemmas.Bool.{and_from, and_parts}
use Rattle.std.proofs.lemmas.List.{append-nil}
use Rattle.std.proofs.lemmas.List.Kept.{IsStrictlySortedBy-filter}
use Rattle.ident_core.specs.declared.identity.Identity.{Identity}
use Rattle.ident_core.specs.declared.range.Sighting.{Sighting}
use Rattle.ident_core.specs.declared.range.Range.{Range}
use Rattle.ident_core.specs.Order.{identity_cmp}
use Rattle.ident_core.specs.Coverage.{covers}
use Rattle.ident_core.specs.Among.{Among}
use Rattle.ident_core.specs.Sets.{has, has_key}
use Rattle.ident_core.proofs.Elements.{Among-filter, Among-in_filter, Among-left, Among-right}
use Rattle.ident_core.proofs.Order.{sorted_none}
use Rattle.ident_core.proofs.Sets.{Among-from_has, has-from_Among, has_key-from_Among, Among-from_has_key, Among-key_set, identity_total, key_set_ascends}
use Rattle.universe_core.specs.Jobs.{Entry}
use Rattle.universe_core.specs.History.{Release, accepted_by, seen, sightings, is_listed, already_revoked_by}
use Rattle.history_core.specs.Bases.{newest_ranges, all_issuers, kept_by, base_with}
use Rattle.history_core.specs.Facts.{IsSound, IsFormed, Widens}
use Rattle.history_core.proofs.Sightings.{Among-sightings}
use Rattle.history_core.proofs.Releases.{accepted_by-has, is_listed_at, is_listed_by, IsSettled, settled_parts, settled_from, accepted_by-ascend}

newest_ranges-kept : (before : List Range) (rs : List Release) (s : Sighting) → covers before s ≡ true
    → ((r : Release) → Among rs r → covers r.ranges s ≡ true) → covers (newest_ranges before rs) s ≡ true
unfolding newest_ranges
newest_ranges-kept before [] s h f = h
newest_ranges-kept before (r ∷ rs) s h f = newest_ranges-kept r.ranges rs s (f r (inl refl)) (λ q a. f q (inr a))

-- what a release covers the newest covers
covers_newest : (before : List Range) (rs : List Release) (r : Release) (s : Sighting) → Widens rs → Among rs r → covers r.ranges s ≡ true → covers (newest_ranges before rs) s ≡ true
unfolding newest_ranges
covers_newest before [] r s w a h = absurd a
covers_newest before (q ∷ rs) r s w (inl e) h =
    let here : covers q.ranges s ≡ true = ap (λ (z : Release). covers z.ranges s) e ∙ h in
    newest_ranges-kept q.ranges rs s here (λ p a. (w.0 p a).covered s here)
covers_newest before (q ∷ rs) r s w (inr a) h = covers_newest q.ranges rs r s w.1 a h

Among-flat_map : (rs : List Release) (r : Release) (k : List ℕ) → Among rs r → Among r.issuers k → Among (flat_map (λ (q : Release). q.issuers) rs) k
Among-flat_map [] r k a h = absurd a
Among-flat_map (q ∷ rs) r k (inl e) h = Among-left q.issuers (flat_map (λ (p : Release). p.issuers) rs) k (subst (λ (z : Release). Among z.issuers k) (sym e) h)
Among-flat_map (q ∷ rs) r k (inr a) h = Among-right q.issuers (flat_map (λ (p : Release). p.issuers) rs) k (Among-flat_map rs r k a h)

-- the base enrolls what some release did
enrolls : (rs : List Release) (r : Release) (k : List ℕ) → Among rs r → has_key r.issuers k ≡ true → has_key (all_issuers rs) k ≡ true
enrolls rs r k a h =
    has_key-from_Among (all_issuers rs) k
    (Among-key_set (flat_map (λ (q : Release). q.issuers) rs) k (Among-flat_map rs r k a (Among-from_has_key r.issuers k h)))

-- so the issuers of what is listed
pub enrolls_listed : (rs : List Release) (x : Identity) → is_listed rs x ≡ true → has_key (all_issuers rs) x.issuer ≡ true
enrolls_listed rs x h =
    let l = is_listed_by rs x h in
    enrolls rs l.by x.issuer l.among (and_parts (l.by.lists x) (has_key l.by.issuers x.issuer) l.lists).1

module _ (keeps : Identity → Bool) (rs : List Release) (trailer : List ℕ) (sound : IsSound rs) where
  listed_is : (x : Identity) → has (filter (is_listed rs) (kept_by keeps rs)) x ≡ true → Among (kept_by keeps rs) x × (is_listed rs x ≡ true)
  listed_is x h = Among-filter (is_listed rs) (kept_by keeps rs) x (Among-from_has (filter (is_listed rs) (kept_by keeps rs)) x h)

  settled_of : (x : Identity) → is_listed rs x ≡ true → IsSettled rs x (sightings x (seen rs))
  settled_of x h = settled_parts rs x (sightings x (seen rs)) (sound.settled x h)

  shown_is : (e : Entry) → Among (filter (λ e. keeps e.id) (seen rs)) e → Among (seen rs) e × (keeps e.id ≡ true)
  shown_is e a = Among-filter (λ (d : Entry). keeps d.id) (seen rs) e a

  accepted_base : (e : Entry) → Among (filter (λ e. keeps e.id) (seen rs)) e → has (kept_by keeps rs) e.id ≡ true
  accepted_base e a =
      let s = shown_is e a in
      let c = sound.covered e s.0 in
      has-from_Among (kept_by keeps rs) e.id
      (Among-in_filter keeps (accepted_by [] rs) e.id (Among-from_has (accepted_by [] rs) e.id (accepted_by-has [] rs c.0 e.id sound.widens c.1 (sound.timely e s.0 c.0 c.1 c.2 c.3))) s.1)

  formed : IsFormed (base_with keeps rs trailer)
  unfolding base_with
  formed = record {
    issuers_ascend = key_set_ascends (flat_map (λ (q : Release). q.issuers) rs);
    accepted_ascend = IsStrictlySortedBy-filter identity_cmp keeps (accepted_by [] rs) (accepted_by-ascend [] rs (sorted_none identity_cmp identity_total) (λ r a. (sound.formed r a).accepted_ascend));
    enrolled = λ x h. let st = settled_of x (listed_is x h).1 in enrolls rs st.by x.issuer st.among ((sound.formed st.by st.among).enrolled x st.revoked);
    accepted = λ x h. has-from_Among (kept_by keeps rs) x (listed_is x h).0;
    shown = λ e a. accepted_base e a;
  }

  seen_base : (e : Entry) → Among (seen (base_with keeps rs trailer ∷ [])) e → Among (filter (λ e. keeps e.id) (seen rs)) e
  unfolding base_with seen
  seen_base e a = subst (λ (es : List Entry). Among es e) (append-nil (filter (λ e. keeps e.id) (seen rs))) a

  covers_base : (e : Entry) → Among (filter (λ e. keeps e.id) (seen rs)) e → covers (newest_ranges [] rs) e.sighting ≡ true
  covers_base e a = let c = sound.covered e (shown_is e a).0 in covers_newest [] rs c.0 e.sighting sound.widens c.1 c.2

  enrolls_base : (e : Entry) → Among (filter (λ e. keeps e.id) (seen rs)) e → has_key (all_issuers rs) e.id.issuer ≡ true
  enrolls_base e a = let c = sound.covered e (shown_is e a).0 in enrolls rs c.0 e.id.issuer c.1 c.3

  only : (r : Release) → Among (base_with keeps rs trailer ∷ []) r → base_with keeps rs trailer ≡ r
  only r a = ⊎_elim (λ e. e) (λ n. absurd n) a

  covered : (e : Entry) → Among (seen (base_with keeps rs trailer ∷ [])) e
      → (r : Release) × Among (base_with keeps rs trailer ∷ []) r × (covers r.ranges e.sighting ≡ true) × (has_key r.issuers e.id.issuer ≡ true)
  unfolding base_with
  covered e a = (base_with keeps rs trailer, inl refl, covers_base e (seen_base e a), enrolls_base e (seen_base e a))

  timely_base : (e : Entry) → Among (seen (base_with keeps rs trailer ∷ [])) e → has (base_with keeps rs trailer).accepted e.id ≡ true
  unfolding base_with
  timely_base e a = accepted_base e (seen_base e a)

  entered : (x : Identity) → has (accepted_by [] (base_with keeps rs trailer ∷ [])) x ≡ true → (e : Entry) × Among (seen (base_with keeps rs trailer ∷ [])) e × (e.id ≡ x)
  unfolding base_with accepted_by seen
  entered x h =
      let k = Among-filter keeps (accepted_by [] rs) x (Among-from_has (kept_by keeps rs) x h) in
      let e = sound.entered x (has-from_Among (accepted_by [] rs) x k.0) in
      (e.0, Among-left (filter (λ (d : Entry). keeps d.id) (seen rs)) [] e.0 (Among-in_filter (λ (d : Entry). keeps d.id) (seen rs) e.0 e.1 (ap keeps e.2 ∙ k.1)), e.2)

  -- it revokes what it has accepted and lists
  revokes : (x : Identity) → has (base_with keeps rs trailer).accepted x ≡ true → (base_with keeps rs trailer).lists x ≡ true
      → has (base_with keeps rs trailer).revoked x ≡ true
  unfolding base_with
  revokes x a l =
      has-from_Among (filter (is_listed rs) (kept_by keeps rs)) x
      (Among-in_filter (is_listed rs) (kept_by keeps rs) x (Among-from_has (kept_by keeps rs) x a) l)

  -- and that is listed
  listed_base : (x : Identity) → has (base_with keeps rs trailer).revoked x ≡ true → is_listed (base_with keeps rs trailer ∷ []) x ≡ true
  unfolding base_with
  listed_base x h =
      let l = listed_is x h in
      is_listed_at (base_with keeps rs trailer ∷ []) (base_with keeps rs trailer) x (inl refl) (has-from_Among (kept_by keeps rs) x l.0)
      (and_from (is_listed rs x) (has_key (all_issuers rs) x.issuer) l.1 (enrolls_listed rs x l.1))

  covers_settled : (x : Identity) (s : Sighting) → Among (sightings x (seen (base_with keeps rs trailer ∷ []))) s → covers (base_with keeps rs trailer).ranges s ≡ true
  unfolding base_with
  covers_settled x s a =
      let m = Among-sightings x (seen (base_with keeps rs trailer ∷ [])) s a in
      subst (λ (t : Sighting). covers (newest_ranges [] rs) t ≡ true) m.3 (covers_base m.0 (seen_base m.0 m.1))

  settled : (x : Identity) → is_listed (base_with keeps rs trailer ∷ []) x ≡ true → already_revoked_by (base_with keeps rs trailer ∷ []) x (sightings x (seen (base_with keeps rs trailer ∷ []))) ≡ true
  settled x h =
      let l = is_listed_by (base_with keeps rs trailer ∷ []) x h in
      let is = only l.by l.among in
      settled_from (base_with keeps rs trailer ∷ []) x (sightings x (seen (base_with keeps rs trailer ∷ []))) (record {
        by = base_with keeps rs trailer;
        among = inl refl;
        revoked = revokes x (ap (λ (z : Release). has z.accepted x) is ∙ l.accepted (λ q a. absurd a, tt))
            (ap (λ (z : Release). z.lists x) is ∙ (and_parts (l.by.lists x) (has_key l.by.issuers x.issuer) l.lists).0);
        covered = λ s a. covers_settled x s a;
      })

  pub base_sound : IsSound (base_with keeps rs trailer ∷ [])
  base_sound = record {
    widens = (λ q a. absurd a, tt);
    formed = λ r a. subst IsFormed (only r a) formed;
    covered = λ e a. covered e a;
    timely = λ e a r i c k. ap (λ (z : Release). has z.accepted e.id) (sym (only r i)) ∙ timely_base e a;
    entered = entered;
    revoked = λ x r a h. listed_base x (ap (λ (z : Release). has z.revoked x) (only r a) ∙ h);
    settled = λ x h. settled x h;
  }
