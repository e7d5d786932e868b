-- What a job accepts, lists and revokes, with some of its entries.
use Rattle.std.specs.List.{filter, list_any, list_all}
use Rattle.std.specs.Str.{bytes_eq}
use Rattle.std.proofs.Common.{◌≡◌, ℕ, List, ◌++◌, map, Bool, true, false, cond, not, ◌&&◌, ◌||◌, Option, Some, None, refl, sym, ap, ◌∙◌}
use Rattle.std.proofs.lemmas.Bool.{and_parts}
use Rattle.std.proofs.lemmas.List.Elements.{filter-append}
use Rattle.std.proofs.lemmas.Map.Views.{any-filter_same}
use Rattle.ident_core.specs.declared.identity.Identity.{Identity}
use Rattle.ident_core.specs.declared.range.Range.{Range}
use Rattle.ident_core.specs.declared.range.Sighting.{Sighting}
use Rattle.ident_core.specs.Order.{is_same, identity_cmp}
use Rattle.ident_core.specs.Coverage.{covers}
use Rattle.ident_core.specs.Sets.{has, has_key, identity_set, key_set}
use Rattle.ident_core.proofs.Sets.{same_is, bytes_same, identity_exact, identity_total, key_set_kept, set_kept}
use Rattle.universe_core.specs.Jobs.{Entry, Crl, JobFacts, is_stale, crls_of, enrolled, lists}
use Rattle.universe_core.specs.Dates.{dates}
use Rattle.universe_core.specs.History.{Past, class_by, class_of, if_accepted, shown, sightings}
use Rattle.universe_core.specs.History.{accepted_with, universe, is_revoked, revoked, released}
use Rattle.universe_core.specs.declared.class.Class.{Class}
use Rattle.universe_core.specs.declared.class.Class.TheVariants.{Unread, Uncovered, Unenrolled, Late, Accepted}
use Rattle.place_core.specs.Cuts.{Cut, is_kept}
use Rattle.piece_core.specs.Cuts.{keeps_entry}
use Rattle.cut_core.specs.Cutting.{cut_facts, IsCut}
use Rattle.piece_core.proofs.Keeping.{map_filter}
use Rattle.cut_core.proofs.Filters.{filter_kept, filter_within, filter_map_kept}

-- ---- what a filter keeps of an identity

pub has_kept : (keeps : Identity → Bool) (xs : List Identity) (x : Identity) → keeps x ≡ true → has (filter keeps xs) x ≡ has xs x
has_kept keeps xs x k = any-filter_same (is_same x) keeps (keeps x) (λ y e. ap keeps (sym (same_is x y e))) xs ∙ ap (λ b. b && has xs x) k

pub has_other : (keeps : Identity → Bool) (xs : List Identity) (x : Identity) → keeps x ≡ false → has (filter keeps xs) x ≡ false
has_other keeps xs x k = any-filter_same (is_same x) keeps (keeps x) (λ y e. ap keeps (sym (same_is x y e))) xs ∙ ap (λ b. b && has xs x) k

pub has_key_kept : (takes : List ℕ → Bool) (ks : List (List ℕ)) (k : List ℕ) → takes k ≡ true → has_key (filter takes ks) k ≡ has_key ks k
has_key_kept takes ks k t =
    any-filter_same (bytes_eq k) takes (takes k) (λ j e. ap takes (sym (bytes_same k j e))) ks ∙ ap (λ b. b && has_key ks k) t

pub has_key_other : (takes : List ℕ → Bool) (ks : List (List ℕ)) (k : List ℕ) → takes k ≡ false → has_key (filter takes ks) k ≡ false
has_key_other takes ks k t =
    any-filter_same (bytes_eq k) takes (takes k) (λ j e. ap takes (sym (bytes_same k j e))) ks ∙ ap (λ b. b && has_key ks k) t

entries_kept : (keeps : Identity → Bool) (x : Identity) (es : List Entry) → keeps x ≡ true
    → filter (λ (d : Entry). is_same x d.id) (filter (λ (d : Entry). keeps d.id) es) ≡ filter (λ (d : Entry). is_same x d.id) es
entries_kept keeps x es k =
    filter_within (λ (d : Entry). is_same x d.id) (λ (d : Entry). keeps d.id) (λ d s. ap keeps (sym (same_is x d.id s)) ∙ k) es

pub sightings_kept : (keeps : Identity → Bool) (x : Identity) (es : List Entry) → keeps x ≡ true
    → sightings x (filter (λ e. keeps e.id) es) ≡ sightings x es
unfolding sightings
sightings_kept keeps x es k = ap (map (λ (e : Entry). e.sighting)) (entries_kept keeps x es k)

pub dates_kept : (keeps : Identity → Bool) (x : Identity) (es : List Entry) → keeps x ≡ true
    → dates x (filter (λ e. keeps e.id) es) ≡ dates x es
unfolding dates
dates_kept keeps x es k = ap (map (λ (e : Entry). e.until)) (entries_kept keeps x es k)

-- the issuer of what is kept is taken
pub taken : (cut : Cut) (x : Identity) → is_kept cut x ≡ true → cut.takes x.issuer ≡ true
taken cut x k = (and_parts (cut.takes x.issuer) (cut.chooses x) k).0

-- ---- what jobs are told

-- what is told of kept identities is the same
pub record IsCutPast (keeps : Identity → Bool) (whole cut : Past) : Type 0 where
  pub accepted : cut.accepted ≡ filter keeps whole.accepted
  pub comes_late : (x : Identity) (s : Sighting) → keeps x ≡ true → cut.comes_late x s ≡ whole.comes_late x s
  pub listed_before : (x : Identity) → keeps x ≡ true → cut.listed_before x ≡ whole.listed_before x
  pub already_revoked : (x : Identity) (ss : List Sighting) → keeps x ≡ true → cut.already_revoked x ss ≡ whole.already_revoked x ss

-- ---- CRLs

module _ (cut : Cut) (job : JobFacts) where
  crls_kept : (issuer : List ℕ) → cut.takes issuer ≡ true → crls_of issuer (cut_facts cut job) ≡ crls_of issuer job
  crls_kept issuer t =
      filter_within (λ (c : Crl). bytes_eq issuer c.issuer) (λ (c : Crl). cut.takes c.issuer)
      (λ c e. ap cut.takes (sym (bytes_same issuer c.issuer e)) ∙ t) job.crls

  issuers_kept : key_set (map (λ (c : Crl). c.issuer) (filter (λ (c : Crl). cut.takes c.issuer) job.crls))
      ≡ filter cut.takes (key_set (map (λ (c : Crl). c.issuer) job.crls))
  issuers_kept =
      ap key_set (map_filter (λ (c : Crl). c.issuer) cut.takes job.crls) ∙ key_set_kept cut.takes (map (λ (c : Crl). c.issuer) job.crls)

  -- the enrolled issuers are those whose CRLs are kept
  pub enrolled_cut : enrolled (cut_facts cut job) ≡ filter cut.takes (enrolled job)
  unfolding enrolled
  enrolled_cut =
      ap (filter (λ issuer. list_all (λ c. not (is_stale job.moment c.next_update)) (crls_of issuer (cut_facts cut job)))) issuers_kept
      ∙ filter_kept cut.takes (λ issuer. list_all (λ c. not (is_stale job.moment c.next_update)) (crls_of issuer job))
      (λ issuer. list_all (λ c. not (is_stale job.moment c.next_update)) (crls_of issuer (cut_facts cut job)))
      (λ issuer t. ap (list_all (λ c. not (is_stale job.moment c.next_update))) (crls_kept issuer t))
      (key_set (map (λ (c : Crl). c.issuer) job.crls))

  pub enrolls_kept : (x : Identity) → is_kept cut x ≡ true
      → has_key (enrolled (cut_facts cut job)) x.issuer ≡ has_key (enrolled job) x.issuer
  enrolls_kept x k =
      ap (λ (is : List (List ℕ)). has_key is x.issuer) enrolled_cut ∙ has_key_kept cut.takes (enrolled job) x.issuer (taken cut x k)

  pub lists_kept : (x : Identity) → is_kept cut x ≡ true → lists (cut_facts cut job) x ≡ lists job x
  unfolding lists
  lists_kept x k = ap (list_any (λ (c : Crl). has_key c.serials x.serial)) (crls_kept x.issuer (taken cut x k))

-- ---- classes

pub class_known : (ranges : List Range) (is js : List (List ℕ)) (p q : Past) (e : Entry) → has_key js e.id.issuer ≡ has_key is e.id.issuer
    → q.comes_late e.id e.sighting ≡ p.comes_late e.id e.sighting
    → class_by ranges js q (Some e) ≡ class_by ranges is p (Some e)
unfolding class_by
class_known ranges is js p q e i h =
    ap (λ b. cond (not (covers ranges e.sighting)) Uncovered (cond (not b) Unenrolled (cond (q.comes_late e.id e.sighting) Late Accepted))) i
    ∙ ap (λ b. cond (not (covers ranges e.sighting)) Uncovered (cond (not (has_key is e.id.issuer)) Unenrolled (cond b Late Accepted))) h

pub class_none : (job : JobFacts) (p : Past) → class_of p job None ≡ Unread
unfolding class_by
class_none job p = refl

none_accepted : (c : Class) → if_accepted c None ≡ None
none_accepted Unread = refl
none_accepted Uncovered = refl
none_accepted Unenrolled = refl
none_accepted Late = refl
none_accepted Accepted = refl

accepted_is : (c : Class) (o : Option Entry) (e : Entry) → if_accepted c o ≡ Some e → o ≡ Some e
accepted_is Unread o e h = absurd cc
accepted_is Uncovered o e h = absurd cc
accepted_is Unenrolled o e h = absurd cc
accepted_is Late o e h = absurd cc
accepted_is Accepted o e h = h

module _ (cut : Cut) (job : JobFacts) (p q : Past) (told : IsCutPast (is_kept cut) p q) where
  abbrev part : JobFacts
  part = cut_facts cut job

  -- a kept entry has its class
  pub class_kept : (e : Entry) → is_kept cut e.id ≡ true → class_of q part (Some e) ≡ class_of p job (Some e)
  class_kept e k = class_known job.ranges (enrolled job) (enrolled part) p q e (enrolls_kept cut job e.id k) (told.comes_late e.id e.sighting k)

  left_same : (o : Option Entry) → keeps_entry cut o ≡ true → if_accepted (class_of q part o) o ≡ if_accepted (class_of p job o) o
  left_same None k = none_accepted (class_of q part None) ∙ sym (none_accepted (class_of p job None))
  left_same (Some e) k = ap (λ c. if_accepted c (Some e)) (class_kept e k)

  pub shown_cut : shown q part ≡ filter (λ e. is_kept cut e.id) (shown p job)
  unfolding shown
  shown_cut =
      filter_map_kept (λ o. if_accepted (class_of p job o) o) (λ o. if_accepted (class_of q part o) o) (keeps_entry cut)
      (λ (e : Entry). is_kept cut e.id) left_same
      (λ o e i. sym (ap (keeps_entry cut) (accepted_is (class_of p job o) o e i))) job.entries

  pub accepted_cut : accepted_with q part ≡ filter (is_kept cut) (accepted_with p job)
  unfolding accepted_with
  accepted_cut =
      ap (λ (es : List Entry). identity_set (map (λ e. e.id) es ++ q.accepted)) shown_cut
      ∙ ap (λ (xs : List Identity). identity_set (map (λ e. e.id) (filter (λ e. is_kept cut e.id) (shown p job)) ++ xs)) told.accepted
      ∙ ap (λ (xs : List Identity). identity_set (xs ++ filter (is_kept cut) p.accepted))
      (map_filter (λ (e : Entry). e.id) (is_kept cut) (shown p job))
      ∙ ap identity_set (sym (filter-append (is_kept cut) (map (λ e. e.id) (shown p job)) p.accepted))
      ∙ set_kept identity_cmp identity_total identity_exact (is_kept cut) (map (λ e. e.id) (shown p job) ++ p.accepted)

  pub universe_cut : universe q part ≡ filter (is_kept cut) (universe p job)
  unfolding universe
  universe_cut =
      ap (filter (λ x. has_key (enrolled part) x.issuer)) accepted_cut
      ∙ filter_kept (is_kept cut) (λ x. has_key (enrolled job) x.issuer) (λ x. has_key (enrolled part) x.issuer)
      (enrolls_kept cut job) (accepted_with p job)

  is_revoked_kept : (x : Identity) → is_kept cut x ≡ true → is_revoked q part x ≡ is_revoked p job x
  unfolding is_revoked
  is_revoked_kept x k =
      let seen_now : sightings x (shown q part) ≡ sightings x (shown p job) =
      ap (sightings x) shown_cut ∙ sightings_kept (is_kept cut) x (shown p job) k in
      let settled : q.already_revoked x (sightings x (shown q part)) ≡ p.already_revoked x (sightings x (shown p job)) =
      ap (q.already_revoked x) seen_now ∙ told.already_revoked x (sightings x (shown p job)) k in
      ap (λ b. (b || lists part x) && not (q.already_revoked x (sightings x (shown q part)))) (told.listed_before x k)
      ∙ ap (λ b. (p.listed_before x || b) && not (q.already_revoked x (sightings x (shown q part)))) (lists_kept cut job x k)
      ∙ ap (λ b. (p.listed_before x || lists job x) && not b) settled

  pub revoked_cut : revoked q part ≡ filter (is_kept cut) (revoked p job)
  unfolding revoked
  revoked_cut =
      ap (filter (is_revoked q part)) universe_cut
      ∙ filter_kept (is_kept cut) (is_revoked p job) (is_revoked q part) is_revoked_kept (universe p job)

  -- what the cut job leaves is what the job leaves, cut
  pub released_cut : (trailer other : List ℕ) → IsCut cut (released p job trailer) (released q part other)
  released_cut trailer other = record {
    epoch = refl;
    ranges = refl;
    issuers = enrolled_cut cut job;
    shown = shown_cut;
    accepted = accepted_cut;
    lists = lists_kept cut job;
    revoked = revoked_cut;
  }
