-- What releases say together, beside those of cut jobs.
use Rattle.std.specs.List.{filter, AllZip}
use Rattle.std.proofs.Common.{◌≡◌, ℕ, List, [], ◌∷◌, ◌++◌, map, Bool, true}
use Rattle.std.proofs.Common.{false, cond, not, ◌&&◌, Option, Some, refl, sym, ap, ◌∙◌}
use Rattle.std.proofs.lemmas.List.Elements.{filter-append}
use Rattle.ident_core.specs.declared.identity.Identity.{Identity}
use Rattle.ident_core.specs.declared.range.Range.{Range}
use Rattle.ident_core.specs.declared.range.Sighting.{Sighting}
use Rattle.ident_core.specs.Coverage.{covers}
use Rattle.ident_core.specs.Sets.{has, has_key}
use Rattle.card_core.specs.declared.verdict.Verdict.TheVariants.{Good, Revoked}
use Rattle.universe_core.specs.Jobs.{Entry, JobFacts, enrolled}
use Rattle.universe_core.specs.Dates.{dates, greatest, until}
use Rattle.universe_core.specs.History.{Release, past_of, released, releases, class_of, covers_all}
use Rattle.universe_core.specs.History.{sightings, accepted_by, seen, birth, enrolls_and_lists, is_listed, already_revoked_by, comes_late_behind}
use Rattle.universe_core.specs.Ledgers.{later, last_place, last}
use Rattle.history_core.specs.Truth.{truth}
use Rattle.history_core.proofs.Releases.{listed-cons}
use Rattle.history_core.proofs.Words.{zip_push}
use Rattle.place_core.specs.Cuts.{Cut, is_kept}
use Rattle.cut_core.specs.Cutting.{cut_facts, IsCut}
use Rattle.cut_core.proofs.Filters.{any_beside, position_beside}
use Rattle.cut_core.proofs.Steps.{taken, has_kept, has_other, has_key_kept, has_key_other}
use Rattle.cut_core.proofs.Steps.{sightings_kept, dates_kept, enrolls_kept, class_known, IsCutPast, released_cut}

last_beside_by : {A B : Type 0} (R : A → B → Type 0) (p : A → Bool) (q : B → Bool) → ((a : A) (b : B) → R a b → q b ≡ p a)
    → (xs : List A) (ys : List B) → AllZip R xs ys → last_place q ys ≡ last_place p xs
unfolding last_place
last_beside_by R p q h [] [] z = refl
last_beside_by R p q h [] (y ∷ ys) z = absurd z
last_beside_by R p q h (x ∷ xs) [] z = absurd z
last_beside_by R p q h (x ∷ xs) (y ∷ ys) z =
    ap (λ (n : Option ℕ). later n (q y)) (last_beside_by R p q h xs ys z.1) ∙ ap (λ (b : Bool). later (last_place p xs) b) (h x y z.0)

module _ (cut : Cut) where
  accepted_after : (before kept : List Identity) (rs qs : List Release) → kept ≡ filter (is_kept cut) before → AllZip (IsCut cut) rs qs
      → accepted_by kept qs ≡ filter (is_kept cut) (accepted_by before rs)
  unfolding accepted_by
  accepted_after before kept [] [] e z = e
  accepted_after before kept [] (q ∷ qs) e z = absurd z
  accepted_after before kept (r ∷ rs) [] e z = absurd z
  accepted_after before kept (r ∷ rs) (q ∷ qs) e z = accepted_after r.accepted q.accepted rs qs z.0.accepted z.1

  pub accepted_beside : (rs qs : List Release) → AllZip (IsCut cut) rs qs → accepted_by [] qs ≡ filter (is_kept cut) (accepted_by [] rs)
  accepted_beside rs qs z = accepted_after [] [] rs qs refl z

  pub seen_beside : (rs qs : List Release) → AllZip (IsCut cut) rs qs → seen qs ≡ filter (λ e. is_kept cut e.id) (seen rs)
  unfolding seen
  seen_beside [] [] z = refl
  seen_beside [] (q ∷ qs) z = absurd z
  seen_beside (r ∷ rs) [] z = absurd z
  seen_beside (r ∷ rs) (q ∷ qs) z =
      ap (λ (es : List Entry). es ++ seen qs) z.0.shown
      ∙ ap (λ (es : List Entry). filter (λ e. is_kept cut e.id) r.shown ++ es) (seen_beside rs qs z.1)
      ∙ sym (filter-append (λ (e : Entry). is_kept cut e.id) r.shown (seen rs))

-- ---- of a kept identity

module _ (cut : Cut) (x : Identity) (k : is_kept cut x ≡ true) where
  pub accepted_at : (r q : Release) → IsCut cut r q → has q.accepted x ≡ has r.accepted x
  accepted_at r q c = ap (λ (xs : List Identity). has xs x) c.accepted ∙ has_kept (is_kept cut) r.accepted x k

  pub revoked_at : (r q : Release) → IsCut cut r q → has q.revoked x ≡ has r.revoked x
  revoked_at r q c = ap (λ (xs : List Identity). has xs x) c.revoked ∙ has_kept (is_kept cut) r.revoked x k

  enrolled_at : (r q : Release) → IsCut cut r q → has_key q.issuers x.issuer ≡ has_key r.issuers x.issuer
  enrolled_at r q c = ap (λ (ks : List (List ℕ)). has_key ks x.issuer) c.issuers ∙ has_key_kept cut.takes r.issuers x.issuer (taken cut x k)

  lists_at : (r q : Release) → IsCut cut r q → enrolls_and_lists x q ≡ enrolls_and_lists x r
  lists_at r q c = ap (λ (b : Bool). b && has_key q.issuers x.issuer) (c.lists x k) ∙ ap (λ (b : Bool). r.lists x && b) (enrolled_at r q c)

  listed_step : (r q : Release) (rs qs : List Release) (b : Bool) → has r.accepted x ≡ b → IsCut cut r q → AllZip (IsCut cut) rs qs
      → is_listed qs x ≡ is_listed rs x → is_listed (q ∷ qs) x ≡ is_listed (r ∷ rs) x
  listed_step r q rs qs true e c z next =
      listed-cons q qs x true (accepted_at r q c ∙ e)
      ∙ any_beside (IsCut cut) (enrolls_and_lists x) (enrolls_and_lists x) lists_at (r ∷ rs) (q ∷ qs) (c, z)
      ∙ sym (listed-cons r rs x true e)
  listed_step r q rs qs false e c z next =
      listed-cons q qs x false (accepted_at r q c ∙ e) ∙ next ∙ sym (listed-cons r rs x false e)

  pub listed_beside : (rs qs : List Release) → AllZip (IsCut cut) rs qs → is_listed qs x ≡ is_listed rs x
  listed_beside [] [] z = refl
  listed_beside [] (q ∷ qs) z = absurd z
  listed_beside (r ∷ rs) [] z = absurd z
  listed_beside (r ∷ rs) (q ∷ qs) z = listed_step r q rs qs (has r.accepted x) refl z.0 z.1 (listed_beside rs qs z.1)

  lacked_at : (s : Sighting) (r q : Release) → IsCut cut r q
      → (covers q.ranges s && has_key q.issuers x.issuer && not (has q.accepted x))
      ≡ (covers r.ranges s && has_key r.issuers x.issuer && not (has r.accepted x))
  lacked_at s r q c =
      ap (λ (g : List Range). covers g s && has_key q.issuers x.issuer && not (has q.accepted x)) c.ranges
      ∙ ap (λ (b : Bool). covers r.ranges s && b && not (has q.accepted x)) (enrolled_at r q c)
      ∙ ap (λ (b : Bool). covers r.ranges s && has_key r.issuers x.issuer && not b) (accepted_at r q c)

  settled_at : (ss : List Sighting) (r q : Release) → IsCut cut r q
      → (has q.revoked x && covers_all q.ranges ss) ≡ (has r.revoked x && covers_all r.ranges ss)
  settled_at ss r q c =
      ap (λ (g : List Range). has q.revoked x && covers_all g ss) c.ranges
      ∙ ap (λ (b : Bool). b && covers_all r.ranges ss) (revoked_at r q c)

  module _ (rs qs : List Release) (z : AllZip (IsCut cut) rs qs) where
    pub known_beside : has (accepted_by [] qs) x ≡ has (accepted_by [] rs) x
    known_beside = ap (λ (xs : List Identity). has xs x) (accepted_beside cut rs qs z) ∙ has_kept (is_kept cut) (accepted_by [] rs) x k

    pub lacked_beside : (s : Sighting) → comes_late_behind qs x s ≡ comes_late_behind rs x s
    unfolding comes_late_behind
    lacked_beside s =
        any_beside (IsCut cut) (λ (r : Release). covers r.ranges s && has_key r.issuers x.issuer && not (has r.accepted x))
        (λ (q : Release). covers q.ranges s && has_key q.issuers x.issuer && not (has q.accepted x)) (lacked_at s) rs qs z

    pub truth_beside : truth qs x ≡ truth rs x
    truth_beside = ap (λ (b : Bool). cond b Revoked Good) (listed_beside rs qs z)

    pub settled_beside : (ss : List Sighting) → already_revoked_by qs x ss ≡ already_revoked_by rs x ss
    unfolding already_revoked_by
    settled_beside ss =
        any_beside (IsCut cut) (λ (r : Release). has r.revoked x && covers_all r.ranges ss)
        (λ (q : Release). has q.revoked x && covers_all q.ranges ss) (settled_at ss) rs qs z

    pub birth_beside : birth x qs ≡ birth x rs
    unfolding birth
    birth_beside = position_beside (IsCut cut) (λ (r : Release). has r.accepted x) (λ (q : Release). has q.accepted x) accepted_at rs qs z

    pub last_beside : last x qs ≡ last x rs
    unfolding last
    last_beside = last_beside_by (IsCut cut) (λ (r : Release). has r.revoked x) (λ (q : Release). has q.revoked x) revoked_at rs qs z

    pub sightings_beside : sightings x (seen qs) ≡ sightings x (seen rs)
    sightings_beside = ap (sightings x) (seen_beside cut rs qs z) ∙ sightings_kept (is_kept cut) x (seen rs) k

    pub until_beside : until x qs ≡ until x rs
    unfolding until
    until_beside =
        ap (λ (es : List Entry). greatest (dates x es)) (seen_beside cut rs qs z) ∙ ap greatest (dates_kept (is_kept cut) x (seen rs) k)

pub other_beside : (cut : Cut) (rs qs : List Release) (x : Identity) → AllZip (IsCut cut) rs qs → is_kept cut x ≡ false
    → has (accepted_by [] qs) x ≡ false
other_beside cut rs qs x z k =
    ap (λ (xs : List Identity). has xs x) (accepted_beside cut rs qs z) ∙ has_other (is_kept cut) (accepted_by [] rs) x k

pub enrolled_kept : (cut : Cut) (r q : Release) (issuer : List ℕ) → IsCut cut r q → cut.takes issuer ≡ true
    → has_key q.issuers issuer ≡ has_key r.issuers issuer
enrolled_kept cut r q issuer c t = ap (λ (ks : List (List ℕ)). has_key ks issuer) c.issuers ∙ has_key_kept cut.takes r.issuers issuer t

pub enrolled_other : (cut : Cut) (r q : Release) (issuer : List ℕ) → IsCut cut r q → cut.takes issuer ≡ false
    → has_key q.issuers issuer ≡ false
enrolled_other cut r q issuer c t = ap (λ (ks : List (List ℕ)). has_key ks issuer) c.issuers ∙ has_key_other cut.takes r.issuers issuer t

-- ---- what they tell the next job, and what it leaves

module _ (cut : Cut) where
  pub past_cut : (rs qs : List Release) → AllZip (IsCut cut) rs qs → IsCutPast (is_kept cut) (past_of rs) (past_of qs)
  unfolding past_of
  past_cut rs qs z = record {
    accepted = accepted_beside cut rs qs z;
    comes_late = λ x s k. lacked_beside cut x k rs qs z s;
    listed_before = λ x k. listed_beside cut x k rs qs z;
    already_revoked = λ x ss k.
        ap (λ (ts : List Sighting). already_revoked_by qs x (ts ++ ss)) (sightings_beside cut x k rs qs z)
        ∙ settled_beside cut x k rs qs z (sightings x (seen rs) ++ ss);
  }

  pub released_beside : (rs qs : List Release) (job : JobFacts) (trailer other : List ℕ) → AllZip (IsCut cut) rs qs
      → IsCut cut (released (past_of rs) job trailer) (released (past_of qs) (cut_facts cut job) other)
  released_beside rs qs job trailer other z = released_cut cut job (past_of rs) (past_of qs) (past_cut rs qs z) trailer other

  pub more_beside : (rs qs : List Release) (job : JobFacts) (trailer other : List ℕ) → AllZip (IsCut cut) rs qs
      → AllZip (IsCut cut) (rs ++ released (past_of rs) job trailer ∷ []) (qs ++ released (past_of qs) (cut_facts cut job) other ∷ [])
  more_beside rs qs job trailer other z =
      zip_push (IsCut cut) rs qs (released (past_of rs) job trailer) (released (past_of qs) (cut_facts cut job) other) z
      (released_beside rs qs job trailer other z)

  pub releases_beside : (trailer other : List Release → JobFacts → List ℕ) (rs qs : List Release) (jobs : List JobFacts) → AllZip (IsCut cut) rs qs
      → AllZip (IsCut cut) (releases trailer rs jobs) (releases other qs (map (cut_facts cut) jobs))
  unfolding releases
  releases_beside trailer other rs qs [] z = z
  releases_beside trailer other rs qs (job ∷ jobs) z =
      releases_beside trailer other (rs ++ released (past_of rs) job (trailer rs job) ∷ [])
      (qs ++ released (past_of qs) (cut_facts cut job) (other qs (cut_facts cut job)) ∷ []) jobs
      (more_beside rs qs job (trailer rs job) (other qs (cut_facts cut job)) z)

  -- an entry of a kept identity has its class
  pub class_beside : (rs qs : List Release) (job : JobFacts) (e : Entry) → AllZip (IsCut cut) rs qs → is_kept cut e.id ≡ true
      → class_of (past_of qs) (cut_facts cut job) (Some e) ≡ class_of (past_of rs) job (Some e)
  unfolding past_of
  class_beside rs qs job e z k =
      class_known job.ranges (enrolled job) (enrolled (cut_facts cut job)) (past_of rs) (past_of qs) e (enrolls_kept cut job e.id k)
      (lacked_beside cut e.id k rs qs z e.sighting)
