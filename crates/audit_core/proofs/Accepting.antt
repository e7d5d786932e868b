-- Which entries are accepted, by the last ledger.
use Rattle.std.specs.List.{list_any}
use Rattle.std.proofs.Common.{◌≡◌, inl, inr, ⊎_elim, List, [], ◌∷◌, ◌++◌, Bool, true, false, cond, not, ◌&&◌, Option, Some, None, refl, sym, ap, ◌∙◌}
use Rattle.std.proofs.lemmas.Bool.{true≢false, false≢true}
use Rattle.ident_core.specs.declared.identity.Identity.{Identity}
use Rattle.ident_core.specs.declared.range.Sighting.{Sighting}
use Rattle.ident_core.specs.Coverage.{covers}
use Rattle.ident_core.specs.HeadFields.{zero_key}
use Rattle.log_core.specs.declared.Entry.{Entry}
use Rattle.ident_core.specs.Among.{Among}
use Rattle.ident_core.specs.Sets.{has, has_key}
use Rattle.ident_core.proofs.Elements.{Among-cases, Among-left, Among-right, found, any_at}
use Rattle.universe_core.specs.Jobs.{JobFacts, enrolled}
use Rattle.universe_core.specs.History.{Release, class_by, class_of, comes_late_behind, is_listed, past_of, released, shown}
use Rattle.universe_core.specs.Ledgers.{ledger_of, part_from}
use Rattle.universe_core.specs.Counting.{is_class}
use Rattle.universe_core.specs.declared.class.Class.{Class}
use Rattle.universe_core.specs.declared.class.Class.TheVariants.{Uncovered, Unenrolled, Late, Accepted}
use Rattle.history_core.specs.Facts.{IsSound, IsWider, Widens}
use Rattle.history_core.proofs.Accepting.{shown_has}
use Rattle.history_core.proofs.Ledger.{past_in_ledger}
use Rattle.audit_core.specs.Checking.{is_seen, listing_by, listing}

-- ---- an entry that an earlier release doesn't lack isn't comes_late later

abbrev lacks : Identity → Sighting → Release → Bool
lacks x s r = covers r.ranges s && has_key r.issuers x.issuer && not (has r.accepted x)

none_any : {A : Type 0} (p : A → Bool) (xs : List A) → ((x : A) → Among xs x → p x ≡ false) → list_any p xs ≡ false
none_any p [] h = refl
none_any p (x ∷ xs) h = rw (h x (inl refl)) (none_any p xs (λ y a. h y (inr a)))

none_at : {A : Type 0} (p : A → Bool) (xs : List A) (x : A) → list_any p xs ≡ false → Among xs x → p x ≡ false
none_at p xs x h a = elim (p x) as (λ b. p x ≡ b → p x ≡ false) [ true ↦ λ e. absurd (true≢false (sym (any_at p xs x a e) ∙ h)) | false ↦ λ e. e ] refl

and_not : (a b c : Bool) → c ≡ true → a && b && not c ≡ false
and_not true true true h = refl
and_not true false true h = refl
and_not false b true h = refl
and_not a b false h = absurd (false≢true h)

widens_at : (before after : List Release) (r q : Release) → Widens (before ++ r ∷ after) → Among after q → IsWider r q
widens_at [] after r q w a = w.0 q a
widens_at (p ∷ before) after r q w a = widens_at before after r q w.1 a

lacked_on : (before after : List Release) (r : Release) (x : Identity) (s : Sighting) → Widens (before ++ r ∷ after) → has r.accepted x ≡ true
    → comes_late_behind before x s ≡ false → comes_late_behind (before ++ r ∷ after) x s ≡ false
unfolding comes_late_behind
lacked_on before after r x s w h n = none_any (lacks x s) (before ++ r ∷ after) (λ q a.
    ⊎_elim (λ b. none_at (lacks x s) before q n b)
    (λ b. ⊎_elim
    (λ (i : r ≡ q). and_not (covers q.ranges s) (has_key q.issuers x.issuer) (has q.accepted x) (ap (λ (z : Release). has z.accepted x) (sym i) ∙ h))
    (λ i. and_not (covers q.ranges s) (has_key q.issuers x.issuer) (has q.accepted x) ((widens_at before after r q w i).accepted x h)) b)
    (Among-cases before (r ∷ after) q a))

lacked_left : (before others : List Release) (x : Identity) (s : Sighting) → comes_late_behind before x s ≡ true → comes_late_behind (before ++ others) x s ≡ true
unfolding comes_late_behind
lacked_left before others x s h = let f = found (lacks x s) before h in any_at (lacks x s) (before ++ others) f.0 (Among-left before others f.0 f.1) f.2

-- ---- the class of an entry, by the whole history

class_same : (a b l m t : Bool) → (a ≡ true → b ≡ true → l ≡ m)
    → listing_by (a && b) m t ≡ cond (is_class Accepted (cond (not a) Uncovered (cond (not b) Unenrolled (cond l Late Accepted)))) (Some t) None
class_same true true true true t h = refl
class_same true true false false t h = refl
class_same true true true false t h = absurd (true≢false (h refl refl))
class_same true true false true t h = absurd (false≢true (h refl refl))
class_same true false l m t h = refl
class_same false b l m t h = refl

-- what is told of an accepted entry, and that nothing is of another
abbrev pub told_by : Class → Bool → Option Bool
told_by c t = cond (is_class Accepted c) (Some t) None

module _ (before after : List Release) (job : JobFacts) (sound : IsSound (before ++ released (past_of before) job zero_key ∷ after)) where
  same_late : (e : Entry) → Among job.entries (Some e) → covers job.ranges e.sighting ≡ true → has_key (enrolled job) e.id.issuer ≡ true
      → (b : Bool) → comes_late_behind before e.id e.sighting ≡ b → b ≡ comes_late_behind (before ++ released (past_of before) job zero_key ∷ after) e.id e.sighting
  unfolding past_of
  same_late e a c k true h = sym (lacked_left before (released (past_of before) job zero_key ∷ after) e.id e.sighting h)
  same_late e a c k false h =
      let r = released (past_of before) job zero_key in
      let is : Among (shown (past_of before) job) e = shown_has (past_of before) job e a (record { covered = c; enrolled = k; timely = h }) in
      let taken : has r.accepted e.id ≡ true = (sound.formed r (Among-right before (r ∷ after) r (inl refl))).shown e is in
      sym (lacked_on before after r e.id e.sighting sound.widens taken h)

  pub listing_is : (e : Entry) → Among job.entries (Some e)
      → listing (ledger_of (before ++ released (past_of before) job zero_key ∷ after)) (part_from (released (past_of before) job zero_key)) e
      ≡ told_by (class_of (past_of before) job (Some e)) (is_listed (before ++ released (past_of before) job zero_key ∷ after) e.id)
  unfolding past_of class_by
  listing_is e a =
      let rs = before ++ released (past_of before) job zero_key ∷ after in
      ap (λ past. listing_by (is_seen (part_from (released (past_of before) job zero_key)) e) (past.comes_late e.id e.sighting) (past.listed_before e.id)) (past_in_ledger rs sound)
      ∙ class_same (covers job.ranges e.sighting) (has_key (enrolled job) e.id.issuer) (comes_late_behind before e.id e.sighting) (comes_late_behind rs e.id e.sighting) (is_listed rs e.id)
      (λ c k. same_late e a c k (comes_late_behind before e.id e.sighting) refl)
