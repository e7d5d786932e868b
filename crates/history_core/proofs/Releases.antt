-- What releases say together.
use Rattle.std.specs.List.{list_any, position_or_len}
use Rattle.std.specs.List.Sorted.{IsStrictlySortedBy}
use Rattle.std.proofs.Common.{◌≡◌, ℕ, ◌+◌, inl, inr, ⊎_elim, List, [], ◌∷◌, ◌++◌, drop, Bool, true, false, cond, not, ◌&&◌, ◌||◌, refl, sym, ap, ◌∙◌, subst, append_assoc}
use Rattle.std.proofs.lemmas.Bool.{and_parts, and_from, true≢false, false≢true}
use Rattle.std.proofs.lemmas.List.Elements.{filter-append}
use Rattle.std.proofs.lemmas.List.Folds.{list_any-append}
use Rattle.std.proofs.Math.Numerals.{one-add}
use Rattle.std.proofs.lemmas.List.{map-append, append-nil}
use Rattle.ident_core.specs.declared.identity.Identity.{Identity}
use Rattle.ident_core.specs.declared.range.Sighting.{Sighting}
use Rattle.ident_core.specs.Order.{identity_cmp}
use Rattle.ident_core.specs.Coverage.{covers}
use Rattle.ident_core.specs.Among.{Among}
use Rattle.ident_core.specs.Sets.{has, has_key}
use Rattle.ident_core.proofs.Elements.{Among-push_cases, found, any_at, all_at, all_from}
use Rattle.universe_core.specs.Jobs.{Entry}
use Rattle.universe_core.specs.History.{Release, covers_all, sightings, accepted_by, seen, birth, enrolls_and_lists, is_listed, already_revoked_by, comes_late_behind}
use Rattle.history_core.specs.Facts.{Widens, IsWider}

pub seen-push : (rs : List Release) (r : Release) → seen (rs ++ r ∷ []) ≡ seen rs ++ r.shown
unfolding seen
seen-push [] r = append-nil r.shown
seen-push (q ∷ rs) r = rw (seen-push rs r, append_assoc) refl

pub sightings-append : (x : Identity) (ds es : List Entry) → sightings x (ds ++ es) ≡ sightings x ds ++ sightings x es
unfolding sightings
sightings-append x ds es = rw (filter-append, map-append) refl

pub accepted_by-push : (before : List Identity) (rs : List Release) (r : Release) → accepted_by before (rs ++ r ∷ []) ≡ r.accepted
unfolding accepted_by
accepted_by-push before [] r = refl
accepted_by-push before (q ∷ rs) r = accepted_by-push q.accepted rs r

accepted_by-kept : (before : List Identity) (rs : List Release) (x : Identity) → has before x ≡ true → ((r : Release) → Among rs r → has r.accepted x ≡ true) → has (accepted_by before rs) x ≡ true
unfolding accepted_by
accepted_by-kept before [] x h f = h
accepted_by-kept before (r ∷ rs) x h f = accepted_by-kept r.accepted rs x (f r (inl refl)) (λ q a. f q (inr a))

pub accepted_by-has : (before : List Identity) (rs : List Release) (r : Release) (x : Identity) → Widens rs → Among rs r → has r.accepted x ≡ true → has (accepted_by before rs) x ≡ true
unfolding accepted_by
accepted_by-has before [] r x w a h = absurd a
accepted_by-has before (q ∷ rs) r x w (inl e) h =
    let here : has q.accepted x ≡ true = ap (λ (z : Release). has z.accepted x) e ∙ h in
    accepted_by-kept q.accepted rs x here (λ p a. (w.0 p a).accepted x here)
accepted_by-has before (q ∷ rs) r x w (inr a) h = accepted_by-has q.accepted rs r x w.1 a h

pub Widens-push : (rs : List Release) (q : Release) → Widens rs → ((r : Release) → Among rs r → IsWider r q) → Widens (rs ++ q ∷ [])
Widens-push [] q w f = (λ p a. absurd a, tt)
Widens-push (r ∷ rs) q w f =
    (λ p a. ⊎_elim (λ old. w.0 p old) (λ e. subst (λ z. IsWider r z) e (f r (inl refl))) (Among-push_cases rs q p a), Widens-push rs q w.1 (λ p a. f p (inr a)))

-- ---- listed

-- an identity that the first release has accepted is listed by one of all; another by one behind it
pub listed-cons : (r : Release) (rs : List Release) (x : Identity) (b : Bool) → has r.accepted x ≡ b
    → is_listed (r ∷ rs) x ≡ cond b (list_any (enrolls_and_lists x) (r ∷ rs)) (is_listed rs x)
unfolding is_listed birth
listed-cons r rs x b e =
    let born : ℕ = position_or_len (λ (q : Release). has q.accepted x) rs in
    ap (λ c. list_any (enrolls_and_lists x) (drop (cond (not c) (1 + born) 0) (r ∷ rs))) e ∙ behind b born
  where
    behind : (b : Bool) (n : ℕ) → list_any (enrolls_and_lists x) (drop (cond (not b) (1 + n) 0) (r ∷ rs))
        ≡ cond b (list_any (enrolls_and_lists x) (r ∷ rs)) (list_any (enrolls_and_lists x) (drop n rs))
    behind true n = refl
    behind false n = ap (λ (m : ℕ). list_any (enrolls_and_lists x) (drop m (r ∷ rs))) (one-add n)

pub listed_none : (x : Identity) → is_listed [] x ≡ false
unfolding is_listed birth
listed_none x = refl

pub or-false : (b : Bool) → (b || false) ≡ b
or-false true = refl
or-false false = refl

-- of one release
pub listed_one : (r : Release) (x : Identity) → is_listed (r ∷ []) x ≡ (r.lists x && (has_key r.issuers x.issuer && has r.accepted x))
listed_one r x = by (has r.accepted x) refl
  where
    each : (l k : Bool) → (l && k || false) ≡ (l && (k && true))
    each true true = refl
    each true false = refl
    each false k = refl

    none : (l k : Bool) → false ≡ (l && (k && false))
    none true true = refl
    none true false = refl
    none false k = refl

    by : (b : Bool) → has r.accepted x ≡ b → is_listed (r ∷ []) x ≡ (r.lists x && (has_key r.issuers x.issuer && has r.accepted x))
    by true e =
        listed-cons r [] x true e ∙ each (r.lists x) (has_key r.issuers x.issuer)
        ∙ ap (λ b. r.lists x && (has_key r.issuers x.issuer && b)) (sym e)
    by false e =
        listed-cons r [] x false e ∙ listed_none x ∙ none (r.lists x) (has_key r.issuers x.issuer)
        ∙ ap (λ b. r.lists x && (has_key r.issuers x.issuer && b)) (sym e)

listed_behind_first : (q : Release) (rs : List Release) (r : Release) (x : Identity) (b : Bool) → has q.accepted x ≡ b → Among (q ∷ rs) r
    → has r.accepted x ≡ true → enrolls_and_lists x r ≡ true → (Among rs r → is_listed rs x ≡ true) → is_listed (q ∷ rs) x ≡ true
listed_behind_first q rs r x true e a k h next = listed-cons q rs x true e ∙ any_at (enrolls_and_lists x) (q ∷ rs) r a h
listed_behind_first q rs r x false e a k h next =
    listed-cons q rs x false e
    ∙ ⊎_elim (λ (i : q ≡ r). absurd (true≢false (sym k ∙ ap (λ (z : Release). has z.accepted x) (sym i) ∙ e))) next a

-- what a release lists that had accepted it, and enrolls the issuer of, is listed
pub is_listed_at : (rs : List Release) (r : Release) (x : Identity) → Among rs r → has r.accepted x ≡ true → enrolls_and_lists x r ≡ true
    → is_listed rs x ≡ true
is_listed_at [] r x a k h = absurd a
is_listed_at (q ∷ rs) r x a k h = listed_behind_first q rs r x (has q.accepted x) refl a k h (λ i. is_listed_at rs r x i k h)

-- a release that lists the identity and enrolls its issuer, and had accepted it if none forgets what it had
pub record IsListedBy (rs : List Release) (x : Identity) : Type 0 where
  pub by : Release
  pub among : Among rs by
  pub lists : enrolls_and_lists x by ≡ true
  pub accepted : Widens rs → has by.accepted x ≡ true

listed_by_first : (q : Release) (rs : List Release) (x : Identity) (b : Bool) → has q.accepted x ≡ b
    → (is_listed rs x ≡ true → IsListedBy rs x) → is_listed (q ∷ rs) x ≡ true → IsListedBy (q ∷ rs) x
listed_by_first q rs x true e next h =
    let f = found (enrolls_and_lists x) (q ∷ rs) (sym (listed-cons q rs x true e) ∙ h) in
    record {
      by = f.0;
      among = f.1;
      lists = f.2;
      accepted = λ w. ⊎_elim (λ (i : q ≡ f.0). ap (λ (z : Release). has z.accepted x) (sym i) ∙ e) (λ i. (w.0 f.0 i).accepted x e) f.1;
    }
listed_by_first q rs x false e next h =
    let m = next (sym (listed-cons q rs x false e) ∙ h) in
    record { by = m.by; among = inr m.among; lists = m.lists; accepted = λ w. m.accepted w.1 }

pub is_listed_by : (rs : List Release) (x : Identity) → is_listed rs x ≡ true → IsListedBy rs x
is_listed_by [] x h = absurd (false≢true (sym (listed_none x) ∙ h))
is_listed_by (q ∷ rs) x h = listed_by_first q rs x (has q.accepted x) refl (is_listed_by rs x) h

listed_more : (q : Release) (rs : List Release) (r : Release) (x : Identity) (b : Bool) → has q.accepted x ≡ b
    → is_listed (rs ++ r ∷ []) x ≡ (is_listed rs x || enrolls_and_lists x r)
    → is_listed (q ∷ (rs ++ r ∷ [])) x ≡ (is_listed (q ∷ rs) x || enrolls_and_lists x r)
listed_more q rs r x true e next =
    listed-cons q (rs ++ r ∷ []) x true e ∙ list_any-append (enrolls_and_lists x) (q ∷ rs) (r ∷ [])
    ∙ ap (λ b. list_any (enrolls_and_lists x) (q ∷ rs) || b) (or-false (enrolls_and_lists x r))
    ∙ ap (λ b. b || enrolls_and_lists x r) (sym (listed-cons q rs x true e))
listed_more q rs r x false e next =
    listed-cons q (rs ++ r ∷ []) x false e ∙ next ∙ ap (λ b. b || enrolls_and_lists x r) (sym (listed-cons q rs x false e))

-- with a release more, which has accepted the identity
pub is_listed-push : (rs : List Release) (r : Release) (x : Identity) → has r.accepted x ≡ true
    → is_listed (rs ++ r ∷ []) x ≡ (is_listed rs x || enrolls_and_lists x r)
is_listed-push [] r x k =
    listed-cons r [] x true k ∙ or-false (enrolls_and_lists x r) ∙ ap (λ b. b || enrolls_and_lists x r) (sym (listed_none x))
is_listed-push (q ∷ rs) r x k = listed_more q rs r x (has q.accepted x) refl (is_listed-push rs r x k)

-- ---- settled

pub record IsSettled (rs : List Release) (x : Identity) (ss : List Sighting) : Type 0 where
  pub by : Release
  pub among : Among rs by
  pub revoked : has by.revoked x ≡ true
  pub covered : (s : Sighting) → Among ss s → covers by.ranges s ≡ true

pub settled_parts : (rs : List Release) (x : Identity) (ss : List Sighting) → already_revoked_by rs x ss ≡ true → IsSettled rs x ss
unfolding already_revoked_by
settled_parts rs x ss h =
    let f = found (λ r. has r.revoked x && covers_all r.ranges ss) rs h in
    let p = and_parts (has f.0.revoked x) (covers_all f.0.ranges ss) f.2 in
    record { by = f.0; among = f.1; revoked = p.0; covered = λ s a. all_at (covers f.0.ranges) ss s p.1 a }

pub settled_from : (rs : List Release) (x : Identity) (ss : List Sighting) → IsSettled rs x ss → already_revoked_by rs x ss ≡ true
unfolding already_revoked_by
settled_from rs x ss h =
    any_at (λ r. has r.revoked x && covers_all r.ranges ss) rs h.by h.among (and_from (has h.by.revoked x) (covers_all h.by.ranges ss) h.revoked (all_from (covers h.by.ranges) ss h.covered))

-- ---- comes_late

lacked_bool : (a b c : Bool) → a && b && not c ≡ false → a ≡ true → b ≡ true → c ≡ true
lacked_bool true true true h i j = refl
lacked_bool true true false h i j = absurd (true≢false h)
lacked_bool true false c h i j = absurd (false≢true j)
lacked_bool false b c h i j = absurd (false≢true i)

none_at : {A : Type 0} (p : A → Bool) (xs : List A) (x : A) → list_any p xs ≡ false → Among xs x → p x ≡ false
none_at p xs x h a = elim (p x) as (λ b. p x ≡ b → p x ≡ false) [ true ↦ λ e. absurd (true≢false (sym (any_at p xs x a e) ∙ h)) | false ↦ λ e. e ] refl

pub not_lacked : (rs : List Release) (x : Identity) (s : Sighting) (r : Release) → comes_late_behind rs x s ≡ false → Among rs r → covers r.ranges s ≡ true
    → has_key r.issuers x.issuer ≡ true → has r.accepted x ≡ true
unfolding comes_late_behind
not_lacked rs x s r h a c k =
    lacked_bool (covers r.ranges s) (has_key r.issuers x.issuer) (has r.accepted x) (none_at (λ q. covers q.ranges s && has_key q.issuers x.issuer && not (has q.accepted x)) rs r h a) c k

-- ---- ascending

pub accepted_by-ascend : (before : List Identity) (rs : List Release) → IsStrictlySortedBy identity_cmp before
    → ((r : Release) → Among rs r → IsStrictlySortedBy identity_cmp r.accepted) → IsStrictlySortedBy identity_cmp (accepted_by before rs)
unfolding accepted_by
accepted_by-ascend before [] h f = h
accepted_by-ascend before (r ∷ rs) h f = accepted_by-ascend r.accepted rs (f r (inl refl)) (λ q a. f q (inr a))
