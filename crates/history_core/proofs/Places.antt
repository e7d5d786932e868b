-- The birth and the last part of an identity.
use Rattle.std.specs.List.{list_any, position_or_len, slice_get}
use Rattle.std.proofs.Common.{◌≡◌, ℕ, suc, ◌+◌, inl, inr, ⊎_elim, List, [], ◌∷◌, ◌++◌, map, take, length, Bool, true, false, cond, not, ◌&&◌, ◌||◌, Option, Some, None, refl, sym, ap, ◌∙◌}
use Rattle.std.proofs.lemmas.Bool.{true≢false, false≢true}
use Rattle.std.proofs.Math.Numerals.{one-add}
use Rattle.ident_core.specs.declared.identity.Identity.{Identity}
use Rattle.ident_core.specs.declared.range.Sighting.{Sighting}
use Rattle.ident_core.specs.Coverage.{covers}
use Rattle.ledger_core.specs.LedgerFields.{LedgerPartFields}
use Rattle.ident_core.specs.Among.{Among}
use Rattle.ident_core.specs.Sets.{has, has_key}
use Rattle.universe_core.specs.History.{Release, birth, comes_late_behind}
use Rattle.universe_core.specs.Ledgers.{later, last_place, last, part_from}
use Rattle.history_core.specs.Facts.{IsLastRevoking, IsWider, Widens}

-- ---- the first place

-- where none passes it is the length
first_none : {A : Type 0} (p : A → Bool) (xs : List A) → ((x : A) → Among xs x → p x ≡ false) → position_or_len p xs ≡ length xs
first_none p [] h = refl
first_none p (x ∷ xs) h = rw (h x (inl refl)) (one-add (position_or_len p xs) ∙ ap suc (first_none p xs (λ y a. h y (inr a))))

-- one more that passes doesn't move it
first_push : {A : Type 0} (p : A → Bool) (xs : List A) (y : A) → p y ≡ true → position_or_len p (xs ++ y ∷ []) ≡ position_or_len p xs
first_push p [] y h = rw h refl
first_push p (x ∷ xs) y h = ap (λ (n : ℕ). cond (not (p x)) (1 + n) 0) (first_push p xs y h)

pub birth-push : (x : Identity) (rs : List Release) (r : Release) → has r.accepted x ≡ true → birth x (rs ++ r ∷ []) ≡ birth x rs
unfolding birth
birth-push x rs r h = first_push (λ (q : Release). has q.accepted x) rs r h

pub birth-none : (x : Identity) (rs : List Release) → ((r : Release) → Among rs r → has r.accepted x ≡ false) → birth x rs ≡ length rs
unfolding birth
birth-none x rs h = first_none (λ (q : Release). has q.accepted x) rs h

-- the releases before the birth are those that had not accepted the identity
abbrev lacks : Identity → Sighting → Release → Bool
lacks x s r = covers r.ranges s && has_key r.issuers x.issuer && not (has r.accepted x)

abbrev part_lacks : Identity → Sighting → LedgerPartFields → Bool
part_lacks x s p = covers p.ranges s && has_key p.issuers x.issuer

none_any : {A : Type 0} (p : A → Bool) (xs : List A) → ((x : A) → Among xs x → p x ≡ false) → list_any p xs ≡ false
none_any p [] h = refl
none_any p (x ∷ xs) h = rw (h x (inl refl)) (none_any p xs (λ y a. h y (inr a)))

and_not : (a b c : Bool) → c ≡ true → a && b && not c ≡ false
and_not true true true h = refl
and_not true false true h = refl
and_not false b true h = refl
and_not a b false h = absurd (false≢true h)

and_yes : (a b c : Bool) → c ≡ false → a && b ≡ (a && b && not c)
and_yes true true false h = refl
and_yes true false false h = refl
and_yes false b false h = refl
and_yes a b true h = absurd (true≢false h)

abbrev lacked_to : Identity → Sighting → List Release → ℕ → Type 0
lacked_to x s rs n = list_any (part_lacks x s) (take n (map part_from rs)) ≡ list_any (lacks x s) rs

lacked_step : (x : Identity) (s : Sighting) (r : Release) (rs : List Release) (b : Bool) → has r.accepted x ≡ b → ((q : Release) → Among rs q → IsWider r q)
    → lacked_to x s rs (position_or_len (λ q. has q.accepted x) rs)
    → lacked_to x s (r ∷ rs) (cond (not b) (1 + position_or_len (λ q. has q.accepted x) rs) 0)
lacked_step x s r rs true e w next =
    sym (none_any (lacks x s) (r ∷ rs) (λ q a. ⊎_elim
    (λ (i : r ≡ q). and_not (covers q.ranges s) (has_key q.issuers x.issuer) (has q.accepted x) (ap (λ (z : Release). has z.accepted x) (sym i) ∙ e))
    (λ i. and_not (covers q.ranges s) (has_key q.issuers x.issuer) (has q.accepted x) ((w q i).accepted x e)) a))
lacked_step x s r rs false e w next =
    ap (λ (n : ℕ). list_any (part_lacks x s) (take n (map part_from (r ∷ rs)))) (one-add (position_or_len (λ (q : Release). has q.accepted x) rs))
    ∙ ap (λ (b : Bool). b || list_any (part_lacks x s) (take (position_or_len (λ q. has q.accepted x) rs) (map part_from rs)))
    (and_yes (covers r.ranges s) (has_key r.issuers x.issuer) (has r.accepted x) e)
    ∙ ap (λ (b : Bool). lacks x s r || b) next

lacked_all : (x : Identity) (s : Sighting) (rs : List Release) → Widens rs → lacked_to x s rs (position_or_len (λ q. has q.accepted x) rs)
lacked_all x s [] w = refl
lacked_all x s (r ∷ rs) w = lacked_step x s r rs (has r.accepted x) refl w.0 (lacked_all x s rs w.1)

pub lacked_before_birth : (x : Identity) (s : Sighting) (rs : List Release) → Widens rs
    → list_any (λ (p : LedgerPartFields). covers p.ranges s && has_key p.issuers x.issuer) (take (birth x rs) (map part_from rs)) ≡ comes_late_behind rs x s
unfolding birth comes_late_behind
lacked_before_birth x s rs w = lacked_all x s rs w

-- ---- the last place

later_none : (b : Bool) → later None b ≡ cond b (Some 0) None
later_none true = refl
later_none false = refl

later_cond : (b c : Bool) (n : ℕ) (o : Option ℕ) → later (cond b (Some n) o) c ≡ cond b (Some (suc n)) (later o c)
later_cond true c n o = refl
later_cond false c n o = refl

last_push : {A : Type 0} (p : A → Bool) (xs : List A) (y : A) → last_place p (xs ++ y ∷ []) ≡ cond (p y) (Some (length xs)) (last_place p xs)
unfolding last_place
last_push p [] y = later_none (p y)
last_push p (x ∷ xs) y = ap (λ o. later o (p x)) (last_push p xs y) ∙ later_cond (p y) (p x) (length xs) (last_place p xs)

pub last-push : (x : Identity) (rs : List Release) (r : Release) → last x (rs ++ r ∷ []) ≡ cond (has r.revoked x) (Some (length rs)) (last x rs)
unfolding last
last-push x rs r = last_push (λ (q : Release). has q.revoked x) rs r

-- the release at the last place covers what each that revokes does
abbrev pub CoversAll : Identity → List Release → Option ℕ → Type 0
CoversAll x rs None = (r : Release) → Among rs r → has r.revoked x ≡ false
CoversAll x rs (Some k) = (r : Release) × Among rs r × (slice_get rs k ≡ Some r) × (has r.revoked x ≡ true)
    × ((q : Release) → Among rs q → has q.revoked x ≡ true → (s : Sighting) → covers q.ranges s ≡ true → covers r.ranges s ≡ true)

last_step : (x : Identity) (r : Release) (rs : List Release) (o : Option ℕ) (b : Bool) → has r.revoked x ≡ b → ((q : Release) → Among rs q → IsWider r q)
    → CoversAll x rs o → CoversAll x (r ∷ rs) (later o b)
last_step x r rs (Some k) b e w l =
    (l.0, inr l.1, l.2, l.3, λ q a v s c. ⊎_elim (λ (i : r ≡ q). (w l.0 l.1).covered s (ap (λ (z : Release). covers z.ranges s) i ∙ c)) (λ i. l.4 q i v s c) a)
last_step x r rs None true e w l =
    (r, inl refl, refl, e, λ q a v s c. ⊎_elim (λ (i : r ≡ q). ap (λ (z : Release). covers z.ranges s) i ∙ c) (λ i. absurd (true≢false (sym v ∙ l q i))) a)
last_step x r rs None false e w l = λ q a. ⊎_elim (λ (i : r ≡ q). ap (λ (z : Release). has z.revoked x) (sym i) ∙ e) (λ i. l q i) a

last_all : (x : Identity) (rs : List Release) → Widens rs → CoversAll x rs (last_place (λ (q : Release). has q.revoked x) rs)
unfolding last_place
last_all x [] w = λ r a. absurd a
last_all x (r ∷ rs) w = last_step x r rs (last_place (λ (q : Release). has q.revoked x) rs) (has r.revoked x) refl w.0 (last_all x rs w.1)

pub last_is : (x : Identity) (rs : List Release) → Widens rs → CoversAll x rs (last x rs)
unfolding last
last_is x rs w = last_all x rs w

-- and that no later one revokes
last_behind : (x : Identity) (r : Release) (rs : List Release) (o : Option ℕ) (b : Bool) → has r.revoked x ≡ b → IsLastRevoking x rs o → IsLastRevoking x (r ∷ rs) (later o b)
last_behind x r rs (Some k) b e l = l
last_behind x r rs None true e l = ((r, refl, e), l)
last_behind x r rs None false e l = λ q a. ⊎_elim (λ (i : r ≡ q). ap (λ (z : Release). has z.revoked x) (sym i) ∙ e) (λ i. l q i) a

last_of_all : (x : Identity) (rs : List Release) → IsLastRevoking x rs (last_place (λ (q : Release). has q.revoked x) rs)
unfolding last_place
last_of_all x [] = λ r a. absurd a
last_of_all x (r ∷ rs) = last_behind x r rs (last_place (λ (q : Release). has q.revoked x) rs) (has r.revoked x) refl (last_of_all x rs)

pub last_in_words : (x : Identity) (rs : List Release) → IsLastRevoking x rs (last x rs)
unfolding last
last_in_words x rs = last_of_all x rs
