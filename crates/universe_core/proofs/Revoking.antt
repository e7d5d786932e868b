-- Which members are revoked.
use Rattle.std.specs.List.{list_any, filter_map, cons_option}
use Rattle.std.specs.Prelude.{is_some}
use Rattle.std.specs.Str.{bytes_eq}
use Rattle.std.proofs.Common.{◌≡◌, ℕ, ◌+◌, ◌-◌, ◌<◌, ◌++◌, List, [], ◌∷◌, map, filter, length, get_or, take, drop, set, arith, Bool, true, false, cond, not, ◌&&◌, ◌||◌, Option, Some, None, refl, sym, ap, ◌∙◌}
use Rattle.std.proofs.lemmas.Bool.{false_from_ne_true, true≢false}
use Rattle.std.proofs.lemmas.List.{length-map, length-take, map_more, get_or-map, get_or-drop, get_or-append_right, get_or_default, set-get_or}
use Rattle.std.proofs.lemmas.List.Edits.{map_over_more}
use Rattle.ident_core.specs.declared.identity.Identity.{Identity}
use Rattle.job_core.specs.declared.meaning.JobCrl.{JobCrl}
use Rattle.job_core.specs.JobFields.{crl_view}
use Rattle.ledger_core.specs.LedgerFields.{LedgerFields, ids}
use Rattle.ledger_core.specs.declared.fields.LedgerItem.{LedgerItem}
use Rattle.ident_core.specs.Sets.{has, has_key}
use Rattle.ident_core.proofs.Elements.{Among-filter, Among-in_filter, bool_same, map_agree}
use Rattle.ident_core.proofs.Sets.{Among-from_has, has-from_Among}
use Rattle.universe_core.specs.Jobs.{Crl, JobFacts, accepted_crl, enrolled, lists}
use Rattle.universe_core.specs.Enrolling.{facts_of_crl, holds}
use Rattle.universe_core.specs.History.{Past, shown, sightings, accepted_with, universe, is_revoked, revoked}
use Rattle.universe_core.specs.Ledgers.{past_in, item_of, last_or_none, next_item}
use Rattle.universe_core.specs.Members.{AreMembers, AreOf, as_item, member_in, members_in, next_of}
use Rattle.universe_core.specs.declared.member.Member.{Member}

pub universe_is : (past : Past) (job : JobFacts) (x : Identity) → has (universe past job) x ≡ true → (has (accepted_with past job) x ≡ true) × (has_key (enrolled job) x.issuer ≡ true)
unfolding universe
universe_is past job x h =
    let f = Among-filter (λ y. has_key (enrolled job) y.issuer) (accepted_with past job) x (Among-from_has (universe past job) x h) in
    (has-from_Among (accepted_with past job) x f.0, f.1)

pub universe_has : (past : Past) (job : JobFacts) (x : Identity) → has (accepted_with past job) x ≡ true → has_key (enrolled job) x.issuer ≡ true → has (universe past job) x ≡ true
unfolding universe
universe_has past job x a e = has-from_Among (universe past job) x (Among-in_filter (λ y. has_key (enrolled job) y.issuer) (accepted_with past job) x (Among-from_has (accepted_with past job) x a) e)

pub revoked_is : (past : Past) (job : JobFacts) (x : Identity) → has (revoked past job) x ≡ true → (has (universe past job) x ≡ true) × (is_revoked past job x ≡ true)
unfolding revoked
revoked_is past job x h =
    let f = Among-filter (is_revoked past job) (universe past job) x (Among-from_has (revoked past job) x h) in
    (has-from_Among (universe past job) x f.0, f.1)

pub revoked_has : (past : Past) (job : JobFacts) (x : Identity) → has (universe past job) x ≡ true → is_revoked past job x ≡ true → has (revoked past job) x ≡ true
unfolding revoked
revoked_has past job x u r = has-from_Among (revoked past job) x (Among-in_filter (is_revoked past job) (universe past job) x (Among-from_has (universe past job) x u) r)

-- a member of the universe is revoked where it was listed or is, and isn't settled
pub revoked_at : (past : Past) (job : JobFacts) (x : Identity) → has (universe past job) x ≡ true
    → has (revoked past job) x ≡ ((past.listed_before x || lists job x) && not (past.already_revoked x (sightings x (shown past job))))
unfolding is_revoked
revoked_at past job x u =
    bool_same (has (revoked past job) x) (is_revoked past job x) (λ h. (revoked_is past job x h).1) (revoked_has past job x u)

-- and no other is revoked
revoked_outside : (past : Past) (job : JobFacts) (x : Identity) → has (universe past job) x ≡ false → has (revoked past job) x ≡ false
revoked_outside past job x u = false_from_ne_true (has (revoked past job) x) (λ h. absurd (true≢false (sym (revoked_is past job x h).0 ∙ u)))

flag_by : (past : Past) (job : JobFacts) (x : Identity) (b : Bool) → has_key (enrolled job) x.issuer ≡ b → has (accepted_with past job) x ≡ true
    → has (revoked past job) x ≡ (b && ((past.listed_before x || lists job x) && not (past.already_revoked x (sightings x (shown past job)))))
flag_by past job x true e a = revoked_at past job x (universe_has past job x a e)
flag_by past job x false e a = revoked_outside past job x (false_from_ne_true (has (universe past job) x) (λ h. absurd (true≢false (sym (universe_is past job x h).1 ∙ e))))

-- an accepted identity is revoked where its issuer is enrolled, it was listed or is, and it isn't settled
pub flag_is : (past : Past) (job : JobFacts) (x : Identity) → has (accepted_with past job) x ≡ true
    → has (revoked past job) x ≡ (has_key (enrolled job) x.issuer && ((past.listed_before x || lists job x) && not (past.already_revoked x (sightings x (shown past job)))))
flag_is past job x a = flag_by past job x (has_key (enrolled job) x.issuer) refl a

-- ---- what the marks say

lists_step : (x : Identity) (o : Option Crl) (cs : List Crl) (r : Bool) → list_any (λ (d : Crl). has_key d.serials x.serial) (filter (λ (d : Crl). bytes_eq x.issuer d.issuer) cs) ≡ r
    → list_any (λ (d : Crl). has_key d.serials x.serial) (filter (λ (d : Crl). bytes_eq x.issuer d.issuer) (cons_option o cs)) ≡ (holds o x || r)
lists_step x None cs r e = e
lists_step x (Some c) cs r e = by (bytes_eq x.issuer c.issuer)
  where
    by : (b : Bool) → list_any (λ (d : Crl). has_key d.serials x.serial)
        (cond b (c ∷ filter (λ (d : Crl). bytes_eq x.issuer d.issuer) cs) (filter (λ (d : Crl). bytes_eq x.issuer d.issuer) cs))
        ≡ ((b && has_key c.serials x.serial) || r)
    by true = ap (λ z. has_key c.serials x.serial || z) e
    by false = e

lists_all : (x : Identity) (cs : List JobCrl) → list_any (λ (d : Crl). has_key d.serials x.serial) (filter (λ (d : Crl). bytes_eq x.issuer d.issuer) (filter_map accepted_crl (map crl_view cs)))
    ≡ list_any (λ c. holds (facts_of_crl c) x) cs
lists_all x [] = refl
lists_all x (c ∷ cs) = lists_step x (facts_of_crl c) (filter_map accepted_crl (map crl_view cs)) (list_any (λ d. holds (facts_of_crl d) x) cs) (lists_all x cs)

pub lists_is : (job : JobFacts) (crls : List JobCrl) (x : Identity) → job.crls ≡ filter_map accepted_crl (map crl_view crls) → lists job x ≡ list_any (λ c. holds (facts_of_crl c) x) crls
unfolding lists
lists_is job crls x t = ap (λ cs. list_any (λ (d : Crl). has_key d.serials x.serial) (filter (λ (d : Crl). bytes_eq x.issuer d.issuer) cs)) t ∙ lists_all x crls

-- ---- the flags and the items of the step

pub map_map : {A B C : Type 0} (f : A → B) (g : B → C) (xs : List A) → map g (map f xs) ≡ map (λ x. g (f x)) xs
map_map f g [] = refl
map_map f g (x ∷ xs) = ap (λ z. g (f x) ∷ z) (map_map f g xs)

module _ (ledger : LedgerFields) (job : JobFacts) where
  abbrev past : Past
  past = past_in ledger

  was_is : (x : Identity) → is_some (last_or_none (item_of ledger x)) ≡ past.listed_before x
  unfolding past_in
  was_is x = refl

  -- the flags of the members are those of the revoked set
  pub flags_are : map (λ x. has_key (enrolled job) x.issuer && ((is_some (last_or_none (item_of ledger x)) || lists job x) && not (past.already_revoked x (sightings x (shown past job)))))
      (accepted_with past job) ≡ map (has (revoked past job)) (accepted_with past job)
  flags_are =
      map_agree (λ x. has_key (enrolled job) x.issuer && ((is_some (last_or_none (item_of ledger x)) || lists job x) && not
      (past.already_revoked x (sightings x (shown past job))))) (has (revoked past job)) (accepted_with past job)
      (λ x a. ap (λ b. has_key (enrolled job) x.issuer && ((b || lists job x) && not (past.already_revoked x (sightings x (shown past job))))) (was_is x) ∙ sym
      (flag_is past job x (has-from_Among (accepted_with past job) x a)))

-- ---- what is said of members, by their items and what stands beside them

module _ (ledger : LedgerFields) (job : JobFacts) (items : List LedgerItem) (settled : List Bool) (ms : AreMembers (members_in ledger job) items settled) where
  pub of_items : {A : Type 0} (f : LedgerItem → A) → map f items ≡ map (λ x. f (as_item (member_in ledger job x))) (accepted_with (past_in ledger) job)
  of_items f =
      ap (map f) ms.items ∙ map_map as_item f (members_in ledger job)
      ∙ map_map (member_in ledger job) (λ (m : Member). f (as_item m)) (accepted_with (past_in ledger) job)

  settled_by : settled ≡ map (λ (i : LedgerItem). (past_in ledger).already_revoked i.id (sightings i.id (shown (past_in ledger) job))) items
  settled_by =
      ms.settled ∙ map_map (member_in ledger job) (λ (m : Member). m.settled) (accepted_with (past_in ledger) job)
      ∙ sym (of_items (λ (i : LedgerItem). (past_in ledger).already_revoked i.id (sightings i.id (shown (past_in ledger) job))))

  -- the items are those of the next ledger
  pub items_are : map (λ (i : LedgerItem). next_of (length ledger.parts) (has (revoked (past_in ledger) job) i.id) i) items
      ≡ map (next_item (past_in ledger) ledger job) (accepted_with (past_in ledger) job)
  items_are = of_items (λ (i : LedgerItem). next_of (length ledger.parts) (has (revoked (past_in ledger) job) i.id) i)

  pub flags_by : (issuers : List (List ℕ)) (listed flags : List Bool) → issuers ≡ enrolled job → listed ≡ map (λ (i : LedgerItem). lists job i.id) items
      → ((s g : Identity → Bool) → settled ≡ map (λ i. s i.id) items → listed ≡ map (λ i. g i.id) items
      → flags ≡ map (λ i. has_key issuers i.id.issuer && ((is_some i.last || g i.id) && not (s i.id))) items)
      → flags ≡ map (has (revoked (past_in ledger) job)) (accepted_with (past_in ledger) job)
  flags_by issuers listed flags k l f =
      let s : Identity → Bool = λ x. (past_in ledger).already_revoked x (sightings x (shown (past_in ledger) job)) in
      f s (lists job) settled_by l
      ∙ ap (λ ks. map (λ (i : LedgerItem). has_key ks i.id.issuer && ((is_some i.last || lists job i.id) && not (s i.id))) items) k
      ∙ of_items (λ (i : LedgerItem). has_key (enrolled job) i.id.issuer && ((is_some i.last || lists job i.id) && not (s i.id)))
      ∙ flags_are ledger job

-- ---- from the marks to the revoked set

pub told_flags : (ledger : LedgerFields) (job : JobFacts) (crls : List JobCrl) (issuers : List (List ℕ)) (items : List LedgerItem) (settled listed flags : List Bool)
    → AreOf ledger job crls issuers items settled → listed ≡ map (λ x. list_any (λ c. holds (facts_of_crl c) x) crls) (ids items)
    → ((s g : Identity → Bool) → settled ≡ map (λ i. s i.id) items → listed ≡ map (λ i. g i.id) items
    → flags ≡ map (λ i. has_key issuers i.id.issuer && ((is_some i.last || g i.id) && not (s i.id))) items)
    → flags ≡ map (has (revoked (past_in ledger) job)) (accepted_with (past_in ledger) job)
told_flags ledger job crls issuers items settled listed flags of l f =
    flags_by ledger job items settled of.members issuers listed flags of.issuers
    (l ∙ map_map (λ (i : LedgerItem). i.id) (λ x. list_any (λ c. holds (facts_of_crl c) x) crls) items
    ∙ map_agree (λ (i : LedgerItem). list_any (λ c. holds (facts_of_crl c) i.id) crls) (λ (i : LedgerItem). lists job i.id) items
    (λ i a. sym (lists_is job crls i.id of.crls))) f

-- a mark beside each member
pub beside_marks : (crls : List JobCrl) (xs : List Identity) (members : List LedgerItem) (listed : List Bool) → xs ≡ ids members
    → listed ≡ map (λ x. list_any (λ c. holds (facts_of_crl c) x) crls) xs → length listed ≡ length members
beside_marks crls xs members listed i l = ap length l ∙ length-map xs (λ x. list_any (λ c. holds (facts_of_crl c) x) crls) ∙ ap length i ∙ length-map members (λ (d : LedgerItem). d.id)

-- ---- one more of each

pub flags_more : (issuers : List (List ℕ)) (members : List LedgerItem) (settled listed old new : List Bool) (i : ℕ) (x y : LedgerItem) (c d r : Bool) (s g : Identity → Bool)
    → i < length members → x ≡ get_or members i x → y ≡ get_or members i y → settled ≡ map (λ m. s m.id) members → listed ≡ map (λ m. g m.id) members
    → r ≡ (has_key issuers x.id.issuer && ((is_some y.last || get_or listed i c) && not (get_or settled i d)))
    → old ≡ map (λ m. has_key issuers m.id.issuer && ((is_some m.last || g m.id) && not (s m.id))) (take i members) → new ≡ old ++ r ∷ []
    → new ≡ map (λ m. has_key issuers m.id.issuer && ((is_some m.last || g m.id) && not (s m.id))) (take (i + 1) members)
flags_more issuers members settled listed old new i x y c d r s g lt ex ey es eg er eo en =
    let at : y ≡ x = ey ∙ get_or_default members i y x lt ∙ sym ex in
    let l : get_or listed i c ≡ g x.id = ap (λ z. get_or z i c) eg ∙ get_or-map (λ (m : LedgerItem). g m.id) members i x c lt ∙ ap (λ (m : LedgerItem). g m.id) (sym ex) in
    let t : get_or settled i d ≡ s x.id = ap (λ z. get_or z i d) es ∙ get_or-map (λ (m : LedgerItem). s m.id) members i x d lt ∙ ap (λ (m : LedgerItem). s m.id) (sym ex) in
    let value = er ∙ (λ k. has_key issuers x.id.issuer && ((is_some (at k).last || l k) && not (t k)))
    ∙ ap (λ (m : LedgerItem). has_key issuers m.id.issuer && ((is_some m.last || g m.id) && not (s m.id))) ex in
    en ∙ (λ k. eo k ++ value k ∷ []) ∙ sym (map_more (λ (m : LedgerItem). has_key issuers m.id.issuer && ((is_some m.last || g m.id) && not (s m.id))) members i x lt)

at_over : {A : Type 0} (f : A → A) (xs : List A) (i : ℕ) (d : A) → i < length xs → get_or (map f (take i xs) ++ drop i xs) i d ≡ get_or xs i d
at_over f xs i d lt =
    let front : length (map f (take i xs)) ≡ i = length-map (take i xs) f ∙ omega (arith, length-take i xs) in
    let place : i + (i - i) ≡ i = omega arith in
    get_or-append_right (map f (take i xs)) (drop i xs) i i d front (omega arith) ∙ get_or-drop i xs (i - i) d ∙ ap (λ k. get_or xs k d) place

pub lasts_more : (place : ℕ) (h : Identity → Bool) (xs ys : List LedgerItem) (flags : List Bool) (i : ℕ) (x y : LedgerItem) (d : Bool) (last : Option ℕ)
    → i < length xs → flags ≡ map (λ m. h m.id) xs → ys ≡ map (λ m. next_of place (h m.id) m) (take i xs) ++ drop i xs → x ≡ get_or ys i x → y ≡ get_or ys i y
    → last ≡ cond (get_or flags i d) (Some place) (get_or ys i y).last
    → set ys i (record { id = (get_or ys i x).id; birth = (get_or ys i x).birth; last = last; until = (get_or ys i x).until })
    ≡ map (λ m. next_of place (h m.id) m) (take (i + 1) xs) ++ drop (i + 1) xs
lasts_more place h xs ys flags i x y d last lt ef eo ex ey el =
    let f : LedgerItem → LedgerItem = λ m. next_of place (h m.id) m in
    let read : (e : LedgerItem) → get_or ys i e ≡ get_or xs i e = λ e. ap (λ z. get_or z i e) eo ∙ at_over f xs i e lt in
    let x-is : x ≡ get_or xs i x = ex ∙ read x in
    let y-is : y ≡ x = ey ∙ read y ∙ get_or_default xs i y x lt ∙ sym x-is in
    let flag : get_or flags i d ≡ h x.id = ap (λ z. get_or z i d) ef ∙ get_or-map (λ (m : LedgerItem). h m.id) xs i x d lt ∙ ap (λ (m : LedgerItem). h m.id) (sym x-is) in
    let next : last ≡ cond (h x.id) (Some place) x.last = el ∙ (λ k. cond (flag k) (Some place) ((sym ey ∙ y-is) k).last) in
    (λ k. set ys i (record { id = (sym ex k).id; birth = (sym ex k).birth; last = next k; until = (sym ex k).until })) ∙ map_over_more f xs ys i x lt eo ex

-- one that isn't revoked stays as it is
pub lasts_kept : (place : ℕ) (h : Identity → Bool) (xs ys : List LedgerItem) (flags : List Bool) (i : ℕ) → i < length xs → length ys ≡ length xs → flags ≡ map (λ m. h m.id) xs
    → ys ≡ map (λ m. next_of place (h m.id) m) (take i xs) ++ drop i xs → get_or flags i false ≡ false
    → ys ≡ map (λ m. next_of place (h m.id) m) (take (i + 1) xs) ++ drop (i + 1) xs
lasts_kept place h xs ys flags i lt long ef eo el =
    let bare : LedgerItem = record { id = record { issuer = []; serial = [] }; birth = 0; last = None; until = None } in
    let x : LedgerItem = get_or ys i bare in
    let ex : x ≡ get_or ys i x = get_or_default ys i bare x (omega arith) in
    sym (set-get_or ys i x)
    ∙ lasts_more place h xs ys flags i x x false (get_or ys i x).last lt ef eo ex ex (sym (ap (λ b. cond b (Some place) (get_or ys i x).last) el))
