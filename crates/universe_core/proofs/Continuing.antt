-- What follows a ledger.
use Rattle.std.specs.Prelude.{IfSome, IsNone, nat_le}
use Rattle.std.specs.List.{find, slice_get}
use Rattle.std.specs.List.Sorted.{IsStrictlySortedBy}
use Rattle.std.specs.Option.{option_map, option_or}
use Rattle.std.proofs.Common.{◌≡◌, ℕ, ℤ, suc, ◌+◌, ◌-◌, ◌<◌, ◌≤◌, inl, inr, List, [], ◌∷◌, ◌++◌, map, length, All, Bool, true, false, cond, Option, Some, None, Err, refl, sym, ap, ◌∙◌, subst, arith}
use Rattle.std.proofs.lemmas.Bool.{leb-false}
use Rattle.std.proofs.lemmas.List.{length-map}
use Rattle.std.proofs.lemmas.List.Elements.{All-map}
use Rattle.ident_core.specs.declared.identity.Identity.{Identity}
use Rattle.ident_core.specs.declared.kind.Kind.TheVariants as kinds
use Rattle.ident_core.specs.Order.{is_same, octets_cmp, identity_cmp}
use Rattle.ident_core.specs.declared.range.Range.{Range}
use Rattle.ident_core.specs.HeadFields.{HeadFields}
use Rattle.ident_core.specs.Coverage.{RangesFit, first_outside}
use Rattle.ident_core.proofs.Within.{within-iff}
use Rattle.job_core.specs.declared.bounds.Limits.{Limits}
use Rattle.job_core.specs.declared.bounds.What.TheVariants as what
use Rattle.job_core.specs.declared.meaning.Job.{Job}
use Rattle.job_core.specs.JobFields.{JobFields, crl_view, fields_of_job}
use Rattle.ledger_core.specs.declared.fields.LedgerItem.{LedgerItem}
use Rattle.ledger_core.specs.declared.fields.LedgerPart.{LedgerPart}
use Rattle.ledger_core.specs.LedgerFields.{LedgerPartFields, LedgerFields, Continues, IsLedger, IsItemOf, ids, part_fields, ledger_fields, sealed_with, newest}
use Rattle.ledger_core.proofs.Chains.{newest_after, parts-append, IsItemOf-more}
use Rattle.ledger_core.proofs.Seals.{sealed-append}
use Rattle.ident_core.specs.Among.{Among}
use Rattle.ident_core.specs.Sets.{has}
use Rattle.ident_core.proofs.Canonical.{Contains-from_Among}
use Rattle.ident_core.proofs.Order.{sorted_none}
use Rattle.ident_core.proofs.Sets.{identity_total, identities_are}
use Rattle.universe_core.specs.Jobs.{JobFacts, facts_of, enrolled}
use Rattle.universe_core.specs.History.{shown, accepted_with, universe, revoked, released}
use Rattle.universe_core.specs.Ledgers.{no_ledger, past_in, item_of, birth_or, last_or_none, next_item, next_ledger}
use Rattle.universe_core.specs.Groups.{GroupFields, IsGroup, group_of, groups}
use Rattle.universe_core.specs.Counting.{count, counts}
use Rattle.universe_core.specs.Members.{AreMembers, as_item, first_part, members_in}
use Rattle.universe_core.specs.Following.{IsBefore, early}
use Rattle.universe_core.specs.Step.{IsAdmission, bad_crl_from, old_epoch, shrunk, chain_full, too_many, refusal, kind_by, parent_by, head_after, groups_after, counts_after}
use Rattle.universe_core.specs.declared.class.Class.TheVariants.{Unread, Uncovered, Unenrolled, Late, Accepted}
use Rattle.universe_core.specs.declared.counts.Counts.{Counts}
use Rattle.universe_core.specs.declared.member.Member.{Member}
use Rattle.universe_core.specs.declared.fault.AdmitFault.{AdmitFault}
use Rattle.universe_core.specs.declared.fault.AdmitFault.TheVariants as faults
use Rattle.universe_core.proofs.Issuers.{enrolled_ascend}
use Rattle.universe_core.proofs.Building.{ids_in}
use Rattle.universe_core.proofs.Beginning.{many_by, few_by, ids_are, every, group_facts}

pub before_none : IsBefore no_ledger
before_none = record { few_parts = omega arith; parts = tt; items_ascend = sorted_none identity_cmp identity_total; items = λ k d h. absurd (omega arith) }

pub before_ledger : (l : LedgerFields) → IsLedger l → IsBefore l
before_ledger l h = record { few_parts = h.few_parts; parts = h.parts; items_ascend = h.items_ascend; items = h.items }

-- ---- why a job isn't admitted

first_last : (a b c d e : Option AdmitFault) → option_or a (option_or b (option_or c (option_or d e))) ≡ option_or (option_or a (option_or b (option_or c d))) e
first_last (Some x) b c d e = refl
first_last None (Some x) c d e = refl
first_last None None (Some x) d e = refl
first_last None None None d e = refl

refusal_is : (limits : Limits) (ledger : LedgerFields) (job : JobFields) → refusal limits ledger job ≡ option_or (early ledger.parts job) (too_many limits ledger (facts_of job))
unfolding refusal
refusal_is limits ledger job =
    first_last (bad_crl_from 0 job.crls) (old_epoch (newest ledger.parts) job.epoch) (shrunk (newest ledger.parts) (facts_of job)) (chain_full ledger.parts) (too_many limits ledger (facts_of job))

pub refused_as : (limits : Limits) (ledger : LedgerFields) (job : Job) (e : AdmitFault) → refusal limits ledger (fields_of_job job) ≡ Some e → IsAdmission limits ledger job (Err e)
refused_as limits ledger job e h = record { admitted = tt; refused = λ n. h; head = tt; groups = tt; facts = tt; counts = tt; next = tt }

pub refusal_early : (limits : Limits) (ledger : LedgerFields) (job : JobFields) (e : AdmitFault) → early ledger.parts job ≡ Some e → refusal limits ledger job ≡ Some e
refusal_early limits ledger job e h = refusal_is limits ledger job ∙ ap (λ o. option_or o (too_many limits ledger (facts_of job))) h

pub refusal_many : (limits : Limits) (ledger : LedgerFields) (job : JobFields) → early ledger.parts job ≡ None → limits.identities < length (accepted_with (past_in ledger) (facts_of job))
    → refusal limits ledger job ≡ Some (faults.TooMany what.Identities limits.identities)
refusal_many limits ledger job n h = refusal_is limits ledger job ∙ ap (λ o. option_or o (too_many limits ledger (facts_of job))) n ∙ many_by limits
    (length (accepted_with (past_in ledger) (facts_of job))) h

pub refusal_none : (limits : Limits) (ledger : LedgerFields) (job : JobFields) → early ledger.parts job ≡ None
    → length (accepted_with (past_in ledger) (facts_of job)) ≤ limits.identities → refusal limits ledger job ≡ None
refusal_none limits ledger job n h = refusal_is limits ledger job ∙ ap (λ o. option_or o (too_many limits ledger (facts_of job))) n ∙ few_by limits
    (length (accepted_with (past_in ledger) (facts_of job))) h

-- ---- the newest part

pub newest_code : (ps : List LedgerPart) → option_map part_fields (slice_get ps (length ps - 1)) ≡ newest (map part_fields ps)
newest_code [] = refl
newest_code (p ∷ []) = refl
newest_code (p ∷ q ∷ ps) = let e : length (p ∷ q ∷ ps) - 1 ≡ suc (length (q ∷ ps) - 1) = omega arith in rw e (newest_code (q ∷ ps))

newest_behind : (p : LedgerPartFields) (ps : List LedgerPartFields) → newest (p ∷ ps) ≡ newest_after (Some p) ps
newest_behind p [] = refl
newest_behind p (q ∷ ps) = newest_behind q ps

newest_is : (ps : List LedgerPartFields) → newest ps ≡ newest_after None ps
newest_is [] = refl
newest_is (p ∷ ps) = newest_behind p ps

kind_some : (ps : List LedgerPartFields) (p : LedgerPartFields) → newest ps ≡ Some p → kinds.Delta ≡ kind_by ps
kind_some [] p h = absurd cc
kind_some (q ∷ ps) p h = refl

pub head_some : (ps : List LedgerPart) (p : LedgerPart) (job : JobFacts) (ranges : List Range) → Some p ≡ slice_get ps (length ps - 1) → ranges ≡ job.ranges
    → ◌≡◌ {A = HeadFields} (record { kind = kinds.Delta; epoch = job.epoch; parent = p.trailer; ranges = ranges }) (head_after (map part_fields ps) job)
head_some ps p job ranges h r =
    let n : Some (part_fields p) ≡ newest (map part_fields ps) = ap (option_map part_fields) h ∙ newest_code ps in
    let k = kind_some (map part_fields ps) (part_fields p) (sym n) in
    λ i. record { kind = k i; epoch = job.epoch; parent = parent_by (n i); ranges = r i }

-- ---- the next ledger

none_each : (a b c d : Option AdmitFault) → option_or a (option_or b (option_or c d)) ≡ None → (b ≡ None) × (c ≡ None) × (d ≡ None)
none_each (Some x) b c d h = absurd cc
none_each None (Some x) c d h = absurd cc
none_each None None (Some x) d h = absurd cc
none_each None None None d h = (refl, refl, h)

not_so : (b : Bool) (f : AdmitFault) → cond b (Some f) None ≡ None → b ≡ false
not_so true f h = absurd cc
not_so false f h = refl

none_of : (o : Option (List ℕ)) → option_map faults.CoverageShrinks o ≡ None → IsNone o
none_of None h = refl
none_of (Some x) h = absurd cc

follows : (o : Option LedgerPartFields) (job : JobFacts) (issuers : List (List ℕ)) → old_epoch o job.epoch ≡ None → shrunk o job ≡ None → Continues o (first_part job.epoch job.ranges issuers)
follows None job issuers a b = tt
follows (Some q) job issuers a b = (
  leb-false job.epoch q.epoch (not_so (nat_le job.epoch q.epoch) (faults.OldEpoch q.epoch job.epoch) a),
  (within-iff q.ranges job.ranges (first_outside q.ranges job.ranges) refl).0 (none_of (first_outside q.ranges job.ranges) b),
)

length_more : (ps : List LedgerPartFields) (p : LedgerPartFields) → length (ps ++ p ∷ []) ≡ length ps + 1
length_more [] p = refl
length_more (q ∷ ps) p = let h = length_more ps p in omega arith

find_step : (P : LedgerItem → Type 0) (x : LedgerItem) (o : Option LedgerItem) (b : Bool) → P x → IfSome o P → IfSome (cond b (Some x) o) P
find_step P x o true one rest = one
find_step P x o false one rest = rest

pub find_all : (P : LedgerItem → Type 0) (t : LedgerItem → Bool) (xs : List LedgerItem) → ((x : LedgerItem) → Among xs x → P x) → IfSome (find t xs) P
find_all P t [] f = tt
find_all P t (x ∷ xs) f = find_step P x (find t xs) (t x) (f x (inl refl)) (find_all P t xs (λ y a. f y (inr a)))

all_among : (P : LedgerItem → Type 0) (xs : List LedgerItem) → All P xs → (x : LedgerItem) → Among xs x → P x
all_among P xs h x a = let k = Contains-from_Among xs x a in subst P k.2 (h k.0 x k.1)

item_by : (n : ℕ) (x : Identity) (until : Option ℤ) (o : Option LedgerItem) (b : Bool) → IfSome o (IsItemOf n)
    → IsItemOf (n + 1) (record { id = x; birth = birth_or n o; last = cond b (Some n) (last_or_none o); until = until })
item_by n x until None true h = record { birth = omega arith; last = (omega arith, omega arith) }
item_by n x until None false h = record { birth = omega arith; last = tt }
item_by n x until (Some i) true h = let b = h.birth in record { birth = omega arith; last = (omega arith, omega arith) }
item_by n x until (Some i) false h = let m = IsItemOf-more n (n + 1) i (omega arith) h in record { birth = m.birth; last = m.last }

module _ (ledger : LedgerFields) (job : JobFacts) (before : IsBefore ledger) where
  pub accepted_ascends : IsStrictlySortedBy identity_cmp (accepted_with (past_in ledger) job)
  unfolding accepted_with past_in
  accepted_ascends = (identities_are (map (λ e. e.id) (shown (past_in ledger) job) ++ ids ledger.items)).ascends

  item_is : (x : Identity) → IsItemOf (length ledger.parts + 1) (next_item (past_in ledger) ledger job x)
  unfolding item_of
  item_is x =
      item_by (length ledger.parts) x (next_item (past_in ledger) ledger job x).until (find (λ (i : LedgerItem). is_same x i.id) ledger.items) (has (revoked (past_in ledger) job) x)
      (find_all (IsItemOf (length ledger.parts)) (λ (i : LedgerItem). is_same x i.id) ledger.items (all_among (IsItemOf (length ledger.parts)) ledger.items before.items))

  next_items : All (IsItemOf (length ledger.parts + 1)) (map (next_item (past_in ledger) ledger job) (accepted_with (past_in ledger) job))
  next_items =
      All-map (IsItemOf (length ledger.parts + 1)) (next_item (past_in ledger) ledger job) (accepted_with (past_in ledger) job)
      (every (λ x. IsItemOf (length ledger.parts + 1) (next_item (past_in ledger) ledger job x)) (accepted_with (past_in ledger) job) item_is)

  pub groups_facts : (out : List GroupFields) → out ≡ groups_after ledger job → All IsGroup out
  unfolding groups
  groups_facts out g =
      let r = released (past_in ledger) job [] in
      subst (λ z. All IsGroup z) (sym g) (All-map IsGroup (group_of r) r.issuers (every (λ k. IsGroup (group_of r k)) r.issuers (λ k. group_facts r k accepted_ascends)))

  pub ids_ascend : (items : List LedgerItem) (settled : List Bool) → AreMembers (members_in ledger job) items settled → IsStrictlySortedBy identity_cmp (ids items)
  ids_ascend items settled ms = subst (λ z. IsStrictlySortedBy identity_cmp z) (sym (ids_in ledger job items settled ms)) accepted_ascends

pub members_many : (ledger : LedgerFields) (job : JobFacts) (items : List LedgerItem) (settled : List Bool) → AreMembers (members_in ledger job) items settled
    → length items ≡ length (accepted_with (past_in ledger) job)
members_many ledger job items settled ms = sym (length-map items (λ (i : LedgerItem). i.id)) ∙ ap length (ids_in ledger job items settled ms)

pub settled_many : (ms : List Member) (items : List LedgerItem) (settled : List Bool) → AreMembers ms items settled → length settled ≡ length items
settled_many ms items settled of = ap length of.settled ∙ length-map ms (λ (m : Member). m.settled) ∙ sym (ap length of.items ∙ length-map ms as_item)

pub is_next : (ledger : LedgerFields) (job : JobFields) (issuers : List (List ℕ)) (items : List LedgerItem) → IsBefore ledger → early ledger.parts job ≡ None
    → RangesFit job.ranges → issuers ≡ enrolled (facts_of job)
    → items ≡ map (next_item (past_in ledger) ledger (facts_of job)) (accepted_with (past_in ledger) (facts_of job)) → length (enrolled (facts_of job)) ≤ 65535
    → length (accepted_with (past_in ledger) (facts_of job)) ≤ 4194304
    → IsLedger (record { parts = ledger.parts ++ first_part job.epoch job.ranges issuers ∷ []; items = items })
is_next ledger job issuers items before none r k i few some =
    let p : LedgerPartFields = first_part job.epoch job.ranges issuers in
    let each = none_each (bad_crl_from 0 job.crls) (old_epoch (newest ledger.parts) job.epoch) (shrunk (newest ledger.parts) (facts_of job)) (chain_full ledger.parts) none in
    let room : length ledger.parts < 64 = leb-false 64 (length ledger.parts) (not_so (nat_le 64 (length ledger.parts)) faults.ChainFull each.2) in
    let len : length (ledger.parts ++ p ∷ []) ≡ length ledger.parts + 1 = length_more ledger.parts p in
    let n : length items ≡ length (accepted_with (past_in ledger) (facts_of job)) = ap length i ∙ length-map (accepted_with (past_in ledger) (facts_of job))
    (next_item (past_in ledger) ledger (facts_of job)) in record {
      some_parts = omega arith;
      few_parts = omega arith;
      parts = parts-append None ledger.parts p before.parts (record {
        continues = subst (λ o. Continues o p) (newest_is ledger.parts) (follows (newest ledger.parts) (facts_of job) issuers each.0 each.1);
        ranges = r;
        few_issuers = subst (λ z. length z ≤ 65535) (sym k) few;
        issuers_ascend = subst (λ z. IsStrictlySortedBy octets_cmp z) (sym k) (enrolled_ascend (facts_of job));
      });
      few_items = omega arith;
      items_ascend = subst (λ z. IsStrictlySortedBy identity_cmp z)
          (sym (ap (map (λ (x : LedgerItem). x.id)) i ∙ ids_are (past_in ledger) ledger (facts_of job) (accepted_with (past_in ledger) (facts_of job))))
          (accepted_ascends ledger (facts_of job) before);
      items = subst (λ m. All (IsItemOf m) items) (sym len) (subst (λ z. All (IsItemOf (length ledger.parts + 1)) z) (sym i) (next_items ledger (facts_of job) before));
    }

pub next_is : (ledger : LedgerFields) (job : JobFacts) (issuers : List (List ℕ)) (items : List LedgerItem) (trailer : List ℕ) → issuers ≡ enrolled job
    → items ≡ map (next_item (past_in ledger) ledger job) (accepted_with (past_in ledger) job)
    → sealed_with (record { parts = ledger.parts ++ first_part job.epoch job.ranges issuers ∷ []; items = items }) trailer ≡ next_ledger ledger job trailer
next_is ledger job issuers items trailer k i =
    let s = sealed-append ledger.parts (first_part job.epoch job.ranges issuers) trailer in
    (λ j. record { parts = s j; items = items }) ∙ (λ j. record { parts = ledger.parts ++ record { epoch = job.epoch; trailer = trailer; ranges = job.ranges; issuers = k j } ∷ []; items = i j })

pub counts_are : (ledger : LedgerFields) (job : JobFacts) (n : Counts) → n.issuers ≡ length (enrolled job) → n.universe ≡ length (universe (past_in ledger) job)
    → n.revoked ≡ length (revoked (past_in ledger) job)
    → n.unread ≡ count Unread (past_in ledger) job → n.uncovered ≡ count Uncovered (past_in ledger) job → n.unenrolled ≡ count Unenrolled (past_in ledger) job
    → n.late ≡ count Late (past_in ledger) job → n.accepted ≡ count Accepted (past_in ledger) job → n ≡ counts_after ledger job
unfolding counts
counts_are ledger job n a b c d e f g h = λ j. record { issuers = a j; universe = b j; revoked = c j; unread = d j; uncovered = e j; unenrolled = f j; late = g j; accepted = h j }

pub shows : (ledger : LedgerFields) (parts : List LedgerPart) (items : List LedgerItem) → map part_fields parts ≡ ledger.parts → items ≡ ledger.items → ledger_fields parts items ≡ ledger
shows ledger parts items p q = λ i. record { parts = p i; items = q i }

pub crls_few : (limits : Limits) (job : Job) → length (map crl_view job.crls.items) ≤ limits.crls → limits.crls ≤ 65535 → length job.crls.items ≤ 65535
crls_few limits job a b = let m = length-map job.crls.items crl_view in omega arith
