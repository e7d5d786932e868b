-- Each refusal comes exactly where its cause holds.
use Rattle.std.proofs.Common.{◌≡◌, ◌≢◌, ◌↔◌, ℕ, ◌<◌, ◌≤◌, Bool, true, false, not, cond, List, [], ◌∷◌, ◌++◌, length, Option, Some, None, refl, sym, ap, subst, ◌∙◌, arith}
use Rattle.std.specs.Prelude.{Any, find, nat_le, IsNone}
use Rattle.std.specs.Bool.{Decides, then_some}
use Rattle.std.specs.Option.{option_map, option_or}
use Rattle.std.specs.Str.{bytes_eq}
use Rattle.std.proofs.lemmas.List.Elements.{All-head, All-tail, All-cons}
use Rattle.std.proofs.lemmas.Bool.Decides.{not_from_Decides}
use Rattle.std.proofs.lemmas.Bool.{leb-false, leb-true, lt-leb, le-leb}
use Rattle.std.proofs.lemmas.Slice.Eq.{bytes_eq-Decides}
use Rattle.ident_core.specs.declared.kind.Kind.{Kind}
use Rattle.ident_core.specs.declared.kind.Kind.TheVariants as kinds
use Rattle.ident_core.specs.declared.range.Range.{Range}
use Rattle.ident_core.specs.Coverage.{LiesIn, LiesWithin, lies_in_some, first_outside}
use Rattle.ident_core.proofs.Within.{within-iff}
use Rattle.part_text.specs.SealedFields.{SealedFields}
use Rattle.store_core.specs.declared.chain.Refusal.{Refusal}
use Rattle.store_core.specs.declared.chain.Refusal.TheVariants as refusals
use Rattle.store_core.specs.Chain.{Follows, newest_of, not_delta, refusal_of}
use Rattle.store_core.specs.Refusals.{HasWrongParent, HasOldEpoch, IsFirstLogOutside, LosesCoverage}
use Rattle.store_core.proofs.Growing.{refusal-is, unbroken-Follows, Follows-unbroken}

-- ---- the first range outside

any-of : (new : List Range) (r : Range) → lies_in_some new r ≡ true → Any (LiesIn r) new
any-of new r h =
    let one : IsNone (first_outside (r ∷ []) new) = rw h refl in
    All-head (λ x. Any (LiesIn x) new) r [] ((within-iff (r ∷ []) new (first_outside (r ∷ []) new) refl).0 one)

one-none : (b : Bool) (r : Range) → IsNone (option_map (λ (x : Range). x.log) (cond (not b) (Some r) None)) → b ≡ true
one-none true r none = refl
one-none false r none = absurd cc

test-of : (new : List Range) (r : Range) → Any (LiesIn r) new → lies_in_some new r ≡ true
test-of new r any =
    let within : LiesWithin (r ∷ []) new = All-cons (λ x. Any (LiesIn x) new) r [] any (λ k d lt. absurd (omega arith)) in
    one-none (lies_in_some new r) r ((within-iff (r ∷ []) new (first_outside (r ∷ []) new) refl).1 within)

lies-Decides : (new : List Range) (r : Range) → Decides (lies_in_some new r) (Any (LiesIn r) new)
lies-Decides new r = (any-of new r, test-of new r)

not_same : (b : Bool) → (b ≡ true → ⊥) → b ≡ false
not_same true not_so = absurd (not_so refl)
not_same false not_so = refl

some_is : (a b : List ℕ) → Some a ≡ Some b → a ≡ b
some_is a b h = cc

outside-more : (r : Range) (rs new : List Range) (log : List ℕ) → Any (LiesIn r) new → IsFirstLogOutside rs new log → IsFirstLogOutside (r ∷ rs) new log
outside-more r rs new log any f = record {
  before = r ∷ f.before;
  range = f.range;
  behind = f.behind;
  old_are = ap (λ l. r ∷ l) f.old_are;
  within = All-cons (λ x. Any (LiesIn x) new) r f.before any f.within;
  outside = f.outside;
  log_is = f.log_is;
}

outside-at : (r : Range) (rs new : List Range) (log : List ℕ) → lies_in_some new r ≡ false → r.log ≡ log → IsFirstLogOutside (r ∷ rs) new log
outside-at r rs new log not_in is = record {
  before = [];
  range = r;
  behind = rs;
  old_are = refl;
  within = λ k d lt. absurd (omega arith);
  outside = not_from_Decides (lies_in_some new r) (lies-Decides new r) not_in;
  log_is = sym is;
}

outside-step : (b : Bool) (r : Range) (rs new : List Range) (log : List ℕ) → lies_in_some new r ≡ b
    → option_map (λ (x : Range). x.log) (cond (not b) (Some r) (find (λ (x : Range). not (lies_in_some new x)) rs)) ≡ Some log
    → (first_outside rs new ≡ Some log → IsFirstLogOutside rs new log) → IsFirstLogOutside (r ∷ rs) new log
outside-step true r rs new log is h rest = outside-more r rs new log (any-of new r is) (rest h)
outside-step false r rs new log is h rest = outside-at r rs new log is (some_is r.log log h)

outside-found : (old new : List Range) (log : List ℕ) → first_outside old new ≡ Some log → IsFirstLogOutside old new log
outside-found [] new log h = absurd cc
outside-found (r ∷ rs) new log h = outside-step (lies_in_some new r) r rs new log refl h (outside-found rs new log)

outside-behind : (before : List Range) (r : Range) (behind new : List Range) → LiesWithin before new → (Any (LiesIn r) new → ⊥) → first_outside (before ++ r ∷ behind) new ≡ Some r.log
outside-behind [] r behind new within outside =
    let not_in : lies_in_some new r ≡ false = not_same (lies_in_some new r) (λ t. outside (any-of new r t)) in
    rw not_in refl
outside-behind (x ∷ before) r behind new within outside =
    let one : lies_in_some new x ≡ true = test-of new x (All-head (λ y. Any (LiesIn y) new) x before within) in
    rw one (outside-behind before r behind new (All-tail (λ y. Any (LiesIn y) new) x before within) outside)

outside-first : (old new : List Range) (log : List ℕ) → IsFirstLogOutside old new log → first_outside old new ≡ Some log
outside-first old new log f = rw (f.old_are, f.log_is) (outside-behind f.before f.range f.behind new f.within f.outside)

-- ---- the cause of each

-- what an answer says, of so many parts whose newest is `held`
abbrev Cause : SealedFields → SealedFields → ℕ → Option Refusal → Type 0
Cause held given n None = Follows held given × (n < 64)
Cause held given n (Some refusals.NotDelta) = given.part.head.kind ≡ kinds.Snapshot
Cause held given n (Some (refusals.WrongParent h g)) = HasWrongParent held given × (h ≡ held.trailer) × (g ≡ given.part.head.parent)
Cause held given n (Some (refusals.OldEpoch h g)) = HasOldEpoch held given × (h ≡ held.part.head.epoch) × (g ≡ given.part.head.epoch)
Cause held given n (Some (refusals.CoverageShrinks log)) = LosesCoverage held given log
Cause held given n (Some refusals.Full) = Follows held given × (64 ≤ n)

-- the answer of the tests
abbrev answer : (held given : SealedFields) → Kind → Bool → Bool → Option (List ℕ) → Bool → Option Refusal
answer held given kind same old outside many =
    option_or (option_or (not_delta kind)
    (option_or (then_some (not same) (refusals.WrongParent held.trailer given.part.head.parent))
    (option_or (then_some old (refusals.OldEpoch held.part.head.epoch given.part.head.epoch))
    (option_map refusals.CoverageShrinks outside))))
    (then_some many refusals.Full)

caused : (held given : SealedFields) (n : ℕ) (kind : Kind) (same old : Bool) (outside : Option (List ℕ)) (many : Bool)
    → given.part.head.kind ≡ kind → bytes_eq held.trailer given.part.head.parent ≡ same → nat_le given.part.head.epoch held.part.head.epoch ≡ old
    → first_outside held.part.head.ranges given.part.head.ranges ≡ outside → nat_le 64 n ≡ many → Cause held given n (answer held given kind same old outside many)
caused held given n kinds.Snapshot same old outside many k s o c m = k
caused held given n kinds.Delta false old outside many k s o c m =
    (record { kind = k; parent = λ is. not_from_Decides _ (bytes_eq-Decides held.trailer given.part.head.parent) s (sym is) }, refl, refl)
caused held given n kinds.Delta true true outside many k s o c m =
    (record { kind = k; parent = sym ((bytes_eq-Decides held.trailer given.part.head.parent).0 s); epoch = leb-true _ _ o }, refl, refl)
caused held given n kinds.Delta true false (Some log) many k s o c m = record {
  kind = k;
  parent = sym ((bytes_eq-Decides held.trailer given.part.head.parent).0 s);
  epoch = leb-false given.part.head.epoch held.part.head.epoch o;
  coverage = outside-found held.part.head.ranges given.part.head.ranges log c;
}
caused held given n kinds.Delta true false None true k s o c m = (unbroken-Follows held given (rw (k, s, o, c) refl), leb-true 64 n m)
caused held given n kinds.Delta true false None false k s o c m = (unbroken-Follows held given (rw (k, s, o, c) refl), leb-false 64 n m)

answered : (parts : List SealedFields) (held given : SealedFields) → newest_of parts ≡ Some held
    → refusal_of parts given ≡ answer held given given.part.head.kind (bytes_eq held.trailer given.part.head.parent) (nat_le given.part.head.epoch held.part.head.epoch)
    (first_outside held.part.head.ranges given.part.head.ranges) (nat_le 64 (length parts))
answered parts held given newest = refusal-is parts held given newest

cause : (parts : List SealedFields) (held given : SealedFields) (o : Option Refusal) → newest_of parts ≡ Some held → refusal_of parts given ≡ o → Cause held given (length parts) o
cause parts held given o newest is =
    subst (Cause held given (length parts)) (sym (answered parts held given newest) ∙ is)
    (caused held given (length parts) _ _ _ _ _ refl refl refl refl refl)

-- ---- and where the cause holds, the answer comes

is_other : (held given : SealedFields) → given.part.head.parent ≢ held.trailer → bytes_eq held.trailer given.part.head.parent ≡ false
is_other held given other = not_same (bytes_eq held.trailer given.part.head.parent) (λ t. other (sym ((bytes_eq-Decides held.trailer given.part.head.parent).0 t)))

is_parent : (held given : SealedFields) → given.part.head.parent ≡ held.trailer → bytes_eq held.trailer given.part.head.parent ≡ true
is_parent held given is = (bytes_eq-Decides held.trailer given.part.head.parent).1 (sym is)

not_delta-answer : (parts : List SealedFields) (held given : SealedFields) → newest_of parts ≡ Some held → given.part.head.kind ≡ kinds.Snapshot → refusal_of parts given ≡ Some refusals.NotDelta
not_delta-answer parts held given newest is = refusal-is parts held given newest ∙ rw is refl

wrong_parent-answer : (parts : List SealedFields) (held given : SealedFields) → newest_of parts ≡ Some held → HasWrongParent held given
    → refusal_of parts given ≡ Some (refusals.WrongParent held.trailer given.part.head.parent)
wrong_parent-answer parts held given newest w = refusal-is parts held given newest ∙ rw (w.kind, is_other held given w.parent) refl

old_epoch-answer : (parts : List SealedFields) (held given : SealedFields) → newest_of parts ≡ Some held → HasOldEpoch held given
    → refusal_of parts given ≡ Some (refusals.OldEpoch held.part.head.epoch given.part.head.epoch)
old_epoch-answer parts held given newest w =
    refusal-is parts held given newest ∙ rw (w.kind, is_parent held given w.parent, le-leb given.part.head.epoch held.part.head.epoch w.epoch) refl

coverage-answer : (parts : List SealedFields) (held given : SealedFields) (log : List ℕ) → newest_of parts ≡ Some held → LosesCoverage held given log
    → refusal_of parts given ≡ Some (refusals.CoverageShrinks log)
coverage-answer parts held given log newest w =
    refusal-is parts held given newest
    ∙ rw (w.kind, is_parent held given w.parent, lt-leb given.part.head.epoch held.part.head.epoch w.epoch, outside-first held.part.head.ranges given.part.head.ranges log w.coverage) refl

full-answer : (parts : List SealedFields) (held given : SealedFields) → newest_of parts ≡ Some held → Follows held given → 64 ≤ length parts → refusal_of parts given ≡ Some refusals.Full
full-answer parts held given newest f many = refusal-is parts held given newest ∙ rw (Follows-unbroken held given f, le-leb 64 (length parts) many) refl

none-answer : (parts : List SealedFields) (held given : SealedFields) → newest_of parts ≡ Some held → Follows held given → length parts < 64 → refusal_of parts given ≡ None
none-answer parts held given newest f few = refusal-is parts held given newest ∙ rw (Follows-unbroken held given f, lt-leb 64 (length parts) few) refl

-- ---- both ways

pub not_delta-exact : (parts : List SealedFields) (held given : SealedFields) → newest_of parts ≡ Some held
    → (refusal_of parts given ≡ Some refusals.NotDelta ↔ given.part.head.kind ≡ kinds.Snapshot)
not_delta-exact parts held given newest = (cause parts held given (Some refusals.NotDelta) newest, not_delta-answer parts held given newest)

pub wrong_parent-exact : (parts : List SealedFields) (held given : SealedFields) (h g : List ℕ) → newest_of parts ≡ Some held
    → (refusal_of parts given ≡ Some (refusals.WrongParent h g) ↔ HasWrongParent held given × (h ≡ held.trailer) × (g ≡ given.part.head.parent))
wrong_parent-exact parts held given h g newest =
    (cause parts held given (Some (refusals.WrongParent h g)) newest, λ w. rw (w.1, w.2) (wrong_parent-answer parts held given newest w.0))

pub old_epoch-exact : (parts : List SealedFields) (held given : SealedFields) (h g : ℕ) → newest_of parts ≡ Some held
    → (refusal_of parts given ≡ Some (refusals.OldEpoch h g) ↔ HasOldEpoch held given × (h ≡ held.part.head.epoch) × (g ≡ given.part.head.epoch))
old_epoch-exact parts held given h g newest =
    (cause parts held given (Some (refusals.OldEpoch h g)) newest, λ w. rw (w.1, w.2) (old_epoch-answer parts held given newest w.0))

pub coverage-exact : (parts : List SealedFields) (held given : SealedFields) (log : List ℕ) → newest_of parts ≡ Some held
    → (refusal_of parts given ≡ Some (refusals.CoverageShrinks log) ↔ LosesCoverage held given log)
coverage-exact parts held given log newest =
    (cause parts held given (Some (refusals.CoverageShrinks log)) newest, coverage-answer parts held given log newest)

pub full-exact : (parts : List SealedFields) (held given : SealedFields) → newest_of parts ≡ Some held
    → (refusal_of parts given ≡ Some refusals.Full ↔ Follows held given × (64 ≤ length parts))
full-exact parts held given newest = (cause parts held given (Some refusals.Full) newest, λ w. full-answer parts held given newest w.0 w.1)

pub none-exact : (parts : List SealedFields) (held given : SealedFields) → newest_of parts ≡ Some held
    → (refusal_of parts given ≡ None ↔ Follows held given × (length parts < 64))
none-exact parts held given newest = (cause parts held given None newest, λ w. none-answer parts held given newest w.0 w.1)
