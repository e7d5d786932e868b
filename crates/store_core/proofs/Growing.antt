-- A chain takes a part exactly where the parts together are a chain.
use Rattle.std.proofs.Common.{◌≡◌, ℕ, suc, ◌<◌, ◌≤◌, Bool, true, false, not, get_or, ◌-◌, List, [], ◌∷◌, ◌++◌, length, Option, Some, None, refl, sym, ap, ◌∙◌, length-append, arith}
use Rattle.std.specs.Prelude.{IsNone}
use Rattle.std.specs.Bool.{then_some}
use Rattle.std.specs.Option.{option_map, option_or}
use Rattle.std.proofs.lemmas.Bool.{leb-false, lt-leb}
use Rattle.std.proofs.lemmas.Slice.Eq.{bytes_eq-Decides}
use Rattle.octets_core.specs.Linked.{Linked}
use Rattle.ident_core.specs.declared.kind.Kind.{Kind}
use Rattle.ident_core.specs.declared.kind.Kind.TheVariants as kinds
use Rattle.ident_core.specs.Coverage.{first_outside}
use Rattle.ident_core.proofs.Within.{within-iff}
use Rattle.part_text.specs.SealedFields.{SealedFields}
use Rattle.store_core.specs.declared.chain.Refusal.{Refusal}
use Rattle.store_core.specs.declared.chain.Refusal.TheVariants as refusals
use Rattle.store_core.specs.Chain.{Follows, IsChain, IsStore, newest_of, not_delta, wrong_parent, old_epoch, broken, broken_behind, full, refusal_of}

-- ---- two parts

none_both : (a b : Option Refusal) → option_or a b ≡ None → (a ≡ None) × (b ≡ None)
none_both None b h = (refl, h)
none_both (Some why) b h = absurd cc

both_none : (a b : Option Refusal) → a ≡ None → b ≡ None → option_or a b ≡ None
both_none a b h k = rw h k

is_delta : (k : Kind) → not_delta k ≡ None → k ≡ kinds.Delta
is_delta kinds.Snapshot h = absurd cc
is_delta kinds.Delta h = refl

not_refused : (b : Bool) (why : Refusal) → then_some b why ≡ None → b ≡ false
not_refused true why h = absurd cc
not_refused false why h = refl

is_same : (b : Bool) → not b ≡ false → b ≡ true
is_same true h = refl
is_same false h = absurd cc

none_outside : (o : Option (List ℕ)) → option_map refusals.CoverageShrinks o ≡ None → o ≡ None
none_outside None h = refl
none_outside (Some log) h = absurd cc

-- as a test
is-none : (o : Option (List ℕ)) → o ≡ None → IsNone o
is-none o h = rw h refl

none-is : (o : Option (List ℕ)) → IsNone o → o ≡ None
none-is None h = refl
none-is (Some log) h = absurd cc

pub unbroken-Follows : (held given : SealedFields) → broken held given ≡ None → Follows held given
unbroken-Follows held given h =
    let a = none_both _ _ h in
    let b = none_both _ _ a.1 in
    let c = none_both _ _ b.1 in
    record {
      kind = is_delta given.part.head.kind a.0;
      parent = sym ((bytes_eq-Decides held.trailer given.part.head.parent).0 (is_same _ (not_refused _ _ b.0)));
      epoch = leb-false given.part.head.epoch held.part.head.epoch (not_refused _ _ c.0);
      coverage = (within-iff held.part.head.ranges given.part.head.ranges (first_outside held.part.head.ranges given.part.head.ranges) refl).0 (is-none _ (none_outside _ c.1));
    }

pub Follows-unbroken : (held given : SealedFields) → Follows held given → broken held given ≡ None
Follows-unbroken held given f =
    let kind : not_delta given.part.head.kind ≡ None = rw f.kind refl in
    let parent : wrong_parent held.trailer given.part.head.parent ≡ None = rw ((bytes_eq-Decides held.trailer given.part.head.parent).1 (sym f.parent)) refl in
    let epoch : old_epoch held.part.head.epoch given.part.head.epoch ≡ None = rw (lt-leb given.part.head.epoch held.part.head.epoch f.epoch) refl in
    let inside : first_outside held.part.head.ranges given.part.head.ranges ≡ None
    = none-is _ ((within-iff held.part.head.ranges given.part.head.ranges (first_outside held.part.head.ranges given.part.head.ranges) refl).1 f.coverage) in
    both_none _ _ kind (both_none _ _ parent (both_none _ _ epoch (rw inside refl)))

-- ---- chains

-- the last of some, behind a first
abbrev pub last_of : SealedFields → List SealedFields → SealedFields
last_of first [] = first
last_of first (x ∷ others) = last_of x others

pub newest-last : (first : SealedFields) (others : List SealedFields) → newest_of (first ∷ others) ≡ Some (last_of first others)
newest-last first [] = refl
newest-last first (x ∷ others) = newest-last x others

pub newest-at : (parts : List SealedFields) (d : SealedFields) → 1 ≤ length parts → newest_of parts ≡ Some (get_or parts (length parts - 1) d)
newest-at [] d some = absurd (omega arith)
newest-at (first ∷ []) d some = refl
newest-at (first ∷ x ∷ others) d some =
    let e : length (first ∷ x ∷ others) - 1 ≡ suc (length (x ∷ others) - 1) = omega arith in
    rw e (newest-at (x ∷ others) d (omega arith))

pub newest-found : (parts : List SealedFields) (i : ℕ) (s : SealedFields) → 1 ≤ length parts → i ≡ length parts - 1 → s ≡ get_or parts i s → newest_of parts ≡ Some s
newest-found parts i s some at is = newest-at parts s some ∙ ap (λ (k : ℕ). Some (get_or parts k s)) (sym at) ∙ ap (λ (t : SealedFields). Some t) (sym is)

pub refusal-is : (parts : List SealedFields) (held given : SealedFields) → newest_of parts ≡ Some held → refusal_of parts given ≡ option_or (broken held given) (full (length parts))
unfolding refusal_of
refusal-is parts held given is = ap (λ (o : Option SealedFields). option_or (broken_behind o given) (full (length parts))) is

abbrev Links : SealedFields → List SealedFields → Type 0
Links first others = Linked Follows (λ held given. given) first others

links-longer : (first : SealedFields) (others : List SealedFields) (p : SealedFields) → Links first others → Follows (last_of first others) p → Links first (others ++ p ∷ [])
links-longer first [] p links f = (f, tt)
links-longer first (x ∷ others) p links f = (links.0, links-longer x others p links.1 f)

links-last : (first : SealedFields) (others : List SealedFields) (p : SealedFields) → Links first (others ++ p ∷ []) → Follows (last_of first others) p
links-last first [] p links = links.0
links-last first (x ∷ others) p links = links-last x others p links.1

links-front : (first : SealedFields) (others more : List SealedFields) → Links first (others ++ more) → Links first others
links-front first [] more links = tt
links-front first (x ∷ others) more links = (links.0, links-front x others more links.1)

pub chain-front : (parts more : List SealedFields) → IsChain (parts ++ more) → IsChain parts
chain-front [] more chain = tt
chain-front (first ∷ others) more chain = (chain.0, links-front first others more chain.1)

-- ---- the two agree

pub taken-room : (parts : List SealedFields) (p : SealedFields) → refusal_of parts p ≡ None → length parts < 64
unfolding refusal_of
taken-room parts p h = leb-false 64 (length parts) (not_refused _ _ (none_both (broken_behind (newest_of parts) p) (full (length parts)) h).1)

pub taken-chain : (parts : List SealedFields) (p : SealedFields) → IsChain parts → 1 ≤ length parts → refusal_of parts p ≡ None → IsChain (parts ++ p ∷ [])
taken-chain [] p chain some h = absurd (omega arith)
taken-chain (first ∷ others) p chain some h =
    let none : option_or (broken (last_of first others) p) (full (length (first ∷ others))) ≡ None = sym (refusal-is (first ∷ others) (last_of first others) p (newest-last first others)) ∙ h in
    (chain.0, links-longer first others p chain.1 (unbroken-Follows (last_of first others) p (none_both _ _ none).0))

pub chain-taken : (parts : List SealedFields) (p : SealedFields) → IsChain (parts ++ p ∷ []) → 1 ≤ length parts → length parts < 64 → refusal_of parts p ≡ None
chain-taken [] p chain some few = absurd (omega arith)
chain-taken (first ∷ others) p chain some few =
    refusal-is (first ∷ others) (last_of first others) p (newest-last first others)
    ∙ both_none _ _ (Follows-unbroken (last_of first others) p (links-last first others p chain.1)) (rw (lt-leb 64 (length (first ∷ others)) few) refl)

-- a store with one part more
pub taken-store : (parts : List SealedFields) (p : SealedFields) → IsStore parts → refusal_of parts p ≡ None → IsStore (parts ++ p ∷ [])
taken-store parts p store h =
    let room = taken-room parts p h in
    record {
      chain = taken-chain parts p store.chain store.some h;
      some = omega (arith, length-append parts (p ∷ []), store.some);
      few = omega (arith, length-append parts (p ∷ []), room);
    }
