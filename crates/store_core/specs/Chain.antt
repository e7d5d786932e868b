-- Chains of parts, and why a chain doesn't take a part.
use Rattle.std.specs.Prelude.{◌≡◌, ℕ, ◌<◌, ◌≤◌, List, [], ◌∷◌, length, nat_le, not, Option, Some, None}
use Rattle.std.specs.Bool.{then_some}
use Rattle.std.specs.Option.{option_map, option_or}
use Rattle.std.specs.Str.{bytes_eq}
use Rattle.octets_core.specs.Linked.{Linked}
use Rattle.ident_core.specs.declared.bounds.TheConstants.{MAX_PARTS}
use Rattle.ident_core.specs.declared.kind.Kind.{Kind}
use Rattle.ident_core.specs.declared.kind.Kind.TheVariants as kinds
use Rattle.ident_core.specs.Coverage.{LiesWithin, first_outside}
use Rattle.part_text.specs.SealedFields.{SealedFields}
use Rattle.store_core.specs.declared.chain.Refusal.{Refusal}
use Rattle.store_core.specs.declared.chain.Refusal.TheVariants as refusals

-- ---- chains

-- the rules between a part and the next one
pub record Follows (held given : SealedFields) : Type 0 where
  pub kind : given.part.head.kind ≡ kinds.Delta
  pub parent : given.part.head.parent ≡ held.trailer
  pub epoch : held.part.head.epoch < given.part.head.epoch
  pub coverage : LiesWithin held.part.head.ranges given.part.head.ranges

-- The first is a snapshot, and each later one follows the one before it. A store has one part or more; no part at all
-- is a chain too.
abbrev pub IsChain : List SealedFields → Type 0
IsChain [] = Unit {0}
IsChain (first ∷ others) = (first.part.head.kind ≡ kinds.Snapshot) × Linked Follows (λ held given. given) first others

-- what each store keeps
pub record IsStore (parts : List SealedFields) : Type 0 where
  pub chain : IsChain parts
  pub some : 1 ≤ length parts
  pub few : length parts ≤ MAX_PARTS

abbrev pub newest_of : {A : Type 0} → List A → Option A
newest_of [] = None
newest_of (x ∷ []) = Some x
newest_of (x ∷ y ∷ others) = newest_of (y ∷ others)

-- ---- why a chain doesn't take a part: the first of these that holds (in the words of the rules: Refusals)

abbrev pub not_delta : Kind → Option Refusal
not_delta kinds.Snapshot = Some refusals.NotDelta
not_delta kinds.Delta = None

-- the parent isn't the trailer that is held
abbrev pub wrong_parent : List ℕ → List ℕ → Option Refusal
wrong_parent held given = then_some (not (bytes_eq held given)) (refusals.WrongParent held given)

-- the epoch isn't above the one that is held
abbrev pub old_epoch : ℕ → ℕ → Option Refusal
old_epoch held given = then_some (nat_le given held) (refusals.OldEpoch held given)

-- between two parts, of which the first is held
abbrev pub broken : SealedFields → SealedFields → Option Refusal
broken held given =
    option_or (not_delta given.part.head.kind)
    (option_or (wrong_parent held.trailer given.part.head.parent)
    (option_or (old_epoch held.part.head.epoch given.part.head.epoch)
    (option_map refusals.CoverageShrinks (first_outside held.part.head.ranges given.part.head.ranges))))

abbrev pub broken_behind : Option SealedFields → SealedFields → Option Refusal
broken_behind None given = None
broken_behind (Some held) given = broken held given

abbrev pub full : ℕ → Option Refusal
full count = then_some (nat_le MAX_PARTS count) refusals.Full

unfoldable pub refusal_of : List SealedFields → SealedFields → Option Refusal
refusal_of parts given = option_or (broken_behind (newest_of parts) given) (full (length parts))
