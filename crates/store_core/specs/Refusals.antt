-- What each refusal says of the newest part of a chain (`held`) and of the part that it doesn't take (`given`), in the
-- words of the rules of `Follows`: which of them is broken, and that those before it are kept.
use Rattle.std.specs.Prelude.{◌≡◌, ◌≢◌, ◌<◌, ◌≤◌, ℕ, List, ◌∷◌, ◌++◌, Any}
use Rattle.ident_core.specs.declared.kind.Kind.TheVariants as kinds
use Rattle.ident_core.specs.declared.range.Range.{Range}
use Rattle.ident_core.specs.Coverage.{LiesIn, LiesWithin}
use Rattle.part_text.specs.SealedFields.{SealedFields}

-- a delta, and its parent isn't the trailer that is held
pub record HasWrongParent (held given : SealedFields) : Type 0 where
  pub kind : given.part.head.kind ≡ kinds.Delta
  pub parent : given.part.head.parent ≢ held.trailer

-- a delta with the right parent, and its epoch isn't greater
pub record HasOldEpoch (held given : SealedFields) : Type 0 where
  pub kind : given.part.head.kind ≡ kinds.Delta
  pub parent : given.part.head.parent ≡ held.trailer
  pub epoch : given.part.head.epoch ≤ held.part.head.epoch

-- the log of the first of the old ranges that lies in none of the new ones
pub record IsFirstLogOutside (old new : List Range) (log : List ℕ) : Type 0 where
  pub before : List Range
  pub range : Range
  pub behind : List Range
  pub old_are : old ≡ before ++ range ∷ behind
  pub within : LiesWithin before new
  pub outside : Any (LiesIn range) new → ⊥
  pub log_is : log ≡ range.log

-- a delta with the right parent and a greater epoch, and a range that is held lies in none of its own
pub record LosesCoverage (held given : SealedFields) (log : List ℕ) : Type 0 where
  pub kind : given.part.head.kind ≡ kinds.Delta
  pub parent : given.part.head.parent ≡ held.trailer
  pub epoch : held.part.head.epoch < given.part.head.epoch
  pub coverage : IsFirstLogOutside held.part.head.ranges given.part.head.ranges log
