-- What the head of a part says.
use Rattle.std.specs.Prelude.{◌≡◌, ℕ, List, replicate}
use Rattle.ident_core.specs.declared.range.Range.{Range}
use Rattle.ident_core.specs.declared.kind.Kind.{Kind}
use Rattle.ident_core.specs.declared.kind.Kind.TheVariants.{Snapshot}
use Rattle.ident_core.specs.Coverage.{RangesFit}

pub record HeadFields : Type 0 where
  pub kind : Kind
  pub epoch : ℕ
  pub parent : List ℕ
  pub ranges : List Range

-- a key of zeros
abbrev pub zero_key : List ℕ
zero_key = replicate 32 0

-- the facts that each head keeps
pub record IsHead (h : HeadFields) : Type 0 where
  pub ranges : RangesFit h.ranges
  pub snapshot : h.kind ≡ Snapshot → h.parent ≡ zero_key
