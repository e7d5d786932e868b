-- The layout of a store, line by line as in docs/FORMATS.md: so many parts, one after the other, each of them tested
-- for its place in the chain before the next one is read.
use Rattle.std.specs.Prelude.{ℕ, zero, suc, ◌+◌, ◌-◌, List, [], ◌∷◌, ◌++◌, length, Option, Some, None, codes, flat_map}
use Rattle.std.specs.Int.{w8, to_be_bytes}
use Rattle.octets_core.specs.Layout.{Layout, ◌>>=◌, whole, refused, embedded, mapped}
use Rattle.octets_core.specs.Reading.{number, magic, end}
use Rattle.octets_core.specs.declared.field.Field.TheVariants as fields
use Rattle.octets_core.specs.declared.fault.LayoutFault.{LayoutFault}
use Rattle.ident_core.specs.declared.bounds.TheConstants.{MAX_PARTS}
use Rattle.ident_core.specs.declared.kind.Kind.{Kind}
use Rattle.ident_core.specs.declared.kind.Kind.TheVariants as kinds
use Rattle.part_text.specs.SealedFields.{SealedFields}
use Rattle.part_text.specs.declared.fault.PartFault.{PartFault}
use Rattle.part_text.specs.declared.fault.PartFault.TheVariants as of_part
use Rattle.part_text.specs.PartLayout.{part}
use Rattle.part_text.specs.PartText.{spelling}
use Rattle.store_core.specs.declared.chain.Refusal.{Refusal}
use Rattle.store_core.specs.declared.fault.StoreFault.{StoreFault}
use Rattle.store_core.specs.declared.fault.StoreFault.TheVariants as faults
use Rattle.store_core.specs.Chain.{refusal_of}

-- a fault of a part, from the beginning of the bytes that hold the part at this place
abbrev pub moved : ℕ → PartFault → StoreFault
moved at of_part.NoMemory = faults.NoMemory
moved at (of_part.Layout f) = faults.Layout (record f { at = at + f.at })

-- a layout whose faults are those of its fields
abbrev pub fielded : {A : Type 0} → Layout LayoutFault A → Layout StoreFault A
fielded layout = mapped faults.Layout layout

-- a chain begins with a snapshot
abbrev pub begins : Kind → Layout StoreFault (Unit {0})
begins kinds.Snapshot = whole tt
begins kinds.Delta = refused faults.NotSnapshot

unfoldable pub first_part : Layout StoreFault (List SealedFields)
first_part = do
  s ← embedded moved part
  snapshot ← begins s.part.head.kind
  whole (s ∷ [])

-- and takes what it has no reason to refuse
abbrev pub takes : Option Refusal → Layout StoreFault (Unit {0})
takes None = whole tt
takes (Some why) = refused (faults.Refused why)

-- these parts, and so many behind them
unfoldable pub chain : ℕ → List SealedFields → Layout StoreFault (List SealedFields)
chain zero parts = whole parts
chain (suc n) parts = do
  s ← embedded moved part
  taken ← takes (refusal_of parts s)
  chain n (parts ++ s ∷ [])

-- how many parts there are, by what stands before the first
unfoldable pub opening : Layout LayoutFault ℕ
opening = do
  begin ← magic fields.StoreMagic (codes "CLUBSTOR")
  version ← number fields.StoreVersion w8 1 1
  number fields.StoreCount w8 1 MAX_PARTS

-- so many parts, behind these; no part was read yet, or one or more
abbrev pub left_of : ℕ → Option (List SealedFields) → Layout StoreFault (List SealedFields)
left_of count None = first_part >>= chain (count - 1)
left_of count (Some parts) = chain count parts

-- all but the end
unfoldable pub store_parts : Layout StoreFault (List SealedFields)
store_parts = do
  begin ← fielded (magic fields.StoreMagic (codes "CLUBSTOR"))
  version ← fielded (number fields.StoreVersion w8 1 1)
  count ← fielded (number fields.StoreCount w8 1 MAX_PARTS)
  first ← first_part
  chain (count - 1) first

unfoldable pub store : Layout StoreFault (List SealedFields)
store = do
  parts ← store_parts
  nothing ← fielded end
  whole parts

-- the bytes that the layout reads as the parts
unfoldable pub store_text : List SealedFields → List ℕ
store_text parts = codes "CLUBSTOR" ++ to_be_bytes w8 1 ++ to_be_bytes w8 (length parts) ++ flat_map spelling parts
