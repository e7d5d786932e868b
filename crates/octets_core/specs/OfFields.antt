-- What holds of a layout that is a list of fields, each with a width and a test that depend on the fields before it
-- alone: bytes behind what was read change nothing.
use Rattle.std.specs.Prelude.{◌≡◌, ℕ, List, ◌++◌, Ok, Err}
use Rattle.octets_core.specs.Layout.{Layout}
use Rattle.octets_core.specs.declared.fault.LayoutFault.{LayoutFault}
use Rattle.octets_core.specs.declared.fault.Why.TheVariants as why

-- A value, and a fault that isn't a want of bytes, stay as they are whatever bytes come behind.
pub record IsOfFields {E A : Type 0} (IsShort : E → Type 0) (layout : Layout E A) : Type 0 where
  pub read : (bytes more : List ℕ) (at : ℕ) (x : A × ℕ) → layout bytes at ≡ Ok x → layout (bytes ++ more) at ≡ Ok x
  pub refused : (bytes more : List ℕ) (at : ℕ) (e : E) → layout bytes at ≡ Err e → (IsShort e → ⊥) → layout (bytes ++ more) at ≡ Err e

-- a fault of a field of which not all bytes are there
abbrev pub IsShort : LayoutFault → Type 0
IsShort f = f.why ≡ why.Short
