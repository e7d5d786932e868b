-- What a function that reads a layout off a cursor did, and the fields that layouts share.
use Rattle.std.specs.Prelude.{◌≡◌, ℕ, List, Bool, true, length, nat_lt, if◌then◌else◌, Result, Ok, Err}
use Rattle.std.specs.Int.{Width}
use Rattle.std.specs.Str.{bytes_eq}
use Rattle.sha2.specs.Sha256.{sha256}
use Rattle.octets_core.specs.Position.{Position, from_three}
use Rattle.octets_core.specs.Layout.{Layout, ◌>>=◌, whole, number_field, bytes_field, sum_field}
use Rattle.octets_core.specs.declared.field.Field.{Field}
use Rattle.octets_core.specs.declared.field.Field.TheVariants as fields
use Rattle.octets_core.specs.declared.fault.Why.{Why}
use Rattle.octets_core.specs.declared.fault.Why.TheVariants as why
use Rattle.octets_core.specs.declared.fault.LayoutFault.{LayoutFault}

-- It gave the value and stands behind it, or it gave the fault. The bytes are the same either way.
abbrev pub ReadsField : {X A : Type 0} → (X → A) → Layout LayoutFault A → Position → Position
    → Result X LayoutFault → Type 0
ReadsField view layout old new (Ok x) = (layout old.bytes old.at ≡ Ok (view x, new.at)) × (new.bytes ≡ old.bytes)
ReadsField view layout old new (Err e) = (layout old.bytes old.at ≡ Err e) × (new.bytes ≡ old.bytes)

-- The same under a type of faults of which one, want of memory, says nothing of the bytes.
abbrev pub ReadsUnless : {E X A : Type 0} → E → (X → A) → Layout E A → Position → Position
    → Result X E → Type 0
ReadsUnless none view layout old new (Ok x) = (layout old.bytes old.at ≡ Ok (view x, new.at)) × (new.bytes ≡ old.bytes)
ReadsUnless none view layout old new (Err e) = (e ≡ none → ⊥) → layout old.bytes old.at ≡ Err e

-- What a function that reads bytes from their beginning did: it gave the value, or the fault; want of memory says
-- nothing of the bytes.
abbrev pub GivesUnless : {E X A : Type 0} → E → (X → A) → Result X E → Result A E → Type 0
GivesUnless none view (Ok x) read = read ≡ Ok (view x)
GivesUnless none view (Err e) read = (e ≡ none → ⊥) → read ≡ Err e

-- what was read, without the place behind it
abbrev pub value_of : {E A : Type 0} → Result (A × ℕ) E → Result A E
value_of (Ok x) = Ok x.0
value_of (Err e) = Err e

abbrev pub fault_at : Why → Field → ℕ → LayoutFault
fault_at reason name at = record { at = at; field = name; why = reason }

-- a number from low to high, greatest byte first
abbrev pub number : Field → Width → ℕ → ℕ → Layout LayoutFault ℕ
number name = number_field (fault_at why.Short name) (fault_at why.Value name)

-- so many bytes, whatever they are
abbrev pub octets : Field → ℕ → Layout LayoutFault (List ℕ)
octets name width = bytes_field (fault_at why.Short name) (fault_at why.Value name) width (λ b. true)

-- a number of three bytes
unfoldable pub length_of_three : Field → Layout LayoutFault ℕ
length_of_three name = do
  bytes ← octets name 3
  whole (from_three bytes)

-- 32 bytes that pass a test
abbrev pub key : Field → (List ℕ → Bool) → Layout LayoutFault (List ℕ)
key name = bytes_field (fault_at why.Short name) (fault_at why.Value name) 32

abbrev pub any_key : List ℕ → Bool
any_key k = true

-- these eight bytes
abbrev pub magic : Field → List ℕ → Layout LayoutFault (List ℕ)
magic name text = bytes_field (fault_at why.Short name) (fault_at why.Value name) 8 (bytes_eq text)

-- the SHA-256 of all bytes before it
abbrev pub digest : Field → Layout LayoutFault (List ℕ)
digest name = sum_field (fault_at why.Short name) (fault_at why.Digest name) 32 sha256

-- no byte is left
abbrev pub end : Layout LayoutFault (Unit {0})
end bytes at = if nat_lt at (length bytes) then Err (fault_at why.Value fields.End at) else Ok (tt, at)
