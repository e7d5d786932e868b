-- What serials are sorted by: the length, the first eight octets as a number, and the whole; and read entries, by the
-- place of the issuer among the enrolled ones before the serial.
use Rattle.std.specs.Prelude.{◌≡◌, ℕ, ◌<◌, List, length, get_or, take, cond, nat_lt}
use Rattle.std.specs.declared.cmp.Ordering.{Ordering}
use Rattle.std.specs.Ordering.{nat_cmp, ordering_then}
use Rattle.octets_core.specs.Numbers.{number}
use Rattle.ident_core.specs.Order.{serial_cmp}
use Rattle.universe_core.specs.declared.read_entry.ReadEntry.{ReadEntry}
use Rattle.universe_core.specs.declared.serial_key.SerialKey.{SerialKey}

-- the number that the first eight octets of a serial spell, and 0 for one with fewer
abbrev pub head_of : List ℕ → ℕ
head_of octets = cond (nat_lt (length octets) 8) 0 (number (take 8 octets))

-- the key is the serial's
pub record IsKeyOf (serial : List ℕ) (key : SerialKey) : Type 0 where
  pub length : key.length ≡ length serial
  pub head : key.head ≡ head_of serial
  pub octets : (i : ℕ) → get_or serial i 0 < 256

-- by keys, and where they are equal as serials are
abbrev pub keyed_cmp : List ℕ → SerialKey → List ℕ → SerialKey → Ordering
keyed_cmp a j b k = ordering_then (nat_cmp j.length k.length) (ordering_then (nat_cmp j.head k.head) (serial_cmp a b))

-- by the places of the issuers, and of one issuer's as serials are
abbrev pub placed_cmp : ReadEntry → ReadEntry → Ordering
placed_cmp d e = ordering_then (nat_cmp d.place e.place) (serial_cmp d.serial e.serial)
