-- How a serial's octets lie in its fields.
use Rattle.std.specs.Prelude.{◌≡◌, ℕ, ◌-◌, ◌≤◌, List, ◌++◌, length, take, drop, replicate, refl}
use Rattle.std.proofs.Common.{arith}
use Rattle.std.proofs.lemmas.List.{take-append-drop, length-take}
use Rattle.ident_core.specs.declared.bounds.TheConstants.{MAX_SERIAL}
use Rattle.ident_core.specs.declared.identity.Serial.TheInside.{Inside}

-- one octet or more, and zeros behind them
pub record IsSerial (len : ℕ) (octets : List ℕ) : Type 0 where
  pub some : 1 ≤ len
  pub few : len ≤ MAX_SERIAL
  pub whole : length octets ≡ MAX_SERIAL
  pub padding : drop len octets ≡ replicate (MAX_SERIAL - len) 0

-- the length, and the octets with zeros behind them
abbrev pub fields_of : List ℕ → Inside
fields_of octets = record { len = length octets; octets = octets ++ replicate (MAX_SERIAL - length octets) 0 }

pub fields_of-take : (s : Inside) → IsSerial s.len s.octets → fields_of (take s.len s.octets) ≡ s
fields_of-take s h =
    let len : length (take s.len s.octets) ≡ s.len = omega (arith, length-take s.len s.octets, h.whole, h.few) in
    let octets : take s.len s.octets ++ replicate (MAX_SERIAL - s.len) 0 ≡ s.octets = rw (← h.padding) (take-append-drop s.len s.octets) in
    rw (len, octets) refl
