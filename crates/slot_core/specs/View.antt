-- What contracts see of attached slots.
use Rattle.std.specs.Prelude.{ℕ, Bool, refl}
use Rattle.std.specs.Coded.{Coded, code_by, coded×, coded_ℕ, coded_bool}

-- its capacity, whether the gate picks the second slot, and how many bytes the picked slot holds
pub record SlotsView : Type 0 where
  pub capacity : ℕ
  pub second : Bool
  pub length : ℕ

abbrev pub slots_code : Coded SlotsView
slots_code =
    code_by (ℕ × (Bool × ℕ)) (coded× coded_ℕ (coded× coded_bool coded_ℕ)) (λ p. (p.capacity, (p.second, p.length)))
    (λ p. record { capacity = p.0; second = p.1.0; length = p.1.1 }) (λ _. refl)
