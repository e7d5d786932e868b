-- What contracts see of a depot or a sink in memory beside its bytes: the calls of each kind.
use Rattle.std.specs.Prelude.{ℕ, ◌+◌, ◌-◌, ◌^◌, min, List, [], Bool, nat_eq, refl, cond}
use Rattle.std.specs.List.{list_any}
use Rattle.std.specs.Coded.{Coded, code_by, coded×, coded_ℕ, coded_list}

-- the calls of one kind: how many were made, the numbers of those that fail, and how many failed
pub record CallsView : Type 0 where
  pub made : ℕ
  pub failing : List ℕ
  pub faults : ℕ

abbrev pub calls_code : Coded CallsView
calls_code =
    code_by (ℕ × (List ℕ × ℕ)) (coded× coded_ℕ (coded× (coded_list coded_ℕ) coded_ℕ))
    (λ c. (c.made, (c.failing, c.faults))) (λ p. record { made = p.0; failing = p.1.0; faults = p.1.1 }) (λ _. refl)

-- none was made, and none is to fail
abbrev pub no_calls : CallsView
no_calls = record { made = 0; failing = []; faults = 0 }

-- a count of 64 bits after one more; it stands still at its end
abbrev pub one_more : ℕ → ℕ
one_more n = min (n + 1) (2 ^ 64 - 1)

-- whether the next call is one of those that fail; the first has the number 0
abbrev pub is_failing : CallsView → Bool
is_failing calls = list_any (λ n. nat_eq n calls.made) calls.failing

-- with this list in place of the earlier one
abbrev pub with_failing : CallsView → List ℕ → CallsView
with_failing calls numbers = record calls { failing = numbers }

-- after one more call
abbrev pub one_made : CallsView → CallsView
one_made calls = record calls { made = one_more calls.made }

-- after one more fault
abbrev pub one_failed : CallsView → CallsView
one_failed calls = record calls { faults = one_more calls.faults }

-- after one more call, which failed or didn't
abbrev pub after_call : Bool → CallsView → CallsView
after_call failed calls = cond failed (one_failed (one_made calls)) (one_made calls)
