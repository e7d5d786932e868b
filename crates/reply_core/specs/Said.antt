-- What is said: how the program ends, and the line.
use Rattle.std.specs.Prelude.{ℕ, List, [], ◌∷◌, Bool, nat_eq}
use Rattle.std.specs.List.{list_any}
use Rattle.line_core.specs.Statuses as status

pub record Said : Type 0 where
  pub status : ℕ
  pub text : List ℕ

abbrev pub is_one_of : List ℕ → ℕ → Bool
is_one_of statuses n = list_any (λ m. nat_eq m n) statuses

-- the statuses that no reply has: behind them less than its line was printed
abbrev pub unsaid : List ℕ
unsaid = status.write_fault ∷ status.no_memory ∷ []
