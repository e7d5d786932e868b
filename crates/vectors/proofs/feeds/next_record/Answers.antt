use Rattle.std.proofs.Common.{◌≡◌, List, ℕ, None, Some, Option}
use Rattle.vectors.proofs.feeds.next_record.Goals as goal

-- no file is told, so none stands
pub next-requires : goal.next-requires
next-requires c = record { stands = λ going file stands. absurd (let told : ◌≡◌ {A = Option (List ℕ)} None (Some file) = stands.told in cc) }
