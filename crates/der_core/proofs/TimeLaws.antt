-- The number of a day that a date has.
use Rattle.std.proofs.Common.{◌≡◌, ℕ, pos, Some, arith}
use Rattle.std.proofs.lemmas.Bool.Decides.{nat_tests}
use Rattle.jiff_core.specs.Calendar.{days_from_civil, IsDate}
use Rattle.jiff_core.specs.Date.{IsYmd, epoch_day}
use Rattle.jiff_core.specs.declared.civil.date.Date.{Date}
use Rattle.jiff.proofs.SpanFacts.{signed_arith}
use Rattle.der_core.specs.Times.{day_number}

pub day_number-is : (y m d : ℕ) → IsDate (pos y) (pos m) (pos d) → day_number y m d ≡ Some (days_from_civil (pos y) m d)
unfolding day_number
day_number-is y m d h = grind (arith, nat_tests, signed_arith)

pub epoch_day-is : (y m d : ℕ) (date : Date) → IsYmd (pos y) (pos m) (pos d) date → epoch_day date ≡ days_from_civil (pos y) m d
epoch_day-is y m d date h = cc
