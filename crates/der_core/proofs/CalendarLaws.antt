-- The days of the calendar are those that jiff counts.
use Rattle.std.proofs.Common.{◌≡◌, ℕ, zero, suc, ◌+◌, ◌-◌, ◌*◌, ◌≤◌, pos, ◌-ℤ◌, refl, ap, arith}
use Rattle.jiff_core.specs.Calendar.{days_of_years, days_of_months, day_count, days_from_civil}
use Rattle.jiff_core.proofs.MarchLemmas.{leap_day, leap_day-shift, days_in_year-leap_day, days_of_years-suc}
use Rattle.jiff.proofs.SpanFacts.{signed_arith}
use Rattle.der_core.specs.Calendar.{year_days, month_days, days_before_year, days_in_months, days_before}

-- jiff counts from the year -10000 on, 25 times 400 years earlier
years-are : (year : ℕ) → days_of_years (year + 10000) ≡ days_before_year year + days_of_years 10000
unfolding days_before_year
years-are zero = omega arith
years-are (suc year) =
    let next : suc year + 10000 ≡ suc (year + 10000) = omega arith in
    let days : year_days year ≡ 365 + leap_day (pos year) = days_in_year-leap_day (pos year) in
    let leap : leap_day (pos year) ≡ leap_day (pos (year + 10000)) = leap_day-shift (pos year) (year + 10000) refl in
    rw next (omega (arith, years-are year, days_of_years-suc (year + 10000)))

months-are : (year n : ℕ) → days_of_months (pos year) n ≡ days_in_months year n
unfolding days_of_months days_in_months
months-are year zero = refl
months-are year (suc n) = ap (λ (days : ℕ). days + month_days year (suc n)) (months-are year n)

count-is : (year month day : ℕ) → 1 ≤ day → day_count (pos year) month day ≡ days_before year month day + days_of_years 10000
unfolding day_count
count-is year month day some = omega (arith, years-are year, months-are year (month - 1))

-- the days from 1970-01-01 on
pub days-are : (year month day : ℕ) → 1 ≤ day → days_from_civil (pos year) month day ≡ pos (days_before year month day) -ℤ pos (days_before 1970 1 1)
unfolding days_from_civil
days-are year month day some =
    omega (arith, signed_arith, count-is year month day some, count-is 1970 1 1 (omega arith))

-- no more days than years of 366 days have
years-bound : (year : ℕ) → days_before_year year ≤ 366 * year
unfolding days_before_year
years-bound zero = omega arith
years-bound (suc year) =
    let days : year_days year ≤ 366 = grind arith in
    omega (arith, years-bound year)

months-bound : (year n : ℕ) → days_in_months year n ≤ 31 * n
unfolding days_in_months
months-bound year zero = omega arith
months-bound year (suc n) =
    let days : month_days year (suc n) ≤ 31 = grind arith in
    omega (arith, months-bound year n)

pub days-bound : (year month day : ℕ) → days_before year month day ≤ 366 * year + 31 * month + day
days-bound year month day = omega (arith, years-bound year, months-bound year (month - 1))
