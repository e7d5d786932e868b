-- The Gregorian calendar, taken back to the year 0000, and its days from 0000-01-01 on.
use Rattle.std.specs.Prelude.{ℕ, zero, suc, ◌+◌, ◌-◌, ◌%◌, Bool, not, ◌&&◌, ◌||◌, ◌==◌, if◌then◌else◌}

-- every fourth year, but of the centuries only every fourth
abbrev pub is_leap : ℕ → Bool
is_leap year = (year % 4 == 0) && (not (year % 100 == 0) || (year % 400 == 0))

abbrev pub year_days : ℕ → ℕ
year_days year = if is_leap year then 366 else 365

-- thirty days have April, June, September and November
abbrev pub month_days : ℕ → ℕ → ℕ
month_days year month =
    if month == 2 then (if is_leap year then 29 else 28)
    else (if (month == 4) || (month == 6) || (month == 9) || (month == 11) then 30 else 31)

-- the days of the years 0000 to the one before this
unfoldable pub days_before_year : ℕ → ℕ
days_before_year zero = 0
days_before_year (suc year) = days_before_year year + year_days year

-- the days of so many months of the year
unfoldable pub days_in_months : ℕ → ℕ → ℕ
days_in_months year zero = 0
days_in_months year (suc n) = days_in_months year n + month_days year (suc n)

-- the days before this one, from 0000-01-01 on
abbrev pub days_before : ℕ → ℕ → ℕ → ℕ
days_before year month day = days_before_year year + days_in_months year (month - 1) + (day - 1)
