-- How a time of DER is read, in seconds since 1970-01-01 00:00:00 UTC: UTCTime is YYMMDDHHMMSSZ and GeneralizedTime is
-- YYYYMMDDHHMMSSZ, with no fraction and no offset. TimeGrammar says what a time is.
use Rattle.std.specs.Prelude.{ℕ, ℤ, pos, ◌+ℤ◌, ◌*ℤ◌, ◌+◌, ◌-◌, ◌*◌, [], ◌∷◌, Bool, ◌&&◌, nat_lt, nat_le, nat_eq}
use Rattle.std.specs.Prelude.{if◌then◌else◌, Option, Some, None}
use Rattle.jiff_core.specs.Calendar.{days_from_civil, days_in_month}
use Rattle.octets_core.specs.Walk.{Walk, ◌>>=◌, whole, given, ends, value_of}
use Rattle.der_core.specs.Elements.{Der}

abbrev pub is_digit : ℕ → Bool
is_digit b = nat_le 48 b && nat_le b 57

-- a number of two decimal digits
unfoldable pub two_digits : Walk ℕ
two_digits (a ∷ b ∷ text) = if is_digit a && is_digit b then Some (10 * (a - 48) + (b - 48), text) else None
two_digits (a ∷ []) = None
two_digits [] = None

-- the byte Z
unfoldable pub zulu : Walk (Unit {0})
zulu [] = None
zulu (b ∷ text) = if nat_eq b 90 then Some (tt, text) else None

-- the calendar has this day
abbrev pub is_day : ℕ → ℕ → ℕ → Bool
is_day year month day = nat_le 1 month && nat_le month 12 && nat_le 1 day && nat_le day (days_in_month (pos year) month)

-- the days from 1970-01-01 to this day of the Gregorian calendar, which runs back to the year 0000
unfoldable pub day_number : ℕ → ℕ → ℕ → Option ℤ
day_number year month day = if is_day year month day then Some (days_from_civil (pos year) month day) else None

abbrev pub is_clock : ℕ → ℕ → ℕ → Bool
is_clock hour minute second = nat_lt hour 24 && nat_lt minute 60 && nat_lt second 60

-- the second of a day of 86400 seconds
abbrev pub clock_seconds : ℕ → ℕ → ℕ → Option ℕ
clock_seconds hour minute second = if is_clock hour minute second then Some (3600 * hour + 60 * minute + second) else None

abbrev pub moment_of : ℤ → ℕ → ℤ
moment_of day clock = (day *ℤ pos 86400) +ℤ pos clock

-- the rest of a time, from its month on
unfoldable pub moment : ℕ → Walk ℤ
moment year = do
  month ← two_digits
  day ← two_digits
  hour ← two_digits
  minute ← two_digits
  second ← two_digits
  z ← zulu
  end ← ends
  number ← given (day_number year month day)
  clock ← given (clock_seconds hour minute second)
  whole (moment_of number clock)

-- a year of two digits is one from 1950 to 2049
unfoldable pub utc_time : Walk ℤ
utc_time = do
  year ← two_digits
  moment (if nat_lt year 50 then 2000 + year else 1900 + year)

unfoldable pub generalized_time : Walk ℤ
generalized_time = do
  century ← two_digits
  year ← two_digits
  moment (100 * century + year)

-- the moment that an element names, if it is a time
unfoldable pub time_of : Der → Option ℤ
time_of e =
    if nat_eq e.tag 0x17 then value_of (utc_time e.contents)
    else if nat_eq e.tag 0x18 then value_of (generalized_time e.contents)
    else None
