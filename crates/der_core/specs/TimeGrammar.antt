-- What a time of DER is, apart from how it is read: its digits, and the moment that they name in the calendar
-- (RFC 5280, 4.1.2.5.1 and 4.1.2.5.2; X.690, 11.7 and 11.8, and this project's profile).
use Rattle.std.specs.Prelude.{◌≡◌, ℕ, ℤ, pos, ◌-ℤ◌, ◌+◌, ◌*◌, ◌/◌, ◌%◌, ◌<◌, ◌≤◌, ◌⊎◌, List, [], ◌∷◌, ◌++◌}
use Rattle.der_core.specs.Calendar.{month_days, days_before}
use Rattle.der_core.specs.Elements.{Der}

-- a date and a time of day
pub record CivilTime : Type 0 where
  pub year : ℕ
  pub month : ℕ
  pub day : ℕ
  pub hour : ℕ
  pub minute : ℕ
  pub second : ℕ

-- the calendar has the day, and the day has the second
pub record IsCivilTime (x : CivilTime) : Type 0 where
  pub some_month : 1 ≤ x.month
  pub month : x.month ≤ 12
  pub some_day : 1 ≤ x.day
  pub day : x.day ≤ month_days x.year x.month
  pub hour : x.hour < 24
  pub minute : x.minute < 60
  pub second : x.second < 60

-- the seconds from 0000-01-01 00:00:00 on, by days of 86400 seconds
abbrev pub seconds_before : CivilTime → ℕ
seconds_before x = 86400 * days_before x.year x.month x.day + 3600 * x.hour + 60 * x.minute + x.second

-- 1970-01-01 00:00:00
abbrev pub epoch : CivilTime
epoch = record { year = 1970; month = 1; day = 1; hour = 0; minute = 0; second = 0 }

-- the seconds since then; negative before
abbrev pub seconds_since_epoch : CivilTime → ℤ
seconds_since_epoch x = pos (seconds_before x) -ℤ pos (seconds_before epoch)

-- a number below 100 in two decimal digits, of which 0 is the byte 0x30
abbrev pub digits : ℕ → List ℕ
digits n = (0x30 + n / 10) ∷ (0x30 + n % 10) ∷ []

-- MMDDHHMMSSZ
abbrev pub text_from_month : CivilTime → List ℕ
text_from_month x = digits x.month ++ digits x.day ++ digits x.hour ++ digits x.minute ++ digits x.second ++ 0x5a ∷ []

-- YYMMDDHHMMSSZ, in the years 1950 to 2049
pub record IsUtcTime (x : CivilTime) (text : List ℕ) : Type 0 where
  pub first : 1950 ≤ x.year
  pub last : x.year ≤ 2049
  pub same : text ≡ digits (x.year % 100) ++ text_from_month x

-- YYYYMMDDHHMMSSZ
pub record IsGeneralizedTime (x : CivilTime) (text : List ℕ) : Type 0 where
  pub last : x.year ≤ 9999
  pub same : text ≡ digits (x.year / 100) ++ digits (x.year % 100) ++ text_from_month x

-- The element is the time t, in seconds since 1970-01-01 00:00:00 UTC: a UTCTime or a GeneralizedTime.
pub record IsTime (t : ℤ) (e : Der) : Type 0 where
  pub civil : CivilTime
  pub exists : IsCivilTime civil
  pub text : ((e.tag ≡ 0x17) × IsUtcTime civil e.contents) ⊎ ((e.tag ≡ 0x18) × IsGeneralizedTime civil e.contents)
  pub moment : t ≡ seconds_since_epoch civil
