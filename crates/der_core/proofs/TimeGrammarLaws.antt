-- What is read as a time is one, and what is one is read.
use Rattle.std.proofs.Common.{◌≡◌, ℕ, ◌+◌, ◌*◌, ◌/◌, ◌%◌, ◌<◌, ◌≤◌, ◌⊎◌, inl, inr, List, [], ◌∷◌, ◌++◌, Bool, true, false, ◌&&◌, cond, nat_eq, nat_lt, nat_le}
use Rattle.std.proofs.Common.{FitsSigned, w64, Option, Some, None, Ok, IfOk, ℤ, pos, refl, sym, ap, ◌∙◌, arith}
use Rattle.std.proofs.lemmas.Bool.Decides.{nat_tests}
use Rattle.std.specs.Option.{ok_or}
use Rattle.jiff_core.specs.Calendar.{days_from_civil}
use Rattle.jiff_core.proofs.SignedLemmas.{signed_arith, fits_between}
use Rattle.octets_core.specs.Walk.{ends, value_of}
use Rattle.der_core.specs.Elements.{Der}
use Rattle.der_core.specs.Calendar.{month_days, days_before}
use Rattle.der_core.specs.Times.{is_day, is_clock, two_digits, zulu, day_number, clock_seconds, moment_of, moment, utc_time, generalized_time, time_of}
use Rattle.der_core.specs.TimeGrammar.{CivilTime, IsCivilTime, epoch, seconds_before, seconds_since_epoch, digits, text_from_month, IsUtcTime, IsGeneralizedTime, IsTime}
use Rattle.der_core.proofs.CalendarLaws.{days-are, days-bound}
use Rattle.der_core.proofs.ItemLaws.{same_number}
use Rattle.der_core.proofs.Steps.{then, given-then, value-then, whole-is}
use Rattle.der_core.proofs.TimeDigits.{both_true, test-le, le-test, two_digits-read, two_digits-taken, zulu-read, zulu-taken}
use Rattle.der_core.proofs.WalkLaws.{chosen_some, ends-step, ends-read}

lt-test : (a b : ℕ) → a < b → nat_lt a b ≡ true
lt-test a b h = grind (arith, nat_tests)

test-lt : (a b : ℕ) → nat_lt a b ≡ true → a < b
test-lt a b h = grind (arith, nat_tests)

-- the moment of a day and a second of it
moment-is : (x : CivilTime) → IsCivilTime x → moment_of (days_from_civil (pos x.year) x.month x.day) (3600 * x.hour + 60 * x.minute + x.second) ≡ seconds_since_epoch x
moment-is x h = omega (arith, signed_arith, days-are x.year x.month x.day h.some_day)

day-read : (x : CivilTime) → IsCivilTime x → day_number x.year x.month x.day ≡ Some (days_from_civil (pos x.year) x.month x.day)
unfolding day_number
day-read x h =
    rw (le-test 1 x.month h.some_month, le-test x.month 12 h.month, le-test 1 x.day h.some_day, le-test x.day (month_days x.year x.month) h.day) refl

clock-read : (x : CivilTime) → IsCivilTime x → clock_seconds x.hour x.minute x.second ≡ Some (3600 * x.hour + 60 * x.minute + x.second)
clock-read x h = rw (lt-test x.hour 24 h.hour, lt-test x.minute 60 h.minute, lt-test x.second 60 h.second) refl

moment-read : (x : CivilTime) → IsCivilTime x → moment x.year (text_from_month x) ≡ Some (seconds_since_epoch x, [])
unfolding moment
moment-read x h =
    let day : x.day < 100 = let most : month_days x.year x.month ≤ 31 = grind arith in omega (arith, h.day) in
    rw (
      two_digits-read x.month (digits x.day ++ digits x.hour ++ digits x.minute ++ digits x.second ++ 0x5a ∷ []) (omega (arith, h.month)),
      two_digits-read x.day (digits x.hour ++ digits x.minute ++ digits x.second ++ 0x5a ∷ []) day,
      two_digits-read x.hour (digits x.minute ++ digits x.second ++ 0x5a ∷ []) (omega (arith, h.hour)),
      two_digits-read x.minute (digits x.second ++ 0x5a ∷ []) (omega (arith, h.minute)),
      two_digits-read x.second (0x5a ∷ []) (omega (arith, h.second)),
      zulu-read [],
      ends-read,
      day-read x h,
      clock-read x h,
    )
    (ap (λ (t : ℤ). Some (t, [])) (moment-is x h))

-- what is a time is read
year-of_two : (year : ℕ) (b : Bool) → nat_lt (year % 100) 50 ≡ b → 1950 ≤ year → year ≤ 2049 → cond b (2000 + year % 100) (1900 + year % 100) ≡ year
year-of_two year true t first last = let low : year % 100 < 50 = test-lt _ 50 t in omega arith
year-of_two year false t first last = let high : 50 ≤ year % 100 = grind (arith, nat_tests) in omega arith

utc-read : (x : CivilTime) (text : List ℕ) → IsCivilTime x → IsUtcTime x text → utc_time text ≡ Some (seconds_since_epoch x, [])
unfolding utc_time
utc-read x text h is =
    rw (is.same, two_digits-read (x.year % 100) (text_from_month x) (omega arith), year-of_two x.year (nat_lt (x.year % 100) 50) refl is.first is.last) (moment-read x h)

generalized-read : (x : CivilTime) (text : List ℕ) → IsCivilTime x → IsGeneralizedTime x text → generalized_time text ≡ Some (seconds_since_epoch x, [])
unfolding generalized_time
generalized-read x text h is =
    let year : 100 * (x.year / 100) + x.year % 100 ≡ x.year = omega arith in
    let last : x.year ≤ 9999 = is.last in
    rw (
      is.same,
      two_digits-read (x.year / 100) (digits (x.year % 100) ++ text_from_month x) (omega arith),
      two_digits-read (x.year % 100) (text_from_month x) (omega arith),
      year,
    )
    (moment-read x h)

pub time-read : (t : ℤ) (e : Der) → IsTime t e → time_of e ≡ Some t
unfolding time_of
time-read t e h =
    elim h.text [
      | inl is ↦ rw (is.0, utc-read h.civil e.contents h.exists is.1) (ap (λ (t : ℤ). Some t) (sym h.moment))
      | inr is ↦ rw (is.0, generalized-read h.civil e.contents h.exists is.1) (ap (λ (t : ℤ). Some t) (sym h.moment))
    ]

-- and what is read is a time
record IsDay (y m d : ℕ) (n : ℤ) : Type 0 where
  pub some_month : 1 ≤ m
  pub month : m ≤ 12
  pub some_day : 1 ≤ d
  pub day : d ≤ month_days y m
  pub same : days_from_civil (pos y) m d ≡ n

day-taken : (year month day : ℕ) (n : ℤ) → day_number year month day ≡ Some n → IsDay year month day n
unfolding day_number
day-taken year month day n h =
    let c = chosen_some (is_day year month day) (days_from_civil (pos year) month day) n h in
    let t = both_true (nat_le 1 month && nat_le month 12 && nat_le 1 day) (nat_le day (month_days year month)) c.0 in
    let u = both_true (nat_le 1 month && nat_le month 12) (nat_le 1 day) t.0 in
    let v = both_true (nat_le 1 month) (nat_le month 12) u.0 in
    record { some_month = test-le 1 month v.0; month = test-le month 12 v.1; some_day = test-le 1 day u.1; day = test-le day (month_days year month) t.1; same = c.1 }

record IsClock (h m s n : ℕ) : Type 0 where
  pub hour : h < 24
  pub minute : m < 60
  pub second : s < 60
  pub same : 3600 * h + 60 * m + s ≡ n

clock-taken : (hour minute second n : ℕ) → clock_seconds hour minute second ≡ Some n → IsClock hour minute second n
clock-taken hour minute second n h =
    let c = chosen_some (is_clock hour minute second) (3600 * hour + 60 * minute + second) n h in
    let t = both_true (nat_lt hour 24 && nat_lt minute 60) (nat_lt second 60) c.0 in
    let u = both_true (nat_lt hour 24) (nat_lt minute 60) t.0 in
    record { hour = test-lt hour 24 u.0; minute = test-lt minute 60 u.1; second = test-lt second 60 t.1; same = c.1 }

-- What the rest of a time says, in this year.
record SaysMoment (y : ℕ) (text : List ℕ) (t : ℤ) : Type 0 where
  pub civil : CivilTime
  pub year : civil.year ≡ y
  pub exists : IsCivilTime civil
  pub same : text ≡ text_from_month civil
  pub moment : t ≡ seconds_since_epoch civil

moment-taken : (year : ℕ) (text : List ℕ) (t : ℤ) (rest : List ℕ) → moment year text ≡ Some (t, rest) → SaysMoment year text t
unfolding moment
moment-taken year text t rest h =
    then (SaysMoment year text t) (two_digits text) _ (t, rest) h (λ month at_month h1.
    then (SaysMoment year text t) (two_digits month.1) _ (t, rest) h1 (λ day at_day h2.
    then (SaysMoment year text t) (two_digits day.1) _ (t, rest) h2 (λ hour at_hour h3.
    then (SaysMoment year text t) (two_digits hour.1) _ (t, rest) h3 (λ minute at_minute h4.
    then (SaysMoment year text t) (two_digits minute.1) _ (t, rest) h4 (λ second at_second h5.
    then (SaysMoment year text t) (zulu second.1) _ (t, rest) h5 (λ z at_z h6.
    then (SaysMoment year text t) (ends z.1) _ (t, rest) h6 (λ end at_end h7.
    given-then (SaysMoment year text t) (day_number year month.0 day.0) end.1 _ (t, rest) h7 (λ number at_number h8.
    given-then (SaysMoment year text t) (clock_seconds hour.0 minute.0 second.0) end.1 _ (t, rest) h8 (λ clock at_clock h9.
    let x : CivilTime = record { year = year; month = month.0; day = day.0; hour = hour.0; minute = minute.0; second = second.0 } in
    let d = day-taken year month.0 day.0 number at_number in
    let c = clock-taken hour.0 minute.0 second.0 clock at_clock in
    let is : IsCivilTime x = record { some_month = d.some_month; month = d.month; some_day = d.some_day; day = d.day; hour = c.hour; minute = c.minute; second = c.second } in
    let e1 : text ≡ digits month.0 ++ month.1 = (two_digits-taken text month at_month).1 in
    let e2 : month.1 ≡ digits day.0 ++ day.1 = (two_digits-taken month.1 day at_day).1 in
    let e3 : day.1 ≡ digits hour.0 ++ hour.1 = (two_digits-taken day.1 hour at_hour).1 in
    let e4 : hour.1 ≡ digits minute.0 ++ minute.1 = (two_digits-taken hour.1 minute at_minute).1 in
    let e5 : minute.1 ≡ digits second.0 ++ second.1 = (two_digits-taken minute.1 second at_second).1 in
    let e6 : second.1 ≡ 0x5a ∷ z.1 = zulu-taken second.1 z at_z in
    let e7 : z.1 ≡ [] = (ends-step z.1 end at_end).0 in
    let made : moment_of number clock ≡ t = whole-is (moment_of number clock) end.1 (t, rest) h9 in
    let same : moment_of (days_from_civil (pos year) month.0 day.0) (3600 * hour.0 + 60 * minute.0 + second.0) ≡ moment_of number clock = rw (d.same, c.same) refl in
    record {
      civil = x;
      year = refl;
      exists = is;
      same = rw (e1, e2, e3, e4, e5, e6, e7) refl;
      moment = sym made ∙ sym same ∙ moment-is x is;
    })))))))))

-- a year of two digits, by its first
year-by : (b : Bool) (n : ℕ) → nat_lt n 50 ≡ b → n < 100 → (1950 ≤ cond b (2000 + n) (1900 + n)) × (cond b (2000 + n) (1900 + n) ≤ 2049) × (cond b (2000 + n) (1900 + n) % 100 ≡ n)
year-by true n t h = let low : n < 50 = test-lt n 50 t in (omega arith, omega arith, omega arith)
year-by false n t h = let high : 50 ≤ n = grind (arith, nat_tests) in (omega arith, omega arith, omega arith)

utc-taken : (e : Der) (t : ℤ) → e.tag ≡ 0x17 → value_of (utc_time e.contents) ≡ Some t → IsTime t e
unfolding utc_time
utc-taken e t tag h =
    value-then (IsTime t e) (utc_time e.contents) t h (λ rest all.
    then (IsTime t e) (two_digits e.contents) _ (t, rest) all (λ year at_year h1.
    let digits_are = two_digits-taken e.contents year at_year in
    let full = year-by (nat_lt year.0 50) year.0 refl digits_are.0 in
    let said = moment-taken (cond (nat_lt year.0 50) (2000 + year.0) (1900 + year.0)) year.1 t rest h1 in
    let two : said.civil.year % 100 ≡ year.0 = ap (λ (y : ℕ). y % 100) said.year ∙ full.2 in
    let text : e.contents ≡ digits (said.civil.year % 100) ++ text_from_month said.civil =
    digits_are.1 ∙ ap (λ (more : List ℕ). digits year.0 ++ more) said.same ∙ ap (λ (n : ℕ). digits n ++ text_from_month said.civil) (sym two) in
    record {
      civil = said.civil;
      exists = said.exists;
      text = inl (tag, record { first = omega (arith, said.year, full.0); last = omega (arith, said.year, full.1); same = text });
      moment = said.moment;
    }))

generalized-taken : (e : Der) (t : ℤ) → e.tag ≡ 0x18 → value_of (generalized_time e.contents) ≡ Some t → IsTime t e
unfolding generalized_time
generalized-taken e t tag h =
    value-then (IsTime t e) (generalized_time e.contents) t h (λ rest all.
    then (IsTime t e) (two_digits e.contents) _ (t, rest) all (λ century at_century h1.
    then (IsTime t e) (two_digits century.1) _ (t, rest) h1 (λ year at_year h2.
    let first = two_digits-taken e.contents century at_century in
    let second = two_digits-taken century.1 year at_year in
    let said = moment-taken (100 * century.0 + year.0) year.1 t rest h2 in
    let hundreds : said.civil.year / 100 ≡ century.0 = omega (arith, said.year, first.0, second.0) in
    let ones : said.civil.year % 100 ≡ year.0 = omega (arith, said.year, first.0, second.0) in
    let behind : century.1 ≡ digits year.0 ++ text_from_month said.civil = second.1 ∙ ap (λ (more : List ℕ). digits year.0 ++ more) said.same in
    let text : e.contents ≡ digits (said.civil.year / 100) ++ digits (said.civil.year % 100) ++ text_from_month said.civil =
    first.1 ∙ ap (λ (more : List ℕ). digits century.0 ++ more) behind
    ∙ ap (λ (n : ℕ). digits n ++ digits year.0 ++ text_from_month said.civil) (sym hundreds)
    ∙ ap (λ (n : ℕ). digits (said.civil.year / 100) ++ digits n ++ text_from_month said.civil) (sym ones) in
    record {
      civil = said.civil;
      exists = said.exists;
      text = inr (tag, record { last = omega (arith, said.year, first.0, second.0); same = text });
      moment = said.moment;
    })))

by-tag : (e : Der) (t : ℤ) (a b : Bool) → nat_eq e.tag 0x17 ≡ a → nat_eq e.tag 0x18 ≡ b
    → cond a (value_of (utc_time e.contents)) (cond b (value_of (generalized_time e.contents)) None) ≡ Some t → IsTime t e
by-tag e t true b is_utc is_generalized h = utc-taken e t (same_number e.tag 0x17 is_utc) h
by-tag e t false true is_utc is_generalized h = generalized-taken e t (same_number e.tag 0x18 is_generalized) h
by-tag e t false false is_utc is_generalized h = cc

pub time-taken : (e : Der) (t : ℤ) → time_of e ≡ Some t → IsTime t e
unfolding time_of
time-taken e t h = by-tag e t (nat_eq e.tag 0x17) (nat_eq e.tag 0x18) refl refl h

last-year : (x : CivilTime) (e : Der) → ((e.tag ≡ 0x17) × IsUtcTime x e.contents) ⊎ ((e.tag ≡ 0x18) × IsGeneralizedTime x e.contents) → x.year ≤ 9999
last-year x e (inl h) = omega (arith, h.1.last)
last-year x e (inr h) = h.1.last

-- a time fits 64 bits
pub time-fits : (t : ℤ) (e : Der) → IsTime t e → FitsSigned w64 t
time-fits t e h =
    let x = h.civil in
    let most : month_days x.year x.month ≤ 31 = grind arith in
    let year : x.year ≤ 9999 = last-year x e h.text in
    let days : days_before x.year x.month x.day ≤ 3660037 = omega (arith, days-bound x.year x.month x.day, h.exists.month, h.exists.day) in
    let first : days_before 1970 1 1 ≤ 721052 = days-bound 1970 1 1 in
    let seconds : seconds_before x < 316227283200 = omega (arith, h.exists.hour, h.exists.minute, h.exists.second) in
    let origin : seconds_before epoch ≤ 62298892800 = omega arith in
    fits_between w64 t (omega (arith, signed_arith, h.moment))

pub time-found : {E : Type 0} (o : Option ℤ) (bad : E) (e : Der) → o ≡ time_of e → IfOk (ok_or o bad) (λ t. IsTime t e)
time-found None bad e h = tt
time-found (Some t) bad e h = time-taken e t (sym h)

pub time-only : {E : Type 0} (o : Option ℤ) (bad : E) (e : Der) → o ≡ time_of e → (t : ℤ) → IsTime t e → ok_or o bad ≡ Ok t
time-only o bad e h t is =
    let same : o ≡ Some t = h ∙ time-read t e is in
    rw same refl
