-- The CRLs of the generator are CRLs, and are accepted.
use Rattle.std.proofs.Common.{◌≡◌, ◌≢◌, ℕ, ◌<◌, ◌≤◌, List, [], ◌∷◌, ◌++◌, map, length, Bool, true, false, Option, Some, None, Ok, refl, ap, ◌∙◌, arith, append_assoc, length-append}
use Rattle.std.specs.Prelude.{pos, codes, flat_map, filter, nat_le}
use Rattle.std.specs.List.{range_with_len, list_any}
use Rattle.std.proofs.lemmas.Bool.{le-leb}
use Rattle.jiff_core.specs.Calendar.{days_of_years, days_of_months, day_count, days_from_civil}
use Rattle.octets_core.specs.Walk.{ends}
use Rattle.der_core.specs.Elements.{Der}
use Rattle.der_core.specs.Grammar.{IsElement, AreElements, AreEach, EachIs, one_of}
use Rattle.der_core.specs.Times.{two_digits, zulu, day_number, moment, utc_time, time_of}
use Rattle.crl_core.specs.Extensions.{Ext}
use Rattle.crl_core.specs.Form.{Entry, CrlForm}
use Rattle.crl_core.specs.Grammar.{tagged, HoldsEach, IsEntry, IsTbsCertList, IsCrl}
use Rattle.crl_core.specs.Findings.{has, is_certificate_issuer, is_unknown_in_entry}
use Rattle.crl_core.specs.Outcome.{kept_serials, outcome_of, outcome_if, outcome}
use Rattle.crl_core.proofs.CrlLaws.{crl-gives}
use Rattle.sample_core.specs.Sample.{serial_of, sequence, sequence_of_some, date, algorithm, revoked_entry, revoked_entries, crl_body, crl_with, is_listed_by}
use Rattle.sample_core.specs.Accepted.{crl_fields}
use Rattle.sample_core.proofs.Texts.{serial-length}
use Rattle.sample_core.proofs.Jobs.{revoked-bound, contents-bound, body-bound}
use Rattle.sample_core.proofs.Spelled.{sequence-spelled, short-element, element-and, element-alone}

-- ---- parts

abbrev date_said : Der
date_said = tagged 0x17 (codes "231114221320Z")

abbrev algorithm_said : Der
algorithm_said = tagged 0x30 (0x06 ∷ 0x08 ∷ 0x2a ∷ 0x86 ∷ 0x48 ∷ 0xce ∷ 0x3d ∷ 0x04 ∷ 0x03 ∷ 0x02 ∷ [])

date-spelled : IsElement date_said date
date-spelled = short-element 0x17 0x0d (codes "231114221320Z") (λ e. omega (arith, e)) refl (omega arith)

algorithm-spelled : IsElement algorithm_said algorithm
algorithm-spelled = short-element 0x30 0x0a algorithm_said.contents (λ e. omega (arith, e)) refl (omega arith)

version-spelled : IsElement (tagged 0x02 (0x01 ∷ [])) (0x02 ∷ 0x01 ∷ 0x01 ∷ [])
version-spelled = short-element 0x02 1 (0x01 ∷ []) (λ e. omega (arith, e)) refl (omega arith)

name-spelled : IsElement (tagged 0x30 []) (0x30 ∷ 0x00 ∷ [])
name-spelled = short-element 0x30 0 [] (λ e. omega (arith, e)) refl (omega arith)

signature-spelled : IsElement (tagged 0x03 (0x00 ∷ [])) (0x03 ∷ 0x01 ∷ 0x00 ∷ [])
signature-spelled = short-element 0x03 1 (0x00 ∷ []) (λ e. omega (arith, e)) refl (omega arith)

date-is : time_of date_said ≡ Some (pos 1700000000)
unfolding time_of utc_time moment two_digits zulu day_number ends days_from_civil day_count days_of_years days_of_months
date-is = refl

-- ---- entries

abbrev entry_said : ℕ → ℕ → Entry
entry_said number i = record { serial = serial_of number i; extensions = [] }

abbrev entry_der : ℕ → ℕ → Der
entry_der number i = tagged 0x30 ((0x02 ∷ 0x10 ∷ []) ++ serial_of number i ++ date)

entry-spelled : (number i : ℕ) → IsElement (entry_der number i) (revoked_entry number i)
entry-spelled number i =
    short-element 0x30 0x21 (entry_der number i).contents (λ e. omega (arith, e))
    (omega (arith, serial-length number i, length-append ((0x02 ∷ 0x10 ∷ []) ++ serial_of number i) date)) (omega arith)

some-serial : (number i : ℕ) → serial_of number i ≢ []
some-serial number i none = omega (arith, serial-length number i, ap length none)

entry-is : (number i : ℕ) → IsEntry (entry_said number i) (entry_der number i)
entry-is number i = record {
  tag = refl;
  some = some-serial number i;
  date = date_said;
  is_date = refl;
  list = None;
  is_list = refl;
  elements =
      element-and (tagged 0x02 (serial_of number i)) (date_said ∷ []) ((0x02 ∷ 0x10 ∷ []) ++ serial_of number i) date _
      (short-element 0x02 0x10 (serial_of number i) (λ e. omega (arith, e)) (serial-length number i) (omega arith))
      refl
      (element-alone date_said date date-spelled);
}

entries-spelled : (number : ℕ) (numbers : List ℕ) → AreElements (map (entry_der number) numbers) (flat_map (revoked_entry number) numbers)
entries-spelled number [] = refl
entries-spelled number (i ∷ numbers) =
    element-and (entry_der number i) (map (entry_der number) numbers) (revoked_entry number i) (flat_map (revoked_entry number) numbers) _
    (entry-spelled number i) refl (entries-spelled number numbers)

entries-are : (number : ℕ) (numbers : List ℕ) → EachIs IsEntry (map (entry_said number) numbers) (map (entry_der number) numbers)
entries-are number [] = tt
entries-are number (i ∷ numbers) = (entry-is number i, entries-are number numbers)

entries-each : (number : ℕ) (numbers : List ℕ) → AreEach IsEntry (map (entry_said number) numbers) (flat_map (revoked_entry number) numbers)
entries-each number numbers = record { each = map (entry_der number) numbers; elements = entries-spelled number numbers; are = entries-are number numbers }

-- ---- the whole

abbrev form_of : ℕ → List ℕ → CrlForm
form_of number numbers = record { this_update = pos 1700000000; next_update = None; entries = map (entry_said number) numbers; extensions = [] }

abbrev revoked_der : List ℕ → Option Der
revoked_der [] = None
revoked_der (b ∷ bytes) = Some (tagged 0x30 (b ∷ bytes))

abbrev body_contents : List ℕ → List ℕ
body_contents entries = (0x02 ∷ 0x01 ∷ 0x01 ∷ []) ++ algorithm ++ (0x30 ∷ 0x00 ∷ []) ++ date ++ sequence_of_some entries

-- the list of entries stands where there are entries
revoked-holds : (number : ℕ) (numbers : List ℕ) → HoldsEach IsEntry (map (entry_said number) numbers) (revoked_der (flat_map (revoked_entry number) numbers))
revoked-holds number [] = refl
revoked-holds number (i ∷ numbers) = (refl, entries-each number (i ∷ numbers))

revoked-spelled : (entries : List ℕ) → length entries < 4294967296 → AreElements (one_of (revoked_der entries) ++ []) (sequence_of_some entries)
revoked-spelled [] fits = refl
revoked-spelled (b ∷ entries) fits = element-alone (tagged 0x30 (b ∷ entries)) (sequence (b ∷ entries)) (sequence-spelled (b ∷ entries) fits)

-- what stands before the list of entries
body-spelled : (es : List Der) (rest : List ℕ) → AreElements es rest
    → AreElements (tagged 0x02 (0x01 ∷ []) ∷ (algorithm_said ∷ (tagged 0x30 [] ∷ (date_said ∷ es)))) ((0x02 ∷ 0x01 ∷ 0x01 ∷ []) ++ algorithm ++ (0x30 ∷ 0x00 ∷ []) ++ date ++ rest)
body-spelled es rest more =
    let names : List Der = tagged 0x30 [] ∷ (date_said ∷ es) in
    element-and (tagged 0x02 (0x01 ∷ [])) (algorithm_said ∷ names) (0x02 ∷ 0x01 ∷ 0x01 ∷ []) (algorithm ++ (0x30 ∷ 0x00 ∷ []) ++ date ++ rest) _ version-spelled refl
    (element-and algorithm_said names algorithm ((0x30 ∷ 0x00 ∷ []) ++ date ++ rest) _ algorithm-spelled refl
    (element-and (tagged 0x30 []) (date_said ∷ es) (0x30 ∷ 0x00 ∷ []) (date ++ rest) _ name-spelled refl
    (element-and date_said es date rest _ date-spelled refl more)))

body-is : (number : ℕ) (numbers : List ℕ) → length (flat_map (revoked_entry number) numbers) < 4294967296
    → IsTbsCertList (form_of number numbers) (body_contents (flat_map (revoked_entry number) numbers))
body-is number numbers fits = record {
  version = Some (tagged 0x02 (0x01 ∷ []));
  signature = algorithm_said;
  issuer = tagged 0x30 [];
  this = date_said;
  next = None;
  revoked = revoked_der (flat_map (revoked_entry number) numbers);
  last = None;
  is_version = (refl, refl);
  is_signature = refl;
  is_issuer = refl;
  is_this = date-is;
  is_next = refl;
  is_revoked = revoked-holds number numbers;
  is_last = refl;
  elements = body-spelled (one_of (revoked_der (flat_map (revoked_entry number) numbers)) ++ []) (sequence_of_some (flat_map (revoked_entry number) numbers))
      (revoked-spelled (flat_map (revoked_entry number) numbers) fits);
}

crl-is : (number : ℕ) (numbers : List ℕ) → length (flat_map (revoked_entry number) numbers) ≤ 35000000 → IsCrl (form_of number numbers) (crl_with (flat_map (revoked_entry number) numbers))
crl-is number numbers few =
    let entries : List ℕ = flat_map (revoked_entry number) numbers in
    let end : List ℕ = 0x03 ∷ 0x01 ∷ 0x00 ∷ [] in
    record {
      list = crl_body entries ++ algorithm ++ end;
      is_list = sequence-spelled (crl_body entries ++ algorithm ++ end)
          (omega (arith, body-bound entries, length-append (crl_body entries ++ algorithm) end, length-append (crl_body entries) algorithm));
      contents = body_contents entries;
      algorithm = algorithm_said;
      signature = tagged 0x03 (0x00 ∷ []);
      is_algorithm = refl;
      is_signature = refl;
      is_contents = body-is number numbers (omega arith);
      elements =
          element-and (tagged 0x30 (body_contents entries)) (algorithm_said ∷ (tagged 0x03 (0x00 ∷ []) ∷ [])) (crl_body entries) (algorithm ++ end) _
          (sequence-spelled (body_contents entries) (omega (arith, contents-bound entries))) (append_assoc (crl_body entries) algorithm end)
          (element-and algorithm_said (tagged 0x03 (0x00 ∷ []) ∷ []) algorithm end _ algorithm-spelled refl (element-alone (tagged 0x03 (0x00 ∷ [])) end signature-spelled));
    }

-- ---- what it comes to

none-has : (test : Ext → Bool) (number : ℕ) (numbers : List ℕ) → list_any (has test) (map (entry_said number) numbers) ≡ false
none-has test number [] = refl
none-has test number (i ∷ numbers) = none-has test number numbers

all-kept : (number : ℕ) (numbers : List ℕ) → kept_serials (map (entry_said number) numbers) ≡ map (serial_of number) numbers
all-kept number [] = refl
all-kept number (i ∷ numbers) =
    let short : nat_le (length (serial_of number i)) 32 ≡ true = le-leb _ 32 (omega (arith, serial-length number i)) in
    rw short (ap (λ (l : List (List ℕ)). serial_of number i ∷ l) (all-kept number numbers))

form-accepted : (number : ℕ) (numbers : List ℕ) → outcome_of (form_of number numbers) ≡ Ok (record { this_update = pos 1700000000; next_update = None; serials = map (serial_of number) numbers })
form-accepted number numbers =
    rw (none-has is_certificate_issuer number numbers, none-has is_unknown_in_entry number numbers, all-kept number numbers) refl

pub crl-accepted : (number count j : ℕ) → count ≤ 1000000 → outcome (crl_with (revoked_entries number count j)) ≡ Ok (crl_fields number count j)
crl-accepted number count j few =
    let numbers : List ℕ = filter (is_listed_by j) (range_with_len 0 count) in
    ap outcome_if (crl-gives (form_of number numbers) (crl_with (revoked_entries number count j)) (crl-is number numbers (omega (arith, revoked-bound number count j))))
    ∙ form-accepted number numbers
