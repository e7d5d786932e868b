-- What is spelled as a ledger is read as it.
use Rattle.std.proofs.Common.{◌≡◌, ℕ, ◌-◌, ◌<◌, ◌≤◌, ◌^◌, true, not, List, [], ◌++◌, length, Option, Some, None, Result, Ok, inl, inr, refl, sym, ap, ◌∙◌, subst, arith}
use Rattle.std.specs.Prelude.{codes, is_none, IsNone, IfSome, flat_map}
use Rattle.std.specs.Int.{w8, w16, w32, w64, to_be_bytes, from_be_bytes}
use Rattle.std.specs.Str.{bytes_eq}
use Rattle.std.proofs.lemmas.Bool.{ne_eqb, le-leb, le-ltb}
use Rattle.std.proofs.lemmas.List.{append-nil}
use Rattle.sha2.specs.Sha256.{sha256}
use Rattle.sha2.proofs.Facts256.{length-sha256}
use Rattle.octets_core.specs.Layout.{Layout, then_read, ◌>>=◌, whole}
use Rattle.octets_core.specs.Linked.{Linked, is_after}
use Rattle.octets_core.specs.Reading.{key, any_key, end}
use Rattle.octets_core.specs.declared.field.Field.TheVariants as fields
use Rattle.octets_core.specs.declared.fault.LayoutFault.{LayoutFault}
use Rattle.octets_core.proofs.Loops.{Linked-with}
use Rattle.octets_core.proofs.Texts.{IsRead, Continues as ReadsOn, reads, done, from_front, ends-read, bytes_field-read, number_field-read, sum_field-read}
use Rattle.octets_core.proofs.Texts.{repeated-read, wide8, wide16, wide32, wide64}
use Rattle.ident_core.specs.declared.bounds.TheConstants.{MAX_SERIAL, MAX_RANGES, MAX_ISSUERS, MAX_IDENTITIES, MAX_PARTS}
use Rattle.ident_core.specs.declared.identity.Identity.{Identity}
use Rattle.ident_core.specs.Coverage.{first_outside}
use Rattle.ident_core.proofs.RangeTexts.{below_limit, ranges-read, ranges-fit}
use Rattle.ident_core.proofs.Within.{within-iff}
use Rattle.ledger_core.specs.declared.fields.LedgerItem.{LedgerItem}
use Rattle.ledger_core.specs.LedgerFields.{LedgerPartFields, LedgerFields, Continues, IsPartAfter, IsItemOf}
use Rattle.ledger_core.specs.LedgerText.{part_text, last_number, item_text, body_text, text_in, ledger_text, old_ledger_text, HasNoDates, IsText}
use Rattle.ledger_core.specs.LedgerLayout.{least_epoch, coverage_before, issuers, ledger_part, is_from, is_behind, is_last, last_of, last_place, item, body, digested, ledger}
use Rattle.ledger_core.specs.Fitting.{IsKey, PartFits, ItemFits, Fits}
use Rattle.ledger_core.proofs.Orders.{keys-linked, ids-linked, behind-from}
use Rattle.ledger_core.proofs.Dates.{FitsVersion, date_in-read}

-- a field without bytes
reads-nothing : {E A B : Type 0} {first : Layout E A} (next : A → Layout E B) {before sofar : List ℕ} {x : A} {y : B} {text : List ℕ}
    → IsRead first (before ++ sofar) x [] → ReadsOn (next x) before sofar y text → ReadsOn (first >>= next) before sofar y text
reads-nothing {E} {A} {B} {first} next {before} {sofar} {x} {y} {text} one rest =
    reads next one (subst (λ (l : List ℕ). ReadsOn (next x) before l y text) (sym (append-nil sofar)) rest)

-- ---- parts

abbrev pub FitsIssuer : Option (List ℕ) → List ℕ → Type 0
FitsIssuer previous k = (is_after previous k ≡ true) × IsKey k

issuer-read : (previous : Option (List ℕ)) (before k : List ℕ) → FitsIssuer previous k → IsRead (key fields.LedgerIssuer (is_after previous)) before k k
issuer-read previous before k fits = bytes_field-read _ _ 32 (is_after previous) before k fits.1 fits.0

issuers-read : (p : LedgerPartFields) (previous : Option LedgerPartFields) (before : List ℕ) → IsPartAfter previous p → PartFits p
    → IsRead (issuers (length p.issuers)) before p.issuers (flat_map (λ issuer. issuer) p.issuers)
issuers-read p previous before facts fits =
    repeated-read (λ previous. key fields.LedgerIssuer (is_after previous)) (λ previous issuer. Some issuer) FitsIssuer (λ issuer. issuer) issuer-read None before p.issuers
    (Linked-with (λ previous k. is_after previous k ≡ true) IsKey (λ previous issuer. Some issuer) None p.issuers (keys-linked p.issuers facts.issuers_ascend) fits.issuers)

epoch-low : (previous : Option LedgerPartFields) (p : LedgerPartFields) → Continues previous p → least_epoch previous ≤ p.epoch
epoch-low None p h = omega arith
epoch-low (Some q) p h = omega (arith, h.0)

none-test : {T : Type 0} (o : Option T) → IsNone o → is_none o ≡ true
none-test o h = ap not h

covered : (previous : Option LedgerPartFields) (p : LedgerPartFields) → Continues previous p → is_none (first_outside (coverage_before previous) p.ranges) ≡ true
covered None p h = refl
covered (Some q) p h = none-test (first_outside q.ranges p.ranges) ((within-iff q.ranges p.ranges (first_outside q.ranges p.ranges) refl).1 h.1)

abbrev pub FitsPart : Option LedgerPartFields → LedgerPartFields → Type 0
FitsPart previous p = IsPartAfter previous p × PartFits p

part-read : (previous : Option LedgerPartFields) (before : List ℕ) (p : LedgerPartFields) → FitsPart previous p → IsRead (ledger_part previous) before p (part_text p)
unfolding ledger_part part_text
part-read previous before p (facts, fits) = from_front
    (reads _ (number_field-read _ _ w64 (2 ^ 64) (least_epoch previous) (2 ^ 64 - 1) wide64 _ p.epoch (epoch-low previous p facts.continues) (below_limit _ fits.epoch) fits.epoch)
    (reads _ (bytes_field-read _ _ 32 any_key _ p.trailer fits.trailer refl)
    (reads _ (number_field-read _ _ w16 (2 ^ 16) 0 MAX_RANGES wide16 _ (length p.ranges) (omega arith) facts.ranges.few (omega (arith, facts.ranges.few)))
    (reads _ (ranges-read _ p.ranges (ranges-fit p.ranges facts.ranges.ascending fits.ranges))
    (reads-nothing _ (bytes_field-read _ _ 0 (λ none. is_none (first_outside (coverage_before previous) p.ranges)) _ [] refl (covered previous p facts.continues))
    (reads _ (number_field-read _ _ w32 (2 ^ 32) 0 MAX_ISSUERS wide32 _ (length p.issuers) (omega arith) facts.few_issuers (omega (arith, facts.few_issuers)))
    (reads _ (issuers-read p previous _ facts fits)
    (done p))))))))

-- ---- identities

last-back : (parts birth : ℕ) (last : Option ℕ) → parts ≤ MAX_PARTS → IfSome last (λ r. (birth ≤ r) × (r < parts)) → last_of (last_number last) ≡ last
last-back parts birth None few h = refl
last-back parts birth (Some r) few h = rw (ne_eqb r 255 (λ e. omega (arith, h.1))) refl

last-passes : (parts birth : ℕ) (last : Option ℕ) → parts ≤ MAX_PARTS → IfSome last (λ r. (birth ≤ r) × (r < parts)) → is_last parts birth (last_number last) ≡ true
last-passes parts birth None few h = refl
last-passes parts birth (Some r) few h = rw (ne_eqb r 255 (λ e. omega (arith, h.1)), le-leb birth r h.0, le-leb r (parts - 1) (omega (arith, h.1))) refl

last-fits : (parts birth : ℕ) (last : Option ℕ) → parts ≤ MAX_PARTS → IfSome last (λ r. (birth ≤ r) × (r < parts)) → last_number last < 2 ^ 8
last-fits parts birth None few h = omega arith
last-fits parts birth (Some r) few h = omega (arith, h.1)

last-read : (parts birth : ℕ) (before : List ℕ) (last : Option ℕ) → parts ≤ MAX_PARTS → IfSome last (λ r. (birth ≤ r) × (r < parts))
    → IsRead (last_place parts birth) before last (to_be_bytes w8 (last_number last))
unfolding last_place
last-read parts birth before last few h =
    let n : ℕ = last_number last in
    let again : from_be_bytes w8 (to_be_bytes w8 n) ≡ n = wide8.again n (last-fits parts birth last few h) in
    subst (λ (x : Option ℕ). IsRead (last_place parts birth) before x (to_be_bytes w8 n)) (ap last_of again ∙ last-back parts birth last few h)
    (ends-read (λ byte. last_of (from_be_bytes w8 byte))
    (bytes_field-read _ _ 1 (λ b. is_last parts birth (from_be_bytes w8 b)) before (to_be_bytes w8 n) (wide8.len n) (ap (is_last parts birth) again ∙ last-passes parts birth last few h)))

-- what an item keeps behind no other
abbrev pub FitsPlaces : ℕ → ℕ → LedgerItem → Type 0
FitsPlaces version parts x = ItemFits x × (IsItemOf parts x × FitsVersion version x.until)

abbrev pub FitsItem : ℕ → ℕ → Option Identity → LedgerItem → Type 0
FitsItem version parts previous x = (is_behind previous x.id ≡ true) × FitsPlaces version parts x

item-read : (version parts : ℕ) → parts ≤ MAX_PARTS → (previous : Option Identity) (before : List ℕ) (x : LedgerItem) → FitsItem version parts previous x
    → IsRead (item version parts previous) before x (item_text version x)
unfolding item item_text
item-read version parts few previous before x (behind, (fits, (facts, dated))) = from_front
    (reads _ (bytes_field-read _ _ 32 (is_from previous) _ x.id.issuer fits.issuer (behind-from previous x.id behind))
    (reads _ (number_field-read _ _ w8 (2 ^ 8) 1 MAX_SERIAL wide8 _ (length x.id.serial) fits.some_octets fits.few_octets (omega (arith, fits.few_octets)))
    (reads _ (bytes_field-read _ _ (length x.id.serial) (λ serial. is_behind previous (record { issuer = x.id.issuer; serial = serial })) _ x.id.serial refl behind)
    (reads _ (number_field-read _ _ w8 (2 ^ 8) 0 (parts - 1) wide8 _ x.birth (omega arith) (omega (arith, facts.birth)) (omega (arith, facts.birth, few)))
    (reads _ (last-read parts x.birth _ x.last few facts.last)
    (reads _ (date_in-read version _ x.until fits.until dated)
    (done x)))))))

-- ---- ledgers

parts-linked : (l : LedgerFields) → Fits l → Linked FitsPart (λ previous p. Some p) None l.parts
parts-linked l fits = Linked-with IsPartAfter PartFits (λ previous p. Some p) None l.parts fits.facts.parts fits.parts

-- a version that has a text of the ledger
pub record IsVersionOf (l : LedgerFields) (version : ℕ) : Type 0 where
  pub low : 1 ≤ version
  pub high : version ≤ 2
  pub old : version ≡ 1 → HasNoDates l

items-linked : (version : ℕ) (l : LedgerFields) → IsVersionOf l version → Fits l → Linked (FitsItem version (length l.parts)) (λ previous x. Some x.id) None l.items
items-linked version l is fits =
    Linked-with (λ previous x. is_behind previous x.id ≡ true) (FitsPlaces version (length l.parts)) (λ previous x. Some x.id) None l.items
    (ids-linked l.items fits.facts.items_ascend) (λ k d lt. (fits.items k d lt, (fits.facts.items k d lt, λ one. is.old one k d lt)))

body-read : (version : ℕ) (l : LedgerFields) → IsVersionOf l version → Fits l → IsRead body [] l (body_text version l)
unfolding body body_text
body-read version l is fits = from_front
    (reads _ (bytes_field-read _ _ 8 (bytes_eq (codes "CLUBLEDG")) _ (codes "CLUBLEDG") refl refl)
    (reads _ (number_field-read _ _ w8 (2 ^ 8) 1 2 wide8 _ version is.low is.high (omega (arith, is.high)))
    (reads _ (number_field-read _ _ w8 (2 ^ 8) 1 MAX_PARTS wide8 _ (length l.parts) fits.facts.some_parts fits.facts.few_parts (omega (arith, fits.facts.few_parts)))
    (reads _ (repeated-read ledger_part (λ previous p. Some p) FitsPart part_text part-read None _ l.parts (parts-linked l fits))
    (reads _ (number_field-read _ _ w32 (2 ^ 32) 0 MAX_IDENTITIES wide32 _ (length l.items) (omega arith) fits.facts.few_items (omega (arith, fits.facts.few_items)))
    (reads _ (repeated-read (item version (length l.parts)) (λ previous x. Some x.id) (FitsItem version (length l.parts)) (item_text version)
    (item-read version (length l.parts) fits.facts.few_parts) None _ l.items (items-linked version l is fits))
    (done l)))))))

digested-read : (version : ℕ) (l : LedgerFields) → IsVersionOf l version → Fits l → IsRead digested [] l (text_in version l)
unfolding digested text_in
digested-read version l is fits = from_front
    (reads _ (body-read version l is fits)
    (reads _ (sum_field-read _ _ 32 sha256 length-sha256 _)
    (done l)))

at-end : (bytes : List ℕ) → end bytes (length bytes) ≡ Ok (tt, length bytes)
at-end bytes = rw (le-ltb (length bytes) (length bytes) (omega arith)) refl

-- the text of a ledger is read as it, and nothing follows
version-again : (version : ℕ) (l : LedgerFields) → IsVersionOf l version → Fits l → ledger (text_in version l) 0 ≡ Ok (l, length (text_in version l))
unfolding ledger
version-again version l is fits =
    let text : List ℕ = text_in version l in
    let front : digested text 0 ≡ Ok (l, length text)
    = ap (λ (b : List ℕ). digested b 0) (sym (append-nil text)) ∙ (digested-read version l is fits).each [] ∙ ap (λ (n : ℕ). Ok (l, n)) (omega arith) in
    ap (λ (r : Result (LedgerFields × ℕ) LayoutFault). then_read r (λ x. end >>= λ rest. whole x) text) front
    ∙ ap (λ (r : Result (Unit {0} × ℕ) LayoutFault). then_read r (λ rest. whole l) text) (at-end text)

pub ledger-again : (l : LedgerFields) → Fits l → ledger (ledger_text l) 0 ≡ Ok (l, length (ledger_text l))
ledger-again l fits = version-again 2 l (record { low = omega arith; high = omega arith; old = λ one. absurd (omega (arith, one)) }) fits

pub old-again : (l : LedgerFields) → Fits l → HasNoDates l → ledger (old_ledger_text l) 0 ≡ Ok (l, length (old_ledger_text l))
old-again l fits none = version-again 1 l (record { low = omega arith; high = omega arith; old = λ one. none }) fits

pub text-again : (l : LedgerFields) (bytes : List ℕ) → Fits l → IsText l bytes → ledger bytes 0 ≡ Ok (l, length bytes)
text-again l bytes fits (inl is) = subst (λ (b : List ℕ). ledger b 0 ≡ Ok (l, length b)) (sym is) (ledger-again l fits)
text-again l bytes fits (inr is) = subst (λ (b : List ℕ). ledger b 0 ≡ Ok (l, length b)) (sym is.0) (old-again l fits is.1)

-- what was written: the text before the digest, and the digest of it
pub again-of : (l : LedgerFields) (none front seen sum bytes : List ℕ) → Fits l → none ≡ [] → front ≡ none ++ body_text 2 l → seen ≡ front → sum ≡ sha256 seen → bytes ≡ front ++ sum
    → ledger bytes 0 ≡ Ok (l, length bytes)
unfolding text_in
again-of l none front seen sum bytes fits h0 h1 h2 h3 h4 =
    let is : bytes ≡ ledger_text l = rw (h4, h3, h2, h1, h0) refl in
    subst (λ (b : List ℕ). ledger b 0 ≡ Ok (l, length b)) (sym is) (ledger-again l fits)
