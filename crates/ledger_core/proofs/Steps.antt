-- Reading off a cursor, one field after the other.
use Rattle.std.proofs.Common.{◌≡◌, ℕ, suc, ◌+◌, ◌-◌, ◌<◌, ◌≤◌, List, [], ◌∷◌, ◌++◌, length, map, Option, Some, Result, Ok, Err, refl, ap, ◌∙◌, subst, arith}
use Rattle.std.specs.Prelude.{slice_get, option_map}
use Rattle.std.specs.Int.{w8}
use Rattle.std.proofs.lemmas.List.{map-append}
use Rattle.octets_core.specs.Position.{Position}
use Rattle.octets_core.specs.Layout.{Layout, ◌>>=◌, whole, repeated, with_fault}
use Rattle.octets_core.specs.Reading.{number, key}
use Rattle.octets_core.specs.declared.field.Field.TheVariants as fields
use Rattle.octets_core.specs.declared.fault.LayoutFault.{LayoutFault}
use Rattle.octets_core.proofs.Repeated.{with_front, goes_on, ends, is_done}
use Rattle.octets_core.proofs.Fields.{mapped-ok}
use Rattle.ident_core.specs.declared.bounds.TheConstants.{MAX_SERIAL}
use Rattle.ident_core.specs.declared.identity.Identity.{Identity}
use Rattle.ledger_core.specs.declared.fault.LedgerFault.{LedgerFault}
use Rattle.ledger_core.specs.declared.fault.LedgerFault.TheVariants as faults
use Rattle.ledger_core.specs.declared.fields.LedgerPart.{LedgerPart}
use Rattle.ledger_core.specs.LedgerFields.{LedgerPartFields, part_fields, newest}
use Rattle.ledger_core.specs.LedgerLayout.{ledger_part, is_from, is_behind, tested, last_place, date_in, item}
use Rattle.ledger_core.specs.LedgerReading.{fielded}

-- an identity, once its issuer and its serial were read
pub item-from_birth : (version parts : ℕ) (previous : Option Identity) (old a b c : Position) (issuer : List ℕ) (width : ℕ) (serial : List ℕ)
    → (key fields.IdentityIssuer (is_from previous) old.bytes old.at ≡ Ok (issuer, a.at)) × (a.bytes ≡ old.bytes)
    → (number fields.IdentityLength w8 1 MAX_SERIAL a.bytes a.at ≡ Ok (width, b.at)) × (b.bytes ≡ a.bytes)
    → (tested fields.IdentitySerial width (λ serial. is_behind previous (record { issuer = issuer; serial = serial })) b.bytes b.at ≡ Ok (serial, c.at)) × (c.bytes ≡ b.bytes)
    → item version parts previous old.bytes old.at
    ≡ (number fields.IdentityBirth w8 0 (parts - 1) >>= λ birth. last_place parts birth >>= λ last. date_in version >>= λ until. whole
    (record { id = record { issuer = issuer; serial = serial }; birth = birth; last = last; until = until })) c.bytes c.at
unfolding item
item-from_birth version parts previous old a b c issuer width serial h1 h2 h3 =
    let same : c.bytes ≡ old.bytes = h3.1 ∙ h2.1 ∙ h1.1 in
    let two : number fields.IdentityLength w8 1 MAX_SERIAL old.bytes a.at ≡ Ok (width, b.at) = rw h1.1 at h2.0 in
    let three : tested fields.IdentitySerial width (λ serial. is_behind previous (record { issuer = issuer; serial = serial })) old.bytes b.at ≡ Ok (serial, c.at) = rw (h2.1 ∙ h1.1) at h3.0 in
    rw (same, h1.0, two, three) refl

-- ---- parts

-- the part at the last place
abbrev pub at_end : List LedgerPart → Option LedgerPartFields
at_end ps = option_map part_fields (slice_get ps (length ps - 1))

pub newest-at_end : (ps : List LedgerPart) → at_end ps ≡ newest (map part_fields ps)
newest-at_end [] = refl
newest-at_end (p ∷ []) = refl
newest-at_end (p ∷ q ∷ ps) =
    let k : length (p ∷ q ∷ ps) - 1 ≡ suc (length (q ∷ ps) - 1) = omega arith in
    ap (λ (n : ℕ). option_map part_fields (slice_get (p ∷ q ∷ ps) n)) k ∙ newest-at_end (q ∷ ps)

newest-more : (ps : List LedgerPartFields) (p : LedgerPartFields) → newest (ps ++ p ∷ []) ≡ Some p
newest-more [] p = refl
newest-more (q ∷ []) p = refl
newest-more (q ∷ r ∷ ps) p = newest-more (r ∷ ps) p

abbrev then_part : Option LedgerPartFields → LedgerPartFields → Option LedgerPartFields
then_part previous p = Some p

pub parts-go_on : (ps : List LedgerPart) (s : Option LedgerPartFields) (p : LedgerPart) (count i : ℕ) (bytes : List ℕ) (at end : ℕ)
    (total : Result (List LedgerPartFields × ℕ) LayoutFault) → i < count → s ≡ newest (map part_fields ps)
    → fielded (ledger_part s) bytes at ≡ Ok (part_fields p, end)
    → with_front (map part_fields ps) (repeated ledger_part (λ previous p. Some p) (count - i) (newest (map part_fields ps)) bytes at) ≡ total
    → with_front (map part_fields (ps ++ p ∷ [])) (repeated ledger_part (λ previous p. Some p) (count - (i + 1)) (newest (map part_fields (ps ++ p ∷ []))) bytes end) ≡ total
parts-go_on ps s p count i bytes at end total lt is read so_far =
    let one = mapped-ok faults.Layout (ledger_part (newest (map part_fields ps))) bytes at (part_fields p, end)
    (subst (λ (o : Option LedgerPartFields). fielded (ledger_part o) bytes at ≡ Ok (part_fields p, end)) is read) in
    rw (map-append part_fields ps (p ∷ []), newest-more (map part_fields ps) (part_fields p))
    (goes_on ledger_part then_part (map part_fields ps) count i (newest (map part_fields ps)) bytes at (part_fields p) end total lt one so_far)

ends-with : {S X : Type 0} (wrap : LayoutFault → LedgerFault) (item : S → Layout LayoutFault X) (next : S → X → S) (front : List X) (count i : ℕ) (s : S) (bytes : List ℕ) (at : ℕ) (e : LedgerFault)
    (read : Result (X × ℕ) LayoutFault) (total : Result (List X × ℕ) LayoutFault) → i < count → item s bytes at ≡ read → with_fault wrap read ≡ Err e
    → with_front front (repeated item next (count - i) s bytes at) ≡ total → with_fault wrap total ≡ Err e
ends-with wrap item next front count i s bytes at e (Ok x) total lt is fault so_far = absurd cc
ends-with {S} {X} wrap item next front count i s bytes at e (Err f) total lt is fault so_far =
    ap (λ (r : Result (List X × ℕ) LayoutFault). with_fault wrap r) (ends item next front count i s bytes at f total lt is so_far) ∙ ap (λ (d : LedgerFault). Err d) cc

pub parts-end : (ps : List LedgerPart) (s : Option LedgerPartFields) (count i : ℕ) (bytes : List ℕ) (at : ℕ) (e : LedgerFault)
    (total : Result (List LedgerPartFields × ℕ) LayoutFault) → i < count → s ≡ newest (map part_fields ps)
    → fielded (ledger_part s) bytes at ≡ Err e → with_front (map part_fields ps) (repeated ledger_part (λ previous p. Some p) (count - i) (newest (map part_fields ps)) bytes at) ≡ total
    → with_fault faults.Layout total ≡ Err e
parts-end ps s count i bytes at e total lt is fault so_far =
    ends-with faults.Layout ledger_part then_part (map part_fields ps) count i (newest (map part_fields ps)) bytes at e (ledger_part (newest (map part_fields ps)) bytes at) total lt refl
    (subst (λ (o : Option LedgerPartFields). fielded (ledger_part o) bytes at ≡ Err e) is fault) so_far

pub parts-done : (ps : List LedgerPart) (count i : ℕ) (bytes : List ℕ) (at : ℕ) (total : Result (List LedgerPartFields × ℕ) LayoutFault) → count ≤ i
    → with_front (map part_fields ps) (repeated ledger_part (λ previous p. Some p) (count - i) (newest (map part_fields ps)) bytes at) ≡ total
    → with_fault faults.Layout total ≡ Ok (map part_fields ps, at)
parts-done ps count i bytes at total le so_far =
    ap (λ (r : Result (List LedgerPartFields × ℕ) LayoutFault). with_fault faults.Layout r)
    (is_done ledger_part then_part (map part_fields ps) count i (newest (map part_fields ps)) bytes at total le so_far)
