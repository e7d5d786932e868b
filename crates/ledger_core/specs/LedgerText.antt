-- The text of a ledger: the bytes that its layout reads as it. In version 1 identities have no dates; what is written is
-- of version 2.
use Rattle.std.specs.Prelude.{◌≡◌, ◌⊎◌, ℕ, ℤ, List, [], ◌++◌, length, codes, flat_map, All, ◌==◌, if◌then◌else◌, Option, Some, None}
use Rattle.std.specs.Int.{w8, w16, w32, w64, to_be_bytes, cast_unsigned}
use Rattle.sha2.specs.Sha256.{sha256}
use Rattle.ident_core.specs.RangeText.{range_text}
use Rattle.ledger_core.specs.declared.fields.LedgerItem.{LedgerItem}
use Rattle.ledger_core.specs.LedgerFields.{LedgerPartFields, LedgerFields}

unfoldable pub part_text : LedgerPartFields → List ℕ
part_text p =
    to_be_bytes w64 p.epoch ++ p.trailer ++ to_be_bytes w16 (length p.ranges) ++ flat_map range_text p.ranges
    ++ to_be_bytes w32 (length p.issuers) ++ flat_map (λ issuer. issuer) p.issuers

-- the number that stands for a last, or for none
abbrev pub last_number : Option ℕ → ℕ
last_number None = 255
last_number (Some place) = place

-- whether there is a date, and then the date, in two's complement
unfoldable pub date_text : Option ℤ → List ℕ
date_text None = to_be_bytes w8 0
date_text (Some until) = to_be_bytes w8 1 ++ to_be_bytes w64 (cast_unsigned w64 until)

abbrev pub date_text_in : ℕ → Option ℤ → List ℕ
date_text_in version until = if version == 1 then [] else date_text until

unfoldable pub item_text : ℕ → LedgerItem → List ℕ
item_text version x =
    x.id.issuer ++ to_be_bytes w8 (length x.id.serial) ++ x.id.serial ++ to_be_bytes w8 x.birth ++ to_be_bytes w8 (last_number x.last)
    ++ date_text_in version x.until

-- what stands before the identities
unfoldable pub head_text : ℕ → LedgerFields → List ℕ
head_text version l =
    codes "CLUBLEDG" ++ to_be_bytes w8 version ++ to_be_bytes w8 (length l.parts) ++ flat_map part_text l.parts
    ++ to_be_bytes w32 (length l.items)

-- all but the digest
unfoldable pub body_text : ℕ → LedgerFields → List ℕ
body_text version l =
    codes "CLUBLEDG" ++ to_be_bytes w8 version ++ to_be_bytes w8 (length l.parts) ++ flat_map part_text l.parts
    ++ to_be_bytes w32 (length l.items) ++ flat_map (item_text version) l.items

unfoldable pub text_in : ℕ → LedgerFields → List ℕ
text_in version l = body_text version l ++ sha256 (body_text version l)

abbrev pub ledger_text : LedgerFields → List ℕ
ledger_text l = text_in 2 l

-- no identity has a date
abbrev pub HasNoDates : LedgerFields → Type 0
HasNoDates l = All (λ x. x.until ≡ None) l.items

-- the text in version 1, of a ledger without dates
abbrev pub old_ledger_text : LedgerFields → List ℕ
old_ledger_text l = text_in 1 l

-- the bytes are a text of the ledger: a ledger without dates has two
abbrev pub IsText : LedgerFields → List ℕ → Type 0
IsText l bytes = (bytes ≡ ledger_text l) ⊎ ((bytes ≡ old_ledger_text l) × HasNoDates l)
