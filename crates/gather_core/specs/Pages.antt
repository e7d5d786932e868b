-- What a page of a log's `get-entries` answers holds (RFC 6962, 4.6; docs/FORMATS.md, "Pages").
use Rattle.std.specs.Prelude.{ℕ, ◌+◌, ◌^◌, ◌≤◌, List, [], ◌∷◌, length, ◌&&◌, nat_le, if◌then◌else◌, codes}
use Rattle.std.specs.Prelude.{Option, Some, None, IfSome, option_and_then, Result, Ok, Err}
use Rattle.std.specs.Str.{is_utf8}
use Rattle.serde_json.specs.Data.{Data, Items, no_items, item}
use Rattle.serde_json.specs.Read.{read}
use Rattle.serde_json.specs.Find.{get, as_array, as_str}
use Rattle.base64.specs.GeneralPurpose.{decode_of}
use Rattle.base64.specs.Engines.{standard}
use Rattle.base64.specs.declared.decode.DecodeError.{DecodeError}
use Rattle.gather_core.specs.declared.fault.PageFault.{PageFault}
use Rattle.gather_core.specs.declared.fault.PageFault.TheVariants as faults
use Rattle.gather_core.specs.declared.page.PageEntry.{PageEntry}
use Rattle.gather_core.specs.declared.page.TheConstants.{MAX_DATA}

-- an entry of a page
pub record PageFields : Type 0 where
  pub leaf : List ℕ
  pub extra : List ℕ

abbrev pub fields_of : PageEntry → PageFields
fields_of e = record { leaf = e.leaf.items; extra = e.extra.items }

-- the index of the item that a fault is of, and 0 of a whole page
abbrev pub index_of : PageFault → ℕ
index_of faults.Json = 0
index_of (faults.Shape index) = index
index_of (faults.Base64 index) = index
index_of (faults.Size index) = index
index_of faults.NoMemory = 0

infixl 10 ◌>>=◌
abbrev pub ◌>>=◌ : {A B : Type 0} → Result A PageFault → (A → Result B PageFault) → Result B PageFault
(Ok x) >>= next = next x
(Err e) >>= next = Err e

-- a value that is there, or this fault
abbrev pub there : {A : Type 0} → PageFault → Option A → Result A PageFault
there fault (Some x) = Ok x
there fault None = Err fault

-- ---- an item

-- the string at a key of an object
abbrev pub text_at : List ℕ → Data → Option (List ℕ)
text_at key d = option_and_then as_str (get key d)

abbrev pub decoded_by : ℕ → Result (List ℕ) DecodeError → Result (List ℕ) PageFault
decoded_by index (Ok bytes) = Ok bytes
decoded_by index (Err e) = Err (faults.Base64 index)

-- what a string spells in Base64
abbrev pub decoded : ℕ → List ℕ → Result (List ℕ) PageFault
decoded index text = decoded_by index (decode_of standard text)

-- the leaf and the extra data, if neither is too long
abbrev pub sized : ℕ → List ℕ → List ℕ → Result PageFields PageFault
sized index leaf extra =
    if nat_le (length leaf) MAX_DATA && nat_le (length extra) MAX_DATA then Ok (record { leaf = leaf; extra = extra })
    else Err (faults.Size index)

-- first both strings are there, then both spell bytes, then neither is too long
abbrev pub item_of : ℕ → Data → Result PageFields PageFault
item_of index d = do
  leaf ← there (faults.Shape index) (text_at (codes "leaf_input") d)
  extra ← there (faults.Shape index) (text_at (codes "extra_data") d)
  l ← decoded index leaf
  x ← decoded index extra
  sized index l x

-- the items from an index on, one after the other
abbrev pub items_from : ℕ → Items → Result (List PageFields) PageFault
items_from index no_items = Ok []
items_from index (item d ds) = do
  x ← item_of index d
  others ← items_from (index + 1) ds
  Ok (x ∷ others)

-- ---- a page

-- the value of bytes that are JSON in UTF-8
abbrev pub json_of : List ℕ → Result Data PageFault
json_of bytes = if is_utf8 bytes then there faults.Json (read bytes) else Err faults.Json

-- the items of an object with an array `entries`, if there is one
abbrev pub listed_items : Data → Option Items
listed_items d = option_and_then as_array (get (codes "entries") d)

abbrev pub listed : Data → Result Items PageFault
listed d = there (faults.Shape 0) (listed_items d)

abbrev pub entries_of : Data → Result (List PageFields) PageFault
entries_of d = do
  items ← listed d
  items_from 0 items

-- the entries in their order, or the first fault
abbrev pub page_of : List ℕ → Result (List PageFields) PageFault
page_of bytes = do
  d ← json_of bytes
  entries_of d

-- how many there are
abbrev pub count_items : Items → ℕ
count_items no_items = 0
count_items (item d ds) = count_items ds + 1

-- an index of 32 bits is enough for each of its entries
abbrev pub AreNumbered : Data → Type 0
AreNumbered d = IfSome (listed_items d) (λ ds. count_items ds ≤ 2 ^ 32)

-- neither the leaf nor the extra data is too long
abbrev pub EntryFits : PageFields → Type 0
EntryFits e = (length e.leaf ≤ MAX_DATA) × (length e.extra ≤ MAX_DATA)
