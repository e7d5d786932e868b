-- The store with a part has the bytes of the old one, with the count raised by one and the part's bytes behind them.
use Rattle.std.proofs.Common.{◌≡◌, ℕ, ◌+◌, ◌≤◌, ◌<◌, ◌%◌, Bool, true, false, cond, inl, inr, List, [], ◌∷◌, ◌++◌, length, Option, Some, None, Result, Ok, Err, refl, sym, ap, ◌∙◌, subst, arith}
use Rattle.std.specs.Prelude.{All, flat_map}
use Rattle.std.proofs.lemmas.Bool.{cases_lt, ltb-false}
use Rattle.std.proofs.lemmas.Grind.{flat_map-append}
use Rattle.std.proofs.lemmas.List.{append-nil, get_or_past, length-append, take_all}
use Rattle.std.proofs.lemmas.List.Elements.{All-append, All-cons, All-nil}
use Rattle.octets_core.specs.declared.fault.LayoutFault.{LayoutFault}
use Rattle.octets_core.specs.Layout.{◌>>=◌, whole, mapped}
use Rattle.octets_core.specs.Reading.{end, value_of}
use Rattle.octets_core.proofs.Texts.{IsBytes}
use Rattle.octets_core.proofs.Fields.{ok_is, then_read-ok, mapped-ok}
use Rattle.outside_core.specs.Files.{Files}
use Rattle.part_text.specs.SealedFields.{SealedFields}
use Rattle.part_text.specs.PartLayout.{part}
use Rattle.part_text.specs.PartText.{spelling}
use Rattle.part_text.specs.Fitting.{Fits}
use Rattle.part_text.proofs.PartTexts.{part-leaves}
use Rattle.store_core.specs.declared.fault.StoreFault.{StoreFault}
use Rattle.store_core.specs.Chain.{refusal_of}
use Rattle.store_core.specs.StoreLayout.{store, store_text}
use Rattle.store_core.proofs.Growing.{taken-room, taken-store}
use Rattle.store_core.proofs.StoreChains.{store-chain, store-found}
use Rattle.store_core.proofs.StoreTexts.{store-value}
use Rattle.input_core.specs.declared.fault.FileFault.{FileFault}
use Rattle.input_core.specs.declared.fault.FileFault.TheVariants as faults
use Rattle.input_core.specs.Faults.{of_part, of_store}
use Rattle.input_core.specs.PartFile.{part_file}
use Rattle.input_core.specs.Readings.{faulted, part_in, store_in}
use Rattle.input_core.specs.Inputs.{IsRead}
use Rattle.device_top.specs.Appended.{Grows, with_part}

-- ---- the file of a part

not_left : (b : Bool) (e : LayoutFault) (y x : Unit {0} × ℕ) → cond b (Err e) (Ok y) ≡ Ok x → b ≡ false
not_left true e y x h = absurd cc
not_left false e y x h = refl

at_end : (bytes : List ℕ) (at : ℕ) (x : Unit {0} × ℕ) → end bytes at ≡ Ok x → length bytes ≤ at
at_end bytes at x h = ltb-false at (length bytes) (not_left _ _ _ x h)

bytes_are : (bytes : List ℕ) → All (λ b. b < 256) bytes → IsBytes bytes
bytes_are bytes all i = elim (cases_lt i (length bytes)) [ inl lt ↦ all i 0 lt | inr le ↦ rw (get_or_past bytes i 0 le) (omega arith) ]

-- its bytes are those that spell the part
part_spelled : (file : List ℕ) (x : SealedFields × ℕ) → All (λ b. b < 256) file → part_in file ≡ Ok x → (file ≡ spelling x.0) × Fits x.0
unfolding part_file
part_spelled file x all read =
    let a = then_read-ok (mapped of_part part file 0) (λ sealed. mapped faults.Layout end >>= λ nothing. whole sealed) file x read in
    let b = then_read-ok (mapped faults.Layout end file a.0.1) (λ nothing. whole a.0.0) file x a.2 in
    let l = (part-leaves file (bytes_are file all)).each a.0 (mapped-ok of_part part file 0 a.0 a.1) in
    let over : length file ≤ a.0.1 = at_end file a.0.1 b.0 (mapped-ok faults.Layout end file a.0.1 b.0 b.1) in
    let text : file ≡ spelling a.0.0 = sym (take_all a.0.1 file over) ∙ l.0.parts in
    let is = ok_is {E = FileFault} (a.0.0, b.0.1) x b.2 in
    let same : a.0.0 ≡ x.0 = ap (λ (y : SealedFields × ℕ). y.0) is in
    subst (λ (s : SealedFields). (file ≡ spelling s) × Fits s) same (text, l.1)

-- ---- the store

read_so : (r : Result (List SealedFields) StoreFault) (parts : List SealedFields) → faulted of_store r ≡ Ok parts → r ≡ Ok parts
read_so (Ok held) parts is = cc
read_so (Err e) parts is = absurd (let h : ◌≡◌ {A = Result (List SealedFields) FileFault} (Err (of_store e)) (Ok parts) = is in cc)

one_byte : (n : ℕ) → n < 256 → n % 256 ≡ n
one_byte n low = omega (arith, low)

counted : (n : ℕ) (parts text : List ℕ) → n < 64 → (0x43 ∷ 0x4c ∷ 0x55 ∷ 0x42 ∷ 0x53 ∷ 0x54 ∷ 0x4f ∷ 0x52 ∷ []) ++ (1 ∷ []) ++ ((n + 1) % 256 ∷ []) ++ (parts ++ text)
    ≡ with_part ((0x43 ∷ 0x4c ∷ 0x55 ∷ 0x42 ∷ 0x53 ∷ 0x54 ∷ 0x4f ∷ 0x52 ∷ []) ++ (1 ∷ []) ++ (n % 256 ∷ []) ++ parts) text
counted n parts text low = rw (one_byte n (omega (arith, low)), one_byte (n + 1) (omega (arith, low))) refl

text_appended : (parts : List SealedFields) (added : SealedFields) → length parts < 64 → store_text (parts ++ added ∷ []) ≡ with_part (store_text parts) (spelling added)
unfolding store_text
text_appended parts added low =
    let count : length (parts ++ added ∷ []) ≡ length parts + 1 = length-append parts (added ∷ []) in
    let texts : flat_map spelling (parts ++ added ∷ []) ≡ flat_map spelling parts ++ spelling added =
    flat_map-append spelling parts (added ∷ []) ∙ ap (λ (t : List ℕ). flat_map spelling parts ++ t) (append-nil (spelling added)) in
    rw (count, texts) (counted (length parts) (flat_map spelling parts) (spelling added) low)

pub appended : (held file : List ℕ) (parts : List SealedFields) (added : SealedFields) (size : ℕ) → store_in held ≡ Ok parts → part_in file ≡ Ok (added, size)
    → refusal_of parts added ≡ None → All (λ b. b < 256) held → All (λ b. b < 256) file
    → (store_text (parts ++ added ∷ []) ≡ with_part held file) × (store_in (with_part held file) ≡ Ok (parts ++ added ∷ []))
appended held file parts added size is_store is_part taken held_bytes file_bytes =
    let read = read_so (value_of (store held 0)) parts is_store in
    let found = store-found held parts held_bytes read in
    let spelled = part_spelled file (added, size) file_bytes is_part in
    let longer = taken-store parts added (store-chain held parts read) taken in
    let text : store_text (parts ++ added ∷ []) ≡ with_part held file = text_appended parts added (taken-room parts added taken)
    ∙ ap (λ (h : List ℕ). with_part h (spelling added)) (sym found.0) ∙ ap (with_part held) (sym spelled.0) in
    let fits : All Fits (parts ++ added ∷ []) = All-append Fits parts (added ∷ []) found.1 (All-cons Fits added [] spelled.1 (All-nil Fits)) in
    (text, ap store_in (sym text) ∙ ap (faulted of_store) (store-value (parts ++ added ∷ []) longer.chain longer.some longer.few fits))

abbrev pub grown : (told : Option Files) (failed : Option (List ℕ) → Type 0) (name held file : List ℕ) (parts : List SealedFields) (x : SealedFields × ℕ) → store_in held ≡ Ok parts
    → IsRead told failed name (Some file) → part_in file ≡ Ok x → refusal_of parts x.0 ≡ None → Grows told failed name held
grown told failed name held file parts x is_store is_read is_part taken = record {
  parts = parts;
  file = file;
  added = x.0;
  size = x.1;
  is_store = is_store;
  is_read = is_read;
  is_part = is_part;
  taken = taken;
  appended = appended held file parts x.0 x.1 is_store is_part taken;
}
