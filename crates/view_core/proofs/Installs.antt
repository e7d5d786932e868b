-- A part that is installed.
use Rattle.std.proofs.Common.{◌≡◌, ℕ, zero, suc, ◌+◌, ◌<◌, ◌≤◌, ◌^◌, List, [], ◌∷◌, ◌++◌, length, take, drop, Option, Some, None, Result, Ok, Err}
use Rattle.std.proofs.Common.{set, refl, sym, ap, ◌∙◌, subst, inl, inr, append_assoc, length-append, drop-drop, drop_at, arith}
use Rattle.std.specs.Prelude.{All, codes, flat_map}
use Rattle.std.specs.Int.{w8, to_be_bytes}
use Rattle.std.proofs.lemmas.Bool.{lt-ltb, le-ltb, lt-leb, le-leb, cases_lt}
use Rattle.std.proofs.lemmas.List.{append-nil, nil_from_length, take_at, take-append-drop, take-set, drop-set, drop-set-lt, set-append_left, length-set}
use Rattle.std.proofs.lemmas.Slice.{take-put_mid, drop-put_mid}
use Rattle.std.proofs.lemmas.Grind.{flat_map-append}
use Rattle.std.proofs.lemmas.List.Elements.{All-append}
use borrow.Rule.Slice.PartMut.{put_mid}
use Rattle.octets_core.specs.Reading.{fault_at, value_of}
use Rattle.octets_core.specs.declared.fault.LayoutFault.{LayoutFault}
use Rattle.octets_core.specs.declared.fault.Why.TheVariants as why
use Rattle.octets_core.specs.declared.field.Field.TheVariants as fields
use Rattle.octets_core.proofs.Fields.{ok_is}
use Rattle.octets_core.proofs.Texts.{IsBytes}
use Rattle.part_text.specs.SealedFields.{SealedFields}
use Rattle.part_text.specs.Fitting.{Fits}
use Rattle.part_text.specs.PartLayout.{sealed}
use Rattle.part_text.specs.PartText.{spelling}
use Rattle.part_codec.specs.Noting.{noted, note_of}
use Rattle.part_codec.specs.declared.scan.PartNote.{PartNote}
use Rattle.store_core.specs.Chain.{IsStore, newest_of, refusal_of}
use Rattle.store_core.specs.declared.chain.Refusal.{Refusal}
use Rattle.store_core.specs.StoreLayout.{store as store_layout, store_text}
use Rattle.store_core.specs.declared.fault.StoreFault.{StoreFault}
use Rattle.view_core.specs.Installing.{part_alone, parts_by, parts_and, store_and, parts_with, IsTaken, CountsWith, written_in, installed, IsInstalled}
use Rattle.store_core.proofs.Growing.{taken-room, taken-store}
use Rattle.store_core.proofs.StoreChains.{store-chain}
use Rattle.store_core.proofs.StoreSpelled.{found}
use Rattle.store_core.proofs.StoreTexts.{store-value}
use Rattle.view_core.specs.Checking.{ReadsStore}
use Rattle.view_core.specs.Scanning.{IsReadAt}
use Rattle.view_core.specs.declared.scan.ReadPart.{ReadPart}
use Rattle.view_core.specs.Texts.{Stands}
use Rattle.view_core.specs.declared.installing.InstallFault.TheVariants as faults
use Rattle.view_core.proofs.Scans.{noted-ok, noted-err, part-noted, spelled}

-- ---- the part alone

fault_alone : (bytes : List ℕ) (e : LayoutFault) → sealed bytes 0 ≡ Err e → part_alone bytes 0 ≡ Err e
unfolding part_alone
fault_alone bytes e is = rw is refl

more_alone : (bytes : List ℕ) (s : SealedFields) (n : ℕ) → n < length bytes → sealed bytes 0 ≡ Ok (s, n) → part_alone bytes 0 ≡ Err (fault_at why.Value fields.End n)
unfolding part_alone
more_alone bytes s n lt is = rw (is, lt-ltb n (length bytes) lt) refl

whole_alone : (bytes : List ℕ) (s : SealedFields) (n : ℕ) → length bytes ≤ n → sealed bytes 0 ≡ Ok (s, n) → part_alone bytes 0 ≡ Ok (s, n)
unfolding part_alone
whole_alone bytes s n all is = rw (is, le-ltb n (length bytes) all) refl

pub part_faulty : (bytes : List ℕ) (e : LayoutFault) → Err e ≡ noted (sealed bytes 0) → Err e ≡ noted (part_alone bytes 0)
part_faulty bytes e is = sym (ap noted (fault_alone bytes e (noted-err (sealed bytes 0) e is)))

pub part_longer : (bytes : List ℕ) (note : PartNote) → Ok note ≡ noted (sealed bytes 0) → note.length < length bytes
    → Err (fault_at why.Value fields.End note.length) ≡ noted (part_alone bytes 0)
part_longer bytes note is more =
    let x = noted-ok (sealed bytes 0) note is in
    let n : note.length ≡ x.0.1 = ap (λ (p : PartNote). p.length) x.2 in
    ap (λ (k : ℕ). Err (fault_at why.Value fields.End k)) n ∙ sym (ap noted (more_alone bytes x.0.0 x.0.1 (omega (arith, n, more)) x.1))

pub part_whole : (bytes : List ℕ) (note : PartNote) → Ok note ≡ noted (sealed bytes 0) → length bytes ≤ note.length → Ok note ≡ noted (part_alone bytes 0)
part_whole bytes note is all =
    let x = noted-ok (sealed bytes 0) note is in
    let n : note.length ≡ x.0.1 = ap (λ (p : PartNote). p.length) x.2 in
    is ∙ ap noted (x.1 ∙ sym (whole_alone bytes x.0.0 x.0.1 (omega (arith, n, all)) x.1))

-- ---- and what it spells

pub part_within : (bytes : List ℕ) → IsBytes bytes → (note : PartNote) → Ok note ≡ noted (sealed bytes 0) → note.length ≤ length bytes
part_within bytes fits note is = let p = part-noted bytes bytes 0 refl fits note is in p.1.within

-- ---- the parts of a store with a part

pub too_long : (store part : List ℕ) → 2 ^ 32 ≤ length store → parts_with store part ≡ Err faults.TooLong
unfolding parts_with
too_long store part long = rw (le-leb (2 ^ 32) (length store) long) refl

by_store : (store part : List ℕ) → length store < 2 ^ 32 → parts_with store part ≡ store_and (value_of (store_layout store 0)) (part_alone part 0)
unfolding parts_with
by_store store part few = rw (lt-leb (2 ^ 32) (length store) few) refl

pub with_no_store : (store part : List ℕ) (e : StoreFault) → length store < 2 ^ 32 → value_of (store_layout store 0) ≡ Err e → parts_with store part ≡ Err (faults.Store e)
with_no_store store part e few is = by_store store part few ∙ ap (λ r. store_and r (part_alone part 0)) is

by_part : (store part : List ℕ) (parts : List SealedFields) → length store < 2 ^ 32 → value_of (store_layout store 0) ≡ Ok parts → parts_with store part ≡ parts_and parts (part_alone part 0)
by_part store part parts few is = by_store store part few ∙ ap (λ r. store_and r (part_alone part 0)) is

pub with_no_part : (store part : List ℕ) (parts : List SealedFields) (e : LayoutFault) → length store < 2 ^ 32 → value_of (store_layout store 0) ≡ Ok parts
    → Err e ≡ noted (part_alone part 0) → parts_with store part ≡ Err (faults.Part e)
with_no_part store part parts e few is fault = by_part store part parts few is ∙ ap (parts_and parts) (noted-err (part_alone part 0) e fault)

by_rules : (store part : List ℕ) (parts : List SealedFields) (given : SealedFields) (n : ℕ) → length store < 2 ^ 32 → value_of (store_layout store 0) ≡ Ok parts
    → part_alone part 0 ≡ Ok (given, n) → parts_with store part ≡ parts_by (refusal_of parts given) parts given
by_rules store part parts given n few is read = by_part store part parts few is ∙ ap (parts_and parts) read

-- a text that stands at the beginning of bytes, and is as long as they are
whole_text : (bytes text : List ℕ) → Stands bytes 0 text → length bytes ≡ length text → bytes ≡ text
whole_text bytes text s len =
    let none : s.behind ≡ [] = nil_from_length s.behind (omega (arith, len, ap length s.is, length-append text s.behind)) in
    s.is ∙ ap (λ (l : List ℕ). text ++ l) none ∙ append-nil text

-- a part that was noted, as the rules of a chain read it
pub record IsGiven (part : List ℕ) (note : PartNote) (given : SealedFields) : Type 0 where
  pub part_is : part_alone part 0 ≡ Ok (given, length part)
  pub read : IsReadAt part (record { note = note; at = 0 }) given
  pub spelled : part ≡ spelling given

alone_ok : (bytes : List ℕ) (r : Result (SealedFields × ℕ) LayoutFault) (x : SealedFields × ℕ) → sealed bytes 0 ≡ r → part_alone bytes 0 ≡ Ok x → (r ≡ Ok x) × (length bytes ≤ x.1)
alone_ok bytes (Err e) x is read = absurd (let no = sym (fault_alone bytes e is) ∙ read in cc)
alone_ok bytes (Ok y) x is read =
    elim (cases_lt y.1 (length bytes)) [
      | inl lt ↦ absurd (let no = sym (more_alone bytes y.0 y.1 lt is) ∙ read in cc)
      | inr le ↦
          let same : y ≡ x = ok_is {E = LayoutFault} y x (sym (whole_alone bytes y.0 y.1 le is) ∙ read) in
          (ap (λ z. Ok z) same, subst (λ (z : SealedFields × ℕ). length bytes ≤ z.1) same le)
    ]

pub given-is : (part : List ℕ) → IsBytes part → (note : PartNote) → Ok note ≡ noted (part_alone part 0) → (given : SealedFields) × IsGiven part note given
given-is part fits note is =
    let x = noted-ok (part_alone part 0) note is in
    let alone = alone_ok part (sealed part 0) x.0 refl x.1 in
    let one = spelled part 0 fits x.0.0 x.0.1 alone.0 in
    let n : x.0.1 ≡ length part = omega (arith, one.within, alone.1) in (
      x.0.0,
      record {
        part_is = x.1 ∙ ap (λ (k : ℕ). Ok (x.0.0, k)) n;
        read = record { note = x.2 ∙ ap (note_of x.0.0) one.len; fits = one.fits; text = one.text };
        spelled = whole_text part (spelling x.0.0) one.text (omega (arith, one.len, n));
      },
    )

-- ---- the rules

-- what is noted of a store that was tested and of a part that was tested
pub record AreTested (store part : List ℕ) (r : Option Refusal) (count : ℕ) : Type 0 where
  pub parts : List SealedFields
  pub given : SealedFields
  pub store_is : value_of (store_layout store 0) ≡ Ok parts
  pub part_is : part_alone part 0 ≡ Ok (given, length part)
  pub refusal_is : r ≡ refusal_of parts given
  pub count_is : length parts ≡ count
  pub few : length store < 2 ^ 32

pub tested : (store part : List ℕ) → IsBytes part → (count : ℕ) (held : ReadPart) (note : PartNote) (r : Option Refusal) → length store < 2 ^ 32
    → ReadsStore store (Ok (count, held)) → Ok note ≡ noted (part_alone part 0)
    → ((parts : List SealedFields) (h g : SealedFields) → newest_of parts ≡ Some h → length parts ≡ count → IsReadAt store held h
    → IsReadAt part (record { note = note; at = 0 }) g → r ≡ refusal_of parts g) → AreTested store part r count
tested store part fits count held note r few (parts, is, newest) noted_is told =
    let (given, of) = given-is part fits note noted_is in
    record {
      parts = parts;
      given = given;
      store_is = is;
      part_is = of.part_is;
      refusal_is = told parts newest.newest given newest.newest_is newest.count_is newest.read_is of.read;
      count_is = newest.count_is;
      few = few;
    }

pub with_refusal : (store part : List ℕ) (r : Option Refusal) (count : ℕ) (why : Refusal) → AreTested store part r count → r ≡ Some why → parts_with store part ≡ Err (faults.Refused why)
with_refusal store part r count why t some =
    by_rules store part t.parts t.given (length part) t.few t.store_is t.part_is ∙ ap (λ o. parts_by o t.parts t.given) (sym t.refusal_is ∙ some)

pub with_none : (store part : List ℕ) (r : Option Refusal) (count : ℕ) → AreTested store part r count → r ≡ None → CountsWith store part (Ok (count + 1))
with_none store part r count t none =
    (t.parts, t.given, record { store_is = t.store_is; part_is = t.part_is; taken = sym t.refusal_is ∙ none; few = t.few }, ap (λ (n : ℕ). n + 1) (sym t.count_is))

-- there is room for one more
pub with_room : (store part : List ℕ) (r : Option Refusal) (count : ℕ) → AreTested store part r count → r ≡ None → count < 64
with_room store part r count t none = omega (arith, taken-room t.parts t.given (sym t.refusal_is ∙ none), t.count_is)

-- ---- bytes that are written

set_split : (xs : List ℕ) (i x : ℕ) → i < length xs → set xs i x ≡ take i xs ++ (x ∷ []) ++ drop (i + 1) xs
set_split xs i x lt =
    sym (take-append-drop i (set xs i x)) ∙ ap (λ (l : List ℕ). l ++ drop i (set xs i x)) (take-set xs i x)
    ∙ ap (λ (l : List ℕ). take i xs ++ l) (drop-set xs i x lt) ∙ sym (append_assoc (take i xs) (x ∷ []) (drop (i + 1) xs))

-- a store over the front of other bytes, with another count
module _ (new store : List ℕ) (count : ℕ) (head : 9 < length store) where
  abbrev begun : List ℕ
  begun = set (store ++ drop (length store) new) 9 count

  begun_is : begun ≡ set store 9 count ++ drop (length store) new
  begun_is = set-append_left store (drop (length store) new) 9 count head

  begun_front : take (length store) begun ≡ take 9 store ++ (count ∷ []) ++ drop 10 store
  begun_front =
      ap (take (length store)) begun_is ∙ take_at (set store 9 count) (drop (length store) new) (length store) (length-set store 9 count)
      ∙ set_split store 9 count head

  begun_long : length store ≤ length begun
  begun_long = omega (arith, length-set (store ++ drop (length store) new) 9 count, length-append store (drop (length store) new))

  pub written_text : (part : List ℕ) (k : ℕ) → take (length store + length part) (put_mid (length store) k begun part) ≡ take 9 store ++ (count ∷ []) ++ drop 10 store ++ part
  written_text part k = take-put_mid (length store) k begun part (length store + length part) refl begun_long ∙ ap (λ (l : List ℕ). l ++ part) begun_front

  pub written_behind : (part : List ℕ) (k : ℕ) → length part ≡ k → drop (length store + length part) (put_mid (length store) k begun part) ≡ drop (length store + length part) new
  written_behind part k len =
      let n = length store + length part in
      let low : 9 < n = omega (arith, head) in
      drop-put_mid (length store) k begun part n (omega (arith, len)) begun_long len
      ∙ drop-set-lt n (store ++ drop (length store) new) 9 count low
      ∙ sym (drop-drop (length part) (length store) (store ++ drop (length store) new))
      ∙ ap (drop (length part)) (drop_at store (drop (length store) new) (length store) refl)
      ∙ drop-drop (length part) (length store) new

-- ---- a store with another part

one_byte : (n : ℕ) → n < 256 → to_be_bytes w8 n ≡ n ∷ []
one_byte n lt = ap (λ (x : ℕ). x ∷ []) (omega (arith, lt))

abbrev opening : List ℕ
opening = codes "CLUBSTOR" ++ to_be_bytes w8 1

opening_long : length opening ≡ 9
opening_long = omega (arith, length-append (codes "CLUBSTOR") (to_be_bytes w8 1))

text_front : (parts : List SealedFields) → take 9 (store_text parts) ≡ opening
unfolding store_text
text_front parts =
    let count = to_be_bytes w8 (length parts) in
    ap (take 9) (append_assoc opening count (flat_map spelling parts)) ∙ take_at opening (count ++ flat_map spelling parts) 9 opening_long

text_behind : (parts : List SealedFields) → drop 10 (store_text parts) ≡ flat_map spelling parts
unfolding store_text
text_behind parts =
    let count = to_be_bytes w8 (length parts) in
    drop_at (opening ++ count) (flat_map spelling parts) 10 (omega (arith, length-append opening count, opening_long))

text_long : (parts : List SealedFields) → 9 < length (store_text parts)
unfolding store_text
text_long parts =
    let count = to_be_bytes w8 (length parts) in
    omega (arith, length-append (opening ++ count) (flat_map spelling parts), length-append opening count, opening_long)

text_more : (parts : List SealedFields) (given : SealedFields) → length parts + 1 < 256
    → store_text (parts ++ given ∷ []) ≡ opening ++ ((length parts + 1) ∷ []) ++ flat_map spelling parts ++ spelling given
unfolding store_text
text_more parts given few =
    let count : length (parts ++ given ∷ []) ≡ length parts + 1 = length-append parts (given ∷ []) in
    let texts : flat_map spelling (parts ++ given ∷ []) ≡ flat_map spelling parts ++ spelling given
    = flat_map-append spelling parts (given ∷ []) ∙ ap (λ (l : List ℕ). flat_map spelling parts ++ l) (append-nil (spelling given)) in
    ap (λ (n : ℕ). opening ++ to_be_bytes w8 n ++ flat_map spelling (parts ++ given ∷ [])) count
    ∙ ap (λ (l : List ℕ). opening ++ l ++ flat_map spelling (parts ++ given ∷ [])) (one_byte (length parts + 1) few)
    ∙ ap (λ (l : List ℕ). opening ++ ((length parts + 1) ∷ []) ++ l) texts
    ∙ sym (append_assoc (opening ++ ((length parts + 1) ∷ [])) (flat_map spelling parts) (spelling given))

with_text : (parts : List SealedFields) (given : SealedFields) (store part : List ℕ) (count : ℕ) → store ≡ store_text parts → part ≡ spelling given → count ≡ length parts + 1 → count < 256
    → take 9 store ++ (count ∷ []) ++ drop 10 store ++ part ≡ store_text (parts ++ given ∷ [])
with_text parts given store part count text spells is few =
    let front : take 9 store ≡ opening = ap (take 9) text ∙ text_front parts in
    let behind : drop 10 store ≡ flat_map spelling parts = ap (drop 10) text ∙ text_behind parts in
    rw (front, behind, spells, is) (sym (text_more parts given (omega (arith, is, few))))

-- ---- what an install answers

by_taken : (store part : List ℕ) (parts : List SealedFields) (given : SealedFields) → IsTaken store part parts given → parts_with store part ≡ Ok (parts ++ given ∷ [])
by_taken store part parts given t = by_rules store part parts given (length part) t.few t.store_is t.part_is ∙ ap (λ o. parts_by o parts given) t.taken

pub no_room : (store part : List ℕ) (count room : ℕ) → CountsWith store part (Ok count) → room < length store + length part
    → Err (faults.RoomTooShort (length store + length part)) ≡ installed store part room
no_room store part count room (parts, given, taken, is) short =
    sym (ap (written_in room (length store + length part)) (by_taken store part parts given taken) ∙ rw (lt-ltb room (length store + length part) short) refl)

pub some_room : (store part : List ℕ) (count room : ℕ) → CountsWith store part (Ok count) → length store + length part ≤ room → Ok (length store + length part) ≡ installed store part room
some_room store part count room (parts, given, taken, is) long =
    sym (ap (written_in room (length store + length part)) (by_taken store part parts given taken) ∙ rw (le-ltb room (length store + length part) long) refl)

all_one : (s : SealedFields) → Fits s → All Fits (s ∷ [])
all_one s fits zero d lt = fits
all_one s fits (suc k) d lt = absurd (omega (arith, lt))

store_spells : (store : List ℕ) → IsBytes store → (parts : List SealedFields) → value_of (store_layout store 0) ≡ Ok parts → (store ≡ store_text parts) × All Fits parts
store_spells store fits parts is = found store parts (store_layout store 0) fits refl is

part_spells : (part : List ℕ) → IsBytes part → (given : SealedFields) → part_alone part 0 ≡ Ok (given, length part) → (part ≡ spelling given) × Fits given
part_spells part fits given is =
    let alone = alone_ok part (sealed part 0) (given, length part) refl is in
    let one = spelled part 0 fits given (length part) alone.0 in
    (whole_text part (spelling given) one.text one.len, one.fits)

pub store_head_long : (store part : List ℕ) (count : ℕ) → IsBytes store → CountsWith store part (Ok count) → 9 < length store
store_head_long store part count fits (parts, given, taken, is) =
    let text = ap length (store_spells store fits parts taken.store_is).0 in
    omega (arith, text, text_long parts)

pub is-installed : (store part new : List ℕ) (count : ℕ) → IsBytes store → IsBytes part → CountsWith store part (Ok count) → count < 256
    → take (length store + length part) new ≡ take 9 store ++ (count ∷ []) ++ drop 10 store ++ part → IsInstalled store part new (length store + length part)
is-installed store part new count store_fits part_fits (parts, given, taken, is) few written =
    let of_store = store_spells store store_fits parts taken.store_is in
    let of_part = part_spells part part_fits given taken.part_is in
    let text = written ∙ with_text parts given store part count of_store.0 of_part.0 is few in
    let longer : IsStore (parts ++ given ∷ []) = taken-store parts given (store-chain store parts taken.store_is) taken.taken in
    let fit : All Fits (parts ++ given ∷ []) = All-append Fits parts (given ∷ []) of_store.1 (all_one given of_part.1) in
    record {
      parts = parts;
      given = given;
      taken = taken;
      spelled = of_part.0;
      length_is = refl;
      text = text;
      again = ap (λ (l : List ℕ). value_of (store_layout l 0)) text ∙ store-value (parts ++ given ∷ []) longer.chain longer.some longer.few fit;
    }
