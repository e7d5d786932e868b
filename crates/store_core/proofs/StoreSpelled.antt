-- What is read as a chain is spelled as its text, and each of its parts fits.
use Rattle.std.proofs.Common.{◌≡◌, ℕ, zero, suc, ◌+◌, ◌-◌, ◌≤◌, ◌^◌, Bool, true, false, cond, List, [], ◌∷◌, ◌++◌, length, take, drop, Option, Some, None}
use Rattle.std.proofs.Common.{Result, Ok, Err, IfOk, refl, sym, ap, ◌∙◌, subst, append_assoc, arith}
use Rattle.std.specs.Prelude.{All, codes, flat_map}
use Rattle.std.specs.Int.{w8, to_be_bytes}
use Rattle.std.specs.Str.{bytes_eq}
use Rattle.std.proofs.Math.Seq.{take-add}
use Rattle.std.proofs.lemmas.Bool.{ltb-false}
use Rattle.std.proofs.lemmas.List.{append-nil, get_or-drop, length-drop, take_all}
use Rattle.std.proofs.lemmas.Slice.Eq.{bytes_eq-Decides}
use Rattle.octets_core.specs.Layout.{◌>>=◌, whole, embedded, from_there}
use Rattle.octets_core.specs.Reading.{GivesUnless, magic, number, end, value_of}
use Rattle.octets_core.specs.declared.field.Field.TheVariants as fields
use Rattle.octets_core.specs.declared.fault.LayoutFault.{LayoutFault}
use Rattle.octets_core.proofs.Fields.{ok_is, then_read-ok, mapped-ok}
use Rattle.octets_core.proofs.Texts.{IsBytes, Leaves, Takes, Takes-as, ◌>>>◌, ◌>>-◌, whole-leaves, bytes_field-leaves, number_field-leaves, mapped-leaves, wide8}
use Rattle.ident_core.specs.declared.kind.Kind.{Kind}
use Rattle.ident_core.specs.declared.kind.Kind.TheVariants as kinds
use Rattle.part_text.specs.SealedFields.{SealedFields}
use Rattle.part_text.specs.PartLayout.{part}
use Rattle.part_text.specs.PartText.{spelling}
use Rattle.part_text.specs.Fitting.{Fits}
use Rattle.part_text.proofs.PartTexts.{part-leaves}
use Rattle.store_core.specs.declared.chain.Refusal.{Refusal}
use Rattle.store_core.specs.declared.fault.StoreFault.{StoreFault}
use Rattle.store_core.specs.declared.fault.StoreFault.TheVariants as faults
use Rattle.store_core.specs.Chain.{refusal_of}
use Rattle.store_core.specs.StoreLayout.{moved, fielded, begins, first_part, takes, chain, store_parts, store, store_text}

-- ---- a part in its place

from_there-ok : {E F A : Type 0} (moves : ℕ → E → F) (at : ℕ) (r : Result (A × ℕ) E) (x : A × ℕ) → from_there moves at r ≡ Ok x → (y : A × ℕ) × (r ≡ Ok y) × ((y.0, at + y.1) ≡ x)
from_there-ok {E} {F} {A} moves at (Ok y) x h = (y, refl, ok_is {E = F} (y.0, at + y.1) x h)
from_there-ok {E} {F} {A} moves at (Err e) x h = absurd cc

bytes-behind : (bytes : List ℕ) (at : ℕ) → IsBytes bytes → IsBytes (drop at bytes)
bytes-behind bytes at fits i = rw get_or-drop (fits (at + i))

abbrev IsPlaced : List ℕ → ℕ → SealedFields → ℕ → Type 0
IsPlaced bytes at s end = Takes bytes at (spelling s) end × Fits s

placed-leaves : (bytes : List ℕ) → IsBytes bytes → (at : ℕ) → at ≤ length bytes → Leaves (embedded moved part) bytes at (IsPlaced bytes at)
placed-leaves bytes fits at le = record {
  each = λ x h.
      let (y, read, is) = from_there-ok moved at (part (drop at bytes) 0) x h in
      let l = (part-leaves (drop at bytes) (bytes-behind bytes at fits)).each y read in
      let spelled : take (at + y.1) bytes ≡ take at bytes ++ spelling y.0 = take-add at y.1 bytes ∙ ap (λ (t : List ℕ). take at bytes ++ t) l.0.parts in
      subst (λ (z : SealedFields × ℕ). IsPlaced bytes at z.0 z.1) is (record { parts = spelled; room = omega (arith, l.0.room, length-drop at bytes) }, l.1);
}

begins-leaves : (k : Kind) (bytes : List ℕ) (at : ℕ) → Leaves (begins k) bytes at (λ t end. end ≡ at)
begins-leaves kinds.Snapshot bytes at = whole-leaves tt bytes at _ refl
begins-leaves kinds.Delta bytes at = record { each = λ x h. absurd cc }

takes-leaves : (o : Option Refusal) (bytes : List ℕ) (at : ℕ) → Leaves (takes o) bytes at (λ t end. end ≡ at)
takes-leaves None bytes at = whole-leaves tt bytes at _ refl
takes-leaves (Some why) bytes at = record { each = λ x h. absurd cc }

-- ---- parts, one after the other

-- these parts, and some behind them that lie there
abbrev AreRead : List ℕ → ℕ → List SealedFields → ℕ → List SealedFields → ℕ → Type 0
AreRead bytes at parts n list end = (more : List SealedFields) × (list ≡ parts ++ more) × Takes bytes at (flat_map spelling more) end × All Fits more × (length more ≡ n)

all-then : (s : SealedFields) (more : List SealedFields) → Fits s → All Fits more → All Fits (s ∷ more)
all-then s more one all zero d lt = one
all-then s more one all (suc k) d lt = all k d (omega arith)

none-read : (bytes : List ℕ) (at : ℕ) (parts : List SealedFields) → at ≤ length bytes → AreRead bytes at parts 0 parts at
none-read bytes at parts le = ([], sym (append-nil parts), record { parts = sym (append-nil (take at bytes)); room = le }, λ k d lt. absurd (omega arith), refl)

one-read : (bytes : List ℕ) (at p q : ℕ) (parts : List SealedFields) (s : SealedFields) (n : ℕ) (list : List SealedFields) (end : ℕ) → IsPlaced bytes at s p
    → q ≡ p → AreRead bytes q (parts ++ s ∷ []) n list end
    → AreRead bytes at parts (suc n) list end
one-read bytes at p q parts s n list stop one same (more, is, rest, all, count) =
    (s ∷ more, is ∙ append_assoc parts (s ∷ []) more, subst (Takes bytes at (spelling s)) (sym same) one.0 >>> rest, all-then s more one.1 all, ap suc count)

chain-leaves : (n : ℕ) (parts : List SealedFields) (bytes : List ℕ) → IsBytes bytes → (at : ℕ) → at ≤ length bytes → Leaves (chain n parts) bytes at (AreRead bytes at parts n)
unfolding chain
chain-leaves zero parts bytes fits at le = whole-leaves parts bytes at _ (none-read bytes at parts le)
chain-leaves (suc n) parts bytes fits at le =
    placed-leaves bytes fits at le >>- λ s p a.
    takes-leaves (refusal_of parts s) bytes p >>- λ t q b.
    record { each = λ x h. one-read bytes at p q parts s n x.0 x.1 a b ((chain-leaves n (parts ++ s ∷ []) bytes fits q (let room = a.0.room in omega arith)).each x h) }

first_part-leaves : (bytes : List ℕ) → IsBytes bytes → (at : ℕ) → at ≤ length bytes → Leaves first_part bytes at (AreRead bytes at [] 1)
unfolding first_part
first_part-leaves bytes fits at le =
    placed-leaves bytes fits at le >>- λ s p a.
    begins-leaves s.part.head.kind bytes p >>- λ t q b.
    whole-leaves (s ∷ []) bytes q _ (one-read bytes at p q [] s 0 (s ∷ []) q a b (none-read bytes q (s ∷ []) (let room = a.0.room in omega arith)))

-- ---- a store

is_one : (n : ℕ) → 1 ≤ n → n ≤ 1 → n ≡ 1
is_one n low high = omega arith

-- the first part, and the others
both-read : (bytes : List ℕ) (at p count : ℕ) (first : List SealedFields) (list : List SealedFields) (end : ℕ) → 1 ≤ count → AreRead bytes at [] 1 first p → AreRead bytes p first (count - 1) list end
    → Takes bytes at (flat_map spelling list) end × All Fits list × (length list ≡ count)
both-read bytes at p count first list end some ([], is, taken, fits, one) rest = absurd (omega arith)
both-read bytes at p count first list end some (s ∷ x ∷ xs, is, taken, fits, one) rest = absurd (omega arith)
both-read bytes at p count first list end some (s ∷ [], is, taken, fits, one) (more, is_more, rest, all, len) =
    let whole_list : list ≡ s ∷ more = is_more ∙ ap (λ (l : List SealedFields). l ++ more) is in
    let text : spelling s ++ [] ≡ spelling s = append-nil (spelling s) in
    rw whole_list (Takes-as (spelling s ++ []) (spelling s) text taken >>> rest, all-then s more (fits 0 s (omega arith)) all, omega arith)

store_parts-leaves : (bytes : List ℕ) → IsBytes bytes → Leaves store_parts bytes 0 (λ list end. Takes bytes 0 (store_text list) end × All Fits list)
unfolding store_parts store_text
store_parts-leaves bytes fits =
    mapped-leaves faults.Layout (magic fields.StoreMagic (codes "CLUBSTOR")) bytes 0 _ (bytes_field-leaves _ _ 8 (bytes_eq (codes "CLUBSTOR")) bytes 0) >>- λ begin p a.
    mapped-leaves faults.Layout (number fields.StoreVersion w8 1 1) bytes p _ (number_field-leaves _ _ w8 (2 ^ 8) 1 1 wide8 bytes fits p) >>- λ version q b.
    mapped-leaves faults.Layout (number fields.StoreCount w8 1 64) bytes q _ (number_field-leaves _ _ w8 (2 ^ 8) 1 64 wide8 bytes fits q) >>- λ count r c.
    first_part-leaves bytes fits r c.takes.room >>- λ first s d.
    record {
      each = λ x h.
          let e = both-read bytes r s count first x.0 x.1 c.from_low d ((chain-leaves (count - 1) first bytes fits s d.2.room).each x h) in (
            Takes-as begin (codes "CLUBSTOR") (sym ((bytes_eq-Decides (codes "CLUBSTOR") begin).0 a.passed)) a.takes
                >>> Takes-as (to_be_bytes w8 version) (to_be_bytes w8 1) (ap (to_be_bytes w8) (is_one version b.from_low b.to_high)) b.takes
                >>> Takes-as (to_be_bytes w8 count) (to_be_bytes w8 (length x.0)) (ap (to_be_bytes w8) (sym e.2)) c.takes
                >>> e.0,
            e.1,
          );
    }

not_left : (b : Bool) (e : LayoutFault) (y x : Unit {0} × ℕ) → cond b (Err e) (Ok y) ≡ Ok x → b ≡ false
not_left true e y x h = absurd cc
not_left false e y x h = refl

-- no byte is left
at_end : (bytes : List ℕ) (at : ℕ) (x : Unit {0} × ℕ) → end bytes at ≡ Ok x → length bytes ≤ at
at_end bytes at x h = ltb-false at (length bytes) (not_left _ _ _ x h)

pub store-spelled : (bytes : List ℕ) → IsBytes bytes → (x : List SealedFields × ℕ) → store bytes 0 ≡ Ok x → (bytes ≡ store_text x.0) × All Fits x.0
unfolding store
store-spelled bytes fits x h =
    let a = then_read-ok (store_parts bytes 0) (λ parts. fielded end >>= λ nothing. whole parts) bytes x h in
    let b = then_read-ok (fielded end bytes a.0.1) (λ nothing. whole a.0.0) bytes x a.2 in
    let l = (store_parts-leaves bytes fits).each a.0 a.1 in
    let is = ok_is {E = StoreFault} (a.0.0, b.0.1) x b.2 in
    let over : length bytes ≤ a.0.1 = at_end bytes a.0.1 b.0 (mapped-ok faults.Layout end bytes a.0.1 b.0 b.1) in
    let text : bytes ≡ store_text a.0.0 = sym (take_all a.0.1 bytes over) ∙ l.0.parts in
    subst (λ (z : List SealedFields × ℕ). (bytes ≡ store_text z.0) × All Fits z.0) is (text, l.1)

pub found : (bytes : List ℕ) (parts : List SealedFields) (r : Result (List SealedFields × ℕ) StoreFault) → IsBytes bytes → store bytes 0 ≡ r
    → value_of r ≡ Ok parts → (bytes ≡ store_text parts) × All Fits parts
found bytes parts (Err e) fits read h = absurd cc
found bytes parts (Ok x) fits read h =
    subst (λ (l : List SealedFields). (bytes ≡ store_text l) × All Fits l) (ok_is {E = StoreFault} x.0 parts h) (store-spelled bytes fits x read)

-- of what a decoder gives
pub found-of : (bytes : List ℕ) (r : Result (List SealedFields) StoreFault) → IsBytes bytes → GivesUnless faults.NoMemory (λ (parts : List SealedFields). parts) r (value_of (store bytes 0))
    → IfOk r (λ parts. (bytes ≡ store_text parts) × All Fits parts)
found-of bytes (Err e) fits h = tt
found-of bytes (Ok parts) fits h = found bytes parts (store bytes 0) fits refl h
