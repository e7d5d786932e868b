-- Laws of any layout, on values and their texts: what is spelled so is read, whatever follows, and what is read is
-- spelled so.
use Rattle.std.proofs.Common.{eq-eqb, ◌≡◌, ℕ, zero, suc, ◌+◌, ◌^◌, ◌≤◌, ◌<◌, Bool, true, false, ltb, List, [], ◌∷◌, ◌++◌, length, get_or, take, drop, Result}
use Rattle.std.proofs.Common.{Ok, refl, sym, ap, subst, ◌∙◌, append_assoc, length-append, arith, inl, inr}
use Rattle.std.specs.Prelude.{flat_map}
use Rattle.std.specs.Int.{Width, w8, w16, w32, w64, byte_len, from_be_bytes, to_be_bytes}
use Rattle.std.specs.Str.{bytes_eq}
use Rattle.std.proofs.lemmas.Bool.{cases_lt, le-ltb, le-leb}
use Rattle.std.proofs.lemmas.List.{take_at, drop_at, length-take, length-drop, get_or-drop, get_or-take, get_or_past, append-nil}
use Rattle.std.proofs.Math.Seq.{take-add}
use Rattle.std.proofs.lemmas.Nat.{be_bytes_2, be_bytes_4, be_bytes_8, from_be_bytes-to_be_bytes_2, from_be_bytes-to_be_bytes_4, from_be_bytes-to_be_bytes_8}
use Rattle.octets_core.specs.Position.{piece}
use Rattle.octets_core.specs.Linked.{Linked}
use Rattle.octets_core.specs.Layout.{Layout, then_read, ◌>>=◌, whole, within, bytes_field, number_field, sum_field, repeated, embedded, from_there, mapped, with_fault}
use Rattle.octets_core.proofs.Fields.{then_read-ok, bytes_field-ok, number_field-ok, ok_is, mapped-ok}

abbrev pub IsBytes : List ℕ → Type 0
IsBytes bytes = (i : ℕ) → get_or bytes i 0 < 256

pub IsBytes-piece : (width : ℕ) (bytes : List ℕ) (at : ℕ) → IsBytes bytes → IsBytes (piece width bytes at)
IsBytes-piece width bytes at h i =
    elim (cases_lt i width) [
      | inl lt ↦ rw (get_or-take width (drop at bytes) i 0 lt, get_or-drop) (h (at + i))
      | inr le ↦ rw (get_or_past (take width (drop at bytes)) i 0 (omega (arith, length-take width (drop at bytes)))) (omega arith)
    ]

pub length-piece : (width : ℕ) (bytes : List ℕ) (at : ℕ) → at + width ≤ length bytes → length (piece width bytes at) ≡ width
length-piece width bytes at room = omega (arith, length-take width (drop at bytes), length-drop at bytes)

pub bytes_eq-refl : (l : List ℕ) → bytes_eq l l ≡ true
bytes_eq-refl [] = refl
bytes_eq-refl (x ∷ l) = rw (eq-eqb x x refl, bytes_eq-refl l) refl

-- ---- numbers

pub record IsWide (w : Width) (limit : ℕ) : Type 0 where
  pub len : (n : ℕ) → length (to_be_bytes w n) ≡ byte_len w
  pub back : (bytes : List ℕ) → length bytes ≡ byte_len w → IsBytes bytes → to_be_bytes w (from_be_bytes w bytes) ≡ bytes
  pub again : (n : ℕ) → n < limit → from_be_bytes w (to_be_bytes w n) ≡ n

byte_back : (bytes : List ℕ) → length bytes ≡ 1 → IsBytes bytes → to_be_bytes w8 (from_be_bytes w8 bytes) ≡ bytes
byte_back [] len fits = absurd (omega arith)
byte_back (b ∷ []) len fits = ap (λ (n : ℕ). n ∷ []) (omega (arith, fits 0))
byte_back (b ∷ c ∷ bytes) len fits = absurd (omega arith)

pub wide8 : IsWide w8 (2 ^ 8)
wide8 = record { len = λ n. refl; back = byte_back; again = λ n lt. omega arith }

pub wide16 : IsWide w16 (2 ^ 16)
wide16 = record { len = λ n. refl; back = λ bytes len fits. be_bytes_2 bytes _ len fits refl; again = λ n lt. from_be_bytes-to_be_bytes_2 n lt }

pub wide32 : IsWide w32 (2 ^ 32)
wide32 = record { len = λ n. refl; back = λ bytes len fits. be_bytes_4 bytes _ len fits refl; again = λ n lt. from_be_bytes-to_be_bytes_4 n lt }

pub wide64 : IsWide w64 (2 ^ 64)
wide64 = record { len = λ n. refl; back = λ bytes len fits. be_bytes_8 bytes _ len fits refl; again = λ n lt. from_be_bytes-to_be_bytes_8 n lt }

-- ---- what is spelled so is read

-- This text is read as the value, behind what came before it, whatever follows.
pub record IsRead {E A : Type 0} (layout : Layout E A) (before : List ℕ) (x : A) (text : List ℕ) : Type 0 where
  pub each : (rest : List ℕ) → layout (before ++ (text ++ rest)) (length before) ≡ Ok (x, length before + length text)

-- where the text of a field lies
piece-text : (width : ℕ) (before text rest : List ℕ) → length text ≡ width → piece width (before ++ (text ++ rest)) (length before) ≡ text
piece-text width before text rest len = ap (take width) (drop_at before (text ++ rest) (length before) refl) ∙ take_at text rest width len

room-text : (width : ℕ) (before text rest : List ℕ) → length text ≡ width → ltb (length (before ++ (text ++ rest))) (length before + width) ≡ false
room-text width before text rest len = le-ltb _ _ (omega (arith, len, length-append before (text ++ rest), length-append text rest))

pub bytes_field-read : {E : Type 0} (short wrong : ℕ → E) (width : ℕ) (test : List ℕ → Bool) (before text : List ℕ) → length text ≡ width → test text ≡ true
    → IsRead (bytes_field short wrong width test) before text text
unfolding bytes_field
bytes_field-read short wrong width test before text len passed = record {
  each = λ rest. rw (room-text width before text rest len, piece-text width before text rest len, passed, len) refl;
}

within-true : (low high n : ℕ) → low ≤ n → n ≤ high → within low high n ≡ true
within-true low high n a b = rw (le-leb low n a, le-leb n high b) refl

pub number_field-read : {E : Type 0} (short wrong : ℕ → E) (w : Width) (limit low high : ℕ) → IsWide w limit → (before : List ℕ) (n : ℕ) → low ≤ n → n ≤ high → n < limit
    → IsRead (number_field short wrong w low high) before n (to_be_bytes w n)
unfolding number_field
number_field-read short wrong w limit low high wide before n from_low to_high fits = record {
  each = λ rest. rw (
    room-text (byte_len w) before (to_be_bytes w n) rest (wide.len n),
    piece-text (byte_len w) before (to_be_bytes w n) rest (wide.len n),
    wide.again n fits,
    within-true low high n from_low to_high,
    wide.len n,
  ) refl;
}

pub whole-read : {E A : Type 0} (before : List ℕ) (x : A) → IsRead {E = E} (whole x) before x []
whole-read before x = record { each = λ rest. ap (λ (n : ℕ). Ok (x, n)) (omega arith) }

-- one after the other
pub then-read : {E A B : Type 0} (first : Layout E A) (next : A → Layout E B) (before : List ℕ) (x : A) (y : B) (t u : List ℕ)
    → IsRead first before x t → IsRead (next x) (before ++ t) y u → IsRead (first >>= next) before y (t ++ u)
then-read {E} {A} {B} first next before x y t u one two = record {
  each = λ rest.
      let regrouped : before ++ ((t ++ u) ++ rest) ≡ before ++ (t ++ (u ++ rest)) = ap (λ (l : List ℕ). before ++ l) (append_assoc t u rest) in
      let again : before ++ (t ++ (u ++ rest)) ≡ (before ++ t) ++ (u ++ rest) = sym (append_assoc before t (u ++ rest)) in
      let second : next x (before ++ (t ++ (u ++ rest))) (length before + length t) ≡ Ok (y, (length before + length t) + length u)
      = rw (again, ← length-append before t) (two.each rest) in
      ap (λ (l : List ℕ). (first >>= next) l (length before)) regrouped
      ∙ ap (λ (r : Result (A × ℕ) E). then_read r next (before ++ (t ++ (u ++ rest)))) (one.each (u ++ rest))
      ∙ second ∙ ap (λ (n : ℕ). Ok (y, n)) (omega (arith, length-append t u));
}

-- What is left to read, behind a text that was read, makes this text of it.
pub record Continues {E A : Type 0} (layout : Layout E A) (before sofar : List ℕ) (y : A) (text : List ℕ) : Type 0 where
  pub more : List ℕ
  pub is : text ≡ sofar ++ more
  pub read : IsRead layout (before ++ sofar) y more

-- one field further
pub reads : {E A B : Type 0} {first : Layout E A} (next : A → Layout E B) {before sofar : List ℕ} {x : A} {y : B} {t text : List ℕ}
    → IsRead first (before ++ sofar) x t → Continues (next x) before (sofar ++ t) y text → Continues (first >>= next) before sofar y text
reads {E} {A} {B} {first} next {before} {sofar} {x} {y} {t} {text} one rest = record {
  more = t ++ rest.more;
  is = rest.is ∙ append_assoc sofar t rest.more;
  read = then-read first next (before ++ sofar) x y t rest.more one (subst (λ (l : List ℕ). IsRead (next x) l y rest.more) (sym (append_assoc before sofar t)) rest.read);
}

-- the last, which stands for the value
pub done : {E A : Type 0} {before text : List ℕ} (x : A) → Continues {E = E} (whole x) before text x text
done {E} {A} {before} {text} x = record { more = []; is = sym (append-nil text); read = whole-read (before ++ text) x }

pub from_front : {E A : Type 0} {layout : Layout E A} {before : List ℕ} {x : A} {text : List ℕ} → Continues layout before [] x text → IsRead layout before x text
from_front {E} {A} {layout} {before} {x} {text} c = subst (λ (l : List ℕ). IsRead layout before x l) (sym c.is) (subst (λ (b : List ℕ). IsRead layout b x c.more) (append-nil before) c.read)

-- the last, and the value that it makes whole
pub ends-read : {E A B : Type 0} {first : Layout E A} (f : A → B) {before : List ℕ} {x : A} {t : List ℕ} → IsRead first before x t → IsRead (first >>= λ a. whole (f a)) before (f x) t
ends-read {E} {A} {B} {first} f {before} {x} {t} one =
    subst (λ (l : List ℕ). IsRead (first >>= λ a. whole (f a)) before (f x) l) (append-nil t) (then-read first (λ a. whole (f a)) before x (f x) t [] one (whole-read (before ++ t) (f x)))

pub repeated-read : {E S X : Type 0} (item : S → Layout E X) (next : S → X → S) (P : S → X → Type 0) (text : X → List ℕ)
    → ((s : S) (before : List ℕ) (x : X) → P s x → IsRead (item s) before x (text x))
    → (s : S) (before : List ℕ) (xs : List X) → Linked P next s xs → IsRead (repeated item next (length xs) s) before xs (flat_map text xs)
unfolding repeated
repeated-read item next P text each s before [] linked = whole-read before []
repeated-read item next P text each s before (x ∷ xs) linked =
    then-read (item s) (λ a. repeated item next (length xs) (next s a) >>= λ others. whole (a ∷ others)) before x (x ∷ xs) (text x) (flat_map text xs)
    (each s before x linked.0)
    (ends-read (λ others. x ∷ others) (repeated-read item next P text each (next s x) (before ++ text x) xs linked.1))

pub sum_field-read : {E : Type 0} (short wrong : ℕ → E) (width : ℕ) (sum : List ℕ → List ℕ) → ((b : List ℕ) → length (sum b) ≡ width) → (before : List ℕ)
    → IsRead (sum_field short wrong width sum) before (sum before) (sum before)
unfolding sum_field
sum_field-read {E} short wrong width sum len before = record {
  each = λ rest.
      let front : take (length before) (before ++ (sum before ++ rest)) ≡ before = take_at before (sum before ++ rest) (length before) refl in
      ap (λ (b : List ℕ). bytes_field short wrong width (bytes_eq (sum b)) (before ++ (sum before ++ rest)) (length before)) front
      ∙ (bytes_field-read short wrong width (bytes_eq (sum before)) before (sum before) (len before) (bytes_eq-refl (sum before))).each rest;
}

-- a layout with offsets of its own, behind what came before
pub embedded-read : {E F A : Type 0} (moved : ℕ → E → F) (inner : Layout E A) (before : List ℕ) (x : A) (text : List ℕ) → IsRead inner [] x text → IsRead (embedded moved inner) before x text
embedded-read {E} {F} {A} moved inner before x text h = record {
  each = λ rest.
      ap (λ (b : List ℕ). from_there moved (length before) (inner b 0)) (drop_at before (text ++ rest) (length before) refl) ∙ ap
      (from_there moved (length before)) (h.each rest) ∙ ap (λ (n : ℕ). Ok (x, n)) (omega arith);
}

-- under another type of faults
pub mapped-read : {E F A : Type 0} (wrap : E → F) (layout : Layout E A) (before : List ℕ) (x : A) (text : List ℕ) → IsRead layout before x text → IsRead (mapped wrap layout) before x text
mapped-read {E} {F} {A} wrap layout before x text h = record { each = λ rest. ap (λ (r : Result (A × ℕ) E). with_fault wrap r) (h.each rest) }

-- ---- what is read is spelled so

-- this text lies from one place to another
pub record Takes (bytes : List ℕ) (at : ℕ) (text : List ℕ) (end : ℕ) : Type 0 where
  pub parts : take end bytes ≡ take at bytes ++ text
  pub room : end ≤ length bytes

infixl 20 ◌>>>◌
pub ◌>>>◌ : {bytes : List ℕ} {p : ℕ} {t : List ℕ} {q : ℕ} {u : List ℕ} {r : ℕ} → Takes bytes p t q → Takes bytes q u r → Takes bytes p (t ++ u) r
◌>>>◌ {bytes} {p} {t} {q} {u} {r} one two = record { parts = two.parts ∙ ap (λ (l : List ℕ). l ++ u) one.parts ∙ append_assoc (take p bytes) t u; room = two.room }

Takes-piece : (bytes : List ℕ) (at width : ℕ) → at + width ≤ length bytes → Takes bytes at (piece width bytes at) (at + width)
Takes-piece bytes at width room = record { parts = take-add at width bytes; room = room }

pub Takes-as : {bytes : List ℕ} {p : ℕ} {q : ℕ} (t u : List ℕ) → t ≡ u → Takes bytes p t q → Takes bytes p u q
Takes-as {bytes} {p} {q} t u same one = subst (λ (l : List ℕ). Takes bytes p l q) same one

-- Q holds of what is read there, and of the place behind it
pub record Leaves {E A : Type 0} (layout : Layout E A) (bytes : List ℕ) (at : ℕ) (Q : A → ℕ → Type 0) : Type 0 where
  pub each : (x : A × ℕ) → layout bytes at ≡ Ok x → Q x.0 x.1

infixl 10 ◌>>-◌
pub ◌>>-◌ : {E A B : Type 0} {first : Layout E A} {next : A → Layout E B} {bytes : List ℕ} {at : ℕ} {Q : A → ℕ → Type 0} {R : B → ℕ → Type 0}
    → Leaves first bytes at Q → ((x : A) (p : ℕ) → Q x p → Leaves (next x) bytes p R) → Leaves (first >>= next) bytes at R
◌>>-◌ {E} {A} {B} {first} {next} {bytes} {at} {Q} {R} one rest = record {
  each = λ y h. let a = then_read-ok (first bytes at) next bytes y h in (rest a.0.0 a.0.1 (one.each a.0 a.1)).each y a.2;
}

pub whole-leaves : {E A : Type 0} (x : A) (bytes : List ℕ) (at : ℕ) (R : A → ℕ → Type 0) → R x at → Leaves {E = E} (whole x) bytes at R
whole-leaves {E} {A} x bytes at R holds = record { each = λ y h. subst (λ (z : A × ℕ). R z.0 z.1) (ok_is {E = E} (x, at) y h) holds }

-- what a field of bytes leaves
pub record TakesBytes (width : ℕ) (test : List ℕ → Bool) (bytes : List ℕ) (at : ℕ) (x : List ℕ) (end : ℕ) : Type 0 where
  pub takes : Takes bytes at x end
  pub passed : test x ≡ true
  pub len : length x ≡ width

pub bytes_field-leaves : {E : Type 0} (short wrong : ℕ → E) (width : ℕ) (test : List ℕ → Bool) (bytes : List ℕ) (at : ℕ)
    → Leaves (bytes_field short wrong width test) bytes at (TakesBytes width test bytes at)
bytes_field-leaves short wrong width test bytes at = record {
  each = λ x h.
      let f = bytes_field-ok short wrong width test bytes at x h in
      let len : length (piece width bytes at) ≡ width = length-piece width bytes at f.room in
      record { takes = rw (← f.value, ← f.next) (Takes-piece bytes at width f.room); passed = rw (← f.value) f.passed; len = rw (← f.value) len };
}

pub record TakesNumber (w : Width) (low high : ℕ) (bytes : List ℕ) (at n end : ℕ) : Type 0 where
  pub takes : Takes bytes at (to_be_bytes w n) end
  pub from_low : low ≤ n
  pub to_high : n ≤ high

pub number_field-leaves : {E : Type 0} (short wrong : ℕ → E) (w : Width) (limit low high : ℕ) → IsWide w limit → (bytes : List ℕ) → IsBytes bytes → (at : ℕ)
    → Leaves (number_field short wrong w low high) bytes at (TakesNumber w low high bytes at)
number_field-leaves short wrong w limit low high wide bytes fits at = record {
  each = λ x h.
      let f = number_field-ok short wrong w low high bytes at x h in
      let len : length (piece (byte_len w) bytes at) ≡ byte_len w = length-piece (byte_len w) bytes at f.room in
      let text : to_be_bytes w x.0 ≡ piece (byte_len w) bytes at = rw (← f.value) (wide.back (piece (byte_len w) bytes at) len (IsBytes-piece (byte_len w) bytes at fits)) in
      record { takes = rw (text, ← f.next) (Takes-piece bytes at (byte_len w) f.room); from_low = f.from_low; to_high = f.to_high };
}

pub sum_field-leaves : {E : Type 0} (short wrong : ℕ → E) (width : ℕ) (sum : List ℕ → List ℕ) (bytes : List ℕ) (at : ℕ)
    → Leaves (sum_field short wrong width sum) bytes at (TakesBytes width (bytes_eq (sum (take at bytes))) bytes at)
unfolding sum_field
sum_field-leaves short wrong width sum bytes at = record { each = (bytes_field-leaves short wrong width (bytes_eq (sum (take at bytes))) bytes at).each }

pub repeated-leaves : {E S X : Type 0} (item : S → Layout E X) (next : S → X → S) (P : S → X → Type 0) (text : X → List ℕ) (bytes : List ℕ)
    → ((s : S) (at : ℕ) → Leaves (item s) bytes at (λ x end. Takes bytes at (text x) end × P s x))
    → (n : ℕ) (s : S) (at : ℕ) → at ≤ length bytes → Leaves (repeated item next n s) bytes at (λ xs end. Takes bytes at (flat_map text xs) end × Linked P next s xs × (length xs ≡ n))
unfolding repeated
repeated-leaves item next P text bytes each zero s at le = whole-leaves [] bytes at _ (record { parts = sym (append-nil (take at bytes)); room = le }, tt, refl)
repeated-leaves item next P text bytes each (suc n) s at le =
    each s at >>- λ x p a.
    repeated-leaves item next P text bytes each n (next s x) p a.0.room >>- λ others q b.
    whole-leaves (x ∷ others) bytes q _ (a.0 >>> b.0, (a.1, b.1), ap suc b.2)

-- under another type of faults
pub mapped-leaves : {E F A : Type 0} (wrap : E → F) (layout : Layout E A) (bytes : List ℕ) (at : ℕ) (Q : A → ℕ → Type 0) → Leaves layout bytes at Q → Leaves (mapped wrap layout) bytes at Q
mapped-leaves wrap layout bytes at Q l = record { each = λ x h. l.each x (mapped-ok wrap layout bytes at x h) }

-- what follows from each fact
pub Linked-weaken : {S X : Type 0} (P Q : S → X → Type 0) (next : S → X → S) → ((s : S) (x : X) → P s x → Q s x) → (s : S) (xs : List X) → Linked P next s xs → Linked Q next s xs
Linked-weaken P Q next f s [] linked = tt
Linked-weaken P Q next f s (x ∷ xs) linked = (f s x linked.0, Linked-weaken P Q next f (next s x) xs linked.1)
