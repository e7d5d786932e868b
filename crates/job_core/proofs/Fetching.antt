-- Layouts read off a feed, one behind another.
use Rattle.std.proofs.Common.{◌≡◌, ℕ, ◌+◌, ◌-◌, ◌≤◌, ◌<◌, Bool, true, false, cond, ltb, leb, ◌&&◌, not, List, [], ◌++◌}
use Rattle.std.proofs.Common.{length, Result, Ok, Err, refl, sym, ap, subst, ◌∙◌, arith, length-append, inl, inr}
use Rattle.std.specs.Prelude.{OnOk}
use Rattle.std.specs.Int.{Width, byte_len, from_be_bytes}
use Rattle.std.proofs.lemmas.Bool.{cases_lt, le-ltb, lt-ltb, le-leb, lt-leb}
use Rattle.std.proofs.lemmas.List.{get_or_append_left, get_or-append_right}
use Rattle.octets_core.specs.Position.{piece, from_three}
use Rattle.octets_core.specs.Layout.{Layout, then_read, ◌>>=◌, whole, bytes_field, number_field, within, with_fault}
use Rattle.octets_core.specs.Reading.{end as end_of}
use Rattle.octets_core.specs.Reading.{fault_at, octets, number, any_key, length_of_three}
use Rattle.octets_core.specs.declared.field.Field.{Field}
use Rattle.octets_core.specs.declared.field.Field.TheVariants as fields
use Rattle.octets_core.specs.declared.fault.LayoutFault.{LayoutFault}
use Rattle.octets_core.specs.declared.fault.Why.TheVariants as why
use Rattle.octets_core.proofs.Fields.{bytes_field-ok, mapped-ok}
use Rattle.outside_core.specs.declared.depot.Depot.{Ghosts}
use Rattle.outside_core.specs.declared.feed.Feed.{Feed}
use Rattle.outside_core.specs.Reads.{ReadFailed}
use Rattle.outside_core.specs.Standing.{depot_of, name_of, place_of, StandsIn}
use Rattle.outside_core.proofs.Effects.{ReadFailed-then}
use Rattle.job_core.specs.declared.fault.JobFault.{JobFault}
use Rattle.job_core.specs.declared.fault.JobFault.TheVariants as faults
use Rattle.job_core.specs.JobLayout.{fielded}
use Rattle.outside_core.specs.Pulling.{Pulled}
use Rattle.job_core.specs.Pulling.{AreBytes, IsOfBytes, NoneFailed, Blames, Says, Lies, Fetches}
use Rattle.outside_core.proofs.Pulling.{pulled-none, pulled-then}
use Rattle.job_core.proofs.Given.{lies-none, lies-first, lies-second, lies-both}

-- ---- bytes

pub bytes-none : AreBytes []
bytes-none = λ i. omega arith

pub bytes-both : (a b : List ℕ) → AreBytes a → AreBytes b → AreBytes (a ++ b)
bytes-both a b one two = λ i.
    elim (cases_lt i (length a)) [
      | inl first ↦ rw (get_or_append_left a b 0 i first) (one i)
      | inr second ↦ rw (get_or-append_right a b (length a) i 0 refl second) (two (i - length a))
    ]

-- ---- steps

pub blames-then : {D X : Type 0} (g : Ghosts D) (old mid new : Feed D) (r : Result X JobFault) → Pulled g old mid → NoneFailed g old mid → Blames g mid new r → Blames g old new r
blames-then g old mid new (Ok x) pulled none blames = blames ∙ none
blames-then g old mid new (Err e) pulled none blames = (
  λ is. ReadFailed-then g (name_of old) (depot_of old) (depot_of mid) (depot_of new) pulled.only_reads none
      (subst (λ (n : List ℕ). ReadFailed g n (depot_of mid) (depot_of new)) pulled.name (blames.0 is)),
  λ not. blames.1 not ∙ none,
)

-- what a layout gives of the feed's file, which are bytes as far as they were read
abbrev pub Tells : {X A : Type 0} → (X → A) → Layout JobFault A → List ℕ → ℕ → ℕ → Result X JobFault → Type 0
Tells view layout file at end (Ok x) = (layout file at ≡ Ok (view x, end)) × AreBytes (piece (end - at) file at)
Tells view layout file at end (Err e) = IsOfBytes e → layout file at ≡ Err e

told-by : {X A : Type 0} (v : X → A) (layout : Layout JobFault A) (file : List ℕ) (at end : ℕ) (given : List ℕ) (ended : Bool) (r : Result X JobFault) → end ≡ at + length given
    → OnOk r (AreBytes given × (ended ≡ false)) → Lies ended file at given → Says v layout file at end r → Tells v layout file at end r
told-by v layout file at end given ended (Ok x) place going lies says =
    let k : length given ≡ end - at = omega (arith, place) in
    (says, subst (λ (n : ℕ). AreBytes (piece n file at)) k (subst (λ (l : List ℕ). AreBytes l) lies.same going.0))
told-by v layout file at end given ended (Err e) place going lies says = says

pub told : {D X A : Type 0} {g : Ghosts D} {v : X → A} {layout : Layout JobFault A} {old new : Feed D} {r : Result X JobFault} → Fetches g v layout old new r
    → (file : List ℕ) → StandsIn g old file → Tells v layout file (place_of old) (place_of new) r
told {D} {X} {A} {g} {v} {layout} {old} {new} {r} it file stands =
    told-by v layout file (place_of old) (place_of new) it.given it.ended r it.place it.going (it.lies file stands) (it.reads file (it.lies file stands))

says-then : {X Y A B : Type 0} (v : X → A) (w : Y → B) (first : Layout JobFault A) (next : A → Layout JobFault B) (file : List ℕ) (at mid end : ℕ) (x : X) (r : Result Y JobFault)
    → Says v first file at mid (Ok x) → Says w (next (v x)) file mid end r → Says w (first >>= next) file at end r
says-then v w first next file at mid end x (Ok y) one two = ap (λ r. then_read r next file) one ∙ two
says-then v w first next file at mid end x (Err e) one two = λ of. ap (λ r. then_read r next file) one ∙ two of

going-then : {Y : Type 0} (a b : List ℕ) (ended : Bool) (r : Result Y JobFault) → AreBytes a → OnOk r (AreBytes b × (ended ≡ false)) → OnOk r (AreBytes (a ++ b) × (ended ≡ false))
going-then a b ended (Ok y) one two = (bytes-both a b one two.0, two.1)
going-then a b ended (Err e) one two = tt

pub fetched-then : {D X Y A B : Type 0} (g : Ghosts D) (v : X → A) (w : Y → B) (first : Layout JobFault A) (next : A → Layout JobFault B) (old mid new : Feed D) (x : X) (r : Result Y JobFault)
    → Fetches g v first old mid (Ok x) → Fetches g w (next (v x)) mid new r → Fetches g w (first >>= next) old new r
fetched-then g v w first next old mid new x r one two = record {
  pulled = pulled-then g old mid new one.pulled two.pulled;
  blames = blames-then g old mid new r one.pulled one.blames two.blames;
  given = one.given ++ two.given;
  ended = two.ended;
  place = omega (arith, one.place, two.place, length-append one.given two.given);
  going = going-then one.given two.given two.ended r one.going.0 two.going;
  lies = λ file stands. lies-both two.ended file (place_of old) (place_of mid) one.given two.given one.place
      (subst (λ (b : Bool). Lies b file (place_of old) one.given) one.going.1 (one.lies file stands)) (two.lies file (one.pulled.stands file stands));
  reads = λ file lies.
      let front = lies-first two.ended file (place_of old) one.given two.given lies in
      says-then v w first next file (place_of old) (place_of mid) (place_of new) x r
      (one.reads file (subst (λ (b : Bool). Lies b file (place_of old) one.given) (sym one.going.1) front))
      (two.reads file (lies-second two.ended file (place_of old) (place_of mid) one.given two.given one.place lies));
}

-- a fault ends the reading
pub fetched-err : {D X Y A B : Type 0} (g : Ghosts D) (v : X → A) (w : Y → B) (first : Layout JobFault A) (next : A → Layout JobFault B) (old new : Feed D) (e : JobFault)
    → Fetches g v first old new (Err e) → Fetches g w (first >>= next) old new (Err e)
fetched-err g v w first next old new e one = record {
  pulled = one.pulled;
  blames = one.blames;
  given = one.given;
  ended = one.ended;
  place = one.place;
  going = tt;
  lies = one.lies;
  reads = λ file lies of. ap (λ r. then_read r next file) (one.reads file lies of);
}

-- nothing is read
pub fetched-whole : {D X A : Type 0} (g : Ghosts D) (v : X → A) (y : A) (feed : Feed D) (x : X) → v x ≡ y → Fetches g v (whole y) feed feed (Ok x)
fetched-whole g v y feed x is = record {
  pulled = pulled-none g feed;
  blames = refl;
  given = [];
  ended = false;
  place = omega arith;
  going = (bytes-none, refl);
  lies = λ file stands. lies-none file (place_of feed) (omega (arith, stands.window.within));
  reads = λ file lies. ap (λ z. Ok (z, place_of feed)) (sym is);
}

-- a fault before anything is read
pub fetched-refused : {D X A : Type 0} (g : Ghosts D) (v : X → A) (layout : Layout JobFault A) (feed : Feed D) (e : JobFault) → (e ≡ faults.ReadFault → ⊥)
    → (IsOfBytes e → (file : List ℕ) → layout file (place_of feed) ≡ Err e) → Fetches g v layout feed feed (Err e)
fetched-refused g v layout feed e not is = record {
  pulled = pulled-none g feed;
  blames = (λ same. absurd (not same), λ other. refl);
  given = [];
  ended = false;
  place = omega arith;
  going = tt;
  lies = λ file stands. lies-none file (place_of feed) (omega (arith, stands.window.within));
  reads = λ file lies of. is of file;
}

says-same : {X A : Type 0} (v : X → A) (one two : Layout JobFault A) (file : List ℕ) (at end : ℕ) (r : Result X JobFault) → two file at ≡ one file at
    → Says v one file at end r → Says v two file at end r
says-same v one two file at end (Ok x) same says = same ∙ says
says-same v one two file at end (Err e) same says = λ of. same ∙ says of

pub fetched-same : {D X A : Type 0} (g : Ghosts D) (v : X → A) (one two : Layout JobFault A) (old new : Feed D) (r : Result X JobFault)
    → ((file : List ℕ) (at : ℕ) → two file at ≡ one file at) → Fetches g v one old new r → Fetches g v two old new r
fetched-same g v one two old new r same it = record {
  pulled = it.pulled;
  blames = it.blames;
  given = it.given;
  ended = it.ended;
  place = it.place;
  going = it.going;
  lies = it.lies;
  reads = λ file lies. says-same v one two file (place_of old) (place_of new) r (same file (place_of old)) (it.reads file lies);
}

-- ---- the same of layouts whose faults are those of their fields

fielded-of : {A B : Type 0} (next : A → Layout LayoutFault B) (file : List ℕ) (r : Result (A × ℕ) LayoutFault)
    → with_fault faults.Layout (then_read r next file) ≡ then_read (with_fault faults.Layout r) (λ x. fielded (next x)) file
fielded-of next file (Ok x) = refl
fielded-of next file (Err e) = refl

pub fielded-then : {D X Y A B : Type 0} (g : Ghosts D) (v : X → A) (w : Y → B) (first : Layout LayoutFault A) (next : A → Layout LayoutFault B) (old mid new : Feed D) (x : X) (r : Result Y JobFault)
    → Fetches g v (fielded first) old mid (Ok x) → Fetches g w (fielded (next (v x))) mid new r → Fetches g w (fielded (first >>= next)) old new r
fielded-then g v w first next old mid new x r one two =
    fetched-same g w (fielded first >>= λ x. fielded (next x)) (fielded (first >>= next)) old new r (λ file at. fielded-of next file (first file at))
    (fetched-then g v w (fielded first) (λ x. fielded (next x)) old mid new x r one two)

pub fielded-err : {D X Y A B : Type 0} (g : Ghosts D) (v : X → A) (w : Y → B) (first : Layout LayoutFault A) (next : A → Layout LayoutFault B) (old new : Feed D) (e : JobFault)
    → Fetches g v (fielded first) old new (Err e) → Fetches g w (fielded (first >>= next)) old new (Err e)
fielded-err g v w first next old new e one =
    fetched-same g w (fielded first >>= λ x. fielded (next x)) (fielded (first >>= next)) old new (Err e) (λ file at. fielded-of next file (first file at))
    (fetched-err g v w (fielded first) (λ x. fielded (next x)) old new e one)

-- ---- fields

-- the field of some bytes, with a test, and what it stands for
abbrev pub tested : {A : Type 0} → Field → ℕ → (List ℕ → Bool) → (List ℕ → A) → Layout LayoutFault A
tested name width test f = bytes_field (fault_at why.Short name) (fault_at why.Value name) width test >>= λ b. whole (f b)

tested-ok : {A : Type 0} (name : Field) (width : ℕ) (test : List ℕ → Bool) (f : List ℕ → A) (file : List ℕ) (at end : ℕ) (b : List ℕ)
    → octets name width file at ≡ Ok (b, end) → test b ≡ true → tested name width test f file at ≡ Ok (f b, end)
unfolding bytes_field
tested-ok name width test f file at end b is passed =
    let k = bytes_field-ok (fault_at why.Short name) (fault_at why.Value name) width (λ b. true) file at (b, end) is in
    rw (le-ltb (length file) (at + width) k.room, k.value, passed, k.next) refl

tested-wrong : {A : Type 0} (name : Field) (width : ℕ) (test : List ℕ → Bool) (f : List ℕ → A) (file : List ℕ) (at end : ℕ) (b : List ℕ)
    → octets name width file at ≡ Ok (b, end) → test b ≡ false → tested name width test f file at ≡ Err (fault_at why.Value name at)
unfolding bytes_field
tested-wrong name width test f file at end b is failed =
    let k = bytes_field-ok (fault_at why.Short name) (fault_at why.Value name) width (λ b. true) file at (b, end) is in
    rw (le-ltb (length file) (at + width) k.room, k.value, failed) refl

tested-err : {A : Type 0} (name : Field) (width : ℕ) (test : List ℕ → Bool) (f : List ℕ → A) (file : List ℕ) (at : ℕ) (e : JobFault)
    → fielded (octets name width) file at ≡ Err e → fielded (tested name width test f) file at ≡ Err e
unfolding bytes_field
tested-err name width test f file at e is =
    elim (cases_lt (length file) (at + width)) [
      | inl lt ↦
          let short : fielded (octets name width) file at ≡ Err (faults.Layout (fault_at why.Short name at)) = rw (lt-ltb (length file) (at + width) lt) refl in
          let same : faults.Layout (fault_at why.Short name at) ≡ e = cc in
          rw (lt-ltb (length file) (at + width) lt) (ap (λ (d : JobFault). Err d) same)
      | inr le ↦ let not : fielded (octets name width) file at ≡ Ok (piece width file at, at + width) = rw (le-ltb (length file) (at + width) le) refl in absurd cc
    ]

pub fetched-tested : {D X A : Type 0} (g : Ghosts D) (v : X → A) (name : Field) (width : ℕ) (test : List ℕ → Bool) (f : List ℕ → A) (old new : Feed D) (out : List ℕ) (x : X)
    → Fetches g (λ (u : Unit {0}). out) (fielded (octets name width)) old new (Ok tt) → test out ≡ true → v x ≡ f out
    → Fetches g v (fielded (tested name width test f)) old new (Ok x)
fetched-tested g v name width test f old new out x one passed is = record {
  pulled = one.pulled;
  blames = one.blames;
  given = one.given;
  ended = one.ended;
  place = one.place;
  going = one.going;
  lies = one.lies;
  reads = λ file lies.
      ap (with_fault faults.Layout)
      (tested-ok name width test f file (place_of old) (place_of new) out (mapped-ok faults.Layout (octets name width) file (place_of old) (out, place_of new) (one.reads file lies)) passed
      ∙ ap (λ z. Ok (z, place_of new)) (sym is));
}

pub fetched-wrong : {D X A : Type 0} (g : Ghosts D) (v : X → A) (name : Field) (width : ℕ) (test : List ℕ → Bool) (f : List ℕ → A) (old new : Feed D) (out : List ℕ)
    → Fetches g (λ (u : Unit {0}). out) (fielded (octets name width)) old new (Ok tt) → test out ≡ false
    → Fetches g v (fielded (tested name width test f)) old new (Err (faults.Layout (fault_at why.Value name (place_of old))))
fetched-wrong g v name width test f old new out one failed = record {
  pulled = one.pulled;
  blames = (λ same. absurd cc, λ not. one.blames);
  given = one.given;
  ended = one.ended;
  place = one.place;
  going = tt;
  lies = one.lies;
  reads = λ file lies of.
      ap (with_fault faults.Layout) (tested-wrong name width test f file (place_of old) (place_of new) out
      (mapped-ok faults.Layout (octets name width) file (place_of old) (out, place_of new) (one.reads file lies)) failed);
}

pub fetched-short : {D X A : Type 0} (g : Ghosts D) (v : X → A) (name : Field) (width : ℕ) (test : List ℕ → Bool) (f : List ℕ → A) (old new : Feed D) (out : List ℕ) (e : JobFault)
    → Fetches g (λ (u : Unit {0}). out) (fielded (octets name width)) old new (Err e) → Fetches g v (fielded (tested name width test f)) old new (Err e)
fetched-short g v name width test f old new out e one = record {
  pulled = one.pulled;
  blames = one.blames;
  given = one.given;
  ended = one.ended;
  place = one.place;
  going = tt;
  lies = one.lies;
  reads = λ file lies of. tested-err name width test f file (place_of old) e (one.reads file lies of);
}

number-cases : (short passed : Bool) (d e : LayoutFault) (f : List ℕ → ℕ) (b file : List ℕ) (end : ℕ)
    → with_fault faults.Layout (cond short (Err d) (cond passed (Ok (f b, end)) (Err e)))
    ≡ with_fault faults.Layout (then_read (cond short (Err d) (cond passed (Ok (b, end)) (Err e))) (λ b. whole (f b)) file)
number-cases true passed d e f b file end = refl
number-cases false true d e f b file end = refl
number-cases false false d e f b file end = refl

-- a number is such a field
pub number-is : (name : Field) (w : Width) (low high : ℕ) (file : List ℕ) (at : ℕ)
    → fielded (number name w low high) file at ≡ fielded (tested name (byte_len w) (λ b. within low high (from_be_bytes w b)) (from_be_bytes w)) file at
unfolding bytes_field number_field
number-is name w low high file at =
    number-cases (ltb (length file) (at + byte_len w)) (within low high (from_be_bytes w (piece (byte_len w) file at))) (fault_at why.Short name at) (fault_at why.Value name at)
    (from_be_bytes w) (piece (byte_len w) file at) file (at + byte_len w)

bytes-cases : (r : Result (List ℕ × ℕ) LayoutFault) (file : List ℕ) → r ≡ then_read r (λ b. whole b) file
bytes-cases (Ok x) file = refl
bytes-cases (Err e) file = refl

-- and so are bytes that stand for themselves
pub bytes-are : (name : Field) (width : ℕ) (test : List ℕ → Bool) (file : List ℕ) (at : ℕ)
    → fielded (bytes_field (fault_at why.Short name) (fault_at why.Value name) width test) file at ≡ fielded (tested name width test (λ b. b)) file at
bytes-are name width test file at = ap (with_fault faults.Layout) (bytes-cases (bytes_field (fault_at why.Short name) (fault_at why.Value name) width test file at) file)

pub three-is : (name : Field) (file : List ℕ) (at : ℕ) → fielded (length_of_three name) file at ≡ fielded (tested name 3 any_key from_three) file at
unfolding length_of_three
three-is name file at = refl

abbrev pub number_test : Width → ℕ → ℕ → List ℕ → Bool
number_test w low high b = within low high (from_be_bytes w b)

pub in_bounds : (low high n : ℕ) → low ≤ n → n ≤ high → within low high n ≡ true
in_bounds low high n from to = rw (le-leb low n from, le-leb n high to) refl

pub too_low : (low high n : ℕ) → n < low → within low high n ≡ false
too_low low high n lt = rw (lt-leb low n lt) refl

and-false : (a : Bool) → (a && false) ≡ false
and-false true = refl
and-false false = refl

pub too_high : (low high n : ℕ) → high < n → within low high n ≡ false
too_high low high n lt = rw (lt-leb n high lt) (and-false (leb low n))

-- ---- a layout that is such a field

module _ {D X A : Type 0} (g : Ghosts D) (v : X → A) (layout : Layout JobFault A) (name : Field) (width : ℕ) (test : List ℕ → Bool) (f : List ℕ → A)
    (is : (file : List ℕ) (at : ℕ) → layout file at ≡ fielded (tested name width test f) file at) (old new : Feed D) (out : List ℕ) where
  pub field-ok : (x : X) → Fetches g (λ (u : Unit {0}). out) (fielded (octets name width)) old new (Ok tt) → test out ≡ true → v x ≡ f out → Fetches g v layout old new (Ok x)
  field-ok x one passed same = fetched-same g v (fielded (tested name width test f)) layout old new (Ok x) is (fetched-tested g v name width test f old new out x one passed same)

  pub field-wrong : Fetches g (λ (u : Unit {0}). out) (fielded (octets name width)) old new (Ok tt) → test out ≡ false
      → Fetches g v layout old new (Err (faults.Layout (fault_at why.Value name (place_of old))))
  field-wrong one failed = fetched-same g v (fielded (tested name width test f)) layout old new _ is (fetched-wrong g v name width test f old new out one failed)

  pub field-short : (e : JobFault) → Fetches g (λ (u : Unit {0}). out) (fielded (octets name width)) old new (Err e) → Fetches g v layout old new (Err e)
  field-short e one = fetched-same g v (fielded (tested name width test f)) layout old new (Err e) is (fetched-short g v name width test f old new out e one)

-- ---- what fills a buffer

octets-are : (name : Field) (width : ℕ) (file : List ℕ) (at : ℕ) (out : List ℕ) → width ≡ length out → Lies false file at out → fielded (octets name width) file at ≡ Ok (out, at + length out)
unfolding bytes_field
octets-are name width file at out is lies =
    rw is (
    let found : fielded (octets name (length out)) file at ≡ Ok (piece (length out) file at, at + length out) = rw (le-ltb (length file) (at + length out) lies.within) refl in
    found ∙ ap (λ (p : List ℕ). Ok (p, at + length out)) (sym lies.same))

pub fetched-octets : {D : Type 0} (g : Ghosts D) (name : Field) (width : ℕ) (old new : Feed D) (out : List ℕ) (u : Unit {0}) → Pulled g old new → NoneFailed g old new → AreBytes out
    → width ≡ length out → place_of new ≡ place_of old + length out → ((file : List ℕ) → StandsIn g old file → Lies false file (place_of old) out)
    → Fetches g (λ (u : Unit {0}). out) (fielded (octets name width)) old new (Ok u)
fetched-octets g name width old new out u pulled none fits len next lies = record {
  pulled = pulled;
  blames = none;
  given = out;
  ended = false;
  place = next;
  going = (fits, refl);
  lies = lies;
  reads = λ file there. octets-are name width file (place_of old) out len there ∙ ap (λ (q : ℕ). Ok (out, q)) (sym next);
}

octets-short : (name : Field) (width : ℕ) (file : List ℕ) (at : ℕ) → length file < at + width → fielded (octets name width) file at ≡ Err (faults.Layout (fault_at why.Short name at))
unfolding bytes_field
octets-short name width file at lt = rw (lt-ltb (length file) (at + width) lt) refl

-- a field that is short, since the file ends behind these bytes
pub fetched-cut : {D X : Type 0} (g : Ghosts D) (v : X → List ℕ) (name : Field) (width : ℕ) (old new : Feed D) (given : List ℕ) (e : JobFault)
    → e ≡ faults.Layout (fault_at why.Short name (place_of old)) → Pulled g old new → NoneFailed g old new → length given < width → place_of new ≡ place_of old + length given
    → ((file : List ℕ) → StandsIn g old file → Lies true file (place_of old) given) → Fetches g v (fielded (octets name width)) old new (Err e)
fetched-cut g v name width old new given e is pulled none few next lies = record {
  pulled = pulled;
  blames = (λ same. absurd cc, λ not. none);
  given = given;
  ended = true;
  place = next;
  going = tt;
  lies = lies;
  reads = λ file there of. octets-short name width file (place_of old) (omega (arith, there.last refl, few)) ∙ ap (λ (d : JobFault). Err d) (sym is);
}

-- a read that fails
pub fetched-unread : {D X A : Type 0} (g : Ghosts D) (v : X → A) (layout : Layout JobFault A) (old new : Feed D) (given : List ℕ) → Pulled g old new
    → ReadFailed g (name_of old) (depot_of old) (depot_of new) → place_of new ≡ place_of old + length given
    → ((file : List ℕ) → StandsIn g old file → Lies false file (place_of old) given) → Fetches g v layout old new (Err faults.ReadFault)
fetched-unread g v layout old new given pulled failed next lies = record {
  pulled = pulled;
  blames = (λ same. failed, λ not. absurd (not refl));
  given = given;
  ended = false;
  place = next;
  going = tt;
  lies = lies;
  reads = λ file there of. absurd (of.1 refl);
}

-- so many bytes, as some value
pub fetched-items : {D X : Type 0} (g : Ghosts D) (v : X → List ℕ) (name : Field) (k width : ℕ) (old new : Feed D) (out : List ℕ) (u : Unit {0}) (x : X) → k ≡ width → v x ≡ out
    → Fetches g (λ (u : Unit {0}). out) (fielded (octets name k)) old new (Ok u) → Fetches g v (fielded (octets name width)) old new (Ok x)
fetched-items g v name k width old new out u x len same one = record {
  pulled = one.pulled;
  blames = one.blames;
  given = one.given;
  ended = one.ended;
  place = one.place;
  going = one.going;
  lies = one.lies;
  reads = λ file lies.
      subst (λ (n : ℕ). fielded (octets name n) file (place_of old) ≡ Ok (v x, place_of new)) len (one.reads file lies ∙ ap (λ (l : List ℕ). Ok (l, place_of new)) (sym same));
}

pub fetched-items-err : {D X : Type 0} (g : Ghosts D) (v : X → List ℕ) (name : Field) (k width : ℕ) (old new : Feed D) (out : List ℕ) (e : JobFault) → k ≡ width
    → Fetches g (λ (u : Unit {0}). out) (fielded (octets name k)) old new (Err e) → Fetches g v (fielded (octets name width)) old new (Err e)
fetched-items-err g v name k width old new out e len one = record {
  pulled = one.pulled;
  blames = one.blames;
  given = one.given;
  ended = one.ended;
  place = one.place;
  going = tt;
  lies = one.lies;
  reads = λ file lies of. subst (λ (n : ℕ). fielded (octets name n) file (place_of old) ≡ Err e) len (one.reads file lies of);
}

-- ---- the end

pub end-ok : (file : List ℕ) (at last : ℕ) → length file ≤ at → last ≡ at → fielded end_of file at ≡ Ok (tt {0}, last)
end-ok file at last le same = rw (le-ltb at (length file) le) (ap (λ (q : ℕ). Ok (tt {0}, q)) (sym same))

pub end-wrong : (file : List ℕ) (at : ℕ) → at < length file → fielded end_of file at ≡ Err (faults.Layout (fault_at why.Value fields.End at))
end-wrong file at lt = rw (lt-ltb at (length file) lt) refl

pub not-true : (b : Bool) → not b ≡ true → b ≡ false
not-true true h = absurd cc
not-true false h = refl

pub not-false : (b : Bool) → not b ≡ false → b ≡ true
not-false true h = refl
not-false false h = absurd cc
