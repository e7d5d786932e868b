-- Stores that are read in pieces.
use Rattle.std.proofs.Common.{◌≡◌, ◌≢◌, ℕ, suc, ◌+◌, ◌-◌, ◌^◌, ◌≤◌, ◌<◌, List, [], ◌∷◌, ◌++◌, length, take, drop, Option, Some, None, Result, Ok, Err, codes, true, false, nat_lt}
use Rattle.std.proofs.Common.{refl, sym, ap, subst, ◌∙◌, arith, inl, inr, length-append, append_assoc}
use Rattle.std.specs.Prelude.{◌⊎◌, IfOk, IfErr, IsSome}
use Rattle.std.proofs.Math.Seq.{take-add}
use Rattle.std.specs.Int.{w8}
use Rattle.std.proofs.lemmas.Bool.{cases_lt}
use Rattle.std.proofs.lemmas.Bool.Decides.{nat_tests}
use Rattle.std.proofs.lemmas.List.{append-nil, drop-append-le, drop_all, length-take, take-append-drop, take_all}
use Rattle.octets_core.specs.Layout.{then_read, ◌>>=◌, with_fault, embedded, from_there}
use Rattle.octets_core.specs.Reading.{fault_at, magic, number, value_of}
use Rattle.octets_core.specs.declared.field.Field.TheVariants as fields
use Rattle.octets_core.specs.declared.fault.LayoutFault.{LayoutFault}
use Rattle.octets_core.specs.declared.fault.Why.TheVariants as why
use Rattle.octets_core.proofs.Fields.{then_read-ok, bytes_field-ok, number_field-ok}
use Rattle.ident_core.specs.declared.bounds.TheConstants.{MAX_PARTS}
use Rattle.ident_core.specs.declared.kind.Kind.TheVariants as kinds
use Rattle.part_text.specs.SealedFields.{SealedFields}
use Rattle.part_text.specs.PartLayout.{part}
use Rattle.part_text.specs.Offsets.{offset_in_part}
use Rattle.part_text.specs.declared.fault.PartFault.{PartFault}
use Rattle.part_text.specs.declared.fault.PartFault.TheVariants as of_part
use Rattle.part_text.proofs.PartBounds.{at-of}
use Rattle.part_codec.specs.ReaderStanding.{ReadsFor as PartReadsFor, HasFailed as PartHasFailed, EndsAs as PartEndsAs}
use Rattle.part_codec.proofs.Readings.{few-read as few-part}
use Rattle.store_core.specs.declared.chain.Refusal.{Refusal}
use Rattle.store_core.specs.declared.fault.StoreFault.{StoreFault}
use Rattle.store_core.specs.declared.fault.StoreFault.TheVariants as faults
use Rattle.store_core.specs.declared.reader.Parts.{Parts}
use Rattle.store_core.specs.declared.reader.StoreReader.{StoreReader}
use Rattle.store_core.specs.declared.store.StartFault.{StartFault}
use Rattle.store_core.specs.Chain.{refusal_of}
use Rattle.store_core.specs.StoreLayout.{moved, fielded, first_part, chain, opening, left_of, store_parts, store}
use Rattle.store_core.specs.StoreReading.{PartsRead, CameBy, ReadsBy, ReadsFor, HasFailed, EndsAs}
use Rattle.store_core.proofs.Extents.{ReadsAtMost, bytes-at_most, number-at_most, ◌>>>◌}
use Rattle.store_core.specs.Starting.{IsNotBegun, fault_of_start}
use Rattle.store_core.proofs.Reading.{step, fails, first-fault, not-begun, is-begun, next-part, next-refused}

-- ---- the opening

opening-at_most : ReadsAtMost 10 (λ (n : ℕ). n ≤ MAX_PARTS) opening
unfolding opening
opening-at_most =
    bytes-at_most fields.StoreMagic 8 _ >>> λ begin b.
    number-at_most fields.StoreVersion w8 1 1 >>> λ version v.
    number-at_most fields.StoreCount w8 1 MAX_PARTS

-- bytes behind ten change nothing
pub opening-same : (front rest : List ℕ) → 10 ≤ length front → opening (front ++ rest) 0 ≡ opening front 0
opening-same front rest ge = opening-at_most.same front rest 0 (omega (arith, ge))

record IsOpening (bytes : List ℕ) (n at : ℕ) : Type 0 where
  place : at ≡ 10
  room : 10 ≤ length bytes
  some : 1 ≤ n
  few : n ≤ MAX_PARTS

-- where a count was read, ten bytes were
opening-ends : (bytes : List ℕ) (n at : ℕ) → opening bytes 0 ≡ Ok (n, at) → IsOpening bytes n at
unfolding opening
opening-ends bytes n at h =
    let m = then_read-ok (magic fields.StoreMagic (codes "CLUBSTOR") bytes 0) _ bytes (n, at) h in
    let first = bytes_field-ok _ _ 8 _ bytes 0 m.0 m.1 in
    let v = then_read-ok (number fields.StoreVersion w8 1 1 bytes m.0.1) _ bytes (n, at) m.2 in
    let second = number_field-ok _ _ w8 1 1 bytes m.0.1 v.0 v.1 in
    let third = number_field-ok _ _ w8 1 MAX_PARTS bytes v.0.1 (n, at) v.2 in
    record {
      place = omega (arith, first.next, second.next, third.next);
      room = omega (arith, first.next, second.next, third.next, third.room);
      some = third.from_low;
      few = third.to_high;
    }

by_version : (r : Result (ℕ × ℕ) LayoutFault) (bytes : List ℕ)
    → then_read (with_fault faults.Layout r) (λ v. fielded (number fields.StoreCount w8 1 MAX_PARTS) >>= λ n. left_of n None) bytes
    ≡ then_read (with_fault faults.Layout (then_read r (λ v. number fields.StoreCount w8 1 MAX_PARTS) bytes)) (λ n. left_of n None) bytes
by_version (Err e) bytes = refl
by_version (Ok x) bytes = refl

by_magic : (r : Result (List ℕ × ℕ) LayoutFault) (bytes : List ℕ)
    → then_read (with_fault faults.Layout r) (λ b. fielded (number fields.StoreVersion w8 1 1) >>= λ v. fielded (number fields.StoreCount w8 1 MAX_PARTS) >>= λ n. left_of n None) bytes
    ≡ then_read (with_fault faults.Layout (then_read r (λ b. number fields.StoreVersion w8 1 1 >>= λ v. number fields.StoreCount w8 1 MAX_PARTS) bytes)) (λ n. left_of n None) bytes
by_magic (Err e) bytes = refl
by_magic (Ok x) bytes = by_version (number fields.StoreVersion w8 1 1 bytes x.1) bytes

opening-parts : (bytes : List ℕ) → store_parts bytes 0 ≡ then_read (with_fault faults.Layout (opening bytes 0)) (λ n. left_of n None) bytes
unfolding opening store_parts
opening-parts bytes = by_magic (magic fields.StoreMagic (codes "CLUBSTOR") bytes 0) bytes

-- ---- a part at its place

behind-it : (b rest : List ℕ) → drop (length b) (b ++ rest) ≡ rest
behind-it b rest = drop-append-le (length b) b rest (omega arith) ∙ ap (λ (l : List ℕ). l ++ rest) (drop_all (length b) b (omega arith))

embedded-is : (b rest : List ℕ) → embedded moved part (b ++ rest) (length b) ≡ from_there moved (length b) (part rest 0)
embedded-is b rest = ap (λ (l : List ℕ). from_there moved (length b) (part l 0)) (behind-it b rest)

pub embedded-part : (b p x : List ℕ) (s : SealedFields) → part (p ++ x) 0 ≡ Ok (s, length p)
    → embedded moved part (b ++ (p ++ x)) (length b) ≡ Ok (s, length (b ++ p))
embedded-part b p x s is =
    embedded-is b (p ++ x) ∙ ap (from_there moved (length b)) is ∙ ap (λ (i : ℕ). Ok (s, i)) (sym (length-append b p))

embedded-fault : (b rest : List ℕ) (e : PartFault) → part rest 0 ≡ Err e → embedded moved part (b ++ rest) (length b) ≡ Err (moved (length b) e)
embedded-fault b rest e is = embedded-is b rest ∙ ap (from_there moved (length b)) is

-- ---- one part more

less : (count : ℕ) → 0 < count → count ≡ suc (count - 1)
less count some = omega (arith, some)

-- the part has a fault
pub part-faulty : (count : ℕ) (parts : Option (List SealedFields)) (bytes : List ℕ) (at : ℕ) (e : StoreFault) → 0 < count → embedded moved part bytes at ≡ Err e → left_of count parts bytes at ≡ Err e
unfolding chain
part-faulty count None bytes at e some is = fails first_part (chain (count - 1)) bytes at e (first-fault bytes at e is)
part-faulty count (Some parts) bytes at e some is = rw (less count some) (fails (embedded moved part) _ bytes at e is)

-- the part begins the store, or doesn't
pub part-begins : (count : ℕ) (s : SealedFields) (parts : List SealedFields) (bytes : List ℕ) (at end : ℕ) → s.part.head.kind ≡ kinds.Snapshot → parts ≡ s ∷ []
    → embedded moved part bytes at ≡ Ok (s, end) → left_of count None bytes at ≡ left_of (count - 1) (Some parts) bytes end
part-begins count s parts bytes at end kind are is =
    step first_part (chain (count - 1)) bytes at parts end _ (is-begun bytes at s end parts is kind are) refl

pub part-begins_none : (count : ℕ) (s : SealedFields) (f : StartFault) (bytes : List ℕ) (at end : ℕ) → IsNotBegun s f → (fault_of_start f ≢ faults.NoMemory)
    → embedded moved part bytes at ≡ Ok (s, end) → left_of count None bytes at ≡ Err (fault_of_start f)
part-begins_none count s f bytes at end not some is = fails first_part (chain (count - 1)) bytes at (fault_of_start f) (not-begun bytes at s end f is not some)

-- the part is taken behind others, or isn't
pub part-taken : (count : ℕ) (parts longer : List SealedFields) (s : SealedFields) (bytes : List ℕ) (at end : ℕ) → 0 < count → refusal_of parts s ≡ None → longer ≡ parts ++ s ∷ []
    → embedded moved part bytes at ≡ Ok (s, end) → left_of count (Some parts) bytes at ≡ left_of (count - 1) (Some longer) bytes end
part-taken count parts longer s bytes at end some none are is =
    rw are (ap (λ (n : ℕ). chain n parts bytes at) (less count some) ∙ next-part (count - 1) parts bytes at s end is none)

pub part-refused : (count : ℕ) (parts : List SealedFields) (s : SealedFields) (why : Refusal) (bytes : List ℕ) (at end : ℕ) → 0 < count → refusal_of parts s ≡ Some why
    → embedded moved part bytes at ≡ Ok (s, end) → left_of count (Some parts) bytes at ≡ Err (faults.Refused why)
part-refused count parts s why bytes at end some refused is =
    ap (λ (n : ℕ). chain n parts bytes at) (less count some) ∙ next-refused (count - 1) parts bytes at s end why is refused

-- ---- the parts that came

-- the opening came, and nothing behind it
pub none-came : (p : Parts) (b : List ℕ) (count : ℕ) → opening b 0 ≡ Ok (count, length b) → p.store ≡ None → p.left ≡ count → p.at ≡ 10 → p.end ≡ 10
    → PartReadsFor p.part [] → ((e : PartFault) → PartHasFailed p.part e → ⊥) → PartsRead p b
none-came p b count is store left at end reads well =
    let o = opening-ends b count (length b) is in
    record {
      before = b;
      came = [];
      is = sym (append-nil b);
      at = omega (arith, o.place, at);
      end = omega (arith, o.place, end);
      reads = reads;
      well = well;
      none = λ h. refl;
      near = omega (arith, at, left, o.few);
      left = λ x.
          rw (store, left) (opening-parts (b ++ x)
          ∙ ap (λ (r : Result (ℕ × ℕ) LayoutFault). then_read (with_fault faults.Layout r) (λ n. left_of n None) (b ++ x)) (opening-same b x (omega (arith, o.room)) ∙ is));
    }

abbrev Longer : Option (List SealedFields) → SealedFields → List SealedFields → Type 0
Longer store s parts =
    (count at end : ℕ) (bytes : List ℕ) → 0 < count → embedded moved part bytes at ≡ Ok (s, end) → left_of count store bytes at ≡ left_of (count - 1) (Some parts) bytes end

-- the open part in the bytes that came, with any behind them
part-there : (p : Parts) (b x : List ℕ) (s : SealedFields) (r : PartsRead p b) → part (r.came ++ x) 0 ≡ Ok (s, length r.came)
    → embedded moved part (r.before ++ (r.came ++ x)) (length r.before) ≡ Ok (s, length b)
part-there p b x s r whole = embedded-part r.before r.came x s whole ∙ ap (λ (l : List ℕ). Ok (s, length l)) (sym r.is)

pub came-with : (p : Parts) (b x : List ℕ) (r : PartsRead p b) → b ++ x ≡ r.before ++ (r.came ++ x)
came-with p b x r = ap (λ (l : List ℕ). l ++ x) r.is ∙ append_assoc r.before r.came x

-- the open part is whole, and the next is open
pub closed : (old new : Parts) (b : List ℕ) (s : SealedFields) (parts : List SealedFields) → 0 < old.left
    → ((c x : List ℕ) → PartReadsFor old.part c → part (c ++ x) 0 ≡ Ok (s, length c)) → Longer old.store s parts
    → new.store ≡ Some parts → new.left ≡ old.left - 1 → new.at ≡ old.end → new.end ≡ old.end → PartReadsFor new.part [] → ((e : PartFault) → PartHasFailed new.part e → ⊥)
    → PartsRead old b → PartsRead new b
closed old new b s parts some whole longer store left at end reads well r =
    let few = few-part old.part old.part.fault r.came refl r.well r.reads in
    let size : length b ≡ length r.before + length r.came = ap (λ (l : List ℕ). length l) r.is ∙ length-append r.before r.came in
    record {
      before = b;
      came = [];
      is = sym (append-nil b);
      at = omega (arith, r.end, at);
      end = omega (arith, r.end, end);
      reads = reads;
      well = well;
      none = λ h. refl;
      near = omega (arith, few, size, r.at, r.end, r.near, at, left, some);
      left = λ x.
          let there = longer old.left (length r.before) (length b) (r.before ++ (r.came ++ x)) some (part-there old b x s r (whole r.came x r.reads)) in
          let same : store_parts (b ++ x) 0 ≡ left_of (old.left - 1) (Some parts) (b ++ x) (length b) =
          subst (λ (l : List ℕ). store_parts l 0 ≡ left_of (old.left - 1) (Some parts) l (length b)) (sym (came-with old b x r)) (r.left (r.came ++ x) ∙ there) in
          rw (store, left) same;
    }

-- the store doesn't take it
pub not-closed : (old : Parts) (b x : List ℕ) (s : SealedFields) (e : StoreFault) → 0 < old.left
    → ((c x : List ℕ) → PartReadsFor old.part c → part (c ++ x) 0 ≡ Ok (s, length c))
    → ((count at end : ℕ) (bytes : List ℕ) → 0 < count → embedded moved part bytes at ≡ Ok (s, end) → left_of count old.store bytes at ≡ Err e)
    → PartsRead old b → store_parts (b ++ x) 0 ≡ Err e
not-closed old b x s e some whole fails_by r =
    ap (λ (l : List ℕ). store_parts l 0) (came-with old b x r) ∙ r.left (r.came ++ x)
    ∙ fails_by old.left (length r.before) (length b) (r.before ++ (r.came ++ x)) some (part-there old b x s r (whole r.came x r.reads))

-- the bytes of the open part have a fault
faulty : (p : Parts) (b x : List ℕ) (f : PartFault) (e : StoreFault) (r : PartsRead p b) → 0 < p.left → e ≡ moved p.at f → part (r.came ++ x) 0 ≡ Err f → store_parts (b ++ x) 0 ≡ Err e
faulty p b x f e r some is fault =
    ap (λ (l : List ℕ). store_parts l 0) (came-with p b x r) ∙ r.left (r.came ++ x)
    ∙ part-faulty p.left p.store (r.before ++ (r.came ++ x)) (length r.before) (moved (length r.before) f) some (embedded-fault r.before (r.came ++ x) f fault)
    ∙ ap (λ (i : ℕ). Err (moved i f)) r.at ∙ sym (ap (λ (k : StoreFault). Err k) is)

not_memory : (f : LayoutFault) → of_part.Layout f ≢ of_part.NoMemory
not_memory f h = let k : ◌≡◌ {A = PartFault} (of_part.Layout f) of_part.NoMemory = h in cc

-- the open part isn't whole
pub not-whole : (p : Parts) (f : PartFault) (e : StoreFault) → 0 < p.left → p.at < 2 ^ 64 → (p.at + offset_in_part f < 2 ^ 64 → e ≡ moved p.at f)
    → (f ≢ of_part.NoMemory → (c : List ℕ) → PartReadsFor p.part c → part c 0 ≡ Err f) → e ≢ faults.NoMemory → (b x : List ℕ) (r : PartsRead p b)
    → (x ≡ []) ⊎ PartEndsAs r.came → store_parts (b ++ x) 0 ≡ Err e
not-whole p of_part.NoMemory e some fits is fails_by wants b x r ends = absurd (wants (is (omega (arith, fits))))
not-whole p (of_part.Layout f) e some fits is fails_by wants b x r (inl none) =
    let few = few-part p.part p.part.fault r.came refl r.well r.reads in
    let within : f.at ≤ length r.came = at-of r.came (Err (of_part.Layout f)) (λ known. fails_by known r.came r.reads) in
    faulty p b x (of_part.Layout f) e r some (is (omega (arith, within, few, r.near)))
    (ap (λ (l : List ℕ). part l 0) (ap (λ (l : List ℕ). r.came ++ l) none ∙ append-nil r.came) ∙ fails_by (not_memory f) r.came r.reads)
not-whole p (of_part.Layout f) e some fits is fails_by wants b x r (inr ends) =
    let whole = ends [] in
    let read : part r.came 0 ≡ Ok (whole.0, length r.came) = ap (λ (l : List ℕ). part l 0) (sym (append-nil r.came)) ∙ whole.1 in
    absurd (let h : ◌≡◌ {A = Result (SealedFields × ℕ) PartFault} (Ok (whole.0, length r.came)) (Err (of_part.Layout f)) = sym read ∙ fails_by (not_memory f) r.came r.reads in cc)

-- the next bytes of the open part
unfoldable pub more-came : (old new : Parts) (b w : List ℕ) (n : ℕ) → 0 < old.left → n ≤ length w → new.store ≡ old.store → new.left ≡ old.left → new.at ≡ old.at
    → (old.end + n < 2 ^ 64 → new.end ≡ old.end + n) → ((c : List ℕ) → PartReadsFor old.part c → PartReadsFor new.part (c ++ take n w))
    → ((e : PartFault) → PartHasFailed new.part e → ⊥) → PartsRead old b → PartsRead new (b ++ take n w)
more-came old new b w n some le store left at end reads well r =
    let more = reads r.came r.reads in
    let few = few-part new.part new.part.fault (r.came ++ take n w) refl well more in
    let taken : length (take n w) ≡ n = omega (arith, length-take n w, le) in
    let size : length b ≡ length r.before + length r.came = ap (λ (l : List ℕ). length l) r.is ∙ length-append r.before r.came in
    let fits : old.end + n < 2 ^ 64 = omega (arith, few, length-append r.came (take n w), taken, size, r.at, r.end, r.near) in
    record {
      before = r.before;
      came = r.came ++ take n w;
      is = came-with old b (take n w) r;
      at = omega (arith, r.at, at);
      end = omega (arith, r.end, end fits, length-append b (take n w), taken);
      reads = more;
      well = well;
      none = λ h. absurd (omega (arith, h, left, some));
      near = omega (arith, r.near, at, left);
      left = λ x. rw (store, left) (r.left x);
    }

-- the piece has a fault
pub piece-faulty : (p : Parts) (f : PartFault) (e : StoreFault) (w : List ℕ) → 0 < p.left → p.at < 2 ^ 64 → length w < 2 ^ 63 → (p.at + offset_in_part f < 2 ^ 64 → e ≡ moved p.at f)
    → (f ≢ of_part.NoMemory → (c x : List ℕ) → PartReadsFor p.part c → part (c ++ w ++ x) 0 ≡ Err f) → e ≢ faults.NoMemory → (b x : List ℕ) → PartsRead p b
    → store_parts (b ++ w ++ x) 0 ≡ Err e
piece-faulty p of_part.NoMemory e w some at few is fails_by wants b x r = absurd (wants (is (omega (arith, at))))
piece-faulty p (of_part.Layout f) e w some at few is fails_by wants b x r =
    let short = few-part p.part p.part.fault r.came refl r.well r.reads in
    let within : f.at ≤ length (r.came ++ w ++ []) = at-of (r.came ++ w ++ []) (Err (of_part.Layout f)) (λ known. fails_by known r.came [] r.reads) in
    let size : length (r.came ++ w ++ []) ≡ length r.came + length w = ap (λ (l : List ℕ). length l) (append-nil (r.came ++ w)) ∙ length-append r.came w in
    ap (λ (l : List ℕ). store_parts l 0) (append_assoc b w x)
    ∙ faulty p b (w ++ x) (of_part.Layout f) e r some (is (omega (arith, within, size, short, few, r.near)))
    (ap (λ (l : List ℕ). part l 0) (sym (append_assoc r.came w x)) ∙ fails_by (not_memory f) r.came x r.reads)

-- all parts came
pub all-came : (p : Parts) (b x : List ℕ) (parts : List SealedFields) → p.left ≡ 0 → p.store ≡ Some parts → PartsRead p b → store_parts (b ++ x) 0 ≡ Ok (parts, length b)
unfolding chain
all-came p b x parts none store r =
    let front : b ≡ r.before = r.is ∙ ap (λ (l : List ℕ). r.before ++ l) (r.none none) ∙ append-nil r.before in
    rw front (r.left x ∙ rw (none, store) refl)

-- a piece is what was taken of it and the rest
pub piece-parts : (b w x : List ℕ) (n : ℕ) → (b ++ take n w) ++ (drop n w ++ x) ≡ b ++ w ++ x
piece-parts b w x n =
    append_assoc b (take n w) (drop n w ++ x)
    ∙ ap (λ (l : List ℕ). b ++ l) (sym (append_assoc (take n w) (drop n w) x) ∙ ap (λ (l : List ℕ). l ++ x) (take-append-drop n w))
    ∙ sym (append_assoc b w x)

-- ---- the bytes of the opening

value-fault : (r : Result (ℕ × ℕ) LayoutFault) (e : LayoutFault) → ◌≡◌ {A = Result ℕ LayoutFault} (Err e) (value_of r) → r ≡ Err e
value-fault (Ok x) e is = absurd cc
value-fault (Err f) e is = let same : e ≡ f = cc in ap (λ (k : LayoutFault). Err k) (sym same)

value-number : (r : Result (ℕ × ℕ) LayoutFault) (n : ℕ) → ◌≡◌ {A = Result ℕ LayoutFault} (Ok n) (value_of r) → (at : ℕ) × (r ≡ Ok (n, at))
value-number (Ok x) n is = let same : n ≡ x.0 = cc in (x.1, ap (λ (k : ℕ). Ok (k, x.1)) (sym same))
value-number (Err f) n is = absurd cc

-- the opening is none
pub not-opened : (front : List ℕ) (f : LayoutFault) → Err f ≡ value_of (opening front 0) → (x : List ℕ) → (x ≡ []) ⊎ (10 ≤ length front) → store_parts (front ++ x) 0 ≡ Err (faults.Layout f)
not-opened front f is x enough =
    let same : opening (front ++ x) 0 ≡ opening front 0 = elim enough [
      | inl none ↦ ap (λ (l : List ℕ). opening l 0) (ap (λ (l : List ℕ). front ++ l) none ∙ append-nil front)
      | inr ge ↦ opening-same front x ge
    ] in
    opening-parts (front ++ x)
    ∙ ap (λ (r : Result (ℕ × ℕ) LayoutFault). then_read (with_fault faults.Layout r) (λ n. left_of n None) (front ++ x)) (same ∙ value-fault (opening front 0) f is)

-- it says so many, and is ten bytes
pub opened : (front : List ℕ) (count : ℕ) → Ok count ≡ value_of (opening front 0) → length front ≤ 10 → opening front 0 ≡ Ok (count, length front)
opened front count is le =
    let v = value-number (opening front 0) count is in
    let o = opening-ends front count v.0 v.1 in
    let ten : v.0 ≡ length front = omega (arith, o.place, o.room, le) in
    v.1 ∙ ap (λ (i : ℕ). Ok (count, i)) ten

-- ---- a reader

-- the store of the parts that are all there
whole-by : (p : Parts) (o : Option (List SealedFields)) → p.store ≡ o → (p.left ≡ 0 → IsSome p.store) → p.left ≡ 0 → (parts : List SealedFields) × (p.store ≡ Some parts)
whole-by p (Some parts) is begun none = (parts, is)
whole-by p None is begun none = absurd (let some : IsSome p.store = begun none in cc)

pub ends-by : (p : Parts) (b : List ℕ) → p.left ≡ 0 → PartsRead p b → EndsAs b
ends-by p b none r = λ x. let s = whole-by p p.store refl p.begun none in (s.0, all-came p b x s.0 none s.1 r)

pub ends-all : (r : Result ℕ StoreFault) (old new : Parts) (o : Option Parts) (front w : List ℕ) → o ≡ Some old → IfOk r (λ n. (b : List ℕ) → PartsRead old b → PartsRead new (b ++ take n w))
    → IfOk r (λ n. n < length w → new.left ≡ 0) → IfOk r (λ n. n < length w → (b : List ℕ) → CameBy front o b → EndsAs (b ++ take n w))
ends-all (Ok n) old new o front w is ok less = λ lt b came. ends-by new (b ++ take n w) (less lt) (ok b (rw is at came))
ends-all (Err e) old new o front w is ok less = tt

-- the opening is whole with the front of the piece, and the rest stands behind it
pub front-more : (f front b w : List ℕ) (n m : ℕ) → f ≡ front ++ take n w → b ≡ front → f ++ take m (drop n w) ≡ b ++ take (n + m) w
front-more f front b w n m is all =
    ap (λ (l : List ℕ). l ++ take m (drop n w)) (is ∙ ap (λ (l : List ℕ). l ++ take n w) (sym all))
    ∙ append_assoc b (take n w) (take m (drop n w)) ∙ ap (λ (l : List ℕ). b ++ l) (sym (take-add n m w))

pub front-all : (f front b w x : List ℕ) (n : ℕ) → f ≡ front ++ take n w → b ≡ front → f ++ (drop n w ++ x) ≡ b ++ w ++ x
front-all f front b w x n is all = ap (λ (l : List ℕ). l ++ (drop n w ++ x)) (is ∙ ap (λ (l : List ℕ). l ++ take n w) (sym all)) ∙ piece-parts b w x n

-- bytes without a fault are fewer than can be numbered
few-by : (o : Option Parts) (front b : List ℕ) → CameBy front o b → length b < 2 ^ 63
few-by None front b came = omega (arith, came.1, ap (λ (l : List ℕ). length l) came.0)
few-by (Some p) front b r =
    omega (arith, few-part p.part p.part.fault r.came refl r.well r.reads, r.at, r.near, ap (λ (l : List ℕ). length l) r.is, length-append r.before r.came)

few-where : (r : StoreReader) (b : List ℕ) (f : Option StoreFault) → r.fault ≡ f → ((e : StoreFault) → HasFailed r e → ⊥) → ReadsFor r b → length b < 2 ^ 63
few-where r b None is well st = few-by r.parts r.front b (subst (λ (f : Option StoreFault). ReadsBy f r.front r.parts b) is st)
few-where r b (Some e) is well st = absurd (well e is)

pub few-read : (r : StoreReader) (b : List ℕ) → ((e : StoreFault) → HasFailed r e → ⊥) → ReadsFor r b → length b < 2 ^ 63
few-read r b well st = few-where r b r.fault refl well st

-- no count stands in fewer than ten bytes
pub full : (front : List ℕ) (count : ℕ) → Ok count ≡ value_of (opening front 0) → 10 ≤ length front
full front count is = let v = value-number (opening front 0) count is in (opening-ends front count v.0 v.1).room

pub for-ok : {A E : Type 0} (r : Result A E) (P : A → Type 0) → ((x : A) → P x) → IfOk r P
for-ok (Ok x) P each = each x
for-ok (Err e) P each = tt

pub for-err : {A E : Type 0} (r : Result A E) (P : E → Type 0) → ((e : E) → P e) → IfErr r P
for-err (Ok x) P each = tt
for-err (Err e) P each = each e

-- ---- a whole store

pub parts-fail : (bytes : List ℕ) (e : StoreFault) → store_parts bytes 0 ≡ Err e → value_of (store bytes 0) ≡ Err e
unfolding store
parts-fail bytes e is = rw is refl

pub parts-whole : (bytes : List ℕ) (parts : List SealedFields) (n : ℕ) → length bytes ≤ n → store_parts bytes 0 ≡ Ok (parts, n) → value_of (store bytes 0) ≡ Ok parts
unfolding store
parts-whole bytes parts n all is = let test : nat_lt n (length bytes) ≡ false = grind (arith, nat_tests) in rw (is, test) refl

pub parts-more : (bytes : List ℕ) (parts : List SealedFields) (n : ℕ) → n < length bytes → store_parts bytes 0 ≡ Ok (parts, n)
    → value_of (store bytes 0) ≡ Err (faults.Layout (fault_at why.Value fields.End n))
unfolding store
parts-more bytes parts n lt is = let test : nat_lt n (length bytes) ≡ true = grind (arith, nat_tests) in rw (is, test) refl

-- where fewer bytes are taken only where they are a store, a fault is one of all
pub fails-whole : (w : List ℕ) (n : ℕ) (e : StoreFault) → (n < length w → EndsAs (take n w)) → store_parts (take n w) 0 ≡ Err e → store_parts w 0 ≡ Err e
fails-whole w n e ends is = elim (cases_lt n (length w)) [
  | inl lt ↦
      let whole = ends lt [] in
      let read = ap (λ (l : List ℕ). store_parts l 0) (sym (append-nil (take n w))) ∙ whole.1 in
      absurd (let h : ◌≡◌ {A = Result (List SealedFields × ℕ) StoreFault} (Ok (whole.0, length (take n w))) (Err e) = sym read ∙ is in cc)
  | inr ge ↦ ap (λ (l : List ℕ). store_parts l 0) (sym (take_all n w ge)) ∙ is
]

-- what was taken is the store
pub reads-front : (w : List ℕ) (n : ℕ) (parts : List SealedFields) → n ≤ length w → ((x : List ℕ) → store_parts (take n w ++ x) 0 ≡ Ok (parts, length (take n w)))
    → store_parts w 0 ≡ Ok (parts, n)
reads-front w n parts le whole =
    let size : length (take n w) ≡ n = omega (arith, length-take n w, le) in
    ap (λ (l : List ℕ). store_parts l 0) (sym (take-append-drop n w)) ∙ whole (drop n w) ∙ ap (λ (i : ℕ). Ok (parts, i)) size
