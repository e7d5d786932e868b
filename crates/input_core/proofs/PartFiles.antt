-- What the bytes of a file of one part are read as.
use Rattle.std.proofs.Common.{◌≡◌, ℕ, ◌+◌, ◌≤◌, ◌<◌, ◌-◌, List, ◌++◌, length, take, drop, true, false}
use Rattle.std.proofs.Common.{nat_lt, Option, Some, None, Result, Ok, Err, refl, sym, ap, subst, ◌∙◌, arith, inl, inr, length-append}
use Rattle.std.proofs.lemmas.Bool.{cases_lt}
use Rattle.std.proofs.lemmas.Bool.Decides.{nat_tests}
use Rattle.std.proofs.lemmas.List.{length-take}
use Rattle.octets_core.specs.Layout.{with_fault}
use Rattle.octets_core.specs.Reading.{fault_at}
use Rattle.octets_core.specs.declared.fault.LayoutFault.{LayoutFault}
use Rattle.octets_core.specs.declared.field.Field.TheVariants as fields
use Rattle.octets_core.specs.declared.fault.Why.TheVariants as why
use Rattle.part_text.specs.SealedFields.{SealedFields}
use Rattle.part_text.specs.PartLayout.{part, sealed}
use Rattle.part_text.specs.declared.fault.PartFault.TheVariants as of
use Rattle.part_codec.specs.ReaderStanding.{EndsAs}
use Rattle.part_codec.specs.Standing.{EndsAt}
use Rattle.part_codec.specs.Noting.{noted}
use Rattle.part_codec.specs.declared.scan.PartNote.{PartNote}
use Rattle.outside_core.specs.Files.{Files}
use Rattle.store_core.proofs.StoreReads.{piece-parts}
use Rattle.input_core.specs.declared.fault.FileFault.{FileFault}
use Rattle.input_core.specs.declared.fault.FileFault.TheVariants as faults
use Rattle.input_core.specs.Faults.{of_part}
use Rattle.input_core.specs.PartFile.{part_file}
use Rattle.input_core.specs.Readings.{faulted, part_in}
use Rattle.input_core.specs.Fed.{IsFed}
use Rattle.input_core.specs.Scanned.{noted_file, first_of, unscanned, IsScan}

pub part_faulty : (bytes : List ℕ) (e : FileFault) → with_fault of_part (part bytes 0) ≡ Err e → part_in bytes ≡ Err e
unfolding part_file
part_faulty bytes e is = rw is refl

pub part_whole : (bytes : List ℕ) (s : SealedFields) (n : ℕ) → length bytes ≤ n → part bytes 0 ≡ Ok (s, n) → part_in bytes ≡ Ok (s, n)
unfolding part_file
part_whole bytes s n all is = let test : nat_lt n (length bytes) ≡ false = grind (arith, nat_tests) in rw (is, test) refl

part_more : (bytes : List ℕ) (s : SealedFields) (n : ℕ) → n < length bytes → part bytes 0 ≡ Ok (s, n) → part_in bytes ≡ Err (faults.Layout (fault_at why.Value fields.End n))
unfolding part_file
part_more bytes s n lt is = let test : nat_lt n (length bytes) ≡ true = grind (arith, nat_tests) in rw (is, test) refl

-- bytes stand behind the part
pub part_behind : (b w x : List ℕ) (n : ℕ) → n < length w → EndsAs (b ++ take n w) → part_in (b ++ w ++ x) ≡ Err (faults.Layout (fault_at why.Value fields.End (length b + n)))
part_behind b w x n lt ends =
    let whole = ends (drop n w ++ x) in
    let size : length (b ++ take n w) ≡ length b + n = omega (arith, length-append b (take n w), length-take n w, lt) in
    let behind : length b + n < length (b ++ w ++ x) = omega (arith, length-append (b ++ w) x, length-append b w, lt) in
    part_more (b ++ w ++ x) whole.0 (length b + n) behind
    (ap (λ (l : List ℕ). part l 0) (sym (piece-parts b w x n)) ∙ whole.1 ∙ ap (λ (i : ℕ). Ok (whole.0, i)) size)

-- ---- what is noted of it

pub noted_faulty : (bytes : List ℕ) (e : LayoutFault) → sealed bytes 0 ≡ Err e → noted_file (part_in bytes) ≡ Err (faults.Layout e)
noted_faulty bytes e is = ap noted_file (part_faulty bytes (faults.Layout e) (rw is refl))

pub noted_behind : (b w x : List ℕ) (n : ℕ) → n < length w → EndsAt (b ++ take n w) → noted_file (part_in (b ++ w ++ x)) ≡ Err (faults.Layout (fault_at why.Value fields.End (length b + n)))
noted_behind b w x n lt ends = ap noted_file (part_behind b w x n lt (λ y. let whole = ends y in (whole.0, ap (with_fault of.Layout) whole.1)))

-- a part that is all of the bytes
pub noted_by : (bytes : List ℕ) (x : Result (SealedFields × ℕ) LayoutFault) (r : Result PartNote LayoutFault) → sealed bytes 0 ≡ x → noted x ≡ r
    → ((s : SealedFields) (n : ℕ) → x ≡ Ok (s, n) → n ≡ length bytes) → noted_file (part_in bytes) ≡ faulted faults.Layout r
noted_by bytes (Ok p) r is same ends =
    ap noted_file (part_whole bytes p.0 p.1 (omega (arith, ends p.0 p.1 refl)) (ap (with_fault of.Layout) is)) ∙ ap (faulted faults.Layout) same
noted_by bytes (Err e) r is same ends = noted_faulty bytes e is ∙ ap (faulted faults.Layout) same

-- nothing else is wrong with a file of one part
pub only_layout : (bytes : List ℕ) (x : Result (SealedFields × ℕ) LayoutFault) (e : FileFault) → sealed bytes 0 ≡ x → noted_file (part_in bytes) ≡ Err e → (f : LayoutFault) × (e ≡ faults.Layout f)
only_layout bytes (Err f) e is read = (f, (let h : ◌≡◌ {A = Result PartNote FileFault} (Err (faults.Layout f)) (Err e) = sym (noted_faulty bytes f is) ∙ read in cc))
only_layout bytes (Ok p) e is read = elim (cases_lt p.1 (length bytes)) [
  | inl lt ↦
      let fault = fault_at why.Value fields.End p.1 in
      let more = ap noted_file (part_more bytes p.0 p.1 lt (ap (with_fault of.Layout) is)) in
      (fault, (let h : ◌≡◌ {A = Result PartNote FileFault} (Err (faults.Layout fault)) (Err e) = sym more ∙ read in cc))
  | inr le ↦
      let whole = ap noted_file (part_whole bytes p.0 p.1 le (ap (with_fault of.Layout) is)) in
      absurd (let h : ◌≡◌ {A = Result PartNote FileFault} (noted_file (Ok p)) (Err e) = sym whole ∙ read in cc)
]

-- what a scan answers is what is wrong with the file
pub scan-is : (told : Option Files) (failed : Option (List ℕ) → Type 0) (name : List ℕ) (x : PartNote × ℕ)
    → IsFed told failed name (λ bytes r. noted_file (part_in bytes) ≡ first_of r) (Ok x) → IsScan told failed name (Ok x.0)
scan-is told failed name x (None, held, h, blamed) = absurd (let k : ◌≡◌ {A = Result (PartNote × ℕ) FileFault} (Ok x) (Err faults.Unread) = h in cc)
scan-is told failed name x (Some bytes, held, h, inl none) = (Some bytes, held, h, inl none)
scan-is told failed name x (Some bytes, held, h, inr (not, why)) = absurd (let k : ◌≡◌ {A = Result (PartNote × ℕ) FileFault} (Ok x) (Err faults.Unread) = not in cc)

pub scan-fault : (told : Option Files) (failed : Option (List ℕ) → Type 0) (name : List ℕ) (e : FileFault)
    → IsFed {A = PartNote × ℕ} told failed name (λ bytes r. noted_file (part_in bytes) ≡ first_of r) (Err e) → IsScan told failed name (Err (unscanned e))
scan-fault told failed name e (None, held, h, inl none) =
    let same : faults.Unread ≡ e = (let k : ◌≡◌ {A = Result (PartNote × ℕ) FileFault} (Err faults.Unread) (Err e) = sym h in cc) in
    subst (λ (f : FileFault). IsScan told failed name (Err (unscanned f))) same (None, held, refl, inl none)
scan-fault told failed name e (None, held, h, inr (is, why)) =
    let same : faults.Unread ≡ e = (let k : ◌≡◌ {A = Result (PartNote × ℕ) FileFault} (Err faults.Unread) (Err e) = sym h in cc) in
    subst (λ (f : FileFault). IsScan told failed name (Err (unscanned f))) same (None, held, refl, inr (refl, why))
scan-fault told failed name e (Some bytes, held, h, inl none) =
    let l = only_layout bytes (sealed bytes 0) e refl h in
    subst (λ (f : FileFault). IsScan told failed name (Err (unscanned f))) (sym l.1) (Some bytes, held, h ∙ ap (λ (f : FileFault). Err f) l.1, inl none)
scan-fault told failed name e (Some bytes, held, h, inr (is, why)) =
    let l = only_layout bytes (sealed bytes 0) e refl h in
    let same : e ≡ faults.Unread = (let k : ◌≡◌ {A = Result (PartNote × ℕ) FileFault} (Err e) (Err faults.Unread) = is in cc) in
    absurd (let k : ◌≡◌ {A = FileFault} faults.Unread (faults.Layout l.0) = sym same ∙ l.1 in cc)
