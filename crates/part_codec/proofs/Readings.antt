-- What a reader answers.
use Rattle.std.proofs.Common.{◌≡◌, ℕ, ◌+◌, ◌^◌, ◌<◌, ◌≤◌, List, [], ◌++◌, length, take, drop, Option, Some, None, Result, Ok, Err, refl, sym, ap, subst, ◌∙◌, append_assoc, inl, inr}
use Rattle.std.proofs.lemmas.Bool.{cases_lt}
use Rattle.std.proofs.lemmas.List.{append-nil, length-take-le, take_all, take-append-drop}
use Rattle.sha2.specs.declared.Sha256.{Sha256}
use Rattle.octets_core.specs.Layout.{with_fault}
use Rattle.octets_core.specs.declared.fault.LayoutFault.{LayoutFault}
use Rattle.octets_core.specs.Reading.{fault_at}
use Rattle.octets_core.specs.declared.fault.Why.TheVariants as why
use Rattle.part_text.specs.SealedFields.{SealedFields}
use Rattle.part_text.specs.PartLayout.{kind_of, sealed, part}
use Rattle.part_text.specs.Fitting.{Fits}
use Rattle.part_codec.specs.PileFields.{PileFields}
use Rattle.part_text.specs.declared.fault.PartFault.{PartFault}
use Rattle.part_text.specs.declared.fault.PartFault.TheVariants as faults
use Rattle.part_codec.specs.declared.fields.Kept.{Kept}
use Rattle.part_codec.specs.declared.fields.Open.{Open}
use Rattle.part_codec.specs.declared.fields.Open.TheVariants as opens
use Rattle.part_codec.specs.declared.machine.Machine.{Machine}
use Rattle.part_codec.specs.declared.reader.PartReader.{PartReader}
use Rattle.part_codec.specs.Remaining.{nothing_seen, sealed_of}
use Rattle.part_codec.specs.Stepping.{tail_of, name_of}
use Rattle.part_codec.specs.Scanning.{Stands, Hashes}
use Rattle.part_codec.specs.Collecting.{nothing_piled, Collects, Reads, ReadsTo, HasRead, IsPile}
use Rattle.part_codec.specs.ReaderStanding.{ReadsBy, ReadsFor, EndsAs, HasFailed}
use Rattle.part_text.proofs.PartTexts.{sealed-leaves}
use Rattle.part_codec.proofs.MachineStands.{field-done, field-short}
use Rattle.part_codec.proofs.Scans.{done-is, ends-at, few-behind}
use Rattle.octets_core.proofs.Fields.{mapped-ok}

pub part-piece-fails : (b piece x : List ℕ) (n : ℕ) (r : List ℕ) (e : PartFault) → r ≡ drop n piece → part ((b ++ take n piece) ++ r ++ x) 0 ≡ Err e → part (b ++ piece ++ x) 0 ≡ Err e
part-piece-fails b piece x n r e is h =
    let same : b ++ piece ++ x ≡ (b ++ take n piece) ++ r ++ x
    = ap (λ (l : List ℕ). b ++ l ++ x) (sym (take-append-drop n piece)) ∙ ap (λ (l : List ℕ). l ++ x) (sym (append_assoc b (take n piece) (drop n piece)))
    ∙ ap (λ (l : List ℕ). (b ++ take n piece) ++ l ++ x) (sym is) in
    ap (λ (l : List ℕ). part l 0) same ∙ h

abbrev pub piled : Kept → PileFields → SealedFields
piled k p = record { part = record { head = record { kind = kind_of k.kind; epoch = k.epoch; parent = k.parent; ranges = p.ranges }; blocks = p.blocks }; trailer = k.trailer }

same-part : (m : Machine) (p : PileFields) (b : List ℕ) → (r : Reads m p b) → sealed_of m.kept r.0 ≡ piled m.kept p
same-part m p b r = rw (r.2.ranges, r.2.blocks) refl

pub done-part : (m : Machine) (p : PileFields) (b x : List ℕ) → Reads m p b → m.field ≡ opens.Done → part (b ++ x) 0 ≡ Ok (piled m.kept p, length b)
done-part m p b x r done =
    ap (λ (read : Result (SealedFields × ℕ) LayoutFault). with_fault faults.Layout read) (done-is m r.0 b x r.1 done) ∙ ap (λ (s : SealedFields). Ok (s, length b)) (same-part m p b r)

pub of-pile : (m : Machine) (p : PileFields) (b : List ℕ) → ReadsTo IsPile m p b → Reads m p b
of-pile m p b r = subst (λ (q : PileFields). Reads m q b) r.1 r.2

pub done-fits : (m : Machine) (p : PileFields) → HasRead IsPile m p → m.field ≡ opens.Done → Fits (piled m.kept p)
done-fits m p h done =
    let b : List ℕ = h.0 in
    let r = of-pile m p b h.1 in
    subst Fits (same-part m p b r) ((sealed-leaves b r.1.opens.fits).each (sealed_of m.kept r.0, length b) (field-done m r.0 b r.1 done)).1

pub read-none : (f : Option PartFault) (m : Machine) (p : PileFields) (h : Sha256) (b : List ℕ) → f ≡ None → ReadsBy f m p h b → ReadsTo IsPile m p b × Hashes m h b
read-none f m p h b is st = subst (λ (g : Option PartFault). ReadsBy g m p h b) is st

pub read-ends : (m : Machine) (p : PileFields) (b : List ℕ) → Reads m p b → m.field ≡ opens.Done → EndsAs b
read-ends m p b r done = λ x. (piled m.kept p, done-part m p b x r done)

pub read-faulty : (f : Option PartFault) (e : PartFault) (m : Machine) (p : PileFields) (h : Sha256) (b : List ℕ) → f ≡ Some e → ReadsBy f m p h b → (e ≡ faults.NoMemory → ⊥) → part b 0 ≡ Err e
read-faulty f e m p h b is st other = ap (λ (l : List ℕ). part l 0) (sym (append-nil b)) ∙ (subst (λ (g : Option PartFault). ReadsBy g m p h b) is st) other []

pub read-short : (m : Machine) (p : PileFields) (b : List ℕ) (e : LayoutFault) → Reads m p b → ((m.field ≡ opens.Done → ⊥) → m.filled < tail_of m.field) → (m.field ≡ opens.Done → ⊥)
    → e ≡ fault_at why.Short (name_of m.field) m.at → part b 0 ≡ Err (faults.Layout e)
read-short m p b e r partial goes is =
    ap (λ (read : Result (SealedFields × ℕ) LayoutFault). with_fault faults.Layout read) (field-short m r.0 b r.1 (partial goes)) ∙ ap (λ (f : LayoutFault). Err (faults.Layout f)) (sym is)

pub read-new : (m : Machine) (p : PileFields) → Stands m nothing_seen [] → m.field ≡ opens.Magic → p ≡ nothing_piled → Reads m p []
read-new m p st first is = (
  nothing_seen,
  st,
  subst (λ (o : Open). Collects o m.kept nothing_seen p (drop m.at [])) (sym first)
      (record { ranges = ap (λ (q : PileFields). q.ranges) (sym is); blocks = ap (λ (q : PileFields). q.blocks) (sym is); leaves = ap (λ (q : PileFields). q.leaves) (sym is); stage = tt }),
)

pub given-ok : (bytes : List ℕ) (n : ℕ) (s : SealedFields) → n ≤ length bytes → part (take n bytes ++ drop n bytes) 0 ≡ Ok (s, length (take n bytes)) → part bytes 0 ≡ Ok (s, n)
given-ok bytes n s le h =
    ap (λ (l : List ℕ). part l 0) (sym (take-append-drop n bytes)) ∙ h ∙ ap (λ (k : ℕ). Ok (s, k)) (length-take-le n bytes le)

not-both : (bytes : List ℕ) (s : SealedFields) (end : ℕ) (e : PartFault) → part bytes 0 ≡ Ok (s, end) → part bytes 0 ≡ Err e → ⊥
not-both bytes s end e one two = let clash : ◌≡◌ {A = Result (SealedFields × ℕ) PartFault} (Ok (s, end)) (Err e) = sym one ∙ two in absurd cc

pub given-err : (bytes : List ℕ) (n : ℕ) (e : PartFault) → (n < length bytes → EndsAs (take n bytes)) → part (take n bytes) 0 ≡ Err e → part bytes 0 ≡ Err e
given-err bytes n e ends h =
    elim (cases_lt n (length bytes)) [
      | inl lt ↦ let x = ends lt [] in absurd (not-both (take n bytes) x.0 _ e (ap (λ (l : List ℕ). part l 0) (sym (append-nil (take n bytes))) ∙ x.1) h)
      | inr le ↦ ap (λ (l : List ℕ). part l 0) (sym (take_all n bytes le)) ∙ h
    ]

pub part-ends-at : (m : Machine) (p : PileFields) (b piece : List ℕ) (n : ℕ) (s : SealedFields) (end : ℕ) → Reads m p (b ++ take n piece) → ((m.field ≡ opens.Done → ⊥)
    → m.filled < tail_of m.field) → n ≤ length piece
    → (n < length piece → m.field ≡ opens.Done) → part (b ++ piece) 0 ≡ Ok (s, end) → length b + n ≡ end
part-ends-at m p b piece n s end r partial count all read = ends-at m b piece n s end (r.0, r.1) partial count all (mapped-ok faults.Layout sealed (b ++ piece) 0 (s, end) read)

-- bytes without a fault are fewer than 2^49
pub few-read : (reader : PartReader) (f : Option PartFault) (b : List ℕ) → reader.fault ≡ f → ((e : PartFault) → HasFailed reader e → ⊥) → ReadsFor reader b → length b < 2 ^ 49
few-read reader None b is well st =
    let r = of-pile reader.machine reader.pile b (read-none reader.fault reader.machine reader.pile reader.hasher b is st).0 in
    few-behind reader.machine b (r.0, r.1)
few-read reader (Some e) b is well st = absurd (well e is)
