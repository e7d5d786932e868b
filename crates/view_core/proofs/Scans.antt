-- What a scan of bytes that are all there tells.
use Rattle.std.proofs.Common.{◌≡◌, ℕ, ◌≤◌, ◌<◌, ◌+◌, List, [], ◌++◌, length, take, drop, Result, Ok, Err, refl, sym, ap, subst, ◌∙◌, arith, inl, inr}
use Rattle.std.proofs.lemmas.Bool.{cases_lt}
use Rattle.std.proofs.lemmas.List.{append-nil, take_all, take-append-drop, length-take, get_or-drop}
use Rattle.octets_core.specs.declared.fault.LayoutFault.{LayoutFault}
use Rattle.octets_core.specs.Layout.{embedded, from_there, with_fault}
use Rattle.octets_core.proofs.Fields.{ok_is}
use Rattle.octets_core.proofs.Bounds.{IsWithin}
use Rattle.octets_core.proofs.Texts.{IsBytes}
use Rattle.part_text.specs.Fitting.{Fits}
use Rattle.part_text.specs.PartText.{spelling}
use Rattle.part_text.specs.declared.fault.PartFault.TheVariants as faults
use Rattle.part_text.proofs.PartBounds.{sealed-bounded}
use Rattle.part_text.proofs.PartTexts.{sealed-leaves}
use Rattle.store_core.specs.StoreLayout.{moved}
use Rattle.part_text.specs.SealedFields.{SealedFields}
use Rattle.part_text.specs.PartLayout.{sealed, part}
use Rattle.part_text.proofs.PartOfFields.{sealed-of}
use Rattle.part_codec.specs.Noting.{noted, note_of}
use Rattle.part_codec.specs.Standing.{EndsAt}
use Rattle.part_codec.specs.declared.scan.PartNote.{PartNote}
use Rattle.view_core.specs.Texts.{Stands}

-- of the bytes that it took, behind which there may be others
pub fed : (bytes : List ℕ) (n : ℕ) (r : Result PartNote LayoutFault) → (n < length bytes → EndsAt (take n bytes)) → noted (sealed (take n bytes) 0) ≡ r → r ≡ noted (sealed bytes 0)
fed bytes n r ends is =
    elim (cases_lt n (length bytes)) [
      | inl lt ↦
          let e = ends lt [] in
          let all : take n bytes ++ drop n bytes ≡ bytes = take-append-drop n bytes in
          let one : sealed (take n bytes) 0 ≡ Ok (e.0, length (take n bytes)) = ap (λ (l : List ℕ). sealed l 0) (sym (append-nil (take n bytes))) ∙ e.1 in
          let more = sealed-of.read (take n bytes) (drop n bytes) 0 (e.0, length (take n bytes)) one in
          sym is ∙ ap noted one ∙ ap noted (sym more) ∙ ap (λ (l : List ℕ). noted (sealed l 0)) all
      | inr le ↦ sym is ∙ ap (λ (l : List ℕ). noted (sealed l 0)) (take_all n bytes le)
    ]

-- ---- the part that was noted

-- a part that is spelled from a place on, up to another
pub record IsSpelled (bytes : List ℕ) (at : ℕ) (s : SealedFields) (n : ℕ) : Type 0 where
  pub read : embedded moved part bytes at ≡ Ok (s, at + n)
  pub len : n ≡ length (spelling s)
  pub fits : Fits s
  pub text : Stands bytes at (spelling s)
  pub within : n ≤ length (drop at bytes)

pub noted-ok : (r : Result (SealedFields × ℕ) LayoutFault) (note : PartNote) → Ok note ≡ noted r → (x : SealedFields × ℕ) × (r ≡ Ok x) × (note ≡ note_of x.0 x.1)
noted-ok (Ok x) note e = (x, refl, ok_is {E = LayoutFault} note (note_of x.0 x.1) e)
noted-ok (Err f) note e = absurd cc

pub noted-err : (r : Result (SealedFields × ℕ) LayoutFault) (f : LayoutFault) → Err f ≡ noted r → r ≡ Err f
noted-err (Ok x) f e = absurd cc
noted-err (Err g) f e = let same : f ≡ g = cc in ap (λ (x : LayoutFault). Err x) (sym same)

behind-fits : (bytes : List ℕ) (at : ℕ) → IsBytes bytes → IsBytes (drop at bytes)
behind-fits bytes at fits = λ i. rw get_or-drop (fits (at + i))

pub spelled : (bytes : List ℕ) (at : ℕ) → IsBytes bytes → (s : SealedFields) (n : ℕ) → sealed (drop at bytes) 0 ≡ Ok (s, n) → IsSpelled bytes at s n
spelled bytes at fits s n read =
    let rest : List ℕ = drop at bytes in
    let found = (sealed-leaves rest (behind-fits bytes at fits)).each (s, n) read in
    record {
      read = ap (λ (r : Result (SealedFields × ℕ) LayoutFault). from_there moved at (with_fault faults.Layout r)) read;
      len = omega (arith, found.0.room, ap length found.0.parts, length-take n rest);
      fits = found.1;
      text = record { behind = drop n rest; is = sym (take-append-drop n rest) ∙ ap (λ (l : List ℕ). l ++ drop n rest) found.0.parts };
      within = found.0.room;
    }

-- what was noted there is a part
pub part-noted : (bytes rest : List ℕ) (at : ℕ) → rest ≡ drop at bytes → IsBytes bytes → (note : PartNote) → Ok note ≡ noted (sealed rest 0)
    → (s : SealedFields) × IsSpelled bytes at s note.length × (note ≡ note_of s (length (spelling s)))
part-noted bytes rest at is fits note e =
    let x = noted-ok (sealed (drop at bytes) 0) note (e ∙ ap (λ (l : List ℕ). noted (sealed l 0)) is) in
    let one = spelled bytes at fits x.0.0 x.0.1 x.1 in
    let n : x.0.1 ≡ note.length = sym (ap (λ (p : PartNote). p.length) x.2) in
    (x.0.0, subst (λ (k : ℕ). IsSpelled bytes at x.0.0 k) n one, x.2 ∙ ap (note_of x.0.0) one.len)

-- a fault lies within the bytes
pub fault-within : (rest : List ℕ) (f : LayoutFault) → Err f ≡ noted (sealed rest 0) → f.at ≤ length rest
fault-within rest f e = subst (IsWithin {A = SealedFields} (λ (g : LayoutFault). g.at) rest) (noted-err (sealed rest 0) f e) (sealed-bounded.each rest 0 (omega arith))
