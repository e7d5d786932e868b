-- A file that is read in order.
use Rattle.std.proofs.Common.{◌≡◌, ℕ, ◌+◌, ◌-◌, ◌^◌, ◌<◌, ◌≤◌, inl, inr, List, [], ◌++◌, Option, Some, None, Result, Ok, Err, length, take, drop, refl, sym, ap, subst, ◌∙◌, arith, length-drop}
use Rattle.std.specs.Prelude.{◌↔◌, OnOk, OnErr}
use Rattle.std.specs.Option.{option_map}
use Rattle.std.specs.FinMap.{get}
use Rattle.std.proofs.lemmas.Bool.{cases_lt}
use Rattle.std.proofs.Math.Seq.{take-add}
use Rattle.std.proofs.lemmas.List.{drop-take, drop-drop, take-take, length-take, nil_from_length}
use Rattle.outside_core.specs.Files.{Files}
use Rattle.outside_core.specs.Feeding.{IsWindow, InOrder, Offers}
use Rattle.outside_core.specs.Standing.{file_in}

-- a window after bytes were taken from its front
pub IsWindow-drop : (bytes : List ℕ) (at : ℕ) (window : List ℕ) (n : ℕ) → n ≤ length window → IsWindow bytes at window → IsWindow bytes (at + n) (drop n window)
IsWindow-drop bytes at window n le is =
    let left : length (drop n window) ≡ length window - n = length-drop n window in
    let k : length window ≡ n + (length window - n) = omega arith in
    let cut : drop n (take (length window) (drop at bytes)) ≡ take (length window - n) (drop n (drop at bytes)) =
    ap (λ (m : ℕ). drop n (take m (drop at bytes))) k ∙ drop-take n (length window - n) (drop at bytes) in
    record {
      same = ap (drop n) is.same
          ∙ cut
          ∙ ap (take (length window - n)) (drop-drop n at bytes)
          ∙ ap (λ (m : ℕ). take m (drop (at + n) bytes)) (sym left);
      within = omega (arith, left, is.within);
    }

-- the same where files may not be told
pub InOrder-drop : (told : Option Files) (name : List ℕ) (at : ℕ) (window : List ℕ) (n : ℕ) → n ≤ length window → InOrder told name at window → InOrder told name (at + n) (drop n window)
InOrder-drop told name at window n le before = λ files e some.
    let h = before files e (omega (arith, length-drop n window)) in
    (h.0, h.1, IsWindow-drop h.0 at window n le h.2)

-- bytes that are taken from a window come behind those before them
pub taken-more : (bytes : List ℕ) (at : ℕ) (window : List ℕ) (n : ℕ) → n ≤ length window → IsWindow bytes at window → take at bytes ++ take n window ≡ take (at + n) bytes
taken-more bytes at window n le is =
    ap (λ (piece : List ℕ). take at bytes ++ piece) (ap (take n) is.same ∙ take-take n (length window) (drop at bytes) le)
    ∙ sym (take-add at n bytes)

-- ---- the file as a feed gives it

-- a window of all the bytes is one of those that can be numbered
window-cut : (bytes : List ℕ) (at : ℕ) (window : List ℕ) → at + length window < 2 ^ 64 → IsWindow bytes at window → IsWindow (take (2 ^ 64 - 1) bytes) at window
window-cut bytes at window fits is =
    let left : ℕ = 2 ^ 64 - 1 - at in
    let k : 2 ^ 64 - 1 ≡ at + left = omega (arith, fits) in
    let cut : drop at (take (2 ^ 64 - 1) bytes) ≡ take left (drop at bytes) = ap (λ (m : ℕ). drop at (take m bytes)) k ∙ drop-take at left bytes in
    record {
      same = is.same ∙ sym (ap (take (length window)) cut ∙ take-take (length window) left (drop at bytes) (omega (arith, fits)));
      within = omega (arith, fits, is.within, length-take (2 ^ 64 - 1) bytes);
    }

-- and the other way
window-whole : (bytes : List ℕ) (at : ℕ) (window : List ℕ) → IsWindow (take (2 ^ 64 - 1) bytes) at window → IsWindow bytes at window
window-whole bytes at window is =
    let left : ℕ = 2 ^ 64 - 1 - at in
    let within : at + length window ≤ 2 ^ 64 - 1 = omega (arith, is.within, length-take (2 ^ 64 - 1) bytes) in
    let k : 2 ^ 64 - 1 ≡ at + left = omega (arith, within) in
    let cut : drop at (take (2 ^ 64 - 1) bytes) ≡ take left (drop at bytes) = ap (λ (m : ℕ). drop at (take m bytes)) k ∙ drop-take at left bytes in
    record {
      same = is.same ∙ ap (take (length window)) cut ∙ take-take (length window) left (drop at bytes) (omega (arith, within));
      within = omega (arith, is.within, length-take (2 ^ 64 - 1) bytes);
    }

-- what a file that is told comes of
record IsHeld (told : Option Files) (name file : List ℕ) (files : Files) (bytes : List ℕ) : Type 0 where
  known : told ≡ Some files
  held : get files name ≡ Some bytes
  cut : file ≡ take (2 ^ 64 - 1) bytes

held-as : (files : Files) (name file : List ℕ) (held : Option (List ℕ)) → get files name ≡ held → option_map (take (2 ^ 64 - 1)) held ≡ Some file
    → (bytes : List ℕ) × IsHeld (Some files) name file files bytes
held-as files name file None is h = absurd cc
held-as files name file (Some bytes) is h = (bytes, record { known = refl; held = is; cut = cc })

file-held : (told : Option Files) (name file : List ℕ) → file_in told name ≡ Some file → (files : Files) × (bytes : List ℕ) × IsHeld told name file files bytes
file-held None name file is = absurd cc
file-held (Some files) name file is =
    let (bytes, held) = held-as files name file (get files name) refl is in
    (files, bytes, held)

-- what stands in a file is in order
pub ordered : (told : Option Files) (name file : List ℕ) (at : ℕ) (window : List ℕ) → file_in told name ≡ Some file → IsWindow file at window → InOrder told name at window
ordered told name file at window is in_file = λ files e some.
    let (fs, bytes, held) = file-held told name file is in
    let same : fs ≡ files = cc in
    (bytes, ap (λ (f : Files). get f name) (sym same) ∙ held.held, window-whole bytes at window (subst (λ (l : List ℕ). IsWindow l at window) held.cut in_file))

-- and what is in order stands in the file
pub windowed : (told : Option Files) (name file : List ℕ) (at : ℕ) (window : List ℕ) → file_in told name ≡ Some file → at + length window < 2 ^ 64
    → InOrder told name at window → IsWindow file at window
windowed told name file at window is fits order =
    elim (cases_lt 0 (at + length window)) [
      | inl some ↦
          let (fs, bytes, held) = file-held told name file is in
          let (other, there, in_bytes) = order fs held.known some in
          let same : other ≡ bytes = cc in
          subst (λ (l : List ℕ). IsWindow l at window) (sym held.cut) (window-cut bytes at window fits (subst (λ (l : List ℕ). IsWindow l at window) same in_bytes))
      | inr none ↦
          let empty : window ≡ [] = nil_from_length window (omega (arith, none)) in
          let first : at ≡ 0 = omega (arith, none) in
          rw (empty, first) (record { same = refl; within = omega arith })
    ]

-- nothing is offered exactly where all the file is taken
pub offered : (told : Option Files) (name file : List ℕ) (at : ℕ) (window : List ℕ) → file_in told name ≡ Some file → at < 2 ^ 64
    → Offers told name at window → window ≡ [] ↔ length file ≤ at
offered told name file at window is fits offers =
    let (fs, bytes, held) = file-held told name file is in
    let (other, there, in_bytes, ends) = offers fs held.known in
    let same : other ≡ bytes = cc in
    let long : length file ≡ length (take (2 ^ 64 - 1) other) = ap length (held.cut ∙ ap (take (2 ^ 64 - 1)) (sym same)) in (
      λ none. elim (ends.0 none) [
        | inl short ↦ omega (arith, long, length-take (2 ^ 64 - 1) other, short)
        | inr last ↦ omega (arith, long, length-take (2 ^ 64 - 1) other, last)
      ],
      λ le. ends.1 (elim (cases_lt at (length other)) [
        | inl lt ↦ inr (omega (arith, le, lt, fits, long, length-take (2 ^ 64 - 1) other))
        | inr short ↦ inl short
      ]),
    )

-- what stands in a file stands there after filling
pub filled-stands : {A E : Type 0} (told later : Option Files) (name file : List ℕ) (at : ℕ) (old new : List ℕ) (r : Result A E) → later ≡ told
    → at + length new < 2 ^ 64 → OnOk r (InOrder told name at old → Offers told name at new) → OnErr r (new ≡ old)
    → file_in told name ≡ Some file → IsWindow file at old → (file_in later name ≡ Some file) × IsWindow file at new
filled-stands told later name file at old new (Ok x) same fits ok err is window =
    let offers : Offers told name at new = ok (ordered told name file at old is window) in (
      ap (λ (l : Option Files). file_in l name) same ∙ is,
      windowed told name file at new is fits (λ files e some. let (bytes, held, in_bytes, ends) = offers files e in (bytes, held, in_bytes)),
    )
filled-stands told later name file at old new (Err e) same fits ok err is window =
    (ap (λ (l : Option Files). file_in l name) same ∙ is, subst (λ (w : List ℕ). IsWindow file at w) (sym err) window)

pub filled-ends : {A E : Type 0} (told : Option Files) (name : List ℕ) (at : ℕ) (old new : List ℕ) (r : Result A E) (Stands : List ℕ → Type 0)
    → at < 2 ^ 64 → OnOk r (InOrder told name at old → Offers told name at new)
    → ((file : List ℕ) → Stands file → (file_in told name ≡ Some file) × IsWindow file at old)
    → OnOk r ((file : List ℕ) → Stands file → new ≡ [] ↔ length file ≤ at)
filled-ends told name at old new (Ok x) Stands fits ok each = λ file stands.
    let (is, window) = each file stands in
    offered told name file at new is fits (ok (ordered told name file at old is window))
filled-ends told name at old new (Err e) Stands fits ok each = tt
