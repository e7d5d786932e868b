-- What an iterator gives of bytes in which a fault stands.
use Rattle.std.proofs.Common.{◌≡◌, ◌≢◌, ℕ, ◌<◌, List, [], ◌∷◌, ◌++◌, length, take, drop, map, Ok, Err, refl, sym, ap, ◌∙◌, arith, append_assoc}
use Rattle.std.proofs.lemmas.List.{take-append-drop}
use Rattle.std.proofs.Math.Seq.{drop-append_seam}
use Rattle.der_core.specs.Elements.{Der, Read, Item, element_at, items}
use Rattle.der_core.specs.Grammar.{FaultAfter}
use Rattle.der_core.specs.declared.types.DerFault.{DerFault}
use Rattle.der_core.proofs.ItemLaws.{items-ok, items-err, items-none}
use Rattle.der_core.proofs.GrammarLaws.{element-read, element-taken, first_item}

some_length : (bytes : List ℕ) → bytes ≢ [] → 0 < length bytes
some_length [] h = absurd (h refl)
some_length (b ∷ bytes) h = omega arith

-- elements and then a fault are what an iterator gives,
pub faulty-read : (es : List Der) (f : DerFault) (bytes : List ℕ) → FaultAfter es f bytes → items bytes ≡ map (λ e. Ok e) es ++ Err f ∷ []
faulty-read [] f bytes h =
    let same : bytes ≡ h.rest = h.same ∙ ap (λ (xs : List ℕ). xs ++ h.rest) h.elements in
    rw same (items-err h.rest f (some_length h.rest h.some) h.fault)
faulty-read (e ∷ es) f bytes h =
    let front = h.elements.0 in
    let more = h.elements.1 in
    let rest = more ++ h.rest in
    let whole : bytes ≡ front ++ rest = h.same ∙ ap (λ (xs : List ℕ). xs ++ h.rest) h.elements.3 ∙ append_assoc front more h.rest in
    let read : element_at (front ++ rest) ≡ Ok (e, length front) = element-read e front rest h.elements.2 in
    let back : drop (length front) (front ++ rest) ≡ rest = drop-append_seam front rest in
    let next = faulty-read es f rest (record { front = more; rest = h.rest; same = refl; elements = h.elements.4; some = h.some; fault = h.fault }) in
    rw whole (items-ok (front ++ rest) (e, length front) read ∙ ap (λ (xs : List ℕ). Ok e ∷ items xs) back ∙ ap (λ (xs : List Item). Ok e ∷ xs) next)

no_more : (bytes : List ℕ) (f : DerFault) (r : Read Der) → bytes ≢ [] → element_at bytes ≡ r → items bytes ≡ Err f ∷ [] → r ≡ Err f
no_more bytes f (Err g) some read h = let all = items-err bytes g (some_length bytes some) read in cc
no_more bytes f (Ok x) some read h = let all = items-ok bytes x read in cc

-- and where an iterator gives a fault, elements stand before it and none at it.
pub faulty-taken : (es : List Der) (f : DerFault) (bytes : List ℕ) → items bytes ≡ map (λ e. Ok e) es ++ Err f ∷ [] → FaultAfter es f bytes
faulty-taken [] f [] h = let none = items-none [] refl in absurd (let no : [] ≡ Err f ∷ [] = sym none ∙ h in cc)
faulty-taken [] f (b ∷ bytes) h =
    let some : (b ∷ bytes) ≢ [] = λ e. cc in
    record { front = []; rest = b ∷ bytes; same = refl; elements = refl; some = some; fault = no_more (b ∷ bytes) f (element_at (b ∷ bytes)) some refl h }
faulty-taken (e ∷ es) f [] h =
    let none = items-none [] refl in
    absurd (let no : [] ≡ Ok e ∷ (map (λ e. Ok e) es ++ Err f ∷ []) = sym none ∙ h in cc)
faulty-taken (e ∷ es) f (b ∷ bytes) h =
    let first = first_item (b ∷ bytes) (element_at (b ∷ bytes)) e (map (λ e. Ok e) es ++ Err f ∷ []) (omega arith) refl h in
    let front = take first.n (b ∷ bytes) in
    let after = faulty-taken es f (drop first.n (b ∷ bytes)) first.rest in
    let same : (b ∷ bytes) ≡ front ++ (after.front ++ after.rest) = sym (take-append-drop first.n (b ∷ bytes)) ∙ ap (λ (xs : List ℕ). front ++ xs) after.same in
    record {
      front = front ++ after.front;
      rest = after.rest;
      same = same ∙ sym (append_assoc front after.front after.rest);
      elements = (front, after.front, element-taken (b ∷ bytes) (e, first.n) first.read, refl, after.elements);
      some = after.some;
      fault = after.fault;
    }
