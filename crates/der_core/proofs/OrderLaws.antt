-- Walks over elements that stand one after the other, some of them optional.
use Rattle.std.proofs.Common.{◌≡◌, ℕ, List, [], ◌∷◌, ◌++◌, length, take, drop, Bool, true, false, cond, Option, Some, None, Ok, Err, refl, sym, subst}
use Rattle.std.specs.Prelude.{IfSome}
use Rattle.std.proofs.lemmas.List.{take-append-drop}
use Rattle.std.proofs.Math.Seq.{drop-append_seam}
use Rattle.der_core.specs.Elements.{Der, Read, element_at}
use Rattle.der_core.specs.Grammar.{AreElements, StandsBefore, StandsOrNot, one_of}
use Rattle.der_core.specs.Walk.{passing_or_not, has_tag, element_where, optional_where, field, optional, contents_if}
use Rattle.der_core.proofs.GrammarLaws.{element-taken, element-read}
use Rattle.der_core.proofs.WalkLaws.{field-read, field-taken, optional-read, optional-other, optional-taken, element_where-read, element_where-taken}

-- A walk gave this value, and these elements stand behind it.
pub record Takes {A : Type 0} (r : Option (A × List ℕ)) (x : A) (es : List Der) : Type 0 where
  pub rest : List ℕ
  pub is : r ≡ Some (x, rest)
  pub more : AreElements es rest

-- the first of the elements, if there is one, passes
abbrev pub first_passes : (Der → Bool) → List Der → Bool
first_passes test [] = false
first_passes test (e ∷ es) = test e

pub field-first : (tag : ℕ) (e : Der) (es : List Der) (bytes : List ℕ) → AreElements (e ∷ es) bytes → e.tag ≡ tag → Takes (field tag bytes) e.contents es
field-first tag e es bytes h t =
    let P : ℕ → Type 0 = λ n. StandsBefore n e.contents bytes h.1 in
    record { rest = h.1; is = field-read tag e.contents bytes h.1 (subst P t (h.0, h.2, h.3)); more = h.4 }

pub element-first : (test : Der → Bool) (e : Der) (es : List Der) (bytes : List ℕ) → AreElements (e ∷ es) bytes → test e ≡ true → Takes (element_where test bytes) e es
element-first test e es bytes h t = record { rest = h.1; is = element_where-read test e h.0 bytes h.1 t h.2 h.3; more = h.4 }

optional-none : (tag : ℕ) (es : List Der) (bytes : List ℕ) → AreElements es bytes → first_passes (has_tag tag) es ≡ false → optional tag bytes ≡ Some (None, bytes)
unfolding optional element_at
optional-none tag [] bytes h t = rw h refl
optional-none tag (e ∷ es) bytes h t = optional-other tag e.tag e.contents bytes h.1 t (h.0, h.2, h.3)

-- an optional field is taken, or isn't where the first of the elements has another tag
pub optional-first : (tag : ℕ) (o : Option Der) (es : List Der) (bytes : List ℕ) → AreElements (one_of o ++ es) bytes → IfSome o (λ e. e.tag ≡ tag) → first_passes (has_tag tag) es ≡ false
    → Takes (optional tag bytes) (contents_if o) es
optional-first tag None es bytes h t other = record { rest = bytes; is = optional-none tag es bytes h other; more = h }
optional-first tag (Some e) es bytes h t other =
    let P : ℕ → Type 0 = λ n. StandsBefore n e.contents bytes h.1 in
    record { rest = h.1; is = optional-read tag e.contents bytes h.1 (subst P t (h.0, h.2, h.3)); more = h.4 }

where-none : (test : Der → Bool) (es : List Der) (bytes : List ℕ) → AreElements es bytes → first_passes test es ≡ false → optional_where test bytes ≡ Some (None, bytes)
unfolding optional_where element_at
where-none test [] bytes h t = rw h refl
where-none test (e ∷ es) bytes h t =
    let read : element_at (h.0 ++ h.1) ≡ Ok (e, length h.0) = element-read e h.0 h.1 h.2 in
    rw (h.3, read, t) refl

where-some : (test : Der → Bool) (e : Der) (es : List Der) (bytes : List ℕ) (h : AreElements (e ∷ es) bytes) → test e ≡ true → optional_where test bytes ≡ Some (Some e, h.1)
unfolding optional_where
where-some test e es bytes h t =
    let read : element_at (h.0 ++ h.1) ≡ Ok (e, length h.0) = element-read e h.0 h.1 h.2 in
    let back : drop (length h.0) (h.0 ++ h.1) ≡ h.1 = drop-append_seam h.0 h.1 in
    rw (h.3, read, t, back) refl

pub optional_where-first : (test : Der → Bool) (o : Option Der) (es : List Der) (bytes : List ℕ) → AreElements (one_of o ++ es) bytes → IfSome o (λ e. test e ≡ true) → first_passes test es ≡ false
    → Takes (optional_where test bytes) o es
optional_where-first test None es bytes h t other = record { rest = bytes; is = where-none test es bytes h other; more = h }
optional_where-first test (Some e) es bytes h t other = record { rest = h.1; is = where-some test e es bytes h t; more = h.4 }

-- and the other way round: what a walk took stands before the elements behind it
pub field-before : (tag : ℕ) (bytes : List ℕ) (x : List ℕ × List ℕ) (es : List Der) → field tag bytes ≡ Some x → AreElements es x.1 → AreElements (record { tag = tag; contents = x.0 } ∷ es) bytes
field-before tag bytes x es h more =
    let s = field-taken tag bytes x h in
    (s.0, x.1, s.1, s.2, more)

-- an element of this tag with these contents, if there are any
abbrev pub element_if : ℕ → Option (List ℕ) → Option Der
element_if tag None = None
element_if tag (Some contents) = Some (record { tag = tag; contents = contents })

stands-before : (tag : ℕ) (o : Option (List ℕ)) (bytes rest : List ℕ) (es : List Der) → StandsOrNot tag o bytes rest → AreElements es rest → AreElements (one_of (element_if tag o) ++ es) bytes
stands-before tag None bytes rest es h more = let P : List ℕ → Type 0 = λ bs. AreElements es bs in subst P h more
stands-before tag (Some contents) bytes rest es h more = (h.0, rest, h.1, h.2, more)

pub optional-before : (tag : ℕ) (bytes : List ℕ) (x : Option (List ℕ) × List ℕ) (es : List Der) → optional tag bytes ≡ Some x → AreElements es x.1
    → AreElements (one_of (element_if tag x.0) ++ es) bytes
optional-before tag bytes x es h more = stands-before tag x.0 bytes x.1 es (optional-taken tag bytes x h) more

pub element-before : (test : Der → Bool) (bytes : List ℕ) (x : Der × List ℕ) (es : List Der) → element_where test bytes ≡ Some x → AreElements es x.1 → (test x.0 ≡ true) × AreElements (x.0 ∷ es) bytes
element-before test bytes x es h more =
    let s = element_where-taken test bytes x h in
    (s.passes, (s.front, x.1, s.is, s.same, more))

stands : (bytes : List ℕ) (y : Der × ℕ) → element_at bytes ≡ Ok y → (es : List Der) → AreElements es (drop y.1 bytes) → AreElements (y.0 ∷ es) bytes
stands bytes y read es more = (take y.1 bytes, drop y.1 bytes, element-taken bytes y read, sym (take-append-drop y.1 bytes), more)

-- An element that there may be passes, and stands before what follows it.
pub record PassesOrNot (test : Der → Bool) (x : Option Der × List ℕ) (bytes : List ℕ) : Type 0 where
  pub passes : IfSome x.0 (λ e. test e ≡ true)
  pub before : (es : List Der) → AreElements es x.1 → AreElements (one_of x.0 ++ es) bytes

passes_or_not-same : (test : Der → Bool) (bytes : List ℕ) (y x : Option Der × List ℕ) → PassesOrNot test y bytes → Some y ≡ Some x → PassesOrNot test x bytes
passes_or_not-same test bytes y x is h =
    let same : y ≡ x = cc in
    let P : Option Der × List ℕ → Type 0 = λ p. PassesOrNot test p bytes in
    subst P same is

passes_or_not-if : (test : Der → Bool) (bytes : List ℕ) (y : Der × List ℕ) (x : Option Der × List ℕ) (b : Bool) → test y.0 ≡ b → ((es : List Der) → AreElements es y.1 → AreElements (y.0 ∷ es) bytes)
    → cond b (Some (Some y.0, y.1)) (Some (None, bytes)) ≡ Some x → PassesOrNot test x bytes
passes_or_not-if test bytes y x false t before h = passes_or_not-same test bytes (None, bytes) x (record { passes = tt; before = λ es more. more }) h
passes_or_not-if test bytes y x true t before h = passes_or_not-same test bytes (Some y.0, y.1) x (record { passes = t; before = before }) h

passes_or_not-read : (test : Der → Bool) (bytes : List ℕ) (r : Read Der) (x : Option Der × List ℕ) → element_at bytes ≡ r → passing_or_not test bytes r ≡ Some x → PassesOrNot test x bytes
passes_or_not-read test bytes (Err f) x read h = passes_or_not-same test bytes (None, bytes) x (record { passes = tt; before = λ es more. more }) h
passes_or_not-read test bytes (Ok y) x read h = passes_or_not-if test bytes (y.0, drop y.1 bytes) x (test y.0) refl (stands bytes y read) h

pub optional_where-passes : (test : Der → Bool) (bytes : List ℕ) (x : Option Der × List ℕ) → optional_where test bytes ≡ Some x → PassesOrNot test x bytes
unfolding optional_where
optional_where-passes test bytes x h = passes_or_not-read test bytes (element_at bytes) x refl h
