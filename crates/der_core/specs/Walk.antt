-- Walks over DER elements: one after the other, some optional.
use Rattle.std.specs.Prelude.{ℕ, List, [], ◌∷◌, take, drop, Bool, true, ◌||◌, nat_eq, if◌then◌else◌, Option, Some, None, Ok, Err}
use Rattle.octets_core.specs.Walk.{Walk, ◌>>=◌, whole, ends, and_more}
use Rattle.der_core.specs.Elements.{Der, Item, Read, element_at}

abbrev pub passing : {A : Type 0} → (Der → Bool) → (Der × ℕ → A) → List ℕ → Read Der → Option (A × List ℕ)
passing test part bytes (Err f) = None
passing test part bytes (Ok x) = if test x.0 then Some (part x, drop x.1 bytes) else None

abbrev pub passing_or_not : (Der → Bool) → List ℕ → Read Der → Option (Option Der × List ℕ)
passing_or_not test bytes (Err f) = Some (None, bytes)
passing_or_not test bytes (Ok x) = if test x.0 then Some (Some x.0, drop x.1 bytes) else Some (None, bytes)

-- an element that passes
unfoldable pub element_where : (Der → Bool) → Walk Der
element_where test bytes = passing test (λ x. x.0) bytes (element_at bytes)

-- an element that passes, or nothing where none stands there
unfoldable pub optional_where : (Der → Bool) → Walk (Option Der)
optional_where test bytes = passing_or_not test bytes (element_at bytes)

-- an element of any tag
abbrev pub any : Der → Bool
any e = true

abbrev pub has_tag : ℕ → Der → Bool
has_tag tag e = nat_eq e.tag tag

-- UTCTime or GeneralizedTime
abbrev pub is_time_tag : Der → Bool
is_time_tag e = nat_eq e.tag 0x17 || nat_eq e.tag 0x18

-- the contents of an element of this tag
unfoldable pub field : ℕ → Walk (List ℕ)
field tag bytes = passing (has_tag tag) (λ x. x.0.contents) bytes (element_at bytes)

-- an element of this tag, with its tag and its length
unfoldable pub whole_field : ℕ → Walk (List ℕ)
whole_field tag bytes = passing (has_tag tag) (λ x. take x.1 bytes) bytes (element_at bytes)

abbrev pub contents_if : Option Der → Option (List ℕ)
contents_if None = None
contents_if (Some e) = Some e.contents

abbrev pub contents_in : Option (Option Der × List ℕ) → Option (Option (List ℕ) × List ℕ)
contents_in None = None
contents_in (Some x) = Some (contents_if x.0, x.1)

-- the contents of an element of this tag, or nothing where none stands there
unfoldable pub optional : ℕ → Walk (Option (List ℕ))
optional tag bytes = contents_in (passing_or_not (has_tag tag) bytes (element_at bytes))

-- the contents of the only element of the bytes, which has this tag
unfoldable pub alone : ℕ → Walk (List ℕ)
alone tag = do
  contents ← field tag
  end ← ends
  whole contents

-- each of the elements, and nothing where one of them isn't so
abbrev pub each : {A : Type 0} → (Der → Option A) → List Item → Option (List A)
each read [] = Some []
each read (Err f ∷ items) = None
each read (Ok e ∷ items) = and_more (read e) (each read items)
