-- The grammar of DER elements, apart from how they are read (X.690, 8.1.2 and 8.1.3, and this project's profile).
use Rattle.std.specs.Prelude.{◌≡◌, ◌≢◌, ℕ, ◌+◌, ◌<◌, ◌≤◌, ◌⊎◌, List, [], ◌∷◌, ◌++◌, length, take, bit_and, Option, Some, None, Err}
use Rattle.octets_core.specs.Numbers.{number}
use Rattle.der_core.specs.Elements.{Der, element_at}
use Rattle.der_core.specs.declared.types.DerFault.{DerFault}

-- 0x80 and how many octets follow, which are the number in the fewest octets
pub record IsLongLength (n first : ℕ) (octets : List ℕ) : Type 0 where
  pub count : first ≡ 128 + length octets
  pub some : 1 ≤ length octets
  pub few : length octets ≤ 4
  pub value : n ≡ number octets
  pub fewest : number (take 1 octets) ≢ 0
  pub long : 128 ≤ n

-- a length below 128 is one byte
abbrev pub IsLength : ℕ → List ℕ → Type 0
IsLength n [] = ⊥
IsLength n (first ∷ octets) = ((octets ≡ []) × (n ≡ first) × (n < 128)) ⊎ IsLongLength n first octets

-- a tag, the length of the contents, and the contents
pub record IsElement (e : Der) (bytes : List ℕ) : Type 0 where
  pub tag : bit_and e.tag 31 ≢ 31
  pub size : List ℕ
  pub is_size : IsLength (length e.contents) size
  pub same : bytes ≡ e.tag ∷ (size ++ e.contents)

-- elements one after the other
abbrev pub AreElements : List Der → List ℕ → Type 0
AreElements [] bytes = bytes ≡ []
AreElements (e ∷ es) bytes = (front : List ℕ) × (rest : List ℕ) × IsElement e front × (bytes ≡ front ++ rest) × AreElements es rest

-- elements one after the other, and then bytes at whose front no element stands, by this fault
pub record FaultAfter (es : List Der) (f : DerFault) (bytes : List ℕ) : Type 0 where
  pub front : List ℕ
  pub rest : List ℕ
  pub same : bytes ≡ front ++ rest
  pub elements : AreElements es front
  pub some : rest ≢ []
  pub fault : element_at rest ≡ Err f

-- an OPTIONAL element among others: one element, or none
abbrev pub one_of : Option Der → List Der
one_of None = []
one_of (Some e) = e ∷ []

-- one fact for each value and its element, in their order
abbrev pub EachIs : {A : Type 0} → (A → Der → Type 0) → List A → List Der → Type 0
EachIs R [] [] = Unit {0}
EachIs R (x ∷ xs) (e ∷ es) = R x e × EachIs R xs es
EachIs R [] (e ∷ es) = ⊥
EachIs R (x ∷ xs) [] = ⊥

-- SEQUENCE OF: the contents are elements, one for each value
pub record AreEach {A : Type 0} (R : A → Der → Type 0) (xs : List A) (contents : List ℕ) : Type 0 where
  pub each : List Der
  pub elements : AreElements each contents
  pub are : EachIs R xs each

-- an element of this tag with these contents stands at the front of the bytes, and the rest behind it
abbrev pub StandsBefore : ℕ → List ℕ → List ℕ → List ℕ → Type 0
StandsBefore tag contents bytes rest =
    (front : List ℕ) × IsElement (record { tag = tag; contents = contents }) front × (bytes ≡ front ++ rest)

-- the same, or no such element is taken
abbrev pub StandsOrNot : ℕ → Option (List ℕ) → List ℕ → List ℕ → Type 0
StandsOrNot tag None bytes rest = rest ≡ bytes
StandsOrNot tag (Some contents) bytes rest = StandsBefore tag contents bytes rest
