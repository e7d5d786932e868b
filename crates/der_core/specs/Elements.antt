-- DER elements (X.690, 8.1.2 and 8.1.3): a tag, a length and contents. In this project's profile a tag is one byte
-- and a length has at most four octets. Here stands which step of reading fails first; Grammar says what an element is.
use Rattle.std.specs.Prelude.{◌≡◌, ℕ, zero, suc, ◌+◌, ◌-◌, List, [], ◌∷◌, length, take, drop, bit_and, ◌||◌, nat_lt}
use Rattle.std.specs.Prelude.{nat_eq, if◌then◌else◌, Result, Ok, Err}
use Rattle.octets_core.specs.Numbers.{number}
use Rattle.der_core.specs.declared.types.DerFault.{DerFault}
use Rattle.der_core.specs.declared.types.DerFault.TheVariants as fault
use Rattle.der_core.specs.declared.types.Element.{Element}

-- an element without where it lies in memory
pub record Der : Type 0 where
  pub tag : ℕ
  pub contents : List ℕ

abbrev pub der_of : Element → Der
der_of e = record { tag = e.tag; contents = e.contents.now }

-- what is read at the front of the bytes, and how many bytes it takes
abbrev pub Read : Type 0 → Type 0
Read A = Result (A × ℕ) DerFault

-- a length of so many octets, in the fewest (8.1.3.5, and 10.1)
abbrev pub long_length : ℕ → List ℕ → Read ℕ
long_length count octets =
    if nat_lt (length octets) count then Err fault.Short
    else if nat_eq (number (take 1 octets)) 0 || nat_lt (number (take count octets)) 128 then Err fault.BadLength
    else Ok (number (take count octets), 1 + count)

-- below 0x80 the length itself, and from 0x81 to 0x84 the number of octets that follow
abbrev pub length_from : ℕ → List ℕ → Read ℕ
length_from first octets =
    if nat_lt first 128 then Ok (first, 1)
    else if nat_eq first 128 || nat_lt 132 first then Err fault.BadLength
    else long_length (first - 128) octets

unfoldable pub length_at : List ℕ → Read ℕ
length_at [] = Err fault.Short
length_at (first ∷ octets) = length_from first octets

abbrev pub contents_at : ℕ → List ℕ → Read ℕ → Read Der
contents_at tag bytes (Err e) = Err e
contents_at tag bytes (Ok x) =
    if nat_lt (length bytes) (x.1 + x.0) then Err fault.Short
    else Ok (record { tag = tag; contents = take x.0 (drop x.1 bytes) }, 1 + (x.1 + x.0))

-- the element at the front of the bytes, or the first step that fails: the tag (of one byte), the length, the contents
unfoldable pub element_at : List ℕ → Read Der
element_at [] = Err fault.Short
element_at (tag ∷ bytes) =
    if nat_eq (bit_and tag 31) 31 then Err fault.BadTag
    else contents_at tag bytes (length_at bytes)

-- an item of an iterator over elements
abbrev pub Item : Type 0
Item = Result Der DerFault

abbrev pub item_of : Result Element DerFault → Item
item_of (Ok e) = Ok (der_of e)
item_of (Err f) = Err f

-- the first, and then what `more` makes of the bytes behind it
abbrev pub first_and : (List ℕ → List Item) → List ℕ → Read Der → List Item
first_and more bytes (Ok x) = Ok x.0 ∷ more (drop x.1 bytes)
first_and more bytes (Err f) = Err f ∷ []

abbrev pub items_within : ℕ → List ℕ → List Item
items_within zero bytes = []
items_within (suc n) [] = []
items_within (suc n) (b ∷ bytes) = first_and (items_within n) (b ∷ bytes) (element_at (b ∷ bytes))

-- the elements of the bytes one after the other, up to one fault
unfoldable pub items : List ℕ → List Item
items bytes = items_within (length bytes) bytes

-- what a function returned, seen by view, is what reading gives
abbrev pub Gives : {X A F : Type 0} → (X → A) → Result X F → Result A F → Type 0
Gives view (Ok x) read = read ≡ Ok (view x)
Gives view (Err e) read = read ≡ Err e

-- the same of an element and how many bytes it takes
abbrev pub GivesElement : Result (Element × ℕ) DerFault → Read Der → Type 0
GivesElement = Gives {X = Element × ℕ} {A = Der × ℕ} (λ x. (der_of x.0, x.1))
