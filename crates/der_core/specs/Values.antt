-- What an element of one tag says.
use Rattle.std.specs.Prelude.{ℕ, List, [], ◌∷◌, Bool, true, false, nat_eq, if◌then◌else◌, Option, Some, None}
use Rattle.der_core.specs.Elements.{Der}

-- the contents of a BOOLEAN (X.690, 8.2 and 11.1)
abbrev pub truth : List ℕ → Option Bool
truth (b ∷ []) = if nat_eq b 0 then Some false else if nat_eq b 255 then Some true else None
truth (a ∷ b ∷ more) = None
truth [] = None

abbrev pub boolean_of : Der → Option Bool
boolean_of e = if nat_eq e.tag 0x01 then truth e.contents else None

-- the contents of an element, if it has this tag
abbrev pub contents_of : ℕ → Der → Option (List ℕ)
contents_of tag e = if nat_eq e.tag tag then Some e.contents else None
