-- The place of an issuer among so many, as it is kept.
use Rattle.std.specs.Prelude.{◌≡◌, ◌<◌, ℕ, List, refl}
use Rattle.place_core.specs.Places.{issuer_place}
use Rattle.piece_core.specs.declared.issuers.Drawn.TheInside.{Inside}

-- the place is the issuer's
pub record IsDrawn (issuer : List ℕ) (count place : ℕ) : Type 0 where
  pub value : place ≡ issuer_place issuer count
  pub below : place < count

-- that of an issuer among so many
abbrev pub drawn_of : List ℕ × ℕ → Inside
drawn_of x = record { issuer = x.0; count = x.1; place = issuer_place x.0 x.1 }

pub drawn_of-is : (d : Inside) → IsDrawn d.issuer d.count d.place → drawn_of (d.issuer, d.count) ≡ d
drawn_of-is d is = rw is.value refl
