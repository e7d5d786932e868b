-- What is kept at places.
use Rattle.std.proofs.Common.{◌≡◌, ℕ, Bool, true, false, ◌&&◌, Option, Some, None, refl}
use Rattle.std.specs.Prelude.{◌==◌}
use Rattle.ident_core.specs.declared.identity.Identity.{Identity}
use Rattle.log_core.specs.declared.Entry.{Entry}
use Rattle.place_core.specs.declared.place.By.{By}
use Rattle.place_core.specs.declared.place.By.TheVariants as ways
use Rattle.place_core.specs.Places.{issuer_place, place_in}
use Rattle.place_core.specs.Cuts.{is_kept, at_place}
use Rattle.piece_core.specs.Cuts.{keeps_entry, entry_place}

and_true : (b : Bool) → (b && true) ≡ b
and_true true = refl
and_true false = refl

-- an identity is kept at its place, and at no other
pub kept_at : (by : By) (n p : ℕ) (x : Identity) → is_kept (at_place by n p) x ≡ (place_in by n x == p)
kept_at ways.Issuer n p x = and_true (issuer_place x.issuer n == p)
kept_at ways.Identity n p x = refl

pub entry_at : (by : By) (n p : ℕ) (o : Option Entry) → keeps_entry (at_place by n p) o ≡ (entry_place by n o == p)
entry_at ways.Issuer n p None = refl
entry_at ways.Identity n p None = refl
entry_at by n p (Some e) = kept_at by n p e.id
