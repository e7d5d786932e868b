-- What is kept of a history: of which issuers, and which of their identities.
use Rattle.std.specs.Prelude.{ℕ, ◌&&◌, ◌==◌, List, [], Bool, true, not}
use Rattle.ident_core.specs.declared.identity.Identity.{Identity}
use Rattle.ident_core.specs.Sets.{has_key}
use Rattle.place_core.specs.declared.place.By.{By}
use Rattle.place_core.specs.declared.place.By.TheVariants as ways
use Rattle.place_core.specs.Places.{place, issuer_place}

-- A cut: of which issuers the CRLs and identities are taken, which identities of these are chosen, and whether the
-- entries that aren't read are kept.
pub record Cut : Type 0 where
  pub takes : List ℕ → Bool
  pub chooses : Identity → Bool
  pub unread : Bool

-- an identity is kept where its issuer is taken and it is chosen
abbrev pub is_kept : Cut → Identity → Bool
is_kept cut x = cut.takes x.issuer && cut.chooses x

-- what both cuts keep
abbrev pub both : Cut → Cut → Cut
both a b = record {
  takes = λ issuer. a.takes issuer && b.takes issuer;
  chooses = λ x. a.chooses x && b.chooses x;
  unread = a.unread && b.unread;
}

-- ---- all but some issuers

-- what isn't of these issuers
abbrev pub without : List (List ℕ) → Cut
without issuers = record { takes = λ issuer. not (has_key issuers issuer); chooses = λ x. true; unread = true }

abbrev pub everything : Cut
everything = without []

-- ---- by places, among so many

-- whether a place keeps the entries that aren't read: the first does
abbrev pub unread_at : ℕ → Bool
unread_at p = 0 == p

-- What is kept at a place: by issuers, what is of the issuers that have it; by identities, all CRLs, and the identities
-- that have it.
abbrev pub at_place : By → ℕ → ℕ → Cut
at_place ways.Issuer count p = record {
  takes = λ issuer. issuer_place issuer count == p;
  chooses = λ x. true;
  unread = unread_at p;
}
at_place ways.Identity count p = record {
  takes = λ issuer. true;
  chooses = λ x. place x count == p;
  unread = unread_at p;
}
