-- What a filter is built from: for each enrolled issuer its universe, ascending, and which of it is revoked.
use Rattle.std.specs.Prelude.{◌≡◌, ℕ, List, map, filter, length, Bool, All}
use Rattle.std.specs.List.Sorted.{IsStrictlySortedBy}
use Rattle.std.specs.Str.{bytes_eq}
use Rattle.ident_core.specs.declared.identity.Identity.{Identity}
use Rattle.ident_core.specs.Order.{identity_cmp}
use Rattle.ident_core.specs.Sets.{has}
use Rattle.universe_core.specs.History.{Release}
use Rattle.universe_core.specs.declared.admitted.Group.{Group}

pub record GroupFields : Type 0 where
  pub issuer : List ℕ
  pub universe : List Identity
  pub revoked : List Bool

abbrev pub group_fields : Group → GroupFields
group_fields g = record { issuer = g.issuer; universe = g.universe.items; revoked = g.revoked.items }

abbrev pub members_of : List ℕ → List Identity → List Identity
members_of issuer xs = filter (λ x. bytes_eq issuer x.issuer) xs

abbrev pub group_of : Release → List ℕ → GroupFields
group_of r issuer =
    record {
      issuer = issuer;
      universe = members_of issuer r.accepted;
      revoked = map (has r.revoked) (members_of issuer r.accepted);
    }

-- in the order of the issuers
unfoldable pub groups : Release → List GroupFields
groups r = map (group_of r) r.issuers

-- the facts of a group: identities of its issuer, strictly ascending, and a flag beside each
pub record IsGroup (g : GroupFields) : Type 0 where
  pub issuer : All (λ x. x.issuer ≡ g.issuer) g.universe
  pub ascend : IsStrictlySortedBy identity_cmp g.universe
  pub beside : length g.revoked ≡ length g.universe
