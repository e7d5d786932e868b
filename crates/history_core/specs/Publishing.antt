-- The parts of releases, over any test of a group.
use Rattle.std.specs.Prelude.{◌≡◌, ℕ, List, find, Bool, true}
use Rattle.std.specs.Option.{option_map}
use Rattle.std.specs.Str.{bytes_eq}
use Rattle.ident_core.specs.declared.identity.Identity.{Identity}
use Rattle.ident_core.specs.Sets.{has, has_key}
use Rattle.universe_core.specs.History.{Release}
use Rattle.universe_core.specs.Groups.{GroupFields, group_of, groups}
use Rattle.history_core.specs.Showing.{PartView}

-- the test answers for the universe of each group of the release what the release says
pub record IsExactOnGroups (positive : GroupFields → Identity → Bool) (r : Release) : Type 0 where
  pub at : (issuer : List ℕ) → has_key r.issuers issuer ≡ true → (x : Identity)
      → has (group_of r issuer).universe x ≡ true → positive (group_of r issuer) x ≡ has r.revoked x

-- the part of a release: it covers what the release does, and has a block for each group, which says what the test does
abbrev pub part_of : (GroupFields → Identity → Bool) → Release → PartView
part_of positive r = record {
  ranges = r.ranges;
  consulted = λ x. option_map (λ g. positive g x) (find (λ g. bytes_eq g.issuer x.issuer) (groups r));
}
