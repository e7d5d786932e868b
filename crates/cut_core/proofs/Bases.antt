-- The base of a history, beside that of a cut one.
use Rattle.std.specs.List.{filter, flat_map, AllZip}
use Rattle.std.specs.Prelude.{ℤ}
use Rattle.std.proofs.Common.{◌≡◌, ℕ, List, [], ◌∷◌, ◌++◌, true, not, Option, refl, sym, ap, ◌∙◌}
use Rattle.std.proofs.lemmas.List.Elements.{filter-append}
use Rattle.ident_core.specs.declared.identity.Identity.{Identity}
use Rattle.ident_core.specs.declared.range.Range.{Range}
use Rattle.ident_core.specs.Sets.{key_set}
use Rattle.ident_core.proofs.Sets.{key_set_kept}
use Rattle.universe_core.specs.Jobs.{Entry, is_stale}
use Rattle.universe_core.specs.History.{Release, accepted_by, seen, is_listed}
use Rattle.history_core.specs.Bases.{newest_ranges, newest_epoch, kept_by, base_with}
use Rattle.history_core.specs.Bases.{release_cut, releases_cut, is_lasting_by, base_at}
use Rattle.place_core.specs.Cuts.{Cut, is_kept}
use Rattle.cut_core.specs.Cutting.{IsCut}
use Rattle.cut_core.proofs.Filters.{filter_kept}
use Rattle.cut_core.proofs.Releases.{accepted_beside, seen_beside, listed_beside, until_beside}

module _ (cut : Cut) where
  epoch_after : (a b : ℕ) (rs qs : List Release) → b ≡ a → AllZip (IsCut cut) rs qs → newest_epoch b qs ≡ newest_epoch a rs
  unfolding newest_epoch
  epoch_after a b [] [] e z = e
  epoch_after a b [] (q ∷ qs) e z = absurd z
  epoch_after a b (r ∷ rs) [] e z = absurd z
  epoch_after a b (r ∷ rs) (q ∷ qs) e z = epoch_after r.epoch q.epoch rs qs z.0.epoch z.1

  ranges_after : (a b : List Range) (rs qs : List Release) → b ≡ a → AllZip (IsCut cut) rs qs → newest_ranges b qs ≡ newest_ranges a rs
  unfolding newest_ranges
  ranges_after a b [] [] e z = e
  ranges_after a b [] (q ∷ qs) e z = absurd z
  ranges_after a b (r ∷ rs) [] e z = absurd z
  ranges_after a b (r ∷ rs) (q ∷ qs) e z = ranges_after r.ranges q.ranges rs qs z.0.ranges z.1

  issuers_beside : (rs qs : List Release) → AllZip (IsCut cut) rs qs
      → flat_map (λ (q : Release). q.issuers) qs ≡ filter cut.takes (flat_map (λ (r : Release). r.issuers) rs)
  issuers_beside [] [] z = refl
  issuers_beside [] (q ∷ qs) z = absurd z
  issuers_beside (r ∷ rs) [] z = absurd z
  issuers_beside (r ∷ rs) (q ∷ qs) z =
      ap (λ (is : List (List ℕ)). is ++ flat_map (λ (p : Release). p.issuers) qs) z.0.issuers
      ∙ ap (λ (is : List (List ℕ)). filter cut.takes r.issuers ++ is) (issuers_beside rs qs z.1)
      ∙ sym (filter-append cut.takes r.issuers (flat_map (λ (p : Release). p.issuers) rs))

  module _ (moment : ℕ) (rs qs : List Release) (z : AllZip (IsCut cut) rs qs) where
    lasting_same : (x : Identity) → is_kept cut x ≡ true → is_lasting_by moment qs x ≡ is_lasting_by moment rs x
    lasting_same x k = ap (λ (d : Option ℤ). not (is_stale moment d)) (until_beside cut x k rs qs z)

    shown_base : filter (λ e. is_lasting_by moment qs e.id) (seen qs)
        ≡ filter (λ e. is_kept cut e.id) (filter (λ e. is_lasting_by moment rs e.id) (seen rs))
    shown_base =
        ap (filter (λ (e : Entry). is_lasting_by moment qs e.id)) (seen_beside cut rs qs z)
        ∙ filter_kept (λ (e : Entry). is_kept cut e.id) (λ (e : Entry). is_lasting_by moment rs e.id)
        (λ (e : Entry). is_lasting_by moment qs e.id) (λ e k. lasting_same e.id k) (seen rs)

    accepted_base : kept_by (is_lasting_by moment qs) qs ≡ filter (is_kept cut) (kept_by (is_lasting_by moment rs) rs)
    accepted_base =
        ap (filter (is_lasting_by moment qs)) (accepted_beside cut rs qs z)
        ∙ filter_kept (is_kept cut) (is_lasting_by moment rs) (is_lasting_by moment qs) lasting_same (accepted_by [] rs)

    listed_base : filter (is_listed qs) (kept_by (is_lasting_by moment qs) qs)
        ≡ filter (is_kept cut) (filter (is_listed rs) (kept_by (is_lasting_by moment rs) rs))
    listed_base =
        ap (filter (is_listed qs)) accepted_base
        ∙ filter_kept (is_kept cut) (is_listed rs) (is_listed qs) (λ x k. listed_beside cut x k rs qs z)
        (kept_by (is_lasting_by moment rs) rs)

    pub base_cut : (trailer other : List ℕ) → IsCut cut (base_at moment rs trailer) (base_at moment qs other)
    unfolding base_with
    base_cut trailer other = record {
      epoch = epoch_after 0 0 rs qs refl z;
      ranges = ranges_after [] [] rs qs refl z;
      issuers = ap key_set (issuers_beside rs qs z) ∙ key_set_kept cut.takes (flat_map (λ (r : Release). r.issuers) rs);
      lists = λ x k. listed_beside cut x k rs qs z;
      shown = shown_base;
      accepted = accepted_base;
      revoked = listed_base;
    }

  -- ---- of what is kept by another cut

  module _ (kept : Cut) where
    less_kept : (xs : List Identity) → filter (is_kept kept) (filter (is_kept cut) xs) ≡ filter (is_kept cut) (filter (is_kept kept) xs)
    less_kept xs = filter_kept (is_kept cut) (is_kept kept) (is_kept kept) (λ x k. refl) xs

    less_cut : (r q : Release) → IsCut cut r q → IsCut cut (release_cut kept r) (release_cut kept q)
    less_cut r q c = record {
      epoch = c.epoch;
      ranges = c.ranges;
      issuers =
          ap (filter kept.takes) c.issuers ∙ filter_kept cut.takes kept.takes kept.takes (λ k t. refl) r.issuers;
      shown = ap (filter (λ (e : Entry). is_kept kept e.id)) c.shown
          ∙ filter_kept (λ (e : Entry). is_kept cut e.id) (λ (e : Entry). is_kept kept e.id)
          (λ (e : Entry). is_kept kept e.id) (λ e k. refl) r.shown;
      accepted = ap (filter (is_kept kept)) c.accepted ∙ less_kept r.accepted;
      lists = c.lists;
      revoked = ap (filter (is_kept kept)) c.revoked ∙ less_kept r.revoked;
    }

    less_beside : (rs qs : List Release) → AllZip (IsCut cut) rs qs
        → AllZip (IsCut cut) (releases_cut kept rs) (releases_cut kept qs)
    unfolding releases_cut
    less_beside [] [] z = z
    less_beside [] (q ∷ qs) z = absurd z
    less_beside (r ∷ rs) [] z = absurd z
    less_beside (r ∷ rs) (q ∷ qs) z = (less_cut r q z.0, less_beside rs qs z.1)

    pub base_beside : (moment : ℕ) (rs qs : List Release) (trailer other : List ℕ) → AllZip (IsCut cut) rs qs
        → IsCut cut (base_at moment (releases_cut kept rs) trailer) (base_at moment (releases_cut kept qs) other)
    base_beside moment rs qs trailer other z =
        base_cut moment (releases_cut kept rs) (releases_cut kept qs) (less_beside rs qs z) trailer other

-- what is kept of releases is they, cut
pub release_is_cut : (cut : Cut) (r : Release) → IsCut cut r (release_cut cut r)
release_is_cut cut r = record {
  epoch = refl;
  ranges = refl;
  issuers = refl;
  lists = λ x k. refl;
  shown = refl;
  accepted = refl;
  revoked = refl;
}

kept_beside : (cut : Cut) (rs : List Release) → AllZip (IsCut cut) rs (releases_cut cut rs)
unfolding releases_cut
kept_beside cut [] = tt
kept_beside cut (r ∷ rs) = (release_is_cut cut r, kept_beside cut rs)

-- so is the base of what is kept that of all, cut
pub kept_base : (cut : Cut) (moment : ℕ) (rs : List Release) (trailer other : List ℕ)
    → IsCut cut (base_at moment rs trailer) (base_at moment (releases_cut cut rs) other)
kept_base cut moment rs = base_cut cut moment rs (releases_cut cut rs) (kept_beside cut rs)
