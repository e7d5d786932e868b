-- What a base keeps of an identity: its sightings, its date, and whether it is listed.
use Rattle.std.specs.List.{filter}
use Rattle.std.proofs.Common.{◌≡◌, ℕ, List, [], ◌∷◌, map, Bool, true, false, cond, ◌&&◌, refl, sym, ap, ◌∙◌}
use Rattle.std.proofs.lemmas.Bool.{true≢false, false≢true}
use Rattle.std.proofs.lemmas.List.{append-nil}
use Rattle.ident_core.specs.declared.identity.Identity.{Identity}
use Rattle.ident_core.specs.Order.{is_same}
use Rattle.ident_core.specs.Sets.{has, has_key}
use Rattle.ident_core.proofs.Sets.{same_is, Among-from_has}
use Rattle.ident_core.proofs.Elements.{Among-filter}
use Rattle.universe_core.specs.Jobs.{Entry}
use Rattle.universe_core.specs.History.{Release, accepted_by, seen, sightings, is_listed}
use Rattle.universe_core.specs.Dates.{dates, greatest, until}
use Rattle.history_core.specs.Bases.{all_issuers, kept_by, base_with}
use Rattle.history_core.proofs.Releases.{listed_one}
use Rattle.history_core.proofs.Bases.{enrolls_listed}

filter_step : (x : Identity) (e : Entry) (kept rest : List Entry) (b k : Bool) → is_same x e.id ≡ b → (b ≡ true → k ≡ true) → filter (λ (d : Entry). is_same x d.id) kept ≡ rest
    → filter (λ (d : Entry). is_same x d.id) (cond k (e ∷ kept) kept) ≡ cond b (e ∷ rest) rest
filter_step x e kept rest true true i h r = rw i (ap (λ (l : List Entry). e ∷ l) r)
filter_step x e kept rest true false i h r = absurd (true≢false (sym (h refl)))
filter_step x e kept rest false true i h r = rw i r
filter_step x e kept rest false false i h r = r

-- a kept identity keeps its entries
filter_kept : (keeps : Identity → Bool) (x : Identity) (es : List Entry) → keeps x ≡ true
    → filter (λ (d : Entry). is_same x d.id) (filter (λ (d : Entry). keeps d.id) es) ≡ filter (λ (d : Entry). is_same x d.id) es
filter_kept keeps x [] k = refl
filter_kept keeps x (e ∷ es) k =
    filter_step x e (filter (λ (d : Entry). keeps d.id) es) (filter (λ (d : Entry). is_same x d.id) es) (is_same x e.id) (keeps e.id) refl
    (λ s. ap keeps (sym (same_is x e.id s)) ∙ k) (filter_kept keeps x es k)

pub sightings_filter : (keeps : Identity → Bool) (x : Identity) (es : List Entry) → keeps x ≡ true → sightings x (filter (λ e. keeps e.id) es) ≡ sightings x es
unfolding sightings
sightings_filter keeps x es k = ap (map (λ (e : Entry). e.sighting)) (filter_kept keeps x es k)

pub dates_filter : (keeps : Identity → Bool) (x : Identity) (es : List Entry) → keeps x ≡ true → dates x (filter (λ e. keeps e.id) es) ≡ dates x es
unfolding dates
dates_filter keeps x es k = ap (map (λ (e : Entry). e.until)) (filter_kept keeps x es k)

enrolled_and_kept : (l e k : Bool) → (l ≡ true → e ≡ true) → (l && (e && k)) ≡ (k && l)
enrolled_and_kept true true true h = refl
enrolled_and_kept true true false h = refl
enrolled_and_kept true false k h = absurd (false≢true (h refl))
enrolled_and_kept false e true h = refl
enrolled_and_kept false e false h = refl

-- a base lists what it keeps and was listed
pub base_lists : (keeps : Identity → Bool) (rs : List Release) (trailer : List ℕ) (x : Identity)
    → is_listed (base_with keeps rs trailer ∷ []) x ≡ (has (kept_by keeps rs) x && is_listed rs x)
unfolding base_with
base_lists keeps rs trailer x =
    listed_one (base_with keeps rs trailer) x
    ∙ enrolled_and_kept (is_listed rs x) (has_key (all_issuers rs) x.issuer) (has (kept_by keeps rs) x) (enrolls_listed rs x)

module _ (keeps : Identity → Bool) (rs : List Release) (trailer : List ℕ) (x : Identity) (kept : has (kept_by keeps rs) x ≡ true) where
  is_kept : keeps x ≡ true
  is_kept = (Among-filter keeps (accepted_by [] rs) x (Among-from_has (kept_by keeps rs) x kept)).1

  seen_base : seen (base_with keeps rs trailer ∷ []) ≡ filter (λ e. keeps e.id) (seen rs)
  unfolding base_with seen
  seen_base = append-nil (filter (λ e. keeps e.id) (seen rs))

  pub sightings_kept : sightings x (seen (base_with keeps rs trailer ∷ [])) ≡ sightings x (seen rs)
  sightings_kept = ap (sightings x) seen_base ∙ sightings_filter keeps x (seen rs) is_kept

  pub until_kept : until x (base_with keeps rs trailer ∷ []) ≡ until x rs
  unfolding until
  until_kept = ap (λ es. greatest (dates x es)) seen_base ∙ ap greatest (dates_filter keeps x (seen rs) is_kept)

  pub listed_kept : is_listed (base_with keeps rs trailer ∷ []) x ≡ is_listed rs x
  listed_kept = base_lists keeps rs trailer x ∙ ap (λ b. b && is_listed rs x) kept
