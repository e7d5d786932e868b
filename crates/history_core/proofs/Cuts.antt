-- Releases, cut.
use Rattle.std.specs.List.{filter, list_any}
use Rattle.std.proofs.Common.{◌≡◌, ℕ, ◌+◌, List, [], ◌∷◌, ◌++◌, map, length, Bool, true, false, cond, not, ◌&&◌, ◌||◌, refl, sym, ap, ◌∙◌, subst}
use Rattle.std.proofs.lemmas.Bool.{false≢true, and_parts}
use Rattle.std.proofs.lemmas.List.{length-map}
use Rattle.std.proofs.lemmas.List.Elements.{filter-append}
use Rattle.std.proofs.lemmas.List.Kept.{IsStrictlySortedBy-filter}
use Rattle.ident_core.specs.declared.identity.Identity.{Identity}
use Rattle.ident_core.specs.declared.range.Sighting.{Sighting}
use Rattle.ident_core.specs.declared.range.Range.{Range}
use Rattle.ident_core.specs.declared.kind.Kind.TheVariants as kinds
use Rattle.ident_core.specs.HeadFields.{zero_key}
use Rattle.ident_core.specs.Order.{identity_cmp, octets_cmp}
use Rattle.ident_core.specs.Coverage.{covers}
use Rattle.ident_core.specs.Among.{Among}
use Rattle.ident_core.specs.Sets.{has, has_key}
use Rattle.place_core.specs.Cuts.{Cut, is_kept, everything}
use Rattle.ident_core.proofs.Elements.{Among-filter, Among-in_filter, Among-map, Among-in_map, map_agree, bool_same}
use Rattle.ident_core.proofs.Sets.{Among-from_has, has-from_Among, has_key-from_Among, Among-from_has_key}
use Rattle.universe_core.specs.Dates.{dates, greatest, until}
use Rattle.universe_core.specs.Jobs.{Entry, is_stale}
use Rattle.universe_core.specs.History.{Release, accepted_by, seen, sightings, birth, enrolls_and_lists, is_listed}
use Rattle.universe_core.specs.Ledgers.{later, last, last_place, item_from, part_from, ledger_of}
use Rattle.universe_core.specs.Rebases.{is_kept_item, part_cut, ledger_cut}
use Rattle.history_core.specs.Facts.{IsWider, Widens, IsFormed, IsSound}
use Rattle.history_core.specs.Bases.{newest_ranges, newest_epoch, kept_by, is_lasting_by, release_cut, releases_cut, base_head}
use Rattle.history_core.proofs.BaseLedgers.{filter_items}
use Rattle.history_core.proofs.Kept.{sightings_filter, dates_filter}
use Rattle.history_core.proofs.Releases.{IsSettled, settled_parts, settled_from, listed-cons, is_listed_by}
use Rattle.history_core.proofs.Words.{has-filter}

-- ---- lists of identities

-- what passes a test
both_of : (p : Identity → Bool) (xs : List Identity) (x : Identity) → has (filter p xs) x ≡ true → (has xs x ≡ true) × (p x ≡ true)
both_of p xs x h = let f = Among-filter p xs x (Among-from_has (filter p xs) x h) in (has-from_Among xs x f.0, f.1)

has_in : (p : Identity → Bool) (xs : List Identity) (x : Identity) → has xs x ≡ true → p x ≡ true → has (filter p xs) x ≡ true
has_in p xs x h k = has-from_Among (filter p xs) x (Among-in_filter p xs x (Among-from_has xs x h) k)

true-and : (a b : Bool) → a ≡ true → (a && b) ≡ b
true-and true b h = refl
true-and false b h = absurd (false≢true h)

-- an identity that passes is in what passes where it was there before
same_of : (p : Identity → Bool) (xs : List Identity) (x : Identity) → p x ≡ true → has (filter p xs) x ≡ has xs x
same_of p xs x k = has-filter p xs x ∙ true-and (p x) (has xs x) k

module _ (cut : Cut) where
  abbrev stays : Identity → Bool
  stays x = is_kept cut x

  taken : (x : Identity) → stays x ≡ true → cut.takes x.issuer ≡ true
  taken x k = (and_parts (cut.takes x.issuer) (cut.chooses x) k).0

  abbrev less : Release → Release
  less r = release_cut cut r

  -- ---- what the releases say together

  pub accepted_less : (before : List Identity) (rs : List Release) → accepted_by (filter stays before) (map less rs) ≡ filter stays (accepted_by before rs)
  unfolding accepted_by
  accepted_less before [] = refl
  accepted_less before (r ∷ rs) = accepted_less r.accepted rs

  seen_less : (rs : List Release) → seen (map less rs) ≡ filter (λ e. stays e.id) (seen rs)
  unfolding seen
  seen_less [] = refl
  seen_less (r ∷ rs) =
      ap (λ es. filter (λ (e : Entry). stays e.id) r.shown ++ es) (seen_less rs) ∙ sym (filter-append (λ (e : Entry). stays e.id) r.shown (seen rs))

  key_in : (r : Release) (k : List ℕ) → has_key r.issuers k ≡ true → cut.takes k ≡ true → has_key (less r).issuers k ≡ true
  key_in r k h o = has_key-from_Among (filter cut.takes r.issuers) k (Among-in_filter cut.takes r.issuers k (Among-from_has_key r.issuers k h) o)

  key_of : (r : Release) (k : List ℕ) → has_key (less r).issuers k ≡ true → (has_key r.issuers k ≡ true) × (cut.takes k ≡ true)
  key_of r k h =
      let f = Among-filter cut.takes r.issuers k (Among-from_has_key (filter cut.takes r.issuers) k h) in
      (has_key-from_Among r.issuers k f.0, f.1)

  lists_less : (rs : List Release) (x : Identity) → stays x ≡ true
      → list_any (enrolls_and_lists x) (map less rs) ≡ list_any (enrolls_and_lists x) rs
  lists_less [] x k = refl
  lists_less (r ∷ rs) x k =
      let same : has_key (less r).issuers x.issuer ≡ has_key r.issuers x.issuer =
      bool_same (has_key (less r).issuers x.issuer) (has_key r.issuers x.issuer)
      (λ h. (key_of r x.issuer h).0) (λ h. key_in r x.issuer h (taken x k)) in
      λ i. (r.lists x && same i) || lists_less rs x k i

  listed_step : (r : Release) (rs : List Release) (x : Identity) (b : Bool) → stays x ≡ true → has r.accepted x ≡ b
      → is_listed (map less rs) x ≡ is_listed rs x → is_listed (map less (r ∷ rs)) x ≡ is_listed (r ∷ rs) x
  listed_step r rs x true k e next =
      listed-cons (less r) (map less rs) x true (same_of stays r.accepted x k ∙ e) ∙ lists_less (r ∷ rs) x k ∙ sym (listed-cons r rs x true e)
  listed_step r rs x false k e next =
      listed-cons (less r) (map less rs) x false (same_of stays r.accepted x k ∙ e) ∙ next ∙ sym (listed-cons r rs x false e)

  listed_less : (rs : List Release) (x : Identity) → stays x ≡ true → is_listed (map less rs) x ≡ is_listed rs x
  listed_less [] x k = refl
  listed_less (r ∷ rs) x k = listed_step r rs x (has r.accepted x) k refl (listed_less rs x k)

  birth_less : (rs : List Release) (x : Identity) → stays x ≡ true → birth x (map less rs) ≡ birth x rs
  unfolding birth
  birth_less [] x k = refl
  birth_less (r ∷ rs) x k = λ i. cond (not (same_of stays r.accepted x k i)) (1 + birth_less rs x k i) 0

  last_less : (rs : List Release) (x : Identity) → stays x ≡ true → last x (map less rs) ≡ last x rs
  unfolding last last_place
  last_less [] x k = refl
  last_less (r ∷ rs) x k = λ i. later (last_less rs x k i) (same_of stays r.revoked x k i)

  sightings_less : (rs : List Release) (x : Identity) → stays x ≡ true → sightings x (seen (map less rs)) ≡ sightings x (seen rs)
  sightings_less rs x k = ap (sightings x) (seen_less rs) ∙ sightings_filter stays x (seen rs) k

  until_less : (rs : List Release) (x : Identity) → stays x ≡ true → until x (map less rs) ≡ until x rs
  unfolding until
  until_less rs x k = ap (λ es. greatest (dates x es)) (seen_less rs) ∙ ap greatest (dates_filter stays x (seen rs) k)

  -- ---- the facts

  wider_less : (r q : Release) → IsWider r q → IsWider (less r) (less q)
  wider_less r q h = record {
    covered = h.covered;
    accepted = λ x a. let b = both_of stays r.accepted x a in has_in stays q.accepted x (h.accepted x b.0) b.1;
  }

  widens_less : (rs : List Release) → Widens rs → Widens (map less rs)
  widens_less [] h = tt
  widens_less (r ∷ rs) h = (
    λ q a. let m = Among-map less rs q a in subst (λ z. IsWider (less r) z) m.2 (wider_less r m.0 (h.0 m.0 m.1)),
    widens_less rs h.1,
  )

  formed_less : (r : Release) → IsFormed r → IsFormed (less r)
  formed_less r h = record {
    issuers_ascend = IsStrictlySortedBy-filter octets_cmp cut.takes r.issuers h.issuers_ascend;
    accepted_ascend = IsStrictlySortedBy-filter identity_cmp stays r.accepted h.accepted_ascend;
    enrolled = λ x a.
        let b = both_of stays r.revoked x a in
        has_key-from_Among (filter cut.takes r.issuers) x.issuer
        (Among-in_filter cut.takes r.issuers x.issuer (Among-from_has_key r.issuers x.issuer (h.enrolled x b.0)) (taken x b.1));
    accepted = λ x a. let b = both_of stays r.revoked x a in has_in stays r.accepted x (h.accepted x b.0) b.1;
    shown = λ e a. let f = Among-filter (λ (d : Entry). stays d.id) r.shown e a in has_in stays r.accepted e.id (h.shown e f.0) f.1;
  }

  entry_of : (rs : List Release) (e : Entry) → Among (seen (map less rs)) e → Among (seen rs) e × (stays e.id ≡ true)
  entry_of rs e a = Among-filter (λ (d : Entry). stays d.id) (seen rs) e (subst (λ (es : List Entry). Among es e) (seen_less rs) a)

  entry_in : (rs : List Release) (e : Entry) → Among (seen rs) e → stays e.id ≡ true → Among (seen (map less rs)) e
  entry_in rs e a k = subst (λ (es : List Entry). Among es e) (sym (seen_less rs)) (Among-in_filter (λ (d : Entry). stays d.id) (seen rs) e a k)

  listed_stays : (rs : List Release) (x : Identity) → Widens rs → is_listed (map less rs) x ≡ true → stays x ≡ true
  listed_stays rs x w h =
      let l = is_listed_by (map less rs) x h in
      let m = Among-map less rs l.by l.among in
      (both_of stays m.0.accepted x (ap (λ (z : Release). has z.accepted x) m.2 ∙ l.accepted (widens_less rs w))).1

  module _ (rs : List Release) (sound : IsSound rs) where
    timely_less : (e : Entry) → Among (seen (map less rs)) e → (r : Release) → Among rs r → covers r.ranges e.sighting ≡ true → has_key (less r).issuers e.id.issuer ≡ true
        → has (less r).accepted e.id ≡ true
    timely_less e a r i c k = let n = entry_of rs e a in has_in stays r.accepted e.id (sound.timely e n.0 r i c (key_of r e.id.issuer k).0) n.1

    settled_less : (x : Identity) → is_listed (map less rs) x ≡ true → IsSettled (map less rs) x (sightings x (seen (map less rs)))
    settled_less x h =
        let k : stays x ≡ true = listed_stays rs x sound.widens h in
        let t = settled_parts rs x (sightings x (seen rs)) (sound.settled x (sym (listed_less rs x k) ∙ h)) in
        record {
          by = less t.by;
          among = Among-in_map less rs t.by t.among;
          revoked = has_in stays t.by.revoked x t.revoked k;
          covered = λ s a. t.covered s (subst (λ (ss : List Sighting). Among ss s) (sightings_less rs x k) a);
        }

    sound_less : IsSound (map less rs)
    sound_less = record {
      widens = widens_less rs sound.widens;
      formed = λ r a. let m = Among-map less rs r a in subst IsFormed m.2 (formed_less m.0 (sound.formed m.0 m.1));
      covered = λ e a.
          let n = entry_of rs e a in
          let c = sound.covered e n.0 in
          (less c.0, Among-in_map less rs c.0 c.1, c.2, key_in c.0 e.id.issuer c.3 (taken e.id n.1));
      timely = λ e a r i.
          let m = Among-map less rs r i in
          subst (λ (z : Release). covers z.ranges e.sighting ≡ true → has_key z.issuers e.id.issuer ≡ true → has z.accepted e.id ≡ true) m.2 (timely_less e a m.0 m.1);
      entered = λ x h.
          let b = both_of stays (accepted_by [] rs) x (sym (ap (λ xs. has xs x) (accepted_less [] rs)) ∙ h) in
          let e = sound.entered x b.0 in
          (e.0, entry_in rs e.0 e.1 (ap stays e.2 ∙ b.1), e.2);
      revoked = λ x r a h.
          let m = Among-map less rs r a in
          let b = both_of stays m.0.revoked x (ap (λ (z : Release). has z.revoked x) m.2 ∙ h) in
          listed_less rs x b.1 ∙ sound.revoked x m.0 m.1 b.0;
      settled = λ x h. settled_from (map less rs) x (sightings x (seen (map less rs))) (settled_less x h);
    }

  -- ---- the ledger

  parts_less : (rs : List Release) → map (part_cut cut) (map part_from rs) ≡ map part_from (map less rs)
  parts_less [] = refl
  parts_less (r ∷ rs) = ap (λ ps. part_cut cut (part_from r) ∷ ps) (parts_less rs)

  item_less : (rs : List Release) (x : Identity) → stays x ≡ true → item_from rs x ≡ item_from (map less rs) x
  item_less rs x k = λ i. record { id = x; birth = sym (birth_less rs x k) i; last = sym (last_less rs x k) i; until = sym (until_less rs x k) i }

  items_less : (rs : List Release) → filter (is_kept_item cut) (map (item_from rs) (accepted_by [] rs)) ≡ map (item_from (map less rs)) (accepted_by [] (map less rs))
  items_less rs =
      filter_items (is_kept_item cut) rs (accepted_by [] rs)
      ∙ map_agree (item_from rs) (item_from (map less rs)) (filter stays (accepted_by [] rs)) (λ x a. item_less rs x (Among-filter stays (accepted_by [] rs) x a).1)
      ∙ ap (map (item_from (map less rs))) (sym (accepted_less [] rs))

  ranges_less : (before : List Range) (rs : List Release) → newest_ranges before (map less rs) ≡ newest_ranges before rs
  unfolding newest_ranges
  ranges_less before [] = refl
  ranges_less before (r ∷ rs) = ranges_less r.ranges rs

  epoch_less : (before : ℕ) (rs : List Release) → newest_epoch before (map less rs) ≡ newest_epoch before rs
  unfolding newest_epoch
  epoch_less before [] = refl
  epoch_less before (r ∷ rs) = epoch_less r.epoch rs

-- ---- of what comes of it

pub cut_sound : (cut : Cut) (rs : List Release) → IsSound rs → IsSound (releases_cut cut rs)
unfolding releases_cut
cut_sound cut rs sound = sound_less cut rs sound

-- The ledger of the releases, cut, is theirs, cut.
pub ledger_cut-of : (cut : Cut) (rs : List Release) → ledger_cut cut (ledger_of rs) ≡ ledger_of (releases_cut cut rs)
unfolding ledger_cut ledger_of releases_cut
ledger_cut-of cut rs = λ i. record { parts = parts_less cut rs i; items = items_less cut rs i }

pub head_cut : (cut : Cut) (rs : List Release) → base_head (releases_cut cut rs) ≡ base_head rs
unfolding releases_cut
head_cut cut rs = λ i. record { kind = kinds.Snapshot; epoch = epoch_less cut 0 rs i; parent = zero_key; ranges = ranges_less cut [] rs i }

pub accepted_cut : (cut : Cut) (rs : List Release) → accepted_by [] (releases_cut cut rs) ≡ filter (is_kept cut) (accepted_by [] rs)
unfolding releases_cut
accepted_cut cut rs = accepted_less cut [] rs

pub sightings_cut : (cut : Cut) (rs : List Release) (x : Identity) → is_kept cut x ≡ true → sightings x (seen (releases_cut cut rs)) ≡ sightings x (seen rs)
unfolding releases_cut
sightings_cut cut rs x h = sightings_less cut rs x h

pub until_cut : (cut : Cut) (rs : List Release) (x : Identity) → is_kept cut x ≡ true → until x (releases_cut cut rs) ≡ until x rs
unfolding releases_cut
until_cut cut rs x h = until_less cut rs x h

pub listed_cut : (cut : Cut) (rs : List Release) (x : Identity) → is_kept cut x ≡ true → is_listed (releases_cut cut rs) x ≡ is_listed rs x
unfolding releases_cut
listed_cut cut rs x h = listed_less cut rs x h

pub has_cut : (cut : Cut) (rs : List Release) (x : Identity) → is_kept cut x ≡ true
    → has (accepted_by [] (releases_cut cut rs)) x ≡ has (accepted_by [] rs) x
has_cut cut rs x h =
    ap (λ xs. has xs x) (accepted_cut cut rs) ∙ same_of (is_kept cut) (accepted_by [] rs) x h

-- whether it is kept at a moment
pub kept_cut : (moment : ℕ) (cut : Cut) (rs : List Release) (x : Identity) → is_kept cut x ≡ true
    → has (kept_by (is_lasting_by moment (releases_cut cut rs)) (releases_cut cut rs)) x ≡ has (kept_by (is_lasting_by moment rs) rs) x
kept_cut moment cut rs x h =
    has-filter (is_lasting_by moment (releases_cut cut rs)) (accepted_by [] (releases_cut cut rs)) x
    ∙ (λ i. not (is_stale moment (until_cut cut rs x h i)) && has_cut cut rs x h i)
    ∙ sym (has-filter (is_lasting_by moment rs) (accepted_by [] rs) x)

pub many_cut : (cut : Cut) (rs : List Release) → length (releases_cut cut rs) ≡ length rs
unfolding releases_cut
many_cut cut rs = length-map rs (release_cut cut)

-- ---- all of them

filter-all : {A : Type 0} (xs : List A) → filter (λ (x : A). true) xs ≡ xs
filter-all [] = refl
filter-all (x ∷ xs) = ap (λ ys. x ∷ ys) (filter-all xs)

release_all : (r : Release) → release_cut everything r ≡ r
release_all r = λ i. record {
  epoch = r.epoch;
  trailer = r.trailer;
  ranges = r.ranges;
  issuers = filter-all r.issuers i;
  shown = filter-all r.shown i;
  accepted = filter-all r.accepted i;
  lists = r.lists;
  revoked = filter-all r.revoked i;
}

pub cut_by_everything : (rs : List Release) → releases_cut everything rs ≡ rs
unfolding releases_cut
cut_by_everything [] = refl
cut_by_everything (r ∷ rs) = λ i. release_all r i ∷ cut_by_everything rs i
