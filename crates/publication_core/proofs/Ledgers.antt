-- The ledger of a history has a text, from which it is read back.
use Rattle.std.proofs.Common.{◌≡◌, ℕ, ◌<◌, ◌≤◌, ◌^◌, inl, inr, ⊎_elim, Bool, List, [], ◌∷◌, ◌++◌, map, length, true, Option, Some, None, Result, Ok, Err, refl, sym, ap, ◌∙◌, subst, arith}
use Rattle.std.specs.Prelude.{ℤ, All, IfSome, not}
use Rattle.std.specs.Int.{w64}
use Rattle.std.specs.Int.RustNames.{FitsSigned}
use Rattle.std.specs.List.{list_all, flat_map}
use Rattle.std.specs.Option.{option_or}
use Rattle.std.proofs.lemmas.List.{length-map}
use Rattle.std.proofs.lemmas.List.Elements.{All-nil, All-cons, All-append, All-map, All-filter, All-contains, All-from_recursion}
use Rattle.sha2.proofs.Facts256.{length-sha256}
use Rattle.octets_core.specs.Linked.{Linked}
use Rattle.octets_core.specs.Layout.{with_fault}
use Rattle.octets_core.specs.Reading.{value_of}
use Rattle.ident_core.specs.declared.identity.Identity.{Identity}
use Rattle.ident_core.specs.declared.range.Range.{Range}
use Rattle.ident_core.specs.Order.{is_same}
use Rattle.ident_core.specs.Coverage.{RangesFit}
use Rattle.ident_core.specs.RangeText.{RangeFits, FitsRange}
use Rattle.crl_core.specs.declared.crl.CrlFault.{CrlFault}
use Rattle.crl_core.specs.Outcome.{CrlFields}
use Rattle.part_text.specs.SealedFields.{SealedFields}
use Rattle.part_text.specs.PartText.{unsealed_text}
use Rattle.job_core.specs.declared.bounds.TheConstants.Limits.{PUBLISHED}
use Rattle.job_core.specs.JobFields.{CrlMeaning, JobFields}
use Rattle.job_core.specs.Fitting.{EntryFieldsFit, FitsPublishing}
use Rattle.ledger_core.specs.declared.fault.LedgerFault.TheVariants as ledger_faults
use Rattle.ledger_core.specs.declared.fields.LedgerItem.{LedgerItem}
use Rattle.ledger_core.specs.LedgerFields.{LedgerPartFields, LedgerFields, IsLedger, ids, newest}
use Rattle.ledger_core.specs.Fitting.{IsKey, PartFits, ItemFits, Fits}
use Rattle.ledger_core.specs.LedgerLayout.{ledger}
use Rattle.ledger_core.specs.LedgerReading.{ledger_of_bytes}
use Rattle.ledger_core.specs.LedgerText.{HasNoDates}
use Rattle.ledger_core.proofs.LedgerTexts.{ledger-again, old-again}
use Rattle.ledger_core.proofs.Seals.{IsLedger-sealed}
use Rattle.ident_core.specs.Among.{Among}
use Rattle.ident_core.specs.Sets.{has, key_set}
use Rattle.ident_core.proofs.Elements.{Among-filter, Among-map, Among-filter_map, Among-cases, some_item}
use Rattle.ident_core.proofs.Sets.{Among-from_has, has-from_Among, Among-from_key_set, key_set_ascends}
use Rattle.ident_core.proofs.Canonical.{Contains-from_Among, all_from}
use Rattle.place_core.specs.Cuts.{Cut}
use Rattle.universe_core.specs.Jobs.{Crl, Entry, crl_by, accepted_crl, facts_of, is_stale, crls_of, enrolled}
use Rattle.universe_core.specs.Formats.{read_in}
use Rattle.universe_core.specs.History.{Release, past_of, shown, accepted_with}
use Rattle.universe_core.specs.Dates.{greatest, dates}
use Rattle.universe_core.specs.Ledgers.{no_ledger, past_in, item_of, old_dates, next_item, part_after, next_ledger, part_from, ledger_of}
use Rattle.universe_core.specs.Members.{first_part}
use Rattle.universe_core.specs.Rebases.{is_kept_item, part_cut, ledger_cut, is_lasting, issuers_in, kept, epoch_by, ranges_by, rebased_item, rebased_part, rebased_ledger}
use Rattle.universe_core.specs.Step.{bad_crl_from, old_epoch, shrunk, chain_full, too_many, refusal}
use Rattle.universe_core.specs.Following.{IsBefore, early}
use Rattle.universe_core.specs.declared.fault.AdmitFault.{AdmitFault}
use Rattle.universe_core.proofs.Beginning.{issuers_few}
use Rattle.universe_core.proofs.Continuing.{before_none, before_ledger, find_all, is_next, next_is}
use Rattle.universe_core.proofs.Greatest.{greatest_is, greatest_keeps}
use Rattle.universe_core.proofs.Members.{Among-dates}
use Rattle.publication_core.proofs.Built.{is_ledger}
use Rattle.publication_core.proofs.Parts.{newest_fits}
use Rattle.publication_core.proofs.Cuts.{IsLedger-cut}
use Rattle.history_core.specs.Bases.{all_issuers, releases_cut, base_at}
use Rattle.history_core.specs.Facts.{IsSound}
use Rattle.history_core.proofs.Accepting.{accepted_cases, shown_entry}
use Rattle.history_core.proofs.BaseLedgers.{issuers_same, ledger_same}
use Rattle.history_core.proofs.Beginnings.{ledger_of_none}
use Rattle.history_core.proofs.Ledger as histories
use Rattle.history_core.proofs.Sound.{nothing_sound}
use Rattle.history_core.proofs.Cuts.{cut_sound, ledger_cut-of, many_cut}
use Rattle.publication_core.specs.Histories.{Published, newest_of, IsAdmissible, IsPartOf, IsRebasable, IsBasePart, release_of, releases_after, AreAdmissible, History, of_jobs, rebased, members, IsHistory, releases_of}
use Rattle.publication_core.specs.Histories.{ledger_bytes, old_ledger_bytes, IsUndated}
use Rattle.publication_core.proofs.Reading.{fits_in, goes_on_in, none_dated, after_undated, items_undated}
use Rattle.publication_core.proofs.Admitting.{not_refused}
use Rattle.publication_core.proofs.Histories.{job_sound, base_at_sound, history_sound, members_many}

all_among : {A : Type 0} (P : A → Type 0) (xs : List A) (x : A) → All P xs → Among xs x → P x
all_among P xs x h a = All-contains P xs x h (Contains-from_Among xs x a)

-- ---- the job's ranges, issuers and entries fit

ranges_fit : (previous : Option (List ℕ)) (rs : List Range) → Linked FitsRange (λ previous r. Some r.log) previous rs → All RangeFits rs
ranges_fit previous [] h = All-nil RangeFits
ranges_fit previous (r ∷ rs) h = All-cons RangeFits r rs h.0.1 (ranges_fit (Some r.log) rs h.1)

crl_issuer : (issuer : List ℕ) (r : Result CrlFields CrlFault) (c : Crl) → crl_by issuer r ≡ Some c → c.issuer ≡ issuer
crl_issuer issuer (Ok f) c h = sym (ap (λ (d : Crl). d.issuer) (some_item (record { issuer = issuer; next_update = f.next_update; serials = f.serials }) c h))
crl_issuer issuer (Err e) c h = absurd cc

-- each enrolled issuer is that of a CRL
enrolled_key : (job : JobFields) → All (λ c. length c.issuer ≡ 32) job.crls → (k : List ℕ) → Among (enrolled (facts_of job)) k → IsKey k
unfolding enrolled
enrolled_key job wide k a =
    let f = Among-filter (λ issuer. list_all (λ c. not (is_stale job.moment c.next_update)) (crls_of issuer (facts_of job))) (key_set (map (λ c. c.issuer) (facts_of job).crls)) k a in
    let m = Among-map (λ (c : Crl). c.issuer) (facts_of job).crls k (Among-from_key_set (map (λ (c : Crl). c.issuer) (facts_of job).crls) k f.0) in
    let c = Among-filter_map accepted_crl job.crls m.0 m.1 in
    ap length (sym m.2 ∙ crl_issuer c.0.issuer c.0.outcome m.0 c.2) ∙ all_among (λ (d : CrlMeaning). length d.issuer ≡ 32) job.crls c.0 wide c.1

part_fits : (job : JobFields) (trailer : List ℕ) → FitsPublishing job → IsKey trailer → PartFits (part_after (facts_of job) trailer)
part_fits job trailer fits key = record {
  epoch = fits.epoch;
  trailer = key;
  ranges = ranges_fit None job.ranges fits.ranges;
  issuers = All-from_recursion IsKey (enrolled (facts_of job)) (all_from IsKey (enrolled (facts_of job)) (enrolled_key job fits.crls));
}

-- the key and the serial of an identity fit
pub record IdentityFits (x : Identity) : Type 0 where
  pub issuer : IsKey x.issuer
  pub some_octets : 1 ≤ length x.serial
  pub few_octets : length x.serial ≤ 32

entry_fits : (job : JobFields) (e : Entry) → All (λ o. IfSome o EntryFieldsFit) job.entries → Among (facts_of job).entries (Some e) → EntryFieldsFit e
entry_fits job e fits a = all_among (λ (o : Option Entry). IfSome o EntryFieldsFit) job.entries (Some e) fits a

entries_fit : (job : JobFields) (e : Entry) → All (λ o. IfSome o EntryFieldsFit) job.entries → Among (facts_of job).entries (Some e) → IdentityFits e.id
entries_fit job e fits a =
    let f : EntryFieldsFit e = entry_fits job e fits a in
    record { issuer = f.issuer; some_octets = f.some_serial; few_octets = f.short_serial }

-- a date fits 64 bits
abbrev DateFits : Option ℤ → Type 0
DateFits d = IfSome d (FitsSigned w64)

old_date_fits : (o : Option LedgerItem) (d : Option ℤ) → IfSome o ItemFits → Among (old_dates o) d → DateFits d
old_date_fits None d h a = absurd a
old_date_fits (Some i) d h (inl is) = subst DateFits is h.until
old_date_fits (Some i) d h (inr a) = absurd a

-- ---- one job more

-- what each ledger that fits keeps, and what there is before the first job too
pub record FitsBefore (l : LedgerFields) : Type 0 where
  pub before : IsBefore l
  pub few_items : length l.items ≤ 4194304
  pub parts : All PartFits l.parts
  pub items : All ItemFits l.items

none_fits : FitsBefore no_ledger
none_fits = record { before = before_none; few_items = omega arith; parts = All-nil PartFits; items = All-nil ItemFits }

fits_before : (l : LedgerFields) → Fits l → FitsBefore l
fits_before l fits = record { before = before_ledger l fits.facts; few_items = fits.facts.few_items; parts = fits.parts; items = fits.items }

fits_of : (l : LedgerFields) → FitsBefore l → 1 ≤ length l.parts → Fits l
fits_of l kept some = record {
  facts = record {
    some_parts = some;
    few_parts = kept.before.few_parts;
    parts = kept.before.parts;
    few_items = kept.few_items;
    items_ascend = kept.before.items_ascend;
    items = kept.before.items;
  };
  parts = kept.parts;
  items = kept.items;
}

early_none : (a b c d e : Option AdmitFault) → option_or a (option_or b (option_or c (option_or d e))) ≡ None → option_or a (option_or b (option_or c d)) ≡ None
early_none (Some x) b c d e h = absurd cc
early_none None (Some x) c d e h = absurd cc
early_none None None (Some x) d e h = absurd cc
early_none None None None (Some x) e h = absurd cc
early_none None None None None e h = refl

not_early : (l : LedgerFields) (job : JobFields) → refusal PUBLISHED l job ≡ None → early l.parts job ≡ None
unfolding refusal
not_early l job h =
    early_none (bad_crl_from 0 job.crls) (old_epoch (newest l.parts) job.epoch) (shrunk (newest l.parts) (facts_of job)) (chain_full l.parts) (too_many PUBLISHED l (facts_of job)) h

module _ (l : LedgerFields) (job : JobFields) (kept : FitsBefore l) (fits : FitsPublishing job) where
  -- an identity of the ledger fits
  old_fits : (x : Identity) → has (past_in l).accepted x ≡ true → IdentityFits x
  unfolding past_in
  old_fits x h =
      let i = Among-map (λ (i : LedgerItem). i.id) l.items x (Among-from_has (ids l.items) x h) in
      let f = all_among ItemFits l.items i.0 kept.items i.1 in
      subst IdentityFits i.2 (record { issuer = f.issuer; some_octets = f.some_octets; few_octets = f.few_octets })

  accepted_fits : (x : Identity) → Among (accepted_with (past_in l) (facts_of job)) x → IdentityFits x
  accepted_fits x a =
      ⊎_elim (λ old. old_fits x old) (λ new. subst IdentityFits new.2 (entries_fit job new.0 fits.entries (shown_entry (past_in l) (facts_of job) new.0 new.1)))
      (accepted_cases (past_in l) (facts_of job) x (has-from_Among (accepted_with (past_in l) (facts_of job)) x a))

  -- each date of its item and of its entries fits
  item_of_fits : (x : Identity) → IfSome (item_of l x) ItemFits
  unfolding item_of
  item_of_fits x = find_all ItemFits (λ (i : LedgerItem). is_same x i.id) l.items (λ i a. all_among ItemFits l.items i kept.items a)

  dates_fit : (x : Identity) (d : Option ℤ) → Among (old_dates (item_of l x) ++ dates x (shown (past_in l) (facts_of job))) d → DateFits d
  dates_fit x d a =
      ⊎_elim (λ old. old_date_fits (item_of l x) d (item_of_fits x) old)
      (λ new.
      let m = Among-dates x (shown (past_in l) (facts_of job)) d new in
      subst DateFits m.3 (entry_fits job m.0 fits.entries (shown_entry (past_in l) (facts_of job) m.0 m.1)).until)
      (Among-cases (old_dates (item_of l x)) (dates x (shown (past_in l) (facts_of job))) d a)

  item_fits : (x : Identity) → Among (accepted_with (past_in l) (facts_of job)) x → ItemFits (next_item (past_in l) l (facts_of job) x)
  item_fits x a =
      let f = accepted_fits x a in
      let ds : List (Option ℤ) = old_dates (item_of l x) ++ dates x (shown (past_in l) (facts_of job)) in
      record {
        issuer = f.issuer;
        some_octets = f.some_octets;
        few_octets = f.few_octets;
        until = greatest_keeps (FitsSigned w64) ds (greatest ds) (greatest_is ds) (dates_fit x);
      }

  items_fit : All ItemFits (map (next_item (past_in l) l (facts_of job)) (accepted_with (past_in l) (facts_of job)))
  items_fit =
      let item : Identity → LedgerItem = next_item (past_in l) l (facts_of job) in
      let xs : List Identity = accepted_with (past_in l) (facts_of job) in
      All-map ItemFits item xs (All-from_recursion (λ x. ItemFits (item x)) xs (all_from (λ x. ItemFits (item x)) xs item_fits))

  next_ledger_is : (trailer : List ℕ) → early l.parts job ≡ None → length job.crls ≤ 65535 → length (accepted_with (past_in l) (facts_of job)) ≤ 4194304
      → IsLedger (next_ledger l (facts_of job) trailer)
  next_ledger_is trailer none crls few =
      let items : List LedgerItem = map (next_item (past_in l) l (facts_of job)) (accepted_with (past_in l) (facts_of job)) in
      let drafted : LedgerFields = record { parts = l.parts ++ first_part job.epoch job.ranges (enrolled (facts_of job)) ∷ []; items = items } in
      subst IsLedger (next_is l (facts_of job) (enrolled (facts_of job)) items trailer refl refl)
      (IsLedger-sealed drafted trailer (is_next l job (enrolled (facts_of job)) items kept.before none fits.ranges_fit refl refl (omega (arith, issuers_few job, crls)) few))

  next_fits : (trailer : List ℕ) → IsKey trailer → early l.parts job ≡ None → length job.crls ≤ 65535 → length (accepted_with (past_in l) (facts_of job)) ≤ 4194304
      → Fits (next_ledger l (facts_of job) trailer)
  next_fits trailer key none crls few = record {
    facts = next_ledger_is trailer none crls few;
    parts = All-append PartFits l.parts (part_after (facts_of job) trailer ∷ []) kept.parts
        (All-cons PartFits (part_after (facts_of job) trailer) [] (part_fits job trailer fits key) (All-nil PartFits));
    items = items_fit;
  }

-- ---- a rebased ledger

newest_among : (ps : List LedgerPartFields) → 1 ≤ length ps → (p : LedgerPartFields) × (newest ps ≡ Some p) × Among ps p
newest_among [] some = absurd (omega arith)
newest_among (p ∷ []) some = (p, refl, inl refl)
newest_among (p ∷ q ∷ ps) some = let r = newest_among (q ∷ ps) (omega arith) in (r.0, r.1, inr r.2)

keys_of : (ps : List LedgerPartFields) (k : List ℕ) → ((p : LedgerPartFields) → Among ps p → PartFits p) → Among (flat_map (λ (p : LedgerPartFields). p.issuers) ps) k → IsKey k
keys_of [] k h a = absurd a
keys_of (p ∷ ps) k h a =
    ⊎_elim (λ here. all_among IsKey p.issuers k (h p (inl refl)).issuers here) (λ later. keys_of ps k (λ q i. h q (inr i)) later)
    (Among-cases p.issuers (flat_map (λ (q : LedgerPartFields). q.issuers) ps) k a)

module _ (keeps : LedgerItem → Bool) (l : LedgerFields) (trailer : List ℕ) (fits : Fits l) (key : IsKey trailer) (few : length (issuers_in l.parts) ≤ 65535) where
  part_at : (p : LedgerPartFields) → Among l.parts p → PartFits p
  part_at p a = all_among PartFits l.parts p fits.parts a

  rebased_issuers : (k : List ℕ) → Among (issuers_in l.parts) k → IsKey k
  rebased_issuers k a = keys_of l.parts k part_at (Among-from_key_set (flat_map (λ (p : LedgerPartFields). p.issuers) l.parts) k a)

  rebased_part_fits : PartFits (rebased_part l.parts trailer)
  rebased_part_fits =
      let n = newest_among l.parts fits.facts.some_parts in
      let f : PartFits n.0 = part_at n.0 n.2 in
      record {
        epoch = subst (λ (o : Option LedgerPartFields). epoch_by o < 2 ^ 64) (sym n.1) f.epoch;
        trailer = key;
        ranges = subst (λ (o : Option LedgerPartFields). All RangeFits (ranges_by o)) (sym n.1) f.ranges;
        issuers = All-from_recursion IsKey (issuers_in l.parts) (all_from IsKey (issuers_in l.parts) rebased_issuers);
      }

  rebased_is_ledger : IsLedger (rebased_ledger keeps l trailer)
  rebased_is_ledger =
      let n = newest_among l.parts fits.facts.some_parts in
      let ranges : RangesFit (ranges_by (newest l.parts)) = subst (λ (o : Option LedgerPartFields). RangesFit (ranges_by o)) (sym n.1) (newest_fits None l.parts n.0 fits.facts.parts n.1) in
      let items : List LedgerItem = map rebased_item (kept keeps l) in
      IsLedger-sealed (record { parts = first_part (epoch_by (newest l.parts)) (ranges_by (newest l.parts)) (issuers_in l.parts) ∷ []; items = items }) trailer
      (is_ledger keeps l (epoch_by (newest l.parts)) (ranges_by (newest l.parts)) (issuers_in l.parts) items fits.facts ranges few
      (key_set_ascends (flat_map (λ (p : LedgerPartFields). p.issuers) l.parts)) refl)

  rebased_item_fits : (i : LedgerItem) → Among (kept keeps l) i → ItemFits (rebased_item i)
  rebased_item_fits i a =
      let f : ItemFits i = all_among ItemFits l.items i fits.items (Among-filter keeps l.items i a).0 in
      record { issuer = f.issuer; some_octets = f.some_octets; few_octets = f.few_octets; until = f.until }

  -- The ledger of one part fits, as the old one does.
  rebased_fits : Fits (rebased_ledger keeps l trailer)
  rebased_fits = record {
    facts = rebased_is_ledger;
    parts = All-cons PartFits (rebased_part l.parts trailer) [] rebased_part_fits (All-nil PartFits);
    items = All-map ItemFits rebased_item (kept keeps l)
        (All-from_recursion (λ i. ItemFits (rebased_item i)) (kept keeps l) (all_from (λ i. ItemFits (rebased_item i)) (kept keeps l) rebased_item_fits));
  }

-- ---- a history's ledger

-- the ledger of releases and of one job more
step_fits : (rs : List Release) (p : Published) → IsSound rs → FitsBefore (ledger_of rs) → IsAdmissible rs p.job → IsPartOf rs p.job p.sealed
    → FitsBefore (ledger_of (rs ++ release_of rs p ∷ []))
step_fits rs p sound kept a part =
    let job : JobFields = read_in p.job in
    let none = not_early (ledger_of rs) job (not_refused rs job sound (record { crls = a.crls; goes_on = goes_on_in p.job (newest_of rs) a.goes_on; few_parts = a.few_parts; few_identities = a.few_identities })) in
    let same : length (accepted_with (past_in (ledger_of rs)) (facts_of job)) ≡ length (accepted_with (past_of rs) (facts_of job))
    = ap (λ past. length (accepted_with past (facts_of job))) (histories.past_in_ledger rs sound) in
    let few : length (accepted_with (past_in (ledger_of rs)) (facts_of job)) ≤ 4194304 = omega (arith, same, a.few_identities) in
    let key : IsKey p.sealed.trailer = ap length part.trailer ∙ length-sha256 (unsealed_text p.sealed.part) in
    subst FitsBefore (histories.next_is rs sound (facts_of job) p.sealed.trailer)
    (fits_before (next_ledger (ledger_of rs) (facts_of job) p.sealed.trailer) (next_fits (ledger_of rs) job kept (fits_in p.job a.fits) p.sealed.trailer key none a.limits.crls few))

after_fits : (rs : List Release) (ps : List Published) → IsSound rs → FitsBefore (ledger_of rs) → AreAdmissible rs ps → FitsBefore (ledger_of (releases_after rs ps))
after_fits rs [] sound kept h = kept
after_fits rs (p ∷ ps) sound kept h = after_fits (rs ++ release_of rs p ∷ []) ps (job_sound rs p sound h.0) (step_fits rs p sound kept h.0 h.1) h.2

releases_many : (rs : List Release) → length (ledger_of rs).parts ≡ length rs
unfolding ledger_of
releases_many rs = length-map rs part_from

few_issuers : (rs : List Release) → length (all_issuers rs) ≤ 65535 → length (issuers_in (ledger_of rs).parts) ≤ 65535
unfolding ledger_of
few_issuers rs few = subst (λ (ks : List (List ℕ)). length (key_set ks) ≤ 65535) (sym (issuers_same rs)) few

-- a ledger that fits does so, cut
cut_fits : (cut : Cut) (l : LedgerFields) → Fits l → Fits (ledger_cut cut l)
unfolding ledger_cut
cut_fits cut l fits = record {
  facts = IsLedger-cut cut l fits.facts;
  parts = All-map PartFits (part_cut cut) l.parts
      (All-from_recursion (λ p. PartFits (part_cut cut p)) l.parts (all_from (λ p. PartFits (part_cut cut p)) l.parts
      (λ p a.
      let f : PartFits p = all_among PartFits l.parts p fits.parts a in
      record { epoch = f.epoch; trailer = f.trailer; ranges = f.ranges; issuers = All-filter cut.takes IsKey p.issuers f.issuers })));
  items = All-filter (is_kept_item cut) ItemFits l.items fits.items;
}

-- the ledger of a base
base_fits : (moment : ℕ) (cut : Cut) (old : List Release) (s : SealedFields) → IsSound old → FitsBefore (ledger_of old) → IsRebasable moment (releases_cut cut old)
    → IsBasePart moment (releases_cut cut old) s → Fits (ledger_of (base_at moment (releases_cut cut old) s.trailer ∷ []))
base_fits moment cut old s sound kept can part =
    let rs : List Release = releases_cut cut old in
    let key : IsKey s.trailer = ap length part.trailer ∙ length-sha256 (unsealed_text s.part) in
    let all : Fits (ledger_of old) = fits_of (ledger_of old) kept (omega (arith, releases_many old, many_cut cut old, can.some)) in
    let fits : Fits (ledger_of rs) = subst Fits (ledger_cut-of cut old) (cut_fits cut (ledger_of old) all) in
    subst Fits (ledger_same (is_lasting moment) rs s.trailer (cut_sound cut old sound))
    (rebased_fits (is_lasting moment) (ledger_of rs) s.trailer fits key (few_issuers rs can.few_issuers))

history_fits : (h : History) → IsHistory h → FitsBefore (ledger_of (releases_of h))
history_fits (of_jobs ps) is = after_fits [] ps nothing_sound (subst FitsBefore (sym ledger_of_none) none_fits) is
history_fits (rebased h moment cut s ps) is =
    let rs : List Release = releases_of h in
    let rest : List Release = releases_cut cut rs in
    let base : Release = base_at moment rest s.trailer in
    let sound : IsSound rs = history_sound h is.0 in
    after_fits (base ∷ []) ps (base_at_sound moment rest s (cut_sound cut rs sound))
    (fits_before (ledger_of (base ∷ [])) (base_fits moment cut rs s sound (history_fits h is.0) is.1 is.2)) is.3

-- The ledger of the base with which a history begins fits.
pub history_base_fits : (h : History) (moment : ℕ) (cut : Cut) (s : SealedFields) → IsHistory h
    → IsRebasable moment (releases_cut cut (releases_of h)) → IsBasePart moment (releases_cut cut (releases_of h)) s
    → Fits (ledger_of (base_at moment (releases_cut cut (releases_of h)) s.trailer ∷ []))
history_base_fits h moment cut s is can part = base_fits moment cut (releases_of h) s (history_sound h is) (history_fits h is) can part

-- where no job reads dates, the ledger has none
undated_by : (h : History) → IsUndated h → HasNoDates (ledger_of (releases_of h))
undated_by (of_jobs ps) none = items_undated (releases_after [] ps) (after_undated [] ps none none_dated)
undated_by (rebased h moment cut s ps) none = absurd none

module _ (h : History) (is : IsHistory h) (some : 1 ≤ members h) where
  pub history_ledger_fits : Fits (ledger_of (releases_of h))
  history_ledger_fits = fits_of (ledger_of (releases_of h)) (history_fits h is) (omega (arith, releases_many (releases_of h), members_many h, some))

  pub history_ledger_read : ledger (ledger_bytes h) 0 ≡ Ok (ledger_of (releases_of h), length (ledger_bytes h))
  history_ledger_read = ledger-again (ledger_of (releases_of h)) history_ledger_fits

  pub history_undated : IsUndated h → HasNoDates (ledger_of (releases_of h))
  history_undated none = undated_by h none

  pub history_old_read : IsUndated h → ledger (old_ledger_bytes h) 0 ≡ Ok (ledger_of (releases_of h), length (old_ledger_bytes h))
  history_old_read none = old-again (ledger_of (releases_of h)) history_ledger_fits (history_undated none)

  pub history_old_value : IsUndated h → ledger_of_bytes (old_ledger_bytes h) ≡ Ok (ledger_of (releases_of h))
  history_old_value none = ap (λ r. value_of (with_fault ledger_faults.Layout r)) (history_old_read none)

  pub history_ledger_value : ledger_of_bytes (ledger_bytes h) ≡ Ok (ledger_of (releases_of h))
  history_ledger_value = ap (λ r. value_of (with_fault ledger_faults.Layout r)) history_ledger_read
