-- The part of an admissible job has a text, and that of a base.
use Rattle.std.proofs.Common.{◌≡◌, ℕ, ◌≤◌, inl, inr, List, [], ◌∷◌, map, length, true, not, Option, Some, None, Result, Ok, Err, refl, sym, ap, ◌∙◌, subst, arith}
use Rattle.std.specs.Prelude.{All, IfSome}
use Rattle.std.specs.List.{list_all}
use Rattle.std.specs.Option.{option_map}
use Rattle.std.specs.Str.{bytes_eq}
use Rattle.std.proofs.lemmas.List.{length-map}
use Rattle.std.proofs.lemmas.List.Sums.{length-filter, count_by-le-length}
use Rattle.std.proofs.lemmas.List.Elements.{All-contains, All-head, All-tail}
use Rattle.octets_core.specs.Linked.{Linked, is_after}
use Rattle.octets_core.proofs.Texts.{Linked-weaken}
use Rattle.ident_core.specs.declared.identity.Identity.{Identity}
use Rattle.ident_core.specs.declared.kind.Kind.TheVariants as kinds
use Rattle.ident_core.specs.declared.range.Range.{Range}
use Rattle.ident_core.specs.Coverage.{IsRangeAfter}
use Rattle.ident_core.specs.RangeText.{RangeFits, FitsRange}
use Rattle.ident_core.specs.HeadFields.{zero_key}
use Rattle.crl_core.specs.declared.crl.CrlFault.{CrlFault}
use Rattle.crl_core.specs.Outcome.{CrlFields}
use Rattle.equation_core.specs.Rows.{sha256_row}
use Rattle.card_core.specs.declared.block.Block.{Block}
use Rattle.part_text.specs.SealedFields.{SealedFields}
use Rattle.part_text.specs.Fitting.{FitsBlock, FitsHead, Fits}
use Rattle.job_core.specs.JobFields.{CrlMeaning, JobFields}
use Rattle.job_core.specs.Fitting.{FitsPublishing}
use Rattle.ledger_core.specs.LedgerFields.{LedgerPartFields, IsPartAfter, newest}
use Rattle.ledger_core.specs.Fitting.{IsKey, PartFits}
use Rattle.ledger_core.specs.Fitting.{Fits as LedgerFits}
use Rattle.ledger_core.proofs.Orders.{keys-linked}
use Rattle.ident_core.specs.Among.{Among}
use Rattle.ident_core.specs.Sets.{key_set}
use Rattle.ident_core.proofs.Elements.{Among-filter, Among-map, Among-filter_map, some_item}
use Rattle.ident_core.proofs.Sets.{Among-from_key_set}
use Rattle.ident_core.proofs.Canonical.{Contains-from_Among}
use Rattle.universe_core.specs.Jobs.{Crl, accepted_crl, crl_by, crls_of, enrolled, is_stale, facts_of}
use Rattle.universe_core.specs.Formats.{JobIn, dated, read_in}
use Rattle.universe_core.specs.History.{Release, accepted_by, past_of, released}
use Rattle.universe_core.specs.Groups.{members_of, group_of, groups}
use Rattle.universe_core.specs.Ledgers.{item_from, part_from, ledger_of}
use Rattle.universe_core.specs.Step.{kind_by, parent_by, head_after}
use Rattle.universe_core.proofs.Beginning.{issuers_few}
use Rattle.universe_core.proofs.Issuers.{enrolled_ascend}
use Rattle.history_core.specs.Bases.{newest_ranges, base_with, base_at, base_head}
use Rattle.builder_core.specs.declared.format.Format.{Format}
use Rattle.builder_core.specs.Building.{AreGroupBlocks}
use Rattle.builder_core.proofs.GroupBlocks.{blocks_length}
use Rattle.publication_core.specs.Formats.{blocks_in}
use Rattle.publication_core.specs.Histories.{newest_of, IsPartOf, IsAdmissible, IsBasePart}
use Rattle.publication_core.proofs.Reading.{fits_in}
use Rattle.publication_core.proofs.Leaves.{blocks_have_texts}

-- ---- the head

pub newest_part : (rs : List Release) → newest (map part_from rs) ≡ option_map part_from (newest_of rs)
newest_part [] = refl
newest_part (r ∷ []) = refl
newest_part (r ∷ q ∷ rs) = newest_part (q ∷ rs)

parent_wide : (newest : Option Release) → IfSome newest (λ r. length r.trailer ≡ 32) → length (parent_by (option_map part_from newest)) ≡ 32
parent_wide None h = refl
parent_wide (Some r) h = h

-- a snapshot has no parent
no_parent : (rs : List Release) → kind_by (map part_from rs) ≡ kinds.Snapshot → parent_by (newest (map part_from rs)) ≡ zero_key
no_parent [] h = refl
no_parent (r ∷ rs) h = absurd cc

head_fits : (rs : List Release) (job : JobFields) → FitsPublishing job → IfSome (newest_of rs) (λ r. length r.trailer ≡ 32) → FitsHead (head_after (map part_from rs) (facts_of job))
head_fits rs job fits digest = record {
  facts = record { ranges = fits.ranges_fit; snapshot = no_parent rs };
  epoch = fits.epoch;
  parent = ap (λ (o : Option LedgerPartFields). length (parent_by o)) (newest_part rs) ∙ parent_wide (newest_of rs) digest;
  ranges = fits.ranges;
}

-- ---- the keys of the enrolled issuers

crl_issuer : (issuer : List ℕ) (r : Result CrlFields CrlFault) (c : Crl) → crl_by issuer r ≡ Some c → c.issuer ≡ issuer
crl_issuer issuer (Ok f) c h = sym (ap (λ (d : Crl). d.issuer) (some_item (record { issuer = issuer; next_update = f.next_update; serials = f.serials }) c h))
crl_issuer issuer (Err e) c h = absurd cc

enrolled_keys : (job : JobFields) → All (λ c. length c.issuer ≡ 32) job.crls → (k : List ℕ) → Among (enrolled (facts_of job)) k → length k ≡ 32
unfolding enrolled
enrolled_keys job wide k a =
    let f = Among-filter (λ issuer. list_all (λ c. not (is_stale job.moment c.next_update)) (crls_of issuer (facts_of job))) (key_set (map (λ c. c.issuer) (facts_of job).crls)) k a in
    let m = Among-map (λ (c : Crl). c.issuer) (facts_of job).crls k (Among-from_key_set (map (λ (c : Crl). c.issuer) (facts_of job).crls) k f.0) in
    let c = Among-filter_map accepted_crl job.crls m.0 m.1 in
    let is : k ≡ c.0.issuer = sym m.2 ∙ crl_issuer c.0.issuer c.0.outcome m.0 c.2 in
    ap length is ∙ All-contains (λ (c : CrlMeaning). length c.issuer ≡ 32) job.crls c.0 wide (Contains-from_Among job.crls c.0 c.1)

-- ---- the blocks

members_within : (k : List ℕ) (xs : List Identity) → length (members_of k xs) ≤ length xs
members_within k xs = omega (arith, length-filter (λ (x : Identity). bytes_eq k x.issuer) xs, count_by-le-length (λ (x : Identity). bytes_eq k x.issuer) xs)

-- blocks of the groups of ascending keys, each of few identities
blocks_fit : (format : Format) (r : Release) (previous : Option (List ℕ)) (ks : List (List ℕ)) (blocks : List Block) → length r.accepted ≤ 4194304
    → Linked (λ previous k. is_after previous k ≡ true) (λ previous k. Some k) previous ks → ((k : List ℕ) → Among ks k → length k ≡ 32)
    → AreGroupBlocks format sha256_row (map (group_of r) ks) blocks → Linked FitsBlock (λ previous b. Some b.issuer) previous blocks
blocks_fit format r previous [] [] few linked wide are = tt
blocks_fit format r previous [] (b ∷ blocks) few linked wide are = absurd are
blocks_fit format r previous (k ∷ ks) [] few linked wide are = absurd are
blocks_fit format r previous (k ∷ ks) (b ∷ blocks) few linked wide are = (
  (
    subst (λ (i : List ℕ). is_after previous i ≡ true) (sym are.0.0) linked.0,
    blocks_have_texts format (group_of r k) b (wide k (inl refl)) (omega (arith, members_within k r.accepted, few)) are.0,
  ),
  blocks_fit format r (Some b.issuer) ks blocks few
      (subst (λ (i : List ℕ). Linked (λ previous k. is_after previous k ≡ true) (λ previous k. Some k) (Some i) ks) (sym are.0.0) linked.1)
      (λ x a. wide x (inr a)) are.1,
)

block_after : (previous : Option (List ℕ)) (b : Block) → FitsBlock previous b → is_after previous b.issuer ≡ true
block_after previous b fits = fits.0

module _ (rs : List Release) (j : JobIn) (s : SealedFields) (admissible : IsAdmissible rs j) (is : IsPartOf rs j s) where
  abbrev job : JobFields
  job = read_in j

  abbrev made : Release
  made = released (past_of rs) (facts_of job) []

  blocks_are : AreGroupBlocks (blocks_in j.format) sha256_row (map (group_of made) (enrolled (facts_of job))) s.part.blocks
  unfolding groups
  blocks_are = is.blocks

  blocks_linked : Linked FitsBlock (λ previous b. Some b.issuer) None s.part.blocks
  blocks_linked =
      blocks_fit (blocks_in j.format) made None (enrolled (facts_of job)) s.part.blocks admissible.few_identities (keys-linked (enrolled (facts_of job)) (enrolled_ascend (facts_of job)))
      (enrolled_keys job admissible.fits.crls) blocks_are

  blocks_few : length s.part.blocks ≤ 65535
  blocks_few =
      omega (
        arith,
        blocks_length (blocks_in j.format) sha256_row (map (group_of made) (enrolled (facts_of job))) s.part.blocks blocks_are,
        length-map (enrolled (facts_of job)) (group_of made),
        issuers_few job,
        admissible.limits.crls,
      )

  -- The part has a text where the trailer of the newest release, if there is one, is a digest.
  pub part_has_text : IfSome (newest_of rs) (λ r. length r.trailer ≡ 32) → Fits s
  part_has_text digest = record {
    part = record {
      facts = record {
        few = blocks_few;
        ascending = Linked-weaken FitsBlock (λ previous b. is_after previous b.issuer ≡ true) (λ previous b. Some b.issuer) block_after None s.part.blocks blocks_linked;
      };
      head = subst FitsHead (sym is.head_is) (head_fits rs job (fits_in j admissible.fits) digest);
      blocks = blocks_linked;
    };
    trailer = is.trailer;
  }

-- ---- the part of a base

ranges_linked : (previous : Option (List ℕ)) (ranges : List Range) → Linked IsRangeAfter (λ previous r. Some r.log) previous ranges → All RangeFits ranges
    → Linked FitsRange (λ previous r. Some r.log) previous ranges
ranges_linked previous [] l f = tt
ranges_linked previous (r ∷ ranges) l f = ((l.0, All-head RangeFits r ranges f), ranges_linked (Some r.log) ranges l.1 (All-tail RangeFits r ranges f))

-- what the ledger of one release says of it
record FitsAlone (r : Release) : Type 0 where
  part : PartFits (part_from r)
  after : IsPartAfter None (part_from r)
  few_accepted : length r.accepted ≤ 4194304

fits_alone : (r : Release) → LedgerFits (ledger_of (r ∷ [])) → FitsAlone r
unfolding ledger_of accepted_by
fits_alone r fits = record {
  part = All-head PartFits (part_from r) [] fits.parts;
  after = fits.facts.parts.0;
  few_accepted = omega (arith, length-map r.accepted (item_from (r ∷ [])), fits.facts.few_items);
}

module _ (moment : ℕ) (rs : List Release) (s : SealedFields) (is : IsBasePart moment rs s) (fits : FitsAlone (base_at moment rs s.trailer)) where
  abbrev base : Release
  base = base_at moment rs s.trailer

  base_head_fits : FitsHead (base_head rs)
  unfolding base_with
  base_head_fits = record {
    facts = record { ranges = fits.after.ranges; snapshot = λ e. refl };
    epoch = fits.part.epoch;
    parent = refl;
    ranges = ranges_linked None (newest_ranges [] rs) fits.after.ranges.ascending fits.part.ranges;
  }

  base_blocks_are : AreGroupBlocks (blocks_in dated) sha256_row (map (group_of base) base.issuers) s.part.blocks
  unfolding groups base_with
  base_blocks_are = is.blocks

  base_blocks_linked : Linked FitsBlock (λ previous b. Some b.issuer) None s.part.blocks
  base_blocks_linked =
      blocks_fit (blocks_in dated) base None base.issuers s.part.blocks fits.few_accepted (keys-linked base.issuers fits.after.issuers_ascend)
      (λ k a. All-contains IsKey base.issuers k fits.part.issuers (Contains-from_Among base.issuers k a)) base_blocks_are

  base_blocks_few : length s.part.blocks ≤ 65535
  base_blocks_few =
      omega (
        arith,
        blocks_length (blocks_in dated) sha256_row (map (group_of base) base.issuers) s.part.blocks base_blocks_are,
        length-map base.issuers (group_of base),
        fits.after.few_issuers,
      )

  base_text : Fits s
  base_text = record {
    part = record {
      facts = record {
        few = base_blocks_few;
        ascending = Linked-weaken FitsBlock (λ previous b. is_after previous b.issuer ≡ true) (λ previous b. Some b.issuer) block_after None s.part.blocks base_blocks_linked;
      };
      head = subst FitsHead (sym is.head_is) base_head_fits;
      blocks = base_blocks_linked;
    };
    trailer = is.trailer;
  }

-- The part has a text where the ledger of the base fits.
pub base_has_text : (moment : ℕ) (rs : List Release) (s : SealedFields) → IsBasePart moment rs s → LedgerFits (ledger_of (base_at moment rs s.trailer ∷ [])) → Fits s
base_has_text moment rs s is fits = base_text moment rs s is (fits_alone (base_at moment rs s.trailer) fits)
