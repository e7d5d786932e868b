-- A part shows what its job leaves: it covers the same, has a block of each enrolled issuer, exact on its accepted
-- identities, and no other block.
use Rattle.std.proofs.Common.{◌≡◌, ℕ, List, [], ◌∷◌, map, get_or, Bool, true, false, cond, ◌||◌, Option, Some, None, refl, sym, ap, ◌∙◌, subst}
use Rattle.std.specs.List.{Contains}
use Rattle.std.specs.Option.{option_map}
use Rattle.std.specs.Str.{bytes_eq}
use Rattle.std.proofs.lemmas.List.{length-map, get_or-map}
use Rattle.ident_core.specs.declared.identity.Identity.{Identity}
use Rattle.ident_core.specs.HeadFields.{HeadFields}
use Rattle.equation_core.specs.Rows.{sha256_row}
use Rattle.card_core.specs.declared.block.Block.{Block}
use Rattle.card_core.specs.Filter.{is_positive}
use Rattle.card_core.specs.PartFields.{PartFields}
use Rattle.card_core.specs.Consulting.{block_of, consulted}
use Rattle.part_text.specs.SealedFields.{SealedFields}
use Rattle.ident_core.specs.Sets.{has, has_key}
use Rattle.ident_core.proofs.Elements.{Among-in_filter, bool_same}
use Rattle.ident_core.proofs.Sets.{Among-from_has, bytes_same, bytes_refl}
use Rattle.ident_core.proofs.Canonical.{Contains-from_Among}
use Rattle.universe_core.specs.Formats.{dated}
use Rattle.universe_core.specs.History.{Release}
use Rattle.universe_core.specs.Groups.{members_of, group_of, groups}
use Rattle.history_core.specs.Bases.{base_with, base_at}
use Rattle.history_core.specs.Showing.{PartView, Shows}
use Rattle.builder_core.specs.declared.format.Format.{Format}
use Rattle.builder_core.specs.Building.{IsGroupBlock, AreGroupBlocks}
use Rattle.builder_core.proofs.GroupBlocks.{group_exact as exact_in}
use Rattle.publication_core.specs.Formats.{blocks_in}
use Rattle.publication_core.specs.Histories.{Published, IsPartOf, IsBasePart, release_of}

-- what a part is to its reader
abbrev pub shown_by : PartFields → PartView
shown_by part = record { ranges = part.head.ranges; consulted = λ x. consulted sha256_row x part.blocks }

module _ (format : Format) where
  -- ---- the block of an issuer

  -- where the issuer is enrolled, the block of its group, and else none
  abbrev IsFound : Release → List ℕ → Bool → Option Block → Type 0
  IsFound r k true o = (b : Block) × (o ≡ Some b) × IsGroupBlock format sha256_row (group_of r k) b
  IsFound r k false o = o ≡ None

  bytes_swap : (a b : List ℕ) → bytes_eq a b ≡ bytes_eq b a
  bytes_swap a b =
      bool_same (bytes_eq a b) (bytes_eq b a) (λ h. subst (λ z. bytes_eq b z ≡ true) (sym (bytes_same a b h)) (bytes_refl b))
      (λ h. subst (λ z. bytes_eq a z ≡ true) (sym (bytes_same b a h)) (bytes_refl a))

  found_next : (r : Release) (k h : List ℕ) (b : Block) (same enrolled : Bool) (rest : Option Block) → bytes_eq k h ≡ same → IsGroupBlock format sha256_row (group_of r h) b → IsFound r k enrolled rest
      → IsFound r k (same || enrolled) (cond same (Some b) rest)
  found_next r k h b true enrolled rest e is next = (b, refl, subst (λ z. IsGroupBlock format sha256_row (group_of r z) b) (sym (bytes_same k h e)) is)
  found_next r k h b false enrolled rest e is next = next

  find_block : (r : Release) (k : List ℕ) (hs : List (List ℕ)) (blocks : List Block) → AreGroupBlocks format sha256_row (map (group_of r) hs) blocks → IsFound r k (has_key hs k) (block_of k blocks)
  find_block r k [] [] are = refl
  find_block r k [] (b ∷ blocks) are = absurd are
  find_block r k (h ∷ hs) [] are = absurd are
  find_block r k (h ∷ hs) (b ∷ blocks) are =
      let same : bytes_eq b.issuer k ≡ bytes_eq k h = ap (λ z. bytes_eq z k) are.0.0 ∙ bytes_swap h k in
      subst (λ c. IsFound r k (has_key (h ∷ hs) k) (cond c (Some b) (block_of k blocks))) (sym same)
      (found_next r k h b (bytes_eq k h) (has_key hs k) (block_of k blocks) refl are.0 (find_block r k hs blocks are.1))

  -- ---- the block of a group

  -- a block answers for each member of its universe with the flag beside it
  member_exact : (k : List ℕ) (universe : List Identity) (flag : Identity → Bool) (b : Block) (x : Identity)
      → IsGroupBlock format sha256_row (record { issuer = k; universe = universe; revoked = map flag universe }) b
      → Contains universe x → is_positive sha256_row x b.body ≡ flag x
  member_exact k universe flag b x is at =
      let same : get_or universe at.0 x ≡ x = at.2 in
      let test : is_positive sha256_row (get_or universe at.0 x) b.body ≡ get_or (map flag universe) at.0 false
      = exact_in format sha256_row (record { issuer = k; universe = universe; revoked = map flag universe }) b (length-map universe flag) is at.0 x at.1 in
      ap (λ y. is_positive sha256_row y b.body) (sym same) ∙ test ∙ get_or-map flag universe at.0 x false at.1 ∙ ap flag same

  -- the block of an accepted identity's issuer says whether it is revoked
  group_exact : (r : Release) (x : Identity) (b : Block) → IsGroupBlock format sha256_row (group_of r x.issuer) b → has r.accepted x ≡ true → is_positive sha256_row x b.body ≡ has r.revoked x
  group_exact r x b is accepted =
      let members : List Identity = members_of x.issuer r.accepted in
      member_exact x.issuer members (has r.revoked) b x is
      (Contains-from_Among members x (Among-in_filter (λ (y : Identity). bytes_eq x.issuer y.issuer) r.accepted x (Among-from_has r.accepted x accepted) (bytes_refl x.issuer)))

  -- ---- the part

  not_found : (r : Release) (x : Identity) (enrolled : Bool) (o : Option Block) → enrolled ≡ false → IsFound r x.issuer enrolled o
      → option_map (λ (b : Block). is_positive sha256_row x b.body) o ≡ None
  not_found r x true o e found = absurd cc
  not_found r x false o e found = ap (option_map (λ (b : Block). is_positive sha256_row x b.body)) found

  says : (r : Release) (x : Identity) (enrolled : Bool) (o : Option Block) → enrolled ≡ true → IsFound r x.issuer enrolled o
      → (c : Bool) × (option_map (λ (b : Block). is_positive sha256_row x b.body) o ≡ Some c) × (has r.accepted x ≡ true → c ≡ has r.revoked x)
  says r x true o e found =
      (is_positive sha256_row x found.0.body, ap (option_map (λ (b : Block). is_positive sha256_row x b.body)) found.1, λ accepted. group_exact r x found.0 found.2 accepted)
  says r x false o e found = absurd cc

  blocks_show : (part : PartFields) (r : Release) → part.head.ranges ≡ r.ranges → AreGroupBlocks format sha256_row (map (group_of r) r.issuers) part.blocks → Shows (shown_by part) r
  blocks_show part r ranges are = record {
    ranges = ranges;
    other = λ x h. not_found r x (has_key r.issuers x.issuer) (block_of x.issuer part.blocks) h (find_block r x.issuer r.issuers part.blocks are);
    some = λ x h. says r x (has_key r.issuers x.issuer) (block_of x.issuer part.blocks) h (find_block r x.issuer r.issuers part.blocks are);
  }

pub part_shows : (rs : List Release) (p : Published) → IsPartOf rs p.job p.sealed → Shows (shown_by p.sealed.part) (release_of rs p)
unfolding groups
part_shows rs p is = blocks_show (blocks_in p.job.format) p.sealed.part (release_of rs p) (ap (λ (head : HeadFields). head.ranges) is.head_is) is.blocks

-- the part of a base shows the base
pub base_shows : (moment : ℕ) (rs : List Release) (s : SealedFields) → IsBasePart moment rs s → Shows (shown_by s.part) (base_at moment rs s.trailer)
unfolding groups base_with
base_shows moment rs s is = blocks_show (blocks_in dated) s.part (base_at moment rs s.trailer) (ap (λ (head : HeadFields). head.ranges) is.head_is) is.blocks
