-- Blocks of groups: which part they make, and that they are unique.
use Rattle.std.proofs.Common.{◌≡◌, ◌≤◌, ℕ, suc, List, [], ◌∷◌, length, map, Some, refl, sym, ap, ◌∙◌, subst, arith}
use Rattle.std.specs.declared.cmp.Ordering.TheVariants.{Less}
use Rattle.std.specs.Ordering.{is_lt}
use Rattle.std.specs.List.{AllByRecursion}
use Rattle.std.specs.List.Sorted.{IsStrictlySortedBy}
use Rattle.std.proofs.lemmas.List.{length-map}
use Rattle.ident_core.specs.HeadFields.{HeadFields}
use Rattle.ident_core.specs.Order.{octets_cmp}
use Rattle.equation_core.specs.Rows.{Rows}
use Rattle.card_core.specs.declared.block.Block.{Block}
use Rattle.card_core.specs.PartFields.{IsPart, AreBlocks}
use Rattle.card_core.proofs.Ascending.{AreLinked}
use Rattle.card_core.proofs.FilterLaws.{block_exact, block_unique}
use Rattle.universe_core.specs.declared.admitted.Group.{Group}
use Rattle.universe_core.specs.Groups.{GroupFields, group_fields}
use Rattle.builder_core.specs.declared.format.Format.{Format}
use Rattle.builder_core.specs.Building.{shift_in, AreGroupBlocks, issuers_of}
use Rattle.builder_core.specs.Laws.{GroupBlockIsExact, GroupBlocksAreUnique}

module _ (format : Format) (rows : Rows) where
  pub blocks_length : (gs : List GroupFields) (bs : List Block) → AreGroupBlocks format rows gs bs → length bs ≡ length gs
  blocks_length [] [] a = refl
  blocks_length [] (x ∷ bs) a = absurd a
  blocks_length (g ∷ gs) [] a = absurd a
  blocks_length (g ∷ gs) (x ∷ bs) a = ap suc (blocks_length gs bs a.1)

  ascend_from : (p : List ℕ) (gs : List GroupFields) (bs : List Block) → AreGroupBlocks format rows gs bs → AllByRecursion (λ k. octets_cmp p k ≡ Less) (issuers_of gs)
      → IsStrictlySortedBy octets_cmp (issuers_of gs) → AreLinked (Some p) bs
  unfolding IsStrictlySortedBy
  ascend_from p [] [] a h s = tt
  ascend_from p [] (x ∷ bs) a h s = absurd a
  ascend_from p (g ∷ gs) [] a h s = absurd a
  ascend_from p (g ∷ gs) (x ∷ bs) a h s =
      let below = subst (λ (k : List ℕ). AllByRecursion (λ l. octets_cmp k l ≡ Less) (issuers_of gs)) (sym a.0.0) s.0 in
      (ap is_lt (ap (octets_cmp p) a.0.0 ∙ h.0), ascend_from x.issuer gs bs a.1 below s.1)

  -- blocks ascend as their groups do
  pub blocks_ascend : (gs : List GroupFields) (bs : List Block) → AreGroupBlocks format rows gs bs → IsStrictlySortedBy octets_cmp (issuers_of gs) → AreBlocks bs
  unfolding IsStrictlySortedBy
  blocks_ascend [] [] a s = tt
  blocks_ascend [] (x ∷ bs) a s = absurd a
  blocks_ascend (g ∷ gs) [] a s = absurd a
  blocks_ascend (g ∷ gs) (x ∷ bs) a s =
      let below = subst (λ (k : List ℕ). AllByRecursion (λ l. octets_cmp k l ≡ Less) (issuers_of gs)) (sym a.0.0) s.0 in (refl, ascend_from x.issuer gs bs a.1 below s.1)

pub blocks_unique : GroupBlocksAreUnique
blocks_unique format rows [] [] [] p q = refl
blocks_unique format rows [] [] (y ∷ b) p q = absurd q
blocks_unique format rows [] (x ∷ a) b p q = absurd p
blocks_unique format rows (g ∷ gs) [] b p q = absurd p
blocks_unique format rows (g ∷ gs) (x ∷ a) [] p q = absurd q
blocks_unique format rows (g ∷ gs) (x ∷ a) (y ∷ b) p q = λ i. block_unique rows (shift_in format g) g.issuer g.universe g.revoked x y p.0 q.0 i ∷ blocks_unique format rows gs a b p.1 q.1 i

pub group_exact : GroupBlockIsExact
group_exact format rows g block same h i x lt = block_exact rows (shift_in format g) g.issuer g.universe g.revoked block same h i x lt

-- what the part asks of its blocks
pub part_ready : (format : Format) (rows : Rows) (head : HeadFields) (groups : List Group) (blocks : List Block) → AreGroupBlocks format rows (map group_fields groups) blocks
    → length groups ≤ 65535 → IsStrictlySortedBy octets_cmp (issuers_of (map group_fields groups)) → IsPart (record { head = head; blocks = blocks })
part_ready format rows head groups blocks h few up = record {
  few = omega (arith, blocks_length format rows (map group_fields groups) blocks h, length-map groups group_fields, few);
  ascending = blocks_ascend format rows (map group_fields groups) blocks h up;
}
