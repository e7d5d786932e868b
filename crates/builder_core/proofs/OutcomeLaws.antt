-- What the outcomes of leaves say of their groups.
use Rattle.std.proofs.Common.{◌≡◌, ◌+◌, ◌^◌, List, [], ◌∷◌, ◌++◌, length, map, Result, Ok, Err, Bool, true, false, nat_eq, refl, subst}
use Rattle.std.proofs.lemmas.Bool.{eqb-true, eqb-false}
use Rattle.equation_core.specs.Rows.{Rows}
use Rattle.card_core.specs.declared.block.Block.{Block}
use Rattle.card_core.specs.declared.leaf.Leaf.{Leaf}
use Rattle.universe_core.specs.Groups.{GroupFields}
use Rattle.builder_core.specs.declared.format.Format.{Format}
use Rattle.builder_core.specs.declared.fault.BuildFault.{BuildFault}
use Rattle.builder_core.specs.declared.built.ShardLeaf.{ShardLeaf}
use Rattle.builder_core.specs.declared.built.Built.{Built}
use Rattle.builder_core.specs.declared.built.Built.TheVariants as builts
use Rattle.builder_core.specs.Building.{AreGroupBlocks, IsBuildFault}
use Rattle.builder_core.specs.Laws.{OutcomesGiveBlocks}
use Rattle.builder_core.proofs.Assembly.{IsMade, none_made, block_made, leaf_made, last_made, fault_found, all_made}

module _ (format : Format) (rows : Rows) (groups : List GroupFields) where
  -- a leaf leaves as much to do, with other blocks and leaves
  leaf_behind : (blocks : List Block) (leaves : List Leaf) (s : ShardLeaf) (rest : List (Result Built BuildFault)) (last : Bool) → nat_eq (length leaves + 1) (2 ^ s.shift) ≡ last
      → IsMade format rows groups blocks leaves (Ok (builts.Leaf s) ∷ rest) → (bs : List Block) × (ls : List Leaf) × IsMade format rows groups bs ls rest
  leaf_behind blocks leaves s rest true e m = (_, _, last_made format rows groups blocks leaves rest s m (eqb-true _ _ e))
  leaf_behind blocks leaves s rest false e m = (_, _, leaf_made format rows groups blocks leaves rest s m (eqb-false _ _ e))

  behind : (blocks : List Block) (leaves : List Leaf) (b : Built) (rest : List (Result Built BuildFault)) → IsMade format rows groups blocks leaves (Ok b ∷ rest)
      → (bs : List Block) × (ls : List Leaf) × IsMade format rows groups bs ls rest
  behind blocks leaves (builts.Block b) rest m = (_, _, block_made format rows groups blocks leaves rest b m)
  behind blocks leaves (builts.Leaf s) rest m = leaf_behind blocks leaves s rest _ refl m

  all_built : (blocks : List Block) (leaves : List Leaf) (built : List Built) → IsMade format rows groups blocks leaves (map Ok built)
      → (bs : List Block) × AreGroupBlocks format rows groups bs
  all_built blocks leaves [] m = (blocks, all_made format rows groups blocks leaves m)
  all_built blocks leaves (b ∷ built) m = let n = behind blocks leaves b (map Ok built) m in all_built n.0 n.1 built n.2

  one_fault : (blocks : List Block) (leaves : List Leaf) (before : List Built) (after : List (Result Built BuildFault)) (fault : BuildFault)
      → IsMade format rows groups blocks leaves (map Ok before ++ (Err fault ∷ after)) → IsBuildFault format rows groups fault
  one_fault blocks leaves [] after fault m = fault_found format rows groups blocks leaves after fault m
  one_fault blocks leaves (b ∷ before) after fault m =
      let n = behind blocks leaves b (map Ok before ++ (Err fault ∷ after)) m in one_fault n.0 n.1 before after fault n.2

pub outcomes_give : OutcomesGiveBlocks
outcomes_give format rows groups outcomes h = (
  λ built e. all_built format rows groups [] [] built (subst (IsMade format rows groups [] []) e (none_made format rows groups outcomes h)),
  λ issuer stage f. one_fault format rows groups [] [] f.before f.after _ (subst (IsMade format rows groups [] []) f.whole (none_made format rows groups outcomes h)),
)
