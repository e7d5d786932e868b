-- Blocks that are made of the outcomes of leaves, one after the other.
use Rattle.std.specs.Prelude.{ℕ, zero, suc, List, [], ◌∷◌, ◌++◌, length, map, not, Result, Ok, Err, true, false}
use Rattle.std.proofs.Common.{◌≡◌, ◌<◌, ◌≤◌, ◌+◌, ◌*◌, ◌%◌, ◌^◌, ◌⊎◌, inl, inr, drop, get_or, nat_eq, refl, sym, ap, ◌∙◌, subst, arith}
use Rattle.std.specs.declared.alloc.Global.{Global}
use Rattle.std.specs.declared.vec.Vec.{Vec}
use Rattle.std.proofs.lemmas.Bool.Decides.{eqb_tells}
use Rattle.std.proofs.lemmas.Nat.{pow_pos, shl_whole}
use Rattle.std.proofs.lemmas.List.{append-nil, append_assoc, get_or_append_left, get_or_push, length-append, nil_from_length}
use Rattle.equation_core.specs.Rows.{Rows}
use Rattle.card_core.specs.declared.block.Block.{Block}
use Rattle.card_core.specs.declared.block.Body.TheVariants as bodies
use Rattle.card_core.specs.declared.leaf.Leaf.{Leaf}
use Rattle.card_core.specs.declared.leaf.Leaf.TheVariants as leafs
use Rattle.card_core.specs.Leaf.{flagged, IsLeaf}
use Rattle.card_core.specs.Filter.{in_shard, IsBlock, IsBlockRefused}
use Rattle.universe_core.specs.Groups.{GroupFields}
use Rattle.builder_core.specs.declared.format.Format.{Format}
use Rattle.builder_core.specs.declared.fault.BuildFault.{BuildFault}
use Rattle.builder_core.specs.declared.fault.BuildFault.TheVariants.{SeedsExhausted, NoMemory}
use Rattle.builder_core.specs.declared.built.ShardLeaf.{ShardLeaf}
use Rattle.builder_core.specs.declared.built.Built.{Built}
use Rattle.builder_core.specs.declared.built.Built.TheVariants as builts
use Rattle.builder_core.specs.Building.{shift_in, IsGroupBlock, AreGroupBlocks, IsBuildFault}
use Rattle.builder_core.specs.Tasks.{TaskFields, tasks_in}
use Rattle.builder_core.specs.Outcomes.{IsTaskRefused, AreOutcomes, IsAssembled}
use Rattle.builder_core.proofs.TaskLists.{task_at, next_task, past_tasks}

-- the leaves of a group's first shards
abbrev AreFirst : Rows → ℕ → GroupFields → List Leaf → Type 0
AreFirst rows shift g leaves = (j : ℕ) (d : Leaf) → j < length leaves
    → IsLeaf rows (in_shard shift j (flagged g.universe g.revoked)) (in_shard shift j (flagged g.universe (map not g.revoked))) (get_or leaves j d)

-- the leaves of a group so far, of which more are to come
abbrev IsOpen : Format → Rows → List GroupFields → List Leaf → Type 0
IsOpen format rows [] leaves = leaves ≡ []
IsOpen format rows (g ∷ groups) leaves = (length leaves < 2 ^ shift_in format g) × AreFirst rows (shift_in format g) g leaves

-- the blocks and the leaves that are made so far, and the outcomes that are left
pub record IsMade (format : Format) (rows : Rows) (groups : List GroupFields) (blocks : List Block) (leaves : List Leaf) (rest : List (Result Built BuildFault)) : Type 0 where
  pub done : List GroupFields
  pub later : List GroupFields
  pub whole : groups ≡ done ++ later
  pub built : AreGroupBlocks format rows done blocks
  pub opened : IsOpen format rows later leaves
  pub ahead : AreOutcomes rows (drop (length leaves) (tasks_in format later)) rest

no_leaves : (rows : Rows) (shift : ℕ) (g : GroupFields) → AreFirst rows shift g []
no_leaves rows shift g j d lt = absurd (omega (arith, lt))

module _ (rows : Rows) (shift : ℕ) (g : GroupFields) (leaves : List Leaf) (leaf : Leaf) where
  abbrev IsOf : ℕ → Leaf → Type 0
  IsOf j l = IsLeaf rows (in_shard shift j (flagged g.universe g.revoked)) (in_shard shift j (flagged g.universe (map not g.revoked))) l

  first_at : (j : ℕ) (d : Leaf) → AreFirst rows shift g leaves → IsOf (length leaves) leaf → j < length leaves + 1 → (j ≡ length leaves) ⊎ (j ≡ length leaves → ⊥)
      → IsOf j (get_or (leaves ++ (leaf ∷ [])) j d)
  first_at j d h one lt (inl same) = subst (IsOf j) (sym (get_or_push leaves leaf d j (sym same))) (subst (λ (i : ℕ). IsOf i leaf) (sym same) one)
  first_at j d h one lt (inr other) =
      let below : j < length leaves = omega (arith, lt, other) in
      subst (IsOf j) (sym (get_or_append_left leaves (leaf ∷ []) d j below)) (h j d below)

  told : (j n : ℕ) → ((nat_eq j n ≡ true) × (j ≡ n)) ⊎ ((nat_eq j n ≡ false) × (j ≡ n → ⊥)) → (j ≡ n) ⊎ (j ≡ n → ⊥)
  told j n (inl h) = inl h.1
  told j n (inr h) = inr h.1

  -- one leaf more
  first_more : AreFirst rows shift g leaves → IsOf (length leaves) leaf → AreFirst rows shift g (leaves ++ (leaf ∷ []))
  first_more h one j d lt =
      first_at j d h one (omega (arith, lt, length-append leaves (leaf ∷ []))) (told j (length leaves) (eqb_tells j (length leaves)))

blocks_joined : (format : Format) (rows : Rows) (gs hs : List GroupFields) (bs cs : List Block) → AreGroupBlocks format rows gs bs → AreGroupBlocks format rows hs cs
    → AreGroupBlocks format rows (gs ++ hs) (bs ++ cs)
blocks_joined format rows [] hs [] cs a b = b
blocks_joined format rows [] hs (x ∷ bs) cs a b = absurd a
blocks_joined format rows (g ∷ gs) hs [] cs a b = absurd a
blocks_joined format rows (g ∷ gs) hs (x ∷ bs) cs a b = (a.0, blocks_joined format rows gs hs bs cs a.1 b)

-- a leaf that is refused behind others refuses its group
leaf_refuses : (rows : Rows) (shift : ℕ) (g : GroupFields) (leaves : List Leaf) (stage : ℕ) → length leaves < 2 ^ shift → AreFirst rows shift g leaves
    → IsTaskRefused rows g shift (length leaves) stage → IsBlockRefused rows shift g.universe g.revoked stage
leaf_refuses rows zero g leaves stage lt h r = r
leaf_refuses rows (suc s) g leaves stage lt h r = record {
  place = length leaves;
  below = lt;
  before = λ j less. (get_or leaves j leafs.Clean, h j leafs.Clean less);
  refused = r;
}

module _ (format : Format) (rows : Rows) where
  open_none : (later : List GroupFields) → IsOpen format rows later []
  open_none [] = refl
  open_none (g ∷ later) = (pow_pos (shift_in format g), no_leaves rows (shift_in format g) g)

  pub none_made : (groups : List GroupFields) (rest : List (Result Built BuildFault)) → AreOutcomes rows (tasks_in format groups) rest → IsMade format rows groups [] [] rest
  none_made groups rest h = record { done = []; later = groups; whole = refl; built = tt; opened = open_none groups; ahead = h }

  -- the next outcome is that of the group's next leaf
  next_outcome : (g : GroupFields) (later : List GroupFields) (j : ℕ) (o : Result Built BuildFault) (rest : List (Result Built BuildFault)) → j < 2 ^ shift_in format g
      → AreOutcomes rows (drop j (tasks_in format (g ∷ later))) (o ∷ rest) → AreOutcomes rows (task_at format g j ∷ drop (j + 1) (tasks_in format (g ∷ later))) (o ∷ rest)
  next_outcome g later j o rest lt h = subst (λ (ts : List TaskFields). AreOutcomes rows ts (o ∷ rest)) (next_task format g later j lt) h

  module _ (groups done : List GroupFields) (blocks : List Block) (leaves : List Leaf) (rest : List (Result Built BuildFault)) where
    -- a block more, of the next group
    pushed : (g : GroupFields) (later : List GroupFields) (b : Block) → groups ≡ done ++ (g ∷ later) → AreGroupBlocks format rows done blocks → IsGroupBlock format rows g b
        → AreOutcomes rows (tasks_in format later) rest → IsMade format rows groups (blocks ++ (b ∷ [])) [] rest
    pushed g later b whole built is ahead = record {
      done = done ++ (g ∷ []);
      later = later;
      whole = whole ∙ sym (append_assoc done (g ∷ []) later);
      built = blocks_joined format rows done (g ∷ []) blocks (b ∷ []) built (is, tt);
      opened = open_none later;
      ahead = ahead;
    }

    block_in : (later : List GroupFields) (b : Block) → groups ≡ done ++ later → AreGroupBlocks format rows done blocks → IsOpen format rows later leaves
        → AreOutcomes rows (drop (length leaves) (tasks_in format later)) (Ok (builts.Block b) ∷ rest) → IsMade format rows groups (blocks ++ (b ∷ [])) leaves rest
    block_in [] b whole built opened ahead = absurd (subst (λ (n : ℕ). AreOutcomes rows (drop n []) (Ok (builts.Block b) ∷ rest)) (ap length opened) ahead)
    block_in (g ∷ later) b whole built opened ahead =
        let h = next_outcome g later (length leaves) (Ok (builts.Block b)) rest opened.0 ahead in
        let one : 2 ^ shift_in format g ≡ 1 = ap (λ (n : ℕ). 2 ^ n) h.0.0 in
        let none : leaves ≡ [] = nil_from_length leaves (omega (arith, one, opened.0)) in
        let is : IsGroupBlock format rows g b = subst (λ (n : ℕ). IsBlock rows n g.issuer g.universe g.revoked b) (sym h.0.0) h.0.1 in
        let past = past_tasks format g later (length leaves + 1) (omega (arith, one, opened.0)) in
        let left : AreOutcomes rows (tasks_in format later) rest = subst (λ (ts : List TaskFields). AreOutcomes rows ts rest) past h.1 in
        subst (λ (ls : List Leaf). IsMade format rows groups (blocks ++ (b ∷ [])) ls rest) (sym none) (pushed g later b whole built is left)

    -- the leaf of a shard which isn't the last
    leaf_in : (later : List GroupFields) (s : ShardLeaf) → groups ≡ done ++ later → AreGroupBlocks format rows done blocks → IsOpen format rows later leaves
        → AreOutcomes rows (drop (length leaves) (tasks_in format later)) (Ok (builts.Leaf s) ∷ rest) → (length leaves + 1 ≡ 2 ^ s.shift → ⊥)
        → IsMade format rows groups blocks (leaves ++ (s.leaf ∷ [])) rest
    leaf_in [] s whole built opened ahead more = absurd (subst (λ (n : ℕ). AreOutcomes rows (drop n []) (Ok (builts.Leaf s) ∷ rest)) (ap length opened) ahead)
    leaf_in (g ∷ later) s whole built opened ahead more =
        let h = next_outcome g later (length leaves) (Ok (builts.Leaf s)) rest opened.0 ahead in
        let long : length (leaves ++ (s.leaf ∷ [])) ≡ length leaves + 1 = length-append leaves (s.leaf ∷ []) in
        let not_all : length leaves + 1 ≡ 2 ^ shift_in format g → ⊥ = subst (λ (n : ℕ). length leaves + 1 ≡ 2 ^ n → ⊥) h.0.2 more in
        record {
          done = done;
          later = g ∷ later;
          whole = whole;
          built = built;
          opened = (omega (arith, long, not_all, opened.0), first_more rows (shift_in format g) g leaves s.leaf opened.1 h.0.3);
          ahead = subst (λ (n : ℕ). AreOutcomes rows (drop n (tasks_in format (g ∷ later))) rest) (sym long) h.1;
        }

    -- the leaf of the last shard
    last_in : (later : List GroupFields) (s : ShardLeaf) → groups ≡ done ++ later → AreGroupBlocks format rows done blocks → IsOpen format rows later leaves
        → AreOutcomes rows (drop (length leaves) (tasks_in format later)) (Ok (builts.Leaf s) ∷ rest) → length leaves + 1 ≡ 2 ^ s.shift
        → IsMade format rows groups (blocks ++ (record { issuer = s.issuer; body = bodies.Sharded (record { shift = s.shift; leaves = leaves ++ (s.leaf ∷ []) }) } ∷ [])) [] rest
    last_in [] s whole built opened ahead all = absurd (subst (λ (n : ℕ). AreOutcomes rows (drop n []) (Ok (builts.Leaf s) ∷ rest)) (ap length opened) ahead)
    last_in (g ∷ later) s whole built opened ahead all =
        let h = next_outcome g later (length leaves) (Ok (builts.Leaf s)) rest opened.0 ahead in
        let b : Block = record { issuer = s.issuer; body = bodies.Sharded (record { shift = s.shift; leaves = leaves ++ (s.leaf ∷ []) }) } in
        let full : length leaves + 1 ≡ 2 ^ shift_in format g = all ∙ ap (λ (n : ℕ). 2 ^ n) h.0.2 in
        let long : length (leaves ++ (s.leaf ∷ [])) ≡ 2 ^ shift_in format g = length-append leaves (s.leaf ∷ []) ∙ full in
        let first = first_more rows (shift_in format g) g leaves s.leaf opened.1 h.0.3 in
        let is : IsGroupBlock format rows g b = (h.0.1, (h.0.0, h.0.2, record { count = long; each = λ j d lt. first j d (omega (arith, long, lt)) })) in
        let left : AreOutcomes rows (tasks_in format later) rest = subst (λ (ts : List TaskFields). AreOutcomes rows ts rest) (past_tasks format g later (length leaves + 1) full) h.1 in
        pushed g later b whole built is left

    fault_in : (later : List GroupFields) (fault : BuildFault) → groups ≡ done ++ later → AreGroupBlocks format rows done blocks → IsOpen format rows later leaves
        → AreOutcomes rows (drop (length leaves) (tasks_in format later)) (Err fault ∷ rest) → IsBuildFault format rows groups fault
    fault_in later NoMemory whole built opened ahead = tt
    fault_in [] (SeedsExhausted issuer stage) whole built opened ahead =
        absurd (subst (λ (n : ℕ). AreOutcomes rows (drop n []) (Err (SeedsExhausted issuer stage) ∷ rest)) (ap length opened) ahead)
    fault_in (g ∷ later) (SeedsExhausted issuer stage) whole built opened ahead =
        let h = next_outcome g later (length leaves) (Err (SeedsExhausted issuer stage)) rest opened.0 ahead in
        record {
          before = done;
          group = g;
          after = later;
          whole = whole;
          blocks = blocks;
          built = built;
          named = h.0.0;
          refused = leaf_refuses rows (shift_in format g) g leaves stage opened.0 opened.1 h.0.1;
        }

    end_in : (later : List GroupFields) → groups ≡ done ++ later → AreGroupBlocks format rows done blocks → IsOpen format rows later leaves
        → AreOutcomes rows (drop (length leaves) (tasks_in format later)) [] → AreGroupBlocks format rows groups blocks
    end_in [] whole built opened ahead = subst (λ (gs : List GroupFields). AreGroupBlocks format rows gs blocks) (sym (whole ∙ append-nil done)) built
    end_in (g ∷ later) whole built opened ahead =
        absurd (subst (λ (ts : List TaskFields). AreOutcomes rows ts []) (next_task format g later (length leaves) opened.0) ahead)

  module _ (groups : List GroupFields) (blocks : List Block) (leaves : List Leaf) (rest : List (Result Built BuildFault)) where
    pub block_made : (b : Block) → IsMade format rows groups blocks leaves (Ok (builts.Block b) ∷ rest) → IsMade format rows groups (blocks ++ (b ∷ [])) leaves rest
    block_made b m = block_in groups m.done blocks leaves rest m.later b m.whole m.built m.opened m.ahead

    pub leaf_made : (s : ShardLeaf) → IsMade format rows groups blocks leaves (Ok (builts.Leaf s) ∷ rest) → (length leaves + 1 ≡ 2 ^ s.shift → ⊥)
        → IsMade format rows groups blocks (leaves ++ (s.leaf ∷ [])) rest
    leaf_made s m more = leaf_in groups m.done blocks leaves rest m.later s m.whole m.built m.opened m.ahead more

    pub last_made : (s : ShardLeaf) → IsMade format rows groups blocks leaves (Ok (builts.Leaf s) ∷ rest) → length leaves + 1 ≡ 2 ^ s.shift
        → IsMade format rows groups (blocks ++ (record { issuer = s.issuer; body = bodies.Sharded (record { shift = s.shift; leaves = leaves ++ (s.leaf ∷ []) }) } ∷ [])) [] rest
    last_made s m all = last_in groups m.done blocks leaves rest m.later s m.whole m.built m.opened m.ahead all

    pub fault_found : (fault : BuildFault) → IsMade format rows groups blocks leaves (Err fault ∷ rest) → IsBuildFault format rows groups fault
    fault_found fault m = fault_in groups m.done blocks leaves rest m.later fault m.whole m.built m.opened m.ahead

  pub all_made : (groups : List GroupFields) (blocks : List Block) (leaves : List Leaf) → IsMade format rows groups blocks leaves [] → AreGroupBlocks format rows groups blocks
  all_made groups blocks leaves m = end_in groups m.done blocks leaves [] m.later m.whole m.built m.opened m.ahead

-- what a loop has made of a part of these outcomes, whatever groups they are of
abbrev pub Makes : List (Result Built BuildFault) → List Block → List Leaf → List (Result Built BuildFault) → Type 0
Makes outcomes blocks leaves rest =
    (format : Format) (rows : Rows) (groups : List GroupFields) → AreOutcomes rows (tasks_in format groups) outcomes → IsMade format rows groups blocks leaves rest

module _ (outcomes : List (Result Built BuildFault)) (blocks : List Block) (leaves : List Leaf) (all rest : List (Result Built BuildFault)) (made : Makes outcomes blocks leaves all) where
  pub block_next : (b : Block) → all ≡ Ok (builts.Block b) ∷ rest → Makes outcomes (blocks ++ (b ∷ [])) leaves rest
  block_next b e format rows groups h = block_made format rows groups blocks leaves rest b (subst (IsMade format rows groups blocks leaves) e (made format rows groups h))

  pub leaf_next : (s : ShardLeaf) → all ≡ Ok (builts.Leaf s) ∷ rest → (length leaves + 1 ≡ 2 ^ s.shift → ⊥) → Makes outcomes blocks (leaves ++ (s.leaf ∷ [])) rest
  leaf_next s e more format rows groups h = leaf_made format rows groups blocks leaves rest s (subst (IsMade format rows groups blocks leaves) e (made format rows groups h)) more

  pub last_next : (s : ShardLeaf) → all ≡ Ok (builts.Leaf s) ∷ rest → length leaves + 1 ≡ 2 ^ s.shift
      → Makes outcomes (blocks ++ (record { issuer = s.issuer; body = bodies.Sharded (record { shift = s.shift; leaves = leaves ++ (s.leaf ∷ []) }) } ∷ [])) [] rest
  last_next s e full format rows groups h = last_made format rows groups blocks leaves rest s (subst (IsMade format rows groups blocks leaves) e (made format rows groups h)) full

  pub fault_next : (fault : BuildFault) → all ≡ Err fault ∷ rest → IsAssembled outcomes (Err fault)
  fault_next fault e format rows groups h = fault_found format rows groups blocks leaves rest fault (subst (IsMade format rows groups blocks leaves) e (made format rows groups h))

pub all_next : (outcomes : List (Result Built BuildFault)) (blocks : Vec Block Global) (leaves : List Leaf) (all : List (Result Built BuildFault)) → Makes outcomes blocks.items leaves all
    → all ≡ [] → IsAssembled outcomes (Ok blocks)
all_next outcomes blocks leaves all made e format rows groups h =
    all_made format rows groups blocks.items leaves (subst (IsMade format rows groups blocks.items leaves) e (made format rows groups h))

-- whether there is a leaf of each shard, as it is tested
module _ (count shift : ℕ) (leaves longer : List Leaf) (leaf : Leaf) (few : shift ≤ 8) (long : count ≡ length longer) (e : longer ≡ leaves ++ (leaf ∷ [])) where
  counted : count ≡ length leaves + 1
  counted = long ∙ ap length e ∙ length-append leaves (leaf ∷ [])

  whole_power : 1 * 2 ^ shift % 18446744073709551616 ≡ 2 ^ shift
  whole_power = omega (arith, shl_whole 1 1 shift 64 (omega arith) (omega (arith, few)))

  pub is_whole : count ≡ 1 * 2 ^ shift % 18446744073709551616 → length leaves + 1 ≡ 2 ^ shift
  is_whole h = sym counted ∙ h ∙ whole_power

  pub not_whole : (count ≡ 1 * 2 ^ shift % 18446744073709551616 → ⊥) → length leaves + 1 ≡ 2 ^ shift → ⊥
  not_whole h f = h (counted ∙ f ∙ sym whole_power)
