-- What building asks of each group, and the faults of leaves.
use Rattle.std.proofs.Common.{◌≡◌, ◌<◌, ◌≤◌, ℕ, zero, suc, List, length, map, get_or, Result, Ok, Err, MatchResult, refl, sym, ap, subst, arith, All}
use Rattle.std.proofs.lemmas.List.{length-map, get_or-map}
use Rattle.std.proofs.lemmas.List.Sums.{get_or-le-sum_by}
use Rattle.equation_core.specs.Rows.{Rows}
use Rattle.stage_core.specs.declared.fault.BlockFault.{BlockFault}
use Rattle.stage_core.specs.declared.fault.BlockFault.TheVariants as block
use Rattle.stage_core.specs.Built.{BuildsLeaf}
use Rattle.universe_core.specs.declared.admitted.Group.{Group}
use Rattle.universe_core.specs.Groups.{GroupFields, group_fields, IsGroup}
use Rattle.builder_core.specs.declared.built.Built.{Built}
use Rattle.builder_core.specs.declared.fault.BuildFault.{BuildFault}
use Rattle.builder_core.specs.Building.{fault_of, identities_in}
use Rattle.builder_core.specs.Cutting.{IsReady}
use Rattle.builder_core.specs.Tasks.{TaskFields, revoked_of, others_of}
use Rattle.builder_core.specs.Outcomes.{BuildsTask, IsOutcome}

-- what building asks of each group
pub groups_ready : (groups : List Group) → All IsGroup (map group_fields groups) → identities_in (map group_fields groups) ≤ 4194304 → All IsReady groups
groups_ready groups all few i d lt =
    let g : Group = get_or groups i d in
    let fields : List GroupFields = map group_fields groups in
    let within : i < length fields = omega (arith, lt, length-map groups group_fields) in
    let at : get_or fields i (group_fields g) ≡ group_fields g = get_or-map group_fields groups i d (group_fields g) lt in
    let facts : IsGroup (group_fields g) = subst IsGroup at (all i (group_fields g) within) in
    let le : length (get_or fields i (group_fields g)).universe ≤ identities_in fields = get_or-le-sum_by (λ (x : GroupFields). length x.universe) fields i (group_fields g) within in
    let same : length (get_or fields i (group_fields g)).universe ≡ length g.universe.items = ap (λ (x : GroupFields). length x.universe) at in
    record { beside = facts.beside; few = omega (arith, le, few, same) }

-- a leaf, or its fault with its issuer, is its outcome
pub outcome_is : (rows : Rows) (t : TaskFields) (built : Result Built BlockFault) (outcome : Result Built BuildFault) → BuildsTask rows t built
    → MatchResult built (λ leaf. outcome ≡ Ok leaf) (λ fault. outcome ≡ Err (fault_of t.group.issuer fault)) → IsOutcome rows t outcome
outcome_is rows t (Ok leaf) outcome h e = subst (IsOutcome rows t) (sym e) h
outcome_is rows t (Err block.NoMemory) outcome h e = subst (IsOutcome rows t) (sym e) tt
outcome_is rows t (Err (block.SeedsExhausted stage)) outcome h e = subst (IsOutcome rows t) (sym e) (refl, h)

fault_of_shard : (rows : Rows) (g : GroupFields) (shift shard : ℕ) (fault : BlockFault) → (shift ≡ 0 → ⊥)
    → BuildsLeaf rows (revoked_of (record { group = g; shift = shift; shard = shard })) (others_of (record { group = g; shift = shift; shard = shard })) (Err fault)
    → BuildsTask rows (record { group = g; shift = shift; shard = shard }) (Err fault)
fault_of_shard rows g shift shard block.NoMemory some h = tt
fault_of_shard rows g zero shard (block.SeedsExhausted stage) some h = absurd (some refl)
fault_of_shard rows g (suc s) shard (block.SeedsExhausted stage) some h = h

-- the fault of a shard's leaf
pub leaf_fault : (rows : Rows) (t : TaskFields) (fault : BlockFault) → (t.shift ≡ 0 → ⊥) → BuildsLeaf rows (revoked_of t) (others_of t) (Err fault) → BuildsTask rows t (Err fault)
leaf_fault rows t fault some h = fault_of_shard rows t.group t.shift t.shard fault some h
