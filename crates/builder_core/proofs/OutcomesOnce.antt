-- A leaf has one outcome where memory suffices.
use Rattle.std.proofs.Common.{◌≡◌, ◌≢◌, ◌≤◌, ℕ, zero, suc, length, Result, Ok, Err, map-id, refl, sym, ap, ◌∙◌, inl, inr, arith}
use Rattle.std.proofs.Props.{props}
use Rattle.std.proofs.lemmas.Option.{slice_get_cases}
use mathlib.Core.HLevel.{is_prop→PathP}
use Rattle.equation_core.specs.declared.shards.TheConstants.{MAX_SHIFT}
use Rattle.equation_core.specs.Rows.{Rows}
use Rattle.card_core.proofs.LeafLaws.{leaf_unique, refused_no_leaf, refused_once}
use Rattle.card_core.proofs.FilterLaws.{block_unique, refused_no_block}
use Rattle.universe_core.specs.Groups.{GroupFields}
use Rattle.claim_core.proofs.Places.{in_place_unique}
use Rattle.builder_core.specs.declared.fault.BuildFault.{BuildFault}
use Rattle.builder_core.specs.declared.fault.BuildFault.TheVariants.{SeedsExhausted, NoMemory}
use Rattle.builder_core.specs.declared.built.ShardLeaf.{ShardLeaf}
use Rattle.builder_core.specs.declared.built.Built.{Built}
use Rattle.builder_core.specs.declared.built.Built.TheVariants as builts
use Rattle.builder_core.specs.Tasks.{TaskFields, revoked_of, others_of}
use Rattle.builder_core.specs.Outcomes.{IsBuilt, IsTaskRefused, IsOutcome, IsOutcomeAt}
use Rattle.builder_core.specs.Laws.{OutcomesAreUnique}

leaf_same : (s t : ShardLeaf) → s.issuer ≡ t.issuer → s.shift ≡ t.shift → s.leaf ≡ t.leaf → s ≡ t
leaf_same s t issuers shifts leaves = λ i. record {
  issuer = issuers i;
  shift = shifts i;
  leaf = leaves i;
  some = is_prop→PathP (λ j. 1 ≤ shifts j) (λ j. hlevel props) s.some t.some i;
  few = is_prop→PathP (λ j. shifts j ≤ MAX_SHIFT) (λ j. hlevel props) s.few t.few i;
}

module _ (rows : Rows) (t : TaskFields) where
  built_once : (x y : Built) → IsBuilt rows t x → IsBuilt rows t y → x ≡ y
  built_once (builts.Block x) (builts.Block y) a b = ap builts.Block (block_unique rows 0 t.group.issuer t.group.universe t.group.revoked x y a.1 b.1)
  built_once (builts.Block x) (builts.Leaf y) a b = absurd (omega (arith, a.0, b.0))
  built_once (builts.Leaf x) (builts.Block y) a b = absurd (omega (arith, a.0, b.0))
  built_once (builts.Leaf x) (builts.Leaf y) a b =
      ap builts.Leaf (leaf_same x y (a.1 ∙ sym b.1) (a.2 ∙ sym b.2) (leaf_unique rows (revoked_of t) (others_of t) x.leaf y.leaf a.3 b.3))

module _ (rows : Rows) (g : GroupFields) (shard : ℕ) where
  refused_not_built : (shift stage : ℕ) (x : Built) → IsTaskRefused rows g shift shard stage → IsBuilt rows (record { group = g; shift = shift; shard = shard }) x → ⊥
  refused_not_built zero stage (builts.Block x) r h = refused_no_block rows 0 g.issuer g.universe g.revoked stage x r h.1
  refused_not_built zero stage (builts.Leaf x) r h = omega (arith, h.0)
  refused_not_built (suc s) stage (builts.Block x) r h = omega (arith, h.0)
  refused_not_built (suc s) stage (builts.Leaf x) r h = refused_no_leaf rows _ _ stage x.leaf r h.3

  stage_once : (shift stage other : ℕ) → IsTaskRefused rows g shift shard stage → IsTaskRefused rows g shift shard other → stage ≡ other
  stage_once zero stage other r q = refused_once rows _ _ stage other r q
  stage_once (suc s) stage other r q = refused_once rows _ _ stage other r q

outcome_once : (rows : Rows) (t : TaskFields) (x y : Result Built BuildFault) → x ≢ Err NoMemory → y ≢ Err NoMemory → IsOutcome rows t x → IsOutcome rows t y → x ≡ y
outcome_once rows t (Err NoMemory) y m n a b = absurd (m refl)
outcome_once rows t (Ok x) (Err NoMemory) m n a b = absurd (n refl)
outcome_once rows t (Ok x) (Ok y) m n a b = ap Ok (built_once rows t x y a b)
outcome_once rows t (Ok x) (Err (SeedsExhausted k s)) m n a b = absurd (refused_not_built rows t.group t.shard t.shift s x b.1 a)
outcome_once rows t (Err (SeedsExhausted k s)) (Err NoMemory) m n a b = absurd (n refl)
outcome_once rows t (Err (SeedsExhausted k s)) (Ok y) m n a b = absurd (refused_not_built rows t.group t.shard t.shift s y a.1 b)
outcome_once rows t (Err (SeedsExhausted k s)) (Err (SeedsExhausted l u)) m n a b =
    let issuers : k ≡ l = sym a.0 ∙ b.0 in
    let stages : s ≡ u = stage_once rows t.group t.shard t.shift s u a.1 b.1 in
    λ i. Err (SeedsExhausted (issuers i) (stages i))

pub outcomes_once : OutcomesAreUnique
outcomes_once rows tasks xs ys m n a b =
    sym (map-id xs)
    ∙ in_place_unique (λ x. x) (IsOutcomeAt rows tasks) (length tasks) (λ place x y lt h k.
    elim (slice_get_cases tasks place).1 [
      | inl t ↦ outcome_once rows t.0 x y h.0 k.0 (h.1 t.0 t.2) (k.1 t.0 t.2)
      | inr past ↦ absurd (omega (arith, lt, past.0))
    ]) xs ys m n a b
    ∙ map-id ys
