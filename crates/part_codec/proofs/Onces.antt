-- Facts that have at most one proof.
use Rattle.std.proofs.Common.{◌≡◌, ℕ, ◌+◌, ◌≤◌, List, [], ◌∷◌, ◌++◌, true, refl, subst}
use Rattle.std.proofs.Math.Logic.{∥∥₁_elim}
use Rattle.std.proofs.Props.{props}
use Rattle.octets_core.specs.Linked.{Linked, is_after}
use Rattle.part_codec.specs.ReadPlanes.{AreStageBytes}
use Rattle.ident_core.specs.HeadFields.{HeadFields, IsHead, zero_key}
use Rattle.ident_core.specs.declared.kind.Kind.TheVariants as kinds
use Rattle.ident_core.specs.declared.range.Range.{Range}
use Rattle.ident_core.specs.Coverage.{IsRangeAfter}
use Rattle.card_core.specs.declared.block.Block.{Block}
use Rattle.card_core.specs.PartFields.{PartFields, IsPart}
use Rattle.part_codec.specs.PileFields.{PileFields}
use Rattle.part_codec.specs.declared.fields.Kept.{Kept}
use Rattle.part_codec.specs.declared.fields.Open.{Open}
use Rattle.part_codec.specs.declared.fields.Open.TheVariants as opens
use Rattle.part_codec.specs.Collecting.{IsLast, CanCollect, pile_passed, IsPile, CanPut, CanPutPlanes}

planes-once : (starts planes : ℕ) (bytes : List ℕ) → IsProp (AreStageBytes starts planes bytes)
planes-once starts planes bytes = Prim.hlevel props

last-once : (k : Kept) (p : PileFields) → IsProp (IsLast k p)
last-once k p = Prim.hlevel props

exact-once : (starts planes done : ℕ) (bytes : List ℕ) (k : Kept) (p : PileFields) → IsProp (AreStageBytes starts planes bytes × (done ≡ 0) × IsLast k p)
exact-once starts planes done bytes k p = Prim.hlevel props

can-once : (o : Open) (k : Kept) (p : PileFields) → IsProp (CanCollect o k p)
can-once opens.ApproxPlane k p = planes-once _ _ _
can-once opens.ExactPlane k p = exact-once _ _ _ _ k p
can-once opens.BlockMode k p = last-once k p
can-once opens.ShardMode k p = last-once k p
can-once o k p = λ a b. refl

-- what can be put to a pile
pub pile-can : (p : PileFields) (o : Open) (k : Kept) (t : List ℕ) → ∥ CanPut IsPile p o k t ∥₁ → CanCollect o k (pile_passed o p t)
pile-can p o k t can = ∥∥₁_elim can (can-once o k (pile_passed o p t)) (λ r. subst (λ (q : PileFields). CanCollect o k (pile_passed o q t)) r.1 r.2)

pub pile-can-planes : (p : PileFields) (k : Kept) (n : ℕ) (t : List ℕ) → ∥ CanPutPlanes IsPile p k n t ∥₁ → AreStageBytes k.starts (p.done + n) (p.bytes ++ t)
pile-can-planes p k n t can = ∥∥₁_elim can (planes-once _ _ _) (λ r. subst (λ (q : PileFields). AreStageBytes k.starts (q.done + n) (q.bytes ++ t)) r.1 r.2)

linked-once : {S X : Type 0} (P : S → X → Type 0) (next : S → X → S) → ((s : S) (x : X) → IsProp (P s x)) → (s : S) (xs : List X) → IsProp (Linked P next s xs)
linked-once P next h s [] = λ a b. refl
linked-once P next h s (x ∷ xs) = λ a b i. (h s x a.0 b.0 i, linked-once P next h (next s x) xs a.1 b.1 i)

few-once : (n m : ℕ) → IsProp (n ≤ m)
few-once n m = Prim.hlevel props

zeros-once : (h : HeadFields) → IsProp (h.kind ≡ kinds.Snapshot → h.parent ≡ zero_key)
zeros-once h = Prim.hlevel props

range-once : (previous : _) (r : Range) → IsProp (IsRangeAfter previous r)
range-once previous r = Prim.hlevel props

pub head-once : (h : HeadFields) → IsProp (IsHead h)
head-once h = λ a b i. record {
  ranges = record { few = few-once _ _ a.ranges.few b.ranges.few i; ascending = linked-once IsRangeAfter _ range-once _ h.ranges a.ranges.ascending b.ranges.ascending i };
  snapshot = zeros-once h a.snapshot b.snapshot i;
}

block-once : (previous : _) (b : Block) → IsProp (is_after previous b.issuer ≡ true)
block-once previous b = Prim.hlevel props

pub part-once : (p : PartFields) → IsProp (IsPart p)
part-once p = λ a b i. record { few = few-once _ _ a.few b.few i; ascending = linked-once _ _ block-once _ p.blocks a.ascending b.ascending i }

pub bytes-once : (a b : List ℕ) → IsProp (a ≡ b)
bytes-once a b = Prim.hlevel props
