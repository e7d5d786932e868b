-- What a part that is read in pieces is collected into, and when that is what was seen.
use Rattle.std.specs.Prelude.{◌≡◌, ℕ, zero, suc, ◌+◌, ◌^◌, ◌≤◌, List, [], ◌∷◌, ◌++◌, length, drop, Bool, true, false, Some, None}
use Rattle.sha2.specs.declared.Sha256.{Sha256}
use Rattle.equation_core.specs.declared.hash.TheConstants.{MAX_PLANES}
use Rattle.equation_core.specs.declared.shards.TheConstants.{MAX_SHIFT}
use Rattle.card_core.specs.declared.block.Body.{Body}
use Rattle.card_core.specs.declared.leaf.Leaf.{Leaf}
use Rattle.card_core.specs.declared.leaf.Leaf.TheVariants as leaves_of
use Rattle.card_core.specs.Filter.{as_body}
use Rattle.card_core.specs.declared.stage.Stage.{Stage}
use Rattle.part_codec.specs.ReadPlanes.{columns_read, AreRead, AreStageBytes}
use Rattle.part_codec.specs.PileFields.{PileFields}
use Rattle.part_codec.specs.declared.fields.Kept.{Kept}
use Rattle.part_codec.specs.declared.fields.Open.{Open}
use Rattle.part_codec.specs.declared.fields.Open.TheVariants as opens
use Rattle.part_codec.specs.declared.machine.Machine.{Machine}
use Rattle.part_codec.specs.Remaining.{Seen, shards_of}
use Rattle.part_codec.specs.Scanning.{Stands, Hashes, hashed_to}

abbrev pub nothing_piled : PileFields
nothing_piled = record { ranges = []; blocks = []; leaves = []; approx = None; bytes = []; done = 0 }

-- bytes of the open plane behind those before
abbrev pub with_bytes : PileFields → List ℕ → PileFields
with_bytes p t = record p { bytes = p.bytes ++ t }

-- the open plane is whole
abbrev pub with_whole : PileFields → PileFields
with_whole p = record p { done = p.done + 1 }

-- so many planes are, of which these are the bytes
abbrev pub with_planes : PileFields → ℕ → List ℕ → PileFields
with_planes p n t = record p { bytes = p.bytes ++ t; done = p.done + n }

abbrev pub cleared : PileFields → PileFields
cleared p = record p { bytes = []; done = 0 }

abbrev pub stage_by : Kept → PileFields → Stage
stage_by k p = record { seed = k.seed; planes = record { starts = k.starts; columns = columns_read k.starts p.done p.bytes } }

abbrev pub with_body : Kept → Body → PileFields → PileFields
with_body k body p = record p { blocks = p.blocks ++ record { issuer = k.key; body = body } ∷ [] }

-- the leaf of a shard, behind which so many are left
abbrev pub with_shard : ℕ → Kept → Leaf → PileFields → PileFields
with_shard zero k l p = with_body k (shards_of k.shift (p.leaves ++ l ∷ [])) (record p { leaves = [] })
with_shard (suc n) k l p = record p { leaves = p.leaves ++ l ∷ [] }

-- a leaf of a block that has this shift, 0 if it isn't sharded
abbrev pub leaf_in : ℕ → Kept → Leaf → PileFields → PileFields
leaf_in zero k l p = with_body k (as_body l) p
leaf_in (suc m) k l p = with_shard k.leaves k l p

abbrev pub with_leaf : Kept → Leaf → PileFields → PileFields
with_leaf k l p = leaf_in k.shift k l p

abbrev pub pile_mode : ℕ → Kept → PileFields → PileFields
pile_mode zero k p = with_leaf k leaves_of.Clean p
pile_mode (suc zero) k p = with_leaf k leaves_of.Every p
pile_mode (suc (suc n)) k p = p

-- behind the last plane the stage is whole
abbrev pub pile_plane : ℕ → Kept → PileFields → PileFields
pile_plane zero k p = record p { approx = Some (stage_by k p) }
pile_plane (suc n) k p = p

abbrev pub exact_leaf : Kept → PileFields → Leaf
exact_leaf k p = leaves_of.Mixed (record { approx = p.approx; exact = stage_by k (with_whole p) })

abbrev pub pile_exact : Kept → PileFields → PileFields
pile_exact k p = record (with_leaf k (exact_leaf k p) (with_whole p)) { approx = None }

-- behind a field that passed, from what is kept then
abbrev pub pile_after : Open → Kept → PileFields → PileFields
pile_after opens.Ranges k p = record p { ranges = [] }
pile_after opens.RangeTo k p = record p { ranges = p.ranges ++ record { log = k.key; from = k.from; to = k.to } ∷ [] }
pile_after opens.Issuers k p = record p { blocks = [] }
pile_after opens.BlockMode k p = pile_mode k.mode k p
pile_after opens.BlockShift k p = record p { leaves = [] }
pile_after opens.ShardMode k p = pile_mode k.mode k p
pile_after opens.BlockK k p = record p { approx = None }
pile_after opens.ApproxStarts k p = cleared p
pile_after opens.ApproxPlane k p = pile_plane k.planes k (with_whole p)
pile_after opens.ExactStarts k p = cleared p
pile_after opens.ExactPlane k p = pile_exact k p
pile_after o k p = p

abbrev pub pile_when : Bool → Open → Kept → PileFields → PileFields
pile_when true o k p = pile_after o k p
pile_when false o k p = p

-- bytes of a plane are collected as they come
abbrev pub pile_passed : Open → PileFields → List ℕ → PileFields
pile_passed opens.ApproxPlane p t = with_bytes p t
pile_passed opens.ExactPlane p t = with_bytes p t
pile_passed o p t = p

-- with one leaf more, which is the last, the leaves are one for each shard
abbrev pub IsLast : Kept → PileFields → Type 0
IsLast k p = 1 ≤ k.shift → k.leaves ≡ 0 → (k.shift ≤ MAX_SHIFT) × (length p.leaves + 1 ≡ 2 ^ k.shift)

-- what a stage and a block need that are made whole
abbrev pub CanCollect : Open → Kept → PileFields → Type 0
CanCollect opens.BlockMode k p = IsLast k p
CanCollect opens.ShardMode k p = IsLast k p
CanCollect opens.ApproxPlane k p = AreStageBytes k.starts (p.done + 1) p.bytes
CanCollect opens.ExactPlane k p = (AreStageBytes k.starts (p.done + 1) p.bytes) × (p.done ≡ 0) × IsLast k p
CanCollect o k p = Unit {0}

abbrev pub FewPlanes : Kept → Type 0
FewPlanes k = (1 ≤ k.planes) × (k.planes ≤ MAX_PLANES)

pub record IsApprox (k : Kept) (s : Seen) (p : PileFields) (P : List ℕ) : Type 0 where
  -- the bytes of the planes that are whole
  pub whole : List ℕ
  pub columns : s.columns ≡ columns_read k.starts p.done whole
  pub read : AreRead k.starts p.done whole
  pub some : 1 ≤ k.planes
  pub few : p.done + k.planes ≤ MAX_PLANES
  pub bytes : p.bytes ≡ whole ++ P

pub record IsExact (s : Seen) (p : PileFields) (P : List ℕ) : Type 0 where
  pub approx : s.approx ≡ p.approx
  pub none : p.done ≡ 0
  pub bytes : p.bytes ≡ P

-- of the open block
abbrev pub Staged : Open → Kept → Seen → PileFields → List ℕ → Type 0
Staged opens.ApproxSeed k s p P = FewPlanes k
Staged opens.ApproxStarts k s p P = FewPlanes k
Staged opens.ApproxPlane k s p P = IsApprox k s p P
Staged opens.ExactSeed k s p P = s.approx ≡ p.approx
Staged opens.ExactStarts k s p P = s.approx ≡ p.approx
Staged opens.ExactPlane k s p P = IsExact s p P
Staged o k s p P = Unit {0}

-- what was seen is what was collected, and P came of the open field
pub record Collects (o : Open) (k : Kept) (s : Seen) (p : PileFields) (P : List ℕ) : Type 0 where
  pub ranges : s.ranges ≡ p.ranges
  pub blocks : s.blocks ≡ p.blocks
  pub leaves : s.leaves ≡ p.leaves
  pub stage : Staged o k s p P

-- the machine stands for b behind what was collected
abbrev pub Reads : Machine → PileFields → List ℕ → Type 0
Reads m p b = (s : Seen) × Stands m s b × Collects m.field m.kept s p (drop m.at b)

-- and no byte of the trailer came
pub record ReadsFront (m : Machine) (p : PileFields) (b : List ℕ) : Type 0 where
  pub reads : Reads m p b
  pub front : hashed_to m.field m.at (length b) ≡ length b

-- what a collector of this type may have collected
abbrev pub Holding : Type 0 → Type 1
Holding C = C → PileFields → Type 0

-- it stands for b behind what this collector holds
abbrev pub ReadsTo : {C : Type 0} → Holding C → Machine → C → List ℕ → Type 0
ReadsTo H m c b = (p : PileFields) × H c p × Reads m p b

-- and a field, or the last planes of an approximate stage, can be put to it
abbrev pub CanPut : {C : Type 0} → Holding C → C → Open → Kept → List ℕ → Type 0
CanPut H c o k t = (p : PileFields) × H c p × CanCollect o k (pile_passed o p t)

abbrev pub CanPutPlanes : {C : Type 0} → Holding C → C → Kept → ℕ → List ℕ → Type 0
CanPutPlanes H c k n t = (p : PileFields) × H c p × AreStageBytes k.starts (p.done + n) (p.bytes ++ t)

pub record FrontTo {C : Type 0} (H : Holding C) (m : Machine) (c : C) (b : List ℕ) : Type 0 where
  pub reads : ReadsTo H m c b
  pub front : hashed_to m.field m.at (length b) ≡ length b

-- for some bytes
abbrev pub HasRead : {C : Type 0} → Holding C → Machine → C → Type 0
HasRead H m c = (b : List ℕ) × ReadsTo H m c b

-- of which those before the trailer were hashed
abbrev pub HasHashed : {C : Type 0} → Holding C → Machine → C → Sha256 → Type 0
HasHashed H m c hasher = (b : List ℕ) × ReadsTo H m c b × Hashes m hasher b

-- it is known which pile was collected
abbrev pub IsPile : Holding PileFields
IsPile p q = q ≡ p

-- or nothing is
abbrev pub AnyPile : {C : Type 0} → Holding C
AnyPile c p = Unit {0}
