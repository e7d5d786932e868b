-- What is read as a mixed body is spelled so, and what is spelled so is read, whatever follows.
use Rattle.std.proofs.Common.{arith, true, ◌≡◌, ℕ, zero, suc, ◌*◌, ◌≤◌, ◌<◌, ◌^◌, List, [], ◌∷◌, ◌++◌, length, Option, Some, None, refl, sym, ap, subst}
use Rattle.std.specs.Prelude.{take, All, flat_map}
use Rattle.std.specs.Int.{w8, w32, to_be_bytes}
use Rattle.std.proofs.Math.Pow.{pow_mono}
use Rattle.std.proofs.lemmas.Bool.{ltb-true, lt-ltb}
use Rattle.std.proofs.lemmas.List.{append-nil}
use Rattle.octets_core.specs.Linked.{Linked}
use Rattle.octets_core.specs.Reading.{fault_at}
use Rattle.octets_core.specs.declared.field.Field.{Field}
use Rattle.octets_core.specs.declared.field.Field.TheVariants as fields
use Rattle.octets_core.specs.declared.fault.Why.TheVariants as why
use Rattle.octets_core.proofs.Fields.{bytes_field-ok}
use Rattle.octets_core.proofs.Texts.{IsBytes, IsBytes-piece, Takes-as, repeated-read, repeated-leaves, whole-read, ends-read, IsRead, reads, done, from_front}
use Rattle.octets_core.proofs.Texts.{bytes_field-read, number_field-read, Leaves, Takes, ◌>>>◌, ◌>>-◌, whole-leaves, bytes_field-leaves, number_field-leaves}
use Rattle.octets_core.proofs.Texts.{wide8, wide32, then-read}
use Rattle.equation_core.specs.Sizes.{columns_for, words_for}
use Rattle.ribbon_core.specs.PlaneWords.{PlaneColumns}
use Rattle.card_core.specs.declared.block.Body.{Body}
use Rattle.card_core.specs.declared.block.Body.TheVariants as bodies
use Rattle.card_core.specs.declared.leaf.Leaf.{Leaf}
use Rattle.card_core.specs.declared.leaf.Leaf.TheVariants as leaves
use Rattle.card_core.specs.Filter.{as_body}
use Rattle.card_core.specs.declared.stage.Stage.{Stage}
use Rattle.card_core.specs.MixedFields.{MixedFields}
use Rattle.card_core.specs.ShardedFields.{ShardedFields}
use Rattle.equation_core.specs.declared.shards.TheConstants.{MAX_SHIFT}
use Rattle.equation_core.specs.declared.hash.TheConstants.{MAX_PLANES}
use Rattle.equation_core.specs.declared.sizes.TheConstants.{MAX_STARTS}
use Rattle.part_text.specs.PlaneBytes.{columns_of_bytes, bytes_of_columns, is_padded}
use Rattle.part_text.specs.PartLayout.{plane_bytes, plane, planes, approx_stage, approx, exact, mixed, leaf, shard, shards, sharded, plain, body_of}
use Rattle.part_text.specs.PartText.{leaf_mode, mode_of, planes_text, stage_text, width_of, approx_text, mixed_text, leaf_text, shard_leaf_text, sharded_text, body_text}
use Rattle.part_text.specs.Fitting.{PlanesFit, StageFits, FirstFits, MixedFits, LeafFits, ShardsFit, BodyFits}
use Rattle.part_text.proofs.PlaneBytes.{length-bytes, columns-again, bytes-back}

-- ---- planes

abbrev Padded : ℕ → ℕ → Type 0
Padded starts Z = Z < 2 ^ columns_for starts

-- the columns stand within the words
columns-in_words : (starts Z : ℕ) → Padded starts Z → Z < 2 ^ (64 * words_for starts)
columns-in_words starts Z lt =
    let more : columns_for starts ≤ 64 * words_for starts = omega arith in
    let le : 2 ^ columns_for starts ≤ 2 ^ (64 * words_for starts) = pow_mono more in
    omega (arith, lt, le)

plane-read : (name : Field) (starts : ℕ) (before : List ℕ) (Z : ℕ) → Padded starts Z → IsRead (plane name starts) before Z (bytes_of_columns (words_for starts) Z)
unfolding plane
plane-read name starts before Z lt =
    let again : columns_of_bytes (words_for starts) (bytes_of_columns (words_for starts) Z) ≡ Z = columns-again (words_for starts) Z (columns-in_words starts Z lt) in
    let passed : is_padded starts (bytes_of_columns (words_for starts) Z) ≡ true = rw again (lt-ltb Z (2 ^ columns_for starts) lt) in
    subst (λ (x : ℕ). IsRead (plane name starts) before x (bytes_of_columns (words_for starts) Z)) again
    (ends-read (columns_of_bytes (words_for starts)) (bytes_field-read (fault_at why.Short name) (fault_at why.Value name) (8 * words_for starts)
    (is_padded starts) before (bytes_of_columns (words_for starts) Z) (length-bytes (words_for starts) Z) passed))

record TakesPlane (starts : ℕ) (bytes : List ℕ) (at : ℕ) (x : List ℕ) (end : ℕ) : Type 0 where
  takes : Takes bytes at x end
  passed : is_padded starts x ≡ true
  len : length x ≡ 8 * words_for starts
  each : IsBytes x

plane_bytes-leave : (name : Field) (starts : ℕ) (bytes : List ℕ) → IsBytes bytes → (at : ℕ) → Leaves (plane_bytes name starts) bytes at (TakesPlane starts bytes at)
plane_bytes-leave name starts bytes fits at = record {
  each = λ x h.
      let f = (bytes_field-leaves (fault_at why.Short name) (fault_at why.Value name) (8 * words_for starts) (is_padded starts) bytes at).each x h in
      let is = bytes_field-ok (fault_at why.Short name) (fault_at why.Value name) (8 * words_for starts) (is_padded starts) bytes at x h in
      record { takes = f.takes; passed = f.passed; len = f.len; each = subst IsBytes is.value (IsBytes-piece (8 * words_for starts) bytes at fits) };
}

plane-leaves : (name : Field) (starts : ℕ) (bytes : List ℕ) → IsBytes bytes → (at : ℕ)
    → Leaves (plane name starts) bytes at (λ Z end. Takes bytes at (bytes_of_columns (words_for starts) Z) end × Padded starts Z)
unfolding plane
plane-leaves name starts bytes fits at =
    plane_bytes-leave name starts bytes fits at >>- λ x end a.
    whole-leaves (columns_of_bytes (words_for starts) x) bytes end _ (
      Takes-as x (bytes_of_columns (words_for starts) (columns_of_bytes (words_for starts) x)) (sym (bytes-back (words_for starts) x a.len a.each)) a.takes,
      ltb-true _ _ a.passed,
    )

abbrev step : {X : Type 0} → Unit {0} → X → Unit {0}
step s Z = s

linked-from_all : {X : Type 0} (P : X → Type 0) (xs : List X) → All P xs → Linked (λ (s : Unit {0}) x. P x) (step {X = X}) tt xs
linked-from_all P [] all = tt
linked-from_all P (x ∷ xs) all = (all 0 x (omega arith), linked-from_all P xs (λ k d lt. all (suc k) d (omega arith)))

all-from_linked : {X : Type 0} (P : X → Type 0) (xs : List X) → Linked (λ (s : Unit {0}) x. P x) (step {X = X}) tt xs → All P xs
all-from_linked P [] linked k d lt = absurd (omega arith)
all-from_linked P (x ∷ xs) linked zero d lt = linked.0
all-from_linked P (x ∷ xs) linked (suc k) d lt = all-from_linked P xs linked.1 k d (omega arith)

planes-read : (starts_name plane_name : Field) (before : List ℕ) (p : PlaneColumns) → PlanesFit p → IsRead (planes starts_name plane_name (length p.columns)) before p (planes_text p)
unfolding planes planes_text
planes-read starts_name plane_name before p fits = from_front
    (reads _ (number_field-read _ _ w32 (2 ^ 32) 1 MAX_STARTS wide32 _ p.starts fits.some_starts fits.few_starts (omega (arith, fits.few_starts)))
    (reads _ (repeated-read (λ (s : Unit {0}). plane plane_name p.starts) step (λ s. Padded p.starts) (bytes_of_columns (words_for p.starts))
    (λ s. plane-read plane_name p.starts) tt _ p.columns (linked-from_all (Padded p.starts) p.columns fits.padding))
    (done p)))

planes-leaves : (starts_name plane_name : Field) (bytes : List ℕ) → IsBytes bytes → (count at : ℕ)
    → Leaves (planes starts_name plane_name count) bytes at (λ p end. Takes bytes at (planes_text p) end × PlanesFit p × (length p.columns ≡ count))
unfolding planes planes_text
planes-leaves starts_name plane_name bytes fits count at =
    number_field-leaves _ _ w32 (2 ^ 32) 1 MAX_STARTS wide32 bytes fits at >>- λ starts q a.
    repeated-leaves (λ (s : Unit {0}). plane plane_name starts) step (λ s. Padded starts) (bytes_of_columns (words_for starts)) bytes
    (λ s. plane-leaves plane_name starts bytes fits) count tt q a.takes.room >>- λ list end b.
    whole-leaves _ bytes end _ (a.takes >>> b.0, record { some_starts = a.from_low; few_starts = a.to_high; padding = all-from_linked (Padded starts) list b.1 }, b.2)

-- ---- stages

below_256 : (n : ℕ) → n < 256 → n ≤ 255
below_256 n lt = omega arith

approx_stage-read : (before : List ℕ) (s : Stage) → StageFits s → IsRead (approx_stage (length s.planes.columns)) before (Some s) (stage_text s)
unfolding approx_stage stage_text
approx_stage-read before s fits = from_front
    (reads _ (number_field-read _ _ w8 (2 ^ 8) 0 255 wide8 _ s.seed (omega arith) (below_256 _ fits.seed) fits.seed)
    (reads _ (planes-read fields.ApproxStarts fields.ApproxPlane _ s.planes fits.planes)
    (done (Some s))))

approx_stage-leaves : (bytes : List ℕ) → IsBytes bytes → (k at : ℕ) → 1 ≤ k → k ≤ MAX_PLANES
    → Leaves (approx_stage k) bytes at (λ a end. Takes bytes at (approx_text a) end × FirstFits a × (width_of a ≡ k))
unfolding approx_stage stage_text
approx_stage-leaves bytes fits k at some few =
    number_field-leaves _ _ w8 (2 ^ 8) 0 255 wide8 bytes fits at >>- λ seed q a.
    planes-leaves fields.ApproxStarts fields.ApproxPlane bytes fits k q >>- λ p end b.
    whole-leaves _ bytes end _ (
      a.takes >>> b.0,
      record {
        stage = record { seed = omega (arith, a.to_high); planes = b.1 };
        some = omega (arith, some, b.2);
        few = omega (arith, few, b.2);
      },
      b.2,
    )

some_approx : (k : ℕ) → 1 ≤ k → approx k ≡ approx_stage k
some_approx zero some = absurd (omega arith)
some_approx (suc n) some = refl

approx-read : (before : List ℕ) (a : Option Stage) → FirstFits a → IsRead (approx (width_of a)) before a (approx_text a)
approx-read before None fits = whole-read before None
approx-read before (Some s) fits = rw (some_approx (length s.planes.columns) fits.some) (approx_stage-read before s fits.stage)

takes-nothing : (bytes : List ℕ) (at : ℕ) → at ≤ length bytes → Takes bytes at [] at
takes-nothing bytes at le = record { parts = sym (append-nil (take at bytes)); room = le }

approx-leaves : (bytes : List ℕ) → IsBytes bytes → (k at : ℕ) → k ≤ MAX_PLANES → at ≤ length bytes
    → Leaves (approx k) bytes at (λ a end. Takes bytes at (approx_text a) end × FirstFits a × (width_of a ≡ k))
approx-leaves bytes fits zero at few le = whole-leaves None bytes at _ (takes-nothing bytes at le, tt, refl)
approx-leaves bytes fits (suc n) at few le = approx_stage-leaves bytes fits (suc n) at (omega arith) few

one_plane : (before : List ℕ) (p : PlaneColumns) → PlanesFit p → length p.columns ≡ 1 → IsRead (planes fields.ExactStarts fields.ExactPlane 1) before p (planes_text p)
one_plane before p fits one = subst (λ (n : ℕ). IsRead (planes fields.ExactStarts fields.ExactPlane n) before p (planes_text p)) one (planes-read fields.ExactStarts fields.ExactPlane before p fits)

exact-read : (before : List ℕ) (s : Stage) → StageFits s → length s.planes.columns ≡ 1 → IsRead exact before s (stage_text s)
unfolding exact stage_text
exact-read before s fits one = from_front
    (reads _ (number_field-read _ _ w8 (2 ^ 8) 0 255 wide8 _ s.seed (omega arith) (below_256 _ fits.seed) fits.seed)
    (reads _ (one_plane _ s.planes fits.planes one)
    (done s)))

exact-leaves : (bytes : List ℕ) → IsBytes bytes → (at : ℕ) → Leaves exact bytes at (λ s end. Takes bytes at (stage_text s) end × StageFits s × (length s.planes.columns ≡ 1))
unfolding exact stage_text
exact-leaves bytes fits at =
    number_field-leaves _ _ w8 (2 ^ 8) 0 255 wide8 bytes fits at >>- λ seed q a.
    planes-leaves fields.ExactStarts fields.ExactPlane bytes fits 1 q >>- λ p end b.
    whole-leaves _ bytes end _ (a.takes >>> b.0, record { seed = omega (arith, a.to_high); planes = b.1 }, b.2)

-- ---- bodies

width-few : (a : Option Stage) → FirstFits a → width_of a ≤ MAX_PLANES
width-few None fits = omega arith
width-few (Some s) fits = fits.few

mixed-read : (before : List ℕ) (m : MixedFields) → MixedFits m → IsRead mixed before m (mixed_text m)
unfolding mixed mixed_text
mixed-read before m fits = from_front
    (reads _ (number_field-read _ _ w8 (2 ^ 8) 0 MAX_PLANES wide8 _ (width_of m.approx) (omega arith) (width-few m.approx fits.approx) (omega (arith, width-few m.approx fits.approx)))
    (reads _ (approx-read _ m.approx fits.approx)
    (reads _ (exact-read _ m.exact fits.exact fits.one)
    (done m))))

mixed-leaves : (bytes : List ℕ) → IsBytes bytes → (at : ℕ) → Leaves mixed bytes at (λ m end. Takes bytes at (mixed_text m) end × MixedFits m)
unfolding mixed mixed_text
mixed-leaves bytes fits at =
    number_field-leaves _ _ w8 (2 ^ 8) 0 MAX_PLANES wide8 bytes fits at >>- λ k q a.
    approx-leaves bytes fits k q a.to_high a.takes.room >>- λ first r b.
    exact-leaves bytes fits r >>- λ second end c.
    whole-leaves _ bytes end _ (
      Takes-as (to_be_bytes w8 k) (to_be_bytes w8 (width_of first)) (ap (to_be_bytes w8) (sym b.2)) a.takes >>> b.0 >>> c.0,
      record { approx = b.1; exact = c.1; one = c.2 },
    )

leaf-read : (before : List ℕ) (l : Leaf) → LeafFits l → IsRead (leaf (leaf_mode l)) before l (leaf_text l)
leaf-read before leaves.Clean fits = whole-read before leaves.Clean
leaf-read before leaves.Every fits = whole-read before leaves.Every
leaf-read before (leaves.Mixed m) fits = ends-read (λ (x : MixedFields). leaves.Mixed x) (mixed-read before m fits)

leaf-leaves : (n : ℕ) (bytes : List ℕ) → IsBytes bytes → (at : ℕ) → n ≤ 2 → at ≤ length bytes
    → Leaves (leaf n) bytes at (λ l end. Takes bytes at (leaf_text l) end × LeafFits l × (leaf_mode l ≡ n))
leaf-leaves zero bytes fits at few le = whole-leaves leaves.Clean bytes at _ (takes-nothing bytes at le, tt, refl)
leaf-leaves (suc zero) bytes fits at few le = whole-leaves leaves.Every bytes at _ (takes-nothing bytes at le, tt, refl)
leaf-leaves (suc (suc n)) bytes fits at few le =
    mixed-leaves bytes fits at >>- λ m end a.
    whole-leaves (leaves.Mixed m) bytes end _ (a.0, a.1, omega arith)

-- ---- shards

leaf_mode-few : (l : Leaf) → leaf_mode l ≤ 2
leaf_mode-few leaves.Clean = omega arith
leaf_mode-few leaves.Every = omega arith
leaf_mode-few (leaves.Mixed m) = omega arith

shard-read : (before : List ℕ) (l : Leaf) → LeafFits l → IsRead shard before l (shard_leaf_text l)
unfolding shard
shard-read before l fits =
    then-read _ (λ mode. leaf mode) before (leaf_mode l) l _ (leaf_text l)
    (number_field-read _ _ w8 (2 ^ 8) 0 2 wide8 before (leaf_mode l) (omega arith) (leaf_mode-few l) (omega (arith, leaf_mode-few l)))
    (leaf-read (before ++ to_be_bytes w8 (leaf_mode l)) l fits)

shard-leaves : (bytes : List ℕ) → IsBytes bytes → (at : ℕ) → Leaves shard bytes at (λ l end. Takes bytes at (shard_leaf_text l) end × LeafFits l)
unfolding shard
shard-leaves bytes fits at =
    number_field-leaves _ _ w8 (2 ^ 8) 0 2 wide8 bytes fits at >>- λ mode q a. record {
      each = λ x h.
          let f = (leaf-leaves mode bytes fits q a.to_high a.takes.room).each x h in (
            Takes-as (to_be_bytes w8 mode) (to_be_bytes w8 (leaf_mode x.0)) (ap (to_be_bytes w8) (sym f.2)) a.takes >>> f.0,
            f.1,
          );
    }

shards-read : (before : List ℕ) (n : ℕ) (list : List Leaf) → length list ≡ n → All LeafFits list → IsRead (shards n) before list (flat_map shard_leaf_text list)
shards-read before n list count fits =
    subst (λ (m : ℕ). IsRead (shards m) before list (flat_map shard_leaf_text list)) count
    (repeated-read (λ (s : Unit {0}). shard) step (λ s. LeafFits) shard_leaf_text (λ s. shard-read) tt before list (linked-from_all LeafFits list fits))

sharded-read : (before : List ℕ) (s : ShardedFields) → ShardsFit s → IsRead sharded before s (sharded_text s)
unfolding sharded sharded_text
sharded-read before s fits = from_front
    (reads _ (number_field-read _ _ w8 (2 ^ 8) 1 MAX_SHIFT wide8 _ s.shift fits.facts.some fits.facts.few (omega (arith, fits.facts.few)))
    (reads _ (shards-read _ (2 ^ s.shift) s.leaves fits.facts.count fits.leaves)
    (done s)))

sharded-leaves : (bytes : List ℕ) → IsBytes bytes → (at : ℕ) → Leaves sharded bytes at (λ s end. Takes bytes at (sharded_text s) end × ShardsFit s)
unfolding sharded sharded_text
sharded-leaves bytes fits at =
    number_field-leaves _ _ w8 (2 ^ 8) 1 MAX_SHIFT wide8 bytes fits at >>- λ shift q a.
    repeated-leaves (λ (s : Unit {0}). shard) step (λ s. LeafFits) shard_leaf_text bytes (λ s. shard-leaves bytes fits) (2 ^ shift) tt q a.takes.room >>- λ list end b.
    whole-leaves _ bytes end _ (
      a.takes >>> b.0,
      record { facts = record { some = a.from_low; few = a.to_high; count = b.2 }; leaves = all-from_linked LeafFits list b.1 },
    )

-- ---- bodies of blocks

pub body-read : (before : List ℕ) (b : Body) → BodyFits b → IsRead (body_of (mode_of b)) before b (body_text b)
body-read before bodies.Clean fits = ends-read as_body (leaf-read before leaves.Clean fits)
body-read before bodies.Every fits = ends-read as_body (leaf-read before leaves.Every fits)
body-read before (bodies.Mixed m) fits = ends-read as_body (leaf-read before (leaves.Mixed m) fits)
body-read before (bodies.Sharded s) fits = ends-read (λ (x : ShardedFields). bodies.Sharded x) (sharded-read before s fits)

abbrev LeftBody : List ℕ → ℕ → ℕ → Body → ℕ → Type 0
LeftBody bytes at n b end = Takes bytes at (body_text b) end × BodyFits b × (mode_of b ≡ n)

alone : (bytes : List ℕ) (at n end : ℕ) (l : Leaf) → Takes bytes at (leaf_text l) end × LeafFits l × (leaf_mode l ≡ n) → LeftBody bytes at n (as_body l) end
alone bytes at n end leaves.Clean a = a
alone bytes at n end leaves.Every a = a
alone bytes at n end (leaves.Mixed m) a = a

plain-leaves : (n : ℕ) (bytes : List ℕ) → IsBytes bytes → (at : ℕ) → n ≤ 2 → at ≤ length bytes → Leaves (plain n) bytes at (LeftBody bytes at n)
plain-leaves n bytes fits at few le =
    leaf-leaves n bytes fits at few le >>- λ l end a.
    whole-leaves (as_body l) bytes end _ (alone bytes at n end l a)

pub body-leaves : (n : ℕ) (bytes : List ℕ) → IsBytes bytes → (at : ℕ) → n ≤ 3 → at ≤ length bytes
    → Leaves (body_of n) bytes at (λ b end. Takes bytes at (body_text b) end × BodyFits b × (mode_of b ≡ n))
body-leaves zero bytes fits at few le = plain-leaves 0 bytes fits at (omega arith) le
body-leaves (suc zero) bytes fits at few le = plain-leaves 1 bytes fits at (omega arith) le
body-leaves (suc (suc zero)) bytes fits at few le = plain-leaves 2 bytes fits at (omega arith) le
body-leaves (suc (suc (suc n))) bytes fits at few le =
    sharded-leaves bytes fits at >>- λ s end a.
    whole-leaves (bodies.Sharded s) bytes end _ (a.0, a.1, omega (arith, few))
