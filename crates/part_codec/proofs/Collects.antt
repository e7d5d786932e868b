-- What is collected is what was seen.
use Rattle.std.proofs.Common.{◌≡◌, ℕ, zero, suc, ◌+◌, ◌-◌, ◌*◌, ◌≤◌, Bool, true, false, List, [], ◌∷◌, ◌++◌, length, take, drop, Option, Some, None, refl, sym, ap, subst, ◌∙◌, arith}
use Rattle.std.specs.Int.{w8, w16, w32, w64, from_be_bytes}
use Rattle.std.proofs.Math.Logic.{∥∥₁_map}
use Rattle.std.proofs.lemmas.List.{append_assoc, drop-append-le, append-nil, length-drop}
use Rattle.equation_core.specs.declared.hash.TheConstants.{MAX_PLANES}
use Rattle.equation_core.specs.Sizes.{words_for}
use Rattle.ident_core.specs.declared.range.Range.{Range}
use Rattle.card_core.specs.declared.block.Block.{Block}
use Rattle.card_core.specs.declared.block.Body.{Body}
use Rattle.card_core.specs.declared.block.Body.TheVariants as bodies
use Rattle.card_core.specs.declared.leaf.Leaf.{Leaf}
use Rattle.card_core.specs.declared.leaf.Leaf.TheVariants as leaves_of
use Rattle.card_core.specs.Filter.{as_body}
use Rattle.card_core.specs.declared.stage.Stage.{Stage}
use Rattle.part_text.specs.PlaneBytes.{columns_of_bytes, is_padded}
use Rattle.part_codec.specs.ReadPlanes.{columns_read, AreRead, AreStageBytes}
use Rattle.part_codec.specs.PileFields.{PileFields}
use Rattle.part_codec.specs.declared.fields.Kept.{Kept}
use Rattle.part_codec.specs.declared.fields.Open.{Open}
use Rattle.part_codec.specs.declared.fields.Open.TheVariants as opens
use Rattle.part_codec.specs.declared.machine.Machine.{Machine}
use Rattle.part_codec.specs.Remaining.{Seen, with_approx, with_plane, column_of, mixed_of, with_leaf as seen_with, shards_of, kept_range}
use Rattle.part_codec.specs.Remaining.{kept_ranges, kept_issuers, kept_mode, kept_leaf_mode, kept_leaves}
use Rattle.part_codec.specs.Stepping.{seen_mode, seen_leaf_mode, settled as settled_field, kept_after, open_range, open_block, open_mode, open_approx, open_plane, open_after}
use Rattle.part_codec.specs.Stepping.{seen_after, AreStarts, InLeaf, Counts, Passed, open_leaf, in_front, IsOpen}
use Rattle.part_codec.specs.Scanning.{Stands, Moved, seen_when}
use Rattle.part_codec.specs.Taking.{IsFront, Advances, CanRead, Takes, Steps}
use Rattle.part_codec.specs.Collecting.{with_whole, leaf_in, IsLast, exact_leaf, cleared, stage_by, pile_mode, pile_plane, pile_exact, pile_after, pile_when}
use Rattle.part_codec.specs.Collecting.{pile_passed, CanCollect, FewPlanes, IsApprox, IsExact, Staged, Collects, Reads, ReadsFront, Holding, ReadsTo, FrontTo, CanPut}
use Rattle.part_codec.proofs.FieldSteps.{leaf-starts}
use Rattle.part_codec.proofs.MachineLaws.{leaf-mode}
use Rattle.part_codec.proofs.MachineStands.{drop-all, front-moved, pieces-join}
use Rattle.part_codec.proofs.Planes.{columns-more, are_read-more, none_read}

staged-range : (n : ℕ) (k : Kept) (s : Seen) (p : PileFields) → Staged (open_range n) k s p []
staged-range zero k s p = tt
staged-range (suc n) k s p = tt

staged-block : (n : ℕ) (k : Kept) (s : Seen) (p : PileFields) → Staged (open_block n) k s p []
staged-block zero k s p = tt
staged-block (suc n) k s p = tt

staged-approx : (n : ℕ) (k : Kept) (s : Seen) (p : PileFields) → k.planes ≡ n → n ≤ MAX_PLANES → s.approx ≡ p.approx → Staged (open_approx n) k s p []
staged-approx zero k s p is few same = same
staged-approx (suc n) k s p is few same = (omega (arith, is), omega (arith, is, few))

abbrev block_made : Kept → Body → Block
block_made k body = record { issuer = k.key; body = body }

-- behind a leaf, which was collected as it was seen
collected-leaf : (shift n : ℕ) (k : Kept) (s : Seen) (p : PileFields) (l m : Leaf) → k.shift ≡ shift → (shift ≡ 0 → k.leaves ≡ 1) → k.leaves - 1 ≡ n
    → s.ranges ≡ p.ranges → s.blocks ≡ p.blocks → s.leaves ≡ p.leaves → l ≡ m
    → Collects (open_leaf (kept_leaves n k).leaves (kept_leaves n k).left) (kept_leaves n k) (seen_with shift n k.key s l) (leaf_in shift (kept_leaves n k) m p) []
collected-leaf zero zero k s p l m at one is ranges blocks leaves same = record {
  ranges = ranges;
  blocks = ap (λ (list : List Block). list ++ block_made k (as_body l) ∷ []) blocks ∙ ap (λ (x : Leaf). p.blocks ++ block_made k (as_body x) ∷ []) same;
  leaves = leaves;
  stage = staged-block (k.left - 1) (kept_leaves 0 k) _ _;
}
collected-leaf zero (suc n) k s p l m at one is ranges blocks leaves same = absurd (omega (arith, is, one refl))
collected-leaf (suc t) zero k s p l m at one is ranges blocks leaves same = record {
  ranges = ranges;
  blocks =
      ap (λ (list : List Block). list ++ block_made k (shards_of (suc t) (s.leaves ++ l ∷ [])) ∷ []) blocks
      ∙ ap (λ (list : List Leaf). p.blocks ++ block_made k (shards_of (suc t) (list ++ l ∷ [])) ∷ []) leaves
      ∙ ap (λ (x : Leaf). p.blocks ++ block_made k (shards_of (suc t) (p.leaves ++ x ∷ [])) ∷ []) same
      ∙ ap (λ (x : ℕ). p.blocks ++ block_made k (shards_of x (p.leaves ++ m ∷ [])) ∷ []) (sym at);
  leaves = refl;
  stage = staged-block (k.left - 1) (kept_leaves 0 k) _ _;
}
collected-leaf (suc t) (suc n) k s p l m at one is ranges blocks leaves same = record {
  ranges = ranges;
  blocks = blocks;
  leaves = ap (λ (list : List Leaf). list ++ l ∷ []) leaves ∙ ap (λ (x : Leaf). p.leaves ++ x ∷ []) same;
  stage = tt;
}

leaf-shift : (n : ℕ) (k : Kept) → (kept_leaves n k).shift ≡ k.shift
leaf-shift zero k = refl
leaf-shift (suc n) k = refl

-- by the shift that is kept behind it
abbrev Left : ℕ → Kept → Seen → PileFields → Type 0
Left n k s p = Collects (open_leaf (kept_leaves n k).leaves (kept_leaves n k).left) (kept_leaves n k) s p []

collected-one : (k : Kept) (s : Seen) (p : PileFields) (l m : Leaf) → (k.shift ≡ 0 → k.leaves ≡ 1) → s.ranges ≡ p.ranges → s.blocks ≡ p.blocks → s.leaves ≡ p.leaves → l ≡ m
    → Left (k.leaves - 1) k (seen_with k.shift (k.leaves - 1) k.key s l) (leaf_in (kept_leaves (k.leaves - 1) k).shift (kept_leaves (k.leaves - 1) k) m p)
collected-one k s p l m one ranges blocks leaves same =
    subst (λ (x : ℕ). Left (k.leaves - 1) k (seen_with k.shift (k.leaves - 1) k.key s l) (leaf_in x (kept_leaves (k.leaves - 1) k) m p)) (sym (leaf-shift (k.leaves - 1) k))
    (collected-leaf k.shift (k.leaves - 1) k s p l m refl one refl ranges blocks leaves same)

collected-mode : (mode : ℕ) (k : Kept) (s : Seen) (p : PileFields) → s.ranges ≡ p.ranges → s.blocks ≡ p.blocks → s.leaves ≡ p.leaves
    → Collects (open_mode (kept_mode mode k).mode (kept_mode mode k).leaves (kept_mode mode k).left) (kept_mode mode k) (seen_mode mode k s) (pile_mode (kept_mode mode k).mode (kept_mode mode k) p) []
collected-mode zero k s p ranges blocks leaves = record {
  ranges = ranges;
  blocks = ap (λ (l : List Block). l ++ block_made k bodies.Clean ∷ []) blocks;
  leaves = leaves;
  stage = staged-block (k.left - 1) (kept_mode 0 k) _ _;
}
collected-mode (suc zero) k s p ranges blocks leaves = record {
  ranges = ranges;
  blocks = ap (λ (l : List Block). l ++ block_made k bodies.Every ∷ []) blocks;
  leaves = leaves;
  stage = staged-block (k.left - 1) (kept_mode 1 k) _ _;
}
collected-mode (suc (suc zero)) k s p ranges blocks leaves = record { ranges = ranges; blocks = blocks; leaves = leaves; stage = tt }
collected-mode (suc (suc (suc n))) k s p ranges blocks leaves = record { ranges = ranges; blocks = blocks; leaves = leaves; stage = tt }

-- behind the mode of a shard
abbrev Moded : ℕ → Kept → Seen → PileFields → ℕ → Type 0
Moded mode k s p m =
    Collects (open_mode m (kept_leaf_mode mode k).leaves (kept_leaf_mode mode k).left) (kept_leaf_mode mode k) (seen_leaf_mode mode k s) (pile_mode m (kept_leaf_mode mode k) p) []

collected-leaf_mode : (mode : ℕ) (k : Kept) (s : Seen) (p : PileFields) → (k.shift ≡ 0 → k.leaves ≡ 1) → s.ranges ≡ p.ranges → s.blocks ≡ p.blocks → s.leaves ≡ p.leaves
    → Moded mode k s p (kept_leaf_mode mode k).mode
collected-leaf_mode zero k s p one ranges blocks leaves =
    subst (λ (m : ℕ). Moded 0 k s p m) (sym (leaf-mode (k.leaves - 1) (record k { mode = 0 })))
    (collected-one (record k { mode = 0 }) s p leaves_of.Clean leaves_of.Clean one ranges blocks leaves refl)
collected-leaf_mode (suc zero) k s p one ranges blocks leaves =
    subst (λ (m : ℕ). Moded 1 k s p m) (sym (leaf-mode (k.leaves - 1) (record k { mode = 1 })))
    (collected-one (record k { mode = 1 }) s p leaves_of.Every leaves_of.Every one ranges blocks leaves refl)
collected-leaf_mode (suc (suc n)) k s p one ranges blocks leaves = record { ranges = ranges; blocks = blocks; leaves = leaves; stage = tt }

-- behind a plane, or before the first
piled-plane : (n : ℕ) (k : Kept) (s : Seen) (q : PileFields) → k.planes ≡ n → s.ranges ≡ q.ranges → s.blocks ≡ q.blocks → s.leaves ≡ q.leaves → s.approx ≡ Some (stage_by k q)
    → s.columns ≡ columns_read k.starts q.done q.bytes
    → AreRead k.starts q.done q.bytes → q.done + n ≤ MAX_PLANES → Collects (open_plane n) k s (pile_plane n k q) []
piled-plane zero k s q is ranges blocks leaves approx columns read few = record { ranges = ranges; blocks = blocks; leaves = leaves; stage = approx }
piled-plane (suc n) k s q is ranges blocks leaves approx columns read few =
    let stage : IsApprox k s q [] =
    record { whole = q.bytes; columns = columns; read = read; some = omega (arith, is); few = omega (arith, is, few); bytes = sym (append-nil q.bytes) } in
    record { ranges = ranges; blocks = blocks; leaves = leaves; stage = stage }

first-plane : (n : ℕ) (k : Kept) (s : Seen) (q : PileFields) → k.planes ≡ n → 1 ≤ n → n ≤ MAX_PLANES → s.ranges ≡ q.ranges → s.blocks ≡ q.blocks → s.leaves ≡ q.leaves
    → Collects (open_plane n) k (with_approx k (record s { columns = [] })) (cleared q) []
first-plane zero k s q is some few ranges blocks leaves = absurd (omega arith)
first-plane (suc n) k s q is some few ranges blocks leaves =
    let stage : IsApprox k (with_approx k (record s { columns = [] })) (cleared q) [] =
    record { whole = []; columns = refl; read = none_read k.starts; some = omega (arith, is); few = omega (arith, is, few); bytes = refl } in
    record { ranges = ranges; blocks = blocks; leaves = leaves; stage = stage }

starts-plane : (k : Kept) (s : Seen) (p : PileFields) → s.ranges ≡ p.ranges → s.blocks ≡ p.blocks → s.leaves ≡ p.leaves → FewPlanes k
    → Collects (open_plane k.planes) k (with_approx k (record s { columns = [] })) (cleared p) []
starts-plane k s p ranges blocks leaves few = first-plane k.planes k s p refl few.0 few.1 ranges blocks leaves

-- behind those that are whole
more-columns : (starts : ℕ) (p : PileFields) (whole P columns : List ℕ) → p.bytes ≡ whole ++ P → AreRead starts p.done whole → columns ≡ columns_read starts p.done whole
    → (k : Kept) → k.starts ≡ starts → columns ++ column_of k P ∷ [] ≡ columns_read starts (p.done + 1) p.bytes
more-columns starts p whole P columns is read same k at =
    ap (λ (l : List ℕ). l ++ column_of k P ∷ []) same
    ∙ ap (λ (n : ℕ). columns_read starts p.done whole ++ columns_of_bytes (words_for n) P ∷ []) at
    ∙ sym (ap (columns_read starts (p.done + 1)) is ∙ columns-more starts p.done whole P read)

more-read : (starts : ℕ) (p : PileFields) (whole P : List ℕ) → p.bytes ≡ whole ++ P → (is_padded starts P ≡ true) × (length P ≡ 8 * words_for starts) → AreRead starts p.done whole
    → AreRead starts (p.done + 1) p.bytes
more-read starts p whole P is told read = subst (AreRead starts (p.done + 1)) (sym is) (are_read-more starts p.done whole P read told.1 told.0)

collected-plane : (k : Kept) (s : Seen) (p : PileFields) (P : List ℕ) → s.ranges ≡ p.ranges → s.blocks ≡ p.blocks → s.leaves ≡ p.leaves → IsApprox k s p P
    → (is_padded k.starts P ≡ true) × (length P ≡ 8 * words_for k.starts)
    → Collects (open_plane (k.planes - 1)) (record k { planes = k.planes - 1 }) (with_approx k (with_plane k s P)) (pile_plane (k.planes - 1) (record k { planes = k.planes - 1 }) (with_whole p)) []
collected-plane k s p P ranges blocks leaves st told =
    let columns : s.columns ++ column_of k P ∷ [] ≡ columns_read k.starts (p.done + 1) p.bytes = more-columns k.starts p st.whole P s.columns st.bytes st.read st.columns k refl in
    piled-plane (k.planes - 1) (record k { planes = k.planes - 1 }) (with_approx k (with_plane k s P)) (with_whole p) refl ranges blocks leaves
    (ap (λ (l : List ℕ). Some (record { seed = k.seed; planes = record { starts = k.starts; columns = l } })) columns) columns (more-read k.starts p st.whole P st.bytes told st.read)
    (omega (arith, st.some, st.few))

none-read : (starts : ℕ) (p : PileFields) → p.done ≡ 0 → AreRead starts p.done []
none-read starts p none = rw none (none_read starts)

mixed_with : Kept → Option Stage → List ℕ → Leaf
mixed_with k approx columns = leaves_of.Mixed (record { approx = approx; exact = record { seed = k.seed; planes = record { starts = k.starts; columns = columns } } })

leaf-seed : (n : ℕ) (k : Kept) → (kept_leaves n k).seed ≡ k.seed
leaf-seed zero k = refl
leaf-seed (suc n) k = refl

-- the leaf that is collected is the one that is read
exact-same : (k : Kept) (s : Seen) (p : PileFields) (P : List ℕ) → IsExact s p P
    → mixed_of k (record s { columns = column_of k P ∷ [] }) ≡ exact_leaf (kept_leaves (k.leaves - 1) k) p
unfolding mixed_with
exact-same k s p P st =
    let none : [] ≡ columns_read k.starts p.done [] = sym (ap (λ (n : ℕ). columns_read k.starts n []) st.none) in
    let columns : column_of k P ∷ [] ≡ columns_read k.starts (p.done + 1) p.bytes = more-columns k.starts p [] P [] st.bytes (none-read k.starts p st.none) none k refl in
    ap (λ (a : Option Stage). mixed_with k a (column_of k P ∷ [])) st.approx
    ∙ ap (λ (l : List ℕ). mixed_with k p.approx l) columns
    ∙ ap (λ (n : ℕ). leaves_of.Mixed (record {
      approx = p.approx;
      exact = record {
        seed = n;
        planes = record { starts = k.starts; columns = columns_read k.starts (p.done + 1) p.bytes };
      };
    }))
    (sym (leaf-seed (k.leaves - 1) k))
    ∙ ap (λ (n : ℕ). leaves_of.Mixed (record {
      approx = p.approx;
      exact = record {
        seed = (kept_leaves (k.leaves - 1) k).seed;
        planes = record { starts = n; columns = columns_read n (p.done + 1) p.bytes };
      };
    }))
    (sym (leaf-starts (k.leaves - 1) k))

-- the pile behind the exact stage keeps no approximate one
without-approx : (o : Open) (k : Kept) (s : Seen) (p : PileFields) → ((q : PileFields) → Staged o k s q []) → Collects o k s p [] → Collects o k s (record p { approx = None }) []
without-approx o k s p any c = record { ranges = c.ranges; blocks = c.blocks; leaves = c.leaves; stage = any (record p { approx = None }) }

staged-leaf : (leaves left : ℕ) (k : Kept) (s : Seen) (p : PileFields) → Staged (open_leaf leaves left) k s p []
staged-leaf zero left k s p = staged-block left k s p
staged-leaf (suc n) left k s p = tt

collected-exact : (k : Kept) (s : Seen) (p : PileFields) (P : List ℕ) → (k.shift ≡ 0 → k.leaves ≡ 1) → s.ranges ≡ p.ranges → s.blocks ≡ p.blocks → s.leaves ≡ p.leaves → IsExact s p P
    → Left (k.leaves - 1) k (seen_with k.shift (k.leaves - 1) k.key s (mixed_of k (record s { columns = column_of k P ∷ [] }))) (pile_exact (kept_leaves (k.leaves - 1) k) p)
collected-exact k s p P one ranges blocks leaves st =
    without-approx (open_leaf (kept_leaves (k.leaves - 1) k).leaves (kept_leaves (k.leaves - 1) k).left) (kept_leaves (k.leaves - 1) k) _ _
    (λ q. staged-leaf (kept_leaves (k.leaves - 1) k).leaves (kept_leaves (k.leaves - 1) k).left (kept_leaves (k.leaves - 1) k) _ q)
    (collected-one k s (with_whole p) _ _ one ranges blocks leaves (exact-same k s p P st))

collected-steps : (o : Open) (k : Kept) (s : Seen) (p : PileFields) (P : List ℕ) → IsOpen o k → Collects o k s p P → Passed o k P
    → Collects (open_after o (kept_after o k P)) (kept_after o k P) (seen_after o k s P) (pile_after o (kept_after o k P) p) []
collected-steps opens.Ranges k s p P opened c told = record {
  ranges = refl;
  blocks = c.blocks;
  leaves = c.leaves;
  stage = staged-range (from_be_bytes w16 P)
      (kept_ranges k (from_be_bytes w16 P)) (record s { ranges = [] }) (record p { ranges = [] });
}
collected-steps opens.RangeTo k s p P opened c told = record {
  ranges = ap (λ (l : List Range). l ++ record { log = k.key; from = k.from; to = from_be_bytes w64 P } ∷ []) c.ranges;
  blocks = c.blocks;
  leaves = c.leaves;
  stage = staged-range (k.ranges_left - 1)
      (kept_range (record k { to = from_be_bytes w64 P })) _ _;
}
collected-steps opens.Issuers k s p P opened c told = record {
  ranges = c.ranges;
  blocks = refl;
  leaves = c.leaves;
  stage = staged-block (from_be_bytes w32 P)
      (kept_issuers k (from_be_bytes w32 P)) (record s { blocks = [] }) (record p { blocks = [] });
}
collected-steps opens.BlockMode k s p P opened c told = collected-mode (from_be_bytes w8 P) k s p c.ranges c.blocks c.leaves
collected-steps opens.BlockShift k s p P opened c told = record { ranges = c.ranges; blocks = c.blocks; leaves = refl; stage = tt }
collected-steps opens.ShardMode k s p P opened c told = collected-leaf_mode (from_be_bytes w8 P) k s p opened.0.3 c.ranges c.blocks c.leaves
collected-steps opens.BlockK k s p P opened c told = record {
  ranges = c.ranges;
  blocks = c.blocks;
  leaves = c.leaves;
  stage = staged-approx (from_be_bytes w8 P)
      (record k { planes = from_be_bytes w8 P }) (record s { approx = None }) (record p { approx = None }) refl told refl;
}
collected-steps opens.ApproxSeed k s p P opened c told = record { ranges = c.ranges; blocks = c.blocks; leaves = c.leaves; stage = c.stage }
collected-steps opens.ApproxStarts k s p P opened c told = starts-plane (record k { starts = from_be_bytes w32 P }) s p c.ranges c.blocks c.leaves c.stage
collected-steps opens.ApproxPlane k s p P opened c told = collected-plane k s p P c.ranges c.blocks c.leaves c.stage told
collected-steps opens.ExactSeed k s p P opened c told = record { ranges = c.ranges; blocks = c.blocks; leaves = c.leaves; stage = c.stage }
collected-steps opens.ExactStarts k s p P opened c told = record {
  ranges = c.ranges;
  blocks = c.blocks;
  leaves = c.leaves;
  stage = record { approx = c.stage; none = refl; bytes = refl };
}
collected-steps opens.ExactPlane k s p P opened c told = collected-exact k s p P opened.3 c.ranges c.blocks c.leaves c.stage
collected-steps o k s p P opened c told = record { ranges = c.ranges; blocks = c.blocks; leaves = c.leaves; stage = tt }

collects-more : (o : Open) (k : Kept) (s : Seen) (p : PileFields) (P t : List ℕ) → Collects o k s p P → Collects o k s (pile_passed o p t) (P ++ t)
collects-more opens.ApproxPlane k s p P t c = record {
  ranges = c.ranges;
  blocks = c.blocks;
  leaves = c.leaves;
  stage = record {
    whole = c.stage.whole;
    columns = c.stage.columns;
    read = c.stage.read;
    some = c.stage.some;
    few = c.stage.few;
    bytes = ap (λ (l : List ℕ). l ++ t) c.stage.bytes ∙ append_assoc c.stage.whole P t;
  };
}
collects-more opens.ExactPlane k s p P t c = record {
  ranges = c.ranges;
  blocks = c.blocks;
  leaves = c.leaves;
  stage = record { approx = c.stage.approx; none = c.stage.none; bytes = ap (λ (l : List ℕ). l ++ t) c.stage.bytes };
}
collects-more o k s p P t c = record { ranges = c.ranges; blocks = c.blocks; leaves = c.leaves; stage = c.stage }

are-planes : (k : Kept) (s : Seen) (p : PileFields) (P : List ℕ) → IsApprox k s p P → AreStarts k.starts → (is_padded k.starts P ≡ true) × (length P ≡ 8 * words_for k.starts)
    → AreStageBytes k.starts (p.done + 1) p.bytes
are-planes k s p P st starts told =
    let read = more-read k.starts p st.whole P st.bytes told st.read in
    record { some_starts = starts.0; few_starts = starts.1; some_planes = omega arith; few_planes = omega (arith, st.few, st.some); room = read.room; padding = read.padding }

are-exact : (k : Kept) (s : Seen) (p : PileFields) (P : List ℕ) → IsExact s p P → AreStarts k.starts → (is_padded k.starts P ≡ true) × (length P ≡ 8 * words_for k.starts)
    → AreStageBytes k.starts (p.done + 1) p.bytes
are-exact k s p P st starts told =
    let read = more-read k.starts p [] P st.bytes told (none-read k.starts p st.none) in
    record { some_starts = starts.0; few_starts = starts.1; some_planes = omega arith; few_planes = omega (arith, st.none); room = read.room; padding = read.padding }

-- before the last leaf all others were collected
is_last-leaf : (n : ℕ) (k : Kept) (s : Seen) (p : PileFields) → k.leaves - 1 ≡ n → InLeaf k → Counts k s → s.leaves ≡ p.leaves → IsLast (kept_leaves n k) p
is_last-leaf zero k s p is opened c same = λ some none. (opened.2, omega (arith, is, opened.1, c.leaves some opened.1, ap length same))
is_last-leaf (suc n) k s p is opened c same = λ some none. absurd (omega (arith, none))

is_last-mode : (mode : ℕ) (k : Kept) (p : PileFields) → IsLast (kept_mode mode k) p
is_last-mode zero k p = λ some none. absurd (omega (arith, some))
is_last-mode (suc zero) k p = λ some none. absurd (omega (arith, some))
is_last-mode (suc (suc zero)) k p = λ some none. absurd (omega (arith, some))
is_last-mode (suc (suc (suc n))) k p = λ some none. absurd (omega (arith, some))

is_last-leaf_mode : (mode : ℕ) (k : Kept) (s : Seen) (p : PileFields) → InLeaf k → Counts k s → s.leaves ≡ p.leaves → IsLast (kept_leaf_mode mode k) p
is_last-leaf_mode zero k s p opened c same =
    is_last-leaf (k.leaves - 1) (record k { mode = 0 }) s p refl opened (record { ranges = c.ranges; blocks = c.blocks; leaves = c.leaves; sharded = c.sharded }) same
is_last-leaf_mode (suc zero) k s p opened c same =
    is_last-leaf (k.leaves - 1) (record k { mode = 1 }) s p refl opened (record { ranges = c.ranges; blocks = c.blocks; leaves = c.leaves; sharded = c.sharded }) same
is_last-leaf_mode (suc (suc n)) k s p opened c same = λ some none. absurd (omega (arith, none, opened.1))

can-collect : (o : Open) (k : Kept) (s : Seen) (p : PileFields) (P : List ℕ) → IsOpen o k → Counts k s → Collects o k s p P → AreStarts k.starts → Passed o k P → CanCollect o (kept_after o k P) p
can-collect opens.BlockMode k s p P opened n c starts told = is_last-mode (from_be_bytes w8 P) k p
can-collect opens.ShardMode k s p P opened n c starts told = is_last-leaf_mode (from_be_bytes w8 P) k s p opened.0 n c.leaves
can-collect opens.ApproxPlane k s p P opened n c starts told = are-planes k s p P c.stage starts told
can-collect opens.ExactPlane k s p P opened n c starts told =
    (rw (leaf-starts (k.leaves - 1) k) (are-exact k s p P c.stage starts told), c.stage.none, is_last-leaf (k.leaves - 1) k s p refl opened n c.leaves)
can-collect o k s p P opened n c starts told = tt

-- ---- one step of a reader

drop-more : (m : Machine) (s : Seen) (b t : List ℕ) → Stands m s b → drop m.at b ++ t ≡ drop m.at (b ++ t)
drop-more m s b t st = sym (drop-append-le m.at b t (omega (arith, st.place)))

collected-so_far : (m : Machine) (s : Seen) (p q : PileFields) (b t : List ℕ) → Stands m s b → Collects m.field m.kept s p (drop m.at b) → q ≡ pile_passed m.field p t
    → Collects m.field m.kept s q (drop m.at (b ++ t))
collected-so_far m s p q b t st c is =
    subst (λ (l : List ℕ). Collects m.field m.kept s q l) (drop-more m s b t st) (rw is (collects-more m.field m.kept s p (drop m.at b) t c))

pub can-settle : (m n : Machine) (p q : PileFields) (b t : List ℕ) → Reads m p b → q ≡ pile_passed m.field p t → Moved true m n (b ++ t) → CanCollect m.field n.kept q
can-settle m n p q b t r is moved =
    rw moved.kept (can-collect m.field m.kept r.0 q (drop m.at (b ++ t)) r.1.opens.opened r.1.opens.counts (collected-so_far m r.0 p q b t r.1 r.2 is) m.starts moved.passed)

drop-end : (n : ℕ) (l : List ℕ) → n ≡ length l → [] ≡ drop n l
drop-end n l is = sym (drop-all n l is)

-- at the field that has no byte nothing is collected
collects-settled : (o : Open) (k : Kept) (s : Seen) (p : PileFields) → Collects o k s p [] → Collects (settled_field o) k s p []
collects-settled opens.Sharded k s p c = record { ranges = c.ranges; blocks = c.blocks; leaves = c.leaves; stage = tt }
collects-settled o k s p c = c

settled : (w : Bool) (m n : Machine) (s : Seen) (q r : PileFields) (bt : List ℕ) → IsOpen m.field m.kept → Collects m.field m.kept s q (drop m.at bt) → Moved w m n bt
    → r ≡ pile_when w m.field n.kept q
    → Collects n.field n.kept (seen_when w m s (drop m.at bt)) r (drop n.at bt)
settled true m n s q r bt opened c v is =
    let done = collected-steps m.field m.kept s q (drop m.at bt) opened c v.passed in
    let k : Collects (open_after m.field n.kept) n.kept (seen_after m.field m.kept s (drop m.at bt)) (pile_after m.field n.kept q) [] =
    subst (λ (x : Kept). Collects (open_after m.field x) x (seen_after m.field m.kept s (drop m.at bt)) (pile_after m.field x q) []) (sym v.kept) done in
    let o = subst (λ (x : Open). Collects x n.kept (seen_after m.field m.kept s (drop m.at bt)) (pile_after m.field n.kept q) []) (sym v.field)
    (collects-settled (open_after m.field n.kept) n.kept (seen_after m.field m.kept s (drop m.at bt)) (pile_after m.field n.kept q) k) in
    let l = subst (λ (x : List ℕ). Collects n.field n.kept (seen_after m.field m.kept s (drop m.at bt)) (pile_after m.field n.kept q) x) (drop-end n.at bt v.at) o in
    subst (λ (x : PileFields). Collects n.field n.kept (seen_after m.field m.kept s (drop m.at bt)) x (drop n.at bt)) (sym is) l
settled false m n s q r bt opened c v is =
    subst (λ (x : PileFields). Collects n.field n.kept s x (drop n.at bt)) (sym is)
    (subst (λ (x : ℕ). Collects n.field n.kept s q (drop x bt)) (sym v.at)
    (subst (λ (x : Kept). Collects n.field x s q (drop m.at bt)) (sym v.kept)
    (subst (λ (x : Open). Collects x m.kept s q (drop m.at bt)) (sym v.field) c)))

pub reads-step : (w : Bool) (m n : Machine) (p q r : PileFields) (b t : List ℕ) → (read : Reads m p b) → q ≡ pile_passed m.field p t → Moved w m n (b ++ t) → r ≡ pile_when w m.field n.kept q
    → Stands n (seen_when w m read.0 (drop m.at (b ++ t))) (b ++ t) → Reads n r (b ++ t)
reads-step w m n p q r b t read is moved made st =
    (seen_when w m read.0 (drop m.at (b ++ t)), st, settled w m n read.0 q r (b ++ t) read.1.opens.opened (collected-so_far m read.0 p q b t read.1 read.2 is) moved made)

-- ---- at the trailer nothing is collected

passed-none : (o : Open) (p : PileFields) (t : List ℕ) → in_front o ≡ false → p ≡ pile_passed o p t
passed-none opens.Trailer p t last = refl
passed-none opens.Done p t last = refl
passed-none o p t last = absurd cc

seen-same : (o : Open) (k : Kept) (s : Seen) (P : List ℕ) → in_front o ≡ false → seen_after o k s P ≡ s
seen-same opens.Trailer k s P last = refl
seen-same opens.Done k s P last = refl
seen-same o k s P last = absurd cc

seen-none : (w : Bool) (m : Machine) (s : Seen) (P : List ℕ) → in_front m.field ≡ false → seen_when w m s P ≡ s
seen-none true m s P last = seen-same m.field m.kept s P last
seen-none false m s P last = refl

pile-none : (w : Bool) (o : Open) (k : Kept) (p : PileFields) → in_front o ≡ false → p ≡ pile_when w o k p
pile-none true opens.Trailer k p last = refl
pile-none true opens.Done k p last = refl
pile-none true o k p last = absurd cc
pile-none false o k p last = refl

pub reads-end : (w : Bool) (m n : Machine) (p : PileFields) (b t : List ℕ) → in_front m.field ≡ false → (read : Reads m p b) → Moved w m n (b ++ t) → Stands n read.0 (b ++ t) → Reads n p (b ++ t)
reads-end w m n p b t last read moved st =
    let c = settled w m n read.0 p p (b ++ t) read.1.opens.opened (collected-so_far m read.0 p p b t read.1 read.2 (passed-none m.field p t last)) moved (pile-none w m.field n.kept p last) in
    (read.0, st, subst (λ (s : Seen). Collects n.field n.kept s p (drop n.at (b ++ t))) (seen-none w m read.0 (drop m.at (b ++ t)) last) c)

-- no byte of the trailer came
pub reads-front : (w : Bool) (m n : Machine) (r : PileFields) (b : List ℕ) → in_front m.field ≡ true → Moved w m n b → Reads n r b → ReadsFront n r b
reads-front w m n r b front moved read = record { reads = read; front = front-moved w m n b front moved }

-- ---- what is put to a collector

pub can-put : {C : Type 0} (H : Holding C) (m n : Machine) (c : C) (piece : List ℕ) (k : ℕ) (w : Bool) → CanRead H m c → Advances m n piece (k, w) → w ≡ true
    → ∥ CanPut H c m.field n.kept (take k piece) ∥₁
can-put H m n c piece k w can f is =
    ∥∥₁_map can.read (λ r.
    let p : PileFields = r.1.0 in
    let read : Reads m p r.0 = r.1.2 in
    let moved = f.moved read.0 r.0 read.1 in (
      p,
      r.1.1,
      can-settle m n p (pile_passed m.field p (take k piece)) r.0 (take k piece) read refl
          (subst (λ (v : Bool). Moved v m n (r.0 ++ take k piece)) is moved),
    ))

pub steps-put : {C : Type 0} (H : Holding C) (m n : Machine) (c d : C) (piece : List ℕ) (k : ℕ) (w : Bool) → CanRead H m c → Advances m n piece (k, w)
    → ((p : PileFields) → H c p → H d (pile_when w m.field n.kept (pile_passed m.field p (take k piece)))) → Steps H m n c d piece k
steps-put H m n c d piece k w can f put =
    let t : List ℕ = take k piece in
    let reads : (b : List ℕ) → ReadsTo H m c b → FrontTo H n d (b ++ t) = λ b r.
    let p : PileFields = r.0 in
    let q : PileFields = pile_passed m.field p t in
    let read : Reads m p b = r.2 in
    let front = reads-front w m n (pile_when w m.field n.kept q) (b ++ t) can.front.front (f.moved read.0 b read.1)
    (reads-step w m n p q (pile_when w m.field n.kept q) b t read refl (f.moved read.0 b read.1) refl (f.stands read.0 b read.1)) in
    record { reads = (pile_when w m.field n.kept q, put p r.1, front.reads); front = front.front } in
    record {
      takes = record { reads = reads; read = ∥∥₁_map can.read (λ r. (_, (reads r.0 r.1).reads)); partial = f.partial; count = f.count };
      progress = f.progress;
    }

-- the issuer of a block isn't collected before its mode
pub steps-issuer : {C : Type 0} (H : Holding C) (m n : Machine) (c : C) (piece : List ℕ) (k : ℕ) → CanRead H m c → m.field ≡ opens.BlockIssuer → Advances m n piece (k, true)
    → Steps H m n c c piece k
steps-issuer H m n c piece k can is f =
    steps-put H m n c c piece k true can f (λ p h. subst (λ (o : Open). H c (pile_when true o n.kept (pile_passed o p (take k piece)))) (sym is) h)

-- another field is open, which isn't the trailer
pub can-next : {C : Type 0} (H : Holding C) (m n : Machine) (c d : C) (piece : List ℕ) (k : ℕ) → Steps H m n c d piece k → IsFront n → CanRead H n d
can-next H m n c d piece k f front = record { front = front; read = f.takes.read }

pub steps-from : {C : Type 0} (H : Holding C) (m n o : Machine) (c d e : C) (piece r : List ℕ) (k j : ℕ) → r ≡ drop k piece → Steps H m n c d piece k → Takes H n o d e r j → Steps H m o c e piece (k + j)
steps-from H m n o c d e piece r k j is f g = record {
  takes = record {
    reads = λ b read. subst (λ (l : List ℕ). FrontTo H o e l) (pieces-join b piece k j r is) (g.reads (b ++ take k piece) (f.takes.reads b read).reads);
    read = g.read;
    partial = g.partial;
    count = omega (arith, f.takes.count, g.count, ap (λ (l : List ℕ). length l) is, length-drop k piece);
  };
  progress = λ some. omega (arith, f.progress some);
}
