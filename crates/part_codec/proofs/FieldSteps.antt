-- The open field, once all of it came: counts, what is still to come, and what its bytes tell.
use Rattle.std.proofs.Common.{◌≡◌, ℕ, zero, suc, ◌+◌, ◌-◌, ◌*◌, ◌^◌, ◌≤◌, ◌<◌, Bool, true, false, nat_lt, List, [], ◌∷◌, length, get_or, drop}
use Rattle.std.proofs.Common.{◌++◌, refl, sym, ap, subst, ◌∙◌, arith, length-append}
use Rattle.std.specs.Prelude.{◌||◌}
use Rattle.std.specs.Int.{w8, w16, w32, w64, from_be_bytes}
use Rattle.std.specs.Simd.{first_chunks}
use Rattle.std.proofs.Math.Pow.{pow_mono}
use Rattle.std.proofs.lemmas.Nat.{pow_pos}
use Rattle.std.proofs.lemmas.Bool.{lt-ltb}
use Rattle.std.proofs.lemmas.List.{drop-drop, take_all, length-drop}
use Rattle.std.proofs.lemmas.List.Folds.{list_any-append}
use Rattle.octets_core.proofs.Texts.{IsBytes}
use Rattle.equation_core.specs.Sizes.{words_for}
use Rattle.card_core.specs.declared.block.Block.{Block}
use Rattle.card_core.specs.declared.block.Body.{Body}
use Rattle.card_core.specs.declared.block.Body.TheVariants as bodies
use Rattle.card_core.specs.declared.leaf.Leaf.{Leaf}
use Rattle.card_core.specs.declared.leaf.Leaf.TheVariants as leaves_of
use Rattle.card_core.specs.Filter.{as_body}
use Rattle.part_text.specs.PlaneBytes.{is_padded}
use Rattle.part_codec.specs.declared.fields.Kept.{Kept}
use Rattle.part_codec.specs.declared.fields.Open.{Open}
use Rattle.part_codec.specs.declared.fields.Open.TheVariants as opens
use Rattle.part_codec.specs.declared.fields.TheConstants.{TRAILER}
use Rattle.part_text.specs.declared.encode.TheConstants.{MAX_BLOCK, MAX_LEAF}
use Rattle.part_text.specs.PartLayout.{is_sharded, some_sharded}
use Rattle.ident_core.specs.declared.layout.TheConstants.{RANGE_BYTES}
use Rattle.part_codec.specs.Remaining.{Seen, with_leaf, shards_of, column_of, mixed_of, kept_range, kept_leaves, kept_ranges, kept_issuers, kept_shift, kept_leaf_mode, kept_mode}
use Rattle.part_codec.specs.Stepping.{in_front, skips, tail_of, width_of, passes, is_padded_last, passes_last, seen_mode, seen_leaf_mode, kept_after, seen_after}
use Rattle.part_codec.specs.Stepping.{open_range, open_block, open_leaf, open_mode, open_approx, open_plane, open_after, settled, wrong_of}
use Rattle.part_codec.specs.Stepping.{AreStarts, IsShift, AreLimits, InBlock, InLeaf, IsOpen, Counts, Passed, still, plane_most, behind_ranges, behind_block, behind_leaf}
use Rattle.part_codec.proofs.MachineLaws.{leaf-mode}
use Rattle.octets_core.specs.declared.fault.Why.TheVariants as why
use Rattle.part_text.proofs.PlaneBytes.{padded-by_last}

-- ---- the last word of a plane

last-chunk : (n : ℕ) (p : List ℕ) → length p ≡ 8 * suc n → get_or (first_chunks 8 (suc n) p) n [] ≡ drop (8 * n) p
last-chunk zero p len = take_all 8 p (omega (arith, len))
last-chunk (suc n) p len =
    let e : 8 + 8 * n ≡ 8 * suc n = omega arith in
    last-chunk n (drop 8 p) (omega (arith, len, length-drop 8 p)) ∙ drop-drop (8 * n) 8 p ∙ ap (λ (k : ℕ). drop k p) e

padded-last : (starts : ℕ) (p : List ℕ) → IsBytes p → AreStarts starts → length p ≡ 8 * words_for starts → is_padded_last starts (drop (8 * (words_for starts - 1)) p) ≡ is_padded starts p
padded-last starts p fits bounds len =
    let n : ℕ = words_for starts - 1 in
    padded-by_last starts n (starts + 127 - 64 * n) (from_be_bytes w64 (drop (8 * n) p)) p fits (omega (arith, bounds.0)) (omega (arith, bounds.0)) (ap (from_be_bytes w64) (sym (last-chunk n p
    (omega (arith, len, bounds.0)))))

-- ---- what is held tells of the whole field

pub width-parts : (o : Open) (k : Kept) → AreStarts k.starts → skips o k + tail_of o ≡ width_of o k
width-parts opens.ApproxPlane k bounds = omega (arith, bounds.0)
width-parts opens.ExactPlane k bounds = omega (arith, bounds.0)
width-parts o k bounds = refl

pub last-passes : (o : Open) (k : Kept) (sum p : List ℕ) → IsBytes p → AreStarts k.starts → length p ≡ width_of o k → passes_last o k sum (drop (skips o k) p) ≡ passes o k sum p
last-passes opens.ApproxPlane k sum p fits bounds len = padded-last k.starts p fits bounds len
last-passes opens.ExactPlane k sum p fits bounds len = padded-last k.starts p fits bounds len
last-passes o k sum p fits bounds len = refl

pub kept-last : (o : Open) (k : Kept) (p : List ℕ) → kept_after o k (drop (skips o k) p) ≡ kept_after o k p
kept-last opens.ApproxPlane k p = refl
kept-last opens.ExactPlane k p = refl
kept-last o k p = refl

-- what its bytes tell
pub passed-of : (o : Open) (k : Kept) (sum p : List ℕ) → AreLimits o (drop (skips o k) p) → passes o k sum p ≡ true → length p ≡ width_of o k → Passed o k p
passed-of opens.ApproxPlane k sum p limits passed len = (passed, len)
passed-of opens.ExactPlane k sum p limits passed len = (passed, len)
passed-of o k sum p limits passed len = limits

-- but for the trailer its fault is that of its value
pub wrong-front : (o : Open) → in_front o ≡ true → wrong_of o ≡ why.Value
wrong-front opens.Trailer front = absurd cc
wrong-front o front = refl

pub front-goes : (o : Open) → in_front o ≡ true → o ≡ opens.Done → ⊥
front-goes o front is = let h : in_front opens.Done ≡ true = subst (λ (q : Open). in_front q ≡ true) is front in cc

-- the limits of what is held are those of the whole field
pub limits-whole : (o : Open) (k : Kept) (p : List ℕ) → AreLimits o (drop (skips o k) p) → AreLimits o p
limits-whole opens.ApproxPlane k p limits = tt
limits-whole opens.ExactPlane k p limits = tt
limits-whole o k p limits = limits

-- ---- counts

or-false : (a : Bool) → (a || false) ≡ a
or-false true = refl
or-false false = refl

abbrev block_made : Kept → Body → Block
block_made k body = record { issuer = k.key; body = body }

-- whether one of the blocks is sharded, with one more
some-more : (k : Kept) (s : Seen) (body : Body) (was is : Bool) → was ≡ some_sharded s.blocks → is ≡ is_sharded body → (was || is) ≡ some_sharded (s.blocks ++ block_made k body ∷ [])
some-more k s body was is before one =
    ap (λ (x : Bool). x || is) before ∙ ap (λ (x : Bool). some_sharded s.blocks || x) (one ∙ sym (or-false (is_sharded body)))
    ∙ sym (list_any-append (λ (b : Block). is_sharded b.body) s.blocks (block_made k body ∷ []))

leaf-alone : (l : Leaf) → false ≡ is_sharded (as_body l)
leaf-alone leaves_of.Clean = refl
leaf-alone leaves_of.Every = refl
leaf-alone (leaves_of.Mixed m) = refl

counts-leaf : (shift n : ℕ) (k : Kept) (s : Seen) (l : Leaf) → k.shift ≡ shift → k.leaves - 1 ≡ n → (shift ≡ 0 → k.leaves ≡ 1) → 1 ≤ k.left → Counts k s
    → Counts (kept_leaves n k) (with_leaf shift n k.key s l)
counts-leaf zero zero k s l at is one opened c = record {
  ranges = c.ranges;
  blocks = omega (arith, opened, c.blocks, length-append s.blocks (block_made k (as_body l) ∷ []));
  leaves = λ some left. absurd (omega (arith, left));
  sharded = some-more k s (as_body l) k.sharded (nat_lt 0 k.shift) c.sharded (ap (nat_lt 0) at ∙ leaf-alone l);
}
counts-leaf zero (suc n) k s l at is one opened c = absurd (omega (arith, is, one refl))
counts-leaf (suc m) zero k s l at is one opened c = record {
  ranges = c.ranges;
  blocks = omega (arith, opened, c.blocks, length-append s.blocks (block_made k (shards_of (suc m) (s.leaves ++ l ∷ [])) ∷ []));
  leaves = λ some left. absurd (omega (arith, left));
  sharded = some-more k s (shards_of (suc m) (s.leaves ++ l ∷ [])) k.sharded (nat_lt 0 k.shift) c.sharded (lt-ltb 0 k.shift (omega (arith, at)));
}
counts-leaf (suc m) (suc n) k s l at is one opened c = record {
  ranges = c.ranges;
  blocks = c.blocks;
  leaves = λ some left. omega (arith, is, c.leaves some (omega (arith, is)), length-append s.leaves (l ∷ []));
  sharded = c.sharded;
}

counts-leaf_mode : (mode : ℕ) (k : Kept) (s : Seen) → (k.shift ≡ 0 → k.leaves ≡ 1) → 1 ≤ k.left → Counts k s → Counts (kept_leaf_mode mode k) (seen_leaf_mode mode k s)
counts-leaf_mode zero k s one opened c =
    counts-leaf k.shift (k.leaves - 1) (record k { mode = 0 }) s leaves_of.Clean refl refl one opened (record { ranges = c.ranges; blocks = c.blocks; leaves = c.leaves; sharded = c.sharded })
counts-leaf_mode (suc zero) k s one opened c =
    counts-leaf k.shift (k.leaves - 1) (record k { mode = 1 }) s leaves_of.Every refl refl one opened (record { ranges = c.ranges; blocks = c.blocks; leaves = c.leaves; sharded = c.sharded })
counts-leaf_mode (suc (suc n)) k s one opened c = record { ranges = c.ranges; blocks = c.blocks; leaves = c.leaves; sharded = c.sharded }

counts-mode : (mode : ℕ) (k : Kept) (s : Seen) → 1 ≤ k.left → Counts k s → Counts (kept_mode mode k) (seen_mode mode k s)
counts-mode zero k s opened c = record {
  ranges = c.ranges;
  blocks = omega (arith, opened, c.blocks, length-append s.blocks (block_made k bodies.Clean ∷ []));
  leaves = λ some left. absurd (omega (arith, some));
  sharded = some-more k s bodies.Clean k.sharded false c.sharded refl;
}
counts-mode (suc zero) k s opened c = record {
  ranges = c.ranges;
  blocks = omega (arith, opened, c.blocks, length-append s.blocks (block_made k bodies.Every ∷ []));
  leaves = λ some left. absurd (omega (arith, some));
  sharded = some-more k s bodies.Every k.sharded false c.sharded refl;
}
counts-mode (suc (suc zero)) k s opened c = record { ranges = c.ranges; blocks = c.blocks; leaves = λ some left. absurd (omega (arith, some)); sharded = c.sharded }
counts-mode (suc (suc (suc n))) k s opened c = record { ranges = c.ranges; blocks = c.blocks; leaves = λ some left. absurd (omega (arith, some)); sharded = c.sharded }

pub counts-steps : (o : Open) (k : Kept) (s : Seen) (p : List ℕ) → IsOpen o k → Counts k s → Counts (kept_after o k p) (seen_after o k s p)
counts-steps opens.Ranges k s p opened c = record { ranges = omega arith; blocks = c.blocks; leaves = c.leaves; sharded = c.sharded }
counts-steps opens.RangeTo k s p opened c = record {
  ranges = omega (arith, opened, c.ranges, length-append s.ranges (record { log = k.key; from = k.from; to = from_be_bytes w64 p } ∷ []));
  blocks = c.blocks;
  leaves = c.leaves;
  sharded = c.sharded;
}
counts-steps opens.Issuers k s p opened c = record { ranges = c.ranges; blocks = omega arith; leaves = c.leaves; sharded = refl }
counts-steps opens.BlockMode k s p opened c = counts-mode (from_be_bytes w8 p) k s opened.0 c
counts-steps opens.BlockShift k s p opened c = record { ranges = c.ranges; blocks = c.blocks; leaves = λ some left. omega arith; sharded = c.sharded }
counts-steps opens.ShardMode k s p opened c = counts-leaf_mode (from_be_bytes w8 p) k s opened.0.3 opened.0.0.0 c
counts-steps opens.ExactPlane k s p opened c =
    counts-leaf k.shift (k.leaves - 1) k s (mixed_of k (record s { columns = column_of k p ∷ [] })) refl refl opened.3 opened.0.0 c
counts-steps o k s p opened c = record { ranges = c.ranges; blocks = c.blocks; leaves = c.leaves; sharded = c.sharded }

opened-range : (n : ℕ) (k : Kept) → k.ranges_left ≡ n → IsOpen (open_range n) k
opened-range zero k is = is
opened-range (suc n) k is = omega (arith, is)

opened-block : (n : ℕ) (k : Kept) → k.left ≡ n → k.ranges_left ≡ 0 → IsOpen (open_block n) k
opened-block zero k is none = (is, none)
opened-block (suc n) k is none = (omega (arith, is), none)

opened-approx : (n : ℕ) (k : Kept) → InLeaf k → IsOpen (open_approx n) k
opened-approx zero k some = some
opened-approx (suc n) k some = some

opened-plane : (n : ℕ) (k : Kept) → InLeaf k → IsOpen (open_plane n) k
opened-plane zero k some = some
opened-plane (suc n) k some = some

opened-mode : (mode : ℕ) (k : Kept) → InBlock k → IsOpen (open_mode (kept_mode mode k).mode (kept_mode mode k).leaves (kept_mode mode k).left) (kept_mode mode k)
opened-mode zero k some = opened-block (k.left - 1) (kept_mode 0 k) refl some.1
opened-mode (suc zero) k some = opened-block (k.left - 1) (kept_mode 1 k) refl some.1
opened-mode (suc (suc zero)) k some = ((some.0, some.1), omega arith, omega arith, λ none. refl)
opened-mode (suc (suc (suc n))) k some = (some.0, some.1)

-- where a leaf is left the block is sharded
shift-some : (shift leaves n : ℕ) → (shift ≡ 0 → leaves ≡ 1) → leaves - 1 ≡ suc n → 1 ≤ shift
shift-some zero leaves n one is = absurd (omega (arith, one refl, is))
shift-some (suc m) leaves n one is = omega arith

not-alone : (shift n : ℕ) → 1 ≤ shift → shift ≡ 0 → n ≡ 1
not-alone shift n some none = absurd (omega (arith, some, none))

opened-leaf : (n : ℕ) (k : Kept) → k.leaves - 1 ≡ n → InLeaf k → IsOpen (open_leaf (kept_leaves n k).leaves (kept_leaves n k).left) (kept_leaves n k)
opened-leaf zero k is some = opened-block (k.left - 1) (kept_leaves 0 k) refl some.0.1
opened-leaf (suc n) k is some =
    let cut : 1 ≤ k.shift = shift-some k.shift k.leaves n some.3 is in
    (((some.0.0, some.0.1), omega arith, some.2, not-alone k.shift (suc n) cut), cut)

opened-leaf_mode : (mode : ℕ) (k : Kept) → InLeaf k
    → IsOpen (open_mode (kept_leaf_mode mode k).mode (kept_leaf_mode mode k).leaves (kept_leaf_mode mode k).left) (kept_leaf_mode mode k)
opened-leaf_mode zero k some =
    subst (λ (m : ℕ). IsOpen (open_mode m (kept_leaf_mode 0 k).leaves (kept_leaf_mode 0 k).left) (kept_leaf_mode 0 k)) (sym (leaf-mode (k.leaves - 1) (record k { mode = 0 })))
    (opened-leaf (k.leaves - 1) (record k { mode = 0 }) refl some)
opened-leaf_mode (suc zero) k some =
    subst (λ (m : ℕ). IsOpen (open_mode m (kept_leaf_mode 1 k).leaves (kept_leaf_mode 1 k).left) (kept_leaf_mode 1 k)) (sym (leaf-mode (k.leaves - 1) (record k { mode = 1 })))
    (opened-leaf (k.leaves - 1) (record k { mode = 1 }) refl some)
opened-leaf_mode (suc (suc n)) k some = some

opened-shift : (n : ℕ) (k : Kept) → IsShift n → InBlock k → IsOpen opens.ShardMode (kept_shift k n)
opened-shift n k shift some =
    ((some, omega (arith, pow_pos n), shift.1, not-alone n (2 ^ n) shift.0), shift.0)

pub opened-steps : (o : Open) (k : Kept) (p : List ℕ) → AreLimits o p → IsOpen o k → IsOpen (open_after o (kept_after o k p)) (kept_after o k p)
opened-steps opens.Magic k p limits opened = tt
opened-steps opens.Version k p limits opened = tt
opened-steps opens.Kind k p limits opened = tt
opened-steps opens.Epoch k p limits opened = tt
opened-steps opens.Parent k p limits opened = tt
opened-steps opens.Ranges k p limits opened = opened-range (from_be_bytes w16 p) (kept_ranges k (from_be_bytes w16 p)) refl
opened-steps opens.RangeTo k p limits opened = opened-range (k.ranges_left - 1) (kept_range (record k { to = from_be_bytes w64 p })) refl
opened-steps opens.Issuers k p limits opened = opened-block (from_be_bytes w32 p) (kept_issuers k (from_be_bytes w32 p)) refl opened
opened-steps opens.BlockMode k p limits opened = opened-mode (from_be_bytes w8 p) k opened
opened-steps opens.BlockShift k p limits opened = opened-shift (from_be_bytes w8 p) k limits opened
opened-steps opens.ShardMode k p limits opened = opened-leaf_mode (from_be_bytes w8 p) k opened.0
opened-steps opens.BlockK k p limits opened = opened-approx (from_be_bytes w8 p) (record k { planes = from_be_bytes w8 p }) opened
opened-steps opens.ApproxStarts k p limits opened = opened-plane k.planes (record k { starts = from_be_bytes w32 p }) opened
opened-steps opens.ApproxPlane k p limits opened = opened-plane (k.planes - 1) (record k { planes = k.planes - 1 }) opened
opened-steps opens.ExactPlane k p limits opened = opened-leaf (k.leaves - 1) k refl opened
opened-steps o k p limits opened = opened

-- ---- what is still to come grows less by each field

still-range : (n : ℕ) (k : Kept) → k.ranges_left ≡ n → still (open_range n) k ≤ RANGE_BYTES * n + behind_ranges
still-range zero k is = omega arith
still-range (suc n) k is = omega (arith, is)

still-block : (n : ℕ) (k : Kept) → k.left ≡ n → still (open_block n) k ≤ MAX_BLOCK * n + TRAILER
still-block zero k is = omega arith
still-block (suc n) k is = omega (arith, is)

still-leaf : (n : ℕ) (k : Kept) → still (open_leaf (kept_leaves n k).leaves (kept_leaves n k).left) (kept_leaves n k) ≤ MAX_LEAF * n + behind_block k
still-leaf zero k = omega (arith, still-block (k.left - 1) (kept_leaves 0 k) refl)
still-leaf (suc n) k = omega arith

still-leaf_mode : (mode : ℕ) (k : Kept)
    → still (open_mode (kept_leaf_mode mode k).mode (kept_leaf_mode mode k).leaves (kept_leaf_mode mode k).left) (kept_leaf_mode mode k) + 1 ≤ MAX_LEAF + behind_leaf k
still-leaf_mode zero k =
    subst (λ (m : ℕ). still (open_mode m (kept_leaf_mode 0 k).leaves (kept_leaf_mode 0 k).left) (kept_leaf_mode 0 k) + 1 ≤ MAX_LEAF + behind_leaf k)
    (sym (leaf-mode (k.leaves - 1) (record k { mode = 0 }))) (omega (arith, still-leaf (k.leaves - 1) (record k { mode = 0 })))
still-leaf_mode (suc zero) k =
    subst (λ (m : ℕ). still (open_mode m (kept_leaf_mode 1 k).leaves (kept_leaf_mode 1 k).left) (kept_leaf_mode 1 k) + 1 ≤ MAX_LEAF + behind_leaf k)
    (sym (leaf-mode (k.leaves - 1) (record k { mode = 1 }))) (omega (arith, still-leaf (k.leaves - 1) (record k { mode = 1 })))
still-leaf_mode (suc (suc n)) k = omega arith

still-shift : (n : ℕ) (k : Kept) → IsShift n → still opens.ShardMode (kept_shift k n) + 1 ≤ still opens.BlockShift k
still-shift n k shift =
    let most : 2 ^ n ≤ 2 ^ 8 = pow_mono shift.1 in
    omega (arith, pow_pos n, most)

still-approx : (n : ℕ) (k : Kept) → k.planes ≡ n → still (open_approx n) k ≤ 10 + plane_most * (n + 1) + behind_leaf k
still-approx zero k is = omega arith
still-approx (suc n) k is = omega (arith, is)

still-plane : (n : ℕ) (k : Kept) → k.planes ≡ n → still (open_plane n) k ≤ 5 + plane_most * (n + 1) + behind_leaf k
still-plane zero k is = omega arith
still-plane (suc n) k is = omega (arith, is)

still-mode : (mode : ℕ) (k : Kept) → still (open_mode (kept_mode mode k).mode (kept_mode mode k).leaves (kept_mode mode k).left) (kept_mode mode k) + 1 ≤ MAX_BLOCK - 32 + behind_block k
still-mode zero k = omega (arith, still-block (k.left - 1) (kept_mode 0 k) refl)
still-mode (suc zero) k = omega (arith, still-block (k.left - 1) (kept_mode 1 k) refl)
still-mode (suc (suc zero)) k = omega arith
still-mode (suc (suc (suc n))) k = omega arith

wide : (starts : ℕ) → AreStarts starts → 8 * words_for starts ≤ plane_most
wide starts bounds = omega (arith, bounds.1)

still-steps : (o : Open) (k : Kept) (p : List ℕ) → AreLimits o p → AreStarts k.starts → still (open_after o (kept_after o k p)) (kept_after o k p) + width_of o k ≤ still o k
still-steps opens.Ranges k p limits starts = omega (arith, limits, still-range (from_be_bytes w16 p) (kept_ranges k (from_be_bytes w16 p)) refl)
still-steps opens.RangeTo k p limits starts = omega (arith, still-range (k.ranges_left - 1) (kept_range (record k { to = from_be_bytes w64 p })) refl)
still-steps opens.Issuers k p limits starts = omega (arith, limits, still-block (from_be_bytes w32 p) (kept_issuers k (from_be_bytes w32 p)) refl)
still-steps opens.BlockMode k p limits starts = still-mode (from_be_bytes w8 p) k
still-steps opens.BlockShift k p limits starts = still-shift (from_be_bytes w8 p) k limits
still-steps opens.ShardMode k p limits starts = still-leaf_mode (from_be_bytes w8 p) k
still-steps opens.BlockK k p limits starts = omega (arith, limits, still-approx (from_be_bytes w8 p) (record k { planes = from_be_bytes w8 p }) refl)
still-steps opens.ApproxStarts k p limits starts = omega (arith, still-plane k.planes (record k { starts = from_be_bytes w32 p }) refl)
still-steps opens.ApproxPlane k p limits starts = omega (arith, wide k.starts starts, still-plane (k.planes - 1) (record k { planes = k.planes - 1 }) refl)
still-steps opens.ExactPlane k p limits starts = omega (arith, wide k.starts starts, still-leaf (k.leaves - 1) k)
still-steps o k p limits starts = omega arith

starts-mode : (mode : ℕ) (k : Kept) → AreStarts k.starts → AreStarts (kept_mode mode k).starts
starts-mode zero k starts = starts
starts-mode (suc zero) k starts = starts
starts-mode (suc (suc zero)) k starts = starts
starts-mode (suc (suc (suc n))) k starts = starts

pub leaf-starts : (n : ℕ) (k : Kept) → (kept_leaves n k).starts ≡ k.starts
leaf-starts zero k = refl
leaf-starts (suc n) k = refl

starts-leaf_mode : (mode : ℕ) (k : Kept) → AreStarts k.starts → AreStarts (kept_leaf_mode mode k).starts
starts-leaf_mode zero k starts = rw (leaf-starts (k.leaves - 1) (record k { mode = 0 })) starts
starts-leaf_mode (suc zero) k starts = rw (leaf-starts (k.leaves - 1) (record k { mode = 1 })) starts
starts-leaf_mode (suc (suc n)) k starts = starts

pub starts-steps : (o : Open) (k : Kept) (p : List ℕ) → AreLimits o p → AreStarts k.starts → AreStarts (kept_after o k p).starts
starts-steps opens.BlockMode k p limits starts = starts-mode (from_be_bytes w8 p) k starts
starts-steps opens.ShardMode k p limits starts = starts-leaf_mode (from_be_bytes w8 p) k starts
starts-steps opens.ApproxStarts k p limits starts = limits
starts-steps opens.ExactStarts k p limits starts = limits
starts-steps opens.ExactPlane k p limits starts = rw (leaf-starts (k.leaves - 1) k) starts
starts-steps o k p limits starts = starts

pub room-steps : (o : Open) (k : Kept) (p : List ℕ) → AreLimits o p → AreStarts k.starts → still (open_after o (kept_after o k p)) (kept_after o k p) + (skips o k + tail_of o) ≤ still o k
room-steps o k p limits starts = omega (arith, width-parts o k starts, still-steps o k p limits starts)

-- the field that the next byte is of has one, or it is behind the last
pub some-settled : (o : Open) → (settled o ≡ opens.Done → ⊥) → 0 < tail_of (settled o)
some-settled opens.Done goes = absurd (goes refl)
some-settled o goes = omega arith

pub none-left : (o : Open) (filled : ℕ) → ((o ≡ opens.Done → ⊥) → filled < tail_of o) → tail_of o ≤ 0 → o ≡ opens.Done
none-left opens.Done filled partial le = refl
none-left opens.Sharded filled partial le = absurd (omega (arith, partial (λ is. cc)))
none-left o filled partial le = absurd (omega arith)
