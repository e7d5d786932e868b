-- A leaf and a block that the definitions allow fit the fields of a part's layout.
use Rattle.std.proofs.Common.{◌≡◌, ℕ, suc, ◌+◌, ◌-◌, ◌/◌, ◌%◌, ◌^◌, ◌<◌, ◌≤◌, Bool, true, false, not, cond, List, [], ◌∷◌}
use Rattle.std.proofs.Common.{length, map, get_or, Option, Some, None, sym, ap, ◌∙◌, subst, arith}
use Rattle.std.specs.Prelude.{bit_and, ◌==◌}
use Rattle.std.specs.List.{All, filter}
use Rattle.std.proofs.lemmas.Nat.{div-mul-add, mod-pow-add, mod_below, pow_pos}
use Rattle.std.proofs.Math.Pow.{mod-mod-pow}
use Rattle.std.proofs.lemmas.List.Elements.{All-append, All-from_get_or, All-map}
use Rattle.std.proofs.lemmas.List.Sums.{count_by-le-length, length-filter}
use Rattle.ident_core.specs.declared.identity.Identity.{Identity}
use Rattle.equation_core.specs.Rows.{IsRow, Rows, sha256_row}
use Rattle.equation_core.specs.RowLaws.{sha256_row-is}
use Rattle.equation_core.specs.Shards.{shard}
use Rattle.equation_core.specs.Sizes.{columns_for, starts_for}
use Rattle.ribbon_core.specs.Equations.{Equation, Least, SolvesAll, parity, sum_of}
use Rattle.ribbon_core.specs.Rows.{equation_with}
use Rattle.ribbon_core.proofs.LeastLaws.{least_le}
use Rattle.ribbon_core.proofs.Window.{parity_mod}
use Rattle.card_core.specs.declared.stage.Stage.{Stage}
use Rattle.card_core.specs.declared.block.Block.{Block}
use Rattle.card_core.specs.declared.leaf.Leaf.{Leaf}
use Rattle.card_core.specs.declared.leaf.Leaf.TheVariants as leafs
use Rattle.card_core.specs.declared.block.Body.{Body}
use Rattle.card_core.specs.declared.block.Body.TheVariants as bodies
use Rattle.card_core.specs.MixedFields.{MixedFields}
use Rattle.card_core.specs.Leaf.{IsStage, approx_equations, exact_equations, passes, IsApproxIfAny, false_positives, IsLeaf, IsMixed, flagged}
use Rattle.card_core.specs.ShardedFields.{ShardedFields}
use Rattle.card_core.specs.Filter.{cut, filter_of, in_shard, IsFilter}
use Rattle.part_text.specs.Fitting.{StageFits, FirstFits, MixedFits, LeafFits, ShardsFit, BodyFits, BlockFits}
use Rattle.universe_core.specs.Groups.{GroupFields}
use Rattle.builder_core.specs.declared.format.Format.{Format}
use Rattle.builder_core.specs.Building.{shift_in, IsGroupBlock}
use Rattle.builder_core.proofs.TaskLists.{cut_few}

-- the 128 columns from one of the first columns on are the same in a remainder
window_of_columns : (Z start columns : ℕ) → start + 128 ≤ columns → Z % 2 ^ columns / 2 ^ start % 2 ^ 128 ≡ Z / 2 ^ start % 2 ^ 128
window_of_columns Z start columns le =
    let more : ℕ = columns - start - 128 in
    let e : columns ≡ (more + 128) + start = omega arith in
    let low : Z % 2 ^ start < 2 ^ start = mod_below Z (2 ^ start) (pow_pos start) in
    let high : Z % 2 ^ ((more + 128) + start) / 2 ^ start ≡ Z / 2 ^ start % 2 ^ (more + 128)
    = ap (λ (n : ℕ). n / 2 ^ start) (mod-pow-add Z (more + 128) start) ∙ div-mul-add (Z / 2 ^ start % 2 ^ (more + 128)) (2 ^ start) (Z % 2 ^ start) low in
    ap (λ (n : ℕ). Z % 2 ^ n / 2 ^ start % 2 ^ 128) e ∙ ap (λ (n : ℕ). n % 2 ^ 128) high ∙ mod-mod-pow (Z / 2 ^ start) more 128

-- an equation that begins at one of the starts takes no column behind the last one
sum_within : (e : Equation) (starts Z : ℕ) → e.start < starts → e.coeff < 2 ^ 128 → sum_of e (Z % 2 ^ columns_for starts) ≡ sum_of e Z
sum_within e starts Z lt wide =
    sym (parity_mod 128 e.coeff (Z % 2 ^ columns_for starts / 2 ^ e.start) wide)
    ∙ ap (λ (n : ℕ). parity (bit_and e.coeff n)) (window_of_columns Z e.start (columns_for starts) (omega arith))
    ∙ parity_mod 128 e.coeff (Z / 2 ^ e.start) wide

solved_within : (plane : ℕ) (es : List Equation) (starts Z : ℕ) → All (λ e. (e.start < starts) × (e.coeff < 2 ^ 128)) es → SolvesAll plane es Z → SolvesAll plane es (Z % 2 ^ columns_for starts)
solved_within plane es starts Z within s k d lt =
    let at : ((get_or es k d).start < starts) × ((get_or es k d).coeff < 2 ^ 128) = within k d lt in
    sum_within (get_or es k d) starts Z at.0 at.1 ∙ s k d lt

-- a least solution has no column behind the last one
pub least_fits : (plane : ℕ) (es : List Equation) (starts Z : ℕ) → All (λ e. (e.start < starts) × (e.coeff < 2 ^ 128)) es → Least plane es Z → Z < 2 ^ columns_for starts
least_fits plane es starts Z within l =
    let lt : Z % 2 ^ columns_for starts < 2 ^ columns_for starts = mod_below Z (2 ^ columns_for starts) (pow_pos (columns_for starts)) in
    let le : Z ≤ Z % 2 ^ columns_for starts = least_le plane es Z (Z % 2 ^ columns_for starts) l (solved_within plane es starts Z within l.0) in
    omega (arith, lt, le)

pub rows_are_rows : (stage seed : ℕ) (id : Identity) (starts : ℕ) → 1 ≤ starts → IsRow starts (sha256_row stage seed id starts)
rows_are_rows = sha256_row-is

stage_fits : (equations : ℕ → List Equation) (starts planes : ℕ) (s : Stage) → 1 ≤ starts → starts ≤ 4718593 → ((seed : ℕ) → All (λ e. (e.start < starts) × (e.coeff < 2 ^ 128)) (equations seed))
    → IsStage equations starts planes s → StageFits s
stage_fits equations starts planes s some few within h = record {
  seed = h.below;
  planes = record {
    some_starts = rw h.size some;
    few_starts = rw h.size few;
    padding = All-from_get_or (λ Z. Z < 2 ^ columns_for s.planes.starts) s.planes.columns 0
        (λ p lt.
        let at : p < planes = omega (arith, h.count) in
        rw h.size (least_fits p (equations s.seed) starts (get_or s.planes.columns p 0) (within s.seed) (h.least p at)));
  };
}

-- at most 4,194,304 keys have at most 4,718,593 starts
starts_few : (keys : ℕ) → keys ≤ 4194304 → starts_for keys ≤ 4718593
starts_few keys le = omega arith

starts_some : (keys : ℕ) → 1 ≤ starts_for keys
starts_some keys = omega arith

filtered_few : (p : Identity → Bool) (xs : List Identity) → length (filter p xs) ≤ length xs
filtered_few p xs = omega (arith, length-filter p xs, count_by-le-length p xs)

module _ (rows : Rows) (formed : (stage seed : ℕ) (id : Identity) (starts : ℕ) → 1 ≤ starts → IsRow starts (rows stage seed id starts)) where
  -- the equations of rows begin at one of the starts
  mapped_within : (targets : Identity → ℕ) (stage seed starts : ℕ) (xs : List Identity) → 1 ≤ starts
      → All (λ e. (e.start < starts) × (e.coeff < 2 ^ 128)) (map (λ x. equation_with (targets x) (rows stage seed x starts)) xs)
  mapped_within targets stage seed starts xs some =
      All-map (λ e. (e.start < starts) × (e.coeff < 2 ^ 128)) (λ x. equation_with (targets x) (rows stage seed x starts)) xs
      (λ k d lt. let r = formed stage seed (get_or xs k d) starts some in (r.start, r.wide))

  approx_within : (revoked : List Identity) (seed : ℕ) → All (λ e. (e.start < starts_for (length revoked)) × (e.coeff < 2 ^ 128)) (approx_equations rows revoked seed)
  approx_within revoked seed =
      let starts : ℕ = starts_for (length revoked) in
      mapped_within (λ x. (rows 1 seed x starts).tag) 1 seed starts revoked (starts_some (length revoked))

  exact_within : (revoked passed : List Identity) (seed : ℕ) → All (λ e. (e.start < starts_for (length revoked + length passed)) × (e.coeff < 2 ^ 128)) (exact_equations rows revoked passed seed)
  exact_within revoked passed seed =
      let keys : ℕ = length revoked + length passed in
      let starts : ℕ = starts_for keys in
      All-append (λ e. (e.start < starts) × (e.coeff < 2 ^ 128)) (map (λ x. equation_with 1 (rows 2 seed x starts)) revoked) (map (λ x. equation_with 0 (rows 2 seed x starts)) passed)
      (mapped_within (λ x. 1) 2 seed starts revoked (starts_some keys))
      (mapped_within (λ x. 0) 2 seed starts passed (starts_some keys))

  approx_fits : (revoked others : List Identity) (approx : Option Stage) → length revoked ≤ 4194304 → IsApproxIfAny rows revoked others approx → FirstFits approx
  approx_fits revoked others None few h = tt
  approx_fits revoked others (Some s) few h =
      let keys : ℕ = length revoked in
      record {
        stage = stage_fits (approx_equations rows revoked) (starts_for keys) (length s.planes.columns) s (starts_some keys) (starts_few keys few) (approx_within revoked) h.stage;
        some = h.some;
        few = h.width.most;
      }

  mixed_fits : (revoked others : List Identity) (m : MixedFields) → length revoked + length others ≤ 4194304 → IsMixed rows revoked others m → MixedFits m
  mixed_fits revoked others m few h =
      let passed : List Identity = false_positives rows m.approx others in
      let keys : ℕ = length revoked + length passed in
      let le : keys ≤ 4194304 = omega (arith, filtered_few (passes rows m.approx) others) in
      record {
        approx = approx_fits revoked others m.approx (omega arith) h.approx;
        exact = stage_fits (exact_equations rows revoked passed) (starts_for keys) 1 m.exact (starts_some keys) (starts_few keys le) (exact_within revoked passed) h.exact;
        one = h.exact.count;
      }

  leaf_fits : (revoked others : List Identity) (leaf : Leaf) → length revoked + length others ≤ 4194304 → IsLeaf rows revoked others leaf → LeafFits leaf
  leaf_fits revoked others leafs.Clean few h = tt
  leaf_fits revoked others leafs.Every few h = tt
  leaf_fits revoked others (leafs.Mixed m) few h = mixed_fits revoked others m few h

-- a leaf of at most 4,194,304 identities has a text
leaves_have_texts : (revoked others : List Identity) (leaf : Leaf) → length revoked + length others ≤ 4194304 → IsLeaf sha256_row revoked others leaf → LeafFits leaf
leaves_have_texts = leaf_fits sha256_row rows_are_rows

parted : (f : Bool) (x : Identity) (a b : List Identity) (n : ℕ) → length a + length b ≤ n → length (cond f (x ∷ a) a) + length (cond (not f) (x ∷ b) b) ≤ suc n
parted true x a b n h = omega arith
parted false x a b n h = omega arith

-- no identity is flagged both ways
flagged_few : (xs : List Identity) (fs : List Bool) → length (flagged xs fs) + length (flagged xs (map not fs)) ≤ length xs
flagged_few [] fs = omega arith
flagged_few (x ∷ xs) [] = omega arith
flagged_few (x ∷ xs) (f ∷ fs) = parted f x (flagged xs fs) (flagged xs (map not fs)) (length xs) (flagged_few xs fs)

-- ---- the body of a block

-- a shard has no more identities than all
shards_fit : (shift : ℕ) (revoked others : List Identity) (s : ShardedFields) → shift ≤ 8 → length revoked + length others ≤ 4194304
    → IsFilter sha256_row shift revoked others (cut s.shift s.leaves) → ShardsFit s
shards_fit shift revoked others s bits few h = record {
  facts = record {
    some = subst (λ n. 1 ≤ n) (sym h.1) h.0;
    few = subst (λ n. n ≤ 8) (sym h.1) bits;
    count = h.2.count ∙ ap (λ n. 2 ^ n) (sym h.1);
  };
  leaves = All-from_get_or LeafFits s.leaves leafs.Clean
      (λ k lt. leaves_have_texts (in_shard shift k revoked) (in_shard shift k others) (get_or s.leaves k leafs.Clean)
      (omega (arith, few, filtered_few (λ x. shard x shift == k) revoked, filtered_few (λ x. shard x shift == k) others))
      (h.2.each k leafs.Clean (subst (λ n. k < n) h.2.count lt)));
}

body_fits : (shift : ℕ) (revoked others : List Identity) (body : Body) → shift ≤ 8 → length revoked + length others ≤ 4194304
    → IsFilter sha256_row shift revoked others (filter_of body) → BodyFits body
body_fits shift revoked others bodies.Clean bits few h = tt
body_fits shift revoked others bodies.Every bits few h = tt
body_fits shift revoked others (bodies.Mixed m) bits few h = leaves_have_texts revoked others (leafs.Mixed m) few h.1
body_fits shift revoked others (bodies.Sharded s) bits few h = shards_fit shift revoked others s bits few h

-- and so has the block of a group
pub blocks_have_texts : (format : Format) (g : GroupFields) (block : Block) → length g.issuer ≡ 32 → length g.universe ≤ 4194304
    → IsGroupBlock format sha256_row g block → BlockFits block
blocks_have_texts format g block key few h = record {
  issuer = ap length h.0 ∙ key;
  body = body_fits (shift_in format g) (flagged g.universe g.revoked) (flagged g.universe (map not g.revoked)) block.body (cut_few format g)
      (omega (arith, few, flagged_few g.universe g.revoked)) h.1;
}
