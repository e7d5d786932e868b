-- A filter of leaves is exact on its universe, and the only one.
use Rattle.std.proofs.Common.{◌≡◌, ◌<◌, ◌^◌, ℕ, zero, suc, nat_eq, List, get_or, refl, sym, ap, ◌∙◌, subst, arith, eq-eqb}
use Rattle.std.specs.List.{Contains}
use Rattle.std.proofs.lemmas.List.{same_lists}
use Rattle.ident_core.specs.declared.identity.Identity.{Identity}
use Rattle.equation_core.specs.Rows.{Rows}
use Rattle.equation_core.specs.Shards.{shard}
use Rattle.equation_core.proofs.Cutting.{shard_below}
use Rattle.card_core.specs.declared.leaf.Leaf.{Leaf}
use Rattle.card_core.specs.declared.leaf.Leaf.TheVariants.{Clean}
use Rattle.card_core.specs.Leaf.{IsStageRefused, is_leaf_positive}
use Rattle.card_core.specs.Filter.{alone, cut, in_shard, is_filtered, AreShards, IsRefusedShard}
use Rattle.card_core.specs.Laws.{FilterIsExact, FilterIsUnique, RefusedHasNoFilter, OneShardIsRefused, OneStageRefusesFilter}
use Rattle.card_core.proofs.LeafLaws.{contains_filtered, leaf_exact, leaf_unique, refused_no_leaf, refused_once}

-- a member is one of its shard
in_its_shard : (shift : ℕ) (xs : List Identity) (x : Identity) → Contains xs x → Contains (in_shard shift (shard x shift) xs) x
in_its_shard shift xs x c = contains_filtered (λ y. nat_eq (shard y shift) (shard x shift)) xs c.0 x c.1 c.2 (eq-eqb (shard x shift) (shard x shift) refl)

pub filter_exact : FilterIsExact
filter_exact rows shift revoked others (alone leaf) h = leaf_exact rows revoked others leaf h.1
filter_exact rows shift revoked others (cut s leaves) h =
    let at : (x : Identity) → is_filtered rows x (cut s leaves) ≡ is_leaf_positive rows x (get_or leaves (shard x shift) Clean)
    = λ x. ap (λ (n : ℕ). is_leaf_positive rows x (get_or leaves (shard x n) Clean)) h.1 in (
      λ x c. at x ∙ (leaf_exact rows _ _ _ (h.2.each (shard x shift) Clean (shard_below x shift))).0 x (in_its_shard shift revoked x c),
      λ x c. at x ∙ (leaf_exact rows _ _ _ (h.2.each (shard x shift) Clean (shard_below x shift))).1 x (in_its_shard shift others x c),
    )

leaves_same : (rows : Rows) (shift : ℕ) (revoked others : List Identity) (a b : List Leaf) → AreShards rows shift revoked others a → AreShards rows shift revoked others b → a ≡ b
leaves_same rows shift revoked others a b p q =
    same_lists a b (p.count ∙ sym q.count) (λ j d lt.
    let lt' : j < 2 ^ shift = omega (arith, p.count, lt) in
    leaf_unique rows (in_shard shift j revoked) (in_shard shift j others) (get_or a j d) (get_or b j d) (p.each j d lt') (q.each j d lt'))

pub filter_unique : FilterIsUnique
filter_unique rows shift revoked others (alone a) (alone b) p q = ap alone (leaf_unique rows revoked others a b p.1 q.1)
filter_unique rows shift revoked others (alone a) (cut s b) p q = absurd (omega (arith, p.0, q.0))
filter_unique rows shift revoked others (cut s a) (alone b) p q = absurd (omega (arith, q.0, p.0))
filter_unique rows shift revoked others (cut s a) (cut t b) p q =
    let same : a ≡ b = leaves_same rows shift revoked others a b p.2 q.2 in
    λ i. cut ((p.1 ∙ sym q.1) i) (same i)

pub refused_no_filter : RefusedHasNoFilter
refused_no_filter rows zero revoked others stage (alone leaf) r h = refused_no_leaf rows revoked others stage leaf r h.1
refused_no_filter rows zero revoked others stage (cut s leaves) r h = omega (arith, h.0)
refused_no_filter rows (suc n) revoked others stage (alone leaf) r h = omega (arith, h.0)
refused_no_filter rows (suc n) revoked others stage (cut s leaves) r h =
    refused_no_leaf rows (in_shard (suc n) r.place revoked) (in_shard (suc n) r.place others) stage (get_or leaves r.place Clean) r.refused (h.2.each r.place Clean r.below)

module _ (rows : Rows) (shift : ℕ) (revoked others : List Identity) where
  not_before : (s t : ℕ) (r : IsRefusedShard rows shift revoked others s) (q : IsRefusedShard rows shift revoked others t) → r.place < q.place → ⊥
  not_before s t r q lt =
      let l = q.before r.place lt in
      refused_no_leaf rows (in_shard shift r.place revoked) (in_shard shift r.place others) s l.0 r.refused l.1

  place_same : (s t : ℕ) (r : IsRefusedShard rows shift revoked others s) (q : IsRefusedShard rows shift revoked others t) → r.place ≡ q.place
  place_same s t r q =
      let le : r.place < q.place → ⊥ = not_before s t r q in
      let ge : q.place < r.place → ⊥ = not_before t s q r in
      omega (arith, le, ge)

  stage_same : (s t : ℕ) → IsRefusedShard rows shift revoked others s → IsRefusedShard rows shift revoked others t → s ≡ t
  stage_same s t r q =
      let moved = subst (λ (j : ℕ). IsStageRefused rows (in_shard shift j revoked) (in_shard shift j others) s) (place_same s t r q) r.refused in
      refused_once rows (in_shard shift q.place revoked) (in_shard shift q.place others) s t moved q.refused

pub shard_once : OneShardIsRefused
shard_once rows shift revoked others stage other a b = place_same rows shift revoked others stage other a b

pub filter_refused_once : OneStageRefusesFilter
filter_refused_once rows zero revoked others stage other r t = refused_once rows revoked others stage other r t
filter_refused_once rows (suc n) revoked others stage other r t = stage_same rows (suc n) revoked others stage other r t
