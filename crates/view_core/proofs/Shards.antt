-- The places of shards: where those of a block stand among all, that ascend.
use Rattle.std.specs.Prelude.{IsNone, flat_map}
use Rattle.std.specs.Int.{w8, to_be_bytes}
use Rattle.std.specs.Ordering.{nat_cmp}
use Rattle.std.specs.Result.{result_ok, IfOk, OkIff}
use Rattle.std.specs.List.{HoldsAt}
use Rattle.std.specs.List.Sorted.{IsStrictlySortedBy, IsBinarySearchResult, IsSearchInRange}
use Rattle.std.specs.declared.cmp.Ordering.TheVariants.{Equal}
use Rattle.std.proofs.Common.{◌≡◌, ℕ, Bool, ◌+◌, ◌^◌, ◌<◌, List, [], ◌∷◌, ◌++◌, length, get_or, Result, Ok, Err, Some, refl, sym, ap, subst, ◌∙◌, inl, inr, length-append, arith}
use Rattle.std.proofs.lemmas.Bool.{cases_lt}
use Rattle.std.proofs.lemmas.Cmp.{nat_cmp_total, tied_itself}
use Rattle.std.proofs.lemmas.List.{get_or-append-add, get_or_append_left}
use Rattle.std.proofs.lemmas.Map.Lookups.{exact_unsigned}
use Rattle.ident_core.specs.Among.{Among}
use Rattle.ident_core.proofs.Keys.{among_get, below_later, not_less, searched_none}
use Rattle.ident_core.specs.declared.identity.Identity.{Identity}
use Rattle.equation_core.specs.Rows.{sha256_row}
use Rattle.card_core.specs.declared.block.Block.{Block}
use Rattle.card_core.specs.declared.block.Body.{Body}
use Rattle.card_core.specs.declared.block.Body.TheVariants as bodies
use Rattle.card_core.specs.declared.leaf.Leaf.{Leaf}
use Rattle.card_core.specs.declared.leaf.Leaf.TheVariants as leaves
use Rattle.card_core.specs.ShardedFields.{ShardedFields}
use Rattle.card_core.specs.Leaf.{is_leaf_positive}
use Rattle.card_core.specs.Filter.{is_positive, is_filtered, cut}
use Rattle.part_text.specs.PartText.{leaf_mode, leaf_text, shard_leaf_text, sharded_text, mode_of, body_text, block_text}
use Rattle.part_text.specs.Fitting.{LeafFits, ShardsFit, BodyFits, BlockFits}
use Rattle.view_core.specs.Index.{shards_in}
use Rattle.view_core.specs.Texts.{Stands, places_of}
use Rattle.view_core.proofs.Texts.{stands_first, stands_then}

-- a number that was narrowed is the same
pub narrowed : {E : Type 0} (r : Result ℕ E) (P : Type 0) (v x : ℕ) → Some x ≡ result_ok r → OkIff r P v → v ≡ x
narrowed (Ok y) P v x is k = let e : x ≡ y = cc in sym (e ∙ k.1)
narrowed (Err e) P v x is k = absurd cc

-- and one that fits is narrowed
pub is_narrowed : {E : Type 0} (r : Result ℕ E) (P : Type 0) (v : ℕ) → P → IsNone (result_ok r) → OkIff r P v → ⊥
is_narrowed (Ok y) P v fits none k = cc
is_narrowed (Err e) P v fits none k = k fits

different : (places : List ℕ) (i j : ℕ) → IsStrictlySortedBy nat_cmp places → i < j → j < length places → get_or places i 0 ≡ get_or places j 0 → ⊥
different places i j up lt within same =
    not_less (nat_cmp (get_or places i 0) (get_or places j 0))
    (ap (λ (n : ℕ). nat_cmp n (get_or places j 0)) same ∙ tied_itself nat_cmp_total (get_or places j 0))
    (below_later nat_cmp nat_cmp_total exact_unsigned places up i j 0 lt within)

-- a place stands but once among ascending ones
one_place : (places : List ℕ) (i j : ℕ) → IsStrictlySortedBy nat_cmp places → i < length places → j < length places → get_or places i 0 ≡ get_or places j 0 → i ≡ j
one_place places i j up within within' same = elim (cases_lt i j) [
  | inl less ↦ absurd (different places i j up less within' same)
  | inr ge ↦ elim (cases_lt j i) [
    | inl more ↦ absurd (different places j i up more within (sym same))
    | inr le ↦ omega (arith, ge, le)
  ]
]

found_place : (places : List ℕ) (first place : ℕ) (r : Result ℕ ℕ) → Some place ≡ result_ok r → IsSearchInRange r (length places)
    → IfOk r (HoldsAt (λ y. nat_cmp y first ≡ Equal) places) → (place < length places) × (get_or places place 0 ≡ first)
found_place places first place (Ok i) is within at =
    let e : i ≡ place = cc in
    subst (λ (n : ℕ). (n < length places) × (get_or places n 0 ≡ first)) e (within, exact_unsigned (get_or places i 0) first (at 0))
found_place places first place (Err i) is within at = absurd cc

module _ (places before own behind : List ℕ) (first shard : ℕ) (up : IsStrictlySortedBy nat_cmp places) (are : places ≡ before ++ own ++ behind)
    (begins : get_or own 0 0 ≡ first) (few : shard < length own) where
  long : length places ≡ length before + length own + length behind
  long = omega (arith, ap length are, length-append (before ++ own) behind, length-append before own)

  own_place : (k : ℕ) → k < length own → get_or places (length before + k) 0 ≡ get_or own k 0
  own_place k lt =
      ap (λ (l : List ℕ). get_or l (length before + k) 0) are
      ∙ get_or_append_left (before ++ own) behind 0 (length before + k) (omega (arith, lt, length-append before own))
      ∙ get_or-append-add before own k 0

  first_place : get_or places (length before) 0 ≡ first
  first_place =
      let z : length before + 0 ≡ length before = omega arith in
      ap (λ (n : ℕ). get_or places n 0) (sym z) ∙ own_place 0 (omega (arith, few)) ∙ begins

  -- which is as small as each place is
  pub first_small : (limit : ℕ) → ((i : ℕ) → get_or places i 0 < limit) → first < limit
  first_small limit small = subst (λ (n : ℕ). n < limit) first_place (small (length before))

  -- a search finds the first of a block's own
  pub searched_place : (place : ℕ) (r : Result ℕ ℕ) → Some place ≡ result_ok r → IsSearchInRange r (length places)
      → IfOk r (HoldsAt (λ y. nat_cmp y first ≡ Equal) places) → place ≡ length before
  searched_place place r is within at =
      let found = found_place places first place r is within at in
      one_place places place (length before) up found.0 (omega (arith, long, few)) (found.1 ∙ sym first_place)

  pub shard_within : (place : ℕ) → place ≡ length before → place + shard < length places
  shard_within place is = omega (arith, is, long, few)

  pub shard_is : (place : ℕ) → place ≡ length before → get_or places (place + shard) 0 ≡ get_or own shard 0
  shard_is place is = ap (λ (n : ℕ). get_or places (n + shard) 0) is ∙ own_place shard few

  pub is_searched : (r : Result ℕ ℕ) → IsBinarySearchResult (λ y. nat_cmp y first) places r → IsNone (result_ok r) → ⊥
  is_searched r position none =
      searched_none nat_cmp nat_cmp_total exact_unsigned places first r up position none
      (subst (Among places) first_place (among_get nat_cmp nat_cmp_total exact_unsigned places (length before) 0 (omega (arith, long, few))))

-- ---- the shards of a body

pub first_begins : {X : Type 0} (text : X → List ℕ) (at : ℕ) (xs : List X) → 0 < length xs → get_or (places_of text at xs) 0 0 ≡ at
first_begins text at [] some = absurd (omega arith)
first_begins text at (x ∷ xs) some = refl

pub stands_shift : (bytes : List ℕ) (at : ℕ) (s : ShardedFields) → Stands bytes at (sharded_text s) → Stands bytes at (to_be_bytes w8 s.shift)
unfolding sharded_text
stands_shift bytes at s h = stands_first bytes at (to_be_bytes w8 s.shift) (flat_map shard_leaf_text s.leaves) h

pub stands_leaves : (bytes : List ℕ) (at : ℕ) (s : ShardedFields) → Stands bytes at (sharded_text s) → Stands bytes (at + 1) (flat_map shard_leaf_text s.leaves)
unfolding sharded_text
stands_leaves bytes at s h = stands_then bytes at (to_be_bytes w8 s.shift) (flat_map shard_leaf_text s.leaves) (at + 1) refl h

-- ---- a block: its issuer, its mode and its body

pub stands_mode : (bytes : List ℕ) (at n : ℕ) (b : Block) → BlockFits b → n ≡ at + 32 → Stands bytes at (block_text b) → Stands bytes n (to_be_bytes w8 (mode_of b.body))
stands_mode bytes at n b fits is h =
    stands_then bytes at b.issuer (to_be_bytes w8 (mode_of b.body)) n (omega (arith, is, fits.issuer))
    (stands_first bytes at (b.issuer ++ to_be_bytes w8 (mode_of b.body)) (body_text b.body) h)

pub stands_body : (bytes : List ℕ) (at : ℕ) (b : Block) → BlockFits b → Stands bytes at (block_text b) → Stands bytes (at + 33) (body_text b.body)
stands_body bytes at b fits h =
    stands_then bytes at (b.issuer ++ to_be_bytes w8 (mode_of b.body)) (body_text b.body) (at + 33)
    (omega (arith, fits.issuer, length-append b.issuer (to_be_bytes w8 (mode_of b.body)))) h

pub block_mode_fits : (body : Body) → mode_of body < 2 ^ 8
block_mode_fits bodies.Clean = omega arith
block_mode_fits bodies.Every = omega arith
block_mode_fits (bodies.Mixed m) = omega arith
block_mode_fits (bodies.Sharded s) = omega arith

module _ (bytes places : List ℕ) (at : ℕ) (id : Identity) (said : Bool) where
  -- what is said of each leaf is said of a body of one leaf
  pub says_leaf : (mode : ℕ) → ((l : Leaf) → LeafFits l → leaf_mode l ≡ mode → Stands bytes at (leaf_text l) → said ≡ is_leaf_positive sha256_row id l)
      → (body : Body) → BodyFits body → mode_of body ≡ mode → (mode ≡ 3 → ⊥) → Stands bytes at (body_text body) → said ≡ is_positive sha256_row id body
  says_leaf mode says bodies.Clean fits is other h = says leaves.Clean fits is h
  says_leaf mode says bodies.Every fits is other h = says leaves.Every fits is h
  says_leaf mode says (bodies.Mixed m) fits is other h = says (leaves.Mixed m) fits is h
  says_leaf mode says (bodies.Sharded s) fits is other h = absurd (other (sym is))

  -- and what is said of shards, of a sharded one
  pub says_shards : ((s : ShardedFields) (before behind : List ℕ) → ShardsFit s → Stands bytes (at + 33) (sharded_text s) → IsStrictlySortedBy nat_cmp places
      → places ≡ before ++ places_of shard_leaf_text (at + 33 + 1) s.leaves ++ behind → said ≡ is_filtered sha256_row id (cut s.shift s.leaves))
      → (body : Body) (before behind : List ℕ) → BodyFits body → mode_of body ≡ 3 → Stands bytes (at + 33) (body_text body) → IsStrictlySortedBy nat_cmp places
      → places ≡ before ++ shards_in at body ++ behind → said ≡ is_positive sha256_row id body
  says_shards says bodies.Clean before behind fits is h up are = absurd (omega (arith, is))
  says_shards says bodies.Every before behind fits is h up are = absurd (omega (arith, is))
  says_shards says (bodies.Mixed m) before behind fits is h up are = absurd (omega (arith, is))
  says_shards says (bodies.Sharded s) before behind fits is h up are = says s before behind fits h up are
