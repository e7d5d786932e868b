-- The members of a shard, as far as a loop has come, and how many there are.
use Rattle.std.specs.Prelude.{ℕ, zero, suc, Bool, true, false, not, Result, List, [], ◌∷◌, ◌++◌, length, map}
use Rattle.std.proofs.Common.{◌≡◌, ◌<◌, ◌≤◌, ◌+◌, cond, nat_eq, take, get_or, refl, sym, ap, ◌∙◌, subst, arith, add-one, eq-eqb}
use Rattle.std.specs.List.{filter}
use Rattle.std.proofs.lemmas.Bool.{ne_eqb}
use Rattle.std.proofs.lemmas.List.{append-nil, get_or-map, get_or_default, length-map, take_more}
use Rattle.std.proofs.lemmas.List.Elements.{filter-append}
use Rattle.ident_core.specs.declared.identity.Identity.{Identity}
use Rattle.equation_core.specs.Shards.{shard}
use Rattle.equation_core.specs.Rows.{Rows}
use Rattle.card_core.specs.declared.leaf.Leaf.{Leaf}
use Rattle.card_core.specs.Leaf.{flagged}
use Rattle.card_core.proofs.Cuts.{cut_is}
use Rattle.stage_core.specs.declared.fault.BlockFault.{BlockFault}
use Rattle.stage_core.specs.Built.{BuildsLeaf}
use Rattle.card_core.specs.Cutting.{flags_of}
use Rattle.card_core.specs.Filter.{in_shard}
use Rattle.builder_core.specs.Cutting.{shards_in}

module _ (p : Identity → Bool) where
  flags_step : (b f : Bool) (fs gs hs : List Bool) → fs ≡ gs ++ hs → cond b (f ∷ fs) fs ≡ cond b (f ∷ gs) gs ++ hs
  flags_step true f fs gs hs e = ap (λ (l : List Bool). f ∷ l) e
  flags_step false f fs gs hs e = e

  flags_suc : (xs : List Identity) (fs : List Bool) (i : ℕ) (d : Identity) → i < length xs → i < length fs
      → flags_of p (take (suc i) xs) (take (suc i) fs) ≡ flags_of p (take i xs) (take i fs) ++ cond (p (get_or xs i d)) (get_or fs i false ∷ []) []
  flags_suc [] fs i d lt lt' = absurd (omega arith)
  flags_suc (x ∷ xs) [] i d lt lt' = absurd (omega arith)
  flags_suc (x ∷ xs) (f ∷ fs) zero d lt lt' = refl
  flags_suc (x ∷ xs) (f ∷ fs) (suc i) d lt lt' = flags_step (p x) f _ _ _ (flags_suc xs fs i d (omega arith) (omega arith))

  flags_more : (xs : List Identity) (fs : List Bool) (i : ℕ) (d : Identity) → i < length xs → i < length fs
      → flags_of p (take (i + 1) xs) (take (i + 1) fs) ≡ flags_of p (take i xs) (take i fs) ++ cond (p (get_or xs i d)) (get_or fs i false ∷ []) []
  flags_more xs fs i d lt lt' = rw add-one (flags_suc xs fs i d lt lt')

  members_more : (xs : List Identity) (i : ℕ) (d : Identity) → i < length xs → filter p (take (i + 1) xs) ≡ filter p (take i xs) ++ cond (p (get_or xs i d)) (get_or xs i d ∷ []) []
  members_more xs i d lt = ap (filter p) (take_more xs i d lt) ∙ filter-append p (take i xs) (get_or xs i d ∷ [])

-- the shard that was drawn for an identity
drawn_at : (shift : ℕ) (xs : List Identity) (ss : List ℕ) (i : ℕ) (d : ℕ) (x : Identity) → 1 ≤ shift → ss ≡ shards_in shift xs → i < length xs
    → get_or ss i d ≡ shard (get_or xs i x) shift
drawn_at zero xs ss i d x some is lt = absurd (omega (arith, some))
drawn_at (suc s) xs ss i d x some is lt = ap (λ (l : List ℕ). get_or l i d) is ∙ get_or-map (λ y. shard y (suc s)) xs i x d lt

pub drawn_long : (shift : ℕ) (xs : List Identity) (ss : List ℕ) → 1 ≤ shift → ss ≡ shards_in shift xs → length ss ≡ length xs
drawn_long zero xs ss some is = absurd (omega (arith, some))
drawn_long (suc s) xs ss some is = ap length is ∙ length-map xs (λ y. shard y (suc s))

module _ (shift j : ℕ) (xs : List Identity) (fs : List Bool) (ss : List ℕ) (i : ℕ) (some : 1 ≤ shift) (is : ss ≡ shards_in shift xs) (same : length fs ≡ length xs)
    (lt : i < length ss) where
  abbrev its : Identity → Bool
  its x = nat_eq (shard x shift) j

  within : i < length xs
  within = omega (arith, lt, drawn_long shift xs ss some is)

  module _ (x : Identity) (d : ℕ) (e : get_or ss i d ≡ j) where
    inside : its (get_or xs i x) ≡ true
    inside = eq-eqb (shard (get_or xs i x) shift) j (sym (drawn_at shift xs ss i d x some is within) ∙ e)

    -- one more is of the shard
    pub member_in : x ≡ get_or xs i x → filter its (take i xs) ++ (x ∷ []) ≡ filter its (take (i + 1) xs)
    member_in at =
        ap (λ (y : Identity). filter its (take i xs) ++ (y ∷ [])) at
        ∙ ap (λ (b : Bool). filter its (take i xs) ++ cond b (get_or xs i x ∷ []) []) (sym inside) ∙ sym (members_more its xs i x within)

    pub flag_in : (f : Bool) → f ≡ get_or fs i f → flags_of its (take i xs) (take i fs) ++ (f ∷ []) ≡ flags_of its (take (i + 1) xs) (take (i + 1) fs)
    flag_in f at =
        ap (λ (b : Bool). flags_of its (take i xs) (take i fs) ++ (b ∷ [])) (at ∙ get_or_default fs i f false (omega (arith, within, same)))
        ∙ ap (λ (b : Bool). flags_of its (take i xs) (take i fs) ++ cond b (get_or fs i false ∷ []) []) (sym inside)
        ∙ sym (flags_more its xs fs i x within (omega (arith, within, same)))

  module _ (x : Identity) (d : ℕ) (e : get_or ss i d ≡ j → ⊥) where
    outside : its (get_or xs i x) ≡ false
    outside = ne_eqb (shard (get_or xs i x) shift) j (λ q. e (drawn_at shift xs ss i d x some is within ∙ q))

    -- one more isn't
    member_out_at : filter its (take i xs) ≡ filter its (take (i + 1) xs)
    member_out_at = sym (members_more its xs i x within ∙ ap (λ (b : Bool). filter its (take i xs) ++ cond b (get_or xs i x ∷ []) []) outside ∙ append-nil _)

    flag_out_at : flags_of its (take i xs) (take i fs) ≡ flags_of its (take (i + 1) xs) (take (i + 1) fs)
    flag_out_at = sym (
        flags_more its xs fs i x within (omega (arith, within, same))
        ∙ ap (λ (b : Bool). flags_of its (take i xs) (take i fs) ++ cond b (get_or fs i false ∷ []) []) outside ∙ append-nil _
        )

module _ (shift j : ℕ) (fs : List Bool) (ss : List ℕ) (i : ℕ) (some : 1 ≤ shift) (lt : i < length ss) (d : ℕ) (e : get_or ss i d ≡ j → ⊥) where
  pub member_out : (xs : List Identity) → ss ≡ shards_in shift xs → length fs ≡ length xs → in_shard shift j (take i xs) ≡ in_shard shift j (take (i + 1) xs)
  member_out [] is same = absurd (omega (arith, lt, drawn_long shift [] ss some is))
  member_out (x ∷ xs) is same = member_out_at shift j (x ∷ xs) fs ss i some is same lt x d e

  pub flag_out : (xs : List Identity) → ss ≡ shards_in shift xs → length fs ≡ length xs
      → flags_of (λ x. nat_eq (shard x shift) j) (take i xs) (take i fs) ≡ flags_of (λ x. nat_eq (shard x shift) j) (take (i + 1) xs) (take (i + 1) fs)
  flag_out [] is same = absurd (omega (arith, lt, drawn_long shift [] ss some is))
  flag_out (x ∷ xs) is same = flag_out_at shift j (x ∷ xs) fs ss i some is same lt x d e

-- ---- lengths

keep_le : (x : Identity) (b : Bool) (a : List Identity) (n : ℕ) → length a ≤ n → length (cond b (x ∷ a) a) ≤ suc n
keep_le x true a n h = omega arith
keep_le x false a n h = omega arith

pub filter_le : (p : Identity → Bool) (xs : List Identity) → length (filter p xs) ≤ length xs
filter_le p [] = omega arith
filter_le p (x ∷ xs) = keep_le x (p x) _ (length xs) (filter_le p xs)

-- ---- a shard's leaf

pub members_few : (shift j : ℕ) (xs members : List Identity) → length xs ≤ 4194304 → members ≡ in_shard shift j xs → length members ≤ 4194304
members_few shift j xs members few e = omega (arith, ap length e, filter_le (λ x. nat_eq (shard x shift) j) xs, few)

pub flags_long : (shift j : ℕ) (xs : List Identity) (fs : List Bool) (members : List Identity) (flags : List Bool) → length fs ≡ length xs → members ≡ in_shard shift j xs
    → flags ≡ flags_of (λ x. nat_eq (shard x shift) j) xs fs → length flags ≡ length members
flags_long shift j xs fs members flags same e f = ap length f ∙ (cut_is (λ x. nat_eq (shard x shift) j) xs fs same).2 ∙ ap length (sym e)

-- the leaf of the members and their flags is that of the shard
pub leaf_is : (rows : Rows) (shift j : ℕ) (xs : List Identity) (fs : List Bool) (members : List Identity) (flags : List Bool) (result : Result Leaf BlockFault)
    → length fs ≡ length xs → members ≡ in_shard shift j xs → flags ≡ flags_of (λ x. nat_eq (shard x shift) j) xs fs
    → BuildsLeaf rows (flagged members flags) (flagged members (map not flags)) result
    → BuildsLeaf rows (in_shard shift j (flagged xs fs)) (in_shard shift j (flagged xs (map not fs))) result
leaf_is rows shift j xs fs members flags result same e f h =
    let cut = cut_is (λ x. nat_eq (shard x shift) j) xs fs same in
    let revoked : flagged members flags ≡ in_shard shift j (flagged xs fs) = (λ i. flagged (e i) (f i)) ∙ cut.0 in
    let others : flagged members (map not flags) ≡ in_shard shift j (flagged xs (map not fs)) = (λ i. flagged (e i) (map not (f i))) ∙ cut.1 in
    subst (λ (l : List Identity). BuildsLeaf rows (in_shard shift j (flagged xs fs)) l result) others
    (subst (λ (l : List Identity). BuildsLeaf rows l (flagged members (map not flags)) result) revoked h)
