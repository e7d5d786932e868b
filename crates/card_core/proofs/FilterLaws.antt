-- The block of an issuer's universe is exact, and the only one.
use Rattle.std.proofs.Common.{◌≡◌, ◌<◌, ◌+◌, ℕ, zero, suc, Bool, true, false, not, cond, List, [], ◌∷◌, length, map, get_or, refl, sym, ap, ◌∙◌, arith, add-one}
use Rattle.std.specs.List.{Contains}
use Rattle.std.proofs.lemmas.List.{get_or-map}
use Rattle.ident_core.specs.declared.identity.Identity.{Identity}
use Rattle.card_core.specs.declared.leaf.Leaf.{Leaf}
use Rattle.card_core.specs.declared.leaf.Leaf.TheVariants as leafs
use Rattle.card_core.specs.declared.block.Body.{Body}
use Rattle.card_core.specs.declared.block.Body.TheVariants as bodies
use Rattle.card_core.specs.Leaf.{flagged}
use Rattle.card_core.specs.Filter.{Filter, alone, cut, as_body, filter_of, is_filtered, is_positive}
use Rattle.card_core.specs.Laws.{BlockIsExact, BlockIsUnique, BodyIsOfOneLeaf, IsExactOn, RefusedHasNoBlock}
use Rattle.card_core.proofs.ShardLaws.{filter_exact, filter_unique, refused_no_filter}

-- the filter of a leaf's body is this leaf
pub leaf_back : (leaf : Leaf) → filter_of (as_body leaf) ≡ alone leaf
leaf_back leafs.Clean = refl
leaf_back leafs.Every = refl
leaf_back (leafs.Mixed m) = refl

abbrev leaf_in : Filter → Leaf
leaf_in (alone leaf) = leaf
leaf_in (cut shift leaves) = leafs.Clean

pub body_of_one : BodyIsOfOneLeaf
body_of_one a b e = ap leaf_in (sym (leaf_back a) ∙ ap filter_of e ∙ leaf_back b)

abbrev body_with : Filter → Body
body_with (alone leaf) = as_body leaf
body_with (cut shift leaves) = bodies.Sharded (record { shift = shift; leaves = leaves })

body_back : (body : Body) → body_with (filter_of body) ≡ body
body_back bodies.Clean = refl
body_back bodies.Every = refl
body_back (bodies.Mixed m) = refl
body_back (bodies.Sharded s) = refl

-- a body is what its filter is
pub body_same : (a b : Body) → filter_of a ≡ filter_of b → a ≡ b
body_same a b e = sym (body_back a) ∙ ap body_with e ∙ body_back b

contains_first : (x : Identity) (xs : List Identity) → Contains (x ∷ xs) x
contains_first x xs = (0, omega arith, refl)

contains_next : (x y : Identity) (xs : List Identity) → Contains xs y → Contains (x ∷ xs) y
contains_next x y xs c = (c.0 + 1, omega (arith, c.1), rw add-one c.2)

contains_kept : (x y : Identity) (f : Bool) (xs : List Identity) → Contains xs y → Contains (cond f (x ∷ xs) xs) y
contains_kept x y true xs c = contains_next x y xs c
contains_kept x y false xs c = c

-- an identity whose flag is set is among the flagged
flagged_at : (xs : List Identity) (fs : List Bool) (i : ℕ) (d : Identity) → i < length xs → get_or fs i false ≡ true → Contains (flagged xs fs) (get_or xs i d)
flagged_at [] fs i d lt e = absurd (omega arith)
flagged_at (x ∷ xs) [] i d lt e = absurd (cc)
flagged_at (x ∷ xs) (true ∷ fs) zero d lt e = contains_first x (flagged xs fs)
flagged_at (x ∷ xs) (false ∷ fs) zero d lt e = absurd (cc)
flagged_at (x ∷ xs) (f ∷ fs) (suc i) d lt e = contains_kept x (get_or xs i d) f (flagged xs fs) (flagged_at xs fs i d (omega arith) e)

not_at : (fs : List Bool) (i : ℕ) → i < length fs → get_or (map not fs) i false ≡ not (get_or fs i false)
not_at fs i lt = get_or-map not fs i false false lt

by_flag : (f : Bool) (P : Bool → Type 0) → (f ≡ true → P true) → (f ≡ false → P false) → P f
by_flag true P a b = a refl
by_flag false P a b = b refl

pub block_exact : BlockIsExact
block_exact rows shift issuer universe flags block same h i x lt =
    let revoked = flagged universe flags in
    let others = flagged universe (map not flags) in
    let e : IsExactOn revoked others (λ y. is_filtered rows y (filter_of block.body)) = filter_exact rows shift revoked others (filter_of block.body) h.1 in
    let lt' : i < length flags = omega (arith, same) in
    by_flag (get_or flags i false) (λ f. is_positive rows (get_or universe i x) block.body ≡ f)
    (λ t. e.0 (get_or universe i x) (flagged_at universe flags i x lt t))
    (λ n. e.1 (get_or universe i x) (flagged_at universe (map not flags) i x lt (not_at flags i lt' ∙ ap not n)))

pub block_unique : BlockIsUnique
block_unique rows shift issuer universe flags a b h k =
    let issuers : a.issuer ≡ b.issuer = h.0 ∙ sym k.0 in
    let filters : filter_of a.body ≡ filter_of b.body
    = filter_unique rows shift (flagged universe flags) (flagged universe (map not flags)) (filter_of a.body) (filter_of b.body) h.1 k.1 in
    λ i. record { issuer = issuers i; body = body_same a.body b.body filters i }

pub refused_no_block : RefusedHasNoBlock
refused_no_block rows shift issuer universe flags stage block r h =
    refused_no_filter rows shift (flagged universe flags) (flagged universe (map not flags)) stage (filter_of block.body) r h.1
