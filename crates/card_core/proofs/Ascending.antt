-- Blocks each above the one before are sorted.
use Rattle.std.proofs.Common.{◌≡◌, true, ℕ, List, [], ◌∷◌, Option, Some, None, refl}
use Rattle.std.specs.declared.cmp.Ordering.{Ordering}
use Rattle.std.specs.declared.cmp.Ordering.TheVariants.{Less, Equal, Greater}
use Rattle.std.specs.Ordering.{nat_cmp, is_lt}
use Rattle.std.specs.Cmp.Lexicographic.{slice_cmp, nat_list_cmp_total}
use Rattle.std.specs.List.{AllByRecursion}
use Rattle.std.specs.List.Sorted.{IsStrictlySortedBy}
use Rattle.octets_core.specs.Linked.{Linked, is_after}
use Rattle.card_core.specs.declared.block.Block.{Block}

-- the order of blocks is that of their issuers
abbrev pub block_cmp : Block → Block → Ordering
block_cmp a b = slice_cmp nat_cmp a.issuer b.issuer

abbrev pub AreLinked : Option (List ℕ) → List Block → Type 0
AreLinked previous blocks = Linked (λ p b. is_after p b.issuer ≡ true) (λ p b. Some b.issuer) previous blocks

less_from : (o : Ordering) → is_lt o ≡ true → o ≡ Less
less_from Less e = refl
less_from Equal e = cc
less_from Greater e = cc

all_above : (p q : List ℕ) (bs : List Block) → slice_cmp nat_cmp p q ≡ Less → AllByRecursion (λ b. slice_cmp nat_cmp q b.issuer ≡ Less) bs
    → AllByRecursion (λ b. slice_cmp nat_cmp p b.issuer ≡ Less) bs
all_above p q [] e h = h
all_above p q (b ∷ bs) e h = (nat_list_cmp_total.trans p q b.issuer e h.0, all_above p q bs e h.1)

ascend_from : (p : List ℕ) (bs : List Block) → AreLinked (Some p) bs → AllByRecursion (λ b. slice_cmp nat_cmp p b.issuer ≡ Less) bs × IsStrictlySortedBy block_cmp bs
unfolding IsStrictlySortedBy
ascend_from p [] h = (tt, tt)
ascend_from p (b ∷ bs) h =
    let less : slice_cmp nat_cmp p b.issuer ≡ Less = less_from (slice_cmp nat_cmp p b.issuer) h.0 in
    let rest = ascend_from b.issuer bs h.1 in
    ((less, all_above p b.issuer bs less rest.0), (rest.0, rest.1))

pub linked_sorted : (bs : List Block) → AreLinked None bs → IsStrictlySortedBy block_cmp bs
unfolding IsStrictlySortedBy
linked_sorted [] h = tt
linked_sorted (b ∷ bs) h = let r = ascend_from b.issuer bs h.1 in (r.0, r.1)
