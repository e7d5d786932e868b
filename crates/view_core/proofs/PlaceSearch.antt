-- Blocks that stand in bytes, and the search for the one of an issuer among their places.
use Rattle.std.specs.Ordering.{nat_cmp}
use Rattle.std.specs.Cmp.Lexicographic.{slice_cmp}
use Rattle.std.specs.declared.cmp.Ordering.{Ordering}
use Rattle.std.specs.declared.cmp.Ordering.TheVariants.{Less, Equal, Greater}
use Rattle.std.specs.Int.{w8, to_be_bytes}
use Rattle.std.specs.List.Sorted.{IsStrictlySortedBy}
use Rattle.std.proofs.Common.{◌≡◌, ℕ, zero, suc, ◌+◌, ◌≤◌, ◌<◌, true, List, [], ◌∷◌, ◌++◌, length, get_or, Option, Some, None, sym, ap, ◌∙◌, subst, ◌⊎◌, inl, inr, arith}
use Rattle.std.proofs.lemmas.Bool.{cases_lt}
use Rattle.std.proofs.lemmas.List.{get_or_default}
use Rattle.std.proofs.lemmas.Map.Keys.{Less-from_sorted}
use Rattle.octets_core.proofs.Heads.{AreOctets}
use Rattle.octets_core.specs.Linked.{Linked, is_after}
use Rattle.octets_core.proofs.Texts.{Linked-weaken}
use Rattle.card_core.specs.declared.block.Block.{Block}
use Rattle.card_core.specs.declared.block.Body.TheVariants as bodies
use Rattle.card_core.specs.Consulting.{IsPlaceOf}
use Rattle.card_core.proofs.Ascending.{block_cmp, linked_sorted}
use Rattle.card_core.proofs.Searching.{Missed, missed_less, missed_greater, found_equal, none_found}
use Rattle.part_text.specs.Fitting.{BlockFits, FitsBlock}
use Rattle.part_text.specs.PartText.{block_text, body_text, mode_of}
use Rattle.view_core.specs.Buckets.{InOrder, AreBounds}
use Rattle.view_core.specs.Index.{bucket_in, buckets_of}
use Rattle.view_core.specs.Standing.{AreBlocksAt}
use Rattle.view_core.specs.Texts.{Stands}
use Rattle.view_core.proofs.BucketLaws.{buckets_rise}
use Rattle.view_core.proofs.Keys.{stands_octets}
use Rattle.view_core.proofs.Texts.{stands_first, stands_item, length-places}

abbrev next_issuer : Option (List ℕ) → Block → Option (List ℕ)
next_issuer previous b = Some b.issuer

fits_linked : (previous : Option (List ℕ)) (blocks : List Block) (i : ℕ) (d : Block) → i < length blocks → Linked FitsBlock next_issuer previous blocks → BlockFits (get_or blocks i d)
fits_linked previous [] i d lt linked = absurd (omega arith)
fits_linked previous (b ∷ blocks) zero d lt linked = linked.0.1
fits_linked previous (b ∷ blocks) (suc i) d lt linked = fits_linked (Some b.issuer) blocks i d (omega arith) linked.1

sorted : (blocks : List Block) → Linked FitsBlock next_issuer None blocks → IsStrictlySortedBy block_cmp blocks
sorted blocks linked =
    linked_sorted blocks (Linked-weaken FitsBlock (λ previous b. is_after previous b.issuer ≡ true) next_issuer (λ previous b fits. fits.0) None blocks linked)

pub as_many : (bytes : List ℕ) (at : ℕ) (places : List ℕ) (blocks : List Block) → AreBlocksAt bytes at places blocks → length places ≡ length blocks
as_many bytes at places blocks are = ap (λ (l : List ℕ). length l) are.places_are ∙ length-places block_text at blocks

-- each stands at its place
pub stands_block : (bytes : List ℕ) (at : ℕ) (places : List ℕ) (blocks : List Block) (i : ℕ) (d : Block) → AreBlocksAt bytes at places blocks → i < length places
    → BlockFits (get_or blocks i d) × Stands bytes (get_or places i 0) (block_text (get_or blocks i d))
stands_block bytes at places blocks i d are lt =
    let inside : i < length blocks = omega (arith, lt, as_many bytes at places blocks are) in (
      fits_linked None blocks i d inside are.fit,
      subst (λ (l : List ℕ). Stands bytes (get_or l i 0) (block_text (get_or blocks i d))) (sym are.places_are) (stands_item block_text bytes at blocks i d inside are.text),
    )

-- the text of a block begins with its issuer
pub issuer_stands : (bytes : List ℕ) (at : ℕ) (b : Block) → Stands bytes at (block_text b) → Stands bytes at b.issuer
issuer_stands bytes at b s =
    let mode = to_be_bytes w8 (mode_of b.body) in
    stands_first bytes at b.issuer mode (stands_first bytes at (b.issuer ++ mode) (body_text b.body) s)

-- the issuers are octets, and ascend, so their buckets do
pub in_order : (bytes : List ℕ) (at : ℕ) (places : List ℕ) (blocks : List Block) → AreOctets bytes → AreBlocksAt bytes at places blocks
    → InOrder blocks
in_order bytes at places blocks octets are i k d le lt = by (cases_lt i k)
  where
    key : (j : ℕ) → j < length blocks → (length (get_or blocks j d).issuer ≡ 32) × AreOctets (get_or blocks j d).issuer
    key j inside =
        let s = stands_block bytes at places blocks j d are (omega (arith, inside, as_many bytes at places blocks are)) in
        (s.0.issuer, stands_octets bytes _ _ octets (issuer_stands bytes (get_or places j 0) (get_or blocks j d) s.1))

    by : i < k ⊎ k ≤ i
        → bucket_in (length blocks) (get_or blocks i d).issuer ≤ bucket_in (length blocks) (get_or blocks k d).issuer
    by (inl less) =
        let first = key i (omega arith) in
        let second = key k lt in
        buckets_rise (length blocks) (get_or blocks i d).issuer (get_or blocks k d).issuer (first.0 ∙ sym second.0) first.1 second.1
        (Less-from_sorted block_cmp blocks i k d (sorted blocks are.fit) less lt)
    by (inr more) = let same : i ≡ k = omega (arith, le, more) in rw same (omega arith)

-- With this table the places tell of no block of the issuer but from `low` on and before `high`.
abbrev pub Lacks : List ℕ → List ℕ → List ℕ → List ℕ → ℕ → ℕ → Type 0
Lacks bytes places table issuer low high =
    (at : ℕ) (blocks : List Block) → AreBlocksAt bytes at places blocks → table ≡ buckets_of blocks → Missed blocks issuer low high

-- outside of the bounds no block has the key
pub lacks_others : (bytes places table issuer : List ℕ) (bounds : ℕ × ℕ) → AreOctets bytes
    → ((blocks : List Block) → InOrder blocks → table ≡ buckets_of blocks → length blocks ≡ length places → AreBounds blocks issuer bounds)
    → Lacks bytes places table issuer bounds.0 bounds.1
lacks_others bytes places table issuer bounds octets told = λ at blocks are is.
    let b = told blocks (in_order bytes at places blocks octets are) is (sym (as_many bytes at places blocks are)) in
    record { below = b.below; above = b.above }

pub no_place : (bytes places table issuer : List ℕ) (low high : ℕ) → high ≤ low → Lacks bytes places table issuer low high
    → (at : ℕ) (blocks : List Block) → AreBlocksAt bytes at places blocks → table ≡ buckets_of blocks → IsPlaceOf issuer blocks None
no_place bytes places table issuer low high le lacks at blocks are is = none_found blocks issuer low high le (lacks at blocks are is)

module _ (bytes places table issuer : List ℕ) (low high : ℕ) (lacks : Lacks bytes places table issuer low high) (middle : ℕ) (lt : middle < length places) where
  -- how the key that stands there is ordered with the issuer
  abbrev pub IsOrder : Ordering → Type 0
  IsOrder o = (k : List ℕ) → length k ≡ 32 → Stands bytes (get_or places middle 0) k → slice_cmp nat_cmp k issuer ≡ o

  module _ (at : ℕ) (blocks : List Block) (are : AreBlocksAt bytes at places blocks) where
    inside : middle < length blocks
    inside = omega (arith, lt, as_many bytes at places blocks are)

    abbrev there : Block
    there = get_or blocks middle (record { issuer = []; body = bodies.Clean })

    there_is : there ≡ get_or blocks middle there
    there_is = get_or_default blocks middle (record { issuer = []; body = bodies.Clean }) there inside

    order_is : (o : Ordering) → IsOrder o → slice_cmp nat_cmp there.issuer issuer ≡ o
    order_is o is =
        let s = stands_block bytes at places blocks middle (record { issuer = []; body = bodies.Clean }) are lt in
        is there.issuer s.0.issuer (issuer_stands bytes (get_or places middle 0) there s.1)

  pub lacks_less : IsOrder Less → Lacks bytes places table issuer (middle + 1) high
  lacks_less is = λ at blocks are told.
      missed_less blocks issuer (sorted blocks are.fit) low high middle (there at blocks are) (inside at blocks are) (there_is at blocks are) (lacks at blocks are told) (order_is at blocks are Less is)

  pub lacks_greater : IsOrder Greater → Lacks bytes places table issuer low middle
  lacks_greater is = λ at blocks are told.
      missed_greater blocks issuer (sorted blocks are.fit) low high middle (there at blocks are) (inside at blocks are) (there_is at blocks are) (lacks at blocks are told) (order_is at blocks are Greater is)

  pub is_place : IsOrder Equal → (at : ℕ) (blocks : List Block) → AreBlocksAt bytes at places blocks → table ≡ buckets_of blocks
      → IsPlaceOf issuer blocks (Some middle)
  is_place is at blocks are told = (
    inside at blocks are,
    found_equal blocks issuer (sorted blocks are.fit) low high middle (there at blocks are) (inside at blocks are) (there_is at blocks are) (lacks at blocks are told) (order_is at blocks are Equal is),
  )
