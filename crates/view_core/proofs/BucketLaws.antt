-- Buckets ascend with the keys, and a table of them tells where the blocks of one stand.
use Rattle.std.proofs.Common.{◌≡◌, ◌<◌, ◌≤◌, ◌+◌, ℕ, zero, suc, Bool, true, false, cond, List, [], ◌∷◌, length, get_or, take, refl, sym, ap, ◌∙◌, subst, ◌⊎◌, inl, inr, arith}
use Rattle.std.specs.Prelude.{count_by, nat_lt}
use Rattle.std.specs.Str.{bytes_eq}
use Rattle.std.specs.declared.cmp.Ordering.TheVariants.{Less, Greater}
use Rattle.std.specs.Ordering.{nat_cmp, ordering_then}
use Rattle.std.specs.Cmp.Lexicographic.{slice_cmp}
use Rattle.std.proofs.Math.Nat.{mul-le-mul_right}
use Rattle.std.proofs.lemmas.Bool.{cases_lt}
use Rattle.std.proofs.lemmas.Bool.Decides.{nat_tests}
use Rattle.std.proofs.lemmas.List.FromFn.{length-map-range_with_len, get_or-map-range_with_len}
use Rattle.std.proofs.lemmas.List.Sums.{sum_by-cons, count_by-le-length}
use Rattle.octets_core.specs.Numbers.{number}
use Rattle.octets_core.proofs.Heads.{AreOctets, first_cmp}
use Rattle.ident_core.proofs.Sets.{bytes_same}
use Rattle.card_core.specs.declared.block.Block.{Block}
use Rattle.view_core.specs.Buckets.{InOrder, AreBounds}
use Rattle.view_core.specs.Index.{bucket_in, before_bucket, buckets_of}

-- ---- keys

-- a key before another one has no greater number
numbers_rise : (us vs : List ℕ) → length us ≡ length vs → AreOctets us → AreOctets vs → slice_cmp nat_cmp us vs ≡ Less
    → number (take 8 us) ≤ number (take 8 vs)
numbers_rise us vs len x y less = by (cases_lt (number (take 8 vs)) (number (take 8 us)))
  where
    by : number (take 8 vs) < number (take 8 us) ⊎ number (take 8 us) ≤ number (take 8 vs) → number (take 8 us) ≤ number (take 8 vs)
    by (inl lt) =
        let greater : nat_cmp (number (take 8 us)) (number (take 8 vs)) ≡ Greater = grind (arith, nat_tests) in
        absurd (let e = sym less ∙ first_cmp us vs len x y ∙ ap (λ o. ordering_then o (slice_cmp nat_cmp us vs)) greater in cc)
    by (inr le) = le

pub buckets_rise : (count : ℕ) (us vs : List ℕ) → length us ≡ length vs → AreOctets us → AreOctets vs → slice_cmp nat_cmp us vs ≡ Less
    → bucket_in count us ≤ bucket_in count vs
buckets_rise count us vs len x y less =
    let more = mul-le-mul_right count (numbers_rise us vs len x y less) in
    omega (arith, more)

-- ---- how many pass

module _ {X : Type 0} (p : X → Bool) where
  -- what passes stands before what doesn't
  abbrev pub Leads : List X → Type 0
  Leads xs = (i k : ℕ) (d : X) → i ≤ k → k < length xs → p (get_or xs k d) ≡ true → p (get_or xs i d) ≡ true

  abbrev Counts : List X → Type 0
  Counts xs = (k : ℕ) (d : X) → k < length xs → p (get_or xs k d) ≡ nat_lt k (count_by p xs)

  fails : (x : X) (xs : List X) → Leads (x ∷ xs) → p x ≡ false → (k : ℕ) (d : X) → k < length xs → p (get_or xs k d) ≡ false
  fails x xs leads e k d lt = by (p (get_or xs k d)) refl
    where
      by : (b : Bool) → p (get_or xs k d) ≡ b → p (get_or xs k d) ≡ false
      by true passes = absurd (let first = leads 0 (suc k) d (omega arith) (omega arith) passes in cc)
      by false not_it = not_it

  none_pass : (xs : List X) (x : X) → Counts xs → ((k : ℕ) (d : X) → k < length xs → p (get_or xs k d) ≡ false) → count_by p xs ≡ 0
  none_pass xs x counts all = by (cases_lt 0 (length xs))
    where
      by : 0 < length xs ⊎ length xs ≤ 0 → count_by p xs ≡ 0
      by (inl some) = let a = counts 0 x some in let b = all 0 x some in grind (arith, nat_tests)
      by (inr none) = omega (arith, none, count_by-le-length p xs)

  counts_more : (x : X) (xs : List X) → Leads (x ∷ xs) → Counts xs → (b : Bool) → p x ≡ b → Counts (x ∷ xs)
  counts_more x xs leads rest true e zero d lt =
      let many : count_by p (x ∷ xs) ≡ 1 + count_by p xs
      = sum_by-cons (λ y. cond (p y) 1 0) x xs ∙ ap (λ b. cond b 1 0 + count_by p xs) e in
      grind (arith, nat_tests)
  counts_more x xs leads rest true e (suc k) d lt =
      let many : count_by p (x ∷ xs) ≡ 1 + count_by p xs
      = sum_by-cons (λ y. cond (p y) 1 0) x xs ∙ ap (λ b. cond b 1 0 + count_by p xs) e in
      let one = rest k d (omega arith) in
      grind (arith, nat_tests)
  counts_more x xs leads rest false e k d lt =
      let none = none_pass xs x rest (fails x xs leads e) in
      let many : count_by p (x ∷ xs) ≡ 0
      = sum_by-cons (λ y. cond (p y) 1 0) x xs ∙ ap (λ b. cond b 1 0 + count_by p xs) e ∙ omega (arith, none) in
      all_fail k lt many
    where
      all_fail : (k : ℕ) → k < length (x ∷ xs) → count_by p (x ∷ xs) ≡ 0 → p (get_or (x ∷ xs) k d) ≡ nat_lt k (count_by p (x ∷ xs))
      all_fail zero lt many = grind (arith, nat_tests)
      all_fail (suc k) lt many = let one = fails x xs leads e k d (omega arith) in grind (arith, nat_tests)

  -- each passes that stands before so many as pass
  pub counts : (xs : List X) → Leads xs → Counts xs
  counts [] leads k d lt = absurd (omega arith)
  counts (x ∷ xs) leads k d lt =
      counts_more x xs leads (counts xs (λ i j e le low passes. leads (suc i) (suc j) e (omega arith) (omega arith) passes)) (p x) refl k d lt

  -- so many pass as stand before the first that doesn't
  pub counted : (xs : List X) (i : ℕ) (d : X) → Leads xs → i ≤ length xs → ((k : ℕ) → k < i → p (get_or xs k d) ≡ true)
      → (i < length xs → p (get_or xs i d) ≡ false) → count_by p xs ≡ i
  counted xs i d leads within before here = by (cases_lt (count_by p xs) i) (cases_lt i (count_by p xs))
    where
      n : ℕ
      n = count_by p xs

      by : n < i ⊎ i ≤ n → i < n ⊎ n ≤ i → n ≡ i
      by (inl less) other = absurd (let a = counts xs leads n d (omega arith) in let b = before n less in grind (arith, nat_tests))
      by (inr le) (inl more) =
          let inside : i < length xs = omega (arith, count_by-le-length p xs, more) in
          absurd (let a = counts xs leads i d inside in let b = here inside in grind (arith, nat_tests))
      by (inr le) (inr ge) = omega arith

-- ---- blocks

-- the block has a bucket before this one, of so many
abbrev pub IsBefore : ℕ → ℕ → Block → Bool
IsBefore count bucket b = nat_lt (bucket_in count b.issuer) bucket

pub leads : (blocks : List Block) (bucket : ℕ) → InOrder blocks → Leads (IsBefore (length blocks) bucket) blocks
leads blocks bucket order i k d le lt passes = let one = order i k d le lt in grind (arith, nat_tests)

apart : (count : ℕ) (a b : List ℕ) → (bucket_in count a ≡ bucket_in count b → ⊥) → bytes_eq a b ≡ false
apart count a b other = by (bytes_eq a b) refl
  where
    by : (same : Bool) → bytes_eq a b ≡ same → bytes_eq a b ≡ false
    by true e = absurd (other (ap (bucket_in count) (bytes_same a b e)))
    by false e = e

pub length-buckets : (blocks : List Block) → length (buckets_of blocks) ≡ length blocks
length-buckets blocks = length-map-range_with_len (before_bucket (length blocks) blocks) 0 (length blocks)

few_before : (blocks : List Block) (bucket : ℕ) → before_bucket (length blocks) blocks bucket ≤ length blocks
few_before blocks bucket = count_by-le-length (IsBefore (length blocks) bucket) blocks

-- a word of the table
pub word_is : (blocks : List Block) (table : List ℕ) (count bucket word : ℕ) → table ≡ buckets_of blocks → length blocks ≡ count
    → bucket < count → word ≡ get_or table bucket 0 → (word ≡ before_bucket count blocks bucket) × (word ≤ count)
word_is blocks table count bucket word is many lt read =
    let there : word ≡ before_bucket (length blocks) blocks bucket
    = read ∙ ap (λ (l : List ℕ). get_or l bucket 0) is
    ∙ get_or-map-range_with_len (before_bucket (length blocks) blocks) 0 (length blocks) bucket bucket 0 (omega (arith, many, lt)) (omega arith) in (
      there ∙ ap (λ (n : ℕ). before_bucket n blocks bucket) many,
      omega (arith, there, few_before blocks bucket, many),
    )

-- outside of what the table tells of a key's bucket no block has the key
pub are_bounds : (blocks : List Block) (key : List ℕ) (count bucket low high : ℕ) → InOrder blocks → length blocks ≡ count
    → bucket ≡ bucket_in count key → (0 < count → bucket < count) → low ≤ high → high ≤ count
    → (bucket < count → low ≤ before_bucket count blocks bucket)
    → (bucket + 1 < count → high ≡ before_bucket count blocks (bucket + 1)) → (count ≤ bucket + 1 → high ≡ count)
    → AreBounds blocks key (low, high)
are_bounds blocks key count bucket low high order many is some up within first next last = record {
  below = λ k d lt.
      let inside : k < length blocks = omega (arith, lt, up, within, many) in
      let one = tells bucket k d inside in
      let few = first (some (omega (arith, many, inside))) in
      apart count (get_or blocks k d).issuer key (λ same. let e = same ∙ sym is in grind (arith, nat_tests));
  above = λ k d le lt. apart count (get_or blocks k d).issuer key (λ same.
      let e = same ∙ sym is in
      let one = tells (bucket + 1) k d lt in
      elim (cases_lt (bucket + 1) count) [
        | inl less ↦ (let high_is = next less in grind (arith, nat_tests))
        | inr more ↦ omega (arith, last more, le, lt, many)
      ]);
}
  where
    tells : (limit k : ℕ) (d : Block) → k < length blocks
        → nat_lt (bucket_in count (get_or blocks k d).issuer) limit ≡ nat_lt k (before_bucket count blocks limit)
    tells limit k d inside =
        subst (λ (n : ℕ). nat_lt (bucket_in n (get_or blocks k d).issuer) limit ≡ nat_lt k (before_bucket n blocks limit)) many
        (counts (IsBefore (length blocks) limit) blocks (leads blocks limit order) k d inside)
