-- How a table of buckets is filled, word by word.
use Rattle.std.proofs.Common.{◌≡◌, ◌<◌, ◌≤◌, ◌+◌, ◌-◌, ℕ, true, false, List, ◌++◌, length, length-append, append_assoc, get_or, set, take, drop, sym, ap, ◌∙◌, inl, inr, arith}
use Rattle.std.proofs.lemmas.Bool.{cases_lt}
use Rattle.std.proofs.lemmas.Bool.Decides.{nat_tests}
use Rattle.std.proofs.lemmas.List.{get_or-set_same, get_or-set_other, take_rest, drop-take, length-drop, take_at}
use Rattle.std.proofs.lemmas.List.FromFn.{fill_by_all}
use Rattle.card_core.specs.declared.block.Block.{Block}
use Rattle.view_core.specs.Buckets.{InOrder}
use Rattle.view_core.specs.Filling.{Wrote}
use Rattle.view_core.specs.Index.{bucket_in, before_bucket, buckets_of}
use Rattle.view_core.proofs.BucketLaws.{IsBefore, leads, counted}
use Rattle.view_core.proofs.Filling.{no_block}

-- The words before `bucket` are those of the table, and the blocks before `block` come before that bucket.
pub record IsFilled (blocks : List Block) (table : List ℕ) (block bucket : ℕ) : Type 0 where
  pub words : (k : ℕ) → k < bucket → get_or table k 0 ≡ before_bucket (length blocks) blocks k
  pub passed : (k : ℕ) → k < block → bucket_in (length blocks) (get_or blocks k no_block).issuer < bucket

pub filled_none : (blocks : List Block) (table : List ℕ) → IsFilled blocks table 0 0
filled_none blocks table = record { words = λ k lt. absurd (omega arith); passed = λ k lt. absurd (omega arith) }

-- with a block that comes before the bucket
pub filled_block : (blocks : List Block) (table : List ℕ) (block bucket : ℕ) → IsFilled blocks table block bucket
    → IsBefore (length blocks) bucket (get_or blocks block no_block) ≡ true → IsFilled blocks table (block + 1) bucket
filled_block blocks table block bucket f comes = record {
  words = f.words;
  passed = λ k lt. elim (cases_lt k block) [
    | inl less ↦ f.passed k less
    | inr more ↦ (let same : k ≡ block = omega (arith, lt, more) in let one = comes in rw same (grind (arith, nat_tests)))
  ];
}

-- With a word more: of the blocks so many come before the bucket as stand before the first that doesn't.
pub filled_word : (blocks : List Block) (table : List ℕ) (block bucket : ℕ) → InOrder blocks → IsFilled blocks table block bucket
    → bucket < length table → block ≤ length blocks
    → (block < length blocks → IsBefore (length blocks) bucket (get_or blocks block no_block) ≡ false)
    → IsFilled blocks (set table bucket block) block (bucket + 1)
filled_word blocks table block bucket order f room within other = record {
  words = λ k lt. elim (cases_lt k bucket) [
    | inl less ↦ get_or-set_other table bucket k block 0 (λ same. omega (arith, same, less)) ∙ f.words k less
    | inr more ↦ (
        let same : k ≡ bucket = omega (arith, lt, more) in
        let many = counted (IsBefore (length blocks) bucket) blocks block no_block (leads blocks bucket order) within
        (λ i less. let one = f.passed i less in grind (arith, nat_tests)) other in
        rw same (get_or-set_same table bucket block 0 room ∙ sym many))
  ];
  passed = λ k lt. omega (arith, f.passed k lt);
}

-- all of them
pub filled_all : (blocks : List Block) (table : List ℕ) (block bucket : ℕ) → IsFilled blocks table block bucket → length table ≡ length blocks
    → length table ≤ bucket → table ≡ buckets_of blocks
filled_all blocks table block bucket f long done =
    fill_by_all (before_bucket (length blocks) blocks) table (length blocks) 0 long (λ k lt. f.words k (omega (arith, long, done, lt)))

-- ---- where it stands in an index

-- the places behind which it is put
pub places_put : (old front : List ℕ) (to count : ℕ) → front ≡ take (to + count) old
    → take (length front - to) (drop to front) ≡ take count (drop to old)
places_put old front to count is = take_rest front to ∙ ap (drop to) is ∙ drop-take to count old

pub table_put : (old front rest table words : List ℕ) (n count : ℕ) → front ≡ take n old → length front ≡ n → length rest + n ≡ length old
    → count ≤ length rest → length table ≡ count → table ≡ words → Wrote old (front ++ (table ++ drop count rest)) n words
table_put old front rest table words n count from long whole room wide is = record {
  same =
      omega (
        arith,
        length-append front (table ++ drop count rest),
        length-append table (drop count rest),
        length-drop count rest,
        long,
        whole,
        room,
        wide,
      );
  are = λ enough.
      let end : length (front ++ table) ≡ n + length words = omega (arith, length-append front table, ap length is, long) in
      ap (take (n + length words)) (sym (append_assoc front table (drop count rest)))
      ∙ take_at (front ++ table) (drop count rest) (n + length words) end
      ∙ ap (λ (l : List ℕ). l ++ table) from
      ∙ ap (λ (l : List ℕ). take n old ++ l) is;
}
