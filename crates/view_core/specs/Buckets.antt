-- Blocks by the buckets of their issuers.
use Rattle.std.specs.Prelude.{◌≡◌, ℕ, ◌<◌, ◌≤◌, List, length, get_or, false}
use Rattle.std.specs.Str.{bytes_eq}
use Rattle.card_core.specs.declared.block.Block.{Block}
use Rattle.view_core.specs.Index.{bucket_in}

-- their buckets ascend
abbrev pub InOrder : List Block → Type 0
InOrder blocks =
    (i k : ℕ) (d : Block) → i ≤ k → k < length blocks
    → bucket_in (length blocks) (get_or blocks i d).issuer ≤ bucket_in (length blocks) (get_or blocks k d).issuer

-- no block but from the first bound on and before the second is the issuer's
pub record AreBounds (blocks : List Block) (issuer : List ℕ) (bounds : ℕ × ℕ) : Type 0 where
  pub below : (k : ℕ) (d : Block) → k < bounds.0 → bytes_eq (get_or blocks k d).issuer issuer ≡ false
  pub above : (k : ℕ) (d : Block) → bounds.1 ≤ k → k < length blocks → bytes_eq (get_or blocks k d).issuer issuer ≡ false
