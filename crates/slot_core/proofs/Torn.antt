-- What stays of a file that a crash may tear.
use Rattle.std.proofs.Common.{◌≡◌, ◌⊎◌, inl, inr, ⊎_elim, ℕ, ◌+◌, ◌-◌, ◌<◌, ◌≤◌, List, length, get_or, drop, refl, sym, ap, ◌∙◌, arith, length-take, length-drop}
use Rattle.std.specs.Int.{w64, to_be_bytes}
use Rattle.std.proofs.lemmas.List.{same_lists, get_or-take, get_or-drop, get_or_default}
use Rattle.slot_core.specs.Disk.{DiskState, Torn, Written, Tells, piece}
use Rattle.slot_core.specs.Fields.{WritesSlot}

-- a piece that isn't empty lies within the file
pub long : (at n : ℕ) (file s : List ℕ) → piece at n file ≡ s → length s ≡ n → n ≤ length file - at
long at n file s is size = omega (arith, ap length is, length-take n (drop at file), length-drop at file)

length-piece : (at n : ℕ) (file : List ℕ) → at + n ≤ length file → length (piece at n file) ≡ n
length-piece at n file within = omega (arith, length-take n (drop at file), length-drop at file)

pub get_or-piece : (at n : ℕ) (file : List ℕ) (k : ℕ) → k < n → get_or (piece at n file) k 0 ≡ get_or file (at + k) 0
get_or-piece at n file k below = get_or-take n (drop at file) k 0 below ∙ get_or-drop at file k 0

-- a piece that isn't in the range stays
pub piece-torn : (at n off m : ℕ) (old new : List ℕ) → Torn at n old new → off + m ≤ length old → (off + m ≤ at) ⊎ (at + n ≤ off) → piece off m new ≡ piece off m old
piece-torn at n off m old new torn within apart =
    let size : length (piece off m new) ≡ length (piece off m old) =
    length-piece off m new (omega (arith, torn.no_shorter)) ∙ sym (length-piece off m old within) in
    same_lists (piece off m new) (piece off m old) size (λ k d below.
    let few : k < m = omega (arith, below, length-piece off m new (omega (arith, torn.no_shorter))) in
    let here : k < length (piece off m old) = omega (arith, below, size) in
    let where_ : (off + k < at) ⊎ (at + n ≤ off + k) = ⊎_elim (λ front. inl (omega arith)) (λ back. inr (omega arith)) apart in
    get_or_default (piece off m new) k d 0 below
    ∙ get_or-piece off m new k few
    ∙ torn.elsewhere (off + k) (omega arith) where_
    ∙ sym (get_or-piece off m old k few)
    ∙ get_or_default (piece off m old) k 0 d here)

-- a write behind another is one write
pub Torn-then : (at n k : ℕ) (old mid new : List ℕ) → Torn at n old mid → Torn (at + n) k mid new → Torn at (n + k) old new
Torn-then at n k old mid new a b = record {
  no_shorter = omega (arith, a.no_shorter, b.no_shorter);
  elsewhere = λ j here where_.
      b.elsewhere j (omega (arith, a.no_shorter)) (⊎_elim (λ front. inl (omega arith)) (λ back. inr (omega arith)) where_)
      ∙ a.elsewhere j here (⊎_elim (λ front. inl front) (λ back. inr (omega arith)) where_);
}

-- a length of eight bytes and then the bytes
pub WritesSlot-two : (at : ℕ) (bytes old mid new : List ℕ) → Written at (to_be_bytes w64 (length bytes)) old mid → Written (at + 8) bytes mid new → WritesSlot at bytes old new
WritesSlot-two at bytes old mid new a b = record {
  stands = piece-torn (at + 8) (length bytes) at 8 mid new b.torn (omega (arith, long at 8 mid _ a.range refl)) (inl (omega arith)) ∙ a.range;
  held = b.range;
  torn = Torn-then at 8 (length bytes) old mid new a.torn b.torn;
}

pub Tells-two : (at : ℕ) (bytes : List ℕ) (old mid new : DiskState)
    → Tells (Written at (to_be_bytes w64 (length bytes))) old mid → Tells (Written (at + 8) bytes) mid new → Tells (WritesSlot at bytes) old new
Tells-two at bytes old mid new a b = record {
  some = λ was told.
      let m = a.some was told in
      let n = b.some m.0 m.1 in
      (n.0, n.1, WritesSlot-two at bytes was m.0 n.0 m.2 n.2);
  none = λ nothing. b.none (a.none nothing);
}
