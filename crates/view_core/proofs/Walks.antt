-- What the words of an index tell of a store's parts, one after the other.
use Rattle.std.proofs.Common.{◌≡◌, ℕ, zero, suc, ◌+◌, ◌<◌, List, [], ◌∷◌, ◌++◌, length, get_or, take, drop, refl, sym, ap, ◌∙◌, subst, append_assoc, length-append, arith}
use Rattle.std.specs.Prelude.{All, flat_map}
use Rattle.std.specs.List.Sorted.{IsStrictlySortedBy}
use Rattle.std.specs.Ordering.{nat_cmp}
use Rattle.std.proofs.lemmas.List.{append-nil, take_at, drop_at, take-append-drop}
use Rattle.octets_core.proofs.Texts.{IsBytes}
use Rattle.ident_core.specs.RangeText.{range_text}
use Rattle.card_core.specs.declared.block.Block.{Block}
use Rattle.part_text.specs.SealedFields.{SealedFields}
use Rattle.part_text.specs.Fitting.{Fits}
use Rattle.part_text.specs.PartText.{block_text, spelling}
use Rattle.store_core.specs.StoreLayout.{store, store_text}
use Rattle.store_core.proofs.StoreSpelled.{found}
use Rattle.view_core.specs.Index.{ranges_at, blocks_at, buckets_of, parts_index, shards_in, shards_of, shards_index, index_of}
use Rattle.view_core.specs.Opening.{IsOpened}
use Rattle.view_core.specs.Parts.{IsPartAt}
use Rattle.view_core.specs.Standing.{HoldShards}
use Rattle.view_core.specs.Texts.{Stands, places_of}
use Rattle.view_core.specs.declared.part.PartAt.{PartAt}
use Rattle.view_core.proofs.Ascending.{parts_rise, rise_sorted}
use Rattle.view_core.proofs.BucketLaws.{length-buckets}
use Rattle.view_core.proofs.Standing.{standing_part}
use Rattle.view_core.proofs.Texts.{stands_first, stands_then, length-places}

-- two lists in one way, where the first are as long
same_split : (xs us ys vs : List ℕ) → length xs ≡ length us → xs ++ ys ≡ us ++ vs → (xs ≡ us) × (ys ≡ vs)
same_split xs us ys vs len is = (
  sym (take_at xs ys (length us) len) ∙ ap (take (length us)) is ∙ take_at us vs (length us) refl,
  sym (drop_at xs ys (length us) len) ∙ ap (drop (length us)) is ∙ drop_at us vs (length us) refl,
)

-- the words of an index, behind which there may be others
pub opened_words : (words : List ℕ) (parts : List SealedFields) → take (length (index_of parts)) words ≡ index_of parts
    → words ≡ length (parts_index 10 parts) ∷ length (shards_index 10 parts) ∷ parts_index 10 parts ++ shards_index 10 parts ++ drop (length (index_of parts)) words
opened_words words parts is = sym (take-append-drop (length (index_of parts)) words) ∙ ap (λ (l : List ℕ). l ++ drop (length (index_of parts)) words) is

regrouped : (a b c d e : List ℕ) → a ++ (b ++ c ++ d ++ e) ≡ a ++ b ++ c ++ (d ++ e)
regrouped a b c d e =
    ap (λ (l : List ℕ). a ++ l) (append_assoc (b ++ c) d e) ∙ sym (append_assoc a (b ++ c) (d ++ e)) ∙ ap (λ (l : List ℕ). l ++ (d ++ e)) (sym (append_assoc a b c))

-- where the shards of a block stand among those of all
record HasShards (at : ℕ) (blocks : List Block) (i : ℕ) (d : Block) : Type 0 where
  front : List ℕ
  back : List ℕ
  are : shards_of at blocks ≡ front ++ shards_in (get_or (places_of block_text at blocks) i 0) (get_or blocks i d).body ++ back

has_shards : (at : ℕ) (blocks : List Block) (i : ℕ) (d : Block) → i < length blocks → HasShards at blocks i d
has_shards at [] i d lt = absurd (omega arith)
has_shards at (b ∷ blocks) zero d lt = record { front = []; back = shards_of (at + length (block_text b)) blocks; are = refl }
has_shards at (b ∷ blocks) (suc i) d lt =
    let h = has_shards (at + length (block_text b)) blocks i d (omega arith) in
    let own = shards_in (get_or (places_of block_text (at + length (block_text b)) blocks) i 0) (get_or blocks i d).body in
    record {
      front = shards_in at b.body ++ h.front;
      back = h.back;
      are = ap (λ (l : List ℕ). shards_in at b.body ++ l) h.are ∙ sym (append_assoc (shards_in at b.body) (h.front ++ own) h.back)
          ∙ ap (λ (l : List ℕ). l ++ h.back) (sym (append_assoc (shards_in at b.body) h.front own));
    }

-- Some of the parts were walked, and the words are those of the others, which stand behind them.
pub record AreWalked (bytes shards words : List ℕ) (parts walked : List SealedFields) : Type 0 where
  pub left : List SealedFields
  pub parts_are : parts ≡ walked ++ left
  pub at : ℕ
  pub fit : All Fits left
  pub text : Stands bytes at (flat_map spelling left)
  pub words_are : words ≡ parts_index at left
  pub ascend : IsStrictlySortedBy nat_cmp shards
  pub before : List ℕ
  pub shards_are : shards ≡ before ++ shards_index at left

parts_stand : (bytes : List ℕ) (parts : List SealedFields) → bytes ≡ store_text parts → Stands bytes 10 (flat_map spelling parts)
unfolding store_text
parts_stand bytes parts is = record {
  behind = [];
  is = ap (drop 10) is ∙ sym (append-nil (flat_map spelling parts));
}

-- before the first part
pub none_walked : (bytes words a b : List ℕ) (parts : List SealedFields) → IsBytes bytes → IsOpened bytes words parts
    → a ≡ parts_index 10 parts → b ≡ shards_index 10 parts → AreWalked bytes b a parts []
none_walked bytes words a b parts fits opened a_is b_is =
    let read = found bytes parts (store bytes 0) fits refl opened.store in
    let stand = parts_stand bytes parts read.0 in
    record {
      left = parts;
      parts_are = refl;
      at = 10;
      fit = read.1;
      text = stand;
      words_are = a_is;
      ascend = subst (IsStrictlySortedBy nat_cmp) (sym b_is) (rise_sorted 10 _ (shards_index 10 parts) (parts_rise bytes 10 parts read.1 stand));
      before = [];
      shards_are = b_is;
    }

pub record Tells (words : List ℕ) (part : PartAt) (others : List ℕ) : Type 0 where
  pub are : words ≡ part.ranges.count ∷ part.ranges.at ∷ length part.blocks.now ∷ part.blocks.now ++ part.buckets.now ++ others
  pub alike : length part.buckets.now ≡ length part.blocks.now

-- the words tell of a part that stands in the bytes
record TellsPart (at : ℕ) (s : SealedFields) (left : List SealedFields) (part : PartAt) (others : List ℕ) : Type 0 where
  count : length s.part.head.ranges ≡ part.ranges.count
  ranges : part.ranges.at ≡ ranges_at at
  blocks : part.blocks.now ≡ places_of block_text (blocks_at at s.part) s.part.blocks
  buckets : part.buckets.now ≡ buckets_of s.part.blocks
  others_are : others ≡ parts_index (at + length (spelling s)) left

tells_part : (at : ℕ) (s : SealedFields) (left : List SealedFields) (part : PartAt) (words others : List ℕ) → words ≡ parts_index at (s ∷ left) → Tells words part others → TellsPart at s left part others
tells_part at s left part words others is tells =
    let places = places_of block_text (blocks_at at s.part) s.part.blocks in
    let same = sym tells.are ∙ is in
    let many = ap (λ (l : List ℕ). get_or l 2 0) same in
    let len : length part.blocks.now ≡ length places = many ∙ sym (length-places block_text (blocks_at at s.part) s.part.blocks) in
    let wide : length part.buckets.now ≡ length (buckets_of s.part.blocks) = tells.alike ∙ many ∙ sym (length-buckets s.part.blocks) in
    let both : length (part.blocks.now ++ part.buckets.now) ≡ length (places ++ buckets_of s.part.blocks)
    = omega (arith, len, wide, length-append part.blocks.now part.buckets.now, length-append places (buckets_of s.part.blocks)) in
    let split = same_split (part.blocks.now ++ part.buckets.now) (places ++ buckets_of s.part.blocks) others (parts_index (at + length (spelling s)) left) both
    (ap (drop 3) same) in
    let own = same_split part.blocks.now places part.buckets.now (buckets_of s.part.blocks) len split.0 in
    record {
      count = sym (ap (λ (l : List ℕ). get_or l 0 0) same);
      ranges = ap (λ (l : List ℕ). get_or l 1 0) same;
      blocks = own.0;
      buckets = own.1;
      others_are = split.1;
    }

is_part : (bytes shards : List ℕ) (before : List ℕ) (at : ℕ) (s : SealedFields) (left : List SealedFields) (part : PartAt) (others : List ℕ) → Fits s → Stands bytes at (spelling s)
    → IsStrictlySortedBy nat_cmp shards → shards ≡ before ++ shards_index at (s ∷ left) → TellsPart at s left part others → IsPartAt bytes shards part s.part
is_part bytes shards before at s left part others fit text ascend are t =
    let holds = standing_part bytes at s fit text in
    record {
      ranges = record { fit = fit.part.head.ranges; count_is = t.count; text = subst (λ (n : ℕ). Stands bytes n (flat_map range_text s.part.head.ranges)) (sym t.ranges) holds.ranges };
      blocks_begin = blocks_at at s.part;
      blocks = record { fit = fit.part.blocks; places_are = t.blocks; text = holds.blocks };
      buckets = t.buckets;
      shards_are = λ i d lt.
          let h = has_shards (blocks_at at s.part) s.part.blocks i d lt in
          let own = shards_in (get_or (places_of block_text (blocks_at at s.part) s.part.blocks) i 0) (get_or s.part.blocks i d).body in
          let place : get_or (places_of block_text (blocks_at at s.part) s.part.blocks) i 0 ≡ get_or part.blocks.now i 0 = ap (λ (l : List ℕ). get_or l i 0) (sym t.blocks) in
          subst (λ (n : ℕ). HoldShards shards n (get_or s.part.blocks i d)) place (record {
            ascend = ascend;
            before = before ++ h.front;
            behind = h.back ++ shards_index (at + length (spelling s)) left;
            are = are ∙ ap (λ (l : List ℕ). before ++ (l ++ shards_index (at + length (spelling s)) left)) h.are ∙ regrouped before h.front own h.back (shards_index (at + length (spelling s)) left);
          });
    }

-- the next part, and what is left behind it
pub record IsNext (bytes shards others : List ℕ) (parts walked : List SealedFields) (part : PartAt) : Type 0 where
  pub next : SealedFields
  pub is : IsPartAt bytes shards part next.part
  pub then : AreWalked bytes shards others parts (walked ++ next ∷ [])

next_of : (bytes shards words others : List ℕ) (parts walked : List SealedFields) (part : PartAt) (left : List SealedFields)
    → (a : AreWalked bytes shards words parts walked) → a.left ≡ left → Tells words part others → IsNext bytes shards others parts walked part
next_of bytes shards words others parts walked part [] a is tells =
    let none : ◌≡◌ {A = List ℕ} (part.ranges.count ∷ part.ranges.at ∷ length part.blocks.now ∷ part.blocks.now ++ part.buckets.now ++ others) [] = sym tells.are ∙ a.words_are ∙ ap (parts_index a.at) is in
    absurd (omega (arith, ap length none))
next_of bytes shards words others parts walked part (s ∷ left) a is tells =
    let fit = subst (All Fits) is a.fit in
    let text = subst (λ (l : List SealedFields). Stands bytes a.at (flat_map spelling l)) is a.text in
    let own = stands_first bytes a.at (spelling s) (flat_map spelling left) text in
    let t = tells_part a.at s left part words others (a.words_are ∙ ap (parts_index a.at) is) tells in
    let shards_are = a.shards_are ∙ ap (λ (l : List SealedFields). a.before ++ shards_index a.at l) is in
    record {
      next = s;
      is = is_part bytes shards a.before a.at s left part others (fit 0 s (omega arith)) own a.ascend shards_are t;
      then = record {
        left = left;
        parts_are = a.parts_are ∙ ap (λ (l : List SealedFields). walked ++ l) is ∙ sym (append_assoc walked (s ∷ []) left);
        at = a.at + length (spelling s);
        fit = λ k d lt. fit (suc k) d (omega arith);
        text = stands_then bytes a.at (spelling s) (flat_map spelling left) (a.at + length (spelling s)) refl text;
        words_are = t.others_are;
        ascend = a.ascend;
        before = a.before ++ shards_of (blocks_at a.at s.part) s.part.blocks;
        shards_are = shards_are ∙ sym (append_assoc a.before (shards_of (blocks_at a.at s.part) s.part.blocks) (shards_index (a.at + length (spelling s)) left));
      };
    }

pub next_walked : (bytes shards words others : List ℕ) (parts walked : List SealedFields) (part : PartAt)
    → AreWalked bytes shards words parts walked → Tells words part others → IsNext bytes shards others parts walked part
next_walked bytes shards words others parts walked part a tells = next_of bytes shards words others parts walked part a.left a refl tells

-- the words tell of no part
abbrev pub TellNone : List ℕ → Type 0
TellNone words = (x y : ℕ) (own table behind : List ℕ) → length table ≡ length own → words ≡ x ∷ y ∷ length own ∷ own ++ table ++ behind → ⊥

-- all were walked, where the words tell of none
all_of : (bytes shards words : List ℕ) (parts walked left : List SealedFields) → (a : AreWalked bytes shards words parts walked) → a.left ≡ left → TellNone words → parts ≡ walked
all_of bytes shards words parts walked [] a is none = a.parts_are ∙ ap (λ (l : List SealedFields). walked ++ l) is ∙ append-nil walked
all_of bytes shards words parts walked (s ∷ left) a is none =
    let places = places_of block_text (blocks_at a.at s.part) s.part.blocks in
    let long : length places ≡ length s.part.blocks = length-places block_text (blocks_at a.at s.part) s.part.blocks in
    let table = buckets_of s.part.blocks in
    absurd (none (length s.part.head.ranges) (ranges_at a.at) places table (parts_index (a.at + length (spelling s)) left) (length-buckets s.part.blocks ∙ sym long)
    (a.words_are ∙ ap (parts_index a.at) is ∙ ap (λ (n : ℕ). length s.part.head.ranges ∷ ranges_at a.at ∷ n ∷ places ++ table ++ parts_index (a.at + length (spelling s)) left) (sym long)))

pub all_walked : (bytes shards words : List ℕ) (parts walked : List SealedFields) → AreWalked bytes shards words parts walked → TellNone words → parts ≡ walked
all_walked bytes shards words parts walked a none = all_of bytes shards words parts walked a.left a refl none
