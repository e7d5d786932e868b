-- Whether a part that was read follows another one, by what was noted of both and where they stand.
use Rattle.std.proofs.Common.{◌≡◌, ℕ, suc, ◌+◌, ◌-◌, ◌≤◌, ◌<◌, List, [], ◌∷◌, ◌++◌, length, true, false, Option, Some, None, Ok, Err, refl, sym, ap, ◌∙◌, subst, length-append, arith}
use Rattle.std.specs.Prelude.{codes, flat_map}
use Rattle.std.specs.Int.{w8, w16, w64, w32, to_be_bytes}
use Rattle.std.specs.Option.{option_map}
use Rattle.std.specs.Str.{bytes_eq}
use Rattle.std.proofs.lemmas.Bool.{le-leb, lt-leb}
use Rattle.octets_core.specs.Layout.{embedded}
use Rattle.part_text.specs.PartLayout.{part}
use Rattle.ident_core.specs.RangeText.{range_text}
use Rattle.ident_core.specs.Coverage.{first_outside}
use Rattle.ident_core.specs.declared.kind.Kind.TheVariants as kinds
use Rattle.card_core.specs.PartFields.{PartFields}
use Rattle.part_text.specs.SealedFields.{SealedFields}
use Rattle.part_text.specs.PartText.{kind_number, head_text, version_of, block_text, unsealed_text, spelling}
use Rattle.store_core.specs.Chain.{broken}
use Rattle.store_core.specs.declared.chain.Refusal.{Refusal}
use Rattle.store_core.specs.declared.chain.Refusal.TheVariants as refusals
use Rattle.store_core.specs.Chain.{newest_of, refusal_of}
use Rattle.store_core.specs.StoreLayout.{chain, moved}
use Rattle.store_core.specs.declared.fault.StoreFault.{StoreFault}
use Rattle.store_core.specs.declared.fault.StoreFault.TheVariants as faults
use Rattle.store_core.proofs.Reading.{next-part, next-refused, fails}
use Rattle.view_core.specs.Scanning.{IsReadAt, IsNewestAt, ReadsPart, ReadsChain, end_of}
use Rattle.view_core.specs.Standing.{AreRangesAt}
use Rattle.view_core.specs.Texts.{Stands}
use Rattle.view_core.specs.declared.scan.ReadPart.{ReadPart}
use Rattle.view_core.proofs.Texts.{stands_first}
use Rattle.view_core.proofs.Standing.{stands_middle, standing_part}

head_parent : (bytes : List ℕ) (at version : ℕ) (p : PartFields) → Stands bytes at (head_text version p.head) → Stands bytes (at + 18) p.head.parent
unfolding head_text
head_parent bytes at version p s =
    let t = codes "CLUBCARD" ++ to_be_bytes w8 version ++ to_be_bytes w8 (kind_number p.head.kind) ++ to_be_bytes w64 p.head.epoch in
    let before : length t ≡ 18 = omega (
      arith,
      length-append (codes "CLUBCARD" ++ to_be_bytes w8 version ++ to_be_bytes w8 (kind_number p.head.kind)) (to_be_bytes w64 p.head.epoch),
      length-append (codes "CLUBCARD" ++ to_be_bytes w8 version) (to_be_bytes w8 (kind_number p.head.kind)),
      length-append (codes "CLUBCARD") (to_be_bytes w8 version),
    ) in
    stands_middle bytes at t p.head.parent (to_be_bytes w16 (length p.head.ranges)) (at + 18) (omega (arith, before))
    (stands_first bytes at (t ++ p.head.parent ++ to_be_bytes w16 (length p.head.ranges)) (flat_map range_text p.head.ranges) s)

-- the parent of a part stands 18 bytes behind its beginning
pub parent_stands : (bytes : List ℕ) (at : ℕ) (s : SealedFields) → Stands bytes at (spelling s) → Stands bytes (at + 18) s.part.head.parent
unfolding spelling unsealed_text
parent_stands bytes at s st =
    let p = s.part in
    let head = head_text (version_of p.blocks) p.head in
    let count = to_be_bytes w32 (length p.blocks) in
    let blocks = flat_map block_text p.blocks in
    head_parent bytes at (version_of p.blocks) p
    (stands_first bytes at head count (stands_first bytes at (head ++ count) blocks (stands_first bytes at (head ++ count ++ blocks) s.trailer st)))

-- and its ranges where they are looked for
pub ranges_stand : (bytes : List ℕ) (read : ReadPart) (s : SealedFields) → IsReadAt bytes read s → AreRangesAt bytes (read.at + 52) read.note.ranges s.part.head.ranges
ranges_stand bytes read s r = record {
  fit = r.fits.part.head.ranges;
  count_is = sym (ap (λ n. n.ranges) r.note);
  text = (standing_part bytes read.at s r.fits r.text).ranges;
}

pub kind_is : (bytes : List ℕ) (read : ReadPart) (s : SealedFields) → IsReadAt bytes read s → read.note.kind ≡ s.part.head.kind
kind_is bytes read s r = ap (λ n. n.kind) r.note

pub trailer_is : (bytes : List ℕ) (read : ReadPart) (s : SealedFields) → IsReadAt bytes read s → read.note.trailer ≡ s.trailer
trailer_is bytes read s r = ap (λ n. n.trailer) r.note

pub epoch_is : (bytes : List ℕ) (read : ReadPart) (s : SealedFields) → IsReadAt bytes read s → read.note.epoch ≡ s.part.head.epoch
epoch_is bytes read s r = ap (λ n. n.epoch) r.note

-- ---- the rules of a chain in their order

pub broken_parent : (h g : SealedFields) → g.part.head.kind ≡ kinds.Delta → bytes_eq h.trailer g.part.head.parent ≡ false
    → broken h g ≡ Some (refusals.WrongParent h.trailer g.part.head.parent)
broken_parent h g kind other = rw (kind, other) refl

pub broken_epoch : (h g : SealedFields) → g.part.head.kind ≡ kinds.Delta → bytes_eq h.trailer g.part.head.parent ≡ true → g.part.head.epoch ≤ h.part.head.epoch
    → broken h g ≡ Some (refusals.OldEpoch h.part.head.epoch g.part.head.epoch)
broken_epoch h g kind same old = rw (kind, same, le-leb _ _ old) refl

pub broken_ranges : (h g : SealedFields) → g.part.head.kind ≡ kinds.Delta → bytes_eq h.trailer g.part.head.parent ≡ true → h.part.head.epoch < g.part.head.epoch
    → broken h g ≡ option_map refusals.CoverageShrinks (first_outside h.part.head.ranges g.part.head.ranges)
broken_ranges h g kind same new = rw (kind, same, lt-leb _ _ new) refl

-- a delta whose parent was read, by what stands in the bytes
pub record ReadsDelta (held given : ReadPart) (h g : SealedFields) (parent : List ℕ) : Type 0 where
  pub trailer : held.note.trailer ≡ h.trailer
  pub parent_is : parent ≡ g.part.head.parent
  pub before : held.note.epoch ≡ h.part.head.epoch
  pub now : given.note.epoch ≡ g.part.head.epoch

pub reads_delta : (held_bytes given_bytes : List ℕ) (held given : ReadPart) (h g : SealedFields) (parent : List ℕ) → IsReadAt held_bytes held h → IsReadAt given_bytes given g
    → ((key : List ℕ) → length key ≡ 32 → Stands given_bytes (given.at + 18) key → parent ≡ key) → ReadsDelta held given h g parent
reads_delta held_bytes given_bytes held given h g parent of_held of_given read = record {
  trailer = trailer_is held_bytes held h of_held;
  parent_is = read g.part.head.parent of_given.fits.part.head.parent (parent_stands given_bytes given.at g of_given.text);
  before = epoch_is held_bytes held h of_held;
  now = epoch_is given_bytes given g of_given;
}

-- ---- one part after the other

pub newest_more : (parts : List SealedFields) (g : SealedFields) → newest_of (parts ++ g ∷ []) ≡ Some g
newest_more [] g = refl
newest_more (x ∷ []) g = refl
newest_more (x ∷ y ∷ parts) g = newest_more (y ∷ parts) g

-- Behind a first part, i of so many further ones were read, the last of which is held, and the others are left.
pub record AreLeft (bytes : List ℕ) (count i : ℕ) (first : SealedFields) (at : ℕ) (held : ReadPart) : Type 0 where
  pub parts : List SealedFields
  pub left : chain count (first ∷ []) bytes at ≡ chain (count - i) parts bytes (end_of held)
  pub newest : IsNewestAt bytes held parts (i + 1)

pub all_left : (bytes : List ℕ) (count : ℕ) (first : SealedFields) (held : ReadPart) → IsReadAt bytes held first → AreLeft bytes count 0 first (end_of held) held
all_left bytes count first held r = record {
  parts = first ∷ [];
  left = let all : count ≡ count - 0 = omega arith in ap (λ (n : ℕ). chain n (first ∷ []) bytes (end_of held)) all;
  newest = record { newest = first; newest_is = refl; read_is = r; count_is = refl };
}

one-less : (count i : ℕ) (parts : List SealedFields) (bytes : List ℕ) (at : ℕ) → i < count → chain (count - i) parts bytes at ≡ chain (suc (count - (i + 1))) parts bytes at
one-less count i parts bytes at lt =
    let less : count - i ≡ suc (count - (i + 1)) = omega (arith, lt) in
    ap (λ (n : ℕ). chain n parts bytes at) less

pub one_fewer : (bytes : List ℕ) (count i : ℕ) (first : SealedFields) (at : ℕ) (held given : ReadPart) (r : Option Refusal) → i < count → AreLeft bytes count i first at held
    → ReadsPart bytes (end_of held) (Ok given)
    → ((parts : List SealedFields) (h g : SealedFields) → newest_of parts ≡ Some h → length parts ≡ i + 1 → IsReadAt bytes held h → IsReadAt bytes given g → r ≡ refusal_of parts g)
    → r ≡ None → AreLeft bytes count (i + 1) first at given
one_fewer bytes count i first at held given r lt a (g, read, of_given) told none =
    let n = a.newest in
    let taken = sym (told a.parts n.newest g n.newest_is n.count_is n.read_is of_given) ∙ none in
    record {
      parts = a.parts ++ g ∷ [];
      left = a.left ∙ one-less count i a.parts bytes (end_of held) lt ∙ next-part (count - (i + 1)) a.parts bytes (end_of held) g (end_of given) read taken;
      newest = record { newest = g; newest_is = newest_more a.parts g; read_is = of_given; count_is = omega (arith, length-append a.parts (g ∷ []), n.count_is) };
    }

pub one_refused : (bytes : List ℕ) (count i : ℕ) (first : SealedFields) (at : ℕ) (held given : ReadPart) (r : Option Refusal) (why : Refusal) → i < count → AreLeft bytes count i first at held
    → ReadsPart bytes (end_of held) (Ok given)
    → ((parts : List SealedFields) (h g : SealedFields) → newest_of parts ≡ Some h → length parts ≡ i + 1 → IsReadAt bytes held h → IsReadAt bytes given g → r ≡ refusal_of parts g)
    → r ≡ Some why → chain count (first ∷ []) bytes at ≡ Err (faults.Refused why)
one_refused bytes count i first at held given r why lt a (g, read, of_given) told some =
    let n = a.newest in
    a.left ∙ one-less count i a.parts bytes (end_of held) lt ∙ next-refused (count - (i + 1)) a.parts bytes (end_of held) g (end_of given) why read (sym (told a.parts n.newest g n.newest_is n.count_is n.read_is of_given) ∙ some)

chain_faulty : (n : ℕ) (parts : List SealedFields) (bytes : List ℕ) (at : ℕ) (e : StoreFault) → embedded moved part bytes at ≡ Err e → chain (suc n) parts bytes at ≡ Err e
unfolding chain
chain_faulty n parts bytes at e one = fails (embedded moved part) _ bytes at e one

pub one_faulty : (bytes : List ℕ) (count i : ℕ) (first : SealedFields) (at : ℕ) (held : ReadPart) (e : StoreFault) → i < count → AreLeft bytes count i first at held
    → ReadsPart bytes (end_of held) (Err e) → chain count (first ∷ []) bytes at ≡ Err e
one_faulty bytes count i first at held e lt a fault =
    let n : count - i ≡ suc (count - (i + 1)) = omega arith in
    a.left ∙ ap (λ (k : ℕ). chain k a.parts bytes (end_of held)) n ∙ chain_faulty (count - (i + 1)) a.parts bytes (end_of held) e fault

chain_none : (parts : List SealedFields) (bytes : List ℕ) (at : ℕ) → chain 0 parts bytes at ≡ Ok (parts, at)
unfolding chain
chain_none parts bytes at = refl

pub none_left : (bytes : List ℕ) (count i : ℕ) (first : SealedFields) (at : ℕ) (held : ReadPart) → i ≡ count → AreLeft bytes count i first at held → ReadsChain count (first ∷ []) bytes at (Ok held)
none_left bytes count i first at held all a =
    let z : count - i ≡ 0 = omega arith in
    let n : i + 1 ≡ count + 1 = omega arith in
    (a.parts, a.left ∙ ap (λ (k : ℕ). chain k a.parts bytes (end_of held)) z ∙ chain_none a.parts bytes (end_of held), subst (IsNewestAt bytes held a.parts) n a.newest)
