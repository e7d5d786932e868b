-- What is read as a part is spelled so, and what is spelled so is read, whatever follows.
use Rattle.std.specs.Prelude.{◌==◌, ◌||◌, if◌then◌else◌}
use Rattle.std.proofs.Common.{Bool, false, ◌∷◌, arith, true, ◌≡◌, ℕ, zero, suc, ◌-◌, ◌≤◌, ◌^◌, List, [], ◌++◌, length, Option, Some, None, Result, Ok, Err, refl, sym, ap, ◌∙◌, subst, IfOk}
use Rattle.std.specs.Prelude.{codes, take}
use Rattle.std.specs.Int.{w8, w16, w32, w64, to_be_bytes}
use Rattle.std.specs.Str.{bytes_eq}
use Rattle.std.proofs.lemmas.List.{length-take, append-nil, nil_from_length}
use Rattle.std.proofs.lemmas.Slice.Eq.{bytes_eq-Decides}
use Rattle.sha2.specs.Sha256.{sha256}
use Rattle.sha2.proofs.Facts256.{length-sha256}
use Rattle.octets_core.specs.Linked.{Linked, is_after}
use Rattle.ident_core.specs.declared.kind.Kind.{Kind}
use Rattle.ident_core.specs.declared.kind.Kind.TheVariants as kinds
use Rattle.ident_core.specs.HeadFields.{HeadFields, zero_key}
use Rattle.ident_core.proofs.RangeTexts.{below_limit, ranges-read, ranges-leaves, ranges-ascend}
use Rattle.card_core.specs.declared.block.Block.{Block}
use Rattle.card_core.specs.declared.block.Body.{Body}
use Rattle.card_core.specs.declared.block.Body.TheVariants as bodies
use Rattle.card_core.specs.PartFields.{PartFields}
use Rattle.ident_core.specs.declared.bounds.TheConstants.{MAX_RANGES}
use Rattle.card_core.specs.declared.part.TheConstants.{MAX_BLOCKS}
use Rattle.part_text.specs.declared.fault.PartFault.{PartFault}
use Rattle.part_text.specs.declared.fault.PartFault.TheVariants as faults
use Rattle.octets_core.specs.Reading.{GivesUnless}
use Rattle.octets_core.specs.Layout.{◌>>=◌, whole}
use Rattle.part_text.specs.SealedFields.{SealedFields}
use Rattle.part_text.specs.PartLayout.{kind_of, is_parent, greatest_mode, head, block, is_sharded, some_sharded, sharded_test, unsealed, sealed, part}
use Rattle.part_text.specs.PartText.{kind_number, head_text, mode_of, version_of, block_text, unsealed_text, spelling}
use Rattle.part_text.proofs.MixedTexts.{body-read, body-leaves}
use Rattle.part_text.specs.Fitting.{FitsBlock, FitsHead, FitsPart, Fits}
use Rattle.octets_core.proofs.Texts.{bytes_eq-refl, Takes-as, repeated-read, repeated-leaves, sum_field-read, sum_field-leaves, mapped-read, mapped-leaves}
use Rattle.octets_core.proofs.Texts.{IsBytes, IsRead, Continues, then-read, whole-read, reads, done, from_front, bytes_field-read, number_field-read, Leaves, Takes, ◌>>>◌, ◌>>-◌, whole-leaves}
use Rattle.octets_core.proofs.Texts.{bytes_field-leaves, number_field-leaves, wide8, wide16, wide32, wide64, Linked-weaken}

-- ---- head

kind_back : (k : Kind) → kind_of (kind_number k) ≡ k
kind_back kinds.Snapshot = refl
kind_back kinds.Delta = refl

kind_again : (n : ℕ) → n ≤ 1 → kind_number (kind_of n) ≡ n
kind_again zero le = refl
kind_again (suc zero) le = refl
kind_again (suc (suc n)) le = absurd (omega arith)

kind_few : (k : Kind) → kind_number k ≤ 1
kind_few kinds.Snapshot = omega arith
kind_few kinds.Delta = omega arith

parent_passes : (k : Kind) (parent : List ℕ) → (k ≡ kinds.Snapshot → parent ≡ zero_key) → is_parent (kind_number k) parent ≡ true
parent_passes kinds.Snapshot parent zeros = rw (zeros refl) (bytes_eq-refl zero_key)
parent_passes kinds.Delta parent zeros = refl

parent_tells : (n : ℕ) (parent : List ℕ) → n ≤ 1 → is_parent n parent ≡ true → kind_of n ≡ kinds.Snapshot → parent ≡ zero_key
parent_tells zero parent le passed is = (bytes_eq-Decides parent zero_key).0 passed
parent_tells (suc n) parent le passed is = absurd cc

pub head-read : (version : ℕ) → 1 ≤ version → version ≤ 2 → (before : List ℕ) (h : HeadFields) → FitsHead h → IsRead head before (version, h) (head_text version h)
unfolding head head_text
head-read version low high before h fits =
    subst (λ (k : Kind). IsRead head before (version, record h { kind = k }) (head_text version h)) (kind_back h.kind) (from_front
    (reads _ (bytes_field-read _ _ 8 (bytes_eq (codes "CLUBCARD")) _ (codes "CLUBCARD") refl refl)
    (reads _ (number_field-read _ _ w8 (2 ^ 8) 1 2 wide8 _ version low high (omega (arith, high)))
    (reads _ (number_field-read _ _ w8 (2 ^ 8) 0 1 wide8 _ (kind_number h.kind) (omega arith) (kind_few h.kind) (omega (arith, kind_few h.kind)))
    (reads _ (number_field-read _ _ w64 (2 ^ 64) 0 (2 ^ 64 - 1) wide64 _ h.epoch (omega arith) (below_limit _ fits.epoch) fits.epoch)
    (reads _ (bytes_field-read _ _ 32 (is_parent (kind_number h.kind)) _ h.parent fits.parent (parent_passes h.kind h.parent fits.facts.snapshot))
    (reads _ (number_field-read _ _ w16 (2 ^ 16) 0 MAX_RANGES wide16 _ (length h.ranges) (omega arith) fits.facts.ranges.few (omega (arith, fits.facts.ranges.few)))
    (reads _ (ranges-read _ h.ranges fits.ranges)
    (done _)))))))))

pub head-leaves : (bytes : List ℕ) → IsBytes bytes → (at : ℕ) → Leaves head bytes at (λ h end. Takes bytes at (head_text h.0 h.1) end × FitsHead h.1 × (1 ≤ h.0) × (h.0 ≤ 2))
unfolding head head_text
head-leaves bytes fits at =
    bytes_field-leaves _ _ 8 (bytes_eq (codes "CLUBCARD")) bytes at >>- λ begin p a.
    number_field-leaves _ _ w8 (2 ^ 8) 1 2 wide8 bytes fits p >>- λ version q b.
    number_field-leaves _ _ w8 (2 ^ 8) 0 1 wide8 bytes fits q >>- λ kind r c.
    number_field-leaves _ _ w64 (2 ^ 64) 0 (2 ^ 64 - 1) wide64 bytes fits r >>- λ epoch s d.
    bytes_field-leaves _ _ 32 (is_parent kind) bytes s >>- λ parent t e.
    number_field-leaves _ _ w16 (2 ^ 16) 0 MAX_RANGES wide16 bytes fits t >>- λ count u f.
    ranges-leaves bytes fits count u f.takes.room >>- λ list end g.
    whole-leaves _ bytes end _ (
      Takes-as begin (codes "CLUBCARD") (sym ((bytes_eq-Decides (codes "CLUBCARD") begin).0 a.passed)) a.takes
          >>> b.takes
          >>> Takes-as (to_be_bytes w8 kind) (to_be_bytes w8 (kind_number (kind_of kind))) (ap (to_be_bytes w8) (sym (kind_again kind c.to_high))) c.takes
          >>> d.takes >>> e.takes
          >>> Takes-as (to_be_bytes w16 count) (to_be_bytes w16 (length list)) (ap (to_be_bytes w16) (sym g.2)) f.takes
          >>> g.0,
      record {
        facts = record {
          ranges = record { few = omega (arith, g.2, f.to_high); ascending = ranges-ascend list g.1 };
          snapshot = parent_tells kind parent c.to_high e.passed;
        };
        epoch = omega (arith, d.to_high);
        parent = e.len;
        ranges = g.1;
      },
      b.from_low,
      b.to_high,
    )

-- ---- blocks

mode_few : (b : Body) → mode_of b ≤ 3
mode_few bodies.Clean = omega arith
mode_few bodies.Every = omega arith
mode_few (bodies.Mixed m) = omega arith
mode_few (bodies.Sharded s) = omega arith

-- it fits, and its mode stands in the version
abbrev FitsIn : ℕ → Option (List ℕ) → Block → Type 0
FitsIn version previous b = FitsBlock previous b × (mode_of b.body ≤ greatest_mode version)

block-read : (version : ℕ) (previous : Option (List ℕ)) (before : List ℕ) (b : Block) → FitsIn version previous b → IsRead (block version previous) before b (block_text b)
unfolding block
block-read version previous before b fits = from_front
    (reads _ (bytes_field-read _ _ 32 (is_after previous) _ b.issuer fits.0.1.issuer fits.0.0)
    (reads _ (number_field-read _ _ w8 (2 ^ 8) 0 (greatest_mode version) wide8 _ (mode_of b.body) (omega arith) fits.1 (omega (arith, mode_few b.body)))
    (reads _ (body-read _ b.body fits.0.1.body)
    (done b))))

block-leaves : (version : ℕ) → version ≤ 2 → (bytes : List ℕ) → IsBytes bytes → (previous : Option (List ℕ)) (at : ℕ)
    → Leaves (block version previous) bytes at (λ b end. Takes bytes at (block_text b) end × FitsIn version previous b)
unfolding block
block-leaves version high bytes fits previous at =
    bytes_field-leaves _ _ 32 (is_after previous) bytes at >>- λ issuer p a.
    number_field-leaves _ _ w8 (2 ^ 8) 0 (greatest_mode version) wide8 bytes fits p >>- λ mode q b.
    body-leaves mode bytes fits q (omega (arith, b.to_high, high)) b.takes.room >>- λ body end c.
    whole-leaves _ bytes end _ (
      a.takes >>> Takes-as (to_be_bytes w8 mode) (to_be_bytes w8 (mode_of body)) (ap (to_be_bytes w8) (sym c.2)) b.takes >>> c.0,
      ((a.passed, record { issuer = a.len; body = c.1 }), omega (arith, b.to_high, c.2)),
    )

-- ---- the version

abbrev next_issuer : Option (List ℕ) → Block → Option (List ℕ)
next_issuer previous b = Some b.issuer

or_none : (a b : Bool) → (a || b) ≡ false → (a ≡ false) × (b ≡ false)
or_none true b h = absurd cc
or_none false b h = (refl, h)

plain_mode : (b : Body) → is_sharded b ≡ false → mode_of b ≤ 2
plain_mode bodies.Clean plain = omega arith
plain_mode bodies.Every plain = omega arith
plain_mode (bodies.Mixed m) plain = omega arith
plain_mode (bodies.Sharded s) plain = absurd cc

mode_plain : (b : Body) → mode_of b ≤ 2 → is_sharded b ≡ false
mode_plain bodies.Clean few = refl
mode_plain bodies.Every few = refl
mode_plain (bodies.Mixed m) few = refl
mode_plain (bodies.Sharded s) few = absurd (omega (arith, few))

fit_plain : (previous : Option (List ℕ)) (list : List Block) → some_sharded list ≡ false → Linked FitsBlock next_issuer previous list → Linked (FitsIn 1) next_issuer previous list
fit_plain previous [] none fits = tt
fit_plain previous (b ∷ list) none fits =
    let both = or_none (is_sharded b.body) (some_sharded list) none in
    ((fits.0, plain_mode b.body both.0), fit_plain (Some b.issuer) list both.1 fits.1)

fit_version : (some : Bool) (previous : Option (List ℕ)) (list : List Block) → some_sharded list ≡ some → Linked FitsBlock next_issuer previous list
    → Linked (FitsIn (if some then 2 else 1)) next_issuer previous list
fit_version true previous list is fits = Linked-weaken FitsBlock (FitsIn 2) next_issuer (λ s b f. (f, mode_few b.body)) previous list fits
fit_version false previous list is fits = fit_plain previous list is fits

none_sharded : (previous : Option (List ℕ)) (list : List Block) → Linked (FitsIn 1) next_issuer previous list → some_sharded list ≡ false
none_sharded previous [] fits = refl
none_sharded previous (b ∷ list) fits = ap (λ (x : Bool). x || some_sharded list) (mode_plain b.body fits.0.1) ∙ none_sharded (Some b.issuer) list fits.1

-- the version that was read is the one that is written
version_is : (version : ℕ) (list : List Block) → 1 ≤ version → version ≤ 2 → Linked (FitsIn version) next_issuer None list → (version == 1 || some_sharded list) ≡ true
    → version ≡ version_of list
version_is zero list low high fits passed = absurd (omega arith)
version_is (suc zero) list low high fits passed = sym (ap (λ (x : Bool). if x then 2 else 1) (none_sharded None list fits))
version_is (suc (suc zero)) list low high fits passed = sym (ap (λ (x : Bool). if x then 2 else 1) passed)
version_is (suc (suc (suc n))) list low high fits passed = absurd (omega (arith, high))

version_low : (some : Bool) → 1 ≤ (if some then 2 else 1)
version_low true = omega arith
version_low false = omega arith

version_high : (some : Bool) → (if some then 2 else 1) ≤ 2
version_high true = omega arith
version_high false = omega arith

version_passes : (some : Bool) → ((if some then 2 else 1) == 1 || some) ≡ true
version_passes true = refl
version_passes false = refl

-- the test behind the blocks has no byte
tests : {before text : List ℕ} (version : ℕ) (some : Bool) (p : PartFields) → (version == 1 || some) ≡ true
    → Continues (sharded_test version some >>= λ none. whole p) before text p text
tests {before} {text} version some p passed = record {
  more = [];
  is = sym (append-nil text);
  read = then-read (sharded_test version some) (λ none. whole p) (before ++ text) [] p [] []
      (bytes_field-read _ _ 0 (λ none. version == 1 || some) (before ++ text) [] refl passed) (whole-read (before ++ text ++ []) p);
}

-- ---- part

abbrev IsAfter : Option (List ℕ) → Block → Type 0
IsAfter previous b = is_after previous b.issuer ≡ true

block-facts : (version : ℕ) (previous : Option (List ℕ)) (b : Block) → FitsIn version previous b → IsAfter previous b
block-facts version previous b fits = fits.0.0

takes-none : {bytes text : List ℕ} {at q end : ℕ} (none : List ℕ) → length none ≡ 0 → Takes bytes at text q → Takes bytes q none end → Takes bytes at text end
takes-none {bytes} {text} {at} {q} {end} none len one two = Takes-as (text ++ none) text (ap (λ (l : List ℕ). text ++ l) (nil_from_length none len) ∙ append-nil text) (one >>> two)

pub unsealed-read : (p : PartFields) → FitsPart p → IsRead unsealed [] p (unsealed_text p)
unfolding unsealed unsealed_text
unsealed-read p fits = from_front
    (reads _ (head-read (version_of p.blocks) (version_low (some_sharded p.blocks)) (version_high (some_sharded p.blocks)) _ p.head fits.head)
    (reads _ (number_field-read _ _ w32 (2 ^ 32) 0 MAX_BLOCKS wide32 _ (length p.blocks) (omega arith) fits.facts.few (omega (arith, fits.facts.few)))
    (reads _ (repeated-read (block (version_of p.blocks)) next_issuer (FitsIn (version_of p.blocks)) block_text (block-read (version_of p.blocks)) None _ p.blocks
    (fit_version (some_sharded p.blocks) None p.blocks refl fits.blocks))
    (tests (version_of p.blocks) (some_sharded p.blocks) p (version_passes (some_sharded p.blocks))))))

pub unsealed-leaves : (bytes : List ℕ) → IsBytes bytes → Leaves unsealed bytes 0 (λ p end. Takes bytes 0 (unsealed_text p) end × FitsPart p)
unfolding unsealed unsealed_text
unsealed-leaves bytes fits =
    head-leaves bytes fits 0 >>- λ h p a.
    number_field-leaves _ _ w32 (2 ^ 32) 0 MAX_BLOCKS wide32 bytes fits p >>- λ count q b.
    repeated-leaves (block h.0) next_issuer (FitsIn h.0) block_text bytes (block-leaves h.0 a.3 bytes fits) count None q b.takes.room >>- λ list r c.
    bytes_field-leaves _ _ 0 (λ none. h.0 == 1 || some_sharded list) bytes r >>- λ none end d.
    whole-leaves _ bytes end _ (
      takes-none none d.len (
          Takes-as (head_text h.0 h.1) (head_text (version_of list) h.1) (ap (λ (v : ℕ). head_text v h.1) (version_is h.0 list a.2 a.3 c.1 d.passed)) a.0
          >>> Takes-as (to_be_bytes w32 count) (to_be_bytes w32 (length list)) (ap (to_be_bytes w32) (sym c.2)) b.takes >>> c.0) d.takes,
      record {
        facts = record { few = omega (arith, c.2, b.to_high); ascending = Linked-weaken (FitsIn h.0) IsAfter next_issuer (block-facts h.0) None list c.1 };
        head = a.1;
        blocks = Linked-weaken (FitsIn h.0) FitsBlock next_issuer (λ s x f. f.0) None list c.1;
      },
    )

-- the digest behind a part's text is that of the text
pub sum_is : (bytes trailer text : List ℕ) (end : ℕ) → take end bytes ≡ text → bytes_eq (sha256 (take end bytes)) trailer ≡ true → trailer ≡ sha256 text
sum_is bytes trailer text end front passed = sym ((bytes_eq-Decides (sha256 (take end bytes)) trailer).0 passed) ∙ ap sha256 front

sealed-one : (p : PartFields) → FitsPart p → IsRead sealed [] (record { part = p; trailer = sha256 (unsealed_text p) }) (unsealed_text p ++ sha256 (unsealed_text p))
unfolding sealed
sealed-one p fits = from_front
    (reads _ (unsealed-read p fits)
    (reads _ (sum_field-read _ _ 32 sha256 length-sha256 _)
    (done (record { part = p; trailer = sha256 (unsealed_text p) }))))

pub sealed-read : (s : SealedFields) → Fits s → IsRead sealed [] s (spelling s)
unfolding spelling
sealed-read s fits = subst (λ (trailer : List ℕ). IsRead sealed [] (record { part = s.part; trailer = trailer }) (unsealed_text s.part ++ trailer)) (sym fits.trailer) (sealed-one s.part fits.part)

pub part-read : (s : SealedFields) → Fits s → IsRead part [] s (spelling s)
part-read s fits = mapped-read faults.Layout sealed [] s (spelling s) (sealed-read s fits)

pub sealed-leaves : (bytes : List ℕ) → IsBytes bytes → Leaves sealed bytes 0 (λ s end. Takes bytes 0 (spelling s) end × Fits s)
unfolding sealed spelling
sealed-leaves bytes fits =
    unsealed-leaves bytes fits >>- λ p q a.
    sum_field-leaves _ _ 32 sha256 bytes q >>- λ trailer end b.
    whole-leaves _ bytes end _ (a.0 >>> b.takes, record { part = a.1; trailer = sum_is bytes trailer (unsealed_text p) q a.0.parts b.passed })

pub part-leaves : (bytes : List ℕ) → IsBytes bytes → Leaves part bytes 0 (λ s end. Takes bytes 0 (spelling s) end × Fits s)
part-leaves bytes fits = mapped-leaves faults.Layout sealed bytes 0 _ (sealed-leaves bytes fits)

-- ---- what a decoder gives

pub found-of : (bytes : List ℕ) (r : Result (SealedFields × ℕ) PartFault) → IsBytes bytes → GivesUnless faults.NoMemory (λ (x : SealedFields × ℕ). x) r (part bytes 0)
    → IfOk r (λ x. (take x.1 bytes ≡ spelling x.0) × Fits x.0)
found-of bytes (Ok x) fits h = let l = (part-leaves bytes fits).each x h in (l.0.parts, l.1)
found-of bytes (Err e) fits h = tt

-- where a text ends that begins at the first byte
end_of : (bytes text : List ℕ) (end : ℕ) → Takes bytes 0 text end → end ≡ length text
end_of bytes text end t = omega (arith, length-take end bytes, ap length t.parts, t.room)

pub takes-of : (bytes : List ℕ) (r : Result (SealedFields × ℕ) PartFault) → IsBytes bytes → GivesUnless faults.NoMemory (λ (x : SealedFields × ℕ). x) r (part bytes 0)
    → IfOk r (λ x. x.1 ≡ length (spelling x.0))
takes-of bytes (Ok x) fits h = end_of bytes (spelling x.0) x.1 ((part-leaves bytes fits).each x h).0
takes-of bytes (Err e) fits h = tt

pub len-of : (bytes : List ℕ) (r : Result (SealedFields × ℕ) PartFault) → IsBytes bytes → GivesUnless faults.NoMemory (λ (x : SealedFields × ℕ). x) r (part bytes 0)
    → IfOk r (λ x. x.1 ≤ length bytes)
len-of bytes (Ok x) fits h = ((part-leaves bytes fits).each x h).0.room
len-of bytes (Err e) fits h = tt

pub part-again : (s : SealedFields) (rest : List ℕ) → Fits s → part (spelling s ++ rest) 0 ≡ Ok (s, length (spelling s))
part-again s rest fits = (part-read s fits).each rest ∙ ap (λ (n : ℕ). Ok (s, n)) (omega arith)

pub only-of : (bytes : List ℕ) (r : Result (SealedFields × ℕ) PartFault) (s : SealedFields) (rest : List ℕ) → GivesUnless faults.NoMemory (λ (x : SealedFields × ℕ). x) r (part bytes 0)
    → Fits s → bytes ≡ spelling s ++ rest → GivesUnless faults.NoMemory (λ (x : SealedFields × ℕ). x) r (Ok (s, length (spelling s)))
only-of bytes r s rest h fits is =
    subst (λ (f : Result (SealedFields × ℕ) PartFault). GivesUnless faults.NoMemory (λ (x : SealedFields × ℕ). x) r f) (ap (λ (l : List ℕ). part l 0) is ∙ part-again s rest fits) h
