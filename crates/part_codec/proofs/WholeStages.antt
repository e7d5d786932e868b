-- All approximate planes of a stage, which came whole in a piece.
use Rattle.std.proofs.Common.{true, ◌≡◌, ℕ, zero, suc, ◌+◌, ◌-◌, ◌*◌, ◌≤◌, ◌<◌, List, [], ◌++◌, length, take, drop, refl, sym, ap, subst, ◌∙◌, arith, append_assoc, length-append, inl}
use Rattle.std.proofs.Math.Logic.{∥∥₁_map}
use Rattle.std.proofs.Math.Seq.{take-add}
use Rattle.std.proofs.lemmas.List.{append-nil, drop-drop, drop-take, take_all, take-append-drop, length-take-le, length-drop, get_or-drop}
use Rattle.octets_core.proofs.Texts.{IsBytes}
use Rattle.equation_core.specs.Sizes.{words_for}
use Rattle.part_codec.specs.ReadPlanes.{AreStageBytes}
use Rattle.part_codec.specs.PileFields.{PileFields}
use Rattle.part_codec.specs.declared.fields.Kept.{Kept}
use Rattle.part_codec.specs.declared.fields.Open.{Open}
use Rattle.part_codec.specs.declared.fields.Open.TheVariants as opens
use Rattle.part_codec.specs.declared.machine.Machine.{Machine}
use Rattle.part_codec.specs.Stepping.{in_front, settled, is_padded_last, width_of, ArePadded, open_plane}
use Rattle.part_codec.specs.Scanning.{Moved}
use Rattle.part_codec.specs.Taking.{PassesPlanes, CanRead, Steps}
use Rattle.part_codec.specs.Collecting.{with_bytes, with_whole, with_planes, pile_plane, pile_when, pile_passed, CanCollect, Reads, ReadsFront, Holding, ReadsTo, FrontTo, CanPutPlanes}
use Rattle.part_codec.proofs.MachineStands.{bytes-front}
use Rattle.part_codec.proofs.WholePlanes.{Goes, plane-width, whole-stands, whole-moved, Behind, one-plane-goes, more-planes, one-behind, field-partial}
use Rattle.part_codec.proofs.Collects.{can-settle, reads-step, reads-front}

-- what holds of a machine and the bytes of the planes before its own, whatever plane it takes that another one follows
abbrev pub Keeps : (Machine → List ℕ → Type 0) → Type 0
Keeps P = (m : Machine) (u t : List ℕ) → IsBytes t → m.field ≡ opens.ApproxPlane → m.passed ≡ 0 → m.filled ≡ 0 → length t ≡ 8 * words_for m.kept.starts
    → is_padded_last m.kept.starts (drop (length t - 8) t) ≡ true → 2 ≤ m.kept.planes → (x : Behind m t) → P m u → P x.next (u ++ t)

-- the machine before the last of them, of which these are the others
record BeforeLast (P : Machine → List ℕ → Type 0) (m : Machine) (u t : List ℕ) : Type 0 where
  last : Machine
  holds : P last (u ++ t)
  kept : last.kept ≡ record m.kept { planes = 1 }
  field : last.field ≡ opens.ApproxPlane
  at : last.at ≡ m.at + length t
  passed : last.passed ≡ 0
  empty : last.filled ≡ 0

none-put : (p : PileFields) → with_planes p 0 [] ≡ p
none-put p =
    let e : p.done + 0 ≡ p.done = omega arith in
    ap (λ (l : List ℕ). record p { bytes = l; done = p.done + 0 }) (append-nil p.bytes) ∙ ap (λ (k : ℕ). record p { done = k }) e

put-more : (p : PileFields) (n k : ℕ) (t u : List ℕ) → with_planes (with_planes p n t) k u ≡ with_planes p (n + k) (t ++ u)
put-more p n k t u =
    let e : p.done + n + k ≡ p.done + (n + k) = omega arith in
    ap (λ (l : List ℕ). record p { bytes = l; done = p.done + n + k }) (append_assoc p.bytes t u) ∙ ap (λ (c : ℕ). record p { bytes = p.bytes ++ (t ++ u); done = c }) e

open-piled : (n : ℕ) (k : Kept) (q : PileFields) → 1 ≤ n → pile_plane n k q ≡ q
open-piled zero k q some = absurd (omega (arith, some))
open-piled (suc n) k q some = refl

-- the first of them
first-padded : (starts n : ℕ) (t : List ℕ) → 8 ≤ 8 * words_for starts → 8 * words_for starts ≤ length t → ArePadded starts (suc n) t
    → is_padded_last starts (drop (length (take (8 * words_for starts) t) - 8) (take (8 * words_for starts) t)) ≡ true
first-padded starts n t some within padded =
    let w : ℕ = 8 * words_for starts in
    let e : w ≡ w - 8 + 8 = omega (arith, some) in
    let z : w - 8 ≡ 0 * w + (w - 8) = omega arith in
    ap (λ (k : ℕ). is_padded_last starts (drop (k - 8) (take w t))) (length-take-le w t within)
    ∙ ap (λ (k : ℕ). is_padded_last starts (drop (w - 8) (take k t))) e
    ∙ ap (is_padded_last starts) (drop-take (w - 8) 8 t)
    ∙ ap (λ (k : ℕ). is_padded_last starts (take 8 (drop k t))) z
    ∙ padded 0 (omega arith)

others-padded : (starts n : ℕ) (t : List ℕ) → ArePadded starts (suc n) t → ArePadded starts n (drop (8 * words_for starts) t)
others-padded starts n t padded i lt =
    let w : ℕ = 8 * words_for starts in
    let e : w + (i * w + (w - 8)) ≡ suc i * w + (w - 8) = grind arith in
    ap (λ (l : List ℕ). is_padded_last starts (take 8 l)) (drop-drop (i * w + (w - 8)) w t ∙ ap (λ (k : ℕ). drop k t) e)
    ∙ padded (suc i) (omega (arith, lt))

-- one that another one follows was collected
-- one that another one follows
plane-goes-on : (m : Machine) (t : List ℕ) → m.field ≡ opens.ApproxPlane → length t ≡ 8 * words_for m.kept.starts → is_padded_last m.kept.starts (drop (length t - 8) t) ≡ true
    → 2 ≤ m.kept.planes → (x : Behind m t) → Goes m x.next t
plane-goes-on m t is len padded more x =
    let left : x.next.kept.planes ≡ m.kept.planes - 1 = ap (λ (k : Kept). k.planes) x.kept in
    let next : x.next.field ≡ open_plane x.next.kept.planes = x.field ∙ sym (more-planes x.next.kept.planes (omega (arith, left, more))) in
    one-plane-goes m x.next t is len padded x.kept next x.at x.passed x.empty

before-last : (P : Machine → List ℕ → Type 0) → Keeps P → (n : ℕ) (m : Machine) (u t : List ℕ) → m.field ≡ opens.ApproxPlane → m.passed ≡ 0 → m.filled ≡ 0 → m.kept.planes ≡ n + 1
    → IsBytes t → n * (8 * words_for m.kept.starts) ≤ length t → ArePadded m.kept.starts n t → P m u → BeforeLast P m u (take (n * (8 * words_for m.kept.starts)) t)
before-last P keeps zero m u t is passed empty planes fits within padded holds =
    let none : take (0 * (8 * words_for m.kept.starts)) t ≡ [] = let z : 0 * (8 * words_for m.kept.starts) ≡ 0 = omega arith in ap (λ (k : ℕ). take k t) z in
    let one : m.kept.planes ≡ 1 = omega (arith, planes) in
    subst (λ (l : List ℕ). BeforeLast P m u l) (sym none) (record {
      last = m;
      holds = subst (λ (l : List ℕ). P m l) (sym (append-nil u)) holds;
      kept = ap (λ (k : ℕ). record m.kept { planes = k }) one;
      field = is;
      at = omega arith;
      passed = passed;
      empty = empty;
    })
before-last P keeps (suc n) m u t is passed empty planes fits within padded holds =
    let w : ℕ = 8 * words_for m.kept.starts in
    let first : List ℕ = take w t in
    let others : List ℕ = take (n * w) (drop w t) in
    let more : 2 ≤ m.kept.planes = omega (arith, planes) in
    let e : suc n * w ≡ w + n * w = grind arith in
    let some : 8 ≤ w = omega (arith, m.starts.0) in
    let enough : w ≤ length t = omega (arith, within, e) in
    let len : length first ≡ w = length-take-le w t enough in
    let x : Behind m first = one-behind m first is more len in
    let next : P x.next (u ++ first) = keeps m u first (bytes-front w t fits) is passed empty len (first-padded m.kept.starts n t some enough padded) more x holds in
    let same : x.next.kept.starts ≡ m.kept.starts = ap (λ (k : Kept). k.starts) x.kept in
    let left : n * w ≤ length (drop w t) = omega (arith, within, e, length-drop w t) in
    let count : x.next.kept.planes ≡ n + 1 = omega (arith, planes, ap (λ (k : Kept). k.planes) x.kept) in
    let h : BeforeLast P x.next (u ++ first) others
    = subst (λ (s : ℕ). BeforeLast P x.next (u ++ first) (take (n * (8 * words_for s)) (drop w t))) same
    (before-last P keeps n x.next (u ++ first) (drop w t) x.field x.passed x.empty count (λ i. rw get_or-drop (fits (w + i)))
    (rw same left) (rw same (others-padded m.kept.starts n t padded)) next) in
    let all : first ++ others ≡ take (suc n * w) t = sym (ap (λ (k : ℕ). take k t) e ∙ take-add w (n * w) t) in
    subst (λ (l : List ℕ). BeforeLast P m u l) all (record {
      last = h.last;
      holds = subst (λ (l : List ℕ). P h.last l) (append_assoc u first others) h.holds;
      kept = h.kept ∙ ap (λ (k : Kept). record k { planes = 1 }) x.kept;
      field = h.field;
      at = omega (arith, h.at, x.at, length-append first others);
      passed = h.passed;
      empty = h.empty;
    })

-- their bytes are those of the others, and of the last one, which went from a machine of its own
pub record Planes (P : Machine → List ℕ → Type 0) (n : Machine) (t : List ℕ) : Type 0 where
  pub before : Machine
  pub first : List ℕ
  pub last : List ℕ
  pub all : first ++ last ≡ t
  pub holds : P before first
  pub field : before.field ≡ opens.ApproxPlane
  pub one : before.kept.planes ≡ 1
  pub passed : before.passed ≡ 0
  pub empty : before.filled ≡ 0
  pub fits : IsBytes last
  pub width : length last ≡ width_of before.field before.kept
  pub goes : Goes before n last
  pub settles : n.field ≡ settled n.field

last-padded : (starts n : ℕ) (t : List ℕ) → 8 ≤ 8 * words_for starts → length t ≡ (n + 1) * (8 * words_for starts) → ArePadded starts (n + 1) t
    → is_padded_last starts (drop (length (drop (n * (8 * words_for starts)) t) - 8) (drop (n * (8 * words_for starts)) t)) ≡ true
last-padded starts n t some len padded =
    let w : ℕ = 8 * words_for starts in
    let e : (n + 1) * w ≡ n * w + w = grind arith in
    let at : length (drop (n * w) t) - 8 ≡ w - 8 = omega (arith, length-drop (n * w) t, len, e) in
    let short : length (drop (n * w + (w - 8)) t) ≤ 8 = omega (arith, length-drop (n * w + (w - 8)) t, len, e, some) in
    ap (λ (k : ℕ). is_padded_last starts (drop k (drop (n * w) t))) at
    ∙ ap (is_padded_last starts) (drop-drop (w - 8) (n * w) t ∙ sym (take_all 8 (drop (n * w + (w - 8)) t) short))
    ∙ padded n (omega arith)

pub planes-split : (P : Machine → List ℕ → Type 0) → Keeps P → (m n : Machine) (t : List ℕ) → m.field ≡ opens.ApproxPlane → IsBytes t → PassesPlanes m n t → P m [] → Planes P n t
planes-split P keeps m n t is fits f holds =
    let w : ℕ = 8 * words_for m.kept.starts in
    let k : ℕ = m.kept.planes - 1 in
    let count : k + 1 ≡ m.kept.planes = omega (arith, f.some) in
    let some : 8 ≤ w = omega (arith, m.starts.0) in
    let e : (k + 1) * w ≡ k * w + w = grind arith in
    let len : length t ≡ (k + 1) * w = f.len ∙ ap (λ (c : ℕ). c * w) (sym count) in
    let first : List ℕ = take (k * w) t in
    let last : List ℕ = drop (k * w) t in
    let before-len : length first ≡ k * w = length-take-le (k * w) t (omega (arith, len, e)) in
    let last-len : length last ≡ w = omega (arith, length-drop (k * w) t, len, e) in
    let padded : ArePadded m.kept.starts (k + 1) t = λ i lt. f.padded i (omega (arith, lt, count)) in
    let h = before-last P keeps k m [] t is f.fresh.0 f.fresh.1 (sym count) fits (omega (arith, len, e)) (λ i lt. padded i (omega (arith, lt))) holds in
    let starts : h.last.kept.starts ≡ m.kept.starts = ap (λ (x : Kept). x.starts) h.kept in
    let width : length last ≡ 8 * words_for h.last.kept.starts = last-len ∙ ap (λ (s : ℕ). 8 * words_for s) (sym starts) in
    let passes : is_padded_last h.last.kept.starts (drop (length last - 8) last) ≡ true
    = ap (λ (s : ℕ). is_padded_last s (drop (length last - 8) last)) starts ∙ last-padded m.kept.starts k t some len padded in
    let kept : n.kept ≡ record h.last.kept { planes = h.last.kept.planes - 1 } = f.kept ∙ sym (ap (λ (x : Kept). record x { planes = x.planes - 1 }) h.kept) in
    let opens-next : n.field ≡ open_plane n.kept.planes = f.field ∙ sym (ap (λ (x : Kept). open_plane x.planes) f.kept) in
    let at : n.at ≡ h.last.at + length last = omega (arith, f.at, h.at, before-len, last-len, len, e) in
    record {
      before = h.last;
      first = first;
      last = last;
      all = take-append-drop (k * w) t;
      holds = h.holds;
      field = h.field;
      one = ap (λ (x : Kept). x.planes) h.kept;
      passed = h.passed;
      empty = h.empty;
      fits = λ i. rw get_or-drop (fits (k * w + i));
      width = plane-width h.last last (inl h.field) width;
      goes = one-plane-goes h.last n last h.field width passes kept opens-next at f.empty.0 f.empty.1;
      settles = f.field ∙ sym (ap settled f.field);
    }

-- ---- they are collected

-- so many are to come in all, of which those before the open one were put
abbrev SomeReads : PileFields → List ℕ → ℕ → Machine → List ℕ → Type 0
SomeReads p b c m u = (m.kept.planes ≤ c) × Reads m (with_planes p (c - m.kept.planes) u) (b ++ u)

reads-keeps : (p : PileFields) (b : List ℕ) (c : ℕ) → Keeps (SomeReads p b c)
reads-keeps p b c m u t fits is passed empty len padded more x h =
    let left : x.next.kept.planes ≡ m.kept.planes - 1 = ap (λ (k : Kept). k.planes) x.kept in
    let q : PileFields = with_planes p (c - m.kept.planes) u in
    let goes : Goes m x.next t = plane-goes-on m t is len padded more x in
    let width = plane-width m t (inl is) len in
    let settles : x.next.field ≡ settled x.next.field = x.field ∙ sym (ap settled x.field) in
    let moved : Moved true m x.next ((b ++ u) ++ t) = whole-moved m x.next h.1.0 (b ++ u) t h.1.1 fits passed empty width goes settles in
    let count : c - m.kept.planes + 1 ≡ c - x.next.kept.planes = omega (arith, left, more, h.0) in
    let put : with_planes p (c - x.next.kept.planes) (u ++ t) ≡ with_planes q 1 t = sym (put-more p (c - m.kept.planes) 1 u t ∙ ap (λ (k : ℕ). with_planes p k (u ++ t)) count) in
    let made : with_planes p (c - x.next.kept.planes) (u ++ t) ≡ pile_when true m.field x.next.kept (pile_passed m.field q t)
    = put ∙ sym (ap (λ (o : Open). pile_when true o x.next.kept (pile_passed o q t)) is ∙ open-piled x.next.kept.planes x.next.kept (with_whole (with_bytes q t)) (omega (arith, left, more))) in (
      omega (arith, left, h.0),
      subst (λ (l : List ℕ). Reads x.next (with_planes p (c - x.next.kept.planes) (u ++ t)) l) (append_assoc b u t)
          (reads-step true m x.next q (pile_passed m.field q t) (with_planes p (c - x.next.kept.planes) (u ++ t)) (b ++ u) t h.1 refl moved made
          (whole-stands m x.next h.1.0 (b ++ u) t h.1.1 fits passed empty width goes)),
    )

-- and the stage is whole
pub record PutPlanes (m n : Machine) (p : PileFields) (b t : List ℕ) : Type 0 where
  pub planes : AreStageBytes n.kept.starts (p.done + m.kept.planes) (p.bytes ++ t)
  pub reads : ReadsFront n (pile_plane 0 n.kept (with_planes p m.kept.planes t)) (b ++ t)

pub planes-put : (m n : Machine) (p : PileFields) (b t : List ℕ) → m.field ≡ opens.ApproxPlane → IsBytes t → PassesPlanes m n t → Reads m p b → PutPlanes m n p b t
planes-put m n p b t is fits f read =
    let c : ℕ = m.kept.planes in
    let none : c - c ≡ 0 = omega arith in
    let first-read : Reads m (with_planes p (c - c) []) (b ++ []) = rw none
    (subst (λ (q : PileFields). Reads m q (b ++ [])) (sym (none-put p)) (subst (λ (l : List ℕ). Reads m p l) (sym (append-nil b)) read)) in
    let h = planes-split (SomeReads p b c) (reads-keeps p b c) m n t is fits f (omega arith, first-read) in
    let q : PileFields = with_planes p (c - h.before.kept.planes) h.first in
    let reads : Reads h.before q (b ++ h.first) = h.holds.1 in
    let moved : Moved true h.before n ((b ++ h.first) ++ h.last) = whole-moved h.before n reads.0 (b ++ h.first) h.last reads.1 h.fits h.passed h.empty h.width h.goes h.settles in
    let can : CanCollect h.before.field n.kept (pile_passed h.before.field q h.last)
    = can-settle h.before n q (pile_passed h.before.field q h.last) (b ++ h.first) h.last reads refl moved in
    let whole : with_whole (with_bytes q h.last) ≡ with_planes p c t
    = let e : c - h.before.kept.planes + 1 ≡ c = omega (arith, h.one, f.some) in
    put-more p (c - h.before.kept.planes) 1 h.first h.last ∙ ap (λ (l : List ℕ). with_planes p (c - h.before.kept.planes + 1) l) h.all ∙ ap (λ (k : ℕ). with_planes p k t) e in
    let can-plane : AreStageBytes n.kept.starts (with_whole (with_bytes q h.last)).done (with_whole (with_bytes q h.last)).bytes
    = subst (λ (o : Open). CanCollect o n.kept (pile_passed o q h.last)) h.field can in
    let made : pile_plane 0 n.kept (with_planes p c t) ≡ pile_when true h.before.field n.kept (pile_passed h.before.field q h.last)
    = ap (pile_plane 0 n.kept) (sym whole)
    ∙ sym (ap (λ (o : Open). pile_when true o n.kept (pile_passed o q h.last)) h.field ∙ ap (λ (x : Kept). pile_plane x.planes n.kept (with_whole (with_bytes q h.last))) f.kept) in
    let same : (b ++ h.first) ++ h.last ≡ b ++ t = append_assoc b h.first h.last ∙ ap (λ (l : List ℕ). b ++ l) h.all in
    record {
      planes = subst (λ (r : PileFields). AreStageBytes n.kept.starts r.done r.bytes) whole can-plane;
      reads = subst (λ (l : List ℕ). ReadsFront n (pile_plane 0 n.kept (with_planes p c t)) l) same
          (reads-front true h.before n (pile_plane 0 n.kept (with_planes p c t)) ((b ++ h.first) ++ h.last) (ap in_front h.field) moved
          (reads-step true h.before n q (pile_passed h.before.field q h.last) (pile_plane 0 n.kept (with_planes p c t)) (b ++ h.first) h.last reads refl moved made
          (whole-stands h.before n reads.0 (b ++ h.first) h.last reads.1 h.fits h.passed h.empty h.width h.goes)));
    }

pub can-put-planes : {C : Type 0} (H : Holding C) (m n : Machine) (c : C) (t : List ℕ) → CanRead H m c → m.field ≡ opens.ApproxPlane → IsBytes t → PassesPlanes m n t
    → ∥ CanPutPlanes H c n.kept m.kept.planes t ∥₁
can-put-planes H m n c t can is fits f = ∥∥₁_map can.read (λ r. (r.1.0, r.1.1, (planes-put m n r.1.0 r.0 t is fits f r.1.2).planes))

pub steps-planes : {C : Type 0} (H : Holding C) (m n : Machine) (c d : C) (piece : List ℕ) (k : ℕ) → CanRead H m c → m.field ≡ opens.ApproxPlane → IsBytes piece → k ≤ length piece → 0 < k
    → PassesPlanes m n (take k piece) → ((p : PileFields) → H c p → H d (pile_plane 0 n.kept (with_planes p m.kept.planes (take k piece)))) → Steps H m n c d piece k
steps-planes H m n c d piece k can is fits count some f put =
    let t : List ℕ = take k piece in
    let reads : (b : List ℕ) → ReadsTo H m c b → FrontTo H n d (b ++ t) = λ b r.
    let front = (planes-put m n r.0 b t is (bytes-front k piece fits) f r.2).reads in
    record { reads = (_, put r.0 r.1, front.reads); front = front.front } in
    record {
      takes = record {
        reads = reads;
        read = ∥∥₁_map can.read (λ r. (_, (reads r.0 r.1).reads));
        partial = field-partial n opens.ExactSeed (omega arith) f.field f.empty.1;
        count = count;
      };
      progress = λ more. some;
    }
