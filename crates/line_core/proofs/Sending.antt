-- Texts that are written one behind the other.
use Rattle.std.proofs.Common.{◌≡◌, ℕ, zero, suc, ◌+◌, ◌≤◌, ◌<◌, List, [], ◌∷◌, ◌++◌, length, take, drop, get_or, Option, Some, None}
use Rattle.std.proofs.Common.{Result, Ok, Err, refl, sym, ap, ◌∙◌, append_assoc, length-append, arith}
use Rattle.std.specs.Prelude.{flat_map}
use Rattle.std.proofs.lemmas.List.{take-append-le, append-nil, take-append-drop, take_more}
use Rattle.std.proofs.lemmas.Grind.{flat_map-append}
use Rattle.std.proofs.Math.Seq.{take-append-add}
use Rattle.outside_core.specs.Written.{followed_by, CutShort}
use Rattle.outside_core.specs.declared.depot.Failed.{Failed}
use Rattle.card_core.specs.declared.leaf.Leaf.{Leaf}
use Rattle.line_core.specs.Lines.{shard_line, shard_lines}
use Rattle.line_core.specs.Sending.{Sends}

pub followed_by-twice : (told : Option (List ℕ)) (a b : List ℕ) → followed_by (followed_by told a) b ≡ followed_by told (a ++ b)
followed_by-twice None a b = refl
followed_by-twice (Some bytes) a b = ap (λ (x : List ℕ). Some x) (append_assoc bytes a b)

-- a front of the first text is one of both
CutShort-front : (told new : Option (List ℕ)) (a b : List ℕ) → CutShort told new a → CutShort told new (a ++ b)
CutShort-front told new a b (k, le, is) =
    (k, omega (arith, length-append a b), is ∙ ap (followed_by told) (sym (take-append-le k a b le)))

-- the first text, and a front of the second
CutShort-behind : (told mid new : Option (List ℕ)) (a b : List ℕ) → mid ≡ followed_by told a → CutShort mid new b → CutShort told new (a ++ b)
CutShort-behind told mid new a b before (k, le, is) = (
  length a + k,
  omega (arith, length-append a b),
  is ∙ ap (λ (t : Option (List ℕ)). followed_by t (take k b)) before ∙ followed_by-twice told a (take k b) ∙
      ap (followed_by told) (sym (take-append-add a b k)),
)

-- the sink failed at the first of two texts
pub Sends-front : (told new : Option (List ℕ)) (before now : ℕ) (e : Failed) (a b : List ℕ) → Sends told new before now (Err e) a → Sends told new before now (Err e) (a ++ b)
Sends-front told new before now e a b h = record { ok = tt; err = CutShort-front told new a b h.err; cause = h.cause; later = h.later }

-- the second text behind the first
pub Sends-then : (told mid new : Option (List ℕ)) (first then last : ℕ) (r : Result (Unit {0}) Failed) (a b : List ℕ) → mid ≡ followed_by told a → first ≤ then → Sends mid new then last r b
    → Sends told new first last r (a ++ b)
Sends-then told mid new first then last (Ok x) a b before le h = record {
  ok = h.ok ∙ ap (λ (t : Option (List ℕ)). followed_by t b) before ∙ followed_by-twice told a b;
  err = tt;
  cause = tt;
  later = omega (arith, h.later);
}
Sends-then told mid new first then last (Err e) a b before le h = record {
  ok = tt;
  err = CutShort-behind told mid new a b before h.err;
  cause = omega (arith, h.cause);
  later = omega (arith, h.later);
}

-- the texts of a list, up to one and with it
flat_map-more : {X : Type 0} (f : X → List ℕ) (xs : List X) (i : ℕ) (x : X) → i < length xs → x ≡ get_or xs i x → flat_map f (take (i + 1) xs) ≡ flat_map f (take i xs) ++ f x
flat_map-more f xs i x lt is =
    ap (flat_map f) (take_more xs i x lt) ∙ flat_map-append f (take i xs) (get_or xs i x ∷ [])
    ∙ ap (λ (t : List ℕ). flat_map f (take i xs) ++ t) (append-nil (f (get_or xs i x)) ∙ ap f (sym is))

flat_map-split : {X : Type 0} (f : X → List ℕ) (xs : List X) (i : ℕ) (x : X) → i < length xs → x ≡ get_or xs i x → flat_map f xs ≡ flat_map f (take i xs) ++ f x ++ flat_map f (drop (i + 1) xs)
flat_map-split f xs i x lt is =
    ap (flat_map f) (sym (take-append-drop (i + 1) xs)) ∙ flat_map-append f (take (i + 1) xs) (drop (i + 1) xs)
    ∙ ap (λ (t : List ℕ). t ++ flat_map f (drop (i + 1) xs)) (flat_map-more f xs i x lt is)

-- one more text of a list was written
pub written-more : {X : Type 0} (f : X → List ℕ) (xs : List X) (i : ℕ) (x : X) (told mid new : Option (List ℕ)) → i < length xs → x ≡ get_or xs i x
    → mid ≡ followed_by told (flat_map f (take i xs)) → new ≡ followed_by mid (f x) → new ≡ followed_by told (flat_map f (take (i + 1) xs))
written-more f xs i x told mid new lt is before more =
    more ∙ ap (λ (t : Option (List ℕ)). followed_by t (f x)) before ∙ followed_by-twice told (flat_map f (take i xs)) (f x) ∙ ap (followed_by told) (sym (flat_map-more f xs i x lt is))

-- the sink failed at a text of a list
pub Sends-list : {X : Type 0} (f : X → List ℕ) (xs : List X) (i : ℕ) (x : X) (told mid new : Option (List ℕ)) (first then last : ℕ) (e : Failed) → i < length xs → x ≡ get_or xs i x
    → mid ≡ followed_by told (flat_map f (take i xs)) → first ≤ then → Sends mid new then last (Err e) (f x) → Sends told new first last (Err e) (flat_map f xs)
Sends-list f xs i x told mid new first then last e lt is before le h =
    rw (flat_map-split f xs i x lt is)
    (Sends-front told new first last e (flat_map f (take i xs) ++ f x) (flat_map f (drop (i + 1) xs)) (Sends-then told mid new first then last (Err e) (flat_map f (take i xs)) (f x) before le h))

-- ---- the lines of shards

shards-split : (place i : ℕ) (leaves : List Leaf) (l : Leaf) → i < length leaves → l ≡ get_or leaves i l
    → shard_lines place leaves ≡ shard_lines place (take i leaves) ++ (shard_line (place + i) l ++ shard_lines (place + i + 1) (drop (suc i) leaves))
shards-split place i [] l lt is = absurd (omega arith)
shards-split place zero (x ∷ leaves) l lt is =
    let same : place + 0 ≡ place = omega arith in
    ap (λ (y : Leaf). shard_line place y ++ shard_lines (place + 1) leaves) (sym is) ∙ ap (λ (n : ℕ). shard_line n l ++ shard_lines (n + 1) leaves) (sym same)
shards-split place (suc i) (x ∷ leaves) l lt is =
    let same : place + 1 + i ≡ place + suc i = omega arith in
    ap (λ (t : List ℕ). shard_line place x ++ t) (shards-split (place + 1) i leaves l (omega arith) is)
    ∙ sym (append_assoc (shard_line place x) (shard_lines (place + 1) (take i leaves)) (shard_line (place + 1 + i) l ++ shard_lines (place + 1 + i + 1) (drop (suc i) leaves)))
    ∙ ap (λ (n : ℕ). (shard_line place x ++ shard_lines (place + 1) (take i leaves)) ++ (shard_line n l ++ shard_lines (n + 1) (drop (suc i) leaves))) same

shards-more : (place i : ℕ) (leaves : List Leaf) (l : Leaf) → i < length leaves → l ≡ get_or leaves i l
    → shard_lines place (take (suc i) leaves) ≡ shard_lines place (take i leaves) ++ shard_line (place + i) l
shards-more place i [] l lt is = absurd (omega arith)
shards-more place zero (x ∷ leaves) l lt is =
    let same : place + 0 ≡ place = omega arith in
    append-nil (shard_line place x) ∙ ap (λ (y : Leaf). shard_line place y) (sym is) ∙ ap (λ (n : ℕ). shard_line n l) (sym same)
shards-more place (suc i) (x ∷ leaves) l lt is =
    let same : place + 1 + i ≡ place + suc i = omega arith in
    ap (λ (t : List ℕ). shard_line place x ++ t) (shards-more (place + 1) i leaves l (omega arith) is)
    ∙ sym (append_assoc (shard_line place x) (shard_lines (place + 1) (take i leaves)) (shard_line (place + 1 + i) l))
    ∙ ap (λ (n : ℕ). (shard_line place x ++ shard_lines (place + 1) (take i leaves)) ++ shard_line n l) same

-- one more line was written
pub shards-written : (i : ℕ) (leaves : List Leaf) (l : Leaf) (told mid new : Option (List ℕ)) → i < length leaves → l ≡ get_or leaves i l
    → mid ≡ followed_by told (shard_lines 0 (take i leaves)) → new ≡ followed_by mid (shard_line i l) → new ≡ followed_by told (shard_lines 0 (take (i + 1) leaves))
shards-written i leaves l told mid new lt is before more =
    let same : suc i ≡ i + 1 = omega arith in
    let front : i ≡ 0 + i = omega arith in
    more ∙ ap (λ (t : Option (List ℕ)). followed_by t (shard_line i l)) before ∙ followed_by-twice told (shard_lines 0 (take i leaves)) (shard_line i l)
    ∙ ap (λ (n : ℕ). followed_by told (shard_lines 0 (take i leaves) ++ shard_line n l)) front
    ∙ ap (followed_by told) (sym (shards-more 0 i leaves l lt is)) ∙ ap (λ (n : ℕ). followed_by told (shard_lines 0 (take n leaves))) same

-- the sink failed at a line
pub shards-fail : (i : ℕ) (leaves : List Leaf) (l : Leaf) (told mid new : Option (List ℕ)) (first then last : ℕ) (e : Failed) → i < length leaves → l ≡ get_or leaves i l
    → mid ≡ followed_by told (shard_lines 0 (take i leaves)) → first ≤ then → Sends mid new then last (Err e) (shard_line i l) → Sends told new first last (Err e) (shard_lines 0 leaves)
shards-fail i leaves l told mid new first then last e lt is before le h =
    let front : 0 + i ≡ i = omega arith in
    rw (shards-split 0 i leaves l lt is, front)
    (Sends-then told mid new first then last (Err e) (shard_lines 0 (take i leaves)) (shard_line i l ++ shard_lines (i + 1) (drop (suc i) leaves)) before le
    (Sends-front mid new then last e (shard_line i l) (shard_lines (i + 1) (drop (suc i) leaves)) h))
