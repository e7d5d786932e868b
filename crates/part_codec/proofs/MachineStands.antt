-- For which bytes a machine stands behind a step.
use Rattle.std.proofs.Common.{◌≡◌, ℕ, zero, suc, ◌+◌, ◌-◌, ◌≤◌, ◌<◌, Bool, true, false, List, [], ◌++◌, length, take, drop, Result, Ok, Err, OnOk, IfErr, refl, sym, ap, subst, ◌∙◌}
use Rattle.std.proofs.Common.{append_assoc, arith, length-append, inl, inr}
use Rattle.std.proofs.lemmas.Bool.{cases_lt}
use Rattle.std.proofs.lemmas.List.{append-nil, drop_at, drop-drop, take_at, take-take, length-drop, drop-append-le, take-append-drop}
use Rattle.std.proofs.lemmas.List.{get_or_append_left, get_or-append_right, get_or-drop, take_all}
use Rattle.std.proofs.Math.Seq.{take-add}
use Rattle.sha2.specs.Sha256.{sha256}
use Rattle.sha2.specs.Hashers.{Holds256}
use Rattle.sha2.specs.declared.Sha256.{Sha256}
use Rattle.octets_core.specs.Position.{piece}
use Rattle.octets_core.specs.Reading.{fault_at}
use Rattle.octets_core.specs.declared.fault.Why.TheVariants as why
use Rattle.octets_core.specs.declared.fault.LayoutFault.{LayoutFault}
use Rattle.octets_core.proofs.Texts.{IsBytes, IsBytes-piece}
use Rattle.part_text.specs.PartLayout.{sealed}
use Rattle.part_codec.specs.declared.fields.Kept.{Kept}
use Rattle.part_codec.specs.declared.fields.Open.{Open}
use Rattle.part_codec.specs.declared.fields.Open.TheVariants as opens
use Rattle.part_codec.specs.declared.fields.TheConstants.{TRAILER}
use Rattle.part_codec.specs.declared.machine.Machine.{Machine}
use Rattle.part_codec.specs.Remaining.{Seen, nothing_seen, sealed_of, Rest, rest}
use Rattle.part_codec.specs.Stepping.{in_front, skips, tail_of, width_of, passes, passes_last, kept_after, open_after, seen_after, name_of, wrong_of}
use Rattle.part_codec.specs.Stepping.{open_range, open_block, open_leaf, open_mode, open_approx, open_plane, settled, AreLimits, Passed}
use Rattle.part_codec.specs.Scanning.{Opened, IsWhole, Tested, Stands, Stays, Hashes, Passes, Moved, seen_when, hashed_to}
use Rattle.part_codec.proofs.MachineLaws.{starts, rest-steps, rest-fails, rest-short}
use Rattle.part_codec.proofs.FieldSteps.{width-parts, last-passes, kept-last, passed-of, limits-whole, counts-steps, opened-steps, some-settled}

-- ---- more bytes came

bytes-more : (b t : List ℕ) → IsBytes b → IsBytes t → IsBytes (b ++ t)
bytes-more b t one two i =
    elim (cases_lt i (length b)) [
      | inl lt ↦ rw (get_or_append_left b t 0 i lt) (one i)
      | inr le ↦ rw (get_or-append_right b t (length b) i 0 refl le) (two (i - length b))
    ]

pub bytes-front : (n : ℕ) (piece : List ℕ) → IsBytes piece → IsBytes (take n piece)
bytes-front n l fits = IsBytes-piece n l 0 fits

pub Opened-more : (m : Machine) (s : Seen) (b t : List ℕ) → IsBytes t → Opened m s b → Opened m s (b ++ t)
Opened-more m s b t fits o = record {
  fits = bytes-more b t o.fits fits;
  behind = omega (arith, o.behind, length-append b t);
  counts = o.counts;
  opened = o.opened;
  each = λ x. ap (λ (l : List ℕ). sealed l 0) (append_assoc b t x) ∙ o.each (t ++ x) ∙ ap (λ (l : List ℕ). rest m.field m.kept s l m.at) (sym (append_assoc b t x));
}

-- the same field is open in both machines
Opened-same : (m n : Machine) (s : Seen) (b : List ℕ) → n.field ≡ m.field → n.kept ≡ m.kept → n.at ≡ m.at → Opened m s b → Opened n s b
Opened-same m n s b field kept at o = record {
  fits = o.fits;
  behind = omega (arith, o.behind, at);
  counts = rw kept o.counts;
  opened = rw (field, kept) o.opened;
  each = λ x. rw (field, kept, at) (o.each x);
}

pub drop-all : (n : ℕ) (l : List ℕ) → n ≡ length l → drop n l ≡ []
drop-all n l is = ap (drop n) (sym (append-nil l)) ∙ drop_at l [] n (sym is)

pub stands-fills : (m n : Machine) (s : Seen) (b t held : List ℕ) → Stands m s b → IsBytes t → n.field ≡ m.field → n.kept ≡ m.kept → n.at ≡ m.at → n.passed ≡ m.passed
    → n.filled ≡ m.filled + length t → held ≡ take n.filled n.held → held ≡ take m.filled m.held ++ t → Stands n s (b ++ t)
stands-fills m n s b t held st fits field kept at passed filled here is = record {
  opens = Opened-same m n s (b ++ t) field kept at (Opened-more m s b t fits st.opens);
  place = omega (arith, st.place, at, passed, filled, length-append b t);
  held =
      let e : n.at + n.passed ≡ m.at + m.passed = omega (arith, at, passed) in
      ap (λ (k : ℕ). drop k (b ++ t)) e ∙ drop-append-le (m.at + m.passed) b t (omega (arith, st.place)) ∙ ap (λ (l : List ℕ). l ++ t) st.held ∙ sym is ∙ here;
}

-- all of the open field came, and its last bytes are held, or came now
pub whole-full : (m : Machine) (s : Seen) (b : List ℕ) → Stands m s b → m.passed ≡ skips m.field m.kept → m.filled ≡ tail_of m.field → IsWhole m (take m.filled m.held) b
whole-full m s b st passed full = record {
  len = omega (arith, st.place, passed, full, width-parts m.field m.kept m.starts);
  held = ap (λ (k : ℕ). drop (m.at + k) b) (sym passed) ∙ st.held;
}

pub whole-alone : (m : Machine) (s : Seen) (b t : List ℕ) → Stands m s b → m.passed ≡ skips m.field m.kept → length t ≡ tail_of m.field → m.filled ≡ 0 → IsWhole m t (b ++ t)
whole-alone m s b t st passed full none = record {
  len = omega (arith, st.place, passed, full, none, width-parts m.field m.kept m.starts, length-append b t);
  held =
      ap (λ (k : ℕ). drop (m.at + k) (b ++ t)) (sym passed) ∙ drop-append-le (m.at + m.passed) b t (omega (arith, st.place))
      ∙ ap (λ (l : List ℕ). l ++ t) (st.held ∙ ap (λ (n : ℕ). take n m.held) none);
}

-- ---- the open field is whole

-- its bytes
record Field (m : Machine) (last b : List ℕ) : Type 0 where
  is : (x : List ℕ) → piece (width_of m.field m.kept) (b ++ x) m.at ≡ drop m.at b
  ends : drop (skips m.field m.kept) (drop m.at b) ≡ last
  size : length (drop m.at b) ≡ width_of m.field m.kept
  fits : IsBytes (drop m.at b)

pub bytes-behind : (n : ℕ) (b : List ℕ) → IsBytes b → IsBytes (drop n b)
bytes-behind n b fits i = rw get_or-drop (fits (n + i))

field-of : (m : Machine) (s : Seen) (last b : List ℕ) → Opened m s b → IsWhole m last b → Field m last b
field-of m s last b o w =
    let size : length (drop m.at b) ≡ width_of m.field m.kept = omega (arith, w.len, length-drop m.at b) in
    record {
      is = λ x. ap (take (width_of m.field m.kept)) (drop-append-le m.at b x (omega (arith, w.len))) ∙ take_at (drop m.at b) x (width_of m.field m.kept) size;
      ends = drop-drop (skips m.field m.kept) m.at b ∙ w.held;
      size = size;
      fits = bytes-behind m.at b o.fits;
    }

front-same : (at : ℕ) (b x : List ℕ) → at ≤ length b → take at (b ++ x) ≡ take at b
front-same at b x le = sym (take-take at (length b) (b ++ x) le) ∙ ap (take at) (take_at b x (length b) refl)

-- the test of what is held is the test of the field
tested : (m : Machine) (s : Seen) (last b x : List ℕ) (answer : Bool) → Opened m s b → IsWhole m last b → passes_last m.field m.kept (sha256 (take m.at b)) last ≡ answer
    → passes m.field m.kept (sha256 (take m.at (b ++ x))) (piece (width_of m.field m.kept) (b ++ x) m.at) ≡ answer
tested m s last b x answer o w h =
    let p : List ℕ = drop m.at b in
    let f = field-of m s last b o w in
    ap (λ (l : List ℕ). passes m.field m.kept (sha256 l) (piece (width_of m.field m.kept) (b ++ x) m.at)) (front-same m.at b x o.behind)
    ∙ ap (passes m.field m.kept (sha256 (take m.at b))) (f.is x)
    ∙ sym (last-passes m.field m.kept (sha256 (take m.at b)) p f.fits m.starts f.size)
    ∙ ap (passes_last m.field m.kept (sha256 (take m.at b))) f.ends
    ∙ h

pub field-fails : (m : Machine) (s : Seen) (last b x : List ℕ) → Opened m s b → IsWhole m last b → (m.field ≡ opens.Done → ⊥)
    → passes_last m.field m.kept (sha256 (take m.at b)) last ≡ false → sealed (b ++ x) 0 ≡ Err (fault_at (wrong_of m.field) (name_of m.field) m.at)
field-fails m s last b x o w goes failed =
    o.each x ∙ rest-fails m.field m.kept s (b ++ x) m.at o.counts goes (omega (arith, w.len, length-append b x)) (tested m s last b x false o w failed)

pub field-goes : (m n : Machine) (s : Seen) (last b : List ℕ) → Opened m s b → IsWhole m last b → AreLimits m.field last → Tested m last b
    → n.kept ≡ kept_after m.field m.kept last → n.field ≡ open_after m.field n.kept → n.at ≡ length b → n.passed ≡ 0 → n.filled ≡ 0
    → Stands n (seen_after m.field m.kept s (drop m.at b)) b
field-goes m n s last b st w limits passes kept field end none empty =
    let p : List ℕ = drop m.at b in
    let f = field-of m s last b st w in
    let k : n.kept ≡ kept_after m.field m.kept p = kept ∙ ap (kept_after m.field m.kept) (sym f.ends) ∙ kept-last m.field m.kept p in
    let o : n.field ≡ open_after m.field (kept_after m.field m.kept p) = field ∙ ap (open_after m.field) k in
    record {
      opens = record {
        fits = st.fits;
        behind = omega (arith, end);
        counts = rw k (counts-steps m.field m.kept s p st.opened st.counts);
        opened = rw (o, k) (opened-steps m.field m.kept p (limits-whole m.field m.kept p (rw f.ends limits)) st.opened);
        each = λ x.
            let at-is : m.at + width_of m.field m.kept ≡ n.at = omega (arith, end, w.len) in
            let step = rest-steps m.field m.kept s (b ++ x) m.at st.opened st.counts (omega (arith, w.len, length-append b x)) (tested m s last b x true st w passes) in
            st.each x ∙ step
            ∙ ap (λ (q : List ℕ). rest (open_after m.field (kept_after m.field m.kept q)) (kept_after m.field m.kept q) (seen_after m.field m.kept s q) (b ++ x) (m.at + width_of m.field m.kept))
            (f.is x)
            ∙ ap (λ (q : Kept). rest (open_after m.field q) q (seen_after m.field m.kept s p) (b ++ x) (m.at + width_of m.field m.kept)) (sym k)
            ∙ ap (λ (q : Open). rest q n.kept (seen_after m.field m.kept s p) (b ++ x) (m.at + width_of m.field m.kept)) (sym field)
            ∙ ap (rest n.field n.kept (seen_after m.field m.kept s p) (b ++ x)) at-is;
      };
      place = omega (arith, end, none, empty);
      held = drop-all (n.at + n.passed) b (omega (arith, end, none)) ∙ sym (ap (λ (q : ℕ). take q n.held) empty);
    }

pub passes-of : (m n : Machine) (s : Seen) (last b : List ℕ) → Opened m s b → IsWhole m last b → AreLimits m.field last → Tested m last b
    → n.kept ≡ kept_after m.field m.kept last → n.at ≡ length b → Passes m n b
passes-of m n s last b o w limits good kept at =
    let p : List ℕ = drop m.at b in
    let f = field-of m s last b o w in
    let sum = sha256 (take m.at (b ++ [])) in
    record {
      passed = passed-of m.field m.kept sum p (rw f.ends limits) (ap (passes m.field m.kept sum) (sym (f.is [])) ∙ tested m s last b [] true o w good) f.size;
      kept = kept ∙ ap (kept_after m.field m.kept) (sym f.ends) ∙ kept-last m.field m.kept p;
      at = at;
    }

pub moved-of : (m l n : Machine) (b : List ℕ) → Passes m l b → l.field ≡ open_after m.field l.kept → n.field ≡ settled l.field → n.kept ≡ l.kept → n.at ≡ l.at → Moved true m n b
moved-of m l n b p next field kept at = record {
  passed = p.passed;
  kept = kept ∙ p.kept;
  field = field ∙ ap settled next ∙ ap (λ (k : Kept). settled (open_after m.field k)) (sym kept);
  at = at ∙ p.at;
}

-- where the open field ends
pub end-of : (m : Machine) (last b : List ℕ) → IsWhole m last b → length last ≡ tail_of m.field → m.passed ≡ skips m.field m.kept → m.at + (m.passed + length last) ≡ length b
end-of m last b w len passed = omega (arith, w.len, len, passed, width-parts m.field m.kept m.starts)

-- ---- the input ends

now : (m : Machine) (s : Seen) (b : List ℕ) → Stands m s b → sealed b 0 ≡ rest m.field m.kept s b m.at
now m s b st = subst (λ (l : List ℕ). sealed l 0 ≡ rest m.field m.kept s l m.at) (append-nil b) (st.opens.each [])

-- within a field
pub field-short : (m : Machine) (s : Seen) (b : List ℕ) → Stands m s b → m.filled < tail_of m.field → sealed b 0 ≡ Err (fault_at why.Short (name_of m.field) m.at)
field-short m s b st lt =
    now m s b st ∙ rest-short m.field m.kept s b m.at (omega (arith, st.place, lt, m.before, width-parts m.field m.kept m.starts)) (omega (arith, st.place))

-- behind the last
pub at-end : (m : Machine) (s : Seen) (b : List ℕ) → Stands m s b → m.field ≡ opens.Done → m.at ≡ length b
at-end m s b st done =
    let none : m.filled ≤ 0 = subst (λ (o : Open). m.filled ≤ tail_of o) done m.few in
    let passed : m.passed ≤ 0 = subst (λ (o : Open). m.passed ≤ skips o m.kept) done m.before in
    omega (arith, st.place, none, passed)

pub field-done : (m : Machine) (s : Seen) (b : List ℕ) → Stands m s b → m.field ≡ opens.Done → sealed b 0 ≡ Ok (sealed_of m.kept s, length b)
unfolding rest
field-done m s b st done = now m s b st ∙ ap (λ (o : Open). rest o m.kept s b m.at) done ∙ ap (λ (n : ℕ). Ok (sealed_of m.kept s, n)) (at-end m s b st done)

pub stands-new : (m : Machine) → m.field ≡ opens.Magic → m.at ≡ 0 → m.passed ≡ 0 → m.filled ≡ 0 → m.kept.ranges ≡ 0 → m.kept.ranges_left ≡ 0 → m.kept.issuers ≡ 0 → m.kept.left ≡ 0
    → m.kept.shift ≡ 0 → m.kept.sharded ≡ false
    → Stands m nothing_seen []
unfolding rest
stands-new m field at passed filled ranges ranges_left issuers left shift sharded = record {
  opens = record {
    fits = λ i. omega arith;
    behind = omega (arith, at);
    counts = record { ranges = omega (arith, ranges, ranges_left); blocks = omega (arith, issuers, left); leaves = λ some few. absurd (omega (arith, some, shift)); sharded = sharded };
    opened = rw field tt;
    each = λ x. rw (field, at) (ap (λ (l : Rest). l x 0) (starts m.kept nothing_seen));
  };
  place = omega (arith, at, passed, filled);
  held = drop-all (m.at + m.passed) [] (omega (arith, at, passed)) ∙ sym (ap (λ (n : ℕ). take n m.held) filled);
}

-- ---- answers

pub ok-map : {A E P Q : Type 0} (r : Result A E) → (P → Q) → OnOk r P → OnOk r Q
ok-map (Ok x) f p = f p
ok-map (Err e) f p = tt

pub err-map : {A E : Type 0} (P Q : E → Type 0) (r : Result A E) → ((e : E) → P e → Q e) → IfErr r P → IfErr r Q
err-map P Q (Ok x) f p = p
err-map P Q (Err e) f p = f e p

-- the field behind is settled
pub moved-settled : {A E : Type 0} (r : Result A E) (m l n : Machine) (last : List ℕ) → OnOk r (n.field ≡ settled l.field) → OnOk r (n.kept ≡ l.kept) → OnOk r (n.at ≡ l.at)
    → l.field ≡ open_after m.field l.kept → ((s : Seen) (b : List ℕ) → Opened m s b → IsWhole m last b → Passes m l b)
    → OnOk r ((s : Seen) (b : List ℕ) → Opened m s b → IsWhole m last b → Moved true m n b)
moved-settled (Ok x) m l n last field kept at next h = λ s b o w. moved-of m l n b (h s b o w) next field kept at
moved-settled (Err e) m l n last field kept at next h = tt

pub next-settled : {A E : Type 0} (r : Result A E) (m l n : Machine) → OnOk r (n.field ≡ settled l.field) → OnOk r (n.kept ≡ l.kept) → l.field ≡ open_after m.field l.kept
    → OnOk r (n.field ≡ settled (open_after m.field n.kept))
next-settled (Ok x) m l n field kept next = field ∙ ap settled next ∙ ap (λ (k : Kept). settled (open_after m.field k)) (sym kept)
next-settled (Err e) m l n field kept next = tt

pub partial-settled : {A E : Type 0} (r : Result A E) (n : Machine) (o : Open) → OnOk r (n.field ≡ settled o) → OnOk r (n.filled ≡ 0)
    → OnOk r ((n.field ≡ opens.Done → ⊥) → n.filled < tail_of n.field)
partial-settled (Ok x) n o field empty = λ goes.
    let some : 0 < tail_of (settled o) = some-settled o (λ is. goes (field ∙ is)) in
    let same : tail_of n.field ≡ tail_of (settled o) = ap tail_of field in
    omega (arith, some, same, empty)
partial-settled (Err e) n o field empty = tt

-- ---- pieces

pub moved-from : (w : Bool) (m l n : Machine) (b : List ℕ) → l.field ≡ m.field → l.kept ≡ m.kept → l.at ≡ m.at → Moved w l n b → Moved w m n b
moved-from true m l n b field kept at v = record {
  passed = subst (λ (q : Open). Passed q m.kept (drop m.at b)) field (subst (λ (q : Kept). Passed l.field q (drop m.at b)) kept (subst (λ (q : ℕ). Passed l.field l.kept (drop q b)) at v.passed));
  kept = v.kept ∙ ap (λ (q : Open). kept_after q l.kept (drop l.at b)) field ∙ ap (λ (q : Kept). kept_after m.field q (drop l.at b)) kept ∙ ap (λ (q : ℕ). kept_after m.field m.kept (drop q b)) at;
  field = v.field ∙ ap (λ (q : Open). settled (open_after q n.kept)) field;
  at = v.at;
}
moved-from false m l n b field kept at v = record { field = v.field ∙ field; kept = v.kept ∙ kept; at = v.at ∙ at }

pub piece-fails : (b piece x : List ℕ) (n : ℕ) (e : LayoutFault) → sealed ((b ++ take n piece) ++ (drop n piece ++ x)) 0 ≡ Err e → sealed (b ++ piece ++ x) 0 ≡ Err e
piece-fails b piece x n e h =
    let same : b ++ piece ++ x ≡ (b ++ take n piece) ++ (drop n piece ++ x)
    = ap (λ (l : List ℕ). b ++ l ++ x) (sym (take-append-drop n piece)) ∙ ap (λ (l : List ℕ). l ++ x) (sym (append_assoc b (take n piece) (drop n piece)))
    ∙ append_assoc (b ++ take n piece) (drop n piece) x in
    ap (λ (l : List ℕ). sealed l 0) same ∙ h

pub pieces-join : (b piece : List ℕ) (n k : ℕ) (r : List ℕ) → r ≡ drop n piece → (b ++ take n piece) ++ take k r ≡ b ++ take (n + k) piece
pieces-join b piece n k r is =
    ap (λ (l : List ℕ). (b ++ take n piece) ++ take k l) is ∙ append_assoc b (take n piece) (take k (drop n piece)) ∙ ap (λ (l : List ℕ). b ++ l) (sym (take-add n k piece))

pub settled-same : (w : Bool) (m n : Machine) (s : Seen) (b : List ℕ) → n.field ≡ m.field → n.kept ≡ m.kept → n.at ≡ m.at → seen_when w n s (drop n.at b) ≡ seen_when w m s (drop m.at b)
settled-same true m n s b field kept at =
    ap (λ (o : Open). seen_after o n.kept s (drop n.at b)) field ∙ ap (λ (k : Kept). seen_after m.field k s (drop n.at b)) kept ∙ ap (λ (k : ℕ). seen_after m.field m.kept s (drop k b)) at
settled-same false m n s b field kept at = refl

-- ---- what was hashed

hashed-range : (n e : ℕ) → hashed_to (open_range n) e e ≡ e
hashed-range zero e = refl
hashed-range (suc n) e = refl

hashed-block : (n e : ℕ) → hashed_to (open_block n) e e ≡ e
hashed-block zero e = refl
hashed-block (suc n) e = refl

hashed-leaf : (leaves left e : ℕ) → hashed_to (open_leaf leaves left) e e ≡ e
hashed-leaf zero left e = hashed-block left e
hashed-leaf (suc n) left e = refl

hashed-approx : (n e : ℕ) → hashed_to (open_approx n) e e ≡ e
hashed-approx zero e = refl
hashed-approx (suc n) e = refl

hashed-plane : (n e : ℕ) → hashed_to (open_plane n) e e ≡ e
hashed-plane zero e = refl
hashed-plane (suc n) e = refl

hashed-mode : (mode leaves left e : ℕ) → hashed_to (open_mode mode leaves left) e e ≡ e
hashed-mode zero leaves left e = hashed-leaf leaves left e
hashed-mode (suc zero) leaves left e = hashed-leaf leaves left e
hashed-mode (suc (suc zero)) leaves left e = refl
hashed-mode (suc (suc (suc n))) leaves left e = refl

-- behind a field before the trailer all is before the trailer
hashed-next : (o : Open) (k : Kept) (e : ℕ) → in_front o ≡ true → hashed_to (open_after o k) e e ≡ e
hashed-next opens.Ranges k e front = hashed-range k.ranges_left e
hashed-next opens.RangeTo k e front = hashed-range k.ranges_left e
hashed-next opens.Issuers k e front = hashed-block k.left e
hashed-next opens.BlockMode k e front = hashed-mode k.mode k.leaves k.left e
hashed-next opens.ShardMode k e front = hashed-mode k.mode k.leaves k.left e
hashed-next opens.BlockK k e front = hashed-approx k.planes e
hashed-next opens.ApproxStarts k e front = hashed-plane k.planes e
hashed-next opens.ApproxPlane k e front = hashed-plane k.planes e
hashed-next opens.ExactPlane k e front = hashed-leaf k.leaves k.left e
hashed-next opens.Trailer k e front = absurd cc
hashed-next opens.Done k e front = absurd cc
hashed-next o k e front = refl

hashed-settled : (o : Open) (e : ℕ) → hashed_to o e e ≡ e → hashed_to (settled o) e e ≡ e
hashed-settled opens.Sharded e all = refl
hashed-settled o e all = all

hashed-front : (o : Open) (at e : ℕ) → in_front o ≡ true → hashed_to o at e ≡ e
hashed-front opens.Trailer at e front = absurd cc
hashed-front opens.Done at e front = absurd cc
hashed-front o at e front = refl

pub front-before : (m : Machine) (b : List ℕ) → in_front m.field ≡ true → hashed_to m.field m.at (length b) ≡ length b
front-before m b front = hashed-front m.field m.at (length b) front

pub front-moved : (w : Bool) (m n : Machine) (b : List ℕ) → in_front m.field ≡ true → Moved w m n b → hashed_to n.field n.at (length b) ≡ length b
front-moved true m n b front v = ap (λ (q : Open). hashed_to q n.at (length b)) v.field ∙ ap (λ (q : ℕ). hashed_to (settled (open_after m.field n.kept)) q (length b)) v.at
    ∙ hashed-settled (open_after m.field n.kept) (length b) (hashed-next m.field n.kept (length b) front)
front-moved false m n b front v = ap (λ (q : Open). hashed_to q n.at (length b)) v.field ∙ hashed-front m.field n.at (length b) front

-- at the trailer all before it was hashed
pub trailer-hashed : (m : Machine) (h : Sha256) (b : List ℕ) → m.field ≡ opens.Trailer → Hashes m h b → Holds256 h (take m.at b)
trailer-hashed m h b is hashed = subst (λ (o : Open). Holds256 h (take (hashed_to o m.at (length b)) b)) is hashed

pub hashes-done : (n : Machine) (h : Sha256) (b : List ℕ) (at : ℕ) → n.field ≡ opens.Done → n.at ≡ at + TRAILER → Holds256 h (take at b) → Hashes n h b
hashes-done n h b at is end hashed =
    let back : at ≡ n.at - TRAILER = omega (arith, end) in
    subst (Holds256 h) (ap (λ (k : ℕ). take k b) back ∙ ap (λ (o : Open). take (hashed_to o n.at (length b)) b) (sym is)) hashed

pub hashes-new : (m : Machine) (h : Sha256) → Holds256 h [] → Hashes m h []
hashes-new m h hashed = subst (Holds256 h) (sym (take_all (hashed_to m.field m.at 0) [] (omega arith))) hashed

-- all that was read was hashed by one call
pub hashed-on : (m n : Machine) (h g : Sha256) (b t : List ℕ) → in_front m.field ≡ true → hashed_to n.field n.at (length (b ++ t)) ≡ length (b ++ t)
    → ((l : List ℕ) → Holds256 h l → Holds256 g (l ++ t)) → Hashes m h b → Hashes n g (b ++ t)
hashed-on m n h g b t front next update hashed =
    let before : take (hashed_to m.field m.at (length b)) b ≡ b = ap (λ (k : ℕ). take k b) (front-before m b front) ∙ take_all (length b) b (omega arith) in
    let after : take (hashed_to n.field n.at (length (b ++ t))) (b ++ t) ≡ b ++ t = ap (λ (k : ℕ). take k (b ++ t)) next ∙ take_all (length (b ++ t)) (b ++ t) (omega arith) in
    subst (Holds256 g) (sym after) (update b (subst (Holds256 h) before hashed))

-- ---- behind the last block

-- no byte of the field came, since it has none
pub at-sharded : (m : Machine) (s : Seen) (b : List ℕ) → m.field ≡ opens.Sharded → m.passed ≡ 0 → Stands m s b → IsWhole m [] b
at-sharded m s b is none st =
    let few : m.filled ≤ 0 = subst (λ (o : Open). m.filled ≤ tail_of o) is m.few in
    let width : width_of m.field m.kept ≡ 0 = ap (λ (o : Open). width_of o m.kept) is in
    let skipped : skips m.field m.kept ≡ 0 = ap (λ (o : Open). skips o m.kept) is in
    record {
      len = omega (arith, st.place, none, few, width);
      held = drop-all (m.at + skips m.field m.kept) b (omega (arith, st.place, none, few, skipped));
    }

-- ---- the trailer

hash-at : (n : Machine) (h : Sha256) (b t : List ℕ) (at : ℕ) → n.at ≡ at → at ≤ length b → Holds256 h (take at b) → Holds256 h (take n.at (b ++ t))
hash-at n h b t at same le hashed = subst (Holds256 h) (sym (ap (λ (k : ℕ). take k (b ++ t)) same ∙ front-same at b t le)) hashed

pub none-passed : (m : Machine) (o : Open) → m.field ≡ o → skips o m.kept ≡ 0 → m.passed ≡ skips m.field m.kept
none-passed m o is none =
    let same : skips m.field m.kept ≡ skips o m.kept = ap (λ (q : Open). skips q m.kept) is in
    omega (arith, same, none, m.before)

-- all of the trailer came, and is held
pub record Closed (n : Machine) (h : Sha256) (s : Seen) (b : List ℕ) : Type 0 where
  pub opens : Opened n s b
  pub whole : IsWhole n (take n.filled n.held) b
  pub hashed : Holds256 h (take n.at b)

pub closes : (m n : Machine) (h : Sha256) (s : Seen) (b t : List ℕ) → m.field ≡ opens.Trailer → Stands m s b → IsBytes t → Stays m n → n.passed ≡ m.passed
    → n.filled ≡ m.filled + length t → take n.filled n.held ≡ take m.filled m.held ++ t → m.filled + length t ≡ TRAILER → Hashes m h b → Closed n h s (b ++ t)
closes m n h s b t is st fits stays passed filled held full hashed =
    let st2 = stands-fills m n s b t _ st fits stays.field stays.kept stays.at passed filled refl held in
    let is2 : n.field ≡ opens.Trailer = stays.field ∙ is in
    let tail : tail_of n.field ≡ TRAILER = ap tail_of is2 in
    record {
      opens = st2.opens;
      whole = whole-full n s (b ++ t) st2 (none-passed n opens.Trailer is2 refl) (omega (arith, filled, full, tail));
      hashed = hash-at n h b t m.at stays.at st.opens.behind (trailer-hashed m h b is hashed);
    }

pub hashes-closed : (n q : Machine) (h : Sha256) (s : Seen) (b : List ℕ) → n.field ≡ opens.Trailer → Closed n h s b → q.field ≡ opens.Done → q.at ≡ length b → Hashes q h b
hashes-closed n q h s b is c done end =
    let width : width_of n.field n.kept ≡ TRAILER = ap (λ (o : Open). width_of o n.kept) is in
    hashes-done q h b n.at done (omega (arith, end, c.whole.len, width)) c.hashed
