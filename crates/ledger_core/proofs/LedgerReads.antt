-- What is read as a ledger is spelled so.
use Rattle.std.proofs.Common.{◌≡◌, ℕ, zero, suc, ◌+◌, ◌-◌, ◌<◌, ◌≤◌, ◌^◌, Bool, true, false, ◌&&◌, cond, eqb, ltb, leb, List, [], ◌∷◌, ◌++◌, length, map, take}
use Rattle.std.proofs.Common.{Option, Some, None, Result, Ok, Err, inl, inr, get_or, drop, refl, sym, ap, ◌∙◌, subst, arith}
use Rattle.std.specs.Prelude.{All, codes, is_none, IsNone, IfSome, flat_map}
use Rattle.std.specs.Int.{w8, w16, w32, w64, to_be_bytes, from_be_bytes}
use Rattle.std.specs.Str.{bytes_eq}
use Rattle.std.specs.List.{AllByRecursion}
use Rattle.std.specs.List.Sorted.{IsStrictlySortedBy}
use Rattle.std.specs.Cmp.{IsTotalOrder}
use Rattle.std.specs.declared.cmp.Ordering.{Ordering}
use Rattle.std.specs.declared.cmp.Ordering.TheVariants.{Less}
use Rattle.std.proofs.lemmas.Bool.{eqb-true, leb-true, ltb-false, and_parts}
use Rattle.std.proofs.lemmas.Cmp.{nat_cmp_total, nat_list_cmp_total, on_total, then_total}
use Rattle.std.proofs.lemmas.List.{append-nil, map-id, take_all, drop_at, get_or-drop}
use Rattle.std.proofs.lemmas.Slice.Eq.{bytes_eq-Decides}
use Rattle.sha2.specs.Sha256.{sha256}
use Rattle.octets_core.specs.Layout.{◌>>=◌, whole}
use Rattle.octets_core.specs.Linked.{Linked, is_after}
use Rattle.octets_core.specs.Reading.{key, any_key, end}
use Rattle.octets_core.specs.declared.field.Field.TheVariants as fields
use Rattle.octets_core.specs.declared.fault.LayoutFault.{LayoutFault}
use Rattle.octets_core.proofs.Fields.{then_read-ok, ok_is}
use Rattle.octets_core.proofs.Texts.{IsBytes, IsBytes-piece, Takes, Takes-as, ◌>>>◌, Leaves, ◌>>-◌, whole-leaves, bytes_field-leaves, number_field-leaves}
use Rattle.octets_core.proofs.Texts.{sum_field-leaves, repeated-leaves, wide8, wide16, wide32, wide64, Linked-weaken}
use Rattle.ident_core.specs.declared.bounds.TheConstants.{MAX_SERIAL, MAX_RANGES, MAX_ISSUERS, MAX_IDENTITIES, MAX_PARTS}
use Rattle.ident_core.specs.declared.identity.Identity.{Identity}
use Rattle.ident_core.specs.Coverage.{first_outside}
use Rattle.ident_core.specs.Order.{octets_cmp, identity_cmp}
use Rattle.ident_core.specs.RangeText.{range_text, RangeFits, FitsRange}
use Rattle.ident_core.proofs.RangeTexts.{ranges-leaves, ranges-ascend}
use Rattle.ident_core.proofs.Within.{within-iff}
use Rattle.ledger_core.specs.declared.fields.LedgerItem.{LedgerItem}
use Rattle.ledger_core.specs.LedgerFields.{LedgerPartFields, LedgerFields, Continues, IsPartAfter, IsItemOf, ids}
use Rattle.ledger_core.specs.LedgerText.{part_text, last_number, item_text, body_text, text_in, IsText}
use Rattle.ledger_core.specs.LedgerLayout.{least_epoch, coverage_before, ledger_part, is_from, is_behind, tested, is_last, last_of, last_place, item, body, digested, ledger}
use Rattle.ledger_core.specs.Fitting.{IsKey, PartFits, ItemFits, Fits}
use Rattle.ledger_core.proofs.Orders.{lt-less}
use Rattle.ledger_core.proofs.LedgerTexts.{FitsIssuer, FitsPart, FitsItem, IsVersionOf}
use Rattle.ledger_core.proofs.Dates.{FitsVersion, date_in-leaves}

-- ---- each behind the one before it: each below those after it

below-all : {K : Type 0} (cmp : K → K → Ordering) → IsTotalOrder cmp → (x y : K) → cmp x y ≡ Less → (ks : List K) → AllByRecursion (λ z. cmp y z ≡ Less) ks → AllByRecursion (λ z. cmp x z ≡ Less) ks
below-all cmp total x y h [] all = tt
below-all cmp total x y h (k ∷ ks) all = (total.trans x y k h all.0, below-all cmp total x y h ks all.1)

all-behind : {K X : Type 0} (key : X → K) (cmp : K → K → Ordering) → IsTotalOrder cmp → (after : Option K → K → Bool) → ((x y : K) → after (Some x) y ≡ true → cmp x y ≡ Less)
    → (x : K) (xs : List X) → Linked (λ previous y. after previous (key y) ≡ true) (λ previous y. Some (key y)) (Some x) xs → AllByRecursion (λ z. cmp x z ≡ Less) (map key xs)
all-behind key cmp total after tells x [] linked = tt
all-behind key cmp total after tells x (y ∷ ys) linked =
    let one = tells x (key y) linked.0 in
    (one, below-all cmp total x (key y) one (map key ys) (all-behind key cmp total after tells (key y) ys linked.1))

linked-sorted : {K X : Type 0} (key : X → K) (cmp : K → K → Ordering) → IsTotalOrder cmp → (after : Option K → K → Bool) → ((x y : K) → after (Some x) y ≡ true → cmp x y ≡ Less)
    → (previous : Option K) (xs : List X) → Linked (λ previous y. after previous (key y) ≡ true) (λ previous y. Some (key y)) previous xs → IsStrictlySortedBy cmp (map key xs)
unfolding IsStrictlySortedBy
linked-sorted key cmp total after tells previous [] linked = tt
linked-sorted key cmp total after tells previous (x ∷ xs) linked =
    (all-behind key cmp total after tells (key x) xs linked.1, linked-sorted key cmp total after tells (Some (key x)) xs linked.1)

identity_cmp-total : IsTotalOrder identity_cmp
identity_cmp-total = then_total (on_total (λ (x : Identity). x.issuer) nat_list_cmp_total)
    (on_total (λ (x : Identity). x.serial) (then_total (on_total (λ (s : List ℕ). length s) nat_cmp_total) nat_list_cmp_total))

keys-sorted : (ks : List (List ℕ)) → Linked (λ previous k. is_after previous k ≡ true) (λ previous k. Some k) None ks → IsStrictlySortedBy octets_cmp ks
keys-sorted ks linked =
    subst (IsStrictlySortedBy octets_cmp) (map-id ks)
    (linked-sorted (λ (k : List ℕ). k) octets_cmp nat_list_cmp_total is_after (λ x y h. lt-less (octets_cmp x y) h) None ks linked)

ids-sorted : (xs : List LedgerItem) → Linked (λ previous x. is_behind previous x.id ≡ true) (λ previous x. Some x.id) None xs → IsStrictlySortedBy identity_cmp (ids xs)
ids-sorted xs linked = linked-sorted (λ (x : LedgerItem). x.id) identity_cmp identity_cmp-total is_behind (λ x y h. lt-less (identity_cmp x y) h) None xs linked

linked-all : {S X : Type 0} (P : S → X → Type 0) (Q : X → Type 0) (next : S → X → S) → ((s : S) (x : X) → P s x → Q x) → (s : S) (xs : List X) → Linked P next s xs → All Q xs
linked-all P Q next f s [] linked k d lt = absurd (omega arith)
linked-all P Q next f s (x ∷ xs) linked zero d lt = f s x linked.0
linked-all P Q next f s (x ∷ xs) linked (suc k) d lt = linked-all P Q next f (next s x) xs linked.1 k d (omega arith)

-- ---- parts

issuer-leaves : (bytes : List ℕ) (previous : Option (List ℕ)) (at : ℕ) → Leaves (key fields.LedgerIssuer (is_after previous)) bytes at (λ k end. Takes bytes at k end × FitsIssuer previous k)
issuer-leaves bytes previous at = record { each = λ x h. let f = (bytes_field-leaves _ _ 32 (is_after previous) bytes at).each x h in (f.takes, (f.passed, f.len)) }

no-bytes : (l : List ℕ) → length l ≡ 0 → l ≡ []
no-bytes [] h = refl
no-bytes (x ∷ l) h = absurd (omega arith)

Takes-nothing : {bytes : List ℕ} {p q : ℕ} (t none : List ℕ) → none ≡ [] → Takes bytes p (t ++ none) q → Takes bytes p t q
Takes-nothing {bytes} {p} {q} t none is takes = Takes-as (t ++ none) t (ap (λ (l : List ℕ). t ++ l) is ∙ append-nil t) takes

none-fact : {T : Type 0} (o : Option T) → is_none o ≡ true → IsNone o
none-fact None h = refl
none-fact (Some x) h = absurd cc

continues : (previous : Option LedgerPartFields) (p : LedgerPartFields) → least_epoch previous ≤ p.epoch → is_none (first_outside (coverage_before previous) p.ranges) ≡ true → Continues previous p
continues None p low h = tt
continues (Some q) p low h = (omega (arith, low), (within-iff q.ranges p.ranges (first_outside q.ranges p.ranges) refl).0 (none-fact (first_outside q.ranges p.ranges) h))

part-leaves : (bytes : List ℕ) → IsBytes bytes → (previous : Option LedgerPartFields) (at : ℕ)
    → Leaves (ledger_part previous) bytes at (λ p end. Takes bytes at (part_text p) end × FitsPart previous p)
unfolding ledger_part part_text
part-leaves bytes fits previous at =
    number_field-leaves _ _ w64 (2 ^ 64) (least_epoch previous) (2 ^ 64 - 1) wide64 bytes fits at >>- λ epoch p a.
    bytes_field-leaves _ _ 32 any_key bytes p >>- λ trailer q b.
    number_field-leaves _ _ w16 (2 ^ 16) 0 MAX_RANGES wide16 bytes fits q >>- λ count r c.
    ranges-leaves bytes fits count r c.takes.room >>- λ list s d.
    bytes_field-leaves _ _ 0 (λ none. is_none (first_outside (coverage_before previous) list)) bytes s >>- λ none t e.
    number_field-leaves _ _ w32 (2 ^ 32) 0 MAX_ISSUERS wide32 bytes fits t >>- λ enrolled u f.
    repeated-leaves (λ previous. key fields.LedgerIssuer (is_after previous)) (λ previous issuer. Some issuer) FitsIssuer (λ issuer. issuer) bytes
    (issuer-leaves bytes) enrolled None u f.takes.room >>- λ keys end g.
    whole-leaves _ bytes end _ (
      Takes-nothing (to_be_bytes w64 epoch ++ trailer ++ to_be_bytes w16 (length list) ++ flat_map range_text list) none (no-bytes none e.len)
          (a.takes >>> b.takes >>> Takes-as (to_be_bytes w16 count) (to_be_bytes w16 (length list)) (ap (to_be_bytes w16) (sym d.2)) c.takes >>> d.0 >>> e.takes)
          >>> Takes-as (to_be_bytes w32 enrolled) (to_be_bytes w32 (length keys)) (ap (to_be_bytes w32) (sym g.2)) f.takes >>> g.0,
      (
        record {
          continues = continues previous (record { epoch = epoch; trailer = trailer; ranges = list; issuers = keys }) a.from_low e.passed;
          ranges = record { few = omega (arith, d.2, c.to_high); ascending = ranges-ascend list d.1 };
          few_issuers = omega (arith, g.2, f.to_high);
          issuers_ascend = keys-sorted keys (Linked-weaken FitsIssuer (λ previous k. is_after previous k ≡ true) (λ previous k. Some k) (λ s x h. h.0) None keys g.1);
        },
        record {
          epoch = omega (arith, a.to_high);
          trailer = b.len;
          ranges = linked-all FitsRange RangeFits (λ previous r. Some r.log) (λ s x h. h.1) None list d.1;
          issuers = linked-all FitsIssuer IsKey (λ previous k. Some k) (λ s x h. h.1) None keys g.1;
        },
      ),
    )

-- ---- identities

place-facts : (parts birth n : ℕ) → eqb n 255 ≡ false → is_last parts birth n ≡ true → (birth ≤ n) × (n ≤ parts - 1)
place-facts parts birth n e h =
    let tests : (leb birth n && leb n (parts - 1)) ≡ true = rw e at h in
    let both = and_parts (leb birth n) (leb n (parts - 1)) tests in
    (leb-true birth n both.0, leb-true n (parts - 1) both.1)

last-facts-by : (parts birth n : ℕ) (b : Bool) → eqb n 255 ≡ b → 1 ≤ parts → is_last parts birth n ≡ true
    → (last_number (cond b None (Some n)) ≡ n) × IfSome (cond b None (Some n)) (λ r. (birth ≤ r) × (r < parts))
last-facts-by parts birth n true e some h = (sym (eqb-true n 255 e), tt)
last-facts-by parts birth n false e some h = let rest = place-facts parts birth n e h in (refl, (rest.0, omega (arith, rest.1)))

last-facts : (parts birth n : ℕ) → 1 ≤ parts → is_last parts birth n ≡ true → (last_number (last_of n) ≡ n) × IfSome (last_of n) (λ r. (birth ≤ r) × (r < parts))
last-facts parts birth n some h = last-facts-by parts birth n (eqb n 255) refl some h

-- what lies in bytes is bytes
IsBytes-taken : (bytes : List ℕ) (at : ℕ) (t : List ℕ) (end : ℕ) → IsBytes bytes → Takes bytes at t end → IsBytes t
IsBytes-taken bytes at t end fits takes i =
    let n : ℕ = length (take at bytes) in
    let is : drop n (take end bytes) ≡ t = ap (drop n) takes.parts ∙ drop_at (take at bytes) t n refl in
    subst (λ (l : List ℕ). get_or l i 0 < 256) is (rw get_or-drop (IsBytes-piece end bytes 0 fits (n + i)))

taken-leaves : (test : List ℕ → Bool) (bytes : List ℕ) → IsBytes bytes → (at : ℕ)
    → Leaves (tested fields.IdentityLast 1 test) bytes at (λ byte end. Takes bytes at byte end × ((to_be_bytes w8 (from_be_bytes w8 byte) ≡ byte) × (test byte ≡ true)))
taken-leaves test bytes fits at = record {
  each = λ x h.
      let f = (bytes_field-leaves _ _ 1 test bytes at).each x h in
      (f.takes, (wide8.back x.0 f.len (IsBytes-taken bytes at x.0 x.1 fits f.takes), f.passed));
}

last-leaves : (parts birth : ℕ) → 1 ≤ parts → (bytes : List ℕ) → IsBytes bytes → (at : ℕ)
    → Leaves (last_place parts birth) bytes at (λ last end. Takes bytes at (to_be_bytes w8 (last_number last)) end × IfSome last (λ r. (birth ≤ r) × (r < parts)))
unfolding last_place
last-leaves parts birth some bytes fits at =
    taken-leaves (λ b. is_last parts birth (from_be_bytes w8 b)) bytes fits at >>- λ byte end a.
    let n : ℕ = from_be_bytes w8 byte in
    let facts = last-facts parts birth n some a.1.1 in
    whole-leaves _ bytes end _ (Takes-as byte (to_be_bytes w8 (last_number (last_of n))) (sym (a.1.0) ∙ ap (to_be_bytes w8) (sym facts.0)) a.0, facts.1)

item-leaves : (version parts : ℕ) → 1 ≤ parts → (bytes : List ℕ) → IsBytes bytes → (previous : Option Identity) (at : ℕ)
    → Leaves (item version parts previous) bytes at (λ x end. Takes bytes at (item_text version x) end × FitsItem version parts previous x)
unfolding item item_text
item-leaves version parts some bytes fits previous at =
    bytes_field-leaves _ _ 32 (is_from previous) bytes at >>- λ issuer p a.
    number_field-leaves _ _ w8 (2 ^ 8) 1 MAX_SERIAL wide8 bytes fits p >>- λ width q b.
    bytes_field-leaves _ _ width (λ serial. is_behind previous (record { issuer = issuer; serial = serial })) bytes q >>- λ serial r c.
    number_field-leaves _ _ w8 (2 ^ 8) 0 (parts - 1) wide8 bytes fits r >>- λ birth s d.
    last-leaves parts birth some bytes fits s >>- λ last t e.
    date_in-leaves version bytes fits t e.0.room >>- λ until end f.
    whole-leaves _ bytes end _ (
      a.takes >>> Takes-as (to_be_bytes w8 width) (to_be_bytes w8 (length serial)) (ap (to_be_bytes w8) (sym c.len)) b.takes >>> c.takes >>> d.takes >>> e.0 >>> f.0,
      (
        c.passed,
        (
          record { issuer = a.len; some_octets = omega (arith, c.len, b.from_low); few_octets = omega (arith, c.len, b.to_high); until = f.1.0 },
          (record { birth = omega (arith, d.to_high); last = e.1 }, f.1.1),
        ),
      ),
    )

-- ---- ledgers

-- What is read is a text of the ledger in some version, up to the digest or with it.
pub record IsSpelled (text : ℕ → LedgerFields → List ℕ) (bytes : List ℕ) (l : LedgerFields) (end : ℕ) : Type 0 where
  pub version : ℕ
  pub is_version : IsVersionOf l version
  pub takes : Takes bytes 0 (text version l) end
  pub fits : Fits l

pub body-leaves : (bytes : List ℕ) → IsBytes bytes → Leaves body bytes 0 (IsSpelled body_text bytes)
unfolding body body_text
body-leaves bytes fits =
    bytes_field-leaves _ _ 8 (bytes_eq (codes "CLUBLEDG")) bytes 0 >>- λ begin p a.
    number_field-leaves _ _ w8 (2 ^ 8) 1 2 wide8 bytes fits p >>- λ version q b.
    number_field-leaves _ _ w8 (2 ^ 8) 1 MAX_PARTS wide8 bytes fits q >>- λ count r c.
    repeated-leaves ledger_part (λ previous p. Some p) FitsPart part_text bytes (part-leaves bytes fits) count None r c.takes.room >>- λ parts s d.
    number_field-leaves _ _ w32 (2 ^ 32) 0 MAX_IDENTITIES wide32 bytes fits s >>- λ accepted t e.
    repeated-leaves (item version count) (λ previous x. Some x.id) (FitsItem version count) (item_text version) bytes
    (item-leaves version count c.from_low bytes fits) accepted None t e.takes.room >>- λ identities end f.
    whole-leaves _ bytes end _ (record {
      version = version;
      is_version = record {
        low = b.from_low;
        high = b.to_high;
        old = λ one.
            let none = linked-all (FitsItem version count) (λ x. FitsVersion version x.until) (λ previous x. Some x.id) (λ s x h. h.1.1.1) None identities f.1 in
            λ k d lt. none k d lt one;
      };
      takes = Takes-as begin (codes "CLUBLEDG") (sym ((bytes_eq-Decides (codes "CLUBLEDG") begin).0 a.passed)) a.takes
          >>> b.takes
          >>> Takes-as (to_be_bytes w8 count) (to_be_bytes w8 (length parts)) (ap (to_be_bytes w8) (sym d.2)) c.takes
          >>> d.0
          >>> Takes-as (to_be_bytes w32 accepted) (to_be_bytes w32 (length identities)) (ap (to_be_bytes w32) (sym f.2)) e.takes
          >>> f.0;
      fits = record {
        facts = record {
          some_parts = omega (arith, d.2, c.from_low);
          few_parts = omega (arith, d.2, c.to_high);
          parts = Linked-weaken FitsPart IsPartAfter (λ previous p. Some p) (λ s x h. h.0) None parts d.1;
          few_items = omega (arith, f.2, e.to_high);
          items_ascend = ids-sorted identities (Linked-weaken (FitsItem version count) (λ previous x. is_behind previous x.id ≡ true) (λ previous x. Some x.id) (λ s x h. h.0) None identities f.1);
          items = subst (λ (n : ℕ). All (IsItemOf n) identities) (sym d.2) (linked-all (FitsItem version count) (IsItemOf count) (λ previous x. Some x.id) (λ s x h. h.1.1.0) None identities f.1);
        };
        parts = linked-all FitsPart PartFits (λ previous p. Some p) (λ s x h. h.1) None parts d.1;
        items = linked-all (FitsItem version count) ItemFits (λ previous x. Some x.id) (λ s x h. h.1.0) None identities f.1;
      };
    })

digested-leaves : (bytes : List ℕ) → IsBytes bytes → Leaves digested bytes 0 (IsSpelled text_in bytes)
unfolding digested text_in
digested-leaves bytes fits =
    body-leaves bytes fits >>- λ l p a.
    sum_field-leaves _ _ 32 sha256 bytes p >>- λ sum end b.
    let body : List ℕ = body_text a.version l in
    let is : sum ≡ sha256 body = sym ((bytes_eq-Decides (sha256 (take p bytes)) sum).0 b.passed) ∙ ap sha256 a.takes.parts in
    whole-leaves _ bytes end _ (record { version = a.version; is_version = a.is_version; takes = a.takes >>> Takes-as sum (sha256 body) is b.takes; fits = a.fits })

end-by : (b : Bool) (bytes : List ℕ) (at : ℕ) (x : Unit {0} × ℕ) (e : LayoutFault) → ltb at (length bytes) ≡ b → ◌≡◌ {A = Result (Unit {0} × ℕ) LayoutFault} (cond b (Err e) (Ok (tt, at))) (Ok x)
    → length bytes ≤ at
end-by true bytes at x e is h = absurd cc
end-by false bytes at x e is h = ltb-false at (length bytes) is

-- a version is 1 or 2
is-text : (bytes : List ℕ) (l : LedgerFields) (version : ℕ) → IsVersionOf l version → bytes ≡ text_in version l → IsText l bytes
is-text bytes l zero is same = absurd (omega (arith, is.low))
is-text bytes l (suc zero) is same = inr (same, is.old refl)
is-text bytes l (suc (suc zero)) is same = inl same
is-text bytes l (suc (suc (suc n))) is same = absurd (omega (arith, is.high))

-- what is read as a ledger is a text of it, from the first byte to the last
pub ledger-found : (bytes : List ℕ) (l : LedgerFields) (n : ℕ) → IsBytes bytes → ledger bytes 0 ≡ Ok (l, n) → IsText l bytes × Fits l
unfolding ledger
ledger-found bytes l n fits h =
    let a = then_read-ok (digested bytes 0) (λ x. end >>= λ rest. whole x) bytes (l, n) h in
    let b = then_read-ok (end bytes a.0.1) (λ rest. whole a.0.0) bytes (l, n) a.2 in
    let read = (digested-leaves bytes fits).each a.0 a.1 in
    let all : take a.0.1 bytes ≡ bytes = take_all a.0.1 bytes (end-by (ltb a.0.1 (length bytes)) bytes a.0.1 b.0 _ refl b.1) in
    subst (λ (y : LedgerFields × ℕ). IsText y.0 bytes × Fits y.0) (ok_is {E = LayoutFault} (a.0.0, b.0.1) (l, n) b.2)
    (is-text bytes a.0.0 read.version read.is_version (sym all ∙ read.takes.parts), read.fits)
