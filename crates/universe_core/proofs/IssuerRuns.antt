-- The run of an issuer's members, and the serials that a CRL lists.
use Rattle.std.specs.List.{slice_get}
use Rattle.std.specs.List.Sorted.{IsStrictlySortedBy, IsBinarySearchResult, IsPartitionedBy, IsPartitionPoint}
use Rattle.std.specs.Str.{bytes_eq}
use Rattle.std.specs.Prelude.{IsPermutation, not}
use Rattle.std.specs.Cmp.{IsTotalOrder}
use Rattle.std.specs.declared.cmp.Ordering.{Ordering}
use Rattle.std.specs.declared.cmp.Ordering.TheVariants.{Less, Equal, Greater}
use Rattle.std.specs.Ordering.{nat_cmp, is_lt, is_gt, ordering_then}
use Rattle.std.proofs.Common.{◌≡◌, ℕ, zero, suc, ◌+◌, ◌-◌, ◌≤◌, ◌<◌, inl, inr, ⊎_elim, ◌||◌, ◌&&◌, List, [], ◌∷◌, map, length, get_or, take, drop, Bool, true, false, cond}
use Rattle.std.proofs.Common.{Some, Err, refl, sym, ap, ◌∙◌, subst, arith}
use Rattle.std.proofs.lemmas.Bool.{true≢false, false_from_ne_true, cases_lt}
use Rattle.std.proofs.lemmas.Cmp.{nat_cmp_total, nat_list_cmp_total, on_total, then_total, tied_itself}
use Rattle.std.proofs.lemmas.List.{take-map, drop-map, length-drop, length-map}
use Rattle.std.proofs.lemmas.List.Sorted.{Contains-permutation, IsPermutation-sym}
use Rattle.std.proofs.lemmas.Map.Lookups.{exact_bytes}
use Rattle.ident_core.specs.declared.identity.Identity.{Identity}
use Rattle.ident_core.specs.Order.{octets_cmp, serial_cmp, identity_cmp, is_same}
use Rattle.ledger_core.specs.LedgerFields.{ids}
use Rattle.ledger_core.specs.declared.fields.LedgerItem.{LedgerItem}
use Rattle.ident_core.specs.Among.{Among}
use Rattle.ident_core.specs.Sets.{has_key}
use Rattle.ident_core.proofs.Canonical.{Among-from_Contains, Contains-from_Among, sorted_cons}
use Rattle.ident_core.proofs.Elements.{Among-from_place, Among-filter, Among-in_filter, Among-map, Among-in_map, bool_same, map_agree, some_item}
use Rattle.ident_core.proofs.Keyed as keyed
use Rattle.ident_core.proofs.Keys.{below_later, has_none, not_greater, not_has}
use Rattle.ident_core.proofs.Order.{lt_less, no_gt, not_below_itself, sorted_head, sorted_tail}
use Rattle.ident_core.proofs.Runs.{above, other_issuer}
use Rattle.ident_core.proofs.Sets.{bytes_same, bytes_refl, then_equal, Among-from_has_key, has_key-from_Among}
use Rattle.universe_core.specs.declared.listing.Listed.{Listed}
use Rattle.universe_core.specs.declared.marking.Run.{Run}
use Rattle.universe_core.specs.Groups.{members_of}
use Rattle.universe_core.specs.Marking.{IsRunOf, IsWindow, listed_in, serials_of}
use Rattle.universe_core.proofs.Ascending.{cut_ascends, none_ascend}
use Rattle.universe_core.proofs.Cutting.{is_below, earlier, keyed_partitioned, place_cases, rest_is}
use Rattle.universe_core.proofs.Revoking.{map_map}
use Rattle.universe_core.proofs.Searching.{bare_item}

-- ---- a search by serial

serial_total : IsTotalOrder serial_cmp
serial_total = then_total (on_total (λ (s : List ℕ). length s) nat_cmp_total) nat_list_cmp_total

serial_exact : (a b : List ℕ) → serial_cmp a b ≡ Equal → a ≡ b
serial_exact a b h = exact_bytes a b (then_equal (nat_cmp (length a) (length b)) (octets_cmp a b) h).1

abbrev bare_serial : List ℕ → LedgerItem
bare_serial s = bare_item (record { issuer = []; serial = s })

pub found : (ms : List LedgerItem) (x : List ℕ) (i : ℕ) → i < length ms → ((d : LedgerItem) → serial_cmp (get_or ms i d).id.serial x ≡ Equal) → slice_get (serials_of ms) i ≡ Some x
found = keyed.found serial_cmp serial_total serial_exact (λ (m : LedgerItem). m.id.serial) bare_serial (λ x. refl)

pub missed : (ms : List LedgerItem) (x : List ℕ) (i : ℕ) → IsStrictlySortedBy serial_cmp (serials_of ms) → IsBinarySearchResult (λ (m : LedgerItem). serial_cmp m.id.serial x) ms (Err i)
    → has_key (serials_of ms) x ≡ false
missed ms x i s h =
    false_from_ne_true (has_key (serials_of ms) x)
    (λ t. keyed.missed serial_cmp serial_total serial_exact (λ (m : LedgerItem). m.id.serial) bare_serial (λ y. refl) ms x i s h (Among-from_has_key (serials_of ms) x t))

-- ---- the run

abbrev pub is_upto : List ℕ → Identity → Bool
is_upto k x = not (is_lt (octets_cmp k x.issuer))

upto_earlier : (k : List ℕ) (x y : Identity) → identity_cmp x y ≡ Less → is_upto k y ≡ true → is_upto k x ≡ true
upto_earlier k x y l h = by (is_lt (octets_cmp k x.issuer)) refl
  where
    by : (b : Bool) → is_lt (octets_cmp k x.issuer) ≡ b → not b ≡ true
    by false e = refl
    by true e = absurd (true≢false (sym h ∙ ap (λ o. not (is_lt o)) (above k x y (lt_less (octets_cmp k x.issuer) e) l)))

pub start_partitioned : (k : List ℕ) (ms : List LedgerItem) → IsStrictlySortedBy identity_cmp (ids ms) → IsPartitionedBy (λ (m : LedgerItem). is_lt (octets_cmp m.id.issuer k)) ms
start_partitioned k = keyed_partitioned (λ (m : LedgerItem). m.id) (is_below k) (earlier k)

pub end_partitioned : (k : List ℕ) (ms : List LedgerItem) (start : ℕ) → IsStrictlySortedBy identity_cmp (ids ms)
    → IsPartitionedBy (λ (m : LedgerItem). not (is_lt (octets_cmp k m.id.issuer))) (take (length ms - start) (drop start ms))
end_partitioned k ms start s =
    keyed_partitioned (λ (m : LedgerItem). m.id) (is_upto k) (upto_earlier k) (take (length ms - start) (drop start ms))
    (subst (λ xs. IsStrictlySortedBy identity_cmp xs) (drop-map (λ (m : LedgerItem). m.id) start ms ∙ sym (ap ids (rest_is ms start))) (cut_ascends identity_cmp start (ids ms) s).1)

below_other : (k a : List ℕ) → is_lt (octets_cmp a k) ≡ true → bytes_eq k a ≡ false
below_other k a h =
    false_from_ne_true (bytes_eq k a) (λ q. not_below_itself octets_cmp nat_list_cmp_total a k (lt_less (octets_cmp a k) h) (sym (bytes_same k a q)))

beyond_other : (k a : List ℕ) → not (is_lt (octets_cmp k a)) ≡ false → bytes_eq k a ≡ false
beyond_other k a h = by (octets_cmp k a) refl h
  where
    by : (o : Ordering) → octets_cmp k a ≡ o → not (is_lt o) ≡ false → bytes_eq k a ≡ false
    by Less e g = other_issuer k a e
    by Equal e g = absurd (true≢false g)
    by Greater e g = absurd (true≢false g)

between_same : (k a : List ℕ) → is_lt (octets_cmp a k) ≡ false → not (is_lt (octets_cmp k a)) ≡ true → bytes_eq k a ≡ true
between_same k a h g = by (octets_cmp k a) refl g (no_gt a k h)
  where
    by : (o : Ordering) → octets_cmp k a ≡ o → not (is_lt o) ≡ true → is_gt o ≡ false → bytes_eq k a ≡ true
    by Less e p q = absurd (true≢false (sym p))
    by Equal e p q = subst (λ z. bytes_eq k z ≡ true) (exact_bytes k a e) (bytes_refl k)
    by Greater e p q = absurd (true≢false q)

one_more : (k : List ℕ) (x : Identity) (xs ys : List Identity) → bytes_eq k x.issuer ≡ true → ys ≡ members_of k xs → x ∷ ys ≡ members_of k (x ∷ xs)
one_more k x xs ys b e = ap (λ z. x ∷ z) e ∙ ap (λ c. cond c (x ∷ members_of k xs) (members_of k xs)) (sym b)

no_more : (k : List ℕ) (x : Identity) (xs ys : List Identity) → bytes_eq k x.issuer ≡ false → ys ≡ members_of k xs → ys ≡ members_of k (x ∷ xs)
no_more k x xs ys b e = e ∙ ap (λ c. cond c (x ∷ members_of k xs) (members_of k xs)) (sym b)

abbrev Starts : List ℕ → List LedgerItem → ℕ → Type 0
Starts k = IsPartitionPoint (λ (m : LedgerItem). is_lt (octets_cmp m.id.issuer k) ≡ true) (λ (m : LedgerItem). is_lt (octets_cmp m.id.issuer k) ≡ false)

abbrev Ends : List ℕ → List LedgerItem → ℕ → Type 0
Ends k = IsPartitionPoint (λ (m : LedgerItem). not (is_lt (octets_cmp k m.id.issuer)) ≡ true) (λ (m : LedgerItem). not (is_lt (octets_cmp k m.id.issuer)) ≡ false)

own_first : (k : List ℕ) (ms : List LedgerItem) (n : ℕ) → ((i : ℕ) (d : LedgerItem) → 0 ≤ i → i < length ms → is_lt (octets_cmp (get_or ms i d).id.issuer k) ≡ false)
    → n ≤ length ms → Ends k ms n → take n (ids ms) ≡ members_of k (ids ms)
own_first k [] zero f le e = refl
own_first k [] (suc n) f le e = absurd (omega arith)
own_first k (m ∷ ms) zero f le e =
    no_more k m.id (ids ms) [] (beyond_other k m.id.issuer (e.1 0 m (omega arith) (omega arith)))
    (own_first k ms zero (λ i d l h. f (suc i) d (omega arith) (omega arith)) (omega arith)
    (λ i d l h. absurd (omega arith), λ i d l h. e.1 (suc i) d (omega arith) (omega arith)))
own_first k (m ∷ ms) (suc n) f le e =
    one_more k m.id (ids ms) (take n (ids ms)) (between_same k m.id.issuer (f 0 m (omega arith) (omega arith)) (e.0 0 m (omega arith) (omega arith)))
    (own_first k ms n (λ i d l h. f (suc i) d (omega arith) (omega arith)) (omega arith)
    (λ i d l h. e.0 (suc i) d (omega arith) (omega arith), λ i d l h. e.1 (suc i) d (omega arith) (omega arith)))

own_at : (k : List ℕ) (ms : List LedgerItem) (start n : ℕ) → start ≤ length ms → Starts k ms start → n ≤ length (drop start ms) → Ends k (drop start ms) n
    → take n (drop start (ids ms)) ≡ members_of k (ids ms)
own_at k ms zero n a s b e = own_first k ms n s.1 b e
own_at k [] (suc start) n a s b e = absurd (omega arith)
own_at k (m ∷ ms) (suc start) n a s b e =
    no_more k m.id (ids ms) (take n (drop start (ids ms))) (below_other k m.id.issuer (s.0 0 m (omega arith) (omega arith)))
    (own_at k ms start n (omega arith) (λ i d l h. s.0 (suc i) d (omega arith) (omega arith), λ i d l h. s.1 (suc i) d (omega arith) (omega arith)) b e)

pub run_is : (k : List ℕ) (ms : List LedgerItem) (start n : ℕ) → start ≤ length ms → Starts k ms start → n ≤ length (take (length ms - start) (drop start ms))
    → Ends k (take (length ms - start) (drop start ms)) n → IsRunOf k ms (record { start = start; end = start + n })
run_is k ms start n a s b e =
    let r = rest_is ms start in
    let c : n ≤ length (drop start ms) = subst (λ xs. n ≤ length xs) r b in
    let m : (start + n) - start ≡ n = omega arith in
    record {
      order = omega arith;
      within = omega (arith, length-drop start ms, c, a);
      own = ap (λ j. take j (drop start (ids ms))) m ∙ own_at k ms start n a s c (subst (λ xs. Ends k xs n) r e);
    }

-- ---- the members of the run

abbrev pub cut_run : List LedgerItem → Run → List LedgerItem
cut_run ms run = take (run.end - run.start) (drop run.start ms)

pub ids_run : (k : List ℕ) (ms : List LedgerItem) (run : Run) → IsRunOf k ms run → ids (cut_run ms run) ≡ members_of k (ids ms)
ids_run k ms run r =
    sym (take-map (λ (m : LedgerItem). m.id) (run.end - run.start) (drop run.start ms)) ∙ ap (take (run.end - run.start)) (sym (drop-map (λ (m : LedgerItem). m.id) run.start ms)) ∙ r.own

-- and the flags beside them
pub flags_run : (h : Identity → Bool) (k : List ℕ) (ms : List LedgerItem) (run : Run) (flags : List Bool) → IsRunOf k ms run → flags ≡ map h (ids ms)
    → take (run.end - run.start) (drop run.start flags) ≡ map h (members_of k (ids ms))
flags_run h k ms run flags r f =
    ap (λ z. take (run.end - run.start) (drop run.start z)) f ∙ ap (take (run.end - run.start)) (drop-map h run.start (ids ms))
    ∙ take-map h (run.end - run.start) (drop run.start (ids ms)) ∙ ap (map h) r.own

serials_run : (k : List ℕ) (ms : List LedgerItem) (run : Run) → IsRunOf k ms run → serials_of (cut_run ms run) ≡ map (λ x. x.serial) (members_of k (ids ms))
serials_run k ms run r =
    sym (map_map (λ (m : LedgerItem). m.id) (λ (x : Identity). x.serial) (cut_run ms run)) ∙ ap (map (λ (x : Identity). x.serial)) (ids_run k ms run r)

serial_less : (x y : Identity) → x.issuer ≡ y.issuer → identity_cmp x y ≡ Less → serial_cmp x.serial y.serial ≡ Less
serial_less x y e l =
    let t : octets_cmp x.issuer y.issuer ≡ Equal = ap (octets_cmp x.issuer) (sym e) ∙ tied_itself nat_list_cmp_total x.issuer in
    sym (ap (λ o. ordering_then o (serial_cmp x.serial y.serial)) t) ∙ l

own_sorted : (k : List ℕ) (xs : List Identity) → IsStrictlySortedBy identity_cmp xs → IsStrictlySortedBy serial_cmp (map (λ x. x.serial) (members_of k xs))
own_sorted k [] s = none_ascend serial_cmp
own_sorted k (x ∷ xs) s = by (own_sorted k xs (sorted_tail identity_cmp x xs s)) (bytes_eq k x.issuer) refl
  where
    below : bytes_eq k x.issuer ≡ true → (z : List ℕ) → Among (map (λ (y : Identity). y.serial) (members_of k xs)) z → serial_cmp x.serial z ≡ Less
    below b z a =
        let w = Among-map (λ (y : Identity). y.serial) (members_of k xs) z a in
        let f = Among-filter (λ (y : Identity). bytes_eq k y.issuer) xs w.0 w.1 in
        subst (λ q. serial_cmp x.serial q ≡ Less) w.2
        (serial_less x w.0 (sym (bytes_same k x.issuer b) ∙ bytes_same k w.0.issuer f.1) (sorted_head identity_cmp x xs w.0 s f.0))

    by : IsStrictlySortedBy serial_cmp (map (λ (y : Identity). y.serial) (members_of k xs))
        → (b : Bool) → bytes_eq k x.issuer ≡ b → IsStrictlySortedBy serial_cmp (map (λ (y : Identity). y.serial) (cond b (x ∷ members_of k xs) (members_of k xs)))
    by rest true e = sorted_cons serial_cmp x.serial (map (λ (y : Identity). y.serial) (members_of k xs)) (below e) rest
    by rest false e = rest

pub run_sorted : (k : List ℕ) (ms : List LedgerItem) (run : Run) → IsStrictlySortedBy identity_cmp (ids ms) → IsRunOf k ms run → IsStrictlySortedBy serial_cmp (serials_of (cut_run ms run))
run_sorted k ms run s r = subst (λ xs. IsStrictlySortedBy serial_cmp xs) (sym (serials_run k ms run r)) (own_sorted k (ids ms) s)

at_take : {A : Type 0} (xs : List A) (n i : ℕ) (x : A) → slice_get (take n xs) i ≡ Some x → slice_get xs i ≡ Some x
at_take xs zero i x h = absurd cc
at_take [] (suc n) i x h = absurd cc
at_take (y ∷ xs) (suc n) zero x h = h
at_take (y ∷ xs) (suc n) (suc i) x h = at_take xs n i x h

at_drop : {A : Type 0} (xs : List A) (n i : ℕ) (x : A) → slice_get (drop n xs) i ≡ Some x → slice_get xs (n + i) ≡ Some x
at_drop xs zero i x h = let e : 0 + i ≡ i = omega arith in ap (λ j. slice_get xs j) e ∙ h
at_drop [] (suc n) i x h = absurd cc
at_drop (y ∷ xs) (suc n) i x h = let e : suc n + i ≡ suc (n + i) = omega arith in ap (λ j. slice_get (y ∷ xs) j) e ∙ at_drop xs n i x h

at_map : (xs : List Identity) (i : ℕ) (z : List ℕ) → slice_get (map (λ x. x.serial) xs) i ≡ Some z → (x : Identity) × (slice_get xs i ≡ Some x) × (x.serial ≡ z)
at_map [] i z h = absurd cc
at_map (x ∷ xs) zero z h = (x, refl, some_item x.serial z h)
at_map (x ∷ xs) (suc i) z h = at_map xs i z h

abbrev pub of_issuer : List ℕ → List ℕ → Identity
of_issuer k z = record { issuer = k; serial = z }

pub run_place : (k : List ℕ) (ms : List LedgerItem) (run : Run) (i : ℕ) (z : List ℕ) → IsRunOf k ms run → slice_get (serials_of (cut_run ms run)) i ≡ Some z
    → slice_get (ids ms) (run.start + i) ≡ Some (of_issuer k z)
run_place k ms run i z r h =
    let q = at_map (members_of k (ids ms)) i z (subst (λ xs. slice_get xs i ≡ Some z) (serials_run k ms run r) h) in
    let f = Among-filter (λ (y : Identity). bytes_eq k y.issuer) (ids ms) q.0 (Among-from_place (members_of k (ids ms)) i q.0 q.1) in
    let e : q.0.issuer ≡ k = sym (bytes_same k q.0.issuer f.1) in
    let t = subst (λ xs. slice_get xs i ≡ Some q.0) (sym r.own) q.1 in
    at_drop (ids ms) run.start i q.0 (at_take (drop run.start (ids ms)) (run.end - run.start) i q.0 t)
    ∙ (λ j. Some (of_issuer (e j) (q.2 j)))

pub run_none : (k : List ℕ) (ms : List LedgerItem) (run : Run) (z : List ℕ) → IsRunOf k ms run → has_key (serials_of (cut_run ms run)) z ≡ false
    → (x : Identity) → Among (ids ms) x → is_same x (of_issuer k z) ≡ false
run_none k ms run z r h =
    not_has (ids ms) (of_issuer k z) (has_none (ids ms) (of_issuer k z) (λ a.
    let f = Among-in_filter (λ (y : Identity). bytes_eq k y.issuer) (ids ms) (of_issuer k z) a (bytes_refl k) in
    let m = Among-in_map (λ (y : Identity). y.serial) (members_of k (ids ms)) (of_issuer k z) f in
    true≢false (sym (has_key-from_Among (serials_of (cut_run ms run)) z (subst (λ xs. Among xs z) (sym (serials_run k ms run r)) m)) ∙ h)))

-- ---- a window of the run

serials_cut : (ms : List LedgerItem) (w : Run) → serials_of (cut_run ms w) ≡ take (w.end - w.start) (drop w.start (serials_of ms))
serials_cut ms w =
    sym (take-map (λ (m : LedgerItem). m.id.serial) (w.end - w.start) (drop w.start ms)) ∙ ap (take (w.end - w.start)) (sym (drop-map (λ (m : LedgerItem). m.id.serial) w.start ms))

pub cut_sorted : (ms : List LedgerItem) (w : Run) → IsStrictlySortedBy serial_cmp (serials_of ms) → IsStrictlySortedBy serial_cmp (serials_of (cut_run ms w))
cut_sorted ms w s =
    subst (λ xs. IsStrictlySortedBy serial_cmp xs) (sym (serials_cut ms w)) (cut_ascends serial_cmp (w.end - w.start) (drop w.start (serials_of ms)) (cut_ascends serial_cmp w.start (serials_of ms) s).1).0

pub cut_place : (ms : List LedgerItem) (w : Run) (i : ℕ) (z : List ℕ) → slice_get (serials_of (cut_run ms w)) i ≡ Some z → slice_get (serials_of ms) (w.start + i) ≡ Some z
cut_place ms w i z h =
    at_drop (serials_of ms) w.start i z (at_take (drop w.start (serials_of ms)) (w.end - w.start) i z (subst (λ xs. slice_get xs i ≡ Some z) (serials_cut ms w) h))

among_cut : (xs : List (List ℕ)) (start n k : ℕ) (z : List ℕ) → start ≤ k → k < start + n → k < length xs → get_or xs k z ≡ z → Among (take n (drop start xs)) z
among_cut [] start n k z a b c e = absurd (omega arith)
among_cut (x ∷ xs) zero zero k z a b c e = absurd (omega arith)
among_cut (x ∷ xs) zero (suc n) zero z a b c e = inl e
among_cut (x ∷ xs) zero (suc n) (suc k) z a b c e = inr (among_cut xs zero n k z (omega arith) (omega arith) (omega arith) e)
among_cut (x ∷ xs) (suc start) n zero z a b c e = absurd (omega arith)
among_cut (x ∷ xs) (suc start) n (suc k) z a b c e = among_cut xs start n k z (omega arith) (omega arith) (omega arith) e

not_itself : (x y : List ℕ) → serial_cmp x y ≡ Less → x ≡ y → ⊥
not_itself x y l e = not_below_itself serial_cmp serial_total x y l e

-- a place up to one whose serial is below z isn't z's
not_upto : (xs : List (List ℕ)) (z : List ℕ) (k i : ℕ) → IsStrictlySortedBy serial_cmp xs → i < length xs → serial_cmp (get_or xs i z) z ≡ Less → get_or xs k z ≡ z → k ≤ i → ⊥
not_upto xs z k i s b l e le =
    ⊎_elim (λ (q : k ≡ i). not_itself (get_or xs i z) z l (sym (ap (λ j. get_or xs j z) q) ∙ e))
    (λ (q : k < i). not_itself (get_or xs k z) z (serial_total.trans (get_or xs k z) (get_or xs i z) z (below_later serial_cmp serial_total serial_exact xs s k i z q b) l) e)
    (place_cases k i le)

-- nor is one from a place on whose serial is above z
not_from : (xs : List (List ℕ)) (z : List ℕ) (k i : ℕ) → IsStrictlySortedBy serial_cmp xs → k < length xs → serial_cmp (get_or xs i z) z ≡ Greater → get_or xs k z ≡ z → i ≤ k → ⊥
not_from xs z k i s b g e le =
    ⊎_elim (λ (q : i ≡ k). not_greater _ (ap (λ y. serial_cmp y z) (ap (λ j. get_or xs j z) q ∙ e) ∙ tied_itself serial_total z) g)
    (λ (q : i < k). less_greater _ (subst (λ y. serial_cmp (get_or xs i z) y ≡ Less) e (below_later serial_cmp serial_total serial_exact xs s i k z q b)) g)
    (place_cases i k le)
  where
    less_greater : (o : Ordering) → o ≡ Less → o ≡ Greater → ⊥
    less_greater o l h = let bad : Less ≡ Greater = sym l ∙ h in cc

in_window : (xs : List (List ℕ)) (z : List ℕ) (start n : ℕ) → IsStrictlySortedBy serial_cmp xs → (0 < start → serial_cmp (get_or xs (start - 1) z) z ≡ Less)
    → serial_cmp (get_or xs (start + n) z) z ≡ Greater → start + n < length xs → Among xs z → Among (take n (drop start xs)) z
in_window xs z start n s a g b h =
    let k = Contains-from_Among xs z h in
    ⊎_elim (λ (q : k.0 < start). absurd (not_upto xs z k.0 (start - 1) s (omega arith) (a (omega arith)) k.2 (omega arith)))
    (λ (q : start ≤ k.0). ⊎_elim (λ (r : k.0 < start + n). among_cut xs start n k.0 z q r k.1 k.2)
    (λ (r : start + n ≤ k.0). absurd (not_from xs z k.0 (start + n) s k.1 g k.2 r))
    (cases_lt k.0 (start + n)))
    (cases_lt k.0 start)

serial_at : (ms : List LedgerItem) (i : ℕ) (z : List ℕ) → get_or (serials_of ms) i z ≡ (get_or ms i (bare_serial z)).id.serial
serial_at ms i z = keyed.get_map (λ (m : LedgerItem). m.id.serial) ms i (bare_serial z)

pub near_window : (ms : List LedgerItem) (z : List ℕ) (start end : ℕ) → IsStrictlySortedBy serial_cmp (serials_of ms) → start ≤ end → end < length ms
    → (0 < start → (d : LedgerItem) → serial_cmp (get_or ms (start - 1) d).id.serial z ≡ Less) → ((d : LedgerItem) → serial_cmp (get_or ms end d).id.serial z ≡ Greater)
    → IsWindow z ms (record { start = start; end = end })
near_window ms z start end s o b above below =
    let n = length-map ms (λ (m : LedgerItem). m.id.serial) in
    let e : start + (end - start) ≡ end = omega arith in
    let g : serial_cmp (get_or (serials_of ms) (start + (end - start)) z) z ≡ Greater =
    ap (λ j. serial_cmp (get_or (serials_of ms) j z) z) e ∙ ap (λ y. serial_cmp y z) (serial_at ms end z) ∙ below (bare_serial z) in
    record {
      order = o;
      within = omega arith;
      none = λ h. false_from_ne_true (has_key (serials_of ms) z) (λ t.
          true≢false (sym (has_key-from_Among (serials_of (cut_run ms (record { start = start; end = end }))) z
          (subst (λ xs. Among xs z) (sym (serials_cut ms (record { start = start; end = end })))
          (in_window (serials_of ms) z start (end - start) s (λ p. ap (λ y. serial_cmp y z) (serial_at ms (start - 1) z) ∙ above p (bare_serial z)) g (omega arith)
          (Among-from_has_key (serials_of ms) z t)))) ∙ h));
    }

-- where there are none of the issuer, no list of its marks any
no_own : (k : List ℕ) (ms : List LedgerItem) (run : Run) → IsRunOf k ms run → run.start ≡ run.end → members_of k (ids ms) ≡ []
no_own k ms run r e = let z : run.end - run.start ≡ 0 = omega arith in sym r.own ∙ ap (λ n. take n (drop run.start (ids ms))) z

pub none_marked : (p : Identity → Bool) (k : List ℕ) (ss : List (List ℕ)) (ms : List LedgerItem) (run : Run) → IsRunOf k ms run → run.start ≡ run.end
    → map p (ids ms) ≡ map (λ x. p x || (bytes_eq x.issuer k && has_key ss x.serial)) (ids ms)
none_marked p k ss ms run r e =
    map_agree p (λ (x : Identity). p x || (bytes_eq x.issuer k && has_key ss x.serial)) (ids ms) (λ x a.
    let b : bytes_eq x.issuer k ≡ false =
    false_from_ne_true (bytes_eq x.issuer k) (λ t.
    let u : bytes_eq k x.issuer ≡ true = subst (λ y. bytes_eq k y ≡ true) (sym (bytes_same x.issuer k t)) (bytes_refl k) in
    subst (λ xs. Among xs x) (no_own k ms run r e) (Among-in_filter (λ (y : Identity). bytes_eq k y.issuer) (ids ms) x a u)) in
    rw b (unmarked_is (p x)))
  where
    unmarked_is : (b : Bool) → b ≡ (b || false)
    unmarked_is true = refl
    unmarked_is false = refl

-- ---- listed serials

permuted : (old new : List Listed) → IsPermutation old new → (l : Listed) → Among old l → Among new l
permuted old new p l a = Among-from_Contains new l (Contains-permutation old new l p (Contains-from_Among old l a))

has_kept : (old new : List Listed) → IsPermutation old new → (x : List ℕ) → has_key (listed_in old) x ≡ true → has_key (listed_in new) x ≡ true
has_kept old new p x h =
    let w = Among-map (λ (l : Listed). l.serial.now) old x (Among-from_has_key (listed_in old) x h) in
    has_key-from_Among (listed_in new) x (subst (λ z. Among (listed_in new) z) w.2 (Among-in_map (λ (l : Listed). l.serial.now) new w.0 (permuted old new p w.0 w.1)))

pub same_listed : (old new : List Listed) → IsPermutation old new → (x : List ℕ) → has_key (listed_in new) x ≡ has_key (listed_in old) x
same_listed old new p x =
    bool_same (has_key (listed_in new) x) (has_key (listed_in old) x) (has_kept new old (IsPermutation-sym old new p) x) (has_kept old new p x)
