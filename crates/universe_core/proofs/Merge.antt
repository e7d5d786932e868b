-- One step of the merge.
use Rattle.std.proofs.Common.{◌≡◌, ℕ, suc, ◌+◌, ◌<◌, ◌≤◌, ◌⊎◌, inl, inr, ⊎_elim, List, [], ◌∷◌, ◌++◌, map, length, take, drop, Bool, true, false, cond, Option}
use Rattle.std.proofs.Common.{Some, None, refl, sym, ap, ◌∙◌, subst, arith, append_assoc, get_or, drop-cons}
use Rattle.std.specs.List.{AllByRecursion, count_by, filter, filter_map, find, cons_option}
use Rattle.std.specs.List.Sorted.{IsStrictlySortedBy}
use Rattle.std.specs.Option.{option_map}
use Rattle.std.specs.declared.cmp.Ordering.{Ordering}
use Rattle.std.specs.declared.cmp.Ordering.TheVariants.{Less, Equal, Greater}
use Rattle.std.specs.Ordering.{is_lt, is_gt, ordering_reverse}
use Rattle.std.proofs.lemmas.Cmp.{tied_itself}
use Rattle.std.proofs.lemmas.Bool.{true≢false}
use Rattle.std.proofs.lemmas.List.{append-nil, drop-map}
use Rattle.std.proofs.lemmas.List.Sums.{sum_by-cons, count_by-le-length}
use Rattle.ident_core.specs.Among.{Among}
use Rattle.ident_core.specs.declared.identity.Identity.{Identity}
use Rattle.ident_core.specs.Order.{is_same, identity_cmp}
use Rattle.ident_core.specs.Sets.{identity_set, set_with}
use Rattle.ledger_core.specs.declared.fields.LedgerItem.{LedgerItem}
use Rattle.ident_core.proofs.Sets.{same_is, same_refl, identity_exact, identity_total, identities_are, Among-union, Among-in_union}
use Rattle.ident_core.proofs.Order.{sorted_unique, sorted_head, sorted_tail}
use Rattle.universe_core.specs.Jobs.{Entry}
use Rattle.universe_core.specs.Merging.{IsRising, lower, least_of, run_of, after_run, first_of, after_first, count_told, all_ids, merged}
use Rattle.ident_core.proofs.Canonical.{sorted_cons, all_from}
use Rattle.ident_core.proofs.Keys.{same_other, less_other}

-- ---- the union without its least

pub union_step : (x : Identity) (a a' b b' : List Identity)
    → ((z : Identity) → Among a z → (x ≡ z) ⊎ Among a' z) → ((z : Identity) → Among b z → (x ≡ z) ⊎ Among b' z)
    → ((z : Identity) → Among a' z → Among a z) → ((z : Identity) → Among b' z → Among b z)
    → Among a x ⊎ Among b x
    → ((z : Identity) → Among a' z → identity_cmp x z ≡ Less) → ((z : Identity) → Among b' z → identity_cmp x z ≡ Less)
    → identity_set (a ++ b) ≡ x ∷ identity_set (a' ++ b')
union_step x a a' b b' fa fb ga gb has la lb =
    sorted_unique identity_cmp identity_total (identity_set (a ++ b)) (x ∷ identity_set (a' ++ b')) (identities_are (a ++ b)).ascends
    (sorted_cons identity_cmp x (identity_set (a' ++ b')) (λ z m. ⊎_elim (λ p. la z p) (λ q. lb z q) (Among-union a' b' z m)) (identities_are (a' ++ b')).ascends)
    (λ z m. ⊎_elim (λ p. ⊎_elim (λ e. inl e) (λ r. inr (Among-in_union a' b' z (inl r))) (fa z p))
    (λ q. ⊎_elim (λ e. inl e) (λ r. inr (Among-in_union a' b' z (inr r))) (fb z q)) (Among-union a b z m))
    (λ z m. Among-in_union a b z (⊎_elim (λ (e : x ≡ z). subst (λ w. Among a w ⊎ Among b w) e has) (λ r. ⊎_elim (λ p. inl (ga z p)) (λ q. inr (gb z q)) (Among-union a' b' z r)) m))

-- ---- orders

not_equal : (x y : Identity) → is_same x y ≡ false → identity_cmp x y ≡ Equal → ⊥
not_equal x y n e = absurd (true≢false (sym (subst (λ z. is_same x z ≡ true) (identity_exact x y e) (same_refl x)) ∙ n))

is_less : (o : Ordering) → is_gt o ≡ false → (o ≡ Equal → ⊥) → o ≡ Less
is_less Less g n = refl
is_less Equal g n = absurd (n refl)
is_less Greater g n = absurd (true≢false g)

through : (x y z : Identity) (o : Ordering) → identity_cmp x y ≡ Less → identity_cmp y z ≡ o → is_gt o ≡ false → identity_cmp x z ≡ Less
through x y z Less l e g = identity_total.trans x y z l e
through x y z Equal l e g = subst (λ w. identity_cmp x w ≡ Less) (identity_exact y z e) l
through x y z Greater l e g = absurd (true≢false g)

weaken : {A : Type 0} (P Q : A → Type 0) → ((x : A) → P x → Q x) → (xs : List A) → AllByRecursion P xs → AllByRecursion Q xs
weaken P Q f [] h = tt
weaken P Q f (x ∷ xs) h = (f x h.0, weaken P Q f xs h.1)

abbrev pub NotAbove : Identity → List Entry → Type 0
NotAbove x es = AllByRecursion (λ (d : Entry). is_gt (identity_cmp x d.id) ≡ false) es

-- ---- the run

abbrev After : Identity → List Entry → Type 0
After x es = AllByRecursion (λ (d : Entry). identity_cmp x d.id ≡ Less) es

after_step : (x : Identity) (e : Entry) (es : List Entry) (b : Bool) → is_same x e.id ≡ b → NotAbove x (e ∷ es) → IsRising (e ∷ es)
    → After x (after_run x es) → After x (cond b (after_run x es) (e ∷ es))
after_step x e es true i n r next = next
after_step x e es false i n r next =
    let l : identity_cmp x e.id ≡ Less = is_less (identity_cmp x e.id) n.0 (not_equal x e.id i) in (
      l,
      weaken (λ (d : Entry). is_gt (identity_cmp e.id d.id) ≡ false) (λ (d : Entry). identity_cmp x d.id ≡ Less)
          (λ d g. through x e.id d.id (identity_cmp e.id d.id) l refl g) es r.0,
    )

pub after_is : (x : Identity) (es : List Entry) → NotAbove x es → IsRising es → After x (after_run x es)
after_is x [] n r = tt
after_is x (e ∷ es) n r = after_step x e es (is_same x e.id) refl n r (after_is x es n.1 r.1)

-- an identity below all of them is none of theirs
none_same : (x : Identity) (es : List Entry) → After x es → filter (λ (e : Entry). is_same x e.id) es ≡ []
none_same x [] h = refl
none_same x (e ∷ es) h = ap (λ b. cond b (e ∷ filter (λ (d : Entry). is_same x d.id) es) (filter (λ (d : Entry). is_same x d.id) es))
    (same_other x e.id (less_other x e.id h.0)) ∙ none_same x es h.1

run_step : (x : Identity) (e : Entry) (es : List Entry) (b : Bool) → is_same x e.id ≡ b → After x (cond b (after_run x es) (e ∷ es))
    → (After x (after_run x es) → filter (λ (d : Entry). is_same x d.id) es ≡ run_of x es)
    → cond b (e ∷ filter (λ (d : Entry). is_same x d.id) es) (filter (λ (d : Entry). is_same x d.id) es) ≡ cond b (e ∷ run_of x es) []
run_step x e es true i h next = ap (λ (z : List Entry). e ∷ z) (next h)
run_step x e es false i h next = none_same x es h.1

-- the run has all entries of the identity
pub run_is : (x : Identity) (es : List Entry) → After x (after_run x es) → filter (λ (e : Entry). is_same x e.id) es ≡ run_of x es
run_is x [] h = refl
run_is x (e ∷ es) h = run_step x e es (is_same x e.id) refl h (run_is x es)

other_step : (x y : Identity) (e : Entry) (es : List Entry) (b : Bool) → is_same x e.id ≡ b → (x ≡ y → ⊥)
    → filter (λ (d : Entry). is_same y d.id) es ≡ filter (λ (d : Entry). is_same y d.id) (after_run x es)
    → filter (λ (d : Entry). is_same y d.id) (e ∷ es) ≡ filter (λ (d : Entry). is_same y d.id) (cond b (after_run x es) (e ∷ es))
other_step x y e es false i n next = refl
other_step x y e es true i n next =
    ap (λ b. cond b (e ∷ filter (λ (d : Entry). is_same y d.id) es) (filter (λ (d : Entry). is_same y d.id) es)) (same_other y e.id (λ q. n (same_is x e.id i ∙ sym q))) ∙ next

-- other identities have their entries behind it
pub others_behind : (x y : Identity) (es : List Entry) → (x ≡ y → ⊥) → filter (λ (e : Entry). is_same y e.id) es ≡ filter (λ (e : Entry). is_same y e.id) (after_run x es)
others_behind x y [] n = refl
others_behind x y (e ∷ es) n = other_step x y e es (is_same x e.id) refl n (others_behind x y es n)

pub rising_after : (x : Identity) (es : List Entry) → IsRising es → IsRising (after_run x es)
rising_after x [] r = tt
rising_after x (e ∷ es) r = elim (is_same x e.id) as (λ b. IsRising (cond b (after_run x es) (e ∷ es))) [ true ↦ rising_after x es r.1 | false ↦ r ]

cases_step : (x : Identity) (e : Entry) (es : List Entry) (z : Identity) (b : Bool) → is_same x e.id ≡ b
    → (Among (map (λ (d : Entry). d.id) es) z → (x ≡ z) ⊎ Among (map (λ (d : Entry). d.id) (after_run x es)) z)
    → Among (map (λ (d : Entry). d.id) (e ∷ es)) z → (x ≡ z) ⊎ Among (map (λ (d : Entry). d.id) (cond b (after_run x es) (e ∷ es))) z
cases_step x e es z false i next m = inr m
cases_step x e es z true i next (inl h) = inl (same_is x e.id i ∙ h)
cases_step x e es z true i next (inr m) = next m

ids_cases : (x : Identity) (es : List Entry) (z : Identity) → Among (map (λ (e : Entry). e.id) es) z → (x ≡ z) ⊎ Among (map (λ (e : Entry). e.id) (after_run x es)) z
ids_cases x [] z a = absurd a
ids_cases x (e ∷ es) z a = cases_step x e es z (is_same x e.id) refl (ids_cases x es z) a

back_step : (x : Identity) (e : Entry) (es : List Entry) (z : Identity) (b : Bool)
    → (Among (map (λ (d : Entry). d.id) (after_run x es)) z → Among (map (λ (d : Entry). d.id) es) z)
    → Among (map (λ (d : Entry). d.id) (cond b (after_run x es) (e ∷ es))) z → Among (map (λ (d : Entry). d.id) (e ∷ es)) z
back_step x e es z false next m = m
back_step x e es z true next m = inr (next m)

ids_back : (x : Identity) (es : List Entry) (z : Identity) → Among (map (λ (e : Entry). e.id) (after_run x es)) z → Among (map (λ (e : Entry). e.id) es) z
ids_back x [] z a = a
ids_back x (e ∷ es) z a = back_step x e es z (is_same x e.id) (ids_back x es z) a

after_ids : (x : Identity) (es : List Entry) (z : Identity) → After x es → Among (map (λ (e : Entry). e.id) es) z → identity_cmp x z ≡ Less
after_ids x [] z h a = absurd a
after_ids x (e ∷ es) z h (inl i) = subst (λ w. identity_cmp x w ≡ Less) i h.0
after_ids x (e ∷ es) z h (inr a) = after_ids x es z h.1 a

-- ---- the first item

abbrev pub item_ids : List LedgerItem → List Identity
item_ids items = map (λ (i : LedgerItem). i.id) items

abbrev pub NoneBelow : Identity → List Identity → Type 0
NoneBelow x ids = AllByRecursion (λ (z : Identity). is_gt (identity_cmp x z) ≡ false) ids

first_step : (x : Identity) (i : LedgerItem) (is : List LedgerItem) (b : Bool) → is_same x i.id ≡ b → is_gt (identity_cmp x i.id) ≡ false → IsStrictlySortedBy identity_cmp (i.id ∷ item_ids is)
    → (z : Identity) → Among (item_ids (cond b is (i ∷ is))) z → identity_cmp x z ≡ Less
first_step x i is true e g s z a = subst (λ w. identity_cmp w z ≡ Less) (sym (same_is x i.id e)) (sorted_head identity_cmp i.id (item_ids is) z s a)
first_step x i is false e g s z (inl h) = subst (λ w. identity_cmp x w ≡ Less) h (is_less (identity_cmp x i.id) g (not_equal x i.id e))
first_step x i is false e g s z (inr a) = identity_total.trans x i.id z (is_less (identity_cmp x i.id) g (not_equal x i.id e)) (sorted_head identity_cmp i.id (item_ids is) z s a)

first_less : (x : Identity) (is : List LedgerItem) → NoneBelow x (item_ids is) → IsStrictlySortedBy identity_cmp (item_ids is) → (z : Identity)
    → Among (item_ids (after_first x is)) z → identity_cmp x z ≡ Less
first_less x [] n s z a = absurd a
first_less x (i ∷ is) n s z a = first_step x i is (is_same x i.id) refl n.0 s z a

first_cases : (x : Identity) (is : List LedgerItem) (z : Identity) → Among (item_ids is) z → (x ≡ z) ⊎ Among (item_ids (after_first x is)) z
first_cases x [] z a = absurd a
first_cases x (i ∷ is) z a = split (is_same x i.id) refl a
  where
    split : (b : Bool) → is_same x i.id ≡ b → Among (item_ids (i ∷ is)) z → (x ≡ z) ⊎ Among (item_ids (cond b is (i ∷ is))) z
    split false e m = inr m
    split true e (inl h) = inl (same_is x i.id e ∙ h)
    split true e (inr m) = inr m

first_back : (x : Identity) (is : List LedgerItem) (z : Identity) → Among (item_ids (after_first x is)) z → Among (item_ids is) z
first_back x [] z a = a
first_back x (i ∷ is) z a = split (is_same x i.id) a
  where
    split : (b : Bool) → Among (item_ids (cond b is (i ∷ is))) z → Among (item_ids (i ∷ is)) z
    split false m = m
    split true m = inr m

pub first_sorted : (x : Identity) (is : List LedgerItem) → IsStrictlySortedBy identity_cmp (item_ids is) → IsStrictlySortedBy identity_cmp (item_ids (after_first x is))
first_sorted x [] s = s
first_sorted x (i ∷ is) s = elim (is_same x i.id) as (λ b. IsStrictlySortedBy identity_cmp (item_ids (cond b is (i ∷ is)))) [ true ↦ sorted_tail identity_cmp i.id (item_ids is) s | false ↦ s ]

none_found : (x : Identity) (is : List LedgerItem) → ((z : Identity) → Among (item_ids is) z → identity_cmp x z ≡ Less) → find (λ (i : LedgerItem). is_same x i.id) is ≡ None
none_found x [] f = refl
none_found x (i ∷ is) f =
    ap (λ b. cond b (Some i) (find (λ (j : LedgerItem). is_same x j.id) is)) (same_other x i.id (less_other x i.id (f i.id (inl refl)))) ∙ none_found x is (λ z a. f z (inr a))

found_step : (x : Identity) (i : LedgerItem) (is : List LedgerItem) (b : Bool) → ((z : Identity) → Among (item_ids (cond b is (i ∷ is))) z → identity_cmp x z ≡ Less)
    → cond b (Some i) (find (λ (j : LedgerItem). is_same x j.id) is) ≡ cond b (Some i) None
found_step x i is true f = refl
found_step x i is false f = none_found x is (λ z a. f z (inr a))

first_found : (x : Identity) (is : List LedgerItem) → ((z : Identity) → Among (item_ids (after_first x is)) z → identity_cmp x z ≡ Less) → find (λ (i : LedgerItem). is_same x i.id) is ≡ first_of x is
first_found x [] f = refl
first_found x (i ∷ is) f = found_step x i is (is_same x i.id) f

pass_step : (x y : Identity) (i : LedgerItem) (is : List LedgerItem) (b : Bool) → is_same x i.id ≡ b → (x ≡ y → ⊥)
    → find (λ (j : LedgerItem). is_same y j.id) (i ∷ is) ≡ find (λ (j : LedgerItem). is_same y j.id) (cond b is (i ∷ is))
pass_step x y i is false e n = refl
pass_step x y i is true e n = ap (λ b. cond b (Some i) (find (λ (j : LedgerItem). is_same y j.id) is)) (same_other y i.id (λ q. n (same_is x i.id e ∙ sym q)))

first_passed : (x y : Identity) (is : List LedgerItem) → (x ≡ y → ⊥) → find (λ (i : LedgerItem). is_same y i.id) is ≡ find (λ (i : LedgerItem). is_same y i.id) (after_first x is)
first_passed x y [] n = refl
first_passed x y (i ∷ is) n = pass_step x y i is (is_same x i.id) refl n

-- ---- the least

record IsLeast (x : Identity) (items : List LedgerItem) (entries : List Entry) : Type 0 where
  entries_not_below : NotAbove x entries
  items_not_below : NoneBelow x (item_ids items)
  among : Among (map (λ (e : Entry). e.id) entries) x ⊎ Among (item_ids items) x

self : (x : Identity) → is_gt (identity_cmp x x) ≡ false
self x = ap is_gt (tied_itself identity_total x)

less_gt : (x : Identity) (ids : List Identity) → ((z : Identity) → Among ids z → identity_cmp x z ≡ Less) → NoneBelow x ids
less_gt x ids f = all_from (λ (z : Identity). is_gt (identity_cmp x z) ≡ false) ids (λ z a. ap is_gt (f z a))

least_both : (o : Ordering) (i : LedgerItem) (is : List LedgerItem) (e : Entry) (es : List Entry) → identity_cmp i.id e.id ≡ o
    → IsStrictlySortedBy identity_cmp (i.id ∷ item_ids is) → IsRising (e ∷ es)
    → IsLeast (cond (is_lt o) i.id e.id) (i ∷ is) (e ∷ es)
least_both Less i is e es h s r = record {
  entries_not_below = (
    ap is_gt h,
    weaken (λ (d : Entry). is_gt (identity_cmp e.id d.id) ≡ false) (λ (d : Entry). is_gt (identity_cmp i.id d.id) ≡ false)
        (λ d g. ap is_gt (through i.id e.id d.id (identity_cmp e.id d.id) h refl g)) es r.0,
  );
  items_not_below = (self i.id, less_gt i.id (item_ids is) (λ z a. sorted_head identity_cmp i.id (item_ids is) z s a));
  among = inr (inl refl);
}
least_both Equal i is e es h s r =
    let q : i.id ≡ e.id = identity_exact i.id e.id h in record {
      entries_not_below = (self e.id, r.0);
      items_not_below = (
        subst (λ w. is_gt (identity_cmp w i.id) ≡ false) q (self i.id),
        less_gt e.id (item_ids is) (λ z a. subst (λ w. identity_cmp w z ≡ Less) q (sorted_head identity_cmp i.id (item_ids is) z s a)),
      );
      among = inl (inl refl);
    }
least_both Greater i is e es h s r =
    let l : identity_cmp e.id i.id ≡ Less = identity_total.antisymm e.id i.id ∙ ap ordering_reverse h in record {
      entries_not_below = (self e.id, r.0);
      items_not_below = (ap is_gt l, less_gt e.id (item_ids is) (λ z a. identity_total.trans e.id i.id z l (sorted_head identity_cmp i.id (item_ids is) z s a)));
      among = inl (inl refl);
    }

some_same : (x y : Identity) → ◌≡◌ {A = Option Identity} (Some x) (Some y) → x ≡ y
some_same x y h = cc

least_is : (x : Identity) (items : List LedgerItem) (entries : List Entry) → IsStrictlySortedBy identity_cmp (item_ids items) → IsRising entries
    → least_of items entries ≡ Some x → IsLeast x items entries
least_is x [] [] s r h = absurd cc
least_is x (i ∷ is) [] s r h = subst (λ w. IsLeast w (i ∷ is) []) (some_same i.id x h) (record {
  entries_not_below = tt;
  items_not_below = (self i.id, less_gt i.id (item_ids is) (λ z a. sorted_head identity_cmp i.id (item_ids is) z s a));
  among = inr (inl refl);
})
least_is x [] (e ∷ es) s r h = subst (λ w. IsLeast w [] (e ∷ es)) (some_same e.id x h) (record { entries_not_below = (self e.id, r.0); items_not_below = tt; among = inl (inl refl) })
least_is x (i ∷ is) (e ∷ es) s r h = subst (λ w. IsLeast w (i ∷ is) (e ∷ es)) (some_same (lower i.id e.id) x h) (least_both (identity_cmp i.id e.id) i is e es refl s r)

-- ---- the step

pub agree : {M : Type 0} (f g : Identity → Option M) (ys : List Identity) → ((y : Identity) → Among ys y → f y ≡ g y) → filter_map f ys ≡ filter_map g ys
agree f g [] h = refl
agree f g (y ∷ ys) h = rw (h y (inl refl), agree f g ys (λ z a. h z (inr a))) refl

pub merged_step : {M : Type 0} (judge : Identity → Option LedgerItem → List Entry → Option M) (x : Identity) (items : List LedgerItem) (entries : List Entry)
    → IsStrictlySortedBy identity_cmp (item_ids items) → IsRising entries → least_of items entries ≡ Some x
    → merged judge items entries ≡ cons_option (judge x (first_of x items) (run_of x entries)) (merged judge (after_first x items) (after_run x entries))
unfolding merged
merged_step {M} judge x items entries s r h =
    let l = least_is x items entries s r h in
    let behind = after_is x entries l.entries_not_below r in
    let above = first_less x items l.items_not_below s in
    let f : Identity → Option M = λ y. judge y (find (λ (i : LedgerItem). is_same y i.id) items) (filter (λ (e : Entry). is_same y e.id) entries) in
    let g : Identity → Option M = λ y. judge y (find (λ (i : LedgerItem). is_same y i.id) (after_first x items)) (filter (λ (e : Entry). is_same y e.id) (after_run x entries)) in
    let rest : List Identity = all_ids (after_first x items) (after_run x entries) in
    let ids : all_ids items entries ≡ x ∷ rest =
    union_step x (map (λ (e : Entry). e.id) entries) (map (λ (e : Entry). e.id) (after_run x entries)) (item_ids items) (item_ids (after_first x items))
    (ids_cases x entries) (first_cases x items) (ids_back x entries) (first_back x items) l.among (λ z a. after_ids x (after_run x entries) z behind a) above in
    let here : f x ≡ judge x (first_of x items) (run_of x entries) =
    ap (λ o. judge x o (filter (λ (e : Entry). is_same x e.id) entries)) (first_found x items above) ∙ ap (judge x (first_of x items)) (run_is x entries behind) in
    let there : filter_map f rest ≡ filter_map g rest =
    agree f g rest (λ y a.
    let n : (x ≡ y) → ⊥ = less_other x y (⊎_elim (λ p. after_ids x (after_run x entries) y behind p) (λ q. above y q)
    (Among-union (map (λ (e : Entry). e.id) (after_run x entries)) (item_ids (after_first x items)) y a)) in
    ap (λ o. judge y o (filter (λ (e : Entry). is_same y e.id) entries)) (first_passed x y items n) ∙ ap
    (judge y (find (λ (i : LedgerItem). is_same y i.id) (after_first x items))) (others_behind x y entries n)) in
    ap (filter_map f) ids ∙ ap (λ o. cons_option o (filter_map f rest)) here ∙ ap (cons_option (judge x (first_of x items) (run_of x entries))) there

-- ---- entries counted, each told the item of its identity

told_both : (test : Option LedgerItem → Entry → Bool) (x : Identity) (items : List LedgerItem) (e : Entry) (es : List Entry) (b : Bool) → is_same x e.id ≡ b
    → count_told test items es ≡ count_by (test (find (λ (i : LedgerItem). is_same x i.id) items)) (run_of x es) + count_told test items (after_run x es)
    → count_told test items (e ∷ es) ≡ count_by (test (find (λ (i : LedgerItem). is_same x i.id) items)) (cond b (e ∷ run_of x es) []) + count_told test items (cond b (after_run x es) (e ∷ es))
told_both test x items e es false same rest = omega arith
told_both test x items e es true same rest =
    let one : Identity → ℕ = λ y. cond (test (find (λ (i : LedgerItem). is_same y i.id) items) e) 1 0 in
    let here : one e.id ≡ one x = ap one (sym (same_is x e.id same)) in
    let a = sum_by-cons (λ (d : Entry). cond (test (find (λ (i : LedgerItem). is_same d.id i.id) items) d) 1 0) e es in
    let b = sum_by-cons (λ (d : Entry). cond (test (find (λ (i : LedgerItem). is_same x i.id) items) d) 1 0) e (run_of x es) in
    omega arith

told_run : (test : Option LedgerItem → Entry → Bool) (x : Identity) (items : List LedgerItem) (es : List Entry)
    → count_told test items es ≡ count_by (test (find (λ (i : LedgerItem). is_same x i.id) items)) (run_of x es) + count_told test items (after_run x es)
told_run test x items [] = omega arith
told_run test x items (e ∷ es) = told_both test x items e es (is_same x e.id) refl (told_run test x items es)

told_passed : (test : Option LedgerItem → Entry → Bool) (x : Identity) (items : List LedgerItem) (ds : List Entry) → After x ds
    → count_told test items ds ≡ count_told test (after_first x items) ds
told_passed test x items [] h = refl
told_passed test x items (d ∷ ds) h =
    let one : Option LedgerItem → ℕ = λ o. cond (test o d) 1 0 in
    let here : one (find (λ (i : LedgerItem). is_same d.id i.id) items) ≡ one (find (λ (i : LedgerItem). is_same d.id i.id) (after_first x items)) =
    ap one (first_passed x d.id items (less_other x d.id h.0)) in
    let a = sum_by-cons (λ (e : Entry). cond (test (find (λ (i : LedgerItem). is_same e.id i.id) items) e) 1 0) d ds in
    let b = sum_by-cons (λ (e : Entry). cond (test (find (λ (i : LedgerItem). is_same e.id i.id) (after_first x items)) e) 1 0) d ds in
    let rest = told_passed test x items ds h.1 in
    omega arith

pub told_step : (test : Option LedgerItem → Entry → Bool) (x : Identity) (items : List LedgerItem) (entries : List Entry)
    → IsStrictlySortedBy identity_cmp (item_ids items) → IsRising entries → least_of items entries ≡ Some x
    → count_told test items entries ≡ count_by (test (first_of x items)) (run_of x entries) + count_told test (after_first x items) (after_run x entries)
told_step test x items entries s r h =
    let l = least_is x items entries s r h in
    let run = told_run test x items entries in
    let here = ap (λ o. count_by (test o) (run_of x entries)) (first_found x items (first_less x items l.items_not_below s)) in
    let rest = told_passed test x items (after_run x entries) (after_is x entries l.entries_not_below r) in
    omega arith

-- ---- what the loop keeps

cons_more : {M : Type 0} (out rest : List M) (m : Option M) → (out ++ cons_option m []) ++ rest ≡ out ++ cons_option m rest
cons_more out rest None = ap (λ z. z ++ rest) (append-nil out)
cons_more out rest (Some m) = rw append_assoc refl

pub step_done : {M : Type 0} (judge : Identity → Option LedgerItem → List Entry → Option M) (x : Identity) (items left : List LedgerItem)
    (entries after : List Entry) (m : Option M) (out more whole : List M)
    → IsStrictlySortedBy identity_cmp (item_ids items) → IsRising entries → least_of items entries ≡ Some x
    → left ≡ after_first x items → after ≡ after_run x entries → m ≡ judge x (first_of x items) (run_of x entries) → more ≡ out ++ cons_option m []
    → out ++ merged judge items entries ≡ whole → more ++ merged judge left after ≡ whole
step_done judge x items left entries after m out more whole s r h l a j o w =
    ap (λ z. z ++ merged judge left after) o ∙ cons_more out (merged judge left after) m
    ∙ ap (λ z. out ++ cons_option z (merged judge left after)) j
    ∙ ap (λ z. out ++ cons_option (judge x (first_of x items) (run_of x entries)) (merged judge z after)) l
    ∙ ap (λ z. out ++ cons_option (judge x (first_of x items) (run_of x entries)) (merged judge (after_first x items) z)) a
    ∙ ap (λ z. out ++ z) (sym (merged_step judge x items entries s r h)) ∙ w

merged_none : {M : Type 0} (judge : Identity → Option LedgerItem → List Entry → Option M) (items : List LedgerItem) (entries : List Entry)
    → least_of items entries ≡ None → merged judge items entries ≡ []
unfolding merged set_with
merged_none judge [] [] h = refl
merged_none judge (i ∷ is) [] h = absurd cc
merged_none judge [] (e ∷ es) h = absurd cc
merged_none judge (i ∷ is) (e ∷ es) h = absurd cc

pub all_done : {M : Type 0} (judge : Identity → Option LedgerItem → List Entry → Option M) (items : List LedgerItem) (entries : List Entry) (out whole : List M) → least_of items entries ≡ None
    → out ++ merged judge items entries ≡ whole → out ≡ whole
all_done judge items entries out whole h w = sym (append-nil out) ∙ ap (λ z. out ++ z) (sym (merged_none judge items entries h)) ∙ w

-- the count goes on over a step of the loop
pub told_on : (test : Option LedgerItem → Entry → Bool) (x : Identity) (items left : List LedgerItem) (entries after : List Entry) (late more n whole : ℕ)
    → IsStrictlySortedBy identity_cmp (item_ids items) → IsRising entries → least_of items entries ≡ Some x
    → left ≡ after_first x items → after ≡ after_run x entries → n ≡ count_by (test (first_of x items)) (run_of x entries)
    → late + count_told test items entries ≡ whole → more ≡ late + n → more + count_told test left after ≡ whole
told_on test x items left entries after late more n whole s r h l a k w m =
    let step = told_step test x items entries s r h in
    let rest = ap (λ is. count_told test is after) l ∙ ap (count_told test (after_first x items)) a in
    omega arith

pub told_within : (test : Option LedgerItem → Entry → Bool) (x : Identity) (items all : List LedgerItem) (entries whole : List Entry) (late n : ℕ)
    → IsStrictlySortedBy identity_cmp (item_ids items) → IsRising entries → least_of items entries ≡ Some x → n ≡ count_by (test (first_of x items)) (run_of x entries)
    → late + count_told test items entries ≡ count_told test all whole → late + n ≤ length whole
told_within test x items all entries whole late n s r h k w =
    let step = told_step test x items entries s r h in
    let most = count_by-le-length (λ (e : Entry). test (find (λ (i : LedgerItem). is_same e.id i.id) all) e) whole in
    omega arith

-- and ends where both are empty
pub told_done : (test : Option LedgerItem → Entry → Bool) (items : List LedgerItem) (entries : List Entry) (late whole : ℕ) → least_of items entries ≡ None
    → late + count_told test items entries ≡ whole → late ≡ whole
told_done test items [] late whole h w = omega arith
told_done test [] (e ∷ es) late whole h w = absurd cc
told_done test (i ∷ is) (e ∷ es) late whole h w = absurd cc

take_run : (x : Identity) (es : List Entry) → take (length (run_of x es)) es ≡ run_of x es
take_run x [] = refl
take_run x (e ∷ es) = elim (is_same x e.id) as (λ b. take (length (cond b (e ∷ run_of x es) [])) (e ∷ es) ≡ cond b (e ∷ run_of x es) [])
    [ true ↦ ap (λ (z : List Entry). e ∷ z) (take_run x es) | false ↦ refl ]

drop_run : (x : Identity) (es : List Entry) → drop (length (run_of x es)) es ≡ after_run x es
drop_run x [] = refl
drop_run x (e ∷ es) = elim (is_same x e.id) as (λ b. drop (length (cond b (e ∷ run_of x es) [])) (e ∷ es) ≡ cond b (after_run x es) (e ∷ es)) [ true ↦ drop_run x es | false ↦ refl ]

pub run_taken : (n : ℕ) (x : Identity) (es : List Entry) → n ≡ length (run_of x es) → take n es ≡ run_of x es
run_taken n x es h = ap (λ k. take k es) h ∙ take_run x es

pub run_dropped : (n : ℕ) (x : Identity) (es : List Entry) → n ≡ length (run_of x es) → drop n es ≡ after_run x es
run_dropped n x es h = ap (λ k. drop k es) h ∙ drop_run x es

-- ---- the measure

after_short : (x : Identity) (es : List Entry) → length (after_run x es) ≤ length es
after_short x [] = omega arith
after_short x (e ∷ es) = elim (is_same x e.id) as (λ b. length (cond b (after_run x es) (e ∷ es)) ≤ length (e ∷ es)) [ true ↦ (let h = after_short x es in omega arith) | false ↦ omega arith ]

first_short : (x : Identity) (is : List LedgerItem) → length (after_first x is) ≤ length is
first_short x [] = omega arith
first_short x (i ∷ is) = elim (is_same x i.id) as (λ b. length (cond b is (i ∷ is)) ≤ length (i ∷ is)) [ true ↦ omega arith | false ↦ omega arith ]

item_gone : (x : Identity) (i : LedgerItem) (is : List LedgerItem) → i.id ≡ x → length (after_first x (i ∷ is)) < length (i ∷ is)
item_gone x i is h =
    let e : is_same x i.id ≡ true = subst (λ w. is_same w i.id ≡ true) h (same_refl i.id) in
    subst (λ b. length (cond b is (i ∷ is)) < length (i ∷ is)) (sym e) (omega arith)

entry_gone : (x : Identity) (e : Entry) (es : List Entry) → e.id ≡ x → length (after_run x (e ∷ es)) < length (e ∷ es)
entry_gone x e es h =
    let i : is_same x e.id ≡ true = subst (λ w. is_same w e.id ≡ true) h (same_refl e.id) in
    let l = after_short x es in
    subst (λ b. length (cond b (after_run x es) (e ∷ es)) < length (e ∷ es)) (sym i) (omega arith)

lower_cases : (b : Bool) (x y z : Identity) → cond b x y ≡ z → (x ≡ z) ⊎ (y ≡ z)
lower_cases true x y z h = inl h
lower_cases false x y z h = inr h

pub smaller : (x : Identity) (items : List LedgerItem) (entries : List Entry) → least_of items entries ≡ Some x
    → length (after_first x items) + length (after_run x entries) < length items + length entries
smaller x [] [] h = absurd cc
smaller x (i ∷ is) [] h = let l = item_gone x i is (some_same i.id x h) in omega arith
smaller x [] (e ∷ es) h = let l = entry_gone x e es (some_same e.id x h) in omega arith
smaller x (i ∷ is) (e ∷ es) h =
    ⊎_elim (λ (q : i.id ≡ x). let l = item_gone x i is q in let k = after_short x (e ∷ es) in omega arith)
    (λ (q : e.id ≡ x). let l = entry_gone x e es q in let k = first_short x (i ∷ is) in omega arith)
    (lower_cases (is_lt (identity_cmp i.id e.id)) i.id e.id x (some_same (lower i.id e.id) x h))

pub lower_yes : (x y : Identity) (b : Bool) → b ≡ true → b ≡ is_lt (identity_cmp x y) → x ≡ lower x y
lower_yes x y b t e = ap (λ c. cond c x y) (sym t ∙ e)

pub lower_no : (x y : Identity) (b : Bool) → b ≡ false → b ≡ is_lt (identity_cmp x y) → y ≡ lower x y
lower_no x y b t e = ap (λ c. cond c x y) (sym t ∙ e)

-- ---- the run, as the code goes along it

-- an entry of another identity ends the run
pub run_ends : (x : Identity) (e : Entry) (es rest : List Entry) (i : ℕ) → drop i es ≡ e ∷ rest → is_same x e.id ≡ false
    → i + length (run_of x (drop i es)) ≡ length (run_of x es) → i ≡ length (run_of x es)
run_ends x e es rest i d n h =
    let none : length (run_of x (drop i es)) ≡ 0 = ap (λ z. length (run_of x z)) d ∙ ap (λ b. length (cond b (e ∷ run_of x rest) [])) n in
    omega arith

-- and one of the same identity is of it
pub run_goes : (x : Identity) (e : Entry) (es rest : List Entry) (i : ℕ) → drop i es ≡ e ∷ rest → is_same x e.id ≡ true
    → i + length (run_of x (drop i es)) ≡ length (run_of x es) → (i + 1) + length (run_of x rest) ≡ length (run_of x es)
run_goes x e es rest i d n h =
    let more : length (run_of x (drop i es)) ≡ suc (length (run_of x rest)) = ap (λ z. length (run_of x z)) d ∙ ap (λ b. length (cond b (e ∷ run_of x rest) [])) n in
    omega arith

-- what is left from a place on, of what a function makes of each
pub left_at : {A B : Type 0} (f : A → B) (xs : List A) (i : ℕ) (x : A) → i < length xs → x ≡ get_or xs i x → drop i (map f xs) ≡ f x ∷ drop (i + 1) (map f xs)
left_at f xs i x l e =
    let one : suc i ≡ i + 1 = omega arith in
    drop-map f i xs ∙ ap (map f) (drop-cons xs i x l) ∙ (λ k. f (sym e k) ∷ map f (drop (suc i) xs)) ∙ ap (λ z. f x ∷ z) (sym (drop-map f (suc i) xs)) ∙ ap (λ n. f x ∷ drop n (map f xs)) one

-- ---- what is made of members

made_step : {M N : Type 0} (f : M → N) (o : Option M) (xs : List M) (ys : List N) → ys ≡ map f xs → cons_option (option_map f o) ys ≡ map f (cons_option o xs)
made_step f None xs ys h = h
made_step f (Some m) xs ys h = ap (λ z. f m ∷ z) h

made : {A M N : Type 0} (f : M → N) (h : A → Option M) (xs : List A) → filter_map (λ x. option_map f (h x)) xs ≡ map f (filter_map h xs)
made f h [] = refl
made f h (x ∷ xs) = made_step f (h x) (filter_map h xs) (filter_map (λ y. option_map f (h y)) xs) (made f h xs)

pub merged_made : {M N : Type 0} (f : M → N) (judge : Identity → Option LedgerItem → List Entry → Option M) (items : List LedgerItem) (entries : List Entry)
    → merged (λ x o es. option_map f (judge x o es)) items entries ≡ map f (merged judge items entries)
unfolding merged
merged_made f judge items entries =
    made f (λ x. judge x (find (λ (i : LedgerItem). is_same x i.id) items) (filter (λ (e : Entry). is_same x e.id) entries)) (all_ids items entries)
