-- What becomes of the identities before one, and of the others.
use Rattle.std.proofs.Common.{◌≡◌, ℕ, ◌+◌, inl, inr, ⊎_elim, List, [], ◌∷◌, ◌++◌, map, not, Bool, true, false, cond, Option, Some, None, refl, sym, ap, ◌∙◌, subst, arith}
use Rattle.std.specs.Prelude.{All}
use Rattle.std.specs.List.{filter, filter_map, find}
use Rattle.std.specs.Option.{option_or}
use Rattle.std.specs.declared.cmp.Ordering.{Ordering}
use Rattle.std.specs.declared.cmp.Ordering.TheVariants.{Less, Equal, Greater}
use Rattle.std.specs.Ordering.{is_lt, ordering_reverse}
use Rattle.std.proofs.lemmas.Bool.{true≢false}
use Rattle.std.proofs.lemmas.List.{append-nil, map-append}
use Rattle.std.proofs.lemmas.List.Elements.{All-head, All-tail, filter_map-append, filter-append}
use Rattle.std.proofs.lemmas.List.Folds.{find-append}
use Rattle.std.proofs.lemmas.List.Sums.{sum_by-append, sum_by-cons}
use Rattle.ident_core.specs.declared.identity.Identity.{Identity}
use Rattle.ident_core.specs.Order.{is_same, identity_cmp}
use Rattle.ledger_core.specs.LedgerFields.{ids}
use Rattle.ledger_core.specs.declared.fields.LedgerItem.{LedgerItem}
use Rattle.ident_core.specs.Among.{Among}
use Rattle.ident_core.proofs.Elements.{Among-left, Among-right, Among-cases}
use Rattle.ident_core.proofs.Keys.{same_other}
use Rattle.ident_core.proofs.Order.{lt_less, sorted_unique}
use Rattle.ident_core.proofs.Sets.{identity_exact, identity_total, identities_are, Among-union, Among-in_union}
use Rattle.universe_core.specs.Jobs.{Entry}
use Rattle.universe_core.specs.Merging.{all_ids, count_told, merged}
use Rattle.universe_core.proofs.Ascending.{both_ascend}
use Rattle.universe_core.proofs.Merge.{agree}

abbrev entry_ids : List Entry → List Identity
entry_ids es = map (λ (e : Entry). e.id) es

not_itself : (b : Bool) → b ≡ not b → ⊥
not_itself true e = true≢false e
not_itself false e = true≢false (sym e)

module _ (x : Identity) where
  abbrev pub comes_before : Identity → Bool
  comes_before y = is_lt (identity_cmp y x)

  -- one that comes before x, and one that doesn't
  before_less : (y z : Identity) → comes_before y ≡ true → comes_before z ≡ false → identity_cmp y z ≡ Less
  before_less y z b n = by (identity_cmp z x) refl n
    where
      less : identity_cmp y x ≡ Less
      less = lt_less (identity_cmp y x) b

      by : (o : Ordering) → identity_cmp z x ≡ o → is_lt o ≡ false → identity_cmp y z ≡ Less
      by Less e h = absurd (true≢false h)
      by Equal e h = subst (λ w. identity_cmp y w ≡ Less) (sym (identity_exact z x e)) less
      by Greater e h = identity_total.trans y x z less (identity_total.antisymm x z ∙ ap ordering_reverse e)

  apart : (y z : Identity) (b : Bool) → comes_before y ≡ b → comes_before z ≡ not b → is_same y z ≡ false
  apart y z b h k = same_other y z (λ e. not_itself b (sym h ∙ ap comes_before e ∙ k))

  among_all : {A : Type 0} (key : A → Identity) (b : Bool) (xs : List A) → All (λ a. comes_before (key a) ≡ b) xs → (z : Identity) → Among (map key xs) z → comes_before z ≡ b
  among_all key b [] h z m = absurd m
  among_all key b (a ∷ xs) h z (inl e) = subst (λ w. comes_before w ≡ b) e (All-head (λ c. comes_before (key c) ≡ b) a xs h)
  among_all key b (a ∷ xs) h z (inr m) = among_all key b xs (All-tail (λ c. comes_before (key c) ≡ b) a xs h) z m

  no_item : (y : Identity) (b : Bool) (is : List LedgerItem) → comes_before y ≡ b → All (λ i. comes_before i.id ≡ not b) is → find (λ (i : LedgerItem). is_same y i.id) is ≡ None
  no_item y b [] h a = refl
  no_item y b (i ∷ is) h a =
      ap (λ t. cond t (Some i) (find (λ (j : LedgerItem). is_same y j.id) is)) (apart y i.id b h (All-head (λ j. comes_before j.id ≡ not b) i is a))
      ∙ no_item y b is h (All-tail (λ j. comes_before j.id ≡ not b) i is a)

  no_entry : (y : Identity) (b : Bool) (es : List Entry) → comes_before y ≡ b → All (λ e. comes_before e.id ≡ not b) es → filter (λ (e : Entry). is_same y e.id) es ≡ []
  no_entry y b [] h a = refl
  no_entry y b (e ∷ es) h a =
      ap (λ t. cond t (e ∷ filter (λ (d : Entry). is_same y d.id) es) (filter (λ (d : Entry). is_same y d.id) es)) (apart y e.id b h (All-head (λ d. comes_before d.id ≡ not b) e es a))
      ∙ no_entry y b es h (All-tail (λ d. comes_before d.id ≡ not b) e es a)

  module _ (low high : List LedgerItem) (items_before : All (λ i. comes_before i.id ≡ true) low) (items_behind : All (λ i. comes_before i.id ≡ false) high) where
    item_before : (y : Identity) → comes_before y ≡ true → find (λ (i : LedgerItem). is_same y i.id) (low ++ high) ≡ find (λ (i : LedgerItem). is_same y i.id) low
    item_before y h =
        find-append (λ (i : LedgerItem). is_same y i.id) low high
        ∙ ap (option_or (find (λ (i : LedgerItem). is_same y i.id) low)) (no_item y true high h items_behind)
        ∙ or_nothing (find (λ (i : LedgerItem). is_same y i.id) low)
      where
        or_nothing : (o : Option LedgerItem) → option_or o None ≡ o
        or_nothing None = refl
        or_nothing (Some i) = refl

    item_behind : (y : Identity) → comes_before y ≡ false → find (λ (i : LedgerItem). is_same y i.id) (low ++ high) ≡ find (λ (i : LedgerItem). is_same y i.id) high
    item_behind y h =
        find-append (λ (i : LedgerItem). is_same y i.id) low high
        ∙ ap (λ o. option_or o (find (λ (i : LedgerItem). is_same y i.id) high)) (no_item y false low h items_before)

    -- ---- entries counted

    told_in : (test : Option LedgerItem → Entry → Bool) (part : List LedgerItem) (b : Bool)
        → ((y : Identity) → comes_before y ≡ b → find (λ (i : LedgerItem). is_same y i.id) (low ++ high) ≡ find (λ (i : LedgerItem). is_same y i.id) part)
        → (es : List Entry) → All (λ e. comes_before e.id ≡ b) es → count_told test (low ++ high) es ≡ count_told test part es
    told_in test part b found [] a = refl
    told_in test part b found (e ∷ es) a =
        let one : Option LedgerItem → ℕ = λ o. cond (test o e) 1 0 in
        let here = ap one (found e.id (All-head (λ d. comes_before d.id ≡ b) e es a)) in
        let rest = told_in test part b found es (All-tail (λ d. comes_before d.id ≡ b) e es a) in
        let whole = sum_by-cons (λ (d : Entry). cond (test (find (λ (i : LedgerItem). is_same d.id i.id) (low ++ high)) d) 1 0) e es in
        let own = sum_by-cons (λ (d : Entry). cond (test (find (λ (i : LedgerItem). is_same d.id i.id) part) d) 1 0) e es in
        omega arith

    module _ (front back : List Entry) (entries_before : All (λ e. comes_before e.id ≡ true) front) (entries_behind : All (λ e. comes_before e.id ≡ false) back) where
      pub told_apart : (test : Option LedgerItem → Entry → Bool) → count_told test (low ++ high) (front ++ back) ≡ count_told test low front + count_told test high back
      told_apart test =
          let both = sum_by-append (λ (d : Entry). cond (test (find (λ (i : LedgerItem). is_same d.id i.id) (low ++ high)) d) 1 0) front back in
          let one = told_in test low true item_before front entries_before in
          let two = told_in test high false item_behind back entries_behind in
          omega arith

      -- ---- what a judge makes

      all_before : (z : Identity) → Among (all_ids low front) z → comes_before z ≡ true
      all_before z m = ⊎_elim (λ a. among_all (λ (e : Entry). e.id) true front entries_before z a) (λ a. among_all (λ (i : LedgerItem). i.id) true low items_before z a)
          (Among-union (entry_ids front) (ids low) z m)

      all_behind : (z : Identity) → Among (all_ids high back) z → comes_before z ≡ false
      all_behind z m = ⊎_elim (λ a. among_all (λ (e : Entry). e.id) false back entries_behind z a) (λ a. among_all (λ (i : LedgerItem). i.id) false high items_behind z a)
          (Among-union (entry_ids back) (ids high) z m)

      ids_whole : ids (low ++ high) ≡ ids low ++ ids high
      ids_whole = map-append (λ (i : LedgerItem). i.id) low high

      entry_ids_whole : entry_ids (front ++ back) ≡ entry_ids front ++ entry_ids back
      entry_ids_whole = map-append (λ (e : Entry). e.id) front back

      ids_apart : all_ids (low ++ high) (front ++ back) ≡ all_ids low front ++ all_ids high back
      ids_apart =
          sorted_unique identity_cmp identity_total (all_ids (low ++ high) (front ++ back)) (all_ids low front ++ all_ids high back)
          (identities_are (entry_ids (front ++ back) ++ ids (low ++ high))).ascends
          (both_ascend identity_cmp (all_ids low front) (all_ids high back)
          (identities_are (entry_ids front ++ ids low)).ascends
          (identities_are (entry_ids back ++ ids high)).ascends
          (λ y z a b. before_less y z (all_before y a) (all_behind z b)))
          (λ z m. ⊎_elim
          (λ a. ⊎_elim
          (λ b. Among-left (all_ids low front) (all_ids high back) z (Among-in_union (entry_ids front) (ids low) z (inl b)))
          (λ b. Among-right (all_ids low front) (all_ids high back) z (Among-in_union (entry_ids back) (ids high) z (inl b)))
          (Among-cases (entry_ids front) (entry_ids back) z (subst (λ zs. Among zs z) entry_ids_whole a)))
          (λ a. ⊎_elim
          (λ b. Among-left (all_ids low front) (all_ids high back) z (Among-in_union (entry_ids front) (ids low) z (inr b)))
          (λ b. Among-right (all_ids low front) (all_ids high back) z (Among-in_union (entry_ids back) (ids high) z (inr b)))
          (Among-cases (ids low) (ids high) z (subst (λ zs. Among zs z) ids_whole a)))
          (Among-union (entry_ids (front ++ back)) (ids (low ++ high)) z m))
          (λ z m. Among-in_union (entry_ids (front ++ back)) (ids (low ++ high)) z (⊎_elim
          (λ a. ⊎_elim
          (λ b. inl (subst (λ zs. Among zs z) (sym entry_ids_whole) (Among-left (entry_ids front) (entry_ids back) z b)))
          (λ b. inr (subst (λ zs. Among zs z) (sym ids_whole) (Among-left (ids low) (ids high) z b)))
          (Among-union (entry_ids front) (ids low) z a))
          (λ a. ⊎_elim
          (λ b. inl (subst (λ zs. Among zs z) (sym entry_ids_whole) (Among-right (entry_ids front) (entry_ids back) z b)))
          (λ b. inr (subst (λ zs. Among zs z) (sym ids_whole) (Among-right (ids low) (ids high) z b)))
          (Among-union (entry_ids back) (ids high) z a))
          (Among-cases (all_ids low front) (all_ids high back) z m)))

      entries_of_before : (y : Identity) → comes_before y ≡ true → filter (λ (e : Entry). is_same y e.id) (front ++ back) ≡ filter (λ (e : Entry). is_same y e.id) front
      entries_of_before y h =
          filter-append (λ (e : Entry). is_same y e.id) front back
          ∙ ap (λ zs. filter (λ (e : Entry). is_same y e.id) front ++ zs) (no_entry y true back h entries_behind)
          ∙ append-nil (filter (λ (e : Entry). is_same y e.id) front)

      entries_of_behind : (y : Identity) → comes_before y ≡ false → filter (λ (e : Entry). is_same y e.id) (front ++ back) ≡ filter (λ (e : Entry). is_same y e.id) back
      entries_of_behind y h =
          filter-append (λ (e : Entry). is_same y e.id) front back
          ∙ ap (λ zs. zs ++ filter (λ (e : Entry). is_same y e.id) back) (no_entry y false front h entries_before)

      pub merged_apart : {M : Type 0} (judge : Identity → Option LedgerItem → List Entry → Option M)
          → merged judge (low ++ high) (front ++ back) ≡ merged judge low front ++ merged judge high back
      unfolding merged
      merged_apart {M = M} judge =
          let made : List LedgerItem → List Entry → Identity → Option M =
          λ is es y. judge y (find (λ (i : LedgerItem). is_same y i.id) is) (filter (λ (e : Entry). is_same y e.id) es) in
          let whole = made (low ++ high) (front ++ back) in
          ap (filter_map whole) ids_apart ∙ filter_map-append whole (all_ids low front) (all_ids high back)
          ∙ ap (λ zs. zs ++ filter_map whole (all_ids high back)) (agree whole (made low front) (all_ids low front) (λ y a.
          ap (λ o. judge y o (filter (λ (e : Entry). is_same y e.id) (front ++ back))) (item_before y (all_before y a))
          ∙ ap (judge y (find (λ (i : LedgerItem). is_same y i.id) low)) (entries_of_before y (all_before y a))))
          ∙ ap (λ zs. filter_map (made low front) (all_ids low front) ++ zs) (agree whole (made high back) (all_ids high back) (λ y a.
          ap (λ o. judge y o (filter (λ (e : Entry). is_same y e.id) (front ++ back))) (item_behind y (all_behind y a))
          ∙ ap (judge y (find (λ (i : LedgerItem). is_same y i.id) high)) (entries_of_behind y (all_behind y a))))
