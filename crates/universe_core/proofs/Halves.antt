-- Entries in two parts, each sorted, and merged one behind the other.
use Rattle.std.proofs.Common.{◌≡◌, ℕ, ◌+◌, inl, inr, ⊎_elim, List, [], ◌∷◌, ◌++◌, map, length, get_or, Bool, true, false, refl, sym, ap, ◌∙◌, subst, arith}
use Rattle.std.specs.Prelude.{All, IsPermutation}
use Rattle.std.specs.List.Sorted.{IsStrictlySortedBy}
use Rattle.std.specs.Ordering.{is_gt, is_lt}
use Rattle.std.proofs.Math.Seq.{take-append_seam, drop-append_seam}
use Rattle.std.proofs.lemmas.List.{map-append}
use Rattle.std.proofs.lemmas.List.Elements.{All-head, All-tail, All-map, All-take, All-drop, All-contains}
use Rattle.std.proofs.lemmas.List.Sorted.{All-permutation, IsPermutation-append, IsPermutation-trans}
use Rattle.ident_core.specs.declared.range.Range.{Range}
use Rattle.ident_core.specs.Order.{identity_cmp, octets_cmp}
use Rattle.ledger_core.specs.LedgerFields.{ids}
use Rattle.ledger_core.specs.declared.fields.LedgerItem.{LedgerItem}
use Rattle.ident_core.specs.Among.{Among}
use Rattle.ident_core.proofs.Canonical.{all_from}
use Rattle.ident_core.proofs.Elements.{Among-cases}
use Rattle.ident_core.proofs.Order.{all_among}
use Rattle.ident_core.proofs.Sets.{identity_total}
use Rattle.universe_core.specs.Jobs.{Entry}
use Rattle.universe_core.specs.Judging.{is_late_beside, judge_of}
use Rattle.universe_core.specs.Members.{as_item}
use Rattle.universe_core.specs.Merges.{AreMergeable, IsMergedBehind, made_of_both}
use Rattle.universe_core.specs.Merging.{IsRising, count_told, merged}
use Rattle.universe_core.specs.Placing.{placed_cmp}
use Rattle.universe_core.specs.Reading.{IsPlaced, entries_of, entry_fields, id_in}
use Rattle.universe_core.specs.Sorting.{AreHalves, IsSortOf}
use Rattle.universe_core.specs.declared.judging.Context.{Context}
use Rattle.universe_core.specs.declared.member.Member.{Member}
use Rattle.universe_core.specs.declared.member.Members.{Members}
use Rattle.universe_core.specs.declared.read_entry.ReadEntry.{ReadEntry}
use Rattle.universe_core.proofs.Apart.{comes_before, merged_apart, told_apart}
use Rattle.universe_core.proofs.Ascending.{parts_ascend}
use Rattle.universe_core.proofs.Placing.{placed_is, placed_ranks}
use Rattle.universe_core.proofs.Sorting.{no_gt}

abbrev pub goes_before : ReadEntry → ReadEntry → Bool
goes_before cut e = is_lt (placed_cmp e cut)

-- ---- entries that rise, one behind the other

rising_both : (xs ys : List Entry) → IsRising xs → IsRising ys → ((x y : Entry) → Among xs x → Among ys y → is_gt (identity_cmp x.id y.id) ≡ false) → IsRising (xs ++ ys)
rising_both [] ys r s f = s
rising_both (x ∷ xs) ys r s f = (
  all_from (λ (d : Entry). is_gt (identity_cmp x.id d.id) ≡ false) (xs ++ ys) (λ d a. ⊎_elim
      (λ b. all_among (λ (e : Entry). is_gt (identity_cmp x.id e.id) ≡ false) xs d r.0 b)
      (λ b. f x d (inl refl) b) (Among-cases xs ys d a)),
  rising_both xs ys r.1 s (λ v w a b. f v w (inr a) b),
)

module _ (issuers : List (List ℕ)) (ranges : List Range) (ascend : IsStrictlySortedBy octets_cmp issuers) where
  among_placed : (P : ReadEntry → Type 0) (es : List ReadEntry) → All P es → (x : Entry) → Among (entries_of issuers ranges es) x
      → (e : ReadEntry) × P e × (entry_fields issuers ranges e ≡ x)
  among_placed P [] h x a = absurd a
  among_placed P (e ∷ es) h x (inl same) = (e, All-head P e es h, same)
  among_placed P (e ∷ es) h x (inr a) = among_placed P es (All-tail P e es h) x a

  not_above : (cut d e : ReadEntry) → goes_before cut d ≡ true → goes_before cut e ≡ false → IsPlaced issuers ranges d → IsPlaced issuers ranges e
      → is_gt (identity_cmp (id_in issuers d) (id_in issuers e)) ≡ false
  not_above cut d e b n p q =
      let back : is_lt (placed_cmp e d) ≡ false = placed_ranks.chain e cut d n (placed_ranks.one_way d cut b) in
      no_gt (identity_cmp (id_in issuers d) (id_in issuers e))
      (ap is_lt (sym (identity_total.antisymm (id_in issuers e) (id_in issuers d)) ∙ sym (placed_is issuers e d ascend q.issuer p.issuer)) ∙ back)

  rising_apart : (cut : ReadEntry) (front back : List ReadEntry)
      → All (λ e. (goes_before cut e ≡ true) × IsPlaced issuers ranges e) front → All (λ e. (goes_before cut e ≡ false) × IsPlaced issuers ranges e) back
      → IsRising (entries_of issuers ranges front) → IsRising (entries_of issuers ranges back) → IsRising (entries_of issuers ranges (front ++ back))
  rising_apart cut front back before behind r s =
      subst IsRising (sym (map-append (entry_fields issuers ranges) front back))
      (rising_both (entries_of issuers ranges front) (entries_of issuers ranges back) r s (λ x y a z.
      let d = among_placed (λ e. (goes_before cut e ≡ true) × IsPlaced issuers ranges e) front before x a in
      let e = among_placed (λ e. (goes_before cut e ≡ false) × IsPlaced issuers ranges e) back behind y z in
      subst (λ (w : Entry). is_gt (identity_cmp w.id y.id) ≡ false) d.2
      (subst (λ (w : Entry). is_gt (identity_cmp (id_in issuers d.0) w.id) ≡ false) e.2
      (not_above cut d.0 e.0 d.1.0 e.1.0 d.1.1 e.1.1))))

-- ---- the halves of entries

-- the two parts of a slice
pub split_halves : {entries low high front back : List ReadEntry} {cut : ReadEntry} → low ≡ front → high ≡ back → AreHalves entries front back cut → AreHalves entries low high cut
split_halves f b halves = rw f (rw b halves)

module _ {entries low high : List ReadEntry} {cut : ReadEntry} (halves : AreHalves entries low high cut) where
  pub all_low : (P : ReadEntry → Type 0) → All P entries → All P low
  all_low P all = subst (All P) (take-append_seam low high) (All-take P (length low) (low ++ high) (All-permutation P entries (low ++ high) halves.same all))

  pub all_high : (P : ReadEntry → Type 0) → All P entries → All P high
  all_high P all = subst (All P) (drop-append_seam low high) (All-drop P (length low) (low ++ high) (All-permutation P entries (low ++ high) halves.same all))

  pub same_in_halves : (front back : List ReadEntry) → IsPermutation low front → IsPermutation high back → IsPermutation entries (front ++ back)
  same_in_halves front back p q = IsPermutation-trans entries (low ++ high) (front ++ back) halves.same (IsPermutation-append low front high back p q)

  pub sorted_in_halves : (front back : List ReadEntry) → IsSortOf low front → IsSortOf high back → IsSortOf entries (front ++ back)
  sorted_in_halves front back p q = record {
    same = same_in_halves front back p.same q.same;
    rising = λ issuers ranges ascend placed.
        let placed_low = all_low (IsPlaced issuers ranges) placed in
        let placed_high = all_high (IsPlaced issuers ranges) placed in
        rising_apart issuers ranges ascend cut front back
        (All-permutation (λ e. (goes_before cut e ≡ true) × IsPlaced issuers ranges e) low front p.same (λ k d lt. (halves.before k d lt, placed_low k d lt)))
        (All-permutation (λ e. (goes_before cut e ≡ false) × IsPlaced issuers ranges e) high back q.same (λ k d lt. (halves.behind k d lt, placed_high k d lt)))
        (p.rising issuers ranges ascend placed_low) (q.rising issuers ranges ascend placed_high);
  }

-- ---- merged, one behind the other

pub halves_ascend : (items low high : List LedgerItem) → items ≡ low ++ high → IsStrictlySortedBy identity_cmp (ids items)
    → IsStrictlySortedBy identity_cmp (ids low) × IsStrictlySortedBy identity_cmp (ids high)
halves_ascend items low high e s =
    parts_ascend identity_cmp (ids low) (ids high) (subst (IsStrictlySortedBy identity_cmp) (ap ids e ∙ map-append (λ (i : LedgerItem). i.id) low high) s)

module _ {c : Context} {items : List LedgerItem} {entries : List ReadEntry} (given : AreMergeable c items entries) where
  -- other items that ascend, and entries that are placed
  pub mergeable : {more : List LedgerItem} {others : List ReadEntry} → IsStrictlySortedBy identity_cmp (ids more) → All (IsPlaced c.issuers.now c.ranges.now) others
      → AreMergeable c more others
  mergeable ascend placed = record {
    few = given.few;
    searchable = given.searchable;
    issuers_ascend = given.issuers_ascend;
    items_ascend = ascend;
    placed = placed;
  }

  module _ {front back : List ReadEntry} {cut : ReadEntry} (halves : AreHalves entries front back cut) where
    in_order : (b : Bool) (old new : List ReadEntry) → All (IsPlaced c.issuers.now c.ranges.now) old → IsPermutation old new
        → All (λ e. goes_before cut e ≡ b) old → All (λ e. comes_before (id_in c.issuers.now cut) e.id ≡ b) (entries_of c.issuers.now c.ranges.now new)
    in_order b old new there moved h =
        let x = id_in c.issuers.now cut in
        let at = All-contains (IsPlaced c.issuers.now c.ranges.now) entries cut given.placed halves.among in
        All-map (λ (e : Entry). comes_before x e.id ≡ b) (entry_fields c.issuers.now c.ranges.now) new
        (All-permutation (λ e. comes_before x (id_in c.issuers.now e) ≡ b) old new moved
        (λ i d lt. ap is_lt (sym (placed_is c.issuers.now (get_or old i d) cut given.issuers_ascend (there i d lt).issuer at.issuer)) ∙ h i d lt))

    -- those of the first half, and behind them those of the other
    pub merged_in_halves : (low high : List LedgerItem) → items ≡ low ++ high
        → All (λ i. comes_before (id_in c.issuers.now cut) i.id ≡ true) low → All (λ i. comes_before (id_in c.issuers.now cut) i.id ≡ false) high
        → (one two : List ReadEntry) (first all : Members) (m n : ℕ) → IsPermutation front one → IsPermutation back two
        → IsMergedBehind c low one [] [] first m → IsMergedBehind c high two first.items.items first.settled.items all n
        → IsMergedBehind c items (one ++ two) [] [] all (m + n)
    merged_in_halves low high whole a b one two first all m n p q f g =
        let x = id_in c.issuers.now cut in
        let of = entries_of c.issuers.now c.ranges.now in
        let here = IsPlaced c.issuers.now c.ranges.now in
        let before = in_order true front one (all_low halves here given.placed) p halves.before in
        let behind = in_order false back two (all_high halves here given.placed) q halves.behind in
        let made = made_of_both c low one in
        let more = made_of_both c high two in
        let both : of (one ++ two) ≡ of one ++ of two = map-append (entry_fields c.issuers.now c.ranges.now) one two in
        let apart : made_of_both c items (one ++ two) ≡ made ++ more =
        (λ i. merged (judge_of c.parts.now) (whole i) (both i)) ∙ merged_apart x low high a b (of one) (of two) before behind (judge_of c.parts.now) in
        let settles : Member → Bool = λ v. v.settled in
        let test = is_late_beside c.parts.now in
        let counted : count_told test items (of (one ++ two)) ≡ count_told test low (of one) + count_told test high (of two) =
        (λ i. count_told test (whole i) (both i)) ∙ told_apart x low high a b (of one) (of two) before behind test in
        record {
          made = g.made ∙ ap (λ z. z ++ map as_item more) f.made ∙ sym (ap (map as_item) apart ∙ map-append as_item made more);
          settled = g.settled ∙ ap (λ z. z ++ map settles more) f.settled ∙ sym (ap (map settles) apart ∙ map-append settles made more);
          told = (let first_late = f.told in let rest_late = g.told in omega arith);
        }
