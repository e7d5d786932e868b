-- Ranges that stand in bytes, and the search among them by halves.
use Rattle.std.specs.Ordering.{nat_cmp, is_eq}
use Rattle.std.specs.Cmp.Lexicographic.{slice_cmp, nat_list_cmp_total}
use Rattle.std.specs.declared.cmp.Ordering.{Ordering}
use Rattle.std.specs.declared.cmp.Ordering.TheVariants.{Less, Equal, Greater}
use Rattle.std.specs.Int.{w64, to_be_bytes}
use Rattle.std.specs.List.{find, list_any}
use Rattle.std.specs.List.Sorted.{IsStrictlySortedBy}
use Rattle.std.specs.Option.{option_map_or}
use Rattle.std.specs.Prelude.{flat_map}
use Rattle.std.specs.Str.{bytes_eq}
use Rattle.std.proofs.Common.{◌≡◌, ℕ, zero, suc, ◌+◌, ◌*◌, ◌<◌, ◌≤◌, ◌&&◌, ◌||◌, Bool, true, false, List, [], ◌∷◌, ◌++◌, map, nat_le, length, get_or, drop, Option, Some, None, refl, sym, ap, ◌∙◌, subst, inl, inr, length-append, arith}
use Rattle.std.proofs.lemmas.Bool.{false_from_ne_true, cases_lt}
use Rattle.std.proofs.lemmas.List.{get_or-map, get_or_default, length-map, drop_more}
use Rattle.std.proofs.lemmas.Map.Keys.{Less-from_sorted}
use Rattle.std.proofs.lemmas.Map.Lookups.{exact_bytes}
use Rattle.std.proofs.lemmas.Map.Text.{is_eq-slice_cmp}
use Rattle.octets_core.specs.Linked.{Linked}
use Rattle.ident_core.specs.Among.{Among}
use Rattle.ident_core.specs.Coverage.{covers, lies_in_some, first_outside}
use Rattle.ident_core.specs.Order.{octets_cmp}
use Rattle.ident_core.specs.RangeText.{FitsRange, RangeFits, range_text}
use Rattle.ident_core.specs.declared.range.Range.{Range}
use Rattle.ident_core.specs.declared.range.Sighting.{Sighting}
use Rattle.ident_core.proofs.Order.{sorted_head, sorted_tail, not_below_itself}
use Rattle.ident_core.proofs.RangeTexts.{ranges-ascend}
use Rattle.ident_core.proofs.Ranges.{logs, logs_ascend}
use Rattle.ident_core.proofs.Sets.{bytes_same, bytes_refl}
use Rattle.card_core.specs.declared.block.Block.{Block}
use Rattle.card_core.specs.declared.block.Body.TheVariants as bodies
use Rattle.card_core.proofs.Ascending.{AreLinked, block_cmp, linked_sorted}
use Rattle.card_core.proofs.Searching.{Missed, find_none, find_here, missed_less, missed_greater}
use Rattle.view_core.specs.Standing.{AreRangesAt}
use Rattle.view_core.specs.Texts.{Stands}
use Rattle.view_core.proofs.Texts.{stands_first, stands_then}

-- ---- where each stands

abbrev next_log : Option (List ℕ) → Range → Option (List ℕ)
next_log previous r = Some r.log

range_wide : (r : Range) → RangeFits r → length (range_text r) ≡ 48
range_wide r fits = omega (arith, fits.0, length-append (r.log ++ to_be_bytes w64 r.from) (to_be_bytes w64 r.to), length-append r.log (to_be_bytes w64 r.from))

stands_linked : (bytes : List ℕ) (previous : Option (List ℕ)) (at : ℕ) (list : List Range) (i : ℕ) (d : Range) → i < length list → Linked FitsRange next_log previous list
    → Stands bytes at (flat_map range_text list) → RangeFits (get_or list i d) × Stands bytes (at + 48 * i) (range_text (get_or list i d))
stands_linked bytes previous at [] i d lt linked s = absurd (omega arith)
stands_linked bytes previous at (r ∷ list) zero d lt linked s =
    let e : at + 48 * 0 ≡ at = omega arith in (linked.0.1, rw e (stands_first bytes at (range_text r) (flat_map range_text list) s))
stands_linked bytes previous at (r ∷ list) (suc i) d lt linked s =
    let e : at + length (range_text r) + 48 * i ≡ at + 48 * suc i = omega (arith, range_wide r linked.0.1) in
    let rest = stands_linked bytes (Some r.log) (at + length (range_text r)) list i d (omega arith) linked.1
    (stands_then bytes at (range_text r) (flat_map range_text list) (at + length (range_text r)) refl s) in
    (rest.0, subst (λ (n : ℕ). Stands bytes n (range_text (get_or list i d))) e rest.1)

pub stands_range : (bytes : List ℕ) (at count : ℕ) (list : List Range) (i : ℕ) (d : Range) → AreRangesAt bytes at count list → i < count
    → RangeFits (get_or list i d) × Stands bytes (at + 48 * i) (range_text (get_or list i d))
stands_range bytes at count list i d are lt = stands_linked bytes None at list i d (omega (arith, lt, are.count_is)) are.fit are.text

-- the text of a range begins with its log
log_stands : (bytes : List ℕ) (at : ℕ) (r : Range) → Stands bytes at (range_text r) → Stands bytes at r.log
log_stands bytes at r s =
    let from = to_be_bytes w64 r.from in
    stands_first bytes at r.log from (stands_first bytes at (r.log ++ from) (to_be_bytes w64 r.to) s)

-- what stands where a list has none
abbrev no_range : Range
no_range = record { log = []; from = 0; to = 0 }

-- what is read there begins those from it on
pub from_range : (bytes : List ℕ) (at count : ℕ) (list : List Range) (i : ℕ) (r : Range) → AreRangesAt bytes at count list → i < count
    → ((q : Range) → RangeFits q → Stands bytes (at + 48 * i) (range_text q) → r ≡ q) → drop i list ≡ r ∷ drop (i + 1) list
from_range bytes at count list i r are lt read =
    let s = stands_range bytes at count list i r are lt in
    drop_more list i r (omega (arith, lt, are.count_is)) ∙ ap (λ (q : Range). q ∷ drop (i + 1) list) (sym (read (get_or list i r) s.0 s.1))

pub outside_here : (r : Range) (rest after : List Range) → lies_in_some after r ≡ false → first_outside (r ∷ rest) after ≡ Some r.log
outside_here r rest after e = rw e refl

pub outside_later : (r : Range) (rest after : List Range) → lies_in_some after r ≡ true → first_outside (r ∷ rest) after ≡ first_outside rest after
outside_later r rest after e = rw e refl

-- ---- the one of a log

-- ranges are searched as blocks are whose issuers are the logs
abbrev as_block : Range → Block
as_block r = record { issuer = r.log; body = bodies.Clean }

abbrev as_blocks : List Range → List Block
as_blocks list = map as_block list

linked_blocks : (previous : Option (List ℕ)) (list : List Range) → Linked FitsRange next_log previous list → AreLinked previous (as_blocks list)
linked_blocks previous [] linked = tt
linked_blocks previous (r ∷ list) linked = (linked.0.0.0, linked_blocks (Some r.log) list linked.1)

block_at : (list : List Range) (k : ℕ) (d : Range) → k < length list → get_or (as_blocks list) k (as_block d) ≡ as_block (get_or list k d)
block_at list k d lt = get_or-map as_block list k d (as_block d) lt

blocks_sorted : (bytes : List ℕ) (at count : ℕ) (list : List Range) → AreRangesAt bytes at count list → IsStrictlySortedBy block_cmp (as_blocks list)
blocks_sorted bytes at count list are = linked_sorted (as_blocks list) (linked_blocks None list are.fit)

-- none of the first `low` ranges has the log, nor one from `high` on
pub record Passed (bytes : List ℕ) (at count : ℕ) (log : List ℕ) (low high : ℕ) : Type 0 where
  pub order : low ≤ high
  pub within : high ≤ count
  pub missed : (list : List Range) → AreRangesAt bytes at count list → Missed (as_blocks list) log low high

module _ (bytes : List ℕ) (at count : ℕ) (log : List ℕ) (low high : ℕ) (p : Passed bytes at count log low high) where
  pub none_of_log : high ≤ low → (list : List Range) → AreRangesAt bytes at count list → None ≡ find (λ r. bytes_eq r.log log) list
  none_of_log le list are =
      sym (find_none (λ r. bytes_eq r.log log) list (λ k d lt. ap (λ (b : Block). bytes_eq b.issuer log) (sym (block_at list k d lt))
      ∙ (elim (cases_lt k low) [
        | inl less ↦ (p.missed list are).below k (as_block d) less
        | inr ge ↦ (p.missed list are).above k (as_block d) (omega (arith, ge, le)) (omega (arith, lt, length-map list as_block))
      ])))

  module _ (middle : ℕ) (from : low ≤ middle) (lt : middle < high) where
    -- how the log of the range that stands there is ordered with the other one
    abbrev pub IsOrder : Ordering → Type 0
    IsOrder o = (k : List ℕ) → length k ≡ 32 → Stands bytes (at + 48 * middle) k → slice_cmp nat_cmp k log ≡ o

    module _ (list : List Range) (are : AreRangesAt bytes at count list) where
      abbrev there : Range
      there = get_or list middle no_range

      inside : middle < length list
      inside = omega (arith, lt, p.within, are.count_is)

      is_block : as_block there ≡ get_or (as_blocks list) middle (as_block there)
      is_block =
          sym (block_at list middle no_range inside)
          ∙ get_or_default (as_blocks list) middle (as_block no_range) (as_block there) (omega (arith, inside, length-map list as_block))

      order_is : (o : Ordering) → IsOrder o → slice_cmp nat_cmp there.log log ≡ o
      order_is o is =
          let s = stands_range bytes at count list middle no_range are (omega (arith, lt, p.within)) in
          is there.log s.0.0 (log_stands bytes (at + 48 * middle) there s.1)

    pub passed_less : IsOrder Less → Passed bytes at count log (middle + 1) high
    passed_less is = record {
      order = omega (arith, lt);
      within = p.within;
      missed = λ list are. missed_less (as_blocks list) log (blocks_sorted bytes at count list are) low high middle (as_block (there list are))
          (omega (arith, inside list are, length-map list as_block)) (is_block list are) (p.missed list are) (order_is list are Less is);
    }

    pub passed_greater : IsOrder Greater → Passed bytes at count log low middle
    passed_greater is = record {
      order = from;
      within = omega (arith, lt, p.within);
      missed = λ list are. missed_greater (as_blocks list) log (blocks_sorted bytes at count list are) low high middle (as_block (there list are))
          (omega (arith, inside list are, length-map list as_block)) (is_block list are) (p.missed list are) (order_is list are Greater is);
    }

    pub one_of_log : IsOrder Equal → (r : Range) → ((q : Range) → RangeFits q → Stands bytes (at + 48 * middle) (range_text q) → r ≡ q)
        → (list : List Range) → AreRangesAt bytes at count list → Some r ≡ find (λ q. bytes_eq q.log log) list
    one_of_log is r read list are =
        let lies = inside list are in
        let is_read : (d : Range) → r ≡ get_or list middle d
        = λ d. let s = stands_range bytes at count list middle d are (omega (arith, lt, p.within)) in read (get_or list middle d) s.0 s.1 in
        let e : slice_cmp nat_cmp r.log log ≡ Equal
        = ap (λ (q : Range). slice_cmp nat_cmp q.log log) (is_read no_range) ∙ order_is list are Equal is in
        let same : (get_or list middle r).log ≡ log = ap (λ (q : Range). q.log) (sym (is_read r)) ∙ exact_bytes r.log log e in
        ap Some (is_read r) ∙ sym (find_here (λ q. bytes_eq q.log log) list middle r lies
        (λ k d less.
        let below : slice_cmp nat_cmp (get_or list k d).log log ≡ Less
        = ap (slice_cmp nat_cmp (get_or list k d).log) (sym same)
        ∙ ap (λ (q : Range). slice_cmp nat_cmp (get_or list k d).log q.log) (sym (is_read r) ∙ is_read d)
        ∙ sym (ap (λ (b : Block). block_cmp b (get_or (as_blocks list) middle (as_block d))) (block_at list k d (omega (arith, less, lies)))
        ∙ ap (block_cmp (as_block (get_or list k d))) (block_at list middle d lies))
        ∙ Less-from_sorted block_cmp (as_blocks list) k middle (as_block d) (blocks_sorted bytes at count list are) less (omega (arith, lies, length-map list as_block)) in
        sym (is_eq-slice_cmp (get_or list k d).log log) ∙ ap is_eq below)
        (subst (λ l. bytes_eq l log ≡ true) (sym same) (bytes_refl log)))

-- ---- what is asked of the one of a log

or_last : (a b : Bool) → b ≡ false → (a || b) ≡ a
or_last true b e = refl
or_last false b e = e

module _ (log : List ℕ) (f g : Range → Bool) where
  passes : Range → Bool
  passes r = bytes_eq r.log log && f r && g r

  no_other : (list : List Range) → (Among (logs list) log → ⊥) → list_any passes list ≡ false
  unfolding passes
  no_other [] h = refl
  no_other (r ∷ list) h =
      let another : bytes_eq r.log log ≡ false = false_from_ne_true (bytes_eq r.log log) (λ e. h (inl (bytes_same r.log log e))) in
      rw another (no_other list (λ a. h (inr a)))

  if_of_log : Option Range → Bool
  if_of_log o = option_map_or (λ r. f r && g r) o false

  first_or_not : (r : Range) (list : List Range) (b : Bool) → bytes_eq r.log log ≡ b → IsStrictlySortedBy octets_cmp (logs (r ∷ list))
      → list_any passes list ≡ if_of_log (find (λ q. bytes_eq q.log log) list) → list_any passes (r ∷ list) ≡ if_of_log (find (λ q. bytes_eq q.log log) (r ∷ list))
  unfolding passes if_of_log
  first_or_not r list true e sorted rest = rw e (or_last (f r && g r) (list_any passes list)
      (no_other list (λ a. not_below_itself octets_cmp nat_list_cmp_total r.log log (sorted_head octets_cmp r.log (logs list) log sorted a) (bytes_same r.log log e))))
  first_or_not r list false e sorted rest = rw e rest

  any_sorted : (list : List Range) → IsStrictlySortedBy octets_cmp (logs list) → list_any passes list ≡ if_of_log (find (λ q. bytes_eq q.log log) list)
  unfolding passes if_of_log
  any_sorted [] sorted = refl
  any_sorted (r ∷ list) sorted = first_or_not r list (bytes_eq r.log log) refl sorted (any_sorted list (sorted_tail octets_cmp r.log (logs list) sorted))

  any_of_log : (bytes : List ℕ) (at count : ℕ) (list : List Range) (o : Option Range) → AreRangesAt bytes at count list → o ≡ find (λ q. bytes_eq q.log log) list
      → option_map_or (λ r. f r && g r) o false ≡ list_any (λ r. bytes_eq r.log log && f r && g r) list
  unfolding passes if_of_log
  any_of_log bytes at count list o are e = ap if_of_log e ∙ sym (any_sorted list (logs_ascend list (ranges-ascend list are.fit)))

pub covers_by : (s : Sighting) (bytes : List ℕ) (at count : ℕ) (list : List Range) (o : Option Range) → AreRangesAt bytes at count list
    → o ≡ find (λ r. bytes_eq r.log s.log) list → option_map_or (λ r. nat_le r.from s.time && nat_le s.time r.to) o false ≡ covers list s
covers_by s = any_of_log s.log (λ r. nat_le r.from s.time) (λ r. nat_le s.time r.to)

pub lies_by : (r : Range) (bytes : List ℕ) (at count : ℕ) (list : List Range) (o : Option Range) → AreRangesAt bytes at count list
    → o ≡ find (λ outer. bytes_eq outer.log r.log) list → option_map_or (λ outer. nat_le outer.from r.from && nat_le r.to outer.to) o false ≡ lies_in_some list r
lies_by r = any_of_log r.log (λ outer. nat_le outer.from r.from) (λ outer. nat_le r.to outer.to)
