-- Ranges whose logs ascend: at most one of a log.
use Rattle.std.specs.List.{AllByRecursion, slice_get}
use Rattle.std.specs.List.Sorted.{IsStrictlySortedBy}
use Rattle.std.specs.Str.{bytes_eq}
use Rattle.std.specs.declared.cmp.Ordering.{Ordering}
use Rattle.std.specs.declared.cmp.Ordering.TheVariants.{Less, Equal, Greater}
use Rattle.std.specs.Ordering.{is_lt}
use Rattle.std.proofs.Common.{◌≡◌, ℕ, zero, suc, ◌&&◌, ◌||◌, List, [], ◌∷◌, map, Bool, true, false, Some, nat_le, inl, inr, get_or, refl, ap, ◌∙◌, subst}
use Rattle.std.proofs.lemmas.Bool.{false_from_ne_true}
use Rattle.std.proofs.lemmas.Cmp.{nat_list_cmp_total}
use Rattle.std.proofs.lemmas.Map.Lookups.{exact_bytes}
use Rattle.octets_core.specs.Linked.{Linked}
use Rattle.ident_core.specs.declared.range.Range.{Range}
use Rattle.ident_core.specs.declared.range.Sighting.{Sighting}
use Rattle.ident_core.specs.Coverage.{IsRangeAfter, AreRanges, is_within, covers}
use Rattle.ident_core.specs.Order.{octets_cmp}
use Rattle.ident_core.specs.Among.{Among}
use Rattle.ident_core.proofs.Sets.{bytes_same, bytes_refl}
use Rattle.ident_core.proofs.Order.{sorted_head, sorted_tail, not_below_itself, all_weaker}
use Rattle.ident_core.proofs.Elements.{Among-from_place, Among-in_map, some_item}

abbrev pub log_of : Range → List ℕ
log_of r = r.log

abbrev pub logs : List Range → List (List ℕ)
logs ranges = map log_of ranges

abbrev pub of_log : List ℕ → Range
of_log log = record { log = log; from = 0; to = 0 }

less_from : (o : Ordering) → is_lt o ≡ true → o ≡ Less
less_from Less e = refl
less_from Equal e = cc
less_from Greater e = cc

above : (log : List ℕ) (ranges : List Range) → Linked IsRangeAfter (λ previous r. Some r.log) (Some log) ranges
    → AllByRecursion (λ k. octets_cmp log k ≡ Less) (logs ranges) × IsStrictlySortedBy octets_cmp (logs ranges)
unfolding IsStrictlySortedBy
above log [] linked = (tt, tt)
above log (r ∷ ranges) linked =
    let less : octets_cmp log r.log ≡ Less = less_from (octets_cmp log r.log) linked.0.0 in
    let rest = above r.log ranges linked.1 in (
      (less, all_weaker (λ k. octets_cmp r.log k ≡ Less) (λ k. octets_cmp log k ≡ Less) (λ k l. nat_list_cmp_total.trans log r.log k less l) (logs ranges) rest.0),
      (rest.0, rest.1),
    )

pub logs_ascend : (ranges : List Range) → AreRanges ranges → IsStrictlySortedBy octets_cmp (logs ranges)
unfolding IsStrictlySortedBy
logs_ascend [] linked = tt
logs_ascend (r ∷ ranges) linked = let rest = above r.log ranges linked.1 in (rest.0, rest.1)

and_last : (a b c : Bool) → a ≡ true → (a && b && c) ≡ (b && c)
and_last a b c e = rw e refl

and_none : (a b c : Bool) → a ≡ false → (a && b && c) ≡ false
and_none a b c e = rw e refl

or_last : (a b : Bool) → b ≡ false → (a || b) ≡ a
or_last true b e = refl
or_last false b e = e

another_log : (s : Sighting) (r : Range) → (r.log ≡ s.log → ⊥) → is_within s r ≡ false
another_log s r h =
    and_none (bytes_eq r.log s.log) (nat_le r.from s.time) (nat_le s.time r.to) (false_from_ne_true (bytes_eq r.log s.log) (λ e. h (bytes_same r.log s.log e)))

-- a range of the sighting's log covers it by its ends alone
pub within_log : (s : Sighting) (r : Range) → r.log ≡ s.log → is_within s r ≡ (nat_le r.from s.time && nat_le s.time r.to)
within_log s r log = and_last (bytes_eq r.log s.log) (nat_le r.from s.time) (nat_le s.time r.to) (subst (λ k. bytes_eq r.log k ≡ true) log (bytes_refl r.log))

-- the log of the range that a search finds
pub log_found : (ranges : List Range) (log : List ℕ) (i : ℕ) (r : Range) → r ≡ get_or ranges i r → ((d : Range) → octets_cmp (get_or ranges i d).log log ≡ Equal) → r.log ≡ log
log_found ranges log i r is found = exact_bytes r.log log (ap (λ (q : Range). octets_cmp q.log log) is ∙ found r)

-- no range has the sighting's log
pub none_covers : (ranges : List Range) (s : Sighting) → (Among (logs ranges) s.log → ⊥) → covers ranges s ≡ false
none_covers [] s h = refl
none_covers (r ∷ ranges) s h =
    let f : is_within s r ≡ false = another_log s r (λ e. h (inl e)) in
    rw f (none_covers ranges s (λ a. h (inr a)))

among_log : (ranges : List Range) (s : Sighting) (r : Range) (i : ℕ) → slice_get ranges i ≡ Some r → r.log ≡ s.log → Among (logs ranges) s.log
among_log ranges s r i at log = subst (Among (logs ranges)) log (Among-in_map log_of ranges r (Among-from_place ranges i r at))

-- the range at a place has the sighting's log
pub one_covers : (ranges : List Range) (s : Sighting) (r : Range) (i : ℕ) → IsStrictlySortedBy octets_cmp (logs ranges) → slice_get ranges i ≡ Some r → r.log ≡ s.log
    → covers ranges s ≡ (nat_le r.from s.time && nat_le s.time r.to)
one_covers [] s r i sorted at log = absurd cc
one_covers (q ∷ ranges) s r zero sorted at log =
    let is : q ≡ r = some_item q r at in
    or_last (is_within s q) (covers ranges s)
    (none_covers ranges s (λ a. not_below_itself octets_cmp nat_list_cmp_total q.log s.log (sorted_head octets_cmp q.log (logs ranges) s.log sorted a) (ap log_of is ∙ log)))
    ∙ ap (is_within s) is
    ∙ within_log s r log
one_covers (q ∷ ranges) s r (suc i) sorted at log =
    let f : is_within s q ≡ false = another_log s q
    (λ e. not_below_itself octets_cmp nat_list_cmp_total q.log s.log (sorted_head octets_cmp q.log (logs ranges) s.log sorted (among_log ranges s r i at log)) e) in
    rw f (one_covers ranges s r i (sorted_tail octets_cmp q.log (logs ranges) sorted) at log)
