-- A sort by identity, and what a job's reading keeps.
use Rattle.std.proofs.Common.{◌≡◌, ℕ, suc, ◌<◌, ◌≤◌, List, [], ◌∷◌, length, get_or, Bool, true, false, cond, ◌&&◌, Option, Some, None, refl, sym, ap, ◌∙◌, subst, arith}
use Rattle.std.specs.Prelude.{All, IsPermutation}
use Rattle.std.specs.List.{filter_map}
use Rattle.std.specs.List.Sorted.{IsSortedBy, IsStrictlySortedBy}
use Rattle.std.specs.declared.cmp.Ordering.{Ordering}
use Rattle.std.specs.declared.cmp.Ordering.TheVariants.{Less, Equal, Greater}
use Rattle.std.specs.Ordering.{is_lt, is_gt, ordering_reverse}
use Rattle.std.proofs.lemmas.Bool.{true≢false, and_parts, and_from}
use Rattle.std.proofs.lemmas.List.Sorted.{sorted_far, All-permutation, Contains-permutation, IsPermutation-sym}
use Rattle.ident_core.specs.Among.{Among}
use Rattle.ident_core.specs.declared.range.Range.{Range}
use Rattle.ident_core.specs.Sets.{has_key}
use Rattle.ident_core.specs.Order.{identity_cmp, octets_cmp}
use Rattle.ident_core.specs.Coverage.{covers}
use Rattle.universe_core.specs.Jobs.{JobFacts, Entry, enrolled}
use Rattle.ident_core.proofs.Elements.{Among-filter_map, Among-in_filter_map, Among-map}
use Rattle.universe_core.specs.declared.read_entry.ReadEntry.{ReadEntry}
use Rattle.universe_core.specs.Merging.{IsRising}
use Rattle.universe_core.specs.Placing.{placed_cmp}
use Rattle.universe_core.specs.Reading.{if_read, IsPlaced, id_in, entry_fields, entries_of}
use Rattle.ident_core.proofs.Canonical.{all_from, Among-from_Contains, Contains-from_Among}
use Rattle.universe_core.proofs.Members.{AreRead}
use Rattle.universe_core.proofs.Placing.{placed_is, placed_ranks}
use Rattle.ident_core.proofs.Sets.{identity_total}

pub no_gt : (o : Ordering) → is_lt (ordering_reverse o) ≡ false → is_gt o ≡ false
no_gt Less h = refl
no_gt Equal h = refl
no_gt Greater h = absurd (true≢false h)

place : (es : List ReadEntry) (d : ReadEntry) → Among es d → (k : ℕ) × (k < length es) × (get_or es k d ≡ d)
place es d a = Contains-from_Among es d a

module _ (issuers : List (List ℕ)) (ranges : List Range) where
  rising_from : (es : List ReadEntry)
      → ((i j : ℕ) (d : ReadEntry) → i ≤ j → j < length es → is_lt (identity_cmp (id_in issuers (get_or es j d)) (id_in issuers (get_or es i d))) ≡ false) → IsRising (entries_of issuers ranges es)
  rising_from [] f = tt
  rising_from (e ∷ es) f = (
    all_from (λ (z : Entry). is_gt (identity_cmp (id_in issuers e) z.id) ≡ false) (entries_of issuers ranges es) (λ z a.
        let m = Among-map (entry_fields issuers ranges) es z a in
        let d : ReadEntry = m.0 in
        let p = place es d m.1 in
        let h : is_lt (identity_cmp (id_in issuers (get_or es p.0 d)) (id_in issuers e)) ≡ false = f 0 (suc p.0) d (omega arith) (omega arith) in
        let g : is_lt (identity_cmp (id_in issuers d) (id_in issuers e)) ≡ false = ap (λ (k : ReadEntry). is_lt (identity_cmp (id_in issuers k) (id_in issuers e))) (sym p.2) ∙ h in
        subst (λ (b : Entry). is_gt (identity_cmp (id_in issuers e) b.id) ≡ false) m.2
        (no_gt (identity_cmp (id_in issuers e) (id_in issuers d)) (ap is_lt (sym (identity_total.antisymm (id_in issuers d) (id_in issuers e))) ∙ g))),
    rising_from es (λ i j d l m. f (suc i) (suc j) d (omega arith) (omega arith)),
  )

  -- what is sorted by places and serials rises
  pub rising_sorted : (old es : List ReadEntry) → IsStrictlySortedBy octets_cmp issuers → All (IsPlaced issuers ranges) old → IsPermutation old es
      → IsSortedBy (λ (a b : ReadEntry). is_lt (placed_cmp a b)) es → IsRising (entries_of issuers ranges es)
  rising_sorted old es ascend placed p s =
      rising_from es (λ i j d l m.
      let there : All (IsPlaced issuers ranges) es = All-permutation (IsPlaced issuers ranges) old es p placed in
      ap is_lt (sym (placed_is issuers (get_or es j d) (get_or es i d) ascend (there j d m).issuer (there i d (omega arith)).issuer))
      ∙ sorted_far (λ (a b : ReadEntry). is_lt (placed_cmp a b)) placed_ranks es s i j d l m)

-- ---- what is read

some_left : (b : Bool) (d e : Entry) → ◌≡◌ {A = Option Entry} (cond b (Some d) None) (Some e) → (d ≡ e) × (b ≡ true)
some_left true d e h = (let q : d ≡ e = cc in q, refl)
some_left false d e h = absurd cc

read_is : (ranges : List Range) (issuers : List (List ℕ)) (q : Option Entry) (e : Entry) → if_read ranges issuers q ≡ Some e
    → (q ≡ Some e) × (covers ranges e.sighting && has_key issuers e.id.issuer ≡ true)
read_is ranges issuers None e h = absurd cc
read_is ranges issuers (Some d) e h =
    let p = some_left (covers ranges d.sighting && has_key issuers d.id.issuer) d e h in
    (ap Some p.0, subst (λ (z : Entry). covers ranges z.sighting && has_key issuers z.id.issuer ≡ true) p.0 p.1)

-- the sorted entries are those that are read
pub are_read : (job : JobFacts) (left sorted : List Entry) → left ≡ filter_map (if_read job.ranges (enrolled job)) job.entries → IsPermutation left sorted → AreRead job sorted
are_read job left sorted l p = record {
  among = λ e a.
      let c : Among left e = Among-from_Contains left e (Contains-permutation sorted left e (IsPermutation-sym left sorted p) (Contains-from_Among sorted e a)) in
      let f = Among-filter_map (if_read job.ranges (enrolled job)) job.entries e (subst (λ z. Among z e) l c) in
      let r = read_is job.ranges (enrolled job) f.0 e f.2 in
      let b = and_parts (covers job.ranges e.sighting) (has_key (enrolled job) e.id.issuer) r.1 in
      (subst (λ q. Among job.entries q) r.0 f.1, b.0, b.1);
  all = λ e a c n.
      let b : covers job.ranges e.sighting && has_key (enrolled job) e.id.issuer ≡ true = and_from (covers job.ranges e.sighting) (has_key (enrolled job) e.id.issuer) c n in
      let m : Among (filter_map (if_read job.ranges (enrolled job)) job.entries) e =
      Among-in_filter_map (if_read job.ranges (enrolled job)) job.entries (Some e) e a (ap (λ t. cond t (Some e) None) b) in
      Among-from_Contains sorted e (Contains-permutation left sorted e p (Contains-from_Among left e (subst (λ z. Among z e) (sym l) m)));
}
