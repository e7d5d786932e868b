-- Coverage that lies within another: the fact and its test.
use Rattle.std.proofs.Common.{◌≡◌, ◌↔◌, ℕ, zero, suc, Bool, true, false, not, ◌&&◌, cond, List, [], ◌∷◌, Option, Some, refl, sym, subst, arith}
use Rattle.std.specs.Prelude.{Any, find, nat_le, IsNone}
use Rattle.std.specs.Option.{option_map}
use Rattle.std.specs.Str.{bytes_eq}
use Rattle.std.proofs.lemmas.Bool.{and_parts, and_from, leb-true, le-leb}
use Rattle.std.proofs.lemmas.List.Folds.{Any-from_list_any, list_any-from_Any}
use Rattle.std.proofs.lemmas.Slice.Eq.{bytes_eq-Decides}
use Rattle.ident_core.specs.declared.range.Range.{Range}
use Rattle.ident_core.specs.Coverage.{LiesIn, LiesWithin, lies_in, lies_in_some, first_outside}

lies : (r outer : Range) → lies_in r outer ≡ true → LiesIn r outer
lies r outer h =
    let a = and_parts (bytes_eq outer.log r.log && nat_le outer.from r.from) (nat_le r.to outer.to) h in
    let b = and_parts (bytes_eq outer.log r.log) (nat_le outer.from r.from) a.0 in
    record { log = (bytes_eq-Decides outer.log r.log).0 b.0; from = leb-true _ _ b.1; to = leb-true _ _ a.1 }

lies-test : (r outer : Range) → LiesIn r outer → lies_in r outer ≡ true
lies-test r outer h =
    and_from _ _ (and_from _ _ ((bytes_eq-Decides outer.log r.log).1 h.log) (le-leb outer.from r.from h.from)) (le-leb r.to outer.to h.to)

some-lies : (new : List Range) (r : Range) → lies_in_some new r ≡ true → Any (LiesIn r) new
some-lies new r h = let (k, x, lt, is, p) = Any-from_list_any (lies_in r) new h in (k, x, lt, is, lies r x p)

some-test : (new : List Range) (r : Range) → Any (LiesIn r) new → lies_in_some new r ≡ true
some-test new r (k, x, lt, is, p) = list_any-from_Any (lies_in r) new (k, x, lt, is, lies-test r x p)

one-outside : (new : List Range) (r : Range) (rs : List Range) (b : Bool) → lies_in_some new r ≡ b
    → IsNone (option_map (λ (x : Range). x.log) (cond (not b) (Some r) (find (λ (x : Range). not (lies_in_some new x)) rs)))
    → (b ≡ true) × IsNone (first_outside rs new)
one-outside new r rs true is none = (refl, none)
one-outside new r rs false is none = absurd cc

at_each : (new : List Range) (r : Range) (rs : List Range) → lies_in_some new r ≡ true → LiesWithin rs new → LiesWithin (r ∷ rs) new
at_each new r rs one rest zero d lt = some-lies new r one
at_each new r rs one rest (suc k) d lt = rest k d (omega arith)

none-within : (new old : List Range) → IsNone (first_outside old new) → LiesWithin old new
none-within new [] none = λ k d lt. absurd (omega arith)
none-within new (r ∷ rs) none =
    let one = one-outside new r rs (lies_in_some new r) refl none in
    at_each new r rs one.0 (none-within new rs one.1)

within-none : (new old : List Range) → LiesWithin old new → IsNone (first_outside old new)
within-none new [] within = refl
within-none new (r ∷ rs) within =
    let one : lies_in_some new r ≡ true = some-test new r (within 0 r (omega arith)) in
    rw one (within-none new rs (λ k d lt. within (suc k) d (omega arith)))

-- no log is answered exactly where the old coverage lies within the new
pub within-iff : (old new : List Range) (r : Option (List ℕ)) → r ≡ first_outside old new → (IsNone r ↔ LiesWithin old new)
within-iff old new r is = (λ none. none-within new old (subst (λ (o : Option (List ℕ)). IsNone o) is none), λ within. subst (λ (o : Option (List ℕ)). IsNone o) (sym is) (within-none new old within))
