-- The greatest date of a list: that of its elements, in whatever order they come, and found from the left.
use Rattle.std.proofs.Common.{◌≡◌, ◌⊎◌, inl, inr, ⊎_elim, List, [], ◌∷◌, ◌++◌, cond, Bool, true, false, Option, Some, None, refl, sym, ap, ◌∙◌, subst, arith}
use Rattle.std.specs.Prelude.{ℤ, ◌≤ℤ◌, fold, int_lt, IfSome}
use Rattle.std.proofs.lemmas.Int.{ints, clamps}
use Rattle.std.specs.Int.{int_max}
use Rattle.std.specs.Option.{option_map, option_flatten}
use Rattle.std.specs.Int.Signed.{≤ℤ_refl}
use Rattle.ident_core.specs.Among.{Among}
use Rattle.ledger_core.specs.declared.fields.LedgerItem.{LedgerItem}
use Rattle.universe_core.specs.Dates.{later_of, greatest, IsGreatest}
use Rattle.universe_core.specs.Ledgers.{old_dates}
use Rattle.universe_core.specs.Judging.{with_date}

le_same : (a b : ℤ) → a ≤ℤ b → b ≤ℤ a → a ≡ b
le_same a b h k = omega (arith, ints, h, k)

le_both : (a b c : ℤ) → a ≤ℤ b → b ≤ℤ c → a ≤ℤ c
le_both a b c h k = omega (arith, ints, h, k)

max_left : (a b : ℤ) → a ≤ℤ int_max a b
max_left a b = omega (arith, ints, clamps)

max_right : (a b : ℤ) → b ≤ℤ int_max a b
max_right a b = omega (arith, ints, clamps)

max_cases : (b : Bool) (x y : ℤ) → (cond b x y ≡ x) ⊎ (cond b x y ≡ y)
max_cases true x y = inl refl
max_cases false x y = inr refl

some_same : (a b : ℤ) → ◌≡◌ {A = Option ℤ} (Some a) (Some b) → a ≡ b
some_same a b h = cc

none_first : (d : Option ℤ) (ds : List (Option ℤ)) (r : Option ℤ) → IsGreatest (None ∷ ds) r → IsGreatest (None ∷ d ∷ ds) r
none_first d ds None h = inr (inl refl)
none_first d ds (Some e) h = let n = h.1 None (inl refl) in absurd (let c : ◌≡◌ {A = Option ℤ} None (Some n.0) = n.1 in cc)

none_second : (a : ℤ) (ds : List (Option ℤ)) (r : Option ℤ) → IsGreatest (None ∷ ds) r → IsGreatest (Some a ∷ None ∷ ds) r
none_second a ds None h = inr (inr (inl refl))
none_second a ds (Some e) h = let n = h.1 None (inl refl) in absurd (let c : ◌≡◌ {A = Option ℤ} None (Some n.0) = n.1 in cc)

reached : (a b e : ℤ) (ds : List (Option ℤ)) → Among (Some (int_max a b) ∷ ds) (Some e) → Among (Some a ∷ Some b ∷ ds) (Some e)
reached a b e ds (inl h) =
    ⊎_elim (λ x. inl (ap (λ (z : ℤ). Some z) (sym x) ∙ h)) (λ y. inr (inl (ap (λ (z : ℤ). Some z) (sym y) ∙ h))) (max_cases (int_lt b a) a b)
reached a b e ds (inr m) = inr (inr m)

bounded : (a b e : ℤ) (ds : List (Option ℤ)) → ((d : Option ℤ) → Among (Some (int_max a b) ∷ ds) d → (f : ℤ) × (d ≡ Some f) × (f ≤ℤ e))
    → (d : Option ℤ) → Among (Some a ∷ Some b ∷ ds) d → (f : ℤ) × (d ≡ Some f) × (f ≤ℤ e)
bounded a b e ds h d (inl x) = let m = h (Some (int_max a b)) (inl refl) in
    (a, sym x, le_both a (int_max a b) e (max_left a b) (subst (λ (z : ℤ). z ≤ℤ e) (some_same m.0 (int_max a b) (sym m.1)) m.2))
bounded a b e ds h d (inr (inl x)) = let m = h (Some (int_max a b)) (inl refl) in
    (b, sym x, le_both b (int_max a b) e (max_right a b) (subst (λ (z : ℤ). z ≤ℤ e) (some_same m.0 (int_max a b) (sym m.1)) m.2))
bounded a b e ds h d (inr (inr m)) = h d (inr m)

-- the later of two, put in front of the others, stands for both
joined : (o d : Option ℤ) (ds : List (Option ℤ)) (r : Option ℤ) → IsGreatest (later_of o d ∷ ds) r → IsGreatest (o ∷ d ∷ ds) r
joined None d ds r h = none_first d ds r h
joined (Some a) None ds r h = none_second a ds r h
joined (Some a) (Some b) ds None (inl e) = absurd cc
joined (Some a) (Some b) ds None (inr (inl e)) = absurd cc
joined (Some a) (Some b) ds None (inr (inr m)) = inr (inr (inr m))
joined (Some a) (Some b) ds (Some e) h = (reached a b e ds h.0, bounded a b e ds h.1)

one : (o : Option ℤ) → IsGreatest (o ∷ []) o
one None = inr (inl refl)
one (Some a) = (inl refl, λ d m. ⊎_elim (λ (x : Some a ≡ d). (a, sym x, ≤ℤ_refl a)) (λ n. absurd n) m)

folded : (o : Option ℤ) (ds : List (Option ℤ)) → IsGreatest (o ∷ ds) (fold later_of o ds)
folded o [] = one o
folded o (d ∷ ds) = joined o d ds (fold later_of (later_of o d) ds) (folded (later_of o d) ds)

pub greatest_is : (ds : List (Option ℤ)) → IsGreatest ds (greatest ds)
unfolding greatest
greatest_is [] = inl refl
greatest_is (d ∷ ds) = folded d ds

none_in : (ds es : List (Option ℤ)) (e : ℤ) → IsGreatest ds None → IsGreatest es (Some e) → ((d : Option ℤ) → Among ds d → Among es d) → ((d : Option ℤ) → Among es d → Among ds d) → ⊥
none_in ds es e (inl n) h f g = subst (λ (xs : List (Option ℤ)). Among xs (Some e)) n (g (Some e) h.0)
none_in ds es e (inr m) h f g = let n = h.1 None (f None m) in absurd (let c : ◌≡◌ {A = Option ℤ} None (Some n.0) = n.1 in cc)

same_greatest : (ds es : List (Option ℤ)) (a b : Option ℤ) → IsGreatest ds a → IsGreatest es b → ((d : Option ℤ) → Among ds d → Among es d) → ((d : Option ℤ) → Among es d → Among ds d) → a ≡ b
same_greatest ds es None None h k f g = refl
same_greatest ds es None (Some e) h k f g = absurd (none_in ds es e h k f g)
same_greatest ds es (Some e) None h k f g = absurd (none_in es ds e k h g f)
same_greatest ds es (Some a) (Some b) h k f g =
    let x = k.1 (Some a) (f (Some a) h.0) in
    let y = h.1 (Some b) (g (Some b) k.0) in
    ap (λ (z : ℤ). Some z) (le_same a b (subst (λ (z : ℤ). z ≤ℤ b) (some_same x.0 a (sym x.1)) x.2) (subst (λ (z : ℤ). z ≤ℤ a) (some_same y.0 b (sym y.1)) y.2))

pub greatest_same : (ds es : List (Option ℤ)) → ((d : Option ℤ) → Among ds d → Among es d) → ((d : Option ℤ) → Among es d → Among ds d) → greatest ds ≡ greatest es
greatest_same ds es f g = same_greatest ds es (greatest ds) (greatest es) (greatest_is ds) (greatest_is es) f g

-- what holds of each date that is told holds of the greatest
pub greatest_keeps : (P : ℤ → Type 0) (ds : List (Option ℤ)) (o : Option ℤ) → IsGreatest ds o → ((d : Option ℤ) → Among ds d → IfSome d P) → IfSome o P
greatest_keeps P ds None h each = tt
greatest_keeps P ds (Some e) h each = each (Some e) h.0

over : (ps ds es : List (Option ℤ)) → ((d : Option ℤ) → Among ds d → Among es d) → (d : Option ℤ) → Among (ps ++ ds) d → Among (ps ++ es) d
over [] ds es f d a = f d a
over (p ∷ ps) ds es f d (inl h) = inl h
over (p ∷ ps) ds es f d (inr a) = inr (over ps ds es f d a)

-- the same behind other dates
pub greatest_behind : (ps ds es : List (Option ℤ)) → ((d : Option ℤ) → Among ds d → Among es d) → ((d : Option ℤ) → Among es d → Among ds d)
    → greatest (ps ++ ds) ≡ greatest (ps ++ es)
greatest_behind ps ds es f g = greatest_same (ps ++ ds) (ps ++ es) (over ps ds es f) (over ps es ds g)

-- ---- found from the left

found_on : (so_far : Option ℤ) (ds : List (Option ℤ)) → fold with_date (Some so_far) ds ≡ Some (fold later_of so_far ds)
found_on so_far [] = refl
found_on so_far (d ∷ ds) = found_on (later_of so_far d) ds

found_from : (ds : List (Option ℤ)) → option_flatten (fold with_date None ds) ≡ greatest ds
unfolding greatest
found_from [] = refl
found_from (d ∷ ds) = ap option_flatten (found_on d ds)

-- from the date of an item, if there is one
pub greatest_found : (old : Option LedgerItem) (ds : List (Option ℤ)) → option_flatten (fold with_date (option_map (λ i. i.until) old) ds) ≡ greatest (old_dates old ++ ds)
unfolding greatest
greatest_found None ds = found_from ds
greatest_found (Some i) ds = ap option_flatten (found_on i.until ds)
