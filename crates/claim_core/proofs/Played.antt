-- Seats that take turns draw what the schedule gives to them.
use Rattle.std.proofs.Common.{◌≡◌, ◌≢◌, ℕ, zero, suc, ◌+◌, ◌*◌, ◌%◌, ◌^◌, ◌<◌, false, List, [], ◌∷◌, ◌++◌, length, map, set, get_or, replicate, All}
use Rattle.std.proofs.Common.{sym, ap, ◌∙◌, subst, arith, refl, ⊎_elim, append_assoc, length-set, get_or-set_same, eq-eqb, ne_eqb}
use Rattle.std.proofs.lemmas.List.{append-nil, length-replicate, get_or-replicate}
use Rattle.std.proofs.lemmas.List.Elements.{All-head, All-tail}
use Rattle.std.proofs.lemmas.List.Folds.{sum_by-replicate}
use mathlib.Core.Logic.{dite}
use mathlib.Core.Option.{some, some-injective, some-ne-none}
use native.Mathlib.Decide.{ℕ_discrete}
use lib.ListN.{get_elem?}
use Rattle.atomic_table.proofs.Lists.{at_set}
use Rattle.claim_core.specs.declared.rule.View.{View}
use Rattle.claim_core.specs.Numbers.{times, remainders}
use Rattle.claim_core.specs.Counting.{view_of, drawn, IsCounted}
use Rattle.claim_core.specs.Schedule.{draws, draws_from}
use Rattle.claim_core.specs.Played.{fresh, after_draw, played, drawn_by, SeatsDrawTheSchedule}
use Rattle.claim_core.proofs.Kept.{drawn_more, draw_kept}

seat_of : (views : List View) (w : ℕ) → w < length views → get_elem? views w ≡ some (get_or views w fresh)
seat_of [] w h = absurd (omega arith)
seat_of (x ∷ xs) zero h = refl
seat_of (x ∷ xs) (suc w) h = seat_of xs w (omega arith)

get_or_else : (views : List View) (i j : ℕ) (v : View) → j ≢ i → get_or (set views i v) j fresh ≡ get_or views j fresh
get_or_else [] i j v n = refl
get_or_else (x ∷ xs) zero zero v n = absurd (n refl)
get_or_else (x ∷ xs) zero (suc j) v n = refl
get_or_else (x ∷ xs) (suc i) zero v n = refl
get_or_else (x ∷ xs) (suc i) (suc j) v n = get_or_else xs i j v (λ e. n (ap suc e))

abbrev Unspent : List View → Type 0
Unspent views = (k : ℕ) (v : View) → get_elem? views k ≡ some v → v.spent ≡ false

unspent_set : (views : List View) (w : ℕ) (v : View) → Unspent views → v.spent ≡ false → Unspent (set views w v)
unspent_set views w v old mine k u e = ⊎_elim
    (λ (t : (k ≡ w) × (v ≡ u)). subst (λ (z : View). z.spent ≡ false) t.1 mine)
    (λ (t : (k ≢ w) × (get_elem? views k ≡ some u)). old k u t.1)
    (at_set views w k v u e)

-- the rule after a draw
one_kept : (views : List View) (w : ℕ) → w < length views → Unspent views → IsCounted (drawn views % 2 ^ 64 ∷ []) views
    → (IsCounted (drawn (after_draw views w) % 2 ^ 64 ∷ []) (after_draw views w)) × (drawn (after_draw views w) ≡ drawn views + 1) × Unspent (after_draw views w)
one_kept views w within unspent kept =
    let v : View = get_or views w fresh in
    let at = seat_of views w within in
    let live : v.spent ≡ false = unspent w v at in
    let next = draw_kept (drawn views % 2 ^ 64 ∷ []) views w v live at kept in
    (subst (λ ws. IsCounted ws (after_draw views w)) next.word next, drawn_more views w v (drawn views % 2 ^ 64) at, unspent_set views w _ unspent live)

-- the rule after all draws
all_kept : (schedule : List ℕ) (views : List View) (seats : ℕ) → length views ≡ seats → All (λ w. w < seats) schedule → Unspent views → IsCounted (drawn views % 2 ^ 64 ∷ []) views
    → (IsCounted (drawn (played views schedule) % 2 ^ 64 ∷ []) (played views schedule)) × (drawn (played views schedule) ≡ drawn views + length schedule)
all_kept [] views seats len within unspent kept = (kept, omega arith)
all_kept (w ∷ ws) views seats len within unspent kept =
    let here : w < seats = All-head (λ k. k < seats) w ws within in
    let one = one_kept views w (omega arith) unspent kept in
    let all = all_kept ws (after_draw views w) seats (length-set views w _ ∙ len) (All-tail (λ k. k < seats) w ws within) one.2 one.0 in
    (all.0, omega (arith, all.1, one.1))

drawn_first : (w t : ℕ) (ws : List ℕ) → drawn_by w (draws_from t (w ∷ ws)) ≡ t ∷ drawn_by w (draws_from (suc t) ws)
drawn_first w t ws = rw (eq-eqb w w refl) refl

drawn_else : (w s t : ℕ) (ws : List ℕ) → s ≢ w → drawn_by w (draws_from t (s ∷ ws)) ≡ drawn_by w (draws_from (suc t) ws)
drawn_else w s t ws other = rw (ne_eqb s w other) refl

abbrev rem : ℕ → ℕ
rem n = n % 2 ^ 64

-- what one seat has after all draws
seat_has : (schedule : List ℕ) (views : List View) (seats t w : ℕ) → length views ≡ seats → drawn views ≡ t → All (λ k. k < seats) schedule → w < seats
    → (get_or (played views schedule) w fresh).numbers ≡ (get_or views w fresh).numbers ++ map rem (drawn_by w (draws_from t schedule))
seat_has [] views seats t w len count within here = sym (append-nil _)
seat_has (s ∷ ss) views seats t w len count within here =
    let first : s < seats = All-head (λ k. k < seats) s ss within in
    let v : View = get_or views s fresh in
    let v' : View = view_of v.spent (v.numbers ++ drawn views % 2 ^ 64 ∷ []) in
    let more : drawn (after_draw views s) ≡ suc t = drawn_more views s v (drawn views % 2 ^ 64) (seat_of views s (omega arith)) ∙ omega arith in
    let rest = seat_has ss (after_draw views s) seats (suc t) w (length-set views s v' ∙ len) more (All-tail (λ k. k < seats) s ss within) here in
    let later : List ℕ = map rem (drawn_by w (draws_from (suc t) ss)) in
    rest ∙ dite (ℕ_discrete s w)
    (λ e. let is : get_or (after_draw views s) w fresh ≡ v' = subst (λ k. get_or (set views s v') k fresh ≡ v') e (get_or-set_same views s v' fresh (omega arith)) in
    ap (λ (u : View). u.numbers ++ later) is
    ∙ append_assoc v.numbers (drawn views % 2 ^ 64 ∷ []) later
    ∙ ap (λ k. v.numbers ++ rem k ∷ later) count
    ∙ ap (λ l. v.numbers ++ map rem l) (sym (subst (λ k. drawn_by w (draws_from t (k ∷ ss)) ≡ t ∷ drawn_by w (draws_from (suc t) ss)) (sym e) (drawn_first w t ss)))
    ∙ ap (λ k. (get_or views k fresh).numbers ++ map rem (drawn_by w (draws_from t (s ∷ ss)))) e)
    (λ ne. ap (λ (u : View). u.numbers ++ later) (get_or_else views s w v' (λ h. ne (sym h)))
    ∙ ap (λ l. (get_or views w fresh).numbers ++ map rem l) (sym (drawn_else w s t ss ne)))

fresh_drawn : (seats : ℕ) → drawn (replicate seats fresh) ≡ 0
fresh_drawn seats = sum_by-replicate (λ (v : View). length v.numbers) seats fresh ∙ omega arith

fresh_numbers : (seats k : ℕ) (v : View) → get_elem? (replicate seats fresh) k ≡ some v → v ≡ fresh
fresh_numbers zero k v e = absurd (some-ne-none v (sym e))
fresh_numbers (suc seats) zero v e = sym (some-injective fresh v e)
fresh_numbers (suc seats) (suc k) v e = fresh_numbers seats k v e

fresh_counted : (seats : ℕ) → IsCounted (drawn (replicate seats fresh) % 2 ^ 64 ∷ []) (replicate seats fresh)
fresh_counted seats = record {
  word = refl;
  numbers = λ x.
      sum_by-replicate (λ (v : View). times x v.numbers) seats fresh ∙ (let zero_times : seats * times x [] ≡ 0 = omega arith in zero_times)
      ∙ ap (λ n. times x (remainders n)) (sym (fresh_drawn seats));
  spent = λ k v e _. ap (λ (u : View). u.numbers) (fresh_numbers seats k v e);
}

pub seats_draw : SeatsDrawTheSchedule
seats_draw seats schedule within =
    let views : List View = replicate seats fresh in
    let len : length views ≡ seats = length-replicate seats fresh in
    let kept = all_kept schedule views seats len within (λ k v e. ap (λ (u : View). u.spent) (fresh_numbers seats k v e)) (fresh_counted seats) in
    let count : drawn (played views schedule) ≡ length schedule = kept.1 ∙ ap (λ n. n + length schedule) (fresh_drawn seats) ∙ omega arith in (
      subst (λ n. IsCounted (n % 2 ^ 64 ∷ []) (played views schedule)) count kept.0,
      λ w here. seat_has schedule views seats 0 w len (fresh_drawn seats) within here
          ∙ ap (λ (u : View). u.numbers ++ map rem (drawn_by w (draws schedule))) (get_or-replicate seats w fresh fresh here),
    )
