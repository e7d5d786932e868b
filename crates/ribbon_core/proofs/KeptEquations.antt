-- The kept equations have the solutions of the bands.
use Rattle.std.proofs.Common.{◌≡◌, ℕ, zero, suc, ◌+◌, ◌-◌, ◌/◌, ◌%◌, ◌^◌, ◌<◌, ◌≢◌, ◌↔◌, ◌⊎◌, inl, inr, refl, ◌∙◌, arith, List, [], ◌∷◌, length, get_or, drop, replicate}
use Rattle.std.specs.Prelude.{bit_and}
use Rattle.std.specs.List.{All}
use Rattle.std.proofs.lemmas.Nat.{shl_below}
use Rattle.std.specs.Int.{bit_at}
use Rattle.std.proofs.lemmas.Bool.{cases_eq, eq-eqb, ne_eqb}
use Rattle.std.proofs.lemmas.List.{get_or-drop}
use Rattle.std.proofs.lemmas.List.Elements.{All-nil, All-cons, All-head, All-tail}
use Rattle.ribbon_core.specs.Equations.{IsEquation, parity, Solves, SolvesAll}
use Rattle.ribbon_core.specs.Bands.{SolvesBands, AreBanded}
use Rattle.ribbon_core.specs.Kept.{kept_from}
use Rattle.ribbon_core.proofs.Reduction.{free_column}

abbrev pub SolvesPivots : ℕ → ℕ → List ℕ → List ℕ → ℕ → Type 0
SolvesPivots plane at cs ts Z = (d : ℕ) → d < length cs → get_or cs d 0 ≢ 0 → parity (bit_and (get_or cs d 0) (Z / 2 ^ (at + d))) ≡ bit_at (get_or ts d 0) plane

kept_none : (at c : ℕ) (cs ts : List ℕ) → c ≡ 0 → kept_from at (c ∷ cs) ts ≡ kept_from (at + 1) cs (drop 1 ts)
unfolding kept_from
kept_none at c cs ts e = rw (eq-eqb c 0 e) refl

kept_some : (at c : ℕ) (cs ts : List ℕ) → c ≢ 0
    → kept_from at (c ∷ cs) ts ≡ record { start = at; coeff = c; targets = get_or ts 0 0 } ∷ kept_from (at + 1) cs (drop 1 ts)
unfolding kept_from
kept_some at c cs ts e = rw (ne_eqb c 0 e) refl

kept_empty : (at : ℕ) (ts : List ℕ) → kept_from at [] ts ≡ []
unfolding kept_from
kept_empty at ts = refl

one_more : (d : ℕ) → 1 + d ≡ suc d
one_more d = omega arith

from_zero : (d : ℕ) → 0 + d ≡ d
from_zero d = omega arith

column_zero : (p : ℕ) → p + 0 ≡ p
column_zero p = omega arith

column_next : (p d : ℕ) → (p + 1) + d ≡ p + suc d
column_next p d = omega arith

pivots_cons : (plane Z at c : ℕ) (cs ts : List ℕ)
    → (c ≢ 0 → parity (bit_and c (Z / 2 ^ at)) ≡ bit_at (get_or ts 0 0) plane) → SolvesPivots plane (at + 1) cs (drop 1 ts) Z
    → SolvesPivots plane at (c ∷ cs) ts Z
pivots_cons plane Z at c cs ts a b zero lt ne = rw column_zero (a ne)
pivots_cons plane Z at c cs ts a b (suc d) lt ne =
    let k = b d (omega arith) ne in rw (column_next, get_or-drop, one_more) at k

pivots_head : (plane Z at c : ℕ) (cs ts : List ℕ) → SolvesPivots plane at (c ∷ cs) ts Z → c ≢ 0 → parity (bit_and c (Z / 2 ^ at)) ≡ bit_at (get_or ts 0 0) plane
pivots_head plane Z at c cs ts s ne = let k = s 0 (omega arith) ne in rw column_zero at k

pivots_tail : (plane Z at c : ℕ) (cs ts : List ℕ) → SolvesPivots plane at (c ∷ cs) ts Z → SolvesPivots plane (at + 1) cs (drop 1 ts) Z
pivots_tail plane Z at c cs ts s d lt ne = let k = s (suc d) (omega arith) ne in rw (column_next, get_or-drop, one_more) k

pub kept_pivots : (plane Z at : ℕ) (cs ts : List ℕ) → SolvesAll plane (kept_from at cs ts) Z → SolvesPivots plane at cs ts Z
kept_pivots plane Z at [] ts s = λ d lt ne. absurd (omega arith)
kept_pivots plane Z at (c ∷ cs) ts s = elim (cases_eq c 0) [
  | inl e ↦ (pivots_cons plane Z at c cs ts (λ ne. absurd (ne e)) (kept_pivots plane Z (at + 1) cs (drop 1 ts) (rw (kept_none at c cs ts e) at s)))
  | inr ne ↦ (let s' = rw (kept_some at c cs ts ne) at s in
      pivots_cons plane Z at c cs ts (λ _. All-head (λ e. Solves plane e Z) (record { start = at; coeff = c; targets = get_or ts 0 0 }) (kept_from (at + 1) cs (drop 1 ts)) s')
      (kept_pivots plane Z (at + 1) cs (drop 1 ts) (All-tail (λ e. Solves plane e Z) (record { start = at; coeff = c; targets = get_or ts 0 0 }) (kept_from (at + 1) cs (drop 1 ts)) s')))
]

pub pivots_kept : (plane Z at : ℕ) (cs ts : List ℕ) → SolvesPivots plane at cs ts Z → SolvesAll plane (kept_from at cs ts) Z
pivots_kept plane Z at [] ts s = rw (kept_empty at ts) (All-nil (λ e. Solves plane e Z))
pivots_kept plane Z at (c ∷ cs) ts s = elim (cases_eq c 0) [
  | inl e ↦ (rw (kept_none at c cs ts e) (pivots_kept plane Z (at + 1) cs (drop 1 ts) (pivots_tail plane Z at c cs ts s)))
  | inr ne ↦ (rw (kept_some at c cs ts ne)
      (All-cons (λ e. Solves plane e Z) (record { start = at; coeff = c; targets = get_or ts 0 0 }) (kept_from (at + 1) cs (drop 1 ts))
      (pivots_head plane Z at c cs ts s ne) (pivots_kept plane Z (at + 1) cs (drop 1 ts) (pivots_tail plane Z at c cs ts s))))
]

pub kept_solves : (plane planes Z : ℕ) (cs ts : List ℕ) → AreBanded cs ts planes → SolvesAll plane (kept_from 0 cs ts) Z ↔ SolvesBands plane cs ts Z
kept_solves plane planes Z cs ts bands = (
  λ s p lt. elim (cases_eq (get_or cs p 0) 0) [
    | inl e ↦ (free_column plane planes p Z cs ts bands lt e)
    | inr ne ↦ (let k = kept_pivots plane Z 0 cs ts s p lt ne in rw from_zero at k)
  ],
  λ s. pivots_kept plane Z 0 cs ts (λ d lt ne. rw from_zero (s d lt)),
)

pub kept_of_new : (at n : ℕ) (ts : List ℕ) → kept_from at (replicate n 0) ts ≡ []
kept_of_new at zero ts = kept_empty at ts
kept_of_new at (suc n) ts = kept_none at 0 (replicate n 0) ts refl ∙ kept_of_new (at + 1) n (drop 1 ts)

-- what is kept are equations within the columns
kept_formed : (at : ℕ) (cs ts : List ℕ) → ((d : ℕ) → d < length cs → (get_or cs d 0 % 2 ≡ 1) ⊎ (get_or cs d 0 ≡ 0))
    → ((d : ℕ) → d < length cs → get_or cs d 0 < 2 ^ (length cs - d)) → All (IsEquation (length cs + at)) (kept_from at cs ts)
kept_formed at [] ts pivots within = rw (kept_empty at ts) (All-nil (IsEquation (0 + at)))
kept_formed at (c ∷ cs) ts pivots within =
    let n : length cs + (at + 1) ≡ suc (length cs) + at = omega arith in
    let rest : All (IsEquation (length cs + (at + 1))) (kept_from (at + 1) cs (drop 1 ts))
    = kept_formed (at + 1) cs (drop 1 ts) (λ d lt. pivots (suc d) (omega arith))
    (λ d lt. let h = within (suc d) (omega arith) in let e : suc (length cs) - suc d ≡ length cs - d = omega arith in rw e at h) in
    let rest' : All (IsEquation (suc (length cs) + at)) (kept_from (at + 1) cs (drop 1 ts)) = rw n at rest in
    elim (cases_eq c 0) [
      | inl e ↦ (rw (kept_none at c cs ts e) rest')
      | inr ne ↦
          (let z : suc (length cs) - 0 ≡ suc (length cs) = omega arith in
          let h = within 0 (omega arith) in
          let first : c < 2 ^ suc (length cs) = rw z at h in
          let odd : c % 2 ≡ 1 = elim (pivots 0 (omega arith)) [ inl o ↦ o | inr z ↦ absurd (ne z) ] in
          rw (kept_some at c cs ts ne)
          (All-cons (IsEquation (suc (length cs) + at)) (record { start = at; coeff = c; targets = get_or ts 0 0 }) (kept_from (at + 1) cs (drop 1 ts))
          (record { odd = odd; within = shl_below c (suc (length cs)) at first }) rest'))
    ]

pub kept_equations : (planes : ℕ) (cs ts : List ℕ) → AreBanded cs ts planes → All (IsEquation (length cs)) (kept_from 0 cs ts)
kept_equations planes cs ts bands =
    let n : length cs + 0 ≡ length cs = omega arith in
    let h = kept_formed 0 cs ts (λ d lt. elim (bands.pivots d lt) [ inl o ↦ inl o | inr e ↦ inr e.0 ]) bands.within in rw n at h
