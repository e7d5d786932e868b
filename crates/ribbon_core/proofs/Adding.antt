-- What the contracts of `new` and `add` say, over the fields of a system.
use Rattle.std.proofs.Common.{◌≡◌, ℕ, ◌+◌, ◌-◌, ◌/◌, ◌^◌, ◌<◌, ◌≤◌, ◌↔◌, inr, refl, arith, List, length, replicate, take, drop, ◌++◌, Result, Ok, Err}
use Rattle.std.specs.Prelude.{bit_and, OnOk, OnErr, IsErr}
use Rattle.std.specs.Int.{bit_at}
use Rattle.std.proofs.lemmas.List.{take_at, length-replicate, get_or-replicate}
use Rattle.std.proofs.lemmas.Bool.{false≢true}
use Rattle.std.proofs.Math.Pow.{pow_mono, pow_pos}
use Rattle.ribbon_core.specs.PlaneWords.{kept_length}
use Rattle.ribbon_core.specs.Equations.{Equation, equation_at, parity, Solves, SolvesAll}
use Rattle.ribbon_core.specs.Bands.{SolvesBands, AreBanded, solution_from}
use Rattle.ribbon_core.specs.Kept.{kept_from, IsSystem}
use Rattle.equation_core.specs.Sizes.{words_for}
use Rattle.ribbon_core.proofs.KeptEquations.{kept_solves}
use Rattle.ribbon_core.proofs.Solution.{solution_solves}

above : (a b c : ℕ) → a < b → b ≤ c → a < c
above a b c h k = omega arith

pub within_columns : (coeff start starts n : ℕ) → coeff < 2 ^ 128 → start < starts → n ≡ starts + 127 → coeff < 2 ^ (n - start)
within_columns coeff start starts n lt before e =
    let h : 128 ≤ n - start = omega arith in
    let p : 2 ^ 128 ≤ 2 ^ (n - start) = pow_mono h in
    above coeff (2 ^ 128) (2 ^ (n - start)) lt p

pub empty_banded : (n planes : ℕ) → AreBanded (replicate n 0) (replicate n 0) planes
empty_banded n planes =
    let l : length (replicate {A = ℕ} n 0) ≡ n = length-replicate n 0 in
    record {
      same_length = refl;
      pivots = λ p lt. let k : p < n = omega (arith, l) in rw get_or-replicate (inr (refl, refl));
      within = λ p lt. let k : p < n = omega (arith, l) in rw get_or-replicate (pow_pos (length (replicate n 0) - p));
      few_planes = λ p lt. let k : p < n = omega (arith, l) in rw get_or-replicate (pow_pos planes);
    }

module _ (planes : ℕ) (cs ts cs' ts' : List ℕ) (start coeff target : ℕ) (es : List Equation) (same : es ≡ kept_from 0 cs ts)
    (bands : AreBanded cs ts planes) (bands' : AreBanded cs' ts' planes) where
  abbrev pub Both : ℕ → ℕ → Type 0
  Both plane Z = SolvesBands plane cs ts Z × (parity (bit_and coeff (Z / 2 ^ start)) ≡ bit_at target plane)

  pub kept_both : (plane Z : ℕ) → SolvesBands plane cs' ts' Z ↔ Both plane Z
      → SolvesAll plane (kept_from 0 cs' ts') Z ↔ (SolvesAll plane es Z × Solves plane (equation_at start coeff target) Z)
  kept_both plane Z h =
      let k = kept_solves plane planes Z cs ts bands in
      let k' = kept_solves plane planes Z cs' ts' bands' in
      rw same (λ s. let b = h.0 (k'.0 s) in (k.1 b.0, b.1), λ s. k'.1 (h.1 (k.0 s.0, s.1)))

  pub unsolvable : (plane : ℕ) → ((Z : ℕ) → SolvesBands plane cs ts Z → parity (bit_and coeff (Z / 2 ^ start)) ≡ bit_at target plane → ⊥)
      → (Z : ℕ) → SolvesAll plane es Z → Solves plane (equation_at start coeff target) Z → ⊥
  unsolvable plane h Z s e = h Z ((kept_solves plane planes Z cs ts bands).0 (rw same at s)) e

  -- after an Ok each plane has a solution
  pub has_solution : ((plane Z : ℕ) → SolvesBands plane cs' ts' Z ↔ Both plane Z) → (plane : ℕ)
      → ((Z : ℕ) → SolvesAll plane es Z → Solves plane (equation_at start coeff target) Z → ⊥) → ⊥
  has_solution h plane refuse =
      let Z : ℕ = solution_from plane cs' ts' 0 (length cs') in
      let b = (h plane Z).0 (solution_solves plane planes cs' ts' bands') in
      refuse Z (rw same ((kept_solves plane planes Z cs ts bands).1 b.0)) b.1

  pub exactly : {T E : Type 0} (r : Result T E) → OnOk r ((plane Z : ℕ) → SolvesBands plane cs' ts' Z ↔ Both plane Z)
      → OnErr r ((plane : ℕ) × (plane < planes) × ((Z : ℕ) → SolvesBands plane cs ts Z → parity (bit_and coeff (Z / 2 ^ start)) ≡ bit_at target plane → ⊥))
      → IsErr r ↔ ((plane : ℕ) × (plane < planes) × ((Z : ℕ) → SolvesAll plane es Z → Solves plane (equation_at start coeff target) Z → ⊥))
  exactly (Ok x) ok err = (λ e. absurd (false≢true e), λ p. absurd (has_solution ok p.0 p.2))
  exactly (Err x) ok err = (λ e. (err.0, err.1, unsolvable err.0 err.2), λ p. refl)

  pub keeps : {T E : Type 0} (r : Result T E) → OnOk r ((plane Z : ℕ) → SolvesBands plane cs' ts' Z ↔ Both plane Z)
      → OnOk r ((plane Z : ℕ) → SolvesAll plane (kept_from 0 cs' ts') Z ↔ (SolvesAll plane es Z × Solves plane (equation_at start coeff target) Z))
  keeps (Ok x) ok = λ plane Z. kept_both plane Z (ok plane Z)
  keeps (Err x) ok = ok

-- what a slice of a whole Vec leaves there
pub written_back : (len : ℕ) (new old : List ℕ) → length new ≡ length old → len ≡ length old → take len (new ++ drop (length new) old) ≡ new
written_back len new old e f = take_at new (drop (length new) old) len (omega arith)

pub new_system : (starts planes : ℕ) (cs ts words : List ℕ) → 1 ≤ starts → starts ≤ 4718593 → 1 ≤ planes → planes ≤ 16
    → cs ≡ replicate (starts + 127) 0 → ts ≡ replicate (starts + 127) 0 → words ≡ replicate (kept_length planes (words_for starts)) 0 → IsSystem starts planes cs ts words
new_system starts planes cs ts words a b c d e f g = record {
  some_starts = a;
  few_starts = b;
  some_planes = c;
  few_planes = d;
  columns = rw e (length-replicate (starts + 127) 0);
  bands = rw (e, f) (empty_banded (starts + 127) planes);
  room = rw g (length-replicate (kept_length planes (words_for starts)) 0);
}
