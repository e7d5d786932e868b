-- A search by halves in blocks whose issuers ascend.
use Rattle.std.proofs.Common.{◌≡◌, ◌<◌, ◌≤◌, ◌+◌, ◌-◌, ◌*◌, ◌^◌, ℕ, zero, suc, Bool, true, false, List, [], ◌∷◌, length, get_or, Some, None, refl, sym, ap, ◌∙◌, inl, inr, arith}
use Rattle.std.specs.List.{find}
use Rattle.std.specs.Str.{bytes_eq}
use Rattle.std.specs.declared.cmp.Ordering.TheVariants.{Less, Equal, Greater}
use Rattle.std.specs.Ordering.{nat_cmp, is_eq, ordering_reverse}
use Rattle.std.specs.Cmp.Lexicographic.{slice_cmp, nat_list_cmp_total}
use Rattle.std.specs.List.Sorted.{IsStrictlySortedBy}
use Rattle.std.proofs.lemmas.Map.Keys.{Less-from_sorted}
use Rattle.std.proofs.lemmas.Map.Text.{is_eq-slice_cmp}
use Rattle.std.proofs.lemmas.Cmp.{alike_right}
use Rattle.std.proofs.lemmas.List.{get_or_default}
use Rattle.std.proofs.lemmas.Bool.{cases_lt}
use Rattle.std.proofs.Math.Nat.{mul-le-mul_left, pow-suc}
use Rattle.card_core.specs.declared.block.Block.{Block}
use Rattle.card_core.specs.Consulting.{block_of}
use Rattle.card_core.proofs.Ascending.{block_cmp}

-- the steps of a search: what is left is halved with each
pub record Halving (n before now low high : ℕ) : Type 0 where
  pub later : before ≤ now
  pub order : low ≤ high
  pub within : high ≤ n
  pub room : 2 ^ (now - before) * (high - low) ≤ n
  pub few : 2 ^ (now - before) ≤ 2 * n + 1

double : (before now : ℕ) → before ≤ now → 2 ^ (now + 1 - before) ≡ 2 * 2 ^ (now - before)
double before now le =
    let e : now + 1 - before ≡ suc (now - before) = omega arith in
    ap (λ (n : ℕ). 2 ^ n) e ∙ pow-suc 2 (now - before) ∙ omega arith

pub halved : (n before now low high low' high' : ℕ) → Halving n before now low high → low < high → low' ≤ high' → high' ≤ n → 2 * (high' - low') ≤ high - low → Halving n before (now + 1) low' high'
halved n before now low high low' high' h lt order within less =
    let e = double before now h.later in
    let one : 2 ^ (now - before) * 1 ≤ 2 ^ (now - before) * (high - low) = mul-le-mul_left (2 ^ (now - before)) (omega arith) in
    let part : 2 ^ (now - before) * (2 * (high' - low')) ≤ 2 ^ (now - before) * (high - low) = mul-le-mul_left (2 ^ (now - before)) less in
    let r = h.room in
    record {
      later = omega (arith, h.later);
      order = order;
      within = within;
      room = rw e (omega (arith, part, r));
      few = rw e (omega (arith, one, r));
    }

module _ {X : Type 0} (p : X → Bool) where
  pub find_none : (xs : List X) → ((k : ℕ) (d : X) → k < length xs → p (get_or xs k d) ≡ false) → find p xs ≡ None
  find_none [] h = refl
  find_none (x ∷ xs) h = rw (h 0 x (omega arith)) (find_none xs (λ k d lt. h (suc k) d (omega arith)))

  pub find_here : (xs : List X) (i : ℕ) (d : X) → i < length xs → ((k : ℕ) (d : X) → k < i → p (get_or xs k d) ≡ false) → p (get_or xs i d) ≡ true → find p xs ≡ Some (get_or xs i d)
  find_here [] i d lt h e = absurd (omega arith)
  find_here (x ∷ xs) zero d lt h e = rw e refl
  find_here (x ∷ xs) (suc i) d lt h e = rw (h 0 x (omega arith)) (find_here xs i d (omega arith) (λ k d lt'. h (suc k) d (omega arith)) e)

unequal_less : (a b : List ℕ) → slice_cmp nat_cmp a b ≡ Less → bytes_eq a b ≡ false
unequal_less a b e = sym (is_eq-slice_cmp a b) ∙ ap is_eq e

unequal_greater : (a b : List ℕ) → slice_cmp nat_cmp a b ≡ Greater → bytes_eq a b ≡ false
unequal_greater a b e = sym (is_eq-slice_cmp a b) ∙ ap is_eq e

equal_bytes : (a b : List ℕ) → slice_cmp nat_cmp a b ≡ Equal → bytes_eq a b ≡ true
equal_bytes a b e = sym (is_eq-slice_cmp a b) ∙ ap is_eq e

-- no block of the places holds the issuer
pub record Missed (blocks : List Block) (issuer : List ℕ) (low high : ℕ) : Type 0 where
  pub below : (k : ℕ) (d : Block) → k < low → bytes_eq (get_or blocks k d).issuer issuer ≡ false
  pub above : (k : ℕ) (d : Block) → high ≤ k → k < length blocks → bytes_eq (get_or blocks k d).issuer issuer ≡ false

module _ (blocks : List Block) (issuer : List ℕ) (sorted : IsStrictlySortedBy block_cmp blocks) (low high middle : ℕ) (b : Block)
    (within : middle < length blocks) (is : b ≡ get_or blocks middle b) (m : Missed blocks issuer low high) where
  at : (d : Block) → get_or blocks middle d ≡ b
  at d = get_or_default blocks middle d b within ∙ sym is

  pub missed_less : slice_cmp nat_cmp b.issuer issuer ≡ Less → Missed blocks issuer (middle + 1) high
  missed_less e = record {
    below = λ k d lt. unequal_less (get_or blocks k d).issuer issuer (elim (cases_lt k middle) [
      | inl less ↦ nat_list_cmp_total.trans (get_or blocks k d).issuer (get_or blocks middle d).issuer issuer
          (Less-from_sorted block_cmp blocks k middle d sorted less within) (ap (λ (x : Block). slice_cmp nat_cmp x.issuer issuer) (at d) ∙ e)
      | inr ge ↦ (let same : k ≡ middle = omega arith in ap (λ (j : ℕ). slice_cmp nat_cmp (get_or blocks j d).issuer issuer) same ∙ ap (λ (x : Block). slice_cmp nat_cmp x.issuer issuer) (at d) ∙ e)
    ]);
    above = m.above;
  }

  pub missed_greater : slice_cmp nat_cmp b.issuer issuer ≡ Greater → Missed blocks issuer low middle
  missed_greater e = record {
    below = m.below;
    above = λ k d le lt. unequal_greater (get_or blocks k d).issuer issuer (elim (cases_lt middle k) [
      | inl more ↦ (
          let back : slice_cmp nat_cmp issuer b.issuer ≡ Less = nat_list_cmp_total.antisymm issuer b.issuer ∙ ap ordering_reverse e in
          let on : slice_cmp nat_cmp b.issuer (get_or blocks k d).issuer ≡ Less
          = ap (λ (x : Block). slice_cmp nat_cmp x.issuer (get_or blocks k d).issuer) (sym (at d)) ∙ Less-from_sorted block_cmp blocks middle k d sorted more lt in
          nat_list_cmp_total.antisymm (get_or blocks k d).issuer issuer ∙ ap ordering_reverse (nat_list_cmp_total.trans issuer b.issuer (get_or blocks k d).issuer back on))
      | inr ge ↦ (let same : k ≡ middle = omega arith in ap (λ (j : ℕ). slice_cmp nat_cmp (get_or blocks j d).issuer issuer) same ∙ ap (λ (x : Block). slice_cmp nat_cmp x.issuer issuer) (at d) ∙ e)
    ]);
  }

  pub found_equal : slice_cmp nat_cmp b.issuer issuer ≡ Equal → (d : Block) → block_of issuer blocks ≡ Some (get_or blocks middle d)
  found_equal e d = find_here (λ x. bytes_eq x.issuer issuer) blocks middle d within
      (λ k d lt. unequal_less (get_or blocks k d).issuer issuer (sym (alike_right nat_list_cmp_total b.issuer issuer (get_or blocks k d).issuer e)
      ∙ ap (λ (x : Block). slice_cmp nat_cmp (get_or blocks k d).issuer x.issuer) (sym (at d)) ∙ Less-from_sorted block_cmp blocks k middle d sorted lt within))
      (equal_bytes (get_or blocks middle d).issuer issuer (ap (λ (x : Block). slice_cmp nat_cmp x.issuer issuer) (at d) ∙ e))

pub none_found : (blocks : List Block) (issuer : List ℕ) (low high : ℕ) → high ≤ low → Missed blocks issuer low high → block_of issuer blocks ≡ None
none_found blocks issuer low high le m = find_none (λ x. bytes_eq x.issuer issuer) blocks (λ k d lt. elim (cases_lt k low) [ inl less ↦ m.below k d less | inr ge ↦ m.above k d (omega arith) lt ])
