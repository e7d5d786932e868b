-- Bytes that lie in a file.
use Rattle.std.proofs.Common.{◌≡◌, ℕ, ◌+◌, ◌-◌, ◌^◌, ◌≤◌, ◌<◌, Bool, true, false, List, [], ◌∷◌, ◌++◌, length, take, drop, refl, sym, ap, subst, ◌∙◌, arith, length-append, length-take}
use Rattle.std.proofs.Math.Seq.{take-add}
use Rattle.std.proofs.lemmas.List.{take_all, take_at, drop_at, drop-take, drop-drop, take-take}
use Rattle.std.specs.Prelude.{◌==◌}
use Rattle.outside_core.specs.Feeding.{IsWindow}
use Rattle.job_core.specs.Pulling.{Lies}

pub lies-none : (file : List ℕ) (at : ℕ) → at ≤ length file → Lies false file at []
lies-none file at room = record { within = omega (arith, room); same = refl; last = λ is. absurd cc }

pub lies-first : (ended : Bool) (file : List ℕ) (at : ℕ) (a b : List ℕ) → Lies ended file at (a ++ b) → Lies false file at a
lies-first ended file at a b l = record {
  within = omega (arith, l.within, length-append a b);
  same = sym (take_at a b (length a) refl) ∙ ap (take (length a)) l.same ∙ take-take (length a) (length (a ++ b)) (drop at file) (omega (arith, length-append a b));
  last = λ is. absurd cc;
}

pub lies-second : (ended : Bool) (file : List ℕ) (at mid : ℕ) (a b : List ℕ) → mid ≡ at + length a → Lies ended file at (a ++ b) → Lies ended file mid b
lies-second ended file at mid a b is l = record {
  within = omega (arith, l.within, length-append a b, is);
  same = sym (drop_at a b (length a) refl)
      ∙ ap (drop (length a)) (l.same ∙ ap (λ (n : ℕ). take n (drop at file)) (length-append a b))
      ∙ drop-take (length a) (length b) (drop at file)
      ∙ ap (take (length b)) (drop-drop (length a) at file)
      ∙ ap (λ (n : ℕ). take (length b) (drop n file)) (sym is);
  last = λ seen. omega (arith, l.last seen, length-append a b, is);
}

pub lies-both : (ended : Bool) (file : List ℕ) (at mid : ℕ) (a b : List ℕ) → mid ≡ at + length a → Lies false file at a → Lies ended file mid b → Lies ended file at (a ++ b)
lies-both ended file at mid a b is one two =
    let next : b ≡ take (length b) (drop (length a) (drop at file))
    = two.same ∙ ap (λ (n : ℕ). take (length b) (drop n file)) is ∙ ap (take (length b)) (sym (drop-drop (length a) at file)) in
    record {
      within = omega (arith, two.within, length-append a b, is);
      same = ap (λ (l : List ℕ). l ++ b) one.same
          ∙ ap (λ (l : List ℕ). take (length a) (drop at file) ++ l) next
          ∙ sym (take-add (length a) (length b) (drop at file))
          ∙ ap (λ (n : ℕ). take n (drop at file)) (sym (length-append a b));
      last = λ seen. omega (arith, two.last seen, length-append a b, is);
    }

-- a window lies in its file
pub lies-window : (file : List ℕ) (at : ℕ) (window : List ℕ) → IsWindow file at window → Lies false file at window
lies-window file at window is = record { within = is.within; same = is.same; last = λ seen. absurd cc }

-- the last bytes of a file
pub lies-last : (file : List ℕ) (at : ℕ) (b : List ℕ) → length file ≤ at + length b → Lies false file at b → Lies true file at b
lies-last file at b le l = record { within = l.within; same = l.same; last = λ seen. le }

-- the first byte of a window
pub lies-next : (window : List ℕ) → (length window == 0) ≡ false → (x : ℕ) × ((file : List ℕ) (at : ℕ) → IsWindow file at window → Lies false file at (x ∷ []))
lies-next [] some = absurd cc
lies-next (x ∷ window) some = (
  x,
  λ file at is. record {
    within = omega (arith, is.within);
    same = ap (take 1) is.same ∙ take-take 1 (length (x ∷ window)) (drop at file) (omega arith);
    last = λ seen. absurd cc;
  },
)

-- the bytes themselves
pub lies-self : (ended : Bool) (b : List ℕ) → Lies ended b 0 b
lies-self ended b = record { within = omega arith; same = sym (take_all (length b) b (omega arith)); last = λ seen. omega arith }

-- what lies in the part of a file that can be numbered lies in the file
pub lies-whole : (ended : Bool) (bytes b : List ℕ) → (ended ≡ true → length b < 2 ^ 64 - 1) → Lies ended (take (2 ^ 64 - 1) bytes) 0 b → Lies ended bytes 0 b
lies-whole false bytes b short l = record {
  within = omega (arith, l.within, length-take (2 ^ 64 - 1) bytes);
  same = l.same ∙ take-take (length b) (2 ^ 64 - 1) bytes (omega (arith, l.within, length-take (2 ^ 64 - 1) bytes));
  last = λ is. absurd cc;
}
lies-whole true bytes b short l =
    let le : length bytes ≤ 2 ^ 64 - 1 = omega (arith, l.last refl, short refl, length-take (2 ^ 64 - 1) bytes) in
    subst (λ (f : List ℕ). Lies true f 0 b) (take_all (2 ^ 64 - 1) bytes le) l
