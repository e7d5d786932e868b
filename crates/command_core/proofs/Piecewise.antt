-- Texts in pieces that are written one after the other.
use Rattle.std.proofs.Common.{◌≡◌, ℕ, ◌+◌, ◌<◌, List, ◌++◌, take, drop, get_or, length, Option, Vec, Result, Ok, Err, sym, ap, subst, ◌∙◌}
use Rattle.std.specs.Prelude.{OnErr}
use Rattle.std.proofs.lemmas.List.{take-append-drop}
use Rattle.std.proofs.lemmas.Grind.{flat_map-append}
use Rattle.octets_core.proofs.Loops.{flat_map-more}
use Rattle.outside_core.specs.Files.{Files, extending, Torn}
use Rattle.outside_core.proofs.Appending.{extending-twice}
use Rattle.sample_core.proofs.Moving.{Torn-behind, Torn-longer}
use Rattle.command_core.specs.Digested.{concatenated}

module _ {A : Type 0} (pieces : List (Vec ℕ A)) (i : ℕ) (piece : Vec ℕ A) (lt : i < length pieces) (is : piece ≡ get_or pieces i piece) where
  pub joined-more : concatenated (take (i + 1) pieces) ≡ concatenated (take i pieces) ++ piece.items
  joined-more = flat_map-more (λ (p : Vec ℕ A). p.items) pieces i piece lt is

  -- the pieces before it are there, and it was written behind them
  pub extending-more : (told mid new : Option Files) (name : List ℕ) → mid ≡ extending told name (concatenated (take i pieces)) → new ≡ extending mid name piece.items
      → new ≡ extending told name (concatenated (take (i + 1) pieces))
  extending-more told mid new name before one =
      one
      ∙ ap (λ (t : Option Files). extending t name piece.items) before
      ∙ extending-twice told name (concatenated (take i pieces)) piece.items
      ∙ ap (λ (l : List ℕ). extending told name l) (sym joined-more)

  -- the pieces before it are there, and the write of it failed
  pub torn-in-pieces : (told mid new : Option Files) (name : List ℕ) → mid ≡ extending told name (concatenated (take i pieces)) → Torn mid new name piece.items
      → Torn told new name (concatenated pieces)
  torn-in-pieces told mid new name before torn =
      let front = concatenated (take (i + 1) pieces) in
      let rest = concatenated (drop (i + 1) pieces) in
      let cut : Torn told new name front = subst (λ (l : List ℕ). Torn told new name l) (sym joined-more) (Torn-behind told mid new name (concatenated (take i pieces)) piece.items before torn) in
      subst (λ (l : List ℕ). Torn told new name l)
      (sym (flat_map-append (λ (p : Vec ℕ A). p.items) (take (i + 1) pieces) (drop (i + 1) pieces)) ∙ ap (λ (ps : List (Vec ℕ A)). concatenated ps) (take-append-drop (i + 1) pieces))
      (Torn-longer told new name front rest cut)

pub on-err-of : {X E P : Type 0} (r : Result X E) → P → OnErr r P
on-err-of (Ok x) p = tt
on-err-of (Err e) p = p
