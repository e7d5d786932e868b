-- The text of a ledger, made in pieces.
use Rattle.std.proofs.Common.{◌≡◌, ℕ, ◌<◌, List, [], ◌∷◌, ◌++◌, map, Bor, Result, Ok, Err, refl, sym, ap, subst, ◌∙◌}
use Rattle.std.specs.Prelude.{flat_map, All, IfOk, Contains}
use Rattle.std.specs.List.{AllZip}
use Rattle.std.specs.Result.{MatchResult}
use Rattle.rayon.specs.Lists.{chunks_of}
use Rattle.rayon.proofs.ToStd.{chunks_of-concat, slice-AllZip}
use Rattle.std.proofs.lemmas.Grind.{flat_map-append}
use Rattle.std.proofs.lemmas.List.Elements.{All-nil, All-append}
use Rattle.ledger_core.specs.LedgerFields.{LedgerFields}
use Rattle.ledger_core.specs.LedgerText.{item_text, head_text, body_text}

module _ {X B Y : Type 0} (f : X → List B) (P : X → Type 0) (items : Y → List B) where
  -- one behind the other, the pieces are what is made of the chunks one behind the other
  abbrev pub AreMade : List (List X) → List Y → Type 0
  AreMade chunks ys = (flat_map items ys ≡ flat_map f (flat_map (λ l. l) chunks)) × All P (flat_map (λ l. l) chunks)

module _ {X B Y : Type 0} (E : Type 0) (f : X → List B) (P : X → Type 0) (items : Y → List B) where
  -- what is made of a chunk
  abbrev pub IsMade : List X → Result Y E → Type 0
  IsMade chunk r = IfOk r (λ y. (items y ≡ flat_map f chunk) × All P chunk)

  all-made : (chunks : List (List X)) (ys : List Y) → AllZip IsMade chunks (map Ok ys) → AreMade f P items chunks ys
  all-made [] [] made = (refl, All-nil P)
  all-made [] (y ∷ ys) made = absurd made
  all-made (chunk ∷ chunks) [] made = absurd made
  all-made (chunk ∷ chunks) (y ∷ ys) made =
      let rest = all-made chunks ys made.1 in (
        ap (λ (l : List B). l ++ flat_map items ys) made.0.0 ∙ ap (λ (l : List B). flat_map f chunk ++ l) rest.0 ∙ sym (flat_map-append f chunk (flat_map (λ l. l) chunks)),
        All-append P chunk (flat_map (λ l. l) chunks) made.0.1 rest.1,
      )

  -- what chunks, each of which was lent, make of the list that was cut into them
  pub made-in-pieces : {V : Type 0} (view : V → List Y) (size : ℕ) (xs : List X) (lent : List (Bor (List X))) (rs : List (Result Y E)) (r : Result V E)
      → 0 < size → map (λ (z : Bor (List X)). z.now) lent ≡ chunks_of size xs → AllZip (λ (z : Bor (List X)) made. IsMade z.now made) lent rs
      → MatchResult r (λ v. (ys : List Y) × (rs ≡ map Ok ys) × (view v ≡ ys)) (λ e. Contains rs (Err e))
      → IfOk r (λ v. (flat_map items (view v) ≡ flat_map f xs) × All P xs)
  made-in-pieces view size xs lent rs (Ok v) pos shown made (ys, are, is) =
      let chunks = chunks_of size xs in
      let each = slice-AllZip lent chunks shown IsMade rs made in
      let all = all-made chunks ys (subst (λ (l : List (Result Y E)). AllZip IsMade chunks l) are each) in
      let whole = chunks_of-concat size xs pos in (
        ap (λ (l : List Y). flat_map items l) is ∙ all.0 ∙ ap (λ (l : List X). flat_map f l) whole,
        subst (λ (l : List X). All P l) whole all.1,
      )
  made-in-pieces view size xs lent rs (Err e) pos shown made none = tt

head-then-items : (version : ℕ) (l : LedgerFields) → head_text version l ++ flat_map (item_text version) l.items ≡ body_text version l
unfolding head_text body_text
head-then-items version l = refl

-- a piece before the items makes the text of pieces longer by its own
pub whole-text : {Y : Type 0} (items : Y → List ℕ) (version : ℕ) (l : LedgerFields) (head : Y) (rest all : List Y)
    → items head ≡ head_text version l → flat_map items rest ≡ flat_map (item_text version) l.items → all ≡ head ∷ rest
    → flat_map items all ≡ body_text version l
whole-text items version l head rest all first others is =
    ap (λ ys. flat_map items ys) is
    ∙ ap (λ (t : List ℕ). t ++ flat_map items rest) first
    ∙ ap (λ (t : List ℕ). head_text version l ++ t) others
    ∙ head-then-items version l
