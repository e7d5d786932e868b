-- What one piece after another leaves in a file, and what is left of the others.
use Rattle.std.proofs.Common.{◌≡◌, ℕ, zero, suc, ◌+◌, ◌≤◌, inl, inr, List, [], ◌∷◌, ◌++◌, take, drop, length, Option, None, Some, refl, sym, ap, ◌∙◌}
use Rattle.std.proofs.Common.{append_assoc, append-nil, arith, length-take, length-drop}
use Rattle.std.specs.Option.{option_map}
use Rattle.std.specs.FinMap.{insert}
use Rattle.outside_core.specs.Files.{Files, held, putting, appending, extending, Torn, KeepsOthers}
use Rattle.outside_core.proofs.Files.{taken-next, insert-twice, held-insert, get-other}

-- two pieces are one
pub appending-twice : (told : Option Files) (name first second : List ℕ) → appending (appending told name first) name second ≡ appending told name (first ++ second)
appending-twice None name first second = refl
appending-twice (Some files) name first second =
    ap Some (ap (λ (now : List ℕ). insert (insert files name (held files name ++ first)) name (now ++ second)) (held-insert files name (held files name ++ first))
    ∙ insert-twice files name (held files name ++ first) ((held files name ++ first) ++ second)
    ∙ ap (λ (bytes : List ℕ). insert files name bytes) (append_assoc (held files name) first second))

-- the same where the first may be empty
pub appending-extending : (told : Option Files) (name first second : List ℕ) → appending (extending told name first) name second ≡ appending told name (first ++ second)
appending-extending told name [] second = refl
appending-extending told name (x ∷ first) second = appending-twice told name (x ∷ first) second

-- the same where both may be empty
pub extending-twice : (told : Option Files) (name first second : List ℕ) → extending (extending told name first) name second ≡ extending told name (first ++ second)
extending-twice told name first [] = ap (λ (bytes : List ℕ). extending told name bytes) (sym (append-nil first))
extending-twice told name [] (y ∷ second) = refl
extending-twice told name (x ∷ first) (y ∷ second) = appending-twice told name (x ∷ first) (y ∷ second)

-- a front of the next piece behind the pieces before it
pub extending-next : (told mid new : Option Files) (name xs piece : List ℕ) (i m n : ℕ) → piece ≡ take m (drop i xs) → n ≤ length piece
    → mid ≡ extending told name (take i xs) → new ≡ extending mid name (take n piece) → new ≡ extending told name (take (i + n) xs)
extending-next told mid new name xs piece i m n offered within before after =
    after
    ∙ ap (λ (t : Option Files). extending t name (take n piece)) before
    ∙ extending-twice told name (take i xs) (take n piece)
    ∙ ap (λ (bytes : List ℕ). extending told name bytes) (taken-next xs piece i m n offered within)

-- the pieces before the one that failed
pub Torn-front : (told new : Option Files) (name xs : List ℕ) (i : ℕ) → i ≤ length xs → new ≡ extending told name (take i xs) → Torn told new name xs
Torn-front told new name xs zero le is = inl is
Torn-front told new name [] (suc i) le is = absurd (omega arith)
Torn-front told new name (x ∷ xs) (suc i) le is = inr (suc i, le, is)

-- a piece that was cut short behind the pieces before it
pub Torn-next : (told mid new : Option Files) (name xs piece : List ℕ) (i m : ℕ) → piece ≡ take m (drop i xs) → i ≤ length xs
    → mid ≡ extending told name (take i xs) → Torn mid new name piece → Torn told new name xs
Torn-next told mid new name xs piece i m offered le before (inl same) = Torn-front told new name xs i le (same ∙ before)
Torn-next told mid new name xs piece i m offered le before (inr (k, short, after)) =
    inr (
      i + k,
      omega (arith, length-take m (drop i xs), length-drop i xs, ap length offered),
      after
          ∙ ap (λ (t : Option Files). appending t name (take k piece)) before
          ∙ appending-extending told name (take i xs) (take k piece)
          ∙ ap (λ (bytes : List ℕ). appending told name bytes) (taken-next xs piece i m k offered short),
    )

-- a file that was begun and then got bytes holds exactly these
pub extending-putting : (told : Option Files) (name bytes : List ℕ) → extending (putting told name []) name bytes ≡ putting told name bytes
extending-putting told name [] = refl
extending-putting None name (x ∷ bytes) = refl
extending-putting (Some files) name (x ∷ bytes) =
    ap Some (ap (λ (now : List ℕ). insert (insert files name []) name (now ++ x ∷ bytes)) (held-insert files name [])
    ∙ insert-twice files name [] (x ∷ bytes))

-- a file that was begun and then got bytes up to a failure holds exactly a front of these
pub Torn-putting : (told new : Option Files) (name bytes : List ℕ) → Torn (putting told name []) new name bytes
    → (k : ℕ) × (k ≤ length bytes) × (new ≡ putting told name (take k bytes))
Torn-putting told new name bytes (inl same) = (0, omega arith, same)
Torn-putting None new name bytes (inr (k, short, after)) = (k, short, after)
Torn-putting (Some files) new name bytes (inr (k, short, after)) = (
  k,
  short,
  after
      ∙ ap Some (ap (λ (now : List ℕ). insert (insert files name []) name (now ++ take k bytes)) (held-insert files name [])
      ∙ insert-twice files name [] (take k bytes)),
)

-- where nothing changes, each name holds what it held
pub KeepsOthers-same : (old new : Option Files) (name : List ℕ) → new ≡ old → KeepsOthers old new name
KeepsOthers-same old new name same = λ files told. (files, same ∙ told, λ other differ. refl)

-- a write at a name changes no other
pub KeepsOthers-insert : (old new : Option Files) (name : List ℕ) (bytes : Files → List ℕ) → new ≡ option_map (λ (files : Files). insert files name (bytes files)) old → KeepsOthers old new name
KeepsOthers-insert old new name bytes is = λ files told.
    (insert files name (bytes files), is ∙ ap (λ (o : Option Files). option_map (λ (f : Files). insert f name (bytes f)) o) told, λ other differ. get-other files name (bytes files) other differ)

-- to begin a file changes no other
pub KeepsOthers-putting : (old new : Option Files) (name bytes : List ℕ) → new ≡ putting old name bytes → KeepsOthers old new name
KeepsOthers-putting old new name bytes is = KeepsOthers-insert old new name (λ _. bytes) is

-- to add to a file changes no other
pub KeepsOthers-extending : (old new : Option Files) (name bytes : List ℕ) → new ≡ extending old name bytes → KeepsOthers old new name
KeepsOthers-extending old new name [] is = KeepsOthers-same old new name is
KeepsOthers-extending old new name (x ∷ bytes) is = KeepsOthers-insert old new name (λ files. held files name ++ x ∷ bytes) is

-- nor does adding to it that failed
pub KeepsOthers-Torn : (old new : Option Files) (name bytes : List ℕ) → Torn old new name bytes → KeepsOthers old new name
KeepsOthers-Torn old new name bytes (inl same) = KeepsOthers-same old new name same
KeepsOthers-Torn old new name bytes (inr (k, short, after)) = KeepsOthers-insert old new name (λ files. held files name ++ take k bytes) after

-- what two steps keep
pub KeepsOthers-then : (old mid new : Option Files) (name : List ℕ) → KeepsOthers old mid name → KeepsOthers mid new name → KeepsOthers old new name
KeepsOthers-then old mid new name first second = λ files told.
    let a = first files told in
    let b = second a.0 a.1 in
    (b.0, b.1, λ other differ. b.2 other differ ∙ a.2 other differ)
