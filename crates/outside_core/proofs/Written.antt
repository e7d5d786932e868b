-- What one piece after another leaves in a sink.
use Rattle.std.proofs.Common.{◌≡◌, ℕ, ◌+◌, ◌≤◌, List, ◌++◌, take, drop, length, Option, None, Some, refl, ap, ◌∙◌, append_assoc, arith, length-take, length-drop}
use Rattle.outside_core.specs.Written.{followed_by, CutShort}
use Rattle.outside_core.proofs.Files.{taken-next}

-- two pieces are one
pub followed_by-twice : (told : Option (List ℕ)) (first second : List ℕ) → followed_by (followed_by told first) second ≡ followed_by told (first ++ second)
followed_by-twice None first second = refl
followed_by-twice (Some bytes) first second = ap Some (append_assoc bytes first second)

-- a front of the next piece behind the pieces before it
pub followed_by-next : (told mid new : Option (List ℕ)) (xs piece : List ℕ) (i m n : ℕ) → piece ≡ take m (drop i xs) → n ≤ length piece
    → mid ≡ followed_by told (take i xs) → new ≡ followed_by mid (take n piece) → new ≡ followed_by told (take (i + n) xs)
followed_by-next told mid new xs piece i m n offered within before after =
    after
    ∙ ap (λ (t : Option (List ℕ)). followed_by t (take n piece)) before
    ∙ followed_by-twice told (take i xs) (take n piece)
    ∙ ap (λ (bytes : List ℕ). followed_by told bytes) (taken-next xs piece i m n offered within)

-- a piece that was cut short behind the pieces before it
pub CutShort-next : (told mid new : Option (List ℕ)) (xs piece : List ℕ) (i m : ℕ) → piece ≡ take m (drop i xs) → i ≤ length xs
    → mid ≡ followed_by told (take i xs) → CutShort mid new piece → CutShort told new xs
CutShort-next told mid new xs piece i m offered le before (k, short, after) =
    (i + k, omega (arith, length-take m (drop i xs), length-drop i xs, ap length offered), followed_by-next told mid new xs piece i m k offered short before after)
