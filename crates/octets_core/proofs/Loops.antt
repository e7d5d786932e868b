-- Texts of items, written one after the other, and what each item keeps.
use Rattle.std.proofs.Common.{◌≡◌, ℕ, suc, ◌+◌, ◌<◌, List, [], ◌∷◌, ◌++◌, length, take, get_or, sym, subst, ap, ◌∙◌, append_assoc, arith}
use Rattle.std.specs.Prelude.{All, flat_map}
use Rattle.std.proofs.lemmas.List.{append-nil, take_more}
use Rattle.std.proofs.lemmas.List.Elements.{All-more}
use Rattle.std.proofs.lemmas.Grind.{flat_map-append}
use Rattle.octets_core.specs.Linked.{Linked}

pub flat_map-more : {X : Type 0} (text : X → List ℕ) (xs : List X) (i : ℕ) (x : X) → i < length xs → x ≡ get_or xs i x → flat_map text (take (i + 1) xs) ≡ flat_map text (take i xs) ++ text x
flat_map-more {X} text xs i x lt is =
    ap (flat_map text) (take_more xs i x lt)
    ∙ ap (λ (y : X). flat_map text (take i xs ++ y ∷ [])) (sym is)
    ∙ flat_map-append text (take i xs) (x ∷ [])
    ∙ ap (λ (l : List ℕ). flat_map text (take i xs) ++ l) (append-nil (text x))

-- one text more was appended
pub appended-more : {X : Type 0} (text : X → List ℕ) (xs : List X) (i : ℕ) (x : X) (first before now : List ℕ) → i < length xs → x ≡ get_or xs i x
    → before ≡ first ++ flat_map text (take i xs) → now ≡ before ++ text x → now ≡ first ++ flat_map text (take (i + 1) xs)
appended-more text xs i x first before now lt is so_far one =
    one ∙ ap (λ (l : List ℕ). l ++ text x) so_far
    ∙ append_assoc first (flat_map text (take i xs)) (text x)
    ∙ ap (λ (l : List ℕ). first ++ l) (sym (flat_map-more text xs i x lt is))

pub all-more : {X : Type 0} (P : X → Type 0) (xs : List X) (i : ℕ) (x : X) → i < length xs → x ≡ get_or xs i x → All P (take i xs) → P x → All P (take (i + 1) xs)
all-more P xs i x lt is all one = All-more P xs i x lt all (subst P is one)

-- each item has a fact of its own beside that of its place
pub Linked-with : {S X : Type 0} (P : S → X → Type 0) (Q : X → Type 0) (next : S → X → S) (s : S) (xs : List X) → Linked P next s xs → All Q xs → Linked (λ t x. P t x × Q x) next s xs
Linked-with P Q next s [] linked all = tt
Linked-with P Q next s (x ∷ xs) linked all =
    ((linked.0, all 0 x (omega arith)), Linked-with P Q next (next s x) xs linked.1 (λ k d lt. all (suc k) d (omega arith)))
