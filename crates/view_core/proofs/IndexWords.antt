-- How the words of an index are cut.
use Rattle.std.proofs.Common.{◌≡◌, ℕ, suc, ◌+◌, ◌-◌, ◌≤◌, List, [], ◌∷◌, ◌++◌, length, get_or, take, drop, refl, sym, ap, ◌∙◌, append_assoc, arith}
use Rattle.std.proofs.lemmas.List.{take_at, drop_at, take_all}

pub words_of_parts : (parts shards behind : List ℕ) → take (2 + length parts - 2) (parts ++ shards ++ behind) ≡ parts
words_of_parts parts shards behind =
    let n : 2 + length parts - 2 ≡ length parts = omega arith in
    ap (λ (k : ℕ). take k (parts ++ shards ++ behind)) n ∙ ap (take (length parts)) (append_assoc parts shards behind) ∙ take_at parts (shards ++ behind) (length parts) refl

pub words_of_shards : (a b : ℕ) (parts shards behind : List ℕ)
    → take (2 + length parts + length shards - (2 + length parts)) (drop (2 + length parts) (a ∷ b ∷ parts ++ shards ++ behind)) ≡ shards
words_of_shards a b parts shards behind =
    let n : 2 + length parts + length shards - (2 + length parts) ≡ length shards = omega arith in
    let m : 2 + length parts ≡ suc (suc (length parts)) = omega arith in
    ap (λ (k : ℕ). take k (drop (2 + length parts) (a ∷ b ∷ parts ++ shards ++ behind))) n
    ∙ ap (λ (k : ℕ). take (length shards) (drop k (a ∷ b ∷ parts ++ shards ++ behind))) m
    ∙ ap (λ (l : List ℕ). take (length shards) (drop (length parts) l)) (append_assoc parts shards behind)
    ∙ ap (take (length shards)) (drop_at parts (shards ++ behind) (length parts) refl)
    ∙ take_at shards behind (length shards) refl

-- three words, the places, the table, and the rest
pub words_of_next : (words own table behind rest : List ℕ) → 3 ≤ length words → get_or words 2 0 ≡ length own
    → take (length words - 3) (drop 3 words) ≡ own ++ rest → rest ≡ table ++ behind
    → words ≡ get_or words 0 0 ∷ get_or words 1 0 ∷ length own ∷ own ++ table ++ behind
words_of_next [] own table behind rest some len is then = absurd (omega arith)
words_of_next (x ∷ []) own table behind rest some len is then = absurd (omega arith)
words_of_next (x ∷ y ∷ []) own table behind rest some len is then = absurd (omega arith)
words_of_next (x ∷ y ∷ z ∷ left) own table behind rest some len is then =
    let all : take (length (x ∷ y ∷ z ∷ left) - 3) left ≡ left = take_all (length (x ∷ y ∷ z ∷ left) - 3) left (omega arith) in
    ap (λ (l : List ℕ). x ∷ y ∷ z ∷ l) (sym all ∙ is ∙ ap (λ (l : List ℕ). own ++ l) then ∙ sym (append_assoc own table behind))
    ∙ ap (λ (n : ℕ). x ∷ y ∷ n ∷ own ++ table ++ behind) len
