-- Messages of at most two blocks with their padding.
use Rattle.std.proofs.Common.{◌≡◌, ℕ, suc, ◌<◌, ◌≤◌, ◌+◌, ◌-◌, ◌*◌, ◌/◌, ◌%◌, ◌^◌, inl, inr, List, ◌∷◌, ◌++◌, length, take, drop, set, replicate, refl, sym, ap, ◌∙◌, append_assoc, arith}
use Rattle.std.proofs.lemmas.List.{length-append, length-replicate, replicate-append-replicate, set_at, take_all, take_at}
use Rattle.std.proofs.lemmas.Bool.{cases_lt}
use Rattle.std.proofs.lemmas.Slice.{take-put_mid}
use Rattle.std.specs.Int.{w64, to_be_bytes}
use Rattle.sha2.specs.Sha256.{compress, digest_bytes, hash_after, initial_hash_256, padded_message, sha256}
use Rattle.sha2.proofs.Absorbing256.{hash_after_next}
use borrow.Rule.Slice.PartMut.{put_mid}

abbrev pub zeros : ℕ → List ℕ
zeros n = replicate n 0

-- where the padding of a message of so many bytes ends
abbrev pub end_of : ℕ → ℕ
end_of n = (n + 8) / 64 * 64 + 64

first_zero : (z rest : ℕ) → zeros (1 + (z + rest)) ≡ 0 ∷ (zeros z ++ zeros rest)
first_zero z rest =
    let e : 1 + (z + rest) ≡ suc (z + rest) = omega arith in
    rw e (ap (λ (l : List ℕ). 0 ∷ l) (sym (replicate-append-replicate z rest 0)))

-- a message over zeros, then the mark, then its length in bits at the end of the block
pub padded-is : (m begun field : List ℕ) (n e k : ℕ) → n ≡ length m → n ≤ 119 → e ≡ end_of n
    → begun ≡ m ++ zeros (128 - n) → field ≡ to_be_bytes w64 (n * 8)
    → take e (put_mid (e - 8) k (set begun n 0x80) field) ≡ padded_message m
padded-is m begun field n e k en few ee eb ef =
    let z : ℕ = (119 - n % 64) % 64 in
    let rest : ℕ = 127 - n - z in
    let one : 128 - n ≡ 1 + (z + rest) = omega arith in
    let begun_zeros : zeros (128 - n) ≡ 0 ∷ (zeros z ++ zeros rest) =
    ap (λ (i : ℕ). zeros i) one ∙ first_zero z rest in
    let marked : set begun n 0x80 ≡ (m ++ (0x80 ∷ zeros z)) ++ zeros rest =
    ap (λ (l : List ℕ). set l n 0x80) (eb ∙ ap (λ (l : List ℕ). m ++ l) begun_zeros)
    ∙ set_at m 0 (zeros z ++ zeros rest) 0x80 n (sym en)
    ∙ sym (append_assoc m (0x80 ∷ zeros z) (zeros rest)) in
    let lz : length (zeros z) ≡ z = length-replicate z 0 in
    let lr : length (zeros rest) ≡ rest = length-replicate rest 0 in
    let lp : length (m ++ (0x80 ∷ zeros z)) ≡ e - 8 = omega (arith, length-append m (0x80 ∷ zeros z)) in
    let long : length (set begun n 0x80) ≡ (e - 8) + rest = ap (λ (l : List ℕ). length l) marked ∙ omega (arith, length-append (m ++ (0x80 ∷ zeros z)) (zeros rest)) in
    let lf : length field ≡ 8 = ap (λ (l : List ℕ). length l) ef in
    let bits : n * 8 % 2 ^ 64 ≡ length m * 8 % 2 ^ 64 = omega arith in
    let fits : n * 8 % 2 ^ 64 ≡ n * 8 = omega arith in
    let front : take (e - 8) (set begun n 0x80) ≡ m ++ (0x80 ∷ zeros z) =
    ap (take (e - 8)) marked ∙ take_at (m ++ (0x80 ∷ zeros z)) (zeros rest) (e - 8) lp in
    let same : field ≡ to_be_bytes w64 (length m * 8 % 2 ^ 64) = ef ∙ ap (to_be_bytes w64) (sym fits ∙ bits) in
    let gap : z ≡ (119 - length m % 64) % 64 = ap (λ (i : ℕ). (119 - i % 64) % 64) en in
    take-put_mid (e - 8) k (set begun n 0x80) field e (omega arith) (omega arith)
    ∙ ap (λ (l : List ℕ). l ++ field) front
    ∙ append_assoc m (0x80 ∷ zeros z) field
    ∙ ap (λ (l : List ℕ). m ++ ((0x80 ∷ zeros z) ++ l)) same
    ∙ ap (λ (i : ℕ). m ++ ((0x80 ∷ zeros i) ++ to_be_bytes w64 (length m * 8 % 2 ^ 64))) gap

length-padded : (m : List ℕ) → length m ≤ 119 → length (padded_message m) ≡ end_of (length m)
length-padded m few =
    let z : ℕ = (119 - length m % 64) % 64 in
    let field : List ℕ = to_be_bytes w64 (length m * 8 % 2 ^ 64) in
    let lf : length field ≡ 8 = refl in
    let lz : length (zeros z) ≡ z = length-replicate z 0 in
    let behind : length ((0x80 ∷ zeros z) ++ field) ≡ 1 + z + 8 = omega (arith, length-append (0x80 ∷ zeros z) field) in
    omega (arith, length-append m ((0x80 ∷ zeros z) ++ field))

-- the hash value of a message of one block
of_one : (m bytes : List ℕ) → length m ≤ 55 → take (end_of (length m)) bytes ≡ padded_message m
    → digest_bytes (compress initial_hash_256 (take 64 (drop 0 bytes))) 8 ≡ sha256 m
unfolding sha256 hash_after
of_one m bytes few is =
    let p : List ℕ = padded_message m in
    let end : end_of (length m) ≡ 64 = omega arith in
    let first : take 64 bytes ≡ p = rw end at is in
    let count : length p / 64 ≡ 0 + 1 = omega (arith, length-padded m (omega arith)) in
    let whole : take 64 (drop (0 * 64) p) ≡ take 64 bytes = take_all 64 p (omega (arith, length-padded m (omega arith))) ∙ sym first in
    rw (count, hash_after_next initial_hash_256 p 0, whole) refl

-- that of one of two blocks
of_two : (m bytes : List ℕ) → 55 < length m → length m ≤ 119 → length bytes ≡ 128 → take (end_of (length m)) bytes ≡ padded_message m
    → digest_bytes (compress (compress initial_hash_256 (take 64 (drop 0 bytes))) (take 64 (drop 64 bytes))) 8 ≡ sha256 m
unfolding sha256 hash_after
of_two m bytes many few long is =
    let p : List ℕ = padded_message m in
    let end : end_of (length m) ≡ 128 = omega arith in
    let all : bytes ≡ p = sym (take_all 128 bytes (omega arith)) ∙ rw end at is in
    let count : length p / 64 ≡ 0 + 1 + 1 = omega (arith, length-padded m few) in
    rw (count, hash_after_next initial_hash_256 p (0 + 1), hash_after_next initial_hash_256 p 0, all) refl

-- the digest of a message, from the states behind its blocks
pub digest-is : (m bytes first last digest : List ℕ) → length m ≤ 119 → length bytes ≡ 128 → take (end_of (length m)) bytes ≡ padded_message m
    → first ≡ compress initial_hash_256 (take 64 (drop 0 bytes))
    → (55 < length m → last ≡ compress first (take 64 (drop 64 bytes)))
    → (length m ≤ 55 → digest ≡ digest_bytes first 8) → (55 < length m → digest ≡ digest_bytes last 8)
    → digest ≡ sha256 m
digest-is m bytes first last digest few long is ef el short two = elim (cases_lt 55 (length m)) [
  | inl lt ↦
      two lt ∙ ap (λ (s : List ℕ). digest_bytes s 8) (el lt ∙ ap (λ (s : List ℕ). compress s (take 64 (drop 64 bytes))) ef)
      ∙ of_two m bytes lt few long is
  | inr le ↦ short le ∙ ap (λ (s : List ℕ). digest_bytes s 8) ef ∙ of_one m bytes le is
]
