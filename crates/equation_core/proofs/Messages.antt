-- The messages of a row and of a shard, as they are written over zeros.
use Rattle.std.proofs.Common.{◌≡◌, ◌≤◌, ℕ, ◌+◌, List, [], ◌∷◌, ◌++◌, append_assoc, take, drop, set, length, ap, ◌∙◌, arith}
use Rattle.std.proofs.lemmas.List.{take_at, take_more_set, length-append, length-set, length-take, length-drop}
use Rattle.std.proofs.lemmas.Slice.{take-put_mid}
use borrow.Rule.Slice.PartMut.{put_mid, same_len_mid}

-- an identity that is put behind so many elements
module _ (begun issuer serial : List ℕ) (at many width : ℕ) (wide : length issuer ≡ 32) (all : many ≡ 32) (room : at + 65 ≤ length begun) where
  issued_length : length (put_mid at many begun issuer) ≡ length begun
  issued_length = same_len_mid at many begun issuer (omega (arith, wide, all, room, length-take many (drop at begun), length-drop at begun))

  abbrev followed : List ℕ
  followed = set (put_mid at many begun issuer) (at + 32) width

  followed_front : take (at + 33) followed ≡ take at begun ++ issuer ++ width ∷ []
  followed_front =
      ap (λ n. take n followed) (omega arith)
      ∙ take_more_set (put_mid at many begun issuer) (at + 32) width (omega (arith, issued_length, room))
      ∙ ap (λ (l : List ℕ). l ++ width ∷ []) (take-put_mid at many begun issuer (at + 32) (omega (arith, wide)) (omega (arith, room)))

  pub identity-is : (k n : ℕ) → n ≡ length serial → take (at + 33 + n) (put_mid (at + 33) k followed serial) ≡ take at begun ++ issuer ++ width ∷ [] ++ serial
  identity-is k n is =
      let long = length-set (put_mid at many begun issuer) (at + 32) width ∙ issued_length in
      take-put_mid (at + 33) k followed serial (at + 33 + n) (omega (arith, is)) (omega (arith, long, room)) ∙ ap (λ (l : List ℕ). l ++ serial) followed_front

-- what stands in front of a row's identity
pub row_front : (mark rest : List ℕ) (stage seed : ℕ) → length mark ≡ 6 → 2 ≤ length rest → take 8 (set (set (mark ++ rest) 6 stage) 7 seed) ≡ mark ++ (stage ∷ seed ∷ [])
row_front mark rest stage seed marked room =
    let long = length-append mark rest in
    let long_set = length-set (mark ++ rest) 6 stage in
    take_more_set (set (mark ++ rest) 6 stage) 7 seed (omega (arith, long, long_set, marked, room))
    ∙ ap (λ (l : List ℕ). l ++ seed ∷ []) (take_more_set (mark ++ rest) 6 stage (omega (arith, long, marked, room)) ∙ ap (λ (l : List ℕ). l ++ stage ∷ []) (take_at mark rest 6 marked))
    ∙ append_assoc mark (stage ∷ []) (seed ∷ [])
