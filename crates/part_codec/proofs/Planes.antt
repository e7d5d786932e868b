-- Planes that are read one after the other.
use Rattle.std.proofs.Common.{◌≡◌, ℕ, zero, suc, ◌+◌, ◌*◌, ◌^◌, ◌<◌, List, [], ◌∷◌, ◌++◌, length, get_or, take, drop, true, refl, sym}
use Rattle.std.proofs.Common.{ap, ◌∙◌, subst, length-append, below_more, arith}
use Rattle.std.specs.Prelude.{map}
use Rattle.std.specs.List.{range_with_len}
use Rattle.std.specs.Int.{w64, from_be_bytes}
use Rattle.std.specs.Simd.{first_chunks}
use Rattle.std.proofs.lemmas.Bool.{ltb-true}
use Rattle.std.proofs.lemmas.List.{length-map, map-append, length-drop, take-append-le, drop-append-le, nil_from_length, get_or_append_left, get_or-append-add}
use Rattle.std.proofs.lemmas.List.FromFn.{length-map-range_with_len, get_or-map-range_with_len, map-range_with_len_more, fill_by_all}
use Rattle.equation_core.specs.Sizes.{columns_for, words_for}
use Rattle.ribbon_core.specs.PlaneWords.{word_of, plane_of_words, columns_of, words_spelled}
use Rattle.ribbon_core.proofs.BackSubstitution.{number_same}
use Rattle.ribbon_core.proofs.Words.{plane_room}
use Rattle.part_text.specs.PlaneBytes.{columns_of_bytes, is_padded}
use Rattle.part_codec.specs.ReadPlanes.{words_read, columns_read, AreRead}
use Rattle.part_text.proofs.PlaneBytes.{number-spelled}

length-first_chunks : {X : Type 0} (k n : ℕ) (xs : List X) → length (first_chunks k n xs) ≡ n
length-first_chunks k zero xs = refl
length-first_chunks k (suc n) xs = ap suc (length-first_chunks k n (drop k xs))

length-spelled : (n : ℕ) (bytes : List ℕ) → length (words_spelled n bytes) ≡ n
length-spelled n bytes = length-map (first_chunks 8 n bytes) (from_be_bytes w64) ∙ length-first_chunks 8 n bytes

-- the words that two texts spell, one behind the other
chunks-append : (n m : ℕ) (xs ys : List ℕ) → length xs ≡ 8 * n → first_chunks 8 (n + m) (xs ++ ys) ≡ first_chunks 8 n xs ++ first_chunks 8 m ys
chunks-append zero m xs ys len =
    let e : 0 + m ≡ m = omega arith in
    ap (λ (k : ℕ). first_chunks 8 k (xs ++ ys)) e ∙ ap (λ (l : List ℕ). first_chunks 8 m (l ++ ys)) (nil_from_length xs (omega (arith, len)))
chunks-append (suc n) m xs ys len =
    let e : suc n + m ≡ suc (n + m) = omega arith in
    ap (λ (k : ℕ). first_chunks 8 k (xs ++ ys)) e
    ∙ ap (λ (l : List ℕ). l ∷ first_chunks 8 (n + m) (drop 8 (xs ++ ys))) (take-append-le 8 xs ys (omega (arith, len)))
    ∙ ap (λ (l : List ℕ). take 8 xs ∷ first_chunks 8 (n + m) l) (drop-append-le 8 xs ys (omega (arith, len)))
    ∙ ap (λ (l : List (List ℕ)). take 8 xs ∷ l) (chunks-append n m (drop 8 xs) ys (omega (arith, len, length-drop 8 xs)))

spelled-append : (n m : ℕ) (xs ys : List ℕ) → length xs ≡ 8 * n → words_spelled (n + m) (xs ++ ys) ≡ words_spelled n xs ++ words_spelled m ys
spelled-append n m xs ys len =
    ap (map (from_be_bytes w64)) (chunks-append n m xs ys len) ∙ map-append (from_be_bytes w64) (first_chunks 8 n xs) (first_chunks 8 m ys)

module _ (starts count : ℕ) (whole bytes : List ℕ) (so_far : AreRead starts count whole) where
  abbrev words : List ℕ
  words = words_read starts count whole

  abbrev longer : List ℕ
  longer = words ++ words_spelled (words_for starts) bytes

  words-more : words_read starts (count + 1) (whole ++ bytes) ≡ longer
  words-more =
      let e : (count + 1) * words_for starts ≡ count * words_for starts + words_for starts = grind arith in
      ap (λ (n : ℕ). words_spelled n (whole ++ bytes)) e ∙ spelled-append (count * words_for starts) (words_for starts) whole bytes so_far.room

  room : length words ≡ count * words_for starts
  room = length-spelled (count * words_for starts) whole

  before_same : (plane : ℕ) → plane < count → plane_of_words longer (words_for starts) plane ≡ plane_of_words words (words_for starts) plane
  before_same plane lt =
      let inside = plane_room plane count (words_for starts) (length words) lt room in
      number_same (word_of longer (words_for starts) plane) (word_of words (words_for starts) plane) 0 (words_for starts)
      (λ k le below. get_or_append_left words (words_spelled (words_for starts) bytes) 0 (plane * words_for starts + k) (omega (arith, inside, below)))

  next_is : plane_of_words longer (words_for starts) count ≡ columns_of_bytes (words_for starts) bytes
  next_is = number-spelled (word_of longer (words_for starts) count) (words_for starts) 0 bytes
      (λ k lt.
      let e : count * words_for starts + (0 + k) ≡ length words + k = omega (arith, room) in
      ap (λ (i : ℕ). get_or longer i 0) e ∙ get_or-append-add words (words_spelled (words_for starts) bytes) k 0)

  same_columns : map (plane_of_words longer (words_for starts)) (range_with_len 0 count) ≡ columns_of starts count words
  same_columns = sym (fill_by_all (plane_of_words longer (words_for starts)) (columns_of starts count words) count 0 (length-map-range_with_len (plane_of_words words (words_for starts)) 0 count)
      (λ k lt. get_or-map-range_with_len (plane_of_words words (words_for starts)) 0 count k k 0 lt (omega arith) ∙ sym (before_same k lt)))

  pub columns-more : columns_read starts (count + 1) (whole ++ bytes) ≡ columns_read starts count whole ++ columns_of_bytes (words_for starts) bytes ∷ []
  columns-more =
      ap (columns_of starts (count + 1)) words-more
      ∙ map-range_with_len_more (plane_of_words longer (words_for starts)) 0 count count (omega arith)
      ∙ ap (λ (l : List ℕ). l ++ plane_of_words longer (words_for starts) count ∷ []) same_columns
      ∙ ap (λ (Z : ℕ). columns_of starts count words ++ Z ∷ []) next_is

  more_padded : is_padded starts bytes ≡ true → (plane : ℕ) → plane < count + 1 → plane_of_words longer (words_for starts) plane < 2 ^ columns_for starts
  more_padded padded =
      below_more _ count
      (λ plane lt. subst (λ (Z : ℕ). Z < 2 ^ columns_for starts) (sym (before_same plane lt)) (so_far.padding plane lt))
      (subst (λ (Z : ℕ). Z < 2 ^ columns_for starts) (sym next_is) (ltb-true _ _ padded))

  pub are_read-more : length bytes ≡ 8 * words_for starts → is_padded starts bytes ≡ true → AreRead starts (count + 1) (whole ++ bytes)
  are_read-more len padded = record {
    room =
        let e : 8 * ((count + 1) * words_for starts) ≡ 8 * (count * words_for starts) + 8 * words_for starts = grind arith in
        omega (arith, e, so_far.room, len, length-append whole bytes);
    padding = λ plane lt. subst (λ (l : List ℕ). plane_of_words l (words_for starts) plane < 2 ^ columns_for starts) (sym words-more) (more_padded padded plane lt);
  }

pub none_read : (starts : ℕ) → AreRead starts 0 []
none_read starts = record { room = let e : 0 * words_for starts ≡ 0 = omega arith in rw e refl; padding = λ plane lt. absurd (omega arith) }
