-- Lists that threads give, as those of the flagged.
use Rattle.std.proofs.Common.{◌≡◌, ◌&&◌, ℕ, zero, suc, Bool, true, false, not, cond, All, List, [], ◌∷◌, ◌++◌, length, map, zip, take, drop, refl, sym, ap, ◌∙◌, arith}
use Rattle.std.specs.List.{filter}
use Rattle.std.proofs.lemmas.Slice.Zip.{length-zip}
use Rattle.std.proofs.lemmas.List.{length-map, map-append}
use Rattle.std.proofs.lemmas.List.Elements.{All-nil, All-cons}
use Rattle.ident_core.specs.declared.identity.Identity.{Identity}
use Rattle.equation_core.specs.declared.hash.Row.{Row}
use Rattle.equation_core.specs.Rows.{IsRow}
use Rattle.card_core.specs.Leaf.{flagged}
use Rattle.stage_core.proofs.Flags.{flagged_split}

pub map_twice : {A B C : Type 0} (f : B → C) (g : A → B) (xs : List A) → map f (map g xs) ≡ map (λ x. f (g x)) xs
map_twice f g [] = refl
map_twice f g (x ∷ xs) = ap (λ l. f (g x) ∷ l) (map_twice f g xs)

-- the rows of a front and of what is left
pub rows_halved : (f : Identity → Row) (n : ℕ) (xs ys zs : List Identity) (fs gs hs : List Bool) (one two : List Row)
    → ys ≡ take n xs → zs ≡ drop n xs → gs ≡ take n fs → hs ≡ drop n fs → one ≡ map f (flagged ys gs) → two ≡ map f (flagged zs hs)
    → one ++ two ≡ map f (flagged xs fs)
rows_halved f n xs ys zs fs gs hs one two y z g h a b =
    rw (a, b, y, z, g, h) (sym (map-append f (flagged (take n xs) (take n fs)) (flagged (drop n xs) (drop n fs))) ∙ ap (map f) (sym (flagged_split n xs fs)))

zip_none : (xs : List Identity) (fs : List Bool) → length fs ≡ 0 → zip xs fs ≡ []
zip_none [] fs none = refl
zip_none (x ∷ xs) [] none = refl
zip_none (x ∷ xs) (f ∷ fs) none = absurd (omega arith)

zip_split : (n : ℕ) (xs : List Identity) (fs : List Bool) → zip xs fs ≡ zip (take n xs) (take n fs) ++ zip (drop n xs) (drop n fs)
zip_split zero xs fs = refl
zip_split (suc n) [] fs = refl
zip_split (suc n) (x ∷ xs) [] = sym (zip_none (drop n xs) [] refl)
zip_split (suc n) (x ∷ xs) (f ∷ fs) = ap (λ (l : List (Identity × Bool)). (x, f) ∷ l) (zip_split n xs fs)

-- the same of flags
pub flags_halved : (f : Identity × Bool → Bool) (n : ℕ) (xs ys zs : List Identity) (fs gs hs one two : List Bool)
    → ys ≡ take n xs → zs ≡ drop n xs → gs ≡ take n fs → hs ≡ drop n fs → one ≡ map f (zip ys gs) → two ≡ map f (zip zs hs)
    → one ++ two ≡ map f (zip xs fs)
flags_halved f n xs ys zs fs gs hs one two y z g h a b =
    rw (a, b, y, z, g, h) (sym (map-append f (zip (take n xs) (take n fs)) (zip (drop n xs) (drop n fs))) ∙ ap (map f) (sym (zip_split n xs fs)))

passed_step : (p : Identity → Bool) (x : Identity) (b : Bool) (l m : List Identity) → l ≡ filter p m → cond (not b && p x) (x ∷ l) l ≡ filter p (cond (not b) (x ∷ m) m)
passed_step p x true l m e = e
passed_step p x false l m e = ap (λ t. cond (p x) (x ∷ t) t) e

passed_all : (p : Identity → Bool) (xs : List Identity) (bs : List Bool) → flagged xs (map (λ q. not q.1 && p q.0) (zip xs bs)) ≡ filter p (flagged xs (map not bs))
passed_all p [] bs = refl
passed_all p (x ∷ xs) [] = refl
passed_all p (x ∷ xs) (b ∷ bs) = passed_step p x b _ _ (passed_all p xs bs)

-- the flags of the false positives
pub passed_given : (p : Identity → Bool) (xs : List Identity) (bs fs : List Bool) → fs ≡ map (λ q. not q.1 && p q.0) (zip xs bs) → flagged xs fs ≡ filter p (flagged xs (map not bs))
passed_given p xs bs fs is = ap (flagged xs) is ∙ passed_all p xs bs

pub flags_long : (f : Identity × Bool → Bool) (xs : List Identity) (bs fs : List Bool) → length bs ≡ length xs → fs ≡ map f (zip xs bs) → length fs ≡ length xs
flags_long f xs bs fs same is = rw is (omega (arith, length-map (zip xs bs) f, length-zip xs bs, same))

pub rows_formed : (f : Identity → Row) (starts : ℕ) → ((x : Identity) → IsRow starts (f x)) → (xs : List Identity) → All (IsRow starts) (map f xs)
rows_formed f starts h [] = All-nil (IsRow starts)
rows_formed f starts h (x ∷ xs) = All-cons (IsRow starts) (f x) (map f xs) (h x) (rows_formed f starts h xs)
