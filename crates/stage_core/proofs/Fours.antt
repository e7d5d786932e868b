-- Lists that a loop makes four elements at a time.
use Rattle.std.proofs.Common.{◌≡◌, ◌<◌, ◌≤◌, ◌+◌, ℕ, zero, suc, Bool, false, List, [], ◌∷◌, ◌++◌, length, map, zip, take, get_or, sym, ap, ◌∙◌, append_assoc, arith}
use Rattle.std.proofs.lemmas.List.{map_more}
use Rattle.std.proofs.lemmas.Slice.Zip.{length-zip}
use Rattle.ident_core.specs.declared.identity.Identity.{Identity}

pub map_next : {X Y : Type 0} (f : X → Y) (xs : List X) (i : ℕ) (x : X) (out : List Y) → i < length xs → x ≡ get_or xs i x
    → out ≡ map f (take i xs) → out ++ (f x ∷ []) ≡ map f (take (i + 1) xs)
map_next {X} {Y} f xs i x out lt is e =
    ap (λ (l : List Y). l ++ (f x ∷ [])) e ∙ ap (λ (y : X). map f (take i xs) ++ (f y ∷ [])) is ∙ sym (map_more f xs i x lt)

pub map_four : {X Y : Type 0} (f : X → Y) (xs : List X) (i : ℕ) (a b c d : X) (out : List Y) → i + 4 ≤ length xs
    → a ≡ get_or xs i a → b ≡ get_or xs (i + 1) b → c ≡ get_or xs (i + 2) c → d ≡ get_or xs (i + 3) d
    → out ≡ map f (take i xs) → out ++ (f a ∷ f b ∷ f c ∷ f d ∷ []) ≡ map f (take (i + 4) xs)
map_four {X} {Y} f xs i a b c d out le ia ib ic id e =
    let one : out ++ (f a ∷ []) ≡ map f (take (i + 1) xs) = map_next f xs i a out (omega arith) ia e in
    let two : (out ++ (f a ∷ [])) ++ (f b ∷ []) ≡ map f (take (i + 2) xs) =
    map_next f xs (i + 1) b (out ++ (f a ∷ [])) (omega arith) ib one ∙ ap (λ (n : ℕ). map f (take n xs)) (omega arith) in
    let three : ((out ++ (f a ∷ [])) ++ (f b ∷ [])) ++ (f c ∷ []) ≡ map f (take (i + 3) xs) =
    map_next f xs (i + 2) c ((out ++ (f a ∷ [])) ++ (f b ∷ [])) (omega arith) ic two ∙ ap (λ (n : ℕ). map f (take n xs)) (omega arith) in
    let four : (((out ++ (f a ∷ [])) ++ (f b ∷ [])) ++ (f c ∷ [])) ++ (f d ∷ []) ≡ map f (take (i + 4) xs) =
    map_next f xs (i + 3) d (((out ++ (f a ∷ [])) ++ (f b ∷ [])) ++ (f c ∷ [])) (omega arith) id three ∙ ap (λ (n : ℕ). map f (take n xs)) (omega arith) in
    simp append_assoc at four

pub zip_at : (xs : List Identity) (ys : List Bool) (i : ℕ) (x : Identity) → i < length xs → length ys ≡ length xs → x ≡ get_or xs i x
    → (x, get_or ys i false) ≡ get_or (zip xs ys) i (x, get_or ys i false)
zip_at [] ys i x lt same is = absurd (omega arith)
zip_at (a ∷ xs) [] i x lt same is = absurd (omega arith)
zip_at (a ∷ xs) (b ∷ ys) zero x lt same is = ap (λ (y : Identity). (y, b)) is
zip_at (a ∷ xs) (b ∷ ys) (suc i) x lt same is = zip_at xs ys i x (omega arith) (omega arith) is

-- the flags of four pairs more
pub flags_four : (f : Identity × Bool → Bool) (xs : List Identity) (ys : List Bool) (at : ℕ) (a b c d : Identity) (out : List Bool)
    → length ys ≡ length xs → at + 4 ≤ length xs
    → a ≡ get_or xs at a → b ≡ get_or xs (at + 1) b → c ≡ get_or xs (at + 2) c → d ≡ get_or xs (at + 3) d
    → out ≡ map f (take at (zip xs ys))
    → out ++ (f (a, get_or ys at false) ∷ f (b, get_or ys (at + 1) false) ∷ f (c, get_or ys (at + 2) false) ∷ f (d, get_or ys (at + 3) false) ∷ [])
    ≡ map f (take (at + 4) (zip xs ys))
flags_four f xs ys at a b c d out same le ia ib ic id e =
    let long : length (zip xs ys) ≡ length xs = omega (arith, length-zip xs ys) in
    map_four f (zip xs ys) at (a, get_or ys at false) (b, get_or ys (at + 1) false) (c, get_or ys (at + 2) false) (d, get_or ys (at + 3) false) out (omega arith)
    (zip_at xs ys at a (omega arith) same ia) (zip_at xs ys (at + 1) b (omega arith) same ib)
    (zip_at xs ys (at + 2) c (omega arith) same ic) (zip_at xs ys (at + 3) d (omega arith) same id) e

-- the flag of a pair more
pub flags_next : (f : Identity × Bool → Bool) (xs : List Identity) (ys : List Bool) (at : ℕ) (a : Identity) (out : List Bool)
    → length ys ≡ length xs → at < length xs → a ≡ get_or xs at a → out ≡ map f (take at (zip xs ys))
    → out ++ (f (a, get_or ys at false) ∷ []) ≡ map f (take (at + 1) (zip xs ys))
flags_next f xs ys at a out same lt ia e =
    let long : length (zip xs ys) ≡ length xs = omega (arith, length-zip xs ys) in
    map_next f (zip xs ys) at (a, get_or ys at false) out (omega arith) (zip_at xs ys at a lt same ia) e
