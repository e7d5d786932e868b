-- Flags beside a list of identities.
use Rattle.std.specs.List.{list_any, slice_get}
use Rattle.std.specs.Str.{bytes_eq}
use Rattle.std.specs.List.Sorted.{IsStrictlySortedBy}
use Rattle.std.proofs.Common.{◌≡◌, ℕ, ◌<◌, ◌+◌, ◌||◌, ◌&&◌, zero, suc, List, [], ◌∷◌, ◌++◌, length, get_or, set, take, drop, map, Bool, true, false}
use Rattle.std.proofs.Common.{Some, refl, sym, ap, ◌∙◌, subst, arith, inl, inr}
use Rattle.std.proofs.lemmas.List.{drop_all, take_all, append-nil}
use Rattle.ident_core.specs.declared.identity.Identity.{Identity}
use Rattle.ident_core.specs.Order.{is_same, identity_cmp}
use Rattle.ident_core.specs.Among.{Among}
use Rattle.ident_core.specs.Sets.{has_key}
use Rattle.ident_core.proofs.Elements.{Among-from_place, some_item}
use Rattle.ident_core.proofs.Order.{sorted_head, sorted_tail}
use Rattle.ident_core.proofs.Sets.{same_refl}
use Rattle.ident_core.proofs.Keys.{or_assoc, list_any_push, has_key_push, same_other, less_other, map_same, take_is}

pub mark_more : (a b c d : Bool) → ((a || (b && c)) || (b && d)) ≡ (a || (b && (c || d)))
mark_more true b c d = refl
mark_more false true c d = refl
mark_more false false c d = refl

or_yes : (b : Bool) → true ≡ (b || true)
or_yes true = refl
or_yes false = refl

or_no : (a b : Bool) → b ≡ false → a ≡ (a || b)
or_no true b h = refl
or_no false b h = sym h

-- where the identity is not among the others, marking it changes nothing
pub unmarked : (q : Identity → Bool) (xs : List Identity) (y : Identity) → ((x : Identity) → Among xs x → is_same x y ≡ false) → map q xs ≡ map (λ x. q x || is_same x y) xs
unmarked q [] y h = refl
unmarked q (x ∷ xs) y h = λ i. or_no (q x) (is_same x y) (h x (inl refl)) i ∷ unmarked q xs y (λ z a. h z (inr a)) i

-- a flag set at the place of an identity
pub marked : (q : Identity → Bool) (xs : List Identity) (i : ℕ) (y : Identity) → IsStrictlySortedBy identity_cmp xs → slice_get xs i ≡ Some y → set (map q xs) i true ≡ map (λ x. q x || is_same x y) xs
marked q [] i y s h = absurd cc
marked q (x ∷ xs) zero y s h =
    let e : x ≡ y = some_item x y h in
    let here : true ≡ (q x || is_same x y) = or_yes (q x) ∙ ap (λ b. q x || b) (sym (subst (λ z. is_same x z ≡ true) e (same_refl x))) in
    let rest = unmarked q xs y (λ z a. same_other z y (λ g. less_other x z (sorted_head identity_cmp x xs z s a) (e ∙ sym g))) in
    λ k. here k ∷ rest k
marked q (x ∷ xs) (suc i) y s h =
    let here : q x ≡ (q x || is_same x y) = or_no (q x) (is_same x y) (same_other x y (less_other x y (sorted_head identity_cmp x xs y s (Among-from_place xs i y h)))) in
    let rest = marked q xs i y (sorted_tail identity_cmp x xs s) h in
    λ k. here k ∷ rest k

-- with one more serial of an issuer
pub marks_step : (p : Identity → Bool) (k : List ℕ) (ss : List (List ℕ)) (i : ℕ) (s : List ℕ) (xs : List Identity) → i < length ss → s ≡ get_or ss i s
    → map (λ x. (p x || (bytes_eq x.issuer k && has_key (take i ss) x.serial)) || is_same x (record { issuer = k; serial = s })) xs
    ≡ map (λ x. p x || (bytes_eq x.issuer k && has_key (take (i + 1) ss) x.serial)) xs
marks_step p k ss i s xs h e =
    map_same (λ (x : Identity). (p x || (bytes_eq x.issuer k && has_key (take i ss) x.serial)) || is_same x (record { issuer = k; serial = s }))
    (λ (x : Identity). p x || (bytes_eq x.issuer k && has_key (take (i + 1) ss) x.serial)) xs
    (λ x. mark_more (p x) (bytes_eq x.issuer k) (has_key (take i ss) x.serial) (bytes_eq x.serial s)
    ∙ ap (λ b. p x || (bytes_eq x.issuer k && b)) (sym (has_key_push (take i ss) s x.serial) ∙ ap (λ z. has_key z x.serial) (sym (take_is ss i s h e))))

-- with one more item to test by
pub all_step : {A : Type 0} (p : Identity → Bool) (t : Identity → A → Bool) (ts : List A) (i : ℕ) (a : A) (xs : List Identity) → i < length ts → a ≡ get_or ts i a
    → map (λ x. (p x || list_any (t x) (take i ts)) || t x a) xs ≡ map (λ x. p x || list_any (t x) (take (i + 1) ts)) xs
all_step p t ts i a xs h e =
    map_same (λ (x : Identity). (p x || list_any (t x) (take i ts)) || t x a) (λ (x : Identity). p x || list_any (t x) (take (i + 1) ts)) xs
    (λ x. sym (or_assoc (p x) (list_any (t x) (take i ts)) (t x a)) ∙ ap (λ b. p x || b) (sym (list_any_push (t x) (take i ts) a) ∙ ap (list_any (t x)) (sym (take_is ts i a h e))))

-- what a slice of the whole vector leaves in it
pub written_back : {A : Type 0} (n : ℕ) (a b : List A) → length a ≡ length b → n ≡ length b → take n (a ++ drop (length a) b) ≡ a
written_back n a b h e = ap (λ z. take n (a ++ z)) (drop_all (length a) b (omega arith)) ∙ ap (take n) (append-nil a) ∙ take_all n a (omega arith)
