-- A shard's flags.
use Rattle.std.proofs.Common.{◌≡◌, suc, Bool, true, false, not, cond, List, [], ◌∷◌, length, map, refl, ap, ◌∙◌, arith}
use Rattle.std.specs.List.{filter}
use Rattle.ident_core.specs.declared.identity.Identity.{Identity}
use Rattle.card_core.specs.Leaf.{flagged}
use Rattle.card_core.specs.Cutting.{flags_of, CutIsOfShard}

flagged_step : (p : Identity → Bool) (x : Identity) (f b : Bool) (xs ys : List Identity) (flags : List Bool) → p x ≡ b → flagged xs flags ≡ filter p ys
    → flagged (cond b (x ∷ xs) xs) (cond b (f ∷ flags) flags) ≡ filter p (cond f (x ∷ ys) ys)
flagged_step p x true true xs ys flags e r = rw e (ap (λ (l : List Identity). x ∷ l) r)
flagged_step p x false true xs ys flags e r = r
flagged_step p x true false xs ys flags e r = rw e r
flagged_step p x false false xs ys flags e r = r

none_flagged : (xs : List Identity) → flagged xs [] ≡ []
none_flagged [] = refl
none_flagged (x ∷ xs) = refl

cut_flagged : (p : Identity → Bool) (xs : List Identity) (flags : List Bool) → flagged (filter p xs) (flags_of p xs flags) ≡ filter p (flagged xs flags)
cut_flagged p [] flags = refl
cut_flagged p (x ∷ xs) [] = none_flagged (filter p (x ∷ xs))
cut_flagged p (x ∷ xs) (f ∷ flags) = flagged_step p x f (p x) (filter p xs) (flagged xs flags) (flags_of p xs flags) refl (cut_flagged p xs flags)

not_step : (b f : Bool) (gs hs : List Bool) → map not gs ≡ hs → map not (cond b (f ∷ gs) gs) ≡ cond b (not f ∷ hs) hs
not_step true f gs hs e = ap (λ (l : List Bool). not f ∷ l) e
not_step false f gs hs e = e

cut_not : (p : Identity → Bool) (xs : List Identity) (flags : List Bool) → map not (flags_of p xs flags) ≡ flags_of p xs (map not flags)
cut_not p [] flags = refl
cut_not p (x ∷ xs) [] = refl
cut_not p (x ∷ xs) (f ∷ flags) = not_step (p x) f (flags_of p xs flags) (flags_of p xs (map not flags)) (cut_not p xs flags)

length_step : (b f : Bool) (x : Identity) (gs : List Bool) (xs : List Identity) → length gs ≡ length xs → length (cond b (f ∷ gs) gs) ≡ length (cond b (x ∷ xs) xs)
length_step true f x gs xs e = ap suc e
length_step false f x gs xs e = e

cut_length : (p : Identity → Bool) (xs : List Identity) (flags : List Bool) → length flags ≡ length xs → length (flags_of p xs flags) ≡ length (filter p xs)
cut_length p [] flags e = refl
cut_length p (x ∷ xs) [] e = absurd (omega (arith, e))
cut_length p (x ∷ xs) (f ∷ flags) e = length_step (p x) f x (flags_of p xs flags) (filter p xs) (cut_length p xs flags (omega (arith, e)))

pub cut_is : CutIsOfShard
cut_is p xs flags same = (
  cut_flagged p xs flags,
  ap (flagged (filter p xs)) (cut_not p xs flags) ∙ cut_flagged p xs (map not flags),
  cut_length p xs flags same,
)
