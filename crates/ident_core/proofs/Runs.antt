-- In an ascending list the identities of an issuer stand together, and a look-up finds the one place.
use Rattle.std.specs.List.{filter}
use Rattle.std.specs.Str.{bytes_eq}
use Rattle.std.specs.declared.cmp.Ordering.{Ordering}
use Rattle.std.specs.declared.cmp.Ordering.TheVariants.{Less, Equal, Greater}
use Rattle.std.specs.Ordering.{nat_cmp, ordering_then}
use Rattle.std.proofs.Common.{◌≡◌, ℕ, ◌⊎◌, inl, inr, ⊎_elim, List, [], ◌∷◌, length, Bool, false, cond, refl, sym, ap, ◌∙◌}
use Rattle.std.proofs.lemmas.Cmp.{nat_list_cmp_total}
use Rattle.std.proofs.lemmas.Map.Lookups.{exact_bytes}
use Rattle.std.proofs.lemmas.Bool.{false_from_ne_true}
use Rattle.ident_core.specs.declared.identity.Identity.{Identity}
use Rattle.ident_core.specs.Order.{octets_cmp, identity_cmp}
use Rattle.ident_core.specs.Among.{Among}
use Rattle.ident_core.proofs.Sets.{bytes_same}
use Rattle.ident_core.proofs.Order.{not_below_itself}

pub filter_none : {A : Type 0} (p : A → Bool) (xs : List A) → ((x : A) → Among xs x → p x ≡ false) → filter p xs ≡ []
filter_none p [] h = refl
filter_none p (x ∷ xs) h = ap (λ b. cond b (x ∷ filter p xs) (filter p xs)) (h x (inl refl)) ∙ filter_none p xs (λ y a. h y (inr a))

pub then_less : (o p : Ordering) → ordering_then o p ≡ Less → (o ≡ Less) ⊎ (o ≡ Equal)
then_less Less p h = inl refl
then_less Equal p h = inr refl
then_less Greater p h = absurd cc

-- an issuer below is another
pub other_issuer : (h k : List ℕ) → octets_cmp h k ≡ Less → bytes_eq h k ≡ false
other_issuer h k l = false_from_ne_true (bytes_eq h k) (λ e. not_below_itself octets_cmp nat_list_cmp_total h k l (bytes_same h k e))

-- what stands behind an identity of a later issuer has a later issuer
pub above : (h : List ℕ) (y z : Identity) → octets_cmp h y.issuer ≡ Less → identity_cmp y z ≡ Less → octets_cmp h z.issuer ≡ Less
above h y z l e =
    ⊎_elim (λ o. nat_list_cmp_total.trans h y.issuer z.issuer l o) (λ o. ap (octets_cmp h) (sym (exact_bytes y.issuer z.issuer o)) ∙ l)
    (then_less (octets_cmp y.issuer z.issuer) (ordering_then (nat_cmp (length y.serial) (length z.serial)) (octets_cmp y.serial z.serial)) e)

-- ---- a look-up in a list whose identities ascend
