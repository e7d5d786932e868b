-- The parts show their releases.
use Rattle.std.specs.List.{find, AllZip}
use Rattle.std.specs.Option.{option_map}
use Rattle.std.specs.Str.{bytes_eq}
use Rattle.std.proofs.Common.{◌≡◌, ℕ, inl, inr, List, [], ◌∷◌, map, Bool, true, false, cond, ◌||◌, Some, None, refl, sym, ap, ◌∙◌, subst}
use Rattle.ident_core.specs.declared.identity.Identity.{Identity}
use Rattle.ident_core.specs.Among.{Among}
use Rattle.ident_core.specs.Sets.{has, has_key}
use Rattle.ident_core.proofs.Elements.{Among-in_filter, Among-in_map, bool_same}
use Rattle.ident_core.proofs.Sets.{bytes_same, bytes_refl, Among-from_has, has-from_Among, Among-from_has_key}
use Rattle.universe_core.specs.History.{Release}
use Rattle.universe_core.specs.Groups.{GroupFields, group_of, groups}
use Rattle.history_core.specs.Showing.{Shows}
use Rattle.history_core.specs.Publishing.{IsExactOnGroups, part_of}

bytes_swap : (a b : List ℕ) → bytes_eq a b ≡ bytes_eq b a
bytes_swap a b =
    bool_same (bytes_eq a b) (bytes_eq b a) (λ h. subst (λ z. bytes_eq b z ≡ true) (sym (bytes_same a b h)) (bytes_refl b))
    (λ h. subst (λ z. bytes_eq a z ≡ true) (sym (bytes_same b a h)) (bytes_refl a))

group_found : (r : Release) (k h : List ℕ) (hs : List (List ℕ)) (b : Bool) → bytes_eq k h ≡ b
    → find (λ (g : GroupFields). bytes_eq g.issuer k) (map (group_of r) hs) ≡ cond (has_key hs k) (Some (group_of r k)) None
    → cond b (Some (group_of r h)) (find (λ (g : GroupFields). bytes_eq g.issuer k) (map (group_of r) hs)) ≡ cond (b || has_key hs k) (Some (group_of r k)) None
group_found r k h hs true e next = ap (λ z. Some (group_of r z)) (sym (bytes_same k h e))
group_found r k h hs false e next = next

find_group : (r : Release) (k : List ℕ) (hs : List (List ℕ)) → find (λ (g : GroupFields). bytes_eq g.issuer k) (map (group_of r) hs) ≡ cond (has_key hs k) (Some (group_of r k)) None
find_group r k [] = refl
find_group r k (h ∷ hs) =
    ap (λ b. cond b (Some (group_of r h)) (find (λ (g : GroupFields). bytes_eq g.issuer k) (map (group_of r) hs))) (bytes_swap h k)
    ∙ group_found r k h hs (bytes_eq k h) refl (find_group r k hs)

consulted_is : (positive : GroupFields → Identity → Bool) (r : Release) (x : Identity)
    → (part_of positive r).consulted x ≡ option_map (λ g. positive g x) (cond (has_key r.issuers x.issuer) (Some (group_of r x.issuer)) None)
unfolding groups
consulted_is positive r x = ap (option_map (λ g. positive g x)) (find_group r x.issuer r.issuers)

pub part_shows : (positive : GroupFields → Identity → Bool) (r : Release) → IsExactOnGroups positive r → Shows (part_of positive r) r
part_shows positive r exact = record {
  ranges = refl;
  other = λ x h. consulted_is positive r x ∙ ap (λ b. option_map (λ g. positive g x) (cond b (Some (group_of r x.issuer)) None)) h;
  some = λ x h. (
    positive (group_of r x.issuer) x,
    consulted_is positive r x ∙ ap (λ b. option_map (λ g. positive g x) (cond b (Some (group_of r x.issuer)) None)) h,
    λ a. exact.at x.issuer h x
        (has-from_Among (group_of r x.issuer).universe x (Among-in_filter (λ (y : Identity). bytes_eq x.issuer y.issuer) r.accepted x (Among-from_has r.accepted x a) (bytes_refl x.issuer))),
  );
}

pub parts_show : (positive : GroupFields → Identity → Bool) (rs : List Release) → ((r : Release) → Among rs r → IsExactOnGroups positive r) → AllZip Shows (map (part_of positive) rs) rs
parts_show positive [] exact = tt
parts_show positive (r ∷ rs) exact = (part_shows positive r (exact r (inl refl)), parts_show positive rs (λ q a. exact q (inr a)))

-- ---- a test that agrees with the flags of each group is exact

flag_at : {A B : Type 0} (R : A → B → Type 0) (f : A → B) (xs : List A) (x : A) → AllZip R xs (map f xs) → Among xs x → R x (f x)
flag_at R f [] x z a = absurd a
flag_at R f (y ∷ xs) x z (inl e) = subst (λ w. R w (f w)) e z.0
flag_at R f (y ∷ xs) x z (inr a) = flag_at R f xs x z.1 a

pub exact_from_flags : (positive : GroupFields → Identity → Bool) (r : Release) → ((g : GroupFields) → Among (groups r) g → AllZip (λ x b. positive g x ≡ b) g.universe g.revoked) → IsExactOnGroups positive r
unfolding groups
exact_from_flags positive r h = record {
  at = λ issuer k x u. flag_at (λ y b. positive (group_of r issuer) y ≡ b) (has r.revoked) (group_of r issuer).universe x
      (h (group_of r issuer) (Among-in_map (group_of r) r.issuers issuer (Among-from_has_key r.issuers issuer k))) (Among-from_has (group_of r issuer).universe x u);
}
