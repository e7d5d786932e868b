-- What the runs of a list gave, one behind the other.
use Rattle.std.proofs.Common.{◌≡◌, ℕ, suc, List, [], ◌∷◌, ◌++◌, length, map, get_or, Some, Vec, Global, Bor, refl, sym, ap, ◌∙◌, arith}
use Rattle.std.specs.List.{flat_map, slice_get}
use Rattle.std.proofs.lemmas.List.{map-append, length-map}
use Rattle.std.proofs.lemmas.Option.{slice_get-get_or}
use Rattle.ident_core.specs.declared.identity.Identity.{Identity}
use Rattle.equation_core.specs.Shards.{shard}
use Rattle.claim_core.specs.Work.{IsInPlace}
use Rattle.claim_core.proofs.Places.{in_place_unique}
use Rattle.builder_core.specs.Drawing.{AreDrawnAt}
use Rattle.builder_core.specs.Laws.{ShardsAreUnique}

pub drawn_whole : (shift : ℕ) (runs : List (Bor (List Identity))) (drawn : List (Vec ℕ Global)) → length drawn ≡ length runs → IsInPlace (AreDrawnAt shift runs) drawn
    → flat_map (λ (v : Vec ℕ Global). v.items) drawn ≡ map (λ x. shard x shift) (flat_map (λ (r : Bor (List Identity)). r.now) runs)
drawn_whole shift [] [] n h = refl
drawn_whole shift [] (v ∷ drawn) n h = absurd (omega arith)
drawn_whole shift (r ∷ runs) [] n h = absurd (omega arith)
drawn_whole shift (r ∷ runs) (v ∷ drawn) n h =
    let f : Identity → ℕ = λ x. shard x shift in
    let rest = drawn_whole shift runs drawn (omega arith) (λ k o e run is. h (suc k) o e run is) in
    ap (λ (l : List ℕ). l ++ flat_map (λ (w : Vec ℕ Global). w.items) drawn) (h 0 v refl r.now refl)
    ∙ ap (λ (l : List ℕ). map f r.now ++ l) rest
    ∙ sym (map-append f r.now (flat_map (λ (b : Bor (List Identity)). b.now) runs))

-- each run has one list of shards
pub drawn_once : ShardsAreUnique
drawn_once shift runs =
    let lists : List (List Identity) = map (λ (r : Bor (List Identity)). r.now) runs in
    in_place_unique (λ (v : Vec ℕ Global). v.items) (AreDrawnAt shift runs) (length runs) (λ place x y lt a b.
    let there : slice_get lists place ≡ Some (get_or lists place []) =
    slice_get-get_or lists place [] (omega (arith, lt, length-map runs (λ (r : Bor (List Identity)). r.now))) in
    a (get_or lists place []) there ∙ sym (b (get_or lists place []) there))
