-- The one file of a depot over a slice.
use Rattle.std.proofs.Common.{◌≡◌, ℕ, ◌^◌, ◌-◌, ◌<◌, List, [], ◌∷◌, length, take, Some, None, true, false, inl, inr, refl, sym, ap, ◌∙◌, arith}
use Rattle.std.specs.Prelude.{◌==◌}
use Rattle.std.specs.Option.{option_map}
use Rattle.std.specs.Ordering.{nat_cmp}
use Rattle.std.specs.Cmp.Lexicographic.{slice_cmp, nat_list_cmp_total}
use Rattle.std.specs.FinMap.{get, insert, empty, get-insert, get-empty}
use Rattle.std.proofs.lemmas.Bool.{eqb-true}
use Rattle.std.proofs.lemmas.List.{take_all}
use Rattle.outside_core.specs.declared.depot.Depot.{Ghosts}
use Rattle.outside_core.specs.Reads.{ReadFailed}
use Rattle.outside_core.specs.Files.{Files, Rose}
use Rattle.outside_core.specs.Standing.{file_in}
use Rattle.outside_core.specs.declared.slice.SliceDepot.{SliceDepot}

abbrev pub only : List ℕ → Files
only bytes = insert empty [] bytes

pub held-there : (bytes name : List ℕ) → (length name == 0) ≡ true → get (only bytes) name ≡ Some bytes
held-there bytes [] is = get-insert nat_list_cmp_total empty [] bytes []
held-there bytes (x ∷ name) is = let none = eqb-true (length (x ∷ name)) 0 is in absurd (omega (arith, none))

pub none-there : (bytes name : List ℕ) → (length name == 0) ≡ false → get (only bytes) name ≡ None
none-there bytes [] is = absurd cc
none-there bytes (x ∷ name) is = get-insert nat_list_cmp_total empty [] bytes (x ∷ name) ∙ get-empty (slice_cmp nat_cmp) (x ∷ name)

pub file-there : (bytes : List ℕ) → length bytes < 2 ^ 64 → file_in (Some (only bytes)) [] ≡ Some bytes
file-there bytes fits = ap (option_map (take (2 ^ 64 - 1))) (held-there bytes [] refl) ∙ ap (λ (l : List ℕ). Some l) (take_all (2 ^ 64 - 1) bytes (omega (arith, fits)))

-- what the depot says of itself
abbrev pub slice_ghosts : Ghosts SliceDepot
slice_ghosts = record { files = λ d. Some (only d.bytes.now); read_faults = λ d. 0; failed_reads = λ d. None; write_faults = λ d. d.refused }

-- no read of it fails
pub never-fails : (old new : SliceDepot) (name : List ℕ) → name ≡ [] → ReadFailed slice_ghosts name old new → ⊥
never-fails old new name is (inl (rose, last)) = let risen : Rose 0 0 = rose in absurd (omega (arith, risen))
never-fails old new name is (inr ((files, same, none), well)) =
    let told : Some (only old.bytes.now) ≡ Some files = same in
    let e : only old.bytes.now ≡ files = cc in
    let held : get (only old.bytes.now) name ≡ Some old.bytes.now = held-there old.bytes.now name (rw is refl) in
    let there : get files name ≡ Some old.bytes.now = ap (λ (f : Files). get f name) (sym e) ∙ held in
    absurd cc
