-- Reads of a depot, one behind another.
use Rattle.std.proofs.Common.{ℕ, List, [], ◌∷◌, ◌++◌, inl, inr, Option, None, Some, ap, subst, ◌∙◌, arith}
use Rattle.std.specs.Option.{option_map}
use Rattle.outside_core.specs.declared.depot.Depot.{Ghosts}
use Rattle.outside_core.specs.Files.{Files, IsMissing}
use Rattle.outside_core.specs.Effects.{OnlyReads}
use Rattle.outside_core.specs.Reads.{WhichFailed, ReadFailed}

-- of reads behind others that went well, the one that failed is the only one
pub WhichFailed-then : {D : Type 0} (g : Ghosts D) (old mid new : D) → OnlyReads g old mid → WhichFailed g old mid None
    → (which : Option (List ℕ)) → WhichFailed g mid new which → WhichFailed g old new which
WhichFailed-then g old mid new reads well None none = none ∙ well
WhichFailed-then g old mid new reads well (Some name) (rose, last) =
    let le = reads.later in (omega (arith, rose, le), last ∙ ap (λ (told : Option (List (List ℕ))). option_map (λ names. names ++ name ∷ []) told) well)

pub ReadFailed-then : {D : Type 0} (g : Ghosts D) (name : List ℕ) (old mid new : D) → OnlyReads g old mid → WhichFailed g old mid None
    → ReadFailed g name mid new → ReadFailed g name old new
ReadFailed-then g name old mid new reads well (inl failed) = inl (WhichFailed-then g old mid new reads well (Some name) failed)
ReadFailed-then g name old mid new reads well (inr (missing, none)) =
    inr (subst (λ (told : Option Files). IsMissing told name) reads.same_files missing, WhichFailed-then g old mid new reads well None none)
