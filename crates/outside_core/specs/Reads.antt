-- Which read of a depot failed. A refusal for a file that can't be read has to stand on a fault of that very file's
-- reads which was counted in this call, or on the name not being held: these words say which name it was, so that no
-- refusal stands on an earlier fault or on one of another file, and none gives an invented name.
use Rattle.std.specs.Prelude.{◌≡◌, ◌⊎◌, ℕ, List, [], ◌∷◌, ◌++◌, Option, None, Some}
use Rattle.std.specs.Option.{option_map}
use Rattle.outside_core.specs.declared.depot.Depot.{Ghosts}
use Rattle.outside_core.specs.Files.{Files, Rose, IsMissing}

-- Which read failed and was counted between these two: none, and no name came behind those of before; or one of this
-- name, and a fault was counted, and the name came behind them.
abbrev pub WhichFailed : {D : Type 0} → Ghosts D → D → D → Option (List ℕ) → Type 0
WhichFailed g old new None = g.failed_reads new ≡ g.failed_reads old
WhichFailed g old new (Some name) =
    Rose (g.read_faults old) (g.read_faults new) × (g.failed_reads new ≡ option_map (λ names. names ++ name ∷ []) (g.failed_reads old))

-- The file of this name couldn't be read: its read failed and was counted, and no other did; or files are told, the
-- name isn't held, and none failed.
abbrev pub CouldNotRead : Option Files → (Option (List ℕ) → Type 0) → List ℕ → Type 0
CouldNotRead told failed name = failed (Some name) ⊎ (IsMissing told name × failed None)

-- the same of a depot, between these two
abbrev pub ReadFailed : {D : Type 0} → Ghosts D → List ℕ → D → D → Type 0
ReadFailed g name old new = CouldNotRead (g.files old) (WhichFailed g old new) name
