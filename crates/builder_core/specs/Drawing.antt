-- The shards of identities, of which several threads draw some each.
use Rattle.std.specs.Prelude.{◌≡◌, ℕ, List, map, Some}
use Rattle.std.specs.Borrow.{Bor}
use Rattle.std.specs.List.{slice_get}
use Rattle.std.specs.declared.alloc.Global.{Global}
use Rattle.std.specs.declared.vec.Vec.{Vec}
use Rattle.ident_core.specs.declared.identity.Identity.{Identity}
use Rattle.equation_core.specs.Shards.{shard}

-- the shards of the run at a place
abbrev pub AreDrawnAt : ℕ → List (Bor (List Identity)) → ℕ → Vec ℕ Global → Type 0
AreDrawnAt shift runs place shards =
    (run : List Identity) → slice_get (map (λ (r : Bor (List Identity)). r.now) runs) place ≡ Some run
    → shards.items ≡ map (λ x. shard x shift) run
