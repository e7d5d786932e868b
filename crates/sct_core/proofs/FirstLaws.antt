-- The first of some values that is there, found by going over them.
use Rattle.std.proofs.Common.{List, Option, Some, None}
use Rattle.sct_core.specs.Extensions.{first_some}

-- what was found, or else the first of those that follow
abbrev pub first_or : {A : Type 0} → Option A → List (Option A) → Option A
first_or None xs = first_some xs
first_or (Some x) xs = Some x
