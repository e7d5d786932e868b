-- Words that are read one after the other.
use Rattle.std.proofs.Common.{List, ◌++◌, Option, Some, None}

-- what was read before, and what is still read
abbrev pub with_first : {A : Type 0} → List A → Option (List A) → Option (List A)
with_first before (Some others) = Some (before ++ others)
with_first before None = None
