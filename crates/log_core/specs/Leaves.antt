-- Leaves, entries and hashes as functions hand them on.
use Rattle.std.specs.Prelude.{◌≡◌, ℕ, List, Option, Some, None, Result, Ok, Err}
use Rattle.std.specs.Option.{option_map}
use Rattle.sha2.specs.Sha256.{sha256}
use Rattle.log_core.specs.declared.Entry.{Entry}
use Rattle.log_core.specs.declared.Unread.{Unread}
use Rattle.log_core.specs.declared.leaf.Leaf.{Leaf}
use Rattle.log_core.specs.Entries.{LeafFields}

-- a leaf without where it lies in memory
abbrev pub leaf_of : Leaf → LeafFields
leaf_of l = record { time = l.time; issuer = l.issuer; signed = l.signed.now }

-- the entry that there is, or that there is none
abbrev pub GivesEntry : Option Entry → Result Entry Unread → Type 0
GivesEntry entry (Ok x) = entry ≡ Some x
GivesEntry entry (Err e) = entry ≡ None

-- the hash of the key that there is, or that there is none
abbrev pub GivesHash : Option (List ℕ) → Result (List ℕ) Unread → Type 0
GivesHash key (Ok hash) = option_map sha256 key ≡ Some hash
GivesHash key (Err e) = key ≡ None
