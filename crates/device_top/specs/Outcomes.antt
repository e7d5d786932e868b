-- What each command comes to: what it says, and what it does to the device.
use Rattle.std.specs.Prelude.{ℕ, List, [], ◌∷◌, ◌++◌, length, map, nat_lt, if◌then◌else◌, Option, Some, None, Result, Ok, Err}
use Rattle.part_text.specs.SealedFields.{SealedFields}
use Rattle.store_core.specs.declared.chain.Refusal.{Refusal}
use Rattle.store_core.specs.Chain.{newest_of, refusal_of}
use Rattle.store_core.specs.Newest.{epoch_of}
use Rattle.store_core.specs.StoreLayout.{store_text}
use Rattle.card_core.specs.Verdict.{verdict}
use Rattle.line_core.specs.Lines.{store_line, verdict_line}
use Rattle.input_core.specs.declared.fault.FileFault.{FileFault}
use Rattle.input_core.specs.declared.fault.FileFault.TheVariants as faults
use Rattle.input_core.specs.Readings.{store_in}
use Rattle.word_core.specs.declared.command.Query.{Query}
use Rattle.word_core.specs.declared.device.{Format.Format, InstallPart.InstallPart}
use Rattle.reply_core.specs.Said.{Said}
use Rattle.reply_core.specs.Replies.{done, refusal, too_long}

-- What is done to a device: nothing; it is made with this capacity, to hold these bytes; or these bytes are put in the
-- place of those that its picked slot held.
pub data Deed : Type 0 where
  Keeps : Deed
  Formats : ℕ → List ℕ → Deed
  Replaces : ℕ → List ℕ → Deed

pub record Outcome : Type 0 where
  pub said : Said
  pub deed : Deed

-- this is said, and nothing is done
abbrev pub keeps : Said → Outcome
keeps said = record { said = said; deed = Keeps }

-- how many parts a store has, and the epoch of the newest
abbrev pub stored : List SealedFields → Said
stored parts = done (store_line (length parts) (epoch_of (newest_of parts)))

-- the device of this name is given a store of so many bytes, unless they are more than its capacity
abbrev pub given_to : List ℕ → ℕ → List SealedFields → ℕ → Deed → Outcome
given_to name capacity parts count deed =
    if nat_lt capacity count then keeps (too_long capacity name) else record { said = stored parts; deed = deed }

-- ---- device-format, of the bytes of STORE

abbrev pub formats : Format → List ℕ → Result (List SealedFields) FileFault → Outcome
formats f bytes (Err fault) = keeps (refusal f.store fault)
formats f bytes (Ok parts) = given_to f.device f.capacity parts (length bytes) (Formats f.capacity bytes)

abbrev pub format_outcome : Format → Option (List ℕ) → Outcome
format_outcome f None = keeps (refusal f.store faults.Unread)
format_outcome f (Some bytes) = formats f bytes (store_in bytes)

-- ---- device-install, of the part in PART to the store of a device of this capacity

-- the device of this name is given the store of these parts
abbrev pub replaced : List ℕ → ℕ → List SealedFields → Outcome
replaced name capacity parts =
    given_to name capacity parts (length (store_text parts)) (Replaces capacity (store_text parts))

-- the part is added where nothing is against it
abbrev pub added : InstallPart → ℕ → List SealedFields → SealedFields → Option Refusal → Outcome
added i capacity parts s None = replaced i.device capacity (parts ++ s ∷ [])
added i capacity parts s (Some why) = keeps (refusal i.part (faults.Chain why))

abbrev pub install_outcome : InstallPart → ℕ → List SealedFields → Result (SealedFields × ℕ) FileFault → Outcome
install_outcome i capacity parts (Err fault) = keeps (refusal i.part fault)
install_outcome i capacity parts (Ok x) = added i capacity parts x.0 (refusal_of parts x.0)

-- ---- device-query

abbrev pub query_outcome : Query → List SealedFields → Outcome
query_outcome q parts = keeps (done (verdict_line (verdict (map (λ s. s.part) parts) q.id q.sightings)))
