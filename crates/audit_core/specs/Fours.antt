-- What comes of entries that are asked four at a time.
use Rattle.std.specs.Prelude.{ℕ, ◌+◌, List, [], ◌∷◌, Bool, if◌then◌else◌, Option, Some, None, slice_index_or}
use Rattle.card_core.specs.PartFields.{PartFields}
use Rattle.card_core.specs.declared.verdict.Verdict.{Verdict}
use Rattle.card_core.specs.declared.verdict.Verdict.TheVariants.{NotCovered}
use Rattle.card_core.specs.Verdict.{verdict}
use Rattle.log_core.specs.declared.Entry.{Entry}
use Rattle.audit_core.specs.Checking.{is_truth, agreement_of}
use Rattle.audit_core.specs.declared.checking.Agreement.{Agreement}
use Rattle.audit_core.specs.declared.checking.Agreement.TheVariants as agreements
use Rattle.audit_core.specs.declared.checking.Told.{Told}

-- what comes of the entry at a place, if there is one
abbrev pub agreement_at : List PartFields → (Entry → Option Bool) → List (Option Entry) → ℕ → Agreement
agreement_at parts tells entries i = agreement_of parts tells (slice_index_or entries i None)

-- of the four entries from a place on
abbrev pub agreements_from : List PartFields → (Entry → Option Bool) → List (Option Entry) → ℕ → List Agreement
agreements_from parts tells entries at =
    agreement_at parts tells entries at ∷ agreement_at parts tells entries (at + 1)
    ∷ agreement_at parts tells entries (at + 2) ∷ agreement_at parts tells entries (at + 3) ∷ []

-- what the parts say of an entry that is told of
abbrev pub said_told : List PartFields → Option Told → Verdict
said_told parts None = NotCovered
said_told parts (Some t) = verdict parts t.entry.now.id (t.entry.now.sighting ∷ [])

-- what comes of it, if the parts say this
abbrev pub agreement_told : Option Told → Verdict → Agreement
agreement_told None held = agreements.Skipped
agreement_told (Some t) held = if is_truth held t.listed then agreements.Agrees else agreements.Disagrees held t.listed
