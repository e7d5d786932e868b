-- Entries that are asked four at a time.
use Rattle.std.proofs.Common.{◌≡◌, ℕ, zero, suc, ◌+◌, ◌*◌, ◌/◌, ◌%◌, ◌<◌, List, [], ◌∷◌, map, Bool, Option, Some, None, get_or, refl, ap, ◌∙◌, arith}
use Rattle.std.specs.Prelude.{IfSome}
use Rattle.card_core.specs.PartFields.{PartFields}
use Rattle.card_core.specs.declared.fours.Inquiry.{Inquiry}
use Rattle.card_core.specs.declared.verdict.Verdict.{Verdict}
use Rattle.log_core.specs.declared.Entry.{Entry}
use Rattle.part_text.specs.SealedFields.{SealedFields}
use Rattle.store_core.specs.Asking.{said_of}
use Rattle.audit_core.specs.declared.checking.Agreement.{Agreement}
use Rattle.audit_core.specs.declared.checking.Told.{Told}
use Rattle.audit_core.specs.Fours.{agreement_at, agreements_from, agreement_told, said_told}

-- what is asked of the parts says what comes of an entry
pub agreed : (store : List SealedFields) (told : Option Told) (asked : Inquiry) (v : Verdict)
    → IfSome told (λ t. (asked.certificate ≡ t.entry.now.id) × (asked.sightings.now ≡ t.entry.now.sighting ∷ []))
    → v ≡ said_of store asked → agreement_told told v ≡ agreement_told told (said_told (map (λ s. s.part) store) told)
agreed store None asked v h is = refl
agreed store (Some t) asked v h is = ap (agreement_told (Some t)) (is ∙ rw (h.0, h.1) refl)

module _ (parts : List PartFields) (tells : Entry → Option Bool) (entries : List (Option Entry)) where
  each_from : (at k : ℕ) (d : Agreement) → k < 4 → get_or (agreements_from parts tells entries at) k d ≡ agreement_at parts tells entries (at + k)
  each_from at zero d lt = ap (agreement_at parts tells entries) (omega arith)
  each_from at (suc zero) d lt = refl
  each_from at (suc (suc zero)) d lt = refl
  each_from at (suc (suc (suc zero))) d lt = refl
  each_from at (suc (suc (suc (suc k)))) d lt = absurd (omega arith)

  -- the one of a place
  pub one_of_four : (place : ℕ) (four : List Agreement) (d : Agreement) → four ≡ agreements_from parts tells entries (4 * (place / 4))
      → get_or four (place % 4) d ≡ agreement_at parts tells entries place
  one_of_four place four d is =
      ap (λ (l : List Agreement). get_or l (place % 4) d) is
      ∙ each_from (4 * (place / 4)) (place % 4) d (omega arith)
      ∙ ap (agreement_at parts tells entries) (omega arith)
