-- What is written into many queries, and answered.
use Rattle.std.proofs.Common.{◌≡◌, ◌⊎◌, inl, inr, List, map, Result, Ok, Err, refl, ap, ◌∙◌}
use Rattle.ident_core.specs.declared.range.Sighting.{Sighting}
use Rattle.part_text.specs.SealedFields.{SealedFields}
use Rattle.lending_core.specs.declared.fault.LentFault.{LentFault}
use Rattle.lending_core.specs.declared.fault.LentFault.TheVariants as faults
use Rattle.lending_core.specs.declared.lent.LentQuery.{LentQuery}
use Rattle.lending_core.specs.declared.numbers.TheConstants.{DONE}
use Rattle.lending_core.specs.declared.replies.Answer.{Answer}
use Rattle.lending_core.specs.Replies.{alone, fault_answer, with_number, answered, AreAnswered}

-- the store was read
pub each_read : (read : Result (List SealedFields) LentFault) (parts : List SealedFields) (all seen : List Sighting) (old new : List LentQuery) (given : Answer)
    → read ≡ Ok parts → seen ≡ all → new ≡ map (answered (Ok parts) seen) old → given ≡ alone DONE → AreAnswered read all old new given
each_read read parts all seen old new given is same written done =
    rw is (inl (written ∙ ap (λ (s : List Sighting). map (answered (Ok parts) s) old) same, done))

-- whether a fault is want of memory
wants : (e : LentFault) → (e ≡ faults.NoMemory) ⊎ (e ≡ faults.NoMemory → ⊥)
wants (faults.Layout f) = inr (λ h. cc)
wants faults.NotSnapshot = inr (λ h. cc)
wants (faults.Chain why) = inr (λ h. cc)
wants faults.BadSerial = inr (λ h. cc)
wants faults.BadSightings = inr (λ h. cc)
wants faults.BadPlaces = inr (λ h. cc)
wants (faults.BadCert f) = inr (λ h. cc)
wants faults.BadIssuerCert = inr (λ h. cc)
wants faults.NoMemory = inl refl

by_fault : (read : Result (List SealedFields) LentFault) (e : LentFault) (all : List Sighting) (old : List LentQuery)
    → (e ≡ faults.NoMemory) ⊎ (e ≡ faults.NoMemory → ⊥) → ((e ≡ faults.NoMemory → ⊥) → read ≡ Err e)
    → AreAnswered read all old (map (with_number (fault_answer e).number) old) (fault_answer e)
by_fault read e all old (inl memory) is = rw memory (inr (refl, refl))
by_fault read e all old (inr other) is = rw (is other) (inl (refl, refl))

-- it wasn't
pub each_fault : (read : Result (List SealedFields) LentFault) (e : LentFault) (all : List Sighting) (old new : List LentQuery) (given : Answer)
    → ((e ≡ faults.NoMemory → ⊥) → read ≡ Err e) → given ≡ fault_answer e → new ≡ map (with_number given.number) old → AreAnswered read all old new given
each_fault read e all old new given is answer written =
    rw (written, answer) (by_fault read e all old (wants e) is)
