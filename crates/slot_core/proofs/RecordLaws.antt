-- What a call leaves of a disk in memory, by its steps before and after.
use Rattle.std.proofs.Common.{◌≡◌, ℕ, List, [], ◌∷◌, ◌++◌, length, Some, refl, sym, ap, ◌∙◌, subst}
use Rattle.slot_core.specs.Disk.{Written, Tells, IsSynced, Quiet, Tears}
use Rattle.slot_core.specs.Steps.{Step, Write, Sync, overwritten, content, images_of, recorded_state}
use Rattle.slot_core.proofs.StepLaws.{Written-overwritten, content-write, content-sync, images-after-write, images-after-sync, elapses-write, elapses-sync}
use Rattle.slot_core.specs.Lawful.{told_is_image_of}

module _ (steps : List Step) (faults later : ℕ) where
  -- a write
  pub tears_written : (at : ℕ) (bytes : List ℕ) → Tears at (length bytes) (recorded_state steps faults) (recorded_state (steps ++ Write at bytes ∷ []) later)
  tears_written at bytes = record { images = λ image now. images-after-write steps at bytes image now; time = elapses-write steps at bytes faults later }

  pub told_written : (at : ℕ) (bytes : List ℕ) → Tells (Written at bytes) (recorded_state steps faults) (recorded_state (steps ++ Write at bytes ∷ []) later)
  told_written at bytes = record {
    some = λ b told. (
      content [] (steps ++ Write at bytes ∷ []),
      refl,
      let same : content [] steps ≡ b = cc in
          let now : content [] (steps ++ Write at bytes ∷ []) ≡ overwritten at bytes b = content-write [] steps at bytes ∙ ap (overwritten at bytes) same in
          subst (Written at bytes b) (sym now) (Written-overwritten at bytes b),
    );
    none = λ is. absurd (cc);
  }

  -- a sync
  pub only_synced : IsSynced (recorded_state (steps ++ Sync ∷ []) later)
  only_synced bytes told image now = let is : content [] (steps ++ Sync ∷ []) ≡ bytes = cc in images-after-sync steps image now ∙ sym (content-sync [] steps) ∙ is

  pub quiet_synced : Quiet (recorded_state steps faults) (recorded_state (steps ++ Sync ∷ []) later)
  quiet_synced = record {
    same = ap Some (content-sync [] steps);
    images = λ image now. subst (images_of steps) (sym (images-after-sync steps image now)) (told_is_image_of steps (content [] steps) refl);
    time = elapses-sync steps faults later;
  }
