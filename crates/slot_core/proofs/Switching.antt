-- What the calls of a switch leave.
use Rattle.std.proofs.Common.{◌≡◌, ℕ, ◌+◌, ◌≤◌, ◌%◌, Bool, not, nat_eq, inl, List, [], ◌∷◌, length, Some, sym, ◌∙◌, subst}
use Rattle.slot_core.specs.declared.device.TheConstants.{LENGTH}
use Rattle.slot_core.specs.Disk.{DiskState, IsLawful, Images, Within, After, Torn, Written, Tells, Quiet, Tears, IsSynced}
use Rattle.slot_core.specs.Device.{IsDevice, slot_at}
use Rattle.slot_core.specs.Fields.{WritesSlot}
use Rattle.slot_core.specs.Attached.{IsAttached, IsEither}
use Rattle.slot_core.specs.Moments.{LeavesOnly}
use Rattle.slot_core.proofs.Moments.{started, goes_on, stays}
use Rattle.slot_core.proofs.Tearing.{device-torn, staged, gate-torn, either, turned, IsStaged}

module _ (capacity : ℕ) (second : Bool) (held bytes : List ℕ) (fits : length bytes ≤ capacity) (start : DiskState) (lawful : IsLawful start) (attached : IsAttached start capacity second held)
    (at : ℕ) (there : at ≡ slot_at capacity (not second)) where
  abbrev P : Images
  P = IsEither capacity held bytes

  abbrev Begun : Images
  Begun = After (Torn at (LENGTH + length bytes)) start.images

  begun-keeps : Within Begun P
  begun-keeps i (earlier, was, torn) =
      let same : earlier ≡ attached.device = attached.only earlier was in
      let from_device = subst (λ (a : ℕ). Torn a (LENGTH + length bytes) attached.device i) there (subst (λ (e : List ℕ). Torn at (LENGTH + length bytes) e i) same torn) in
      inl (device-torn capacity second held bytes attached.device i fits attached.picks from_device attached.holds).0

  module _ (one : DiskState) (tears_one : Tears at (LENGTH + length bytes) start one) where
    pub after_slot : LeavesOnly start one P
    after_slot =
        goes_on start start one P Begun (started start P lawful (λ i now. inl (subst (IsDevice capacity held) (sym (attached.only i now)) attached.holds)))
        tears_one.time begun-keeps (λ i now. begun-keeps i (tears_one.images i now))

    module _ (two : DiskState) (quiet_two : Quiet one two) where
      pub after_sync : LeavesOnly start two P
      after_sync = stays start one two P after_slot quiet_two

      module _ (writes : Tells (WritesSlot at bytes) start one) (synced_two : IsSynced two) where
        -- the bytes that reads give now, with both slots
        staged_bytes : List ℕ
        staged_bytes = (writes.some attached.device attached.reads).0

        reads_staged : two.told ≡ Some staged_bytes
        unfolding staged_bytes
        reads_staged = quiet_two.same ∙ (writes.some attached.device attached.reads).1

        is_staged : IsStaged capacity second held bytes staged_bytes
        unfolding staged_bytes
        is_staged = staged capacity second held bytes attached.device staged_bytes fits attached.picks attached.holds
            (subst (λ (a : ℕ). WritesSlot a bytes attached.device (writes.some attached.device attached.reads).0) there (writes.some attached.device attached.reads).2)

        gate-keeps : Within (After (Torn 0 1) two.images) (IsStaged capacity second held bytes)
        gate-keeps i (earlier, was, torn) =
            let same : earlier ≡ staged_bytes = synced_two staged_bytes reads_staged earlier was in
            gate-torn capacity second held bytes staged_bytes i is_staged (subst (λ (e : List ℕ). Torn 0 1 e i) same torn)

        gate-either : Within (After (Torn 0 1) two.images) P
        gate-either i joined = either capacity second held bytes i (gate-keeps i joined)

        module _ (three : DiskState) (tears_three : Tears 0 1 two three) where
          pub after_gate : LeavesOnly start three P
          after_gate = goes_on start two three P (After (Torn 0 1) two.images) after_sync tears_three.time gate-either (λ i now. gate-either i (tears_three.images i now))

          module _ (four : DiskState) (quiet_four : Quiet three four) where
            pub after_all : LeavesOnly start four P
            after_all = stays start three four P after_gate quiet_four

            pub attached-again : (gate : ℕ) → Tells (Written 0 (gate ∷ [])) two three → IsSynced four → nat_eq (gate % 2) 1 ≡ not second → IsAttached four capacity (not second) bytes
            attached-again gate wrote synced_four picks =
                let w = wrote.some staged_bytes reads_staged in
                let reads : four.told ≡ Some w.0 = quiet_four.same ∙ w.1 in
                let is = turned capacity second held bytes staged_bytes w.0 gate is_staged w.2 picks in
                record { device = w.0; reads = reads; only = synced_four w.0 reads; holds = is.0; picks = is.1 }
