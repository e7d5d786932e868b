-- Over a device and files that are told, one thing comes of a command.
use Rattle.std.proofs.Common.{◌≡◌, ℕ, ◌+◌, inl, inr, List, length, Option, Some, None, Result, Ok, Err, refl, sym, ap, ◌∙◌, subst, arith}
use Rattle.std.specs.FinMap.{get}
use Rattle.outside_core.specs.Files.{Files}
use Rattle.part_text.specs.SealedFields.{SealedFields}
use Rattle.slot_core.specs.Disk.{piece}
use Rattle.slot_core.specs.Device.{IsDevice, picked_at}
use Rattle.slot_core.proofs.FieldLaws.{stands-once}
use Rattle.slot_core.proofs.Unbroken.{capacity-once, IsDevice-unbroken}
use Rattle.slot_core.proofs.Broken.{breaks-once}
use Rattle.input_core.specs.declared.fault.FileFault.{FileFault}
use Rattle.input_core.specs.Inputs.{IsRead}
use Rattle.input_core.specs.Readings.{input_as, part_in}
use Rattle.word_core.specs.declared.device.DeviceCommand.{DeviceCommand}
use Rattle.word_core.specs.declared.device.DeviceCommand.TheVariants as commands
use Rattle.reply_core.specs.Replies.{refusal, bad_device}
use Rattle.device_top.specs.Outcomes.{Outcome, keeps, format_outcome, install_outcome, query_outcome}
use Rattle.device_top.specs.Comes.{Comes, OfDevice, OfFile, OfSlot}
use Rattle.device_top.specs.Calls.{none_failed}
use Rattle.device_top.proofs.Answering.{same_some}

-- what a device's picked slot holds is one list of bytes
pub held_once : (c d : ℕ) (these those device : List ℕ) → IsDevice c these device → IsDevice d those device → these ≡ those
held_once c d these those device one other =
    let same : c ≡ d = capacity-once c d device one.header other.header in
    let moved = subst (λ (n : ℕ). IsDevice n these device) same one in
    let long : length these ≡ length those =
    stands-once (picked_at d device) (length these) (length those) device moved.slot.stands other.slot.stands
    (omega (arith, moved.slot.within, moved.header.high)) (omega (arith, other.slot.within, other.header.high)) in
    sym moved.slot.held ∙ ap (λ (n : ℕ). piece (picked_at d device + 8) n device) long ∙ other.slot.held

both_ok : {A E : Type 0} (one other : A) → ◌≡◌ {A = Result A E} (Ok one) (Ok other) → one ≡ other
both_ok one other is = cc

both_err : {A E : Type 0} (one other : E) → ◌≡◌ {A = Result A E} (Err one) (Err other) → one ≡ other
both_err one other is = cc

differ : {A E : Type 0} (x : A) (e : E) → ◌≡◌ {A = Result A E} (Ok x) (Err e) → ⊥
differ x e is = cc

module _ (name : List ℕ) (o p : Outcome) where
  slot_once : (bytes : List ℕ) (one other : List SealedFields → Outcome → Type 0) → ((parts : List SealedFields) → one parts o → other parts p → o ≡ p)
      → OfSlot name bytes one o → OfSlot name bytes other p → o ≡ p
  slot_once bytes one other each (inl (fault, bad, is)) (inl (also, worse, as_well)) =
      is ∙ ap (λ (f : FileFault). keeps (refusal name f)) (both_err {A = List SealedFields} fault also (sym bad ∙ worse)) ∙ sym as_well
  slot_once bytes one other each (inl (fault, bad, is)) (inr (parts, good, goes)) = absurd (differ parts fault (sym good ∙ bad))
  slot_once bytes one other each (inr (parts, good, goes)) (inl (fault, bad, is)) = absurd (differ parts fault (sym good ∙ bad))
  slot_once bytes one other each (inr (parts, good, goes)) (inr (same, as_good, comes)) =
      each parts goes (subst (λ (ps : List SealedFields). other ps p) (sym (both_ok {E = FileFault} parts same (sym good ∙ as_good))) comes)

  device_once : (device : List ℕ) (one other : ℕ → List SealedFields → Outcome → Type 0) → ((capacity : ℕ) (parts : List SealedFields) → one capacity parts o → other capacity parts p → o ≡ p)
      → OfDevice name (Some device) one o → OfDevice name (Some device) other p → o ≡ p
  device_once device one other each (inl (at, breaks, is)) (inl (also, breaks_also, as_well)) =
      is ∙ ap (λ (n : ℕ). keeps (bad_device n name)) (breaks-once device at also (breaks device refl) (breaks_also device refl)) ∙ sym as_well
  device_once device one other each (inl (at, breaks, is)) (inr (capacity, bytes, there, slot)) =
      absurd (IsDevice-unbroken capacity bytes device at (there device refl) (breaks device refl))
  device_once device one other each (inr (capacity, bytes, there, slot)) (inl (at, breaks, is)) =
      absurd (IsDevice-unbroken capacity bytes device at (there device refl) (breaks device refl))
  device_once device one other each (inr (c, these, there, slot)) (inr (d, those, also, as_well)) =
      let room : c ≡ d = capacity-once c d device (there device refl).header (also device refl).header in
      let same : these ≡ those = held_once c d these those device (there device refl) (also device refl) in
      let moved : OfSlot name these (other c) p = subst (λ (bytes : List ℕ). OfSlot name bytes (other c) p) (sym same)
      (subst (λ (n : ℕ). OfSlot name those (other n) p) (sym room) as_well) in
      slot_once these (one c) (other c) (each c) slot moved

not_missing : (files : Files) (name bytes : List ℕ) → get files name ≡ Some bytes → get files name ≡ None → ⊥
not_missing files name bytes there none = (let h : ◌≡◌ {A = Option (List ℕ)} (Some bytes) None = sym there ∙ none in cc)

missing_there : (files those : Files) (name : List ℕ) → Some files ≡ Some those → get those name ≡ None → get files name ≡ None
missing_there files those name told none = subst (λ (fs : Files). get fs name ≡ None) (sym (same_some files those told)) none

module _ (files : Files) (failed : Option (List ℕ) → Type 0) (well : (name : List ℕ) → failed (Some name) → ⊥) where
  given_once : (name : List ℕ) (one other : Option (List ℕ)) → IsRead (Some files) failed name one → IsRead (Some files) none_failed name other → one ≡ other
  given_once name None None read also = refl
  given_once name None (Some bytes) (inl why) there = absurd (well name why)
  given_once name None (Some bytes) (inr (those, told, none)) there = absurd (not_missing files name bytes there (missing_there files those name told none))
  given_once name (Some bytes) None there (inl why) = absurd why
  given_once name (Some bytes) None there (inr (those, told, none)) = absurd (not_missing files name bytes there (missing_there files those name told none))
  given_once name (Some bytes) (Some others) there also = sym there ∙ also

  file_once : (name : List ℕ) (next : Option (List ℕ) → Outcome) (o p : Outcome) → OfFile (Some files) failed name next o → OfFile (Some files) none_failed name next p → o ≡ p
  file_once name next o p (one, read, is) (other, also, as_well) = is ∙ ap next (given_once name one other read also) ∙ sym as_well

  pub comes_once : (asked : DeviceCommand) (device : List ℕ) (o p : Outcome) → Comes asked (Some files) failed (Some device) o → Comes asked (Some files) none_failed (Some device) p → o ≡ p
  comes_once commands.Usage device o p is as_well = is ∙ sym as_well
  comes_once (commands.Format f) device o p one other = file_once f.store (format_outcome f) o p one other
  comes_once (commands.Install i) device o p one other =
      device_once i.device o p device (λ capacity parts. OfFile (Some files) failed i.part (λ given. install_outcome i capacity parts (input_as part_in given)))
      (λ capacity parts. OfFile (Some files) none_failed i.part (λ given. install_outcome i capacity parts (input_as part_in given)))
      (λ capacity parts. file_once i.part (λ given. install_outcome i capacity parts (input_as part_in given)) o p) one other
  comes_once (commands.Query q) device o p one other =
      device_once q.store o p device (λ capacity parts x. x ≡ query_outcome q parts) (λ capacity parts x. x ≡ query_outcome q parts)
      (λ capacity parts is as_well. is ∙ sym as_well) one other
