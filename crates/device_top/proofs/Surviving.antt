-- What a crash may leave of a device over an install.
use Rattle.std.proofs.Common.{◌≡◌, ℕ, inl, inr, List, [], ◌∷◌, ◌++◌, Option, Some, None, Result, Ok, subst}
use Rattle.std.specs.Prelude.{◌⊎◌}
use Rattle.outside_core.specs.Files.{Files}
use Rattle.part_text.specs.SealedFields.{SealedFields}
use Rattle.store_core.specs.Chain.{refusal_of}
use Rattle.store_core.specs.StoreLayout.{store_text}
use Rattle.slot_core.specs.Disk.{DiskState, Images, IsLawful, Quiet, Within}
use Rattle.slot_core.specs.Device.{IsDevice}
use Rattle.slot_core.specs.View.{SlotsView}
use Rattle.slot_core.specs.Attached.{IsSlotsOf, IsEither}
use Rattle.slot_core.specs.Moments.{LeavesOnly}
use Rattle.slot_core.proofs.Moments.{started, stays, run_on}
use Rattle.input_core.specs.declared.fault.FileFault.{FileFault}
use Rattle.input_core.specs.Readings.{part_in, input_as}
use Rattle.input_core.specs.Inputs.{IsRead, IsInput}
use Rattle.device_top.specs.Crashes.{HoldsStore, HoldsAnOld, HoldsTheNew, Survives}
use Rattle.device_top.specs.Holding.{HeldStore}
use Rattle.device_top.proofs.Answering.{held_there}
use Rattle.device_top.proofs.Appending.{grown}

module _ (told : Option Files) (failed : Option (List ℕ) → Type 0) (part : List ℕ) (old : DiskState) (lawful : IsLawful old) where
  abbrev Left : List ℕ → Images
  Left device image = HoldsAnOld old.images image ⊎ HoldsTheNew told failed part device image

  begins : (device : List ℕ) → Within old.images HoldsStore → LeavesOnly old old (Left device)
  begins device all = started old (Left device) lawful (λ image now. let h = all image now in inl (image, now, h.0, h.2, h.2))

  -- nothing is written
  pub untouched : (new : DiskState) → Quiet old new → Survives told failed part old new
  untouched new quiet device is_told all = stays old old new (Left device) (begins device all) quiet

  -- the file of a part that was read
  read_part : {B : Type 0} (view : B → SealedFields × ℕ) (x : B) (given : Option (List ℕ)) → IsRead told failed part given → input_as part_in given ≡ Ok (view x)
      → (file : List ℕ) × IsRead told failed part (Some file) × (part_in file ≡ Ok (view x))
  read_part {B} view x None read is = absurd (let h : ◌≡◌ {A = Result (SealedFields × ℕ) FileFault} (input_as part_in None) (Ok (view x)) = is in cc)
  read_part view x (Some file) read is = (file, read, is)

  -- the store is replaced by the one with the part
  pub goes_over : {B : Type 0} (mid new : DiskState) (slots : SlotsView) (parts more : List SealedFields) (view : B → SealedFields × ℕ) (x : B) → Quiet old mid
      → HeldStore old mid slots parts → IsInput told failed part part_in view (Ok x) → refusal_of parts (view x).0 ≡ None → more ≡ parts ++ (view x).0 ∷ []
      → ((held : List ℕ) → IsSlotsOf mid slots held → LeavesOnly mid new (IsEither slots.capacity held (store_text more)))
      → Survives told failed part old new
  goes_over mid new slots parts more view x quiet held (given, given_read, gives, blamed) none is_more moment device is_told all =
      let (bytes, read, at_slots) = held in
      let of_held = at_slots device is_told in
      let there = held_there old mid slots bytes device quiet is_told of_held in
      let file = read_part view x given given_read gives in
      run_on old mid new (Left device) (IsEither slots.capacity bytes (store_text more))
      (stays old old mid (Left device) (begins device all) quiet)
      (moment bytes of_held)
      (λ image either. elim either [
        | inl kept ↦ inl (device, lawful.told_is_image device is_told, bytes, (slots.capacity, there), (slots.capacity, kept))
        | inr new_one ↦ inr (record {
          held = bytes;
          is_held = (slots.capacity, there);
          grows = grown told failed part bytes file.0 parts (view x) read file.1 file.2 none;
          holds = (slots.capacity, subst (λ (ps : List SealedFields). IsDevice slots.capacity (store_text ps) image) is_more new_one);
        })
      ])
