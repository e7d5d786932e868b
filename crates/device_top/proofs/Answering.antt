-- What is answered, from what was read of a device and of a file.
use Rattle.std.proofs.Common.{◌≡◌, ℕ, ◌≤◌, inl, inr, List, [], ◌∷◌, ◌++◌, map, Option, Some, None, Result, Ok, Err, IfOk, refl, sym, ap, ◌∙◌, subst, arith}
use Rattle.std.specs.Prelude.{◌⊎◌, ◌≢◌, IsErr, IsErrOf}
use Rattle.octets_core.specs.declared.memory.NoMemory.{NoMemory}
use Rattle.octets_core.specs.Reading.{GivesUnless}
use Rattle.outside_core.specs.Files.{Files, IsMissing}
use Rattle.part_text.specs.SealedFields.{SealedFields}
use Rattle.store_core.specs.declared.chain.Refusal.{Refusal}
use Rattle.store_core.specs.Chain.{refusal_of}
use Rattle.card_core.specs.Verdict.{verdict}
use Rattle.slot_core.specs.declared.fault.SlotFault.{SlotFault}
use Rattle.slot_core.specs.declared.fault.SlotFault.TheVariants as slots
use Rattle.slot_core.specs.Disk.{DiskState, Quiet}
use Rattle.slot_core.specs.Device.{IsDevice}
use Rattle.slot_core.specs.Fields.{Shows}
use Rattle.slot_core.specs.View.{SlotsView}
use Rattle.slot_core.specs.Attached.{IsSlotsOf}
use Rattle.slot_core.specs.Refusals.{RefusesDevice}
use Rattle.input_core.specs.declared.fault.FileFault.{FileFault}
use Rattle.input_core.specs.declared.fault.FileFault.TheVariants as faults
use Rattle.input_core.specs.declared.input.InputFault.{InputFault}
use Rattle.input_core.specs.declared.input.InputFault.TheVariants as reads
use Rattle.input_core.specs.Faults.{of_input}
use Rattle.input_core.specs.Readings.{part_in, store_in, input_as}
use Rattle.input_core.specs.Inputs.{IsHeld, IsRead, IsInput}
use Rattle.word_core.specs.declared.device.DeviceCommand.TheVariants as commands
use Rattle.word_core.specs.declared.command.Query.{Query}
use Rattle.word_core.specs.declared.device.{Format.Format, InstallPart.InstallPart}
use Rattle.reply_core.specs.Said.{Said}
use Rattle.reply_core.specs.Replies.{done, refusal, slot_refusal, bad_device}
use Rattle.line_core.specs.Lines.{verdict_line}
use Rattle.device_top.specs.Outcomes.{Outcome, Deed, Keeps, Formats, Replaces, keeps, formats, replaced, added, install_outcome, query_outcome}
use Rattle.device_top.specs.Comes.{OfDevice, Queried, Comes}
use Rattle.device_top.specs.Holding.{Leaves, Answers, HeldStore, NotHeld, IsWant, held_refusal}
use Rattle.device_top.specs.declared.held.HeldFault.{HeldFault}
use Rattle.device_top.specs.declared.held.HeldFault.TheVariants as held
use Rattle.device_top.proofs.Quiet.{both_quiet}

pub status_of : (one other : Said) → one ≡ other → one.status ≡ other.status
status_of one other is = ap (λ (s : Said). s.status) is

pub same_some : {A : Type 0} (one other : A) → Some one ≡ Some other → one ≡ other
same_some one other is = cc

-- a reply that was made isn't want of memory
pub made : (P : Type 0) (said : Said) → (P → IsErr {T = Said} {E = NoMemory} (Ok said)) → P → ⊥
made P said memory p = (let h : IsErr {T = Said} {E = NoMemory} (Ok said) = memory p in cc)

-- ---- devices

module _ (name : List ℕ) (old new : DiskState) (next : ℕ → List SealedFields → Outcome → Type 0) (quiet : Quiet old new) where
  by_slots : (f : SlotFault) (said : Said) → (f ≢ slots.NoMemory) → RefusesDevice old new f → said ≡ slot_refusal name f
      → Answers (OfDevice name old.told next) (name ∷ []) old new said
  by_slots (slots.BadDevice at) said some why is = inr (keeps (bad_device at name), inl (at, why, refl), is, quiet)
  by_slots (slots.TooLong c) said some why is = absurd why
  by_slots slots.DiskFault said some why is = inl (name, inl refl, is, why)
  by_slots slots.NoMemory said some why is = absurd (some refl)

  by_store : (f : FileFault) (said : Said) → (capacity : ℕ) × (bytes : List ℕ) × Shows old.told (IsDevice capacity bytes) × (store_in bytes ≡ Err f)
      → said ≡ refusal name f → Answers (OfDevice name old.told next) (name ∷ []) old new said
  by_store f said (capacity, bytes, there, bad) is = inr (keeps (refusal name f), inr (capacity, bytes, there, inl (f, bad, refl)), is, quiet)

  pub not_held : (fault : HeldFault) (r : Result Said NoMemory) → NotHeld old new fault → IfOk r (λ s. s ≡ held_refusal name fault) → (IsWant fault → IsErr r)
      → IfOk r (λ s. Answers (OfDevice name old.told next) (name ∷ []) old new s)
  not_held (held.Slots f) (Ok said) why is memory = by_slots f said (made (f ≡ slots.NoMemory) said memory) (why (made (f ≡ slots.NoMemory) said memory)) is
  not_held (held.Store f) (Ok said) why is memory = by_store f said (why (made (f ≡ faults.NoMemory) said memory)) is
  not_held fault (Err e) why is memory = tt

pub held_there : (old mid : DiskState) (slots : SlotsView) (bytes device : List ℕ) → Quiet old mid → old.told ≡ Some device → IsSlotsOf mid slots bytes
    → IsDevice slots.capacity bytes device
held_there old mid slots bytes device quiet told of =
    subst (IsDevice slots.capacity bytes) (same_some of.attached.device device (sym of.attached.reads ∙ quiet.same ∙ told)) of.attached.holds

-- a store that was read from a device stands in its slot
pub shown_there : (old mid : DiskState) (slots : SlotsView) (bytes : List ℕ) → Quiet old mid → Shows old.told (λ _. IsSlotsOf mid slots bytes)
    → Shows old.told (IsDevice slots.capacity bytes)
shown_there old mid slots bytes quiet held = λ device told. held_there old mid slots bytes device quiet told (held device told)

-- so it was attached
pub attached_mid : (old mid : DiskState) (slots : SlotsView) (parts : List SealedFields) → Quiet old mid → HeldStore old mid slots parts
    → Shows mid.told (λ _. (bytes : List ℕ) × IsSlotsOf mid slots bytes)
attached_mid old mid slots parts quiet (bytes, read, held) = λ device told. (bytes, held device (sym quiet.same ∙ told))

pub queried : (q : Query) (old new : DiskState) (slots : SlotsView) (parts : List SealedFields) (said : Said)
    → Quiet old new → HeldStore old new slots parts → said ≡ done (verdict_line (verdict (map (λ s. s.part) parts) q.id q.sightings))
    → Answers (Queried q old.told) (q.store ∷ []) old new said
queried q old new slots parts said quiet (bytes, read, held) is =
    inr (query_outcome q parts, inr (slots.capacity, bytes, shown_there old new slots bytes quiet held, inr (parts, read, refl)), is, quiet)

-- ---- device-install

-- what a deed leaves, behind a reading of the disk
leaves_later : (deed : Deed) (old mid new : DiskState) → Quiet old mid → Leaves deed mid new → Leaves deed old new
leaves_later Keeps old mid new quiet leaves = both_quiet old mid new quiet leaves
leaves_later (Formats capacity bytes) old mid new quiet leaves = λ device told. leaves device (quiet.same ∙ told)
leaves_later (Replaces capacity bytes) old mid new quiet leaves = λ device told. leaves device (quiet.same ∙ told)

module _ (i : InstallPart) (told : Option Files) (failed : Option (List ℕ) → Type 0) (old mid new : DiskState) (slots : SlotsView) (parts : List SealedFields)
    (quiet : Quiet old mid) (held : HeldStore old mid slots parts) where
  -- the command ends with an outcome of the store and the file
  ends_so : (given : Option (List ℕ)) (o : Outcome) (said : Said) → IsRead told failed i.part given → o ≡ install_outcome i slots.capacity parts (input_as part_in given)
      → said ≡ o.said → Leaves o.deed old new → Answers (Comes (commands.Install i) told failed old.told) (i.device ∷ []) old new said
  ends_so given o said read is_o is leaves =
      inr (o, inr (slots.capacity, held.0, shown_there old mid slots held.0 quiet held.2, inr (parts, held.1, (given, read, is_o))), is, leaves)

  pub no_part : {B : Type 0} (view : B → SealedFields × ℕ) (fault : FileFault) (r : Result Said NoMemory) → Quiet mid new → IsInput told failed i.part part_in view (Err fault)
      → IfOk r (λ s. s ≡ refusal i.part fault) → (fault ≡ faults.NoMemory → IsErr r)
      → IfOk r (λ s. Answers (Comes (commands.Install i) told failed old.told) (i.device ∷ []) old new s)
  no_part view fault (Ok said) same (given, read, gives, blamed) is memory =
      ends_so given (keeps (refusal i.part fault)) said read (sym (ap (install_outcome i slots.capacity parts) (gives (made (fault ≡ faults.NoMemory) said memory))))
      is (both_quiet old mid new quiet same)
  no_part view fault (Err e) same input is memory = tt

  pub not_taken : {B : Type 0} (view : B → SealedFields × ℕ) (x : B) (why : Refusal) (fault : FileFault) (r : Result Said NoMemory) → Quiet mid new
      → IsInput told failed i.part part_in view (Ok x) → refusal_of parts (view x).0 ≡ Some why → fault ≡ faults.Chain why → IfOk r (λ s. s ≡ refusal i.part fault)
      → IfOk r (λ s. Answers (Comes (commands.Install i) told failed old.told) (i.device ∷ []) old new s)
  not_taken view x why fault (Ok said) same (given, read, gives, blamed) refused is_fault is =
      ends_so given (keeps (refusal i.part (faults.Chain why))) said read
      (sym (ap (install_outcome i slots.capacity parts) gives ∙ ap (added i slots.capacity parts (view x).0) refused))
      (is ∙ ap (refusal i.part) is_fault) (both_quiet old mid new quiet same)
  not_taken view x why fault (Err e) same input refused is_fault is = tt

  put_on : (given : Option (List ℕ)) (more : List SealedFields) (said : Said) → old.faults ≤ mid.faults → IsRead told failed i.part given
      → replaced i.device slots.capacity more ≡ install_outcome i slots.capacity parts (input_as part_in given)
      → Answers (λ o. o ≡ replaced i.device slots.capacity more) (i.device ∷ []) mid new said → Answers (Comes (commands.Install i) told failed old.told) (i.device ∷ []) old new said
  put_on given more said later read is_more (inl (name, among, is, rose)) = inl (name, among, is, omega (arith, rose, later))
  put_on given more said later read is_more (inr (o, is_o, is, leaves)) =
      ends_so given o said read (is_o ∙ is_more) is (leaves_later o.deed old mid new quiet leaves)

  pub taken : {B : Type 0} (view : B → SealedFields × ℕ) (x : B) (more : List SealedFields) (r : Result Said NoMemory) → old.faults ≤ mid.faults
      → IsInput told failed i.part part_in view (Ok x) → refusal_of parts (view x).0 ≡ None → more ≡ parts ++ (view x).0 ∷ []
      → IfOk r (λ s. Answers (λ o. o ≡ replaced i.device slots.capacity more) (i.device ∷ []) mid new s)
      → IfOk r (λ s. Answers (Comes (commands.Install i) told failed old.told) (i.device ∷ []) old new s)
  taken view x more (Ok said) later (given, read, gives, blamed) none is_more answers =
      put_on given more said later read
      (ap (replaced i.device slots.capacity) is_more ∙ sym (ap (install_outcome i slots.capacity parts) gives ∙ ap (added i slots.capacity parts (view x).0) none)) answers
  taken view x more (Err e) later input none is_more answers = tt

-- ---- device-format

whole_read : (told : Option Files) (failed : Option (List ℕ) → Type 0) (name bytes : List ℕ) → IsHeld told name (λ file. bytes ≡ file) → IsRead told failed name (Some bytes)
whole_read None failed name bytes held = tt
whole_read (Some files) failed name bytes (file, there, is) = there ∙ ap (λ (b : List ℕ). Some b) (sym is)

module _ (f : Format) (told : Option Files) (failed : Option (List ℕ) → Type 0) (old new : DiskState) where
  pub no_store : {T : Type 0} (e : InputFault) (r : Result Said NoMemory) → Quiet old new
      → (IsErrOf {T = T} (Err e) reads.Failed → failed (Some f.store) ⊎ (IsMissing told f.store × failed None))
      → IfOk r (λ s. s ≡ refusal f.store (of_input e)) → (of_input e ≡ faults.NoMemory → IsErr r)
      → IfOk r (λ s. Answers (Comes (commands.Format f) told failed old.told) (f.device ∷ []) old new s)
  no_store reads.Failed (Ok said) same why is memory =
      inr (keeps (refusal f.store faults.Unread), (None, elim (why refl) [ inl blamed ↦ inl blamed | inr (missing, none) ↦ inr missing ], refl), is, same)
  no_store reads.NoMemory (Ok said) same why is memory = absurd (made (faults.NoMemory ≡ faults.NoMemory) said memory refl)
  no_store e (Err n) same why is memory = tt

  pub bad_store : {B : Type 0} (view : B → List SealedFields) (bytes : List ℕ) (fault : FileFault) (r : Result Said NoMemory) → Quiet old new
      → IsHeld told f.store (λ file. bytes ≡ file) → GivesUnless faults.NoMemory view (Err fault) (store_in bytes) → IfOk r (λ s. s ≡ refusal f.store fault)
      → (fault ≡ faults.NoMemory → IsErr r) → IfOk r (λ s. Answers (Comes (commands.Format f) told failed old.told) (f.device ∷ []) old new s)
  bad_store view bytes fault (Ok said) same held gives is memory =
      let gives_so = sym (ap (formats f bytes) (gives (made (fault ≡ faults.NoMemory) said memory))) in
      inr (keeps (refusal f.store fault), (Some bytes, whole_read told failed f.store bytes held, gives_so), is, same)
  bad_store view bytes fault (Err n) same held gives is memory = tt

  format_on : (bytes : List ℕ) (parts : List SealedFields) (said : Said) → IsHeld told f.store (λ file. bytes ≡ file) → store_in bytes ≡ Ok parts
      → Answers (λ o. o ≡ formats f bytes (Ok parts)) (f.device ∷ []) old new said → Answers (Comes (commands.Format f) told failed old.told) (f.device ∷ []) old new said
  format_on bytes parts said held gives (inl failed_disk) = inl failed_disk
  format_on bytes parts said held gives (inr (o, is_o, is, leaves)) =
      inr (o, (Some bytes, whole_read told failed f.store bytes held, is_o ∙ sym (ap (formats f bytes) gives)), is, leaves)

  pub good_store : (bytes : List ℕ) (parts : List SealedFields) (r : Result Said NoMemory) → IsHeld told f.store (λ file. bytes ≡ file) → store_in bytes ≡ Ok parts
      → IfOk r (λ s. Answers (λ o. o ≡ formats f bytes (Ok parts)) (f.device ∷ []) old new s) → IfOk r (λ s. Answers (Comes (commands.Format f) told failed old.told) (f.device ∷ []) old new s)
  good_store bytes parts (Ok said) held gives answers = format_on bytes parts said held gives answers
  good_store bytes parts (Err n) held gives answers = tt
