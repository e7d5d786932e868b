-- What is answered once a device was written.
use Rattle.std.proofs.Common.{◌≡◌, ℕ, ◌≤◌, ◌<◌, not, inl, inr, List, [], ◌∷◌, length, Result, Ok, Err, IfOk, refl, sym, ap, ◌∙◌, subst, arith}
use Rattle.std.specs.Prelude.{◌≢◌, IsOk, OnErr, slice_index}
use Rattle.std.proofs.lemmas.Bool.{le-ltb, lt-ltb}
use Rattle.octets_core.specs.declared.memory.NoMemory.{NoMemory}
use Rattle.part_text.specs.SealedFields.{SealedFields}
use Rattle.store_core.specs.StoreLayout.{store_text}
use Rattle.slot_core.specs.declared.fault.SlotFault.{SlotFault}
use Rattle.slot_core.specs.declared.fault.SlotFault.TheVariants as slots
use Rattle.slot_core.specs.Disk.{DiskState, Quiet, Tells, IsSynced}
use Rattle.slot_core.specs.Device.{IsDevice, picks_second}
use Rattle.slot_core.specs.Fields.{Shows}
use Rattle.slot_core.specs.View.{SlotsView}
use Rattle.slot_core.specs.Attached.{IsSlotsOf}
use Rattle.slot_core.specs.Refusals.{RefusesBytes}
use Rattle.reply_core.specs.Said.{Said}
use Rattle.reply_core.specs.Replies.{slot_refusal, too_long}
use Rattle.device_top.specs.Outcomes.{Deed, Formats, Replaces, keeps, stored, given_to, replaced}
use Rattle.device_top.specs.Holding.{Leaves, Answers}
use Rattle.device_top.proofs.Answering.{same_some}

-- more bytes than the capacity
given_long : (name : List ℕ) (capacity : ℕ) (parts : List SealedFields) (count : ℕ) (deed : Deed) → capacity < count
    → keeps (too_long capacity name) ≡ given_to name capacity parts count deed
given_long name capacity parts count deed long = rw (lt-ltb capacity count long) refl

given_short : (name : List ℕ) (capacity : ℕ) (parts : List SealedFields) (count : ℕ) (deed : Deed) → count ≤ capacity
    → record { said = stored parts; deed = deed } ≡ given_to name capacity parts count deed
given_short name capacity parts count deed short = rw (le-ltb capacity count short) refl

module _ (name : List ℕ) (capacity : ℕ) (parts : List SealedFields) (count : ℕ) (deed : Deed) (old new : DiskState) where
  -- it was done
  pub was_put : (said : Said) → count ≤ capacity → said ≡ stored parts → Leaves deed old new
      → Answers (λ o. o ≡ given_to name capacity parts count deed) (name ∷ []) old new said
  was_put said short is leaves = inr (record { said = stored parts; deed = deed }, given_short name capacity parts count deed short, is, leaves)

  refused : (f : SlotFault) (said : Said) → (f ≢ slots.NoMemory) → (capacity < count → Quiet old new) → RefusesBytes capacity count old new f → said ≡ slot_refusal name f
      → Answers (λ o. o ≡ given_to name capacity parts count deed) (name ∷ []) old new said
  refused (slots.BadDevice at) said some same why is = absurd why
  refused (slots.TooLong most) said some same (most_is, long) is =
      inr (keeps (too_long capacity name), given_long name capacity parts count deed long, is ∙ ap (λ (m : ℕ). too_long m name) most_is, same long)
  refused slots.DiskFault said some same why is = inl (name, inl refl, is, why)
  refused slots.NoMemory said some same why is = absurd (some refl)

  -- it was not
  pub not_put : (f : SlotFault) (r : Result Said NoMemory) → (capacity < count → Quiet old new) → RefusesBytes capacity count old new f → IfOk r (λ s. s ≡ slot_refusal name f)
      → IfOk r (λ s. Answers (λ o. o ≡ given_to name capacity parts count deed) (name ∷ []) old new s)
  not_put slots.NoMemory (Ok said) same why is = absurd why
  not_put (slots.BadDevice at) (Ok said) same why is = absurd why
  not_put (slots.TooLong most) (Ok said) same why is = refused (slots.TooLong most) said (λ h. cc) same why is
  not_put slots.DiskFault (Ok said) same why is = refused slots.DiskFault said (λ h. cc) same why is
  not_put f (Err e) same why is = tt

-- it takes no memory, so that none was wanted
pub not_wanting : (capacity count : ℕ) (old new : DiskState) (f : SlotFault) (r : Result Said NoMemory) → RefusesBytes capacity count old new f → OnErr r (f ≡ slots.NoMemory) → IsOk r
not_wanting capacity count old new f (Ok said) why wants = refl
not_wanting capacity count old new f (Err e) why wants = absurd (subst (RefusesBytes capacity count old new) wants why)

-- what was made rests
pub rests_formatted : (capacity : ℕ) (bytes : List ℕ) (old new : DiskState) → Tells (λ _ device. IsDevice capacity bytes device × (slice_index device 0 ≡ 0)) old new → IsSynced new
    → Leaves (Formats capacity bytes) old new
rests_formatted capacity bytes old new tells synced device told =
    let w = tells.some device told in (w.0, w.1, synced w.0 w.1, w.2)

short_by : (capacity count : ℕ) → (capacity < count → ⊥) → count ≤ capacity
short_by capacity count isnt = omega (arith, isnt)

-- what was written was no longer than the capacity
pub fits : {T : Type 0} (capacity count : ℕ) (x : T) (f : SlotFault) (P : Type 0) → (capacity < count → (◌≡◌ {A = Result T SlotFault} (Ok x) (Err f)) × P) → count ≤ capacity
fits {T} capacity count x f P long = short_by capacity count (λ l. let h : ◌≡◌ {A = Result T SlotFault} (Ok x) (Err f) = (long l).0 in cc)

module _ (name : List ℕ) (parts : List SealedFields) (bytes : List ℕ) (before : SlotsView) (old new : DiskState) (is_text : bytes ≡ store_text parts) where
  turned_over : (after : SlotsView) → after ≡ record { capacity = before.capacity; second = not before.second; length = length bytes }
      → Shows old.told (λ _. (held : List ℕ) × IsSlotsOf old before held) → ((held : List ℕ) → IsSlotsOf old before held → IsSlotsOf new after bytes)
      → Leaves (Replaces before.capacity bytes) old new
  turned_over after turned held makes device told =
      let h = held device told in
      let made = makes h.0 h.1 in
      let there : h.1.attached.device ≡ device = same_some h.1.attached.device device (sym h.1.attached.reads ∙ told) in (
        made.attached.device,
        made.attached.reads,
        made.attached.only,
        (
          subst (λ (c : ℕ). IsDevice c bytes made.attached.device) (ap (λ (s : SlotsView). s.capacity) turned) made.attached.holds,
          sym made.attached.picks ∙ ap (λ (s : SlotsView). s.second) turned ∙ ap not (h.1.attached.picks ∙ ap picks_second there),
        ),
      )

  -- the store was put in the place of the one before
  pub was_replaced : (after : SlotsView) (said : Said) (P : Type 0)
      → (before.capacity < length bytes → (◌≡◌ {A = Result SlotsView SlotFault} (Ok after) (Err (slots.TooLong before.capacity))) × P)
      → after ≡ record { capacity = before.capacity; second = not before.second; length = length bytes }
      → ((held : List ℕ) → IsSlotsOf old before held → IsSlotsOf new after bytes) → said ≡ stored parts → Shows old.told (λ _. (held : List ℕ) × IsSlotsOf old before held)
      → Answers (λ o. o ≡ replaced name before.capacity parts) (name ∷ []) old new said
  was_replaced after said P long turned makes is held =
      let short = fits before.capacity (length bytes) after (slots.TooLong before.capacity) P long in
      was_put name before.capacity parts (length (store_text parts)) (Replaces before.capacity (store_text parts)) old new said
      (subst (λ (b : List ℕ). length b ≤ before.capacity) is_text short) is
      (subst (λ (b : List ℕ). Leaves (Replaces before.capacity b) old new) is_text (turned_over after turned held makes))

  -- it was not
  pub not_replaced : (f : SlotFault) (r : Result Said NoMemory) → (before.capacity < length bytes → Quiet old new) → RefusesBytes before.capacity (length bytes) old new f
      → IfOk r (λ s. s ≡ slot_refusal name f) → IfOk r (λ s. Answers (λ o. o ≡ replaced name before.capacity parts) (name ∷ []) old new s)
  not_replaced f r same why is =
      not_put name before.capacity parts (length (store_text parts)) (Replaces before.capacity (store_text parts)) old new f r
      (λ l. same (subst (λ (b : List ℕ). before.capacity < length b) (sym is_text) l))
      (subst (λ (b : List ℕ). RefusesBytes before.capacity (length b) old new f) is_text why) is
