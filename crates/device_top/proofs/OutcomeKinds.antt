-- Of which kind each outcome of a command is: what is said and why, and that nothing else is done to the device.
use Rattle.std.proofs.Common.{◌≡◌, ℕ, Bool, true, false, inl, inr, List, [], ◌∷◌, ◌++◌, length, Option, Some, None, Result, Ok, Err, refl, sym, ap, subst, arith}
use Rattle.std.specs.Prelude.{◌≢◌, nat_lt, if◌then◌else◌}
use Rattle.octets_core.specs.declared.fault.LayoutFault.{LayoutFault}
use Rattle.octets_core.specs.Layout.{◌>>=◌, then_read, with_fault, whole, mapped}
use Rattle.octets_core.specs.Reading.{end, value_of}
use Rattle.outside_core.specs.Files.{Files}
use Rattle.part_text.specs.SealedFields.{SealedFields}
use Rattle.part_text.specs.PartLayout.{part}
use Rattle.part_text.specs.declared.fault.PartFault.{PartFault}
use Rattle.part_text.specs.declared.fault.PartFault.TheVariants as of
use Rattle.store_core.specs.declared.chain.Refusal.{Refusal}
use Rattle.store_core.specs.declared.fault.StoreFault.{StoreFault}
use Rattle.store_core.specs.declared.fault.StoreFault.TheVariants as in_store
use Rattle.store_core.specs.Chain.{refusal_of}
use Rattle.store_core.specs.StoreLayout.{store, store_text}
use Rattle.ident_core.specs.Among.{Among}
use Rattle.input_core.specs.declared.fault.FileFault.{FileFault}
use Rattle.input_core.specs.declared.fault.FileFault.TheVariants as faults
use Rattle.input_core.specs.Faults.{of_part, of_store}
use Rattle.input_core.specs.Inputs.{IsRead}
use Rattle.input_core.specs.PartFile.{part_file}
use Rattle.input_core.specs.Readings.{faulted, input_as, part_in, store_in}
use Rattle.word_core.specs.declared.device.{Format.Format, InstallPart.InstallPart}
use Rattle.word_core.specs.declared.device.DeviceCommand.{DeviceCommand}
use Rattle.word_core.specs.declared.device.DeviceCommand.TheVariants as commands
use Rattle.reply_core.specs.Replies.{usage, refusal, bad_device, too_long}
use Rattle.device_top.specs.Outcomes.{Outcome, Deed, keeps, stored, formats, format_outcome, added, install_outcome, query_outcome}
use Rattle.device_top.specs.Comes.{Comes, OfFile, OfSlot, OfDevice}
use Rattle.device_top.specs.Calls.{file_of}

-- ---- what is wrong with a store or a part

abbrev pub IsOfFile : FileFault → Type 0
IsOfFile (faults.Layout f) = Unit {0}
IsOfFile faults.NotSnapshot = Unit {0}
IsOfFile (faults.Chain why) = Unit {0}
IsOfFile faults.NoMemory = Unit {0}
IsOfFile _ = ⊥

err_is : {A : Type 0} (one other : FileFault) → ◌≡◌ {A = Result A FileFault} (Err one) (Err other) → one ≡ other
err_is one other is = cc

not_ok : {A : Type 0} (x : A) (fault : FileFault) → ◌≡◌ {A = Result A FileFault} (Ok x) (Err fault) → ⊥
not_ok x fault is = cc

of_store-file : (e : StoreFault) → IsOfFile (of_store e)
of_store-file (in_store.Layout f) = tt
of_store-file in_store.NotSnapshot = tt
of_store-file (in_store.Refused why) = tt
of_store-file in_store.NoMemory = tt

faulted-file : (r : Result (List SealedFields) StoreFault) (fault : FileFault) → faulted of_store r ≡ Err fault → IsOfFile fault
faulted-file (Ok parts) fault is = absurd (not_ok parts fault is)
faulted-file (Err e) fault is = subst IsOfFile (err_is {A = List SealedFields} (of_store e) fault is) (of_store-file e)

of_part-file : (e : PartFault) → IsOfFile (of_part e)
of_part-file (of.Layout f) = tt
of_part-file of.NoMemory = tt

end-file : (bytes : List ℕ) (x : SealedFields × ℕ) (r : Result (Unit {0} × ℕ) LayoutFault) (fault : FileFault)
    → then_read (with_fault faults.Layout r) (λ nothing. whole x.0) bytes ≡ Err fault → IsOfFile fault
end-file bytes x (Ok y) fault is = absurd (not_ok (x.0, y.1) fault is)
end-file bytes x (Err e) fault is = subst IsOfFile (err_is {A = SealedFields × ℕ} (faults.Layout e) fault is) tt

part-file : (bytes : List ℕ) (r : Result (SealedFields × ℕ) PartFault) (fault : FileFault)
    → then_read (with_fault of_part r) (λ sealed. mapped faults.Layout end >>= λ nothing. whole sealed) bytes ≡ Err fault → IsOfFile fault
part-file bytes (Ok x) fault is = end-file bytes x (end bytes x.1) fault is
part-file bytes (Err e) fault is = subst IsOfFile (err_is {A = SealedFields × ℕ} (of_part e) fault is) (of_part-file e)

part_in-file : (bytes : List ℕ) (fault : FileFault) → part_in bytes ≡ Err fault → IsOfFile fault
unfolding part_file
part_in-file bytes fault is = part-file bytes (part bytes 0) fault is

-- ---- outcomes

pub data Kind (asked : DeviceCommand) (told : Option Files) (failed : Option (List ℕ) → Type 0) (o : Outcome) : Type 0 where
  no_command : asked ≡ commands.Usage → o ≡ keeps usage → Kind asked told failed o
  unread : (name : List ℕ) → Among (file_of asked) name → IsRead told failed name None → o ≡ keeps (refusal name faults.Unread) → Kind asked told failed o
  bad_file : (name : List ℕ) (fault : FileFault) → IsOfFile fault → o ≡ keeps (refusal name fault) → Kind asked told failed o
  broken : (name : List ℕ) (at : ℕ) → o ≡ keeps (bad_device at name) → Kind asked told failed o
  over : (name : List ℕ) (capacity : ℕ) → o ≡ keeps (too_long capacity name) → Kind asked told failed o
  done : o.said.status ≡ 0 → Kind asked told failed o

pub status_is : (one other : Outcome) → one ≡ other → one.said.status ≡ other.said.status
status_is one other is = ap (λ (o : Outcome). o.said.status) is

module _ (asked : DeviceCommand) (told : Option Files) (failed : Option (List ℕ) → Type 0) (o : Outcome) where
  kind_if : (b : Bool) (name : List ℕ) (capacity : ℕ) (parts : List SealedFields) (deed : Deed)
      → o ≡ (if b then keeps (too_long capacity name) else record { said = stored parts; deed = deed }) → Kind asked told failed o
  kind_if true name capacity parts deed is = over name capacity is
  kind_if false name capacity parts deed is = done (status_is o (record { said = stored parts; deed = deed }) is)

  kind_formats : (f : Format) (bytes : List ℕ) (r : Result (List SealedFields) FileFault) → store_in bytes ≡ r → o ≡ formats f bytes r → Kind asked told failed o
  kind_formats f bytes (Err fault) read is = bad_file f.store fault (faulted-file (value_of (store bytes 0)) fault read) is
  kind_formats f bytes (Ok parts) read is = kind_if (nat_lt f.capacity (length bytes)) f.device f.capacity parts _ is

  kind_format : (f : Format) → asked ≡ commands.Format f → (given : Option (List ℕ)) → IsRead told failed f.store given → o ≡ format_outcome f given → Kind asked told failed o
  kind_format f is_asked None read is = unread f.store (subst (λ (a : DeviceCommand). Among (file_of a) f.store) (sym is_asked) (inl refl)) read is
  kind_format f is_asked (Some bytes) read is = kind_formats f bytes (store_in bytes) refl is

  kind_added : (i : InstallPart) (capacity : ℕ) (parts : List SealedFields) (s : SealedFields) (r : Option Refusal) → o ≡ added i capacity parts s r → Kind asked told failed o
  kind_added i capacity parts s None is = kind_if (nat_lt capacity (length (store_text (parts ++ s ∷ [])))) i.device capacity (parts ++ s ∷ []) _ is
  kind_added i capacity parts s (Some why) is = bad_file i.part (faults.Chain why) tt is

  kind_install : (i : InstallPart) (capacity : ℕ) (parts : List SealedFields) (file : List ℕ) (r : Result (SealedFields × ℕ) FileFault) → part_in file ≡ r
      → o ≡ install_outcome i capacity parts r → Kind asked told failed o
  kind_install i capacity parts file (Err fault) read is = bad_file i.part fault (part_in-file file fault read) is
  kind_install i capacity parts file (Ok x) read is = kind_added i capacity parts x.0 (refusal_of parts x.0) is

  kind_part : (i : InstallPart) → asked ≡ commands.Install i → (capacity : ℕ) (parts : List SealedFields) (given : Option (List ℕ)) → IsRead told failed i.part given
      → o ≡ install_outcome i capacity parts (input_as part_in given) → Kind asked told failed o
  kind_part i is_asked capacity parts None read is = unread i.part (subst (λ (a : DeviceCommand). Among (file_of a) i.part) (sym is_asked) (inl refl)) read is
  kind_part i is_asked capacity parts (Some file) read is = kind_install i capacity parts file (part_in file) refl is

  kind_slot : (name : List ℕ) (bytes : List ℕ) (next : List SealedFields → Outcome → Type 0) → ((parts : List SealedFields) → next parts o → Kind asked told failed o)
      → OfSlot name bytes next o → Kind asked told failed o
  kind_slot name bytes next each (inl (fault, bad, is)) = bad_file name fault (faulted-file (value_of (store bytes 0)) fault bad) is
  kind_slot name bytes next each (inr (parts, good, goes)) = each parts goes

  kind_device : (name : List ℕ) (disk : Option (List ℕ)) (next : ℕ → List SealedFields → Outcome → Type 0)
      → ((capacity : ℕ) (parts : List SealedFields) → next capacity parts o → Kind asked told failed o) → OfDevice name disk next o → Kind asked told failed o
  kind_device name disk next each (inl (at, breaks, is)) = broken name at is
  kind_device name disk next each (inr (capacity, bytes, there, slot)) = kind_slot name bytes (next capacity) (each capacity) slot

pub kind : (asked : DeviceCommand) (told : Option Files) (failed : Option (List ℕ) → Type 0) (disk : Option (List ℕ)) (o : Outcome) → Comes asked told failed disk o
    → Kind asked told failed o
kind commands.Usage told failed disk o is = no_command refl is
kind (commands.Format f) told failed disk o (given, read, is) = kind_format (commands.Format f) told failed o f refl given read is
kind (commands.Install i) told failed disk o comes =
    kind_device (commands.Install i) told failed o i.device disk (λ capacity parts. OfFile told failed i.part (λ given. install_outcome i capacity parts (input_as part_in given)))
    (λ capacity parts goes. kind_part (commands.Install i) told failed o i refl capacity parts goes.0 goes.1 goes.2) comes
kind (commands.Query q) told failed disk o comes =
    kind_device (commands.Query q) told failed o q.store disk (λ capacity parts x. x ≡ query_outcome q parts) (λ capacity parts is. done (status_is o (query_outcome q parts) is)) comes

-- what is wrong with a file is no success
pub not_done : (name : List ℕ) (fault : FileFault) → (refusal name fault).status ≢ 0
not_done name faults.Unread is = omega (arith, is)
not_done name (faults.Layout f) is = omega (arith, is)
not_done name faults.NotSnapshot is = omega (arith, is)
not_done name (faults.Chain why) is = omega (arith, is)
not_done name (faults.BadCrl place fault) is = omega (arith, is)
not_done name (faults.TooMany thing limit) is = omega (arith, is)
not_done name (faults.Seeds issuer stage) is = omega (arith, is)
not_done name (faults.BadCert fault) is = omega (arith, is)
not_done name (faults.OtherEpoch held given) is = omega (arith, is)
not_done name (faults.BadPage fault) is = omega (arith, is)
not_done name (faults.Disagrees job entry held truth) is = omega (arith, is)
not_done name faults.NoMemory is = omega (arith, is)
