-- What follows from how a call ends, over a disk whose bytes are told.
use Rattle.std.proofs.Common.{◌≡◌, ℕ, ◌≤◌, Bool, true, false, inl, inr, List, [], ◌∷◌, ◌++◌, length, map, Option, Some, None, Result, Ok, Err, refl, sym, ap, ◌∙◌, subst, arith}
use Rattle.std.specs.Prelude.{nat_lt, if◌then◌else◌, All}
use Rattle.ident_core.specs.declared.identity.Identity.{Identity}
use Rattle.ident_core.specs.declared.range.Sighting.{Sighting}
use Rattle.octets_core.specs.Reading.{value_of}
use Rattle.outside_core.specs.Written.{followed_by}
use Rattle.part_text.specs.Fitting.{Fits}
use Rattle.part_text.specs.SealedFields.{SealedFields}
use Rattle.store_core.specs.declared.chain.Refusal.{Refusal}
use Rattle.card_core.specs.declared.verdict.Verdict.{Verdict}
use Rattle.store_core.specs.Chain.{IsChain, refusal_of}
use Rattle.store_core.specs.StoreLayout.{store, store_text}
use Rattle.card_core.specs.Verdict.{verdict}
use Rattle.slot_core.specs.Device.{IsDevice}
use Rattle.ident_core.specs.Among.{Among}
use Rattle.universe_core.specs.History.{seen, sightings}
use Rattle.publication_core.specs.Histories.{History, members, IsHistory, parts_of, releases_of, store_bytes}
use Rattle.publication_core.specs.Truth.{truth}
use Rattle.input_core.specs.declared.fault.FileFault.{FileFault}
use Rattle.input_core.specs.declared.fault.FileFault.TheVariants as faults
use Rattle.input_core.specs.Faults.{of_store}
use Rattle.input_core.specs.Readings.{faulted, input_as, part_in, store_in}
use Rattle.input_core.specs.Inputs.{IsRead}
use Rattle.word_core.specs.declared.command.Query.{Query}
use Rattle.word_core.specs.declared.device.{Format.Format, InstallPart.InstallPart}
use Rattle.word_core.specs.declared.device.DeviceCommand.{DeviceCommand}
use Rattle.word_core.specs.declared.device.DeviceCommand.TheVariants as commands
use Rattle.reply_core.specs.Said.{Said}
use Rattle.reply_core.specs.Replies.{bad_device, disk_fault, refusal, too_long}
use Rattle.line_core.specs.Lines.{verdict_line}
use Rattle.device_top.specs.Outcomes.{Outcome, Formats, Replaces, keeps, stored, formats, format_outcome, added, install_outcome, query_outcome}
use Rattle.device_top.specs.Comes.{Comes, Queried}
use Rattle.device_top.specs.Holding.{Leaves}
use Rattle.device_top.specs.Calls.{DeviceCall, Ends, HasComeOf, Prints}
use Rattle.device_top.specs.Promises.{Formatted, Installed, Answered, Promises}
use Rattle.device_top.proofs.Answering.{status_of}
use Rattle.device_top.proofs.Appending.{grown}
use Rattle.device_top.proofs.OutcomeKinds.{not_done}
use Rattle.device_top.proofs.Once.{held_once}

-- ---- the ends of a call

module _ (call : DeviceCall) (device : List ℕ) (told : call.before.told ≡ Some device) where
  -- the command was done
  pub record Done : Type 0 where
    pub o : Outcome
    pub comes : HasComeOf call o
    pub zero : o.said.status ≡ 0
    pub prints : Prints call o.said.text
    pub leaves : Leaves o.deed call.before call.after

  done_by : Ends call → call.printed.status ≡ 0 → Done
  done_by (inl (status, text, same)) zero = absurd (omega (arith, status, zero))
  done_by (inr (said, inl (status, text), says, inl (name, among, is, rose))) zero =
      let thirteen = status_of said (disk_fault name) is in absurd (omega (arith, status, zero, thirteen))
  done_by (inr (said, inl (status, text), says, inr (o, comes, is, leaves))) zero = record {
    o = o;
    comes = comes;
    zero = sym (status_of said o.said is) ∙ sym status ∙ zero;
    prints = text ∙ ap (λ (s : Said). followed_by call.printed.text_before s.text) is;
    leaves = leaves;
  }
  done_by (inr (said, inr (status, cut, risen), says, answers)) zero = absurd (omega (arith, status, zero))

  -- what an outcome says and leaves, by an equal one
  abbrev ShowsIt : Outcome → Type 0
  ShowsIt o = (o.said.status ≡ 0) × Prints call o.said.text × Leaves o.deed call.before call.after

  shown : (d : Done) (o : Outcome) → d.o ≡ o → ShowsIt o
  shown d o is = subst ShowsIt is (d.zero, d.prints, d.leaves)

  as_asked : (d : Done) (asked : DeviceCommand) → call.asked ≡ asked → Comes asked call.files call.failed call.before.told d.o
  as_asked d asked is = subst (λ (a : DeviceCommand). Comes a call.files call.failed call.before.told d.o) is d.comes

  -- ---- device-format

  format_put : (f : Format) (bytes : List ℕ) (parts : List SealedFields) → store_in bytes ≡ Ok parts → IsRead call.files call.failed f.store (Some bytes) → (b : Bool)
      → ShowsIt (if b then keeps (too_long f.capacity f.device) else record { said = stored parts; deed = Formats f.capacity bytes }) → Formatted call f
  format_put f bytes parts is read true (zero, prints, leaves) = absurd (omega (arith, zero))
  format_put f bytes parts is read false (zero, prints, leaves) = record { bytes = bytes; parts = parts; is_read = read; is_store = is; prints = prints; rests = leaves device told }

  format_read : (f : Format) (bytes : List ℕ) (r : Result (List SealedFields) FileFault) → store_in bytes ≡ r → IsRead call.files call.failed f.store (Some bytes)
      → ShowsIt (formats f bytes r) → Formatted call f
  format_read f bytes (Err fault) is read (zero, prints, leaves) = absurd (not_done f.store fault zero)
  format_read f bytes (Ok parts) is read shows = format_put f bytes parts is read (nat_lt f.capacity (length bytes)) shows

  format_given : (f : Format) (given : Option (List ℕ)) → IsRead call.files call.failed f.store given → ShowsIt (format_outcome f given) → Formatted call f
  format_given f None read (zero, prints, leaves) = absurd (not_done f.store faults.Unread zero)
  format_given f (Some bytes) read shows = format_read f bytes (store_in bytes) refl read shows

  format_done : (f : Format) (d : Done) → Comes (commands.Format f) call.files call.failed call.before.told d.o → Formatted call f
  format_done f d (given, read, is) = format_given f given read (shown d (format_outcome f given) is)

  -- ---- device-install

  module _ (i : InstallPart) (capacity : ℕ) (held : List ℕ) (parts : List SealedFields) (is_device : IsDevice capacity held device) (is_store : store_in held ≡ Ok parts) where
    install_put : (file : List ℕ) (x : SealedFields × ℕ) → IsRead call.files call.failed i.part (Some file) → part_in file ≡ Ok x → refusal_of parts x.0 ≡ None → (b : Bool)
        → ShowsIt (if b then keeps (too_long capacity i.device)
        else record { said = stored (parts ++ x.0 ∷ []); deed = Replaces capacity (store_text (parts ++ x.0 ∷ [])) }) → Installed call device i
    install_put file x read is none true (zero, prints, leaves) = absurd (omega (arith, zero))
    install_put file x read is none false (zero, prints, leaves) = record {
      capacity = capacity;
      held = held;
      is_device = is_device;
      grows = grown call.files call.failed i.part held file parts x is_store read is none;
      prints = prints;
      rests = leaves device told;
    }

    install_added : (file : List ℕ) (x : SealedFields × ℕ) → IsRead call.files call.failed i.part (Some file) → part_in file ≡ Ok x → (r : Option Refusal) → refusal_of parts x.0 ≡ r
        → ShowsIt (added i capacity parts x.0 r) → Installed call device i
    install_added file x read is None none shows = install_put file x read is none (nat_lt capacity (length (store_text (parts ++ x.0 ∷ [])))) shows
    install_added file x read is (Some why) refused (zero, prints, leaves) = absurd (not_done i.part (faults.Chain why) zero)

    install_read : (file : List ℕ) (r : Result (SealedFields × ℕ) FileFault) → part_in file ≡ r → IsRead call.files call.failed i.part (Some file)
        → ShowsIt (install_outcome i capacity parts r) → Installed call device i
    install_read file (Err fault) is read (zero, prints, leaves) = absurd (not_done i.part fault zero)
    install_read file (Ok x) is read shows = install_added file x read is (refusal_of parts x.0) refl shows

    install_given : (given : Option (List ℕ)) → IsRead call.files call.failed i.part given → ShowsIt (install_outcome i capacity parts (input_as part_in given)) → Installed call device i
    install_given None read (zero, prints, leaves) = absurd (not_done i.part faults.Unread zero)
    install_given (Some file) read shows = install_read file (part_in file) refl read shows

  install_done : (i : InstallPart) (d : Done) → Comes (commands.Install i) call.files call.failed call.before.told d.o → Installed call device i
  install_done i d (inl (at, breaks, is)) = let s = shown d (keeps (bad_device at i.device)) is in absurd (let z : 14 ≡ 0 = s.0 in omega (arith, z))
  install_done i d (inr (capacity, bytes, holds, inl (fault, bad, is))) = absurd (not_done i.device fault (shown d (keeps (refusal i.device fault)) is).0)
  install_done i d (inr (capacity, bytes, holds, inr (parts, good, (given, read, is)))) =
      install_given i capacity bytes parts (holds device told) good given read (shown d (install_outcome i capacity parts (input_as part_in given)) is)

  -- ---- device-query

  query_done : (q : Query) (d : Done) → Queried q call.before.told d.o → Answered call device q
  query_done q d (inl (at, breaks, is)) = let s = shown d (keeps (bad_device at q.store)) is in absurd (let z : 14 ≡ 0 = s.0 in omega (arith, z))
  query_done q d (inr (capacity, bytes, holds, inl (fault, bad, is))) = absurd (not_done q.store fault (shown d (keeps (refusal q.store fault)) is).0)
  query_done q d (inr (capacity, bytes, holds, inr (parts, good, is))) = record {
    capacity = capacity;
    held = bytes;
    parts = parts;
    is_device = holds device told;
    is_store = good;
    prints = (shown d (query_outcome q parts) is).1;
  }

  -- ---- histories

  -- what the layers promise of histories
  pub record Laws : Type 0 where
    pub chain : (h : History) → IsHistory h → IsChain (parts_of h)
    pub few : (h : History) → IsHistory h → members h ≤ 64
    pub texts : (h : History) → IsHistory h → All Fits (parts_of h)
    pub truths : (h : History) (x : Identity) (ss : List Sighting) → IsHistory h → 1 ≤ length ss
        → ((s : Sighting) → Among ss s → Among (sightings x (seen (releases_of h))) s) → verdict (map (λ s. s.part) (parts_of h)) x ss ≡ truth (releases_of h) x
    pub store_read : (parts : List SealedFields) → IsChain parts → 1 ≤ length parts → length parts ≤ 64 → All Fits parts → value_of (store (store_text parts) 0) ≡ Ok parts

  same_parts : (one other : List SealedFields) → ◌≡◌ {A = Result (List SealedFields) FileFault} (Ok one) (Ok other) → one ≡ other
  same_parts one other is = cc

  truth_done : Laws → (q : Query) (h : History) (capacity : ℕ) → IsHistory h → 1 ≤ members h
      → IsDevice capacity (store_bytes (parts_of h)) device → 1 ≤ length q.sightings → ((s : Sighting) → Among q.sightings s → Among (sightings q.id (seen (releases_of h))) s)
      → Answered call device q → Prints call (verdict_line (truth (releases_of h) q.id))
  truth_done laws q h capacity is some holds asked accepted a =
      let held : a.held ≡ store_text (parts_of h) = held_once a.capacity capacity a.held (store_text (parts_of h)) device a.is_device holds in
      let read : store_in (store_text (parts_of h)) ≡ Ok (parts_of h) =
      ap (faulted of_store) (laws.store_read (parts_of h) (laws.chain h is) some (laws.few h is) (laws.texts h is)) in
      let same : a.parts ≡ parts_of h = same_parts a.parts (parts_of h) (sym a.is_store ∙ ap store_in held ∙ read) in
      a.prints ∙ ap (λ (ps : List SealedFields). followed_by call.printed.text_before (verdict_line (verdict (map (λ s. s.part) ps) q.id q.sightings))) same
      ∙ ap (λ (v : Verdict). followed_by call.printed.text_before (verdict_line v)) (laws.truths h q.id q.sightings is asked accepted)

  pub promised : Laws → Ends call → Promises call device
  promised laws ends = record {
    format = λ f did. let d = done_by ends did.1 in format_done f d (as_asked d (commands.Format f) did.0);
    install = λ i did. let d = done_by ends did.1 in install_done i d (as_asked d (commands.Install i) did.0);
    query = λ q did. let d = done_by ends did.1 in query_done q d (as_asked d (commands.Query q) did.0);
    truth = λ q h capacity is some holds asked accepted did.
        let d = done_by ends did.1 in truth_done laws q h capacity is some holds asked accepted (query_done q d (as_asked d (commands.Query q) did.0));
  }
