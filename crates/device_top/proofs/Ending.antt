-- What follows from how a call ends, over any disk and files, told or not.
use Rattle.std.proofs.Common.{◌≡◌, ◌⊎◌, ℕ, inl, inr, List, [], ◌∷◌, Option, Some, None, refl, sym, ap, ◌∙◌, subst, arith}
use Rattle.std.specs.Prelude.{◌≢◌}
use Rattle.std.proofs.lemmas.List.{append-nil}
use Rattle.outside_core.specs.Files.{Files}
use Rattle.outside_core.specs.Reads.{CouldNotRead}
use Rattle.outside_core.specs.Written.{followed_by}
use Rattle.slot_core.specs.Disk.{HasFailed, Quiet}
use Rattle.ident_core.specs.Among.{Among}
use Rattle.input_core.specs.declared.fault.FileFault.{FileFault}
use Rattle.input_core.specs.declared.fault.FileFault.TheVariants as faults
use Rattle.input_core.specs.Inputs.{IsRead}
use Rattle.word_core.specs.declared.device.DeviceCommand.{DeviceCommand}
use Rattle.word_core.specs.declared.device.DeviceCommand.TheVariants as commands
use Rattle.reply_core.specs.Said.{Said}
use Rattle.reply_core.specs.Replies.{bad_device, disk_fault, refusal, too_long, usage}
use Rattle.device_top.specs.Outcomes.{Outcome, Deed, Keeps, keeps}
use Rattle.device_top.specs.Comes.{Comes}
use Rattle.device_top.specs.Holding.{Answers, Leaves}
use Rattle.device_top.specs.Calls.{DeviceCall, Ends, Gives, HasComeOf, IsDue, NoFault, NotCut, Prints, WantedMemory, WasCut, all_statuses, device_of, file_of}
use Rattle.device_top.specs.Promises.{Ending, Refusals}
use Rattle.device_top.proofs.Answering.{status_of}
use Rattle.device_top.proofs.OutcomeKinds.{IsOfFile, Kind, no_command, unread, bad_file, broken, over, done, kind, status_is}
use Rattle.device_top.proofs.Once.{comes_once}

-- ---- outcomes

file_status : (name : List ℕ) (fault : FileFault) → IsOfFile fault → Among (3 ∷ 5 ∷ 70 ∷ []) (refusal name fault).status
file_status name (faults.Layout f) of = inl refl
file_status name faults.NotSnapshot of = inr (inl refl)
file_status name (faults.Chain why) of = inr (inl refl)
file_status name faults.NoMemory of = inr (inr (inl refl))
file_status name faults.Unread of = absurd of
file_status name (faults.BadCrl place fault) of = absurd of
file_status name (faults.TooMany what limit) of = absurd of
file_status name (faults.Seeds issuer stage) of = absurd of
file_status name (faults.BadCert fault) of = absurd of
file_status name (faults.OtherEpoch held given) of = absurd of
file_status name (faults.BadPage fault) of = absurd of
file_status name (faults.Disagrees job entry held truth) of = absurd of

-- of what is wrong with a file, want of memory alone has that status
wants : (name : List ℕ) (fault : FileFault) → IsOfFile fault → (refusal name fault).status ≡ 70 → fault ≡ faults.NoMemory
wants name (faults.Layout f) of is = absurd (omega (arith, is))
wants name faults.NotSnapshot of is = absurd (omega (arith, is))
wants name (faults.Chain why) of is = absurd (omega (arith, is))
wants name faults.NoMemory of is = refl
wants name faults.Unread of is = absurd of
wants name (faults.BadCrl place fault) of is = absurd of
wants name (faults.TooMany what limit) of is = absurd of
wants name (faults.Seeds issuer stage) of is = absurd of
wants name (faults.BadCert fault) of is = absurd of
wants name (faults.OtherEpoch held given) of is = absurd of
wants name (faults.BadPage fault) of is = absurd of
wants name (faults.Disagrees job entry held truth) of is = absurd of

among_all : (n : ℕ) → Among (3 ∷ 5 ∷ 70 ∷ []) n → Among all_statuses n
among_all n (inl is) = inr (inr (inl is))
among_all n (inr (inl is)) = inr (inr (inr (inl is)))
among_all n (inr (inr (inl is))) = inr (inr (inr (inr (inr (inr (inr (inr (inr (inl is)))))))))
among_all n (inr (inr (inr none))) = absurd none

not_file : (n : ℕ) → Among (3 ∷ 5 ∷ 70 ∷ []) n → (n ≢ 2) × (n ≢ 8) × (n ≢ 9) × (n ≢ 13)
not_file n (inl is) = (λ h. omega (arith, h, is), λ h. omega (arith, h, is), λ h. omega (arith, h, is), λ h. omega (arith, h, is))
not_file n (inr (inl is)) = (λ h. omega (arith, h, is), λ h. omega (arith, h, is), λ h. omega (arith, h, is), λ h. omega (arith, h, is))
not_file n (inr (inr (inl is))) = (λ h. omega (arith, h, is), λ h. omega (arith, h, is), λ h. omega (arith, h, is), λ h. omega (arith, h, is))
not_file n (inr (inr (inr none))) = absurd none

module _ (asked : DeviceCommand) (told : Option Files) (failed : Option (List ℕ) → Type 0) (o : Outcome) where
  kind_status : Kind asked told failed o → Among all_statuses o.said.status
  kind_status (no_command is_asked is) = inr (inl (sym (status_is o (keeps usage) is)))
  kind_status (unread name among read is) = inr (inr (inr (inr (inl (sym (status_is o (keeps (refusal name faults.Unread)) is))))))
  kind_status (bad_file name fault of is) =
      subst (Among all_statuses) (sym (status_is o (keeps (refusal name fault)) is)) (among_all (refusal name fault).status (file_status name fault of))
  kind_status (broken name at is) = inr (inr (inr (inr (inr (inr (inr (inl (sym (status_is o (keeps (bad_device at name)) is)))))))))
  kind_status (over name capacity is) = inr (inr (inr (inr (inr (inr (inr (inr (inl (sym (status_is o (keeps (too_long capacity name)) is))))))))))
  kind_status (done is) = inl (sym is)

  kind_usage : Kind asked told failed o → o.said.status ≡ 2 → (asked ≡ commands.Usage) × (o ≡ keeps usage)
  kind_usage (no_command is_asked is) two = (is_asked, is)
  kind_usage (unread name among read is) two = absurd (omega (arith, two, status_is o (keeps (refusal name faults.Unread)) is))
  kind_usage (bad_file name fault of is) two = absurd ((not_file (refusal name fault).status (file_status name fault of)).0 (sym (status_is o (keeps (refusal name fault)) is) ∙ two))
  kind_usage (broken name at is) two = absurd (omega (arith, two, status_is o (keeps (bad_device at name)) is))
  kind_usage (over name capacity is) two = absurd (omega (arith, two, status_is o (keeps (too_long capacity name)) is))
  kind_usage (done is) two = absurd (omega (arith, two, is))

  abbrev IsUnread : Type 0
  IsUnread = (name : List ℕ) × Among (file_of asked) name × IsRead told failed name None × (o ≡ keeps (refusal name faults.Unread))

  kind_unread : Kind asked told failed o → o.said.status ≡ 8 → IsUnread
  kind_unread (no_command is_asked is) eight = absurd (omega (arith, eight, status_is o (keeps usage) is))
  kind_unread (unread name among read is) eight = (name, among, read, is)
  kind_unread (bad_file name fault of is) eight =
      absurd ((not_file (refusal name fault).status (file_status name fault of)).1 (sym (status_is o (keeps (refusal name fault)) is) ∙ eight))
  kind_unread (broken name at is) eight = absurd (omega (arith, eight, status_is o (keeps (bad_device at name)) is))
  kind_unread (over name capacity is) eight = absurd (omega (arith, eight, status_is o (keeps (too_long capacity name)) is))
  kind_unread (done is) eight = absurd (omega (arith, eight, is))

  -- no outcome is a fault of the sink or of the disk
  kind_inside : Kind asked told failed o → (o.said.status ≢ 9) × (o.said.status ≢ 13)
  kind_inside (no_command is_asked is) = let s = status_is o (keeps usage) is in (λ h. omega (arith, h, s), λ h. omega (arith, h, s))
  kind_inside (unread name among read is) = let s = status_is o (keeps (refusal name faults.Unread)) is in (λ h. omega (arith, h, s), λ h. omega (arith, h, s))
  kind_inside (bad_file name fault of is) =
      let s = status_is o (keeps (refusal name fault)) is in
      let differs = not_file (refusal name fault).status (file_status name fault of) in
      (λ h. differs.2 (sym s ∙ h), λ h. differs.3 (sym s ∙ h))
  kind_inside (broken name at is) = let s = status_is o (keeps (bad_device at name)) is in (λ h. omega (arith, h, s), λ h. omega (arith, h, s))
  kind_inside (over name capacity is) = let s = status_is o (keeps (too_long capacity name)) is in (λ h. omega (arith, h, s), λ h. omega (arith, h, s))
  kind_inside (done is) = (λ h. omega (arith, h, is), λ h. omega (arith, h, is))

  kind_wants : Kind asked told failed o → o.said.status ≡ 70 → (o.said.text ≡ []) × (o.deed ≡ Keeps)
  kind_wants (no_command is_asked is) seventy = absurd (omega (arith, seventy, status_is o (keeps usage) is))
  kind_wants (unread name among read is) seventy = absurd (omega (arith, seventy, status_is o (keeps (refusal name faults.Unread)) is))
  kind_wants (bad_file name fault of is) seventy =
      let memory = wants name fault of (sym (status_is o (keeps (refusal name fault)) is) ∙ seventy) in
      let so : o ≡ keeps (refusal name faults.NoMemory) = is ∙ ap (λ (f : FileFault). keeps (refusal name f)) memory in
      (ap (λ (x : Outcome). x.said.text) so, ap (λ (x : Outcome). x.deed) so)
  kind_wants (broken name at is) seventy = absurd (omega (arith, seventy, status_is o (keeps (bad_device at name)) is))
  kind_wants (over name capacity is) seventy = absurd (omega (arith, seventy, status_is o (keeps (too_long capacity name)) is))
  kind_wants (done is) seventy = absurd (omega (arith, seventy, is))

  kind_plain : Kind asked told failed o → (o.deed ≡ Keeps) ⊎ (o.said.status ≡ 0)
  kind_plain (no_command is_asked is) = inl (ap (λ (x : Outcome). x.deed) is)
  kind_plain (unread name among read is) = inl (ap (λ (x : Outcome). x.deed) is)
  kind_plain (bad_file name fault of is) = inl (ap (λ (x : Outcome). x.deed) is)
  kind_plain (broken name at is) = inl (ap (λ (x : Outcome). x.deed) is)
  kind_plain (over name capacity is) = inl (ap (λ (x : Outcome). x.deed) is)
  kind_plain (done is) = inr is

-- ---- calls

module _ (call : DeviceCall) where
  abbrev KindOf : Outcome → Type 0
  KindOf o = Kind call.asked call.files call.failed o

  kind_of : (o : Outcome) → HasComeOf call o → KindOf o
  kind_of o comes = kind call.asked call.files call.failed call.before.told o comes

  -- an outcome was given whole; or it is one of the faults of the outside, or want of memory
  data End : Type 0 where
    wanted : WantedMemory call → End
    gave : (o : Outcome) → HasComeOf call o → KindOf o → Gives call o → End
    disk : (name : List ℕ) → Among (device_of call.asked) name → HasFailed call.before call.after → call.printed.status ≡ 13 → Prints call (disk_fault name).text → End
    cut : (said : Said) → WasCut call.printed said.text → Answers (HasComeOf call) (device_of call.asked) call.before call.after said → End

  end_of : Ends call → End
  end_of (inl memory) = wanted memory
  end_of (inr (said, inl (status, text), says, inl (name, among, is, rose))) =
      disk name among rose (status ∙ status_of said (disk_fault name) is)
      (text ∙ ap (λ (s : Said). followed_by call.printed.text_before s.text) is)
  end_of (inr (said, inl (status, text), says, inr (o, comes, is, leaves))) =
      gave o comes (kind_of o comes) (record {
        status = status ∙ status_of said o.said is;
        prints = text ∙ ap (λ (s : Said). followed_by call.printed.text_before s.text) is;
        leaves = leaves;
      })
  end_of (inr (said, inr was_cut, says, answers)) = cut said was_cut answers

  abbrev status : ℕ
  status = call.printed.status

  end_status : End → Among all_statuses status
  end_status (wanted memory) = inr (inr (inr (inr (inr (inr (inr (inr (inr (inl (sym memory.0))))))))))
  end_status (gave o comes of gives) = subst (Among all_statuses) (sym gives.status) (kind_status call.asked call.files call.failed o of)
  end_status (disk name among rose is text) = inr (inr (inr (inr (inr (inr (inl (sym is)))))))
  end_status (cut said was_cut answers) = inr (inr (inr (inr (inr (inl (sym was_cut.0))))))

  given_of : End → status ≢ 9 → status ≢ 13 → status ≢ 70 → (o : Outcome) × HasComeOf call o × Gives call o
  given_of (wanted memory) n9 n13 n70 = absurd (n70 memory.0)
  given_of (gave o comes of gives) n9 n13 n70 = (o, comes, gives)
  given_of (disk name among rose is text) n9 n13 n70 = absurd (n13 is)
  given_of (cut said was_cut answers) n9 n13 n70 = absurd (n9 was_cut.0)

  bad_words_of : End → status ≡ 2 → (call.asked ≡ commands.Usage) × Prints call usage.text
  bad_words_of (wanted memory) two = absurd (omega (arith, two, memory.0))
  bad_words_of (gave o comes of gives) two =
      let is = kind_usage call.asked call.files call.failed o of (sym gives.status ∙ two) in
      (is.0, gives.prints ∙ ap (λ (x : Outcome). followed_by call.printed.text_before x.said.text) is.1)
  bad_words_of (disk name among rose is text) two = absurd (omega (arith, two, is))
  bad_words_of (cut said was_cut answers) two = absurd (omega (arith, two, was_cut.0))

  unread_of : End → status ≡ 8 → (name : List ℕ) × Among (file_of call.asked) name × IsRead call.files call.failed name None × Prints call (refusal name faults.Unread).text
  unread_of (wanted memory) eight = absurd (omega (arith, eight, memory.0))
  unread_of (gave o comes of gives) eight =
      let (name, among, read, is) = kind_unread call.asked call.files call.failed o of (sym gives.status ∙ eight) in
      (name, among, read, gives.prints ∙ ap (λ (x : Outcome). followed_by call.printed.text_before x.said.text) is)
  unread_of (disk name among rose is text) eight = absurd (omega (arith, eight, is))
  unread_of (cut said was_cut answers) eight = absurd (omega (arith, eight, was_cut.0))

  -- no read failed that isn't said
  none_unread : Ends call → status ≢ 8 → status ≢ 9 → status ≢ 70 → call.failed None
  none_unread (inl memory) n8 n9 n70 = absurd (n70 memory.0)
  none_unread (inr (said, inl printed, inl none, answers)) n8 n9 n70 = none
  none_unread (inr (said, inl (status, text), inr (name, among, is, why), answers)) n8 n9 n70 = absurd (n8 (status ∙ status_of said (refusal name faults.Unread) is))
  none_unread (inr (said, inr was_cut, says, answers)) n8 n9 n70 = absurd (n9 was_cut.0)

  -- none other failed
  alone : (name : List ℕ) → call.failed None → IsRead call.files call.failed name None → CouldNotRead call.files call.failed name
  alone name none (inl why) = inl why
  alone name none (inr missing) = inr (missing, none)

  could_not_read : Ends call → status ≡ 8 → (name : List ℕ) × Among (file_of call.asked) name × CouldNotRead call.files call.failed name × Prints call (refusal name faults.Unread).text
  could_not_read (inl memory) eight = absurd (omega (arith, eight, memory.0))
  could_not_read (inr (said, inl printed, inl none, answers)) eight =
      let (name, among, read, prints) = unread_of (end_of (inr (said, inl printed, inl none, answers))) eight in (name, among, alone name none read, prints)
  could_not_read (inr (said, inl (status, text), inr (name, among, is, why), answers)) eight =
      (name, among, inl why, text ∙ ap (λ (s : Said). followed_by call.printed.text_before s.text) is)
  could_not_read (inr (said, inr was_cut, says, answers)) eight = absurd (omega (arith, eight, was_cut.0))

  cut_of : End → status ≡ 9 → (said : Said) × WasCut call.printed said.text × Answers (HasComeOf call) (device_of call.asked) call.before call.after said
  cut_of (wanted memory) nine = absurd (omega (arith, nine, memory.0))
  cut_of (gave o comes of gives) nine = absurd ((kind_inside call.asked call.files call.failed o of).0 (sym gives.status ∙ nine))
  cut_of (disk name among rose is text) nine = absurd (omega (arith, nine, is))
  cut_of (cut said was_cut answers) nine = (said, was_cut, answers)

  disk_of : End → status ≡ 13 → (name : List ℕ) × Among (device_of call.asked) name × HasFailed call.before call.after × Prints call (disk_fault name).text
  disk_of (wanted memory) thirteen = absurd (omega (arith, thirteen, memory.0))
  disk_of (gave o comes of gives) thirteen = absurd ((kind_inside call.asked call.files call.failed o of).1 (sym gives.status ∙ thirteen))
  disk_of (disk name among rose is text) thirteen = (name, among, rose, text)
  disk_of (cut said was_cut answers) thirteen = absurd (omega (arith, thirteen, was_cut.0))

  nothing_behind : (told : Option (List ℕ)) → followed_by told [] ≡ told
  nothing_behind None = refl
  nothing_behind (Some bytes) = ap (λ (b : List ℕ). Some b) (append-nil bytes)

  kept : (o : Outcome) → o.deed ≡ Keeps → Gives call o → Quiet call.before call.after
  kept o is gives = subst (λ (d : Deed). Leaves d call.before call.after) is gives.leaves

  memory_of : End → status ≡ 70 → WantedMemory call
  memory_of (wanted memory) seventy = memory
  memory_of (gave o comes of gives) seventy =
      let (text, deed) = kind_wants call.asked call.files call.failed o of (sym gives.status ∙ seventy) in
      (seventy, gives.prints ∙ ap (followed_by call.printed.text_before) text ∙ nothing_behind call.printed.text_before, kept o deed gives)
  memory_of (disk name among rose is text) seventy = absurd (omega (arith, seventy, is))
  memory_of (cut said was_cut answers) seventy = absurd (omega (arith, seventy, was_cut.0))

  unchanged_of : End → status ≢ 0 → status ≢ 9 → status ≢ 13 → Quiet call.before call.after
  unchanged_of (wanted memory) n0 n9 n13 = memory.2
  unchanged_of (gave o comes of gives) n0 n9 n13 = elim (kind_plain call.asked call.files call.failed o of) [
    | inl is ↦ kept o is gives
    | inr zero ↦ absurd (n0 (gives.status ∙ zero))
  ]
  unchanged_of (disk name among rose is text) n0 n9 n13 = absurd (n13 is)
  unchanged_of (cut said was_cut answers) n0 n9 n13 = absurd (n9 was_cut.0)

  -- what is given, where no fault of the disk or of printing was counted
  must_of : (o : Outcome) → ((p : Outcome) → HasComeOf call p → p ≡ o) → ((name : List ℕ) → Among (device_of call.asked) name → HasFailed call.before call.after → ⊥) → NotCut call → End
      → Gives call o ⊎ WantedMemory call
  must_of o once well uncut (wanted memory) = inr memory
  must_of o once well uncut (gave p comes of gives) = inl (subst (Gives call) (once p comes) gives)
  must_of o once well uncut (disk name among rose is text) = absurd (well name among rose)
  must_of o once well uncut (cut said was_cut answers) = absurd (uncut was_cut.2)

  usage_once : call.asked ≡ commands.Usage → (p : Outcome) → HasComeOf call p → p ≡ keeps usage
  usage_once is p comes = subst (λ (a : DeviceCommand). Comes a call.files call.failed call.before.told p) is comes

  -- words that are no command have no device
  no_device : call.asked ≡ commands.Usage → (name : List ℕ) → Among (device_of call.asked) name → HasFailed call.before call.after → ⊥
  no_device is name among rose = subst (λ (a : DeviceCommand). Among (device_of a) name) is among

  due_once : (o : Outcome) → IsDue call o → NoFault call → (p : Outcome) → HasComeOf call p → p ≡ o
  due_once o due well p comes =
      comes_once due.files call.failed well.reads call.asked due.device p o
      (subst (λ (d : Option (List ℕ)). Comes call.asked (Some due.files) call.failed d p) due.told
      (subst (λ (f : Option Files). Comes call.asked f call.failed call.before.told p) due.files_told comes))
      due.comes

  pub refusals : Ends call → Refusals call
  refusals ends = let e = end_of ends in record {
    given = given_of e;
    bad_words = bad_words_of e;
    no_command = λ is uncut. must_of (keeps usage) (usage_once is) (no_device is) uncut e;
    read_fault = could_not_read ends;
    no_read_fault = none_unread ends;
    write_fault = cut_of e;
    disk_fault = disk_of e;
    no_memory = memory_of e;
    unchanged = unchanged_of e;
  }

  pub ending : Ends call → Ending call
  ending ends = record {
    ends = ends;
    statuses = end_status (end_of ends);
    complete = λ o due well. must_of o (due_once o due well) (λ name among. well.disk) well.sink (end_of ends);
  }
