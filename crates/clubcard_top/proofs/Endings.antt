-- What follows from how a call ends, whatever the depot tells.
use Rattle.std.proofs.Common.{◌≡◌, ℕ, true, false, ◌⊎◌, inl, inr, List, [], ◌∷◌, Option, Some, None, Result, Ok, Err, refl, sym, ap, subst, ◌∙◌, arith}
use Rattle.std.specs.Prelude.{IsTrue}
use Rattle.std.proofs.lemmas.Bool.{false≢true}
use Rattle.outside_core.specs.Files.{Files, IsMissing}
use Rattle.outside_core.specs.Written.{followed_by}
use Rattle.word_core.specs.declared.command.Command.{Command}
use Rattle.word_core.specs.declared.command.Command.TheVariants as commands
use Rattle.word_core.specs.Names.{inputs_of, outputs_of}
use Rattle.input_core.specs.declared.fault.FileFault.{FileFault}
use Rattle.input_core.specs.declared.fault.FileFault.TheVariants as faults
use Rattle.command_core.specs.ReplyFields.{OutputFields, ReplyFields, Done, NamedFault}
use Rattle.command_core.specs.Statuses.{is_one_of, all, of_replies}
use Rattle.input_core.specs.Inputs.{Inputs, AreRead}
use Rattle.command_core.specs.Commands.{Makes}
use Rattle.command_core.specs.Replies.{usage, read_fault, write_fault, refusal, reply_of, IsReplyOver, SaysWhich, IsReply}
use Rattle.command_core.specs.Runs.{IsTorn, KeepsAllBut, with_outputs}
use Rattle.outside_core.specs.Reads.{CouldNotRead}
use Rattle.ident_core.specs.Among.{Among}
use Rattle.clubcard_top.specs.Calls.{Call, ChangesNoFile, Prints}
use Rattle.clubcard_top.specs.Endings.{Gives, PrintsOrFails, SentOrTorn, Ends}
use Rattle.command_core.proofs.Outputs.{names_of, keeps-same, keeps-written, keeps-torn, none-torn, none-written}
use Rattle.command_core.proofs.Makings.{or_right, refusal_quiet, fault_status, outcome_status, of_faults, of_commands, done_names, unread_cause}

-- a number that is among some is none that isn't
pub not_among : (ns : List ℕ) (n m : ℕ) → IsTrue (is_one_of ns n) → n ≡ m → is_one_of ns m ≡ false → ⊥
not_among ns n m among is not = false≢true (sym not ∙ subst (λ (k : ℕ). is_one_of ns k ≡ true) is among)

or_else : {A B C : Type 0} → (A → C) → (B → C) → A ⊎ B → C
or_else f g (inl a) = f a
or_else f g (inr b) = g b

-- the status of a file that can't be read is that of no other fault
refusal_unread : (name : List ℕ) (fault : FileFault) → (refusal name fault).status ≡ 8 → fault ≡ faults.Unread
refusal_unread name faults.Unread eight = refl
refusal_unread name (faults.Layout f) eight = absurd (omega (arith, eight))
refusal_unread name faults.NotSnapshot eight = absurd (omega (arith, eight))
refusal_unread name (faults.Chain why) eight = absurd (omega (arith, eight))
refusal_unread name (faults.BadCrl place fault) eight = absurd (omega (arith, eight))
refusal_unread name (faults.TooMany thing limit) eight = absurd (omega (arith, eight))
refusal_unread name (faults.Seeds issuer stage) eight = absurd (omega (arith, eight))
refusal_unread name (faults.BadCert fault) eight = absurd (omega (arith, eight))
refusal_unread name (faults.OtherEpoch held given) eight = absurd (omega (arith, eight))
refusal_unread name (faults.BadPage fault) eight = absurd (omega (arith, eight))
refusal_unread name (faults.Disagrees job entry held truth) eight = absurd (omega (arith, eight))
refusal_unread name faults.NoMemory eight = absurd (omega (arith, eight))

-- what is wrong with a file isn't done
pub refusal_done : (name : List ℕ) (fault : FileFault) → (refusal name fault).status ≡ 0 → ⊥
refusal_done name fault zero = not_among of_faults (refusal name fault).status 0 (fault_status name fault) zero refl

-- ---- outputs of a reply

-- the outputs are those of the command, or none
abbrev pub AreOf : List (List ℕ) → List OutputFields → Type 0
AreOf names outputs = (names_of outputs ≡ names) ⊎ (outputs ≡ [])

outputs_as : (reply other : ReplyFields) → reply ≡ other → reply.outputs ≡ other.outputs
outputs_as reply other is = ap (λ (r : ReplyFields). r.outputs) is

module _ (c : Command) (inputs : Inputs) (reply : ReplyFields) where
  quiet_by : (o : Result Done NamedFault) → reply ≡ reply_of o → (reply.status ≡ 0 → ⊥) → reply.outputs ≡ []
  quiet_by (Ok d) is not = absurd (not (ap (λ (r : ReplyFields). r.status) is))
  quiet_by (Err e) is not = outputs_as reply (refusal e.name e.fault) is ∙ refusal_quiet e.name e.fault

  named_by : (o : Result Done NamedFault) → Makes c inputs o → reply ≡ reply_of o → AreOf (outputs_of c) reply.outputs
  named_by (Ok d) m is = inl (ap names_of (outputs_as reply (reply_of (Ok d)) is) ∙ done_names c inputs d m)
  named_by (Err e) m is = inr (outputs_as reply (refusal e.name e.fault) is ∙ refusal_quiet e.name e.fault)

  -- a reply that isn't done has none
  quiet_over : IsReplyOver c inputs reply → (reply.status ≡ 0 → ⊥) → reply.outputs ≡ []
  quiet_over (inl (refute, is)) not = outputs_as reply usage is
  quiet_over (inr (o, m, is)) not = quiet_by o is not

  named_over : IsReplyOver c inputs reply → AreOf (outputs_of c) reply.outputs
  named_over (inl (refute, is)) = inr (outputs_as reply usage is)
  named_over (inr (o, m, is)) = named_by o m is

module _ (c : Command) (told : Option Files) (failed : Option (List ℕ) → Type 0) (reply : ReplyFields) where
  pub quiet : IsReply c told failed reply → (reply.status ≡ 0 → ⊥) → reply.outputs ≡ []
  quiet (inputs, read, over, says) not = quiet_over c inputs reply over not

  pub named : IsReply c told failed reply → AreOf (outputs_of c) reply.outputs
  named (inputs, read, over, says) = named_over c inputs reply over

no_names : (outputs : List OutputFields) → names_of outputs ≡ [] → outputs ≡ []
no_names [] is = refl
no_names (o ∷ outputs) is = absurd cc

-- a command that writes no file has none
pub unwritten : (names : List (List ℕ)) (outputs : List OutputFields) → AreOf names outputs → names ≡ [] → outputs ≡ []
unwritten names outputs (inl are) none = no_names outputs (are ∙ none)
unwritten names outputs (inr are) none = are

-- ---- files

keeps-of : (names : List (List ℕ)) (told after : Option Files) (outputs : List OutputFields) → AreOf names outputs
    → after ≡ with_outputs told outputs → KeepsAllBut names told after
keeps-of names told after outputs (inl are) is = subst (λ (ns : List (List ℕ)). KeepsAllBut ns told after) are (rw is (keeps-written told outputs))
keeps-of names told after outputs (inr none) is = rw (is ∙ none-written told outputs none) (keeps-same names told)

keeps-of_torn : (names : List (List ℕ)) (told after : Option Files) (outputs : List OutputFields) (name : List ℕ) → AreOf names outputs → IsTorn told after outputs name
    → KeepsAllBut names told after
keeps-of_torn names told after outputs name (inl are) torn = subst (λ (ns : List (List ℕ)). KeepsAllBut ns told after) are (keeps-torn told after outputs name torn)
keeps-of_torn names told after outputs name (inr none) torn = absurd (none-torn told after outputs name none torn)

-- ---- a call

module _ (call : Call) where
  -- the reply was given whole
  abbrev pub GaveReply : Type 0
  GaveReply = (reply : ReplyFields) × IsReply call.asked call.files_before call.failed reply × Gives call reply

  whole : (reply : ReplyFields) → PrintsOrFails call reply → (call.status ≡ 9 → ⊥) → (call.status ≡ reply.status) × Prints call reply.text
  whole reply (inl printed) no_fault = printed
  whole reply (inr failed) no_fault = absurd (no_fault failed.status)

  torn_status : (name : List ℕ) → PrintsOrFails call (write_fault name) → call.status ≡ 9
  torn_status name (inl (status, text)) = status
  torn_status name (inr failed) = failed.status

  sent_status : (reply : ReplyFields) → PrintsOrFails call reply → (call.status ≡ reply.status) ⊎ (call.status ≡ 9)
  sent_status reply (inl (status, text)) = inl status
  sent_status reply (inr failed) = inr failed.status

  -- a reply that was sent, or cut short by a fault of writing, is no want of memory
  pub not_memory : (reply : ReplyFields) → IsTrue (is_one_of of_replies reply.status) → SentOrTorn call reply → call.status ≡ 70 → ⊥
  not_memory reply own (inl s) want = or_else (λ status. not_among of_replies reply.status 70 own (sym status ∙ want) refl) (λ nine. omega (arith, nine, want)) (sent_status reply s.printing)
  not_memory reply own (inr (name, torn)) want = let nine = torn_status name torn.printing in omega (arith, nine, want)

  pub sent : Ends call → (call.status ≡ 9 → ⊥) → (call.status ≡ 70 → ⊥) → GaveReply
  sent (inl wanted) no_fault no_want = absurd (no_want wanted.status)
  sent (inr (reply, is, own, inl s)) no_fault no_want =
      let w = whole reply s.printing no_fault in
      (reply, is, record { status = w.0; text = w.1; files = s.files })
  sent (inr (reply, is, own, inr (name, torn))) no_fault no_want = absurd (no_fault (torn_status name torn.printing))

  pub statuses : Ends call → IsTrue (is_one_of all call.status)
  statuses (inl wanted) = let is = wanted.status in rw is refl
  statuses (inr (reply, is, own, inl s)) =
      or_else (λ status. rw status (or_right _ _ (or_right _ _ own))) (λ nine. rw nine refl) (sent_status reply s.printing)
  statuses (inr (reply, is, own, inr (name, torn))) = let nine = torn_status name torn.printing in rw nine refl

  -- ---- its files

  pub unchanged : Ends call → (call.status ≡ 0 → ⊥) → (call.status ≡ 9 → ⊥) → ChangesNoFile call
  unchanged (inl wanted) not_done no_fault = wanted.same_files
  unchanged (inr (reply, is, own, inl s)) not_done no_fault =
      let status = (whole reply s.printing no_fault).0 in
      s.files ∙ none-written call.files_before reply.outputs (quiet call.asked call.files_before call.failed reply is (λ e. not_done (status ∙ e)))
  unchanged (inr (reply, is, own, inr (name, torn))) not_done no_fault = absurd (no_fault (torn_status name torn.printing))

  pub other_files : Ends call → KeepsAllBut (outputs_of call.asked) call.files_before call.files_after
  other_files (inl wanted) = let same = wanted.same_files in rw same (keeps-same (outputs_of call.asked) call.files_before)
  other_files (inr (reply, is, own, inl s)) =
      keeps-of (outputs_of call.asked) call.files_before call.files_after reply.outputs (named call.asked call.files_before call.failed reply is) s.files
  other_files (inr (reply, is, own, inr (name, torn))) =
      keeps-of_torn (outputs_of call.asked) call.files_before call.files_after reply.outputs name (named call.asked call.files_before call.failed reply is) torn.files

  pub reading : Ends call → outputs_of call.asked ≡ [] → ChangesNoFile call
  reading (inl wanted) none = wanted.same_files
  reading (inr (reply, is, own, inl s)) none =
      s.files ∙ none-written call.files_before reply.outputs (unwritten (outputs_of call.asked) reply.outputs (named call.asked call.files_before call.failed reply is) none)
  reading (inr (reply, is, own, inr (name, torn))) none =
      absurd (none-torn call.files_before call.files_after reply.outputs name
      (unwritten (outputs_of call.asked) reply.outputs (named call.asked call.files_before call.failed reply is) none) torn.files)

  -- ---- its lines

  usage_by : (reply : ReplyFields) → Gives call reply → call.status ≡ 2 → (inputs : Inputs) → IsReplyOver call.asked inputs reply
      → (call.asked ≡ commands.Usage) × Prints call usage.text
  usage_by reply g two inputs (inl (none, is)) = (none, g.text ∙ ap (λ (r : ReplyFields). followed_by call.text_before r.text) is)
  usage_by reply g two inputs (inr (o, m, is)) =
      absurd (not_among of_commands (reply_of o).status 2 (outcome_status o) (sym (ap (λ (r : ReplyFields). r.status) is) ∙ sym g.status ∙ two) refl)

  pub usage_line : Ends call → call.status ≡ 2 → (call.asked ≡ commands.Usage) × Prints call usage.text
  usage_line ends two =
      let s = sent ends (λ e. omega arith) (λ e. omega arith) in
      usage_by s.0 s.2 two s.1.0 s.1.2

  -- An input of the command couldn't be read, which has its cause, and the line that says so was printed.
  abbrev pub IsUnread : Type 0
  IsUnread = (name : List ℕ) × Among (inputs_of call.asked) name × CouldNotRead call.files_before call.failed name × Prints call (read_fault name).text

  -- no other reply has this status
  other_reply : {A : Type 0} (reply other : ReplyFields) → Gives call reply → reply ≡ other → call.status ≡ 8
      → (other.status ≡ 8 → ⊥) → A
  other_reply reply other g is eight differs = absurd (differs (sym (g.status ∙ ap (λ (r : ReplyFields). r.status) is) ∙ eight))

  unread_cause_of : (name : List ℕ) → call.failed None → call.failed (Some name) ⊎ IsMissing call.files_before name → CouldNotRead call.files_before call.failed name
  unread_cause_of name none (inl why) = inl why
  unread_cause_of name none (inr missing) = inr (missing, none)

  -- where no read failed
  unread_by : (reply : ReplyFields) → Gives call reply → call.failed None → (e : NamedFault) (inputs : Inputs)
      → AreRead call.files_before call.failed (inputs_of call.asked) inputs → Makes call.asked inputs (Err e) → reply ≡ refusal e.name e.fault → e.fault ≡ faults.Unread
      → IsUnread
  unread_by reply g none e inputs read m is unread =
      let cause = unread_cause call.files_before call.failed e unread call.asked inputs read m in
      (e.name, cause.0, unread_cause_of e.name none cause.1, g.text ∙ ap (λ (r : ReplyFields). followed_by call.text_before r.text) (is ∙ ap (refusal e.name) unread))

  unread_over : (reply : ReplyFields) → Gives call reply → call.failed None → call.status ≡ 8 → (inputs : Inputs)
      → AreRead call.files_before call.failed (inputs_of call.asked) inputs → IsReplyOver call.asked inputs reply → IsUnread
  unread_over reply g none eight inputs read (inl (refute, is)) = other_reply reply usage g is eight (λ e. omega (arith, e))
  unread_over reply g none eight inputs read (inr (Ok d, m, is)) = other_reply reply (reply_of (Ok d)) g is eight (λ e. omega (arith, e))
  unread_over reply g none eight inputs read (inr (Err e, m, is)) =
      unread_by reply g none e inputs read m is (refusal_unread e.name e.fault (sym (g.status ∙ ap (λ (r : ReplyFields). r.status) is) ∙ eight))

  unread_said : (s : GaveReply) → call.status ≡ 8 → SaysWhich call.failed (inputs_of call.asked) s.0 → IsUnread
  unread_said s eight (inl none) = unread_over s.0 s.2 none eight s.1.0 s.1.1 s.1.2
  unread_said s eight (inr (name, among, is, why)) =
      (name, among, inl why, s.2.text ∙ ap (λ (r : ReplyFields). followed_by call.text_before r.text) is)

  pub read_fault_line : Ends call → call.status ≡ 8 → IsUnread
  read_fault_line ends eight = let s = sent ends (λ e. omega arith) (λ e. omega arith) in unread_said s eight s.1.3

  none_said : (s : GaveReply) → (call.status ≡ 8 → ⊥) → SaysWhich call.failed (inputs_of call.asked) s.0 → call.failed None
  none_said s no_read (inl none) = none
  none_said s no_read (inr (name, among, is, why)) = absurd (no_read (s.2.status ∙ ap (λ (r : ReplyFields). r.status) is))

  pub no_read_fault : Ends call → (call.status ≡ 8 → ⊥) → (call.status ≡ 9 → ⊥) → (call.status ≡ 70 → ⊥) → call.failed None
  no_read_fault ends no_read no_write no_want = let s = sent ends no_write no_want in none_said s no_read s.1.3
