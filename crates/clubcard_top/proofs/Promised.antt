-- What is promised of a call, from how it ends.
use Rattle.std.proofs.Common.{◌≡◌, ℕ, ◌⊎◌, inl, inr, List, Option, Some, None, Result, Ok, Err, refl, sym, ap, subst, ◌∙◌, arith}
use Rattle.std.specs.Prelude.{◌≢◌, IsTrue}
use Rattle.outside_core.specs.Files.{Files, Rose}
use Rattle.outside_core.specs.Effects.{OnlyWrites}
use Rattle.outside_core.specs.Reads.{WhichFailed}
use Rattle.outside_core.specs.declared.depot.Depot as depots
use Rattle.outside_core.specs.declared.sink.Sink as sinks
use Rattle.word_core.specs.declared.command.Command.{Command}
use Rattle.word_core.specs.declared.command.Command.TheVariants as commands
use Rattle.word_core.specs.Names.{inputs_of}
use Rattle.input_core.specs.declared.fault.FileFault.{FileFault}
use Rattle.command_core.specs.ReplyFields.{ReplyFields, Done, NamedFault}
use Rattle.command_core.specs.Statuses.{is_one_of, of_replies, of_refusals}
use Rattle.input_core.specs.Inputs.{Inputs, AreRead}
use Rattle.command_core.specs.Commands.{Makes}
use Rattle.command_core.specs.Replies.{usage, done, refusal, reply_of, write_fault, IsReplyOver, held_by, SaysWhich, IsReply}
use Rattle.command_core.specs.Runs.{IsTorn, with_outputs}
use Rattle.clubcard_top.specs.Sending.{printing, writing, IsPrinted, IsSent}
use Rattle.clubcard_top.specs.Calls.{Call, call_of, FilesAreTold, Writes, NoFault}
use Rattle.clubcard_top.specs.Endings.{Succeeds, Gives, WantedMemory, SinkFailed, PrintsOrFails, Torn, SentOrTorn, GivesTheReply, Ends}
use Rattle.clubcard_top.specs.Refusals.{Comes, Refused}
use Rattle.clubcard_top.specs.Promises.{Ending, Outside, Refusals}
use Rattle.clubcard_top.proofs.Endings as endings
use Rattle.command_core.proofs.Makings.{over_files, refusal_quiet}
use Rattle.command_core.proofs.Overs.{IsSeen, held_all}
use Rattle.command_core.proofs.Outputs.{none-written}
use Rattle.command_core.proofs.Fronts.{later_reads}

-- ---- a step that reads, and one that writes

-- which read failed is the same behind a step that reads nothing
same_read : {D : Type 0} (g : depots.Ghosts D) (old mid new : D) → OnlyWrites g mid new → (which : Option (List ℕ)) → WhichFailed g old mid which → WhichFailed g old new which
same_read g old mid new writes None none = writes.same_failed ∙ none
same_read g old mid new writes (Some name) (rose, last) = (subst (λ (n : ℕ). Rose (g.read_faults old) n) (sym writes.same_reads) rose, writes.same_failed ∙ last)

same_said : (failed other : Option (List ℕ) → Type 0) (names : List (List ℕ)) (reply : ReplyFields) → ((which : Option (List ℕ)) → failed which → other which)
    → SaysWhich failed names reply → SaysWhich other names reply
same_said failed other names reply same (inl none) = inl (same None none)
same_said failed other names reply same (inr (name, among, is, why)) = inr (name, among, is, same (Some name) why)

pub read_later : {D : Type 0} (g : depots.Ghosts D) (old mid new : D) (asked : Command) (told : Option Files) (reply : ReplyFields) → OnlyWrites g mid new
    → IsReply asked told (WhichFailed g old mid) reply → IsReply asked told (WhichFailed g old new) reply
read_later g old mid new asked told reply writes (inputs, read, over, says) =
    let same = same_read g old mid new writes in (
      inputs,
      later_reads told told (WhichFailed g old mid) (WhichFailed g old new) (inputs_of asked) inputs refl same read,
      over,
      same_said (WhichFailed g old mid) (WhichFailed g old new) (inputs_of asked) reply same says,
    )

module _ {D K : Type 0} (d : depots.Ghosts D) (k : sinks.Ghosts K) (asked : Command) (old mid new : D) (out out_after : K) (ended : ℕ) where
  printed : (reply : ReplyFields) → IsPrinted (printing k out out_after ended) reply → PrintsOrFails (call_of d k asked old new out out_after ended) reply
  printed reply (inl whole) = inl whole
  printed reply (inr (status, cut, cause)) = inr (record { status = status; cut = cut; cause = cause })

  -- a reply that is sent behind a step that only reads
  pub sent_later : (reply : ReplyFields) → IsSent (writing d mid new) (printing k out out_after ended) reply
      → d.files mid ≡ d.files old → d.write_faults mid ≡ d.write_faults old → SentOrTorn (call_of d k asked old new out out_after ended) reply
  sent_later reply (inl (files, how)) same count =
      inl (record { files = files ∙ ap (λ (t : Option Files). with_outputs t reply.outputs) same; printing = printed reply how })
  sent_later reply (inr (cause, (name, torn, how))) same count =
      inr (
        name,
        record {
          cause = subst (λ (n : ℕ). Rose n (d.write_faults new)) count cause;
          files = subst (λ (t : Option Files). IsTorn t (d.files new) reply.outputs name) same torn;
          printing = printed (write_fault name) how;
        },
      )

module _ (call : Call) where
  -- ---- over files that are told

  give_printed : NoFault call → (reply : ReplyFields) → Writes call reply.outputs → PrintsOrFails call reply
      → Gives call reply
  give_printed quiet reply files (inl (status, text)) = record { status = status; text = text; files = files }
  give_printed quiet reply files (inr failed) = absurd (quiet.sink failed.cause)

  give : NoFault call → (reply : ReplyFields) → SentOrTorn call reply → Gives call reply
  give quiet reply (inl sent) = give_printed quiet reply sent.files sent.printing
  give quiet reply (inr (name, torn)) = absurd (quiet.writes torn.cause)

  is_read : (files : Files) → call.files_before ≡ Some files → (inputs : Inputs)
      → AreRead call.files_before call.failed (inputs_of call.asked) inputs → AreRead (Some files) call.failed (inputs_of call.asked) inputs
  is_read files told inputs read = subst (λ (t : Option Files). AreRead t call.failed (inputs_of call.asked) inputs) told read

  -- where no read failed, the reply is that over what the files hold
  over_quiet : (files : Files) → call.files_before ≡ Some files → (reply : ReplyFields) → NoFault call
      → IsReply call.asked call.files_before call.failed reply → IsReplyOver call.asked (held_by call.asked files) reply
  over_quiet files told reply quiet (inputs, read, over, says) =
      subst (λ (g : Inputs). IsReplyOver call.asked g reply)
      (held_all files call.failed (inputs_of call.asked) inputs quiet.reads (is_read files told inputs read)) over

  seen_by : (o : Result Done NamedFault) → ((reply_of o).status ≡ 8 → ⊥) → IsSeen o
  seen_by o refute = λ e same unread. refute (ap (λ (r : Result Done NamedFault). (reply_of r).status) same ∙ ap (λ (f : FileFault). (refusal e.name f).status) unread)

  -- and so it is where it says of no file that it can't be read
  over_seen : (files : Files) → call.files_before ≡ Some files → (reply : ReplyFields) → (reply.status ≡ 8 → ⊥)
      → IsReply call.asked call.files_before call.failed reply → IsReplyOver call.asked (held_by call.asked files) reply
  over_seen files told reply refute (inputs, read, inl usual, says) = inl usual
  over_seen files told reply refute (inputs, read, inr (o, m, is), says) =
      inr (o, over_files files call.failed call.asked inputs o (seen_by o (λ e. refute (ap (λ (r : ReplyFields). r.status) is ∙ e))) (is_read files told inputs read) m, is)

  answer : Ends call → FilesAreTold call → call.status ≢ 8 → call.status ≢ 9 → call.status ≢ 70 → GivesTheReply call
  answer ends (files, told) no_read no_write no_want =
      let s = endings.sent call ends no_write no_want in
      (s.0, (files, told, over_seen files told s.0 (λ e. no_read (s.2.status ∙ e)) s.1), s.2)

  complete : Ends call → FilesAreTold call → NoFault call → call.status ≢ 70 → GivesTheReply call
  complete (inl wanted) (files, told) quiet no_want = absurd (no_want wanted.status)
  complete (inr (reply, is, own, how)) (files, told) quiet no_want =
      (reply, (files, told, over_quiet files told reply quiet is), give quiet reply how)

  pub ending : Ends call → Ending call
  ending ends = record { ends = ends; statuses = endings.statuses call ends; answer = answer ends; complete = complete ends }

  -- what came of the command, and the reply to it was given
  pub record Came (files : Files) : Type 0 where
    pub outcome : Result Done NamedFault
    pub makes : Makes call.asked (held_by call.asked files) outcome
    pub gives : Gives call (reply_of outcome)

  came_by : (files : Files) (reply : ReplyFields) → IsReplyOver call.asked (held_by call.asked files) reply → Gives call reply
      → (call.status ≡ 2 → ⊥) → Came files
  came_by files reply (inl (none, is)) g some = absurd (some (g.status ∙ ap (λ (r : ReplyFields). r.status) is))
  came_by files reply (inr (o, m, is)) g some = record { outcome = o; makes = m; gives = subst (λ (r : ReplyFields). Gives call r) is g }

  came : Ends call → (files : Files) → call.files_before ≡ Some files → call.status ≢ 2 → call.status ≢ 8 → call.status ≢ 9 → call.status ≢ 70 → Came files
  came ends files told some no_read no_write no_want =
      let s = endings.sent call ends no_write no_want in
      came_by files s.0 (over_seen files told s.0 (λ e. no_read (s.2.status ∙ e)) s.1) s.2 some

  -- ---- successes

  -- the command was done: this came of it, and was given
  pub record Answers (files : Files) : Type 0 where
    pub d : Done
    pub makes : Makes call.asked (held_by call.asked files) (Ok d)
    pub gives : Gives call (done d)

  done_by : (files : Files) → Succeeds call → (o : Result Done NamedFault) → Makes call.asked (held_by call.asked files) o → Gives call (reply_of o) → Answers files
  done_by files zero (Ok d) m g = record { d = d; makes = m; gives = g }
  done_by files zero (Err e) m g = absurd (endings.refusal_done e.name e.fault (sym g.status ∙ zero))

  pub answers : Ends call → (files : Files) → call.files_before ≡ Some files → Succeeds call → Answers files
  answers ends files told zero =
      let c = came ends files told (λ n. omega (arith, n, zero)) (λ n. omega (arith, n, zero)) (λ n. omega (arith, n, zero)) (λ n. omega (arith, n, zero)) in
      done_by files zero c.outcome c.makes c.gives

  -- ---- where no fault was counted

  -- what is sure to come of it
  sure_reply : (files : Files) → (asked_some : call.asked ≡ commands.Usage → ⊥)
      → ((o : Result Done NamedFault) → Makes call.asked (held_by call.asked files) o → (d : Done) × (o ≡ Ok d))
      → (reply : ReplyFields)
      → IsReplyOver call.asked (held_by call.asked files) reply → call.status ≡ reply.status → Succeeds call
  sure_reply files some law reply (inl (none, same)) status = absurd (some none)
  sure_reply files some law reply (inr (o, m, same)) status =
      let d = law o m in
      status ∙ ap (λ (r : ReplyFields). r.status) same ∙ ap (λ (r : Result Done NamedFault). (reply_of r).status) d.1

  sure_by : Ends call → (files : Files) → call.files_before ≡ Some files → (call.asked ≡ commands.Usage → ⊥)
      → ((o : Result Done NamedFault) → Makes call.asked (held_by call.asked files) o → (d : Done) × (o ≡ Ok d))
      → NoFault call → Succeeds call ⊎ WantedMemory call
  sure_by (inl wanted) files is some law quiet = inr wanted
  sure_by (inr (reply, answered, own, how)) files is some law quiet =
      let g : Gives call reply = give quiet reply how in
      inl (sure_reply files some law reply (over_quiet files is reply quiet answered) g.status)

  pub sure : Ends call → (files : Files) → call.files_before ≡ Some files → (call.asked ≡ commands.Usage → ⊥)
      → ((o : Result Done NamedFault) → Makes call.asked (held_by call.asked files) o → (d : Done) × (o ≡ Ok d))
      → NoFault call → Succeeds call ⊎ WantedMemory call
  sure ends files is some law quiet = sure_by ends files is some law quiet

  -- ---- refusals

  refused_by : (files : Files) → call.files_before ≡ Some files → IsTrue (is_one_of of_refusals call.status) → (o : Result Done NamedFault)
      → Makes call.asked (held_by call.asked files) o → Gives call (reply_of o) → (name : List ℕ) × (fault : FileFault) × Refused call name fault
  refused_by files told wrong (Ok d) m g = absurd (endings.not_among of_refusals call.status 0 wrong g.status refl)
  refused_by files told wrong (Err e) m g = (
    e.name,
    e.fault,
    record {
      comes = (files, told, m);
      status = g.status;
      line = g.text;
      same_files = g.files ∙ none-written call.files_before (refusal e.name e.fault).outputs (refusal_quiet e.name e.fault);
    },
  )

  wrong : Ends call → IsTrue (is_one_of of_refusals call.status) → FilesAreTold call → (name : List ℕ) × (fault : FileFault) × Refused call name fault
  wrong ends is (files, told) =
      let no = endings.not_among of_refusals call.status in
      let c = came ends files told (λ e. no 2 is e refl) (λ e. no 8 is e refl) (λ e. no 9 is e refl) (λ e. no 70 is e refl) in
      refused_by files told is c.outcome c.makes c.gives

  usage_reply : call.asked ≡ commands.Usage → (reply : ReplyFields) → IsReply call.asked call.files_before call.failed reply → Gives call reply
      → Gives call usage
  usage_reply none reply (inputs, read, inl (asked, same), says) g = subst (λ (r : ReplyFields). Gives call r) same g
  usage_reply none reply (inputs, read, inr (o, m, same), says) g = absurd (subst (λ (c : Command). Makes c inputs o) none m)

  no_command : Ends call → call.asked ≡ commands.Usage → NoFault call → Gives call usage ⊎ WantedMemory call
  no_command (inl wanted) none quiet = inr wanted
  no_command (inr (reply, answered, own, how)) none quiet = inl (usage_reply none reply answered (give quiet reply how))

  -- there is one reply at most
  abbrev pub Unique : Type 0
  Unique = (inputs : Inputs) (a b : ReplyFields) → IsReplyOver call.asked inputs a → IsReplyOver call.asked inputs b → a ≡ b

  -- what comes of the command over the files must be given
  given_by : Unique → Ends call → (o : Result Done NamedFault) → Comes call o → NoFault call → Gives call (reply_of o) ⊎ WantedMemory call
  given_by unique (inl wanted) o comes quiet = inr wanted
  given_by unique (inr (reply, answered, own, how)) o (files, is, m) quiet =
      let to = over_quiet files is reply quiet answered in
      let same = unique (held_by call.asked files) reply (reply_of o) to (inr (o, m, refl)) in
      inl (subst (λ (r : ReplyFields). Gives call r) same (give quiet reply how))

  pub given : Unique → Ends call → (o : Result Done NamedFault) → Comes call o → NoFault call → Gives call (reply_of o) ⊎ WantedMemory call
  given unique ends o comes quiet = given_by unique ends o comes quiet

  pub refusals : Unique → Ends call → Refusals call
  refusals unique ends = record {
    wrong = wrong ends;
    refused = λ e. given unique ends (Err e);
    bad_words = endings.usage_line call ends;
    no_command = no_command ends;
  }

  -- ---- faults of the outside

  fault_printed : (reply : ReplyFields) → IsTrue (is_one_of of_replies reply.status) → call.status ≡ 9
      → PrintsOrFails call reply → SinkFailed call reply.text
  fault_printed reply own nine (inl (status, text)) =
      absurd (endings.not_among of_replies reply.status 9 own (sym status ∙ nine) refl)
  fault_printed reply own nine (inr failed) = failed

  write_fault_by : Ends call → call.status ≡ 9 → (reply : ReplyFields) × IsReply call.asked call.files_before call.failed reply
      × ((Writes call reply.outputs × SinkFailed call reply.text) ⊎ ((name : List ℕ) × Torn call reply name))
  write_fault_by (inl wanted) nine = let w = wanted.status in absurd (omega (arith, w))
  write_fault_by (inr (reply, answered, own, inl sent)) nine =
      (reply, answered, inl (sent.files, fault_printed reply own nine sent.printing))
  write_fault_by (inr (reply, answered, own, inr torn)) nine = (reply, answered, inr torn)

  no_memory : Ends call → call.status ≡ 70 → WantedMemory call
  no_memory (inl wanted) want = wanted
  no_memory (inr (reply, answered, own, how)) want = absurd (endings.not_memory call reply own how want)

  pub outside : ((part : List ℕ) → call.asked ≡ commands.Check part → call.status ≡ 70 → ⊥) → Ends call → Outside call
  outside check ends = record {
    check = check;
    read_fault = endings.read_fault_line call ends;
    no_read_fault = endings.no_read_fault call ends;
    write_fault = write_fault_by ends;
    no_memory = no_memory ends;
  }
