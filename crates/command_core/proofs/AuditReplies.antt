-- Jobs that are read for an audit file by file, and the reply of `audit`.
use Rattle.std.proofs.Common.{◌≡◌, ℕ, ◌+◌, ◌<◌, ◌≤◌, inl, List, [], ◌∷◌, drop, get_or, length, length-append, Option, None, Result, Ok}
use Rattle.std.proofs.Common.{Err, IfOk, refl, sym, ap, ◌∙◌, subst, arith}
use Rattle.std.specs.Prelude.{IsErr}
use Rattle.std.proofs.lemmas.List.{drop_all}
use Rattle.octets_core.specs.declared.memory.NoMemory.{NoMemory}
use Rattle.outside_core.specs.declared.depot.Depot.{Ghosts}
use Rattle.outside_core.specs.Effects.{OnlyReads}
use Rattle.outside_core.specs.Files.{Files}
use Rattle.part_text.specs.SealedFields.{SealedFields}
use Rattle.job_core.specs.JobFields.{JobFields}
use Rattle.word_core.specs.declared.command.Command.TheVariants as commands
use Rattle.word_core.specs.declared.command.Audit.{Audit}
use Rattle.command_core.specs.declared.answer.Answer.{Answer}
use Rattle.input_core.specs.declared.fault.FileFault.{FileFault}
use Rattle.input_core.specs.declared.fault.FileFault.TheVariants as faults
use Rattle.command_core.specs.ReplyFields.{Done, NamedFault}
use Rattle.input_core.specs.Readings.{store_in, input_as}
use Rattle.command_core.specs.Outcomes.{◌>>=◌, named, input}
use Rattle.command_core.specs.Audits.{unless, job_behind, jobs_behind, bad_crl, audit_jobs, MakesAudit}
use Rattle.outside_core.specs.Reads.{WhichFailed}
use Rattle.input_core.specs.Inputs.{Inputs, IsRead, IsInput}
use Rattle.command_core.specs.AuditJobs.{IsAdded, IsNotAdded, AreAdded, AreNotAdded}
use Rattle.command_core.specs.Replies.{refusal, reply_of, IsReply}
use Rattle.command_core.specs.Answering.{reply_fields}
use Rattle.outside_core.proofs.Effects.{WhichFailed-then}
use Rattle.input_core.proofs.FilesRead.{later_read, none_failed, blamed_later}
use Rattle.command_core.proofs.AuditsMade.{behind_next, behind_stop}
use Rattle.command_core.proofs.Fronts.{no_inputs, ahead, these, ahead_push, nothing, later_reads, some_reads, Front, from_place, is_among, front_more, read_on, front_all}
use Rattle.command_core.proofs.Replying.{read_well, blames_file, says_wider, made}

-- ---- the first files

-- The first files were read and counted, and what comes of the rest behind them comes of all.
pub record Gone (told : Option Files) (names : List (List ℕ)) (i : ℕ) (jobs : List JobFields) : Type 0 where
  pub front : Front told names i
  pub many : length jobs ≡ i
  pub next : (rest : Inputs) → jobs_behind [] names (ahead front.inputs rest) ≡ jobs_behind jobs (drop i names) rest

module _ (told : Option Files) (names : List (List ℕ)) where
  -- the file at a place, behind the first ones
  module _ (here : Option (List ℕ) → Type 0) (mid : Option Files) (same : mid ≡ told) (i : ℕ) (name : List ℕ)
      (lt : i < length names) (is : name ≡ get_or names i name) (jobs : List JobFields) (gone : Gone told names i jobs) where
    next_is : (g : Option (List ℕ)) (rest : Inputs)
        → jobs_behind [] names (ahead gone.front.inputs (ahead (g ∷ []) rest)) ≡ jobs_behind jobs (name ∷ drop (i + 1) names) (ahead (g ∷ []) rest)
    next_is g rest = gone.next (ahead (g ∷ []) rest) ∙ ap (λ (ns : List (List ℕ)). jobs_behind jobs ns (ahead (g ∷ []) rest)) (from_place told names i name lt is)

    pub gone_more : (after : List JobFields) → IsAdded mid here name jobs after → Gone told names (i + 1) after
    gone_more after a =
        let size = length-append jobs (a.job ∷ []) in
        let grown = ap (λ (l : List JobFields). length l) a.grown in
        let many = gone.many in
        record {
          front = front_more told names i name lt is gone.front a.given
              (subst (λ (t : Option Files). IsRead t nothing name a.given) same (read_well mid here nothing name (job_behind jobs) a.given a.job a.gives a.read));
          many = omega (arith, size, grown, many);
          next = λ rest.
              ap (λ (gs : Inputs). jobs_behind [] names gs) (ahead_push gone.front.inputs a.given rest)
              ∙ next_is a.given rest ∙ behind_next jobs name (drop (i + 1) names) (ahead (a.given ∷ []) rest) a.job a.gives
              ∙ ap (λ (l : List JobFields). jobs_behind l (drop (i + 1) names) rest) (sym a.grown);
        }

    -- what is wrong with it is what is wrong with all
    pub gone_refused : (later : Option (List ℕ) → Type 0) (fault : FileFault) → ((which : Option (List ℕ)) → here which → later which)
        → IsNotAdded mid here name jobs fault → AreNotAdded told later names (record { name = name; fault = fault })
    gone_refused later fault wider n =
        let rest = some_reads told later (drop (i + 1) names) in
        record {
          inputs = ahead gone.front.inputs (ahead (n.given ∷ []) rest.0);
          read = read_on told names i name lt is gone.front n.given later (later_read told mid here later name n.given same wider n.read) rest.0 rest.1;
          blames = blames_file {A = JobFields} later names name fault (is_among told names i name lt is)
              (blamed_later {A = JobFields} here later name faults.Unread (Err fault) wider n.blamed);
          makes = next_is n.given rest.0 ∙ behind_stop jobs name (drop (i + 1) names) (ahead (n.given ∷ []) rest.0) fault n.gives;
        }

  -- all files are gone
  pub gone_all : (failed : Option (List ℕ) → Type 0) (i : ℕ) (jobs : List JobFields) → i ≤ length names → length names ≤ i → Gone told names i jobs → failed None → AreAdded told failed names jobs
  gone_all failed i jobs up le gone none =
      let many = gone.many in
      record {
        inputs = these gone.front.inputs;
        read = front_all told names failed i le gone.front;
        none_failed = none;
        makes = gone.next no_inputs ∙ ap (λ (ns : List (List ℕ)). jobs_behind jobs ns no_inputs) (drop_all i names le);
        many = omega (arith, up, le, many);
      }

-- ---- the reply

module _ {D : Type 0} (d : Ghosts D) (old mid new : D) (reads_ : OnlyReads d old mid) (a : Audit) (parts : List SealedFields) where
  abbrev First : Option (List ℕ) → Type 0
  First = WhichFailed d old mid

  abbrev Others : Option (List ℕ) → Type 0
  Others = WhichFailed d mid new

  abbrev Each : Option (List ℕ) → Type 0
  Each = WhichFailed d old new

  step : (g : Option (List ℕ)) (inputs : Inputs) (jobs : Result (List JobFields) NamedFault) (o : Result Done NamedFault) → input_as store_in g ≡ Ok parts
      → jobs_behind [] a.jobs inputs ≡ jobs → MakesAudit a (Ok parts) (jobs >>= (λ js. unless (bad_crl a.jobs js) js)) o
      → MakesAudit a (input a.store store_in g) (audit_jobs a.jobs inputs) o
  step g inputs jobs o gives is m =
      subst (λ (x : Result (List SealedFields) FileFault). MakesAudit a (named a.store x) (audit_jobs a.jobs inputs) o) (sym gives)
      (subst (λ (js : Result (List JobFields) NamedFault). MakesAudit a (Ok parts) (js >>= (λ ks. unless (bad_crl a.jobs ks) ks)) o) (sym is) m)

  -- the file of a job is at fault
  pub audit_not : (name : List ℕ) (fault : FileFault) → IsInput (d.files old) First a.store store_in (λ (x : List SealedFields). x) (Ok parts)
      → ((fault ≡ faults.NoMemory → ⊥) → AreNotAdded (d.files mid) Others a.jobs (record { name = name; fault = fault })) → (r : Result Answer NoMemory) → (fault ≡ faults.NoMemory → IsErr r)
      → IfOk r (λ y. reply_fields y ≡ refusal name fault) → IfOk r (λ y. IsReply (commands.Audit a) (d.files old) Each (reply_fields y))
  audit_not name fault (g, read, gives, blamed) refused (Ok b) memory is =
      let n = refused (λ none. let h : IsErr {T = Answer} {E = NoMemory} (Ok b) = memory none in cc) in
      let well = none_failed First a.store faults.Unread parts blamed in
      let e : NamedFault = record { name = name; fault = fault } in
      made (commands.Audit a) (d.files old) Each (ahead (g ∷ []) n.inputs) (Err e) (Ok b)
      (read_well (d.files old) First Each a.store store_in g parts gives read, later_reads (d.files old) (d.files mid) Others Each a.jobs n.inputs reads_.same_files (WhichFailed-then d old mid new reads_ well) n.read)
      (says_wider Others Each a.store a.jobs (refusal name fault) (WhichFailed-then d old mid new reads_ well) n.blames) (step g n.inputs (Err e) (Err e) gives n.makes refl) is
  audit_not name fault in_ refused (Err e) memory is = tt

  -- what comes of the files that were read
  pub audit_made : (r : Result Answer NoMemory) (jobs : List JobFields) → IsInput (d.files old) First a.store store_in (λ (x : List SealedFields). x) (Ok parts)
      → AreAdded (d.files mid) Others a.jobs jobs
      → IfOk r (λ y. (o : Result Done NamedFault) × MakesAudit a (Ok parts) (unless (bad_crl a.jobs jobs) jobs) o × (reply_fields y ≡ reply_of o))
      → IfOk r (λ y. IsReply (commands.Audit a) (d.files old) Each (reply_fields y))
  audit_made (Ok b) jobs (g, read, gives, blamed) n (o, m, is) =
      let well = none_failed First a.store faults.Unread parts blamed in
      let none = WhichFailed-then d old mid new reads_ well None n.none_failed in
      made (commands.Audit a) (d.files old) Each (ahead (g ∷ []) n.inputs) o (Ok b)
      (read_well (d.files old) First Each a.store store_in g parts gives read, later_reads (d.files old) (d.files mid) Others Each a.jobs n.inputs reads_.same_files (WhichFailed-then d old mid new reads_ well) n.read)
      (inl none) (step g n.inputs (Ok jobs) o gives n.makes m) is
  audit_made (Err e) jobs in_ n h = tt
