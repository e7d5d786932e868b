-- Jobs that are rehearsed file by file, and the reply of `rehearse`.
use Rattle.std.proofs.Common.{◌≡◌, ℕ, ◌+◌, ◌<◌, ◌≤◌, inl, inr, List, [], ◌∷◌, ◌++◌, flat_map, drop, get_or, length, append_assoc, Option, None, Result, Ok}
use Rattle.std.proofs.Common.{Err, IfOk, refl, sym, ap, ◌∙◌, subst}
use Rattle.std.specs.Prelude.{IsErr}
use Rattle.std.proofs.lemmas.List.{append-nil, drop_all}
use Rattle.octets_core.specs.declared.memory.NoMemory.{NoMemory}
use Rattle.outside_core.specs.declared.depot.Depot.{Ghosts}
use Rattle.outside_core.specs.Effects.{OnlyReads}
use Rattle.outside_core.specs.Files.{Files}
use Rattle.input_core.specs.Queries.{Query}
use Rattle.part_text.specs.SealedFields.{SealedFields}
use Rattle.job_core.specs.JobFields.{JobFields}
use Rattle.universe_core.specs.Formats.{in_format}
use Rattle.publication_core.specs.Formats.{current}
use Rattle.publication_core.specs.Histories.{Published, History, of_jobs}
use Rattle.publication_core.specs.Rehearsing.{RehearsalFields, IsOf}
use Rattle.word_core.specs.declared.command.Command.TheVariants as commands
use Rattle.word_core.specs.declared.command.Rehearse.{Rehearse}
use Rattle.command_core.specs.declared.answer.Answer.{Answer}
use Rattle.input_core.specs.declared.fault.FileFault.{FileFault}
use Rattle.input_core.specs.declared.fault.FileFault.TheVariants as faults
use Rattle.command_core.specs.ReplyFields.{Done, NamedFault}
use Rattle.input_core.specs.Readings.{queries_in, job_in, input_as}
use Rattle.command_core.specs.Commands.{named, input, report_behind, reports, rehearsed, verdict_line, IsFileRefused, MakesRehearsal}
use Rattle.command_core.specs.Steps.{RehearsesOn}
use Rattle.outside_core.specs.Reads.{WhichFailed}
use Rattle.input_core.specs.Inputs.{Inputs, IsBlamed, IsRead, IsInput}
use Rattle.command_core.specs.Rehearsals.{AddsJob, IsRehearsedFrom, IsRefusedFrom}
use Rattle.command_core.specs.Replies.{done, refusal, IsReply}
use Rattle.command_core.specs.Answering.{reply_fields}
use Rattle.outside_core.proofs.Effects.{WhichFailed-then}
use Rattle.input_core.proofs.FilesRead.{later_read, none_failed, blamed_later}
use Rattle.command_core.proofs.Fronts.{no_inputs, ahead, these, ahead_push, nothing, later_reads, some_reads, Front, no_front, from_place, is_among, front_more, read_on, front_all}
use Rattle.command_core.proofs.Replying.{read_well, read_named, blames_file, says_wider, made}
use Rattle.command_core.proofs.Prefixes.{first_of}

-- ---- reports

reports_more : (before ps : List Published) (p : Published)
    → reports (of_jobs before) (ps ++ p ∷ []) ≡ reports (of_jobs before) ps ++ report_behind (of_jobs (before ++ ps)) p.job.job
reports_more before [] p =
    append-nil (report_behind (of_jobs before) p.job.job) ∙ ap (λ (qs : List Published). report_behind (of_jobs qs) p.job.job) (sym (append-nil before))
reports_more before (q ∷ ps) p =
    let first : List ℕ = report_behind (of_jobs before) q.job.job in
    let rest : List ℕ = reports (of_jobs (before ++ q ∷ [])) ps in
    ap (λ (text : List ℕ). first ++ text) (reports_more (before ++ q ∷ []) ps p)
    ∙ sym (append_assoc first rest (report_behind (of_jobs ((before ++ q ∷ []) ++ ps)) p.job.job))
    ∙ ap (λ (qs : List Published). (first ++ rest) ++ report_behind (of_jobs qs) p.job.job) (append_assoc before (q ∷ []) ps)

-- ---- the first files

-- The first files were read as jobs of a history, and what comes of the rest behind it comes of all.
pub record Gone (told : Option Files) (names : List (List ℕ)) (i : ℕ) (r : RehearsalFields) (text : List ℕ) : Type 0 where
  pub front : Front told names i
  pub jobs : List Published
  pub is_of : IsOf (of_jobs jobs) r
  pub lines : text ≡ reports (of_jobs []) jobs
  pub next : (queries : List Query) (rest : Inputs) (o : Result Done NamedFault) → RehearsesOn queries jobs (drop i names) rest o
      → RehearsesOn queries [] names (ahead front.inputs rest) o

module _ (told : Option Files) (names : List (List ℕ)) where
  pub none_gone : (r : RehearsalFields) (text : List ℕ) → IsOf (of_jobs []) r → text ≡ [] → Gone told names 0 r text
  none_gone r text is_of empty = record { front = no_front told names; jobs = []; is_of = is_of; lines = empty; next = λ queries rest o m. m }

  -- the file at a place, behind the first ones
  module _ (here : Option (List ℕ) → Type 0) (mid : Option Files) (same : mid ≡ told) (i : ℕ) (name : List ℕ)
      (lt : i < length names) (is : name ≡ get_or names i name)
      (r : RehearsalFields) (text : List ℕ) (gone : Gone told names i r text) (g : Option (List ℕ)) (read : IsRead mid here name g) where
    next_of : (queries : List Query) (rest : Inputs) (o : Result Done NamedFault)
        → RehearsesOn queries gone.jobs (name ∷ drop (i + 1) names) (ahead (g ∷ []) rest) o
        → RehearsesOn queries [] names (ahead gone.front.inputs (ahead (g ∷ []) rest)) o
    next_of queries rest o m =
        gone.next queries (ahead (g ∷ []) rest) o
        (subst (λ (ns : List (List ℕ)). RehearsesOn queries gone.jobs ns (ahead (g ∷ []) rest) o) (sym (from_place told names i name lt is)) m)

    -- a job was read of it
    job_was_read : (job : JobFields) → input name job_in g ≡ Ok job → IsRead told nothing name g
    job_was_read job gives =
        subst (λ (t : Option Files). IsRead t nothing name g) same (read_named mid here nothing name job_in g job gives read)

    more_by : (after : RehearsalFields) (line : List ℕ) → AddsJob (of_jobs gone.jobs) (input name job_in g) after line → Gone told names (i + 1) after (text ++ line)
    more_by after line a =
        let p : Published = record { job = in_format current a.job; sealed = a.sealed } in
        record {
          front = front_more told names i name lt is gone.front g (job_was_read a.job a.is_read);
          jobs = gone.jobs ++ p ∷ [];
          is_of = a.is_of;
          lines = ap (λ (t : List ℕ). t ++ line) gone.lines ∙ ap (λ (l : List ℕ). reports (of_jobs []) gone.jobs ++ l) a.report
              ∙ sym (reports_more [] gone.jobs p);
          next = λ queries rest o m.
              subst (λ (gs : Inputs). RehearsesOn queries [] names gs o) (sym (ahead_push gone.front.inputs g rest))
              (next_of queries rest o (inr (p, (a.is_read, refl), a.fits, a.is_of.is_history, m)));
        }

    pub gone_more : (after : RehearsalFields) (line : List ℕ) → ((h : History) → IsOf h r → AddsJob h (input name job_in g) after line)
        → Gone told names (i + 1) after (text ++ line)
    gone_more after line adds = more_by after line (adds (of_jobs gone.jobs) gone.is_of)

    -- what is wrong with it is what is wrong with all
    pub gone_refused : {A : Type 0} (later : Option (List ℕ) → Type 0) (fault : FileFault) → ((which : Option (List ℕ)) → here which → later which)
        → IsBlamed {A = A} here name faults.Unread (Err fault)
        → ((h : History) → IsOf h r → IsFileRefused h name g (record { name = name; fault = fault }))
        → IsRefusedFrom told later names (record { name = name; fault = fault })
    gone_refused {A} later fault wider blamed refused =
        let rest = some_reads told later (drop (i + 1) names) in
        record {
          inputs = ahead gone.front.inputs (ahead (g ∷ []) rest.0);
          read = read_on told names i name lt is gone.front g later (later_read told mid here later name g same wider read) rest.0 rest.1;
          blames = blames_file {A = A} later names name fault (is_among told names i name lt is)
              (blamed_later {A = A} here later name faults.Unread (Err fault) wider blamed);
          makes = λ queries. next_of queries rest.0 (Err (record { name = name; fault = fault })) (inl (record { name = name; fault = fault }, refused (of_jobs gone.jobs) gone.is_of, refl));
        }

  -- all files are gone
  pub gone_all : (failed : Option (List ℕ) → Type 0) (i : ℕ) (r : RehearsalFields) (text : List ℕ) → length names ≤ i → Gone told names i r text → failed None
      → IsRehearsedFrom told failed names r text
  gone_all failed i r text le gone none = record {
    inputs = these gone.front.inputs;
    read = front_all told names failed i le gone.front;
    none_failed = none;
    jobs = gone.jobs;
    is_of = gone.is_of;
    lines = gone.lines;
    makes = λ queries. gone.next queries no_inputs (Ok (rehearsed queries gone.jobs))
        (subst (λ (ns : List (List ℕ)). RehearsesOn queries gone.jobs ns no_inputs (Ok (rehearsed queries gone.jobs))) (sym (drop_all i names le)) refl);
  }

-- ---- the reply

-- the queries are at fault
module _ {D : Type 0} (d : Ghosts D) (old mid new : D) (reads_ : OnlyReads d old mid) (r : Rehearse) where
  abbrev First : Option (List ℕ) → Type 0
  First = WhichFailed d old mid

  abbrev Others : Option (List ℕ) → Type 0
  Others = WhichFailed d mid new

  abbrev All : Option (List ℕ) → Type 0
  All = WhichFailed d old new

  step : (queries : List Query) (g : Option (List ℕ)) (inputs : Inputs) (o : Result Done NamedFault) → input_as queries_in g ≡ Ok queries → RehearsesOn queries [] r.jobs inputs o
      → MakesRehearsal r (input r.queries queries_in g) inputs o
  step queries g inputs o gives m = subst (λ (x : Result (List Query) FileFault). MakesRehearsal r (named r.queries x) inputs o) (sym gives) (first_of queries r.jobs inputs o m)

  -- a job is at fault
  pub rehearse_not : {B : Type 0} (view : B → List Query) (x : B) (name : List ℕ) (fault : FileFault) → IsInput (d.files old) First r.queries queries_in view (Ok x)
      → ((fault ≡ faults.NoMemory → ⊥) → IsRefusedFrom (d.files mid) Others r.jobs (record { name = name; fault = fault })) → (a : Result Answer NoMemory) → (fault ≡ faults.NoMemory → IsErr a)
      → IfOk a (λ y. reply_fields y ≡ refusal name fault) → IfOk a (λ y. IsReply (commands.Rehearse r) (d.files old) All (reply_fields y))
  rehearse_not view x name fault (g, read, gives, blamed) refused (Ok b) memory is =
      let f = refused (λ none. let h : IsErr {T = Answer} {E = NoMemory} (Ok b) = memory none in cc) in
      let well = none_failed First r.queries faults.Unread x blamed in
      made (commands.Rehearse r) (d.files old) All (ahead (g ∷ []) f.inputs) (Err (record { name = name; fault = fault })) (Ok b)
      (read_well (d.files old) First All r.queries queries_in g (view x) gives read, later_reads (d.files old) (d.files mid) Others All r.jobs f.inputs reads_.same_files (WhichFailed-then d old mid new reads_ well) f.read)
      (says_wider Others All r.queries r.jobs (refusal name fault) (WhichFailed-then d old mid new reads_ well) f.blames)
      (step (view x) g f.inputs (Err (record { name = name; fault = fault })) gives (f.makes (view x))) is
  rehearse_not view x name fault in_ refused (Err e) memory is = tt

  pub rehearse_made : {B : Type 0} (a : Result Answer NoMemory) (view : B → List Query) (x : B) (after : RehearsalFields) (text all : List ℕ)
      → IsInput (d.files old) First r.queries queries_in view (Ok x)
      → IsRehearsedFrom (d.files mid) Others r.jobs after text → all ≡ text ++ flat_map (verdict_line after.parts) (view x) → IfOk a (λ y. reply_fields y ≡ done (record { text = all; outputs = [] }))
      → IfOk a (λ y. IsReply (commands.Rehearse r) (d.files old) All (reply_fields y))
  rehearse_made a view x after text all (g, read, gives, blamed) f lines is =
      let same_text : all ≡ (rehearsed (view x) f.jobs).text = lines ∙ ap (λ (t : List ℕ). t ++ flat_map (verdict_line after.parts) (view x)) f.lines
      ∙ ap (λ (ss : List SealedFields). reports (of_jobs []) f.jobs ++ flat_map (verdict_line ss) (view x)) f.is_of.parts in
      let well = none_failed First r.queries faults.Unread x blamed in
      made (commands.Rehearse r) (d.files old) All (ahead (g ∷ []) f.inputs) (Ok (rehearsed (view x) f.jobs)) a
      (read_well (d.files old) First All r.queries queries_in g (view x) gives read, later_reads (d.files old) (d.files mid) Others All r.jobs f.inputs reads_.same_files (WhichFailed-then d old mid new reads_ well) f.read)
      (inl (WhichFailed-then d old mid new reads_ well None f.none_failed))
      (step (view x) g f.inputs (Ok (rehearsed (view x) f.jobs)) gives (f.makes (view x)))
      (subst (λ (t : List ℕ). IfOk a (λ y. reply_fields y ≡ done (record { text = t; outputs = [] }))) same_text is)
