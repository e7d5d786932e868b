-- Files whose entries are put behind a job file by file, and the reply of a longer job.
use Rattle.std.proofs.Common.{◌≡◌, ℕ, ◌+◌, ◌<◌, ◌≤◌, inl, inr, List, [], ◌∷◌, ◌++◌, drop, get_or, length, append_assoc, length-append, Option, None, Result, Ok}
use Rattle.std.proofs.Common.{Err, IfOk, refl, sym, ap, ◌∙◌, subst, arith}
use Rattle.std.specs.Prelude.{IsErr}
use Rattle.std.proofs.lemmas.Bool.{le-leb, lt-leb}
use Rattle.std.proofs.lemmas.List.{append-nil, drop_all}
use Rattle.octets_core.specs.declared.memory.NoMemory.{NoMemory}
use Rattle.outside_core.specs.declared.depot.Depot.{Ghosts}
use Rattle.outside_core.specs.Effects.{OnlyReads}
use Rattle.outside_core.specs.Files.{Files}
use Rattle.job_core.specs.declared.bounds.TheConstants.Limits as limits
use Rattle.job_core.specs.declared.bounds.What.TheVariants as what
use Rattle.job_core.specs.JobLayout.{EntryText}
use Rattle.job_core.specs.JobText.{JobContents}
use Rattle.gather_core.specs.declared.job.OpenJob.{OpenJob}
use Rattle.gather_core.specs.declared.texts.EntryTexts.{EntryTexts}
use Rattle.gather_core.specs.Opened.{Holds, Opens}
use Rattle.gather_core.specs.Raw.{with_entries}
use Rattle.command_core.specs.declared.answer.Answer.{Answer}
use Rattle.word_core.specs.declared.command.{Gather.Gather, Merge.Merge}
use Rattle.word_core.specs.declared.command.Command.TheVariants as commands
use Rattle.command_core.specs.declared.lengthening.Source.{Source}
use Rattle.command_core.specs.declared.lengthening.Source.TheVariants as sources
use Rattle.input_core.specs.declared.fault.FileFault.{FileFault}
use Rattle.input_core.specs.declared.fault.FileFault.TheVariants as faults
use Rattle.command_core.specs.ReplyFields.{Done, NamedFault}
use Rattle.input_core.specs.Readings.{input_as}
use Rattle.command_core.specs.Outcomes.{◌>>=◌, named, input}
use Rattle.command_core.specs.Longer.{head_in, entries_by, room_for, entries_of, longer_done, longer_makes}
use Rattle.outside_core.specs.Reads.{WhichFailed}
use Rattle.input_core.specs.Inputs.{Inputs, rest_of, IsBlamed, IsRead, AreRead, IsInput}
use Rattle.command_core.specs.LongerJobs.{IsLonger, IsNotLonger, IsLongerReply}
use Rattle.command_core.specs.Replies.{done, refusal, reply_of, SaysWhich, IsReply}
use Rattle.command_core.specs.Answering.{reply_fields}
use Rattle.outside_core.proofs.Effects.{WhichFailed-then}
use Rattle.input_core.proofs.FilesRead.{later_read, none_failed, blamed_later}
use Rattle.command_core.proofs.Fronts.{no_inputs, ahead, these, ahead_push, nothing, later_reads, some_reads, Front, no_front, from_place, is_among, front_more, read_on, front_all}
use Rattle.command_core.proofs.Following.{entries_last, entries_then, longer_after}
use Rattle.command_core.proofs.Replying.{read_well, blames_file, says_wider}

-- entries before those of a result
abbrev pub behind_these : List EntryText → Result (List EntryText) NamedFault → Result (List EntryText) NamedFault
behind_these entries (Ok others) = Ok (entries ++ others)
behind_these entries (Err e) = Err e

these_twice : (a b : List EntryText) (r : Result (List EntryText) NamedFault) → behind_these a (behind_these b r) ≡ behind_these (a ++ b) r
these_twice a b (Ok others) = ap (λ (l : List EntryText). Ok l) (sym (append_assoc a b others))
these_twice a b (Err e) = refl

none_before : (r : Result (List EntryText) NamedFault) → behind_these [] r ≡ r
none_before (Ok others) = refl
none_before (Err e) = refl

these_of : (few : List EntryText) (r : Result (List EntryText) NamedFault) → (r >>= (λ others. Ok (few ++ others))) ≡ behind_these few r
these_of few (Ok others) = refl
these_of few (Err e) = refl

-- with more behind them
with_more : (j : JobContents) (entries few : List EntryText) → with_entries (with_entries j entries) few ≡ with_entries j (entries ++ few)
with_more j entries few = ap (λ (l : List EntryText). record j { entries = l }) (append_assoc j.entries entries few)

with_none : (j : JobContents) → with_entries j [] ≡ j
with_none j = ap (λ (l : List EntryText). record j { entries = l }) (append-nil j.entries)

module _ (source : Source) (job : List ℕ) (epoch : ℕ) where
  -- ---- one file

  abbrev All : ℕ → List (List ℕ) → Inputs → Result (List EntryText) NamedFault
  All before names at = entries_of source epoch job before names at

  room : (before : ℕ) (few : List EntryText) → before + length few ≤ limits.PUBLISHED.entries → room_for job before few ≡ Ok few
  room before few le = rw (le-leb (before + length few) limits.PUBLISHED.entries le) refl

  abbrev Full : NamedFault
  Full = record { name = job; fault = faults.TooMany what.Entries limits.PUBLISHED.entries }

  no_room : (before : ℕ) (few : List EntryText) → limits.PUBLISHED.entries < before + length few → room_for job before few ≡ Err Full
  no_room before few lt = rw (lt-leb (before + length few) limits.PUBLISHED.entries lt) refl

  -- what follows a file that was read, and for whose entries there is room
  pub file_put : (name : List ℕ) (names : List (List ℕ)) (before : ℕ) (at : Inputs) (few : List EntryText) → input name (entries_by source epoch) (at 0) ≡ Ok few
      → before + length few ≤ limits.PUBLISHED.entries → All before (name ∷ names) at ≡ behind_these few (All (before + length few) names (rest_of at))
  file_put name names before at few is le =
      ap (λ (r : Result (List EntryText) NamedFault). r >>= entries_then source epoch job before names (rest_of at)) is
      ∙ ap (λ (r : Result (List EntryText) NamedFault). r >>= entries_last source epoch job before names (rest_of at)) (room before few le)
      ∙ these_of few (All (before + length few) names (rest_of at))

  file_over : (name : List ℕ) (names : List (List ℕ)) (before : ℕ) (at : Inputs) (few : List EntryText) → input name (entries_by source epoch) (at 0) ≡ Ok few
      → limits.PUBLISHED.entries < before + length few → All before (name ∷ names) at ≡ Err Full
  file_over name names before at few is lt =
      ap (λ (r : Result (List EntryText) NamedFault). r >>= entries_then source epoch job before names (rest_of at)) is
      ∙ ap (λ (r : Result (List EntryText) NamedFault). r >>= entries_last source epoch job before names (rest_of at)) (no_room before few lt)

  file_fault : (name : List ℕ) (names : List (List ℕ)) (before : ℕ) (at : Inputs) (e : NamedFault) → input name (entries_by source epoch) (at 0) ≡ Err e
      → All before (name ∷ names) at ≡ Err e
  file_fault name names before at e is = ap (λ (r : Result (List EntryText) NamedFault). r >>= entries_then source epoch job before names (rest_of at)) is

-- ---- the first files

module _ (source : Source) (to : List ℕ) (files : List (List ℕ)) (told : Option Files) (j : JobContents) where
  abbrev Rest : ℕ → List (List ℕ) → Inputs → Result (List EntryText) NamedFault
  Rest before names at = entries_of source j.epoch to before names at

  -- The first files were read and their entries put behind the job, and what comes of the rest behind them comes of all.
  pub record Gone (i : ℕ) (job : OpenJob) : Type 0 where
    pub front : Front told files i
    pub entries : List EntryText
    pub opens : Opens job (with_entries j entries)
    pub next : (rest : Inputs)
        → Rest (length j.entries) files (ahead front.inputs rest) ≡ behind_these entries (Rest (length j.entries + length entries) (drop i files) rest)

  -- how many entries the job then has
  with-size : (entries : List EntryText) → length (with_entries j entries).entries ≡ length j.entries + length entries
  with-size entries = length-append j.entries entries

  pub none_gone : (job : OpenJob) → Opens job j → Gone 0 job
  none_gone job opens = record {
    front = no_front told files;
    entries = [];
    opens = subst (λ (k : JobContents). Opens job k) (sym (with_none j)) opens;
    next = λ rest.
        ap (λ (n : ℕ). Rest n files rest) (omega (arith)) ∙ sym (none_before (Rest (length j.entries + 0) files rest));
  }

  -- the file at a place, behind the first ones
  module _ (here : Option (List ℕ) → Type 0) (mid : Option Files) (same : mid ≡ told) (i : ℕ) (name : List ℕ)
      (lt : i < length files) (is : name ≡ get_or files i name)
      (job : OpenJob) (gone : Gone i job) (g : Option (List ℕ)) (read : IsRead mid here name g) where
    next_is : (rest : Inputs) → Rest (length j.entries) files (ahead gone.front.inputs (ahead (g ∷ []) rest))
        ≡ behind_these gone.entries (Rest (length j.entries + length gone.entries) (name ∷ drop (i + 1) files) (ahead (g ∷ []) rest))
    next_is rest =
        gone.next (ahead (g ∷ []) rest)
        ∙ ap (λ (ns : List (List ℕ)). behind_these gone.entries (Rest (length j.entries + length gone.entries) ns (ahead (g ∷ []) rest)))
        (from_place told files i name lt is)

    pub gone_more : (t : EntryTexts) (few : List EntryText) (after : OpenJob) → Holds t few → input_as (entries_by source j.epoch) g ≡ Ok few
        → ((k : JobContents) (entries : List EntryText) → Opens job k → Holds t entries
        → (length k.entries + length entries ≤ limits.PUBLISHED.entries) × Opens after (with_entries k entries))
        → Gone (i + 1) after
    gone_more t few after holds gives puts =
        let put = puts (with_entries j gone.entries) few gone.opens holds in
        let less : length j.entries + length gone.entries + length few ≤ limits.PUBLISHED.entries = omega (arith, put.0, with-size gone.entries) in
        let is_few : input name (entries_by source j.epoch) g ≡ Ok few = ap (named name) gives in
        record {
          front = front_more told files i name lt is gone.front g
              (subst (λ (t : Option Files). IsRead t nothing name g) same (read_well mid here nothing name (entries_by source j.epoch) g few gives read));
          entries = gone.entries ++ few;
          opens = subst (λ (k : JobContents). Opens after k) (with_more j gone.entries few) put.1;
          next = λ rest.
              ap (λ (gs : Inputs). Rest (length j.entries) files gs) (ahead_push gone.front.inputs g rest)
              ∙ next_is rest
              ∙ ap (behind_these gone.entries)
              (file_put source to j.epoch name (drop (i + 1) files) (length j.entries + length gone.entries) (ahead (g ∷ []) rest) few is_few less)
              ∙ these_twice gone.entries few (Rest (length j.entries + length gone.entries + length few) (drop (i + 1) files) rest)
              ∙ ap (λ (n : ℕ). behind_these (gone.entries ++ few) (Rest n (drop (i + 1) files) rest)) (omega (arith, length-append gone.entries few));
        }

    all_read : (later : Option (List ℕ) → Type 0) → ((which : Option (List ℕ)) → here which → later which)
        → (rest : Inputs) → AreRead told later (drop (i + 1) files) rest → AreRead told later files (ahead gone.front.inputs (ahead (g ∷ []) rest))
    all_read later wider rest read_rest =
        read_on told files i name lt is gone.front g later (later_read told mid here later name g same wider read) rest read_rest

    -- what is wrong with it is what is wrong with all
    pub gone_refused : {A : Type 0} (later : Option (List ℕ) → Type 0) (fault : FileFault) → ((which : Option (List ℕ)) → here which → later which)
        → IsBlamed {A = A} here name faults.Unread (Err fault) → input_as (entries_by source j.epoch) g ≡ Err fault
        → IsNotLonger told later source to files j (record { name = name; fault = fault })
    gone_refused {A} later fault wider blamed refused =
        let rest = some_reads told later (drop (i + 1) files) in
        record {
          inputs = ahead gone.front.inputs (ahead (g ∷ []) rest.0);
          read = all_read later wider rest.0 rest.1;
          blames = blames_file {A = A} later files name fault (is_among told files i name lt is)
              (blamed_later {A = A} here later name faults.Unread (Err fault) wider blamed);
          makes = next_is rest.0
              ∙ ap (behind_these gone.entries)
              (file_fault source to j.epoch name (drop (i + 1) files) (length j.entries + length gone.entries) (ahead (g ∷ []) rest.0)
              (record { name = name; fault = fault }) (ap (named name) refused));
        }

    -- there would be too many entries
    pub gone_full : (later : Option (List ℕ) → Type 0) (t : EntryTexts) (few : List EntryText) (fault : FileFault) → Holds t few
        → ((which : Option (List ℕ)) → here which → later which) → later None
        → input_as (entries_by source j.epoch) g ≡ Ok few → fault ≡ faults.TooMany what.Entries limits.PUBLISHED.entries
        → ((k : JobContents) (entries : List EntryText) → Opens job k → Holds t entries → limits.PUBLISHED.entries < length k.entries + length entries)
        → IsNotLonger told later source to files j (record { name = to; fault = fault })
    gone_full later t few fault holds wider none gives is_full full =
        let rest = some_reads told later (drop (i + 1) files) in
        let many : limits.PUBLISHED.entries < length j.entries + length gone.entries + length few
        = omega (arith, full (with_entries j gone.entries) few gone.opens holds, with-size gone.entries) in
        record {
          inputs = ahead gone.front.inputs (ahead (g ∷ []) rest.0);
          read = all_read later wider rest.0 rest.1;
          blames = inl none;
          makes = next_is rest.0
              ∙ ap (behind_these gone.entries)
              (file_over source to j.epoch name (drop (i + 1) files) (length j.entries + length gone.entries) (ahead (g ∷ []) rest.0) few (ap (named name) gives) many)
              ∙ ap (λ (k : FileFault). Err (record { name = to; fault = k })) (sym is_full);
        }

  -- all files are gone
  pub gone_all : (failed : Option (List ℕ) → Type 0) (i : ℕ) (job : OpenJob) → length files ≤ i → Gone i job → failed None → IsLonger told failed source to files j job
  gone_all failed i job le gone none = record {
    inputs = these gone.front.inputs;
    read = front_all told files failed i le gone.front;
    none_failed = none;
    entries = gone.entries;
    makes = gone.next no_inputs
        ∙ ap (λ (ns : List (List ℕ)). behind_these gone.entries (Rest (length j.entries + length gone.entries) ns no_inputs)) (drop_all i files le)
        ∙ ap (λ (l : List EntryText). Ok l) (append-nil gone.entries);
    opens = gone.opens;
  }

  -- no entry is lost
  pub fewer-before : (failed : Option (List ℕ) → Type 0) (before : ℕ) (job : OpenJob) → before ≡ length j.entries
      → IsLonger told failed source to files j job → before ≤ job.entries
  fewer-before failed before job is n = omega (arith, is, n.opens.count, with-size n.entries)

-- ---- the reply

module _ (source : Source) (head to : List ℕ) (files : List (List ℕ)) where
  longer_reply : (told : Option Files) (failed : Option (List ℕ) → Type 0) (inputs : Inputs) (o : Result Done NamedFault) (a : Result Answer NoMemory)
      → AreRead told failed (head ∷ files) inputs → SaysWhich failed (head ∷ files) (reply_of o) → o ≡ longer_makes source head to files (inputs 0) (rest_of inputs)
      → IfOk a (λ y. reply_fields y ≡ reply_of o) → IfOk a (λ y. IsLongerReply told failed source head to files (reply_fields y))
  longer_reply told failed inputs o (Ok a) read says m is = (inputs, read, (o, m, is), subst (SaysWhich failed (head ∷ files)) (sym is) says)
  longer_reply told failed inputs o (Err e) read says m is = tt

  -- the head is at fault
  pub head_not : (told : Option Files) (failed : Option (List ℕ) → Type 0) (a : Result Answer NoMemory) (fault : FileFault)
      → IsInput told failed head head_in (λ (x : JobContents). x) (Err fault) → (fault ≡ faults.NoMemory → IsErr a)
      → IfOk a (λ y. reply_fields y ≡ refusal head fault) → IfOk a (λ y. IsLongerReply told failed source head to files (reply_fields y))
  head_not told failed (Ok b) fault (g, read, gives, blamed) memory is =
      let rest = some_reads told failed files in
      let e : NamedFault = record { name = head; fault = fault } in
      let refused : input_as head_in g ≡ Err fault = gives (λ none. let h : IsErr {T = Answer} {E = NoMemory} (Ok b) = memory none in cc) in
      longer_reply told failed (ahead (g ∷ []) rest.0) (Err e) (Ok b) (read, rest.1) (blames_file {A = JobContents} failed (head ∷ files) head fault (inl refl) blamed)
      (sym (ap (λ (x : Result JobContents FileFault). named head x >>= longer_after source to files rest.0) refused)) is
  head_not told failed (Err e) fault in_ memory is = tt

  module _ {D : Type 0} (d : Ghosts D) (old mid new : D) (reads_ : OnlyReads d old mid) (j : JobContents) where
    abbrev First : Option (List ℕ) → Type 0
    First = WhichFailed d old mid

    abbrev Others : Option (List ℕ) → Type 0
    Others = WhichFailed d mid new

    abbrev Both : Option (List ℕ) → Type 0
    Both = WhichFailed d old new

    step : (g : Option (List ℕ)) (inputs : Inputs) (o : Result (List EntryText) NamedFault) → input_as head_in g ≡ Ok j
        → entries_of source j.epoch to (length j.entries) files inputs ≡ o
        → (o >>= (λ entries. Ok (longer_done source to files j entries))) ≡ longer_makes source head to files g inputs
    step g inputs o gives makes =
        ap (λ (r : Result (List EntryText) NamedFault). r >>= (λ entries. Ok (longer_done source to files j entries))) (sym makes)
        ∙ sym (ap (λ (x : Result JobContents FileFault). named head x >>= longer_after source to files inputs) gives)

    -- a file is at fault, or there are too many entries
    pub longer_not : (name : List ℕ) (fault : FileFault) → IsInput (d.files old) First head head_in (λ (x : JobContents). x) (Ok j)
        → ((fault ≡ faults.NoMemory → ⊥) → IsNotLonger (d.files mid) Others source to files j (record { name = name; fault = fault }))
        → (a : Result Answer NoMemory) → (fault ≡ faults.NoMemory → IsErr a)
        → IfOk a (λ y. reply_fields y ≡ refusal name fault) → IfOk a (λ y. IsLongerReply (d.files old) Both source head to files (reply_fields y))
    longer_not name fault (g, read, gives, blamed) refused (Ok b) memory is =
        let n = refused (λ none. let h : IsErr {T = Answer} {E = NoMemory} (Ok b) = memory none in cc) in
        let well = none_failed First head faults.Unread j blamed in
        longer_reply (d.files old) Both (ahead (g ∷ []) n.inputs) (Err (record { name = name; fault = fault })) (Ok b) (
          read_well (d.files old) First Both head head_in g j gives read,
          later_reads (d.files old) (d.files mid) Others Both files n.inputs reads_.same_files (WhichFailed-then d old mid new reads_ well) n.read,
        )
        (says_wider Others Both head files (refusal name fault) (WhichFailed-then d old mid new reads_ well) n.blames)
        (step g n.inputs (Err (record { name = name; fault = fault })) gives n.makes) is
    longer_not name fault in_ refused (Err e) memory is = tt

    pub longer_made : (a : Result Answer NoMemory) (job : OpenJob) → IsInput (d.files old) First head head_in (λ (x : JobContents). x) (Ok j)
        → IsLonger (d.files mid) Others source to files j job
        → ((entries : List EntryText) → Opens job (with_entries j entries) → IfOk a (λ y. reply_fields y ≡ done (longer_done source to files j entries)))
        → IfOk a (λ y. IsLongerReply (d.files old) Both source head to files (reply_fields y))
    longer_made a job (g, read, gives, blamed) n is =
        let well = none_failed First head faults.Unread j blamed in
        longer_reply (d.files old) Both (ahead (g ∷ []) n.inputs) (Ok (longer_done source to files j n.entries)) a (
          read_well (d.files old) First Both head head_in g j gives read,
          later_reads (d.files old) (d.files mid) Others Both files n.inputs reads_.same_files (WhichFailed-then d old mid new reads_ well) n.read,
        )
        (inl (WhichFailed-then d old mid new reads_ well None n.none_failed))
        (step g n.inputs (Ok n.entries) gives n.makes) (is n.entries n.opens)

-- ---- the reply of each command

pub gather_reply : (told : Option Files) (failed : Option (List ℕ) → Type 0) (g : Gather) (a : Result Answer NoMemory)
    → IfOk a (λ y. IsLongerReply told failed (sources.Pages g.log) g.head g.job g.pages (reply_fields y)) → IfOk a (λ y. IsReply (commands.Gather g) told failed (reply_fields y))
gather_reply told failed g (Ok y) (inputs, read, outcome, says) = (inputs, read, inr outcome, says)
gather_reply told failed g (Err e) h = tt

pub merge_reply : (told : Option Files) (failed : Option (List ℕ) → Type 0) (m : Merge) (a : Result Answer NoMemory)
    → IfOk a (λ y. IsLongerReply told failed sources.Pieces m.head m.job m.pieces (reply_fields y)) → IfOk a (λ y. IsReply (commands.Merge m) told failed (reply_fields y))
merge_reply told failed m (Ok y) (inputs, read, outcome, says) = (inputs, read, inr outcome, says)
merge_reply told failed m (Err e) h = tt
