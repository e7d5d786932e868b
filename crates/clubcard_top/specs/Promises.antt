-- What the program promises of a call: the contract of `run`.
use Rattle.std.specs.Prelude.{◌≡◌, ◌≢◌, ℕ, ◌+◌, ◌≤◌, ◌⊎◌, List, [], ◌∷◌, ◌++◌, map, length, slice_get, true}
use Rattle.std.specs.Prelude.{Some, None, Ok, Err, IsTrue}
use Rattle.ident_core.specs.declared.identity.Identity.{Identity}
use Rattle.ident_core.specs.declared.kind.Kind.TheVariants as kinds
use Rattle.ident_core.specs.declared.range.Sighting.{Sighting}
use Rattle.input_core.specs.Queries.{Query}
use Rattle.part_text.specs.SealedFields.{SealedFields}
use Rattle.job_core.specs.declared.bounds.TheConstants.Limits as limits
use Rattle.job_core.specs.JobFields.{JobFields}
use Rattle.job_core.specs.JobLayout.{EntryText}
use Rattle.job_core.specs.JobText.{JobContents}
use Rattle.ledger_core.specs.LedgerFields.{LedgerFields}
use Rattle.universe_core.specs.Formats.{dated, in_format}
use Rattle.universe_core.specs.Jobs.{Entry, facts_of}
use Rattle.universe_core.specs.Ledgers.{no_ledger}
use Rattle.place_core.specs.Cuts.{Cut, is_kept}
use Rattle.universe_core.specs.Rebases.{ledger_cut, issuers_in, is_lasting, rebased_groups}
use Rattle.universe_core.specs.Step.{refusal as refusal_behind, groups_after}
use Rattle.ident_core.specs.declared.bounds.TheConstants.{MAX_ISSUERS}
use Rattle.ident_core.specs.Among.{Among}
use Rattle.store_core.specs.Chain.{refusal_of}
use Rattle.card_core.specs.declared.verdict.Verdict.TheVariants.{NotEnrolled}
use Rattle.universe_core.specs.History.{seen}
use Rattle.audit_core.specs.Auditing.{left_by_jobs}
use Rattle.publication_core.specs.Formats.{current}
use Rattle.publication_core.specs.Histories.{Published, IsAdmissible, History, of_jobs, with_job, IsHistory}
use Rattle.publication_core.specs.Histories.{parts_of, releases_of, LeavesOut}
use Rattle.cut_core.specs.Cutting.{cut_job}
use Rattle.cut_core.specs.Courses.{Course, left}
use Rattle.cut_core.specs.InPlaces.{job_at}
use Rattle.publication_core.specs.Building.{HaveBlocks}
use Rattle.publication_core.specs.Publishing.{PublicationFields, Publishes}
use Rattle.publication_core.specs.Rebasing.{BasePublicationFields, PublishesBase}
use Rattle.word_core.specs.declared.command.Command.TheVariants as commands
use Rattle.word_core.specs.declared.command.{Query.Query as StoreQuery, QueryCert.QueryCert, Snapshot.Snapshot}
use Rattle.word_core.specs.declared.command.{Delta.Delta, Rebase.Rebase, Start.Start, Install.Install}
use Rattle.word_core.specs.declared.command.{Rehearse.Rehearse, Audit.Audit, Sample.Sample}
use Rattle.word_core.specs.declared.command.{Gather.Gather, Merge.Merge, Cut.Cut as JobCut, Place.Place}
use Rattle.word_core.specs.Names.{inputs_of, outputs_of}
use Rattle.line_core.specs.Lines.{line, audit_line}
use Rattle.input_core.specs.declared.certificates.Certificate.{Certificate}
use Rattle.input_core.specs.declared.fault.FileFault.{FileFault}
use Rattle.command_core.specs.ReplyFields.{ReplyFields, Done, NamedFault}
use Rattle.command_core.specs.Statuses as status
use Rattle.input_core.specs.Readings.{job_in, ledger_in, part_in, store_in}
use Rattle.input_core.specs.Certificates.{certificate_in, issuer_in}
use Rattle.outside_core.specs.Reads.{CouldNotRead}
use Rattle.command_core.specs.Commands.{verdict_word, only, query_done, query_cert_done, check_done, show_done, stored}
use Rattle.command_core.specs.Commands.{publication_done}
use Rattle.command_core.specs.Commands.{rehearsed, sample_done, place_done}
use Rattle.command_core.specs.declared.lengthening.Source.TheVariants as sources
use Rattle.command_core.specs.Longer.{head_in, page_entries, piece_entries, longer_done}
use Rattle.command_core.specs.Cuts.{cut_done}
use Rattle.command_core.specs.Rebasings.{cut_without, base_done}
use Rattle.command_core.specs.Replies.{usage, read_fault, refusal, done, IsReply}
use Rattle.command_core.specs.Runs.{KeepsAllBut}
use Rattle.clubcard_top.specs.Calls.{Call, Found, FilesAreTold, Reads, Writes, ChangesNoFile, Prints, NoFault}
use Rattle.clubcard_top.specs.Endings.{Succeeds, Did, GivesTheReply, WantedMemory, SinkFailed, Torn, Ends}
use Rattle.clubcard_top.specs.Endings.{GivesDone, MustSucceed, MustGive}
use Rattle.command_core.specs.Audits.{AreWithinLimits, IsAudited}
use Rattle.clubcard_top.specs.Successes.{ReadsPart, ReadsEntries, ReadsJobs, SaysTheTruth}
use Rattle.clubcard_top.specs.Headline.{AsksToContinue, AsksToStore, AsksTruth, AsksCertTruth, AsksToRehearse}
use Rattle.clubcard_top.specs.Headline.{AsksToRebase, IsRebasableCut, AsksTheBase, AsksOfLeftOut, Brings}
use Rattle.clubcard_top.specs.Headline.{AsksTruthBy, AsksCertBy, told_line}
use Rattle.clubcard_top.specs.Headline.{base_of, done_by, truth_line, cert_truth_line}
use Rattle.clubcard_top.specs.Headline.{Continues, BeginsAnew, Stored, IsRehearsed}
use Rattle.clubcard_top.specs.Places.{HoldOctets, AsksToCut, LeavesJob, Merges, IsCutOf, SaysTheWholeTruth}
use Rattle.clubcard_top.specs.Refusals.{Comes, Refused}

-- Each command that succeeds: what the files held that it read, and what it gave of that, which is printed and held by
-- the files that it wrote. And when one must succeed: `complete` is the rule for all of them, and what ends with that
-- name says when a success comes of a command in other words than those of `Makes`.
pub record Successes (call : Call) : Type 0 where
  -- what the parts of STORE say of the certificate
  pub query : (q : StoreQuery) → Did call (commands.Query q)
      → (parts : List SealedFields) × Reads call q.store store_in parts × GivesDone call (query_done q parts)
  -- what the parts of STORE say of the certificate of CERT, with the sightings of its timestamps, under the key of
  -- ISSUERCERT; and where all three are read, the call must succeed
  pub query_cert : (q : QueryCert) → Did call (commands.QueryCert q)
      → (parts : List SealedFields) × (cert : Certificate) × (issuer : List ℕ)
      × Reads call q.store store_in parts × Reads call q.cert certificate_in cert
      × Reads call q.issuer_cert issuer_in issuer × GivesDone call (query_cert_done parts cert issuer)
  pub query_cert_complete : (q : QueryCert) (parts : List SealedFields) (cert : Certificate) (issuer : List ℕ)
      → call.asked ≡ commands.QueryCert q → Reads call q.store store_in parts → Reads call q.cert certificate_in cert
      → Reads call q.issuer_cert issuer_in issuer → MustSucceed call
  -- PART is one part: its head in short, and how many bytes it has
  pub check : (part : List ℕ) → Did call (commands.Check part)
      → (s : SealedFields) × (size : ℕ) × Reads call part part_in (s, size) × GivesDone call (check_done (s, size))
  -- all that PART holds
  pub show : (part : List ℕ) → Did call (commands.Show part)
      → (s : SealedFields) × (size : ℕ) × Reads call part part_in (s, size) × GivesDone call (show_done (s, size))
  -- the job of JOB, published as the first of a chain; and where nothing refuses it and each enrolled issuer has a block,
  -- the call must succeed
  pub snapshot : (s : Snapshot) → Did call (commands.Snapshot s)
      → (job : JobFields) × (made : PublicationFields) × Reads call s.job job_in job
      × Publishes no_ledger job (Ok made) × GivesDone call (publication_done s.part s.ledger made)
  pub snapshot_complete : (s : Snapshot) (job : JobFields) → call.asked ≡ commands.Snapshot s
      → Reads call s.job job_in job → refusal_behind limits.PUBLISHED no_ledger job ≡ None
      → HaveBlocks current (groups_after no_ledger (facts_of job)) → MustSucceed call
  -- the job of JOB, published behind the ledger of LEDGER; and where nothing refuses it there and each enrolled issuer
  -- has a block, the call must succeed
  pub delta : (d : Delta) → Did call (commands.Delta d)
      → (before : LedgerFields) × (job : JobFields) × (made : PublicationFields)
      × Reads call d.ledger ledger_in before × Reads call d.job job_in job
      × Publishes before job (Ok made) × GivesDone call (publication_done d.part d.new_ledger made)
  pub delta_complete : (d : Delta) (before : LedgerFields) (job : JobFields) → call.asked ≡ commands.Delta d
      → Reads call d.ledger ledger_in before → Reads call d.job job_in job
      → refusal_behind limits.PUBLISHED before job ≡ None → HaveBlocks current (groups_after before (facts_of job))
      → MustSucceed call
  -- `rebase`, `rebase-without` and `split`: the ledger of LEDGER, without what has expired at MOMENT and without the
  -- issuers of ISSUER .., or with what PLACE of COUNT keeps, begins a chain anew; and where its parts have few enough
  -- issuers that stay and each of these has a block, the call must succeed
  pub rebase : (r : Rebase) → Did call (commands.Rebase r)
      → (before : LedgerFields) × (made : BasePublicationFields) × Reads call r.ledger ledger_in before
      × PublishesBase before r.moment (cut_without r.left) (Ok made) × GivesDone call (base_done r made)
  pub rebase_complete : (r : Rebase) (before : LedgerFields) → call.asked ≡ commands.Rebase r
      → Reads call r.ledger ledger_in before
      → length (issuers_in (ledger_cut (cut_without r.left) before).parts) ≤ MAX_ISSUERS
      → HaveBlocks dated (rebased_groups (is_lasting r.moment) (ledger_cut (cut_without r.left) before))
      → MustSucceed call
  -- the part of PART, which is a snapshot, begins a store
  pub start : (t : Start) → Did call (commands.Start t)
      → (s : SealedFields) × ReadsPart call t.part s × (s.part.head.kind ≡ kinds.Snapshot)
      × GivesDone call (stored t.store (s ∷ []))
  -- the part of PART, which has nothing against it, is added to the parts of STORE
  pub install : (i : Install) → Did call (commands.Install i) → (parts : List SealedFields) × (s : SealedFields)
      × Reads call i.store store_in parts × ReadsPart call i.part s
      × (refusal_of parts s ≡ None) × GivesDone call (stored i.new_store (parts ++ s ∷ []))
  -- the jobs are a history, and their reports and the verdicts of its parts are printed
  pub rehearse : (r : Rehearse) → Did call (commands.Rehearse r)
      → (queries : List Query) × (jobs : List Published) × Found call (AsksToRehearse call.asked queries jobs)
      × IsRehearsed queries jobs × GivesDone call (rehearsed queries jobs)
  -- the job that is made from NUMBER with COUNT entries
  pub sample : (s : Sample) → Did call (commands.Sample s) → GivesDone call (sample_done s)
  -- the raw job of HEAD with the entries of the pages, of the log LOG, behind its own; and where HEAD and the pages are
  -- read, and these are no more entries than a job may have, the call must succeed
  pub gather : (g : Gather) → Did call (commands.Gather g)
      → (head : JobContents) × (entries : List EntryText)
      × Reads call g.head head_in head × ReadsEntries call (page_entries g.log) g.pages entries
      × GivesDone call (longer_done (sources.Pages g.log) g.job g.pages head entries)
  pub gather_complete : (g : Gather) (head : JobContents) (entries : List EntryText)
      → call.asked ≡ commands.Gather g → Reads call g.head head_in head
      → ReadsEntries call (page_entries g.log) g.pages entries
      → length head.entries + length entries ≤ limits.PUBLISHED.entries → MustSucceed call
  -- the raw job of HEAD with the entries of the pieces behind its own, each of which has its epoch and no CRL; and where
  -- HEAD and the pieces are read so, and these are no more entries than a job may have, the call must succeed
  pub merge : (m : Merge) → Did call (commands.Merge m)
      → (head : JobContents) × (entries : List EntryText)
      × Reads call m.head head_in head × ReadsEntries call (piece_entries head.epoch) m.pieces entries
      × GivesDone call (longer_done sources.Pieces m.job m.pieces head entries)
  pub merge_complete : (m : Merge) (head : JobContents) (entries : List EntryText)
      → call.asked ≡ commands.Merge m → Reads call m.head head_in head
      → ReadsEntries call (piece_entries head.epoch) m.pieces entries
      → length head.entries + length entries ≤ limits.PUBLISHED.entries → MustSucceed call
  -- the pieces of the raw job of JOB at as many places as there are names; and where JOB is read, the call must succeed
  pub cut : (c : JobCut) → Did call (commands.Cut c)
      → (job : JobContents) × Reads call c.job head_in job × GivesDone call (cut_done c.by c.pieces job)
  pub cut_complete : (c : JobCut) (job : JobContents)
      → call.asked ≡ commands.Cut c → Reads call c.job head_in job → MustSucceed call
  -- the jobs are admitted in order, and of each entry that they accept the parts of STORE say the truth: so they do of
  -- each certificate of the jobs' history, whoever built them; and where the files are read, the jobs together are
  -- within the limits of one, their CRLs are accepted, and all that is so, the call must succeed
  pub audit : (a : Audit) → Did call (commands.Audit a) → (parts : List SealedFields) × (jobs : List JobFields)
      × Reads call a.store store_in parts × ReadsJobs call a.jobs jobs × IsAudited parts jobs × SaysTheTruth parts jobs
      × GivesDone call (only (audit_line (length jobs) (length (seen (left_by_jobs jobs)))))
  pub audit_complete : (a : Audit) (parts : List SealedFields) (jobs : List JobFields)
      → call.asked ≡ commands.Audit a → Reads call a.store store_in parts → ReadsJobs call a.jobs jobs
      → AreWithinLimits jobs → IsAudited parts jobs → MustSucceed call
  -- the place of the certificate, by its issuer or by itself, among COUNT
  pub place : (p : Place) → Did call (commands.Place p) → GivesDone call (place_done p)
  -- every command: where what comes of it over the files that the call found is a success, that must be given. So a call
  -- must succeed where each input is held and read, and what they make isn't refused.
  pub complete : (d : Done) → Comes call (Ok d) → MustGive call (done d)

-- What a call does for a history of admitted jobs, in pairs: what its success is, and when it must succeed. What the
-- success of `rehearse` is stands above; that of `kept` must come by `answered`, since a base keeps sightings.
pub record Histories (call : Call) : Type 0 where
  -- `snapshot` and `delta`
  pub published : (h : History) (job : JobFields) → IsHistory h
      → Found call (AsksToContinue call.asked h job) → Succeeds call
      → (made : PublicationFields) × Continues h job made × GivesDone call (done_by call.asked made)
  pub admitted : (h : History) (job : JobFields) → IsHistory h
      → Found call (AsksToContinue call.asked h job)
      → IsAdmissible (releases_of h) (in_format current job) → MustSucceed call
  -- `rebase`, `rebase-without` and `split`
  pub rebased : (r : Rebase) (h : History) → IsHistory h
      → Found call (AsksToRebase call.asked r h) → Succeeds call
      → (made : BasePublicationFields) × BeginsAnew h r.moment (cut_without r.left) made
      × GivesDone call (base_done r made)
  pub rebasable : (r : Rebase) (h : History) → IsHistory h
      → Found call (AsksToRebase call.asked r h) → IsRebasableCut r.moment (cut_without r.left) h
      → MustSucceed call
  -- `start` and `install`
  pub stored : (h : History) (parts : List SealedFields) (s : SealedFields) → IsHistory h
      → parts_of h ≡ parts ++ s ∷ [] → Found call (AsksToStore call.asked parts s) → Succeeds call
      → (d : Done) × Stored call.asked parts s d × GivesDone call d
  pub taken : (h : History) (parts : List SealedFields) (s : SealedFields) → IsHistory h
      → parts_of h ≡ parts ++ s ∷ [] → Found call (AsksToStore call.asked parts s) → MustSucceed call
  -- `query`
  pub truth : (q : StoreQuery) (h : History) → IsHistory h
      → Found call (AsksTruth call.asked q h) → Succeeds call → Prints call (truth_line h q)
  pub answered : (q : StoreQuery) (h : History) → IsHistory h
      → Found call (AsksTruth call.asked q h) → MustSucceed call
  -- `query` of the store that the base of a history begins: of what has not expired and is of no issuer that is left
  -- out, it says what the history tells
  pub kept : (q : StoreQuery) (h : History) (moment : ℕ) (cut : Cut)
      (s : SealedFields) → IsHistory (base_of h moment cut s)
      → Found call (AsksTheBase call.asked q h moment cut s) → Succeeds call
      → Prints call (truth_line h q)
  -- of an issuer that is left out, and that no job enrolls since, the store says that it isn't enrolled wherever it
  -- covers
  pub left_out : (q : StoreQuery) (h : History) → IsHistory h
      → Found call (AsksOfLeftOut call.asked q h) → Succeeds call
      → Prints call (line (verdict_word NotEnrolled))
  -- and it can come back: the first job that enrolls it accepts each of its entries that the job covers, also those that
  -- were accepted before the base, so that `truth` holds of them from then on
  pub comes_back : (h : History) (job : JobFields) (made : PublicationFields) (e : Entry)
      → IsHistory h → LeavesOut h e.id.issuer → Brings job e → Continues h job made
      → Among (seen (releases_of (with_job h (in_format current job) made.sealed))) e
  -- `query-cert`
  pub cert_truth : (q : QueryCert) (x : Identity) (ss : List Sighting)
      (h : History) → IsHistory h
      → Found call (AsksCertTruth call.asked q x ss h) → Succeeds call → Prints call (cert_truth_line h x)
  pub cert_answered : (q : QueryCert) (x : Identity) (ss : List Sighting)
      (h : History) → IsHistory h
      → Found call (AsksCertTruth call.asked q x ss h) → MustSucceed call
  -- `rehearse`
  pub followed : (queries : List Query) (jobs : List Published) → IsHistory (of_jobs jobs)
      → Found call (AsksToRehearse call.asked queries jobs) → MustSucceed call

-- What a call does where a history is cut into places. The whole is a course: jobs, or a base and jobs, however many
-- identities they accept, and whether or not they have parts. Any cut is meant, so that of a place (`at_place`), which
-- keeps the certificates whose place it is, and that of a place of it (`both`).
pub record Places (call : Call) : Type 0 where
  -- `cut`: the piece of each place is read as the job, cut to the place
  pub cut : (c : JobCut) (job : JobFields) → Found call (AsksToCut call.asked c job) → Succeeds call
      → (p : ℕ) (name : List ℕ) → slice_get c.pieces p ≡ Some name
      → LeavesJob call name (job_at c.by (length c.pieces) p job)
  -- `merge`: JOB is the head with the pieces behind it, so that it is cut as they are
  pub merged : (m : Merge) → Did call (commands.Merge m) → Found call (HoldOctets call.asked)
      → (head : JobContents) × (pieces : List JobContents) × (job : JobContents) × Merges call m head pieces job
  -- `query`, over the store of a cut history: of a kept certificate, asked with accepted sightings of the whole, the
  -- line is the truth of the whole
  pub truth : (cut : Cut) (whole : Course) (q : StoreQuery) (h : History)
      → IsCutOf cut whole h → is_kept cut q.id ≡ true
      → Found call (AsksTruthBy (left whole) call.asked q h) → Succeeds call
      → Prints call (told_line (left whole) q.id)
  pub answered : (cut : Cut) (whole : Course) (q : StoreQuery) (h : History)
      → IsCutOf cut whole h → is_kept cut q.id ≡ true
      → Found call (AsksTruthBy (left whole) call.asked q h) → MustSucceed call
  -- `query-cert`
  pub cert_truth : (cut : Cut) (whole : Course) (q : QueryCert) (x : Identity) (ss : List Sighting)
      (h : History) → IsCutOf cut whole h → is_kept cut x ≡ true
      → Found call (AsksCertBy (left whole) call.asked q x ss h) → Succeeds call
      → Prints call (told_line (left whole) x)
  pub cert_answered : (cut : Cut) (whole : Course) (q : QueryCert) (x : Identity) (ss : List Sighting)
      (h : History) → IsCutOf cut whole h → is_kept cut x ≡ true
      → Found call (AsksCertBy (left whole) call.asked q x ss h) → MustSucceed call
  -- `audit` by cut jobs: STORE, whoever built it, says the truth of the whole jobs of each kept certificate
  pub audited : (a : Audit) → Did call (commands.Audit a)
      → (parts : List SealedFields) × (jobs : List JobFields)
      × Reads call a.store store_in parts × ReadsJobs call a.jobs jobs
      × ((cut : Cut) (whole : List JobFields) → jobs ≡ map (cut_job cut) whole
      → SaysTheWholeTruth cut parts whole)

-- What a refusal says of the files, where they are told; and that what is wrong with them must be said.
pub record Refusals (call : Call) : Type 0 where
  -- With which file something is wrong, and what: it has this status (`refusal` says which status each fault has, and
  -- no two kinds have the same but those of a chain), and it is what comes of the command over the files.
  pub wrong : IsTrue (status.is_one_of status.of_refusals call.status) → FilesAreTold call
      → (name : List ℕ) × (fault : FileFault) × Refused call name fault
  -- what is wrong with a file, also that it can't be read, must be said
  pub refused : (e : NamedFault) → Comes call (Err e) → MustGive call (refusal e.name e.fault)
  -- words that are no command
  pub bad_words : call.status ≡ status.usage → (call.asked ≡ commands.Usage) × Prints call usage.text
  pub no_command : call.asked ≡ commands.Usage → MustGive call usage

-- What a fault of the outside leaves: an input that wasn't read; an answer or an output that is cut short; or nothing.
pub record Outside (call : Call) : Type 0 where
  pub read_fault : call.status ≡ status.read_fault → (name : List ℕ) × Among (inputs_of call.asked) name
      × CouldNotRead call.files_before call.failed name × Prints call (read_fault name).text
  -- where no file is said to be unread, no read failed
  pub no_read_fault : call.status ≢ status.read_fault → call.status ≢ status.write_fault
      → call.status ≢ status.no_memory → call.failed None
  pub write_fault : call.status ≡ status.write_fault → (reply : ReplyFields)
      × IsReply call.asked call.files_before call.failed reply
      × ((Writes call reply.outputs × SinkFailed call reply.text) ⊎ ((name : List ℕ) × Torn call reply name))
  pub no_memory : call.status ≡ status.no_memory → WantedMemory call
  -- `check` takes no memory, so that it never wants any
  pub check : (part : List ℕ) → call.asked ≡ commands.Check part → call.status ≢ status.no_memory

-- What never changes, and which counts never fall.
pub record Frame (call : Call) : Type 0 where
  pub unchanged : call.status ≢ status.done → call.status ≢ status.write_fault → ChangesNoFile call
  pub other_files : KeepsAllBut (outputs_of call.asked) call.files_before call.files_after
  pub reading : outputs_of call.asked ≡ []
      → ChangesNoFile call × (call.write_faults.after ≡ call.write_faults.before)
  pub later_reads : call.read_faults.before ≤ call.read_faults.after
  pub later_writes : call.write_faults.before ≤ call.write_faults.after
  pub later_sink : call.sink_faults.before ≤ call.sink_faults.after

-- How each call ends, whatever is told. The promises above follow from `ends` and the laws of this crate, but for those
-- of `Frame` on the counts.
pub record Ending (call : Call) : Type 0 where
  pub ends : Ends call
  pub statuses : IsTrue (status.is_one_of status.all call.status)
  -- over files that are told: the command's one reply, unless a fault or want of memory is answered
  pub answer : FilesAreTold call → call.status ≢ status.read_fault → call.status ≢ status.write_fault
      → call.status ≢ status.no_memory → GivesTheReply call
  pub complete : FilesAreTold call → NoFault call → call.status ≢ status.no_memory → GivesTheReply call
