-- What a call asks for, and what comes of it, where its files are those of a history of admitted jobs.
use Rattle.std.specs.Prelude.{◌≡◌, ◌⊎◌, true, ℕ, ◌≤◌, List, [], ◌∷◌, ◌++◌, length, Some, Ok, IsTrue, All}
use Rattle.std.specs.List.{AllZip}
use Rattle.std.specs.FinMap.{get}
use Rattle.sha2.specs.Sha256.{sha256}
use Rattle.ident_core.specs.declared.identity.Identity.{Identity}
use Rattle.ident_core.specs.declared.range.Sighting.{Sighting}
use Rattle.ident_core.specs.Coverage.{covers}
use Rattle.outside_core.specs.Files.{Files}
use Rattle.input_core.specs.Queries.{Query}
use Rattle.input_core.specs.QueryReading.{queries_in}
use Rattle.part_text.specs.SealedFields.{SealedFields}
use Rattle.log_core.specs.CertificateGrammar.{IsCertificate, HasKey}
use Rattle.sct_core.specs.declared.bounds.TheConstants.{MAX_CERTIFICATE}
use Rattle.sct_core.specs.Grammar.{HasSightings}
use Rattle.job_core.specs.declared.bounds.TheConstants.Limits as limits
use Rattle.job_core.specs.JobFields.{JobFields}
use Rattle.job_core.specs.Fitting.{FitsFields}
use Rattle.job_core.specs.JobMeaning.{job_of}
use Rattle.ident_core.specs.Among.{Among}
use Rattle.universe_core.specs.Formats.{in_format}
use Rattle.universe_core.specs.Jobs.{Entry, is_enrolled, facts_of}
use Rattle.ident_core.specs.Sets.{has}
use Rattle.universe_core.specs.History.{Release, past_of, seen, sightings}
use Rattle.universe_core.specs.Counting.{counts}
use Rattle.universe_core.specs.Ledgers.{ledger_of}
use Rattle.place_core.specs.Cuts.{Cut, is_kept}
use Rattle.history_core.specs.Bases.{kept_by, releases_cut, is_lasting_by, newest_epoch}
use Rattle.publication_core.specs.Formats.{current}
use Rattle.publication_core.specs.Histories.{Published, IsAdmissible, IsRebasable, History, of_jobs, rebased, members}
use Rattle.publication_core.specs.Histories.{with_job, IsHistory, parts_of, releases_of, LeavesOut}
use Rattle.publication_core.specs.Histories.{part_bytes, store_bytes, ledger_bytes, old_ledger_bytes, IsUndated}
use Rattle.publication_core.specs.Publishing.{PublicationFields}
use Rattle.publication_core.specs.Rebasing.{BasePublicationFields, base_counts}
use Rattle.publication_core.specs.Truth.{truth}
use Rattle.word_core.specs.declared.command.Command.{Command}
use Rattle.word_core.specs.declared.command.Command.TheVariants as commands
use Rattle.word_core.specs.declared.command.{Query.Query as StoreQuery, QueryCert.QueryCert, Rebase.Rebase}
use Rattle.line_core.specs.Lines.{line, store_line}
use Rattle.command_core.specs.ReplyFields.{OutputFields, Done}
use Rattle.command_core.specs.Commands.{verdict_word, only, publication_done, verdict_line}

-- ---- continuing a history

-- the file of this name holds the bytes of this job
abbrev pub HoldsJob : Files → List ℕ → JobFields → Type 0
HoldsJob files name job = (bytes : List ℕ) × (get files name ≡ Some bytes) × (job_of limits.PUBLISHED bytes ≡ Ok job)

-- the file of this name holds the ledger of the history, in version 2, or in version 1 where no job reads dates
abbrev pub HoldsLedger : Files → List ℕ → History → Type 0
HoldsLedger files name h =
    (get files name ≡ Some (ledger_bytes h)) ⊎ ((get files name ≡ Some (old_ledger_bytes h)) × IsUndated h)

-- The command continues a history with a job: `snapshot` that of no jobs, and `delta` that whose ledger LEDGER holds.
abbrev pub AsksToContinue : Command → History → JobFields → Files → Type 0
AsksToContinue (commands.Snapshot s) h job files = (h ≡ of_jobs []) × HoldsJob files s.job job
AsksToContinue (commands.Delta d) h job files =
    (1 ≤ members h) × HoldsLedger files d.ledger h × HoldsJob files d.job job
-- no other command continues a history
AsksToContinue command h job files = ⊥

-- the files that the command names for this part and ledger, and its report, and nothing else
abbrev pub done_by : Command → PublicationFields → Done
done_by (commands.Snapshot s) made = publication_done s.part s.ledger made
done_by (commands.Delta d) made = publication_done d.part d.new_ledger made
-- no other command gives them: it is asked where `AsksToContinue` holds
done_by command made = only []

-- This continues the history with the job: the job may follow the history, the two are a history, of which this is the
-- newest part and the ledger, and the report is of the job's epoch, place and counts in it.
pub record Continues (h : History) (job : JobFields) (made : PublicationFields) : Type 0 where
  -- keys, serials and times fit their fields, those of its CRLs too
  pub fits : FitsFields job
  pub admissible : IsAdmissible (releases_of h) (in_format current job)
  pub is_history : IsHistory (with_job h (in_format current job) made.sealed)
  pub ledger : made.ledger ≡ ledger_of (releases_of (with_job h (in_format current job) made.sealed))
  pub epoch : made.sealed.part.head.epoch ≡ job.epoch
  pub place : made.place ≡ members h
  pub counts : made.counts ≡ counts (past_of (releases_of h)) (facts_of job)

-- ---- beginning a chain anew

-- the command rebases this history, whose ledger LEDGER holds
abbrev pub AsksToRebase : Command → Rebase → History → Files → Type 0
AsksToRebase asked r h files = (asked ≡ commands.Rebase r) × (1 ≤ members h) × HoldsLedger files r.ledger h

-- the history that the base of what a cut keeps of it at the moment begins, by this part, with no job behind it yet
abbrev pub base_of : History → ℕ → Cut → SealedFields → History
base_of h moment cut s = rebased h moment cut s []

-- a base may stand at the moment for what a cut keeps of the history
abbrev pub IsRebasableCut : ℕ → Cut → History → Type 0
IsRebasableCut moment cut h = IsRebasable moment (releases_cut cut (releases_of h))

-- This begins a chain anew: a base may stand at the moment for what a cut keeps of the history, this is its part and its
-- ledger, and the report is of the epoch of the history's newest member and of the counts of the base.
pub record BeginsAnew
    (h : History) (moment : ℕ) (cut : Cut) (made : BasePublicationFields)
    : Type 0 where
  pub rebasable : IsRebasableCut moment cut h
  pub is_history : IsHistory (base_of h moment cut made.sealed)
  pub ledger : made.ledger ≡ ledger_of (releases_of (base_of h moment cut made.sealed))
  pub epoch : made.sealed.part.head.epoch ≡ newest_epoch 0 (releases_of h)
  pub counts : made.counts ≡ base_counts moment cut (releases_of h)

-- ---- stores

-- The command adds a part to the parts of a store: `start` to none, and `install` to those whose store's bytes STORE
-- holds.
abbrev pub AsksToStore : Command → List SealedFields → SealedFields → Files → Type 0
AsksToStore (commands.Start t) parts s files = (parts ≡ []) × (get files t.part ≡ Some (part_bytes s))
AsksToStore (commands.Install i) parts s files =
    (1 ≤ length parts) × (get files i.store ≡ Some (store_bytes parts)) × (get files i.part ≡ Some (part_bytes s))
-- no other command adds a part to a store
AsksToStore command parts s files = ⊥

-- the output: a store
abbrev pub stores_to : Command → List ℕ → List OutputFields
stores_to (commands.Start t) store = record { name = t.store; bytes = store } ∷ []
stores_to (commands.Install i) store = record { name = i.new_store; bytes = store } ∷ []
-- no other command writes one: it is asked where `AsksToStore` holds
stores_to command store = []

-- This is made of the parts with this one behind them: how many they are and its epoch, the bytes of their store, and
-- nothing else.
pub record Stored (asked : Command) (parts : List SealedFields) (s : SealedFields) (d : Done) : Type 0 where
  pub text : d.text ≡ store_line (length (parts ++ s ∷ [])) s.part.head.epoch
  pub outputs : d.outputs ≡ stores_to asked (store_bytes (parts ++ s ∷ []))

-- ---- asking

-- the command asks the store of a history about a certificate
abbrev pub AsksStore : Command → StoreQuery → History → Files → Type 0
AsksStore asked q h files =
    (asked ≡ commands.Query q) × (1 ≤ members h) × (get files q.store ≡ Some (store_bytes (parts_of h)))

-- The same, with sightings alone of its entries that these releases accepted.
abbrev pub AsksTruthBy : List Release → Command → StoreQuery → History → Files → Type 0
AsksTruthBy rs asked q h files =
    (asked ≡ commands.Query q) × (1 ≤ members h) × (get files q.store ≡ Some (store_bytes (parts_of h)))
    × (1 ≤ length q.sightings) × ((s : Sighting) → Among q.sightings s → Among (sightings q.id (seen rs)) s)

-- the same by the history itself
abbrev pub AsksTruth : Command → StoreQuery → History → Files → Type 0
AsksTruth asked q h files = AsksTruthBy (releases_of h) asked q h files

-- the line of what these releases tell of the certificate, which is the truth
abbrev pub told_line : List Release → Identity → List ℕ
told_line rs x = line (verdict_word (truth rs x))

abbrev pub truth_line : History → StoreQuery → List ℕ
truth_line h q = told_line (releases_of h) q.id

-- that line alone
abbrev pub truth_done : History → StoreQuery → Done
truth_done h q = only (truth_line h q)

-- ---- asking the store that a base begins

-- the identity is accepted and has not expired at the moment
abbrev pub IsKept : ℕ → List Release → Identity → Type 0
IsKept moment rs x = has (kept_by (is_lasting_by moment rs) rs) x ≡ true

-- The command asks the store of this part alone, that of the base of what a cut keeps of a history, about a certificate
-- that it keeps, with sightings of the history's accepted entries alone.
abbrev pub AsksTheBase : Command → StoreQuery → History → ℕ → Cut → SealedFields → Files → Type 0
AsksTheBase asked q h moment cut s files =
    (asked ≡ commands.Query q) × IsKept moment (releases_of h) q.id × (is_kept cut q.id ≡ true)
    × (get files q.store ≡ Some (store_bytes (s ∷ []))) × (1 ≤ length q.sightings)
    × ((t : Sighting) → Among q.sightings t → Among (sightings q.id (seen (releases_of h))) t)

-- ---- issuers that a base leaves out

-- The command asks the store of a history about a certificate whose issuer its base leaves out and no job enrolls since,
-- with a sighting that some part covers.
abbrev pub AsksOfLeftOut : Command → StoreQuery → History → Files → Type 0
AsksOfLeftOut asked q h files =
    (asked ≡ commands.Query q) × (1 ≤ members h) × (get files q.store ≡ Some (store_bytes (parts_of h)))
    × LeavesOut h q.id.issuer × ((s : Sighting) × (t : SealedFields) × Among q.sightings s × Among (parts_of h) t
    × (covers t.part.head.ranges s ≡ true))

-- The job has the entry, covers its sighting, and enrolls its issuer.
pub record Brings (job : JobFields) (e : Entry) : Type 0 where
  pub entry : Among job.entries (Some e)
  pub covered : covers job.ranges e.sighting ≡ true
  pub enrolled : is_enrolled (facts_of job) e.id.issuer ≡ true

-- ---- asking with a certificate

-- the file of this name holds a certificate of this serial, whose timestamps of version 1 say these sightings
abbrev pub HoldsCert : Files → List ℕ → List ℕ → List Sighting → Type 0
HoldsCert files name serial ss =
    (bytes : List ℕ) × (get files name ≡ Some bytes) × IsCertificate serial bytes × HasSightings ss bytes

-- the file of this name holds a certificate of at most MAX_CERTIFICATE bytes, whose key has this hash
abbrev pub HoldsKey : Files → List ℕ → List ℕ → Type 0
HoldsKey files name hash =
    (bytes : List ℕ) × (key : List ℕ) × (get files name ≡ Some bytes) × (length bytes ≤ MAX_CERTIFICATE)
    × HasKey key bytes × (hash ≡ sha256 key)

-- The command asks the store of a history about a certificate with these sightings, by its file and by its issuer's.
-- One of the sightings is of its entries that these releases accepted, and so is each that some part covers.
pub record AsksCertBy
    (rs : List Release) (asked : Command) (q : QueryCert) (x : Identity) (ss : List Sighting)
    (h : History) (files : Files)
    : Type 0 where
  pub is : asked ≡ commands.QueryCert q
  pub some : 1 ≤ members h
  pub store : get files q.store ≡ Some (store_bytes (parts_of h))
  pub cert : HoldsCert files q.cert x.serial ss
  pub issuer : HoldsKey files q.issuer_cert x.issuer
  pub one : (s : Sighting) × Among ss s × Among (sightings x (seen rs)) s
  pub covered : (s : Sighting) (t : SealedFields) → Among ss s → Among (parts_of h) t
      → IsTrue (covers t.part.head.ranges s) → Among (sightings x (seen rs)) s

-- the same by the history itself
abbrev pub AsksCertTruth : Command → QueryCert → Identity → List Sighting → History → Files → Type 0
AsksCertTruth asked q x ss h files = AsksCertBy (releases_of h) asked q x ss h files

abbrev pub cert_truth_line : History → Identity → List ℕ
cert_truth_line h x = told_line (releases_of h) x

-- ---- rehearsing

-- the file of this name holds these queries
abbrev pub HoldsQueries : Files → List ℕ → List Query → Type 0
HoldsQueries files name queries = (bytes : List ℕ) × (get files name ≡ Some bytes) × (queries_in bytes ≡ Ok queries)

-- the file of this name holds the bytes of this job, in the current format
abbrev pub HoldsMember : Files → List ℕ → Published → Type 0
HoldsMember files name p = HoldsJob files name p.job.job × (p.job.format ≡ current)

-- The command rehearses these jobs, which its files hold in their order, and asks these queries.
abbrev pub AsksToRehearse : Command → List Query → List Published → Files → Type 0
AsksToRehearse (commands.Rehearse r) queries jobs files =
    HoldsQueries files r.queries queries × AllZip (HoldsMember files) r.jobs jobs
-- no other command rehearses
AsksToRehearse command queries jobs files = ⊥

-- the query asks with one or more sightings, all of them of its certificate's accepted entries
abbrev pub AsksAccepted : List Release → Query → Type 0
AsksAccepted rs q =
    (1 ≤ length q.sightings) × ((s : Sighting) → Among q.sightings s → Among (sightings q.identity (seen rs)) s)

-- The jobs are a history with their parts, and where a query asks with accepted sightings alone, its line is the truth
-- of the history.
pub record IsRehearsed (queries : List Query) (jobs : List Published) : Type 0 where
  -- keys, serials and times fit their fields, those of their CRLs too
  pub fit : All (λ p. FitsFields p.job.job) jobs
  pub is_history : IsHistory (of_jobs jobs)
  pub truths : (q : Query) → Among queries q → AsksAccepted (releases_of (of_jobs jobs)) q
      → verdict_line (parts_of (of_jobs jobs)) q ≡ line (verdict_word (truth (releases_of (of_jobs jobs)) q.identity))
