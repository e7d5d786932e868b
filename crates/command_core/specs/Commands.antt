-- What each command makes of its inputs.
use Rattle.std.specs.Prelude.{◌≡◌, ℕ, List, [], ◌∷◌, ◌++◌, ◌⊎◌, map, flat_map, length, take, slice_get, All}
use Rattle.std.specs.Prelude.{Option, Some, None, Result, Ok, Err}
use Rattle.ident_core.specs.declared.identity.Identity.{Identity}
use Rattle.ident_core.specs.declared.kind.Kind.{Kind}
use Rattle.ident_core.specs.declared.kind.Kind.TheVariants as kinds
use Rattle.part_text.specs.SealedFields.{SealedFields}
use Rattle.input_core.specs.Queries.{Query}
use Rattle.sample_core.specs.Sample.{sample_text, sample_revoked}
use Rattle.job_core.specs.declared.bounds.TheConstants.Limits as limits
use Rattle.job_core.specs.JobFields.{JobFields}
use Rattle.job_core.specs.Fitting.{FitsFields, IsWithinLimits}
use Rattle.ledger_core.specs.LedgerFields.{LedgerFields}
use Rattle.universe_core.specs.Jobs.{facts_of}
use Rattle.universe_core.specs.History.{past_of}
use Rattle.universe_core.specs.Counting.{counts}
use Rattle.universe_core.specs.Ledgers.{no_ledger, ledger_of}
use Rattle.store_core.specs.declared.chain.Refusal.{Refusal}
use Rattle.store_core.specs.Chain.{newest_of, refusal_of}
use Rattle.store_core.specs.Newest.{epoch_of}
use Rattle.store_core.specs.StoreLayout.{store_text}
use Rattle.card_core.specs.Verdict.{verdict}
use Rattle.publication_core.specs.declared.fault.PublishFault.{PublishFault}
use Rattle.publication_core.specs.Publishing.{PublicationFields, Publishes}
use Rattle.publication_core.specs.Formats.{current}
use Rattle.publication_core.specs.Histories.{Published, History, of_jobs, members, with_jobs, IsHistory, releases_of}
use Rattle.place_core.specs.Places.{place_in}
use Rattle.word_core.specs.declared.command.Command.{Command}
use Rattle.word_core.specs.declared.command.Command.TheVariants as commands
use Rattle.word_core.specs.declared.command.{Query.Query as StoreQuery, QueryCert.QueryCert, Snapshot.Snapshot}
use Rattle.word_core.specs.declared.command.{Delta.Delta, Start.Start, Install.Install, Rehearse.Rehearse}
use Rattle.word_core.specs.declared.command.{Sample.Sample, Gather.Gather, Merge.Merge, Place.Place}
use Rattle.line_core.specs.Lines.{line, check_line, show_text, store_line, report_line, sample_line, place_line}
pub use Rattle.line_core.specs.Lines.{verdict_word}
use Rattle.input_core.specs.declared.certificates.Certificate.{Certificate}
use Rattle.input_core.specs.declared.fault.FileFault.{FileFault}
use Rattle.input_core.specs.declared.fault.FileFault.TheVariants as faults
use Rattle.command_core.specs.Faults.{of_publishing}
use Rattle.command_core.specs.ReplyFields.{Done, NamedFault}
use Rattle.input_core.specs.Inputs.{Inputs, rest_of}
use Rattle.input_core.specs.Readings.{queries_in, job_in, ledger_in, part_in, store_in}
use Rattle.input_core.specs.Certificates.{certificate_in, issuer_in}
use Rattle.command_core.specs.declared.lengthening.Source.TheVariants as sources
use Rattle.command_core.specs.Longer.{longer_makes}
use Rattle.command_core.specs.Cuts.{cut_makes}
pub use Rattle.command_core.specs.Outcomes.{◌>>=◌, named, input, only, both_files}
use Rattle.command_core.specs.Audits.{audit_jobs, MakesAudit}
use Rattle.command_core.specs.Rebasings.{MakesRebase}

-- ---- asking

-- the verdict of the store's parts
abbrev pub query_done : StoreQuery → List SealedFields → Done
query_done q parts = only (line (verdict_word (verdict (map (λ s. s.part) parts) q.id q.sightings)))

abbrev pub query_makes : StoreQuery → Option (List ℕ) → Result Done NamedFault
query_makes q store = do
  parts ← input q.store store_in store
  Ok (query_done q parts)

-- the certificate of this issuer key's hash
abbrev pub issued_by : List ℕ → Certificate → Identity
issued_by issuer cert = record { issuer = issuer; serial = cert.serial }

-- the verdict of the store's parts on it
abbrev pub query_cert_done : List SealedFields → Certificate → List ℕ → Done
query_cert_done parts cert issuer =
    only (line (verdict_word (verdict (map (λ s. s.part) parts) (issued_by issuer cert) cert.scts)))

abbrev pub query_cert_makes : QueryCert → (store cert issuer_cert : Option (List ℕ)) → Result Done NamedFault
query_cert_makes q store cert issuer_cert = do
  parts ← input q.store store_in store
  c ← input q.cert certificate_in cert
  issuer ← input q.issuer_cert issuer_in issuer_cert
  Ok (query_cert_done parts c issuer)

-- the part's head in short, and how many bytes it has
abbrev pub check_done : SealedFields × ℕ → Done
check_done x = only (check_line x.0 x.1)

abbrev pub check_makes : List ℕ → Option (List ℕ) → Result Done NamedFault
check_makes name part = do
  x ← input name part_in part
  Ok (check_done x)

-- all that the part holds
abbrev pub show_done : SealedFields × ℕ → Done
show_done x = only (show_text x.0)

abbrev pub show_makes : List ℕ → Option (List ℕ) → Result Done NamedFault
show_makes name part = do
  x ← input name part_in part
  Ok (show_done x)

-- ---- stores

-- the store of these parts, and how many they are with the newest one's epoch
abbrev pub stored : List ℕ → List SealedFields → Done
stored name parts = record {
  text = store_line (length parts) (epoch_of (newest_of parts));
  outputs = record { name = name; bytes = store_text parts } ∷ [];
}

-- a snapshot begins a store
abbrev pub begun_by : SealedFields → Kind → Result (List SealedFields) FileFault
begun_by s kinds.Snapshot = Ok (s ∷ [])
begun_by s kinds.Delta = Err faults.NotSnapshot

abbrev pub begun : SealedFields → Result (List SealedFields) FileFault
begun s = begun_by s s.part.head.kind

abbrev pub start_makes : Start → Option (List ℕ) → Result Done NamedFault
start_makes t part = do
  x ← input t.part part_in part
  parts ← named t.part (begun x.0)
  Ok (stored t.store parts)

-- a part that has no reason against it is added
abbrev pub installed_by : Option Refusal → List SealedFields → SealedFields → Result (List SealedFields) FileFault
installed_by None parts s = Ok (parts ++ s ∷ [])
installed_by (Some why) parts s = Err (faults.Chain why)

abbrev pub installed : List SealedFields → SealedFields → Result (List SealedFields) FileFault
installed parts s = installed_by (refusal_of parts s) parts s

abbrev pub install_makes : Install → Option (List ℕ) → Option (List ℕ) → Result Done NamedFault
install_makes i store part = do
  parts ← input i.store store_in store
  x ← input i.part part_in part
  more ← named i.part (installed parts x.0)
  Ok (stored i.new_store more)

-- ---- publishing

-- the part and the next ledger, and the report
abbrev pub publication_done : List ℕ → List ℕ → PublicationFields → Done
publication_done part ledger p =
    both_files part ledger p.sealed p.ledger (report_line p.sealed.part.head.epoch p.place p.counts)

abbrev pub published_as : List ℕ → List ℕ → List ℕ → Result PublicationFields PublishFault → Result Done NamedFault
published_as job part ledger (Ok p) = Ok (publication_done part ledger p)
published_as job part ledger (Err fault) = Err (record { name = job; fault = of_publishing fault })

-- what is published of a job behind a ledger
pub record MakesPart
    (job part ledger : List ℕ) (before : LedgerFields) (j : JobFields) (o : Result Done NamedFault)
    : Type 0 where
  pub fits : FitsFields j
  pub limits : IsWithinLimits limits.PUBLISHED j
  pub result : Result PublicationFields PublishFault
  pub publishes : Publishes before j result
  pub is : o ≡ published_as job part ledger result

abbrev pub MakesSnapshot : Snapshot → Result JobFields NamedFault → Result Done NamedFault → Type 0
MakesSnapshot s (Ok j) o = MakesPart s.job s.part s.ledger no_ledger j o
MakesSnapshot s (Err e) o = o ≡ Err e

abbrev pub MakesDelta : Delta → Result JobFields NamedFault → Result LedgerFields NamedFault
    → Result Done NamedFault → Type 0
MakesDelta d (Ok j) (Ok l) o = MakesPart d.job d.part d.new_ledger l j o
MakesDelta d (Ok j) (Err e) o = o ≡ Err e
MakesDelta d (Err e) l o = o ≡ Err e

-- ---- rehearsing

-- the report of a job behind a history
abbrev pub report_behind : History → JobFields → List ℕ
report_behind h job = report_line job.epoch (members h) (counts (past_of (releases_of h)) (facts_of job))

-- the reports of the jobs, behind a history
abbrev pub reports : History → List Published → List ℕ
reports h [] = []
reports h (p ∷ ps) = report_behind h p.job.job ++ reports (with_jobs h (p ∷ [])) ps

-- what the parts say of the certificate of a query
abbrev pub verdict_line : List SealedFields → Query → List ℕ
verdict_line parts q = line (verdict_word (verdict (map (λ s. s.part) parts) q.identity q.sightings))

-- the report of each job of a history, and then the verdict of its parts on each query; no file is written
abbrev pub rehearsed : List Query → List Published → Done
rehearsed queries ps = only (reports (of_jobs []) ps ++ flat_map (verdict_line (map (λ p. p.sealed) ps)) queries)

-- what is wrong with the file of a job that doesn't follow a history: it isn't read as a job, or the job isn't
-- published
abbrev pub IsFileRefused : History → List ℕ → Option (List ℕ) → NamedFault → Type 0
IsFileRefused h name given e =
    (input name job_in given ≡ Err e)
    ⊎ ((job : JobFields) × (fault : PublishFault) × (input name job_in given ≡ Ok job)
    × Publishes (ledger_of (releases_of h)) job (Err fault)
    × (e ≡ record { name = name; fault = of_publishing fault }))

-- the inputs of these names were read as these jobs
abbrev pub AreJobs : List (List ℕ) → Inputs → List JobFields → Type 0
AreJobs [] inputs [] = Unit {0}
AreJobs (name ∷ names) inputs (job ∷ jobs) =
    (input name job_in (inputs 0) ≡ Ok job) × AreJobs names (rest_of inputs) jobs
-- as many jobs as names: others aren't
AreJobs names inputs jobs = ⊥

-- the input of this name was read as this job, in the current format
abbrev pub IsReadMember : List ℕ → Option (List ℕ) → Published → Type 0
IsReadMember name given p = (input name job_in given ≡ Ok p.job.job) × (p.job.format ≡ current)

-- the inputs of these names were read as these jobs
abbrev pub AreReadMembers : List (List ℕ) → Inputs → List Published → Type 0
AreReadMembers [] inputs [] = Unit {0}
AreReadMembers (name ∷ names) inputs (p ∷ ps) = IsReadMember name (inputs 0) p × AreReadMembers names (rest_of inputs) ps
-- as many jobs as names: others aren't
AreReadMembers names inputs ps = ⊥

-- What comes of files that are rehearsed. The first n of them hold the jobs of a history. Either these are all, and the
-- parts of the history are asked the queries; or the next file doesn't follow it, and that is what is wrong.
pub record Rehearses
    (queries : List Query) (names : List (List ℕ)) (inputs : Inputs) (o : Result Done NamedFault)
    : Type 0 where
  pub n : ℕ
  pub jobs : List Published
  pub hold : AreReadMembers (take n names) inputs jobs
  -- keys, serials and times fit their fields
  pub fit : All (λ p. FitsFields p.job.job) jobs
  pub is_history : IsHistory (of_jobs jobs)
  pub then : ((n ≡ length names) × (o ≡ Ok (rehearsed queries jobs)))
      ⊎ ((name : List ℕ) × (e : NamedFault) × (slice_get names n ≡ Some name)
      × IsFileRefused (of_jobs jobs) name (inputs n) e × (o ≡ Err e))

abbrev pub MakesRehearsal : Rehearse → Result (List Query) NamedFault → Inputs → Result Done NamedFault → Type 0
MakesRehearsal r (Ok queries) inputs o = Rehearses queries r.jobs inputs o
MakesRehearsal r (Err e) inputs o = o ≡ Err e

-- ---- making jobs

-- the job of the number, and how many entries, revoked certificates and bytes it has
abbrev pub sample_done : Sample → Done
sample_done s = record {
  text = sample_line s.number s.count (sample_revoked s.count) (length (sample_text s.number s.count));
  outputs = record { name = s.job; bytes = sample_text s.number s.count } ∷ [];
}

-- the job with the pages' entries, of the log, behind its own
abbrev pub gather_makes : Gather → Option (List ℕ) → Inputs → Result Done NamedFault
gather_makes g head inputs = longer_makes (sources.Pages g.log) g.head g.job g.pages head inputs

-- the job with the pieces' entries behind its own
abbrev pub merge_makes : Merge → Option (List ℕ) → Inputs → Result Done NamedFault
merge_makes m head inputs = longer_makes sources.Pieces m.head m.job m.pieces head inputs

-- ---- places

-- the place of the identity, and among how many
abbrev pub place_done : Place → Done
place_done p = only (place_line (place_in p.by p.count p.id) p.count)

-- ---- commands

-- What comes of a command: what it writes, or what is wrong with which file. `Usage` makes nothing.
abbrev pub Makes : Command → Inputs → Result Done NamedFault → Type 0
Makes commands.Usage at o = ⊥
Makes (commands.Query q) at o = o ≡ query_makes q (at 0)
Makes (commands.QueryCert q) at o = o ≡ query_cert_makes q (at 0) (at 1) (at 2)
Makes (commands.Check name) at o = o ≡ check_makes name (at 0)
Makes (commands.Show name) at o = o ≡ show_makes name (at 0)
Makes (commands.Snapshot s) at o = MakesSnapshot s (input s.job job_in (at 0)) o
Makes (commands.Delta d) at o = MakesDelta d (input d.job job_in (at 0)) (input d.ledger ledger_in (at 1)) o
Makes (commands.Rebase r) at o = MakesRebase r (input r.ledger ledger_in (at 0)) o
Makes (commands.Start t) at o = o ≡ start_makes t (at 0)
Makes (commands.Install i) at o = o ≡ install_makes i (at 0) (at 1)
Makes (commands.Rehearse r) at o = MakesRehearsal r (input r.queries queries_in (at 0)) (rest_of at) o
Makes (commands.Sample s) at o = o ≡ Ok (sample_done s)
Makes (commands.Gather g) at o = o ≡ gather_makes g (at 0) (rest_of at)
Makes (commands.Merge m) at o = o ≡ merge_makes m (at 0) (rest_of at)
Makes (commands.Cut c) at o = o ≡ cut_makes c (at 0)
Makes (commands.Audit a) at o = MakesAudit a (input a.store store_in (at 0)) (audit_jobs a.jobs (rest_of at)) o
Makes (commands.Place p) at o = o ≡ Ok (place_done p)
