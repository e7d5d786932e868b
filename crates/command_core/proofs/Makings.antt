-- What comes of a command: its outputs, its statuses, and which inputs it rests on.
use Rattle.std.proofs.Common.{◌≡◌, ℕ, Bool, true, false, ◌||◌, ◌⊎◌, inl, inr, List, [], ◌∷◌, ◌++◌, Option, Some, None, Result, Ok, Err, refl, sym, ap, ◌∙◌, subst}
use Rattle.std.specs.Prelude.{IsTrue, IfErr, Bool, true, false, length, map, nat_lt, nat_le, ◌+◌, ◌==◌, if◌then◌else◌}
use Rattle.octets_core.specs.Layout.{Layout, then_read, with_fault, mapped, whole}
use Rattle.octets_core.specs.Reading.{end, value_of, GivesUnless}
use Rattle.octets_core.specs.declared.fault.LayoutFault.{LayoutFault}
use Rattle.outside_core.specs.Files.{Files, IsMissing}
use Rattle.ident_core.specs.Among.{Among}
use Rattle.part_text.specs.SealedFields.{SealedFields}
use Rattle.part_text.specs.PartLayout.{part}
use Rattle.part_text.specs.declared.fault.PartFault.{PartFault}
use Rattle.part_text.specs.declared.fault.PartFault.TheVariants as of_part_faults
use Rattle.input_core.specs.Queries.{Query}
use Rattle.input_core.specs.QueryReading.{queries_in as queries_of}
use Rattle.input_core.specs.declared.fault.QueriesFault.{QueriesFault}
use Rattle.input_core.specs.declared.fault.QueriesFault.TheVariants as of_query_faults
use Rattle.ledger_core.specs.LedgerReading.{ledger_of_bytes}
use Rattle.ledger_core.specs.LedgerFields.{LedgerFields}
use Rattle.ledger_core.specs.declared.fault.LedgerFault.{LedgerFault}
use Rattle.ledger_core.specs.declared.fault.LedgerFault.TheVariants as of_ledger_faults
use Rattle.job_core.specs.declared.bounds.TheConstants.Limits.{PUBLISHED}
use Rattle.job_core.specs.declared.bounds.What.TheVariants as what
use Rattle.job_core.specs.JobFields.{JobFields}
use Rattle.job_core.specs.JobLayout.{EntryText}
use Rattle.job_core.specs.JobMeaning.{job_of}
use Rattle.job_core.specs.JobText.{JobContents}
use Rattle.gather_core.specs.Pages.{PageFields}
use Rattle.gather_core.specs.Pages.{page_of}
use Rattle.gather_core.specs.declared.fault.PageFault.{PageFault}
use Rattle.gather_core.specs.declared.fault.PageFault.TheVariants as of_page_faults
use Rattle.gather_core.specs.declared.page.TheConstants.{MAX_PAGE}
use Rattle.gather_core.specs.Raw.{raw_job, piece_limits, of_log}
use Rattle.gather_core.proofs.Reread.{no_read}
use Rattle.job_core.specs.declared.fault.JobFault.{JobFault}
use Rattle.job_core.specs.declared.fault.JobFault.TheVariants as of_job_faults
use Rattle.job_core.proofs.JobBounds.{never-of}
use Rattle.ident_core.specs.declared.kind.Kind.{Kind}
use Rattle.ident_core.specs.declared.kind.Kind.TheVariants as kinds
use Rattle.universe_core.specs.declared.fault.AdmitFault.{AdmitFault}
use Rattle.universe_core.specs.declared.fault.AdmitFault.TheVariants as admit
use Rattle.sct_core.specs.declared.fault.CertFault.{CertFault}
use Rattle.store_core.specs.declared.chain.Refusal.{Refusal}
use Rattle.store_core.specs.declared.fault.StoreFault.{StoreFault}
use Rattle.store_core.specs.declared.fault.StoreFault.TheVariants as of_store_faults
use Rattle.store_core.specs.Chain.{refusal_of}
use Rattle.store_core.specs.StoreLayout.{store}
use Rattle.publication_core.specs.declared.fault.PublishFault.{PublishFault}
use Rattle.publication_core.specs.declared.fault.PublishFault.TheVariants as publish
use Rattle.publication_core.specs.declared.base_fault.BaseFault.{BaseFault}
use Rattle.publication_core.specs.declared.base_fault.BaseFault.TheVariants as bases
use Rattle.publication_core.specs.Publishing.{PublicationFields}
use Rattle.publication_core.specs.Rebasing.{BasePublicationFields}
use Rattle.publication_core.specs.Histories.{Published, History, of_jobs}
use Rattle.place_core.specs.declared.place.By.{By}
use Rattle.word_core.specs.declared.command.Command.{Command}
use Rattle.word_core.specs.declared.command.Command.TheVariants as commands
use Rattle.word_core.specs.declared.command.{Snapshot.Snapshot, Delta.Delta, Rebase.Rebase}
use Rattle.word_core.specs.declared.command.{Start.Start, Install.Install, Rehearse.Rehearse, Audit.Audit}
use Rattle.word_core.specs.Names.{inputs_of, outputs_of}
use Rattle.input_core.specs.declared.fault.FileFault.{FileFault}
use Rattle.input_core.specs.declared.fault.FileFault.TheVariants as faults
use Rattle.input_core.specs.Faults.{of_queries, of_job, of_ledger, of_part, of_store, of_page}
use Rattle.command_core.specs.Faults.{of_admission, of_publishing, of_rebasing}
use Rattle.input_core.specs.PartFile.{part_file}
use Rattle.input_core.specs.Readings.{faulted, queries_in, job_in, ledger_in, part_in, store_in}
use Rattle.input_core.specs.Certificates.{certificate_of, issuer_of, certificate_in, issuer_in}
use Rattle.command_core.specs.ReplyFields.{Done, NamedFault}
use Rattle.command_core.specs.Statuses.{is_one_of, done, read_fault, no_memory, of_refusals}
use Rattle.command_core.specs.Commands.{◌>>=◌, named, input, begun_by, begun, installed_by, installed, stored, query_done, query_cert_done, check_done, show_done}
use Rattle.command_core.specs.Commands.{query_makes, check_makes, show_makes, start_makes}
use Rattle.command_core.specs.Commands.{publication_done, published_as, MakesSnapshot, MakesDelta, rehearsed, IsFileRefused, MakesRehearsal}
use Rattle.command_core.specs.Commands.{sample_done, place_done, Makes}
use Rattle.command_core.specs.declared.lengthening.Source.{Source}
use Rattle.command_core.specs.declared.lengthening.Source.TheVariants as sources
use Rattle.command_core.specs.Longer.{head_in, page_in, piece_in, entries_of_log, entries_of_epoch, entries_by, room_for, entries_of, longer_done, longer_makes}
use Rattle.command_core.specs.Cuts.{pieces_from, cut_done, cut_makes}
use Rattle.command_core.specs.Audits.{job_behind, jobs_behind, audit_jobs, MakesAudit}
use Rattle.command_core.specs.Rebasings.{base_done, rebased_as, MakesRebase}
use Rattle.command_core.specs.Steps.{RehearsesOn}
use Rattle.command_core.specs.Replies.{refusal, reply_of, held_under, held_by}
use Rattle.input_core.specs.Inputs.{Inputs, rest_of, IsRead, AreRead}
use Rattle.command_core.proofs.Outputs.{names_of}
use Rattle.command_core.proofs.Following.{start_after, install_then, install_after, longer_after, cut_after, entries_last, entries_then, cert_last, cert_then, cert_after}
use Rattle.command_core.proofs.Overs.{IsSeen, unread, one_over, delta_over, install_over, query_cert_over, longer_over, jobs_over, rehearsal_over, audit_over}
use Rattle.command_core.proofs.Results.{ok_same, err_same, not_ok, not_err, after_ok}
use Rattle.command_core.proofs.AuditFaults.{audit_names, store_or_jobs, job_behind_read, jobs_stop}
use Rattle.command_core.proofs.Prefixes.{from_first}

-- ---- replies of refusals

pub refusal_quiet : (name : List ℕ) (fault : FileFault) → (refusal name fault).outputs ≡ []
refusal_quiet name fault = refl

pub or_right : (a b : Bool) → b ≡ true → (a || b) ≡ true
or_right true b h = refl
or_right false b h = h

-- the statuses of what is wrong with a file, and those of a command that isn't `Usage`
abbrev pub of_faults : List ℕ
of_faults = no_memory ∷ read_fault ∷ of_refusals

abbrev pub of_commands : List ℕ
of_commands = done ∷ of_faults

pub fault_status : (name : List ℕ) (fault : FileFault) → IsTrue (is_one_of of_faults (refusal name fault).status)
fault_status name faults.Unread = refl
fault_status name (faults.Layout f) = refl
fault_status name faults.NotSnapshot = refl
fault_status name (faults.Chain why) = refl
fault_status name (faults.BadCrl place fault) = refl
fault_status name (faults.TooMany thing limit) = refl
fault_status name (faults.Seeds issuer stage) = refl
fault_status name (faults.BadCert fault) = refl
fault_status name (faults.OtherEpoch held given) = refl
fault_status name (faults.BadPage fault) = refl
fault_status name (faults.Disagrees job entry held truth) = refl
fault_status name faults.NoMemory = refl

pub outcome_status : (o : Result Done NamedFault) → IsTrue (is_one_of of_commands (reply_of o).status)
outcome_status (Ok d) = refl
outcome_status (Err e) = or_right _ _ (fault_status e.name e.fault)

-- ---- steps

-- a fault is one of the first step, or of what follows it
pub after_err : {A B : Type 0} (r : Result A NamedFault) (next : A → Result B NamedFault) (e : NamedFault) → Err e ≡ (r >>= next) → (r ≡ Err e) ⊎ ((x : A) × (r ≡ Ok x) × (Err e ≡ next x))
after_err (Ok x) next e h = inr (x, refl, h)
after_err {A} {B} (Err f) next e h = inl (ap (λ (g : NamedFault). Err g) (sym (err_same {A = B} e f h)))

-- ---- outputs

-- what is done by a command whose outputs are told
module _ {A : Type 0} (names : List (List ℕ)) (f : A → Done) (are : (x : A) → names_of (f x).outputs ≡ names) where
  pub names_after : (r : Result A NamedFault) (d : Done) → Ok d ≡ (r >>= (λ x. Ok (f x))) → names_of d.outputs ≡ names
  names_after r d h =
      let x = after_ok r (λ y. Ok (f y)) d h in
      ap (λ (e : Done). names_of e.outputs) (ok_same {E = NamedFault} d (f x.0) x.2) ∙ are x.0

published_names : (of part_name ledger_name : List ℕ) (r : Result PublicationFields PublishFault) (d : Done) → Ok d ≡ published_as of part_name ledger_name r
    → names_of d.outputs ≡ part_name ∷ ledger_name ∷ []
published_names of part_name ledger_name (Ok p) d h = ap (λ (e : Done). names_of e.outputs) (ok_same {E = NamedFault} d (publication_done part_name ledger_name p) h)
published_names of part_name ledger_name (Err fault) d h = absurd (let g : ◌≡◌ {A = Result Done NamedFault} (Ok d) (Err (record { name = of; fault = of_publishing fault })) = h in cc)

snapshot_names : (s : Snapshot) (r : Result JobFields NamedFault) (d : Done) → MakesSnapshot s r (Ok d) → names_of d.outputs ≡ outputs_of (commands.Snapshot s)
snapshot_names s (Ok j) d m = published_names s.job s.part s.ledger m.result d m.is
snapshot_names s (Err e) d m = absurd (not_err d e m)

delta_names : (t : Delta) (r : Result JobFields NamedFault) (l : Result LedgerFields NamedFault) (d : Done) → MakesDelta t r l (Ok d) → names_of d.outputs ≡ outputs_of (commands.Delta t)
delta_names t (Ok j) (Ok l) d m = published_names t.job t.part t.new_ledger m.result d m.is
delta_names t (Ok j) (Err e) d m = absurd (not_err d e m)
delta_names t (Err e) l d m = absurd (not_err d e m)

based_names : (b : Rebase) (r : Result BasePublicationFields BaseFault) (d : Done) → Ok d ≡ rebased_as b r → names_of d.outputs ≡ outputs_of (commands.Rebase b)
based_names b (Ok p) d h = ap (λ (e : Done). names_of e.outputs) (ok_same {E = NamedFault} d (base_done b p) h)
based_names b (Err fault) d h = absurd (not_err d (record { name = b.ledger; fault = of_rebasing fault }) h)

rebase_names : (b : Rebase) (l : Result LedgerFields NamedFault) (d : Done) → MakesRebase b l (Ok d) → names_of d.outputs ≡ outputs_of (commands.Rebase b)
rebase_names b (Ok l) d m = based_names b m.result d m.is
rebase_names b (Err e) d m = absurd (not_err d e m)

-- a rehearsal writes no file
rehearses_names : (queries : List Query) (ps : List Published) (names : List (List ℕ)) (inputs : Inputs)
    (d : Done) → RehearsesOn queries ps names inputs (Ok d)
    → names_of d.outputs ≡ []
rehearses_names queries ps [] inputs d m = ap (λ (e : Done). names_of e.outputs) (ok_same {E = NamedFault} d (rehearsed queries ps) m)
rehearses_names queries ps (name ∷ names) inputs d (inl (e, refused, is)) = absurd (not_err d e is)
rehearses_names queries ps (name ∷ names) inputs d (inr (p, is_job, fits, is, rest)) = rehearses_names queries (ps ++ p ∷ []) names (rest_of inputs) d rest

rehearsal_names : (r : Rehearse) (queries : Result (List Query) NamedFault) (inputs : Inputs) (d : Done) → MakesRehearsal r queries inputs (Ok d) → names_of d.outputs ≡ []
rehearsal_names r (Ok queries) inputs d m = rehearses_names queries [] r.jobs inputs d (from_first queries r.jobs inputs (Ok d) m)
rehearsal_names r (Err e) inputs d m = absurd (not_err d e m)

longer_names : (source : Source) (head job : List ℕ) (names : List (List ℕ)) (given : Option (List ℕ)) (inputs : Inputs) (d : Done)
    → Ok d ≡ longer_makes source head job names given inputs → names_of d.outputs ≡ job ∷ []
longer_names source head job names given inputs d m =
    let x = after_ok (input head head_in given) (longer_after source job names inputs) d m in
    names_after (job ∷ []) (longer_done source job names x.0) (λ y. refl) (entries_of source x.0.epoch job (length x.0.entries) names inputs) d x.2

pieces_names : (by : By) (n p : ℕ) (names : List (List ℕ)) (j : JobContents) → names_of (pieces_from by n p names j) ≡ names
pieces_names by n p [] j = refl
pieces_names by n p (name ∷ names) j = ap (λ (l : List (List ℕ)). name ∷ l) (pieces_names by n (p + 1) names j)

-- The outputs of a command that is done are those that it names.
pub done_names : (c : Command) (inputs : Inputs) (d : Done) → Makes c inputs (Ok d) → names_of d.outputs ≡ outputs_of c
done_names commands.Usage at d m = absurd m
done_names (commands.Query q) at d m = names_after [] (query_done q) (λ x. refl) (input q.store store_in (at 0)) d m
done_names (commands.QueryCert q) at d m =
    let x = after_ok (input q.store store_in (at 0)) (cert_after q (at 1) (at 2)) d m in
    let y = after_ok (input q.cert certificate_in (at 1)) (cert_then q (at 2) x.0) d x.2 in
    names_after [] (query_cert_done x.0 y.0) (λ z. refl) (input q.issuer_cert issuer_in (at 2)) d y.2
done_names (commands.Check name) at d m = names_after [] check_done (λ x. refl) (input name part_in (at 0)) d m
done_names (commands.Show name) at d m = names_after [] show_done (λ x. refl) (input name part_in (at 0)) d m
done_names (commands.Snapshot s) at d m = snapshot_names s (input s.job job_in (at 0)) d m
done_names (commands.Delta t) at d m = delta_names t (input t.job job_in (at 0)) (input t.ledger ledger_in (at 1)) d m
done_names (commands.Rebase b) at d m = rebase_names b (input b.ledger ledger_in (at 0)) d m
done_names (commands.Start t) at d m =
    let x = after_ok (input t.part part_in (at 0)) (start_after t) d m in
    names_after (t.store ∷ []) (stored t.store) (λ y. refl) (named t.part (begun x.0.0)) d x.2
done_names (commands.Install i) at d m =
    let x = after_ok (input i.store store_in (at 0)) (install_after i (at 1)) d m in
    let y = after_ok (input i.part part_in (at 1)) (install_then i x.0) d x.2 in
    names_after (i.new_store ∷ []) (stored i.new_store) (λ z. refl) (named i.part (installed x.0 y.0.0)) d y.2
done_names (commands.Rehearse r) at d m = rehearsal_names r (input r.queries queries_in (at 0)) (rest_of at) d m
done_names (commands.Sample s) at d m = ap (λ (e : Done). names_of e.outputs) (ok_same {E = NamedFault} d (sample_done s) m)
done_names (commands.Gather f) at d m = longer_names (sources.Pages f.log) f.head f.job f.pages (at 0) (rest_of at) d m
done_names (commands.Merge f) at d m = longer_names sources.Pieces f.head f.job f.pieces (at 0) (rest_of at) d m
done_names (commands.Cut c) at d m =
    names_after c.pieces (cut_done c.by c.pieces) (λ j. pieces_names c.by (length c.pieces) 0 c.pieces j) (input c.job head_in (at 0)) d m
done_names (commands.Audit a) at d m = audit_names a (input a.store store_in (at 0)) (audit_jobs a.jobs (rest_of at)) d m
done_names (commands.Place p) at d m = ap (λ (e : Done). names_of e.outputs) (ok_same {E = NamedFault} d (place_done p) m)

-- ---- inputs that can't be read

abbrev layout_then : {E A B : Type 0} → Layout E A → (A → Layout E B) → Layout E B
layout_then first next bytes at = then_read (first bytes at) next bytes

-- a fault of what was read isn't that it can't be
abbrev IsRead_fault : FileFault → Type 0
IsRead_fault fault = fault ≡ faults.Unread → ⊥

query_fault_read : (f : QueriesFault) → IsRead_fault (of_queries f)
query_fault_read (of_query_faults.Layout f) = λ h. cc
query_fault_read of_query_faults.NoMemory = λ h. cc

job_fault_read : (f : JobFault) → (f ≡ of_job_faults.ReadFault → ⊥) → IsRead_fault (of_job f)
job_fault_read (of_job_faults.Layout f) read = λ h. cc
job_fault_read (of_job_faults.TooMany what limit) read = λ h. cc
job_fault_read of_job_faults.ReadFault read = λ h. read refl
job_fault_read of_job_faults.NoMemory read = λ h. cc

ledger_fault_read : (f : LedgerFault) → IsRead_fault (of_ledger f)
ledger_fault_read (of_ledger_faults.Layout f) = λ h. cc
ledger_fault_read of_ledger_faults.NoMemory = λ h. cc

part_fault_read : (f : PartFault) → IsRead_fault (of_part f)
part_fault_read (of_part_faults.Layout f) = λ h. cc
part_fault_read of_part_faults.NoMemory = λ h. cc

store_fault_read : (f : StoreFault) → IsRead_fault (of_store f)
store_fault_read (of_store_faults.Layout f) = λ h. cc
store_fault_read of_store_faults.NotSnapshot = λ h. cc
store_fault_read (of_store_faults.Refused why) = λ h. cc
store_fault_read of_store_faults.NoMemory = λ h. cc

admission_fault_read : (f : AdmitFault) → IsRead_fault (of_admission f)
admission_fault_read (admit.BadCrl place fault) = λ h. cc
admission_fault_read (admit.OldEpoch held given) = λ h. cc
admission_fault_read (admit.CoverageShrinks log) = λ h. cc
admission_fault_read admit.ChainFull = λ h. cc
admission_fault_read (admit.TooMany what limit) = λ h. cc
admission_fault_read admit.NoMemory = λ h. cc

publish_fault_read : (f : PublishFault) → IsRead_fault (of_publishing f)
publish_fault_read (publish.Admission fault) = admission_fault_read fault
publish_fault_read (publish.SeedsExhausted issuer stage) = λ h. cc
publish_fault_read publish.NoMemory = λ h. cc

base_fault_read : (f : BaseFault) → IsRead_fault (of_rebasing f)
base_fault_read (bases.TooMany what limit) = λ h. cc
base_fault_read (bases.SeedsExhausted issuer stage) = λ h. cc
base_fault_read bases.NoMemory = λ h. cc

faulted_read : {A E : Type 0} (fault : E → FileFault) (r : Result A E) → ((e : E) → IsRead_fault (fault e)) → faulted fault r ≡ Err faults.Unread → ⊥
faulted_read {A} fault (Ok x) read h = not_err x faults.Unread h
faulted_read {A} fault (Err e) read h = read e (err_same {A = A} (fault e) faults.Unread h)

job_faulted_read : (r : Result JobFields JobFault) → IfErr r (λ e. e ≡ of_job_faults.ReadFault → ⊥) → faulted of_job r ≡ Err faults.Unread → ⊥
job_faulted_read (Ok x) read h = not_err x faults.Unread h
job_faulted_read (Err e) read h = job_fault_read e read (err_same {A = JobFields} (of_job e) faults.Unread h)

-- what is given is what it is given as
given : (r : Result JobFields JobFault) → GivesUnless of_job_faults.NoMemory (λ job. job) r r
given (Ok x) = refl
given (Err e) = λ wants. refl

end_read : (s : SealedFields) (bytes : List ℕ) (r : Result (Unit {0} × ℕ) LayoutFault) → then_read (with_fault faults.Layout r) (λ nothing. whole s) bytes ≡ Err faults.Unread → ⊥
end_read s bytes (Ok x) h = not_err (s, x.1) faults.Unread h
end_read s bytes (Err f) h = let g : faults.Layout f ≡ faults.Unread = err_same {A = SealedFields × ℕ} (faults.Layout f) faults.Unread h in cc

alone_read : (bytes : List ℕ) (r : Result (SealedFields × ℕ) PartFault)
    → then_read (with_fault of_part r) (λ s. layout_then (mapped faults.Layout end) (λ nothing. whole s)) bytes ≡ Err faults.Unread → ⊥
alone_read bytes (Ok x) h = end_read x.0 bytes (end bytes x.1) h
alone_read bytes (Err f) h = part_fault_read f (err_same {A = SealedFields × ℕ} (of_part f) faults.Unread h)

queries_read : (bytes : List ℕ) → queries_in bytes ≡ Err faults.Unread → ⊥
queries_read bytes h = faulted_read of_queries (queries_of bytes) query_fault_read h

job_read : (bytes : List ℕ) → job_in bytes ≡ Err faults.Unread → ⊥
job_read bytes h =
    job_faulted_read (job_of PUBLISHED bytes) (never-of (λ job. job) PUBLISHED bytes (job_of PUBLISHED bytes) (given (job_of PUBLISHED bytes))) h

ledger_read : (bytes : List ℕ) → ledger_in bytes ≡ Err faults.Unread → ⊥
ledger_read bytes h = faulted_read of_ledger (ledger_of_bytes bytes) ledger_fault_read h

part_read : (bytes : List ℕ) → part_in bytes ≡ Err faults.Unread → ⊥
unfolding part_file
part_read bytes h = alone_read bytes (part bytes 0) h

store_read : (bytes : List ℕ) → store_in bytes ≡ Err faults.Unread → ⊥
store_read bytes h = faulted_read of_store (value_of (store bytes 0)) store_fault_read h

cert_fault_read : (f : CertFault) → IsRead_fault (faults.BadCert f)
cert_fault_read f = λ h. cc

certificate_read : (bytes : List ℕ) → certificate_in bytes ≡ Err faults.Unread → ⊥
certificate_read bytes h = faulted_read faults.BadCert (certificate_of bytes) cert_fault_read h

issuer_read : (bytes : List ℕ) → issuer_in bytes ≡ Err faults.Unread → ⊥
issuer_read bytes h = faulted_read faults.BadCert (issuer_of bytes) cert_fault_read h

head_faulted_read : (r : Result JobContents JobFault) → (r ≡ Err of_job_faults.ReadFault → ⊥) → faulted of_job r ≡ Err faults.Unread → ⊥
head_faulted_read (Ok x) read h = not_err x faults.Unread h
head_faulted_read (Err e) read h = job_fault_read e (λ is. read (ap (λ (f : JobFault). Err f) is)) (err_same {A = JobContents} (of_job e) faults.Unread h)

head_read : (bytes : List ℕ) → head_in bytes ≡ Err faults.Unread → ⊥
head_read bytes h = head_faulted_read (raw_job PUBLISHED bytes) (no_read PUBLISHED bytes) h

piece_read : (bytes : List ℕ) → piece_in bytes ≡ Err faults.Unread → ⊥
piece_read bytes h = head_faulted_read (raw_job piece_limits bytes) (no_read piece_limits bytes) h

page_fault_read : (f : PageFault) → IsRead_fault (of_page f)
page_fault_read of_page_faults.Json = λ h. cc
page_fault_read (of_page_faults.Shape index) = λ h. cc
page_fault_read (of_page_faults.Base64 index) = λ h. cc
page_fault_read (of_page_faults.Size index) = λ h. cc
page_fault_read of_page_faults.NoMemory = λ h. cc

page_read_by : (b : Bool) (r : Result (List PageFields) FileFault) → (r ≡ Err faults.Unread → ⊥)
    → (if b then Err (faults.BadPage (of_page_faults.Size 0)) else r) ≡ Err faults.Unread → ⊥
page_read_by true r read h = let g : faults.BadPage (of_page_faults.Size 0) ≡ faults.Unread = err_same {A = List PageFields} (faults.BadPage (of_page_faults.Size 0)) faults.Unread h in cc
page_read_by false r read h = read h

page_read : (bytes : List ℕ) → page_in bytes ≡ Err faults.Unread → ⊥
page_read bytes h = page_read_by (nat_lt MAX_PAGE (length bytes)) (faulted of_page (page_of bytes)) (faulted_read of_page (page_of bytes) page_fault_read) h

epoch_read_by : (epoch : ℕ) (j : JobContents) (b : Bool) → (if b then Ok j.entries else Err (faults.OtherEpoch epoch j.epoch)) ≡ Err faults.Unread → ⊥
epoch_read_by epoch j true h = not_err j.entries faults.Unread h
epoch_read_by epoch j false h = let g : faults.OtherEpoch epoch j.epoch ≡ faults.Unread = err_same {A = List EntryText} (faults.OtherEpoch epoch j.epoch) faults.Unread h in cc

of_epoch_read : (epoch : ℕ) (r : Result JobContents FileFault) → (r ≡ Err faults.Unread → ⊥) → entries_of_epoch epoch r ≡ Err faults.Unread → ⊥
of_epoch_read epoch (Ok j) read h = epoch_read_by epoch j (epoch == j.epoch) h
of_epoch_read epoch (Err e) read h = read (ap (λ (f : FileFault). Err f) (err_same {A = List EntryText} e faults.Unread h))

of_log_read : (log : List ℕ) (r : Result (List PageFields) FileFault) → (r ≡ Err faults.Unread → ⊥) → entries_of_log log r ≡ Err faults.Unread → ⊥
of_log_read log (Ok page) read h = not_err (map (of_log log) page) faults.Unread h
of_log_read log (Err e) read h = read (ap (λ (f : FileFault). Err f) (err_same {A = List EntryText} e faults.Unread h))

entries_read : (source : Source) (epoch : ℕ) (bytes : List ℕ) → entries_by source epoch bytes ≡ Err faults.Unread → ⊥
entries_read (sources.Pages log) epoch bytes h = of_log_read log (page_in bytes) (page_read bytes) h
entries_read sources.Pieces epoch bytes h = of_epoch_read epoch (piece_in bytes) (piece_read bytes) h

-- ---- which input it is

named_err : {A : Type 0} (name : List ℕ) (r : Result A FileFault) (e : NamedFault) → named name r ≡ Err e → (r ≡ Err e.fault) × (name ≡ e.name)
named_err name (Ok x) e h = absurd (not_err x e h)
named_err {A} name (Err f) e h =
    let g : record { name = name; fault = f } ≡ e = err_same {A = A} (record { name = name; fault = f }) e h in
    (ap (λ (k : NamedFault). Err k.fault) g, ap (λ (k : NamedFault). k.name) g)

input_unread : {A : Type 0} (name : List ℕ) (read : List ℕ → Result A FileFault) (given : Option (List ℕ)) (e : NamedFault) → ((bytes : List ℕ) → read bytes ≡ Err faults.Unread → ⊥)
    → input name read given ≡ Err e → e.fault ≡ faults.Unread → (given ≡ None) × (name ≡ e.name)
input_unread {A} name read None e refute h u = (refl, (named_err {A = A} name (Err faults.Unread) e h).1)
input_unread name read (Some bytes) e refute h u = absurd (refute bytes ((named_err name (read bytes) e h).0 ∙ ap (λ (f : FileFault). Err f) u))

begun_read : (s : SealedFields) (kind : Kind) → begun_by s kind ≡ Err faults.Unread → ⊥
begun_read s kinds.Snapshot h = not_err (s ∷ []) faults.Unread h
begun_read s kinds.Delta h = let g : faults.NotSnapshot ≡ faults.Unread = err_same {A = List SealedFields} faults.NotSnapshot faults.Unread h in cc

installed_read : (why : Option Refusal) (parts : List SealedFields) (s : SealedFields) → installed_by why parts s ≡ Err faults.Unread → ⊥
installed_read None parts s h = not_err (parts ++ s ∷ []) faults.Unread h
installed_read (Some why) parts s h = let g : faults.Chain why ≡ faults.Unread = err_same {A = List SealedFields} (faults.Chain why) faults.Unread h in cc

published_read : (of part_name ledger_name : List ℕ) (r : Result PublicationFields PublishFault) (e : NamedFault) → Err e ≡ published_as of part_name ledger_name r → e.fault ≡ faults.Unread → ⊥
published_read of part_name ledger_name (Ok p) e h u = not_ok (publication_done part_name ledger_name p) e h
published_read of part_name ledger_name (Err fault) e h u =
    publish_fault_read fault (sym (ap (λ (k : NamedFault). k.fault) (err_same {A = Done} e (record { name = of; fault = of_publishing fault }) h)) ∙ u)

snapshot_unread : (s : Snapshot) (r : Result JobFields NamedFault) (e : NamedFault) → MakesSnapshot s r (Err e) → e.fault ≡ faults.Unread → r ≡ Err e
snapshot_unread s (Ok j) e m u = absurd (published_read s.job s.part s.ledger m.result e m.is u)
snapshot_unread s (Err f) e m u = ap (λ (k : NamedFault). Err k) (sym (err_same {A = Done} e f m))

delta_unread : (t : Delta) (r : Result JobFields NamedFault) (l : Result LedgerFields NamedFault) (e : NamedFault) → MakesDelta t r l (Err e) → e.fault ≡ faults.Unread
    → (r ≡ Err e) ⊎ (l ≡ Err e)
delta_unread t (Ok j) (Ok l) e m u = absurd (published_read t.job t.part t.new_ledger m.result e m.is u)
delta_unread t (Ok j) (Err f) e m u = inr (ap (λ (k : NamedFault). Err k) (sym (err_same {A = Done} e f m)))
delta_unread t (Err f) l e m u = inl (ap (λ (k : NamedFault). Err k) (sym (err_same {A = Done} e f m)))

based_read : (b : Rebase) (r : Result BasePublicationFields BaseFault) (e : NamedFault) → Err e ≡ rebased_as b r → e.fault ≡ faults.Unread → ⊥
based_read b (Ok p) e h u = not_ok (base_done b p) e h
based_read b (Err fault) e h u =
    base_fault_read fault (sym (ap (λ (k : NamedFault). k.fault) (err_same {A = Done} e (record { name = b.ledger; fault = of_rebasing fault }) h)) ∙ u)

rebase_unread : (b : Rebase) (l : Result LedgerFields NamedFault) (e : NamedFault) → MakesRebase b l (Err e) → e.fault ≡ faults.Unread → l ≡ Err e
rebase_unread b (Ok l) e m u = absurd (based_read b m.result e m.is u)
rebase_unread b (Err f) e m u = ap (λ (k : NamedFault). Err k) (sym (err_same {A = Done} e f m))

-- a fault of what is made of what was read
made_read : {A : Type 0} (name : List ℕ) (r : Result A FileFault) (f : A → Done) (e : NamedFault) → (r ≡ Err faults.Unread → ⊥)
    → (named name r ≡ Err e) ⊎ ((x : A) × (named name r ≡ Ok x) × (Err e ≡ Ok (f x))) → e.fault ≡ faults.Unread → ⊥
made_read name r f e refute (inl h) u = refute ((named_err name r e h).0 ∙ ap (λ (k : FileFault). Err k) u)
made_read name r f e refute (inr (x, is, h)) u = not_ok (f x) e h

start_unread : (t : Start) (x : SealedFields × ℕ) (e : NamedFault) → Err e ≡ start_after t x → e.fault ≡ faults.Unread → ⊥
start_unread t x e h u =
    made_read t.part (begun x.0) (stored t.store) e (begun_read x.0 x.0.part.head.kind) (after_err (named t.part (begun x.0)) (λ parts. Ok (stored t.store parts)) e h) u

install_unread : (i : Install) (parts : List SealedFields) (x : SealedFields × ℕ) (e : NamedFault) → Err e ≡ install_then i parts x → e.fault ≡ faults.Unread → ⊥
install_unread i parts x e h u =
    made_read i.part (installed parts x.0) (stored i.new_store) e (installed_read (refusal_of parts x.0) parts x.0)
    (after_err (named i.part (installed parts x.0)) (λ more. Ok (stored i.new_store more)) e h) u

last_err : (page : List EntryText) (r : Result (List EntryText) NamedFault) (e : NamedFault) → Err e ≡ (r >>= (λ others. Ok (page ++ others))) → Err e ≡ r
last_err page (Ok others) e h = absurd (not_err (page ++ others) e (sym h))
last_err page (Err f) e h = ap (λ (k : NamedFault). Err k) (err_same {A = List EntryText} e f h)

done_err : {A : Type 0} (f : A → Done) (r : Result A NamedFault) (e : NamedFault) → Err e ≡ (r >>= (λ x. Ok (f x))) → Err e ≡ r
done_err f (Ok x) e h = absurd (not_err (f x) e (sym h))
done_err f (Err k) e h = ap (λ (n : NamedFault). Err n) (err_same {A = Done} e k h)

-- too many entries aren't a file that can't be read
room_read_by : (job : List ℕ) (page : List EntryText) (e : NamedFault) (b : Bool)
    → (if b then Ok page else Err (record { name = job; fault = faults.TooMany what.Entries PUBLISHED.entries })) ≡ Err e → e.fault ≡ faults.Unread → ⊥
room_read_by job page e true h u = not_err page e h
room_read_by job page e false h u =
    let g : faults.TooMany what.Entries PUBLISHED.entries ≡ faults.Unread
    = ap (λ (k : NamedFault). k.fault) (err_same {A = List EntryText} (record { name = job; fault = faults.TooMany what.Entries PUBLISHED.entries }) e h) ∙ u in cc

room_read : (job : List ℕ) (before : ℕ) (page : List EntryText) (e : NamedFault) → room_for job before page ≡ Err e → e.fault ≡ faults.Unread → ⊥
room_read job before page e h u = room_read_by job page e (nat_le (before + length page) PUBLISHED.entries) h u

module _ (told : Option Files) (failed : Option (List ℕ) → Type 0) (e : NamedFault) (u : e.fault ≡ faults.Unread) where
  abbrev Cause : List (List ℕ) → Type 0
  Cause names = Among names e.name × (failed (Some e.name) ⊎ IsMissing told e.name)

  cause_of : (names : List (List ℕ)) (name : List ℕ) (given : Option (List ℕ)) → Among names name → IsRead told failed name given → (given ≡ None) × (name ≡ e.name) → Cause names
  cause_of names name given among read (none, is) =
      subst (λ (n : List ℕ). Among names n × (failed (Some n) ⊎ IsMissing told n)) is (among, subst (λ (g : Option (List ℕ)). IsRead told failed name g) none read)

  -- an input, and what follows it
  step_by : {A B : Type 0} (names : List (List ℕ)) (name : List ℕ) (read : List ℕ → Result A FileFault) (given : Option (List ℕ)) (next : A → Result B NamedFault)
      → ((bytes : List ℕ) → read bytes ≡ Err faults.Unread → ⊥) → Among names name → IsRead told failed name given → ((x : A) → Err e ≡ next x → Cause names)
      → (input name read given ≡ Err e) ⊎ ((x : A) × (input name read given ≡ Ok x) × (Err e ≡ next x)) → Cause names
  step_by names name read given next refute among is_read rest (inl is) = cause_of names name given among is_read (input_unread name read given e refute is u)
  step_by names name read given next refute among is_read rest (inr (x, is, h)) = rest x h

  step_unread : {A B : Type 0} (names : List (List ℕ)) (name : List ℕ) (read : List ℕ → Result A FileFault) (given : Option (List ℕ)) (next : A → Result B NamedFault)
      → ((bytes : List ℕ) → read bytes ≡ Err faults.Unread → ⊥) → Among names name → IsRead told failed name given → ((x : A) → Err e ≡ next x → Cause names)
      → Err e ≡ (input name read given >>= next) → Cause names
  step_unread names name read given next refute among is_read rest h =
      step_by names name read given next refute among is_read rest (after_err (input name read given) next e h)

  delta_by : (t : Delta) (j l : Option (List ℕ)) → IsRead told failed t.job j → IsRead told failed t.ledger l → (input t.job job_in j ≡ Err e) ⊎ (input t.ledger ledger_in l ≡ Err e)
      → Cause (t.job ∷ t.ledger ∷ [])
  delta_by t j l first second (inl h) = cause_of (t.job ∷ t.ledger ∷ []) t.job j (inl refl) first (input_unread t.job job_in j e job_read h u)
  delta_by t j l first second (inr h) = cause_of (t.job ∷ t.ledger ∷ []) t.ledger l (inr (inl refl)) second (input_unread t.ledger ledger_in l e ledger_read h u)

  refused_by : (h : History) (name : List ℕ) (given : Option (List ℕ)) (names : List (List ℕ))
      → IsRead told failed name given → IsFileRefused h name given e → Cause (name ∷ names)
  refused_by h name given names read (inl is) = cause_of (name ∷ names) name given (inl refl) read (input_unread name job_in given e job_read is u)
  refused_by h name given names read (inr (job, fault, is, publishes, same)) = absurd (publish_fault_read fault (sym (ap (λ (k : NamedFault). k.fault) same) ∙ u))

  rehearses_by : (queries : List Query) (ps : List Published) (names : List (List ℕ)) (inputs : Inputs) → AreRead told failed names inputs
      → RehearsesOn queries ps names inputs (Err e) → Cause names
  rehearses_by queries ps [] inputs read m = absurd (not_ok (rehearsed queries ps) e m)
  rehearses_by queries ps (name ∷ names) inputs read (inl (f, refused, is)) =
      refused_by (of_jobs ps) name (inputs 0) names read.0 (subst (IsFileRefused (of_jobs ps) name (inputs 0)) (sym (err_same {A = Done} e f is)) refused)
  rehearses_by queries ps (name ∷ names) inputs read (inr (p, is_job, fits, is, rest)) =
      let c = rehearses_by queries (ps ++ p ∷ []) names (rest_of inputs) read.1 rest in (inr c.0, c.1)

  rehearsal_by : (r : Rehearse) (given : Option (List ℕ)) (inputs : Inputs) (queries : Result (List Query) NamedFault)
      → IsRead told failed r.queries given → AreRead told failed r.jobs inputs
      → input r.queries queries_in given ≡ queries → MakesRehearsal r queries inputs (Err e) → Cause (r.queries ∷ r.jobs)
  rehearsal_by r given inputs (Ok queries) first others is m =
      let c = rehearses_by queries [] r.jobs inputs others (from_first queries r.jobs inputs (Err e) m) in (inr c.0, c.1)
  rehearsal_by r given inputs (Err f) first others is m =
      cause_of (r.queries ∷ r.jobs) r.queries given (inl refl) first
      (input_unread r.queries queries_in given e queries_read (is ∙ ap (λ (k : NamedFault). Err k) (sym (err_same {A = Done} e f m))) u)

  -- the entries behind those of a file
  room_by : (source : Source) (epoch : ℕ) (job : List ℕ) (before : ℕ) (name : List ℕ) (names : List (List ℕ)) (inputs : Inputs) (read : List EntryText)
      → ((n : ℕ) → Err e ≡ entries_of source epoch job n names inputs → Cause names)
      → (room_for job before read ≡ Err e) ⊎ ((few : List EntryText) × (room_for job before read ≡ Ok few) × (Err e ≡ entries_last source epoch job before names inputs few))
      → Cause (name ∷ names)
  room_by source epoch job before name names inputs read rest (inl h) = absurd (room_read job before read e h u)
  room_by source epoch job before name names inputs read rest (inr (few, is, h)) =
      let c = rest (before + length few) (last_err few (entries_of source epoch job (before + length few) names inputs) e h) in (inr c.0, c.1)

  entries_cause : (source : Source) (epoch : ℕ) (job : List ℕ) (before : ℕ) (names : List (List ℕ)) (inputs : Inputs) → AreRead told failed names inputs
      → Err e ≡ entries_of source epoch job before names inputs → Cause names
  entries_cause source epoch job before [] inputs read m = absurd (not_ok [] e m)
  entries_cause source epoch job before (name ∷ names) inputs read m =
      step_unread (name ∷ names) name (entries_by source epoch) (inputs 0) (entries_then source epoch job before names (rest_of inputs)) (entries_read source epoch) (inl refl) read.0
      (λ x h. room_by source epoch job before name names (rest_of inputs) x (λ n k. entries_cause source epoch job n names (rest_of inputs) read.1 k)
      (after_err (room_for job before x) (entries_last source epoch job before names (rest_of inputs)) e h)) m

  longer_cause : (source : Source) (head job : List ℕ) (names : List (List ℕ)) (given : Option (List ℕ)) (inputs : Inputs) → IsRead told failed head given
      → AreRead told failed names inputs → Err e ≡ longer_makes source head job names given inputs → Cause (head ∷ names)
  longer_cause source head job names given inputs first others m =
      step_unread (head ∷ names) head head_in given (longer_after source job names inputs) head_read (inl refl) first
      (λ j h. let c = entries_cause source j.epoch job (length j.entries) names inputs others
      (done_err (longer_done source job names j) (entries_of source j.epoch job (length j.entries) names inputs) e h) in (inr c.0, c.1)) m

  jobs_by : (before : List JobFields) (names : List (List ℕ)) (inputs : Inputs) → AreRead told failed names inputs
      → Err e ≡ jobs_behind before names inputs → Cause names
  jobs_by before [] inputs read m = absurd (not_ok before e m)
  jobs_by before (name ∷ names) inputs read m =
      step_unread (name ∷ names) name (job_behind before) (inputs 0) (λ j. jobs_behind (before ++ j ∷ []) names (rest_of inputs)) (job_behind_read before job_read)
      (inl refl) read.0 (λ j h. let c = jobs_by (before ++ j ∷ []) names (rest_of inputs) read.1 h in (inr c.0, c.1)) m

  audit_by : (a : Audit) (s : Option (List ℕ)) (inputs : Inputs) → IsRead told failed a.store s → AreRead told failed a.jobs inputs
      → (input a.store store_in s ≡ Err e) ⊎ (audit_jobs a.jobs inputs ≡ Err e) → Cause (a.store ∷ a.jobs)
  audit_by a s inputs first others (inl is) = cause_of (a.store ∷ a.jobs) a.store s (inl refl) first (input_unread a.store store_in s e store_read is u)
  audit_by a s inputs first others (inr is) = let c = jobs_by [] a.jobs inputs others (jobs_stop a.jobs inputs e is u) in (inr c.0, c.1)

  -- An input that can't be read has its cause.
  pub unread_cause : (c : Command) (inputs : Inputs) → AreRead told failed (inputs_of c) inputs → Makes c inputs (Err e) → Cause (inputs_of c)
  unread_cause commands.Usage at read m = absurd m
  unread_cause (commands.Query q) at read m =
      step_unread (q.store ∷ []) q.store store_in (at 0) (λ parts. Ok (query_done q parts)) store_read (inl refl) read.0
      (λ parts h. absurd (not_ok (query_done q parts) e h)) m
  unread_cause (commands.QueryCert q) at read m =
      let names = inputs_of (commands.QueryCert q) in
      step_unread names q.store store_in (at 0) (cert_after q (at 1) (at 2)) store_read (inl refl) read.0
      (λ parts. step_unread names q.cert certificate_in (at 1) (cert_then q (at 2) parts) certificate_read (inr (inl refl)) read.1.0
      (λ cert. step_unread names q.issuer_cert issuer_in (at 2) (cert_last parts cert) issuer_read (inr (inr (inl refl))) read.1.1.0
      (λ issuer h. absurd (not_ok (query_cert_done parts cert issuer) e h)))) m
  unread_cause (commands.Check name) at read m =
      step_unread (name ∷ []) name part_in (at 0) (λ x. Ok (check_done x)) part_read (inl refl) read.0 (λ x h. absurd (not_ok (check_done x) e h)) m
  unread_cause (commands.Show name) at read m =
      step_unread (name ∷ []) name part_in (at 0) (λ x. Ok (show_done x)) part_read (inl refl) read.0 (λ x h. absurd (not_ok (show_done x) e h)) m
  unread_cause (commands.Snapshot s) at read m =
      cause_of (s.job ∷ []) s.job (at 0) (inl refl) read.0
      (input_unread s.job job_in (at 0) e job_read (snapshot_unread s (input s.job job_in (at 0)) e m u) u)
  unread_cause (commands.Delta t) at read m =
      delta_by t (at 0) (at 1) read.0 read.1.0 (delta_unread t (input t.job job_in (at 0)) (input t.ledger ledger_in (at 1)) e m u)
  unread_cause (commands.Rebase b) at read m =
      cause_of (b.ledger ∷ []) b.ledger (at 0) (inl refl) read.0
      (input_unread b.ledger ledger_in (at 0) e ledger_read (rebase_unread b (input b.ledger ledger_in (at 0)) e m u) u)
  unread_cause (commands.Start t) at read m =
      step_unread (t.part ∷ []) t.part part_in (at 0) (start_after t) part_read (inl refl) read.0 (λ x h. absurd (start_unread t x e h u)) m
  unread_cause (commands.Install i) at read m =
      step_unread (i.store ∷ i.part ∷ []) i.store store_in (at 0) (install_after i (at 1)) store_read (inl refl) read.0
      (λ parts. step_unread (i.store ∷ i.part ∷ []) i.part part_in (at 1) (install_then i parts) part_read (inr (inl refl)) read.1.0
      (λ x h. absurd (install_unread i parts x e h u))) m
  unread_cause (commands.Rehearse r) at read m =
      rehearsal_by r (at 0) (rest_of at) (input r.queries queries_in (at 0)) read.0 read.1 refl m
  unread_cause (commands.Sample s) at read m = absurd (not_ok (sample_done s) e m)
  unread_cause (commands.Gather f) at read m = longer_cause (sources.Pages f.log) f.head f.job f.pages (at 0) (rest_of at) read.0 read.1 m
  unread_cause (commands.Merge f) at read m = longer_cause sources.Pieces f.head f.job f.pieces (at 0) (rest_of at) read.0 read.1 m
  unread_cause (commands.Cut c) at read m =
      step_unread (c.job ∷ []) c.job head_in (at 0) (cut_after c) head_read (inl refl) read.0 (λ j h. absurd (not_ok (cut_done c.by c.pieces j) e h)) m
  unread_cause (commands.Audit a) at read m =
      audit_by a (at 0) (rest_of at) read.0 read.1 (store_or_jobs a (input a.store store_in (at 0)) (audit_jobs a.jobs (rest_of at)) e m u)
  unread_cause (commands.Place p) at read m = absurd (not_ok (place_done p) e m)

-- What a command makes of its inputs it makes of its files, unless it says that an input can't be read.
pub over_files : (files : Files) (failed : Option (List ℕ) → Type 0) (c : Command) (at : Inputs) (o : Result Done NamedFault) → IsSeen o
    → AreRead (Some files) failed (inputs_of c) at → Makes c at o → Makes c (held_by c files) o
over_files files failed commands.Usage at o seen read m = absurd m
over_files files failed (commands.Query q) at o seen read m = one_over files failed q.store (λ g. o ≡ query_makes q g) (at 0) (λ h. seen (unread q.store) h refl) read.0 m
over_files files failed (commands.QueryCert q) at o seen read m = query_cert_over files failed q (at 0) (at 1) (at 2) o seen read.0 read.1.0 read.1.1.0 m
over_files files failed (commands.Check name) at o seen read m = one_over files failed name (λ g. o ≡ check_makes name g) (at 0) (λ h. seen (unread name) h refl) read.0 m
over_files files failed (commands.Show name) at o seen read m = one_over files failed name (λ g. o ≡ show_makes name g) (at 0) (λ h. seen (unread name) h refl) read.0 m
over_files files failed (commands.Snapshot s) at o seen read m =
    one_over files failed s.job (λ g. MakesSnapshot s (input s.job job_in g) o) (at 0) (λ h. seen (unread s.job) h refl) read.0 m
over_files files failed (commands.Delta t) at o seen read m = delta_over files failed t (at 0) (at 1) o seen read.0 read.1.0 m
over_files files failed (commands.Rebase b) at o seen read m =
    one_over files failed b.ledger (λ g. MakesRebase b (input b.ledger ledger_in g) o) (at 0) (λ h. seen (unread b.ledger) h refl) read.0 m
over_files files failed (commands.Start t) at o seen read m = one_over files failed t.part (λ g. o ≡ start_makes t g) (at 0) (λ h. seen (unread t.part) h refl) read.0 m
over_files files failed (commands.Install i) at o seen read m = install_over files failed i (at 0) (at 1) o seen read.0 read.1.0 m
over_files files failed (commands.Rehearse r) at o seen read m =
    one_over files failed r.queries (λ g. MakesRehearsal r (input r.queries queries_in g) (held_under files r.jobs) o) (at 0)
    (λ h. seen (unread r.queries) h refl) read.0 (rehearsal_over files failed r (input r.queries queries_in (at 0)) (rest_of at) o seen read.1 m)
over_files files failed (commands.Sample s) at o seen read m = m
over_files files failed (commands.Gather f) at o seen read m =
    longer_over files failed (sources.Pages f.log) f.head f.job f.pages (at 0) (rest_of at) o seen read.0 read.1 m
over_files files failed (commands.Merge f) at o seen read m =
    longer_over files failed sources.Pieces f.head f.job f.pieces (at 0) (rest_of at) o seen read.0 read.1 m
over_files files failed (commands.Cut c) at o seen read m = one_over files failed c.job (λ g. o ≡ cut_makes c g) (at 0) (λ h. seen (unread c.job) h refl) read.0 m
over_files files failed (commands.Audit a) at o seen read m =
    one_over files failed a.store (λ g. MakesAudit a (input a.store store_in g) (audit_jobs a.jobs (held_under files a.jobs)) o) (at 0)
    (λ h. seen (unread a.store) h refl) read.0
    (audit_over a files (rest_of at) (input a.store store_in (at 0)) o seen (jobs_over files failed [] a.jobs (rest_of at) read.1) m)
over_files files failed (commands.Place p) at o seen read m = m
