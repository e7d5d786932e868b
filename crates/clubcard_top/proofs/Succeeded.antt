-- What a call that succeeds found, left and said; and when one must succeed.
use Rattle.std.proofs.Common.{◌≡◌, ◌≢◌, ℕ, cond, ◌⊎◌, List, [], ◌∷◌, ◌++◌, length, Option, Some, None, Result, Ok, Err, refl, sym, ap, subst, ◌∙◌}
use Rattle.std.proofs.Common.{◌+◌, ◌≤◌, Bool, true, false, map, length-append, arith, All}
use Rattle.std.proofs.lemmas.List.Elements.{All-nil, All-cons}
use Rattle.std.specs.Prelude.{nat_le, if◌then◌else◌}
use Rattle.std.specs.Cmp.Lexicographic.{nat_list_cmp_total}
use Rattle.std.specs.FinMap.{get, insert, get-insert}
use Rattle.std.proofs.lemmas.Map.Text.{is_eq-slice_cmp}
use Rattle.std.proofs.lemmas.Slice.Eq.{bytes_eq-Decides}
use Rattle.outside_core.specs.Files.{Files}
use Rattle.ident_core.specs.declared.bounds.TheConstants.{MAX_ISSUERS}
use Rattle.ident_core.specs.declared.kind.Kind.{Kind}
use Rattle.ident_core.specs.declared.kind.Kind.TheVariants as kinds
use Rattle.job_core.specs.JobLayout.{EntryText}
use Rattle.job_core.specs.declared.bounds.TheConstants.Limits as limits
use Rattle.job_core.specs.declared.bounds.What.TheVariants as what
use Rattle.job_core.specs.JobFields.{JobFields}
use Rattle.universe_core.specs.History.{seen}
use Rattle.audit_core.specs.Auditing.{left_by_jobs, AllAgree}
use Rattle.job_core.specs.JobText.{JobContents}
use Rattle.ledger_core.specs.LedgerFields.{LedgerFields}
use Rattle.part_text.specs.SealedFields.{SealedFields}
use Rattle.universe_core.specs.Formats.{dated}
use Rattle.universe_core.specs.Jobs.{facts_of}
use Rattle.universe_core.specs.Ledgers.{no_ledger}
use Rattle.place_core.specs.Cuts.{Cut}
use Rattle.universe_core.specs.Rebases.{ledger_cut, issuers_in, is_lasting, rebased_groups}
use Rattle.universe_core.specs.Step.{refusal, groups_after}
use Rattle.store_core.specs.declared.chain.Refusal.{Refusal}
use Rattle.store_core.specs.Chain.{refusal_of}
use Rattle.publication_core.specs.declared.fault.PublishFault.{PublishFault}
use Rattle.publication_core.specs.Building.{HaveBlocks}
use Rattle.publication_core.specs.Formats.{current}
use Rattle.publication_core.specs.Publishing.{PublicationFields as Publication, Publishes}
use Rattle.publication_core.specs.declared.base_fault.BaseFault.{BaseFault}
use Rattle.publication_core.specs.Rebasing.{BasePublicationFields, PublishesBase}
use Rattle.word_core.specs.declared.command.Command.{Command}
use Rattle.word_core.specs.Names.{inputs_of, outputs_of, IsApart}
use Rattle.word_core.proofs.Asked.{AreApart, names_apart}
use Rattle.word_core.specs.declared.command.Command.TheVariants as commands
use Rattle.word_core.specs.declared.command.{Query.Query, QueryCert.QueryCert, Snapshot.Snapshot, Delta.Delta}
use Rattle.word_core.specs.declared.command.{Rebase.Rebase, Start.Start, Install.Install, Rehearse.Rehearse, Audit.Audit, Sample.Sample}
use Rattle.word_core.specs.declared.command.{Cut.Cut as JobCut, Place.Place}
use Rattle.input_core.specs.declared.certificates.Certificate.{Certificate}
use Rattle.input_core.specs.declared.fault.FileFault.{FileFault}
use Rattle.input_core.specs.declared.fault.FileFault.TheVariants as faults
use Rattle.command_core.specs.Faults.{of_publishing, of_rebasing}
use Rattle.command_core.specs.ReplyFields.{OutputFields, Done, NamedFault}
use Rattle.input_core.specs.Inputs.{Inputs}
use Rattle.input_core.specs.Queries.{Query as JobQuery}
use Rattle.input_core.specs.Readings.{job_in, ledger_in, part_in, store_in}
use Rattle.input_core.specs.Certificates.{certificate_in, issuer_in}
use Rattle.command_core.specs.Commands.{◌>>=◌, named, input, query_done, query_cert_done, check_done, show_done, stored, begun_by, begun, installed_by, installed}
use Rattle.command_core.specs.Commands.{publication_done, rehearsed, published_as, MakesPart, MakesSnapshot, MakesDelta, sample_done, place_done}
use Rattle.command_core.specs.Commands.{AreJobs, Makes}
use Rattle.command_core.specs.declared.lengthening.Source.{Source}
use Rattle.command_core.specs.declared.lengthening.Source.TheVariants as sources
use Rattle.command_core.specs.Longer.{head_in, entries_by, room_for, entries_of, longer_done, longer_makes}
use Rattle.command_core.specs.Cuts.{cut_done}
use Rattle.command_core.specs.Rebasings.{cut_without, base_done, rebased_as, MakesBase, MakesRebase}
use Rattle.command_core.specs.Replies.{done, held_under, held_by}
use Rattle.command_core.specs.Runs.{with_outputs}
use Rattle.clubcard_top.specs.Calls.{Call, Reads, NoFault}
use Rattle.clubcard_top.specs.Endings.{Succeeds, Did, Gives, GivesDone, WantedMemory, Ends}
use Rattle.command_core.specs.Audits.{audit_jobs, audit_done, MakesAudit, AreWithinLimits, IsAudited}
use Rattle.publication_core.specs.Histories.{Published}
use Rattle.clubcard_top.specs.Headline.{AsksToRehearse, IsRehearsed}
use Rattle.clubcard_top.specs.Promises.{Successes}
use Rattle.clubcard_top.specs.Successes.{ReadsPart, ReadsEntries, ReadsJobs, SaysTheTruth}
use Rattle.command_core.proofs.AuditsMade.{named_value, audit_done_is, audit_jobs_back, audit_makes}
use Rattle.command_core.proofs.Makings.{done_names}
use Rattle.command_core.proofs.Following.{start_after, install_after, install_then, longer_after, cut_after, entries_last, entries_then, cert_last, cert_then, cert_after}
use Rattle.command_core.proofs.FilesPut.{behind_these, file_put}
use Rattle.command_core.proofs.Results.{ok_same, not_ok, after_ok}
use Rattle.command_core.proofs.Outputs.{names_of, keeps-written}
use Rattle.command_core.proofs.Overs.{some_is}
use Rattle.clubcard_top.proofs.Promised.{Unique, answers, given, sure}
use Rattle.clubcard_top.proofs.Rooms.{HaveRoom, entries_few}

-- ---- files after a write

get-same : (files : Files) (name bytes : List ℕ) → get (insert files name bytes) name ≡ Some bytes
get-same files name bytes =
    get-insert nat_list_cmp_total files name bytes name
    ∙ ap (λ t. cond t (Some bytes) (get files name)) (is_eq-slice_cmp name name ∙ (bytes_eq-Decides name name).1 refl)

-- each output is held once all are written
abbrev IsHeld : Option Files → OutputFields → Type 0
IsHeld told o = (files : Files) × (told ≡ Some files) × (get files o.name ≡ Some o.bytes)

held_after : (files : Files) (o : OutputFields) (outputs : List OutputFields) → All (λ other. o.name ≢ other) (names_of outputs)
    → IsHeld (with_outputs (Some (insert files o.name o.bytes)) outputs) o
held_after files o outputs apart =
    let k = keeps-written (Some (insert files o.name o.bytes)) outputs in
    (k.0, k.1, k.2 o.name apart ∙ get-same files o.name o.bytes)

all_held : (files : Files) (outputs : List OutputFields) → AreApart (names_of outputs) → All (IsHeld (with_outputs (Some files) outputs)) outputs
all_held files [] apart = All-nil (IsHeld (Some files))
all_held files (o ∷ outputs) apart =
    All-cons (IsHeld (with_outputs (Some files) (o ∷ outputs))) o outputs (held_after files o outputs apart.0) (all_held (insert files o.name o.bytes) outputs apart.1)

-- ---- steps that went well

input_ok : {A : Type 0} (name : List ℕ) (read : List ℕ → Result A FileFault) (given : Option (List ℕ)) (x : A)
    → input name read given ≡ Ok x
    → (bytes : List ℕ) × (given ≡ Some bytes) × (read bytes ≡ Ok x)
input_ok name read None x h = absurd (not_ok x (record { name = name; fault = faults.Unread }) h)
input_ok name read (Some bytes) x h = (bytes, refl, named_value name (read bytes) x h)

room_ok_by : (job : List ℕ) (page few : List EntryText) (b : Bool)
    → if◌then◌else◌ {A = Result (List EntryText) NamedFault} b (Ok page) (Err (record { name = job; fault = faults.TooMany what.Entries limits.PUBLISHED.entries })) ≡ Ok few
    → page ≡ few
room_ok_by job page few true h = ok_same {E = NamedFault} page few h
room_ok_by job page few false h = absurd (not_ok few (record { name = job; fault = faults.TooMany what.Entries limits.PUBLISHED.entries }) h)

room_ok : (job : List ℕ) (before : ℕ) (page few : List EntryText) → room_for job before page ≡ Ok few → page ≡ few
room_ok job before page few h = room_ok_by job page few (nat_le (before + length page) limits.PUBLISHED.entries) h

-- ---- parts of stores

begun_ok : (s : SealedFields) (k : Kind) (parts : List SealedFields) → begun_by s k ≡ Ok parts → (k ≡ kinds.Snapshot)
    × (parts ≡ s ∷ [])
begun_ok s kinds.Snapshot parts h = (refl, sym (ok_same {E = FileFault} (s ∷ []) parts h))
begun_ok s kinds.Delta parts h =
    absurd (let g : ◌≡◌ {A = Result (List SealedFields) FileFault} (Err faults.NotSnapshot) (Ok parts) = h in cc)

installed_ok : (why : Option Refusal) (parts : List SealedFields) (s : SealedFields) (more : List SealedFields)
    → installed_by why parts s ≡ Ok more → (why ≡ None) × (more ≡ parts ++ s ∷ [])
installed_ok None parts s more h = (refl, sym (ok_same {E = FileFault} (parts ++ s ∷ []) more h))
installed_ok (Some why) parts s more h =
    absurd (let g : ◌≡◌ {A = Result (List SealedFields) FileFault} (Err (faults.Chain why)) (Ok more) = h in cc)

-- ---- publications

published_ok : (job part ledger : List ℕ) (before : LedgerFields) (j : JobFields) (r : Result Publication PublishFault)
    (d : Done) → Publishes before j r → Ok d ≡ published_as job part ledger r
    → (p : Publication) × Publishes before j (Ok p) × (d ≡ publication_done part ledger p)
published_ok job part ledger before j (Ok p) d is h =
    (p, is, ok_same {E = NamedFault} d (publication_done part ledger p) h)
published_ok job part ledger before j (Err fault) d is h =
    absurd (not_ok d (record { name = job; fault = of_publishing fault }) (sym h))

snapshot_ok : (s : Snapshot) (r : Result JobFields NamedFault) (d : Done) → MakesSnapshot s r (Ok d)
    → (j : JobFields) × (r ≡ Ok j) × MakesPart s.job s.part s.ledger no_ledger j (Ok d)
snapshot_ok s (Ok j) d m = (j, refl, m)
snapshot_ok s (Err e) d m = absurd (not_ok d e (sym m))

delta_ok : (t : Delta) (r : Result JobFields NamedFault) (l : Result LedgerFields NamedFault) (d : Done)
    → MakesDelta t r l (Ok d)
    → (j : JobFields) × (before : LedgerFields) × (r ≡ Ok j) × (l ≡ Ok before)
    × MakesPart t.job t.part t.new_ledger before j (Ok d)
delta_ok t (Ok j) (Ok before) d m = (j, before, refl, refl, m)
delta_ok t (Ok j) (Err e) d m = absurd (not_ok d e (sym m))
delta_ok t (Err e) l d m = absurd (not_ok d e (sym m))

rebase_ok : (r : Rebase) (l : Result LedgerFields NamedFault) (d : Done) → MakesRebase r l (Ok d)
    → (before : LedgerFields) × (l ≡ Ok before) × MakesBase r before (Ok d)
rebase_ok r (Ok before) d m = (before, refl, m)
rebase_ok r (Err e) d m = absurd (not_ok d e (sym m))

based_ok : (r : Rebase) (before : LedgerFields) (x : Result BasePublicationFields BaseFault) (d : Done)
    → PublishesBase before r.moment (cut_without r.left) x → Ok d ≡ rebased_as r x
    → (p : BasePublicationFields) × PublishesBase before r.moment (cut_without r.left) (Ok p) × (d ≡ base_done r p)
based_ok r before (Ok p) d is h = (p, is, ok_same {E = NamedFault} d (base_done r p) h)
based_ok r before (Err fault) d is h =
    absurd (not_ok d (record { name = r.ledger; fault = of_rebasing fault }) (sym h))

-- what is made of a job and a ledger, where this is published
makes_this : (job part ledger : List ℕ) (before : LedgerFields) (j : JobFields) (o : Result Done NamedFault)
    (p : Publication) → Publishes before j (Ok p) → MakesPart job part ledger before j o
    → MakesPart job part ledger before j (Ok (publication_done part ledger p))
makes_this job part ledger before j o p x m =
    record { fits = m.fits; limits = m.limits; result = Ok p; publishes = x; is = refl }

-- `delta` over inputs that were read
both_read : (t : Delta) (files : Files) (job : JobFields) (before : LedgerFields) (o : Result Done NamedFault)
    → input t.job job_in (get files t.job) ≡ Ok job → input t.ledger ledger_in (get files t.ledger) ≡ Ok before
    → Makes (commands.Delta t) (held_by (commands.Delta t) files) o
    → MakesPart t.job t.part t.new_ledger before job o
both_read t files job before o job_is ledger_is m =
    subst (λ (l : Result LedgerFields NamedFault). MakesDelta t (Ok job) l o) ledger_is
    (subst (λ (r : Result JobFields NamedFault). MakesDelta t r (input t.ledger ledger_in (get files t.ledger)) o) job_is m)

both_back : (t : Delta) (files : Files) (job : JobFields) (before : LedgerFields) (o : Result Done NamedFault)
    → input t.job job_in (get files t.job) ≡ Ok job → input t.ledger ledger_in (get files t.ledger) ≡ Ok before
    → MakesPart t.job t.part t.new_ledger before job o
    → Makes (commands.Delta t) (held_by (commands.Delta t) files) o
both_back t files job before o job_is ledger_is m =
    subst (λ (r : Result JobFields NamedFault). MakesDelta t r (input t.ledger ledger_in (get files t.ledger)) o) (sym job_is)
    (subst (λ (l : Result LedgerFields NamedFault). MakesDelta t (Ok job) l o) (sym ledger_is) m)

-- one thing comes of a command and its inputs
abbrev pub OneOutcome : Type 0
OneOutcome =
    (command : Command) (inputs : Inputs) (a b : Result Done NamedFault) → Makes command inputs a
    → Makes command inputs b → a ≡ b

-- parts that say the truth of accepted entries say the truth
abbrev pub Truthful : Type 0
Truthful = (parts : List SealedFields) (jobs : List JobFields) → AllAgree (map (λ (s : SealedFields). s.part) parts) jobs → SaysTheTruth parts jobs

abbrev pub Publishable : Type 0
Publishable = (before : LedgerFields) (job : JobFields) → refusal limits.PUBLISHED before job ≡ None → HaveBlocks current (groups_after before (facts_of job))
    → (made : Publication) × Publishes before job (Ok made)

abbrev pub Rebasable : Type 0
Rebasable = (before : LedgerFields) (moment : ℕ) (cut : Cut) → length (issuers_in (ledger_cut cut before).parts) ≤ MAX_ISSUERS
    → HaveBlocks dated (rebased_groups (is_lasting moment) (ledger_cut cut before))
    → (made : BasePublicationFields) × PublishesBase before moment cut (Ok made)

-- ---- each command

module _ (call : Call) where
  -- what came of a command that was done is given
  pub given_done : (files : Files) → call.files_before ≡ Some files → IsApart call.asked → (d : Done)
      → Makes call.asked (held_by call.asked files) (Ok d) → Gives call (done d) → GivesDone call d
  given_done files told apart d m g = record {
    gives = g;
    held = subst (λ (t : Option Files). All (IsHeld t) d.outputs)
        (sym (g.files ∙ ap (λ (t : Option Files). with_outputs t d.outputs) told))
        (all_held files d.outputs
        (subst AreApart (sym (done_names call.asked (held_by call.asked files) d m)) (names_apart (inputs_of call.asked) (outputs_of call.asked) apart)));
  }

  -- what came of the command
  record Came (command : Command) (files : Files) : Type 0 where
    pub d : Done
    pub makes : Makes command (held_by command files) (Ok d)
    pub given : GivesDone call d

  reads : {A : Type 0} (files : Files) → call.files_before ≡ Some files
      → (name : List ℕ) (read : List ℕ → Result A FileFault) (x : A) → input name read (get files name) ≡ Ok x
      → Reads call name read x
  reads files told name read x h = let i = input_ok name read (get files name) x h in (i.0, (files, told, i.1), i.2)

  entries_read : (files : Files) → call.files_before ≡ Some files → (source : Source) (epoch : ℕ) (job : List ℕ) (before : ℕ) (names : List (List ℕ)) (entries : List EntryText)
      → Ok entries ≡ entries_of source epoch job before names (held_under files names) → ReadsEntries call (entries_by source epoch) names entries
  entries_read files told source epoch job before [] entries h = ok_same {E = NamedFault} entries [] h
  entries_read files told source epoch job before (name ∷ names) entries h =
      let others = held_under files names in
      let one = after_ok (input name (entries_by source epoch) (get files name)) (entries_then source epoch job before names others) entries h in
      let two = after_ok (room_for job before one.0) (entries_last source epoch job before names others) entries one.2 in
      let three = after_ok (entries_of source epoch job (before + length two.0) names others) (λ more. Ok (two.0 ++ more)) entries two.2 in (
        one.0,
        three.0,
        reads files told name (entries_by source epoch) one.0 one.1,
        ok_same {E = NamedFault} entries (two.0 ++ three.0) three.2
            ∙ ap (λ (few : List EntryText). few ++ three.0) (sym (room_ok job before one.0 two.0 two.1)),
        entries_read files told source epoch job (before + length two.0) names three.0 (sym three.1),
      )

  jobs_read : (files : Files) → call.files_before ≡ Some files → (names : List (List ℕ)) (jobs : List JobFields) → AreJobs names (held_under files names) jobs → ReadsJobs call names jobs
  jobs_read files told [] [] are = tt
  jobs_read files told [] (j ∷ jobs) are = absurd are
  jobs_read files told (name ∷ names) [] are = absurd are
  jobs_read files told (name ∷ names) (j ∷ jobs) are = (reads files told name job_in j are.0, jobs_read files told names jobs are.1)

  -- the same of what is equal
  pub same_done : (d e : Done) → d ≡ e → GivesDone call d → GivesDone call e
  same_done d e same h = subst (GivesDone call) same h

  module _ (ends : Ends call) (apart : IsApart call.asked) where
    came : (command : Command) (did : Did call command) → Came command did.files
    came command did =
        let a = answers call ends did.files did.told did.succeeds in
        record {
          d = a.d;
          makes = subst (λ (c : Command). Makes c (held_by c did.files) (Ok a.d)) did.asked a.makes;
          given = given_done did.files did.told apart a.d a.makes a.gives;
        }

    pub query : (q : Query) → (did : Did call (commands.Query q)) → (parts : List SealedFields)
        × Reads call q.store store_in parts × GivesDone call (query_done q parts)
    query q did =
        let c = came (commands.Query q) did in
        let s = after_ok (input q.store store_in (get did.files q.store)) (λ parts. Ok (query_done q parts)) c.d c.makes in
        (s.0, reads did.files did.told q.store store_in s.0 s.1, same_done c.d (query_done q s.0) (ok_same {E = NamedFault} c.d (query_done q s.0) s.2) c.given)

    pub query_cert : (q : QueryCert) → (did : Did call (commands.QueryCert q)) → (parts : List SealedFields)
        × (cert : Certificate) × (issuer : List ℕ) × Reads call q.store store_in parts
        × Reads call q.cert certificate_in cert × Reads call q.issuer_cert issuer_in issuer
        × GivesDone call (query_cert_done parts cert issuer)
    query_cert q did =
        let c = came (commands.QueryCert q) did in
        let k = get did.files q.cert in
        let i = get did.files q.issuer_cert in
        let one = after_ok (input q.store store_in (get did.files q.store)) (cert_after q k i) c.d c.makes in
        let two = after_ok (input q.cert certificate_in k) (cert_then q i one.0) c.d one.2 in
        let three = after_ok (input q.issuer_cert issuer_in i) (cert_last one.0 two.0) c.d two.2 in
        let said = query_cert_done one.0 two.0 three.0 in (
          one.0,
          two.0,
          three.0,
          reads did.files did.told q.store store_in one.0 one.1,
          reads did.files did.told q.cert certificate_in two.0 two.1,
          reads did.files did.told q.issuer_cert issuer_in three.0 three.1,
          same_done c.d said (ok_same {E = NamedFault} c.d said three.2) c.given,
        )

    pub check : (name : List ℕ) → (did : Did call (commands.Check name)) → (s : SealedFields) × (size : ℕ)
        × Reads call name part_in (s, size) × GivesDone call (check_done (s, size))
    check name did =
        let c = came (commands.Check name) did in
        let s = after_ok (input name part_in (get did.files name)) (λ x. Ok (check_done x)) c.d c.makes in
        (s.0.0, s.0.1, reads did.files did.told name part_in s.0 s.1, same_done c.d (check_done s.0) (ok_same {E = NamedFault} c.d (check_done s.0) s.2) c.given)

    pub show : (name : List ℕ) → (did : Did call (commands.Show name)) → (s : SealedFields) × (size : ℕ)
        × Reads call name part_in (s, size) × GivesDone call (show_done (s, size))
    show name did =
        let c = came (commands.Show name) did in
        let s = after_ok (input name part_in (get did.files name)) (λ x. Ok (show_done x)) c.d c.makes in
        (s.0.0, s.0.1, reads did.files did.told name part_in s.0 s.1, same_done c.d (show_done s.0) (ok_same {E = NamedFault} c.d (show_done s.0) s.2) c.given)

    pub snapshot : (s : Snapshot) → (did : Did call (commands.Snapshot s)) → (job : JobFields) × (made : Publication)
        × Reads call s.job job_in job × Publishes no_ledger job (Ok made) × GivesDone call (publication_done s.part s.ledger made)
    snapshot s did =
        let c = came (commands.Snapshot s) did in
        let k = snapshot_ok s (input s.job job_in (get did.files s.job)) c.d c.makes in
        let m = k.2 in
        let p = published_ok s.job s.part s.ledger no_ledger k.0 m.result c.d m.publishes m.is in
        (k.0, p.0, reads did.files did.told s.job job_in k.0 k.1, p.1, same_done c.d (publication_done s.part s.ledger p.0) p.2 c.given)

    pub delta : (t : Delta) → (did : Did call (commands.Delta t))
        → (before : LedgerFields) × (job : JobFields) × (made : Publication)
        × Reads call t.ledger ledger_in before × Reads call t.job job_in job
        × Publishes before job (Ok made) × GivesDone call (publication_done t.part t.new_ledger made)
    delta t did =
        let c = came (commands.Delta t) did in
        let k = delta_ok t (input t.job job_in (get did.files t.job)) (input t.ledger ledger_in (get did.files t.ledger)) c.d c.makes in
        let m = k.4 in
        let p = published_ok t.job t.part t.new_ledger k.1 k.0 m.result c.d m.publishes m.is in (
          k.1,
          k.0,
          p.0,
          reads did.files did.told t.ledger ledger_in k.1 k.3,
          reads did.files did.told t.job job_in k.0 k.2,
          p.1,
          same_done c.d (publication_done t.part t.new_ledger p.0) p.2 c.given,
        )

    pub rebase : (r : Rebase) → (did : Did call (commands.Rebase r)) → (before : LedgerFields) × (made : BasePublicationFields)
        × Reads call r.ledger ledger_in before × PublishesBase before r.moment (cut_without r.left) (Ok made) × GivesDone call (base_done r made)
    rebase r did =
        let c = came (commands.Rebase r) did in
        let k = rebase_ok r (input r.ledger ledger_in (get did.files r.ledger)) c.d c.makes in
        let m = k.2 in
        let p = based_ok r k.0 m.result c.d m.publishes m.is in
        (k.0, p.0, reads did.files did.told r.ledger ledger_in k.0 k.1, p.1, same_done c.d (base_done r p.0) p.2 c.given)

    pub start : (t : Start) → (did : Did call (commands.Start t)) → (s : SealedFields) × ReadsPart call t.part s
        × (s.part.head.kind ≡ kinds.Snapshot) × GivesDone call (stored t.store (s ∷ []))
    start t did =
        let c = came (commands.Start t) did in
        let one = after_ok (input t.part part_in (get did.files t.part)) (start_after t) c.d c.makes in
        let x = one.0 in
        let two = after_ok (named t.part (begun x.0)) (λ parts. Ok (stored t.store parts)) c.d one.2 in
        let b = begun_ok x.0 x.0.part.head.kind two.0 (named_value t.part (begun x.0) two.0 two.1) in
        let same : c.d ≡ stored t.store (x.0 ∷ []) = ok_same {E = NamedFault} c.d (stored t.store two.0) two.2 ∙ ap (stored t.store) b.1 in
        (x.0, (x.1, reads did.files did.told t.part part_in x one.1), b.0, same_done c.d (stored t.store (x.0 ∷ [])) same c.given)

    pub install : (i : Install) → (did : Did call (commands.Install i)) → (parts : List SealedFields) × (s : SealedFields)
        × Reads call i.store store_in parts × ReadsPart call i.part s
        × (refusal_of parts s ≡ None) × GivesDone call (stored i.new_store (parts ++ s ∷ []))
    install i did =
        let c = came (commands.Install i) did in
        let one = after_ok (input i.store store_in (get did.files i.store)) (install_after i (get did.files i.part)) c.d c.makes in
        let parts = one.0 in
        let two = after_ok (input i.part part_in (get did.files i.part)) (install_then i parts) c.d one.2 in
        let x = two.0 in
        let three = after_ok (named i.part (installed parts x.0)) (λ more. Ok (stored i.new_store more)) c.d two.2 in
        let b = installed_ok (refusal_of parts x.0) parts x.0 three.0 (named_value i.part (installed parts x.0) three.0 three.1) in
        let same : c.d ≡ stored i.new_store (parts ++ x.0 ∷ []) =
        ok_same {E = NamedFault} c.d (stored i.new_store three.0) three.2 ∙ ap (stored i.new_store) b.1 in (
          parts,
          x.0,
          reads did.files did.told i.store store_in parts one.1,
          (x.1, reads did.files did.told i.part part_in x two.1),
          b.0,
          same_done c.d (stored i.new_store (parts ++ x.0 ∷ [])) same c.given,
        )

    pub sample : (s : Sample) → (did : Did call (commands.Sample s)) → GivesDone call (sample_done s)
    sample s did =
        let c = came (commands.Sample s) did in
        same_done c.d (sample_done s) (ok_same {E = NamedFault} c.d (sample_done s) c.makes) c.given

    pub longer : (c : Command) (source : Source) (head job : List ℕ) (names : List (List ℕ)) → (did : Did call c)
        → ((d : Done) → Makes c (held_by c did.files) (Ok d) → Ok d ≡ longer_makes source head job names (get did.files head) (held_under did.files names))
        → (j : JobContents) × (entries : List EntryText) × Reads call head head_in j × ReadsEntries call (entries_by source j.epoch) names entries
        × HaveRoom (length j.entries) entries × GivesDone call (longer_done source job names j entries)
    longer command source head job names did makes =
        let c = came command did in
        let others = held_under did.files names in
        let one = after_ok (input head head_in (get did.files head)) (longer_after source job names others) c.d (makes c.d c.makes) in
        let two = after_ok (entries_of source one.0.epoch job (length one.0.entries) names others) (λ entries. Ok (longer_done source job names one.0 entries)) c.d one.2 in (
          one.0,
          two.0,
          reads did.files did.told head head_in one.0 one.1,
          entries_read did.files did.told source one.0.epoch job (length one.0.entries) names two.0 (sym two.1),
          entries_few did.files source one.0.epoch job (length one.0.entries) names two.0 (sym two.1),
          same_done c.d (longer_done source job names one.0 two.0) (ok_same {E = NamedFault} c.d (longer_done source job names one.0 two.0) two.2) c.given,
        )

    pub cut : (k : JobCut) → (did : Did call (commands.Cut k)) → (job : JobContents) × Reads call k.job head_in job × GivesDone call (cut_done k.by k.pieces job)
    cut k did =
        let c = came (commands.Cut k) did in
        let s = after_ok (input k.job head_in (get did.files k.job)) (cut_after k) c.d c.makes in
        let d = cut_done k.by k.pieces s.0 in
        (s.0, reads did.files did.told k.job head_in s.0 s.1, same_done c.d d (ok_same {E = NamedFault} c.d d s.2) c.given)

    pub audit : Truthful → (a : Audit) → (did : Did call (commands.Audit a)) → (parts : List SealedFields) × (jobs : List JobFields)
        × Reads call a.store store_in parts × ReadsJobs call a.jobs jobs × IsAudited parts jobs × SaysTheTruth parts jobs
        × GivesDone call (audit_done jobs (record { entries = length (seen (left_by_jobs jobs)) }))
    audit truthful a did =
        let c = came (commands.Audit a) did in
        let x = audit_done_is a (input a.store store_in (get did.files a.store)) (held_under did.files a.jobs) c.d c.makes in
        let said = audit_done x.jobs (record { entries = length (seen (left_by_jobs x.jobs)) }) in (
          x.parts,
          x.jobs,
          reads did.files did.told a.store store_in x.parts x.store,
          jobs_read did.files did.told a.jobs x.jobs x.are,
          x.audited,
          truthful x.parts x.jobs x.audited.agree,
          same_done c.d said x.said c.given,
        )

    pub place : (p : Place) → (did : Did call (commands.Place p)) → GivesDone call (place_done p)
    place p did =
        let c = came (commands.Place p) did in
        same_done c.d (place_done p) (ok_same {E = NamedFault} c.d (place_done p) c.makes) c.given

  -- ---- what can be published

  read_in : {A : Type 0} (files : Files) → call.files_before ≡ Some files
      → (name : List ℕ) (read : List ℕ → Result A FileFault) (x : A) → Reads call name read x
      → input name read (get files name) ≡ Ok x
  read_in files told name read x (bytes, (others, told_so, held), is) =
      let same : others ≡ files = some_is others files (sym told_so ∙ told) in
      ap (input name read) (ap (λ (f : Files). get f name) (sym same) ∙ held) ∙ ap (named name) is

  entries_back : (files : Files) → call.files_before ≡ Some files → (source : Source) (epoch : ℕ) (job : List ℕ) (before : ℕ) (names : List (List ℕ)) (entries : List EntryText)
      → ReadsEntries call (entries_by source epoch) names entries → before + length entries ≤ limits.PUBLISHED.entries
      → entries_of source epoch job before names (held_under files names) ≡ Ok entries
  entries_back files told source epoch job before [] entries is few = ap (λ (l : List EntryText). Ok l) (sym is)
  entries_back files told source epoch job before (name ∷ names) entries (one, others, one_reads, is, rest) few =
      let size : length entries ≡ length one + length others = ap (λ (l : List EntryText). length l) is ∙ length-append one others in
      file_put source job epoch name names before (held_under files (name ∷ names)) one (read_in files told name (entries_by source epoch) one one_reads) (omega (arith, few, size))
      ∙ ap (behind_these one) (entries_back files told source epoch job (before + length one) names others rest (omega (arith, few, size)))
      ∙ ap (λ (l : List EntryText). Ok l) (sym is)

  jobs_back : (files : Files) → call.files_before ≡ Some files → (names : List (List ℕ)) (jobs : List JobFields) → ReadsJobs call names jobs → AreJobs names (held_under files names) jobs
  jobs_back files told [] [] are = tt
  jobs_back files told [] (j ∷ jobs) are = absurd are
  jobs_back files told (name ∷ names) [] are = absurd are
  jobs_back files told (name ∷ names) (j ∷ jobs) are = (read_in files told name job_in j are.0, jobs_back files told names jobs are.1)

  module _ (one : OneOutcome) (publishable : Publishable) (ends : Ends call) where
    -- what is sure to come of the command that was asked
    sure_of : (command : Command) (files : Files) (d : Done) → call.files_before ≡ Some files → call.asked ≡ command
        → (command ≡ commands.Usage → ⊥)
        → ((o : Result Done NamedFault) → Makes command (held_by command files) o
        → Makes command (held_by command files) (Ok d)) → NoFault call → Succeeds call ⊎ WantedMemory call
    sure_of command files d told asked some law quiet =
        sure call ends files told (λ none. some (sym asked ∙ none))
        (λ o m.
        let x = subst (λ (c : Command). Makes c (held_by c files) o) asked m in
        (d, one command (held_by command files) o (Ok d) x (law o x)))
        quiet

    pub cut_complete : (k : JobCut) (job : JobContents) → call.asked ≡ commands.Cut k → Reads call k.job head_in job → NoFault call → Succeeds call ⊎ WantedMemory call
    cut_complete k job asked (bytes, (files, told, held), is) quiet =
        let job_is = read_in files told k.job head_in job (bytes, (files, told, held), is) in
        sure_of (commands.Cut k) files (cut_done k.by k.pieces job) told asked (λ none. cc)
        (λ o m. sym (ap (λ (r : Result JobContents NamedFault). r >>= cut_after k) job_is)) quiet

    pub snapshot_complete : (s : Snapshot) (job : JobFields) → call.asked ≡ commands.Snapshot s
        → Reads call s.job job_in job → refusal limits.PUBLISHED no_ledger job ≡ None → HaveBlocks current (groups_after no_ledger (facts_of job))
        → NoFault call → Succeeds call ⊎ WantedMemory call
    snapshot_complete s job asked (bytes, (files, told, held), is) none have quiet =
        let p = publishable no_ledger job none have in
        let job_is = read_in files told s.job job_in job (bytes, (files, told, held), is) in
        let d = publication_done s.part s.ledger p.0 in
        sure_of (commands.Snapshot s) files d told asked
        (λ none. cc)
        (λ o m. subst (λ (r : Result JobFields NamedFault). MakesSnapshot s r (Ok d)) (sym job_is)
        (makes_this s.job s.part s.ledger no_ledger job o p.0 p.1
        (subst (λ (r : Result JobFields NamedFault). MakesSnapshot s r o) job_is m)))
        quiet

    pub delta_complete : (t : Delta) (before : LedgerFields) (job : JobFields) → call.asked ≡ commands.Delta t
        → Reads call t.ledger ledger_in before → Reads call t.job job_in job → refusal limits.PUBLISHED before job ≡ None
        → HaveBlocks current (groups_after before (facts_of job)) → NoFault call → Succeeds call ⊎ WantedMemory call
    delta_complete t before job asked ledger_reads (bytes, (files, told, held), is) none have quiet =
        let p = publishable before job none have in
        let job_is = read_in files told t.job job_in job (bytes, (files, told, held), is) in
        let ledger_is = read_in files told t.ledger ledger_in before ledger_reads in
        let d = publication_done t.part t.new_ledger p.0 in
        sure_of (commands.Delta t) files d told asked
        (λ none. cc)
        (λ o m. both_back t files job before (Ok d) job_is ledger_is
        (makes_this t.job t.part t.new_ledger before job o p.0 p.1 (both_read t files job before o job_is ledger_is m)))
        quiet

    pub rebase_complete : Rebasable → (r : Rebase) (before : LedgerFields) → call.asked ≡ commands.Rebase r
        → Reads call r.ledger ledger_in before → length (issuers_in (ledger_cut (cut_without r.left) before).parts) ≤ MAX_ISSUERS
        → HaveBlocks dated (rebased_groups (is_lasting r.moment) (ledger_cut (cut_without r.left) before)) → NoFault call → Succeeds call ⊎ WantedMemory call
    rebase_complete rebasable r before asked (bytes, (files, told, held), is) few have quiet =
        let made = rebasable before r.moment (cut_without r.left) few have in
        let ledger_is = read_in files told r.ledger ledger_in before (bytes, (files, told, held), is) in
        let d = base_done r made.0 in
        sure_of (commands.Rebase r) files d told asked
        (λ none. cc)
        (λ o m. subst (λ (l : Result LedgerFields NamedFault). MakesRebase r l (Ok d)) (sym ledger_is)
        (record { result = Ok made.0; publishes = made.1; is = refl }))
        quiet

    -- three inputs that are read are asked
    pub query_cert_complete : (q : QueryCert) (parts : List SealedFields) (cert : Certificate) (issuer : List ℕ)
        → call.asked ≡ commands.QueryCert q → Reads call q.store store_in parts
        → Reads call q.cert certificate_in cert → Reads call q.issuer_cert issuer_in issuer
        → NoFault call → Succeeds call ⊎ WantedMemory call
    query_cert_complete q parts cert issuer asked (bytes, (files, told, held), is) cert_reads issuer_reads quiet =
        let k = get files q.cert in
        let i = get files q.issuer_cert in
        let store_is = read_in files told q.store store_in parts (bytes, (files, told, held), is) in
        let cert_is = read_in files told q.cert certificate_in cert cert_reads in
        let issuer_is = read_in files told q.issuer_cert issuer_in issuer issuer_reads in
        let d = query_cert_done parts cert issuer in
        sure_of (commands.QueryCert q) files d told asked
        (λ none. cc)
        (λ o m. sym
        (ap (λ (r : Result (List SealedFields) NamedFault). r >>= cert_after q k i) store_is
        ∙ ap (λ (r : Result Certificate NamedFault). r >>= cert_then q i parts) cert_is
        ∙ ap (λ (r : Result (List ℕ) NamedFault). r >>= cert_last parts cert) issuer_is))
        quiet

    -- files that are read, with entries that aren't too many, are put behind a job
    pub longer_complete : (c : Command) (source : Source) (head job : List ℕ) (names : List (List ℕ)) (j : JobContents) (entries : List EntryText) → call.asked ≡ c → c ≢ commands.Usage
        → ((files : Files) (o : Result Done NamedFault) → o ≡ longer_makes source head job names (get files head) (held_under files names) → Makes c (held_by c files) o)
        → Reads call head head_in j → ReadsEntries call (entries_by source j.epoch) names entries → length j.entries + length entries ≤ limits.PUBLISHED.entries
        → NoFault call → Succeeds call ⊎ WantedMemory call
    longer_complete c source head job names j entries asked some makes (bytes, (files, told, held), is) all_read few quiet =
        let others = held_under files names in
        let head_is = read_in files told head head_in j (bytes, (files, told, held), is) in
        let entries_are = entries_back files told source j.epoch job (length j.entries) names entries all_read few in
        sure_of c files (longer_done source job names j entries) told asked
        some
        (λ o m. makes files (Ok (longer_done source job names j entries)) (sym
        (ap (λ (r : Result JobContents NamedFault). r >>= longer_after source job names others) head_is
        ∙ ap (λ (r : Result (List EntryText) NamedFault). r >>= (λ es. Ok (longer_done source job names j es))) entries_are)))
        quiet

    -- a store that says the truth of the accepted entries of jobs that are admitted is found to do so
    pub audit_complete : (a : Audit) (parts : List SealedFields) (jobs : List JobFields) → call.asked ≡ commands.Audit a
        → Reads call a.store store_in parts → ReadsJobs call a.jobs jobs → AreWithinLimits jobs → IsAudited parts jobs
        → NoFault call → Succeeds call ⊎ WantedMemory call
    audit_complete a parts jobs asked (bytes, (files, told, held), is) job_reads few audited quiet =
        let store_is = read_in files told a.store store_in parts (bytes, (files, told, held), is) in
        let jobs_are = audit_jobs_back a.jobs (held_under files a.jobs) jobs (jobs_back files told a.jobs jobs job_reads) few audited.crls in
        let d = audit_done jobs (record { entries = length (seen (left_by_jobs jobs)) }) in
        sure_of (commands.Audit a) files d told asked
        (λ none. cc)
        (λ o m. subst (λ (r : Result (List SealedFields) NamedFault). MakesAudit a r (audit_jobs a.jobs (held_under files a.jobs)) (Ok d)) (sym store_is)
        (subst (λ (js : Result (List JobFields) NamedFault). MakesAudit a (Ok parts) js (Ok d)) (sym jobs_are) (audit_makes a parts jobs audited)))
        quiet

  -- ---- all commands

  -- what comes of jobs that are rehearsed, as `histories_are_made` says it
  abbrev pub Rehearses : Type 0
  Rehearses =
      (files : Files) (r : Rehearse) (d : Done) → call.asked ≡ commands.Rehearse r
      → Makes call.asked (held_by call.asked files) (Ok d)
      → (queries : List JobQuery) × (jobs : List Published)
      × AsksToRehearse call.asked queries jobs files × IsRehearsed queries jobs × (d ≡ rehearsed queries jobs)

  pub successes : Rehearses → Ends call → IsApart call.asked → Unique call → OneOutcome → Publishable → Rebasable → Truthful → Successes call
  successes law ends apart unique one publishable anew truthful =
      record {
        query = query ends apart;
        query_cert = query_cert ends apart;
        query_cert_complete = query_cert_complete one publishable ends;
        check = check ends apart;
        show = show ends apart;
        snapshot = snapshot ends apart;
        snapshot_complete = snapshot_complete one publishable ends;
        delta = delta ends apart;
        delta_complete = delta_complete one publishable ends;
        rebase = rebase ends apart;
        rebase_complete = rebase_complete one publishable ends anew;
        start = start ends apart;
        install = install ends apart;
        rehearse = λ r did.
            let a = answers call ends did.files did.told did.succeeds in
            let l = law did.files r a.d did.asked a.makes in (
              l.0,
              l.1,
              (did.files, did.told, l.2),
              l.3,
              subst (GivesDone call) l.4 (given_done did.files did.told apart a.d a.makes a.gives),
            );
        sample = sample ends apart;
        gather = λ g did.
            let l = longer ends apart (commands.Gather g) (sources.Pages g.log) g.head g.job g.pages did (λ d m. m) in (l.0, l.1, l.2, l.3, l.5);
        gather_complete = λ g j entries asked.
            longer_complete one publishable ends (commands.Gather g) (sources.Pages g.log) g.head g.job g.pages j entries asked (λ none. cc) (λ files o m. m);
        merge = λ m did.
            let l = longer ends apart (commands.Merge m) sources.Pieces m.head m.job m.pieces did (λ d made. made) in (l.0, l.1, l.2, l.3, l.5);
        merge_complete = λ m j entries asked.
            longer_complete one publishable ends (commands.Merge m) sources.Pieces m.head m.job m.pieces j entries asked (λ none. cc) (λ files o made. made);
        cut = cut ends apart;
        cut_complete = cut_complete one publishable ends;
        audit = audit ends apart truthful;
        audit_complete = audit_complete one publishable ends;
        place = place ends apart;
        complete = λ d. given call unique ends (Ok d);
      }
