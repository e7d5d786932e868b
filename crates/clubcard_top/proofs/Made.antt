-- What comes of commands over the files of histories, from what the layers promise of histories.
use Rattle.std.proofs.Common.{◌≡◌, ℕ, ◌<◌, ◌≤◌, inl, inr, List, [], ◌∷◌, ◌++◌, map, length, Option, Some, None, Result, Ok, Err, refl, sym, ap, ◌∙◌, subst, arith}
use Rattle.std.specs.Prelude.{All}
use Rattle.std.specs.FinMap.{get}
use Rattle.std.proofs.lemmas.Bool.{le-ltb}
use Rattle.std.proofs.lemmas.List.{append-nil, length_push}
use Rattle.std.proofs.lemmas.List.Elements.{All-nil, All-cons, All-head, All-tail}
use Rattle.ident_core.specs.declared.identity.Identity.{Identity}
use Rattle.ident_core.specs.declared.kind.Kind.{Kind}
use Rattle.ident_core.specs.declared.kind.Kind.TheVariants as kinds
use Rattle.ident_core.specs.declared.range.Sighting.{Sighting}
use Rattle.ident_core.specs.HeadFields.{HeadFields}
use Rattle.octets_core.specs.Reading.{value_of}
use Rattle.outside_core.specs.Files.{Files}
use Rattle.part_text.specs.SealedFields.{SealedFields}
use Rattle.part_text.specs.PartText.{spelling}
use Rattle.part_text.specs.PartLayout.{part}
use Rattle.part_text.specs.Fitting.{Fits}
use Rattle.job_core.specs.declared.bounds.TheConstants.Limits.{PUBLISHED}
use Rattle.job_core.specs.JobFields.{JobFields}
use Rattle.job_core.specs.JobMeaning.{job_of}
use Rattle.job_core.specs.Fitting.{FitsFields, FitsPublishing, IsWithinLimits}
use Rattle.ledger_core.specs.LedgerFields.{LedgerFields}
use Rattle.ledger_core.specs.LedgerReading.{ledger_of_bytes}
use Rattle.ledger_core.specs.declared.fault.LedgerFault.{LedgerFault}
use Rattle.ident_core.specs.Among.{Among}
use Rattle.universe_core.specs.Formats.{in_format}
use Rattle.universe_core.specs.Jobs.{facts_of}
use Rattle.universe_core.specs.History.{past_of, seen, sightings}
use Rattle.universe_core.specs.Counting.{counts}
use Rattle.universe_core.specs.Ledgers.{no_ledger, ledger_of}
use Rattle.store_core.specs.declared.chain.Refusal.{Refusal}
use Rattle.store_core.specs.declared.fault.StoreFault.{StoreFault}
use Rattle.card_core.specs.declared.verdict.Verdict.{Verdict}
use Rattle.store_core.specs.Chain.{newest_of, refusal_of, IsChain}
use Rattle.store_core.specs.StoreLayout.{store, store_text}
use Rattle.card_core.specs.Verdict.{verdict}
use Rattle.publication_core.specs.declared.fault.PublishFault.{PublishFault}
use Rattle.publication_core.specs.Formats.{current}
use Rattle.publication_core.specs.Histories.{IsAdmissible, History, of_jobs, members, with_job, IsHistory, parts_of, releases_of, part_bytes, ledger_bytes, store_bytes}
use Rattle.publication_core.specs.Histories.{old_ledger_bytes, IsUndated}
use Rattle.publication_core.specs.Publishing.{PublicationFields, Publishes}
use Rattle.publication_core.specs.Truth.{truth}
use Rattle.word_core.specs.declared.command.Command.{Command}
use Rattle.word_core.specs.declared.command.Command.TheVariants as commands
use Rattle.word_core.specs.declared.command.{Query.Query, QueryCert.QueryCert, Start.Start, Install.Install}
use Rattle.line_core.specs.Lines.{line, store_line}
use Rattle.input_core.specs.declared.certificates.Certificate.{Certificate}
use Rattle.input_core.specs.declared.fault.FileFault.{FileFault}
use Rattle.input_core.specs.Faults.{of_job, of_ledger, of_store}
use Rattle.input_core.specs.PartFile.{part_file}
use Rattle.input_core.specs.Readings.{faulted, job_in, ledger_in, part_in, store_in}
use Rattle.input_core.specs.Certificates.{certificate_in, issuer_in}
use Rattle.command_core.specs.ReplyFields.{Done, NamedFault}
use Rattle.store_core.specs.Newest.{epoch_of}
use Rattle.command_core.specs.Commands.{◌>>=◌, named, input, only, verdict_word, query_done, query_makes, query_cert_makes, stored, begun_by, installed_by, start_makes}
use Rattle.command_core.specs.Commands.{install_makes, publication_done, published_as, MakesPart, MakesSnapshot, MakesDelta, Makes}
use Rattle.command_core.specs.Replies.{held_by}
use Rattle.clubcard_top.specs.Headline.{HoldsJob, HoldsLedger, AsksToContinue, Continues, done_by, AsksToStore, stores_to, Stored, AsksStore, AsksTruth, truth_done}
use Rattle.clubcard_top.specs.Headline.{HoldsCert, HoldsKey, AsksCertTruth, cert_truth_line}
use Rattle.clubcard_top.proofs.CertTruth.{certificate_read, issuer_read, truth_of_covered}
use Rattle.command_core.proofs.Following.{cert_last, cert_then, cert_after}
use Rattle.command_core.proofs.Results.{ok_same}
use Rattle.command_core.proofs.Unique.{Publishing}

-- The ledger of a history is read back, in either version.
pub record ReadBack : Type 0 where
  pub value : (h : History) → IsHistory h → 1 ≤ members h → ledger_of_bytes (ledger_bytes h) ≡ Ok (ledger_of (releases_of h))
  pub old_value : (h : History) → IsHistory h → 1 ≤ members h → IsUndated h
      → ledger_of_bytes (old_ledger_bytes h) ≡ Ok (ledger_of (releases_of h))

-- What the layers promise of histories.
pub record Layers : Type 0 where
  pub publishing : Publishing
  pub none : ledger_of (releases_of (of_jobs [])) ≡ no_ledger
  pub admissible : (h : History) (job : JobFields) (p : PublicationFields) → IsHistory h → FitsPublishing job → IsWithinLimits PUBLISHED job
      → Publishes (ledger_of (releases_of h)) job (Ok p) → IsAdmissible (releases_of h) (in_format current job)
  pub next : (h : History) (job : JobFields) (p : PublicationFields) → IsHistory h → FitsPublishing job → IsWithinLimits PUBLISHED job
      → Publishes (ledger_of (releases_of h)) job (Ok p) → IsHistory (with_job h (in_format current job) p.sealed)
  pub ledger : (h : History) (job : JobFields) (p : PublicationFields) → IsHistory h
      → Publishes (ledger_of (releases_of h)) job (Ok p) → p.ledger ≡ ledger_of (releases_of (with_job h (in_format current job) p.sealed))
  pub numbers : (h : History) (job : JobFields) (p : PublicationFields) → IsHistory h
      → Publishes (ledger_of (releases_of h)) job (Ok p) → p.counts ≡ counts (past_of (releases_of h)) (facts_of job)
  pub place : (h : History) (job : JobFields) (p : PublicationFields) → IsHistory h
      → Publishes (ledger_of (releases_of h)) job (Ok p) → p.place ≡ members h
  pub ledgers : ReadBack
  pub chain : (h : History) → IsHistory h → IsChain (parts_of h)
  pub few : (h : History) → IsHistory h → members h ≤ 64
  pub texts : (h : History) → IsHistory h → All Fits (parts_of h)
  pub truths : (h : History) (x : Identity) (ss : List Sighting) → IsHistory h → 1 ≤ length ss
      → ((s : Sighting) → Among ss s → Among (sightings x (seen (releases_of h))) s) → verdict (map (λ s. s.part) (parts_of h)) x ss ≡ truth (releases_of h) x
  pub grown : (parts : List SealedFields) (p : SealedFields) → IsChain (parts ++ p ∷ []) → 1 ≤ length parts → length parts < 64 → IsChain parts × (refusal_of parts p ≡ None)
  pub store_read : (parts : List SealedFields) → IsChain parts → 1 ≤ length parts → length parts ≤ 64 → All Fits parts → value_of (store (store_text parts) 0) ≡ Ok parts
  pub part_read : (s : SealedFields) (rest : List ℕ) → Fits s → part (spelling s ++ rest) 0 ≡ Ok (s, length (spelling s))

-- ---- publishing

read_job : (bytes : List ℕ) (job : JobFields) → job_of PUBLISHED bytes ≡ Ok job → job_in bytes ≡ Ok job
read_job bytes job h = ap (faulted of_job) h

pub job_input : (files : Files) (name : List ℕ) (job : JobFields) → HoldsJob files name job → input name job_in (get files name) ≡ Ok job
job_input files name job h = rw h.1 (ap (named name) (read_job h.0 job h.2))

pub ledger_input : ReadBack → (files : Files) (name : List ℕ) (h : History) → IsHistory h → 1 ≤ members h → HoldsLedger files name h
    → input name ledger_in (get files name) ≡ Ok (ledger_of (releases_of h))
ledger_input back files name h is some (inl held) =
    rw held (ap (λ (r : Result LedgerFields LedgerFault). named name (faulted of_ledger r)) (back.value h is some))
ledger_input back files name h is some (inr held) =
    rw held.0 (ap (λ (r : Result LedgerFields LedgerFault). named name (faulted of_ledger r)) (back.old_value h is some held.1))

module _ (layers : Layers) where
  -- what is published behind the ledger of a history continues it
  published_by : (asked : Command) (h : History) (job : JobFields) (d : Done) (name part ledger : List ℕ) (before : LedgerFields) → IsHistory h
      → before ≡ ledger_of (releases_of h) → ((p : PublicationFields) → done_by asked p ≡ publication_done part ledger p)
      → (fits : FitsFields job) (limits : IsWithinLimits PUBLISHED job) (r : Result PublicationFields PublishFault) → Publishes before job r
      → Ok d ≡ published_as name part ledger r → (made : PublicationFields) × Continues h job made × (d ≡ done_by asked made)
  published_by asked h job d name part ledger before is ledger_is outputs fits limits (Ok p) pub_ is_done =
      let x : Publishes (ledger_of (releases_of h)) job (Ok p) = subst (λ (l : LedgerFields). Publishes l job (Ok p)) ledger_is pub_ in (
        p,
        record {
          fits = fits;
          admissible = layers.admissible h job p is fits.publishing limits x;
          is_history = layers.next h job p is fits.publishing limits x;
          ledger = layers.ledger h job p is x;
          epoch = ap (λ (head : HeadFields). head.epoch) x.1.head_is;
          place = layers.place h job p is x;
          counts = layers.numbers h job p is x;
        },
        ok_same {E = NamedFault} d (publication_done part ledger p) is_done ∙ sym (outputs p),
      )
  published_by asked h job d name part ledger before is ledger_is outputs fits limits (Err fault) pub_ is_done =
      absurd (let h : ◌≡◌ {A = Result Done NamedFault} (Ok d) (published_as name part ledger (Err fault)) = is_done in cc)

  -- what a command that continues a history makes
  pub record Behind (asked : Command) (h : History) (job : JobFields) (o : Result Done NamedFault) : Type 0 where
    pub name : List ℕ
    pub part_name : List ℕ
    pub ledger_name : List ℕ
    pub before : LedgerFields
    pub is_before : before ≡ ledger_of (releases_of h)
    pub outputs : (p : PublicationFields) → done_by asked p ≡ publication_done part_name ledger_name p
    pub makes : MakesPart name part_name ledger_name before job o

  behind : (asked : Command) (files : Files) (h : History) (job : JobFields) (o : Result Done NamedFault)
      → IsHistory h → AsksToContinue asked h job files
      → Makes asked (held_by asked files) o → Behind asked h job o
  behind (commands.Snapshot s) files h job o is p m = record {
    name = s.job;
    part_name = s.part;
    ledger_name = s.ledger;
    before = no_ledger;
    is_before = sym layers.none ∙ ap (λ (k : History). ledger_of (releases_of k)) (sym p.0);
    outputs = λ p. refl;
    makes = subst (λ (r : Result JobFields NamedFault). MakesSnapshot s r o) (job_input files s.job job p.1) m;
  }
  behind (commands.Delta t) files h job o is p m = record {
    name = t.job;
    part_name = t.part;
    ledger_name = t.new_ledger;
    before = ledger_of (releases_of h);
    is_before = refl;
    outputs = λ p. refl;
    makes = subst (λ (l : Result LedgerFields NamedFault). MakesDelta t (Ok job) l o) (ledger_input layers.ledgers files t.ledger h is p.0 p.1)
        (subst (λ (r : Result JobFields NamedFault). MakesDelta t r (input t.ledger ledger_in (get files t.ledger)) o) (job_input files t.job job p.2) m);
  }
  behind asked files h job o is p m = absurd p

  pub published : (asked : Command) (files : Files) (h : History) (job : JobFields) (d : Done) → IsHistory h → AsksToContinue asked h job files
      → Makes asked (held_by asked files) (Ok d) → (made : PublicationFields) × Continues h job made × (d ≡ done_by asked made)
  published asked files h job d is p m =
      let b = behind asked files h job (Ok d) is p m in
      published_by asked h job d b.name b.part_name b.ledger_name b.before is b.is_before b.outputs b.makes.fits b.makes.limits b.makes.result b.makes.publishes b.makes.is

  sure_done : (name part ledger : List ℕ) (before : LedgerFields) (job : JobFields) (o : Result Done NamedFault) (p : PublicationFields) → Publishes before job (Ok p) → (r : Result PublicationFields PublishFault)
      → Publishes before job r → o ≡ published_as name part ledger r → (d : Done) × (o ≡ Ok d)
  sure_done name part ledger before job o p x (Ok q) y is = (publication_done part ledger q, is)
  sure_done name part ledger before job o p x (Err fault) y is =
      absurd (let h : ◌≡◌ {A = Result PublicationFields PublishFault} (Ok p) (Err fault) = layers.publishing.one before job (Ok p) (Err fault) x y in cc)

  pub admitted : (asked : Command) (files : Files) (h : History) (job : JobFields) (o : Result Done NamedFault)
      → IsHistory h → AsksToContinue asked h job files
      → IsAdmissible (releases_of h) (in_format current job) → Makes asked (held_by asked files) o → (d : Done) × (o ≡ Ok d)
  admitted asked files h job o is p a m =
      let b = behind asked files h job o is p m in
      let x = layers.publishing.complete h job is a in
      sure_done b.name b.part_name b.ledger_name b.before job o x.0 (subst (λ (l : LedgerFields). Publishes l job (Ok x.0)) (sym b.is_before) x.1) b.makes.result b.makes.publishes b.makes.is

  -- ---- stores

  part_text_read : (s : SealedFields) → Fits s → part (spelling s) 0 ≡ Ok (s, length (spelling s))
  part_text_read s fits = ap (λ (b : List ℕ). part b 0) (sym (append-nil (spelling s))) ∙ layers.part_read s [] fits

  part_text : (s : SealedFields) → Fits s → part_in (spelling s) ≡ Ok (s, length (spelling s))
  unfolding part_file
  part_text s fits =
      rw (part_text_read s fits, le-ltb (length (spelling s)) (length (spelling s)) (omega arith)) refl

  part_input : (files : Files) (name : List ℕ) (s : SealedFields) → Fits s → get files name ≡ Some (part_bytes s) → input name part_in (get files name) ≡ Ok (s, length (spelling s))
  part_input files name s fits held = rw held (ap (named name) (part_text s fits))

  store_input : (files : Files) (name : List ℕ) (parts : List SealedFields) → IsChain parts → 1 ≤ length parts → length parts ≤ 64 → All Fits parts → get files name ≡ Some (store_bytes parts)
      → input name store_in (get files name) ≡ Ok parts
  store_input files name parts chain some few fits held = rw held (ap (λ (r : Result (List SealedFields) StoreFault). named name (faulted of_store r)) (layers.store_read parts chain some few fits))

  newest_push : (parts : List SealedFields) (s : SealedFields) → newest_of (parts ++ s ∷ []) ≡ Some s
  newest_push [] s = refl
  newest_push (p ∷ []) s = refl
  newest_push (p ∷ q ∷ parts) s = newest_push (q ∷ parts) s

  -- all but the last, and the last
  front_fits : (parts : List SealedFields) (s : SealedFields) → All Fits (parts ++ s ∷ []) → All Fits parts
  front_fits [] s all = All-nil Fits
  front_fits (p ∷ parts) s all = All-cons Fits p parts (All-head Fits p (parts ++ s ∷ []) all) (front_fits parts s (All-tail Fits p (parts ++ s ∷ []) all))

  last_fits : (parts : List SealedFields) (s : SealedFields) → All Fits (parts ++ s ∷ []) → Fits s
  last_fits [] s all = All-head Fits s [] all
  last_fits (p ∷ parts) s all = last_fits parts s (All-tail Fits p (parts ++ s ∷ []) all)

  stored_is : (asked : Command) (name : List ℕ) (parts : List SealedFields) (s : SealedFields) (o : Result Done NamedFault)
      → ((b : List ℕ) → stores_to asked b ≡ record { name = name; bytes = b } ∷ [])
      → o ≡ Ok (stored name (parts ++ s ∷ [])) → (d : Done) × (o ≡ Ok d) × Stored asked parts s d
  stored_is asked name parts s o outputs is = (
    stored name (parts ++ s ∷ []),
    is,
    record {
      outputs = sym (outputs (store_bytes (parts ++ s ∷ [])));
      text = ap (λ (n : Option SealedFields). store_line (length (parts ++ s ∷ [])) (epoch_of n)) (newest_push parts s);
    },
  )

  begun_with : (s : SealedFields) (kind : Kind) → kind ≡ kinds.Snapshot → begun_by s kind ≡ Ok (s ∷ [])
  begun_with s kinds.Snapshot h = refl
  begun_with s kinds.Delta h = absurd cc

  start_stored : (t : Start) (files : Files) (h : History) (s : SealedFields) (o : Result Done NamedFault) → IsHistory h → parts_of h ≡ s ∷ [] → get files t.part ≡ Some (part_bytes s)
      → o ≡ start_makes t (get files t.part) → o ≡ Ok (stored t.store (s ∷ []))
  start_stored t files h s o is are held m =
      let fits : Fits s = All-head Fits s [] (subst (All Fits) are (layers.texts h is)) in
      m ∙ ap (λ (r : Result (SealedFields × ℕ) NamedFault). r >>= (λ x. named t.part (begun_by x.0 x.0.part.head.kind) >>= (λ parts. Ok (stored t.store parts)))) (part_input files t.part s fits held)
      ∙ ap (λ (r : Result (List SealedFields) FileFault). named t.part r >>= (λ parts. Ok (stored t.store parts))) (begun_with s s.part.head.kind (subst IsChain are (layers.chain h is)).0)

  install_stored : (i : Install) (files : Files) (h : History) (parts : List SealedFields) (s : SealedFields) (o : Result Done NamedFault)
      → IsHistory h → parts_of h ≡ parts ++ s ∷ [] → 1 ≤ length parts
      → get files i.store ≡ Some (store_bytes parts) → get files i.part ≡ Some (part_bytes s) → o ≡ install_makes i (get files i.store) (get files i.part)
      → o ≡ Ok (stored i.new_store (parts ++ s ∷ []))
  install_stored i files h parts s o is are some store_held part_held m =
      let few : length parts < 64 = omega (arith, layers.few h is, ap length are, length_push parts s) in
      let grown = layers.grown parts s (subst IsChain are (layers.chain h is)) some few in
      let all = subst (All Fits) are (layers.texts h is) in
      m ∙ ap (λ (r : Result (List SealedFields) NamedFault). r >>=
      (λ ps. input i.part part_in (get files i.part) >>= (λ x. named i.part (installed_by (refusal_of ps x.0) ps x.0) >>=
      (λ more. Ok (stored i.new_store more)))))
      (store_input files i.store parts grown.0 some (omega (arith, few)) (front_fits parts s all) store_held)
      ∙ ap (λ (r : Result (SealedFields × ℕ) NamedFault). r >>=
      (λ x. named i.part (installed_by (refusal_of parts x.0) parts x.0) >>= (λ more. Ok (stored i.new_store more))))
      (part_input files i.part s (last_fits parts s all) part_held)
      ∙ ap (λ (why : Option Refusal). named i.part (installed_by why parts s) >>= (λ more. Ok (stored i.new_store more))) grown.1

  pub stored_law : (asked : Command) (files : Files) (h : History) (parts : List SealedFields) (s : SealedFields) (o : Result Done NamedFault) → IsHistory h
      → parts_of h ≡ parts ++ s ∷ [] → AsksToStore asked parts s files → Makes asked (held_by asked files) o → (d : Done) × (o ≡ Ok d) × Stored asked parts s d
  stored_law (commands.Start t) files h [] s o is are p m = stored_is (commands.Start t) t.store [] s o (λ b. refl) (start_stored t files h s o is are p.1 m)
  stored_law (commands.Start t) files h (q ∷ parts) s o is are p m = absurd (let h : ◌≡◌ {A = List SealedFields} (q ∷ parts) [] = p.0 in cc)
  stored_law (commands.Install i) files h parts s o is are p m = stored_is (commands.Install i) i.new_store parts s o (λ b. refl) (install_stored i files h parts s o is are p.0 p.1 p.2 m)
  stored_law asked files h parts s o is are p m = absurd p

  -- ---- asking

  pub told_law : (asked : Command) (files : Files) (q : Query) (h : History) (o : Result Done NamedFault)
      → IsHistory h → AsksStore asked q h files → Makes asked (held_by asked files) o → o ≡ Ok (query_done q (parts_of h))
  told_law asked files q h o is p m =
      let made : o ≡ query_makes q (get files q.store) = subst (λ (c : Command). Makes c (held_by c files) o) p.0 m in
      made ∙ ap (λ (r : Result (List SealedFields) NamedFault). r >>= (λ ps. Ok (query_done q ps)))
      (store_input files q.store (parts_of h) (layers.chain h is) p.1 (layers.few h is) (layers.texts h is) p.2)

  pub asked_law : (asked : Command) (files : Files) (q : Query) (h : History) (o : Result Done NamedFault)
      → IsHistory h → AsksTruth asked q h files
      → Makes asked (held_by asked files) o → o ≡ Ok (truth_done h q)
  asked_law asked files q h o is p m =
      told_law asked files q h o is (p.0, p.1, p.2) m
      ∙ ap (λ (v : Verdict). Ok (only (line (verdict_word v)))) (layers.truths h q.id q.sightings is p.3 p.4)

  -- ---- asking with a certificate

  cert_input : (files : Files) (name serial : List ℕ) (ss : List Sighting) → HoldsCert files name serial ss
      → input name certificate_in (get files name) ≡ Ok (record { serial = serial; scts = ss })
  cert_input files name serial ss (bytes, held, is, has) = rw held (ap (named name) (certificate_read bytes serial ss is has))

  issuer_input : (files : Files) (name hash : List ℕ) → HoldsKey files name hash → input name issuer_in (get files name) ≡ Ok hash
  issuer_input files name hash (bytes, key, held, small, has, is) = rw held (ap (named name) (issuer_read bytes key hash small has is))

  cert_asked : (files : Files) (q : QueryCert) (x : Identity) (ss : List Sighting) (h : History) (o : Result Done NamedFault)
      → IsHistory h → AsksCertTruth (commands.QueryCert q) q x ss h files
      → o ≡ query_cert_makes q (get files q.store) (get files q.cert) (get files q.issuer_cert) → o ≡ Ok (only (cert_truth_line h x))
  cert_asked files q x ss h o is a m =
      let cert : Certificate = record { serial = x.serial; scts = ss } in
      m ∙ ap (λ (r : Result (List SealedFields) NamedFault). r >>= cert_after q (get files q.cert) (get files q.issuer_cert))
      (store_input files q.store (parts_of h) (layers.chain h is) a.some (layers.few h is) (layers.texts h is) a.store)
      ∙ ap (λ (r : Result Certificate NamedFault). r >>= cert_then q (get files q.issuer_cert) (parts_of h)) (cert_input files q.cert x.serial ss a.cert)
      ∙ ap (λ (r : Result (List ℕ) NamedFault). r >>= cert_last (parts_of h) cert) (issuer_input files q.issuer_cert x.issuer a.issuer)
      ∙ ap (λ (v : Verdict). Ok (only (line (verdict_word v)))) (truth_of_covered layers.truths h x ss is a.one a.covered)

  pub cert_law : (asked : Command) (files : Files) (q : QueryCert) (x : Identity) (ss : List Sighting) (h : History)
      (o : Result Done NamedFault) → IsHistory h → AsksCertTruth asked q x ss h files
      → Makes asked (held_by asked files) o → o ≡ Ok (only (cert_truth_line h x))
  cert_law asked files q x ss h o is a m =
      let b : AsksCertTruth (commands.QueryCert q) q x ss h files = subst (λ (c : Command). AsksCertTruth c q x ss h files) a.is a in
      cert_asked files q x ss h o is b (subst (λ (c : Command). Makes c (held_by c files) o) a.is m)
