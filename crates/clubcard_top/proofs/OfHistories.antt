-- What a call does for a history.
use Rattle.std.proofs.Common.{◌≡◌, ℕ, List, [], ◌∷◌, ◌++◌, Some, Result, Ok, sym, subst, ◌∙◌}
use Rattle.outside_core.specs.Files.{Files}
use Rattle.ident_core.specs.declared.identity.Identity.{Identity}
use Rattle.ident_core.specs.declared.range.Sighting.{Sighting}
use Rattle.input_core.specs.Queries.{Query}
use Rattle.job_core.specs.JobFields.{JobFields}
use Rattle.card_core.specs.declared.verdict.Verdict.TheVariants.{NotEnrolled}
use Rattle.ident_core.specs.Among.{Among}
use Rattle.universe_core.specs.Formats.{in_format}
use Rattle.universe_core.specs.Jobs.{Entry}
use Rattle.universe_core.specs.History.{seen}
use Rattle.part_text.specs.SealedFields.{SealedFields}
use Rattle.publication_core.specs.Formats.{current}
use Rattle.publication_core.specs.Histories.{Published, IsAdmissible, History, of_jobs, with_job, IsHistory, parts_of, releases_of, LeavesOut}
use Rattle.publication_core.specs.Publishing.{PublicationFields}
use Rattle.publication_core.specs.Rebasing.{BasePublicationFields}
use Rattle.word_core.specs.declared.command.Command.{Command}
use Rattle.word_core.specs.declared.command.Command.TheVariants as commands
use Rattle.word_core.specs.declared.command.{Query.Query as StoreQuery, QueryCert.QueryCert, Rebase.Rebase}
use Rattle.line_core.specs.Lines.{line}
use Rattle.command_core.specs.ReplyFields.{Done, NamedFault}
use Rattle.command_core.specs.Commands.{only, verdict_word}
use Rattle.command_core.specs.Commands.{rehearsed, Makes}
use Rattle.command_core.specs.Rebasings.{cut_without, base_done}
use Rattle.command_core.specs.Replies.{held_by}
use Rattle.clubcard_top.specs.Calls.{Call, Found, Prints}
use Rattle.clubcard_top.specs.Endings.{Succeeds, GivesDone, MustSucceed, Ends}
use Rattle.place_core.specs.Cuts.{Cut}
use Rattle.clubcard_top.specs.Headline.{AsksTruth, Continues, done_by, Stored, AsksToContinue, AsksToRehearse}
use Rattle.clubcard_top.specs.Headline.{AsksToStore, truth_line, truth_done}
use Rattle.clubcard_top.specs.Headline.{AsksCertTruth, cert_truth_line}
use Rattle.clubcard_top.specs.Headline.{AsksToRebase, BeginsAnew, IsRebasableCut, base_of, AsksTheBase, AsksOfLeftOut, Brings}
use Rattle.clubcard_top.specs.Promises.{Histories}
use Rattle.command_core.proofs.Results.{ok_same}
use Rattle.clubcard_top.proofs.Promised.{answers, sure}
use Rattle.word_core.specs.Names.{IsApart}
use Rattle.clubcard_top.proofs.Succeeded.{given_done}

module _ (call : Call) where
  -- the laws of what comes of a command over files, as `histories_are_made` and `bases_are_made` say them
  pub record Laws : Type 0 where
    pub published : (files : Files) (h : History) (job : JobFields) (d : Done)
        → IsHistory h → AsksToContinue call.asked h job files
        → Makes call.asked (held_by call.asked files) (Ok d)
        → (made : PublicationFields) × Continues h job made × (d ≡ done_by call.asked made)
    pub admitted : (files : Files) (h : History) (job : JobFields)
        (o : Result Done NamedFault) → IsHistory h → AsksToContinue call.asked h job files
        → IsAdmissible (releases_of h) (in_format current job) → Makes call.asked (held_by call.asked files) o → (d : Done)
        × (o ≡ Ok d)
    pub stored : (files : Files) (h : History) (parts : List SealedFields) (s : SealedFields)
        (o : Result Done NamedFault) → IsHistory h → parts_of h ≡ parts ++ s ∷ [] → AsksToStore call.asked parts s files
        → Makes call.asked (held_by call.asked files) o → (d : Done) × (o ≡ Ok d) × Stored call.asked parts s d
    pub asks : (files : Files) (q : StoreQuery) (h : History)
        (o : Result Done NamedFault) → IsHistory h → AsksTruth call.asked q h files
        → Makes call.asked (held_by call.asked files) o → o ≡ Ok (truth_done h q)
    pub certifies : (files : Files) (q : QueryCert) (x : Identity) (ss : List Sighting) (h : History) (o : Result Done NamedFault) → IsHistory h
        → AsksCertTruth call.asked q x ss h files
        → Makes call.asked (held_by call.asked files) o → o ≡ Ok (only (cert_truth_line h x))
    pub rebases : (files : Files) (r : Rebase) (h : History) (d : Done)
        → IsHistory h → AsksToRebase call.asked r h files
        → Makes call.asked (held_by call.asked files) (Ok d)
        → (made : BasePublicationFields) × BeginsAnew h r.moment (cut_without r.left) made × (d ≡ base_done r made)
    pub rebasable : (files : Files) (r : Rebase) (h : History)
        (o : Result Done NamedFault) → IsHistory h → AsksToRebase call.asked r h files
        → IsRebasableCut r.moment (cut_without r.left) h → Makes call.asked (held_by call.asked files) o → (d : Done) × (o ≡ Ok d)
    pub keeps : (files : Files) (q : StoreQuery) (h : History) (moment : ℕ)
        (cut : Cut) (s : SealedFields) (o : Result Done NamedFault)
        → IsHistory (base_of h moment cut s) → AsksTheBase call.asked q h moment cut s files
        → Makes call.asked (held_by call.asked files) o → o ≡ Ok (truth_done h q)
    pub leaves : (files : Files) (q : StoreQuery) (h : History)
        (o : Result Done NamedFault) → IsHistory h → AsksOfLeftOut call.asked q h files
        → Makes call.asked (held_by call.asked files) o → o ≡ Ok (only (line (verdict_word NotEnrolled)))
    pub comes_back : (h : History) (job : JobFields) (s : SealedFields) (e : Entry)
        → IsHistory h → LeavesOut h e.id.issuer → Brings job e
        → Among (seen (releases_of (with_job h (in_format current job) s))) e
    pub follows : (files : Files) (queries : List Query) (jobs : List Published)
        (o : Result Done NamedFault) → IsHistory (of_jobs jobs) → AsksToRehearse call.asked queries jobs files
        → Makes call.asked (held_by call.asked files) o → o ≡ Ok (rehearsed queries jobs)

  module _ (laws : Laws) (ends : Ends call) (apart : IsApart call.asked) where
    -- what came of the command is given
    came : (files : Files) → call.files_before ≡ Some files → Succeeds call
        → (d : Done) × Makes call.asked (held_by call.asked files) (Ok d) × GivesDone call d
    came files told zero =
        let a = answers call ends files told zero in
        (a.d, a.makes, given_done call files told apart a.d a.makes a.gives)

    -- the text of what must come of it is printed
    prints : (files : Files) → call.files_before ≡ Some files → (said : Done)
        → ((o : Result Done NamedFault) → Makes call.asked (held_by call.asked files) o → o ≡ Ok said) → Succeeds call → Prints call said.text
    prints files told said law zero =
        let a = came files told zero in
        subst (λ (d : Done). Prints call d.text) (ok_same {E = NamedFault} a.0 said (law (Ok a.0) a.1)) a.2.gives.text

    published : (h : History) (job : JobFields) → IsHistory h → Found call (AsksToContinue call.asked h job) → Succeeds call
        → (made : PublicationFields) × Continues h job made × GivesDone call (done_by call.asked made)
    published h job is_history (files, told, p) zero =
        let a = came files told zero in
        let l = laws.published files h job a.0 is_history p a.1 in
        (l.0, l.1, subst (GivesDone call) l.2 a.2)

    admitted : (h : History) (job : JobFields) → IsHistory h
        → Found call (AsksToContinue call.asked h job) → IsAdmissible (releases_of h) (in_format current job) → MustSucceed call
    admitted h job is_history (files, told, p) may quiet =
        sure call ends files told (λ none. subst (λ (c : Command). AsksToContinue c h job files) none p)
        (λ o m. laws.admitted files h job o is_history p may m) quiet

    rebased_clause : (r : Rebase) (h : History)
        → IsHistory h → Found call (AsksToRebase call.asked r h) → Succeeds call
        → (made : BasePublicationFields) × BeginsAnew h r.moment (cut_without r.left) made × GivesDone call (base_done r made)
    rebased_clause r h is_history (files, told, p) zero =
        let a = came files told zero in
        let l = laws.rebases files r h a.0 is_history p a.1 in
        (l.0, l.1, subst (GivesDone call) l.2 a.2)

    rebasable : (r : Rebase) (h : History) → IsHistory h
        → Found call (AsksToRebase call.asked r h) → IsRebasableCut r.moment (cut_without r.left) h → MustSucceed call
    rebasable r h is_history (files, told, p) may quiet =
        sure call ends files told (λ none. let g : commands.Rebase r ≡ commands.Usage = sym p.0 ∙ none in cc)
        (λ o m. laws.rebasable files r h o is_history p may m) quiet

    stored_clause : (h : History) (parts : List SealedFields) (s : SealedFields) → IsHistory h → parts_of h ≡ parts ++ s ∷ []
        → Found call (AsksToStore call.asked parts s) → Succeeds call → (d : Done) × Stored call.asked parts s d × GivesDone call d
    stored_clause h parts s is_history are (files, told, p) zero =
        let a = came files told zero in
        let l = laws.stored files h parts s (Ok a.0) is_history are p a.1 in
        (a.0, subst (Stored call.asked parts s) (sym (ok_same {E = NamedFault} a.0 l.0 l.1)) l.2, a.2)

    taken : (h : History) (parts : List SealedFields) (s : SealedFields) → IsHistory h → parts_of h ≡ parts ++ s ∷ []
        → Found call (AsksToStore call.asked parts s) → MustSucceed call
    taken h parts s is_history are (files, told, p) quiet =
        sure call ends files told (λ none. subst (λ (c : Command). AsksToStore c parts s files) none p)
        (λ o m. let l = laws.stored files h parts s o is_history are p m in (l.0, l.1)) quiet

    truth_clause : (q : StoreQuery) (h : History) → IsHistory h
        → Found call (AsksTruth call.asked q h) → Succeeds call → Prints call (truth_line h q)
    truth_clause q h is_history (files, told, p) = prints files told (truth_done h q) (λ o m. laws.asks files q h o is_history p m)

    kept_clause : (q : StoreQuery) (h : History) (moment : ℕ) (cut : Cut)
        (s : SealedFields) → IsHistory (base_of h moment cut s)
        → Found call (AsksTheBase call.asked q h moment cut s) → Succeeds call → Prints call (truth_line h q)
    kept_clause q h moment cut s is_history (files, told, p) =
        prints files told (truth_done h q) (λ o m. laws.keeps files q h moment cut s o is_history p m)

    left_out_clause : (q : StoreQuery) (h : History) → IsHistory h
        → Found call (AsksOfLeftOut call.asked q h) → Succeeds call → Prints call (line (verdict_word NotEnrolled))
    left_out_clause q h is_history (files, told, p) =
        prints files told (only (line (verdict_word NotEnrolled))) (λ o m. laws.leaves files q h o is_history p m)

    answered : (q : StoreQuery) (h : History) → IsHistory h
        → Found call (AsksTruth call.asked q h) → MustSucceed call
    answered q h is_history (files, told, p) quiet =
        sure call ends files told (λ none. let g : commands.Query q ≡ commands.Usage = sym p.0 ∙ none in cc)
        (λ o m. (truth_done h q, laws.asks files q h o is_history p m)) quiet

    cert_truth : (q : QueryCert) (x : Identity) (ss : List Sighting) (h : History) → IsHistory h → Found call (AsksCertTruth call.asked q x ss h) → Succeeds call
        → Prints call (cert_truth_line h x)
    cert_truth q x ss h is_history (files, told, p) =
        prints files told (only (cert_truth_line h x)) (λ o m. laws.certifies files q x ss h o is_history p m)

    cert_answered : (q : QueryCert) (x : Identity) (ss : List Sighting) (h : History) → IsHistory h → Found call (AsksCertTruth call.asked q x ss h) → MustSucceed call
    cert_answered q x ss h is_history (files, told, p) quiet =
        sure call ends files told (λ none. let g : commands.QueryCert q ≡ commands.Usage = sym p.is ∙ none in cc)
        (λ o m. (only (cert_truth_line h x), laws.certifies files q x ss h o is_history p m)) quiet

    followed : (queries : List Query) (jobs : List Published) → IsHistory (of_jobs jobs)
        → Found call (AsksToRehearse call.asked queries jobs) → MustSucceed call
    followed queries jobs is_history (files, told, p) quiet =
        sure call ends files told (λ none. subst (λ (c : Command). AsksToRehearse c queries jobs files) none p)
        (λ o m. (rehearsed queries jobs, laws.follows files queries jobs o is_history p m)) quiet

    pub histories : Histories call
    histories = record {
      published = published;
      admitted = admitted;
      rebased = rebased_clause;
      rebasable = rebasable;
      stored = stored_clause;
      taken = taken;
      truth = truth_clause;
      answered = answered;
      kept = kept_clause;
      left_out = left_out_clause;
      comes_back = λ h job made e is left b continues. laws.comes_back h job made.sealed e is left b;
      cert_truth = cert_truth;
      cert_answered = cert_answered;
      followed = followed;
    }
