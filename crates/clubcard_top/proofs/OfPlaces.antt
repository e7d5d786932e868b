-- What a call does where a history is cut into places: by what it does for histories, and by the laws of cuts.
use Rattle.std.proofs.Common.{◌≡◌, ℕ, zero, suc, ◌+◌, ◌<◌, ◌≤◌, Bool, true, false, List, [], ◌∷◌, ◌++◌, map, length, get_or, Some, Result, Ok, Err}
use Rattle.std.proofs.Common.{refl, sym, ap, ◌∙◌, subst, length-append, inl, inr, arith, All}
use Rattle.std.specs.List.{AllZip}
use Rattle.std.specs.Prelude.{flat_map, slice_get, ◌==◌, if◌then◌else◌}
use Rattle.std.specs.FinMap.{get}
use Rattle.std.proofs.lemmas.Bool.{eqb-true}
use Rattle.std.proofs.lemmas.List.Elements.{All-nil, All-cons, All-head, All-tail}
use Rattle.ident_core.specs.declared.identity.Identity.{Identity}
use Rattle.ident_core.specs.declared.range.Sighting.{Sighting}
use Rattle.ident_core.specs.Among.{Among}
use Rattle.ident_core.proofs.Elements.{some_item}
use Rattle.outside_core.specs.Files.{Files}
use Rattle.card_core.specs.PartFields.{PartFields}
use Rattle.card_core.specs.declared.verdict.Verdict.{Verdict}
use Rattle.card_core.specs.Verdict.{verdict}
use Rattle.part_text.specs.SealedFields.{SealedFields}
use Rattle.job_core.specs.declared.bounds.Limits.{Limits}
use Rattle.job_core.specs.declared.bounds.TheConstants.Limits.{PUBLISHED}
use Rattle.job_core.specs.declared.fault.JobFault.{JobFault}
use Rattle.job_core.specs.JobFields.{JobFields}
use Rattle.job_core.specs.JobLayout.{CrlText, EntryText}
use Rattle.job_core.specs.JobText.{JobContents, FitsJob, spelling}
use Rattle.job_core.specs.JobMeaning.{reading_of, IsJob, job_of}
use Rattle.gather_core.specs.Raw.{raw_job, piece_limits, with_entries}
use Rattle.place_core.specs.declared.place.By.{By}
use Rattle.place_core.specs.Cuts.{Cut, is_kept, everything, at_place}
use Rattle.piece_core.specs.Cuts.{cut_contents}
use Rattle.universe_core.specs.Formats.{JobIn}
use Rattle.universe_core.specs.History.{Release, seen, sightings}
use Rattle.history_core.specs.Truth.{truth}
use Rattle.audit_core.specs.Auditing.{AllAgree, left_by_jobs}
use Rattle.publication_core.specs.Histories.{History, releases_of}
use Rattle.cut_core.specs.Cutting.{cut_job, cut_in, IsCut}
use Rattle.cut_core.specs.Courses.{Course, from_base, left, cut_course, course_of}
use Rattle.cut_core.specs.InPlaces.{job_at}
use Rattle.cut_core.specs.Texts.{IsPiece, IsMerged}
use Rattle.word_core.specs.declared.command.Command.{Command}
use Rattle.word_core.specs.declared.command.Command.TheVariants as commands
use Rattle.word_core.specs.declared.command.{Query.Query as StoreQuery, QueryCert.QueryCert, Cut.Cut as JobCut, Merge.Merge}
use Rattle.word_core.specs.Names.{IsApart}
use Rattle.input_core.specs.declared.fault.FileFault.{FileFault}
use Rattle.input_core.specs.declared.fault.FileFault.TheVariants as faults
use Rattle.input_core.specs.Faults.{of_job}
use Rattle.input_core.specs.Readings.{faulted}
use Rattle.line_core.specs.Lines.{line}
use Rattle.command_core.specs.ReplyFields.{OutputFields}
use Rattle.command_core.specs.declared.lengthening.Source.TheVariants as sources
use Rattle.command_core.specs.Commands.{verdict_word}
use Rattle.command_core.specs.Cuts.{pieces_from}
use Rattle.command_core.specs.Longer.{piece_in, entries_of_epoch, piece_entries}
use Rattle.command_core.specs.Replies.{IsOctets, held_under}
use Rattle.command_core.proofs.Overs.{some_is}
use Rattle.clubcard_top.specs.Calls.{Call, Found, Reads, Holds, Prints}
use Rattle.clubcard_top.specs.Endings.{Succeeds, Did, Ends}
use Rattle.clubcard_top.specs.Headline.{AsksTruthBy, AsksCertBy, AsksTruth, AsksCertTruth, told_line}
use Rattle.clubcard_top.specs.Places.{HoldOctets, AsksToCut, LeavesJob, Merges, IsCutOf}
use Rattle.clubcard_top.specs.Promises.{Successes, Histories, Places}
use Rattle.clubcard_top.specs.Successes.{ReadsEntries}
use Rattle.clubcard_top.proofs.Succeeded.{longer}

-- the laws of cuts, as `texts_are_read`, `cuts_leave_what_is_kept`, `cuts_know_what_is_kept` and
-- `cut_parts_say_the_truth` say them
pub record Laws : Type 0 where
  pub text : (limits : Limits) (bytes : List ℕ) (j : JobContents) → ((i : ℕ) → get_or bytes i 0 < 256) → raw_job limits bytes ≡ Ok j
      → (bytes ≡ spelling j) × FitsJob limits j
  pub cut : (cut : Cut) (limits : Limits) (bytes : List ℕ) (j : JobContents) (job : JobFields) → ((i : ℕ) → get_or bytes i 0 < 256)
      → raw_job limits bytes ≡ Ok j → job_of limits bytes ≡ Ok job → IsJob limits (spelling (cut_contents cut j)) (cut_job cut job)
  pub merged : (head : JobContents) (pieces : List JobContents) (job : JobContents) → IsMerged head pieces job → FitsJob PUBLISHED head
      → All (FitsJob piece_limits) pieces → length job.entries ≤ PUBLISHED.entries → job_of PUBLISHED (spelling job) ≡ reading_of PUBLISHED job
  pub beside : (cut : Cut) (c : Course) (h : History) → course_of h ≡ cut_course cut c
      → AllZip (IsCut cut) (left c) (releases_of h)
  pub begun : (cut : Cut) (c : Course) (moment : ℕ) (jobs : List JobIn) (h : History) → course_of h ≡ from_base c moment cut (map (cut_in cut) jobs)
      → AllZip (IsCut cut) (left (from_base c moment everything jobs)) (releases_of h)
  pub same_sightings : (cut : Cut) (rs qs : List Release) (x : Identity) → AllZip (IsCut cut) rs qs → is_kept cut x ≡ true
      → sightings x (seen qs) ≡ sightings x (seen rs)
  pub same_truth : (cut : Cut) (rs qs : List Release) (x : Identity) → AllZip (IsCut cut) rs qs → is_kept cut x ≡ true → truth qs x ≡ truth rs x
  pub audited : (cut : Cut) (jobs : List JobFields) (parts : List PartFields) (x : Identity) (ss : List Sighting)
      → AllAgree parts (map (cut_job cut) jobs) → is_kept cut x ≡ true → 1 ≤ length ss
      → ((s : Sighting) → Among ss s → Among (sightings x (seen (left_by_jobs jobs))) s) → verdict parts x ss ≡ truth (left_by_jobs jobs) x

-- ---- what files are read as

raw_ok : (r : Result JobContents JobFault) (j : JobContents) → faulted of_job r ≡ Ok j → r ≡ Ok j
raw_ok (Ok k) j is = ap (λ (x : JobContents). Ok x) (let h : ◌≡◌ {A = Result JobContents FileFault} (Ok k) (Ok j) = is in cc)
raw_ok (Err e) j is = absurd (let h : ◌≡◌ {A = Result JobContents FileFault} (Err (of_job e)) (Ok j) = is in cc)

-- a piece of this epoch, whose entries are these
abbrev IsOfEpoch : ℕ → List EntryText → JobContents → Type 0
IsOfEpoch epoch few p = (p.epoch ≡ epoch) × (few ≡ p.entries)

epoch_ok : (epoch : ℕ) (p : JobContents) (few : List EntryText) (e : FileFault) (b : Bool) → (epoch == p.epoch) ≡ b
    → if◌then◌else◌ {A = Result (List EntryText) FileFault} b (Ok p.entries) (Err e) ≡ Ok few → IsOfEpoch epoch few p
epoch_ok epoch p few e true same is = (
  sym (eqb-true epoch p.epoch same),
  let h : ◌≡◌ {A = Result (List EntryText) FileFault} (Ok p.entries) (Ok few) = is in cc,
)
epoch_ok epoch p few e false same is = absurd (let h : ◌≡◌ {A = Result (List EntryText) FileFault} (Err e) (Ok few) = is in cc)

piece_ok : (epoch : ℕ) (r : Result JobContents FileFault) (few : List EntryText) → entries_of_epoch epoch r ≡ Ok few
    → (p : JobContents) × (r ≡ Ok p) × IsOfEpoch epoch few p
piece_ok epoch (Ok p) few is = (p, refl, epoch_ok epoch p few (faults.OtherEpoch epoch p.epoch) (epoch == p.epoch) refl is)
piece_ok epoch (Err e) few is = absurd (let h : ◌≡◌ {A = Result (List EntryText) FileFault} (Err e) (Ok few) = is in cc)

-- the file at a place among the outputs of `cut`
piece_at : (P : List ℕ → List ℕ → Type 0) (by : By) (n q : ℕ) (names : List (List ℕ)) (j : JobContents)
    → All (λ (o : OutputFields). P o.name o.bytes) (pieces_from by n q names j) → (p : ℕ) (name : List ℕ) → slice_get names p ≡ Some name
    → (k : ℕ) → k ≡ q + p → P name (spelling (cut_contents (at_place by n k) j))
piece_at P by n q [] j all p name at k is = absurd cc
piece_at P by n q (x ∷ names) j all zero name at k is =
    let first : OutputFields = record { name = x; bytes = spelling (cut_contents (at_place by n q) j) } in
    let here : P x (spelling (cut_contents (at_place by n q) j)) =
    All-head (λ (o : OutputFields). P o.name o.bytes) first (pieces_from by n (q + 1) names j) all in
    let same : q ≡ k = omega (arith, is) in
    subst (λ (m : ℕ). P name (spelling (cut_contents (at_place by n m) j))) same
    (subst (λ (w : List ℕ). P w (spelling (cut_contents (at_place by n q) j))) (some_item x name at) here)
piece_at P by n q (x ∷ names) j all (suc p) name at k is =
    let first : OutputFields = record { name = x; bytes = spelling (cut_contents (at_place by n q) j) } in
    piece_at P by n (q + 1) names j (All-tail (λ (o : OutputFields). P o.name o.bytes) first (pieces_from by n (q + 1) names j) all) p name at k
    (omega (arith, is))

no_crls : (crls : List CrlText) → length crls ≤ 0 → crls ≡ []
no_crls [] few = refl
no_crls (c ∷ cs) few = absurd (omega (arith, few))

module _ (call : Call) (laws : Laws) (ends : Ends call) (apart : IsApart call.asked) (ss : Successes call) (hs : Histories call) where
  -- what a file was found to hold is what the files hold
  held_in : (files : Files) → call.files_before ≡ Some files → (name bytes : List ℕ) → Found call (λ others. get others name ≡ Some bytes)
      → get files name ≡ Some bytes
  held_in files told name bytes (others, told_so, held) =
      ap (λ (f : Files). get f name) (some_is files others (sym told ∙ told_so)) ∙ held

  cut_clause : (c : JobCut) (job : JobFields) → Found call (AsksToCut call.asked c job) → Succeeds call
      → (p : ℕ) (name : List ℕ) → slice_get c.pieces p ≡ Some name → LeavesJob call name (job_at c.by (length c.pieces) p job)
  cut_clause c job (files, told, (asked, octets, (bytes, held, means))) well p name at =
      let x = ss.cut c (record { files = files; told = told; asked = asked; succeeds = well }) in
      let j : JobContents = x.0 in
      let same : bytes ≡ x.1.0 = some_item bytes x.1.0 (sym held ∙ held_in files told c.job x.1.0 x.1.1) in
      let raw : raw_job PUBLISHED bytes ≡ Ok j = ap (raw_job PUBLISHED) same ∙ raw_ok (raw_job PUBLISHED x.1.0) j x.1.2 in
      let each : (i : ℕ) → get_or bytes i 0 < 256 =
      subst IsOctets held (subst (λ (k : Command). HoldOctets k files) asked octets 0) in (
        spelling (cut_contents (at_place c.by (length c.pieces) p) j),
        piece_at (Holds call) c.by (length c.pieces) 0 c.pieces j x.2.held p name at p (omega arith),
        laws.cut (at_place c.by (length c.pieces) p) PUBLISHED bytes j job each raw means,
      )

  -- ---- pieces

  record Taken (names : List (List ℕ)) (epoch : ℕ) (entries : List EntryText) : Type 0 where
    pieces : List JobContents
    reads : AllZip (λ name piece. Reads call name piece_in piece) names pieces
    epochs : All (λ (p : JobContents). p.epoch ≡ epoch) pieces
    fit : All (FitsJob piece_limits) pieces
    all : entries ≡ flat_map (λ (j : JobContents). j.entries) pieces

  taken : (files : Files) → call.files_before ≡ Some files → (epoch : ℕ) (names : List (List ℕ)) (entries : List EntryText)
      → ((i : ℕ) → IsOctets (held_under files names i)) → ReadsEntries call (piece_entries epoch) names entries → Taken names epoch entries
  taken files told epoch [] entries octets is = record {
    pieces = [];
    reads = tt;
    epochs = All-nil (λ (p : JobContents). p.epoch ≡ epoch);
    fit = All-nil (FitsJob piece_limits);
    all = is;
  }
  taken files told epoch (name ∷ names) entries octets (few, others, (bytes, found, read), is, rest) =
      let t = taken files told epoch names others (λ i. octets (suc i)) rest in
      let p = piece_ok epoch (piece_in bytes) few read in
      let each : (i : ℕ) → get_or bytes i 0 < 256 = subst IsOctets (held_in files told name bytes found) (octets 0) in
      let fits : FitsJob piece_limits p.0 = (laws.text piece_limits bytes p.0 each (raw_ok (raw_job piece_limits bytes) p.0 p.1)).1 in
      record {
        pieces = p.0 ∷ t.pieces;
        reads = ((bytes, found, p.1), t.reads);
        epochs = All-cons (λ (q : JobContents). q.epoch ≡ epoch) p.0 t.pieces p.2.0 t.epochs;
        fit = All-cons (FitsJob piece_limits) p.0 t.pieces fits t.fit;
        all = is ∙ ap (λ (es : List EntryText). es ++ others) p.2.1 ∙ ap (λ (es : List EntryText). p.0.entries ++ es) t.all;
      }

  are_pieces : (head : JobContents) (pieces : List JobContents) → All (λ (p : JobContents). p.epoch ≡ head.epoch) pieces
      → All (FitsJob piece_limits) pieces → All (IsPiece head) pieces
  are_pieces head [] epochs fit = All-nil (IsPiece head)
  are_pieces head (p ∷ pieces) epochs fit =
      All-cons (IsPiece head) p pieces
      (record {
        epoch = All-head (λ (p : JobContents). p.epoch ≡ head.epoch) p pieces epochs;
        crls = no_crls p.crls (All-head (FitsJob piece_limits) p pieces fit).few_crls;
      })
      (are_pieces head pieces (All-tail (λ (p : JobContents). p.epoch ≡ head.epoch) p pieces epochs) (All-tail (FitsJob piece_limits) p pieces fit))

  merged_clause : (m : Merge) → Did call (commands.Merge m) → Found call (HoldOctets call.asked)
      → (head : JobContents) × (pieces : List JobContents) × (job : JobContents) × Merges call m head pieces job
  merged_clause m did (files, told, octets) =
      let l = longer call ends apart (commands.Merge m) sources.Pieces m.head m.job m.pieces did (λ d made. made) in
      let head : JobContents = l.0 in
      let job : JobContents = with_entries head l.1 in
      let all : (i : ℕ) → IsOctets (held_under files (m.head ∷ m.pieces) i) = subst (λ (k : Command). HoldOctets k files) did.asked octets in
      let t = taken files told head.epoch m.pieces l.1 (λ i. all (suc i)) l.3 in
      let each : (i : ℕ) → get_or l.2.0 i 0 < 256 = subst IsOctets (held_in files told m.head l.2.0 l.2.1) (all 0) in
      let fits : FitsJob PUBLISHED head = (laws.text PUBLISHED l.2.0 head each (raw_ok (raw_job PUBLISHED l.2.0) head l.2.2)).1 in
      let together : IsMerged head t.pieces job = record { each = are_pieces head t.pieces t.epochs t.fit; whole = ap (with_entries head) t.all } in
      let few : length job.entries ≤ PUBLISHED.entries = omega (arith, length-append head.entries l.1, l.4 fits.few_entries) in (
        head,
        t.pieces,
        job,
        record {
          of_head = l.2;
          of_pieces = t.reads;
          together = together;
          held = All-head (λ (o : OutputFields). Holds call o.name o.bytes) (record { name = m.job; bytes = spelling job }) [] l.5.held;
          read = laws.merged head t.pieces job together fits t.fit few;
        },
      )

  -- ---- answers

  beside : (cut : Cut) (whole : Course) (h : History) → IsCutOf cut whole h
      → AllZip (IsCut cut) (left whole) (releases_of h)
  beside cut whole h (is, inl same) = laws.beside cut whole h same
  beside cut whole h (is, inr s) =
      subst (λ (c : Course). AllZip (IsCut cut) (left c) (releases_of h)) (sym s.all) (laws.begun cut s.before s.moment s.jobs h s.kept)

  module _ (cut : Cut) (whole : Course) (h : History) (of : IsCutOf cut whole h) (x : Identity)
      (kept : is_kept cut x ≡ true) where
    sightings_told : sightings x (seen (left whole)) ≡ sightings x (seen (releases_of h))
    sightings_told = sym (laws.same_sightings cut (left whole) (releases_of h) x (beside cut whole h of) kept)

    accepted : (s : Sighting) → Among (sightings x (seen (left whole))) s → Among (sightings x (seen (releases_of h))) s
    accepted s = subst (λ (ts : List Sighting). Among ts s) sightings_told

    prints_whole : Prints call (told_line (releases_of h) x) → Prints call (told_line (left whole) x)
    prints_whole =
        subst (λ (v : Verdict). Prints call (line (verdict_word v)))
        (laws.same_truth cut (left whole) (releases_of h) x (beside cut whole h of) kept)

  asks_itself : (cut : Cut) (whole : Course) (q : StoreQuery) (h : History) → IsCutOf cut whole h
      → is_kept cut q.id ≡ true → Found call (AsksTruthBy (left whole) call.asked q h) → Found call (AsksTruth call.asked q h)
  asks_itself cut whole q h of kept (files, told, p) =
      (files, told, (p.0, p.1, p.2, p.3, λ s a. accepted cut whole h of q.id kept s (p.4 s a)))

  cert_asks_itself : (cut : Cut) (whole : Course) (q : QueryCert) (x : Identity) (ts : List Sighting) (h : History)
      → IsCutOf cut whole h → is_kept cut x ≡ true → Found call (AsksCertBy (left whole) call.asked q x ts h)
      → Found call (AsksCertTruth call.asked q x ts h)
  cert_asks_itself cut whole q x ts h of kept (files, told, p) = (
    files,
    told,
    record {
      is = p.is;
      some = p.some;
      store = p.store;
      cert = p.cert;
      issuer = p.issuer;
      one = (p.one.0, p.one.1, accepted cut whole h of x kept p.one.0 p.one.2);
      covered = λ s t a b c. accepted cut whole h of x kept s (p.covered s t a b c);
    },
  )

  pub places : Places call
  places = record {
    cut = cut_clause;
    merged = merged_clause;
    truth = λ cut whole q h of kept asks well.
        prints_whole cut whole h of q.id kept (hs.truth q h of.0 (asks_itself cut whole q h of kept asks) well);
    answered = λ cut whole q h of kept asks. hs.answered q h of.0 (asks_itself cut whole q h of kept asks);
    cert_truth = λ cut whole q x ts h of kept asks well.
        prints_whole cut whole h of x kept (hs.cert_truth q x ts h of.0 (cert_asks_itself cut whole q x ts h of kept asks) well);
    cert_answered = λ cut whole q x ts h of kept asks.
        hs.cert_answered q x ts h of.0 (cert_asks_itself cut whole q x ts h of kept asks);
    audited = λ a did.
        let x = ss.audit a did in (
          x.0,
          x.1,
          x.2,
          x.3,
          λ cut whole same y ts kept some asked.
              laws.audited cut whole (map (λ (s : SealedFields). s.part) x.0) y ts
              (subst (AllAgree (map (λ (s : SealedFields). s.part) x.0)) same x.4.agree) kept some asked,
        );
  }
