-- The reply of a command, from what was read of its inputs.
use Rattle.std.proofs.Common.{◌≡◌, ◌≢◌, ℕ, inl, inr, List, [], ◌∷◌, Option, Some, None, Result, Ok, Err, IfOk, refl, sym, ap, ◌∙◌, subst}
use Rattle.std.specs.Prelude.{IsErr}
use Rattle.octets_core.specs.declared.memory.NoMemory.{NoMemory}
use Rattle.octets_core.specs.Reading.{GivesUnless}
use Rattle.outside_core.specs.declared.depot.Depot.{Ghosts}
use Rattle.outside_core.specs.Effects.{OnlyReads}
use Rattle.outside_core.specs.Files.{Files}
use Rattle.ident_core.specs.Among.{Among}
use Rattle.part_text.specs.SealedFields.{SealedFields}
use Rattle.input_core.specs.Queries.{Query}
use Rattle.job_core.specs.declared.bounds.TheConstants.Limits.{PUBLISHED}
use Rattle.job_core.specs.JobText.{JobContents}
use Rattle.job_core.specs.JobFields.{JobFields}
use Rattle.job_core.specs.Fitting.{FitsFields, IsWithinLimits}
use Rattle.place_core.specs.Cuts.{Cut}
use Rattle.ledger_core.specs.LedgerFields.{LedgerFields}
use Rattle.universe_core.specs.Ledgers.{no_ledger}
use Rattle.publication_core.specs.declared.fault.PublishFault.{PublishFault}
use Rattle.publication_core.specs.declared.fault.PublishFault.TheVariants as publish
use Rattle.publication_core.specs.Publishing.{PublicationFields, Publishes}
use Rattle.publication_core.specs.declared.base_fault.BaseFault.{BaseFault}
use Rattle.publication_core.specs.declared.base_fault.BaseFault.TheVariants as bases
use Rattle.publication_core.specs.Rebasing.{BasePublicationFields, PublishesBase}
use Rattle.word_core.specs.declared.command.Command.{Command}
use Rattle.word_core.specs.declared.command.Command.TheVariants as commands
use Rattle.word_core.specs.declared.command.{Query.Query as StoreQuery, Snapshot.Snapshot, Delta.Delta, Rebase.Rebase, Start.Start}
use Rattle.word_core.specs.declared.command.{Install.Install, Cut.Cut as JobCut}
use Rattle.word_core.specs.Names.{inputs_of}
use Rattle.command_core.specs.declared.answer.Answer.{Answer}
use Rattle.input_core.specs.declared.fault.FileFault.{FileFault}
use Rattle.input_core.specs.declared.fault.FileFault.TheVariants as faults
use Rattle.command_core.specs.Faults.{of_publishing, of_rebasing}
use Rattle.input_core.specs.Readings.{queries_in, job_in, ledger_in, part_in, store_in, input_as}
use Rattle.outside_core.specs.Reads.{WhichFailed}
use Rattle.input_core.specs.Inputs.{Inputs, rest_of, IsBlamed, IsRead, AreRead, IsInput}
use Rattle.outside_core.proofs.Effects.{WhichFailed-then}
use Rattle.input_core.proofs.FilesRead.{later_read, none_failed, blamed_later}
use Rattle.command_core.specs.ReplyFields.{ReplyFields, Done, NamedFault}
use Rattle.command_core.specs.Audits.{audit_jobs, MakesAudit}
use Rattle.command_core.specs.Commands.{◌>>=◌, named, input, query_done, check_done, show_done, begun, installed, stored, publication_done}
use Rattle.command_core.specs.declared.lengthening.Source.TheVariants as sources
use Rattle.command_core.specs.Longer.{head_in}
use Rattle.command_core.specs.Cuts.{cut_done}
use Rattle.command_core.specs.Commands.{MakesPart, MakesSnapshot, MakesDelta, MakesRehearsal, Makes}
use Rattle.command_core.specs.Rebasings.{cut_without, base_done, MakesBase, MakesRebase}
use Rattle.command_core.specs.Replies.{done, refusal, reply_of, SaysWhich, IsReply}
use Rattle.command_core.specs.Answering.{reply_fields}
use Rattle.command_core.proofs.Fronts.{ahead, these, some_reads}
use Rattle.command_core.proofs.Following.{start_after, install_then, install_after, longer_after, cut_after, cert_after}
use Rattle.command_core.proofs.Results.{err_same, not_ok}

-- ---- files

-- a file that was read, whatever is known of those whose read failed
pub read_well : {A : Type 0} (told : Option Files) (failed other : Option (List ℕ) → Type 0) (name : List ℕ) (read : List ℕ → Result A FileFault)
    (given : Option (List ℕ)) (x : A) → input_as read given ≡ Ok x → IsRead told failed name given → IsRead told other name given
read_well told failed other name read None x is held = absurd (not_ok x faults.Unread is)
read_well told failed other name read (Some bytes) x is held = held

pub read_named : {A : Type 0} (told : Option Files) (failed other : Option (List ℕ) → Type 0) (name : List ℕ) (read : List ℕ → Result A FileFault)
    (given : Option (List ℕ)) (x : A) → input name read given ≡ Ok x → IsRead told failed name given → IsRead told other name given
read_named told failed other name read None x is held = absurd (not_ok x (record { name = name; fault = faults.Unread }) is)
read_named told failed other name read (Some bytes) x is held = held

-- ---- which read failed

pub blames_file : {A : Type 0} (failed : Option (List ℕ) → Type 0) (names : List (List ℕ)) (name : List ℕ) (fault : FileFault) → Among names name
    → IsBlamed {A = A} failed name faults.Unread (Err fault) → SaysWhich failed names (refusal name fault)
blames_file failed names name fault among (inl none) = inl none
blames_file {A} failed names name fault among (inr (is, why)) =
    let unread : fault ≡ faults.Unread = let h : ◌≡◌ {A = Result A FileFault} (Err fault) (Err faults.Unread) = is in cc in
    inr (name, among, ap (refusal name) unread, why)

-- the same of more files
pub says_wider : (failed other : Option (List ℕ) → Type 0) (first : List ℕ) (names : List (List ℕ)) (reply : ReplyFields)
    → ((which : Option (List ℕ)) → failed which → other which) → SaysWhich failed names reply → SaysWhich other (first ∷ names) reply
says_wider failed other first names reply wider (inl none) = inl (wider None none)
says_wider failed other first names reply wider (inr (name, among, is, why)) = inr (name, inr among, is, wider (Some name) why)

-- ---- replies

pub made : (c : Command) (told : Option Files) (failed : Option (List ℕ) → Type 0) (inputs : Inputs) (o : Result Done NamedFault)
    (r : Result Answer NoMemory) → AreRead told failed (inputs_of c) inputs → SaysWhich failed (inputs_of c) (reply_of o) → Makes c inputs o
    → IfOk r (λ a. reply_fields a ≡ reply_of o) → IfOk r (λ a. IsReply c told failed (reply_fields a))
made c told failed inputs o (Ok a) read says m is = (inputs, read, inr (o, m, is), subst (SaysWhich failed (inputs_of c)) (sym is) says)
made c told failed inputs o (Err e) read says m is = tt

-- a fault that isn't want of memory
pub made_unless : (c : Command) (told : Option Files) (failed : Option (List ℕ) → Type 0) (inputs : Inputs) (name : List ℕ) (fault : FileFault)
    (r : Result Answer NoMemory) → AreRead told failed (inputs_of c) inputs
    → SaysWhich failed (inputs_of c) (refusal name fault)
    → ((fault ≡ faults.NoMemory → ⊥) → Makes c inputs (Err (record { name = name; fault = fault }))) → (fault ≡ faults.NoMemory → IsErr r)
    → IfOk r (λ a. reply_fields a ≡ refusal name fault)
    → IfOk r (λ a. IsReply c told failed (reply_fields a))
made_unless c told failed inputs name fault (Ok a) read blames m memory is =
    made c told failed inputs (Err (record { name = name; fault = fault })) (Ok a) read blames
    (m (λ none. absurd (let h : IsErr {T = Answer} {E = NoMemory} (Ok a) = memory none in cc))) is
made_unless c told failed inputs name fault (Err e) read blames m memory is = tt

-- ---- the first input is at fault

-- what is wrong with the first input of a command that reads one
abbrev IsFirstFault : Command → Inputs → NamedFault → Type 0
IsFirstFault commands.Usage at e = ⊥
IsFirstFault (commands.Query q) at e = input q.store store_in (at 0) ≡ Err e
IsFirstFault (commands.QueryCert q) at e = input q.store store_in (at 0) ≡ Err e
IsFirstFault (commands.Check name) at e = input name part_in (at 0) ≡ Err e
IsFirstFault (commands.Show name) at e = input name part_in (at 0) ≡ Err e
IsFirstFault (commands.Snapshot s) at e = input s.job job_in (at 0) ≡ Err e
IsFirstFault (commands.Delta t) at e = input t.job job_in (at 0) ≡ Err e
IsFirstFault (commands.Rebase b) at e = input b.ledger ledger_in (at 0) ≡ Err e
IsFirstFault (commands.Start t) at e = input t.part part_in (at 0) ≡ Err e
IsFirstFault (commands.Install i) at e = input i.store store_in (at 0) ≡ Err e
IsFirstFault (commands.Rehearse r) at e = input r.queries queries_in (at 0) ≡ Err e
IsFirstFault (commands.Sample s) at e = ⊥
IsFirstFault (commands.Gather f) at e = input f.head head_in (at 0) ≡ Err e
IsFirstFault (commands.Merge f) at e = input f.head head_in (at 0) ≡ Err e
IsFirstFault (commands.Cut c) at e = input c.job head_in (at 0) ≡ Err e
IsFirstFault (commands.Audit a) at e = input a.store store_in (at 0) ≡ Err e
IsFirstFault (commands.Place p) at e = ⊥

stops : {A : Type 0} (r : Result A NamedFault) (next : A → Result Done NamedFault) (e : NamedFault) → r ≡ Err e → Err e ≡ (r >>= next)
stops {A} r next e h = sym (ap (λ (x : Result A NamedFault). x >>= next) h)

-- it is what comes of the command
first_fault : (c : Command) (inputs : Inputs) (e : NamedFault) → IsFirstFault c inputs e → Makes c inputs (Err e)
first_fault commands.Usage at e h = absurd h
first_fault (commands.Query q) at e h = stops (input q.store store_in (at 0)) (λ parts. Ok (query_done q parts)) e h
first_fault (commands.QueryCert q) at e h = stops (input q.store store_in (at 0)) (cert_after q (at 1) (at 2)) e h
first_fault (commands.Check name) at e h = stops (input name part_in (at 0)) (λ x. Ok (check_done x)) e h
first_fault (commands.Show name) at e h = stops (input name part_in (at 0)) (λ x. Ok (show_done x)) e h
first_fault (commands.Snapshot s) at e h = subst (λ (x : Result JobFields NamedFault). MakesSnapshot s x (Err e)) (sym h) refl
first_fault (commands.Delta t) at e h = subst (λ (x : Result JobFields NamedFault). MakesDelta t x (input t.ledger ledger_in (at 1)) (Err e)) (sym h) refl
first_fault (commands.Rebase b) at e h = subst (λ (x : Result LedgerFields NamedFault). MakesRebase b x (Err e)) (sym h) refl
first_fault (commands.Start t) at e h = stops (input t.part part_in (at 0)) (start_after t) e h
first_fault (commands.Install i) at e h = stops (input i.store store_in (at 0)) (install_after i (at 1)) e h
first_fault (commands.Rehearse r) at e h = subst (λ (x : Result (List Query) NamedFault). MakesRehearsal r x (rest_of at) (Err e)) (sym h) refl
first_fault (commands.Sample s) at e h = absurd h
first_fault (commands.Gather f) at e h = stops (input f.head head_in (at 0)) (longer_after (sources.Pages f.log) f.job f.pages (rest_of at)) e h
first_fault (commands.Merge f) at e h = stops (input f.head head_in (at 0)) (longer_after sources.Pieces f.job f.pieces (rest_of at)) e h
first_fault (commands.Cut c) at e h = stops (input c.job head_in (at 0)) (cut_after c) e h
first_fault (commands.Audit a) at e h = subst (λ (x : Result (List SealedFields) NamedFault). MakesAudit a x (audit_jobs a.jobs (rest_of at)) (Err e)) (sym h) refl
first_fault (commands.Place p) at e h = absurd h

pub first_refused : {A B : Type 0} (told : Option Files) (failed : Option (List ℕ) → Type 0) (r : Result Answer NoMemory) (c : Command) (name : List ℕ) (others : List (List ℕ))
    (read : List ℕ → Result A FileFault) (view : B → A) (fault : FileFault) → inputs_of c ≡ name ∷ others
    → ((inputs : Inputs) → input name read (inputs 0) ≡ Err (record { name = name; fault = fault }) → IsFirstFault c inputs (record { name = name; fault = fault }))
    → IsInput told failed name read view (Err fault) → (fault ≡ faults.NoMemory → IsErr r)
    → IfOk r (λ a. reply_fields a ≡ refusal name fault) → IfOk r (λ a. IsReply c told failed (reply_fields a))
first_refused told failed r c name others read view fault are first (given, is_read, gives, blamed) memory is =
    let rest = some_reads told failed others in
    let inputs : Inputs = ahead (given ∷ []) rest.0 in
    made_unless c told failed inputs name fault r
    (subst (λ (names : List (List ℕ)). AreRead told failed names inputs) (sym are) (is_read, rest.1))
    (blames_file failed (inputs_of c) name fault (subst (λ (names : List (List ℕ)). Among names name) (sym are) (inl refl)) blamed)
    (λ refute. first_fault c inputs (record { name = name; fault = fault }) (first inputs (ap (named name) (gives refute)))) memory is

-- ---- commands of one input

module _ (told : Option Files) (failed : Option (List ℕ) → Type 0) (r : Result Answer NoMemory) where
  pub query_made : {B : Type 0} (q : StoreQuery) (view : B → List SealedFields) (x : B) → IsInput told failed q.store store_in view (Ok x)
      → IfOk r (λ a. reply_fields a ≡ done (query_done q (view x)))
      → IfOk r (λ a. IsReply (commands.Query q) told failed (reply_fields a))
  query_made q view x (given, read, gives, blamed) is =
      made (commands.Query q) told failed (these (given ∷ [])) (Ok (query_done q (view x))) r (read, λ i. refl) (inl (none_failed failed q.store faults.Unread x blamed))
      (sym (ap (λ (y : Result (List SealedFields) FileFault). named q.store y >>= (λ ps. Ok (query_done q ps))) gives)) is

  pub show_made : {B : Type 0} (name : List ℕ) (view : B → SealedFields × ℕ) (x : B) → IsInput told failed name part_in view (Ok x) → IfOk r (λ a. reply_fields a ≡ done (show_done (view x)))
      → IfOk r (λ a. IsReply (commands.Show name) told failed (reply_fields a))
  show_made name view x (given, read, gives, blamed) is =
      made (commands.Show name) told failed (these (given ∷ [])) (Ok (show_done (view x))) r (read, λ i. refl) (inl (none_failed failed name faults.Unread x blamed))
      (sym (ap (λ (y : Result (SealedFields × ℕ) FileFault). named name y >>= (λ z. Ok (show_done z))) gives)) is

  pub cut_made : (c : JobCut) (j : JobContents) → IsInput told failed c.job head_in (λ (k : JobContents). k) (Ok j) → IfOk r (λ a. reply_fields a ≡ done (cut_done c.by c.pieces j))
      → IfOk r (λ a. IsReply (commands.Cut c) told failed (reply_fields a))
  cut_made c j (given, read, gives, blamed) is =
      made (commands.Cut c) told failed (these (given ∷ [])) (Ok (cut_done c.by c.pieces j)) r (read, λ i. refl) (inl (none_failed failed c.job faults.Unread j blamed))
      (sym (ap (λ (y : Result JobContents FileFault). named c.job y >>= cut_after c) gives)) is

  -- ---- start

  -- what follows the part that was read
  start_step : (t : Start) (x : SealedFields × ℕ) (given : Option (List ℕ)) (y : Result (List SealedFields) FileFault) → input_as part_in given ≡ Ok x → begun x.0 ≡ y
      → (named t.part y >>= (λ parts. Ok (stored t.store parts))) ≡ (input t.part part_in given >>= start_after t)
  start_step t x given y gives is =
      ap (λ (z : Result (List SealedFields) FileFault). named t.part z >>= (λ parts. Ok (stored t.store parts))) (sym is)
      ∙ sym (ap (λ (z : Result (SealedFields × ℕ) FileFault). named t.part z >>= start_after t) gives)

  pub start_made : {B C : Type 0} (t : Start) (view : B → SealedFields × ℕ) (x : B) (shape : C → List SealedFields) (y : C) → IsInput told failed t.part part_in view (Ok x)
      → GivesUnless faults.NoMemory shape (Ok y) (begun (view x).0) → IfOk r (λ a. reply_fields a ≡ done (stored t.store (shape y)))
      → IfOk r (λ a. IsReply (commands.Start t) told failed (reply_fields a))
  start_made t view x shape y (given, read, gives, blamed) is_begun is =
      made (commands.Start t) told failed (these (given ∷ [])) (Ok (stored t.store (shape y))) r (read, λ i. refl) (inl (none_failed failed t.part faults.Unread x blamed))
      (start_step t (view x) given (Ok (shape y)) gives is_begun) is

  pub start_not : {B C : Type 0} (t : Start) (view : B → SealedFields × ℕ) (x : B) (shape : C → List SealedFields) (fault : FileFault) → IsInput told failed t.part part_in view (Ok x)
      → GivesUnless faults.NoMemory shape (Err fault) (begun (view x).0) → (fault ≡ faults.NoMemory → IsErr r) → IfOk r (λ a. reply_fields a ≡ refusal t.part fault)
      → IfOk r (λ a. IsReply (commands.Start t) told failed (reply_fields a))
  start_not t view x shape fault (given, read, gives, blamed) not_begun memory is =
      made_unless (commands.Start t) told failed (these (given ∷ [])) t.part fault r (read, λ i. refl) (inl (none_failed failed t.part faults.Unread x blamed))
      (λ refute. start_step t (view x) given (Err fault) gives (not_begun refute)) memory is

  -- ---- snapshot

  snapshot_step : (s : Snapshot) (j : JobFields) (given : Option (List ℕ)) (o : Result Done NamedFault) → input_as job_in given ≡ Ok j → MakesPart s.job s.part s.ledger no_ledger j o
      → Makes (commands.Snapshot s) (these (given ∷ [])) o
  snapshot_step s j given o gives m = subst (λ (x : Result JobFields FileFault). MakesSnapshot s (named s.job x) o) (sym gives) m

  pub snapshot_made : {B : Type 0} (s : Snapshot) (view : B → JobFields) (x : B) (p : PublicationFields) → IsInput told failed s.job job_in view (Ok x)
      → FitsFields (view x) → IsWithinLimits PUBLISHED (view x)
      → Publishes no_ledger (view x) (Ok p) → IfOk r (λ a. reply_fields a ≡ done (publication_done s.part s.ledger p)) → IfOk r (λ a. IsReply (commands.Snapshot s) told failed (reply_fields a))
  snapshot_made s view x p (given, read, gives, blamed) fits limits publishes is =
      made (commands.Snapshot s) told failed (these (given ∷ [])) (Ok (publication_done s.part s.ledger p)) r (read, λ i. refl) (inl (none_failed failed s.job faults.Unread x blamed))
      (snapshot_step s (view x) given (Ok (publication_done s.part s.ledger p)) gives (record { fits = fits; limits = limits; result = Ok p; publishes = publishes; is = refl })) is

-- what a fault says of what is published of a job, and of a rebase, where it isn't want of memory
abbrev NotPublished : LedgerFields → JobFields → PublishFault → Type 0
NotPublished before j fault = ◌≢◌ {A = Result PublicationFields PublishFault} (Err fault) (Err publish.NoMemory) → Publishes before j (Err fault)

abbrev pub NotRebased : LedgerFields → ℕ → Cut → BaseFault → Type 0
NotRebased before moment cut fault =
    ◌≢◌ {A = Result BasePublicationFields BaseFault} (Err fault) (Err bases.NoMemory) → PublishesBase before moment cut (Err fault)

publishes_err : (before : LedgerFields) (j : JobFields) (fault : PublishFault) → NotPublished before j fault → (of_publishing fault ≡ faults.NoMemory → ⊥) → Publishes before j (Err fault)
publishes_err before j fault h refute = h (λ e. refute (ap of_publishing (err_same {A = PublicationFields} fault publish.NoMemory e)))

base_err : (before : LedgerFields) (moment : ℕ) (cut : Cut) (fault : BaseFault) → NotRebased before moment cut fault
    → (of_rebasing fault ≡ faults.NoMemory → ⊥) → PublishesBase before moment cut (Err fault)
base_err before moment cut fault h refute = h (λ e. refute (ap of_rebasing (err_same {A = BasePublicationFields} fault bases.NoMemory e)))

module _ (told : Option Files) (failed : Option (List ℕ) → Type 0) (r : Result Answer NoMemory) where
  pub snapshot_not : {B : Type 0} (s : Snapshot) (view : B → JobFields) (x : B) (fault : PublishFault) → IsInput told failed s.job job_in view (Ok x)
      → FitsFields (view x) → IsWithinLimits PUBLISHED (view x)
      → NotPublished no_ledger (view x) fault → (of_publishing fault ≡ faults.NoMemory → IsErr r) → IfOk r (λ a. reply_fields a ≡ refusal s.job (of_publishing fault))
      → IfOk r (λ a. IsReply (commands.Snapshot s) told failed (reply_fields a))
  snapshot_not s view x fault (given, read, gives, blamed) fits limits publishes memory is =
      made_unless (commands.Snapshot s) told failed (these (given ∷ [])) s.job (of_publishing fault) r (read, λ i. refl) (inl (none_failed failed s.job faults.Unread x blamed))
      (λ refute. snapshot_step told failed r s (view x) given (Err (record { name = s.job; fault = of_publishing fault })) gives
      (record { fits = fits; limits = limits; result = Err fault; publishes = publishes_err no_ledger (view x) fault publishes refute; is = refl })) memory is

  -- ---- rebase

  rebase_step : (b : Rebase) (l : LedgerFields) (given : Option (List ℕ)) (o : Result Done NamedFault) → input_as ledger_in given ≡ Ok l → MakesBase b l o
      → Makes (commands.Rebase b) (these (given ∷ [])) o
  rebase_step b l given o gives m = subst (λ (x : Result LedgerFields FileFault). MakesRebase b (named b.ledger x) o) (sym gives) m

  pub rebase_made : {B : Type 0} (b : Rebase) (view : B → LedgerFields) (x : B) (p : BasePublicationFields) → IsInput told failed b.ledger ledger_in view (Ok x)
      → PublishesBase (view x) b.moment (cut_without b.left) (Ok p) → IfOk r (λ a. reply_fields a ≡ done (base_done b p)) → IfOk r (λ a. IsReply (commands.Rebase b) told failed (reply_fields a))
  rebase_made b view x p (given, read, gives, blamed) publishes is =
      made (commands.Rebase b) told failed (these (given ∷ [])) (Ok (base_done b p)) r (read, λ i. refl) (inl (none_failed failed b.ledger faults.Unread x blamed))
      (rebase_step b (view x) given (Ok (base_done b p)) gives (record { result = Ok p; publishes = publishes; is = refl })) is

  pub rebase_not : {B : Type 0} (b : Rebase) (view : B → LedgerFields) (x : B) (fault : BaseFault) → IsInput told failed b.ledger ledger_in view (Ok x)
      → NotRebased (view x) b.moment (cut_without b.left) fault → (of_rebasing fault ≡ faults.NoMemory → IsErr r) → IfOk r (λ a. reply_fields a ≡ refusal b.ledger (of_rebasing fault))
      → IfOk r (λ a. IsReply (commands.Rebase b) told failed (reply_fields a))
  rebase_not b view x fault (given, read, gives, blamed) publishes memory is =
      made_unless (commands.Rebase b) told failed (these (given ∷ [])) b.ledger (of_rebasing fault) r (read, λ i. refl) (inl (none_failed failed b.ledger faults.Unread x blamed))
      (λ refute. rebase_step b (view x) given (Err (record { name = b.ledger; fault = of_rebasing fault })) gives
      (record { result = Err fault; publishes = base_err (view x) b.moment (cut_without b.left) fault publishes refute; is = refl })) memory is

-- ---- commands of two inputs

module _ {D : Type 0} (g : Ghosts D) (old mid new : D) (reads_ : OnlyReads g old mid) (r : Result Answer NoMemory) where
  abbrev First : Option (List ℕ) → Type 0
  First = WhichFailed g old mid

  abbrev Second : Option (List ℕ) → Type 0
  Second = WhichFailed g mid new

  abbrev Both : Option (List ℕ) → Type 0
  Both = WhichFailed g old new

  -- where the first was read well
  module _ {B : Type 0} (first : List ℕ) (x : B) (blamed : IsBlamed First first faults.Unread (Ok x)) where
    later : (which : Option (List ℕ)) → Second which → Both which
    later which h = WhichFailed-then g old mid new reads_ (none_failed First first faults.Unread x blamed) which h

    both_read : {A : Type 0} (second : List ℕ) (read : List ℕ → Result A FileFault) (y : A) (given more : Option (List ℕ)) → input_as read given ≡ Ok y
        → IsRead (g.files old) First first given → IsRead (g.files mid) Second second more → AreRead (g.files old) Both (first ∷ second ∷ []) (these (given ∷ more ∷ []))
    both_read second read y given more gives is_read is_more = (
      read_well (g.files old) First Both first read given y gives is_read,
      (later_read (g.files old) (g.files mid) Second Both second more reads_.same_files later is_more, λ i. refl),
    )

    -- and the second too
    both_well : {C : Type 0} (second : List ℕ) (y : C) → IsBlamed Second second faults.Unread (Ok y) → Both None
    both_well second y blamed_second = later None (none_failed Second second faults.Unread y blamed_second)

    -- and the second is at fault
    second_blamed : {C : Type 0} (second : List ℕ) (fault : FileFault) → IsBlamed {A = C} Second second faults.Unread (Err fault)
        → SaysWhich Both (first ∷ second ∷ []) (refusal second fault)
    second_blamed {C} second fault h =
        blames_file {A = C} Both (first ∷ second ∷ []) second fault (inr (inl refl)) (blamed_later {A = C} Second Both second faults.Unread (Err fault) later h)

  -- ---- delta

  delta_step : (t : Delta) (j : JobFields) (given : Option (List ℕ)) (l : Option (List ℕ)) (o : Result Done NamedFault) → input_as job_in given ≡ Ok j
      → MakesDelta t (Ok j) (input t.ledger ledger_in l) o → Makes (commands.Delta t) (these (given ∷ l ∷ [])) o
  delta_step t j given l o gives m = subst (λ (x : Result JobFields FileFault). MakesDelta t (named t.job x) (input t.ledger ledger_in l) o) (sym gives) m

  delta_then : (t : Delta) (j : JobFields) (l : LedgerFields) (given given_ledger : Option (List ℕ)) (o : Result Done NamedFault)
      → input_as job_in given ≡ Ok j → input_as ledger_in given_ledger ≡ Ok l
      → MakesPart t.job t.part t.new_ledger l j o → Makes (commands.Delta t) (these (given ∷ given_ledger ∷ [])) o
  delta_then t j l given given_ledger o gives gives_ledger m =
      delta_step t j given given_ledger o gives (subst (λ (x : Result LedgerFields FileFault). MakesDelta t (Ok j) (named t.ledger x) o) (sym gives_ledger) m)

  pub delta_no_ledger : {B C : Type 0} (t : Delta) (view : B → JobFields) (x : B) (shape : C → LedgerFields) (fault : FileFault) → IsInput (g.files old) First t.job job_in view (Ok x)
      → IsInput (g.files mid) Second t.ledger ledger_in shape (Err fault) → (fault ≡ faults.NoMemory → IsErr r) → IfOk r (λ a. reply_fields a ≡ refusal t.ledger fault)
      → IfOk r (λ a. IsReply (commands.Delta t) (g.files old) Both (reply_fields a))
  delta_no_ledger {B} {C} t view x shape fault (given, read, gives, blamed) (more, read_ledger, gives_ledger, blamed_ledger) memory is =
      made_unless (commands.Delta t) (g.files old) Both (these (given ∷ more ∷ [])) t.ledger fault r
      (both_read t.job x blamed t.ledger job_in (view x) given more gives read read_ledger) (second_blamed t.job x blamed {C = C} t.ledger fault blamed_ledger)
      (λ refute. delta_step t (view x) given more (Err (record { name = t.ledger; fault = fault })) gives
      (subst (λ (y : Result LedgerFields FileFault). MakesDelta t (Ok (view x)) (named t.ledger y) (Err (record { name = t.ledger; fault = fault }))) (sym (gives_ledger refute)) refl)) memory is

  pub delta_made : {B C : Type 0} (t : Delta) (view : B → JobFields) (x : B) (shape : C → LedgerFields) (l : C) (p : PublicationFields) → IsInput (g.files old) First t.job job_in view (Ok x)
      → IsInput (g.files mid) Second t.ledger ledger_in shape (Ok l) → FitsFields (view x) → IsWithinLimits PUBLISHED (view x) → Publishes (shape l) (view x) (Ok p)
      → IfOk r (λ a. reply_fields a ≡ done (publication_done t.part t.new_ledger p)) → IfOk r (λ a. IsReply (commands.Delta t) (g.files old) Both (reply_fields a))
  delta_made t view x shape l p (given, read, gives, blamed) (more, read_ledger, gives_ledger, blamed_ledger) fits limits publishes is =
      made (commands.Delta t) (g.files old) Both (these (given ∷ more ∷ [])) (Ok (publication_done t.part t.new_ledger p)) r
      (both_read t.job x blamed t.ledger job_in (view x) given more gives read read_ledger) (inl (both_well t.job x blamed t.ledger l blamed_ledger))
      (delta_then t (view x) (shape l) given more (Ok (publication_done t.part t.new_ledger p)) gives gives_ledger
      (record { fits = fits; limits = limits; result = Ok p; publishes = publishes; is = refl })) is

  pub delta_not : {B C : Type 0} (t : Delta) (view : B → JobFields) (x : B) (shape : C → LedgerFields) (l : C) (fault : PublishFault) → IsInput (g.files old) First t.job job_in view (Ok x)
      → IsInput (g.files mid) Second t.ledger ledger_in shape (Ok l) → FitsFields (view x) → IsWithinLimits PUBLISHED (view x) → NotPublished (shape l) (view x) fault
      → (of_publishing fault ≡ faults.NoMemory → IsErr r) → IfOk r (λ a. reply_fields a ≡ refusal t.job (of_publishing fault))
      → IfOk r (λ a. IsReply (commands.Delta t) (g.files old) Both (reply_fields a))
  delta_not t view x shape l fault (given, read, gives, blamed) (more, read_ledger, gives_ledger, blamed_ledger) fits limits publishes memory is =
      made_unless (commands.Delta t) (g.files old) Both (these (given ∷ more ∷ [])) t.job (of_publishing fault) r
      (both_read t.job x blamed t.ledger job_in (view x) given more gives read read_ledger) (inl (both_well t.job x blamed t.ledger l blamed_ledger))
      (λ refute. delta_then t (view x) (shape l) given more (Err (record { name = t.job; fault = of_publishing fault })) gives gives_ledger
      (record { fits = fits; limits = limits; result = Err fault; publishes = publishes_err (shape l) (view x) fault publishes refute; is = refl })) memory is

  -- ---- install

  install_step : (i : Install) (parts : List SealedFields) (given more : Option (List ℕ)) (y : Result (SealedFields × ℕ) FileFault)
      → input_as store_in given ≡ Ok parts → input_as part_in more ≡ y
      → (named i.part y >>= install_then i parts) ≡ (input i.store store_in given >>= install_after i more)
  install_step i parts given more y gives is =
      ap (λ (z : Result (SealedFields × ℕ) FileFault). named i.part z >>= install_then i parts) (sym is)
      ∙ sym (ap (λ (z : Result (List SealedFields) FileFault). named i.store z >>= install_after i more) gives)

  install_last : (i : Install) (parts : List SealedFields) (x : SealedFields × ℕ) (y : Result (List SealedFields) FileFault) → installed parts x.0 ≡ y
      → (named i.part y >>= (λ more. Ok (stored i.new_store more))) ≡ install_then i parts x
  install_last i parts x y is = ap (λ (z : Result (List SealedFields) FileFault). named i.part z >>= (λ more. Ok (stored i.new_store more))) (sym is)

  pub install_no_part : {B C : Type 0} (i : Install) (view : B → List SealedFields) (x : B) (shape : C → SealedFields × ℕ) (fault : FileFault)
      → IsInput (g.files old) First i.store store_in view (Ok x)
      → IsInput (g.files mid) Second i.part part_in shape (Err fault) → (fault ≡ faults.NoMemory → IsErr r) → IfOk r (λ a. reply_fields a ≡ refusal i.part fault)
      → IfOk r (λ a. IsReply (commands.Install i) (g.files old) Both (reply_fields a))
  install_no_part {B} {C} i view x shape fault (given, read, gives, blamed) (more, read_part, gives_part, blamed_part) memory is =
      made_unless (commands.Install i) (g.files old) Both (these (given ∷ more ∷ [])) i.part fault r
      (both_read i.store x blamed i.part store_in (view x) given more gives read read_part) (second_blamed i.store x blamed {C = C} i.part fault blamed_part)
      (λ refute. install_step i (view x) given more (Err fault) gives (gives_part refute)) memory is

  pub install_made : {B C E : Type 0} (i : Install) (view : B → List SealedFields) (x : B) (shape : C → SealedFields × ℕ) (p : C) (form : E → List SealedFields) (y : E)
      → IsInput (g.files old) First i.store store_in view (Ok x) → IsInput (g.files mid) Second i.part part_in shape (Ok p)
      → GivesUnless faults.NoMemory form (Ok y) (installed (view x) (shape p).0)
      → IfOk r (λ a. reply_fields a ≡ done (stored i.new_store (form y))) → IfOk r (λ a. IsReply (commands.Install i) (g.files old) Both (reply_fields a))
  install_made i view x shape p form y (given, read, gives, blamed) (more, read_part, gives_part, blamed_part) grown is =
      made (commands.Install i) (g.files old) Both (these (given ∷ more ∷ [])) (Ok (stored i.new_store (form y))) r
      (both_read i.store x blamed i.part store_in (view x) given more gives read read_part) (inl (both_well i.store x blamed i.part p blamed_part))
      (install_last i (view x) (shape p) (Ok (form y)) grown ∙ install_step i (view x) given more (Ok (shape p)) gives gives_part) is

  pub install_not : {B C : Type 0} (i : Install) (view : B → List SealedFields) (x : B) (shape : C → SealedFields × ℕ) (p : C) (fault : FileFault)
      → IsInput (g.files old) First i.store store_in view (Ok x) → IsInput (g.files mid) Second i.part part_in shape (Ok p)
      → installed (view x) (shape p).0 ≡ Err fault
      → (fault ≡ faults.NoMemory → IsErr r) → IfOk r (λ a. reply_fields a ≡ refusal i.part fault) → IfOk r (λ a. IsReply (commands.Install i) (g.files old) Both (reply_fields a))
  install_not i view x shape p fault (given, read, gives, blamed) (more, read_part, gives_part, blamed_part) not_grown memory is =
      made_unless (commands.Install i) (g.files old) Both (these (given ∷ more ∷ [])) i.part fault r
      (both_read i.store x blamed i.part store_in (view x) given more gives read read_part) (inl (both_well i.store x blamed i.part p blamed_part))
      (λ refute. install_last i (view x) (shape p) (Err fault) not_grown ∙ install_step i (view x) given more (Ok (shape p)) gives gives_part) memory is
