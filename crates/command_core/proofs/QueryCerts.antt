-- The reply to a query of a certificate in a file, from what was read of its three files.
use Rattle.std.proofs.Common.{◌≡◌, ℕ, inl, inr, List, [], ◌∷◌, Option, None, Result, Ok, Err, IfOk, refl, sym, ap, ◌∙◌, arith}
use Rattle.std.specs.Prelude.{IsErr}
use Rattle.octets_core.specs.declared.memory.NoMemory.{NoMemory}
use Rattle.outside_core.specs.declared.depot.Depot.{Ghosts}
use Rattle.outside_core.specs.Effects.{OnlyReads}
use Rattle.outside_core.specs.Files.{Files}
use Rattle.part_text.specs.SealedFields.{SealedFields}
use Rattle.word_core.specs.declared.command.Command.TheVariants as commands
use Rattle.word_core.specs.declared.command.QueryCert.{QueryCert}
use Rattle.word_core.specs.Names.{inputs_of}
use Rattle.command_core.specs.declared.answer.Answer.{Answer}
use Rattle.input_core.specs.declared.certificates.Certificate.{Certificate}
use Rattle.input_core.specs.declared.fault.FileFault.{FileFault}
use Rattle.input_core.specs.declared.fault.FileFault.TheVariants as faults
use Rattle.input_core.specs.Readings.{store_in, input_as}
use Rattle.input_core.specs.Certificates.{certificate_in, issuer_in}
use Rattle.outside_core.specs.Reads.{WhichFailed}
use Rattle.input_core.specs.Inputs.{IsRead, IsInput}
use Rattle.command_core.specs.ReplyFields.{Done, NamedFault}
use Rattle.command_core.specs.Commands.{◌>>=◌, named, input, query_cert_done}
use Rattle.command_core.specs.Replies.{done, refusal, IsReply}
use Rattle.command_core.specs.Answering.{reply_fields}
use Rattle.command_core.proofs.Following.{cert_last, cert_then, cert_after}
use Rattle.outside_core.proofs.Effects.{WhichFailed-then}
use Rattle.input_core.proofs.FilesRead.{some_read, later_read, none_failed, blamed_later}
use Rattle.command_core.proofs.Fronts.{these}
use Rattle.command_core.proofs.Replying.{read_well, blames_file, made, made_unless}

-- ---- files that were read one after the other

-- this file was read well
pub record WellRead
    {A : Type 0} (told : Option Files) (failed : Option (List ℕ) → Type 0) (name : List ℕ) (read : List ℕ → Result A FileFault) (x : A)
    : Type 0 where
  pub given : Option (List ℕ)
  pub is_read : IsRead told failed name given
  pub gives : input_as read given ≡ Ok x

-- what is read after what was read is all read
pub both_only : {D : Type 0} (g : Ghosts D) (old mid new : D) → OnlyReads g old mid → OnlyReads g mid new → OnlyReads g old new
both_only g old mid new first second =
    let a = first.later in
    let b = second.later in
    record { later = omega (arith, a, b); same_files = second.same_files ∙ first.same_files; same_writes = second.same_writes ∙ first.same_writes }

-- no read failed, where this one went well
pub none_before : {D A B : Type 0} (g : Ghosts D) (old mid : D) (name : List ℕ) (read : List ℕ → Result A FileFault) (view : B → A) (x : B)
    → IsInput (g.files old) (WhichFailed g old mid) name read view (Ok x) → WhichFailed g old mid None
none_before g old mid name read view x (given, is_read, gives, blamed) = none_failed (WhichFailed g old mid) name faults.Unread x blamed

module _ {D : Type 0} (g : Ghosts D) (old mid new : D) {A B : Type 0} (name : List ℕ) (read : List ℕ → Result A FileFault) (view : B → A) where
  -- a file that was read well before others
  pub well_before : (x : B) → IsInput (g.files old) (WhichFailed g old mid) name read view (Ok x) → WellRead (g.files old) (WhichFailed g old new) name read (view x)
  well_before x (given, is_read, gives, blamed) = record {
    given = given;
    is_read = read_well (g.files old) (WhichFailed g old mid) (WhichFailed g old new) name read given (view x) gives is_read;
    gives = gives;
  }

  -- a file that was read behind others that were read well
  pub input_behind : (r : Result B FileFault) → OnlyReads g old mid → WhichFailed g old mid None → IsInput (g.files mid) (WhichFailed g mid new) name read view r
      → IsInput (g.files old) (WhichFailed g old new) name read view r
  input_behind r reads_ well (given, is_read, gives, blamed) =
      let later = WhichFailed-then g old mid new reads_ well in (
        given,
        later_read (g.files old) (g.files mid) (WhichFailed g mid new) (WhichFailed g old new) name given reads_.same_files later is_read,
        gives,
        blamed_later (WhichFailed g mid new) (WhichFailed g old new) name faults.Unread r later blamed,
      )

-- ---- the outcome

-- what follows an input that was read well
step_to : {A : Type 0} (name : List ℕ) (read : List ℕ → Result A FileFault) (given : Option (List ℕ)) (x : A) (next : A → Result Done NamedFault)
    → input_as read given ≡ Ok x → next x ≡ (input name read given >>= next)
step_to {A} name read given x next gives = sym (ap (λ (z : Result A FileFault). named name z >>= next) gives)

fault_at : {A : Type 0} (name : List ℕ) (read : List ℕ → Result A FileFault) (given : Option (List ℕ)) (fault : FileFault) (next : A → Result Done NamedFault)
    → input_as read given ≡ Err fault → Err (record { name = name; fault = fault }) ≡ (input name read given >>= next)
fault_at {A} name read given fault next gives = sym (ap (λ (z : Result A FileFault). named name z >>= next) gives)

module _ (told : Option Files) (failed : Option (List ℕ) → Type 0) (r : Result Answer NoMemory) (q : QueryCert) where
  abbrev Refusing : List ℕ → FileFault → Type 0
  Refusing name fault = (fault ≡ faults.NoMemory → IsErr r) → IfOk r (λ a. reply_fields a ≡ refusal name fault) → IfOk r (λ a. IsReply (commands.QueryCert q) told failed (reply_fields a))

  module _ (parts : List SealedFields) (s : WellRead told failed q.store store_in parts) where
    -- CERT is
    pub no_cert : {B : Type 0} (view : B → Certificate) (fault : FileFault) → IsInput told failed q.cert certificate_in view (Err fault) → Refusing q.cert fault
    no_cert view fault (given, is_read, gives, blamed) memory is =
        let i = some_read told failed q.issuer_cert in
        made_unless (commands.QueryCert q) told failed (these (s.given ∷ given ∷ i.0 ∷ [])) q.cert fault r (s.is_read, (is_read, (i.1, λ n. refl)))
        (blames_file failed (inputs_of (commands.QueryCert q)) q.cert fault (inr (inl refl)) blamed)
        (λ refute. fault_at q.cert certificate_in given fault (cert_then q i.0 parts) (gives refute)
        ∙ step_to q.store store_in s.given parts (cert_after q given i.0) s.gives) memory is

    module _ (cert : Certificate) (k : WellRead told failed q.cert certificate_in cert) where
      -- what comes of the third file comes of the three
      behind_two : (given : Option (List ℕ)) (o : Result Done NamedFault) → o ≡ cert_then q given parts cert
          → o ≡ (input q.store store_in s.given >>= cert_after q k.given given)
      behind_two given o is =
          is ∙ step_to q.cert certificate_in k.given cert (cert_then q given parts) k.gives
          ∙ step_to q.store store_in s.given parts (cert_after q k.given given) s.gives

      -- ISSUERCERT is
      pub no_issuer : {B : Type 0} (view : B → List ℕ) (fault : FileFault) → IsInput told failed q.issuer_cert issuer_in view (Err fault) → Refusing q.issuer_cert fault
      no_issuer view fault (given, is_read, gives, blamed) memory is =
          made_unless (commands.QueryCert q) told failed (these (s.given ∷ k.given ∷ given ∷ [])) q.issuer_cert fault r (s.is_read, (k.is_read, (is_read, λ n. refl)))
          (blames_file failed (inputs_of (commands.QueryCert q)) q.issuer_cert fault (inr (inr (inl refl))) blamed)
          (λ refute. behind_two given (Err (record { name = q.issuer_cert; fault = fault }))
          (fault_at q.issuer_cert issuer_in given fault (cert_last parts cert) (gives refute))) memory is

      -- none is
      pub query_cert_made : {B : Type 0} (view : B → List ℕ) (x : B) → IsInput told failed q.issuer_cert issuer_in view (Ok x)
          → IfOk r (λ a. reply_fields a ≡ done (query_cert_done parts cert (view x))) → IfOk r (λ a. IsReply (commands.QueryCert q) told failed (reply_fields a))
      query_cert_made view x (given, is_read, gives, blamed) is =
          made (commands.QueryCert q) told failed (these (s.given ∷ k.given ∷ given ∷ [])) (Ok (query_cert_done parts cert (view x))) r (s.is_read, (k.is_read, (is_read, λ n. refl)))
          (inl (none_failed failed q.issuer_cert faults.Unread x blamed))
          (behind_two given (Ok (query_cert_done parts cert (view x))) (step_to q.issuer_cert issuer_in given (view x) (cert_last parts cert) gives)) is
