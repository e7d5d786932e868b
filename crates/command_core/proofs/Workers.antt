-- What comes of a command, and what it is answered, doesn't depend on its number of workers.
use Rattle.std.proofs.Common.{◌≡◌, ℕ, inl, inr, List, Result, Ok, Err, refl, sym, ◌∙◌}
use Rattle.std.specs.Prelude.{◌↔◌}
use Rattle.input_core.specs.Queries.{Query}
use Rattle.job_core.specs.JobFields.{JobFields}
use Rattle.ledger_core.specs.LedgerFields.{LedgerFields}
use Rattle.publication_core.specs.declared.base_fault.BaseFault.{BaseFault}
use Rattle.publication_core.specs.Rebasing.{BasePublicationFields}
use Rattle.word_core.specs.declared.command.Command.{Command}
use Rattle.word_core.specs.declared.command.Command.TheVariants as commands
use Rattle.word_core.specs.declared.command.{Snapshot.Snapshot, Delta.Delta, Rebase.Rebase, Rehearse.Rehearse}
use Rattle.word_core.specs.Names.{inputs_of, outputs_of}
use Rattle.command_core.specs.ReplyFields.{ReplyFields, Done, NamedFault}
use Rattle.input_core.specs.Inputs.{Inputs, rest_of}
use Rattle.input_core.specs.Readings.{queries_in, job_in, ledger_in}
use Rattle.command_core.specs.Commands.{input, MakesSnapshot, MakesDelta, MakesRehearsal, Makes}
use Rattle.command_core.specs.Rebasings.{rebased_as, MakesBase, MakesRebase}
use Rattle.command_core.specs.Replies.{IsReplyOver}
use Rattle.command_core.specs.Workers.{with_workers}

both : (P : Type 0) → P ↔ P
both P = (λ p. p, λ p. p)

snapshot_same : (n : ℕ) (s : Snapshot) (r : Result JobFields NamedFault) (o : Result Done NamedFault)
    → MakesSnapshot s r o ↔ MakesSnapshot (record s { workers = n }) r o
snapshot_same n s (Ok j) o = both (MakesSnapshot s (Ok j) o)
snapshot_same n s (Err e) o = both (MakesSnapshot s (Err e) o)

delta_same : (n : ℕ) (d : Delta) (r : Result JobFields NamedFault) (l : Result LedgerFields NamedFault)
    (o : Result Done NamedFault) → MakesDelta d r l o ↔ MakesDelta (record d { workers = n }) r l o
delta_same n d (Ok j) (Ok l) o = both (MakesDelta d (Ok j) (Ok l) o)
delta_same n d (Ok j) (Err e) o = both (MakesDelta d (Ok j) (Err e) o)
delta_same n d (Err e) l o = both (MakesDelta d (Err e) l o)

as_same : (n : ℕ) (r : Rebase) (x : Result BasePublicationFields BaseFault) → rebased_as r x ≡ rebased_as (record r { workers = n }) x
as_same n r (Ok p) = refl
as_same n r (Err fault) = refl

-- the same, since no field of what is made holds the number of workers
based_same : (n : ℕ) (r : Rebase) (before : LedgerFields) (o : Result Done NamedFault)
    → MakesBase r before o ↔ MakesBase (record r { workers = n }) before o
based_same n r before o = (
  λ m. record { result = m.result; publishes = m.publishes; is = m.is ∙ as_same n r m.result },
  λ m. record { result = m.result; publishes = m.publishes; is = m.is ∙ sym (as_same n r m.result) },
)

rebase_same : (n : ℕ) (r : Rebase) (l : Result LedgerFields NamedFault) (o : Result Done NamedFault)
    → MakesRebase r l o ↔ MakesRebase (record r { workers = n }) l o
rebase_same n r (Ok l) o = based_same n r l o
rebase_same n r (Err e) o = both (MakesRebase r (Err e) o)

rehearse_same : (n : ℕ) (r : Rehearse) (q : Result (List Query) NamedFault) (inputs : Inputs)
    (o : Result Done NamedFault) → MakesRehearsal r q inputs o ↔ MakesRehearsal (record r { workers = n }) q inputs o
rehearse_same n r (Ok queries) inputs o = both (MakesRehearsal r (Ok queries) inputs o)
rehearse_same n r (Err e) inputs o = both (MakesRehearsal r (Err e) inputs o)

pub makes_same : (n : ℕ) (c : Command) (inputs : Inputs) (o : Result Done NamedFault)
    → Makes c inputs o ↔ Makes (with_workers n c) inputs o
makes_same n (commands.Snapshot s) inputs o = snapshot_same n s (input s.job job_in (inputs 0)) o
makes_same n (commands.Delta d) inputs o = delta_same n d (input d.job job_in (inputs 0)) (input d.ledger ledger_in (inputs 1)) o
makes_same n (commands.Rebase r) inputs o = rebase_same n r (input r.ledger ledger_in (inputs 0)) o
makes_same n (commands.Rehearse r) inputs o = rehearse_same n r (input r.queries queries_in (inputs 0)) (rest_of inputs) o
makes_same n c inputs o = both (Makes c inputs o)

pub inputs_same : (n : ℕ) (c : Command) → inputs_of (with_workers n c) ≡ inputs_of c
inputs_same n (commands.Snapshot s) = refl
inputs_same n c = refl

pub outputs_same : (n : ℕ) (c : Command) → outputs_of (with_workers n c) ≡ outputs_of c
outputs_same n (commands.Snapshot s) = refl
outputs_same n c = refl

-- ---- replies

same_usage : (n : ℕ) (c : Command) → (c ≡ commands.Usage) ↔ (with_workers n c ≡ commands.Usage)
same_usage n (commands.Snapshot s) = (λ e. cc, λ e. cc)
same_usage n (commands.Delta d) = (λ e. cc, λ e. cc)
same_usage n (commands.Rebase r) = (λ e. cc, λ e. cc)
same_usage n (commands.Rehearse r) = (λ e. cc, λ e. cc)
same_usage n c = both (c ≡ commands.Usage)

-- where the same comes of both
over_same : (a b : Command) (inputs : Inputs) (reply : ReplyFields) → (a ≡ commands.Usage → b ≡ commands.Usage)
    → ((o : Result Done NamedFault) → Makes a inputs o → Makes b inputs o)
    → IsReplyOver a inputs reply → IsReplyOver b inputs reply
over_same a b inputs reply u f (inl (none, same)) = inl (u none, same)
over_same a b inputs reply u f (inr (o, m, same)) = inr (o, f o m, same)

pub replies_same : (n : ℕ) (c : Command) (inputs : Inputs) (reply : ReplyFields)
    → IsReplyOver c inputs reply ↔ IsReplyOver (with_workers n c) inputs reply
replies_same n c inputs reply =
    let w = with_workers n c in (
      over_same c w inputs reply (same_usage n c).0 (λ o. (makes_same n c inputs o).0),
      over_same w c inputs reply (same_usage n c).1 (λ o. (makes_same n c inputs o).1),
    )
