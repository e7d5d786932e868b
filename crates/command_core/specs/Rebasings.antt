-- What `rebase`, `rebase-without` and `split` make of their file: a chain that begins anew from a ledger, without what
-- is left out.
use Rattle.std.specs.Prelude.{◌≡◌, ℕ, List, [], ◌∷◌, Result, Ok, Err}
use Rattle.ledger_core.specs.LedgerFields.{LedgerFields}
use Rattle.place_core.specs.Cuts.{Cut, without, at_place}
use Rattle.publication_core.specs.declared.base.BaseCounts.{BaseCounts}
use Rattle.publication_core.specs.declared.base_fault.BaseFault.{BaseFault}
use Rattle.publication_core.specs.Rebasing.{BasePublicationFields, PublishesBase}
use Rattle.word_core.specs.declared.command.{Left.Left, Rebase.Rebase}
use Rattle.word_core.specs.declared.command.Left.TheVariants as lefts
use Rattle.line_core.specs.Lines.{rebase_line, rebase_without_line, split_line}
use Rattle.line_core.specs.declared.line.Base.{Base}
use Rattle.command_core.specs.Faults.{of_rebasing}
use Rattle.command_core.specs.ReplyFields.{Done, NamedFault}
use Rattle.command_core.specs.Outcomes.{both_files}

-- what a line says of a base of this epoch
abbrev pub base_said : ℕ → BaseCounts → Base
base_said epoch c =
    record { epoch = epoch; issuers = c.issuers; universe = c.universe; revoked = c.revoked; pruned = c.pruned }

-- the line of a base of this epoch, without what is left out
abbrev pub base_line : Left → ℕ → BaseCounts → List ℕ
base_line (lefts.Issuers []) epoch c = rebase_line (base_said epoch c)
base_line (lefts.Issuers (issuer ∷ issuers)) epoch c = rebase_without_line (base_said epoch c) c.left
base_line (lefts.OtherPlaces by count p) epoch c = split_line p count (base_said epoch c) c.left

-- what is kept where this is left out
abbrev pub cut_without : Left → Cut
cut_without (lefts.Issuers issuers) = without issuers
cut_without (lefts.OtherPlaces by count p) = at_place by count p

-- the part and the ledger that begin the chain, and how many they have of each
abbrev pub base_done : Rebase → BasePublicationFields → Done
base_done r p = both_files r.part r.new_ledger p.sealed p.ledger (base_line r.left p.sealed.part.head.epoch p.counts)

-- what is wrong is wrong with LEDGER
abbrev pub rebased_as : Rebase → Result BasePublicationFields BaseFault → Result Done NamedFault
rebased_as r (Ok p) = Ok (base_done r p)
rebased_as r (Err fault) = Err (record { name = r.ledger; fault = of_rebasing fault })

-- what is published of a ledger at the moment
pub record MakesBase (r : Rebase) (before : LedgerFields) (o : Result Done NamedFault) : Type 0 where
  pub result : Result BasePublicationFields BaseFault
  pub publishes : PublishesBase before r.moment (cut_without r.left) result
  pub is : o ≡ rebased_as r result

abbrev pub MakesRebase : Rebase → Result LedgerFields NamedFault → Result Done NamedFault → Type 0
MakesRebase r (Ok before) o = MakesBase r before o
MakesRebase r (Err e) o = o ≡ Err e
