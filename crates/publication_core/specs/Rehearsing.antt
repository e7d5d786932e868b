-- What a history publishes, held together; and what a job adds to it.
use Rattle.std.specs.Prelude.{◌≡◌, List, [], Option, Some, None}
use Rattle.part_text.specs.SealedFields.{SealedFields}
use Rattle.job_core.specs.JobFields.{JobFields}
use Rattle.ledger_core.specs.LedgerFields.{LedgerFields}
use Rattle.universe_core.specs.Jobs.{facts_of}
use Rattle.universe_core.specs.Formats.{in_format}
use Rattle.universe_core.specs.History.{past_of}
use Rattle.universe_core.specs.Counting.{counts}
use Rattle.universe_core.specs.Ledgers.{no_ledger, ledger_of}
use Rattle.publication_core.specs.Formats.{current}
use Rattle.publication_core.specs.Histories.{History, members, with_job, IsHistory, parts_of, releases_of}
use Rattle.publication_core.specs.declared.rehearsal.Report.{Report}

-- the parts, and the ledger behind them
pub record RehearsalFields : Type 0 where
  pub parts : List SealedFields
  pub ledger : LedgerFields

-- of no job
abbrev pub of_none : RehearsalFields
of_none = record { parts = []; ledger = no_ledger }

-- that, or of a store with its ledger
abbrev pub fields_of : Option (List SealedFields × LedgerFields) → RehearsalFields
fields_of None = of_none
fields_of (Some x) = record { parts = x.0; ledger = x.1 }

-- The rehearsal holds the parts and the ledger of the history.
pub record IsOf (h : History) (r : RehearsalFields) : Type 0 where
  pub is_history : IsHistory h
  pub parts : r.parts ≡ parts_of h
  pub ledger : r.ledger ≡ ledger_of (releases_of h)

-- the report of a job behind a history
abbrev pub report_of : History → JobFields → Report
report_of h job = record {
  epoch = job.epoch;
  place = members h;
  counts = counts (past_of (releases_of h)) (facts_of job);
}

-- The job goes on with the history: the rehearsal is of both.
pub record Adds (h : History) (job : JobFields) (after : RehearsalFields) (said : Report) : Type 0 where
  pub sealed : SealedFields
  pub is_of : IsOf (with_job h (in_format current job) sealed) after
  pub report : said ≡ report_of h job
