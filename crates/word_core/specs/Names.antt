-- What holds of the names of files of each command that words spell.
use Rattle.std.specs.Prelude.{◌≡◌, ◌≤◌, true, length}
use Rattle.ident_core.specs.declared.bounds.TheConstants.{MAX_PARTS}
use Rattle.word_core.specs.declared.command.Command.{Command}
use Rattle.word_core.specs.declared.command.Command.TheVariants.{Audit}
pub use Rattle.word_core.specs.Words.{inputs_of, outputs_of}
use Rattle.word_core.specs.Words.{are_apart}

-- no output of the command has the name of an input or of another output
abbrev pub IsApart : Command → Type 0
IsApart command = are_apart (inputs_of command) (outputs_of command) ≡ true

-- the command, where it audits a store, names no more jobs than a chain may have parts
abbrev pub HasFewJobs : Command → Type 0
HasFewJobs (Audit audit) = length audit.jobs ≤ MAX_PARTS
HasFewJobs command = Unit {0}
