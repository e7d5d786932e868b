-- Commands that differ in WORKERS alone.
use Rattle.std.specs.Prelude.{ℕ}
use Rattle.word_core.specs.declared.command.Command.{Command}
use Rattle.word_core.specs.declared.command.Command.TheVariants as commands

-- the command with this number of workers; one that takes none is as it was
abbrev pub with_workers : ℕ → Command → Command
with_workers n (commands.Snapshot s) = commands.Snapshot (record s { workers = n })
with_workers n (commands.Delta d) = commands.Delta (record d { workers = n })
with_workers n (commands.Rebase r) = commands.Rebase (record r { workers = n })
with_workers n (commands.Rehearse r) = commands.Rehearse (record r { workers = n })
with_workers n command = command
