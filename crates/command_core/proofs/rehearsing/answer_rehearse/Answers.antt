use Rattle.std.proofs.Common.{map, Ok, Vec, Global, refl}
use Rattle.input_core.specs.declared.query.Asked.{Asked}
use Rattle.input_core.specs.Queries.{as_query}
use Rattle.command_core.specs.declared.answer.Answer.TheVariants as answers
use Rattle.input_core.specs.Readings.{queries_in}
use Rattle.word_core.specs.declared.command.Command.TheVariants as commands
use Rattle.outside_core.specs.Reads.{WhichFailed}
use Rattle.command_core.proofs.Rehearsal.{rehearse_made, rehearse_not}
use Rattle.command_core.proofs.Replying.{first_refused}
use Rattle.command_core.proofs.rehearsing.answer_rehearse.Goals as goal

pub returns-in-Err-clause-reply : goal.returns-in-Err-clause-reply
returns-in-Err-clause-reply g c =
    first_refused (g.D.Depot.files c.args.depot.now) (WhichFailed g.D.Depot c.args.depot.now _) c.refused.result (commands.Rehearse c.args.rehearse.now) c.args.rehearse.now.queries _ queries_in (λ (v : Vec Asked Global). map as_query v.items) c.in-Err.fault refl (λ at h. h)
    (rw c.as_str.ensures at c.in-Err.ensures.input)
    c.refused.ensures.memory (rw c.as_str-in-Err.ensures at c.refused.ensures.ok)

pub returns-in-Ok-with_files-clause-reply : goal.returns-in-Ok-with_files-clause-reply
returns-in-Ok-with_files-clause-reply g c =
    rehearse_made g.D.Depot c.args.depot.now _ _ c.in-Ok.ensures.only_reads c.args.rehearse.now (Ok (answers.Lines c.put_verdicts.new.text))
    (λ (v : Vec Asked Global). map as_query v.items) c.in-Ok.queries c.in-Ok-with_files.rehearsal c.in-Ok-with_files.text.items c.put_verdicts.new.text.items
    (rw c.as_str.ensures at c.in-Ok.ensures.input)
    (rw c.as_slice-names.ensures.value at c.in-Ok-with_files.ensures.rehearsed) (rw c.deref.ensures.value at c.in_ok-put_verdicts-in-Ok-with_files.ensures) refl

pub returns-clause-reply : goal.returns-clause-reply
returns-clause-reply g c =
    rehearse_not g.D.Depot c.args.depot.now _ _ c.in-Ok.ensures.only_reads c.args.rehearse.now (λ (v : Vec Asked Global). map as_query v.items) c.in-Ok.queries
    c.in-Err-with_files.file.name.now c.in-Err-with_files.file.fault (rw c.as_str.ensures at c.in-Ok.ensures.input) (rw c.as_slice-names.ensures.value at c.in-Err-with_files.ensures.refused)
    c.refused-in-Err-with_files.result c.refused-in-Err-with_files.ensures.memory c.refused-in-Err-with_files.ensures.ok
