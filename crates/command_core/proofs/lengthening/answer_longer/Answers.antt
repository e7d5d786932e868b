use Rattle.std.proofs.Common.{◌∙◌}
use Rattle.outside_core.specs.Reads.{WhichFailed}
use Rattle.command_core.proofs.FilesPut.{fewer-before, head_not, longer_made, longer_not}
use Rattle.command_core.proofs.lengthening.answer_longer.Goals as goal

pub returns-in-Err-clause-reply : goal.returns-in-Err-clause-reply
returns-in-Err-clause-reply g c =
    head_not c.args.source.now c.args.head.now c.args.to.now c.args.files.now (g.D.Depot.files c.args.depot.now) (WhichFailed g.D.Depot c.args.depot.now _) c.refused.result c.in-Err.fault
    c.in-Err.ensures.refused c.refused.ensures.memory c.refused.ensures.ok

pub closed-requires : goal.closed-requires
closed-requires g c =
    let (j, opens, is_input) = c.in-Ok.ensures.opened in
    fewer-before c.args.source.now c.args.to.now c.args.files.now _ j _ c.entries-before.result c.put_files.new.job (c.entries-before.ensures ∙ opens.count)
    (c.in-Ok-put_files.ensures.put j opens)

pub returns-in-Ok-put_files-clause-reply : goal.returns-in-Ok-put_files-clause-reply
returns-in-Ok-put_files-clause-reply g c =
    let (j, opens, is_input) = c.in-Ok.ensures.opened in
    longer_made c.args.source.now c.args.head.now c.args.to.now c.args.files.now g.D.Depot c.args.depot.now _ _ c.in-Ok.ensures.only_reads j c.closed.result c.put_files.new.job is_input
    (c.in-Ok-put_files.ensures.put j opens) (λ entries longer. c.closed.ensures j entries (c.entries-before.ensures ∙ opens.count) longer)

pub returns-clause-reply : goal.returns-clause-reply
returns-clause-reply g c =
    let (j, opens, is_input) = c.in-Ok.ensures.opened in
    longer_not c.args.source.now c.args.head.now c.args.to.now c.args.files.now g.D.Depot c.args.depot.now _ _ c.in-Ok.ensures.only_reads j c.in-Err-put_files.file.name.now
    c.in-Err-put_files.file.fault is_input
    (λ differ. c.in-Err-put_files.ensures.refused differ j opens) c.refused-in-Err-put_files.result c.refused-in-Err-put_files.ensures.memory c.refused-in-Err-put_files.ensures.ok
