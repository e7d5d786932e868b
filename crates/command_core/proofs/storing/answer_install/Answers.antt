use Rattle.std.proofs.Common.{refl}
use Rattle.input_core.specs.Readings.{store_in}
use Rattle.word_core.specs.declared.command.Command.TheVariants as commands
use Rattle.outside_core.specs.Reads.{WhichFailed}
use Rattle.command_core.proofs.Replying.{first_refused, install_made, install_no_part, install_not}
use Rattle.command_core.proofs.storing.answer_install.Goals as goal

pub returns-in-Err-clause-reply : goal.returns-in-Err-clause-reply
returns-in-Err-clause-reply g c =
    first_refused (g.D.Depot.files c.args.depot.now) (WhichFailed g.D.Depot c.args.depot.now _) c.refused.result (commands.Install c.args.install.now) c.args.install.now.store _ store_in (λ s. s) c.in-Err.fault refl (λ at h. h)
    (rw c.as_str.ensures at c.in-Err.ensures.input) c.refused.ensures.memory (rw c.as_str-in-Err.ensures at c.refused.ensures.ok)

pub returns-in-Err-part_in-clause-reply : goal.returns-in-Err-part_in-clause-reply
returns-in-Err-part_in-clause-reply g c =
    install_no_part g.D.Depot c.args.depot.now _ _ c.in-Ok.ensures.only_reads c.refused-in-Err-part_in.result c.args.install.now (λ s. s) c.in-Ok.store (λ x. x)
    c.in-Err-part_in.fault (rw c.as_str.ensures at c.in-Ok.ensures.input) (rw c.as_str-2.ensures at c.in-Err-part_in.ensures.input) c.refused-in-Err-part_in.ensures.memory
    (rw c.as_str-in-Err-part_in.ensures at c.refused-in-Err-part_in.ensures.ok)

pub returns-in-Ok-installed-clause-reply : goal.returns-in-Ok-installed-clause-reply
returns-in-Ok-installed-clause-reply g c =
    install_made g.D.Depot c.args.depot.now _ _ c.in-Ok.ensures.only_reads c.stored.result c.args.install.now (λ s. s) c.in-Ok.store (λ x. x)
    (c.in-Ok-part_in.part, c.in-Ok-part_in.field-0-1) (λ s. s) c.in-Ok-installed.store (rw c.as_str.ensures at c.in-Ok.ensures.input) (rw c.as_str-2.ensures at c.in-Ok-part_in.ensures.input)
    c.in-Ok-installed.ensures.ok (rw c.as_str-in-Ok-installed.ensures at c.stored.ensures)

pub returns-in-Err-installed-clause-reply : goal.returns-in-Err-installed-clause-reply
returns-in-Err-installed-clause-reply g c =
    install_not g.D.Depot c.args.depot.now _ _ c.in-Ok.ensures.only_reads c.refused-in-Err-installed.result c.args.install.now (λ s. s) c.in-Ok.store (λ x. x)
    (c.in-Ok-part_in.part, c.in-Ok-part_in.field-0-1) c.in-Err-installed.fault (rw c.as_str.ensures at c.in-Ok.ensures.input) (rw c.as_str-2.ensures at c.in-Ok-part_in.ensures.input)
    c.in-Err-installed.ensures.err c.refused-in-Err-installed.ensures.memory (rw c.as_str-in-Err-installed.ensures at c.refused-in-Err-installed.ensures.ok)
