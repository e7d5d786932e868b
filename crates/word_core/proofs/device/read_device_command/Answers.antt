use Rattle.std.proofs.Common.{sym, map}
use Rattle.std.specs.Prelude.{string_bytes}
use Rattle.word_core.proofs.DeviceCommands.{no_device_command}
use Rattle.word_core.proofs.device.read_device_command.Goals as goal

pub returns-in_default : goal.returns-in_default
returns-in_default c =
    sym (no_device_command c.args.command.now (map string_bytes c.args.rest.now) c.in_default.not-text c.in_default.not-text-2 c.in_default.not-text-3)
