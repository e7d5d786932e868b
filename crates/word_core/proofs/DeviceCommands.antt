-- Words that name no command on a device.
use Rattle.std.proofs.Common.{◌≡◌, ℕ, List, ◌∷◌, refl}
use Rattle.std.specs.Prelude.{codes}
use Rattle.word_core.proofs.Commands.{other}
use Rattle.word_core.specs.declared.device.DeviceCommand.TheVariants as commands
use Rattle.word_core.specs.Devices.{device_command_of}

-- a name that is none of the three
pub no_device_command : (name : List ℕ) (rest : List (List ℕ)) → (name ≡ codes "device-format" → ⊥) → (name ≡ codes "device-install" → ⊥)
    → (name ≡ codes "device-query" → ⊥) → device_command_of (name ∷ rest) ≡ commands.Usage
no_device_command name rest format install query =
    rw (other name (codes "device-format") format, other name (codes "device-install") install, other name (codes "device-query") query) refl
