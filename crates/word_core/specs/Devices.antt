-- What the words of a command on a device spell (docs/FORMATS.md, "Words").
use Rattle.std.specs.Prelude.{ℕ, List, [], ◌∷◌, Option, Some, None, codes, if◌then◌else◌}
use Rattle.std.specs.Str.{bytes_eq}
use Rattle.octets_core.specs.Layout.{within}
use Rattle.slot_core.specs.declared.device.TheConstants.{MAX_CAPACITY}
use Rattle.word_core.specs.Words.{◌>>=◌, name_of, number_of, query_of}
use Rattle.word_core.specs.declared.device.{DeviceCommand.DeviceCommand, Format.Format, InstallPart.InstallPart}
use Rattle.word_core.specs.declared.device.DeviceCommand.TheVariants as commands

-- one or more, and no more than a slot may hold
abbrev pub capacity_of : List ℕ → Option ℕ
capacity_of word = do
  n ← number_of word
  if within 1 MAX_CAPACITY n then Some n else None

-- DEVICE CAPACITY STORE
abbrev pub format_of : List (List ℕ) → Option Format
format_of (device ∷ capacity ∷ store ∷ []) = do
  d ← name_of device
  c ← capacity_of capacity
  s ← name_of store
  if bytes_eq d s then None else Some (record { device = d; capacity = c; store = s })
format_of words = None

-- DEVICE PART
abbrev pub install_part_of : List (List ℕ) → Option InstallPart
install_part_of (device ∷ part ∷ []) = do
  d ← name_of device
  p ← name_of part
  if bytes_eq d p then None else Some (record { device = d; part = p })
install_part_of words = None

-- a command where its words are there, or none
abbrev pub asks_device : {A : Type 0} → (A → DeviceCommand) → Option A → DeviceCommand
asks_device command (Some x) = command x
asks_device command None = commands.Usage

-- what the words of a call ask of a device; those of the query name the device in the place of STORE
abbrev pub device_command_of : List (List ℕ) → DeviceCommand
device_command_of [] = commands.Usage
device_command_of (command ∷ words) =
    if bytes_eq command (codes "device-format") then asks_device commands.Format (format_of words)
    else if bytes_eq command (codes "device-install") then asks_device commands.Install (install_part_of words)
    else if bytes_eq command (codes "device-query") then asks_device commands.Query (query_of words)
    else commands.Usage
