-- What follows an input that was read.
use Rattle.std.proofs.Common.{ℕ, List, ◌++◌, Option, Result, Ok}
use Rattle.std.specs.Prelude.{length, ◌+◌}
use Rattle.part_text.specs.SealedFields.{SealedFields}
use Rattle.job_core.specs.JobText.{JobContents}
use Rattle.job_core.specs.JobLayout.{EntryText}
use Rattle.word_core.specs.declared.command.{QueryCert.QueryCert, Start.Start, Install.Install, Cut.Cut}
use Rattle.input_core.specs.declared.certificates.Certificate.{Certificate}
use Rattle.input_core.specs.Readings.{part_in}
use Rattle.input_core.specs.Certificates.{certificate_in, issuer_in}
use Rattle.input_core.specs.Inputs.{Inputs}
use Rattle.command_core.specs.ReplyFields.{Done, NamedFault}
use Rattle.command_core.specs.Commands.{◌>>=◌, named, input, begun, installed, stored, query_cert_done}
use Rattle.command_core.specs.declared.lengthening.Source.{Source}
use Rattle.command_core.specs.Longer.{room_for, entries_of, longer_done}
use Rattle.command_core.specs.Cuts.{cut_done}

abbrev pub start_after : Start → SealedFields × ℕ → Result Done NamedFault
start_after t x = named t.part (begun x.0) >>= (λ parts. Ok (stored t.store parts))

abbrev pub install_then : Install → List SealedFields → SealedFields × ℕ → Result Done NamedFault
install_then i parts x = named i.part (installed parts x.0) >>= (λ more. Ok (stored i.new_store more))

abbrev pub install_after : Install → Option (List ℕ) → List SealedFields → Result Done NamedFault
install_after i p parts = input i.part part_in p >>= install_then i parts

abbrev pub longer_after : Source → List ℕ → List (List ℕ) → Inputs → JobContents → Result Done NamedFault
longer_after source to names inputs j =
    entries_of source j.epoch to (length j.entries) names inputs >>= (λ entries. Ok (longer_done source to names j entries))

abbrev pub cut_after : Cut → JobContents → Result Done NamedFault
cut_after c j = Ok (cut_done c.by c.pieces j)

abbrev pub cert_last : List SealedFields → Certificate → List ℕ → Result Done NamedFault
cert_last parts cert issuer = Ok (query_cert_done parts cert issuer)

abbrev pub cert_then : QueryCert → Option (List ℕ) → List SealedFields → Certificate → Result Done NamedFault
cert_then q i parts cert = input q.issuer_cert issuer_in i >>= cert_last parts cert

abbrev pub cert_after : QueryCert → (cert issuer_cert : Option (List ℕ)) → List SealedFields → Result Done NamedFault
cert_after q k i parts = input q.cert certificate_in k >>= cert_then q i parts

-- what follows a file that was read, and one for whose entries there is room
abbrev pub entries_last : Source → ℕ → List ℕ → ℕ → List (List ℕ) → Inputs → List EntryText → Result (List EntryText) NamedFault
entries_last source epoch to before names inputs few =
    entries_of source epoch to (before + length few) names inputs >>= (λ others. Ok (few ++ others))

abbrev pub entries_then : Source → ℕ → List ℕ → ℕ → List (List ℕ) → Inputs → List EntryText → Result (List EntryText) NamedFault
entries_then source epoch to before names inputs read = room_for to before read >>= entries_last source epoch to before names inputs
