-- What comes of files that are rehearsed, stated file by file: the words of private functions and of proofs.
use Rattle.std.specs.Prelude.{◌≡◌, ◌⊎◌, ℕ, List, [], ◌∷◌, ◌++◌, Result, Ok, Err}
use Rattle.input_core.specs.Queries.{Query}
use Rattle.job_core.specs.Fitting.{FitsFields}
use Rattle.publication_core.specs.Histories.{Published, of_jobs, IsHistory}
use Rattle.command_core.specs.ReplyFields.{Done, NamedFault}
use Rattle.input_core.specs.Inputs.{Inputs, rest_of}
use Rattle.command_core.specs.Commands.{rehearsed, IsFileRefused, IsReadMember}

-- What comes of files that hold jobs, behind a history: the first that doesn't follow those before it is refused; and
-- where each follows, the parts of all of them are asked the queries.
abbrev pub RehearsesOn : List Query → List Published → List (List ℕ) → Inputs → Result Done NamedFault → Type 0
RehearsesOn queries ps [] inputs o = o ≡ Ok (rehearsed queries ps)
RehearsesOn queries ps (name ∷ names) inputs o =
    ((e : NamedFault) × IsFileRefused (of_jobs ps) name (inputs 0) e × (o ≡ Err e))
    ⊎ ((p : Published) × IsReadMember name (inputs 0) p × FitsFields p.job.job × IsHistory (of_jobs (ps ++ p ∷ []))
    × RehearsesOn queries (ps ++ p ∷ []) names (rest_of inputs) o)
