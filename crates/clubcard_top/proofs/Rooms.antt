-- Entries that are put behind a job are as many as may stand there.
use Rattle.std.proofs.Common.{◌≡◌, ℕ, ◌+◌, ◌≤◌, Bool, true, false, List, [], ◌∷◌, ◌++◌, length, Result, Ok, Err, refl, sym, ap, subst, ◌∙◌}
use Rattle.std.proofs.Common.{length-append, arith}
use Rattle.std.specs.Prelude.{nat_le, if◌then◌else◌}
use Rattle.std.specs.FinMap.{get}
use Rattle.std.proofs.lemmas.Bool.{leb-true}
use Rattle.outside_core.specs.Files.{Files}
use Rattle.job_core.specs.JobLayout.{EntryText}
use Rattle.job_core.specs.declared.bounds.TheConstants.Limits as limits
use Rattle.job_core.specs.declared.bounds.What.TheVariants as what
use Rattle.input_core.specs.declared.fault.FileFault.TheVariants as faults
use Rattle.command_core.specs.ReplyFields.{NamedFault}
use Rattle.command_core.specs.Commands.{input}
use Rattle.command_core.specs.declared.lengthening.Source.{Source}
use Rattle.command_core.specs.Longer.{entries_by, room_for, entries_of}
use Rattle.command_core.specs.Replies.{held_under}
use Rattle.command_core.proofs.Following.{entries_last, entries_then}
use Rattle.command_core.proofs.Results.{ok_same, not_ok, after_ok}

room_fits_by : (job : List ℕ) (before : ℕ) (page few : List EntryText) (b : Bool) → nat_le (before + length page) limits.PUBLISHED.entries ≡ b
    → if◌then◌else◌ {A = Result (List EntryText) NamedFault} b (Ok page) (Err (record { name = job; fault = faults.TooMany what.Entries limits.PUBLISHED.entries })) ≡ Ok few
    → before + length few ≤ limits.PUBLISHED.entries
room_fits_by job before page few true fits h =
    subst (λ (l : List EntryText). before + length l ≤ limits.PUBLISHED.entries) (ok_same {E = NamedFault} page few h)
    (leb-true (before + length page) limits.PUBLISHED.entries fits)
room_fits_by job before page few false fits h = absurd (not_ok few (record { name = job; fault = faults.TooMany what.Entries limits.PUBLISHED.entries }) h)

room_fits : (job : List ℕ) (before : ℕ) (page few : List EntryText) → room_for job before page ≡ Ok few → before + length few ≤ limits.PUBLISHED.entries
room_fits job before page few h = room_fits_by job before page few (nat_le (before + length page) limits.PUBLISHED.entries) refl h

more_fit : (entries few others : List EntryText) (before : ℕ) → entries ≡ few ++ others
    → before + length few + length others ≤ limits.PUBLISHED.entries → before + length entries ≤ limits.PUBLISHED.entries
more_fit entries few others before same fit = omega (arith, ap (λ (l : List EntryText). length l) same ∙ length-append few others, fit)

-- where so many may stand in a job, these may stand behind them
abbrev pub HaveRoom : ℕ → List EntryText → Type 0
HaveRoom before entries = before ≤ limits.PUBLISHED.entries → before + length entries ≤ limits.PUBLISHED.entries

pub entries_few : (files : Files) (source : Source) (epoch : ℕ) (job : List ℕ) (before : ℕ) (names : List (List ℕ)) (entries : List EntryText)
    → Ok entries ≡ entries_of source epoch job before names (held_under files names) → HaveRoom before entries
entries_few files source epoch job before [] entries h few = omega (arith, few, ap (λ (l : List EntryText). length l) (ok_same {E = NamedFault} entries [] h))
entries_few files source epoch job before (name ∷ names) entries h few =
    let others = held_under files names in
    let one = after_ok (input name (entries_by source epoch) (get files name)) (entries_then source epoch job before names others) entries h in
    let two = after_ok (room_for job before one.0) (entries_last source epoch job before names others) entries one.2 in
    let three = after_ok (entries_of source epoch job (before + length two.0) names others) (λ more. Ok (two.0 ++ more)) entries two.2 in
    more_fit entries two.0 three.0 before (ok_same {E = NamedFault} entries (two.0 ++ three.0) three.2)
    (entries_few files source epoch job (before + length two.0) names three.0 (sym three.1) (room_fits job before one.0 two.0 two.1))
