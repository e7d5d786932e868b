use Rattle.std.proofs.Common.{◌≡◌, ◌<◌, ◌^◌, ℕ, Bool, false, List, ◌++◌, length, replicate, Ok, inl, inr, subst, sym, refl, arith}
use Rattle.std.proofs.lemmas.Bool.{cases_lt}
use Rattle.std.proofs.lemmas.List.{get_or_past, length-replicate, get_or-replicate}
use Rattle.std.proofs.lemmas.Result.{err_from_is_err_and}
use Rattle.octets_core.specs.declared.field.Field.{Field}
use Rattle.octets_core.specs.Reading.{length_of_three, any_key}
use Rattle.octets_core.specs.Position.{from_three}
use Rattle.octets_core.proofs.Fields.{mapped-ok}
use Rattle.octets_core.proofs.Texts.{IsBytes}
use Rattle.octets_core.proofs.ThreeBytes.{length_of_three-leaves}
use Rattle.outside_core.specs.declared.depot.Depot.{Ghosts}
use Rattle.outside_core.specs.declared.feed.Feed.{Feed}
use Rattle.outside_core.specs.Standing.{place_of}
use Rattle.job_core.specs.declared.fault.JobFault.TheVariants as faults
use Rattle.job_core.specs.JobLayout.{fielded}
use Rattle.job_core.specs.Pulling.{Lies, Fetches}
use Rattle.job_core.proofs.Given.{lies-second, lies-self}
use Rattle.job_core.proofs.Fetching.{field-ok, field-short, three-is, bytes-both}
use Rattle.job_core.proofs.fetch.fetch_u24.Goals as goal

pub returns-in_err-fetch-clause-exact : goal.returns-in_err-fetch-clause-exact
returns-in_err-fetch-clause-exact g c =
    let p = err_from_is_err_and c.from_residual.result c.from_residual.ensures.1 in
    rw (p.1, p.2) (field-short g.D.Depot (λ n. n) (fielded (length_of_three c.args.field)) c.args.field 3 any_key from_three (three-is c.args.field)
    c.args.feed.now c.fetch.new.feed c.fetch.new.out _ c.in_err-fetch.ensures.exact)

pub returns-clause-exact : goal.returns-clause-exact
returns-clause-exact g c =
    field-ok g.D.Depot (λ n. n) (fielded (length_of_three c.args.field)) c.args.field 3 any_key from_three (three-is c.args.field)
    c.args.feed.now c.fetch.new.feed c.fetch.new.out _ c.in_ok-fetch.ensures.exact refl c.from_be_bytes.ensures

-- what is read off bytes has three of them
three-high : {D : Type 0} (g : Ghosts D) (name : Field) (old new : Feed D) (n : ℕ) → Fetches g (λ (n : ℕ). n) (fielded (length_of_three name)) old new (Ok n) → n < 2 ^ 24
three-high g name old new n it =
    let zeros : List ℕ = replicate (place_of old) 0 in
    let file : List ℕ = zeros ++ it.given in
    let size : length zeros ≡ place_of old = length-replicate {A = ℕ} (place_of old) 0 in
    let lies : Lies false file (place_of old) it.given = lies-second false file 0 (place_of old) zeros it.given (omega (arith, size)) (lies-self false file) in
    let fits : IsBytes file = bytes-both zeros it.given (λ i. elim (cases_lt i (place_of old)) [
      | inl lt ↦ omega (arith, get_or-replicate {A = ℕ} (place_of old) i 0 0 lt)
      | inr past ↦ rw (get_or_past zeros i 0 (omega (arith, size, past))) (omega arith)
    ]) it.going.0 in
    let read = mapped-ok faults.Layout (length_of_three name) file (place_of old) (n, place_of new)
    (it.reads file (subst (λ (b : Bool). Lies b file (place_of old) it.given) (sym it.going.1) lies)) in
    ((length_of_three-leaves name file fits (place_of old)).each (n, place_of new) read).1

pub returns-clause-high : goal.returns-clause-high
returns-clause-high g c = three-high g.D.Depot c.args.field c.args.feed.now c.fetch.new.feed c.from_be_bytes.result (returns-clause-exact g c)
