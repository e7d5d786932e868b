use Rattle.std.proofs.Common.{◌≡◌, ◌+◌, ◌-◌, false, ℕ, List, length, take, sym, ap, subst, ◌∙◌, arith, length-take}
use Rattle.std.proofs.lemmas.List.{take_all}
use Rattle.octets_core.specs.Reading.{octets}
use Rattle.octets_core.specs.declared.fault.Why.TheVariants as why
use Rattle.outside_core.specs.Standing.{place_of}
use Rattle.job_core.specs.JobLayout.{fielded}
use Rattle.job_core.specs.Pulling.{Lies}
use Rattle.job_core.specs.declared.fault.JobFault.TheVariants as faults
use Rattle.job_core.proofs.Fetching.{fetched-octets, fetched-cut, fetched-unread}
use Rattle.job_core.proofs.Given.{lies-last, lies-window}
use Rattle.job_core.proofs.fetch.fetch.Goals as goal

pub returns-in-Ok-true-clause-exact : goal.returns-in-Ok-true-clause-exact
returns-in-Ok-true-clause-exact g c =
    let e = c.in-Ok-true.ensures in
    let next : place_of c.pull.new.feed ≡ place_of c.args.feed.now + length c.pull.new.out = omega (arith, e.full c.in-Ok-true.field-0-test, e.len) in
    fetched-octets g.D.Depot c.args.field (length c.args.out.now) c.args.feed.now c.pull.new.feed c.pull.new.out _ e.pulled e.unblamed (λ i. omega (arith, c.type_inv.out i))
    (sym e.len) next
    (λ file stands. subst (λ (l : List ℕ). Lies false file (place_of c.args.feed.now) l)
    (take_all (place_of c.pull.new.feed - place_of c.args.feed.now) c.pull.new.out (omega (arith, next))) (lies-window file (place_of c.args.feed.now) _ (e.given file stands)))

pub returns-in-Ok-false-clause-exact : goal.returns-in-Ok-false-clause-exact
returns-in-Ok-false-clause-exact g c =
    let e = c.in-Ok-false.ensures in
    let at = c.wrong.ensures ∙ ap (λ (n : ℕ). faults.Layout (record { at = n; field = c.args.field; why = why.Short })) c.at-at.ensures in
    let given : List ℕ = take (place_of c.pull.new.feed - place_of c.args.feed.now) c.pull.new.out in
    let few = e.short c.in-Ok-false.field-0-test in
    let size : length given ≡ place_of c.pull.new.feed - place_of c.args.feed.now
    = omega (arith, length-take (place_of c.pull.new.feed - place_of c.args.feed.now) c.pull.new.out, e.len, few) in
    fetched-cut g.D.Depot (λ u. c.pull.new.out) c.args.field (length c.args.out.now) c.args.feed.now c.pull.new.feed given c.wrong.result at e.pulled e.unblamed
    (omega (arith, size, few, e.pulled.further)) (omega (arith, size, e.pulled.further))
    (λ file stands. lies-last file (place_of c.args.feed.now) given (omega (arith, e.ended c.in-Ok-false.field-0-test file stands, size, e.pulled.further)) (lies-window file (place_of c.args.feed.now) given (e.given file stands)))

pub returns-in-Err-clause-exact : goal.returns-in-Err-clause-exact
returns-in-Err-clause-exact g c =
    let e = c.in-Err.ensures in
    let size = length-take (place_of c.pull.new.feed - place_of c.args.feed.now) c.pull.new.out in
    fetched-unread g.D.Depot (λ u. c.pull.new.out) (fielded (octets c.args.field (length c.args.out.now))) c.args.feed.now c.pull.new.feed
    (take (place_of c.pull.new.feed - place_of c.args.feed.now) c.pull.new.out) e.pulled e.cause (omega (arith, size, e.near, e.len, e.pulled.further))
    (λ file stands. lies-window file (place_of c.args.feed.now) _ (e.given file stands))
