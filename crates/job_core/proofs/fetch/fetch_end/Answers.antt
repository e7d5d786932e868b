use Rattle.std.proofs.Common.{◌≡◌, ℕ, length, false, Err, sym, ap, subst, ◌∙◌, arith}
use Rattle.std.specs.Prelude.{◌==◌}
use Rattle.std.proofs.lemmas.Bool.{eqb-true}
use Rattle.std.proofs.lemmas.List.{nil_from_length}
use Rattle.octets_core.specs.declared.field.Field.TheVariants as fields
use Rattle.octets_core.specs.declared.fault.Why.TheVariants as why
use Rattle.outside_core.specs.Feeding.{IsWindow}
use Rattle.outside_core.specs.Standing.{place_of, buffered_of}
use Rattle.job_core.specs.declared.fault.JobFault.{JobFault}
use Rattle.job_core.specs.declared.fault.JobFault.TheVariants as faults
use Rattle.job_core.proofs.Fetching.{end-wrong}
use Rattle.job_core.proofs.Given.{lies-next}
use Rattle.job_core.proofs.fetch.fetch_end.Goals as goal

pub returns-in-Ok-clause-pulled : goal.returns-in-Ok-clause-pulled
returns-in-Ok-clause-pulled g c =
    let e = c.refill.ensures in
    record { same_reference = e.same_reference; name = e.name; only_reads = e.only_reads; stands = e.stands; further = omega (arith, e.at) }

pub returns-in-Ok-clause-ended : goal.returns-in-Ok-clause-ended
returns-in-Ok-clause-ended g c = λ file stands.
    let none : length c.buffered.result.now ≡ 0 = eqb-true (length c.buffered.result.now) 0 (sym c.is_empty.ensures ∙ c.if-is_empty.true) in
    (c.in-Ok.ensures.ends file stands).0 (sym c.buffered.ensures.value ∙ nil_from_length _ none)

pub returns-in-Ok-2-clause-pulled : goal.returns-in-Ok-2-clause-pulled
returns-in-Ok-2-clause-pulled g c =
    let e = c.refill.ensures in
    record { same_reference = e.same_reference; name = e.name; only_reads = e.only_reads; stands = e.stands; further = omega (arith, e.at) }

pub returns-in-Ok-2-clause-more : goal.returns-in-Ok-2-clause-more
returns-in-Ok-2-clause-more g c = λ of.
    let e = c.in-Ok.ensures in
    let at = c.wrong.ensures ∙ ap (λ (n : ℕ). faults.Layout (record { at = n; field = fields.End; why = why.Value })) (c.at.ensures ∙ e.at) in
    let not : (length c.buffered.result.now == 0) ≡ false = sym c.is_empty.ensures ∙ c.if-is_empty.false in
    let (x, next) = lies-next c.buffered.result.now not in (
      x,
      λ file stands. next file (place_of c.args.feed.now)
          (rw (c.buffered.ensures.value) (subst (λ (n : ℕ). IsWindow file n (buffered_of c.refill.new.self)) e.at (e.stands file stands).window)),
      λ file lt. end-wrong file (place_of c.args.feed.now) lt ∙ ap (λ (d : JobFault). Err d) (sym at),
    )
