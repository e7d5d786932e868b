use Rattle.std.proofs.Common.{refl, ◌∙◌, arith, inl, inr}
use Rattle.std.proofs.lemmas.Result.{err_from_is_err_and}
use Rattle.slot_core.proofs.FieldLaws.{Refuses-later, breaks-mark, breaks-version, no-capacity, few-capacity}
use Rattle.slot_core.proofs.examine.read_header.Goals as goal

pub returns-in_err-check_magic-clause-refusal : goal.returns-in_err-check_magic-clause-refusal
returns-in_err-check_magic-clause-refusal g c =
    let p = err_from_is_err_and c.from_residual.result c.from_residual.ensures.1 in
    rw (p.1, p.2) (Refuses-later _ _ (g.D.Disk.state c.args.disk.now) (g.D.Disk.state c.args.disk.now) (g.D.Disk.state c.check_magic.new.disk) refl (omega arith)
    (λ device at told (is, none) there. breaks-mark device at is there none) _ c.in_err-check_magic.ensures.refusal)

pub returns-in_err-check_version-clause-refusal : goal.returns-in_err-check_version-clause-refusal
returns-in_err-check_version-clause-refusal g c =
    let p = err_from_is_err_and c.from_residual-in_err-check_version.result c.from_residual-in_err-check_version.ensures.1 in
    rw (p.1, p.2) (Refuses-later _ _ (g.D.Disk.state c.args.disk.now) (g.D.Disk.state c.check_magic.new.disk) (g.D.Disk.state c.check_version.new.disk)
    c.check_magic.ensures.quiet.same c.check_magic.ensures.later
    (λ device at told (is, none) there. breaks-version device at is (c.in_ok-check_magic.ensures.ok device told) none) _ c.in_err-check_version.ensures.refusal)

pub returns-in_default-clause-refusal : goal.returns-in_default-clause-refusal
returns-in_default-clause-refusal g c = λ device told there.
    few-capacity device c.in-Some.capacity (c.in_ok-check_magic.ensures.ok device told) (c.in_ok-check_version.ensures.ok device (c.check_magic.ensures.quiet.same ∙ told))
    (rw c.in-Some.is at (c.in_ok-capacity.ensures.number device (c.check_version.ensures.quiet.same ∙ c.check_magic.ensures.quiet.same ∙ told)))
    (rw c.in-Some.is at c.in_ok-capacity.ensures.fits) (inr (omega arith))

pub returns-in_default-2-clause-refusal : goal.returns-in_default-2-clause-refusal
returns-in_default-2-clause-refusal g c = λ device told there.
    few-capacity device c.in-Some.capacity (c.in_ok-check_magic.ensures.ok device told) (c.in_ok-check_version.ensures.ok device (c.check_magic.ensures.quiet.same ∙ told))
    (rw c.in-Some.is at (c.in_ok-capacity.ensures.number device (c.check_version.ensures.quiet.same ∙ c.check_magic.ensures.quiet.same ∙ told)))
    (rw c.in-Some.is at c.in_ok-capacity.ensures.fits) (inl (omega arith))

pub returns-in_default-3-clause-refusal : goal.returns-in_default-3-clause-refusal
returns-in_default-3-clause-refusal g c = λ device told there.
    no-capacity device (c.in_ok-check_magic.ensures.ok device told) (c.in_ok-check_version.ensures.ok device (c.check_magic.ensures.quiet.same ∙ told))
    (rw c.in_default.is at (c.in_ok-capacity.ensures.number device (c.check_version.ensures.quiet.same ∙ c.check_magic.ensures.quiet.same ∙ told)))
