use Rattle.std.proofs.Common.{◌≡◌, ℕ, length, refl, subst}
use Rattle.outside_core.specs.Reads.{WhichFailed}
use Rattle.job_core.specs.JobText.{JobContents}
use Rattle.piece_core.specs.Pieces.{AreOf}
use Rattle.word_core.specs.declared.command.Command.TheVariants as commands
use Rattle.command_core.specs.Longer.{head_in}
use Rattle.command_core.proofs.CutFiles.{counted}
use Rattle.command_core.proofs.Replying.{first_refused, cut_made}
use Rattle.command_core.proofs.cutting.answer_cut.Goals as goal

pub returns-in-Ok-clause-reply : goal.returns-in-Ok-clause-reply
returns-in-Ok-clause-reply g c =
    let (j, are, is_input) = c.in-Ok.ensures.cut in
    let same : c.in-Some.count ≡ length c.args.cut.now.pieces =
    counted c.places_of.result (length c.args.cut.now.pieces) c.in-Some.count (rw c.as_slice-names.ensures.value at c.places_of.ensures) c.in-Some.is in
    cut_made (g.D.Depot.files c.args.depot.now) (WhichFailed g.D.Depot c.args.depot.now _) c.written.result c.args.cut.now j (rw c.as_str.ensures at is_input)
    (rw c.as_slice-names.ensures.value at c.written.ensures c.args.cut.now.by j (subst (λ (k : ℕ). AreOf c.args.cut.now.by k j c.in-Ok.pieces) same are))

pub returns-in-Err-clause-reply : goal.returns-in-Err-clause-reply
returns-in-Err-clause-reply g c =
    first_refused (g.D.Depot.files c.args.depot.now) (WhichFailed g.D.Depot c.args.depot.now _) c.refused.result (commands.Cut c.args.cut.now) c.args.cut.now.job _ head_in (λ (k : JobContents). k) c.in-Err.fault refl
    (λ at h. h) (rw c.as_str.ensures at c.in-Err.ensures.refused) c.refused.ensures.memory (rw c.as_str-in-Err.ensures at c.refused.ensures.ok)
