use Rattle.std.proofs.Common.{ℕ, List, subst, rules}
use Rattle.std.proofs.lemmas.Result.{err_from_is_err_and}
use Rattle.std.proofs.lemmas.List.{take_rest}
use Rattle.part_codec.specs.Collecting.{FrontTo}
use Rattle.part_codec.proofs.MachineStands.{pieces-join}
use Rattle.part_codec.proofs.Readings.{part-piece-fails}
use Rattle.part_codec.proofs.walk.read_fields.Goals as goal

pub returns-in_err-n-clause-err : goal.returns-in_err-n-clause-err
returns-in_err-n-clause-err g c =
    let p = err_from_is_err_and c.from_residual.result c.from_residual.ensures.1 in
    let piece = c.args.piece.now in
    let n = c.loop-taken.taken in
    rw (p.1, p.2) (λ other b x read. part-piece-fails b piece x n _ _ (take_rest piece n) (c.in_err-n.ensures.err other _ x (c.loop-taken.invariant.stands b read).reads))

pub loop-taken-preserved : goal.loop-taken-preserved
loop-taken-preserved g c =
    let piece = c.args.piece.now in
    let n = c.loop-taken.taken in
    let f = c.in_ok-n.ensures.ok.takes in
    record {
      stands = λ b read.
          subst (λ (l : List ℕ). FrontTo g.C.Collector.holds c.walk.new.machine c.walk.new.to l) (pieces-join b piece n c.in_ok-n.n _ (take_rest piece n))
          (f.reads _ (c.loop-taken.invariant.stands b read).reads);
      read = f.read;
      within = search rules;
      partial = f.partial;
    }
