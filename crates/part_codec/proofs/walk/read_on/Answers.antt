use Rattle.std.proofs.Common.{ℕ, List, ◌++◌, ◌-◌, length, take, drop, Result, ap, subst, sym, ◌∙◌, rules}
use Rattle.std.proofs.Math.Logic.{∥∥₁_map}
use Rattle.std.proofs.lemmas.Result.{err_from_is_err_and}
use Rattle.std.proofs.lemmas.List.{take_rest}
use Rattle.octets_core.specs.Layout.{with_fault}
use Rattle.octets_core.specs.declared.fault.LayoutFault.{LayoutFault}
use Rattle.part_text.specs.SealedFields.{SealedFields}
use Rattle.part_text.specs.declared.fault.PartFault.TheVariants as faults
use Rattle.part_codec.specs.Scanning.{Hashes}
use Rattle.part_codec.specs.Collecting.{ReadsTo}
use Rattle.part_codec.proofs.MachineStands.{pieces-join}
use Rattle.part_codec.proofs.Collects.{reads-end}
use Rattle.part_codec.proofs.Readings.{part-piece-fails}
use Rattle.part_codec.proofs.walk.read_on.Goals as goal

pub returns-in_err-last-clause-err : goal.returns-in_err-last-clause-err
returns-in_err-last-clause-err g c =
    let p = err_from_is_err_and c.from_residual-in_err-last.result c.from_residual-in_err-last.ensures.1 in
    let piece = c.args.piece.now in
    let n = c.in_ok-taken.taken in
    rw (p.1, p.2) (λ other b x read h.
    let r = c.in_ok-taken.ensures.ok.reads b read h in
    part-piece-fails b piece x n _ _ (take_rest piece n)
    (ap (λ (y : Result (SealedFields × ℕ) LayoutFault). with_fault faults.Layout y) (c.in_err-last.ensures.err r.0.2.0 _ x r.0.2.1 r.1)))

pub returns-clause-ok : goal.returns-clause-ok
returns-clause-ok g c =
    let piece = c.args.piece.now in
    let n = c.in_ok-taken.taken in
    let front = c.in_ok-taken.ensures.ok in
    let last = c.in_ok-last.ensures.ok in
    let m = c.read_front.new.machine in
    let ended : (b : List ℕ) → ReadsTo g.C.Collector.holds m c.read_front.new.to b → Hashes m c.read_front.new.hasher b
    → ReadsTo g.C.Collector.holds c.end.new.self c.read_front.new.to (b ++ take c.in_ok-last.last (take (length piece - n) (drop n piece))) = λ b r hashed. (
      r.0,
      r.1,
      reads-end c.in_ok-last.field-0-1 m c.end.new.self r.0 b _ (sym c.is_front.ensures ∙ c.if-is_front.false) r.2
          (last.moved r.2.0 b r.2.1 hashed) (last.stands r.2.0 b r.2.1 hashed).0,
    ) in
    record {
      reads = λ b read h.
          let r = front.reads b read h in
          subst (λ (l : List ℕ). ReadsTo g.C.Collector.holds c.end.new.self c.read_front.new.to l × Hashes c.end.new.self c.read_front.new.hasher l) (pieces-join b piece n c.in_ok-last.last _ (take_rest piece n))
          (ended (b ++ take n piece) r.0 r.1, (last.stands r.0.2.0 _ r.0.2.1 r.1).1);
      read = ∥∥₁_map front.read (λ r. (_, ended r.0 r.1 r.2, (last.stands r.1.2.0 r.0 r.1.2.1 r.2).1));
      partial = last.partial;
      count = search rules;
    }
