use Rattle.std.proofs.Common.{◌≡◌, [], ◌++◌, Err, subst}
use Rattle.std.proofs.Math.Logic.{∥∥₁_elim}
use Rattle.part_text.specs.PartLayout.{part}
use Rattle.part_text.specs.declared.fault.PartFault.{PartFault}
use Rattle.part_codec.proofs.Scans.{no-memory, by-none, behind-of, done-ends, ends-at}
use Rattle.part_codec.proofs.scan.PartScan.feed.Goals as goal

pub returns-in-Ok-clause-less : goal.returns-in-Ok-clause-less
returns-in-Ok-clause-less c = λ lt b st.
    let l = c.args.self.now in
    let k = by-none l.fault l.machine l.nothing l.hasher b c.in_default.is st in
    done-ends c.read_on.new.machine _ (behind-of _ _ _ (c.in-Ok.ensures.ok.reads b k.0 k.1).0) (c.in-Ok.ensures.all lt)

pub returns-in-Ok-clause-ends : goal.returns-in-Ok-clause-ends
returns-in-Ok-clause-ends c = λ b s end st read.
    let l = c.args.self.now in
    let f = c.in-Ok.ensures in
    let k = by-none l.fault l.machine l.nothing l.hasher b c.in_default.is st in
    ends-at c.read_on.new.machine b c.args.piece.now c.in-Ok.n s end (behind-of _ _ _ (f.ok.reads b k.0 k.1).0) f.ok.partial f.ok.count f.all read

pub unreachable-requires : goal.unreachable-requires
unreachable-requires c =
    ∥∥₁_elim (c.args.self.now.read c.in_default.is) (λ a b. absurd a) (λ r.
    no-memory _ (subst (λ (e : PartFault). part (r.0 ++ c.args.piece.now ++ []) 0 ≡ Err e) c.in-Err-NoMemory.field-0-is (c.in-Err-NoMemory.ensures.err (λ never. absurd never) r.0 [] r.1 r.2)))
