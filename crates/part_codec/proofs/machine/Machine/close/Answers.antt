use Rattle.std.proofs.Common.{true, ◌≡◌, ℕ, ◌-◌, List, ◌++◌, take, ap, ◌∙◌, arith}
use Rattle.std.proofs.lemmas.Result.{err_from_is_err_and}
use Rattle.std.proofs.lemmas.List.{length-take}
use Rattle.part_codec.specs.declared.fields.TheConstants.{TRAILER}
use Rattle.part_codec.specs.Remaining.{Seen}
use Rattle.part_codec.specs.Stepping.{tail_of}
use Rattle.part_codec.specs.Scanning.{Stands, Hashes}
use Rattle.part_codec.proofs.MachineStands.{Closed, bytes-front, closes, hashes-closed, moved-from, piece-fails}
use Rattle.part_codec.proofs.machine.Machine.close.Goals as goal

pub returns-in_err-complete_trailer-clause-err : goal.returns-in_err-complete_trailer-clause-err
returns-in_err-complete_trailer-clause-err c =
    let p = err_from_is_err_and c.from_residual.result c.from_residual.ensures.1 in
    let piece = c.args.piece.now in
    let m = c.args.self.now in
    let t : List ℕ = take (32 - m.filled) piece in
    let h = c.hold-2.ensures in
    let tail : tail_of m.field ≡ TRAILER = ap tail_of c.requires.last in
    rw (p.1, p.2) (λ s b x st hashed.
    let k = closes m c.hold-2.new.self c.args.hasher.now s b t c.requires.last st (bytes-front _ piece (λ i. omega (arith, c.type_inv.piece i))) h.stays h.passed h.filled h.held
    (omega (arith, length-take (32 - m.filled) piece, c.if-piece-want.false, c.requires.partial, tail)) hashed in
    piece-fails b piece x (32 - m.filled) _ (c.in_err-complete_trailer.ensures.err s (b ++ t) _ k.opens k.whole k.hashed))

pub returns-clause-ok : goal.returns-clause-ok
returns-clause-ok c =
    let piece = c.args.piece.now in
    let m = c.args.self.now in
    let t : List ℕ = take (32 - m.filled) piece in
    let h = c.hold-2.ensures in
    let tail : tail_of m.field ≡ TRAILER = ap tail_of c.requires.last in
    let e = c.in_ok-complete_trailer.ensures in
    let k : (s : Seen) (b : List ℕ) → Stands m s b → Hashes m c.args.hasher.now b → Closed c.hold-2.new.self c.args.hasher.now s (b ++ t) = λ s b st hashed.
    closes m c.hold-2.new.self c.args.hasher.now s b t c.requires.last st (bytes-front _ piece (λ i. omega (arith, c.type_inv.piece i))) h.stays h.passed
    h.filled h.held (omega (arith, length-take (32 - m.filled) piece, c.if-piece-want.false, c.requires.partial, tail)) hashed in
    record {
      stands = λ s b st hashed.
          let w = k s b st hashed in (
            e.ok s (b ++ t) w.opens w.whole w.hashed,
            hashes-closed c.hold-2.new.self c.complete_trailer.new.self c.args.hasher.now s (b ++ t) (h.stays.field ∙ c.requires.last) w e.done
                (e.moved s (b ++ t) w.opens w.whole w.hashed).at,
          );
      moved = λ s b st hashed.
          let w = k s b st hashed in
          moved-from true m c.hold-2.new.self c.complete_trailer.new.self (b ++ t) h.stays.field h.stays.kept h.stays.at (e.moved s (b ++ t) w.opens w.whole w.hashed);
      partial = λ goes. absurd (goes e.done);
      count = omega (arith, c.if-piece-want.false);
    }
