use Rattle.std.proofs.Common.{true, ℕ, List, ◌-◌, ◌<◌, length, take, drop, subst, arith, rules}
use Rattle.std.proofs.lemmas.List.{take_rest}
use Rattle.part_codec.specs.declared.fields.Open.{Open}
use Rattle.part_codec.specs.Collecting.{CanPut}
use Rattle.part_codec.proofs.Collects.{can-put, steps-put, steps-issuer, can-next, steps-from}
use Rattle.part_codec.proofs.walk.step_block.Goals as goal

pub step_apart-requires : goal.step_apart-requires
step_apart-requires g c = rw (c.whole_field-n.ensures.left c.if-n-eq0.true) c.requires.can

pub returns-then-more-eq0-clause-ok : goal.returns-then-more-eq0-clause-ok
returns-then-more-eq0-clause-ok g c =
    rw (c.whole_mode-more.ensures.left c.if-more-eq0.true) (steps-issuer g.C.Collector.holds c.args.machine.now c.whole_field-n.new.self c.args.to.now c.args.piece.now c.whole_field-n.result
    c.requires.can c.requires.field (c.whole_field-n.ensures.taken (omega (arith, c.if-n-eq0.false))))

pub put-requires : goal.put-requires
put-requires g c = λ whole.
    let H = g.C.Collector.holds in
    let m = c.args.machine.now in
    let n = c.whole_field-n.new.self in
    let o = c.whole_mode-more.new.self in
    let to = c.args.to.now in
    let piece = c.args.piece.now in
    let k : ℕ = c.whole_field-n.result in
    let rest : List ℕ = take (length piece - k) (drop k piece) in
    let some : 0 < k = omega (arith, c.if-n-eq0.false) in
    let more : 0 < c.whole_mode-more.result = omega (arith, c.if-more-eq0.false) in
    let first = steps-issuer H m n to piece k c.requires.can c.requires.field (c.whole_field-n.ensures.taken some) in
    subst (λ (q : Open). ∥ CanPut H to q o.kept (take c.whole_mode-more.result rest) ∥₁) (c.whole_field-n.ensures.next some)
    (can-put H n o to rest c.whole_mode-more.result true (can-next H m n to to piece k first (search rules)) (c.whole_mode-more.ensures.taken more) whole)

pub returns-clause-ok : goal.returns-clause-ok
returns-clause-ok g c =
    let H = g.C.Collector.holds in
    let m = c.args.machine.now in
    let n = c.whole_field-n.new.self in
    let o = c.whole_mode-more.new.self in
    let to = c.args.to.now in
    let piece = c.args.piece.now in
    let k : ℕ = c.whole_field-n.result in
    let rest : List ℕ = take (length piece - k) (drop k piece) in
    let some : 0 < k = omega (arith, c.if-n-eq0.false) in
    let more : 0 < c.whole_mode-more.result = omega (arith, c.if-more-eq0.false) in
    let first = steps-issuer H m n to piece k c.requires.can c.requires.field (c.whole_field-n.ensures.taken some) in
    let second = steps-put H n o to c.put.new.self rest c.whole_mode-more.result true (can-next H m n to to piece k first (search rules)) (c.whole_mode-more.ensures.taken more)
    (rw (c.whole_field-n.ensures.next some) c.in_ok-put.ensures.ok) in
    steps-from H m n o to to c.put.new.self piece rest k c.whole_mode-more.result (take_rest piece k) first second.takes
