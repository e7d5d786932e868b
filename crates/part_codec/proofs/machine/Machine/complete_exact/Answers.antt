use Rattle.std.proofs.Common.{true, false, List, ℕ, ◌++◌, Err, drop, inr, sym, ap, subst, ◌∙◌, arith}
use Rattle.octets_core.specs.declared.fault.LayoutFault.{LayoutFault}
use Rattle.part_codec.specs.declared.fields.Open.{Open}
use Rattle.part_codec.specs.Stepping.{in_front, skips, AreLimits}
use Rattle.part_codec.proofs.WholePlanes.{Goes, plane-width, plane-tested, whole-now, whole-fails, whole-stands, whole-passes}
use Rattle.part_codec.proofs.MachineStands.{Opened-more, ok-map, err-map, moved-settled, partial-settled}
use Rattle.part_codec.proofs.machine.Machine.complete_exact.Goals as goal

pub returns-then-not-is_last_padded-clause-err : goal.returns-then-not-is_last_padded-clause-err
returns-then-not-is_last_padded-clause-err c = λ s b x st.
    let m = c.args.self.now in
    let t = c.args.plane.now in
    whole-fails m s b t x st (λ i. omega (arith, c.type_inv.plane i)) c.requires.passed c.requires.empty (plane-width m t (inr c.requires.field) c.requires.len) (ap in_front c.requires.field)
    (plane-tested m t false (inr c.requires.field) c.requires.len (sym c.is_last_padded.ensures ∙ c.if-not-is_last_padded.true))
    ∙ ap (λ (e : LayoutFault). Err e) (sym c.fault.ensures)

pub returns-clause-ok : goal.returns-clause-ok
returns-clause-ok c =
    let m = c.args.self.now in
    let n = c.pass_exact.new.self in
    let t = c.args.plane.now in
    let goes : Goes m n t = record {
      passes = plane-tested m t true (inr c.requires.field) c.requires.len (sym c.is_last_padded.ensures ∙ c.if-not-is_last_padded.false);
      limits = subst (λ (o : Open). AreLimits o (drop (skips m.field m.kept) t)) (sym c.requires.field) tt;
      kept = c.pass_exact.ensures.kept _;
      field = c.pass_exact.ensures.next;
      at = c.pass_exact.ensures.at;
      passed = c.pass_exact.ensures.passed;
      empty = c.pass_exact.ensures.empty;
    } in
    ok-map c.settle.result (λ f s b st. f _ (b ++ t)
    (whole-stands m n s b t st (λ i. omega (arith, c.type_inv.plane i)) c.requires.passed c.requires.empty (plane-width m t (inr c.requires.field) c.requires.len) goes)) c.settle.ensures.ok

pub returns-clause-moved : goal.returns-clause-moved
returns-clause-moved c =
    let m = c.args.self.now in
    let n = c.pass_exact.new.self in
    let t = c.args.plane.now in
    let goes : Goes m n t = record {
      passes = plane-tested m t true (inr c.requires.field) c.requires.len (sym c.is_last_padded.ensures ∙ c.if-not-is_last_padded.false);
      limits = subst (λ (o : Open). AreLimits o (drop (skips m.field m.kept) t)) (sym c.requires.field) tt;
      kept = c.pass_exact.ensures.kept _;
      field = c.pass_exact.ensures.next;
      at = c.pass_exact.ensures.at;
      passed = c.pass_exact.ensures.passed;
      empty = c.pass_exact.ensures.empty;
    } in
    let width = plane-width m t (inr c.requires.field) c.requires.len in
    let last : List ℕ = drop (skips m.field m.kept) t in
    ok-map c.settle.result (λ f s b st. f s (b ++ t) (Opened-more m s b t (λ i. omega (arith, c.type_inv.plane i)) st.opens)
    (whole-now m s b t st c.requires.passed c.requires.empty width))
    (moved-settled c.settle.result m n c.settle.new.self last c.settle.ensures.next c.settle.ensures.kept c.settle.ensures.at c.pass_exact.ensures.next
    (λ s b o w. whole-passes m n s b t width goes o w))

pub returns-clause-err : goal.returns-clause-err
returns-clause-err c =
    let m = c.args.self.now in
    let n = c.pass_exact.new.self in
    let t = c.args.plane.now in
    let goes : Goes m n t = record {
      passes = plane-tested m t true (inr c.requires.field) c.requires.len (sym c.is_last_padded.ensures ∙ c.if-not-is_last_padded.false);
      limits = subst (λ (o : Open). AreLimits o (drop (skips m.field m.kept) t)) (sym c.requires.field) tt;
      kept = c.pass_exact.ensures.kept _;
      field = c.pass_exact.ensures.next;
      at = c.pass_exact.ensures.at;
      passed = c.pass_exact.ensures.passed;
      empty = c.pass_exact.ensures.empty;
    } in
    err-map _ _ c.settle.result (λ e f s b x st. f _ (b ++ t) x
    (whole-stands m n s b t st (λ i. omega (arith, c.type_inv.plane i)) c.requires.passed c.requires.empty (plane-width m t (inr c.requires.field) c.requires.len) goes)) c.settle.ensures.err

pub returns-clause-partial : goal.returns-clause-partial
returns-clause-partial c = partial-settled c.settle.result c.settle.new.self c.pass_exact.new.self.field c.settle.ensures.next c.settle.ensures.empty
