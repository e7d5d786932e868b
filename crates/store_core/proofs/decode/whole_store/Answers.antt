use Rattle.std.proofs.Common.{List, ℕ, [], Err, take, ap, sym, ◌∙◌, arith}
use Rattle.std.proofs.lemmas.List.{append-nil}
use Rattle.std.proofs.lemmas.Result.{err_from_is_err_and}
use Rattle.store_core.specs.declared.fault.StoreFault.{StoreFault}
use Rattle.store_core.specs.StoreLayout.{store_parts}
use Rattle.store_core.proofs.StoreReads.{parts-fail, parts-whole, parts-more, fails-whole, reads-front}
use Rattle.store_core.proofs.decode.whole_store.Goals as goal

pub returns-in_err-taken : goal.returns-in_err-taken
returns-in_err-taken c =
    let p = err_from_is_err_and c.from_residual.result c.from_residual.ensures.1 in
    rw (p.1, p.2) (λ wants.
    parts-fail c.args.bytes.now c.in_err-taken.field-0.0
    (ap (λ (l : List ℕ). store_parts l 0) (sym (append-nil c.args.bytes.now)) ∙ c.in_err-taken.ensures.err wants [] [] c.new-reader.ensures.stands))

pub returns-in_err-store : goal.returns-in_err-store
returns-in_err-store c =
    let p = err_from_is_err_and c.from_residual-in_err-store.result c.from_residual-in_err-store.ensures.1 in
    let e = c.in_ok-taken.ensures in
    let w = c.args.bytes.now in
    let n = c.in_ok-taken.taken in
    rw (p.1, p.2) (λ wants.
    parts-fail w c.in_err-store.field-0.0
    (fails-whole w n c.in_err-store.field-0.0 (λ lt. e.less lt [] c.new-reader.ensures.stands)
    (c.in_err-store.ensures.err wants (take n w) (e.ok [] c.new-reader.ensures.stands))))

pub returns-then-taken-bytes : goal.returns-then-taken-bytes
returns-then-taken-bytes c = λ wants.
    let e = c.in_ok-taken.ensures in
    let w = c.args.bytes.now in
    let n = c.in_ok-taken.taken in
    parts-more w c.in_ok-store.store n c.if-taken-bytes.true
    (reads-front w n c.in_ok-store.store e.count (λ x. c.in_ok-store.ensures.ok (take n w) x (e.ok [] c.new-reader.ensures.stands)))
    ∙ sym (ap (λ (k : StoreFault). Err k) (rw c.new.ensures at c.into.ensures))

pub returns : goal.returns
returns c =
    let e = c.in_ok-taken.ensures in
    let w = c.args.bytes.now in
    let n = c.in_ok-taken.taken in
    parts-whole w c.in_ok-store.store n (omega (arith, c.if-taken-bytes.false))
    (reads-front w n c.in_ok-store.store e.count (λ x. c.in_ok-store.ensures.ok (take n w) x (e.ok [] c.new-reader.ensures.stands)))
