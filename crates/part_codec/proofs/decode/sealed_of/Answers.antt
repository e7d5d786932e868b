use Rattle.std.proofs.Common.{List, ℕ, [], take, drop, ap, sym, ◌∙◌}
use Rattle.std.proofs.lemmas.Result.{err_from_is_err_and}
use Rattle.std.proofs.lemmas.List.{append-nil}
use Rattle.part_text.specs.PartLayout.{part}
use Rattle.part_codec.proofs.Readings.{given-ok, given-err}
use Rattle.part_codec.proofs.decode.sealed_of.Goals as goal

pub returns-in_err-taken : goal.returns-in_err-taken
returns-in_err-taken c =
    let p = err_from_is_err_and c.from_residual.result c.from_residual.ensures.1 in
    rw (p.1, p.2) (λ wants. ap (λ (l : List ℕ). part l 0) (sym (append-nil c.args.bytes.now)) ∙ c.in_err-taken.ensures.err wants [] [] c.new-reader.ensures.stands)

pub returns-in_err-sealed : goal.returns-in_err-sealed
returns-in_err-sealed c =
    let p = err_from_is_err_and c.from_residual-in_err-sealed.result c.from_residual-in_err-sealed.ensures.1 in
    let bytes = c.args.bytes.now in
    let n = c.in_ok-taken.taken in
    rw (p.1, p.2) (λ wants.
    given-err bytes n _ (λ lt. c.in_ok-taken.ensures.less lt [] c.new-reader.ensures.stands) (c.in_err-sealed.ensures.err wants (take n bytes) (c.in_ok-taken.ensures.ok [] c.new-reader.ensures.stands)))

pub returns : goal.returns
returns c =
    let bytes = c.args.bytes.now in
    let n = c.in_ok-taken.taken in
    given-ok bytes n _ c.in_ok-taken.ensures.count (c.in_ok-sealed.ensures.ok (take n bytes) (drop n bytes) (c.in_ok-taken.ensures.ok [] c.new-reader.ensures.stands))
