use Rattle.std.proofs.Common.{[], take, sym, ap, ◌∙◌}
use Rattle.std.proofs.lemmas.Result.{err_from_is_err_and}
use Rattle.std.proofs.lemmas.List.{append-nil}
use Rattle.part_text.specs.PartLayout.{sealed}
use Rattle.part_codec.specs.Noting.{noted}
use Rattle.view_core.proofs.Scans.{fed}
use Rattle.view_core.proofs.scan.noted_in.Goals as goal

pub returns-in_err-feed : goal.returns-in_err-feed
returns-in_err-feed c =
    let p = err_from_is_err_and c.from_residual.result c.from_residual.ensures.1 in
    let fault = c.in_err-feed.ensures.err [] [] c.new-scan.ensures.stands in
    rw (p.1, p.2) (sym (ap (λ l. noted (sealed l 0)) (sym (append-nil c.args.bytes.now)) ∙ ap noted fault))

pub returns : goal.returns
returns c =
    fed c.args.bytes.now c.in_ok-feed.field-0 c.finish.result
    (λ lt. c.in_ok-feed.ensures.less lt [] c.new-scan.ensures.stands)
    (c.finish.ensures.exact (take c.in_ok-feed.field-0 c.args.bytes.now) (c.in_ok-feed.ensures.ok [] c.new-scan.ensures.stands))
