use Rattle.std.proofs.Common.{◌≡◌, ◌∙◌, length, ap, arith}
use Rattle.std.proofs.lemmas.Bool.Decides.{nat_tests}
use Rattle.view_core.proofs.BucketLaws.{length-buckets, word_is}
use Rattle.view_core.proofs.buckets.before.Goals as goal

pub returns-in-Some-clause-value : goal.returns-in-Some-clause-value
returns-in-Some-clause-value c = λ blocks is many lt.
    let told = word_is blocks c.args.table.now c.args.count c.args.bucket c.in-Some.word.now is many lt (c.in-Some.ensures.lookup.3.1 0) in
    let few : c.min.result ≡ c.in-Some.word.now = (let w = told.1 in let m = c.min.ensures in grind (arith, nat_tests)) in
    few ∙ told.0

pub returns-in-None-clause-value : goal.returns-in-None-clause-value
returns-in-None-clause-value c = λ blocks is many lt.
    absurd (omega (arith, c.in-None.ensures.lookup.3, ap length is, length-buckets blocks, many, lt))
