use Rattle.std.proofs.Common.{◌≡◌, ◌≤◌, ◌∙◌, ◌*◌, ◌/◌, ◌^◌, ℕ, List, length, take, ap, arith}
use Rattle.std.proofs.lemmas.Bool.Decides.{nat_tests}
use Rattle.octets_core.specs.Numbers.{number}
use Rattle.view_core.specs.Index.{bucket_in}
use Rattle.view_core.proofs.BucketLaws.{length-buckets, are_bounds}
use Rattle.view_core.proofs.Keys.{stands_all}
use Rattle.view_core.proofs.buckets.bounds_of.Goals as goal

pub returns-clause-value : goal.returns-clause-value
returns-clause-value c = λ blocks order is many.
    let key : List ℕ = c.bytes.result.now in
    let same = c.bytes.ensures.value in
    let first = c.first_eight_at.ensures.value key (ap length same ∙ c.bytes.ensures.len) (stands_all key) in
    let bucket : c.bucket_of-bucket.result ≡ bucket_in c.args.count c.args.key.now
    = c.bucket_of-bucket.ensures.value ∙ ap (λ (n : ℕ). n * c.args.count / 2 ^ 64) (first ∙ ap (λ (l : List ℕ). number (take 8 l)) same) in
    let least : c.min.result ≤ c.before-2.result = (let m = c.min.ensures in grind (arith, nat_tests)) in
    let up : c.min.result ≤ c.before-high.result = (let m = c.min.ensures in grind (arith, nat_tests)) in
    are_bounds blocks c.args.key.now c.args.count c.bucket_of-bucket.result c.min.result c.before-high.result order many bucket
    c.bucket_of-bucket.ensures.below up c.before-high.ensures.within
    (λ lt. omega (arith, least, c.before-2.ensures.value blocks is many lt))
    (λ lt. c.before-high.ensures.value blocks is many lt)
    (λ le. c.before-high.ensures.last (omega (arith, ap length is, length-buckets blocks, many, le)))
