use Rattle.std.proofs.Common.{◌+◌, ◌++◌, arith, length-append}
use Rattle.std.specs.Int.{w64, to_be_bytes}
use Rattle.view_core.proofs.Texts.{stands_first, stands_then}
use Rattle.view_core.proofs.ranges.range_at.Goals as goal

pub returns : goal.returns
returns c = λ r fits s.
    let bytes = c.args.bytes.now in
    let from = to_be_bytes w64 r.from in
    let to = to_be_bytes w64 r.to in
    let front = stands_first bytes c.args.at (r.log ++ from) to s in
    let log_is = c.key_at.ensures r.log fits.0 (stands_first bytes c.args.at r.log from front) in
    let from_is = c.number64_at.ensures r.from fits.1 (stands_then bytes c.args.at r.log from (c.args.at + 32) (omega (arith, fits.0)) front) in
    let to_is = c.number64_at-2.ensures r.to fits.2
    (stands_then bytes c.args.at (r.log ++ from) to (c.args.at + 40) (omega (arith, fits.0, length-append r.log from)) s) in
    λ i. record { log = log_is i; from = from_is i; to = to_is i }
