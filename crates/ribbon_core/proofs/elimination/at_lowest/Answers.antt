use Rattle.std.proofs.Common.{◌≡◌, ◌≢◌, ◌-◌, ◌%◌, ◌^◌}
use Rattle.std.specs.Prelude.{bit_and}
use Rattle.std.proofs.lemmas.Nat.{and_mask}
use Rattle.ribbon_core.proofs.Reduction.{lowest_one, lowest_low}
use Rattle.ribbon_core.proofs.elimination.at_lowest.Goals as goal

pub returns-then-low-ne0-clause-zeros : goal.returns-then-low-ne0-clause-zeros
returns-then-low-ne0-clause-zeros c =
    let e : bit_and c.args.coeff (2 ^ 64 - 1) ≡ c.args.coeff % 2 ^ 64 = and_mask c.args.coeff 64 in
    let some : c.args.coeff % 2 ^ 64 ≢ 0 = rw e at c.if-low-ne0.true in
    rw e (lowest_low c.args.coeff some).0

pub returns-then-low-ne0-clause-odd : goal.returns-then-low-ne0-clause-odd
returns-then-low-ne0-clause-odd c =
    let e : bit_and c.args.coeff (2 ^ 64 - 1) ≡ c.args.coeff % 2 ^ 64 = and_mask c.args.coeff 64 in
    let some : c.args.coeff % 2 ^ 64 ≢ 0 = rw e at c.if-low-ne0.true in
    rw e (lowest_low c.args.coeff some).1

pub returns-clause-zeros : goal.returns-clause-zeros
returns-clause-zeros c = (lowest_one c.args.coeff c.requires c.ranges.coeff.fits).0

pub returns-clause-odd : goal.returns-clause-odd
returns-clause-odd c = (lowest_one c.args.coeff c.requires c.ranges.coeff.fits).1
