use Rattle.std.proofs.Common.{arith}
use Rattle.outside_core.specs.Standing.{StandsIn}
use Rattle.outside_core.proofs.Feeding.{filled-stands, filled-ends}
use Rattle.outside_core.proofs.feed.Feed.refill.Goals as goal

pub returns-clause-stands : goal.returns-clause-stands
returns-clause-stands g c = λ file stands.
    let self = c.args.self.now in
    let both = filled-stands (g.D.Depot.files self.depot.now) _ self.name.now file self.at self.window c.fill_from.new.self c.fill_from.result
    c.fill_from.ensures.only_reads.same_files c.fill_from.ensures.fits c.fill_from.ensures.ok c.fill_from.ensures.err stands.told stands.window in
    record { told = both.0; window = both.1 }

pub returns-clause-ends : goal.returns-clause-ends
returns-clause-ends g c = filled-ends (g.D.Depot.files c.args.self.now.depot.now) c.args.self.now.name.now c.args.self.now.at c.args.self.now.window
    c.fill_from.new.self c.fill_from.result (StandsIn g.D.Depot c.args.self.now) (omega (arith, c.args.self.now.reach)) c.fill_from.ensures.ok
    (λ file stands. (stands.told, stands.window))
