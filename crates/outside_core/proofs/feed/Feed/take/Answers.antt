use Rattle.outside_core.proofs.Feeding.{InOrder-drop, IsWindow-drop}
use Rattle.outside_core.proofs.feed.Feed.take.Goals as goal

pub returns-clause-in_order : goal.returns-clause-in_order
returns-clause-in_order g c = λ before.
    rw c.consume.ensures (InOrder-drop (g.D.Depot.files c.args.self.now.depot.now) c.args.self.now.name.now c.args.self.now.at c.args.self.now.window c.args.n c.requires before)

pub returns-clause-stands : goal.returns-clause-stands
returns-clause-stands g c = λ file stands. record {
  told = stands.told;
  window = rw c.consume.ensures (IsWindow-drop file c.args.self.now.at c.args.self.now.window c.args.n c.requires stands.window);
}
