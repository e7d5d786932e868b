use Rattle.std.proofs.Common.{◌≡◌, ◌∙◌, length, ap, sym, arith}
use Rattle.store_core.proofs.Growing.{refusal-is}
use Rattle.store_core.proofs.store.Store.refusal.Goals as goal

pub returns : goal.returns
returns c =
    let size : c.len.result ≡ length c.args.self.now = omega (arith, ap length c.self.view_is) in
    c.or.ensures
    ∙ rw (c.broken_by.ensures, c.then_some-full.ensures, size) (sym (refusal-is c.args.self.now c.newest.result.now c.args.part.now c.newest.ensures))
