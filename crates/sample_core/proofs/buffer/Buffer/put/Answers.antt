use Rattle.std.proofs.Common.{List, ℕ, ◌-◌, ◌++◌, take, ap, ◌∙◌}
use Rattle.sample_core.proofs.Moving.{Torn-full, on-err}
use Rattle.sample_core.proofs.buffer.Buffer.put.Goals as goal

pub returns-clause-err : goal.returns-clause-err
returns-clause-err g c =
    on-err c.append_all-written.result _ _
    (Torn-full (g.D.Depot.files c.args.depot.now) (g.D.Depot.files c.append_all-written.new.depot) c.args.name.now c.args.self.now c.args.bytes.now c.as_slice.result.now
    (65536 - c.len-room.result)
    (c.as_slice.ensures.value ∙ c.put_within-2.ensures.items ∙ ap (λ (l : List ℕ). l ++ take (65536 - c.len-room.result) c.args.bytes.now) c.self.view_is))
    c.append_all-written.ensures.err
