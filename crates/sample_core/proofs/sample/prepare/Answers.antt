use Rattle.std.proofs.Common.{List, ℕ, ◌-◌, ◌%◌, take, drop, length, ap, ◌∙◌, arith}
use Rattle.sample_core.proofs.Texts.{cut-in-two, sample-length}
use Rattle.sample_core.proofs.sample.prepare.Goals as goal

pub returns : goal.returns
returns c = record {
  head =
      cut-in-two (c.len-2.result - c.len-3.result % 4096) c.in_ok-front.front.items c.truncate.new.self.items c.in_ok-buffer.buffer c.truncate.ensures.items
      (c.in_ok-buffer.ensures ∙ ap (λ (l : List ℕ). take (length l - (c.len-2.result - c.len-3.result % 4096)) (drop (c.len-2.result - c.len-3.result % 4096) l)) c.deref.ensures.value)
      ∙ c.in_ok-front.ensures;
  bytes = omega (arith, sample-length c.args.keys.now c.args.count, ap length c.in_ok-front.ensures, ap length c.deref.ensures.value, c.deref.ensures.len, c.len.ensures);
}
