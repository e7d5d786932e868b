use Rattle.std.proofs.Common.{refl, sym, ◌∙◌}
use Rattle.outside_core.proofs.feed.Feed.fill.Goals as goal

pub returns : goal.returns
returns g c = (
  (
    refl,
    λ feed. tt,
    record {
      same_reference = c.in_ok-refill.ensures.same_reference;
      name = c.in_ok-refill.ensures.name;
      at = c.in_ok-refill.ensures.at;
      in_order = c.in_ok-refill.ensures.in_order;
      window = sym c.buffered.ensures.value;
      err = tt;
      kept = λ some. (c.in_ok-refill.ensures.kept some).2;
      cause = tt;
      unblamed = c.in_ok-refill.ensures.unblamed;
      only_reads = c.in_ok-refill.ensures.only_reads;
    },
  ),
  record {
    ok = λ before. rw c.buffered.ensures.value (c.in_ok-refill.ensures.ok before);
    kept = λ some. (refl, c.buffered.ensures.value ∙ (c.in_ok-refill.ensures.kept some).1);
    bound = c.buffered.ensures.bound;
    after_borrow = tt;
  },
)
