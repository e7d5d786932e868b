use Rattle.std.proofs.Common.{ℕ, ◌*◌, ◌/◌, ◌≤◌, ◌<◌, sym, subst, length, arith}
use Rattle.std.specs.List.{Contains}
use Rattle.std.proofs.lemmas.List.Elements.{All-contains_itself, All-replicate, All-set}
use Rattle.std.proofs.lemmas.List.Sorted.{All-permutation}
use Rattle.std.proofs.lemmas.Nat.{mul-le}
use Rattle.universe_core.proofs.halving.middle.Goals as goal

sampled_within : (i n : ℕ) → i < 256 → 256 ≤ n → i * (n / 256) < n
sampled_within i n lt le = omega (arith, mul-le i (n / 256) 255 (n / 256) (omega arith) (omega arith))

pub loop-i-init : goal.loop-i-init
loop-i-init c =
    let among = Contains c.args.entries.now in
    All-replicate among 256 c.index-entries-0.result
    (subst among (sym c.index-entries-0.is) (All-contains_itself c.args.entries.now 0 c.index-entries-0.result (omega (arith, c.requires))))

pub loop-i-preserved : goal.loop-i-preserved
loop-i-preserved c =
    let among = Contains c.args.entries.now in
    All-set among c.loop-i.sample c.loop-i.i c.index-entries-i.result
    (subst among (sym c.index-entries-i.is)
    (All-contains_itself c.args.entries.now _ c.index-entries-i.result (sampled_within c.loop-i.i (length c.args.entries.now) c.loop-i-test.true c.requires)))
    c.loop-i.invariant

pub returns : goal.returns
returns c =
    All-permutation (Contains c.args.entries.now) c.loop-i.sample c.sort_entries.new.entries c.sort_entries.ensures.same c.loop-i.invariant
    128 c.index-sample.result (omega (arith, c.sort_entries.auto.entries))
