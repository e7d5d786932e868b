use Rattle.std.proofs.Common.{true, ◌≡◌, ℕ, ◌+◌, ◌-◌, List, ◌++◌, take, drop, Err, refl, sym, ap, subst, ◌∙◌, arith, rules}
use Rattle.std.proofs.lemmas.Result.{err_from_is_err_and}
use Rattle.octets_core.specs.declared.fault.LayoutFault.{LayoutFault}
use Rattle.part_text.specs.PartLayout.{sealed}
use Rattle.part_codec.specs.Remaining.{Seen}
use Rattle.part_codec.specs.Stepping.{seen_after}
use Rattle.part_codec.specs.Scanning.{Stands, Moved}
use Rattle.part_codec.proofs.MachineStands.{piece-fails, pieces-join, settled-same, moved-from}
use Rattle.part_codec.proofs.machine.Machine.plane.Goals as goal

joins : (b piece : List ℕ) (n w k : ℕ) → n + w ≡ k → (b ++ take n piece) ++ take w (drop n piece) ≡ b ++ take k piece
joins b piece n w k is = pieces-join b piece n w (drop n piece) refl ∙ ap (λ (q : ℕ). b ++ take q piece) is

joined-fails : (b piece x : List ℕ) (n w k : ℕ) (e : LayoutFault) → n + w ≡ k → sealed (((b ++ take n piece) ++ take w (drop n piece)) ++ (drop k piece ++ x)) 0 ≡ Err e
    → sealed (b ++ piece ++ x) 0 ≡ Err e
joined-fails b piece x n w k e is h = piece-fails b piece x k e (ap (λ (l : List ℕ). sealed (l ++ (drop k piece ++ x)) 0) (sym (joins b piece n w k is)) ∙ h)

pub returns-in_err-complete_with-clause-err : goal.returns-in_err-complete_with-clause-err
returns-in_err-complete_with-clause-err c =
    let p = err_from_is_err_and c.from_residual.result c.from_residual.ensures.1 in
    let piece = c.args.piece.now in
    let n = c.skip-n.result in
    let k : ℕ = n + (c.tail.result - c.skip-n.new.self.filled) in
    rw (p.1, p.2) (λ s b x st.
    joined-fails b piece x n (k - n) k _ (omega arith) (c.in_err-complete_with.ensures.err s (b ++ take n piece) (drop k piece ++ x) (c.skip-n.ensures.stands s b st)))

pub returns-clause-ok : goal.returns-clause-ok
returns-clause-ok c =
    let m = c.args.self.now in
    let l = c.skip-n.new.self in
    let q = c.complete_with.new.self in
    let piece = c.args.piece.now in
    let h = c.skip-n.ensures in
    let e = c.in_ok-complete_with.ensures in
    let n = c.skip-n.result in
    let k : ℕ = n + (c.tail.result - l.filled) in
    let whole : n + (k - n) ≡ k = omega arith in
    record {
      stands = λ s b st.
          subst (λ (t : List ℕ). Stands q (seen_after m.field m.kept s (drop m.at t)) t) (joins b piece n (k - n) k whole)
          (subst (λ (t : Seen). Stands q t ((b ++ take n piece) ++ take (k - n) (drop n piece)))
          (settled-same true m l s ((b ++ take n piece) ++ take (k - n) (drop n piece)) h.stays.field h.stays.kept h.stays.at) (e.ok s (b ++ take n piece) (h.stands s b st)));
      moved = λ s b st.
          subst (λ (t : List ℕ). Moved true m q t) (joins b piece n (k - n) k whole)
          (moved-from true m l q ((b ++ take n piece) ++ take (k - n) (drop n piece)) h.stays.field h.stays.kept h.stays.at (e.moved s (b ++ take n piece) (h.stands s b st)));
      partial = e.partial;
      count = search rules;
      progress = search rules;
    }
