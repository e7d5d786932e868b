use Rattle.std.proofs.Common.{◌-◌, ◌++◌, List, ℕ, length, take, drop, ap, sym, subst, ◌∙◌, arith, append_assoc, length-take, length-drop}
use Rattle.std.proofs.Math.Seq.{take-add}
use Rattle.std.proofs.lemmas.List.{take_rest}
use Rattle.store_core.specs.StoreLayout.{store_parts}
use Rattle.store_core.specs.StoreReading.{PartsRead}
use Rattle.store_core.proofs.StoreReads.{piece-parts}
use Rattle.store_core.proofs.reader.Parts.feed.Goals as goal

pub parts-preserved : goal.parts-preserved
parts-preserved c =
    let w = c.args.piece.now in
    let i = c.parts.taken in
    let n = c.in-Ok.n in
    let ok = rw (take_rest w i) at c.in-Ok.ensures.ok in
    record {
      within = omega (arith, c.in-Ok.ensures.count, c.parts.invariant.within, length-take (length w - i) (drop i w), length-drop i w);
      read = λ b r.
          subst (λ (l : List ℕ). PartsRead c.take.new.self l) (append_assoc b (take i w) (take n (drop i w)) ∙ ap (λ (l : List ℕ). b ++ l) (sym (take-add i n w)))
          (ok (b ++ take i w) (c.parts.invariant.read b r));
    }

pub returns-in-Err-clause-err : goal.returns-in-Err-clause-err
returns-in-Err-clause-err c = λ wants b x r.
    let w = c.args.piece.now in
    let i = c.parts.taken in
    let err = rw (take_rest w i) at c.in-Err.ensures.err in
    ap (λ (l : List ℕ). store_parts l 0) (sym (piece-parts b w x i) ∙ sym (append_assoc (b ++ take i w) (drop i w) x))
    ∙ err wants (b ++ take i w) x (c.parts.invariant.read b r)
