use Rattle.std.proofs.Common.{◌≡◌, ℕ, ◌+◌, ◌<◌, length, get_or, replicate, ap, ◌∙◌, arith, bit_and}
use Rattle.std.specs.Simd.Lanes.{chunk}
use Rattle.std.proofs.lemmas.Simd.{length-chunk, get_or-chunk, length-zip2, get_or-zip2}
use Rattle.std.proofs.lemmas.List.{get_or-replicate}
use Rattle.ribbon_core.specs.PlaneWords.{place}
use Rattle.ribbon_core.proofs.reading.run_of.Goals as goal

pub returns-clause-lanes : goal.returns-clause-lanes
returns-clause-lanes g c =
    let long = length-chunk c.place-from.result 16 c.args.words.now (omega (arith, c.place-from.ensures, c.requires.room)) in
    length-zip2 _ (chunk c.place-from.result 16 c.args.words.now) _ long ∙ long

pub returns-clause-each : goal.returns-clause-each
returns-clause-each g c plane lt =
    let run = chunk c.place-from.result 16 c.args.words.now in
    let long : length run ≡ 16 = length-chunk c.place-from.result 16 c.args.words.now (omega (arith, c.place-from.ensures, c.requires.room)) in
    let n : plane < length run = omega (arith, long, lt) in
    let e : c.place-from.result + plane ≡ place c.args.planes plane c.args.i = omega (arith, c.place-from.ensures) in
    let at : get_or run plane 0 ≡ get_or c.args.words.now (place c.args.planes plane c.args.i) 0
    = get_or-chunk c.place-from.result 16 c.args.words.now plane 0 lt ∙ ap (λ (k : ℕ). get_or c.args.words.now k 0) e in
    get_or-zip2 bit_and run (replicate 16 c.args.mask) plane 0 0 0 n lt
    ∙ ap (λ (x : ℕ). bit_and (get_or run plane 0) x) (get_or-replicate 16 plane c.args.mask 0 lt)
    ∙ ap (λ (x : ℕ). bit_and x c.args.mask) at
