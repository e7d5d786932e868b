use Rattle.std.proofs.Common.{◌<◌, length, arith}
use Rattle.equation_core.specs.Sizes.{words_for}
use Rattle.ribbon_core.proofs.PlacesApart.{place_inside}
use Rattle.ribbon_core.proofs.Solved.{length-kept, columns-at}
use Rattle.ribbon_core.proofs.planes.Planes.word.Goals as goal

pub word_of-requires : goal.word_of-requires
word_of-requires g c =
    let n = length-kept c.self.inside.kept.value.starts c.self.inside.kept.value.planes c.self.inside.kept.value.words.items in
    let h : c.args.plane < length c.args.self.now.columns = c.requires.plane in
    let h' = rw (← c.self.view_is, n) at h in
    let w : c.args.i < words_for c.args.self.now.starts = c.requires.word in
    let w' = rw (← c.self.view_is) at w in
    let inside = place_inside c.self.inside.kept.value.planes (words_for c.self.inside.kept.value.starts) c.args.plane c.args.i h' w' in
    let r = c.self.invariant.room in
    rw (c.deref-3.ensures, c.deref-2.ensures.value, c.deref.ensures) (record { inside = omega (arith, inside, r) })

pub returns-clause-value : goal.returns-clause-value
returns-clause-value g c =
    let n = length-kept c.self.inside.kept.value.starts c.self.inside.kept.value.planes c.self.inside.kept.value.words.items in
    let h : c.args.plane < length c.args.self.now.columns = c.requires.plane in
    let h' = rw (← c.self.view_is, n) at h in
    let w : c.args.i < words_for c.args.self.now.starts = c.requires.word in
    let w' = rw (← c.self.view_is) at w in
    let v = rw (c.deref-2.ensures.value, c.deref.ensures, c.deref-3.ensures) at c.word_of.ensures.value in
    rw (← c.self.view_is, columns-at c.self.inside.kept.value.starts c.self.inside.kept.value.planes c.args.plane c.self.inside.kept.value.words.items h')
    (v (words_for c.self.inside.kept.value.starts) w')
