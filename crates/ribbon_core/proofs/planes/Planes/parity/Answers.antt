use Rattle.std.proofs.Common.{◌<◌, arith}
use Rattle.equation_core.specs.Sizes.{words_for}
use Rattle.ribbon_core.proofs.PlacesApart.{lanes_room}
use Rattle.ribbon_core.proofs.Solved.{length-kept, columns-at}
use Rattle.ribbon_core.proofs.planes.Planes.parity.Goals as goal

pub sums_of-requires-clause-room : goal.sums_of-requires-clause-room
sums_of-requires-clause-room g c =
    let s : c.args.row.now.start < c.args.self.now.starts = c.requires in
    let s' = rw (← c.self.view_is) at s in
    rw (c.deref-3.ensures, c.deref-2.ensures.value, c.deref.ensures)
    (lanes_room c.self.inside.kept.value.planes c.self.inside.kept.value.starts c.args.row.now.start _ c.self.invariant.few_planes s' c.self.invariant.room)

pub returns-clause-sums : goal.returns-clause-sums
returns-clause-sums g c =
    let n = length-kept c.self.inside.kept.value.starts c.self.inside.kept.value.planes c.self.inside.kept.value.words.items in
    let s : c.args.row.now.start < c.args.self.now.starts = c.requires in
    let s' = rw (← c.self.view_is) at s in
    let v = rw (c.deref-2.ensures.value, c.deref.ensures, c.deref-3.ensures) at c.sums_of.ensures.sums in
    rw (← c.self.view_is, n)
    (λ plane h. rw (columns-at c.self.inside.kept.value.starts c.self.inside.kept.value.planes plane c.self.inside.kept.value.words.items h)
    (v (words_for c.self.inside.kept.value.starts) plane (omega (arith, s')) h))

pub returns-clause-few_planes : goal.returns-clause-few_planes
returns-clause-few_planes g c =
    let n = length-kept c.self.inside.kept.value.starts c.self.inside.kept.value.planes c.self.inside.kept.value.words.items in
    rw (← c.self.view_is, n) (rw c.deref-3.ensures at c.sums_of.ensures.few_planes)

pub returns-clause-steps : goal.returns-clause-steps
returns-clause-steps g c =
    let n = length-kept c.self.inside.kept.value.starts c.self.inside.kept.value.planes c.self.inside.kept.value.words.items in
    rw (← c.self.view_is, n) (rw c.deref-3.ensures at c.sums_of.ensures.steps)
