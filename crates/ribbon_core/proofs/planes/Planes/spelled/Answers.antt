use Rattle.std.proofs.Common.{List, ℕ, length, ap, ◌∙◌}
use Rattle.std.proofs.lemmas.List.{length-replicate}
use Rattle.ribbon_core.specs.PlaneWords.{PlaneColumns}
use Rattle.ribbon_core.proofs.Adding.{written_back}
use Rattle.ribbon_core.proofs.Solved.{placed_columns, placed_planes}
use Rattle.ribbon_core.proofs.planes.Planes.spelled.Goals as goal

pub from_kept-requires : goal.from_kept-requires
from_kept-requires g c =
    let n = c.place_planes.auto.words ∙ ap length c.deref_mut.ensures.value in
    let e = written_back c.in_ok-placed.placed.len c.place_planes.new.words c.in_ok-placed.placed.items n c.in_ok-placed.placed.ok.0 in
    let made = ap length (c.in_ok-placed.ensures.items_if_clones_equal (λ y h. h)) ∙ length-replicate c.kept_length.result 0 ∙ c.kept_length.ensures in
    let same = rw c.words_for.ensures at c.place_planes.ensures in
    rw (c.in_ok-kept.ensures.ok, e) (placed_planes c.args.starts c.args.planes _ c.place_planes.new.words same c.requires.some_starts c.requires.few_starts
    c.requires.some_planes c.requires.few_planes (n ∙ made) c.requires.padding)

pub returns : goal.returns
returns g c =
    let n = c.place_planes.auto.words ∙ ap length c.deref_mut.ensures.value in
    let e = written_back c.in_ok-placed.placed.len c.place_planes.new.words c.in_ok-placed.placed.items n c.in_ok-placed.placed.ok.0 in
    let same = rw c.words_for.ensures at c.place_planes.ensures in
    let make : List ℕ → PlaneColumns = λ columns. record { starts = c.args.starts; columns = columns } in
    rw (c.from_kept.ensures, c.in_ok-kept.ensures.ok, e) (ap make (placed_columns c.args.starts c.args.planes _ c.place_planes.new.words same))
