-- A wider coverage covers what the other does.
use Rattle.std.specs.List.{list_any}
use Rattle.std.specs.Str.{bytes_eq}
use Rattle.std.proofs.Common.{◌≡◌, ◌≤◌, inl, inr, List, [], ◌∷◌, true, ◌&&◌, leb, refl, ap, ◌∙◌, arith}
use Rattle.std.proofs.lemmas.Bool.{and_parts, and_from, leb-true, le-leb}
use Rattle.ident_core.specs.declared.range.Range.{Range}
use Rattle.ident_core.specs.declared.range.Sighting.{Sighting}
use Rattle.ident_core.specs.Coverage.{covers, is_within, lies_in}
use Rattle.ident_core.specs.Among.{Among}
use Rattle.ident_core.proofs.Elements.{found, any_at, all_at}
use Rattle.ident_core.proofs.Sets.{bytes_same, bytes_refl}
use Rattle.universe_core.specs.Jobs.{JobFacts}
use Rattle.universe_core.specs.History.{lie_within, Release}
use Rattle.history_core.specs.Facts.{Widens, KeepsCoverage}

is_within_wider : (s : Sighting) (a b : Range) → is_within s a ≡ true → lies_in a b ≡ true → is_within s b ≡ true
is_within_wider s a b h l =
    let h1 = and_parts (bytes_eq a.log s.log && leb a.from s.time) (leb s.time a.to) h in
    let h2 = and_parts (bytes_eq a.log s.log) (leb a.from s.time) h1.0 in
    let l1 = and_parts (bytes_eq b.log a.log && leb b.from a.from) (leb a.to b.to) l in
    let l2 = and_parts (bytes_eq b.log a.log) (leb b.from a.from) l1.0 in
    let log : b.log ≡ s.log = bytes_same b.log a.log l2.0 ∙ bytes_same a.log s.log h2.0 in
    let from : b.from ≤ s.time = omega (arith, leb-true b.from a.from l2.1, leb-true a.from s.time h2.1) in
    let to : s.time ≤ b.to = omega (arith, leb-true a.to b.to l1.1, leb-true s.time a.to h1.1) in
    and_from (bytes_eq b.log s.log && leb b.from s.time) (leb s.time b.to)
    (and_from (bytes_eq b.log s.log) (leb b.from s.time) (rw log (bytes_refl s.log)) (le-leb b.from s.time from))
    (le-leb s.time b.to to)

pub covers_wider : (C D : List Range) (s : Sighting) → lie_within C D ≡ true → covers C s ≡ true → covers D s ≡ true
covers_wider C D s w h =
    let a = found (is_within s) C h in
    let b = found (lies_in a.0) D (all_at (λ r. list_any (lies_in r) D) C a.0 w a.1) in
    any_at (is_within s) D b.0 b.1 (is_within_wider s a.0 b.0 a.2 b.2)

-- what a release covers the next job covers
pub covers_next : (rs : List Release) (job : JobFacts) (r : Release) (s : Sighting) → KeepsCoverage rs job → Widens rs → Among rs r → covers r.ranges s ≡ true → covers job.ranges s ≡ true
covers_next [] job r s f w a h = absurd a
covers_next (q ∷ []) job r s f w (inl e) h = covers_wider q.ranges job.ranges s f (ap (λ (z : Release). covers z.ranges s) e ∙ h)
covers_next (q ∷ []) job r s f w (inr a) h = absurd a
covers_next (q ∷ p ∷ rs) job r s f w (inl e) h =
    covers_next (p ∷ rs) job p s f w.1 (inl refl) ((w.0 p (inl refl)).covered s (ap (λ (z : Release). covers z.ranges s) e ∙ h))
covers_next (q ∷ p ∷ rs) job r s f w (inr a) h = covers_next (p ∷ rs) job r s f w.1 a h
