-- What parts together say of a certificate that was seen at some times.
use Rattle.std.specs.Prelude.{◌≡◌, ℕ, ◌≤◌, ◌+◌, ◌*◌, ◌^◌, List, [], ◌∷◌, length, Bool, if◌then◌else◌, filter, filter_map, Result, Ok, Err}
use Rattle.std.specs.Borrow.{Bor}
use Rattle.std.specs.List.{list_any}
use Rattle.ident_core.specs.declared.identity.Identity.{Identity}
use Rattle.ident_core.specs.declared.range.Sighting.{Sighting}
use Rattle.equation_core.specs.Rows.{sha256_row}
use Rattle.card_core.specs.declared.block.Body.{Body}
use Rattle.card_core.specs.Filter.{is_positive}
use Rattle.card_core.specs.PartFields.{PartFields}
use Rattle.card_core.specs.Consulting.{consulted, covers_some}
use Rattle.card_core.specs.declared.verdict.Verdict.{Verdict}
use Rattle.card_core.specs.declared.verdict.Verdict.TheVariants.{NotCovered, NotEnrolled, Good, Revoked}

-- the parts that cover one of the sightings
abbrev pub covering : List Sighting → List PartFields → List PartFields
covering sightings parts = filter (covers_some sightings) parts

-- what the blocks of the certificate's issuer in these parts say, by rows of SHA-256
abbrev pub answers : Identity → List PartFields → List Bool
answers x parts = filter_map (λ part. consulted sha256_row x part.blocks) parts

abbrev pub by_answers : List Bool → Verdict
by_answers [] = NotEnrolled
by_answers (a ∷ others) = if list_any (λ b. b) (a ∷ others) then Revoked else Good

abbrev pub by_covering : Identity → List PartFields → Verdict
by_covering x [] = NotCovered
by_covering x (part ∷ parts) = by_answers (answers x (part ∷ parts))

-- No part covers a sighting: not covered. Else no covering part has a block of the issuer: not enrolled.
-- Else one of those blocks tests positive: revoked. Else good.
abbrev pub verdict : List PartFields → Identity → List Sighting → Verdict
verdict parts x sightings = by_covering x (covering sightings parts)

-- what is said of a certificate by the body of its issuer's block, or without one
abbrev pub said_by : Identity → Result (Bor Body) Verdict → Verdict
said_by x (Ok body) = by_answers (is_positive sha256_row x body.now ∷ [])
said_by x (Err said) = said

-- What two lists of parts say together: Revoked goes before Good, Good before NotEnrolled, and NotEnrolled before
-- NotCovered.
abbrev pub said_by_both : Verdict → Verdict → Verdict
said_by_both Revoked other = Revoked
said_by_both one Revoked = Revoked
said_by_both Good other = Good
said_by_both one Good = Good
said_by_both NotEnrolled other = NotEnrolled
said_by_both one NotEnrolled = NotEnrolled
said_by_both NotCovered NotCovered = NotCovered

-- So many probes, the sum of those of each part: p of a part with n blocks, where 2 ^ p is at most 2 n + 1.
abbrev pub AreProbes : List PartFields → ℕ → Type 0
AreProbes [] taken = taken ≡ 0
AreProbes (part ∷ parts) taken = (p : ℕ) × (rest : ℕ) × (taken ≡ p + rest) × (2 ^ p ≤ 2 * length part.blocks + 1) × AreProbes parts rest
