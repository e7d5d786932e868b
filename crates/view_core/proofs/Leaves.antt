-- Stages and leaves that stand in bytes.
use Rattle.std.proofs.Common.{◌≡◌, ℕ, ◌+◌, ◌*◌, ◌/◌, ◌^◌, ◌<◌, ◌≤◌, List, ◌++◌, length, get_or, bit_and, Option, Some, None, refl, ap, ◌∙◌, arith}
use Rattle.std.specs.Prelude.{flat_map}
use Rattle.std.specs.Int.{w8, w32, to_be_bytes, from_be_bytes}
use Rattle.octets_core.proofs.Texts.{wide32}
use Rattle.equation_core.specs.Sizes.{words_for}
use Rattle.equation_core.specs.declared.hash.Row.{Row}
use Rattle.equation_core.specs.declared.hash.TheConstants.{MAX_PLANES}
use Rattle.ribbon_core.specs.Equations.{parity, sum_of}
use Rattle.ribbon_core.specs.Rows.{equation_of}
use Rattle.card_core.specs.declared.stage.Stage.{Stage}
use Rattle.card_core.specs.declared.leaf.Leaf.{Leaf}
use Rattle.card_core.specs.declared.leaf.Leaf.TheVariants as leaves
use Rattle.card_core.specs.MixedFields.{MixedFields}
use Rattle.part_text.specs.PlaneBytes.{bytes_of_columns}
use Rattle.part_text.specs.PartText.{planes_text, stage_text, approx_text, mixed_text, leaf_mode, width_of}
use Rattle.part_text.specs.Fitting.{StageFits, FirstFits}
use Rattle.part_text.proofs.PlaneBytes.{length-bytes}
use Rattle.view_core.specs.Texts.{Stands}
use Rattle.view_core.specs.Stages.{head_of}
use Rattle.view_core.specs.declared.leaf.StageHead.{StageHead}
use Rattle.view_core.proofs.Texts.{stands_first, stands_then, stands_even}

-- the seed and the starts
abbrev pub front : Stage → List ℕ
front s = to_be_bytes w8 s.seed ++ to_be_bytes w32 s.planes.starts

pub stands_front : (bytes : List ℕ) (at : ℕ) (s : Stage) → Stands bytes at (stage_text s) → Stands bytes at (front s)
unfolding stage_text planes_text
stands_front bytes at s h = stands_first bytes at (front s) (flat_map (bytes_of_columns (words_for s.planes.starts)) s.planes.columns) h

-- and plane after plane
pub stands_planes : (bytes : List ℕ) (at : ℕ) (s : Stage) → Stands bytes at (stage_text s) → Stands bytes (at + 5) (flat_map (bytes_of_columns (words_for s.planes.starts)) s.planes.columns)
unfolding stage_text planes_text
stands_planes bytes at s h = stands_then bytes at (front s) (flat_map (bytes_of_columns (words_for s.planes.starts)) s.planes.columns) (at + 5) refl h

pub stands_plane : (bytes : List ℕ) (at : ℕ) (s : Stage) (p : ℕ) → p < length s.planes.columns → Stands bytes at (stage_text s)
    → Stands bytes (at + 5 + 8 * words_for s.planes.starts * p) (bytes_of_columns (words_for s.planes.starts) (get_or s.planes.columns p 0))
stands_plane bytes at s p lt h =
    stands_even (bytes_of_columns (words_for s.planes.starts)) (8 * words_for s.planes.starts) (length-bytes (words_for s.planes.starts)) bytes (at + 5) s.planes.columns p 0 lt
    (stands_planes bytes at s h)

-- numbers that fit are read again
pub seed_again : (s : Stage) → StageFits s → get_or (front s) 0 0 ≡ s.seed
seed_again s fits = omega (arith, fits.seed)

pub starts_again : (s : Stage) → StageFits s → from_be_bytes w32 (to_be_bytes w32 s.planes.starts) ≡ s.planes.starts
starts_again s fits = wide32.again s.planes.starts (omega (arith, fits.planes.few_starts))

-- what is summed where a plane of the stage stands is the plane's sum
pub row_sum : (bytes : List ℕ) (at : ℕ) (s : Stage) (head : StageHead) (place p sum : ℕ) (row : Row) → head ≡ head_of s at → place ≡ head.planes + 8 * words_for head.starts * p
    → row.start < head.starts → p < length s.planes.columns → Stands bytes at (stage_text s)
    → ((width Z : ℕ) → row.start + 127 < 64 * width → Stands bytes place (bytes_of_columns width Z) → sum ≡ parity (bit_and row.coeff (Z / 2 ^ row.start)))
    → sum ≡ sum_of (equation_of row) (get_or s.planes.columns p 0)
row_sum bytes at s head place p sum row is there before few h summed =
    let planes = ap (λ (x : StageHead). x.planes) is in
    let starts = ap (λ (x : StageHead). x.starts) is in
    let e : place ≡ at + 5 + 8 * words_for s.planes.starts * p
    = there ∙ ap (λ (n : ℕ). n + 8 * words_for head.starts * p) planes ∙ ap (λ (n : ℕ). at + 5 + 8 * words_for n * p) starts in
    summed (words_for s.planes.starts) (get_or s.planes.columns p 0) (omega (arith, starts, before)) (rw e (stands_plane bytes at s p few h))

-- ---- a mixed body: how many planes, the approximate stage and the exact one

pub few_planes : (first : Option Stage) → FirstFits first → width_of first ≤ MAX_PLANES
few_planes None fits = omega arith
few_planes (Some s) fits = fits.few

pub stands_width : (bytes : List ℕ) (at : ℕ) (m : MixedFields) → Stands bytes at (mixed_text m) → Stands bytes at (to_be_bytes w8 (width_of m.approx))
unfolding mixed_text
stands_width bytes at m h = stands_first bytes at (to_be_bytes w8 (width_of m.approx)) (approx_text m.approx ++ stage_text m.exact) h

stands_stages : (bytes : List ℕ) (at : ℕ) (m : MixedFields) → Stands bytes at (mixed_text m) → Stands bytes (at + 1) (approx_text m.approx ++ stage_text m.exact)
unfolding mixed_text
stands_stages bytes at m h = stands_then bytes at (to_be_bytes w8 (width_of m.approx)) (approx_text m.approx ++ stage_text m.exact) (at + 1) refl h

pub stands_approx : (bytes : List ℕ) (at : ℕ) (m : MixedFields) → Stands bytes at (mixed_text m) → Stands bytes (at + 1) (approx_text m.approx)
stands_approx bytes at m h = stands_first bytes (at + 1) (approx_text m.approx) (stage_text m.exact) (stands_stages bytes at m h)

pub stands_exact : (bytes : List ℕ) (at : ℕ) (m : MixedFields) (n : ℕ) → n ≡ at + 1 + length (approx_text m.approx) → Stands bytes at (mixed_text m) → Stands bytes n (stage_text m.exact)
stands_exact bytes at m n is h = stands_then bytes (at + 1) (approx_text m.approx) (stage_text m.exact) n is (stands_stages bytes at m h)

pub mode_fits : (l : Leaf) → leaf_mode l < 2 ^ 8
mode_fits leaves.Clean = omega arith
mode_fits leaves.Every = omega arith
mode_fits (leaves.Mixed m) = omega arith
