use Rattle.std.proofs.Common.{◌≡◌, ℕ, List, length, take, drop, ap, ◌∙◌, arith, refl}
use Rattle.std.specs.Int.{from_be_bytes, w16, w64, w128}
use Rattle.equation_core.proofs.Elements.{elements-are}
use Rattle.equation_core.proofs.sha256_rows.RowBits.of_digest.Goals as goal

pub returns : goal.returns
returns c =
    let d : List ℕ = c.args.d.now in
    let long : length d ≡ 32 = omega arith in
    let coeff : c.from_be_bytes-coeff.result ≡ from_be_bytes w128 (take 16 d) = c.from_be_bytes-coeff.ensures ∙ ap (from_be_bytes w128) (elements-are d 0 16 (omega (arith, long))) in
    let start : c.from_be_bytes.result ≡ from_be_bytes w64 (take 8 (drop 16 d)) = c.from_be_bytes.ensures ∙ ap (from_be_bytes w64) (elements-are d 16 8 (omega (arith, long))) in
    let tag : c.from_be_bytes-2.result ≡ from_be_bytes w16 (take 2 (drop 24 d)) = c.from_be_bytes-2.ensures ∙ ap (from_be_bytes w16) (elements-are d 24 2 (omega (arith, long))) in
    rw (coeff, start, tag) refl
