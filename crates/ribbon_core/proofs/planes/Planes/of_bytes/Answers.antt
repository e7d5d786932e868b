use Rattle.std.proofs.Common.{◌≡◌, ℕ, ◌+◌, ◌*◌, ◌/◌, ◌^◌, ◌<◌, List, length, ap, sym, subst, arith, ◌∙◌}
use Rattle.std.specs.Prelude.{map, IfOk}
use Rattle.std.specs.Int.{w64, from_be_bytes}
use Rattle.std.specs.Simd.{first_chunks}
use Rattle.ribbon_core.specs.PlaneWords.{columns_of, plane_of_words, words_spelled}
use Rattle.equation_core.specs.Sizes.{words_for}
use Rattle.ribbon_core.proofs.planes.Planes.of_bytes.Goals as goal

-- the chunks of the bytes spell their words
chunks-spelled : (n : ℕ) (bytes : List ℕ) (text : List (List ℕ)) → length bytes ≡ 8 * n → text ≡ first_chunks 8 (length bytes / 8) bytes
    → map (from_be_bytes w64) text ≡ words_spelled n bytes
chunks-spelled n bytes text room is =
    let count : length bytes / 8 ≡ n = omega (arith, room) in
    ap (map (from_be_bytes w64)) is ∙ ap (λ (k : ℕ). words_spelled k bytes) count

pub spelled-requires : goal.spelled-requires
spelled-requires c =
    let n = c.args.planes * words_for c.args.starts in
    let words = chunks-spelled n c.args.bytes.now c.as_chunks.result.0.now c.requires.room c.as_chunks.ensures.front in
    record {
      some_starts = c.requires.some_starts;
      few_starts = c.requires.few_starts;
      some_planes = c.requires.some_planes;
      few_planes = c.requires.few_planes;
      room = omega (arith, c.as_chunks.ensures.front_len, c.requires.room);
      padding = λ plane lt. subst (λ (ws : List ℕ). plane_of_words ws (words_for c.args.starts) plane < 2 ^ (c.args.starts + 127)) (sym words) (c.requires.padding plane lt);
    }

pub returns : goal.returns
returns c =
    let n = c.args.planes * words_for c.args.starts in
    let words = chunks-spelled n c.args.bytes.now c.as_chunks.result.0.now c.requires.room c.as_chunks.ensures.front in
    let Is : List ℕ → Type 0 = λ ws. IfOk c.spelled.result (λ p. p ≡ record { starts = c.args.starts; columns = columns_of c.args.starts c.args.planes ws }) in
    subst Is words c.spelled.ensures
