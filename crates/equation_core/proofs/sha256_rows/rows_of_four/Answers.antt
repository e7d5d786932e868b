use Rattle.std.proofs.Common.{◌≡◌, ◌+◌, ℕ, List, [], length, take, slice_index_or, ap, ◌∙◌, refl}
use Rattle.sha2.specs.Sha256.{sha256}
use Rattle.equation_core.specs.Rows.{row_of_bits, row_of_digest, row_of_key}
use Rattle.equation_core.specs.declared.sha256_rows.RowBits.{RowBits}
use Rattle.equation_core.proofs.sha256_rows.rows_of_four.Goals as goal

pub returns : goal.returns
returns c =
    let a_is : c.row.result ≡ row_of_key c.args.a.now.key c.args.a.now.id.now =
    c.row.ensures ∙ ap (λ (bits : RowBits). row_of_bits bits c.args.a.now.key.starts) c.of_digest.ensures
    ∙ ap (λ (l : List ℕ). row_of_digest l c.args.a.now.key.starts) (ap (λ (l : List (List ℕ)). slice_index_or l 0 []) c.digests.ensures
    ∙ ap sha256 (ap (λ (l : List ℕ). take (41 + length l) c.message_of.result) c.bytes.ensures.value ∙ c.message_of.ensures)) in
    let b_is : c.row-2.result ≡ row_of_key c.args.b.now.key c.args.b.now.id.now =
    c.row-2.ensures ∙ ap (λ (bits : RowBits). row_of_bits bits c.args.b.now.key.starts) c.of_digest-2.ensures
    ∙ ap (λ (l : List ℕ). row_of_digest l c.args.b.now.key.starts) (ap (λ (l : List (List ℕ)). slice_index_or l 1 []) c.digests.ensures
    ∙ ap sha256 (ap (λ (l : List ℕ). take (41 + length l) c.message_of-2.result) c.bytes-2.ensures.value ∙ c.message_of-2.ensures)) in
    let c_is : c.row-3.result ≡ row_of_key c.args.c.now.key c.args.c.now.id.now =
    c.row-3.ensures ∙ ap (λ (bits : RowBits). row_of_bits bits c.args.c.now.key.starts) c.of_digest-3.ensures
    ∙ ap (λ (l : List ℕ). row_of_digest l c.args.c.now.key.starts) (ap (λ (l : List (List ℕ)). slice_index_or l 2 []) c.digests.ensures
    ∙ ap sha256 (ap (λ (l : List ℕ). take (41 + length l) c.message_of-3.result) c.bytes-3.ensures.value ∙ c.message_of-3.ensures)) in
    let d_is : c.row-4.result ≡ row_of_key c.args.d.now.key c.args.d.now.id.now =
    c.row-4.ensures ∙ ap (λ (bits : RowBits). row_of_bits bits c.args.d.now.key.starts) c.of_digest-4.ensures
    ∙ ap (λ (l : List ℕ). row_of_digest l c.args.d.now.key.starts) (ap (λ (l : List (List ℕ)). slice_index_or l 3 []) c.digests.ensures
    ∙ ap sha256 (ap (λ (l : List ℕ). take (41 + length l) c.message_of-4.result) c.bytes-4.ensures.value ∙ c.message_of-4.ensures)) in
    rw (a_is, b_is, c_is, d_is) refl
