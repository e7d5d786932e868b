use Rattle.std.proofs.Common.{◌≡◌, ℕ, ◌+◌, List, length, take, ap, ◌∙◌}
use Rattle.sha2.specs.Sha256.{sha256}
use Rattle.equation_core.specs.Rows.{row_text, bits_of_digest}
use Rattle.equation_core.proofs.sha256_rows.RowBits.drawn.Goals as goal

pub returns : goal.returns
returns c =
    let is : c.digest.result ≡ sha256 (row_text c.args.stage c.args.seed c.args.id.now) =
    c.digest.ensures ∙ ap sha256 (ap (λ (l : List ℕ). take (41 + length l) c.message_of-message.result) c.bytes.ensures.value ∙ c.message_of-message.ensures) in
    c.of_digest.ensures ∙ ap bits_of_digest is
