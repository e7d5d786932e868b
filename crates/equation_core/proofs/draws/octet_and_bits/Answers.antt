use Rattle.std.proofs.Common.{◌+◌, ◌-◌, ◌/◌, ◌^◌, ℕ, List, [], length, take, slice_index, slice_index_or, ap, ◌∙◌}
use Rattle.sha2.specs.Sha256.{sha256}
use Rattle.equation_core.specs.Rows.{bits_of_digest}
use Rattle.equation_core.proofs.draws.octet_and_bits.Goals as goal

pub returns-clause-octet : goal.returns-clause-octet
returns-clause-octet c =
    let first = λ (l : List ℕ). slice_index l 0 / 2 ^ (8 - 8) in
    c.first_bits.ensures ∙ ap first (ap (λ (l : List (List ℕ)). slice_index_or l 0 []) c.two_digests.ensures
    ∙ ap sha256 (ap (λ (l : List ℕ). take (40 + length l) c.message_of.result) c.bytes-len.ensures.value ∙ c.message_of.ensures))

pub returns-clause-bits : goal.returns-clause-bits
returns-clause-bits c =
    c.of_digest.ensures ∙ ap bits_of_digest (ap (λ (l : List (List ℕ)). slice_index_or l 1 []) c.two_digests.ensures
    ∙ ap sha256 (ap (λ (l : List ℕ). take (41 + length l) c.message_of-2.result) c.bytes-len.ensures.value ∙ c.message_of-2.ensures))
