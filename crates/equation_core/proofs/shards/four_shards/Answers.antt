use Rattle.std.proofs.Common.{◌≡◌, ◌+◌, ◌-◌, ◌/◌, ◌^◌, ℕ, List, [], length, take, slice_index, slice_index_or, ap, ◌∙◌, refl}
use Rattle.sha2.specs.Sha256.{sha256}
use Rattle.equation_core.specs.Shards.{shard}
use Rattle.equation_core.proofs.shards.four_shards.Goals as goal

pub returns : goal.returns
returns c =
    let first = λ (l : List ℕ). slice_index l 0 / 2 ^ (8 - c.args.shift) in
    let a_is : c.first_bits.result ≡ shard c.args.a.now c.args.shift =
    c.first_bits.ensures ∙ ap first (ap (λ (l : List (List ℕ)). slice_index_or l 0 []) c.digests.ensures
    ∙ ap sha256 (ap (λ (l : List ℕ). take (40 + length l) c.message_of.result) c.bytes.ensures.value ∙ c.message_of.ensures)) in
    let b_is : c.first_bits-2.result ≡ shard c.args.b.now c.args.shift =
    c.first_bits-2.ensures ∙ ap first (ap (λ (l : List (List ℕ)). slice_index_or l 1 []) c.digests.ensures
    ∙ ap sha256 (ap (λ (l : List ℕ). take (40 + length l) c.message_of-2.result) c.bytes-2.ensures.value ∙ c.message_of-2.ensures)) in
    let c_is : c.first_bits-3.result ≡ shard c.args.c.now c.args.shift =
    c.first_bits-3.ensures ∙ ap first (ap (λ (l : List (List ℕ)). slice_index_or l 2 []) c.digests.ensures
    ∙ ap sha256 (ap (λ (l : List ℕ). take (40 + length l) c.message_of-3.result) c.bytes-3.ensures.value ∙ c.message_of-3.ensures)) in
    let d_is : c.first_bits-4.result ≡ shard c.args.d.now c.args.shift =
    c.first_bits-4.ensures ∙ ap first (ap (λ (l : List (List ℕ)). slice_index_or l 3 []) c.digests.ensures
    ∙ ap sha256 (ap (λ (l : List ℕ). take (40 + length l) c.message_of-4.result) c.bytes-4.ensures.value ∙ c.message_of-4.ensures)) in
    rw (a_is, b_is, c_is, d_is) refl
