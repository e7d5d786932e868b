use Rattle.std.proofs.Common.{◌≡◌, ◌∙◌, ℕ, List, take, drop, slice_index, ap, arith, refl}
use Rattle.sha2.specs.Sha256.{schedule, sha256}
use Rattle.lane_core.specs.Lanes.{lane}
use Rattle.lane_core.proofs.Blocks.{digest-is}
use Rattle.lane_core.proofs.Schedules.{compressed}
use Rattle.lane_core.proofs.Vectors.{lane_word}
use Rattle.lane_core.proofs.states.two_digests.Goals as goal

pub returns : goal.returns
returns c =
    let words = c.words_of.result in
    let first : lane 0 c.schedules-w.result ≡ schedule (take 64 (drop 0 c.padded-p.result)) 48 = c.schedules-w.ensures 0 (omega arith) _ (λ k below. lane_word 0 words k ∙ ap (λ (v : List ℕ). slice_index v 0) (c.words_of.ensures k below)) in
    let second : lane 1 c.schedules-w.result ≡ schedule (take 64 (drop 64 c.padded-p.result)) 48 = c.schedules-w.ensures 1 (omega arith) _ (λ k below. lane_word 1 words k ∙ ap (λ (v : List ℕ). slice_index v 1) (c.words_of.ensures k below)) in
    let third : lane 2 c.schedules-w.result ≡ schedule (take 64 (drop 0 c.padded-q.result)) 48 = c.schedules-w.ensures 2 (omega arith) _ (λ k below. lane_word 2 words k ∙ ap (λ (v : List ℕ). slice_index v 2) (c.words_of.ensures k below)) in
    let fourth : lane 3 c.schedules-w.result ≡ schedule (take 64 (drop 64 c.padded-q.result)) 48 = c.schedules-w.ensures 3 (omega arith) _ (λ k below. lane_word 3 words k ∙ ap (λ (v : List ℕ). slice_index v 3) (c.words_of.ensures k below)) in
    let a_is : c.digest_alone.result ≡ sha256 c.args.a.now =
    digest-is c.args.a.now c.padded-p.result _ _ _ c.requires.a (omega (arith, c.padded-p.type_inv)) c.padded-p.ensures
    (compressed _ _ _ _ refl first) (λ long. compressed _ _ _ _ refl second)
    c.digest_alone.ensures.short c.digest_alone.ensures.long in
    let b_is : c.digest_alone-2.result ≡ sha256 c.args.b.now =
    digest-is c.args.b.now c.padded-q.result _ _ _ c.requires.b (omega (arith, c.padded-q.type_inv)) c.padded-q.ensures
    (compressed _ _ _ _ refl third) (λ long. compressed _ _ _ _ refl fourth)
    c.digest_alone-2.ensures.short c.digest_alone-2.ensures.long in
    rw (a_is, b_is) refl
