use Rattle.std.proofs.Common.{◌≡◌, arith, refl}
use Rattle.sha2.specs.Sha256.{sha256}
use Rattle.lane_core.proofs.Blocks.{digest-is}
use Rattle.lane_core.proofs.states.digests.Goals as goal

pub returns : goal.returns
returns c =
    let a_is : c.digest_of.result ≡ sha256 c.args.a.now =
    digest-is c.args.a.now c.padded.result _ _ _ c.requires.a (omega (arith, c.padded.type_inv)) c.padded.ensures
    (c.first_states-first.ensures 0 (omega arith))
    (λ long. c.last_states-last.ensures (omega (arith, c.max.ensures, c.max-2.ensures, c.max-longest.ensures)) 0 (omega arith))
    c.digest_of.ensures.short c.digest_of.ensures.long in
    let b_is : c.digest_of-2.result ≡ sha256 c.args.b.now =
    digest-is c.args.b.now c.padded-2.result _ _ _ c.requires.b (omega (arith, c.padded-2.type_inv)) c.padded-2.ensures
    (c.first_states-first.ensures 1 (omega arith))
    (λ long. c.last_states-last.ensures (omega (arith, c.max.ensures, c.max-2.ensures, c.max-longest.ensures)) 1 (omega arith))
    c.digest_of-2.ensures.short c.digest_of-2.ensures.long in
    let c_is : c.digest_of-3.result ≡ sha256 c.args.c.now =
    digest-is c.args.c.now c.padded-3.result _ _ _ c.requires.c (omega (arith, c.padded-3.type_inv)) c.padded-3.ensures
    (c.first_states-first.ensures 2 (omega arith))
    (λ long. c.last_states-last.ensures (omega (arith, c.max.ensures, c.max-2.ensures, c.max-longest.ensures)) 2 (omega arith))
    c.digest_of-3.ensures.short c.digest_of-3.ensures.long in
    let d_is : c.digest_of-4.result ≡ sha256 c.args.d.now =
    digest-is c.args.d.now c.padded-4.result _ _ _ c.requires.d (omega (arith, c.padded-4.type_inv)) c.padded-4.ensures
    (c.first_states-first.ensures 3 (omega arith))
    (λ long. c.last_states-last.ensures (omega (arith, c.max.ensures, c.max-2.ensures, c.max-longest.ensures)) 3 (omega arith))
    c.digest_of-4.ensures.short c.digest_of-4.ensures.long in
    rw (a_is, b_is, c_is, d_is) refl
