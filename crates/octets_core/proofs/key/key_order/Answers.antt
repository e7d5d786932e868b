use Rattle.std.specs.Ordering.{nat_cmp, ordering_then}
use Rattle.std.specs.Cmp.Lexicographic.{slice_cmp}
use Rattle.std.proofs.Common.{◌≡◌, ◌∙◌, ℕ, List, length, take, sym, ap}
use Rattle.octets_core.specs.Numbers.{number}
use Rattle.octets_core.proofs.Heads.{AreOctets, first_cmp, first_decides}
use Rattle.octets_core.proofs.key.key_order.Goals as goal

decided : (us vs : List ℕ) (a b : ℕ) → length us ≡ length vs → AreOctets us → AreOctets vs → a ≡ number (take 8 us) → b ≡ number (take 8 vs) → (a ≡ b → ⊥) → nat_cmp a b ≡ slice_cmp nat_cmp us vs
decided us vs a b l x y p q h =
    first_decides a b (slice_cmp nat_cmp us vs) h (first_cmp us vs l x y ∙ (λ i. ordering_then (nat_cmp (sym p i) (sym q i)) (slice_cmp nat_cmp us vs)))

pub returns-then-first-other : goal.returns-then-first-other
returns-then-first-other c =
    let x = c.bytes.ensures.value in
    let y = c.bytes-2.ensures.value in
    c.cmp.ensures
    ∙ decided c.bytes.result.now c.bytes-2.result.now c.first_eight-first.result c.first_eight-other.result
    (ap length x ∙ c.bytes.ensures.len ∙ sym c.bytes-2.ensures.len ∙ sym (ap length y)) c.first_eight-first.ensures.octets c.first_eight-other.ensures.octets
    c.first_eight-first.ensures.value c.first_eight-other.ensures.value c.if-first-other.true
    ∙ (λ i. slice_cmp nat_cmp (x i) (y i))
