-- What an output has of one text after the other, and what a loop has written once it has written one item more.
use Rattle.std.proofs.Common.{◌≡◌, ℕ, ◌+◌, ◌<◌, List, ◌++◌, length, take, get_or, sym, subst, append_assoc}
use Rattle.std.specs.Prelude.{flat_map}
use Rattle.octets_core.proofs.Loops.{flat_map-more}
use Rattle.part_text.specs.Output.{Wrote}

pub wrote-then : {O : Type 0} (given : O → List ℕ → Type 0) (a b c : O) (t u : List ℕ) → Wrote given a b t → Wrote given b c u → Wrote given a c (t ++ u)
wrote-then given a b c t u one two = λ m h. subst (given c) (append_assoc m t u) (two (m ++ t) (one m h))

pub wrote-more : {X : Type 0} {O : Type 0} (given : O → List ℕ → Type 0) (text : X → List ℕ) (xs : List X) (i : ℕ) (x : X) (a b c : O) → i < length xs → x ≡ get_or xs i x
    → Wrote given a b (flat_map text (take i xs)) → Wrote given b c (text x) → Wrote given a c (flat_map text (take (i + 1) xs))
wrote-more given text xs i x a b c lt is so_far one =
    subst (λ (t : List ℕ). Wrote given a c t) (sym (flat_map-more text xs i x lt is)) (wrote-then given a b c (flat_map text (take i xs)) (text x) so_far one)

pub wrote-seven : {O : Type 0} (given : O → List ℕ → Type 0) (s0 s1 s2 s3 s4 s5 s6 s7 : O) (a b c d e f g : List ℕ)
    → Wrote given s0 s1 a → Wrote given s1 s2 b → Wrote given s2 s3 c → Wrote given s3 s4 d → Wrote given s4 s5 e → Wrote given s5 s6 f → Wrote given s6 s7 g
    → Wrote given s0 s7 (a ++ b ++ c ++ d ++ e ++ f ++ g)
wrote-seven given s0 s1 s2 s3 s4 s5 s6 s7 a b c d e f g h1 h2 h3 h4 h5 h6 h7 =
    wrote-then given s0 s6 s7 (a ++ b ++ c ++ d ++ e ++ f) g
    (wrote-then given s0 s5 s6 (a ++ b ++ c ++ d ++ e) f
    (wrote-then given s0 s4 s5 (a ++ b ++ c ++ d) e
    (wrote-then given s0 s3 s4 (a ++ b ++ c) d
    (wrote-then given s0 s2 s3 (a ++ b) c
    (wrote-then given s0 s1 s2 a b h1 h2) h3) h4) h5) h6) h7
