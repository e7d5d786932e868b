-- A job has one part at most, and one thing comes of it behind a ledger.
use Rattle.std.proofs.Common.{◌≡◌, ℕ, List, [], ◌∷◌, ◌++◌, map, Option, Some, None, Result, Ok, Err, refl, sym, ap, ◌∙◌, subst}
use Rattle.sha2.specs.Sha256.{sha256}
use Rattle.ident_core.specs.HeadFields.{HeadFields}
use Rattle.equation_core.specs.Rows.{sha256_row}
use Rattle.card_core.specs.PartFields.{PartFields}
use Rattle.part_text.specs.SealedFields.{SealedFields}
use Rattle.part_text.specs.PartText.{unsealed_text}
use Rattle.job_core.specs.declared.bounds.TheConstants.Limits.{PUBLISHED}
use Rattle.job_core.specs.JobFields.{JobFields}
use Rattle.ledger_core.specs.LedgerFields.{LedgerFields}
use Rattle.place_core.specs.Cuts.{Cut}
use Rattle.universe_core.specs.declared.fault.AdmitFault.{AdmitFault}
use Rattle.universe_core.specs.Jobs.{facts_of}
use Rattle.universe_core.specs.Formats.{JobFormat, JobIn, dated, facts_in}
use Rattle.universe_core.specs.History.{Release}
use Rattle.universe_core.specs.Groups.{GroupFields}
use Rattle.universe_core.specs.Ledgers.{next_ledger}
use Rattle.universe_core.specs.Step.{refusal, groups_after}
use Rattle.history_core.specs.Bases.{releases_cut, base_at, base_head}
use Rattle.builder_core.proofs.GroupBlocks.{blocks_unique}
use Rattle.builder_core.proofs.FirstRefused.{refused_no_blocks, first_refused_once}
use Rattle.publication_core.specs.declared.fault.PublishFault.{PublishFault}
use Rattle.publication_core.specs.declared.fault.PublishFault.TheVariants.{Admission, SeedsExhausted, NoMemory}
use Rattle.publication_core.specs.Formats.{current, blocks_in}
use Rattle.publication_core.specs.Histories.{Published, groups_of, IsPartOf, release_of, AreAdmissible, base_groups, IsBasePart, History, of_jobs, rebased, Course, from_jobs, from_base, course_of, IsHistory, releases_of}
use Rattle.publication_core.specs.Building.{IsSealedPart}
use Rattle.publication_core.specs.Publishing.{PublicationFields, Publishes}

-- a part is the only one of its head and groups
pub sealed_same : (format : JobFormat) (head : HeadFields) (gs : List GroupFields) (a b : SealedFields) → IsSealedPart format head gs a → IsSealedPart format head gs b → a ≡ b
sealed_same format head gs a b x y =
    let blocks : a.part.blocks ≡ b.part.blocks = blocks_unique (blocks_in format) sha256_row gs a.part.blocks b.part.blocks x.blocks y.blocks in
    let part : a.part ≡ b.part = λ i. record { head = (x.head_is ∙ sym y.head_is) i; blocks = blocks i } in
    λ i. record { part = part i; trailer = (x.trailer ∙ ap (λ (p : PartFields). sha256 (unsealed_text p)) part ∙ sym y.trailer) i }

pub part_unique : (rs : List Release) (j : JobIn) (a b : SealedFields) → IsPartOf rs j a → IsPartOf rs j b → a ≡ b
part_unique rs j a b x y = sealed_same j.format _ (groups_of rs (facts_in j)) a b x y

base_unique : (moment : ℕ) (rs : List Release) (a b : SealedFields) → IsBasePart moment rs a → IsBasePart moment rs b → a ≡ b
base_unique moment rs a b x y = sealed_same dated (base_head rs) (base_groups moment rs) a b x y

jobs_unique : (rs : List Release) (ps qs : List Published) → AreAdmissible rs ps → AreAdmissible rs qs → map (λ p. p.job) ps ≡ map (λ p. p.job) qs → ps ≡ qs
jobs_unique rs [] [] x y e = refl
jobs_unique rs [] (q ∷ qs) x y e = absurd cc
jobs_unique rs (p ∷ ps) [] x y e = absurd cc
jobs_unique rs (p ∷ ps) (q ∷ qs) x y e =
    let heads : p.job ≡ q.job = cc in
    let tails : map (λ p. p.job) ps ≡ map (λ p. p.job) qs = cc in
    let sealed : p.sealed ≡ q.sealed = part_unique rs q.job p.sealed q.sealed (subst (λ (j : JobIn). IsPartOf rs j p.sealed) heads x.1) y.1 in
    let same : p ≡ q = λ i. record { job = heads i; sealed = sealed i } in
    let rest : ps ≡ qs = jobs_unique (rs ++ release_of rs p ∷ []) ps qs x.2 (subst (λ z. AreAdmissible (rs ++ release_of rs z ∷ []) qs) (sym same) y.2) tails in
    λ i. same i ∷ rest i

pub same_jobs : (a b : List JobIn) → from_jobs a ≡ from_jobs b → a ≡ b
same_jobs a b e = cc

-- the same base, and behind it the same jobs
pub same_bases : (c d : Course) (m n : ℕ) (v w : Cut) (a b : List JobIn) → from_base c m v a ≡ from_base d n w b → (c ≡ d) × (m ≡ n) × (v ≡ w) × (a ≡ b)
same_bases c d m n v w a b e = (cc, cc, cc, cc)

-- a base has one part, and the jobs behind it have theirs
behind_unique : (h : History) (m : ℕ) (v : Cut) (s t : SealedFields) (ps qs : List Published) → IsHistory (rebased h m v s ps) → IsHistory (rebased h m v t qs)
    → map (λ p. p.job) ps ≡ map (λ p. p.job) qs → rebased h m v s ps ≡ rebased h m v t qs
behind_unique h m v s t ps qs x y e =
    let rs : List Release = releases_cut v (releases_of h) in
    let same : s ≡ t = base_unique m rs s t x.2 y.2 in
    let rest : ps ≡ qs = jobs_unique (base_at m rs s.trailer ∷ []) ps qs x.3 (subst (λ z. AreAdmissible (base_at m rs z.trailer ∷ []) qs) (sym same) y.3) e in
    λ i. rebased h m v (same i) (rest i)

pub history_unique : (g h : History) → IsHistory g → IsHistory h → course_of g ≡ course_of h → g ≡ h
history_unique (of_jobs ps) (of_jobs qs) x y e = ap of_jobs (jobs_unique [] ps qs x y (same_jobs (map (λ p. p.job) ps) (map (λ p. p.job) qs) e))
history_unique (of_jobs ps) (rebased h m v s qs) x y e = absurd cc
history_unique (rebased g m v s ps) (of_jobs qs) x y e = absurd cc
history_unique (rebased g m v s ps) (rebased h n w t qs) x y e =
    let same = same_bases (course_of g) (course_of h) m n v w (map (λ p. p.job) ps) (map (λ p. p.job) qs) e in
    let before : rebased g m v s ps ≡ rebased h n w s ps = λ i. rebased (history_unique g h x.0 y.0 same.0 i) (same.1 i) (same.2 i) s ps in
    before ∙ behind_unique h n w s t ps qs (subst IsHistory before x) y same.3

-- ---- what comes of a job behind a ledger

publication_unique : (ledger : LedgerFields) (job : JobFields) (p q : PublicationFields) → Publishes ledger job (Ok p) → Publishes ledger job (Ok q) → p ≡ q
publication_unique ledger job p q x y =
    let sealed : p.sealed ≡ q.sealed = sealed_same current _ (groups_after ledger (facts_of job)) p.sealed q.sealed x.1 y.1 in
    λ i. record {
      place = (x.2 ∙ sym y.2) i;
      sealed = sealed i;
      ledger = (x.3 ∙ ap (λ (s : SealedFields). next_ledger ledger (facts_of job) s.trailer) sealed ∙ sym y.3) i;
      counts = (x.4 ∙ sym y.4) i;
    }

some_same : (a b : AdmitFault) → ◌≡◌ {A = Option AdmitFault} (Some a) (Some b) → a ≡ b
some_same a b h = cc

not_both : {A : Type 0} (o : Option AdmitFault) (fault : AdmitFault) → o ≡ None → o ≡ Some fault → A
not_both o fault none some = absurd (let h : ◌≡◌ {A = Option AdmitFault} None (Some fault) = sym none ∙ some in cc)

pub outcome_unique : (ledger : LedgerFields) (job : JobFields) (a b : Result PublicationFields PublishFault) → Publishes ledger job a → Publishes ledger job b → a ≡ b
outcome_unique ledger job (Ok p) (Ok q) x y = ap (λ (r : PublicationFields). Ok r) (publication_unique ledger job p q x y)
outcome_unique ledger job (Ok p) (Err (Admission fault)) x y = not_both (refusal PUBLISHED ledger job) fault x.0 y
outcome_unique ledger job (Ok p) (Err (SeedsExhausted issuer stage)) x y =
    absurd (refused_no_blocks (blocks_in current) sha256_row (groups_after ledger (facts_of job)) issuer stage p.sealed.part.blocks y.1 x.1.blocks)
outcome_unique ledger job (Ok p) (Err NoMemory) x y = absurd y
outcome_unique ledger job (Err NoMemory) b x y = absurd x
outcome_unique ledger job (Err (Admission fault)) (Ok q) x y = not_both (refusal PUBLISHED ledger job) fault y.0 x
outcome_unique ledger job (Err (Admission fault)) (Err (Admission other)) x y = ap (λ (f : AdmitFault). Err (Admission f)) (some_same fault other (sym x ∙ y))
outcome_unique ledger job (Err (Admission fault)) (Err (SeedsExhausted issuer stage)) x y = not_both (refusal PUBLISHED ledger job) fault y.0 x
outcome_unique ledger job (Err (Admission fault)) (Err NoMemory) x y = absurd y
outcome_unique ledger job (Err (SeedsExhausted issuer stage)) (Ok q) x y =
    absurd (refused_no_blocks (blocks_in current) sha256_row (groups_after ledger (facts_of job)) issuer stage q.sealed.part.blocks x.1 y.1.blocks)
outcome_unique ledger job (Err (SeedsExhausted issuer stage)) (Err (Admission fault)) x y = not_both (refusal PUBLISHED ledger job) fault x.0 y
outcome_unique ledger job (Err (SeedsExhausted issuer stage)) (Err (SeedsExhausted other at)) x y =
    let same = first_refused_once (blocks_in current) sha256_row (groups_after ledger (facts_of job)) issuer other stage at x.1 y.1 in
    λ i. Err (SeedsExhausted (same.0 i) (same.1 i))
outcome_unique ledger job (Err (SeedsExhausted issuer stage)) (Err NoMemory) x y = absurd y
