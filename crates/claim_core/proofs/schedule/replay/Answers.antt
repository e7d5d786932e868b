use Rattle.std.proofs.Common.{◌≡◌, ◌++◌, ◌+◌, ◌<◌, ◌≤◌, ◌∷◌, [], List, ℕ, length, map, drop, get_or, append_assoc, sym, ap, ◌∙◌, subst, arith}
use Rattle.std.proofs.lemmas.List.{append-nil, drop_all}
use Rattle.claim_core.specs.declared.schedule.Draw.{Draw}
use Rattle.claim_core.specs.Schedule.{draws, draws_from, IsEachOnceBelow}
use Rattle.claim_core.proofs.Scheduled.{draws_next, workers_are, each_once}
use Rattle.claim_core.proofs.schedule.replay.Goals as goal

-- one draw more
more : (taken : List Draw) (t i : ℕ) (schedule : List ℕ) → i < length schedule → taken ++ draws_from t (drop i schedule) ≡ draws schedule
    → (taken ++ record { worker = get_or schedule i 0; number = t } ∷ []) ++ draws_from (t + 1) (drop (i + 1) schedule) ≡ draws schedule
more taken t i schedule within so_far = append_assoc taken _ _ ∙ ap (λ l. taken ++ l) (sym (draws_next t i schedule within)) ∙ so_far

-- all draws
done : (taken : List Draw) (t i : ℕ) (schedule : List ℕ) → length schedule ≤ i → taken ++ draws_from t (drop i schedule) ≡ draws schedule → taken ≡ draws schedule
done taken t i schedule past so_far = sym (append-nil taken) ∙ ap (λ l. taken ++ draws_from t l) (sym (drop_all i schedule past)) ∙ so_far

pub loop-worker-preserved : goal.loop-worker-preserved
loop-worker-preserved c =
    let so_far = c.loop-worker.invariant.drawn in
    let next = more c.loop-worker.taken.items c.loop-worker.number c.loop-worker.worker-index c.args.schedule.now (omega arith) so_far in
    record { counted = omega arith; drawn = rw c.in_ok-push.ensures.items next }

pub returns-clause-draws : goal.returns-clause-draws
returns-clause-draws c = done _ _ _ _ (omega arith) c.loop-worker.invariant.drawn

pub returns-clause-workers : goal.returns-clause-workers
returns-clause-workers c = ap (map (λ (d : Draw). d.worker)) (done _ _ _ _ (omega arith) c.loop-worker.invariant.drawn) ∙ workers_are 0 _

pub returns-clause-each_once : goal.returns-clause-each_once
returns-clause-each_once c =
    subst (λ (l : List Draw). IsEachOnceBelow (length c.args.schedule.now) (map (λ d. d.number) l)) (sym (done _ _ _ _ (omega arith) c.loop-worker.invariant.drawn)) (each_once c.args.schedule.now)
