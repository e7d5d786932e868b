-- Outcomes that stand at the places of their leaves.
use Rattle.std.proofs.Common.{◌≡◌, ◌≢◌, ◌<◌, ℕ, suc, List, [], ◌∷◌, length, map, get_or, Some, Result, Ok, Err, IfOk, refl, sym, ap, ◌∙◌, subst, arith}
use Rattle.std.specs.List.{slice_get}
use Rattle.std.specs.declared.alloc.Global.{Global}
use Rattle.std.specs.declared.vec.Vec.{Vec}
use Rattle.std.proofs.lemmas.List.{length-map}
use Rattle.octets_core.specs.declared.memory.NoMemory.{NoMemory}
use Rattle.std.specs.Option.{option_map}
use Rattle.std.proofs.lemmas.Option.{slice_get-map, slice_get-get_or}
use Rattle.equation_core.specs.Rows.{Rows}
use Rattle.claim_core.specs.Work.{IsInPlace}
use Rattle.builder_core.specs.declared.fault.BuildFault.{BuildFault}
use Rattle.builder_core.specs.declared.fault.BuildFault.TheVariants as fault
use Rattle.builder_core.specs.declared.built.Built.{Built}
use Rattle.builder_core.specs.declared.task.Task.{Task}
use Rattle.builder_core.specs.Tasks.{TaskFields, task_fields}
use Rattle.builder_core.specs.Outcomes.{IsOutcome, IsSettled, IsOutcomeAt, AreOutcomes}

-- once want of memory is apart, what holds of each other outcome holds of what is left
pub settled_as : (P : Result Built BuildFault → Type 0) (o : Result Built BuildFault) (r : Result (Result Built BuildFault) NoMemory) → IsSettled o r → (o ≢ Err fault.NoMemory → P o) → IfOk r P
settled_as P (Ok built) r s p = subst (λ (x : Result (Result Built BuildFault) NoMemory). IfOk x P) (sym s) (p (λ e. cc))
settled_as P (Err (fault.SeedsExhausted issuer stage)) r s p = subst (λ (x : Result (Result Built BuildFault) NoMemory). IfOk x P) (sym s) (p (λ e. cc))
settled_as P (Err fault.NoMemory) (Ok o) s p = absurd s
settled_as P (Err fault.NoMemory) (Err want) s p = tt

module _ (rows : Rows) where
  -- what comes of the leaf that was read at a place
  pub outcome_at : (tasks : List Task) (i : ℕ) (d : Task) (o : Result Built BuildFault) → i < length tasks → IsOutcome rows (task_fields (get_or tasks i d)) o
      → o ≢ Err fault.NoMemory → IsOutcomeAt rows (map task_fields tasks) i o
  outcome_at tasks i d o lt h there = (
    there,
    λ f at.
        let here : slice_get (map task_fields tasks) i ≡ Some (task_fields (get_or tasks i d)) =
        slice_get-map task_fields tasks i ∙ ap (option_map task_fields) (slice_get-get_or tasks i d lt) in
        let same : task_fields (get_or tasks i d) ≡ f = cc in
        subst (λ (x : TaskFields). IsOutcome rows x o) same h,
  )

  -- outcomes at their places are outcomes in order
  pub in_order : (ts : List TaskFields) (os : List (Result Built BuildFault)) → length os ≡ length ts → IsInPlace (IsOutcomeAt rows ts) os → AreOutcomes rows ts os
  in_order [] [] n h = tt
  in_order [] (o ∷ os) n h = absurd (omega arith)
  in_order (t ∷ ts) [] n h = absurd (omega arith)
  in_order (t ∷ ts) (o ∷ os) n h = ((h 0 o refl).1 t refl, in_order ts os (omega arith) (λ k. h (suc k)))

  -- that of all leaves, or want of memory
  pub all_in_order : (tasks : List Task) (r : Result (Vec (Result Built BuildFault) Global) NoMemory) → IfOk r (λ v. length v.items ≡ length tasks)
      → IfOk r (λ v. IsInPlace (IsOutcomeAt rows (map task_fields tasks)) v.items) → IfOk r (λ v. AreOutcomes rows (map task_fields tasks) v.items)
  all_in_order tasks (Ok v) n h = in_order (map task_fields tasks) v.items (n ∙ sym (length-map tasks task_fields)) h
  all_in_order tasks (Err e) n h = tt
