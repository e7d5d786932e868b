use Rattle.std.proofs.Common.{◌∙◌, refl, List, ap, map, subst}
use Rattle.std.specs.List.{flat_map}
use Rattle.std.proofs.lemmas.Result.{err_from_is_err_and}
use Rattle.universe_core.specs.Groups.{group_fields}
use Rattle.builder_core.specs.Tasks.{TaskFields, task_fields, tasks_of_cut}
use Rattle.builder_core.specs.Outcomes.{AreOutcomes}
use Rattle.builder_core.proofs.Faults.{groups_ready}
use Rattle.builder_core.proofs.GroupBlocks.{part_ready}
use Rattle.builder_core.proofs.TaskLists.{tasks_fit}
use Rattle.builder_core.proofs.building.build.Goals as goal

pub cuts_of-requires-clause-ready : goal.cuts_of-requires-clause-ready
cuts_of-requires-clause-ready g c κs within = groups_ready c.args.groups.now c.requires.facts c.requires.identities

pub outcomes_of-requires-clause-few : goal.outcomes_of-requires-clause-few
outcomes_of-requires-clause-few g c κs within =
    let tasks = ap (map task_fields) c.deref-2.ensures.value ∙ c.in_ok-tasks.ensures in
    let all = ap (flat_map tasks_of_cut) c.deref.ensures.value ∙ c.in_ok-cuts.ensures in
    tasks_fit c.args.format c.args.groups.now c.deref-2.result.now _ tasks all c.requires.few

pub new-requires : goal.new-requires
new-requires g c =
    let rows = g.H.EquationHash.row_of c.args.hash.now in
    let all = ap (map task_fields) c.deref-2.ensures.value ∙ c.in_ok-tasks.ensures ∙ ap (flat_map tasks_of_cut) c.deref.ensures.value ∙ c.in_ok-cuts.ensures in
    part_ready c.args.format rows _ c.args.groups.now c.in_ok-blocks.blocks.items
    (c.in_ok-blocks.ensures c.args.format rows (map group_fields c.args.groups.now)
    (subst (λ (ts : List TaskFields). AreOutcomes rows ts c.in_ok-outcomes.outcomes.items) all c.in_ok-outcomes.ensures)) c.requires.few c.requires.ascending

pub returns-in_err-blocks : goal.returns-in_err-blocks
returns-in_err-blocks g c =
    let q = err_from_is_err_and c.from_residual-in_err-blocks.result c.from_residual-in_err-blocks.ensures.1 in
    let all = ap (map task_fields) c.deref-2.ensures.value ∙ c.in_ok-tasks.ensures ∙ ap (flat_map tasks_of_cut) c.deref.ensures.value ∙ c.in_ok-cuts.ensures in
    rw (q.1, q.2) (c.in_err-blocks.ensures c.args.format (g.H.EquationHash.row_of c.args.hash.now) (map group_fields c.args.groups.now)
    (subst (λ (ts : List TaskFields). AreOutcomes (g.H.EquationHash.row_of c.args.hash.now) ts c.in_ok-outcomes.outcomes.items) all c.in_ok-outcomes.ensures))

pub returns : goal.returns
returns g c =
    let rows = g.H.EquationHash.row_of c.args.hash.now in
    let all = ap (map task_fields) c.deref-2.ensures.value ∙ c.in_ok-tasks.ensures ∙ ap (flat_map tasks_of_cut) c.deref.ensures.value ∙ c.in_ok-cuts.ensures in
    rw c.new.ensures (
      refl,
      c.in_ok-blocks.ensures c.args.format rows (map group_fields c.args.groups.now)
          (subst (λ (ts : List TaskFields). AreOutcomes rows ts c.in_ok-outcomes.outcomes.items) all c.in_ok-outcomes.ensures),
    )
